-- The answer of a program's job as records, by the program's names.
use Rattle.std.specs.Prelude.{ℕ, ◌+◌, List, [], ◌++◌, length, codes, decimal, Option, Some, None}
use Rattle.std.specs.Prelude.{if◌then◌else◌, slice_index}
use Rattle.std.specs.List.{flat_map, range_with_len}
use Rattle.pram_step.specs.declared.answer.RunAnswer.{RunAnswer}
use Rattle.pram_step.specs.declared.answer.RunAnswer.TheVariants.{Final, Conflict, Unfinished}
use Rattle.pardo_program.specs.Program.{ProgramData, ArrayData}
use Rattle.pardo_job.specs.declared.ended.Lines.{Lines}
use Rattle.pardo_job.specs.Ends.{gone_in}
use Rattle.pardo_answers.specs.Named.{named_answer}

-- `,3`, and of a scalar no index
abbrev pub index_field : ArrayData → ℕ → List ℕ
index_field array index = if array.is_scalar then codes "," else codes "," ++ decimal index

-- `A,3,9`, and of a scalar `s,,9`
abbrev pub place_record : ArrayData → ℕ → ℕ → List ℕ
place_record array index value =
    array.name ++ index_field array index ++ codes "," ++ decimal value ++ codes "\n"

-- a record for each place of an array, by what the cells hold
abbrev pub array_records : (ℕ → ℕ) → ArrayData → List ℕ
array_records cells array = flat_map (λ k. place_record array k (cells (array.base + k)))
    (range_with_len 0 (length array.start))

-- `gone processor,7,9`: the processor and the line
abbrev pub gone_record : ℕ → Option ℕ → List ℕ
gone_record i None = []
gone_record i (Some line) =
    codes "gone processor," ++ decimal i ++ codes "," ++ decimal line ++ codes "\n"

-- the arrays, by what the cells hold, and the processors that are gone, by their lines
abbrev pub end_records : ProgramData → (ℕ → ℕ) → (ℕ → Option ℕ) → List ℕ
end_records program cells gone = codes "name,index,value\n"
    ++ flat_map (array_records cells) program.arrays
    ++ flat_map (λ i. gone_record i (gone i)) (range_with_len 0 program.procs)

-- the answer of a program whose job makes so many steps, its end as records
abbrev pub recorded_answer : ProgramData → ℕ → Lines → RunAnswer → List ℕ
recorded_answer program steps lines (Final cells) =
    end_records program (slice_index cells) (gone_in lines.gone.items)
recorded_answer program steps lines (Conflict fault) =
    named_answer program steps lines (Conflict fault)
recorded_answer program steps lines (Unfinished step) =
    named_answer program steps lines (Unfinished step)
