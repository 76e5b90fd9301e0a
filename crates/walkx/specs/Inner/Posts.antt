-- What comes next where a worker stands.
use Rattle.std.specs.Prelude.{ℕ}
use Rattle.pram_words.specs.Stamps.{stamped_word}
use Rattle.pram_words.specs.Words.{number_of}
use Rattle.pram_words.specs.declared.words.Word.TheVariants.{Asked}
use Rattle.walkx.specs.declared.operation.Op.{Op}
use Rattle.walkx.specs.declared.operation.Op.TheVariants.{Max}
use Rattle.walk_memory.specs.declared.memo.Memo.{Memo}
use Rattle.walkx.specs.Scripts.{Script}
use Rattle.walkx.specs.Walk.{Then, after_part, bounded_mark, jumps_first, marks_node}
use Rattle.walk_memory.specs.Inner.Posts.{PostData, step_of, processor_of}

-- the node is marked; what comes after a processor's task
abbrev pub then_marks : PostData → ℕ → Script Then
then_marks at mark = marks_node at.layout at.node mark at.phase

abbrev pub then_next : PostData → Memo → Script Then
then_next at memo = after_part at.layout at.node at.phase at.rank memo

-- in the wide form the node is marked, where nothing is left to do up to this phase
abbrev pub then_raises : PostData → ℕ → Script Then
then_raises at reach = jumps_first at.layout at.node at.phase reach
    (then_marks at (bounded_mark at.node at.phase reach))

-- part j of the processor's request is raised to this payload
abbrev pub part_raised : PostData → ℕ → ℕ → Op
part_raised at j payload =
    Max (number_of at.layout (Asked (processor_of at) j)) (stamped_word (step_of at) payload)
