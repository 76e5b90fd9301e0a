-- A run in which a body goes ahead: one worker on a board of two processors, each of which sets a
-- register and goes back, for three steps.
use Rattle.std.proofs.Common.{◌<◌, ◌^◌, List, [], ◌∷◌, refl, lit<, arith}
use Rattle.std.proofs.lemmas.List.Elements.{All-from_recursion}
use Rattle.pram_job.specs.Job.{JobData, IsInstr, IsJob, job_data}
use Rattle.pram_job.specs.declared.instr.Instr.TheVariants.{Set, Jmp}
use Rattle.pram_job.specs.declared.instr.Rule.TheVariants.{Common}
use Rattle.pram_machine.specs.Instructions.{decided}
use Rattle.pram_words.specs.Start.{start_words}
use Rattle.pram_words.specs.Tree.{digits_of, leaves_of, depth_of}
use Rattle.pram_words.specs.Ways.{first_leaf_in, turns_right_in, way_of}
use Rattle.pram_words.specs.Words.{number_of, length_of, word_at}
use Rattle.walk_memory.specs.Memory.{goes_on_alone}
use Rattle.walkx.specs.Passes.{own_task, wide_task_of, task_in}
use Rattle.walkx.specs.Walk.{begin_script, part_script, turn_script}
use Rattle.pram_world.specs.Laws.{SomeGoAhead}
use Rattle.pram_world.specs.Worlds.{Act, go, start}

abbrev two_loops : JobData
two_loops = job_data Common 1 2 3 (0 ∷ []) (Set 0 7 ∷ Jmp 0 ∷ [])

loops_lawful : IsJob two_loops
loops_lawful = record {
  cells = (omega arith, omega arith);
  procs = (omega arith, omega arith);
  steps = lit< tt;
  init_len = refl;
  init_fits = All-from_recursion (λ v. v < 2 ^ 32) (0 ∷ []) (lit< tt, tt);
  code_len = (omega arith, omega arith);
  code_fits = All-from_recursion (IsInstr 1 2) (Set 0 7 ∷ Jmp 0 ∷ [])
      ((lit< tt, lit< tt), (omega arith, tt));
}

-- it loads the root, word 0 and its leaf, and marks this
abbrev five_acts : List Act
five_acts = start 0 2 ∷ go 0 ∷ go 0 ∷ go 0 ∷ go 0 ∷ []

pub some_go_ahead : SomeGoAhead
unfolding decided start_words digits_of leaves_of depth_of first_leaf_in turns_right_in way_of
    number_of length_of word_at goes_on_alone own_task wide_task_of task_in begin_script part_script
    turn_script lib.Count.count_leading_zeros lib.Count.ones
some_go_ahead = (
  two_loops,
  five_acts,
  loops_lawful,
  (lit< tt, (tt, (tt, (tt, (tt, tt))))),
  record { body = 0; walking = _; walks = refl; step = lit< tt; marked = lit< tt },
)
