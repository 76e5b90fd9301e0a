use Rattle.std.proofs.Common.{◌≡◌, ◌≤◌, ◌+◌, ◌*◌, ℕ, suc, map}
use Rattle.std.specs.List.{range_with_len}
use Rattle.pram_machine.specs.Instructions.{request_in}
use Rattle.pram_step.specs.Runs.{state_after}
use Rattle.pram_words.specs.declared.words.Word.TheVariants.{Conflict}
use Rattle.lawful_walk.specs.Seen.{Heard}
use Rattle.pram_board.specs.Seats.{HasLoaded}
use Rattle.pram_board.proofs.board.Board.asked_fault.Given as goal

abbrev pub invariant-loop-processor : goal.invariant-loop-processor
invariant-loop-processor l = record {
  loads : HasLoaded (1 + 3 * l.processor) l.fn.seat l.seat;
  requests : (s : ℕ) → Heard l.self.task.layout l.fn.seat.record_of Conflict (suc s) →
      l.requests.items ≡ map (request_in l.self.task.job (state_after l.self.task.job s))
      (range_with_len 0 l.processor);
  room : l.self.task.job.procs ≤ l.requests.cap;
  len : l.requests.len ≡ l.processor;
}
