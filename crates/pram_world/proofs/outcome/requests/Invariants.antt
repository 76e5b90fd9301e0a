use Rattle.std.proofs.Common.{◌≡◌, ℕ, suc, length, map}
use Rattle.std.specs.List.{range_with_len}
use Rattle.pram_machine.specs.Instructions.{request_in}
use Rattle.pram_step.specs.Runs.{state_after}
use Rattle.lawful_walk.specs.Board.{conflict}
use Rattle.pram_world.proofs.outcome.requests.Given as goal

abbrev pub invariant-loop-i : goal.invariant-loop-i
invariant-loop-i l = record {
  each : length l.requests.items ≡ l.i;
  are : (s : ℕ) → conflict l.layout l.words ≡ suc s →
      l.requests.items ≡ map (request_in l.job (state_after l.job s)) (range_with_len 0 l.i);
}
