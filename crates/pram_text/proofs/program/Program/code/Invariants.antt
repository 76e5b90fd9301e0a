use Rattle.std.proofs.Common.{◌≡◌, Ok, map, take}
use Rattle.pram_text.specs.Inner.Reading.{label_at}
use Rattle.pram_text.specs.Inner.Statement.{resolved}
use Rattle.pram_text.proofs.program.Program.code.Given as goal

-- the statements so far
abbrev pub invariant-loop-written : goal.invariant-loop-written
invariant-loop-written l = map (λ w. resolved (label_at l.self.indices) w.statement)
    (take l.written-index l.written-items) ≡ map (λ i. Ok i) l.code.items
