use Rattle.std.proofs.Common.{◌≡◌, ◌≤◌, ◌-◌, ◌++◌, Ok, length}
use Rattle.text_lines.specs.Lines.{words_of}
use Rattle.pram_text.specs.Judgement.{values_of}
use Rattle.text_lines.specs.Reads.{◌>>=◌}
use Rattle.pram_text.proofs.start.values_in.Given as goal

-- the values so far, and what the words that are left say
abbrev pub invariant-loop-word : goal.invariant-loop-word
invariant-loop-word l =
    (length l.values.items ≤ l.fn.room) × (values_of l.fn.room (words_of l.fn.words)
    ≡ (values_of (l.fn.room - length l.values.items) (words_of l.rest) >>=
    λ more. Ok (l.values.items ++ more)))

abbrev pub decreases-loop-word : goal.decreases-loop-word
decreases-loop-word l = length (words_of l.rest)
