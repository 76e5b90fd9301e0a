use Rattle.std.proofs.Common.{◌≡◌, length}
use Rattle.std.specs.List.{flat_map}
use Rattle.text_lines.specs.Lines.{words_of}
use Rattle.text_lines.specs.TextLines.{left_of}
use Rattle.pardo_answers.specs.Language.{begins_program, is_program}
use Rattle.pardo_answers.proofs.language.is_program.Given as goal

-- the lines so far have no word
abbrev pub invariant-loop-line : goal.invariant-loop-line
invariant-loop-line l = begins_program (flat_map words_of (left_of l.lines)) ≡ is_program l.text

abbrev pub decreases-loop-line : goal.decreases-loop-line
decreases-loop-line l = length (left_of l.lines)
