use Rattle.std.proofs.Common.{◌≡◌, length}
use Rattle.text_lines.specs.Lines.{lines_of}
use Rattle.text_lines.specs.TextLines.{left_of, taken_of}
use Rattle.pardo_text.specs.Settings.{line_numbered}
use Rattle.pardo_text.proofs.exchange.numbered.Given as goal

-- the lines so far have other numbers
abbrev pub invariant-loop-line : goal.invariant-loop-line
invariant-loop-line l = line_numbered 0 (lines_of l.text) l.wanted
    ≡ line_numbered (taken_of l.lines) (left_of l.lines) l.wanted

abbrev pub decreases-loop-line : goal.decreases-loop-line
decreases-loop-line l = length (left_of l.lines)
