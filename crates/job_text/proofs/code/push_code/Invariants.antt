use Rattle.std.proofs.Common.{◌≡◌, ◌++◌, drop, string_bytes}
use Rattle.job_text.specs.Printed.{printed_instructions, is_aim, lines_text, body_lines}
use Rattle.job_text.proofs.code.push_code.Given as goal

-- the lines so far and those to come are all lines
abbrev pub invariant-loop-index : goal.invariant-loop-index
invariant-loop-index g l =
    let words = g.N.ArrayNames.words l.names in
    string_bytes l.text
    ++ lines_text (printed_instructions words (is_aim l.code) l.index (drop l.index l.code))
    ≡ string_bytes l.fn.text ++ lines_text (body_lines words l.code)
