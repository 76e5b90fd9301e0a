use Rattle.std.proofs.Common.{◌≡◌, take}
use Rattle.std.specs.List.{list_all}
use Rattle.text_lines.specs.Lines.{is_allowed}
use Rattle.text_lines.proofs.words.is_lawful.Given as goal

abbrev pub invariant-loop-byte : goal.invariant-loop-byte
invariant-loop-byte l = l.lawful ≡ list_all is_allowed (take l.byte-index l.line)
