use Rattle.std.proofs.Common.{◌≡◌, ◌≤◌, length}
use Rattle.text_lines.specs.TextLines.{left_of, taken_of}
use Rattle.library_core.specs.Settings.{settings_in, with_lines}
use Rattle.library_core.proofs.setting.settings_in.Given as goal

abbrev pub invariant-loop-line : goal.invariant-loop-line
invariant-loop-line l = record {
  same : settings_in l.text ≡ with_lines l.count l.settings (left_of l.lines);
  counted : l.count ≤ taken_of l.lines;
}

abbrev pub decreases-loop-line : goal.decreases-loop-line
decreases-loop-line l = length (left_of l.lines)
