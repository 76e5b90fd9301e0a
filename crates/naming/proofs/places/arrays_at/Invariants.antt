use Rattle.std.proofs.Common.{◌≡◌, ℕ, length}
use Rattle.pardo_program.specs.Lawful.{AreArrays}
use Rattle.pardo_job.specs.Printed.{cell_text}
use Rattle.naming.specs.Inner.Places.{NameAlike}
use Rattle.naming.proofs.places.arrays_at.Given as goal

-- those that are left follow one another, and tell the cell as all do
abbrev pub invariant-loop-left : goal.invariant-loop-left
invariant-loop-left l = record {
  are : (base : ℕ) × AreArrays l.left base;
  text : cell_text l.left l.cell ≡ cell_text l.arrays l.cell;
  named : NameAlike l.left l.arrays l.cell;
}

abbrev pub decreases-loop-left : goal.decreases-loop-left
decreases-loop-left l = length l.left
