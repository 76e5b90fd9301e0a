use Rattle.std.proofs.Common.{◌∙◌, ◌/◌, ◌<◌, ◌≤◌, ℕ, List, ap, arith, length, subst, sym}
use Rattle.std.proofs.Common.{length-drop, length-take-le}
use Rattle.pardo_program.specs.Lawful.{AreArrays}
use Rattle.pardo_program.specs.Program.{ArrayData}
use Rattle.pardo_job.specs.Printed.{cell_text}
use Rattle.naming.specs.ArrayNames.{shared_name}
use Rattle.naming.proofs.ArrayNames.{earlier_named, later_named}
use Rattle.naming.proofs.Rows.{earlier_are, earlier_half, later_are, later_half, rest_whole}
use Rattle.naming.proofs.places.half_at.Goals as goal

pub returns-then-base-cell : goal.returns-then-base-cell
returns-then-base-cell c =
    let arrays = c.args.arrays.now in
    let half = length arrays / 2 in
    let lt : half < length arrays = omega (arith, c.requires.several) in
    let from : c.index-arrays-half.result.base ≤ c.args.cell =
    omega (arith, c.base.ensures, c.if-base-cell.true) in
    let rest = rest_whole arrays half in
    record {
      are = subst (λ (l : List ArrayData). (base : ℕ) × AreArrays l base) (sym rest)
          (later_are arrays c.requires.are.0 half c.requires.are.1);
      text = ap (λ (l : List ArrayData). cell_text l c.args.cell) rest
          ∙ later_half arrays c.requires.are.0 half c.args.cell c.index-arrays-half.result
          c.requires.are.1 lt c.index-arrays-half.is from;
      named = λ array at. ap (λ (l : List ArrayData). shared_name l array) rest
          ∙ later_named arrays c.requires.are.0 half c.index-arrays-half.result array
          c.requires.are.1 lt c.index-arrays-half.is (omega (arith, at, from));
      fewer = omega (arith, ap length rest, length-drop half arrays);
    }

pub returns : goal.returns
returns c =
    let arrays = c.args.arrays.now in
    let half = length arrays / 2 in
    let lt : half < length arrays = omega (arith, c.requires.several) in
    let before : c.args.cell < c.index-arrays-half.result.base =
    omega (arith, c.base.ensures, c.if-base-cell.false) in
    record {
      are = (c.requires.are.0, earlier_are arrays c.requires.are.0 half c.requires.are.1);
      text = earlier_half arrays c.requires.are.0 half c.args.cell c.index-arrays-half.result
          c.requires.are.1 lt c.index-arrays-half.is before;
      named = λ array at. earlier_named arrays c.requires.are.0 half c.index-arrays-half.result array
          c.requires.are.1 lt c.index-arrays-half.is (omega (arith, at, before));
      fewer = omega (arith, length-take-le half arrays);
    }
