use Rattle.std.proofs.Common.{◌≡◌, ◌∙◌, List, Some, false, true, ap, arith, below_more, length, sym}
use Rattle.std.specs.Prelude.{slice_get}
use Rattle.std.proofs.lemmas.Option.{same_Some, slice_get_within}
use Rattle.pardo_program.specs.declared.statement.Line.{Line}
use Rattle.pardo_flat.specs.Flat.{fits}
use Rattle.pardo_flat.proofs.FlatLines.{line_there}
use Rattle.pardo_flat.proofs.flat.all_fit.Goals as goal

pub loop-line-init : goal.loop-line-init
loop-line-init c = record {
  none = c.new-shapes.ensures.items;
  fit = λ j lt. absurd (omega (arith, lt));
}

pub loop-line-preserved : goal.loop-line-preserved
loop-line-preserved c =
    let lines = c.args.program.now.lines in
    let there = line_there lines c.lines-line-items.result.now c.loop-line.line-index
    c.line-item.result c.lines-line-items.ensures c.loop-line-test.true c.line-item.is in
    let here : fits c.line-item.result.statement ≡ true =
    sym c.in_ok-enough.ensures.fits ∙ c.if-not-enough.false in record {
      none = c.in_ok-enough.ensures.none;
      fit = below_more (λ j. (line : Line) → slice_get lines j ≡ Some line →
          fits line.statement ≡ true) c.loop-line.line-index c.loop-line.invariant.fit
          (λ line is. ap (λ (l : Line). fits l.statement)
          (same_Some line c.line-item.result (sym is ∙ there)) ∙ here);
    }

pub returns-then-not-enough : goal.returns-then-not-enough
returns-then-not-enough c = λ e. absurd (let f : false ≡ true = e in cc)

pub returns : goal.returns
returns c = λ e j line is.
    let within = slice_get_within c.args.program.now.lines j line is in
    let same = ap (λ (l : List Line). length l) c.lines-line-items.ensures in
    c.loop-line.invariant.fit j (omega (arith, within, same, c.loop-line-test.false)) line is
