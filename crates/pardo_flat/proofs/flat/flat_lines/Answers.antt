use Rattle.std.proofs.Common.{◌≡◌, ◌∙◌, ◌∷◌, [], ◌++◌, ap, arith, length, List, refl, rules}
use Rattle.pardo_program.specs.declared.statement.Line.{Line}
use Rattle.pardo_program.specs.Program.{PrivateData}
use Rattle.pardo_flat.proofs.Flats.{all_flat, flat_more}
use Rattle.pardo_flat.proofs.FlatLines.{line_there}
use Rattle.pardo_flat.proofs.flat.flat_lines.Goals as goal

pub loop-line-preserved : goal.loop-line-preserved
loop-line-preserved c =
    let program = c.args.program.now in
    let there = line_there program.lines c.lines-line-items.result.now c.loop-line.line-index
    c.line-item.result c.lines-line-items.ensures c.loop-line-test.true c.line-item.is in record {
      none = c.in_ok-parts.ensures.none;
      flat = flat_more program c.loop-line.line-index c.line-item.result _ _ _ _ _ there
          c.loop-line.invariant.flat _ _ _ _ _ _ _ _ c.base_of.ensures.base
          c.in_ok-parts.ensures.parts c.in_ok-push.ensures.lines
          c.in_ok-push.ensures.firsts c.in_ok-push.ensures.most c.in_ok-push.ensures.loops
          c.in_ok-push.ensures.split;
    }

pub returns : goal.returns
returns c =
    let flat = c.loop-line.flat in
    let count : c.len.result ≡ length flat.lines.items =
    first_of (search rules, omega (arith, flat.lines.ok), omega (arith, c.len.ensures)) in
    let lines = ap (λ (l : List Line). length l) c.lines-line-items.ensures in
    all_flat c.args.program.now c.loop-line.line-index _ flat.lines.items flat.firsts.items
    flat.most flat.loops flat.split (omega (arith, lines, c.loop-line-test.false))
    (omega (arith, lines, c.loop-line.auto.line-index-end)) c.loop-line.invariant.flat refl
    (c.in_ok-push-2.ensures.items ∙ ap (λ n. flat.firsts.items ++ n ∷ []) count) refl refl refl
