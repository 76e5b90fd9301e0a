use Rattle.std.proofs.Common.{◌≡◌, ◌∙◌, ◌%◌, sym, arith}
use Rattle.stop_plan.proofs.RandomRows.{all_there, one_more}
use Rattle.stop_plan.proofs.random.random_rows.Goals as goal

pub loop-left-preserved : goal.loop-left-preserved
loop-left-preserved c =
    let more = one_more c.args.workers (c.args.seed % c.args.workers) c.loop-left.left
    c.loop-left.numbers.number c.loop-left.rows.items c.loop-left-test.true in
    rw (c.in_ok-push_living.ensures, c.next_row.ensures.next, c.next_row.ensures.row)
    (sym more ∙ c.loop-left.invariant)

pub returns : goal.returns
returns c =
    let none : c.loop-left.left ≡ 0 = omega (arith, c.loop-left-test.false) in
    sym (all_there c.args.workers (c.args.seed % c.args.workers) c.loop-left.numbers.number
    c.loop-left.rows.items) ∙ rw none at c.loop-left.invariant
