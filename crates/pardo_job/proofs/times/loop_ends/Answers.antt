use Rattle.std.proofs.Common.{◌≡◌, ◌<◌, ◌∙◌, ◌++◌, ℕ, List, ap, arith, length}
use Rattle.pardo_program.specs.declared.statement.Line.{Line}
use Rattle.pardo_flat.proofs.FlatLines.{line_there}
use Rattle.pardo_job.specs.Times.{place_of_line, loop_end_at}
use Rattle.pardo_job.proofs.Counted.{all_ends, no_ends, one_more_end}
use Rattle.pardo_job.proofs.times.loop_ends.Goals as goal

pub loop-at-init : goal.loop-at-init
loop-at-init c = no_ends c.args.program.now c.new-ends.result.items c.new-ends.ensures.items

pub loop-at-preserved : goal.loop-at-preserved
loop-at-preserved c =
    let program = c.args.program.now in
    let there = line_there program.lines c.lines-line-items.result.now c.loop-at.at
    c.line-item.result c.lines-line-items.ensures c.loop-at-test.true c.line-item.is in
    let lt : c.loop-at.at < length program.lines =
    omega (arith, ap (λ (l : List Line). length l) c.lines-line-items.ensures) in
    let first : c.place_at.result ≡ place_of_line program c.loop-at.at =
    c.place_at.ensures ∙ c.requires.each c.loop-at.at lt in
    one_more_end program c.loop-at.at c.line-item.result c.loop-at.ends.items _ there
    (c.in_ok-push_end.ensures
    ∙ ap (λ (n : ℕ). c.loop-at.ends.items ++ loop_end_at n c.line-item.result.statement) first)
    c.loop-at.invariant

pub returns : goal.returns
returns c = all_ends c.args.program.now c.loop-at.at c.loop-at.ends.items
    (let e = ap (λ (l : List Line). length l) c.lines-line-items.ensures in omega (arith, e))
    c.loop-at.invariant
