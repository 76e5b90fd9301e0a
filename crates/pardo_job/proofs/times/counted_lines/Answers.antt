use Rattle.std.proofs.Common.{◌≡◌, ◌<◌, ◌∙◌, ◌++◌, ℕ, List, ap, arith, length}
use Rattle.pardo_program.specs.declared.statement.Line.{Line}
use Rattle.pardo_flat.specs.Flat.{first_flat_of, flat}
use Rattle.pardo_flat.proofs.FlatLines.{line_there}
use Rattle.pardo_job.specs.declared.times.CountedLine.{CountedLine}
use Rattle.pardo_job.specs.Lines.{place_of}
use Rattle.pardo_job.specs.Times.{counted_line}
use Rattle.pardo_job.proofs.Counted.{all_counted, all_few, none_counted, one_more_counted}
use Rattle.pardo_job.proofs.Placed.{place_below}
use Rattle.pardo_job.proofs.times.counted_lines.Goals as goal

pub loop-at-init : goal.loop-at-init
loop-at-init c = none_counted c.args.program.now c.new-counted.result.items
    c.new-counted.ensures.items

pub loop-at-preserved : goal.loop-at-preserved
loop-at-preserved c =
    let program = c.args.program.now in
    let there = line_there program.lines c.lines-line-items.result.now c.loop-at.at
    c.line-item.result c.lines-line-items.ensures c.loop-at-test.true c.line-item.is in
    let lt : c.loop-at.at < length program.lines =
    omega (arith, ap (λ (l : List Line). length l) c.lines-line-items.ensures) in
    let first : c.place_at-first.result
    ≡ place_of (flat program) (first_flat_of program c.loop-at.at) =
    c.place_at-first.ensures ∙ c.requires.each c.loop-at.at lt in
    one_more_counted program c.loop-at.at c.line-item.result c.loop-at.counted.items _ there
    (c.in_ok-push_counted.ensures
    ∙ ap (λ (n : ℕ). c.loop-at.counted.items ++ counted_line n c.loop-at.at c.line-item.result)
    first) c.loop-at.invariant

pub push_counted-requires : goal.push_counted-requires
push_counted-requires c =
    let program = c.args.program.now in
    let lt : c.loop-at.at < length program.lines =
    omega (arith, ap (λ (l : List Line). length l) c.lines-line-items.ensures) in
    let first = c.place_at-first.ensures ∙ c.requires.each c.loop-at.at lt in
    let low = place_below (flat program) (first_flat_of program c.loop-at.at) in
    let short = c.requires.short in omega (arith, first, low, short)

pub returns-clause-counted : goal.returns-clause-counted
returns-clause-counted c = all_counted c.args.program.now c.loop-at.at c.loop-at.counted.items
    (let e = ap (λ (l : List Line). length l) c.lines-line-items.ensures in omega (arith, e))
    c.loop-at.invariant

pub returns-clause-few : goal.returns-clause-few
returns-clause-few c =
    let program = c.args.program.now in
    let whole = all_counted program c.loop-at.at c.loop-at.counted.items
    (let e = ap (λ (l : List Line). length l) c.lines-line-items.ensures in omega (arith, e))
    c.loop-at.invariant in
    let same = ap (λ (l : List CountedLine). length l) whole in
    let few = all_few program in
    let short = c.requires.short in omega (arith, same, few, short)
