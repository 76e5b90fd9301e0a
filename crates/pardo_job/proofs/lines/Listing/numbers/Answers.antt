use Rattle.std.proofs.Common.{◌≡◌, ◌+◌, ◌-◌, ◌<◌, ◌∙◌, ◌∷◌, [], ◌++◌, ℕ, List, ap, arith, length}
use Rattle.std.proofs.Common.{replicate, take}
use Rattle.pardo_program.specs.declared.statement.Line.{Line}
use Rattle.pardo_flat.proofs.FlatLines.{line_there}
use Rattle.pardo_job.specs.Lines.{place_of}
use Rattle.pardo_job.proofs.Placed.{numbers_more, numbers_none}
use Rattle.pardo_job.proofs.lines.Listing.numbers.Goals as goal

pub loop-index-init : goal.loop-index-init
loop-index-init c = numbers_none c.args.self.now.program.now c.push.new.self.items
    (c.in_ok-push.ensures.items ∙ ap (λ (l : List ℕ). l ++ 0 ∷ []) c.new-numbers.ensures.items)

pub loop-index-preserved : goal.loop-index-preserved
loop-index-preserved c =
    let there = line_there c.args.self.now.program.now.lines c.lines-line-items.result.now
    c.loop-index.index c.line-item.result
    c.lines-line-items.ensures c.loop-index-test.true c.line-item.is in
    let lt : c.loop-index.index < length c.args.self.now.program.now.lines =
    omega (arith, ap (λ (l : List Line). length l) c.lines-line-items.ensures) in
    let is : c.place_after.result ≡ place_of c.args.self.now.program.now (c.loop-index.index + 1) =
    c.place_after.ensures ∙ c.requires.each (c.loop-index.index + 1) (omega arith) in
    let old : List ℕ = c.loop-index.numbers.items in
    let number : ℕ = c.line-item.result.number in
    numbers_more c.args.self.now.program.now c.loop-index.index c.loop-index.last c.line-item.result
    old c.resize.new.self.items there
    (c.in_ok-resize.ensures.items ∙
    ap (λ (n : ℕ). take c.place_after.result old ++ replicate (c.place_after.result - n) number)
    c.loop-index.numbers.ok.0
    ∙ ap (λ (n : ℕ). take n old ++ replicate (n - length old) number) is) c.loop-index.invariant
