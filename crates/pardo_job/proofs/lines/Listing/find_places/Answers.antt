use Rattle.std.proofs.Common.{◌≡◌, ◌∙◌, ◌∷◌, [], ◌++◌, ℕ, Err, List, ap, rules, subst, sym}
use Rattle.pardo_flat.proofs.FlatLines.{line_there}
use Rattle.pardo_job.specs.declared.fault.JobFault.{JobFault}
use Rattle.pardo_job.specs.Inner.Listings.{IsFaultAt, IsPlaceAfter}
use Rattle.pardo_job.proofs.LineParts.{on_err}
use Rattle.pardo_job.proofs.Placed.{fault_is, place_more, place_start, places_more}
use Rattle.pardo_job.proofs.Placed.{places_none}
use Rattle.pardo_job.proofs.lines.Listing.find_places.Goals as goal

pub loop-line-init : goal.loop-line-init
loop-line-init c = record {
  places = places_none c.args.self.now.program.now c.push.new.self.items
      (c.in_ok-push.ensures.items ∙ ap (λ (l : List ℕ). l ++ 1 ∷ []) c.in_ok-places.ensures.items);
  place = sym (place_start c.args.self.now.program.now);
}

pub returns-in_err-place-clause-refused : goal.returns-in_err-place-clause-refused
returns-in_err-place-clause-refused c =
    let there = line_there c.args.self.now.program.now.lines c.lines-lines.result.now
    c.loop-line.line-index c.line-item.result
    c.lines-lines.ensures c.loop-line-test.true c.line-item.is in
    let fault : JobFault = c.in_err-place.field-0.0 in
    let e : c.from_residual-in_err-place.result ≡ Err fault = search rules in
    on_err _ _ _ e (fault_is c.args.self.now.program.now c.loop-line.line-index c.line-item.result
    c.loop-line.places.items fault.line fault.kind there
    c.loop-line.invariant.places
    (subst (λ (n : ℕ). IsFaultAt c.args.self.now.program.now c.line-item.result n fault.line
    fault.kind) c.loop-line.invariant.place c.in_err-place.ensures.refused))

pub loop-line-preserved : goal.loop-line-preserved
loop-line-preserved c =
    let there = line_there c.args.self.now.program.now.lines c.lines-lines.result.now
    c.loop-line.line-index c.line-item.result
    c.lines-lines.ensures c.loop-line-test.true c.line-item.is in
    let given = subst (λ (n : ℕ). IsPlaceAfter c.args.self.now.program.now c.line-item.result n
    c.in_ok-place.place) c.loop-line.invariant.place c.in_ok-place.ensures.given in
    record {
      places = places_more c.args.self.now.program.now c.loop-line.line-index c.line-item.result
          c.loop-line.places.items c.push-in-loop-line.new.self.items
          c.in_ok-place.place there c.loop-line.invariant.places given c.in_ok-push-2.ensures.items;
      place = given.after_is ∙ sym (place_more c.args.self.now.program.now c.loop-line.line-index
          c.line-item.result there);
    }
