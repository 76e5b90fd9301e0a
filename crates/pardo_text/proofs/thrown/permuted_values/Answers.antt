use Rattle.std.proofs.Common.{◌≡◌, ◌++◌, ◌∷◌, ◌∙◌, [], ℕ, List, ap, arith, length, rules, sym}
use Rattle.pardo_text.proofs.Refilling.{numbers_few, put_back, range_more, shuffled_numbers}
use Rattle.pardo_text.proofs.thrown.permuted_values.Goals as goal

pub loop-place-preserved : goal.loop-place-preserved
loop-place-preserved c =
    let place = c.loop-place.place in
    c.in_ok-push.ensures.items ∙ ap (λ (l : List ℕ). l ++ place ∷ []) c.loop-place.invariant
    ∙ sym (range_more 0 place place (omega arith))

pub shuffle-requires : goal.shuffle-requires
shuffle-requires c =
    numbers_few c.loop-place.place _ (c.as_mut_slice.ensures.value ∙ c.loop-place.invariant)
    (omega (arith, c.loop-place.auto.place-end, c.ranges.places.fits))

pub returns : goal.returns
returns c =
    let items = c.loop-place.values.items in
    let len : c.loop-place.values.len ≡ length items = search rules in
    let same : length c.as_mut_slice.result.now ≡ length items = ap length c.as_mut_slice.ensures.value in
    let all : c.loop-place.place ≡ c.args.places =
    omega (arith, c.loop-place-test.false, c.loop-place.auto.place-end) in
    put_back c.loop-place.values.len c.shuffle.new.items items len (c.shuffle.ensures.len ∙ same)
    ∙ shuffled_numbers c.args.places c.loop-place.place c.args.seed c.shuffle.new.items
    c.as_mut_slice.result.now all (c.as_mut_slice.ensures.value ∙ c.loop-place.invariant)
    c.shuffle.ensures.value
