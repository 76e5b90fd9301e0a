use Rattle.std.proofs.Common.{◌≡◌, ◌∙◌, ◌++◌, ◌+◌, ◌-◌, ℕ, suc, List, ap, sym}
use Rattle.std.proofs.Common.{append_assoc, codes, decimal, arith}
use Rattle.pardo_text.specs.Thrown.{seed_after, thrown_below}
use Rattle.exercise_text.specs.Sets.{thrown_text}
use Rattle.exercise_text.proofs.thrown.push_thrown.Goals as goal

-- one value more
thrown_more : (n m seed next value below : ℕ) → n ≡ suc m → next ≡ seed_after seed →
    value ≡ thrown_below below next →
    decimal value ++ codes ", " ++ thrown_text m next below ≡ thrown_text n seed below
thrown_more n m seed next value below count seeds values =
    ap (λ (v : ℕ). decimal v ++ codes ", " ++ thrown_text m next below) values
    ∙ ap (λ (s : ℕ). decimal (thrown_below below s) ++ codes ", " ++ thrown_text m s below) seeds
    ∙ ap (λ (k : ℕ). thrown_text k seed below) (sym count)

-- it stands after those before it
thrown_on : (before after whole : List ℕ) (n m seed next value below : ℕ) → n ≡ suc m →
    next ≡ seed_after seed → value ≡ thrown_below below next →
    after ≡ before ++ decimal value ++ codes ", " →
    before ++ thrown_text n seed below ≡ whole → after ++ thrown_text m next below ≡ whole
thrown_on before after whole n m seed next value below count seeds values added given =
    let rest = thrown_text m next below in
    ap (λ (l : List ℕ). l ++ rest) added
    ∙ append_assoc (before ++ decimal value) (codes ", ") rest
    ∙ append_assoc before (decimal value) (codes ", " ++ rest)
    ∙ ap (λ (l : List ℕ). before ++ l) (sym (append_assoc (decimal value) (codes ", ") rest)
    ∙ thrown_more n m seed next value below count seeds values)
    ∙ given

pub loop-fresh-preserved : goal.loop-fresh-preserved
loop-fresh-preserved c =
    let more : c.args.places - c.loop-fresh.fresh ≡ suc (c.args.places - (c.loop-fresh.fresh + 1)) =
    omega (arith, c.loop-fresh-test.true) in
    thrown_on _ _ _ _ _ c.loop-fresh.seed _ c.number_below.result c.args.below more
    c.next_seed-seed.ensures c.number_below.ensures.value c.in_ok-push_value.ensures
    c.loop-fresh.invariant
