-- An expression that is a truth has the value 0 or 1.
use Rattle.std.proofs.Common.{◌≡◌, ℕ, ◌==◌, nat_lt, nat_le, Bool, true, false, ap, ◌∙◌, inl, inr}
use Rattle.std.proofs.Common.{◌&&◌, ◌||◌, not}
use Rattle.std.specs.Prelude.{bit_and, bit_or}
use Rattle.pardo_program.specs.declared.operation.Op.{Op}
use Rattle.pardo_program.specs.declared.operation.Op.TheVariants.{Add, Sub, Mul, Div, Rem, Shl, Shr}
use Rattle.pardo_program.specs.declared.operation.Op.TheVariants.{BitAnd, BitOr, BitXor, Eq, Ne}
use Rattle.pardo_program.specs.declared.operation.Op.TheVariants.{Lt, Le, Gt, Ge, And, Or, Min, Max}
use Rattle.pardo_program.specs.declared.operation.Op.TheVariants.{Within}
use Rattle.pardo_program.specs.Operations.{operation_value}
use Rattle.pardo_flat.specs.Flat.{gives_truth}
use Rattle.pardo_job.proofs.Applying.{IsTruth, bit_truth}

joined_and : (a b : ℕ) → IsTruth a → IsTruth b → IsTruth (bit_and a b)
joined_and a b (inl p) (inl q) = inl (ap (λ x. bit_and x b) p ∙ ap (bit_and 0) q)
joined_and a b (inl p) (inr q) = inl (ap (λ x. bit_and x b) p ∙ ap (bit_and 0) q)
joined_and a b (inr p) (inl q) = inl (ap (λ x. bit_and x b) p ∙ ap (bit_and 1) q)
joined_and a b (inr p) (inr q) = inr (ap (λ x. bit_and x b) p ∙ ap (bit_and 1) q)

joined_or : (a b : ℕ) → IsTruth a → IsTruth b → IsTruth (bit_or a b)
joined_or a b (inl p) (inl q) = inl (ap (λ x. bit_or x b) p ∙ ap (bit_or 0) q)
joined_or a b (inl p) (inr q) = inr (ap (λ x. bit_or x b) p ∙ ap (bit_or 0) q)
joined_or a b (inr p) (inl q) = inr (ap (λ x. bit_or x b) p ∙ ap (bit_or 1) q)
joined_or a b (inr p) (inr q) = inr (ap (λ x. bit_or x b) p ∙ ap (bit_or 1) q)

no_truth : {A : Type 0} → false ≡ true → A
no_truth e = absurd (cc)

pub truth_value : (op : Op) (t : Bool) (a b : ℕ) → gives_truth op t ≡ true →
    (t ≡ true → IsTruth a × IsTruth b) → IsTruth (operation_value op a b)
unfolding gives_truth operation_value
truth_value Add t a b e both = no_truth e
truth_value Sub t a b e both = no_truth e
truth_value Mul t a b e both = no_truth e
truth_value Div t a b e both = no_truth e
truth_value Rem t a b e both = no_truth e
truth_value Shl t a b e both = no_truth e
truth_value Shr t a b e both = no_truth e
truth_value BitAnd t a b e both = joined_and a b (both e).0 (both e).1
truth_value BitOr t a b e both = joined_or a b (both e).0 (both e).1
truth_value BitXor t a b e both = no_truth e
truth_value Eq t a b e both = bit_truth (a == b)
truth_value Ne t a b e both = bit_truth (not (a == b))
truth_value Lt t a b e both = bit_truth (nat_lt a b)
truth_value Le t a b e both = bit_truth (nat_le a b)
truth_value Gt t a b e both = bit_truth (nat_lt b a)
truth_value Ge t a b e both = bit_truth (nat_le b a)
truth_value And t a b e both = bit_truth (not (a == 0) && not (b == 0))
truth_value Or t a b e both = bit_truth (not (a == 0) || not (b == 0))
truth_value Min t a b e both = no_truth e
truth_value Max t a b e both = no_truth e
truth_value Within t a b e both = no_truth e
