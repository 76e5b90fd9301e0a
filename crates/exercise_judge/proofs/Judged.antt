-- What a fact of which it is judged says of another.
use Rattle.std.proofs.Common.{◌≡◌, Result, Ok, Err, subst, sym}
use Rattle.std.specs.Prelude.{IfErr}
use Rattle.exercise_judge.specs.declared.verdict.Wrong.{Wrong}
use Rattle.exercise_judge.specs.Verdicts.{IsCertain, Judges}

pub judged_too : {X : Type 0} (P Q : Type 0) (r : Result X Wrong) → (P → Q) → (Q → P) → Judges r P →
    Judges r Q
judged_too P Q (Ok x) f g judged = f judged
judged_too P Q (Err wrong) f g judged = λ certain q. judged certain (g q)

-- what holds of the error holds of the result
pub if_err : {X E : Type 0} (r : Result X E) (e : E) (P : E → Type 0) → r ≡ Err e → P e → IfErr r P
if_err {X} {E} r e P same is = subst (λ (x : Result X E). IfErr x P) (sym same) is

pub judged_err : {X : Type 0} (P : Type 0) (r : Result X Wrong) (e : Wrong) → r ≡ Err e →
    (IsCertain e → P → ⊥) → Judges r P
judged_err {X} P r e same not = subst (λ (x : Result X Wrong). Judges x P) (sym same) not
