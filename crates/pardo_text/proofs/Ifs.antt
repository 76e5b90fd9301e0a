-- What holds of a part of a reading that has no fault.
use Rattle.std.proofs.Common.{◌≡◌, refl, Bool, true, false, Result, Ok, Err, IfOk, if◌then◌else◌}
use Rattle.pardo_text.specs.declared.fault.PardoKind.{PardoKind}
use Rattle.text_lines.specs.Reads.{◌>>=◌}

pub ok_bind : {A B : Type 0} → (read : Result A PardoKind) (next : A → Result B PardoKind)
    (P : A → Type 0) (Q : B → Type 0) → IfOk read P → ((x : A) → P x → IfOk (next x) Q) →
    IfOk (read >>= next) Q
ok_bind (Ok x) next P Q h more = more x h
ok_bind (Err kind) next P Q h more = tt

-- whatever the part before says
pub ok_after : {A B : Type 0} → (read : Result A PardoKind) (next : A → Result B PardoKind)
    (Q : B → Type 0) → ((x : A) → IfOk (next x) Q) → IfOk (read >>= next) Q
ok_after (Ok x) next Q more = more x
ok_after (Err kind) next Q more = tt

pub ok_if : {A : Type 0} → (test : Bool) (read other : Result A PardoKind) (Q : A → Type 0) →
    (test ≡ true → IfOk read Q) → (test ≡ false → IfOk other Q) →
    IfOk (if test then read else other) Q
ok_if true read other Q first second = first refl
ok_if false read other Q first second = second refl
