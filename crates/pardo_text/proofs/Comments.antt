-- Comments, which are UTF-8.
use Rattle.std.proofs.Common.{◌≡◌, ◌∙◌, ℕ, Bool, true, false, ◌&&◌, List, [], ◌∷◌, ◌++◌}
use Rattle.std.proofs.Common.{sym, subst, refl, length, ⊎_elim, IsUtf8}
use Rattle.std.specs.List.{list_all}
use Rattle.std.specs.Str.{is_utf8}
use Rattle.std.proofs.lemmas.Bool.{and_parts, cases_Bool}
use Rattle.std.proofs.Math.Seq.{take-append_seam}
use Rattle.std.proofs.lemmas.List.Folds.{list_all-append}
use Rattle.std.proofs.lemmas.Str.{IsUtf8-append, IsUtf8-from_is_utf8, is_utf8-from_IsUtf8}
use Rattle.std.proofs.lemmas.Str.{IsUtf8-take, IsCharBoundary-at_seam}
use Rattle.pardo_text.specs.Reading.{is_comment, is_no_control}

pub utf8_is : (bytes : List ℕ) → IsUtf8 bytes → is_utf8 bytes ≡ true
utf8_is bytes is = is_utf8-from_IsUtf8 bytes is

pub utf8_not : (bytes : List ℕ) → ¬ (IsUtf8 bytes) → is_utf8 bytes ≡ false
utf8_not bytes never = ⊎_elim
    (λ e. absurd (never (IsUtf8-from_is_utf8 bytes e)))
    (λ e. e) (cases_Bool (is_utf8 bytes))

semicolon : IsUtf8 (59 ∷ [])
unfolding lib.Utf8.encode
semicolon = (59 ∷ [], (refl, refl))

semicolon_utf8 : (comment : List ℕ) → is_utf8 comment ≡ true → IsUtf8 (59 ∷ comment)
semicolon_utf8 comment e =
    IsUtf8-append (59 ∷ []) comment semicolon
    (IsUtf8-from_is_utf8 comment e)

-- the front of a text that goes on with a semicolon
utf8_front : (front comment : List ℕ) → is_utf8 comment ≡ true →
    IsUtf8 (front ++ 59 ∷ comment) → IsUtf8 front
utf8_front front comment e is =
    let whole = front ++ 59 ∷ comment in
    subst IsUtf8 (take-append_seam front (59 ∷ comment))
    (IsUtf8-take whole (length front) is
    (IsCharBoundary-at_seam whole front (59 ∷ comment) refl (semicolon_utf8 comment e)))

-- a text that goes on with a semicolon and another text
utf8_on : (front comment : List ℕ) → is_utf8 comment ≡ true →
    is_utf8 (front ++ 59 ∷ comment) ≡ is_utf8 front
utf8_on front comment e = ⊎_elim
    (λ f. is_utf8-from_IsUtf8 (front ++ 59 ∷ comment)
    (IsUtf8-append front (59 ∷ comment) (IsUtf8-from_is_utf8 front f) (semicolon_utf8 comment e))
    ∙ sym f)
    (λ f. utf8_not (front ++ 59 ∷ comment) (λ is.
    let one = is_utf8-from_IsUtf8 front (utf8_front front comment e is) in cc) ∙ sym f)
    (cases_Bool (is_utf8 front))

semicolon_no_control : (comment : List ℕ) → list_all is_no_control comment ≡ true →
    list_all is_no_control (59 ∷ comment) ≡ true
unfolding is_no_control
semicolon_no_control comment e = e

and_true : (test other : Bool) → other ≡ true → (test && other) ≡ test
and_true true other e = e
and_true false other e = refl

no_control_on : (front comment : List ℕ) → list_all is_no_control comment ≡ true →
    list_all is_no_control (front ++ 59 ∷ comment) ≡ list_all is_no_control front
no_control_on front comment e =
    list_all-append is_no_control front (59 ∷ comment)
    ∙ and_true (list_all is_no_control front) _ (semicolon_no_control comment e)

-- a comment that goes on with another one
pub comment_on : (front comment : List ℕ) → is_comment comment ≡ true →
    is_comment (front ++ 59 ∷ comment) ≡ is_comment front
comment_on front comment e =
    let parts = and_parts (is_utf8 comment) (list_all is_no_control comment) e in
    rw (utf8_on front comment parts.0, no_control_on front comment parts.1) refl
