use Rattle.std.proofs.Common.{◌≡◌, ◌++◌, ℕ, List, All, Bool, true, false, arith, refl}
use Rattle.std.proofs.Common.{get_or, if◌then◌else◌, rules}
use Rattle.std.specs.Prelude.{◌&&◌, OnOk, nat_le}
use Rattle.std.proofs.lemmas.Bool.{leb-true}
use Rattle.std.proofs.lemmas.List.Elements.{All-map}
use Rattle.exercise_words.specs.Words.{AddsPrintable, IsPrintable, shown_value, shown_byte}
use Rattle.exercise_words.proofs.Outcomes.{on_ok}
use Rattle.exercise_words.proofs.shown.push_shown.Goals as goal

-- what is shown is printable
byte_shown : (byte : ℕ) → IsPrintable (shown_byte byte)
byte_shown byte = by_tests (nat_le 32 byte) (nat_le byte 126) refl refl
  where
    by_tests : (x y : Bool) → nat_le 32 byte ≡ x → nat_le byte 126 ≡ y →
        IsPrintable (if x && y then byte else 63)
    by_tests true true e f = (leb-true 32 byte e, leb-true byte 126 f)
    by_tests true false e f = (omega arith, omega arith)
    by_tests false y e f = (omega arith, omega arith)

all_shown : (words : List ℕ) → All IsPrintable (shown_value words)
all_shown words = All-map IsPrintable shown_byte words (λ k d lt. byte_shown (get_or words k d))

pub returns-clause-printable : goal.returns-clause-printable
returns-clause-printable c =
    let old = c.args.text.now.items in
    let new = c.extend_from_slice.new.self.items in
    let words = shown_value c.args.words.now in
    let added : OnOk c.extend_from_slice.result (new ≡ old ++ words) = search rules in
    on_ok (new ≡ old ++ words) (AddsPrintable old new) c.extend_from_slice.result
    (λ same. (words, same, all_shown c.args.words.now)) added
