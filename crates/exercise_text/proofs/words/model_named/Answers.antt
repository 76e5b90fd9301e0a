use Rattle.std.proofs.Common.{◌≡◌, ℕ, List, Bool, true, false, codes, refl, subst, sym}
use Rattle.std.specs.Prelude.{None, IsUtf8, nat_lt}
use Rattle.std.specs.List.{list_all}
use Rattle.std.specs.Str.{bytes_eq}
use Rattle.std.proofs.lemmas.Bool.{ltb-true}
use Rattle.std.proofs.lemmas.List.Sums.{AllPass-from_list_all}
use Rattle.std.proofs.lemmas.Slice.Eq.{bytes_eq-Decides}
use Rattle.std.proofs.lemmas.Str.{IsUtf8-from_ascii}
use Rattle.std.proofs.lemmas.Str.Ascii.{IsAscii-from_all}
use Rattle.pram_cost.specs.Beyond.{model_named}
use Rattle.exercise_text.proofs.words.model_named.Goals as goal

is_text : (name : List ℕ) → list_all (λ b. nat_lt b 128) name ≡ true → IsUtf8 name
is_text name low = IsUtf8-from_ascii name (IsAscii-from_all name (λ k d lt.
    ltb-true _ _ (AllPass-from_list_all (λ b. nat_lt b 128) name low k d lt)))

-- what is no text is no name
other : (word name : List ℕ) → ¬ (IsUtf8 word) → list_all (λ b. nat_lt b 128) name ≡ true →
    bytes_eq word name ≡ false
other word name no_text low = by_test (bytes_eq word name) (λ same.
    no_text (subst IsUtf8 (sym ((bytes_eq-Decides word name).0 same)) (is_text name low)))
  where
    by_test : (b : Bool) → (b ≡ true → ⊥) → b ≡ false
    by_test false differ = refl
    by_test true differ = absurd (differ refl)

unnamed : (word : List ℕ) → ¬ (IsUtf8 word) → model_named word ≡ None
unnamed word no_text =
    simp (
      other word (codes "EREW") no_text refl,
      other word (codes "erew") no_text refl,
      other word (codes "CREW") no_text refl,
      other word (codes "crew") no_text refl,
      other word (codes "common") no_text refl,
      other word (codes "priority") no_text refl,
    )

pub returns-in-Err : goal.returns-in-Err
returns-in-Err c = sym (unnamed c.args.word.now c.in-Err.ensures.cases.0)
