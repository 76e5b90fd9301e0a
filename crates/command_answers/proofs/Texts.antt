-- The texts of words, and what they set.
use Rattle.std.proofs.Common.{◌≡◌, ◌∙◌, ◌+◌, ◌<◌, ℕ, List, ◌∷◌, Option, Ok, add-one}
use Rattle.std.proofs.Common.{ap, drop, drop-cons, get_or, length, map, subst, sym}
use Rattle.std.specs.Borrow.{Bor}
use Rattle.std.specs.List.{after_first, before_first}
use Rattle.clap.specs.Words.{Text}
use Rattle.pardo_text.specs.Settings.{SettingData, with_setting}
use Rattle.command_answers.specs.Setting.{SetNames, SetsName, SpellsValues}
use Rattle.command_answers.specs.Setting.{is_equals}

abbrev pub texts_of : List (Bor Text) → List Text
texts_of words = map (λ (word : Bor Text). word.now) words

-- a word that is split at its first `=` sets its name
pub sets_name : (Holds : List ℕ → Option (List ℕ) → Type 0) (old new : List SettingData)
    (word name values text written : List ℕ) → written ≡ text → name ≡ before_first is_equals word →
    values ≡ after_first is_equals word → SpellsValues Holds values text →
    with_setting old name written ≡ Ok new → SetsName Holds old word new
sets_name Holds old new word name values text written same is_name is_values spells is = (
  text,
  subst (λ (after : List ℕ). SpellsValues Holds after text) is_values spells,
  subst (λ (before : List ℕ). with_setting old before text ≡ Ok new) is_name
      (subst (λ (t : List ℕ). with_setting old name t ≡ Ok new) same is),
)

-- a word sets a name, and then the words after it set theirs
pub set_next : (Holds : List ℕ → Option (List ℕ) → Type 0) (words : List (Bor Text)) (at : ℕ)
    (d : Bor Text) (settings next all : List SettingData) → at < length words →
    SetsName Holds settings (get_or words at d).now next →
    SetNames Holds next (texts_of (drop (at + 1) words)) all →
    SetNames Holds settings (texts_of (drop at words)) all
set_next Holds words at d settings next all within sets rest =
    let more : drop at words ≡ get_or words at d ∷ drop (at + 1) words =
    drop-cons words at d within
    ∙ ap (λ (n : ℕ). get_or words at d ∷ drop n words) (sym (add-one at)) in
    subst (λ (left : List (Bor Text)). SetNames Holds settings (texts_of left) all) (sym more)
    (next, sets, rest)
