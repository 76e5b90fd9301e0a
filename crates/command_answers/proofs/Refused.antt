-- What is refused of words that set names.
use Rattle.std.proofs.Common.{◌≡◌, ◌+◌, ◌<◌, ◌∷◌, ◌∙◌, ℕ, List, Option, Err, inl, inr}
use Rattle.std.proofs.Common.{[], refl, sym, subst, ap, drop, drop-cons, get_or, length, add-one}
use Rattle.std.specs.Borrow.{Bor}
use Rattle.clap.specs.Words.{Text}
use Rattle.pardo_text.specs.Settings.{SettingData, with_setting}
use Rattle.pardo_text.specs.declared.settings.SetKind.{SetKind}
use Rattle.pardo_text.specs.declared.settings.SetKind.TheVariants.{BadSetting}
use Rattle.refusals.specs.declared.refusal.Refusal.{Refusal}
use Rattle.refusals.specs.declared.refusal.Refusal.TheVariants as refusal
use Rattle.command_answers.specs.Setting.{BySetting, RefuseNames}
use Rattle.command_answers.specs.Setting.{RefusesName, SetsName}
use Rattle.command_answers.specs.Setting.{SpellsValues, is_equals}
use Rattle.std.specs.List.{after_first, before_first, position_or_len}
use Rattle.command_answers.proofs.Texts.{texts_of}

-- what is said of a setting that is refused, and what follows from it
pub by_weaker : {P Q : SetKind → Type 0} → ((kind : SetKind) → P kind → Q kind) →
    (refused : Refusal) → BySetting P refused → BySetting Q refused
by_weaker f (refusal.Text line kind) says = says
by_weaker f (refusal.Program found) says = says
by_weaker f (refusal.Plan row kind) says = says
by_weaker f (refusal.Cell cell) says = says
by_weaker f (refusal.Place place) says = says
by_weaker f (refusal.Step step) says = says
by_weaker f (refusal.Setting name kind) says = f kind says
by_weaker f refusal.Memory says = says
by_weaker f (refusal.File name) says = says
by_weaker f refusal.Output says = says
by_weaker f (refusal.Size name) says = says
by_weaker f refusal.Word says = says

-- where no setting is refused, anything may be said of one
pub says_of_none : (Q : SetKind → Type 0) (refused : Refusal) → BySetting (λ kind. ⊥) refused →
    BySetting Q refused
says_of_none Q refused says = by_weaker {P = λ kind. ⊥} {Q = Q} (λ kind none. absurd none) refused says

-- a word is refused, or it sets a name and one after it is refused
refuse_here : (Holds : List ℕ → Option (List ℕ) → Type 0) (words : List (Bor Text)) (at : ℕ)
    (d : Bor Text) (settings : List SettingData) (kind : SetKind) → at < length words →
    RefusesName Holds settings (get_or words at d).now kind →
    RefuseNames Holds settings (texts_of (drop at words)) kind
refuse_here Holds words at d settings kind within refuses =
    subst (λ (left : List (Bor Text)). RefuseNames Holds settings (texts_of left) kind)
    (sym (drop-cons words at d within)) (inl refuses)

pub refuse_next : (Holds : List ℕ → Option (List ℕ) → Type 0) (words : List (Bor Text)) (at : ℕ)
    (d : Bor Text) (settings next : List SettingData) (kind : SetKind) → at < length words →
    SetsName Holds settings (get_or words at d).now next →
    RefuseNames Holds next (texts_of (drop (at + 1) words)) kind →
    RefuseNames Holds settings (texts_of (drop at words)) kind
refuse_next Holds words at d settings next kind within sets rest =
    let more : drop at words ≡ get_or words at d ∷ drop (at + 1) words =
    drop-cons words at d within
    ∙ ap (λ (n : ℕ). get_or words at d ∷ drop n words) (sym (add-one at)) in
    subst (λ (left : List (Bor Text)). RefuseNames Holds settings (texts_of left) kind) (sym more)
    (inr (next, sets, rest))

pub refused_here : (Holds : List ℕ → Option (List ℕ) → Type 0) (words : List (Bor Text)) (at : ℕ)
    (d : Bor Text) (settings : List SettingData) (refused : Refusal) → at < length words →
    ((kind : SetKind) → RefuseNames Holds settings (texts_of (drop at words)) kind →
    RefuseNames Holds [] (texts_of words) kind) →
    BySetting (RefusesName Holds settings (get_or words at d).now) refused →
    BySetting (RefuseNames Holds [] (texts_of words)) refused
refused_here Holds words at d settings refused within so_far says =
    by_weaker {P = RefusesName Holds settings (get_or words at d).now}
    {Q = RefuseNames Holds [] (texts_of words)} (λ kind refuses. so_far kind
    (refuse_here Holds words at d settings kind within refuses)) refused says

-- a word without `=` is refused
pub refuses_word : (Holds : List ℕ → Option (List ℕ) → Type 0) (old : List SettingData)
    (word : List ℕ) (name : Bor Text) (refused : Refusal) → refused ≡ refusal.Setting name BadSetting →
    position_or_len is_equals word ≡ length word → BySetting (RefusesName Holds old word) refused
refuses_word Holds old word name refused is none =
    subst (BySetting (RefusesName Holds old word)) (sym is) (inl (none, refl))

-- a word that is split at its first `=` is refused as its name and its values are
pub refuses_name : (Holds : List ℕ → Option (List ℕ) → Type 0) (old : List SettingData)
    (word name values text written : List ℕ) (kind : SetKind) → written ≡ text →
    name ≡ before_first is_equals word → values ≡ after_first is_equals word →
    SpellsValues Holds values text → with_setting old name written ≡ Err kind →
    RefusesName Holds old word kind
refuses_name Holds old word name values text written kind same is_name is_values spells is = inr (
  text,
  subst (λ (after : List ℕ). SpellsValues Holds after text) is_values spells,
  subst (λ (before : List ℕ). with_setting old before text ≡ Err kind) is_name
      (subst (λ (t : List ℕ). with_setting old name t ≡ Err kind) same is),
)
