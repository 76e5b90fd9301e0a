-- What a sweep comes to, size by size.
use Rattle.std.proofs.Common.{◌≡◌, ◌∙◌, ◌+◌, ◌<◌, ◌≤◌, ◌⊎◌, ℕ, List, [], ◌∷◌, ◌++◌, max, take}
use Rattle.std.proofs.Common.{Bool, true, false, Option, Some, ap, append_assoc, arith, get_or, inl}
use Rattle.std.proofs.Common.{inr, length, refl, subst, sym}
use Rattle.std.specs.Prelude.{MatchBool, codes, decimal}
use Rattle.std.proofs.lemmas.List.{append-nil, take_all, take_more}
use Rattle.std.proofs.lemmas.Option.{slice_get-get_or, some_pair_parts}
use Rattle.clap.specs.Words.{Text}
use Rattle.pardo_text.specs.Settings.{SettingData, first_in, text_as_set, with_first}
use Rattle.pardo_text.specs.declared.settings.SetKind.{SetKind}
use Rattle.naming.specs.BadTexts.{IsBad}
use Rattle.pram_commands.specs.Sweeps.{IsRunRecord}
use Rattle.pram_commands.specs.declared.sweeps.RunRecord.{RunRecord}
use Rattle.refusals.specs.declared.fault.CommandFault.{CommandFault}
use Rattle.refusals.specs.declared.refusal.Refusal.{Refusal}
use Rattle.command_answers.specs.Setting.{AllMet, BySetting, FileGives, IsUnfitBy, SetNames}
use Rattle.command_answers.specs.Sweeping.{AreSizes, ByRefusal, IsRefusedSweep, IsSizeOf, IsSweep}
use Rattle.command_answers.specs.Sweeping.{RefusesSize, RefusesSizes, sweep_text}
use Rattle.command_answers.specs.declared.sweep.Unswept.{Unswept}
use Rattle.command_answers.specs.declared.sweep.Unswept.TheVariants.{Unset, Fault}
use Rattle.command_answers.proofs.Refused.{by_weaker}

-- the last value that the first name is set to counts
pub set_again : (settings : List SettingData) (value other : ℕ) →
    with_first (with_first settings value) other ≡ with_first settings other
set_again [] value other = refl
set_again (first ∷ others) value other = refl

-- what is said of a refusal, and what follows from it
pub by_so : {P Q : Type 0} → (P → Q) → (unswept : Unswept) → ByRefusal P unswept →
    ByRefusal Q unswept
by_so {P} {Q} f (Unset unset) says =
    by_weaker {P = λ kind. P} {Q = λ kind. Q} (λ kind it. f it) unset.refusal says
by_so f (Fault found text) says = λ refused. f (says refused)

-- one size more after others
pub sizes_next : (settings : List SettingData) (text values : List ℕ) (value : ℕ)
    (bytes size : List ℕ) (status ends : ℕ) → AreSizes settings text values bytes status →
    IsSizeOf settings text value size ends →
    AreSizes settings text (values ++ value ∷ []) (bytes ++ size) (max status ends)
sizes_next settings text [] value bytes size status ends so_far is = (
  size,
  ends,
  [],
  0,
  is,
  (refl, refl),
  (let e : bytes ++ size ≡ size ++ [] = rw so_far.0 (sym (append-nil size)) in e),
  (let e : max status ends ≡ max ends 0 = rw so_far.1 (omega arith) in e),
)
sizes_next settings text (first ∷ values) value bytes size status ends
    (head, now, rest, later, one, others, same, most) is =
    let more = sizes_next settings text values value rest size later ends others is in (
      head,
      now,
      rest ++ size,
      max later ends,
      one,
      more,
      ap (λ b. b ++ size) same ∙ append_assoc head rest size,
      (let e : max status ends ≡ max now (max later ends) = rw most (omega arith) in e),
    )

-- a size of settings whose first name is set as that of others
pub size_as : (settings other : List SettingData) (text : List ℕ) (value : ℕ) (bytes : List ℕ)
    (status : ℕ) → with_first other value ≡ with_first settings value →
    IsSizeOf other text value bytes status → IsSizeOf settings text value bytes status
size_as settings other text value bytes status same is = record {
  set = is.set;
  size = is.size;
  is_set = is.is_set ∙ ap (λ (all : List SettingData). text_as_set all text) same;
  met = subst (λ (all : List SettingData). AllMet all text is.set) same is.met;
  is = is.is;
  prints = is.prints;
  ends = is.ends;
}

-- the text as the first name is set to a value: its record, and what is refused
module _ (settings now : List SettingData) (text set given : List ℕ) (value : ℕ)
    (same : now ≡ with_first settings value) (is_set : set ≡ text_as_set now text)
    (shown : given ≡ set) where
  pub size_made : (size : RunRecord) → AllMet now text set → IsRunRecord given size →
      IsSizeOf settings text value (decimal value ++ codes "," ++ size.bytes.items) size.status
  size_made size met is = record {
    set = set;
    size = size;
    is_set = is_set ∙ ap (λ (all : List SettingData). text_as_set all text) same;
    met = subst (λ (all : List SettingData). AllMet all text set) same met;
    is = subst (λ (t : List ℕ). IsRunRecord t size) shown is;
    prints = refl;
    ends = refl;
  }

pub unfit_refused : (settings now : List SettingData) (text : List ℕ) (value : ℕ)
    (refused : Refusal) → now ≡ with_first settings value →
    BySetting (IsUnfitBy now text) refused →
    BySetting (λ kind. RefusesSize settings text value) refused
unfit_refused settings now text value refused same says =
    by_weaker {P = IsUnfitBy now text} {Q = λ kind. RefusesSize settings text value}
    (λ kind unfit. inl (
      kind,
      subst (λ (all : List SettingData). IsUnfitBy all text kind) same unfit,
    )) refused says

-- what is refused as the first name is set to a value
abbrev pub IsRefusedAs : List ℕ → List SettingData → Type 0
IsRefusedAs text set = ((kind : SetKind) × IsUnfitBy set text kind)
    ⊎ ((fault : CommandFault) × IsBad (text_as_set set text) fault)

-- the sizes so far, one after the other, of these settings
module _ (settings : List SettingData) (text values : List ℕ) (d : ℕ) where
  pub sizes_more : (at : ℕ) (now : List SettingData) (bytes size : List ℕ) (status ends : ℕ) →
      at < length values → AreSizes settings text (take at values) bytes status →
      with_first now (get_or values at d) ≡ with_first settings (get_or values at d) →
      IsSizeOf now text (get_or values at d) size ends →
      AreSizes settings text (take (at + 1) values) (bytes ++ size) (max status ends)
  sizes_more at now bytes size status ends within so_far same is =
      subst (λ (l : List ℕ). AreSizes settings text l (bytes ++ size) (max status ends))
      (sym (take_more values at d within))
      (sizes_next settings text (take at values) (get_or values at d) bytes size status ends so_far
      (size_as settings now text (get_or values at d) size ends same is))

  pub sizes_all : (at : ℕ) (bytes : List ℕ) (status : ℕ) → length values ≤ at →
      AreSizes settings text (take at values) bytes status →
      AreSizes settings text values bytes status
  sizes_all at bytes status over all =
      subst (λ (l : List ℕ). AreSizes settings text l bytes status) (take_all at values over) all

  pub size_refused : (at : ℕ) (now : List SettingData) (bytes : List ℕ) (status : ℕ) →
      at < length values → AreSizes settings text (take at values) bytes status →
      with_first now (get_or values at d) ≡ with_first settings (get_or values at d) →
      RefusesSize now text (get_or values at d) → RefusesSizes settings text values
  size_refused at now bytes status within so_far same refuses = record {
    at = at;
    value = get_or values at d;
    is = slice_get-get_or values at d within;
    records = bytes;
    ends = status;
    before = so_far;
    refuses = subst (IsRefusedAs text) same refuses;
  }

-- what the words set, where they set a name
module _ (Holds : List ℕ → Option (List ℕ) → Type 0) (file : List ℕ) (words : List Text)
    (text name values shown given : List ℕ) (gives : FileGives Holds file text)
    (same_text : shown ≡ text) (same_values : given ≡ values) where
  pub sweep_made : (settings : List SettingData) → SetNames Holds [] words settings →
      Some (name, values) ≡ first_in settings → (records bytes : List ℕ) (status : ℕ) →
      AreSizes settings shown given records status → bytes ≡ sweep_text name records →
      IsSweep Holds file words bytes status
  sweep_made [] names is records bytes status sizes prints = cc is
  sweep_made (swept ∷ others) names is records bytes status sizes prints =
      let parts = some_pair_parts name swept.name values swept.values is in
      let whole = same_values ∙ parts.1 in record {
        text = text;
        gives = gives;
        swept = swept;
        others = others;
        names = names;
        records = records;
        sizes = subst (λ (t : List ℕ). AreSizes (swept ∷ others) t swept.values records status)
            same_text
            (subst (λ (l : List ℕ). AreSizes (swept ∷ others) shown l records status) whole sizes);
        prints = prints ∙ ap (λ (l : List ℕ). sweep_text l records) parts.0;
      }

  pub sweep_refused : (settings : List SettingData) → SetNames Holds [] words settings →
      Some (name, values) ≡ first_in settings → RefusesSizes settings shown given →
      IsRefusedSweep Holds file words
  sweep_refused [] names is refuses = cc is
  sweep_refused (swept ∷ others) names is refuses =
      let parts = some_pair_parts name swept.name values swept.values is in
      let whole = same_values ∙ parts.1 in inr (record {
        text = text;
        gives = gives;
        swept = swept;
        others = others;
        names = names;
        refuses = inr (subst (λ (t : List ℕ). RefusesSizes (swept ∷ others) t swept.values)
            same_text
            (subst (λ (l : List ℕ). RefusesSizes (swept ∷ others) shown l) whole refuses));
      })

-- no value is listed for the first name
pub none_refused : (Holds : List ℕ → Option (List ℕ) → Type 0) (file : List ℕ) (words : List Text)
    (text name values : List ℕ) → FileGives Holds file text → (settings : List SettingData) →
    SetNames Holds [] words settings → Some (name, values) ≡ first_in settings → values ≡ [] →
    IsRefusedSweep Holds file words
none_refused Holds file words text name values gives [] names is none = cc is
none_refused Holds file words text name values gives (swept ∷ others) names is none =
    let parts = some_pair_parts name swept.name values swept.values is in inr (record {
      text = text;
      gives = gives;
      swept = swept;
      others = others;
      names = names;
      refuses = inl (sym parts.1 ∙ none);
    })

-- a line that asks for no sweep
pub served_so : (S L : Type 0) (b : Bool) → b ≡ false → L → MatchBool b S L
served_so S L true is served = absurd (let never : true ≡ false = is in cc never)
served_so S L false is served = served
