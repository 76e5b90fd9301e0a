-- What holds in both forms.
use Rattle.std.proofs.Common.{◌≡◌, refl}
use Rattle.pram_words.specs.declared.layout.Form.{Form}
use Rattle.pram_words.specs.declared.layout.Form.TheVariants.{Compact, Wide}
use Rattle.pram_words.specs.Forms.{by_form}
use Rattle.walk_memory.specs.Blocks.{IsWide}

pub form_both : {A : Type 0} (form : Form) (compact wide : A) (P : A → Type 0) → P compact →
    P wide → P (by_form form compact wide)
form_both Compact compact wide P p q = p
form_both (Wide g) compact wide P p q = q

pub form_compact : {A : Type 0} (form : Form) (compact wide : A) → form ≡ Compact →
    by_form form compact wide ≡ compact
form_compact form compact wide is = rw is refl

pub form_wide_of : {A : Type 0} (form : Form) (compact wide : A) → IsWide form →
    by_form form compact wide ≡ wide
form_wide_of Compact compact wide is = absurd is
form_wide_of (Wide g) compact wide is = refl

-- by cases, each knowing its form
pub form_cases : {A : Type 0} (form : Form) (compact wide : A) (P : A → Type 0) →
    (form ≡ Compact → P compact) → (IsWide form → P wide) → P (by_form form compact wide)
form_cases Compact compact wide P p q = p refl
form_cases (Wide g) compact wide P p q = q tt

pub not_both : (form : Form) → form ≡ Compact → IsWide form → ⊥
not_both form compact wide = rw compact at wide
