-- Which words the steps write where a processor's own lag, and what the words of a place tell.
use Rattle.std.proofs.Common.{◌≡◌, ◌⊎◌, ◌↔◌, ℕ, zero, suc, ◌<◌, ◌≤◌, true, false}
use Rattle.std.proofs.Common.{true≢false, slice_index, refl, sym, ap, subst, ◌∙◌}
use Rattle.std.proofs.Common.{inl, inr, arith}
use Rattle.std.specs.Prelude.{is_some, nat_lt}
use Rattle.std.proofs.lemmas.Bool.{cases_order, cases_lt, cases_Bool, eqb-true, lt-ltb, le-ltb}
use Rattle.std.proofs.lemmas.Bool.{and_parts, and_cases, or_parts, cond-true, cond-false, not-false}
use Rattle.pram_job.specs.Job.{JobData, IsJob}
use Rattle.pram_machine.specs.Machine.{place_count}
use Rattle.pram_step.specs.History.{Asks}
use Rattle.pram_step.specs.Runs.{requests_after, state_after}
use Rattle.pram_step.proofs.LawFixed.{length-state_after}
use Rattle.pram_step.proofs.LawNext.{after_none}
use Rattle.pram_step.proofs.LawWriters.{writer_cases}
use Rattle.pram_step.proofs.Past.{value_fits}
use Rattle.pram_words.specs.declared.layout.Form.{Form}
use Rattle.pram_words.specs.declared.layout.Form.TheVariants.{Compact, Wide}
use Rattle.pram_words.specs.Stamps.{stamp_of, payload_of}
use Rattle.walk_memory.specs.Memory.{settled_at, settles}
use Rattle.lawful_walk.specs.Lands.{IsShared, Lands, IsLanded, asked, own, is_written, lands}
use Rattle.lawful_walk.specs.Lands.{landing_before, lands_own, last_landing, owner, settled}
use Rattle.lawful_walk.specs.Lands.{landed_step, word_of_step}
use Rattle.lawful_walk.proofs.Settles.{settled_most, settled_new, settled_same}

-- ---- places that are shared, and those of a processor's own

module _ (form : Form) (job : JobData) (p : ℕ) where
  pub shared_cases : IsShared form job p ⊎ (IsShared form job p → ⊥)
  shared_cases = by form
    where
      by : (form : Form) → IsShared form job p ⊎ (IsShared form job p → ⊥)
      by Compact = inl tt
      by (Wide g) = elim (cases_lt p job.cells) [
        | inl low ↦ inl low
        | inr high ↦ inr (λ low. omega (arith, low, high))
      ]

pub above_cells : (g : ℕ) (job : JobData) (p : ℕ) → (IsShared (Wide g) job p → ⊥) → job.cells ≤ p
above_cells g job p apart = elim (cases_lt p job.cells) [
  | inl low ↦ absurd (apart low)
  | inr high ↦ high
]

pub above_form : (form : Form) (job : JobData) (p : ℕ) → (IsShared form job p → ⊥) → job.cells ≤ p
above_form Compact job p apart = absurd (apart tt)
above_form (Wide g) job p apart = above_cells g job p apart

pub told_shared : (form : Form) (job : JobData) (t p : ℕ) → IsShared form job p →
    landed_step form job t p ≡ t
told_shared Compact job t p shared = refl
told_shared (Wide g) job t p shared = rw (lt-ltb p job.cells shared) refl

pub told_own : (form : Form) (job : JobData) (t p : ℕ) → (IsShared form job p → ⊥) →
    landed_step form job t p ≡ settled_at job t (owner job p)
told_own Compact job t p apart = absurd (apart tt)
told_own (Wide g) job t p apart = rw (le-ltb p job.cells (above_cells g job p apart)) refl

lands_shared : (form : Form) (job : JobData) (t p : ℕ) → IsShared form job p →
    lands form job t p ≡ is_written job t p
lands_shared Compact job t p shared = refl
lands_shared (Wide g) job t p shared =
    cond-true (nat_lt p job.cells) _ _ (lt-ltb p job.cells shared)

pub lands_above : (g : ℕ) (job : JobData) (t p : ℕ) → job.cells ≤ p →
    lands (Wide g) job t p ≡ lands_own job t p
lands_above g job t p high = cond-false (nat_lt p job.cells) _ _ (le-ltb p job.cells high)

lands_apart : (form : Form) (job : JobData) (t p : ℕ) → (IsShared form job p → ⊥) →
    lands form job t p ≡ lands_own job t p
lands_apart Compact job t p apart = absurd (apart tt)
lands_apart (Wide g) job t p apart = lands_above g job t p (above_cells g job p apart)

pub told_most : (form : Form) (job : JobData) (t p : ℕ) → landed_step form job t p ≤ t
told_most form job t p = elim (shared_cases form job p) [
  | inl shared ↦ (let e = told_shared form job t p shared in omega (arith, e))
  | inr apart ↦ (let e = told_own form job t p apart in
      let m = settled_most job (owner job p) t in omega (arith, e, m))
]

-- ---- a word and its writer

pub asked_written : (job : JobData) (s p i v : ℕ) → Asks job s p i v → is_written job s p ≡ true
asked_written job s p i v asks = elim (writer_cases job (requests_after job s) p) [
  | inl n ↦ absurd (n.none i v asks)
  | inr f ↦ ap is_some f.found
]

-- in a step in which its processor settles
pub own_settles : (job : JobData) (s p : ℕ) → lands_own job s p ≡ true →
    settles job s (owner job p) ≡ true
own_settles job s p does = (and_parts _ _ does).0

pub landing_true : (form : Form) (job : JobData) (s p i v : ℕ) → Lands form job s p i v →
    lands form job s p ≡ true
landing_true form job s p i v (asked shared asks) =
    lands_shared form job s p shared ∙ asked_written job s p i v asks
landing_true form job s p i v (own apart does who what) = lands_apart form job s p apart ∙ does

module _ (form : Form) (job : JobData) (s p : ℕ) where
  pub has_landing : lands form job s p ≡ true → IsLanded form job s p
  has_landing does = elim (shared_cases form job p) [
    | inl shared ↦ elim (writer_cases job (requests_after job s) p) [
      | inl n ↦ absurd (true≢false (sym does ∙ lands_shared form job s p shared
          ∙ ap is_some n.found))
      | inr f ↦ record { writer = f.writer; value = f.value; lands = asked shared f.first.writes }
    ]
    | inr apart ↦ record {
      writer = owner job p;
      value = slice_index (state_after job (suc s)) p;
      lands = own apart (sym (lands_apart form job s p apart) ∙ does) refl refl;
    }
  ]

  pub landing_iff : IsLanded form job s p ↔ (lands form job s p ≡ true)
  landing_iff = (λ w. landing_true form job s p w.writer w.value w.lands, has_landing)

  none_from_false : lands form job s p ≡ false → IsLanded form job s p → ⊥
  none_from_false rests w =
      true≢false (sym (landing_true form job s p w.writer w.value w.lands) ∙ rests)

  -- ---- step s + 1 has a word of the place, or leaves what they tell

  last_same : lands form job s p ≡ false →
      last_landing form job (suc s) p ≡ last_landing form job s p
  unfolding last_landing
  last_same rests = cond-false (lands form job s p) (suc s) (last_landing form job s p) rests

  last_this : lands form job s p ≡ true → last_landing form job (suc s) p ≡ suc s
  unfolding last_landing
  last_this does = cond-true (lands form job s p) (suc s) (last_landing form job s p) does

  abbrev SameTold : Type 0
  SameTold = slice_index (state_after job (landed_step form job (suc s) p)) p
      ≡ slice_index (state_after job (landed_step form job s p)) p

  -- the same step told, or two with one value
  told_by : (a b : ℕ) → landed_step form job (suc s) p ≡ a → landed_step form job s p ≡ b →
      slice_index (state_after job a) p ≡ slice_index (state_after job b) p → SameTold
  told_by a b new old same = ap (λ (n : ℕ). slice_index (state_after job n) p) new ∙ same
      ∙ sym (ap (λ (n : ℕ). slice_index (state_after job n) p) old)

  -- nobody writes it
  kept : IsJob job → p < place_count job → is_written job s p ≡ false →
      slice_index (state_after job (suc s)) p ≡ slice_index (state_after job s) p
  unfolding state_after
  kept is_job below rests = elim (writer_cases job (requests_after job s) p) [
    | inl n ↦ after_none job (requests_after job s) (state_after job s) p
        (let l = length-state_after job s is_job in omega (arith, l, below)) n.found
    | inr f ↦ absurd (true≢false (sym (ap is_some f.found) ∙ rests))
  ]

  -- its processor does not settle, or it holds what was told
  stays_own : (IsShared form job p → ⊥) → lands_own job s p ≡ false → SameTold
  stays_own apart rests =
      let i = owner job p in
      let old = told_own form job s p apart in
      let new = told_own form job (suc s) p apart in
      elim (cases_Bool (settles job s i)) [
        | inr away ↦ told_by (settled_at job s i) (settled_at job s i)
            (new ∙ settled_same job i s away) old refl
        | inl does ↦ elim (and_cases (settles job s i) _ rests) [
          | inl away ↦ absurd (true≢false (sym does ∙ away))
          | inr none ↦ told_by (suc s) (settled_at job s i) (new ∙ settled_new job i s does) old
              (eqb-true _ _ (not-false _ (or_parts _ _ none).1))
        ]
      ]

  left_told : IsJob job → lands form job s p ≡ false → p < place_count job → SameTold
  left_told is_job rests below = elim (shared_cases form job p) [
    | inl shared ↦ told_by (suc s) s (told_shared form job (suc s) p shared)
        (told_shared form job s p shared)
        (kept is_job below (sym (lands_shared form job s p shared) ∙ rests))
    | inr apart ↦ stays_own apart (sym (lands_apart form job s p apart) ∙ rests)
  ]

  -- What lands tells the step.
  told_new : lands form job s p ≡ true → landed_step form job (suc s) p ≡ suc s
  told_new does = elim (shared_cases form job p) [
    | inl shared ↦ told_shared form job (suc s) p shared
    | inr apart ↦ told_own form job (suc s) p apart ∙ settled_new job (owner job p) s
        (own_settles job s p (sym (lands_apart form job s p apart) ∙ does))
  ]

pub record Left (form : Form) (job : JobData) (s p : ℕ) : Type 0 where
  pub none : IsLanded form job s p → ⊥
  pub last : last_landing form job (suc s) p ≡ last_landing form job s p
  pub told : p < place_count job → slice_index (state_after job (landed_step form job (suc s) p)) p
      ≡ slice_index (state_after job (landed_step form job s p)) p

pub record Set (form : Form) (job : JobData) (s p : ℕ) : Type 0 where
  pub written : IsLanded form job s p
  pub last : last_landing form job (suc s) p ≡ suc s
  pub told : landed_step form job (suc s) p ≡ suc s

pub landing_cases : (form : Form) (job : JobData) → IsJob job → (s p : ℕ) →
    Left form job s p ⊎ Set form job s p
landing_cases form job is_job s p = elim (cases_Bool (lands form job s p)) [
  | inl does ↦ inr (record {
    written = has_landing form job s p does;
    last = last_this form job s p does;
    told = told_new form job s p does;
  })
  | inr rests ↦ inl (record {
    none = none_from_false form job s p rests;
    last = last_same form job s p rests;
    told = left_told form job s p is_job rests;
  })
]

-- ---- the last landing

module _ (form : Form) (job : JobData) (is_job : IsJob job) where
  pub last_new : (s p : ℕ) → IsLanded form job s p → last_landing form job (suc s) p ≡ suc s
  last_new s p w = elim (landing_cases form job is_job s p) [
    | inl l ↦ absurd (l.none w)
    | inr k ↦ k.last
  ]

  pub last_most : (t p : ℕ) → last_landing form job t p ≤ t
  last_most zero p = unfold last_landing in omega arith
  last_most (suc s) p = elim (landing_cases form job is_job s p) [
    | inl l ↦ (let h = last_most s p in let e = l.last in omega (arith, h, e))
    | inr w ↦ (let e = w.last in omega (arith, e))
  ]

  pub last_is : (t p s : ℕ) → last_landing form job t p ≡ suc s → IsLanded form job s p
  last_is zero p s e = absurd (let h = last_most 0 p in omega (arith, h, e))
  last_is (suc t) p s e = elim (landing_cases form job is_job t p) [
    | inl l ↦ last_is t p s (sym l.last ∙ e)
    | inr w ↦ (let f = w.last in
        let same : t ≡ s = omega (arith, e, f) in
        subst (λ (n : ℕ). IsLanded form job n p) same w.written)
  ]

  pub last_least : (t p s : ℕ) → s < t → IsLanded form job s p → s < last_landing form job t p
  last_least zero p s h w = absurd (omega arith)
  last_least (suc t) p s h w = elim (landing_cases form job is_job t p) [
    | inl l ↦ elim (cases_order s t) [
      | inl e ↦ absurd (l.none (subst (λ (n : ℕ). IsLanded form job n p) e w))
      | inr c ↦ elim c [
        | inl less ↦ (let k = last_least t p s less w in let e = l.last in omega (arith, k, e))
        | inr more ↦ absurd (omega arith)
      ]
    ]
    | inr k ↦ (let e = k.last in omega (arith, e))
  ]

  last_rises_by : (x f p l : ℕ) → x ≤ f → last_landing form job x p ≡ l →
      l ≤ last_landing form job f p
  last_rises_by x f p zero h e = omega arith
  last_rises_by x f p (suc s) h e =
      let m = last_most x p in
      last_least f p s (omega (arith, m, e)) (last_is x p s e)

  pub last_rises : (x f p : ℕ) → x ≤ f → last_landing form job x p ≤ last_landing form job f p
  last_rises x f p h = last_rises_by x f p (last_landing form job x p) h refl

  pub before_most : (t p : ℕ) → landing_before form job t p ≤ t
  before_most zero p = omega arith
  before_most (suc s) p = let m = last_most s p in omega (arith, m)

  pub last_between : (t f p : ℕ) → t ≤ f → last_landing form job f p ≤ t →
      last_landing form job f p ≡ last_landing form job t p
  last_between t zero p h low = ap (λ (n : ℕ). last_landing form job n p) (omega arith)
  last_between t (suc f) p h low = elim (cases_lt t (suc f)) [
    | inl c ↦ elim (landing_cases form job is_job f p) [
      | inl l ↦ (let e = l.last in e ∙ last_between t f p (omega arith) (omega (arith, e, low)))
      | inr w ↦ absurd (let e = w.last in omega (arith, e, low))
    ]
    | inr c ↦ ap (λ (n : ℕ). last_landing form job n p) (omega arith)
  ]

  -- ---- what is told

  abbrev Told : ℕ → ℕ → ℕ
  Told t p = slice_index (state_after job (landed_step form job t p)) p

  -- While no word lands, it is the same value.
  pub told_between : (t u p : ℕ) → p < place_count job → t ≤ u → last_landing form job u p ≤ t →
      Told u p ≡ Told t p
  told_between t zero p below h low = ap (λ (n : ℕ). Told n p) (omega arith)
  told_between t (suc u) p below h low = elim (cases_lt t (suc u)) [
    | inl c ↦ elim (landing_cases form job is_job u p) [
      | inl l ↦ (let e = l.last in
          l.told below ∙ told_between t u p below (omega arith) (omega (arith, e, low)))
      | inr w ↦ absurd (let e = w.last in omega (arith, e, low))
    ]
    | inr c ↦ ap (λ (n : ℕ). Told n p) (omega arith)
  ]

  -- It is what the place held after the last landing.
  pub told_last : (t p : ℕ) → p < place_count job →
      slice_index (state_after job (last_landing form job t p)) p ≡ Told t p
  told_last zero p below = ap (λ (n : ℕ). slice_index (state_after job n) p)
      (let m = last_most 0 p in let k = told_most form job 0 p in omega (arith, m, k))
  told_last (suc s) p below = elim (landing_cases form job is_job s p) [
    | inl l ↦ ap (λ (n : ℕ). slice_index (state_after job n) p) l.last ∙ told_last s p below
        ∙ sym (l.told below)
    | inr w ↦ ap (λ (n : ℕ). slice_index (state_after job n) p) (w.last ∙ sym w.told)
  ]

  -- ---- the words of steps

  pub stamp_step : (x p : ℕ) → stamp_of (word_of_step job x p) ≡ x
  stamp_step x p = let v = value_fits job x p is_job in omega (arith, v)

  pub payload_step : (x p : ℕ) →
      payload_of (word_of_step job x p) ≡ slice_index (state_after job x) p
  payload_step x p = let v = value_fits job x p is_job in omega (arith, v)

  -- The settled word tells what the words tell.
  pub settled_tells : (t p : ℕ) → p < place_count job →
      payload_of (settled form job t p) ≡ Told t p
  settled_tells t p below =
      payload_step (last_landing form job t p) p ∙ told_last t p below
