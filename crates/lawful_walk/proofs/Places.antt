-- What the two words of a place hold: the values of the steps that their stamps tell.
use Rattle.std.proofs.Common.{◌≡◌, ℕ, zero, suc, ◌<◌, ◌≤◌, ◌⊎◌, nat_le, false, List, slice_index}
use Rattle.std.proofs.Common.{refl, sym, ap, ◌∙◌, inl, inr, lit<, arith}
use Rattle.std.proofs.lemmas.Bool.{lt-leb, or_from}
use Rattle.pram_job.specs.Job.{IsJob, JobData}
use Rattle.pram_step.proofs.LawFixed.{reached_down}
use Rattle.pram_step.specs.Runs.{IsReached, state_after}
use Rattle.pram_words.specs.Stamps.{stamp_of, payload_of}
use Rattle.pram_words.specs.Words.{LayoutData, IsWord, places_of}
use Rattle.pram_words.specs.declared.layout.Form.{Form}
use Rattle.pram_words.specs.declared.words.Word.TheVariants.{Stored}
use Rattle.walkx.specs.Tasks.{is_late}
use Rattle.lawful_walk.proofs.Landings.{last_least, last_most, payload_step, stamp_step}
use Rattle.lawful_walk.proofs.Landings.{told_last, told_shared}
use Rattle.lawful_walk.proofs.Winners.{cell_shared, landed_value}
use Rattle.lawful_walk.specs.Lands.{landing_before, last_landing, settled, landed_step}
use Rattle.lawful_walk.proofs.Moments.{same}
use Rattle.lawful_walk.specs.Board.{held, root, stamp_at, finished, Grows, Stands, IsPair}
use Rattle.lawful_walk.specs.Board.{newer_first, newer_second, new_first, new_second}
use Rattle.lawful_walk.proofs.Facts.{facts, place_below, word_is}
use Rattle.lawful_walk.proofs.Growths.{beside, place_as_heard}
use Rattle.lawful_walk.proofs.Values.{WordIs, is_settled, is_before, is_new}
use Rattle.lawful_walk.specs.WordLaws.{FinishedStepsAreHeld, LastFinishedStepIsHeld}

-- a word with the stamp of a step that is reached
pub word_value : (job : JobData) (y : LayoutData) (words : List ℕ) (x p k : ℕ) →
    Stands job y words → IsWord y (Stored p k) → stamp_at y words p k ≡ x →
    IsReached job x → payload_of (held y words (Stored p k)) ≡ slice_index (state_after job x) p
word_value job y words x p k stands is e reached =
    by (held y words (Stored p k)) e
    (word_is job y words (finished y words) stands.limits stands.sizes stands.layout stands.lawful
    (facts job y words stands).root_low (facts job y words stands).root_high p k is)
  where
    by : (word : ℕ) → stamp_of word ≡ x → WordIs y.form job (finished y words)
        (root y words) p word → payload_of word ≡ slice_index (state_after job x) p
    by word s (is_settled w) =
        let z : last_landing y.form job (finished y words) p ≡ x =
        sym (stamp_step y.form job stands.limits (last_landing y.form job (finished y words) p) p)
        ∙ sym (ap stamp_of w) ∙ s in
        ap payload_of w ∙ payload_step y.form job stands.limits
        (last_landing y.form job (finished y words) p) p
        ∙ ap (λ (n : ℕ). slice_index (state_after job n) p) z
    by word s (is_before w) =
        let b = landing_before y.form job (last_landing y.form job (finished y words) p) p in
        let z : landing_before y.form job (last_landing y.form job (finished y words) p) p ≡ x =
        sym (stamp_step y.form job stands.limits b p) ∙ sym (ap stamp_of w) ∙ s in
        ap payload_of w ∙ payload_step y.form job stands.limits b p
        ∙ ap (λ (n : ℕ). slice_index (state_after job n) p) z
    by word s (is_new n) =
        let f = finished y words in
        let z : suc (finished y words) ≡ x = sym n.stamp ∙ s in
        let below = place_below job y words
        (finished y words) stands.limits stands.sizes stands.layout stands.lawful
        (facts job y words stands).root_low (facts job y words stands).root_high p is.0 in
        sym (landed_value y.form job f p n.writer (payload_of word) stands.limits below
        (reached f (omega arith)) n.lands n.wins)
        ∙ ap (λ (n : ℕ). slice_index (state_after job n) p) z

-- Where no word of the place lands after the word's step, up to x, that is the last one.
stamp_last : (job : JobData) (y : LayoutData) (words : List ℕ) (x p k : ℕ) →
    Stands job y words → IsWord y (Stored p k) → stamp_at y words p k ≤ x →
    last_landing y.form job x p ≤ stamp_at y words p k →
    last_landing y.form job x p ≡ stamp_at y words p k
stamp_last job y words x p k stands is low last = by (stamp_at y words p k) refl
  where
    by : (z : ℕ) → stamp_at y words p k ≡ z →
        last_landing y.form job x p ≡ stamp_at y words p k
    by zero e = omega (arith, e, last)
    by (suc s) e =
        let landed = ((facts job y words stands).stored_from s p k is e).1 in
        let more = last_least y.form job stands.limits x p s (omega (arith, e, low)) landed in
        omega (arith, e, last, more)

old_value : (job : JobData) (y : LayoutData) (words : List ℕ) (x p k : ℕ) →
    Stands job y words → IsWord y (Stored p k) → x ≤ finished y words →
    stamp_at y words p k ≤ x → last_landing y.form job x p ≤ stamp_at y words p k →
    payload_of (held y words (Stored p k))
    ≡ slice_index (state_after job (landed_step y.form job x p)) p
old_value job y words x p k stands is h low last =
    let z = stamp_at y words p k in
    let below = place_below job y words (finished y words) stands.limits stands.sizes stands.layout
    stands.lawful (facts job y words stands).root_low (facts job y words stands).root_high p is.0 in
    let at : payload_of (held y words (Stored p k)) ≡ slice_index (state_after job z) p =
    word_value job y words z p k stands is refl
    (reached_down job z (finished y words) (omega (arith, h, low)) stands.lawful.reached) in
    at ∙ ap (λ (n : ℕ). slice_index (state_after job n) p)
    (sym (stamp_last job y words x p k stands is low last))
    ∙ told_last y.form job stands.limits x p below

-- the first word is older than the step seen, the second one newer; and the other way
pub first_value : (job : JobData) (y : LayoutData) (words : List ℕ) (x p : ℕ) →
    Stands job y words → p < places_of y → x ≤ finished y words →
    stamp_at y words p 0 ≤ x → x < stamp_at y words p 1 →
    payload_of (held y words (Stored p 0))
    ≡ slice_index (state_after job (landed_step y.form job x p)) p
first_value job y words x p stands place h low high =
    old_value job y words x p 0 stands (place, lit< tt) h low
    ((beside job y words x p _ _ stands (stands.lawful.stored p place) h).0 high)

pub second_value : (job : JobData) (y : LayoutData) (words : List ℕ) (x p : ℕ) →
    Stands job y words → p < places_of y → x ≤ finished y words →
    stamp_at y words p 1 ≤ x → x < stamp_at y words p 0 →
    payload_of (held y words (Stored p 1))
    ≡ slice_index (state_after job (landed_step y.form job x p)) p
second_value job y words x p stands place h low high =
    old_value job y words x p 1 stands (place, lit< tt) h low
    ((beside job y words x p _ _ stands (stands.lawful.stored p place) h).1 high)

-- The two words of a place that are heard one after the other have no stamp in common, but 0.
pub apart_on : (job : JobData) (y : LayoutData) (words later : List ℕ) (p : ℕ) →
    Stands job y words → p < places_of y → Grows y words later →
    stamp_at y words p 0 ≡ stamp_at y later p 1 → stamp_at y words p 0 ≡ 0
apart_on job y words later p stands place up e = elim (up (Stored p 1) (place, lit< tt)) [
  | inl f ↦ (let g : stamp_at y words p 1 ≡ stamp_at y later p 1 = ap stamp_of f in
      (facts job y words stands).stamps_apart p place (omega arith))
  | inr more ↦ absurd (let m = more.0 in omega arith)
]

pub apart_back : (job : JobData) (y : LayoutData) (words later : List ℕ) (p : ℕ) →
    Stands job y words → p < places_of y → Grows y words later →
    stamp_at y words p 1 ≡ stamp_at y later p 0 → stamp_at y words p 1 ≡ 0
apart_back job y words later p stands place up e = elim (up (Stored p 0) (place, lit< tt)) [
  | inl f ↦ (let g : stamp_at y words p 0 ≡ stamp_at y later p 0 = ap stamp_of f in
      let z = (facts job y words stands).stamps_apart p place (omega arith) in omega arith)
  | inr more ↦ absurd (let m = more.1 in omega arith)
]

-- ---- a finished step

pub is_early : (x a b : ℕ) → stamp_of a ≤ x → stamp_of b ≤ x → is_late (suc x) a b ≡ false
is_early x a b low also = or_from (nat_le (suc x) (stamp_of a)) (nat_le (suc x) (stamp_of b))
    (lt-leb (suc x) (stamp_of a) (omega arith)) (lt-leb (suc x) (stamp_of b) (omega arith))

pub finished_held : FinishedStepsAreHeld
finished_held job y words x p stands place h =
    let low = (facts job y words stands).root_low in
    let up = same y words in (
      first_value job y words x p stands place h,
      second_value job y words x p stands place h,
      λ first second.
          (place_as_heard job y x p _ _ words words words stands stands stands up up place
          (reached_down job x (finished y words) h stands.lawful.reached) (omega arith) refl refl
          (is_early x (held y words (Stored p 0)) (held y words (Stored p 1)) first second)).value,
    )

settled_low : (form : Form) (job : JobData) (f p word : ℕ) → IsJob job →
    word ≡ settled form job f p → stamp_of word ≤ f
settled_low form job f p word is e =
    let stamp = ap stamp_of e ∙ stamp_step form job is (last_landing form job f p) p in
    omega (arith, stamp, last_most form job is f p)

-- of a place's two words one is settled
one_low : (form : Form) (job : JobData) (f r p a b : ℕ) → IsJob job → IsPair form job f r p a b →
    (stamp_of a ≤ f) ⊎ (stamp_of b ≤ f)
one_low form job f r p a b is (newer_first first second) =
    inl (settled_low form job f p a is first)
one_low form job f r p a b is (newer_second second first some) =
    inr (settled_low form job f p b is second)
one_low form job f r p a b is (new_first new second) = inr (settled_low form job f p b is second)
one_low form job f r p a b is (new_second new first some) =
    inl (settled_low form job f p a is first)

pub last_held : LastFinishedStepIsHeld
last_held job y words p stands place =
    one_low y.form job (finished y words) (root y words) p _ _ stands.limits
    (stands.lawful.stored p place)

-- a cell's words tell what it holds
pub cell_value : (form : Form) (job : JobData) (t p : ℕ) → p < job.cells →
    slice_index (state_after job (landed_step form job t p)) p ≡ slice_index (state_after job t) p
cell_value form job t p cell = ap (λ (n : ℕ). slice_index (state_after job n) p)
    (told_shared form job t p (cell_shared form job p cell))
