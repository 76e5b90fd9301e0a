-- A word that differs; a word of a step that agrees; a claim of a step.
use Rattle.std.proofs.Common.{◌≡◌, ◌≢◌, ℕ, suc, true, false, List, slice_index, sym, ap}
use Rattle.std.proofs.Common.{subst, ◌∙◌, inl, inr, arith}
use Rattle.std.proofs.lemmas.Bool.{cases_eq, eq-eqb, ne_eqb}
use Rattle.pram_job.specs.Job.{JobData}
use Rattle.pram_step.specs.History.{Asks, Wins}
use Rattle.pram_step.specs.Runs.{AgreesAfter, state_after}
use Rattle.pram_step.proofs.Past.{written_value, asks_fit}
use Rattle.pram_words.specs.declared.layout.Form.{Form}
use Rattle.pram_words.specs.declared.words.Word.TheVariants.{Stored}
use Rattle.pram_words.specs.Stamps.{stamp_of, payload_of}
use Rattle.pram_words.specs.Words.{LayoutData, IsWord}
use Rattle.walkx.specs.Tasks.{differs}
use Rattle.walk_memory.specs.Blocks.{IsBoard}
use Rattle.lawful_walk.specs.Board.{held, root, stamp_at, finished, ClaimsFor, IsClaimed, Stands}
use Rattle.lawful_walk.specs.Board.{claimed_before, claimed_now}
use Rattle.lawful_walk.specs.Lands.{Lands, landing_before, last_landing, word_of_step}
use Rattle.lawful_walk.proofs.Landings.{payload_step, stamp_step}
use Rattle.lawful_walk.proofs.Facts.{facts, word_is}
use Rattle.lawful_walk.proofs.Winners.{landed_value}
use Rattle.lawful_walk.proofs.Values.{WordIs, is_before, is_new, is_settled}

pub differs_is : (t v a : ℕ) → differs t v a ≡ true → (stamp_of a ≡ t) × (payload_of a ≢ v)
differs_is t v a h = elim (cases_eq (stamp_of a) t) [
  | inl e ↦ elim (cases_eq (payload_of a) v) [
    | inl g ↦ absurd
        (let k : false ≡ true = rw (eq-eqb (stamp_of a) t e, eq-eqb (payload_of a) v g) at h in cc)
    | inr n ↦ (e, n)
  ]
  | inr n ↦ absurd (let k : false ≡ true = rw (ne_eqb (stamp_of a) t n) at h in cc)
]

pub differs_not : (t v a : ℕ) → differs t v a ≡ false → stamp_of a ≡ t → payload_of a ≡ v
differs_not t v a h e = elim (cases_eq (payload_of a) v) [
  | inl g ↦ g
  | inr n ↦ absurd
      (let k : true ≡ false = rw (eq-eqb (stamp_of a) t e, ne_eqb (payload_of a) v n) at h in cc)
]

-- a claim word of the step is some writer's
pub claimant : (form : Form) (job : JobData) (f root x c word : ℕ) →
    IsClaimed form job f root c word → stamp_of word ≡ suc x → ClaimsFor job x c (payload_of word)
claimant form job f root x c word (claimed_before is claims) e = (claims x e).0
claimant form job f root x c word (claimed_now is for low) e =
    let same : f ≡ x = omega arith in
    subst (λ (s : ℕ). ClaimsFor job s c (payload_of word)) same for

-- ---- a word that was written in a step that agrees

module _ (job : JobData) (x p i v : ℕ) (y : LayoutData) (board : IsBoard job y)
    (agrees : AgreesAfter job x) (asked : Asks job x p i v) (wins : (j : ℕ) → Wins job x p j) where
  step_value : slice_index (state_after job (suc x)) p ≡ v
  step_value = written_value job x p i v board.limits
      ((asks_fit job x p i v board.limits asked).0) agrees asked (wins i)

  by_step : (t word : ℕ) → word ≡ word_of_step job t p → stamp_of word ≡ suc x → payload_of word ≡ v
  by_step t word e s =
      let same : t ≡ suc x =
      sym (stamp_step y.form job board.limits t p) ∙ sym (ap stamp_of e) ∙ s in
      ap payload_of e ∙ payload_step y.form job board.limits t p
      ∙ ap (λ (t : ℕ). slice_index (state_after job t) p) same ∙ step_value

  by_new : (f word j : ℕ) → f ≡ x → Lands y.form job f p j (payload_of word) → payload_of word ≡ v
  by_new f word j e lands =
      let here : Lands y.form job x p j (payload_of word) =
      subst (λ (s : ℕ). Lands y.form job s p j (payload_of word)) e lands in
      sym (landed_value y.form job x p j (payload_of word) board.limits
      (asks_fit job x p i v board.limits asked).0 agrees here (wins j)) ∙ step_value

  agreed : (f root word : ℕ) → WordIs y.form job f root p word →
      stamp_of word ≡ suc x → payload_of word ≡ v
  agreed f root word (is_settled e) s = by_step (last_landing y.form job f p) word e s
  agreed f root word (is_before e) s =
      by_step (landing_before y.form job (last_landing y.form job f p) p) word e s
  agreed f root word (is_new n) s =
      let is = n.stamp in by_new f word n.writer (omega arith) n.lands

  pub agreed_word : (words : List ℕ) (k : ℕ) → Stands job y words → IsWord y (Stored p k) →
      stamp_at y words p k ≡ suc x → payload_of (held y words (Stored p k)) ≡ v
  agreed_word words k stands is s =
      let b = facts job y words stands in
      agreed (finished y words) (root y words) (held y words (Stored p k))
      (word_is job y words (finished y words) stands.limits stands.sizes stands.layout stands.lawful
      b.root_low b.root_high p k is) s
