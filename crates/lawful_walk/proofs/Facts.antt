-- What lawful words show.
use Rattle.std.proofs.Common.{◌≡◌, ◌≢◌, ◌⊎◌, ℕ, zero, suc, ◌+◌, ◌-◌, ◌*◌, ◌<◌, ◌≤◌, ◌^◌, IsTrue}
use Rattle.std.proofs.Common.{List, slice_index, refl, sym, ap, subst, ◌∙◌, inl, inr, lit<, arith}
use Rattle.std.proofs.lemmas.Bool.{cases_eq, cases_lt, cases_order, lt-ltb, le-ltb}
use Rattle.pram_job.specs.Job.{JobData, IsJob}
use Rattle.pram_job.specs.declared.instr.Rule.{Rule}
use Rattle.pram_job.specs.declared.instr.Rule.TheVariants.{Common, Priority, Crew}
use Rattle.pram_machine.specs.Machine.{place_count}
use Rattle.pram_step.specs.Disputes.{Forbids}
use Rattle.pram_step.specs.History.{Asks, Wins, IsWritten}
use Rattle.pram_step.specs.Runs.{IsReached, AgreesAfter, state_after}
use Rattle.pram_step.proofs.LawFixed.{reached_down}
use Rattle.pram_step.proofs.LawPlaces.{writer_is}
use Rattle.pram_words.specs.declared.layout.Form.{Form}
use Rattle.pram_words.specs.declared.layout.Form.TheVariants.{Compact, Wide}
use Rattle.pram_words.specs.declared.phases.Kind.{Kind}
use Rattle.pram_words.specs.declared.phases.Kind.TheVariants.{Compute, Apply, Verify}
use Rattle.pram_words.specs.declared.words.Word.TheVariants.{Node, Asked, Stored, Claim}
use Rattle.pram_words.specs.Stamps.{stamp_of, payload_of, stamped_word, newer_word}
use Rattle.pram_words.specs.Words.{LayoutData, IsLayout, IsStamped, IsWord, has_claims, most_stored}
use Rattle.pram_words.specs.Words.{places_of}
use Rattle.pram_words.specs.Phases.{next_phase}
use Rattle.pram_words.proofs.NextPhases.{next_above}
use Rattle.walkx.specs.Tasks.{claim_of}
use Rattle.walk_memory.specs.Blocks.{IsLayoutOf, IsBoard}
use Rattle.walk_memory.proofs.Boards.{same_cells, same_procs}
use Rattle.lawful_walk.specs.Board.{held, root, conflict, leaf, leaf_of, stamp_at, finished, IsLate}
use Rattle.lawful_walk.specs.Board.{HoldsNew, Raised, Claimed, ClaimStays, phase_in, CarriedCell}
use Rattle.lawful_walk.specs.Board.{CarriedOwn, CompactDone, DoneIn, IsNew, IsPair, Stays, WideDone}
use Rattle.lawful_walk.specs.Board.{newer_first, newer_second, new_first, new_second, IsClaimed}
use Rattle.lawful_walk.specs.Board.{claimed_before, claimed_now, LawfulFor, OwnNone, Rests, Stands}
use Rattle.lawful_walk.specs.Board.{StoresNone}
use Rattle.lawful_walk.proofs.Leaves.{leaf_word}
use Rattle.lawful_walk.proofs.Values.{IsFin, fin, conflict_is, fin_reached, phase_low, phase_high}
use Rattle.lawful_walk.proofs.Values.{claim_low, claim_most, tree_below, before_is, before_less}
use Rattle.lawful_walk.proofs.Values.{before_between, WordIs, is_settled, is_before, is_new}
use Rattle.lawful_walk.proofs.Values.{first_is, second_is, has_settled, newer_is_first}
use Rattle.lawful_walk.proofs.Values.{newer_is_second}
use Rattle.lawful_walk.specs.Lands.{IsLanded, Lands, last_landing, landing_before, phase_claimed}
use Rattle.lawful_walk.specs.Lands.{compact_phase_written, phase_written, settled, settled_before}
use Rattle.lawful_walk.specs.Lands.{landed_step, word_of_step}
use Rattle.lawful_walk.proofs.Landings.{last_most, last_is, last_least, last_between, before_most}
use Rattle.lawful_walk.proofs.Landings.{stamp_step, settled_tells}
use Rattle.lawful_walk.proofs.Winners.{Winner, winner, cell_lands, lands_cell, lands_writer}
use Rattle.lawful_walk.proofs.Winners.{written_of}

-- ---- what holds of words that stand

pub record WordsShow (job : JobData) (y : LayoutData) (words : List ℕ) : Type 0 where
  pub root_below : (n : ℕ) → IsWord y (Node n) → root y words ≤ held y words (Node n)
  pub root_low : 3 * finished y words ≤ root y words
  pub root_high : root y words ≤ 3 * finished y words + 3
  pub full_root : root y words ≡ 3 * finished y words + 3 →
      conflict y words ≡ suc (finished y words)
  pub conflict_next : (conflict y words ≡ 0) ⊎ (conflict y words ≡ suc (finished y words))
  pub root_finished : (t : ℕ) → 3 * t + 1 ≤ root y words → t ≤ finished y words
  pub reached_finished : (t : ℕ) → 3 * t ≤ root y words → IsReached job t → t ≤ finished y words
  pub requests_raised : y.form ≡ Compact → (k i j : ℕ) → i < y.procs → j < 3 →
      3 * k + 1 ≤ root y words → k < stamp_of (held y words (Asked i j))
  pub stored_from : (x p k : ℕ) → IsWord y (Stored p k) → stamp_at y words p k ≡ suc x →
      IsReached job x × IsLanded y.form job x p
      × (phase_written y.form job p x ≤ next_phase y.form (root y words))
  pub asked_from : y.form ≡ Compact → (x i j : ℕ) → i < y.procs → j < 3 →
      stamp_of (held y words (Asked i j)) ≡ suc x → IsReached job x × (3 * x ≤ root y words)
  pub claim_from : (x c : ℕ) → IsWord y (Claim c) → stamp_of (held y words (Claim c)) ≡ suc x →
      IsReached job x × IsWritten job x c
      × (phase_claimed y.form x ≤ next_phase y.form (root y words))
  pub stored_upto : (t p k : ℕ) →
      IsWord y (Stored p k) → t ≤ finished y words → stamp_at y words p k ≤ t →
      (held y words (Stored p k) ≡ settled y.form job t p)
      ⊎ ((held y words (Stored p k) ≡ settled_before y.form job t p)
      × (last_landing y.form job t p ≤ stamp_at y words p (1 - k)))
  pub stamps_apart : (p : ℕ) → p < places_of y →
      stamp_at y words p 0 ≡ stamp_at y words p 1 → stamp_at y words p 0 ≡ 0
  pub written_late : (x p : ℕ) → p < places_of y →
      phase_written y.form job p x ≤ root y words → IsLanded y.form job x p → IsLate y x p words
  pub leaves_agree : conflict y words ≡ 0 →
      ((i : ℕ) → i < y.procs → 3 * finished y words + 3 ≤ leaf y words i) →
      AgreesAfter job (finished y words)
  pub conflict_asked : y.form ≡ Compact → (i j : ℕ) → i < y.procs → j < 3 →
      conflict y words ≢ 0 → stamp_of (held y words (Asked i j)) ≡ conflict y words
  pub final_held : (p : ℕ) → p < places_of y → root y words ≡ 3 * job.steps → conflict y words ≡ 0 →
      payload_of (newer_word (held y words (Stored p 0)) (held y words (Stored p 1)))
      ≡ slice_index (state_after job (landed_step y.form job job.steps p)) p
  pub claims_high : (x c i v : ℕ) → IsWord y (Claim c) → phase_claimed y.form x ≤ root y words →
      Asks job x c i v → stamped_word (suc x) (claim_of job i) ≤ held y words (Claim c)

-- ---- what is done with a kind, by the form and the rule

pub done_raised : (rule : Rule) (job : JobData) (y : LayoutData) (s : ℕ) (words : List ℕ) (i : ℕ) →
    CompactDone rule Compute job y s words i → Raised job y s words i
done_raised Common job y s words i d = d
done_raised Priority job y s words i d = d
done_raised Crew job y s words i d = d

pub done_stays : (form : Form) (job : JobData) (y : LayoutData) (s : ℕ) (words : List ℕ) (i : ℕ) →
    DoneIn form Common Verify job y s words i → Stays job y s words i
done_stays Compact job y s words i d = d
done_stays (Wide g) job y s words i d = d.1

pub done_claim_stays : (form : Form) (job : JobData) (y : LayoutData) (s : ℕ) (words : List ℕ)
    (i : ℕ) → DoneIn form Crew Verify job y s words i → ClaimStays job y s words i
done_claim_stays Compact job y s words i d = d
done_claim_stays (Wide g) job y s words i d = d.1

-- ---- who rests in a pass

-- it has done all that the pass asks of it
pub done_of_rests : (g : ℕ) (rule : Rule) (kind : Kind) (job : JobData) (y : LayoutData) (t : ℕ)
    (words : List ℕ) (i : ℕ) → Rests y.form rule kind job t i →
    DoneIn (Wide g) rule kind job y t words i
done_of_rests g Common Compute job y t words i none = λ p v lands own. absurd (none p v lands own)
done_of_rests g Common Apply job y t words i none = tt
done_of_rests g Common Verify job y t words i none = (
  λ c v asks cell wins. absurd (none c v asks cell),
  inr (λ c v asks cell. absurd (none c v asks cell)),
)
done_of_rests g Priority Compute job y t words i none = (
  λ p v lands own. absurd (none.0 p v lands own),
  λ c v asks cell. absurd (none.1 c v asks cell),
)
done_of_rests g Priority Apply job y t words i none = tt
done_of_rests g Priority Verify job y t words i none =
    λ c v asks cell wins. absurd (none c v asks cell)
done_of_rests g Crew Compute job y t words i none = (
  λ p v lands own. absurd (none.0 p v lands own),
  λ c v asks cell. absurd (none.1 c v asks cell),
)
done_of_rests g Crew Apply job y t words i none = tt
done_of_rests g Crew Verify job y t words i none = (
  λ c v asks cell wins. absurd (none c v asks cell),
  inr (λ c v asks cell. absurd (none c v asks cell)),
)

-- in the second one everybody rests, and in the last one he who writes no cell
pub second_rests : (form : Form) (rule : Rule) (job : JobData) (t i : ℕ) →
    Rests form rule Apply job t i
second_rests form Common job t i = tt
second_rests form Priority job t i = tt
second_rests form Crew job t i = tt

pub rests_of_stores : (form : Form) (rule : Rule) (job : JobData) (t i : ℕ) → StoresNone job t i →
    Rests form rule Verify job t i
rests_of_stores form Common job t i none = none
rests_of_stores form Priority job t i none = none
rests_of_stores form Crew job t i none = none

pub stores_of_rests : (form : Form) (rule : Rule) (job : JobData) (t i : ℕ) →
    Rests form rule Verify job t i → StoresNone job t i
stores_of_rests form Common job t i none = none
stores_of_rests form Priority job t i none = none
stores_of_rests form Crew job t i none = none

-- and one who makes no write that gets a word rests in all of them
pub rests_of_none : (form : Form) (rule : Rule) (kind : Kind) (job : JobData) (t i : ℕ) →
    ((place value : ℕ) → Lands form job t place i value → ⊥) → Rests form rule kind job t i
rests_of_none form rule kind job t i none = by rule kind
  where
    own : OwnNone form job t i
    own p v lands cell = none p v lands

    stores : StoresNone job t i
    stores c v asks cell = none c v (cell_lands form job t c i v cell asks)

    by : (rule : Rule) (kind : Kind) → Rests form rule kind job t i
    by Common Compute = own
    by Common Apply = tt
    by Common Verify = stores
    by Priority Compute = (own, stores)
    by Priority Apply = tt
    by Priority Verify = stores
    by Crew Compute = (own, stores)
    by Crew Apply = tt
    by Crew Verify = stores

-- the kind of the phase in which claims are made
pub claim_kind : Form → Kind
claim_kind Compact = Apply
claim_kind (Wide g) = Compute

pub claim_phase : (form : Form) (s : ℕ) → phase_in s (claim_kind form) ≡ phase_claimed form s
unfolding claim_kind
claim_phase Compact s = refl
claim_phase (Wide g) s = refl

claims_rule : (rule : Rule) → IsTrue (has_claims rule) → rule ≢ Common
claims_rule Common h e = absurd (cc)
claims_rule Priority h e = absurd (cc)
claims_rule Crew h e = absurd (cc)

pub done_claimed : (form : Form) (rule : Rule) (job : JobData) (y : LayoutData) (s : ℕ)
    (words : List ℕ) (i : ℕ) → IsTrue (has_claims rule) →
    DoneIn form rule (claim_kind form) job y s words i → Claimed job y s words i
unfolding claim_kind
done_claimed form Common job y s words i h d = absurd (claims_rule Common h refl)
done_claimed Compact Priority job y s words i h d = d
done_claimed Compact Crew job y s words i h d = d.1
done_claimed (Wide g) Priority job y s words i h d = d.1
done_claimed (Wide g) Crew job y s words i h d = d.1

-- the words are lawful for so many finished steps
module _ (job : JobData) (y : LayoutData) (words : List ℕ) (gone : ℕ) (limits : IsJob job)
    (sizes : IsLayout y) (layout : IsLayoutOf job y) (lawful : LawfulFor job y gone words)
    (gone_low : 3 * gone ≤ root y words) (gone_high : root y words ≤ 3 * gone + 3) where
  pub board : IsBoard job y
  board = record { limits = limits; layout = sizes; is = layout }

  pub place_below : (p : ℕ) → p < places_of y → p < place_count job
  place_below p h = let a = same_cells job y board in let b = same_procs job y board in omega arith

  pub below : (n : ℕ) → IsWord y (Node n) → root y words ≤ held y words (Node n)
  below n is = tree_below job y words n lawful.tree is

  pub low_leaf : (i : ℕ) → i < y.procs → root y words ≤ leaf y words i
  low_leaf i h = below (leaf_of y i) (leaf_word y i sizes h)

  pub root_fin : (t : ℕ) → 3 * t + 1 ≤ root y words → t ≤ gone
  root_fin t h = let a = gone_high in omega arith

  pub done_in : (form : Form) → y.form ≡ form → (i : ℕ) (kind : Kind) → i < y.procs →
      phase_in gone kind ≤ root y words → DoneIn form job.rule kind job y gone words i
  done_in form is i kind proc h =
      subst (λ (f : Form). DoneIn f job.rule kind job y gone words i) is
      (lawful.done i kind proc (let g = low_leaf i proc in omega (arith, g, h)))

  pub raised : y.form ≡ Compact → (k i j : ℕ) → i < y.procs → j < 3 → 3 * k + 1 ≤ root y words →
      k < stamp_of (held y words (Asked i j))
  raised compact k i j proc part h =
      let up = root_fin k h in
      let low = (lawful.asked compact i j proc part).low in
      elim (cases_lt k (gone)) [
        | inl c ↦ omega arith
        | inr c ↦ (let d = done_raised job.rule job y gone words i
            (done_in Compact compact i Compute proc (omega arith)) j part in omega arith)
      ]

  pub word_is : (p k : ℕ) → IsWord y (Stored p k) →
      WordIs y.form job (gone) (root y words) p (held y words (Stored p k))
  word_is p zero is = first_is y.form job _ _ p _ _ (lawful.stored p is.0)
  word_is p (suc zero) is = second_is y.form job _ _ p _ _ (lawful.stored p is.0)
  word_is p (suc (suc k)) is = absurd (let h = is.1 in omega arith)

  pub stamp_settled : (t p : ℕ) → stamp_of (settled y.form job t p) ≡ last_landing y.form job t p
  stamp_settled t p = stamp_step y.form job limits (last_landing y.form job t p) p

  pub stamp_before : (t p : ℕ) →
      stamp_of (settled_before y.form job t p) ≡ landing_before y.form job
      (last_landing y.form job t p) p
  stamp_before t p = stamp_step y.form job limits
      (landing_before y.form job (last_landing y.form job t p) p) p

  stored_step : (x p word : ℕ) → stamp_of word ≡ suc x →
      WordIs y.form job (gone) (root y words) p word → IsReached job x × IsLanded y.form job x p
      × (phase_written y.form job p x ≤ next_phase y.form (root y words))
  stored_step x p word e (is_settled is) =
      let s : last_landing y.form job (gone) p ≡ suc x =
      sym (stamp_settled (gone) p) ∙ sym (ap stamp_of is) ∙ e in
      let m = last_most y.form job limits (gone) p in
      let h = phase_high y.form job p x in
      let l = gone_low in
      let n = (next_above y.form (root y words)).0 in (
        reached_down job x (gone) (omega arith) lawful.reached,
        last_is y.form job limits (gone) p x s,
        omega arith,
      )
  stored_step x p word e (is_before is) =
      let s : landing_before y.form job (last_landing y.form job (gone) p) p ≡ suc x =
      sym (stamp_before (gone) p) ∙ sym (ap stamp_of is) ∙ e in
      let b = before_is y.form job limits (last_landing y.form job (gone) p) p x s in
      let less : suc x < last_landing y.form job (gone) p = b.1 in
      let m = last_most y.form job limits (gone) p in
      let h = phase_high y.form job p x in
      let l = gone_low in
      let n = (next_above y.form (root y words)).0 in
      (reached_down job x (gone) (omega arith) lawful.reached, b.0, omega arith)
  stored_step x p word e (is_new n) =
      let f = n.stamp in
      let same : gone ≡ x = omega arith in (
        subst (IsReached job) same lawful.reached,
        subst (λ (s : ℕ). IsLanded y.form job s p) same
            (record { writer = n.writer; value = payload_of word; lands = n.lands }),
        subst (λ (s : ℕ). phase_written y.form job p s ≤ next_phase y.form (root y words)) same
            n.stands,
      )

  asked_step : y.form ≡ Compact → (x i j : ℕ) → i < y.procs → j < 3 →
      stamp_of (held y words (Asked i j)) ≡ suc x → IsReached job x × (3 * x ≤ root y words)
  asked_step compact x i j proc part e =
      let a = lawful.asked compact i j proc part in
      let h = a.high in
      let l = gone_low in
      ((a.part x e).0, omega arith)

  claim_step : (x c word : ℕ) → c < job.cells → stamp_of word ≡ suc x →
      IsClaimed y.form job (gone) (root y words) c word → IsReached job x × IsWritten job x c
      × (phase_claimed y.form x ≤ next_phase y.form (root y words))
  claim_step x c word cell e (claimed_before is claims) =
      let s : last_landing y.form job (gone) c ≡ suc x = sym is ∙ e in
      let m = last_most y.form job limits (gone) c in
      let l = gone_low in
      let h = claim_most y.form x in
      let n = (next_above y.form (root y words)).0 in (
        reached_down job x (gone) (omega arith) lawful.reached,
        written_of y.form job x c cell (last_is y.form job limits (gone) c x s),
        omega arith,
      )
  claim_step x c word cell e (claimed_now is claims low) =
      let same : gone ≡ x = omega arith in (
        subst (IsReached job) same lawful.reached,
        subst (λ (s : ℕ). IsWritten job s c) same
            (record { writer = claims.writer; value = claims.value; asks = claims.asks }),
        subst (λ (s : ℕ). phase_claimed y.form s ≤ next_phase y.form (root y words)) same low,
      )

  -- ---- a word of a place with a stamp up to a finished step

  upto_settled : (t p : ℕ) → t ≤ gone → last_landing y.form job (gone) p ≤ t →
      settled y.form job (gone) p ≡ settled y.form job t p
  upto_settled t p h low = ap (λ (s : ℕ). word_of_step job s p)
      (last_between y.form job limits t (gone) p h low)

  Upto : ℕ → ℕ → ℕ → ℕ → Type 0
  Upto t p word other = (word ≡ settled y.form job t p)
      ⊎ ((word ≡ settled_before y.form job t p) × (last_landing y.form job t p ≤ stamp_of other))

  -- the last settled word
  upto_last : (t p word other : ℕ) → t ≤ gone → stamp_of word ≤ t →
      word ≡ settled y.form job (gone) p → Upto t p word other
  unfolding Upto
  upto_last t p word other h low e =
      let s : stamp_of word ≡ last_landing y.form job (gone) p =
      ap stamp_of e ∙ stamp_settled (gone) p in
      inl (e ∙ upto_settled t p h (omega arith))

  -- the one before it
  upto_before : (t p word other : ℕ) → t ≤ gone → stamp_of word ≤ t →
      word ≡ settled_before y.form job (gone) p → other ≡ settled y.form job (gone) p →
      Upto t p word other
  unfolding Upto
  upto_before t p word other h low e g =
      let s : stamp_of word ≡ landing_before y.form job (last_landing y.form job (gone) p) p =
      ap stamp_of e ∙ stamp_before (gone) p in
      let o : stamp_of other ≡ last_landing y.form job (gone) p =
      ap stamp_of g ∙ stamp_settled (gone) p in
      elim (cases_lt t (last_landing y.form job (gone) p)) [
        | inl c ↦ inl (e ∙ ap (λ (n : ℕ). word_of_step job n p)
            (before_between y.form job limits (last_landing y.form job (gone) p) t p c
            (omega arith)))
        | inr c ↦ (let l : last_landing y.form job (gone) p ≡ last_landing y.form job t p =
            last_between y.form job limits t (gone) p h c in
            inr (
              e ∙ ap (λ (n : ℕ). word_of_step job (landing_before y.form job n p) p) l,
              omega arith,
            ))
      ]

  upto_new : (t p word other : ℕ) → t ≤ gone → stamp_of word ≤ t →
      IsNew y.form job (gone) (root y words) p word → Upto t p word other
  upto_new t p word other h low n = absurd (let e = n.stamp in omega arith)

  upto_first : (t p a b : ℕ) → t ≤ gone → stamp_of a ≤ t →
      IsPair y.form job (gone) (root y words) p a b → Upto t p a b
  upto_first t p a b h low (newer_first e g) = upto_last t p a b h low e
  upto_first t p a b h low (newer_second e g some) = upto_before t p a b h low g e
  upto_first t p a b h low (new_first n e) = upto_new t p a b h low n
  upto_first t p a b h low (new_second n e some) = upto_last t p a b h low e

  upto_second : (t p a b : ℕ) → t ≤ gone → stamp_of b ≤ t →
      IsPair y.form job (gone) (root y words) p a b → Upto t p b a
  upto_second t p a b h low (newer_first e g) = upto_before t p b a h low g e
  upto_second t p a b h low (newer_second e g some) = upto_last t p b a h low e
  upto_second t p a b h low (new_first n e) = upto_last t p b a h low e
  upto_second t p a b h low (new_second n e some) = upto_new t p b a h low n

  upto : (t p k : ℕ) → IsWord y (Stored p k) → t ≤ gone → stamp_at y words p k ≤ t →
      (held y words (Stored p k) ≡ settled y.form job t p)
      ⊎ ((held y words (Stored p k) ≡ settled_before y.form job t p)
      × (last_landing y.form job t p ≤ stamp_at y words p (1 - k)))
  unfolding Upto
  upto t p zero is h low = upto_first t p _ _ h low (lawful.stored p is.0)
  upto t p (suc zero) is h low = upto_second t p _ _ h low (lawful.stored p is.0)
  upto t p (suc (suc k)) is h low = absurd (let h = is.1 in omega arith)

  -- the stamps of a place differ, unless both are 0
  pub apart_of : (p a b : ℕ) → IsPair y.form job (gone) (root y words) p a b →
      stamp_of a ≡ stamp_of b → stamp_of a ≡ 0
  apart_of p a b (newer_first e g) same =
      let s : stamp_of a ≡ last_landing y.form job (gone) p =
      ap stamp_of e ∙ stamp_settled (gone) p in
      let o : stamp_of b ≡ landing_before y.form job (last_landing y.form job (gone) p) p =
      ap stamp_of g ∙ stamp_before (gone) p in
      elim (cases_lt (last_landing y.form job (gone) p) 1) [
        | inl c ↦ omega arith
        | inr c ↦ absurd (let l = before_less y.form job limits (last_landing y.form job (gone) p) p
            c in omega arith)
      ]
  apart_of p a b (newer_second e g some) same =
      let s : stamp_of b ≡ last_landing y.form job (gone) p =
      ap stamp_of e ∙ stamp_settled (gone) p in
      let o : stamp_of a ≡ landing_before y.form job (last_landing y.form job (gone) p) p =
      ap stamp_of g ∙ stamp_before (gone) p in
      absurd (let l = before_less y.form job limits (last_landing y.form job (gone) p) p
      (omega arith) in omega arith)
  apart_of p a b (new_first n e) same = absurd
      (let s : stamp_of b ≡ last_landing y.form job (gone) p =
      ap stamp_of e ∙ stamp_settled (gone) p in
      let m = last_most y.form job limits (gone) p in
      let f = n.stamp in omega arith)
  apart_of p a b (new_second n e some) same = absurd
      (let s : stamp_of a ≡ last_landing y.form job (gone) p =
      ap stamp_of e ∙ stamp_settled (gone) p in
      let m = last_most y.form job limits (gone) p in
      let f = n.stamp in omega arith)

  -- ---- the writes of each step whose phase of writing is over are made

  pub late_of : (x p : ℕ) → p < places_of y → x < last_landing y.form job (gone) p →
      IsLate y x p words
  late_of x p place less = elim (has_settled y.form job _ _ p _ _ (lawful.stored p place)) [
    | inl e ↦ (let s : stamp_at y words p 0 ≡ last_landing y.form job (gone) p =
        ap stamp_of e ∙ stamp_settled (gone) p in inl (omega arith))
    | inr e ↦ (let s : stamp_at y words p 1 ≡ last_landing y.form job (gone) p =
        ap stamp_of e ∙ stamp_settled (gone) p in inr (omega arith))
  ]

  pub writer_below : (s p i v : ℕ) → Asks job s p i v → i < y.procs
  writer_below s p i v asks =
      let w = (writer_is job (state_after job s) p i v asks).0 in
      let e = same_procs job y board in omega arith

  landed_below : (form : Form) (s p i v : ℕ) → p < places_of y → Lands form job s p i v →
      i < y.procs
  landed_below form s p i v place lands =
      let w = lands_writer form job s p i v limits (place_below p place) lands in
      let e = same_procs job y board in omega (arith, w, e)

  -- the writes of the step after the finished ones are made, where their phase is over
  pub late_now : (form : Form) (rule : Rule) → y.form ≡ form → (p : ℕ) → p < places_of y →
      (w : Winner form job (gone) p) →
      ((i : ℕ) (kind : Kind) → i < y.procs → phase_in (gone) kind ≤ root y words →
      DoneIn form rule kind job y (gone) words i) →
      (rule ≡ job.rule) → phase_written form job p (gone) ≤ root y words → IsLate y (gone) p words
  late_now form rule is p place w done ruled h =
      by form rule is (landed_below form (gone) p w.writer w.value place w.lands) w.lands w.wins
      (done w.writer) ruled h
    where
      by : (form : Form) (rule : Rule) → y.form ≡ form → w.writer < y.procs →
          Lands form job (gone) p w.writer w.value → Wins job (gone) p w.writer →
          ((kind : Kind) → w.writer < y.procs → phase_in (gone) kind ≤ root y words →
          DoneIn form rule kind job y (gone) words w.writer) →
          (rule ≡ job.rule) → phase_written form job p (gone) ≤ root y words →
          IsLate y (gone) p words
      by Compact Common is proc lands wins done ruled h =
          done Apply proc (subst (λ (r : Rule). compact_phase_written r (gone) ≤ root y words)
          (sym ruled) h) p w.value (subst (λ (f : Form). Lands f job (gone) p w.writer w.value)
          (sym is) lands)
      by Compact Priority is proc lands wins done ruled h =
          done Verify proc (subst (λ (r : Rule). compact_phase_written r (gone) ≤ root y words)
          (sym ruled) h) p w.value (subst (λ (f : Form). Lands f job (gone) p w.writer w.value)
          (sym is) lands) wins
      by Compact Crew is proc lands wins done ruled h =
          (done Apply proc (subst (λ (r : Rule). compact_phase_written r (gone) ≤ root y words)
          (sym ruled) h)).0 p w.value (subst (λ (f : Form). Lands f job (gone) p w.writer w.value)
          (sym is) lands)
      by (Wide g) rule is proc lands wins done ruled h = elim (cases_lt p job.cells) [
        | inl cell ↦ wide_cell rule (done Verify proc
            (let l : 3 * gone + 3 ≤ root y words = rw (lt-ltb p job.cells cell) at h in l))
            p w.value (lands_cell (Wide g) job (gone) p w.writer w.value cell lands) cell wins
        | inr own ↦ wide_own rule (done Compute proc
            (let l : 3 * gone + 1 ≤ root y words = rw (le-ltb p job.cells own) at h in l))
            p w.value (subst (λ (f : Form). Lands f job (gone) p w.writer w.value) (sym is) lands)
            own
      ]
        where
          wide_cell : (rule : Rule) → WideDone rule Verify job y (gone) words w.writer →
              CarriedCell job y (gone) words w.writer
          wide_cell Common d = d.0
          wide_cell Priority d = d
          wide_cell Crew d = d.0

          wide_own : (rule : Rule) → WideDone rule Compute job y (gone) words w.writer →
              CarriedOwn job y (gone) words w.writer
          wide_own Common d = d
          wide_own Priority d = d.0
          wide_own Crew d = d.0

  pub late : (x p : ℕ) → p < places_of y → phase_written y.form job p x ≤ root y words →
      IsLanded y.form job x p → IsLate y x p words
  late x p place h w =
      let low = phase_low y.form job p x in
      let up = root_fin x (omega arith) in
      elim (cases_order x (gone)) [
        | inl e ↦ subst (λ (n : ℕ). IsLate y n p words) (sym e)
            (late_now y.form job.rule refl p place (winner y.form job (gone) p limits
            (subst (λ (n : ℕ). IsLanded y.form job n p) e w)) (done_in y.form refl) refl
            (subst (λ (n : ℕ). phase_written y.form job p n ≤ root y words) e h))
        | inr c ↦ elim c [
          | inl less ↦ late_of x p place (last_least y.form job limits (gone) p x less w)
          | inr more ↦ absurd (omega arith)
        ]
      ]

  -- ---- so are the claims

  pub claims_is : y.claims ≡ has_claims job.rule
  claims_is = ap (λ (z : LayoutData). z.claims) layout

  pub claim_fits : (i : ℕ) → claim_of job i < 2 ^ 32
  claim_fits i = let m = limits.procs.1 in omega arith

  claim_settled : (x c i v word : ℕ) → x < gone → c < job.cells → Asks job x c i v →
      IsClaimed y.form job (gone) (root y words) c word →
      stamped_word (suc x) (claim_of job i) ≤ word
  claim_settled x c i v word less cell asks (claimed_before is claims) =
      let up : x < last_landing y.form job (gone) c =
      last_least y.form job limits (gone) c x less (record {
        writer = i;
        value = v;
        lands = cell_lands y.form job x c i v cell asks;
      }) in
      let fits = claim_fits i in
      elim (cases_eq (stamp_of word) (suc x)) [
        | inl e ↦
            (let h : claim_of job i ≤ payload_of word = (claims x e).1 i v asks in omega arith)
        | inr n ↦ omega arith
      ]
  claim_settled x c i v word less cell asks (claimed_now is claims low) =
      let fits = claim_fits i in omega arith

  pub claim_high : (x c i v : ℕ) → IsWord y (Claim c) → phase_claimed y.form x ≤ root y words →
      Asks job x c i v → stamped_word (suc x) (claim_of job i) ≤ held y words (Claim c)
  claim_high x c i v is h asks =
      let low = claim_low y.form x in
      let up = root_fin x (omega arith) in
      let cells = same_cells job y board in
      let cell : c < job.cells = (let l = is.1 in omega arith) in
      elim (cases_order x (gone)) [
        | inl e ↦ (let proc = writer_below x c i v asks in
            let phase = claim_phase y.form (gone) in
            let d = done_in y.form refl i (claim_kind y.form) proc
            (subst (λ (n : ℕ). n ≤ root y words) (sym phase)
            (subst (λ (n : ℕ). phase_claimed y.form n ≤ root y words) e h)) in
            let claimed =
            done_claimed y.form job.rule job y (gone) words i (subst IsTrue claims_is is.0) d in
            subst (λ (n : ℕ). stamped_word (suc n) (claim_of job i) ≤ held y words (Claim c))
            (sym e) (claimed c v (subst (λ (n : ℕ). Asks job n c i v) e asks) cell))
        | inr k ↦ elim k [
          | inl less ↦ claim_settled x c i v _ less cell asks (lawful.claimed c is)
          | inr more ↦ absurd (omega arith)
        ]
      ]

  -- ---- where all leaves are verified and word 0 is 0, the step agrees

  pub one_new : (p v w : ℕ) → p < places_of y → HoldsNew y words p (suc (gone)) v →
      HoldsNew y words p (suc (gone)) w → v ≡ w
  one_new p v w place (zero, l, s, e) (zero, m, t, g) = sym e ∙ g
  one_new p v w place (suc zero, l, s, e) (suc zero, m, t, g) = sym e ∙ g
  one_new p v w place (zero, l, s, e) (suc zero, m, t, g) =
      absurd (let z = apart_of p _ _ (lawful.stored p place) (s ∙ sym t) in omega arith)
  one_new p v w place (suc zero, l, s, e) (zero, m, t, g) =
      absurd (let z = apart_of p _ _ (lawful.stored p place) (t ∙ sym s) in omega arith)
  one_new p v w place (suc (suc k), l, s, e) b = absurd (omega arith)
  one_new p v w place a (suc (suc k), m, t, g) = absurd (omega arith)

  pub agrees_by : (rule : Rule) → job.rule ≡ rule → conflict y words ≡ 0 →
      ((i : ℕ) → i < y.procs → DoneIn y.form rule Verify job y (gone) words i) →
      AgreesAfter job (gone)
  agrees_by Common e none done = λ c i j clash.
      let differ : clash.value ≢ clash.other =
      subst (λ (r : Rule). Forbids r i clash.value j clash.other) e clash.forbidden in
      let small = clash.writes.0 in
      let cells = same_cells job y board in
      let below = writer_below (gone) c i clash.value clash.writes.1 in
      let below_too = writer_below (gone) c j clash.other clash.writes_too.1 in
      elim (done_stays y.form job y (gone) words i (done i below)) [
        | inl u ↦ absurd (omega arith)
        | inr one ↦ elim (done_stays y.form job y (gone) words j (done j below_too)) [
          | inl u ↦ absurd (omega arith)
          | inr two ↦ differ (one_new c clash.value clash.other (omega arith)
              (one c clash.value clash.writes.1 small)
              (two c clash.other clash.writes_too.1 small))
        ]
      ]
  agrees_by Priority e none done =
      λ c i j clash. subst (λ (r : Rule). Forbids r i clash.value j clash.other) e clash.forbidden
  agrees_by Crew e none done = λ c i j clash.
      let differ : i ≢ j =
      subst (λ (r : Rule). Forbids r i clash.value j clash.other) e clash.forbidden in
      let a = (writer_is job (state_after job (gone)) c i clash.value clash.writes.1).0 in
      let b = (writer_is job (state_after job (gone)) c j clash.other clash.writes_too.1).0 in
      let below = writer_below (gone) c i clash.value clash.writes.1 in
      let below_too = writer_below (gone) c j clash.other clash.writes_too.1 in
      elim (done_claim_stays y.form job y (gone) words i (done i below)) [
        | inl u ↦ absurd (omega arith)
        | inr one ↦ elim (done_claim_stays y.form job y (gone) words j (done j below_too)) [
          | inl u ↦ absurd (omega arith)
          | inr two ↦ differ (let g = one c clash.value clash.writes.1 clash.writes.0 in
              let h = two c clash.other clash.writes_too.1 clash.writes.0 in omega arith)
        ]
      ]

  -- of two words with no new one the newer is the settled one
  pub newer_settled : (p a b : ℕ) → stamp_of a ≤ gone → stamp_of b ≤ gone →
      IsPair y.form job (gone) (root y words) p a b →
      newer_word a b ≡ settled y.form job (gone) p
  newer_settled p a b low also (newer_first e g) =
      let s : stamp_of a ≡ last_landing y.form job (gone) p =
      ap stamp_of e ∙ stamp_settled (gone) p in
      let o : stamp_of b ≡ landing_before y.form job (last_landing y.form job (gone) p) p =
      ap stamp_of g ∙ stamp_before (gone) p in
      elim (cases_lt (stamp_of b) (stamp_of a)) [
        | inl c ↦ newer_is_first a b c ∙ e
        | inr c ↦ (
            let none : last_landing y.form job (gone) p ≡ 0 =
            (elim (cases_lt (last_landing y.form job (gone) p) 1) [
              | inl l ↦ omega arith
              | inr l ↦ absurd (let k =
                  before_less y.form job limits (last_landing y.form job (gone) p) p l in
                  omega arith)
            ]) in
            let also : landing_before y.form job (last_landing y.form job (gone) p) p
            ≡ last_landing y.form job (gone) p =
            (let m = before_most y.form job limits (last_landing y.form job (gone) p) p in
            omega arith) in
            newer_is_second a b c ∙ g ∙ ap (λ (n : ℕ). word_of_step job n p) also)
      ]
  newer_settled p a b low also (newer_second e g some) =
      let s : stamp_of b ≡ last_landing y.form job (gone) p =
      ap stamp_of e ∙ stamp_settled (gone) p in
      let o : stamp_of a ≡ landing_before y.form job (last_landing y.form job (gone) p) p =
      ap stamp_of g ∙ stamp_before (gone) p in
      let m = before_most y.form job limits (last_landing y.form job (gone) p) p in
      newer_is_second a b (omega arith) ∙ e
  newer_settled p a b low also (new_first n e) = absurd (let s = n.stamp in omega arith)
  newer_settled p a b low also (new_second n e some) = absurd (let s = n.stamp in omega arith)

  -- and tells the value
  pub newer_tells : (p a b : ℕ) → p < places_of y → stamp_of a ≤ gone → stamp_of b ≤ gone →
      IsPair y.form job (gone) (root y words) p a b →
      payload_of (newer_word a b)
      ≡ slice_index (state_after job (landed_step y.form job (gone) p)) p
  newer_tells p a b place low also pair = ap payload_of (newer_settled p a b low also pair)
      ∙ settled_tells y.form job limits (gone) p (place_below p place)

module _ (job : JobData) (y : LayoutData) (words : List ℕ) (stands : Stands job y words) where
  fins : IsFin (root y words) (conflict y words) (finished y words)
  fins = fin (root y words) (conflict y words)

  -- ---- the request words of a conflict, and the values of the end

  asked_conflict : y.form ≡ Compact → (i j : ℕ) → i < y.procs → j < 3 → conflict y words ≢ 0 →
      stamp_of (held y words (Asked i j)) ≡ conflict y words
  asked_conflict compact i j proc part some =
      elim (conflict_is y.form job (conflict y words) (root y words) (finished y words)
      stands.lawful.named fins) [
        | inl e ↦ absurd (some e)
        | inr e ↦ (let n = next_above y.form (root y words) in
            let up : 3 * finished y words + 1 ≤ root y words =
            (elim (stands.lawful.named.near (finished y words) e) [
              | inl r ↦ (let m = n.1 in omega arith)
              | inr r ↦ omega arith
            ]) in
            let a = raised job y words (finished y words) stands.limits stands.sizes
            stands.layout stands.lawful fins.low fins.high compact (finished y words) i j proc part
            up in
            let b = (stands.lawful.asked compact i j proc part).high in omega arith)
      ]

  low_stamp : (p k : ℕ) → IsWord y (Stored p k) → stamp_at y words p k ≤ job.steps
  low_stamp p k is =
      let range : IsStamped job.steps (most_stored y job p) (held y words (Stored p k)) =
      stands.admitted.in_range (Stored p k) is in range.0

  final : (p : ℕ) → p < places_of y → root y words ≡ 3 * job.steps → conflict y words ≡ 0 →
      payload_of (newer_word (held y words (Stored p 0)) (held y words (Stored p 1)))
      ≡ slice_index (state_after job (landed_step y.form job job.steps p)) p
  final p place full none =
      let low = fins.low in
      let same : finished y words ≡ job.steps =
      (elim (cases_lt (root y words) (3 * finished y words + 3)) [
        | inl c ↦ omega arith
        | inr c ↦ absurd (let h = fins.high in
            let u = fins.full (omega arith) in omega arith)
      ]) in
      let one = low_stamp p 0 (place, lit< tt) in
      let two = low_stamp p 1 (place, lit< tt) in
      subst (λ (t : ℕ).
      payload_of (newer_word (held y words (Stored p 0)) (held y words (Stored p 1)))
      ≡ slice_index (state_after job (landed_step y.form job t p)) p) same
      (newer_tells job y words (finished y words) stands.limits stands.sizes stands.layout
      stands.lawful fins.low fins.high p _ _ place (omega arith) (omega arith)
      (stands.lawful.stored p place))

  claim_cell : (c : ℕ) → IsWord y (Claim c) → c < job.cells
  claim_cell c is =
      let e = same_cells job y (board job y words (finished y words) stands.limits stands.sizes
      stands.layout stands.lawful fins.low fins.high) in
      let l = is.1 in omega (arith, e, l)

  -- ---- all of these

  pub facts : WordsShow job y words
  facts = record {
    root_below = below job y words (finished y words)
        stands.limits stands.sizes stands.layout stands.lawful fins.low fins.high;
    root_low = fins.low;
    root_high = fins.high;
    full_root = fins.full;
    conflict_next = conflict_is y.form job
        (conflict y words) (root y words) (finished y words) stands.lawful.named fins;
    root_finished = root_fin job y words (finished y words)
        stands.limits stands.sizes stands.layout stands.lawful fins.low fins.high;
    reached_finished = λ t h reached. fin_reached y.form job (conflict y words)
        (root y words) (finished y words) t stands.lawful.named fins h reached;
    requests_raised = raised job y words (finished y words)
        stands.limits stands.sizes stands.layout stands.lawful fins.low fins.high;
    stored_from = λ x p k is e. stored_step job y words (finished y words)
        stands.limits stands.sizes stands.layout stands.lawful fins.low fins.high x p _ e
        (word_is job y words (finished y words)
        stands.limits stands.sizes stands.layout stands.lawful fins.low fins.high p k is);
    asked_from = asked_step job y words (finished y words)
        stands.limits stands.sizes stands.layout stands.lawful fins.low fins.high;
    claim_from = λ x c is e. claim_step job y words (finished y words) stands.limits stands.sizes
        stands.layout stands.lawful fins.low fins.high x c _ (claim_cell c is) e
        (stands.lawful.claimed c is);
    stored_upto = upto job y words (finished y words)
        stands.limits stands.sizes stands.layout stands.lawful fins.low fins.high;
    stamps_apart = λ p place e. apart_of job y words (finished y words) stands.limits stands.sizes
        stands.layout stands.lawful fins.low fins.high p _ _ (stands.lawful.stored p place) e;
    written_late = late job y words (finished y words)
        stands.limits stands.sizes stands.layout stands.lawful fins.low fins.high;
    leaves_agree = λ none leaves. agrees_by job y words
        (finished y words) stands.limits stands.sizes stands.layout stands.lawful fins.low
        fins.high job.rule refl none (λ i proc. stands.lawful.done i Verify proc (leaves i proc));
    conflict_asked = asked_conflict;
    final_held = final;
    claims_high = claim_high job y words (finished y words)
        stands.limits stands.sizes stands.layout stands.lawful fins.low fins.high;
  }
