-- How the clauses of lawful words are kept: what is done stays done, and a root that rises over a
-- step's last pass.
use Rattle.std.proofs.Common.{◌≡◌, ◌≢◌, ◌⊎◌, ℕ, zero, suc, ◌+◌, ◌*◌, ◌<◌, ◌≤◌, IsTrue, List}
use Rattle.std.proofs.Common.{slice_index, refl, sym, ap, subst, ◌∙◌, inl, inr, lit<, arith}
use Rattle.std.proofs.lemmas.Bool.{cases_eq}
use Rattle.pram_job.specs.Job.{JobData, IsJob}
use Rattle.pram_job.specs.declared.instr.Rule.{Rule}
use Rattle.pram_job.specs.declared.instr.Rule.TheVariants.{Common, Priority, Crew}
use Rattle.pram_step.specs.Runs.{AgreesAfter, state_after}
use Rattle.pram_step.specs.History.{Asks}
use Rattle.pram_step.proofs.LawFixed.{reached_more}
use Rattle.pram_step.proofs.Past.{asks_fit}
use Rattle.pram_words.specs.declared.layout.Form.{Form}
use Rattle.pram_words.specs.declared.layout.Form.TheVariants.{Compact, Wide}
use Rattle.pram_words.specs.declared.phases.Kind.{Kind}
use Rattle.pram_words.specs.declared.phases.Kind.TheVariants.{Compute, Apply, Verify}
use Rattle.pram_words.specs.declared.words.Word.TheVariants.{Conflict, Asked, Stored, Claim}
use Rattle.pram_words.specs.Stamps.{stamp_of, payload_of, stamped_word}
use Rattle.pram_words.specs.Words.{LayoutData, IsLayout, IsWord, has_claims, places_of}
use Rattle.pram_words.proofs.NextPhases.{next_above, next_rises}
use Rattle.walkx.specs.Tasks.{claim_of}
use Rattle.walk_memory.specs.Blocks.{IsLayoutOf, IsBoard}
use Rattle.walk_memory.proofs.Boards.{same_cells, same_procs}
use Rattle.lawful_walk.specs.Board.{held, root, conflict, leaf, stamp_at, finished, IsLate}
use Rattle.lawful_walk.specs.Board.{HoldsNew, Raised, Claimed, ClaimStays, ClaimsFor, Grows}
use Rattle.lawful_walk.specs.Board.{phase_in, Carried, CarriedCell, CarriedOwn, CarriedWon}
use Rattle.lawful_walk.specs.Board.{CompactDone, Done, DoneIn, Stays, WideDone, IsNew, IsPair}
use Rattle.lawful_walk.specs.Board.{newer_first, newer_second, new_first, new_second, IsClaimed}
use Rattle.lawful_walk.specs.Board.{claimed_before, claimed_now, LawfulFor, Lawful}
use Rattle.lawful_walk.proofs.Moments.{stamps_rise}
use Rattle.lawful_walk.proofs.Values.{fin, claim_most, phase_high}
use Rattle.lawful_walk.specs.Lands.{IsLanded, Lands, landing_before, last_landing, settled}
use Rattle.lawful_walk.specs.Lands.{settled_before, word_of_step}
use Rattle.lawful_walk.proofs.Landings.{Left, Set, before_most, landing_cases, last_most, last_new}
use Rattle.lawful_walk.proofs.Landings.{stamp_step}
use Rattle.lawful_walk.proofs.Winners.{cell_lands, landed_value, lands_below, lands_cell}
use Rattle.lawful_walk.proofs.Facts.{agrees_by, board, claim_fits, claim_high, late, low_leaf}
use Rattle.lawful_walk.proofs.Facts.{place_below, raised}

has_claim_words : (rule : Rule) → rule ≢ Common → IsTrue (has_claims rule)
has_claim_words Common other = absurd (other refl)
has_claim_words Priority other = refl
has_claim_words Crew other = refl

-- ---- what is done stays done

module _ (job : JobData) (y : LayoutData) (words later : List ℕ) (s : ℕ)
    (limits : IsJob job) (sizes : IsLayout y) (layout : IsLayoutOf job y) (up : Grows y words later)
    (most : (p : ℕ) → p < places_of y →
    (stamp_at y later p 0 ≤ suc s) × (stamp_at y later p 1 ≤ suc s)) where
  is_board : IsBoard job y
  is_board = record { limits = limits; layout = sizes; is = layout }

  place_of : (p i v : ℕ) → Asks job s p i v → p < places_of y
  place_of p i v asks =
      let a = (asks_fit job s p i v limits asks).0 in
      let b = same_cells job y is_board in
      let c = same_procs job y is_board in omega arith

  lands_place : (p i v : ℕ) → i < y.procs → Lands y.form job s p i v → p < places_of y
  lands_place p i v proc lands =
      let b = same_cells job y is_board in
      let c = same_procs job y is_board in
      let a = lands_below y.form job s p i v limits (omega (arith, proc, c)) lands in
      omega (arith, a, b, c)

  raised_later : y.form ≡ Compact → (i : ℕ) → i < y.procs → Raised job y s words i →
      Raised job y s later i
  raised_later compact i proc r j part =
      let h = r j part in
      let u = up (Asked i j) (compact, proc, part) in omega arith

  late_later : (p : ℕ) → p < places_of y → IsLate y s p words → IsLate y s p later
  late_later p place (inl h) =
      let u = stamps_rise y words later p 0 (place, lit< tt) up in inl (omega arith)
  late_later p place (inr h) =
      let u = stamps_rise y words later p 1 (place, lit< tt) up in inr (omega arith)

  claim_later : (rule : Rule) → job.rule ≡ rule → rule ≢ Common → (i : ℕ) →
      Claimed job y s words i → Claimed job y s later i
  claim_later rule e other i claimed c v asks cell =
      let h = claimed c v asks cell in
      let is : IsTrue y.claims =
      subst IsTrue (sym (ap (λ (z : LayoutData). z.claims) layout ∙ ap has_claims e))
      (has_claim_words rule other) in
      let cells = same_cells job y is_board in
      let u = up (Claim c) (is, omega arith) in
      omega arith

  holds_at : (p v k : ℕ) → p < places_of y →
      k < 2 → stamp_at y words p k ≡ suc s → payload_of (held y words (Stored p k)) ≡ v →
      (held y words (Stored p k) ≡ held y later (Stored p k)) → HoldsNew y later p (suc s) v
  holds_at p v k place two e g same =
      (k, two, ap stamp_of (sym same) ∙ e, ap payload_of (sym same) ∙ g)

  new_later : (p v : ℕ) → p < places_of y →
      HoldsNew y words p (suc s) v → HoldsNew y later p (suc s) v
  new_later p v place (zero, two, e, g) = elim (up (Stored p 0) (place, two)) [
    | inl same ↦ holds_at p v 0 place two e g same
    | inr more ↦ absurd (let m = more.0 in let t = (most p place).0 in omega arith)
  ]
  new_later p v place (suc zero, two, e, g) = elim (up (Stored p 1) (place, two)) [
    | inl same ↦ holds_at p v 1 place two e g same
    | inr more ↦ absurd (let m = more.1 in let t = (most p place).1 in omega arith)
  ]
  new_later p v place (suc (suc k), two, e, g) = absurd (omega arith)

  conflict_later : conflict y words ≡ suc s → conflict y later ≡ suc s
  conflict_later e = sym (up Conflict tt (λ z. absurd (omega arith))) ∙ e

  stays_later : (i : ℕ) → Stays job y s words i → Stays job y s later i
  stays_later i (inl e) = inl (conflict_later e)
  stays_later i (inr h) =
      inr (λ p v asks cell. new_later p v (place_of p i v asks) (h p v asks cell))

  claim_stays_later : (rule : Rule) → job.rule ≡ rule → rule ≢ Common →
      ((c : ℕ) → IsWord y (Claim c) → held y later (Claim c) ≡ held y words (Claim c)) →
      (i : ℕ) → ClaimStays job y s words i → ClaimStays job y s later i
  claim_stays_later rule e other still i (inl u) = inl (conflict_later u)
  claim_stays_later rule e other still i (inr h) = inr (λ c v asks cell.
      let is : IsTrue y.claims =
      subst IsTrue (sym (ap (λ (z : LayoutData). z.claims) layout ∙ ap has_claims e))
      (has_claim_words rule other) in
      let cells = same_cells job y is_board in
      ap payload_of (still c (is, omega arith)) ∙ h c v asks cell)

  won_later : (i : ℕ) → i < y.procs → CarriedWon job y s words i → CarriedWon job y s later i
  won_later i proc h p v lands wins =
      late_later p (lands_place p i v proc lands) (h p v lands wins)

  carried_later : (i : ℕ) → i < y.procs → Carried job y s words i → Carried job y s later i
  carried_later i proc h p v lands = late_later p (lands_place p i v proc lands) (h p v lands)

  own_later : (i : ℕ) → i < y.procs → CarriedOwn job y s words i → CarriedOwn job y s later i
  own_later i proc h p v lands own =
      late_later p (lands_place p i v proc lands) (h p v lands own)

  cell_later : (i : ℕ) → CarriedCell job y s words i → CarriedCell job y s later i
  cell_later i h p v asks cell wins = late_later p (place_of p i v asks) (h p v asks cell wins)

  compact_by : y.form ≡ Compact → (rule : Rule) (kind : Kind) → job.rule ≡ rule →
      (kind ≡ Verify → (c : ℕ) → IsWord y (Claim c) →
      held y later (Claim c) ≡ held y words (Claim c)) →
      (i : ℕ) → i < y.procs → CompactDone rule kind job y s words i →
      CompactDone rule kind job y s later i
  compact_by compact Common Compute e still i proc d = raised_later compact i proc d
  compact_by compact Common Apply e still i proc d = carried_later i proc d
  compact_by compact Common Verify e still i proc d = stays_later i d
  compact_by compact Priority Compute e still i proc d = raised_later compact i proc d
  compact_by compact Priority Apply e still i proc d = claim_later Priority e (λ r. absurd (cc)) i d
  compact_by compact Priority Verify e still i proc d = won_later i proc d
  compact_by compact Crew Compute e still i proc d = raised_later compact i proc d
  compact_by compact Crew Apply e still i proc d =
      (carried_later i proc d.0, claim_later Crew e (λ r. absurd (cc)) i d.1)
  compact_by compact Crew Verify e still i proc d =
      claim_stays_later Crew e (λ r. absurd (cc)) (still refl) i d

  wide_by : (rule : Rule) (kind : Kind) → job.rule ≡ rule →
      (kind ≡ Verify → (c : ℕ) → IsWord y (Claim c) →
      held y later (Claim c) ≡ held y words (Claim c)) →
      (i : ℕ) → i < y.procs → WideDone rule kind job y s words i →
      WideDone rule kind job y s later i
  wide_by Common Compute e still i proc d = own_later i proc d
  wide_by Common Apply e still i proc d = tt
  wide_by Common Verify e still i proc d = (cell_later i d.0, stays_later i d.1)
  wide_by Priority Compute e still i proc d =
      (own_later i proc d.0, claim_later Priority e (λ r. absurd (cc)) i d.1)
  wide_by Priority Apply e still i proc d = tt
  wide_by Priority Verify e still i proc d = cell_later i d
  wide_by Crew Compute e still i proc d =
      (own_later i proc d.0, claim_later Crew e (λ r. absurd (cc)) i d.1)
  wide_by Crew Apply e still i proc d = tt
  wide_by Crew Verify e still i proc d =
      (cell_later i d.0, claim_stays_later Crew e (λ r. absurd (cc)) (still refl) i d.1)

  done_by : (form : Form) → y.form ≡ form → (kind : Kind) →
      (kind ≡ Verify → (c : ℕ) → IsWord y (Claim c) →
      held y later (Claim c) ≡ held y words (Claim c)) → (i : ℕ) → i < y.procs →
      DoneIn form job.rule kind job y s words i → DoneIn form job.rule kind job y s later i
  done_by Compact is kind still i proc d = compact_by is job.rule kind refl still i proc d
  done_by (Wide g) is kind still i proc d = wide_by job.rule kind refl still i proc d

  pub done_later : (kind : Kind) →
      (kind ≡ Verify → (c : ℕ) → IsWord y (Claim c) →
      held y later (Claim c) ≡ held y words (Claim c)) → (i : ℕ) → i < y.procs →
      Done job.rule kind job y s words i → Done job.rule kind job y s later i
  done_later kind still i proc d = done_by y.form refl kind still i proc d

-- ---- a higher root

new_up : (form : Form) (job : JobData) (f r s p word : ℕ) → r ≤ s →
    IsNew form job f r p word → IsNew form job f s p word
new_up form job f r s p word h n = record {
  stamp = n.stamp;
  writer = n.writer;
  lands = n.lands;
  wins = n.wins;
  stands = (let k = n.stands in let l = next_rises form r s h in omega arith);
}

pub pair_up : (form : Form) (job : JobData) (f r s p a b : ℕ) → r ≤ s →
    IsPair form job f r p a b → IsPair form job f s p a b
pair_up form job f r s p a b h (newer_first e g) = newer_first e g
pair_up form job f r s p a b h (newer_second e g some) = newer_second e g some
pair_up form job f r s p a b h (new_first n e) = new_first (new_up form job f r s p a h n) e
pair_up form job f r s p a b h (new_second n e some) =
    new_second (new_up form job f r s p b h n) e some

pub claimed_up : (form : Form) (job : JobData) (f r s c word : ℕ) → r ≤ s →
    IsClaimed form job f r c word → IsClaimed form job f s c word
claimed_up form job f r s c word h (claimed_before e g) = claimed_before e g
claimed_up form job f r s c word h (claimed_now e g low) =
    claimed_now e g (let l = next_rises form r s h in omega arith)

-- ---- the root over a third pass without conflict: one step more is finished

module _ (job : JobData) (y : LayoutData) (words : List ℕ) (f : ℕ) (limits : IsJob job)
    (sizes : IsLayout y) (layout : IsLayoutOf job y) (lawful : LawfulFor job y f words)
    (full : root y words ≡ 3 * f + 3) (none : conflict y words ≡ 0)
    (begun : (i : ℕ) (kind : Kind) → i < y.procs → phase_in (suc f) kind ≤ leaf y words i →
    Done job.rule kind job y (suc f) words i) where
  low : 3 * f ≤ root y words
  low = omega arith

  high : root y words ≤ 3 * f + 3
  high = omega arith

  agrees : AgreesAfter job f
  agrees = agrees_by job y words f limits sizes layout lawful low high job.rule refl none
      (λ i proc. lawful.done i Verify proc
      (let l = low_leaf job y words f limits sizes layout lawful low high i proc in omega arith))

  -- a new word is the settled one of the step
  new_settled : (p word : ℕ) → p < places_of y →
      IsNew y.form job f (root y words) p word → word ≡ settled y.form job (suc f) p
  new_settled p word place n =
      let last : last_landing y.form job (suc f) p ≡ suc f =
      last_new y.form job limits f p
      (record { writer = n.writer; value = payload_of word; lands = n.lands }) in
      let value : slice_index (state_after job (suc f)) p ≡ payload_of word =
      landed_value y.form job f p n.writer (payload_of word) limits
      (place_below job y words f limits sizes layout lawful low high p place)
      agrees n.lands n.wins in
      let e = n.stamp in
      let here : word ≡ word_of_step job (suc f) p = omega arith in
      here ∙ ap (λ (n : ℕ). word_of_step job n p) (sym last)

  next_pair : (p a b : ℕ) → p < places_of y → (IsLanded y.form job f p → IsLate y f p words) →
      a ≡ held y words (Stored p 0) → b ≡ held y words (Stored p 1) →
      IsPair y.form job f (root y words) p a b → IsPair y.form job (suc f) (root y words) p a b
  next_pair p a b place late ea eb pair = elim (landing_cases y.form job limits f p) [
    | inl l ↦ next_left p a b l pair
    | inr w ↦ next_set p a b place w (elim (late w.written) [
      | inl h ↦ (let g = ap stamp_of ea in inl (omega arith))
      | inr h ↦ (let g = ap stamp_of eb in inr (omega arith))
    ]) pair
  ]
    where
      next_left : (p a b : ℕ) → Left y.form job f p → IsPair y.form job f (root y words) p a b →
          IsPair y.form job (suc f) (root y words) p a b
      next_left p a b l (newer_first e g) =
          newer_first (e ∙ ap (λ (n : ℕ). word_of_step job n p) (sym l.last))
          (g ∙ ap (λ (n : ℕ). word_of_step job (landing_before y.form job n p) p) (sym l.last))
      next_left p a b l (newer_second e g some) =
          newer_second (e ∙ ap (λ (n : ℕ). word_of_step job n p) (sym l.last))
          (g ∙ ap (λ (n : ℕ). word_of_step job (landing_before y.form job n p) p) (sym l.last)) some
      next_left p a b l (new_first n e) =
          absurd (l.none (record { writer = n.writer; value = payload_of a; lands = n.lands }))
      next_left p a b l (new_second n e some) =
          absurd (l.none (record { writer = n.writer; value = payload_of b; lands = n.lands }))

      before_now : (p word : ℕ) → Set y.form job f p → word ≡ settled y.form job f p →
          word ≡ settled_before y.form job (suc f) p
      before_now p word w e =
          e ∙ ap (λ (n : ℕ). word_of_step job (landing_before y.form job n p) p) (sym w.last)

      low_stamp : (t p : ℕ) → stamp_of (settled y.form job t p) ≡ last_landing y.form job t p
      low_stamp t p = stamp_step y.form job limits (last_landing y.form job t p) p

      next_set : (p a b : ℕ) → p < places_of y → Set y.form job f p → (f < stamp_of a) ⊎
          (f < stamp_of b) →
          IsPair y.form job f (root y words) p a b → IsPair y.form job (suc f) (root y words) p a b
      next_set p a b place w late (newer_first e g) = absurd (not_late p a b e g late)
        where
          not_late : (p a b : ℕ) → a ≡ settled y.form job f p → b ≡ settled_before y.form job f p →
              (f < stamp_of a) ⊎ (f < stamp_of b) → ⊥
          not_late p a b e g (inl h) =
              let s : stamp_of a ≡ last_landing y.form job f p = ap stamp_of e ∙ low_stamp f p in
              let m = last_most y.form job limits f p in omega arith
          not_late p a b e g (inr h) =
              let s : stamp_of b ≡ landing_before y.form job (last_landing y.form job f p) p =
              ap stamp_of g ∙ stamp_step y.form job limits
              (landing_before y.form job (last_landing y.form job f p) p) p in
              let m = last_most y.form job limits f p in
              let k = before_most y.form job limits (last_landing y.form job f p) p in omega arith
      next_set p a b place w late (newer_second e g some) = absurd (not_late p a b e g late)
        where
          not_late : (p a b : ℕ) → b ≡ settled y.form job f p → a ≡ settled_before y.form job f p →
              (f < stamp_of a) ⊎ (f < stamp_of b) → ⊥
          not_late p a b e g (inr h) =
              let s : stamp_of b ≡ last_landing y.form job f p = ap stamp_of e ∙ low_stamp f p in
              let m = last_most y.form job limits f p in omega arith
          not_late p a b e g (inl h) =
              let s : stamp_of a ≡ landing_before y.form job (last_landing y.form job f p) p =
              ap stamp_of g ∙ stamp_step y.form job limits
              (landing_before y.form job (last_landing y.form job f p) p) p in
              let m = last_most y.form job limits f p in
              let k = before_most y.form job limits (last_landing y.form job f p) p in omega arith
      next_set p a b place w late (new_first n e) =
          newer_first (new_settled p a place n) (before_now p b w e)
      next_set p a b place w late (new_second n e some) =
          newer_second (new_settled p b place n) (before_now p a w e) some

  next_claim : (c word : ℕ) → c < job.cells →
      ((i v : ℕ) → Asks job f c i v → stamped_word (suc f) (claim_of job i) ≤ word) →
      IsClaimed y.form job f (root y words) c word →
      IsClaimed y.form job (suc f) (root y words) c word
  next_claim c word cell high_claims (claimed_before e g) =
      elim (landing_cases y.form job limits f c) [
        | inl l ↦ claimed_before (e ∙ sym l.last) g
        | inr w ↦ absurd
            (let asks = lands_cell y.form job f c w.written.writer w.written.value cell
            w.written.lands in
            let h = high_claims w.written.writer w.written.value asks in
            let m = last_most y.form job limits f c in omega arith)
      ]
  next_claim c word cell high_claims (claimed_now e g l) =
      let last : last_landing y.form job (suc f) c ≡ suc f =
      last_new y.form job limits f c (record {
        writer = g.writer;
        value = g.value;
        lands = cell_lands y.form job f c g.writer g.value cell g.asks;
      }) in
      claimed_before (e ∙ sym last) (λ s h.
      let same : f ≡ s = omega arith in
      subst (λ (s : ℕ). ClaimsFor job s c (payload_of word)
      × ((i v : ℕ) → Asks job s c i v → claim_of job i ≤ payload_of word)) same (
        g,
        λ i v asks. let k = high_claims i v asks in
            let fits = claim_fits job y words f limits sizes layout lawful low high i in
            omega arith,
      ))

  pub root_over : LawfulFor job y (suc f) words
  root_over = record {
    reached = reached_more job f lawful.reached agrees;
    tree = lawful.tree;
    asked = λ compact i j proc part. let a = lawful.asked compact i j proc part in
        let r = raised job y words f limits sizes layout lawful low high compact f i j proc part
        (omega arith) in
        record { low = omega arith; high = (let h = a.high in omega arith); part = a.part };
    stored = λ p place. next_pair p _ _ place (λ w. late job y words f limits
        sizes layout lawful low high f p place (let h = phase_high y.form job p f in omega arith) w)
        refl refl (lawful.stored p place);
    claimed = λ c is. next_claim c _
        (let cells = same_cells job y (board job y words f limits sizes layout lawful low high) in
        let l = is.1 in omega arith) (λ i v asks. claim_high job y words f limits
        sizes layout lawful low high f c i v is (let h = claim_most y.form f in omega arith) asks)
        (lawful.claimed c is);
    done = begun;
    ahead = lawful.ahead;
    named = record { first = λ s e. absurd (omega arith); near = λ s e. absurd (omega arith) };
  }

-- words that are lawful for some number of finished steps are lawful for the one they show: where
-- that is one more, by what is done of the step after it
pub settle : (job : JobData) (y : LayoutData) (words : List ℕ) (f : ℕ) →
    IsJob job → IsLayout y → IsLayoutOf job y → LawfulFor job y f words →
    3 * f ≤ root y words → root y words ≤ 3 * f + 3 →
    (root y words ≡ 3 * f + 3 → conflict y words ≡ 0 → (i : ℕ) (kind : Kind) → i < y.procs →
    phase_in (suc f) kind ≤ leaf y words i → Done job.rule kind job y (suc f) words i) →
    Lawful job y words
settle job y words f limits sizes layout lawful low high begun =
    let is = fin (root y words) (conflict y words) in
    let a = is.low in
    let b = is.high in
    elim (cases_eq (root y words) (3 * f + 3)) [
      | inr n ↦ elim (cases_eq f (finished y words)) [
        | inl e ↦ subst (λ (g : ℕ). LawfulFor job y g words) e lawful
        | inr other ↦ absurd (let u = is.full (omega arith) in
            (lawful.named.first (finished y words) u).1
            (lawful.reached (finished y words) (omega arith)))
      ]
      | inl e ↦ elim (cases_eq (conflict y words) (suc f)) [
        | inl u ↦ subst (λ (g : ℕ). LawfulFor job y g words) (sym (is.part f e u)) lawful
        | inr other ↦ (
            let none : conflict y words ≡ 0 = no_conflict (conflict y words) refl e other in
            let more : suc f ≡ finished y words = (elim (cases_eq f (finished y words)) [
              | inl g ↦ absurd (let u = is.full (omega arith) in omega arith)
              | inr g ↦ omega arith
            ]) in
            subst (λ (g : ℕ). LawfulFor job y g words) more
            (root_over job y words f limits sizes layout lawful e none (begun e none)))
      ]
    ]
  where
    no_conflict : (u : ℕ) → conflict y words ≡ u → root y words ≡ 3 * f + 3 →
        conflict y words ≢ suc f → conflict y words ≡ 0
    no_conflict zero g e other = g
    no_conflict (suc s) g e other =
        absurd (let n = next_above y.form (root y words) in
        let m = n.0 in
        let k = n.1 in
        elim (lawful.named.near s g) [ inl r ↦ omega arith | inr r ↦ other (omega arith) ])
