-- The third pass of the rules common and crew: what a processor wrote, or its claim, still stands,
-- or a conflict is reported.
use Rattle.std.proofs.Common.{◌≡◌, ℕ, zero, suc, ◌+◌, ◌-◌, ◌*◌, ◌<◌, ◌≤◌, ◌==◌, ◌||◌, nat_lt}
use Rattle.std.proofs.Common.{if◌then◌else◌, true, false, List, ◌∷◌, IsTrue, refl, sym}
use Rattle.std.proofs.Common.{ap, subst, ◌∙◌, inl, inr, lit<, arith}
use Rattle.std.proofs.lemmas.Bool.{cond_both, cases_Bool, eqb-true}
use Rattle.std.proofs.lemmas.Bool.{eqb-false, ltb-true, ltb-false, or_parts}
use Rattle.pram_job.specs.Job.{JobData}
use Rattle.pram_job.specs.declared.instr.Rule.{Rule}
use Rattle.pram_job.specs.declared.instr.Rule.TheVariants.{Common, Priority, Crew}
use Rattle.pram_step.proofs.LawNext.{crew_writer}
use Rattle.pram_step.proofs.Past.{each_write, asks_fit}
use Rattle.pram_step.specs.History.{Asks, part_after}
use Rattle.pram_step.specs.Runs.{AgreesAfter, requests_after}
use Rattle.pram_words.specs.Phases.{next_phase, step_at}
use Rattle.pram_words.specs.Stamps.{stamp_of, payload_of, stamped_word}
use Rattle.pram_words.specs.Words.{LayoutData, IsWord, number_of, places_of}
use Rattle.pram_words.specs.declared.layout.Form.{Form}
use Rattle.pram_words.specs.declared.layout.Form.TheVariants.{Compact}
use Rattle.pram_words.specs.declared.words.Word.TheVariants.{Stored, Claim}
use Rattle.walk_memory.proofs.Boards.{same_cells, same_procs}
use Rattle.walkx.specs.Scripts.{Script, asks}
use Rattle.walkx.specs.Tasks.{claim_of, differs, reports, hears_part, loads_both, verify_task}
use Rattle.walkx.specs.Tasks.{crew_verify_task}
use Rattle.walkx.specs.Walk.{Then}
use Rattle.walk_memory.specs.Blocks.{IsBoard}
use Rattle.walkx.specs.declared.operation.Op.{Op}
use Rattle.walkx.specs.declared.operation.Op.TheVariants.{Load}
use Rattle.lawful_walk.specs.Lands.{phase_written, compact_phase_written, phase_claimed}
use Rattle.lawful_walk.proofs.Winners.{compact_lands, wins_all}
use Rattle.lawful_walk.proofs.Moments.{onward, stamps_rise}
use Rattle.lawful_walk.specs.Board.{held, root, conflict, stamp_at, finished, HoldsNew, ClaimStays}
use Rattle.lawful_walk.specs.Board.{Grows, Stays, Stands}
use Rattle.lawful_walk.proofs.Agreed.{agreed_word, claimant, differs_is, differs_not}
use Rattle.lawful_walk.proofs.Applying.{cell_written, data_asked}
use Rattle.lawful_walk.proofs.Facts.{facts}
use Rattle.lawful_walk.proofs.Growths.{growth_shows}
use Rattle.lawful_walk.proofs.Hearing.{hears, reports_end}
use Rattle.lawful_walk.proofs.Known.{safe_known, floor_lasts, StaleSafe, EndSafe, stale_end}
use Rattle.lawful_walk.proofs.Raising.{stamps_most}
use Rattle.lawful_walk.proofs.Scripts.{Aim, Safe, load_safe, both_safe}
use Rattle.lawful_walk.proofs.Sees.{Sees, so, heard, later}
use Rattle.lawful_walk.specs.Moments.{Moment}
use Rattle.lawful_walk.specs.Writes.{Floor}

module _ (job : JobData) (y : LayoutData)
    (w q : ℕ) (aim : Aim) (x i : ℕ) (some : 1 ≤ q) (most : q ≤ 3 * job.steps)
    (step : step_at q ≡ suc x) (board : IsBoard job y) (proc : i < y.procs)
    (compact : y.form ≡ Compact) (phase : 3 * x + 3 ≡ q) where
  -- the step's second phase is over
  second_over : (words : List ℕ) → Floor job y q x words → 3 * x + 2 ≤ root y words
  second_over words floor =
      let low = floor.root in
      let next = subst (λ (f : Form). q ≤ next_phase f (root y words)) compact low in omega arith

  -- while the phase is not over, the root and the finished step have been the same
  live : (words later : List ℕ) → Stands job y words →
      Stands job y later → Grows y words later → Floor job y q x words → root y later < q →
      (root y words < q) × (finished y words ≡ x) × (finished y later ≡ x)
  live words later stands after up floor now =
      (growth_shows job y words later stands after up).same_phase x q floor.reached
      (omega arith) (omega arith) floor.root now

  -- ---- common

  -- a word of the step stays, as long as the step isn't finished
  stays_so : (p k : ℕ) (words later : List ℕ) → IsWord y (Stored p k) →
      Stands job y later → Grows y words later → finished y later ≡ x →
      x < stamp_at y words p k →
      (held y words (Stored p k) ≡ held y later (Stored p k)) × (stamp_at y words p k ≡ suc x)
  stays_so p zero words later is after up gone late =
      let high = stamps_most job y later after p 0 is in
      let rise = stamps_rise y words later p 0 is up in (
        elim (up (Stored p zero) is) [
          | inl e ↦ e
          | inr more ↦ absurd (let m = more.0 in omega arith)
        ],
        omega arith,
      )
  stays_so p (suc zero) words later is after up gone late =
      let high = stamps_most job y later after p 1 is in
      let rise = stamps_rise y words later p 1 is up in (
        elim (up (Stored p (suc zero)) is) [
          | inl e ↦ e
          | inr more ↦ absurd (let m = more.1 in omega arith)
        ],
        omega arith,
      )
  stays_so p (suc (suc k)) words later is after up gone late = absurd (let h = is.1 in omega arith)

  no_data : (words : List ℕ) → part_after job x i 0 ≡ 0 → Stays job y x words i
  no_data words none = inr (λ p v asked cell. elim (each_write job x p i v asked) [
    | inl e ↦ absurd (let g = e.0 in omega arith)
    | inr e ↦ absurd (let g = e.0 in omega arith)
  ])

  all_data : (words : List ℕ) → (part_after job x i 0 == 0) ≡ false →
      HoldsNew y words (part_after job x i 0 - 1) (suc x) (part_after job x i 1) →
      Stays job y x words i
  all_data words some_data holds = inr (λ p v asked cell. elim (each_write job x p i v asked) [
    | inl e ↦ absurd (let g = e.0 in omega arith)
    | inr e ↦ (let g = e.0 in
        let f = eqb-false (part_after job x i 0) 0 some_data in
        let same : part_after job x i 0 - 1 ≡ p = omega arith in
        subst (λ (v : ℕ). HoldsNew y words p (suc x) v) e.1
        (subst (λ (p : ℕ). HoldsNew y words p (suc x) (part_after job x i 1)) same holds))
  ])

  Both : ℕ → ℕ → ℕ → List ℕ → Type 0
  Both p a b = Moment job y (Load (number_of y (Stored p 1))) b
      (Moment job y (Load (number_of y (Stored p 0))) a (Floor job y q x))

  both_floor : (p a b : ℕ) (words : List ℕ) → Stands job y words →
      Both p a b words → Floor job y q x words
  unfolding Both
  both_floor p a b words stands m =
      let first = m.earlier in
      floor_lasts job y q x first.words words first.stands stands
      (onward y first.words m.words words first.since m.since) first.earlier

  place_in : (p v : ℕ) → Asks job x p i v → p < places_of y
  place_in p v asked =
      let a = (asks_fit job x p i v board.limits asked).0 in
      let b = same_cells job y board in
      let c = same_procs job y board in omega arith

  -- a word of the step with another value: the step doesn't agree
  disagrees : (p v a b : ℕ) (words : List ℕ) → job.rule ≡ Common → Asks job x p i v →
      Both p a b words → (differs (suc x) v a || differs (suc x) v b) ≡ true → AgreesAfter job x → ⊥
  unfolding Both
  disagrees p v a b words rule asked m h agrees =
      let first = m.earlier in
      let place = place_in p v asked in
      let wins = λ (j : ℕ).
      wins_all job x p j (λ e. absurd (let g : Common ≡ Priority = sym rule ∙ e in cc)) in
      elim (cases_Bool (differs (suc x) v a)) [
        | inl e ↦ (let d = differs_is (suc x) v a e in
            d.1 (ap payload_of first.heard ∙ agreed_word job x p i v y board agrees asked
            wins first.words 0 first.stands (place, lit< tt) (sym (ap stamp_of first.heard) ∙ d.0)))
        | inr e ↦ (let g : differs (suc x) v b ≡ true = rw e at h in
            let d = differs_is (suc x) v b g in
            d.1 (ap payload_of m.heard ∙ agreed_word job x p i v y board agrees
            asked wins m.words 1 m.stands (place, lit< tt) (sym (ap stamp_of m.heard) ∙ d.0)))
      ]

  -- neither word differs: the value stands
  holds_new : (p v a b : ℕ) (words : List ℕ) →
      job.rule ≡ Common → Asks job x p i v → Stands job y words → Both p a b words →
      (differs (suc x) v a || differs (suc x) v b) ≡ false →
      root y words < q → HoldsNew y words p (suc x) v
  unfolding Both
  holds_new p v a b words rule asked stands m h now =
      let first = m.earlier in
      let place = place_in p v asked in
      let neither = or_parts (differs (suc x) v a) (differs (suc x) v b) h in
      let up = onward y first.words m.words words first.since m.since in
      let then_live = live first.words words first.stands stands up first.earlier now in
      let gone : finished y words ≡ x = then_live.2 in
      let before = then_live.0 in
      let over = second_over first.words first.earlier in
      let low : phase_written y.form job p x ≤ root y first.words =
      subst (λ (f : Form). phase_written f job p x ≤ root y first.words) (sym compact)
      (subst (λ (r : Rule). compact_phase_written r x ≤ root y first.words) (sym rule)
      (omega arith)) in
      elim ((facts job y first.words first.stands).written_late x p place low
      (record {
        writer = i;
        value = v;
        lands = compact_lands y.form job x p i v compact asked;
      })) [
        | inl late ↦ (
            let s = stays_so p 0 first.words words (place, lit< tt) stands up gone late in
            let same : payload_of a ≡ v =
            differs_not (suc x) v a neither.0 (ap stamp_of first.heard ∙ s.1) in (
              0,
              lit< tt,
              sym (ap stamp_of s.0) ∙ s.1,
              sym (ap payload_of s.0) ∙ sym (ap payload_of first.heard) ∙ same,
            ))
        | inr late ↦ (
            let rise = stamps_rise y first.words m.words p 1 (place, lit< tt) first.since in
            let s = stays_so p 1 m.words words (place, lit< tt) stands m.since gone (omega arith) in
            let same : payload_of b ≡ v =
            differs_not (suc x) v b neither.1 (ap stamp_of m.heard ∙ s.1) in (
              1,
              lit< tt,
              sym (ap stamp_of s.0) ∙ s.1,
              sym (ap payload_of s.0) ∙ sym (ap payload_of m.heard) ∙ same,
            ))
      ]

  pub verify_safe : job.rule ≡ Common → (after : Script Then) →
      EndSafe job y w q aim x (λ words. Stays job y x words i) after → (history : List (Op × ℕ)) →
      Sees job y history (Floor job y q x) →
      Safe job y w q aim (verify_task job y (suc x) i after) history
  unfolding verify_task Both
  verify_safe rule after done history sees =
      let stale : StaleSafe job y w q aim x after =
      stale_end job y w q aim x (λ words. Stays job y x words i) after done in
      let p = part_after job x i 0 - 1 in
      let v = part_after job x i 1 in
      let judges = λ (place value a b : ℕ). if differs (suc x) value a || differs (suc x) value b
      then reports y (suc x) after else after in
      let compares = λ (place : ℕ).
      hears_part y (suc x) i 1 after (λ value. loads_both y (place - 1) (judges place value)) in
      hears job y w q aim x i some most step board proc compact 0 (lit< tt) (omega arith) after
      (λ place. if place == 0 then after else compares place) history stale sees (λ longer more.
      cond_both (part_after job x i 0 == 0) after
      (compares (part_after job x i 0)) (λ (s : Script Then). Safe job y w q aim s longer)
      (λ e. done longer (so job y longer (Floor job y q x)
      (λ words. Floor job y q x words × (root y words < q → Stays job y x words i))
      (λ words stands f. (f, λ now. no_data words (eqb-true (part_after job x i 0) 0 e))) more))
      (λ e.
      let asked = data_asked job y w q aim x i some most step board proc compact e in
      hears job y w q aim x i some most step board proc compact 1 (lit< tt) (omega arith)
      after (λ value.
      loads_both y p (judges (part_after job x i 0) value)) longer stale more (λ longer more.
      both_safe job y w q aim p
      (judges (part_after job x i 0) v) longer (Floor job y q x) more (λ a b longest known.
      cond_both (differs (suc x) v a || differs (suc x) v b)
      (reports y (suc x) after) after (λ (s : Script Then). Safe job y w q aim s longest)
      (λ d. safe_known job y w q aim (reports y (suc x) after) longest
      (AgreesAfter job x → ⊥) (so job y longest (Both p a b) (λ words. AgreesAfter job x → ⊥)
      (λ words stands m. disagrees p v a b words rule asked m d) known) (λ not.
      reports_end job y w q aim x some most step phase (Floor job y q x) (floor_lasts job y q x)
      (λ words f. f) not after longest
      (so job y longest (Both p a b)
      (Floor job y q x) (λ words stands m. both_floor p a b words stands m) known) (λ last reported.
      done last (so job y last (λ words. Floor job y q x words × (root y words < q →
      conflict y words ≡ suc x)) (λ words. Floor job y q x words × (root y words < q →
      Stays job y x words i)) (λ words stands h. (h.0, λ now. inl (h.1 now))) reported))))
      (λ d. done longest (so job y longest (Both p a b)
      (λ words. Floor job y q x words × (root y words < q → Stays job y x words i))
      (λ words stands m. (
        both_floor p a b words stands m,
        λ now. all_data words e (holds_new p v a b words rule asked stands m d now),
      )) known))))))

  -- ---- crew

  no_claims : (words : List ℕ) →
      ((c v : ℕ) → Asks job x c i v → c < job.cells → ⊥) → ClaimStays job y x words i
  no_claims words none = inr (λ c v asked cell. absurd (none c v asked cell))

  -- another claim of the step: the step doesn't agree
  other_claims : (p v found : ℕ) (words : List ℕ) →
      job.rule ≡ Crew → IsTrue y.claims → p < job.cells → Asks job x p i v →
      Moment job y (Load (number_of y (Claim p))) found (Floor job y q x) words →
      differs (suc x) (claim_of job i) found ≡ true → AgreesAfter job x → ⊥
  other_claims p v found words rule has cell asked m h agrees =
      let is : IsWord y (Claim p) = (has, let c = same_cells job y board in omega arith) in
      let d = differs_is (suc x) (claim_of job i) found h in
      let c = claimant y.form job (finished y m.words) (root y m.words) x p
      (held y m.words (Claim p)) (m.stands.lawful.claimed p is) (sym (ap stamp_of m.heard) ∙ d.0) in
      let same : i ≡ c.writer =
      crew_writer job (requests_after job x) p i c.writer v c.value rule agrees cell asked c.asks in
      d.1 (ap payload_of m.heard ∙ c.is ∙ ap (claim_of job) (sym same))

  claimed_root : (words : List ℕ) → Floor job y q x words → phase_claimed y.form x ≤ root y words
  claimed_root words floor = subst (λ (f : Form). phase_claimed f x ≤ root y words) (sym compact)
      (second_over words floor)

  -- the claim that was heard is the processor's: it still is
  claim_now : (p v found : ℕ) (words : List ℕ) → IsTrue y.claims →
      p < job.cells → Asks job x p i v → Stands job y words →
      Moment job y (Load (number_of y (Claim p))) found (Floor job y q x) words →
      differs (suc x) (claim_of job i) found ≡ false → root y words < q →
      payload_of (held y words (Claim p)) ≡ claim_of job i
  claim_now p v found words has cell asked stands m h now =
      let is : IsWord y (Claim p) = (has, let c = same_cells job y board in omega arith) in
      let b = facts job y m.words m.stands in
      let then_live = live m.words words m.stands stands m.since m.earlier now in
      let before = then_live.0 in
      let mine : stamped_word (suc x) (claim_of job i) ≤ held y m.words (Claim p) =
      b.claims_high x p i v is (claimed_root m.words m.earlier) asked in
      let here : found ≡ held y m.words (Claim p) = m.heard in
      let up : held y m.words (Claim p) ≤ held y words (Claim p) = m.since (Claim p) is in
      let stamp_then : stamp_of (held y m.words (Claim p)) ≡ suc x =
      stamp_is m.words m.stands is (omega arith) (omega arith) in
      let stamp_now : stamp_of (held y words (Claim p)) ≡ suc x =
      stamp_is words stands is (omega arith) (omega arith) in
      let payload : payload_of found ≡ claim_of job i =
      differs_not (suc x) (claim_of job i) found h (ap stamp_of m.heard ∙ stamp_then) in
      let c = claimant y.form job (finished y words)
      (root y words) x p (held y words (Claim p)) (stands.lawful.claimed p is) stamp_now in
      let his = b.claims_high x p c.writer c.value is (claimed_root m.words m.earlier) c.asks in
      let is_his = c.is in omega arith
    where
      stamp_is : (words : List ℕ) → Stands job y words → IsWord y (Claim p) →
          root y words ≤ 3 * x + 2 → suc x ≤ stamp_of (held y words (Claim p)) →
          stamp_of (held y words (Claim p)) ≡ suc x
      stamp_is words stands is low more = by_stamp (stamp_of (held y words (Claim p))) refl more
        where
          by_stamp : (s : ℕ) → stamp_of (held y words (Claim p)) ≡ s → suc x ≤ s →
              stamp_of (held y words (Claim p)) ≡ suc x
          by_stamp zero e h = absurd (omega arith)
          by_stamp (suc s) e h =
              let l = ((facts job y words stands).claim_from s p is e).2 in
              let m : 3 * s + 2 ≤ root y words + 1 = subst
              (λ (f : Form). phase_claimed f s ≤ next_phase f (root y words)) compact l in
              omega arith

  all_claims : (words : List ℕ) → (part_after job x i 0 == 0) ≡ false →
      payload_of (held y words (Claim (part_after job x i 0 - 1))) ≡ claim_of job i →
      ClaimStays job y x words i
  all_claims words some_data here = inr (λ c v asked cell.
      let is = cell_written job x c i v asked cell in
      let f = eqb-false (part_after job x i 0) 0 some_data in
      let same : part_after job x i 0 - 1 ≡ c = omega arith in
      subst (λ (c : ℕ). payload_of (held y words (Claim c)) ≡ claim_of job i) same here)

  pub crew_verify_safe : job.rule ≡ Crew → IsTrue y.claims →
      (after : Script Then) → EndSafe job y w q aim x (λ words. ClaimStays job y x words i) after →
      (history : List (Op × ℕ)) → Sees job y history (Floor job y q x) →
      Safe job y w q aim (crew_verify_task job y (suc x) i after) history
  unfolding crew_verify_task
  crew_verify_safe rule has after done history sees =
      let stale : StaleSafe job y w q aim x after =
      stale_end job y w q aim x (λ words. ClaimStays job y x words i) after done in
      let p = part_after job x i 0 - 1 in
      let judges = λ (found : ℕ).
      if differs (suc x) (claim_of job i) found then reports y (suc x) after else after in
      let owns = λ (place : ℕ). if nat_lt (place - 1) job.cells
      then asks (Load (number_of y (Claim (place - 1)))) judges else after in
      hears job y w q aim x i some most step board proc compact 0 (lit< tt) (omega arith) after
      (λ place. if place == 0 then after else owns place) history stale sees (λ longer more.
      cond_both (part_after job x i 0 == 0) after
      (owns (part_after job x i 0)) (λ (s : Script Then). Safe job y w q aim s longer)
      (λ e. done longer (so job y longer (Floor job y q x)
      (λ words. Floor job y q x words × (root y words < q → ClaimStays job y x words i))
      (λ words stands f. (
        f,
        λ now. no_claims words (λ c v asked cell. let is = cell_written job x c i v asked cell in
            let none = eqb-true (part_after job x i 0) 0 e in omega arith),
      )) more)) (λ e.
      let asked = data_asked job y w q aim x i some most step board proc compact e in
      cond_both (nat_lt p job.cells) (asks (Load (number_of y (Claim p))) judges) after
      (λ (s : Script Then). Safe job y w q aim s longer) (λ l.
      let cell = ltb-true (part_after job x i 0 - 1) job.cells l in
      load_safe job y w q aim (number_of y (Claim p)) judges longer (λ found ok.
      let longest : List (Op × ℕ) = (Load (number_of y (Claim p)), found) ∷ longer in
      let now_floor : Sees job y longest (Floor job y q x) = later job y longer
      (Floor job y q x) (Load (number_of y (Claim p))) found (floor_lasts job y q x) more in
      let moment : Sees job y longest (Moment job y (Load (number_of y (Claim p))) found (Floor job
      y q x)) = heard job y longer (Floor job y q x) (Load (number_of y (Claim p))) found more in
      cond_both (differs (suc x) (claim_of job i) found)
      (reports y (suc x) after) after (λ (s : Script Then). Safe job y w q aim s longest)
      (λ d. safe_known job y w q aim (reports y (suc x) after) longest
      (AgreesAfter job x → ⊥) (so job y longest (Moment job y (Load (number_of y (Claim p))) found
      (Floor job y q x)) (λ words. AgreesAfter job x → ⊥) (λ words stands m.
      other_claims p (part_after job x i 1) found words rule has cell asked m d) moment) (λ not.
      reports_end job y w q aim x some most step phase (Floor job y q x) (floor_lasts job y q x)
      (λ words f. f) not after longest now_floor (λ last reported.
      done last (so job y last (λ words. Floor job y q x words × (root y words < q →
      conflict y words ≡ suc x)) (λ words. Floor job y q x words × (root y words < q →
      ClaimStays job y x words i)) (λ words stands h. (h.0, λ now. inl (h.1 now))) reported))))
      (λ d. done longest
      (so job y longest (Moment job y (Load (number_of y (Claim p))) found (Floor job y q x))
      (λ words. Floor job y q x words × (root y words < q → ClaimStays job y x words i))
      (λ words stands m. (
        floor_lasts job y q x m.words words m.stands stands m.since m.earlier,
        λ now. all_claims words e
            (claim_now p (part_after job x i 1) found words has cell asked stands m d now),
      )) moment))))
      (λ l. done longer (so job y longer (Floor job y q x)
      (λ words. Floor job y q x words × (root y words < q → ClaimStays job y x words i))
      (λ words stands f. (
        f,
        λ now. no_claims words (λ c v asked cell. let is = cell_written job x c i v asked cell in
            let out = ltb-false (part_after job x i 0 - 1) job.cells l in omega arith),
      )) more))))
