-- Carry in the wide form under the rules crew and priority: the claim to a processor's cell is
-- heard, and its store written.
use Rattle.std.proofs.Common.{◌≡◌, ◌≢◌, ℕ, zero, suc, ◌+◌, ◌*◌, ◌^◌, ◌<◌, ◌≤◌, ◌==◌}
use Rattle.std.proofs.Common.{nat_lt, true, false, List, ◌∷◌}
use Rattle.std.proofs.Common.{if◌then◌else◌, IsTrue, refl, sym, ap, subst, ◌∙◌, inl, inr}
use Rattle.std.proofs.Common.{lit<, arith}
use Rattle.std.proofs.lemmas.Bool.{cond_both}
use Rattle.std.proofs.lemmas.Bool.{eqb-true, eqb-false, ltb-true}
use Rattle.std.proofs.lemmas.Bool.{ltb-false}
use Rattle.pram_job.specs.Job.{JobData}
use Rattle.pram_job.specs.declared.instr.Rule.TheVariants.{Priority, Crew}
use Rattle.pram_step.specs.History.{Asks, Wins}
use Rattle.pram_step.specs.Runs.{AgreesAfter, state_after, requests_after}
use Rattle.pram_step.proofs.LawNext.{crew_writer}
use Rattle.pram_step.proofs.LawPlaces.{writer_is}
use Rattle.pram_words.specs.declared.layout.Form.{Form}
use Rattle.pram_words.specs.declared.layout.Form.TheVariants.{Wide}
use Rattle.pram_words.specs.declared.words.Word.TheVariants.{Conflict, Node, Claim}
use Rattle.pram_words.specs.Phases.{step_at, next_phase}
use Rattle.pram_words.specs.Stamps.{stamp_of, payload_of, stamped_word}
use Rattle.pram_words.specs.Words.{LayoutData, IsWord, number_of}
use Rattle.pram_words.proofs.NextPhases.{next_inside, next_step}
use Rattle.walkx.specs.declared.operation.Op.{Op}
use Rattle.walkx.specs.declared.operation.Op.TheVariants.{Load}
use Rattle.walkx.specs.Scripts.{Script, asks}
use Rattle.walkx.specs.Tasks.{claim_of, differs, reports, writes_place}
use Rattle.walkx.specs.Walk.{Then}
use Rattle.walk_memory.specs.Blocks.{IsBoard}
use Rattle.walk_memory.proofs.Boards.{same_cells, same_procs}
use Rattle.walk_memory.specs.declared.memo.Memo.{Memo}
use Rattle.walk_memory.specs.Memory.{IsTrueMemo}
use Rattle.walk_memory.specs.Learned.{carried}
use Rattle.walkx.specs.Passes.{crew_carry_task, reports_other, priority_carry_task}
use Rattle.lawful_walk.specs.Board.{held, root, conflict, finished, IsLate}
use Rattle.lawful_walk.specs.Board.{ClaimStays, ClaimsFor, CarriedCell, IsClaimed, Stands}
use Rattle.lawful_walk.specs.Board.{claimed_before, claimed_now}
use Rattle.lawful_walk.proofs.Winners.{wins_all, wins_least, counts_first, cell_lands}
use Rattle.lawful_walk.proofs.Moments.{moment_later}
use Rattle.lawful_walk.proofs.Raising.{alive}
use Rattle.lawful_walk.specs.Lands.{phase_claimed}
use Rattle.lawful_walk.proofs.Landings.{last_most}
use Rattle.lawful_walk.specs.Moments.{Moment}
use Rattle.lawful_walk.specs.Writes.{Floor}
use Rattle.lawful_walk.proofs.Facts.{facts}
use Rattle.lawful_walk.proofs.Known.{floor_lasts, safe_known, EndSafe, LearnedSafe, StaleSafe}
use Rattle.lawful_walk.proofs.Known.{stale_end}
use Rattle.lawful_walk.proofs.Owning.{in_job}
use Rattle.lawful_walk.proofs.Scripts.{Aim, Safe, load_safe}
use Rattle.lawful_walk.proofs.Sees.{Sees, Lasts, so, heard, later}
use Rattle.lawful_walk.proofs.Stores.{stores_safe}
use Rattle.lawful_walk.proofs.TrueMemos.{carried_true}
use Rattle.lawful_walk.proofs.Values.{claim_low}
use Rattle.lawful_walk.proofs.Writing.{writes_safe}
use Rattle.lawful_walk.proofs.Agreed.{claimant, differs_is, differs_not}
use Rattle.lawful_walk.proofs.CarryParts.{carried_by, none_carried, one_store, written}
use Rattle.lawful_walk.proofs.Hearing.{reports_end}

module _ (job : JobData) (y : LayoutData) (w q : ℕ) (aim : Aim) (g x i : ℕ) (some : 1 ≤ q)
    (most : q ≤ 3 * job.steps) (step : step_at q ≡ suc x) (board : IsBoard job y)
    (proc : i < y.procs) (wide : y.form ≡ Wide g) (phase : 3 * x + 3 ≡ q) where
  -- ---- crew: the claim is compared, and the cell written

  Crew_done : List ℕ → Type 0
  Crew_done words = CarriedCell job y x words i × ClaimStays job y x words i

  -- an answer of the claim word, while the phase is not over
  claim_begun : (words : List ℕ) → Floor job y q x words → phase_claimed y.form x ≤ root y words
  claim_begun words floor =
      let n = next_inside y.form (root y words) x (let f = floor.root in omega arith) in
      subst (λ (f : Form). phase_claimed f x ≤ root y words) (sym wide) n

  claim_is : (c : ℕ) → c < job.cells → IsTrue y.claims → IsWord y (Claim c)
  claim_is c cell has = (has, let b = same_cells job y board in omega arith)

  Claimed_at : ℕ → ℕ → List ℕ → Type 0
  Claimed_at c found = Moment job y (Load (number_of y (Claim c))) found (Floor job y q x)

  claimed_floor : (c found : ℕ) (words : List ℕ) → Stands job y words → Claimed_at c found words →
      Floor job y q x words
  unfolding Claimed_at
  claimed_floor c found words stands m =
      floor_lasts job y q x m.words words m.stands stands m.since m.earlier

  -- all claims of the step are made: the answer is at least each
  claim_high : (c found : ℕ) (words : List ℕ) → c < job.cells → IsTrue y.claims →
      Claimed_at c found words → (j u : ℕ) → Asks job x c j u →
      stamped_word (suc x) (claim_of job j) ≤ found
  unfolding Claimed_at
  claim_high c found words cell has m j u asked =
      let h = (facts job y m.words m.stands).claims_high x c j u (claim_is c cell has)
      (claim_begun m.words m.earlier) asked in
      let e = m.heard in omega (arith, h, e)

  -- a claim of the step is the greatest, and some writer's
  claim_top : (c found : ℕ) (words : List ℕ) → c < job.cells → IsTrue y.claims →
      Claimed_at c found words → stamp_of found ≡ suc x → ClaimsFor job x c (payload_of found)
  unfolding Claimed_at
  claim_top c found words cell has m e =
      let for = claimant y.form job (finished y m.words) (root y m.words) x c
      (held y m.words (Claim c)) (m.stands.lawful.claimed c (claim_is c cell has))
      (sym (ap stamp_of m.heard) ∙ e) in
      subst (λ (n : ℕ). ClaimsFor job x c (payload_of n)) (sym m.heard) for

  fits : (j : ℕ) → claim_of job j < 2 ^ 32
  fits j = let p = board.limits.procs.1 in omega arith

  -- the claim is another's: two write the cell
  crew_disagrees : (c v found : ℕ) (words : List ℕ) → job.rule ≡ Crew → c < job.cells →
      IsTrue y.claims → Asks job x c i v → Claimed_at c found words →
      differs (suc x) (claim_of job i) found ≡ true → AgreesAfter job x → ⊥
  crew_disagrees c v found words rule cell has asked m h agrees =
      let d = differs_is (suc x) (claim_of job i) found h in
      let for = claim_top c found words cell has m d.0 in
      let same : for.writer ≡ i =
      crew_writer job (requests_after job x) c for.writer i for.value v rule agrees cell
      for.asks asked in
      d.1 (for.is ∙ ap (claim_of job) same)

  -- it is the processor's own: it is the greatest, and stays
  crew_stays : (c v found : ℕ) (words : List ℕ) → c < job.cells → IsTrue y.claims →
      Asks job x c i v → Stands job y words → Claimed_at c found words →
      differs (suc x) (claim_of job i) found ≡ false → root y words < q →
      payload_of (held y words (Claim c)) ≡ claim_of job i
  unfolding Claimed_at
  crew_stays c v found words cell has asked stands m h live =
      let is = claim_is c cell has in
      let fl = claimed_floor c found words stands m in
      let gone = alive job y words q x stands some most step fl live in
      let shown = facts job y words stands in
      let mine = shown.claims_high x c i v is (claim_begun words fl) asked in
      let rise : held y m.words (Claim c) ≤ held y words (Claim c) = m.since (Claim c) is in
      let e = m.heard in
      let heard_mine = claim_high c found words cell has m i v asked in
      let few = fits i in
      now (held y words (Claim c)) refl (stands.lawful.claimed c is) mine
      (omega (arith, rise, e)) heard_mine gone
    where
      now : (word : ℕ) → held y words (Claim c) ≡ word →
          IsClaimed y.form job (finished y words) (root y words) c word →
          stamped_word (suc x) (claim_of job i) ≤ word → found ≤ word →
          stamped_word (suc x) (claim_of job i) ≤ found → finished y words ≡ x →
          payload_of word ≡ claim_of job i
      now word same (claimed_before at claims) mine rise heard_mine gone = absurd (
          let few = fits i in
          let m = last_most y.form job board.limits (finished y words) c in
          omega (arith, at, m, gone, mine, few))
      now word same (claimed_now at for low) mine rise heard_mine gone =
          let few = fits i in
          let stamp : stamp_of found ≡ suc x =
          omega (arith, at, gone, mine, rise, heard_mine, few) in
          let top = differs_not (suc x) (claim_of job i) found h stamp in
          let his = for.is in
          let few_too = fits for.writer in
          let asks_his = subst (λ (s : ℕ). Asks job s c for.writer for.value) gone for.asks in
          let most = claim_high c found words cell has m for.writer for.value asks_his in
          omega (arith, top, his, most, mine, at, gone, stamp, few, few_too)

  Named : List ℕ → Type 0
  Named words = Floor job y q x words × (root y words < q → conflict y words ≡ suc x)

  named_lasts : Lasts job y Named
  unfolding Named
  named_lasts words later a b up h = (
    floor_lasts job y q x words later a b up h.0,
    λ live. let r = up (Node 1) (lit< tt, let l = a.sizes.leaves in omega arith) in
        let e = h.1 (omega arith) in
        sym (up Conflict tt (λ none. absurd (omega arith))) ∙ e,
  )

  Kept : ℕ → ℕ → List ℕ → Type 0
  Kept c found words = Floor job y q x words × Claimed_at c found words

  kept_lasts : (c found : ℕ) → Lasts job y (Kept c found)
  unfolding Kept Claimed_at
  kept_lasts c found words later a b up h = (
    floor_lasts job y q x words later a b up h.0,
    moment_later job y (Load (number_of y (Claim c))) found (Floor job y q x) words later h.1 up,
  )

  pub crew_carry_task_safe : job.rule ≡ Crew → IsTrue y.claims → (memo : Memo) →
      IsTrueMemo job i memo → (then_all : Memo → Script Then) → LearnedSafe job y w q aim x i
      (λ words. CarriedCell job y x words i × ClaimStays job y x words i) then_all →
      (history : List (Op × ℕ)) → Sees job y history (Floor job y q x) →
      Safe job y w q aim (crew_carry_task job y (suc x) i memo then_all) history
  unfolding crew_carry_task Crew_done Claimed_at Named Kept
  crew_carry_task_safe rule has memo is_true then_all done history sees =
      let then_memo = carried (suc x) memo in
      let after : Script Then = then_all then_memo in
      let here = in_job job y w q aim g x i some most step board proc wide in
      let ended : EndSafe job y w q aim x Crew_done after =
      done then_memo (carried_true job i board.limits here (suc x) memo is_true) in
      let wins = λ (c : ℕ). wins_all job x c i (λ e. absurd
      (let k : Crew ≡ Priority = sym rule ∙ e in cc)) in
      let writes = λ (c v : ℕ). writes_place y (suc x) c v after in
      let rest = λ (c v found : ℕ).
      reports_other y (suc x) (differs (suc x) (claim_of job i) found) (writes c v) in
      stores_safe job y w q aim g x i some most step board proc wide (omega (arith, phase))
      Crew_done (then_all memo) (done memo is_true)
      (λ none words. (
        none_carried job y w q aim g x i some most step board proc wide none words,
        inr (λ c v asked cell. absurd (none c v cell asked)),
      )) memo is_true
      (λ c v. asks (Load (number_of y (Claim c))) (rest c v)) history sees
      (λ longer more c v cell asked.
      load_safe job y w q aim (number_of y (Claim c)) (rest c v) longer (λ found ok.
      let heard_too = (Load (number_of y (Claim c)), found) ∷ longer in
      let at : Sees job y heard_too (Claimed_at c found) =
      heard job y longer (Floor job y q x) (Load (number_of y (Claim c))) found more in
      cond_both (differs (suc x) (claim_of job i) found)
      (reports y (suc x) (writes c v)) (writes c v)
      (λ (s : Script Then). Safe job y w q aim s heard_too)
      (λ d. safe_known job y w q aim (reports y (suc x) (writes c v)) heard_too
      (AgreesAfter job x → ⊥) (so job y heard_too (Claimed_at c found)
      (λ words. AgreesAfter job x → ⊥)
      (λ words stands m. crew_disagrees c v found words rule cell has asked m d) at)
      (λ not. reports_end job y w q aim x some most step phase (Floor job y q x)
      (floor_lasts job y q x) (λ words f. f) not (writes c v)
      heard_too (so job y heard_too (Claimed_at c found) (Floor job y q x)
      (λ words stands m. claimed_floor c found words stands m) at) (λ longest reported.
      named_safe c v cell asked (wins c) after ended longest reported)))
      (λ d. own_safe c v found cell asked (wins c) d after ended heard_too at)))
    where
      -- the conflict is reported: the cell is written all the same
      named_safe : (c v : ℕ) → c < job.cells → Asks job x c i v → Wins job x c i →
          (after : Script Then) → EndSafe job y w q aim x Crew_done after →
          (longest : List (Op × ℕ)) →
          Sees job y longest
          (λ words. Floor job y q x words × (root y words < q → conflict y words ≡ suc x)) →
          Safe job y w q aim (writes_place y (suc x) c v after) longest
      named_safe c v cell asked wins after done longest reported =
          let lands = cell_lands y.form job x c i v cell asked in
          writes_safe job y w q aim x c i v proc some most step
          (written job y q g x wide phase c cell) Named named_lasts
          (λ words h. h.0)
          (λ words h. (lands, wins)) after longest
          reported (λ last known.
          done last (so job y last (λ words. Named words × IsLate y x c words)
          (λ words. Floor job y q x words × (root y words < q → Crew_done words))
          (λ words stands h. (
            h.0.0,
            λ live. (
              carried_by job y x i c v words cell asked h.1,
              inl (h.0.1 live),
            ),
          )) known))

      own_safe : (c v found : ℕ) → c < job.cells → Asks job x c i v → Wins job x c i →
          differs (suc x) (claim_of job i) found ≡ false →
          (after : Script Then) → EndSafe job y w q aim x Crew_done after →
          (longest : List (Op × ℕ)) → Sees job y longest (Claimed_at c found) →
          Safe job y w q aim (writes_place y (suc x) c v after) longest
      own_safe c v found cell asked wins d after done longest at =
          let lands = cell_lands y.form job x c i v cell asked in
          writes_safe job y w q aim x c i v proc some most step
          (written job y q g x wide phase c cell) (Kept c found)
          (kept_lasts c found) (λ words h. h.0)
          (λ words h. (lands, wins)) after longest
          (so job y longest (Claimed_at c found) (Kept c found)
          (λ words stands m. (claimed_floor c found words stands m, m)) at) (λ last known.
          done last (so job y last (λ words. Kept c found words × IsLate y x c words)
          (λ words. Floor job y q x words × (root y words < q → Crew_done words))
          (λ words stands h. (
            h.0.0,
            λ live. (
              carried_by job y x i c v words cell asked h.1,
              inr (λ e u other also.
                  let same = one_store job x i c v e u cell also asked other in
                  subst (λ (e : ℕ). payload_of (held y words (Claim e)) ≡ claim_of job i) same.0
                  (crew_stays c v found words cell has asked stands h.0.1 d live)),
            ),
          )) known))

  -- ---- priority: the one whose claim stands writes

  -- a claim that was heard tells whether the processor wins
  record Judged (c found : ℕ) : Type 0 where
    won : payload_of found ≡ claim_of job i → Wins job x c i
    lost : payload_of found ≢ claim_of job i → Wins job x c i → ⊥

  judged : (c v found : ℕ) (words : List ℕ) → job.rule ≡ Priority → c < job.cells →
      IsTrue y.claims → Asks job x c i v → stamp_of found ≤ suc x → Claimed_at c found words →
      Judged c found
  judged c v found words rule cell has asked high m =
      let top = claim_high c found words cell has m in
      let mine = top i v asked in
      let few = fits i in
      let procs = same_procs job y board in
      let stamp : stamp_of found ≡ suc x = omega (arith, mine, few, high) in
      record {
        won = λ e. counts_first job x c i job.rule (λ j u a.
            let t = top j u a in
            let k = fits j in
            let p = (writer_is job (state_after job x) c j u a).0 in
            omega (arith, t, e, stamp, k, p, few, proc, procs));
        lost = λ n wins.
            let for = claim_top c found words cell has m stamp in
            let first = wins_least job x c i for.writer for.value rule wins for.asks in
            let his = for.is in
            let k = fits for.writer in
            let p = (writer_is job (state_after job x) c for.writer for.value for.asks).0 in
            n (omega (arith, first, his, mine, stamp, few, k, p, proc, procs));
      }

  -- a later claim: the phase is over
  claim_stale : (c found : ℕ) (words : List ℕ) → c < job.cells → IsTrue y.claims →
      Stands job y words → suc x < stamp_of found → Claimed_at c found words →
      Floor job y q x words × (q ≤ root y words)
  unfolding Claimed_at
  claim_stale c found words cell has stands late m =
      (claimed_floor c found words stands m, by (stamp_of found) refl late)
    where
      by : (s : ℕ) → stamp_of found ≡ s → suc x < s → q ≤ root y words
      by zero e more = absurd (omega arith)
      by (suc s) e more =
          let at = ((facts job y m.words m.stands).claim_from s c (claim_is c cell has)
          (sym (ap stamp_of m.heard) ∙ e)).2 in
          let first : 3 * s + 1 ≤ next_phase y.form (root y m.words) =
          (let low = claim_low y.form s in omega (arith, at, low)) in
          let low = next_step y.form (root y m.words) s first in
          let rise = m.since (Node 1) (lit< tt, let l = stands.sizes.leaves in omega arith) in
          omega (arith, low, rise, more, phase)

  pub priority_carry_task_safe : job.rule ≡ Priority → IsTrue y.claims → (memo : Memo) →
      IsTrueMemo job i memo → (then_all : Memo → Script Then) →
      LearnedSafe job y w q aim x i (λ words. CarriedCell job y x words i) then_all →
      (history : List (Op × ℕ)) → Sees job y history (Floor job y q x) →
      Safe job y w q aim (priority_carry_task job y (suc x) i memo then_all) history
  unfolding priority_carry_task Claimed_at
  priority_carry_task_safe rule has memo is_true then_all done history sees =
      let then_memo = carried (suc x) memo in
      let late : Script Then = then_all memo in
      let after : Script Then = then_all then_memo in
      let here = in_job job y w q aim g x i some most step board proc wide in
      let D = λ (words : List ℕ). CarriedCell job y x words i in
      let stale : StaleSafe job y w q aim x late =
      stale_end job y w q aim x D late (done memo is_true) in
      let ended : EndSafe job y w q aim x D after =
      done then_memo (carried_true job i board.limits here (suc x) memo is_true) in
      let writes = λ (c v : ℕ). writes_place y (suc x) c v after in
      let owner = λ (c v found : ℕ).
      if payload_of found == claim_of job i then writes c v else after in
      let rest = λ (c v found : ℕ).
      if nat_lt (suc x) (stamp_of found) then late else owner c v found in
      stores_safe job y w q aim g x i some most step board proc wide (omega (arith, phase)) D late
      (done memo is_true)
      (none_carried job y w q aim g x i some most step board proc wide) memo is_true
      (λ c v. asks (Load (number_of y (Claim c))) (rest c v)) history sees
      (λ longer more c v cell asked.
      load_safe job y w q aim (number_of y (Claim c)) (rest c v) longer (λ found ok.
      let heard_too = (Load (number_of y (Claim c)), found) ∷ longer in
      let at : Sees job y heard_too (Claimed_at c found) =
      heard job y longer (Floor job y q x) (Load (number_of y (Claim c))) found more in
      let floors : Sees job y heard_too (Floor job y q x) = so job y heard_too (Claimed_at c found)
      (Floor job y q x) (λ words stands m. claimed_floor c found words stands m) at in
      cond_both (nat_lt (suc x) (stamp_of found)) late (owner c v found)
      (λ (s : Script Then). Safe job y w q aim s heard_too)
      (λ l. stale heard_too (so job y heard_too (Claimed_at c found)
      (λ words. Floor job y q x words × (q ≤ root y words)) (λ words stands m.
      claim_stale c found words cell has stands (ltb-true (suc x) (stamp_of found) l) m) at))
      (λ l. safe_known job y w q aim (owner c v found) heard_too (Judged c found)
      (so job y heard_too (Claimed_at c found) (λ words. Judged c found) (λ words stands m.
      judged c v found words rule cell has asked
      (let h = ltb-false (suc x) (stamp_of found) l in omega arith) m) at) (λ judge.
      cond_both (payload_of found == claim_of job i) (writes c v) after
      (λ (s : Script Then). Safe job y w q aim s heard_too)
      (λ e. won_safe c v cell asked (judge.won (eqb-true (payload_of found) (claim_of job i) e))
      after ended heard_too floors)
      (λ e. ended heard_too (so job y heard_too (Floor job y q x)
      (λ words. Floor job y q x words × (root y words < q → CarriedCell job y x words i))
      (λ words stands f. (
        f,
        λ live d u other also wins. absurd
            (judge.lost (eqb-false (payload_of found) (claim_of job i) e)
            (subst (λ (d : ℕ). Wins job x d i) (one_store job x i d u c v also cell other asked).0
            wins)),
      ))
      floors))))))
    where
      won_safe : (c v : ℕ) → c < job.cells → Asks job x c i v → Wins job x c i →
          (after : Script Then) →
          EndSafe job y w q aim x (λ words. CarriedCell job y x words i) after →
          (longest : List (Op × ℕ)) → Sees job y longest (Floor job y q x) →
          Safe job y w q aim (writes_place y (suc x) c v after) longest
      won_safe c v cell asked wins after done longest more =
          let lands = cell_lands y.form job x c i v cell asked in
          writes_safe job y w q aim x c i v proc some most step
          (written job y q g x wide phase c cell) (Floor job y q x)
          (floor_lasts job y q x) (λ words f. f)
          (λ words f. (lands, wins)) after
          longest more
          (λ last known. done last (so job y last
          (λ words. Floor job y q x words × IsLate y x c words)
          (λ words. Floor job y q x words × (root y words < q → CarriedCell job y x words i))
          (λ words stands h. (h.0, λ live. carried_by job y x i c v words cell asked h.1)) known))
