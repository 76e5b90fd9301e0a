-- Compute in the wide form: where a processor settles, what lands of its own is written, and with
-- claims that of its store.
use Rattle.std.proofs.Common.{◌≡◌, ℕ, zero, suc, ◌+◌, ◌*◌, ◌<◌, ◌≤◌, nat_lt, true, false}
use Rattle.std.proofs.Common.{List, [], ◌∷◌, slice_index, Option, Some, None, IsTrue}
use Rattle.std.proofs.Common.{refl, sym, ap, subst, ◌∙◌, inl, inr, lit<, arith, if◌then◌else◌}
use Rattle.std.specs.List.{AllByRecursion}
use Rattle.std.proofs.lemmas.Bool.{and_parts, cond_both, le-ltb, leb-true, ltb-false, ltb-true}
use Rattle.std.proofs.lemmas.Option.{none-some, some_pair_parts}
use Rattle.pram_job.specs.declared.instr.Rule.{Rule}
use Rattle.pram_job.specs.declared.instr.Rule.TheVariants.{Common}
use Rattle.pram_job.specs.Job.{JobData}
use Rattle.pram_machine.specs.declared.requests.Request.{Request}
use Rattle.pram_machine.specs.Instructions.{request_in}
use Rattle.pram_step.specs.History.{Wins}
use Rattle.pram_step.specs.Runs.{state_after}
use Rattle.pram_words.specs.declared.layout.Form.{Form}
use Rattle.pram_words.specs.declared.layout.Form.TheVariants.{Compact, Wide}
use Rattle.pram_words.specs.declared.phases.Kind.TheVariants.{Compute}
use Rattle.pram_words.specs.declared.words.Word.TheVariants.{Stored, Claim}
use Rattle.pram_words.specs.Phases.{phase_of, step_at}
use Rattle.pram_words.specs.Stamps.{payload_of, stamped_word, newer_word}
use Rattle.pram_words.specs.Words.{LayoutData, IsWord, number_of, places_of}
use Rattle.pram_words.proofs.NextPhases.{next_step}
use Rattle.walk_memory.specs.declared.memo.Memo.{Memo}
use Rattle.walk_memory.specs.declared.memo.Own.{Own}
use Rattle.walkx.specs.declared.operation.Op.{Op}
use Rattle.walkx.specs.declared.operation.Op.TheVariants.{Max}
use Rattle.walk_memory.specs.Memory.{IsIdle, IsTrueMemo, asked, at_start, cell_next, is_past}
use Rattle.walk_memory.specs.Memory.{own_at, reach}
use Rattle.walk_memory.specs.OwnWrites.{cell_write}
use Rattle.walkx.specs.Passes.{claims_store, computes_own, if_write, knows, landings, own_task}
use Rattle.walkx.specs.Passes.{own_claim_task, writes_each, writes_own}
use Rattle.walk_memory.specs.Learned.{memo_after}
use Rattle.walkx.specs.Scripts.{Script, asks}
use Rattle.walkx.specs.Tasks.{claim_of, claims, is_late, reads_cell}
use Rattle.walkx.specs.Walk.{Then}
use Rattle.walk_memory.specs.Blocks.{IsBoard}
use Rattle.walk_memory.proofs.Beginnings.{start_true}
use Rattle.walk_memory.proofs.Boards.{same_cells, same_procs}
use Rattle.walk_memory.proofs.OwnFits.{cell_below}
use Rattle.lawful_walk.specs.Board.{held, root, stamp_at, CarriedOwn, Claimed, DoneIn, IsLate}
use Rattle.lawful_walk.specs.Board.{Rests, Stands}
use Rattle.lawful_walk.specs.Lands.{Lands, phase_claimed, phase_written, landed_step}
use Rattle.lawful_walk.specs.Writes.{Floor}
use Rattle.lawful_walk.proofs.Effects.{writes_keep}
use Rattle.lawful_walk.proofs.Facts.{done_of_rests, facts}
use Rattle.lawful_walk.proofs.Growths.{place_as_heard}
use Rattle.lawful_walk.proofs.Known.{both_last, floor_lasts, safe_known, StaleSafe}
use Rattle.lawful_walk.proofs.Known.{LearnedSafe, raises_safe, stale_end}
use Rattle.lawful_walk.proofs.LandedOwn.{own_here}
use Rattle.lawful_walk.proofs.LandingLists.{MayLand, all_land, land_all}
use Rattle.lawful_walk.proofs.Alone.{asked_is, value_of}
use Rattle.lawful_walk.proofs.Newest.{own_is}
use Rattle.lawful_walk.proofs.OwnPlaces.{asks_cell, cell_asks, idle_rests}
use Rattle.lawful_walk.proofs.Owning.{Both, both_floor, both_late, in_job, knows_safe}
use Rattle.lawful_walk.proofs.Scripts.{Aim, Safe, both_safe}
use Rattle.lawful_walk.proofs.Sees.{Sees, Lasts, so}
use Rattle.lawful_walk.proofs.TrueMemos.{after_true}
use Rattle.lawful_walk.proofs.Values.{cell_under_way}
use Rattle.lawful_walk.proofs.Winners.{wins_lands}
use Rattle.lawful_walk.proofs.Writing.{late_later, writes_safe}

-- all of these places are late
abbrev AllLate : LayoutData → ℕ → List (ℕ × ℕ) → List ℕ → Type 0
AllLate y x writes words = AllByRecursion (λ (w : ℕ × ℕ). IsLate y x w.0 words) writes

module _ (job : JobData) (y : LayoutData) (w q : ℕ) (aim : Aim) (g x i : ℕ) (some : 1 ≤ q)
    (most : q ≤ 3 * job.steps) (step : step_at q ≡ suc x) (board : IsBoard job y)
    (proc : i < y.procs) (wide : y.form ≡ Wide g) where
  here : i < job.procs
  here = in_job job y w q aim g x i some most step board proc wide

  -- ---- a cell is read, while no cell is written

  cell_in : (c : ℕ) → c < job.cells → c < places_of y
  cell_in c cell = let b = same_cells job y board in let d = same_procs job y board in omega arith

  -- a word of this step or a later one: the phase is over
  cell_stale : (c : ℕ) (words : List ℕ) → c < job.cells → q ≤ 3 * x + 1 → Stands job y words →
      IsLate y x c words → q ≤ root y words
  cell_stale c words cell early stands late = by late
    where
      from : (k t : ℕ) → IsWord y (Stored c k) → stamp_at y words c k ≡ t → x < t →
          q ≤ root y words
      from k zero is e more = absurd (omega arith)
      from k (suc t) is e more =
          let s = ((facts job y words stands).stored_from t c k is e).2 in
          let low = cell_under_way y.form job c t (root y words) cell s in
          omega (arith, low, more, early)

      by : IsLate y x c words → q ≤ root y words
      by (inl h) = from 0 (stamp_at y words c 0) (cell_in c cell, lit< tt) refl h
      by (inr h) = from 1 (stamp_at y words c 1) (cell_in c cell, lit< tt) refl h

  told_cell : (form : Form) (c : ℕ) → c < job.cells → landed_step form job x c ≡ x
  told_cell form c cell = by form
    where
      by : (form : Form) → landed_step form job x c ≡ x
      by Compact = refl
      by (Wide g) = cond_both (nat_lt c job.cells) _ _ (λ (t : ℕ). t ≡ x) (λ e. refl)
          (λ e. absurd (let l = ltb-false c job.cells e in omega (arith, l, cell)))

  cell_value : (c a b : ℕ) (words : List ℕ) → c < job.cells → 3 * x + 1 ≤ q → Stands job y words →
      Both job y w q aim g x i some most step board proc wide c a b words →
      is_late (suc x) a b ≡ false →
      payload_of (newer_word a b) ≡ slice_index (state_after job x) c
  unfolding Both
  cell_value c a b words cell begun stands m early =
      let first = m.earlier in
      let floor = first.earlier in
      let low = next_step y.form (root y first.words) x
      (let f = floor.root in omega (arith, f, begun)) in
      (place_as_heard job y x c a b first.words m.words words first.stands m.stands stands
      first.since m.since (cell_in c cell) floor.reached low first.heard m.heard early).value
      ∙ ap (λ (t : ℕ). slice_index (state_after job t) c) (told_cell y.form c cell)

  cell_safe : (o : Option ℕ) → ((c : ℕ) → o ≡ Some c → c < job.cells) → 3 * x + 1 ≡ q →
      (after : Script Then) (next : ℕ → Script Then) (history : List (Op × ℕ)) →
      StaleSafe job y w q aim x after → Sees job y history (Floor job y q x) →
      ((longer : List (Op × ℕ)) → Sees job y longer (Floor job y q x) →
      Safe job y w q aim (next (value_of job i x board.limits o)) longer) →
      Safe job y w q aim (reads_cell y (suc x) o after next) history
  unfolding Both
  cell_safe None is phase after next history stale sees on = on history sees
  cell_safe (Some c) is phase after next history stale sees on =
      let cell = is c refl in
      let at = λ (a b : ℕ). Both job y w q aim g x i some most step board proc wide c a b in
      let floors =
      λ (a b : ℕ). both_floor job y w q aim g x i some most step board proc wide c a b in
      both_safe job y w q aim c
      (λ a b. if is_late (suc x) a b then after else next (payload_of (newer_word a b))) history
      (Floor job y q x) sees (λ a b longer moment.
      cond_both (is_late (suc x) a b) after (next (payload_of (newer_word a b)))
      (λ (s : Script Then). Safe job y w q aim s longer)
      (λ late. stale longer (so job y longer (at a b)
      (λ words. Floor job y q x words × (q ≤ root y words)) (λ words stands m. (
        floors a b words stands m,
        cell_stale c words cell (omega (arith, phase)) stands
            (both_late job y w q aim g x i some most step board proc wide c a b words
            (cell_in c cell) m late),
      )) moment))
      (λ no_late. safe_known job y w q aim (next (payload_of (newer_word a b))) longer
      (payload_of (newer_word a b) ≡ slice_index (state_after job x) c)
      (so job y longer (at a b)
      (λ words. payload_of (newer_word a b) ≡ slice_index (state_after job x) c)
      (λ words stands m. cell_value c a b words cell (omega (arith, phase)) stands m no_late)
      moment)
      (λ value. subst (λ (v : ℕ). Safe job y w q aim (next v) longer) (sym value)
      (on longer (so job y longer (at a b) (Floor job y q x)
      (λ words stands m. floors a b words stands m) moment)))))

  -- ---- places of its own are written, one after the other

  own_wins : (p v : ℕ) → MayLand g job x i p v → Wins job x p i
  own_wins p v may = wins_lands (Wide g) job x p i v board.limits
      (own_is job i p here may.mine).above may.lands

  each_safe : 3 * x + 1 ≡ q → (writes : List (ℕ × ℕ)) →
      AllByRecursion (λ (w : ℕ × ℕ). MayLand g job x i w.0 w.1) writes → (P : List ℕ → Type 0) →
      Lasts job y P → ((words : List ℕ) → P words → Floor job y q x words) →
      (after : Script Then) (history : List (Op × ℕ)) → Sees job y history P →
      ((longer : List (Op × ℕ)) → Sees job y longer (λ words. P words × AllLate y x writes words) →
      Safe job y w q aim after longer) →
      Safe job y w q aim (writes_each y (suc x) writes after) history
  each_safe phase [] may P lasts floor after history sees on = on history
      (so job y history P (λ words. P words × Unit {0}) (λ words stands h. (h, tt)) sees)
  each_safe phase (write ∷ writes) may P lasts floor after history sees on =
      let p = write.0 in
      let v = write.1 in
      let own = own_is job i p here may.0.mine in
      let high = own.above in
      let below = own.below in
      let place : p < places_of y = (let c = same_procs job y board in
      let b = same_cells job y board in omega (arith, below, b, c)) in
      let lands = subst (λ (f : Form). Lands f job x p i v) (sym wide) may.0.lands in
      let at : q ≡ phase_written y.form job p x =
      subst (λ (f : Form). q ≡ phase_written f job p x) (sym wide)
      (rw (le-ltb p job.cells high) (sym phase)) in
      writes_safe job y w q aim x p i v proc some most step at P lasts floor
      (λ words h. (lands, own_wins p v may.0)) (writes_each y (suc x) writes after) history sees
      (λ longer more. each_safe phase writes may.1 (λ words. P words × IsLate y x p words)
      (both_last job y P (IsLate y x p) lasts (λ words later a b up late.
      late_later y x p words later place up late)) (λ words h. floor words h.0) after longer more
      (λ longest known. on longest (so job y longest
      (λ words. (P words × IsLate y x p words) × AllLate y x writes words)
      (λ words. P words × (IsLate y x p words × AllLate y x writes words))
      (λ words stands h. (h.0.0, (h.0.1, h.1))) known)))

  -- ---- compute

  module _ (phase : 3 * x + 1 ≡ q) (rule : Rule) (is : job.rule ≡ rule)
      (after : Memo → Script Then)
      (done : LearnedSafe job y w q aim x i
      (λ words. DoneIn (Wide g) rule Compute job y x words i) after) where
    abbrev D : List ℕ → Type 0
    D words = DoneIn (Wide g) rule Compute job y x words i

    stale : (memo : Memo) → IsTrueMemo job i memo → StaleSafe job y w q aim x (after memo)
    stale memo is_true = stale_end job y w q aim x D (after memo) (done memo is_true)

    -- nothing of it is to be done
    past_done : (memo : Memo) → IsTrueMemo job i memo →
        is_past (phase_of (suc x) Compute) memo ≡ true → (words : List ℕ) → D words
    past_done memo is_true past words =
        let both = and_parts _ _ past in
        let idle : IsIdle job.rule Compute job x i = is_true.idle x Compute
        (ltb-true memo.acted (phase_of (suc x) Compute) both.0)
        (leb-true (phase_of (suc x) Compute) (reach memo) both.1) in
        done_of_rests g rule Compute job y x words i
        (subst (λ (f : Form). Rests f rule Compute job x i) (sym wide)
        (idle_rests g rule Compute job x i
        (subst (λ (r : Rule). IsIdle r Compute job x i) is idle)))

    computes_safe : (memo : Memo) → IsTrueMemo job i memo →
        (next : Memo → Request → Script Then) (history : List (Op × ℕ)) →
        Sees job y history (Floor job y q x) →
        ((known : Memo) → IsTrueMemo job i known → known.step ≡ x → (longer : List (Op × ℕ)) →
        Sees job y longer (Floor job y q x) →
        Safe job y w q aim (next known (request_in job (state_after job x) i)) longer) →
        Safe job y w q aim (computes_own job y (suc x) i memo after next) history
    computes_safe memo is_true next history sees on =
        let going = λ (known : Memo). reads_cell y (suc x) (cell_next job known.own)
        (after at_start) (λ value. next known (asked job i known.own value)) in
        cond_both (is_past (phase_of (suc x) Compute) memo) (after memo)
        (knows job y (suc x) i memo (after memo) going)
        (λ (s : Script Then). Safe job y w q aim s history)
        (λ past. done memo is_true history (so job y history (Floor job y q x)
        (λ words. Floor job y q x words × (root y words < q → D words))
        (λ words stands f. (f, λ live. past_done memo is_true past words)) sees))
        (λ due. knows_safe job y w q aim g x i some most step board proc wide
        (omega (arith, phase)) (after memo) (stale memo is_true) memo is_true going history sees
        (λ known known_true at longer more.
        subst (λ (own : Own). Safe job y w q aim (reads_cell y (suc x) (cell_next job own)
        (after at_start) (λ value. next known (asked job i own value))) longer)
        (sym (own_here job i x board.limits here known known_true at))
        (cell_safe (cell_next job (own_at job x i))
        (λ c e. cell_below job (own_at job x i) c board.limits e) phase (after at_start)
        (λ value. next known (asked job i (own_at job x i) value)) longer
        (stale at_start (start_true job board.limits i here)) more
        (λ longest learned. subst (λ (r : Request). Safe job y w q aim (next known r) longest)
        (sym (asked_is job i x board.limits)) (on known known_true at longest learned)))))

    -- what lands of its own is written; P is what else is known
    module _ (P : List ℕ → Type 0) (lasts : Lasts job y P)
        (floor : (words : List ℕ) → P words → Floor job y q x words)
        (both : (words : List ℕ) → P words → CarriedOwn job y x words i → D words) where
      own_made : (known : Memo) → IsTrueMemo job i known → known.step ≡ x →
          (history : List (Op × ℕ)) → Sees job y history P →
          Safe job y w q aim (writes_own job y (suc x) i known
          (request_in job (state_after job x) i)
          (after (memo_after job (suc x) i known (request_in job (state_after job x) i)))) history
      own_made known is_true at history sees =
          let r = request_in job (state_after job x) i in
          let learned = memo_after job (suc x) i known r in
          let writes = landings job (suc x) i known r in
          each_safe phase writes (all_land g job i x board.limits here known is_true at) P lasts
          floor (after learned) history sees (λ longer more.
          done learned (after_true job i board.limits here x known is_true at
          (omega (arith, most, step)))
          longer
          (so job y longer (λ words. P words × AllLate y x writes words)
          (λ words. Floor job y q x words × (root y words < q → D words))
          (λ words stands h. (
            floor words h.0,
            λ live. both words h.0 (λ p v lands high. land_all g job i x board.limits here known
                is_true at (λ p. IsLate y x p words) h.1 p v
                (subst (λ (f : Form). Lands f job x p i v) wide lands) high),
          )) more))

  pub own_task_safe : 3 * x + 1 ≡ q → job.rule ≡ Common → (memo : Memo) → IsTrueMemo job i memo →
      (after : Memo → Script Then) →
      LearnedSafe job y w q aim x i (λ words. CarriedOwn job y x words i) after →
      (history : List (Op × ℕ)) → Sees job y history (Floor job y q x) →
      Safe job y w q aim (own_task job y (suc x) i memo after) history
  unfolding own_task
  own_task_safe phase is memo is_true after done history sees =
      computes_safe phase Common is after done memo is_true
      (λ known r. writes_own job y (suc x) i known r (after (memo_after job (suc x) i known r)))
      history sees (λ known known_true at longer more.
      own_made phase Common is after done (Floor job y q x) (floor_lasts job y q x) (λ words f. f)
      (λ words f carried. carried) known known_true at longer more)

  -- ---- with claims

  Claims : List ℕ → Type 0
  Claims words = Floor job y q x words × Claimed job y x words i

  claims_last : IsTrue y.claims → Lasts job y Claims
  unfolding Claims
  claims_last has words later a b up h = (
    floor_lasts job y q x words later a b up h.0,
    λ c v asked cell.
        let cells = same_cells job y board in
        let rise = up (Claim c) (has, omega (arith, cell, cells)) in
        let low = h.1 c v asked cell in omega (arith, rise, low),
  )

  -- no store: nothing is to be claimed
  none_claimed : cell_write job (request_in job (state_after job x) i).put ≡ None →
      (words : List ℕ) → Claimed job y x words i
  none_claimed none words c v asked cell =
      absurd (none-some (c, v) (sym none ∙ asks_cell job x i c v cell asked))

  -- its store is claimed
  claim_safe : 3 * x + 1 ≡ q → IsTrue y.claims → (o : Option (ℕ × ℕ)) →
      cell_write job (request_in job (state_after job x) i).put ≡ o → (after : Script Then) →
      (history : List (Op × ℕ)) → Sees job y history (Floor job y q x) →
      ((longer : List (Op × ℕ)) → Sees job y longer Claims → Safe job y w q aim after longer) →
      Safe job y w q aim (if_write o after (λ c v. claims job y (suc x) i c after)) history
  unfolding Claims
  claim_safe phase has None e after history sees on = on history (so job y history
      (Floor job y q x) (λ words. Floor job y q x words × Claimed job y x words i)
      (λ words stands f. (f, none_claimed e words)) sees)
  claim_safe phase has (Some write) e after history sees on =
      let c = write.0 in
      let v = write.1 in
      let both = cell_asks job x i c v here e in
      let cell = both.1 in
      let word = stamped_word (suc x) (claim_of job i) in
      let is : IsWord y (Claim c) =
      (has, let b = same_cells job y board in omega (arith, b, cell)) in
      let at : q ≡ phase_claimed y.form x =
      subst (λ (f : Form). q ≡ phase_claimed f x) (sym wide) (sym phase) in
      cond_both (nat_lt c job.cells) (asks (Max (number_of y (Claim c)) word) (λ found. after))
      after
      (λ (s : Script Then). Safe job y w q aim s history)
      (λ e. raises_safe job y w q aim (Claim c) word (Floor job y q x) (floor_lasts job y q x) is
      (λ words later up. up (Claim c) is)
      (λ words stands f. (writes_keep job y words q x stands some most step f).claim c i v is at
      both.0) after history sees (λ longer more.
      on longer (so job y longer (λ words. Floor job y q x words × (word ≤ held y words (Claim c)))
      (λ words. Floor job y q x words × Claimed job y x words i)
      (λ words stands h. (
        h.0,
        λ d u other low.
            let same = (some_pair_parts c d v u (sym (asks_cell job x i c v cell both.0)
            ∙ asks_cell job x i d u low other)).0 in
            subst (λ (d : ℕ). word ≤ held y words (Claim d)) same h.1,
      )) more)))
      (λ e. absurd (let l = ltb-false c job.cells e in omega (arith, l, cell)))

  -- by a rule with claims
  module _ (phase : 3 * x + 1 ≡ q) (has : IsTrue y.claims) (rule : Rule) (is : job.rule ≡ rule)
      (after : Memo → Script Then)
      (done : LearnedSafe job y w q aim x i
      (λ words. DoneIn (Wide g) rule Compute job y x words i) after)
      (both : (words : List ℕ) → CarriedOwn job y x words i → Claimed job y x words i →
      DoneIn (Wide g) rule Compute job y x words i) where
    pub own_claim_task_safe : (memo : Memo) → IsTrueMemo job i memo → (history : List (Op × ℕ)) →
        Sees job y history (Floor job y q x) →
        Safe job y w q aim (own_claim_task job y (suc x) i memo after) history
    unfolding own_claim_task Claims
    own_claim_task_safe memo is_true history sees =
        let r = request_in job (state_after job x) i in
        let writes = λ (known : Memo) (r : Request).
        writes_own job y (suc x) i known r (after (memo_after job (suc x) i known r)) in
        computes_safe phase rule is after done memo is_true
        (λ known r. claims_store job y (suc x) i r (writes known r))
        history sees (λ known known_true at longer more.
        claim_safe phase has (cell_write job r.put) refl (writes known r) longer more
        (λ longest claimed. own_made phase rule is after done
        (λ words. Floor job y q x words × Claimed job y x words i) (claims_last has)
        (λ words h. h.0) (λ words h carried. both words carried h.1) known known_true at longest
        claimed))
