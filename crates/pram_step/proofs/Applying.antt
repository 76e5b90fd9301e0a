-- One turn more is taken: what each place holds then, and at the end of the step.
use Rattle.std.proofs.Common.{◌≡◌, ◌≢◌, ℕ, ◌+◌, ◌-◌, ◌*◌, ◌/◌, ◌<◌, ◌≤◌, ◌⊎◌}
use Rattle.std.proofs.Common.{List, length, take, drop, get_or, set, Option, Some, None}
use Rattle.std.proofs.Common.{refl, sym, ap, ◌∙◌, inl, inr, subst, arith, below_more}
use Rattle.std.proofs.Common.{◌++◌, length-set, length-take-le, get_or-set_same, get_or-set_other}
use Rattle.std.specs.Prelude.{unwrap_or}
use Rattle.std.proofs.lemmas.Bool.{cases_eq, cases_lt, eq-eqb}
use Rattle.std.proofs.lemmas.List.{ext_get_or, get_or-take, take-append-drop}
use Rattle.std.proofs.lemmas.Option.{none-some, some_pair_parts}
use Rattle.pram_job.specs.Job.{JobData, IsJob}
use Rattle.pram_machine.specs.declared.requests.Request.{Request}
use Rattle.pram_step.specs.declared.stores.Store.{Store}
use Rattle.pram_machine.specs.Machine.{State, IsDataPlace, IsStopped, place_count, counter_place}
use Rattle.pram_machine.specs.Machine.{register_place, register, counter, halted}
use Rattle.pram_machine.specs.Instructions.{goes_to, request_in, requests_in}
use Rattle.pram_step.specs.Steps.{Writes, written, Agrees, IsNext}
use Rattle.pram_step.specs.Steps.{first_written, next_state}
use Rattle.pram_step.specs.Inner.Marks.{PutsValue, AreAsked, AreStored}
use Rattle.pram_step.specs.Inner.Marks.{AsksNext, store_at}
use Rattle.pram_step.specs.Inner.Passes.{IsAdvance, SameCells}
use Rattle.pram_step.specs.Inner.Passes.{HaveMoved, ChangesNothing, IsMove, IsOwnPlace}
use Rattle.pram_step.specs.Running.{AreRunning}
use Rattle.pram_step.specs.Inner.Passes.{IsPassed}
use Rattle.pram_step.proofs.LawCounters.{next_counter}
use Rattle.pram_step.proofs.LawFixed.{length-after}
use Rattle.pram_step.proofs.LawFrames.{reads_one_cell}
use Rattle.pram_step.proofs.LawNext.{after_at, after_first, after_none, next_is_next}
use Rattle.pram_step.proofs.LawPlaces.{written_place, writer_is, writes_place}
use Rattle.pram_step.proofs.LawStopped.{stopped_request}
use Rattle.pram_step.proofs.LawWriters.{writer_cases}
use Rattle.pram_step.proofs.Marking.{AreAsked_none, AreAsked_quiet}
use Rattle.pram_step.proofs.Passing.{bound_inside, run_first, run_next}
use Rattle.pram_step.specs.Inner.Passes.{bound}
use Rattle.pram_step.proofs.RequestList.{written_of_put, written_cases}
use Rattle.pram_step.proofs.RequestList.{Puts-from_Writes, Puts_at, Puts_inside, Writes-from_Puts}
use Rattle.pram_machine.proofs.Shapes.{asks, length-requests_in}
use Rattle.pram_step.proofs.RequestList.{asked_at}

pub none_unless : (o : Option ℕ) → ((v : ℕ) → o ≡ Some v → ⊥) → o ≡ None
none_unless None h = refl
none_unless (Some v) h = absurd (h v refl)

-- ---- what one processor writes to a place

module _ (job : JobData) where
  written_counter : (p i : ℕ) (r : Request) → p ≡ counter_place job i →
      written job p i r ≡ Some r.next
  written_counter p i r e = rw (eq-eqb p (counter_place job i) e)

  written_elsewhere : (p i : ℕ) (r : Request) → p ≢ counter_place job i →
      ((v : ℕ) → r.put ≡ Some (p, v) → ⊥) → written job p i r ≡ None
  written_elsewhere p i r away none =
      none_unless (written job p i r) (λ v h.
      elim (written_cases job p i v r h) [ inl counter ↦ away counter.0 | inr puts ↦ none v puts ])

  -- a place that is no cell is an own place of one processor
  place_cases : (q : ℕ) → q < place_count job →
      (q < job.cells) ⊎ ((i : ℕ) × (i < job.procs) × IsOwnPlace job i q)
  place_cases q low = elim (cases_lt q job.cells) [
    | inl cell ↦ inl cell
    | inr past ↦ elim (cases_lt q (job.cells + 4 * job.procs)) [
      | inl register ↦ inr (
        (q - job.cells) / 4,
        omega arith,
        inr (omega arith, omega arith),
      )
      | inr counter ↦ inr (
        q - (job.cells + 4 * job.procs),
        omega arith,
        inl (omega arith),
      )
    ]
  ]

  -- ---- the three ways to write a request to own places

  module _ (i : ℕ) (r : Request) (old : State) (places : length old ≡ place_count job)
      (low : i < job.procs) where
    -- the counter is written, and nothing else
    pub move_counter : ((place v : ℕ) → job.cells ≤ place → r.put ≡ Some (place, v) → ⊥) →
        IsMove job i r old (set old (counter_place job i) r.next)
    move_counter none = record {
      len = length-set old (counter_place job i) r.next;
      cells = λ cell below.
          get_or-set_other old (counter_place job i) cell r.next 0 (λ e. omega arith);
      others = λ place past inside. elim (cases_eq place (counter_place job i)) [
        | inl same ↦
            subst (λ q. get_or (set old (counter_place job i) r.next) q 0 ≡ r.next) (sym same)
            (get_or-set_same old (counter_place job i) r.next 0 (omega arith))
            ∙ sym (ap (λ o. unwrap_or o (get_or old place 0)) (written_counter place i r same))
        | inr apart ↦
            get_or-set_other old (counter_place job i) place r.next 0 apart
            ∙ sym (ap (λ o. unwrap_or o (get_or old place 0))
            (written_elsewhere place i r apart (λ v h. none place v past h)))
      ];
    }

    -- the counter and a register are written
    module _ (at v : ℕ) (puts : r.put ≡ Some (at, v)) (past : job.cells ≤ at)
        (own : IsDataPlace job i at) where
      at_other : at ≢ counter_place job i
      at_other e = omega (arith, own)

      pub move_register : IsMove job i r old (set (set old (counter_place job i) r.next) at v)
      move_register =
          let moved = set old (counter_place job i) r.next in
          let len : length moved ≡ length old = length-set old (counter_place job i) r.next in
          let inside : at < length moved = omega (arith, own) in
          record {
            len = length-set moved at v ∙ len;
            cells = λ cell below. get_or-set_other moved at cell v 0 (λ e. omega arith)
                ∙ get_or-set_other old (counter_place job i) cell r.next 0 (λ e. omega arith);
            others = λ place past' inside'. elim (cases_eq place at) [
              | inl same ↦
                  subst (λ q. get_or (set moved at v) q 0 ≡ v) (sym same)
                  (get_or-set_same moved at v 0 inside)
                  ∙ sym (ap (λ o. unwrap_or o (get_or old place 0))
                  (subst (λ q. written job q i r ≡ Some v) (sym same)
                  (written_of_put job at i v r at_other puts)))
              | inr apart ↦
                  get_or-set_other moved at place v 0 apart
                  ∙ elim (cases_eq place (counter_place job i)) [
                    | inl same ↦
                        subst (λ q. get_or moved q 0 ≡ r.next) (sym same)
                        (get_or-set_same old (counter_place job i) r.next 0 (omega arith))
                        ∙ sym (ap (λ o. unwrap_or o (get_or old place 0))
                        (written_counter place i r same))
                    | inr away ↦
                        get_or-set_other old (counter_place job i) place r.next 0 away
                        ∙ sym (ap (λ o. unwrap_or o (get_or old place 0))
                        (written_elsewhere place i r away (λ w h.
                        apart (sym (some_pair_parts at place v w (sym puts ∙ h)).0))))
                  ]
            ];
          }

-- ---- the next state, at own places

module _ (job : JobData) (is_job : IsJob job) (s : State)
    (places : length s ≡ place_count job) where
  own_high : (i q : ℕ) → i < job.procs → IsOwnPlace job i q → job.cells ≤ q
  own_high i q low own = omega (arith, own)

  own_inside : (i q : ℕ) → i < job.procs → IsOwnPlace job i q → q < length s
  own_inside i q low own = omega (arith, own)

  -- another processor writes nothing there
  not_theirs : (i j q : ℕ) → i < job.procs → j < job.procs → i ≢ j → IsOwnPlace job i q →
      written job q j (request_in job s j) ≡ None
  not_theirs i j q low low' apart own = none_unless (written job q j (request_in job s j))
      (λ v e.
      let theirs = written_place job s q j v is_job e in
      let same : i ≡ j = omega (arith, own, theirs) in apart same)

  own_writer : (i q : ℕ) → i < job.procs → IsOwnPlace job i q →
      first_written job q 0 (requests_in job s) ≡ written job q i (request_in job s i)
  own_writer i q low own = elim (writer_cases job (requests_in job s) q) [
    | inl n ↦
        n.found ∙ sym (none_unless (written job q i (request_in job s i)) (λ v e.
        n.none i v (record {
          request = request_in job s i;
          request_is = asks job s i low;
          writes = e;
        })))
    | inr f ↦
        let theirs = writes_place job s q f.writer f.value is_job f.first.writes in
        let below = theirs.0 in
        let same : f.writer ≡ i = omega (arith, own, theirs.1) in
        f.found ∙ sym (subst (λ k. written job q k (request_in job s k) ≡ Some f.value) same
        (writer_is job s q f.writer f.value f.first.writes).1)
  ]

  next_own : (i q : ℕ) → i < job.procs → IsOwnPlace job i q →
      get_or (next_state job s) q 0
      ≡ unwrap_or (written job q i (request_in job s i)) (get_or s q 0)
  next_own i q low own = after_at job (requests_in job s) s q (own_inside i q low own)
      ∙ ap (λ o. unwrap_or o (get_or s q 0)) (own_writer i q low own)

  -- ---- one turn more

  module _ (p : ℕ) (below : p < job.procs) (now : State) (have : HaveMoved job s p now) where
    register_own : (which : ℕ) → which < 4 → IsOwnPlace job p (register_place job p which)
    register_own which low = inr (omega arith, omega arith)

    -- its request is that of the start
    pub same_request : request_in job now p ≡ request_in job s p
    same_request =
        let reads = reads_one_cell job s p is_job in
        sym (reads.2 now (record {
          registers = λ which low. sym (have.left p (register_place job p which)
              (omega arith) below (register_own which low));
          counters = sym (have.left p (counter_place job p) (omega arith) below (inl refl));
        }) (sym (have.cells reads.0 reads.1)))

    pub moved_next : (new : State) → IsMove job p (request_in job s p) now new →
        HaveMoved job s (p + 1) new
    moved_next new move = record {
      len = move.len ∙ have.len;
      cells = λ cell low. move.cells cell low ∙ have.cells cell low;
      moved = λ i q low low' own.
          let high = own_high i q low' own in
          let inside : q < length now = (let w = own_inside i q low' own in
          let e = have.len in omega arith) in
          move.others q high inside ∙ elim (cases_eq i p) [
            | inl same ↦
                let mine : IsOwnPlace job p q = subst (λ k. IsOwnPlace job k q) same own in
                ap (unwrap_or (written job q p (request_in job s p)))
                (have.left p q (omega arith) below mine) ∙ sym (next_own p q below mine)
            | inr apart ↦
                ap (λ o. unwrap_or o (get_or now q 0)) (not_theirs i p q low' below apart own)
                ∙ have.moved i q (omega arith) low' own
          ];
      left = λ i q low low' own.
          let high = own_high i q low' own in
          let inside : q < length now = (let w = own_inside i q low' own in
          let e = have.len in omega arith) in
          let apart : i ≢ p = λ e. omega arith in
          move.others q high inside
          ∙ ap (λ o. unwrap_or o (get_or now q 0)) (not_theirs i p q low' below apart own)
          ∙ have.left i q (omega arith) low' own;
    }

    -- a request that changes nothing writes nothing
    idle_move : ChangesNothing job s p → IsMove job p (request_in job s p) now now
    idle_move idle = record {
      len = refl;
      cells = λ cell low. refl;
      others = λ q high inside. sym (
          ap (λ r. unwrap_or (written job q p r) (get_or now q 0)) idle
          ∙ elim (cases_eq q (counter_place job p)) [
            | inl same ↦
                ap (λ o. unwrap_or o (get_or now q 0))
                (written_counter job q p (goes_to (counter job s p)) same)
                ∙ sym (subst (λ k. get_or now k 0 ≡ counter job s p) (sym same)
                (have.left p (counter_place job p) (omega arith) below (inl refl)))
            | inr apart ↦
                ap (λ o. unwrap_or o (get_or now q 0))
                (written_elsewhere job q p (goes_to (counter job s p)) apart
                (λ v h. none-some (q, v) h))
          ]);
    }

    module _ (asked : List Store) (count : ℕ)
        (are : AreAsked job.cells (requests_in job s) p asked count) where
      passed_idle : ChangesNothing job s p → IsPassed job s (p + 1) now asked count
      passed_idle idle = record {
        own = moved_next now (idle_move idle);
        stores = AreAsked_quiet job.cells (requests_in job s) p asked count are
            (λ cell v low puts.
            none-some (cell, v) (sym (ap (λ (r : Request). r.put) (asked_at job s p below ∙ idle))
            ∙ Puts_at (requests_in job s) cell p v puts));
      }

      pub passed_turn : (request : Request) → request ≡ request_in job now p →
          (new : State) → IsMove job p request now new →
          (asked' : List Store) (count' : ℕ) →
          AsksNext job p request.put asked count asked' count' →
          IsPassed job s (p + 1) new asked' count'
      passed_turn request is new move asked' count' asks_next =
          let same : request ≡ request_in job s p = is ∙ same_request in record {
            own = moved_next new (subst (λ r. IsMove job p r now new) same move);
            stores = asks_next (requests_in job s) request
                (asks job s p below ∙ ap Some (sym same)) refl are;
          }

  -- before the first turn
  passed_none : (asked : List Store) → IsPassed job s 0 s asked 0
  passed_none asked = record {
    own = record {
      len = refl;
      cells = λ cell low. refl;
      moved = λ i q low low' own. absurd (omega arith);
      left = λ i q low low' own. refl;
    };
    stores = AreAsked_none job.cells (requests_in job s) asked;
  }

  pub passed_stopped : (now : State) (asked : List Store) (count i : ℕ) →
      i < job.procs → IsStopped job s i → IsPassed job s i now asked count →
      IsPassed job s (i + 1) now asked count
  passed_stopped now asked count i low stopped passed =
      passed_idle i low now passed.own asked count passed.stores (stopped_request job s i stopped)

  module _ (running : List ℕ) (are : AreRunning job s running) where
    pub passed_first : (asked : List Store) → IsPassed job s (bound job running 0) s asked 0
    passed_first asked = run_first job s running are (λ n. IsPassed job s n s asked 0)
        (passed_stopped s asked 0) (passed_none asked)

    pub passed_next : (k : ℕ) → k < length running →
        (now : State) (asked : List Store) (count : ℕ) →
        IsPassed job s (get_or running k 0 + 1) now asked count →
        IsPassed job s (bound job running (k + 1)) now asked count
    passed_next k inside now asked count = run_next job s running are
        (λ n. IsPassed job s n now asked count) (passed_stopped now asked count) k inside

    -- the processors below n ask for nothing
    idle_stopped : (i : ℕ) → i < job.procs → IsStopped job s i →
        ((j : ℕ) → j < i → ChangesNothing job s j) → (j : ℕ) → j < i + 1 → ChangesNothing job s j
    idle_stopped i low stopped idle =
        below_more (ChangesNothing job s) i idle (stopped_request job s i stopped)

    pub idle_first : (j : ℕ) → j < bound job running 0 → ChangesNothing job s j
    idle_first = run_first job s running are (λ n. (j : ℕ) → j < n → ChangesNothing job s j) idle_stopped
        (λ j low. absurd (omega arith))

    pub idle_next : (k : ℕ) → k < length running →
        ((j : ℕ) → j < bound job running k → ChangesNothing job s j) → ChangesNothing job s (get_or running k 0) →
        (j : ℕ) → j < bound job running (k + 1) → ChangesNothing job s j
    idle_next k inside idle here =
        let e = bound_inside job s running are k inside in
        run_next job s running are (λ n. (j : ℕ) → j < n → ChangesNothing job s j) idle_stopped k inside
        (below_more (ChangesNothing job s) (get_or running k 0) (λ j low. idle j (omega arith)) here)

-- ---- at the end

-- those that have stopped stay so
pub AreRunning_next : (job : JobData) (s : State) (running : List ℕ) → IsJob job →
    length s ≡ place_count job → AreRunning job s running →
    AreRunning job (next_state job s) running
AreRunning_next job s running is_job places are = record {
  within = are.within;
  rises = are.rises;
  all = λ i low runs. elim (cases_lt (counter job s i) (halted job)) [
    | inl ran ↦ are.all i low ran
    | inr past ↦
        let next = next_counter job s i is_job places low in
        let stays : (request_in job s i).next ≡ counter job s i =
        ap (λ (r : Request). r.next) (stopped_request job s i past) in
        absurd (omega arith)
  ];
}

-- all turns were taken
module _ (job : JobData) (is_job : IsJob job) (s : State) (places : length s ≡ place_count job)
    (now : State) (have : HaveMoved job s job.procs now) where
  -- the cells hold what they held
  pub passed_cells : SameCells job.cells s now
  passed_cells =
      let len = have.len in
      let here : length (take job.cells now) ≡ job.cells =
      length-take-le job.cells now (omega arith) in
      let there : length (take job.cells s) ≡ job.cells =
      length-take-le job.cells s (omega arith) in record {
        len = len;
        same = ext_get_or 0 (take job.cells now) (take job.cells s) (here ∙ sym there)
            (λ q low. let below : q < job.cells = omega arith in
            get_or-take job.cells now q 0 below ∙ have.cells q below
            ∙ sym (get_or-take job.cells s q 0 below));
      }

  -- the stores that are asked for were made
  module _ (asked : List Store)
      (are : AreAsked job.cells (requests_in job s) job.procs asked (length asked))
      (new : State) (stored : AreStored asked now new) where
    inside_s : (q : ℕ) → q < job.cells → q < length s
    inside_s q low = omega arith

    store_writes : (k : ℕ) → k < length asked → (q : ℕ) → (store_at asked k).cell ≡ q →
        Writes job (requests_in job s) q (store_at asked k).processor (store_at asked k).value
    store_writes k inside q same =
        subst (λ c. Writes job (requests_in job s) c (store_at asked k).processor
        (store_at asked k).value) same
        (Writes-from_Puts job (requests_in job s) (store_at asked k).cell
        (store_at asked k).processor (store_at asked k).value (are.is_cell k inside)
        (are.puts k inside))

    -- the first writer's store
    at_first : (q i v : ℕ) → q < job.cells → PutsValue (requests_in job s) q i v →
        ((j w : ℕ) → Writes job (requests_in job s) q j w → i ≤ j) → get_or new q 0 ≡ v
    at_first q i v low puts least =
        let within : i < job.procs = omega (
          arith,
          Puts_inside (requests_in job s) q i v puts,
          length-requests_in job s,
        ) in
        let there = are.all q i v low within puts in
        let k = there.0 in
        let inside = there.1 in
        let here : PutsValue (requests_in job s) (store_at asked k).cell i (store_at asked k).value =
        subst (λ j. PutsValue (requests_in job s) (store_at asked k).cell j (store_at asked k).value)
        there.2 (are.puts k inside) in
        let same = some_pair_parts (store_at asked k).cell q (store_at asked k).value v
        (sym (Puts_at (requests_in job s) (store_at asked k).cell i (store_at asked k).value here)
        ∙ Puts_at (requests_in job s) q i v puts) in
        subst (λ c. get_or new c 0 ≡ (store_at asked k).value) same.0
        (stored.stored k (omega arith) inside (λ j low' below e.
        let before : j < length asked = omega arith in
        let less = are.rises j k below inside in
        let at_least = least (store_at asked j).processor (store_at asked j).value
        (store_writes j before q (e ∙ same.0)) in
        let is = there.2 in omega arith))
        ∙ same.1

    at_cell : (q : ℕ) → q < job.cells → get_or new q 0 ≡ get_or (next_state job s) q 0
    at_cell q low = elim (writer_cases job (requests_in job s) q) [
      | inl n ↦
          stored.kept q (λ k low' below same.
          n.none (store_at asked k).processor (store_at asked k).value
          (store_writes k below q same))
          ∙ have.cells q low
          ∙ sym (after_none job (requests_in job s) s q (inside_s q low) n.found)
      | inr f ↦
          at_first q f.writer f.value low
          (Puts-from_Writes job (requests_in job s) q f.writer f.value low f.first.writes)
          f.first.least
          ∙ sym (after_first job (requests_in job s) s q f.value (inside_s q low) f.found)
    ]

    all_passed : new ≡ next_state job s
    all_passed =
        let len = stored.len in
        let len' = have.len in
        ext_get_or 0 new (next_state job s)
        (len ∙ len' ∙ sym (length-after job (requests_in job s) s))
        (λ q low. elim (place_cases job q (omega arith)) [
          | inl cell ↦ at_cell q cell
          | inr own ↦
              stored.kept q (λ k low' below same.
              let is = are.is_cell k below in
              let high = own_high job is_job s places own.0 q own.1 own.2 in omega arith)
              ∙ have.moved own.0 q own.1 own.1 own.2
        ])

    -- the step is made
    pub advanced : Agrees job (requests_in job s) → (running : List ℕ) → AreRunning job s running →
        IsAdvance job running s new
    advanced agrees running runs =
        let next = all_passed in
        record {
          made = record {
            agrees = agrees;
            next = next;
            written = subst (IsNext job (requests_in job s) s) (sym next)
                (next_is_next job s is_job agrees);
          };
          runs = subst (λ r. AreRunning job r running) (sym next)
              (AreRunning_next job s running is_job places runs);
        }

-- with the cells, what lies behind them was kept
pub cells_back : (job : JobData) (s now : State) → SameCells job.cells s now →
    take job.cells now ++ drop job.cells s ≡ s
cells_back job s now same = ap (λ xs. xs ++ drop job.cells s) same.same
    ∙ take-append-drop job.cells s
