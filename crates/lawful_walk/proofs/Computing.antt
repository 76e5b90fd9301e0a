-- The compute task: a processor's operands are read, and its request is raised.
use Rattle.std.proofs.Common.{◌≡◌, ℕ, zero, suc, ◌+◌, ◌*◌, ◌<◌, ◌≤◌, List, [], ◌∷◌, ◌++◌, map}
use Rattle.std.proofs.Common.{length, slice_get, slice_index, Option, Some, None, append_assoc}
use Rattle.std.proofs.Common.{append-nil, refl, sym, subst, lit<, arith}
use Rattle.std.specs.List.{AllByRecursion}
use Rattle.pram_job.specs.Job.{JobData}
use Rattle.pram_job.specs.declared.instr.Instr.{Instr}
use Rattle.pram_machine.proofs.Shapes.{instr_is}
use Rattle.pram_machine.specs.Instructions.{request_in, sources_of, cell_read, decided, goes_to}
use Rattle.pram_machine.specs.Instructions.{operand_held, decided_in}
use Rattle.pram_machine.specs.Machine.{State, register, register_place, counter, counter_place}
use Rattle.pram_machine.specs.declared.requests.Request.{Request}
use Rattle.pram_step.specs.History.{part_after}
use Rattle.pram_step.specs.Runs.{state_after}
use Rattle.pram_words.specs.Phases.{step_at}
use Rattle.pram_words.specs.Stamps.{stamped_word}
use Rattle.pram_words.specs.Words.{LayoutData, number_of, places_of}
use Rattle.pram_words.specs.declared.layout.Form.TheVariants.{Compact}
use Rattle.pram_words.specs.declared.phases.Kind.TheVariants.{Compute}
use Rattle.pram_words.specs.declared.words.Word.TheVariants.{Asked}
use Rattle.walkx.proofs.TaskAsking.{sources_fit}
use Rattle.walk_memory.proofs.Boards.{same_cells, same_procs}
use Rattle.walk_memory.proofs.Cells.{cell_is}
use Rattle.walkx.specs.Scripts.{Script, asks}
use Rattle.walkx.specs.Tasks.{reads_registers, reads_cell, raises_request, executes, compute_task}
use Rattle.walkx.specs.Walk.{Then}
use Rattle.walk_memory.specs.Blocks.{IsBoard}
use Rattle.walkx.specs.declared.operation.Op.{Op}
use Rattle.walkx.specs.declared.operation.Op.TheVariants.{Max}
use Rattle.lawful_walk.proofs.Raising.{kind_of}
use Rattle.lawful_walk.specs.Board.{held, root, Raised, Grows}
use Rattle.lawful_walk.proofs.Effects.{writes_keep}
use Rattle.lawful_walk.proofs.Hearing.{reads}
use Rattle.lawful_walk.proofs.Known.{floor_lasts, both_last, StaleSafe, EndSafe, stale_end}
use Rattle.lawful_walk.proofs.Known.{raises_safe}
use Rattle.lawful_walk.proofs.Scripts.{Aim, Safe}
use Rattle.lawful_walk.proofs.Sees.{Sees, Lasts, so}
use Rattle.lawful_walk.specs.Writes.{Floor}

-- ---- what a worker decides is what the machine does

stays : (job : JobData) (s : State) (i : ℕ) → slice_get job.code (counter job s i) ≡ None →
    request_in job s i ≡ goes_to (counter job s i)
unfolding request_in
stays job s i e = rw (e, request_in) refl

asks_for : (job : JobData) (s : State) (i : ℕ) (instr : Instr) →
    slice_get job.code (counter job s i) ≡ Some instr →
    request_in job s i ≡ decided_in job s i instr
unfolding request_in
asks_for job s i instr e = rw (e, request_in) refl

module _ (job : JobData) (y : LayoutData)
    (w q : ℕ) (aim : Aim) (x i : ℕ) (some : 1 ≤ q) (most : q ≤ 3 * job.steps)
    (step : step_at q ≡ suc x) (board : IsBoard job y) (proc : i < y.procs)
    (compact : y.form ≡ Compact) (phase : 3 * x + 1 ≡ q)
    (after : Script Then)
    (done : EndSafe job y w q aim x (λ words. Raised job y x words i) after) where
  stale : StaleSafe job y w q aim x after
  stale = stale_end job y w q aim x (λ words. Raised job y x words i) after done

  place_in : (p : ℕ) → p < job.cells + 5 * job.procs → p < places_of y
  place_in p h = let b = same_cells job y board in let c = same_procs job y board in omega arith

  registers : (rs values : List ℕ) (next : List ℕ → Script Then) (history : List (Op × ℕ)) →
      AllByRecursion (λ r. r < 4) rs → Sees job y history (Floor job y q x) →
      ((longer : List (Op × ℕ)) → Sees job y longer (Floor job y q x) → Safe job y w q aim
      (next (values ++ map (register job (state_after job x) i) rs)) longer) →
      Safe job y w q aim (reads_registers job y (suc x) i rs values after next) history
  registers [] values next history all sees on =
      subst (λ (vs : List ℕ). Safe job y w q aim (next vs) history)
      (append-nil values) (on history sees)
  registers (r ∷ rs) values next history all sees on =
      let low = all.0 in
      let c = same_procs job y board in
      reads job y w q aim x i some most step board proc compact
      (register_place job i r) (place_in (register_place job i r) (omega arith)) (sym phase) after
      (λ v. reads_registers job y (suc x) i rs (values ++ v ∷ []) after next) history stale sees
      (λ longer more.
      registers rs (values ++ register job (state_after job x) i r ∷ []) next longer all.1 more
      (λ longest known.
      subst (λ (vs : List ℕ). Safe job y w q aim (next vs) longest)
      (sym (append_assoc values (register job (state_after job x) i r ∷ [])
      (map (register job (state_after job x) i) rs))) (on longest known)))

  cell : (o : Option ℕ) → ((c : ℕ) → o ≡ Some c → c < job.cells) →
      (next : ℕ → Script Then) (history : List (Op × ℕ)) → Sees job y history (Floor job y q x) →
      ((longer : List (Op × ℕ)) → Sees job y longer (Floor job y q x) → Safe job y w q aim
      (next (elim o [ None ↦ 0 | Some c ↦ slice_index (state_after job x) c ])) longer) →
      Safe job y w q aim (reads_cell y (suc x) o after next) history
  cell None is next history sees on = on history sees
  cell (Some c) is next history sees on = reads job y w q aim x i some most step board
      proc compact c
      (place_in c (let l = is c refl in omega arith)) (sym phase) after next history stale sees on

  asked_up : (j : ℕ) → j < 3 → (words later : List ℕ) → Grows y words later →
      held y words (Asked i j) ≤ held y later (Asked i j)
  asked_up j part words later up = up (Asked i j) (compact, proc, part)

  bound_lasts : (j v : ℕ) → j < 3 → Lasts job y (λ words. v ≤ held y words (Asked i j))
  bound_lasts j v part words later a b up h = let m = asked_up j part words later up in omega arith

  raised_by : (a b c : ℕ) (words : List ℕ) → stamped_word (suc x) a ≤ held y words (Asked i 0) →
      stamped_word (suc x) b ≤ held y words (Asked i 1) →
      stamped_word (suc x) c ≤ held y words (Asked i 2) → Raised job y x words i
  raised_by a b c words one two three zero part = omega arith
  raised_by a b c words one two three (suc zero) part = omega arith
  raised_by a b c words one two three (suc (suc zero)) part = omega arith
  raised_by a b c words one two three (suc (suc (suc j))) part = absurd (omega arith)

  Low : ℕ → List ℕ → Type 0
  Low j words = stamped_word (suc x) (part_after job x i j) ≤ held y words (Asked i j)

  First : List ℕ → Type 0
  First words = Floor job y q x words × Low 0 words

  Second : List ℕ → Type 0
  Second words = First words × Low 1 words

  low_lasts : (j : ℕ) → j < 3 → Lasts job y (Low j)
  unfolding Low
  low_lasts j part = bound_lasts j (stamped_word (suc x) (part_after job x i j)) part

  first_lasts : Lasts job y First
  unfolding First
  first_lasts =
      both_last job y (Floor job y q x) (Low 0) (floor_lasts job y q x) (low_lasts 0 (lit< tt))

  second_lasts : Lasts job y Second
  unfolding Second
  second_lasts = both_last job y First (Low 1) first_lasts (low_lasts 1 (lit< tt))

  raises : (history : List (Op × ℕ)) → Sees job y history (Floor job y q x) →
      Safe job y w q aim
      (raises_request y (suc x) i (request_in job (state_after job x) i) after) history
  unfolding Low First Second
  raises history sees =
      let kind = kind_of x q Compute phase in
      raises_safe job y w q aim (Asked i 0) (stamped_word (suc x) (part_after job x i 0))
      (Floor job y q x) (floor_lasts job y q x) (compact, proc, lit< tt) (asked_up 0 (lit< tt))
      (λ words stands f.
      (writes_keep job y words q x stands some most step f).request compact i 0 proc (lit< tt) kind)
      (asks (Max (number_of y (Asked i 1)) (stamped_word (suc x) (part_after job x i 1)))
      (λ found. asks (Max (number_of y (Asked i 2)) (stamped_word (suc x) (part_after job x i 2)))
      (λ found. after))) history sees (λ longer more.
      raises_safe job y w q aim (Asked i 1) (stamped_word (suc x) (part_after job x i 1)) First
      first_lasts (compact, proc, lit< tt) (asked_up 1 (lit< tt)) (λ words stands f.
      (writes_keep job y words q x stands some most step f.0).request compact i 1 proc
      (lit< tt) kind)
      (asks (Max (number_of y (Asked i 2)) (stamped_word (suc x) (part_after job x i 2)))
      (λ found. after)) longer more (λ longer more.
      raises_safe job y w q aim (Asked i 2) (stamped_word (suc x) (part_after job x i 2))
      Second second_lasts (compact, proc, lit< tt) (asked_up 2 (lit< tt)) (λ words stands f.
      (writes_keep job y words q x stands some most step f.0.0).request compact i 2 proc
      (lit< tt) kind) after longer more (λ longer more.
      done longer (so job y longer (λ words.
      Second words × (stamped_word (suc x) (part_after job x i 2) ≤ held y words (Asked i 2)))
      (λ words. Floor job y q x words × (root y words < q → Raised job y x words i))
      (λ words stands h. (
        h.0.0.0,
        λ live. raised_by (part_after job x i 0) (part_after job x i 1)
            (part_after job x i 2) words h.0.0.1 h.0.1 h.1,
      )) more))))

  raises_it : (r : Request) (history : List (Op × ℕ)) →
      request_in job (state_after job x) i ≡ r → Sees job y history (Floor job y q x) →
      Safe job y w q aim (raises_request y (suc x) i r after) history
  raises_it r history e sees = subst
      (λ (r : Request). Safe job y w q aim (raises_request y (suc x) i r after) history) e
      (raises history sees)

  does : (o : Option Instr) → slice_get job.code (counter job (state_after job x) i) ≡ o →
      (history : List (Op × ℕ)) → Sees job y history (Floor job y q x) →
      Safe job y w q aim
      (executes job y (suc x) i (counter job (state_after job x) i) o after) history
  does None e history sees = raises_it (goes_to (counter job (state_after job x) i)) history
      (stays job (state_after job x) i e) sees
  does (Some instr) e history sees =
      let s = state_after job x in
      let fits = instr_is job (counter job s i) instr board.limits e in
      registers (sources_of instr) []
      (λ values. reads_cell y (suc x) (cell_read job instr (slice_index values 0)) after
      (λ v. raises_request y (suc x) i (decided job i
      (counter job s i) instr (slice_index values 0) (slice_index values 1) v) after))
      history (sources_fit job.cells (length job.code) instr fits) sees (λ longer more.
      cell (cell_read job instr (operand_held job s i instr 0))
      (λ c f. cell_is job instr (operand_held job s i instr 0) c fits f)
      (λ v. raises_request y (suc x) i
      (decided job i (counter job s i) instr (operand_held job s i instr 0)
      (operand_held job s i instr 1) v) after) longer more (λ longest known.
      raises_it (decided_in job s i instr) longest (asks_for job s i instr e) known))

  pub compute_safe : (history : List (Op × ℕ)) → Sees job y history (Floor job y q x) →
      Safe job y w q aim (compute_task job y (suc x) i after) history
  unfolding compute_task
  compute_safe history sees =
      let c = same_procs job y board in
      reads job y w q aim x i some most step board proc compact (counter_place job i)
      (place_in (counter_place job i) (omega arith)) (sym phase) after
      (λ c. executes job y (suc x) i c (slice_get job.code c) after) history stale sees
      (λ longer more.
      does (slice_get job.code (counter job (state_after job x) i)) refl longer more)
