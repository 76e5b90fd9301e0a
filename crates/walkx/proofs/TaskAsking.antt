-- What the tasks of the compact form ask is on the board, and what they write is admitted there.
use Rattle.std.proofs.Common.{◌≡◌, ◌≢◌, ℕ, zero, suc, ◌+◌, ◌-◌, ◌*◌, ◌^◌, ◌<◌, ◌≤◌}
use Rattle.std.proofs.Common.{◌==◌, ◌||◌, nat_lt, Bool, IsTrue, if◌then◌else◌}
use Rattle.std.proofs.Common.{List, [], ◌∷◌, ◌++◌, length, slice_get, slice_index, Option}
use Rattle.std.proofs.Common.{Some, None, refl, sym, ap, subst, inl, inr, lit<, arith}
use Rattle.std.specs.List.{AllByRecursion}
use Rattle.std.proofs.lemmas.Bool.{cond_both, cases_Bool, eqb-false}
use Rattle.std.proofs.lemmas.Bool.{ltb-true, le-ltb, lt-ltb}
use Rattle.std.proofs.lemmas.Option.{slice_get_within}
use Rattle.pram_words.specs.declared.layout.Form.TheVariants.{Compact}
use Rattle.pram_job.specs.declared.instr.Instr.{Instr}
use Rattle.pram_job.specs.declared.instr.Operands.{Operands}
use Rattle.pram_job.specs.declared.instr.Operands.TheVariants.{Bare, Target, TargetNumber}
use Rattle.pram_job.specs.declared.instr.Operand.{Operand}
use Rattle.pram_job.specs.declared.instr.Operand.TheVariants.{Register, Number}
use Rattle.pram_job.specs.declared.instr.Operands.TheVariants.{TargetPlace, TargetTwo, PlaceValue}
use Rattle.pram_job.specs.declared.instr.Place.{Place}
use Rattle.pram_job.specs.declared.instr.Place.TheVariants.{Cell, Named}
use Rattle.pram_job.specs.declared.instr.Operands.TheVariants.{RegisterIndex, Index}
use Rattle.pram_job.specs.Instructions.{IsOperand, IsPlace, AreOperands, row_of}
use Rattle.pram_job.specs.declared.instr.Rule.{Rule}
use Rattle.pram_job.specs.declared.instr.Rule.TheVariants.{Common, Priority, Crew}
use Rattle.pram_job.specs.Job.{JobData, IsInstr}
use Rattle.pram_machine.specs.declared.requests.Request.{Request}
use Rattle.pram_machine.specs.Machine.{register_place, counter_place}
use Rattle.pram_machine.specs.Instructions.{registers_in, index_of, read_by, sources_of, cell_read}
use Rattle.pram_machine.specs.Instructions.{goes_to}
use Rattle.pram_machine.specs.Instructions.{place_part, value_part, HasShape}
use Rattle.pram_machine.proofs.Shapes.{decided_shape, instr_is}
use Rattle.pram_words.specs.declared.phases.Kind.{Kind}
use Rattle.pram_words.specs.declared.phases.Kind.TheVariants.{Compute, Apply, Verify}
use Rattle.pram_words.specs.declared.words.Word.{Word}
use Rattle.pram_words.specs.declared.words.Word.TheVariants.{Conflict, Asked}
use Rattle.pram_words.specs.declared.words.Word.TheVariants.{Stored, Claim}
use Rattle.pram_words.specs.Stamps.{stamp_of, payload_of, stamped_word}
use Rattle.pram_words.specs.Words.{LayoutData, IsWord, IsInRange, Admits, number_of, places_of}
use Rattle.pram_words.specs.Words.{counters_of, most_asked, most_stored, has_claims}
use Rattle.walkx.specs.declared.operation.Op.TheVariants.{Load, Max, Swap}
use Rattle.walkx.specs.Scripts.{Script, asks, ends}
use Rattle.pram_words.specs.Stamps.{first_is_older, older, older_word}
use Rattle.walkx.specs.Tasks.{loads_both, reads_place, writes_place, reads_registers, reads_cell}
use Rattle.walkx.specs.Tasks.{claim_of, differs, raises_request, executes, compute_task, hears_part}
use Rattle.walkx.specs.Tasks.{claims, carries, apply_task, crew_apply_task, reports, verify_task}
use Rattle.walkx.specs.Tasks.{crew_verify_task, claim_task, priority_apply_task, task_of}
use Rattle.walk_memory.specs.Blocks.{IsBoard}
use Rattle.walkx.specs.Walk.{HearsAdmitted, AsksAdmitted, IsStepOn}
use Rattle.walk_memory.proofs.Boards.{admits, in_range, is_below, place_shape, same_cells}
use Rattle.walk_memory.proofs.Boards.{same_procs, asked_part, stamps}
use Rattle.walk_memory.proofs.Cells.{cell_is}

-- whatever admitted answers it hears, what the script asks is an atomic step on the board, and
-- admitted, and this holds of what comes of it
unfoldable pub AllAsk : {R : Type 0} → JobData → LayoutData → (R → Type 0) → Script R → Type 0
AllAsk job y E (asks op next) = (IsStepOn y op × AsksAdmitted job y op)
    × ((found : ℕ) → HearsAdmitted job y op found → AllAsk job y E (next found))
AllAsk job y E (ends r) = E r

-- ---- the request of an instruction

register_among : (operand : Operand) → IsOperand operand →
    AllByRecursion (λ r. r < 4) (registers_in operand)
register_among (Register r) is = (is, tt)
register_among (Number n) is = tt

index_among : (cells : ℕ) (place : Place) → IsPlace cells place →
    AllByRecursion (λ r. r < 4) (registers_in (index_of place))
index_among cells (Cell index) is = register_among index is
index_among cells (Named array index) is = register_among index is.1

both_among : (rs qs : List ℕ) → AllByRecursion (λ r. r < 4) rs → AllByRecursion (λ r. r < 4) qs →
    AllByRecursion (λ r. r < 4) (rs ++ qs)
both_among [] qs a b = b
both_among (r ∷ rs) qs a b = (a.0, both_among rs qs a.1 b)

sources_among : (cells len : ℕ) (operands : Operands) → AreOperands cells len operands →
    AllByRecursion (λ r. r < 4) (read_by operands)
sources_among cells len Bare are = tt
sources_among cells len (Target r) are = tt
sources_among cells len (TargetNumber r k) are = tt
sources_among cells len (TargetPlace r place) are = index_among cells place are.1
sources_among cells len (TargetTwo r a b) are = (are.1, register_among b are.2)
sources_among cells len (PlaceValue place b) are =
    both_among (registers_in (index_of place)) (registers_in b) (index_among cells place are.0)
    (register_among b are.1)
sources_among cells len (RegisterIndex r index) are = (are.0, tt)
sources_among cells len (Index index) are = tt

pub sources_fit : (cells len : ℕ) (instr : Instr) → IsInstr cells len instr →
    AllByRecursion (λ r. r < 4) (sources_of instr)
sources_fit cells len instr is = sources_among cells len (row_of instr).1 is

-- the data place is below the counters, the value below 2^32, and the next counter at most one past
-- the code's end
record Shape (job : JobData) (r : Request) : Type 0 where
  place : place_part r ≤ job.cells + 4 * job.procs
  value : value_part r < 2 ^ 32
  next : r.next ≤ length job.code + 1

shape_of : (job : JobData) (i next : ℕ) (put : Option (ℕ × ℕ)) → i < job.procs → HasShape job i
    (record { put = put; next = next }) → Shape job (record { put = put; next = next })
shape_of job i next None proc has =
    record { place = place_shape job i _ proc has; value = omega arith; next = has.next }
shape_of job i next (Some w) proc has = record {
  place = place_shape job i _ proc has;
  value = has.data_value w.0 w.1 refl;
  next = has.next;
}

-- what was heard of some registers
abbrev pub AllFit : List ℕ → Type 0
AllFit values = AllByRecursion (λ (v : ℕ). v < 2 ^ 32) values

one_more : (values : List ℕ) (v : ℕ) → AllFit values → v < 2 ^ 32 → AllFit (values ++ v ∷ [])
one_more [] v all fits = (fits, tt)
one_more (x ∷ xs) v all fits = (all.0, one_more xs v all.1 fits)

pub at_index : (values : List ℕ) (k : ℕ) → AllFit values → slice_index values k < 2 ^ 32
at_index [] k all = omega arith
at_index (x ∷ xs) zero all = all.0
at_index (x ∷ xs) (suc k) all = at_index xs k all.1

module _ (job : JobData) (y : LayoutData) (board : IsBoard job y) where
  pub place_in : (p : ℕ) → p < job.cells + 5 * job.procs → p < places_of y
  place_in p h = let b = same_cells job y board in let c = same_procs job y board in omega arith

  pub counter_most : (i v : ℕ) → v ≤ most_stored y job (counter_place job i) →
      v ≤ length job.code + 1
  counter_most i v most =
      let past = le-ltb (counter_place job i)
      (counters_of y) (omega (arith, same_cells job y board, same_procs job y board)) in
      rw past at most

  -- ---- the other tasks

  data_in : (place : ℕ) → place ≢ 0 → place ≤ counters_of y → place - 1 < counters_of y
  data_in place some h = omega arith

  pub value_most : (p v : ℕ) → p < counters_of y → v < 2 ^ 32 → v ≤ most_stored y job p
  value_most p v below fits = let e = lt-ltb p (counters_of y) below in rw e (omega arith)

  pub next_most : (i v : ℕ) → v ≤ length job.code + 1 → v ≤ most_stored y job (counter_place job i)
  next_most i v most =
      let past = le-ltb (counter_place job i)
      (counters_of y) (omega (arith, same_cells job y board, same_procs job y board)) in
      rw past most

  -- a rule with claims
  pub claim_word : (p : ℕ) → IsTrue (has_claims job.rule) → p < job.cells → IsWord y (Claim p)
  claim_word p has h =
      let c = same_cells job y board in
      let is : y.claims ≡ has_claims job.rule = ap (λ (z : LayoutData). z.claims) board.is in
      (subst IsTrue (sym is) has, omega arith)

module _ {R : Type 0} (job : JobData) (y : LayoutData) (board : IsBoard job y)
    (E : R → Type 0) where
  pub load_of : (a : Word) (next : ℕ → Script R) →
      IsWord y a → ((found : ℕ) → Admits y job (number_of y a) found →
      AllAsk job y E (next found)) →
      AllAsk job y E (asks (Load (number_of y a)) next)
  unfolding AllAsk
  load_of a next is each = let k = is_below job y a board is in ((k, k), each)

  pub max_of : (a : Word) (v : ℕ) (after : Script R) → IsWord y a →
      IsInRange y job a v →
      AllAsk job y E after → AllAsk job y E (asks (Max (number_of y a) v) (λ found. after))
  unfolding AllAsk
  max_of a v after is range late =
      let k = admits job y a v board is range in ((k.0, k), λ found ok. late)

  pub swap_of : (a : Word) (old new : ℕ) (after : Script R) →
      IsWord y a → IsInRange y job a old → IsInRange y job a new → AllAsk job y E after →
      AllAsk job y E (asks (Swap (number_of y a) old new) (λ found. after))
  unfolding AllAsk
  swap_of a old new after is held range late =
      let k = admits job y a old board is held in
      ((k.0, (k, admits job y a new board is range)), λ found ok. late)

  pub ends_of : (r : R) → E r → AllAsk job y E (ends r)
  unfolding AllAsk
  ends_of r is = is

  -- ---- the two words of a place

  pub both_ask : (p : ℕ) (next : ℕ → ℕ → Script R) → p < places_of y →
      ((a b : ℕ) → IsInRange y job (Stored p 0) a → IsInRange y job (Stored p 1) b →
      AllAsk job y E (next a b)) → AllAsk job y E (loads_both y p next)
  both_ask p next place each =
      load_of (Stored p 0) _ (place, lit< tt)
      (λ a ok. load_of (Stored p 1) _ (place, lit< tt) (λ b ok_too.
      each a b (in_range job y (Stored p 0) a board (place, lit< tt) ok)
      (in_range job y (Stored p 1) b board (place, lit< tt) ok_too)))

  pub reads_ask : (t p : ℕ) (after : Script R) (next : ℕ → Script R) →
      p < places_of y → AllAsk job y E after →
      ((v : ℕ) → v < 2 ^ 32 → v ≤ most_stored y job p → AllAsk job y E (next v)) →
      AllAsk job y E (reads_place y t p after next)
  reads_ask t p after next place late each = both_ask p _ place
      (λ a b ok ok_too. cond_both _ after _ (AllAsk job y E) (λ e. late)
      (λ e. each _ (cond_both (first_is_older a b) b a
      (λ (w : ℕ). payload_of w < 2 ^ 32) (λ e. omega arith) (λ e. omega arith))
      (cond_both (first_is_older a b) b a (λ (w : ℕ). payload_of w ≤ most_stored y job p)
      (λ e. ok_too.1) (λ e. ok.1))))

  older_asks : (p a b new : ℕ) (after : Script R) →
      p < places_of y → IsInRange y job (Stored p 0) a →
      IsInRange y job (Stored p 1) b → IsInRange y job (Stored p 0) new → AllAsk job y E after →
      AllAsk job y E
      (asks (Swap (number_of y (Stored p (older a b))) (older_word a b) new) (λ found. after))
  older_asks p a b new after place ok ok_too range late = elim (cases_Bool (first_is_older a b)) [
    | inl e ↦ rw e (swap_of (Stored p 0) a new after (place, lit< tt) ok range late)
    | inr e ↦ rw e (swap_of (Stored p 1) b new after (place, lit< tt) ok_too range late)
  ]

  pub writes_ask : (t p value : ℕ) (after : Script R) → t ≤ job.steps →
      p < places_of y → value < 2 ^ 32 → value ≤ most_stored y job p → AllAsk job y E after →
      AllAsk job y E (writes_place y t p value after)
  writes_ask t p value after time place fits most late = both_ask p _ place
      (λ a b ok ok_too. cond_both _ after _ (AllAsk job y E) (λ e. late)
      (λ e. older_asks p a b (stamped_word t value) after place ok ok_too
      (stamps job.steps (most_stored y job p) t value time most fits) late))

  -- ---- the compute task

  hears_ask : y.form ≡ Compact → (t i j : ℕ) (after : Script R) (next : ℕ → Script R) →
      i < y.procs → j < 3 → AllAsk job y E after →
      ((v : ℕ) → v < 2 ^ 32 → v ≤ most_asked y job j → AllAsk job y E (next v)) →
      AllAsk job y E (hears_part y t i j after next)
  hears_ask compact t i j after next proc part late each =
      load_of (Asked i j) _ (compact, proc, part)
      (λ found ok. cond_both (stamp_of found == t) _ after (AllAsk job y E) (λ e. each
      (payload_of found) (omega arith) (asked_part job y i j found board compact proc part ok))
      (λ e. late))

  pub registers_ask : (t i : ℕ) (rs values : List ℕ)
      (after : Script R) (next : List ℕ → Script R) → i < y.procs → AllByRecursion (λ r. r < 4) rs →
      AllFit values → AllAsk job y E after →
      ((vs : List ℕ) → AllFit vs → AllAsk job y E (next vs)) →
      AllAsk job y E (reads_registers job y t i rs values after next)
  registers_ask t i [] values after next proc all fit late each = each values fit
  registers_ask t i (r ∷ rs) values after next proc all fit late each =
      let low = all.0 in
      let c = same_procs job y board in
      reads_ask t (register_place job i r) after _
      (place_in job y board (register_place job i r) (omega arith)) late
      (λ v fits most. registers_ask t i rs
      (values ++ v ∷ []) after next proc all.1 (one_more values v fit fits) late each)

  pub cell_asks : (t : ℕ) (o : Option ℕ) (after : Script R) (next : ℕ → Script R) →
      ((c : ℕ) → o ≡ Some c → c < job.cells) → AllAsk job y E after →
      ((v : ℕ) → v < 2 ^ 32 → AllAsk job y E (next v)) →
      AllAsk job y E (reads_cell y t o after next)
  cell_asks t None after next inside late each = each 0 (lit< tt)
  cell_asks t (Some c) after next inside late each =
      let h = inside c refl in
      reads_ask t c after next (place_in job y board c (omega arith)) late
      (λ v fits most. each v fits)

  raises_ask : y.form ≡ Compact → (t i : ℕ) (request : Request) (after : Script R) →
      t ≤ job.steps → i < y.procs → Shape job request → AllAsk job y E after →
      AllAsk job y E (raises_request y t i request after)
  raises_ask compact t i request after time proc shape late =
      let c = same_cells job y board in
      let d = same_procs job y board in
      let place = shape.place in
      let value = shape.value in
      let next = shape.next in
      let limits = board.limits in
      max_of (Asked i 0) _ _ (compact, proc, lit< tt)
      (stamps job.steps (most_asked y job 0) t
      (place_part request) time (omega arith) (omega (arith, limits.cells, limits.procs)))
      (max_of (Asked i 1) _ _ (compact, proc, lit< tt)
      (stamps job.steps (most_asked y job 1) t (value_part request) time (omega arith) value)
      (max_of (Asked i 2) _ _ (compact, proc, lit< tt) (stamps job.steps
      (most_asked y job 2) t request.next time next (omega (arith, limits.code_len))) late))

  executes_ask : y.form ≡ Compact → (t i counter : ℕ) (o : Option Instr) (after : Script R) →
      slice_get job.code counter ≡ o → t ≤ job.steps → i < y.procs → counter ≤ length job.code + 1 →
      AllAsk job y E after → AllAsk job y E (executes job y t i counter o after)
  executes_ask compact t i counter None after e time proc most late =
      raises_ask compact t i (goes_to counter) after time proc
      (record { place = omega arith; value = omega arith; next = most }) late
  executes_ask compact t i counter (Some instr) after e time proc most late =
      let d = same_procs job y board in
      let limits = board.limits in
      let is = instr_is job counter instr limits e in
      let within = slice_get_within job.code counter instr e in
      registers_ask t i (sources_of instr) [] after _ proc
      (sources_fit job.cells (length job.code) instr is) tt late
      (λ values fit. cell_asks t (cell_read job instr (slice_index values 0)) after _
      (λ c f. cell_is job instr (slice_index values 0) c is f) late
      (λ v fits. raises_ask compact t i _ after time proc (shape_of job i _ _ (omega arith)
      (decided_shape job i counter (slice_index values 0) (slice_index values 1) v instr is (omega (
        arith,
        limits.procs,
      )) (at_index values 0 fit) (at_index values 1 fit) fits within)) late))

  compute_asks : y.form ≡ Compact → (t i : ℕ) (after : Script R) → t ≤ job.steps → i < y.procs →
      AllAsk job y E after → AllAsk job y E (compute_task job y t i after)
  unfolding compute_task
  compute_asks compact t i after time proc late =
      let c = same_procs job y board in
      reads_ask t (counter_place job i) after _
      (place_in job y board (counter_place job i) (omega arith)) late
      (λ counter fits most. executes_ask compact t i counter
      (slice_get job.code counter) after refl time proc (counter_most job y board i counter most)
      late)

  writes_counter : (t i next : ℕ) (after : Script R) → t ≤ job.steps → i < y.procs →
      next < 2 ^ 32 → next ≤ most_asked y job 2 → AllAsk job y E after →
      AllAsk job y E (writes_place y t (counter_place job i) next after)
  writes_counter t i next after time proc fits most late =
      let c = same_procs job y board in
      writes_ask t (counter_place job i) next after time
      (place_in job y board (counter_place job i) (omega arith)) fits
      (next_most job y board i next most) late

  carries_ask : (t i place value next : ℕ) (after : Script R) →
      t ≤ job.steps → i < y.procs → place ≤ counters_of y → value < 2 ^ 32 → next < 2 ^ 32 →
      next ≤ most_asked y job 2 → AllAsk job y E after →
      AllAsk job y E (carries job y t i place value next after)
  carries_ask t i place value next after time proc range fits small most late =
      let last = writes_counter t i next after time proc small most late in
      cond_both (place == 0) _ _ (AllAsk job y E) (λ e. last)
      (λ e. let p = data_in job y board place (eqb-false place 0 e) range in writes_ask t
      (place - 1) value _ time (omega arith) fits (value_most job y board (place - 1) value p fits)
      last)

  -- all three parts of a request, and what is carried out of them
  hears_all : y.form ≡ Compact → (t i : ℕ) (after : Script R) (next : ℕ → ℕ → ℕ → Script R) →
      t ≤ job.steps → i < y.procs → AllAsk job y E after →
      ((a b c : ℕ) → a ≤ counters_of y →
      ((p : ℕ) → p ≤ counters_of y → AllAsk job y E (carries job y t i p b c after)) →
      AllAsk job y E (next a b c)) →
      AllAsk job y E (hears_part y t i 0 after
      (λ a. hears_part y t i 1 after (λ b. hears_part y t i 2 after (next a b))))
  hears_all compact t i after next time proc late each =
      hears_ask compact t i 0 after _ proc (lit< tt) late (λ a fit range.
      hears_ask compact t i 1 after _ proc (lit< tt) late (λ b fits h.
      hears_ask compact t i 2 after _ proc (lit< tt) late (λ c small most. each a b c range
      (λ p inside. carries_ask t i p b c after time proc inside fits small most late))))

  apply_asks : y.form ≡ Compact → (t i : ℕ) (after : Script R) → t ≤ job.steps → i < y.procs →
      AllAsk job y E after → AllAsk job y E (apply_task job y t i after)
  unfolding apply_task
  apply_asks compact t i after time proc late =
      hears_all compact t i after _ time proc late (λ a b c range carried. carried a range)

  pub claims_ask : (t i p : ℕ) (after : Script R) → t ≤ job.steps →
      IsTrue (has_claims job.rule) → AllAsk job y E after →
      AllAsk job y E (claims job y t i p after)
  claims_ask t i p after time has late =
      let c = same_procs job y board in
      let limits = board.limits in
      cond_both (nat_lt p job.cells) _ after (AllAsk job y E)
      (λ e. max_of (Claim p) _ after (claim_word job y board p has (ltb-true p job.cells e))
      (stamps job.steps
      y.procs t (claim_of job i) time (omega arith) (omega (arith, limits.procs))) late) (λ e. late)

  crew_apply_asks : y.form ≡ Compact → (t i : ℕ) (after : Script R) →
      t ≤ job.steps → IsTrue (has_claims job.rule) → i < y.procs → AllAsk job y E after →
      AllAsk job y E (crew_apply_task job y t i after)
  unfolding crew_apply_task
  crew_apply_asks compact t i after time has proc late =
      hears_all compact t i after _ time proc late
      (λ a b c range carried.
      cond_both (a == 0) _ _ (AllAsk job y E) (λ e. carried a range)
      (λ e. claims_ask t i (a - 1) _ time has (carried a range)))

  pub reports_ask : (t : ℕ) (b : Bool) (after : Script R) → t ≤ job.steps →
      AllAsk job y E after → AllAsk job y E (if b then reports y t after else after)
  reports_ask t b after time late = cond_both b _ after (AllAsk job y E)
      (λ e. swap_of Conflict 0 t after tt (omega arith) time late) (λ e. late)

  verify_asks : y.form ≡ Compact → (t i : ℕ) (after : Script R) → t ≤ job.steps → i < y.procs →
      AllAsk job y E after → AllAsk job y E (verify_task job y t i after)
  unfolding verify_task
  verify_asks compact t i after time proc late =
      hears_ask compact t i 0 after _ proc (lit< tt) late (λ a fit range.
      cond_both (a == 0) after _ (AllAsk job y E) (λ e. late)
      (λ e. hears_ask compact t i 1 after _ proc (lit< tt) late (λ v fits h.
      let p = data_in job y board a (eqb-false a 0 e) range in
      both_ask (a - 1) _ (omega arith)
      (λ b c ok ok_too. reports_ask t (differs t v b || differs t v c) after time late))))

  crew_verify_asks : y.form ≡ Compact → (t i : ℕ) (after : Script R) →
      t ≤ job.steps → IsTrue (has_claims job.rule) → i < y.procs → AllAsk job y E after →
      AllAsk job y E (crew_verify_task job y t i after)
  unfolding crew_verify_task
  crew_verify_asks compact t i after time has proc late =
      hears_ask compact t i 0 after _ proc (lit< tt) late (λ a fit range.
      cond_both (a == 0) after _ (AllAsk job y E) (λ e. late)
      (λ e. cond_both (nat_lt (a - 1) job.cells) _ after (AllAsk job y E)
      (λ h. load_of (Claim (a - 1)) _
      (claim_word job y board (a - 1) has (ltb-true (a - 1) job.cells h))
      (λ found ok. reports_ask t (differs t (claim_of job i) found) after time late)) (λ h. late)))

  claim_asks : y.form ≡ Compact → (t i : ℕ) (after : Script R) →
      t ≤ job.steps → IsTrue (has_claims job.rule) → i < y.procs → AllAsk job y E after →
      AllAsk job y E (claim_task job y t i after)
  unfolding claim_task
  claim_asks compact t i after time has proc late =
      hears_ask compact t i 0 after _ proc (lit< tt) late
      (λ a fit range. cond_both (a == 0) after _ (AllAsk job y E) (λ e. late)
      (λ e. claims_ask t i (a - 1) after time has late))

  priority_asks : y.form ≡ Compact → (t i : ℕ) (after : Script R) → t ≤ job.steps →
      IsTrue (has_claims job.rule) → i < y.procs → AllAsk job y E after →
      AllAsk job y E (priority_apply_task job y t i after)
  unfolding priority_apply_task
  priority_asks compact t i after time has proc late = hears_all compact t i after _ time proc late
      (λ a b c range carried. cond_both (a == 0) _ _ (AllAsk job y E) (λ e. carried a range)
      (λ e. cond_both (nat_lt (a - 1) job.cells) _ _ (AllAsk job y E)
      (λ h. load_of (Claim (a - 1)) _
      (claim_word job y board (a - 1) has (ltb-true (a - 1) job.cells h))
      (λ found ok. cond_both (nat_lt t (stamp_of found)) after _ (AllAsk job y E) (λ g. late)
      (λ g. carried (if payload_of found == claim_of job i then a else 0)
      (cond_both (payload_of found == claim_of job i) a 0 (λ (n : ℕ). n ≤ counters_of y)
      (λ f. range) (λ f. omega arith))))) (λ h. carried a range)))

  pub task_asks : y.form ≡ Compact → (rule : Rule) (kind : Kind) (t i : ℕ) (after : Script R) →
      job.rule ≡ rule → t ≤ job.steps → i < y.procs → AllAsk job y E after →
      AllAsk job y E (task_of rule kind job y t i after)
  unfolding task_of
  task_asks compact Common Compute t i after is time proc late =
      compute_asks compact t i after time proc late
  task_asks compact Common Apply t i after is time proc late =
      apply_asks compact t i after time proc late
  task_asks compact Common Verify t i after is time proc late =
      verify_asks compact t i after time proc late
  task_asks compact Priority Compute t i after is time proc late =
      compute_asks compact t i after time proc late
  task_asks compact Priority Apply t i after is time proc late =
      claim_asks compact t i after time
      (subst (λ (r : Rule). IsTrue (has_claims r)) (sym is) refl) proc late
  task_asks compact Priority Verify t i after is time proc late =
      priority_asks compact t i after time
      (subst (λ (r : Rule). IsTrue (has_claims r)) (sym is) refl) proc late
  task_asks compact Crew Compute t i after is time proc late =
      compute_asks compact t i after time proc late
  task_asks compact Crew Apply t i after is time proc late =
      crew_apply_asks compact t i after time
      (subst (λ (r : Rule). IsTrue (has_claims r)) (sym is) refl) proc late
  task_asks compact Crew Verify t i after is time proc late =
      crew_verify_asks compact t i after time
      (subst (λ (r : Rule). IsTrue (has_claims r)) (sym is) refl) proc late
