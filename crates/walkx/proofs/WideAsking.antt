-- What the tasks of the wide form ask is on the board, and what they write is admitted there.
use Rattle.walk_memory.specs.OwnWrites.{cell_write}
use Rattle.pram_job.specs.Job.{JobData}
use Rattle.pram_job.specs.declared.instr.Rule.{Rule}
use Rattle.pram_job.specs.declared.instr.Rule.TheVariants.{Common, Priority, Crew}
use Rattle.pram_machine.specs.Instructions.{HasShape}
use Rattle.pram_machine.specs.Machine.{counter_place, register_place}
use Rattle.pram_machine.specs.declared.requests.Request.{Request}
use Rattle.pram_words.specs.Phases.{phase_of}
use Rattle.pram_words.specs.Stamps.{stamp_of, payload_of, stamped_word, first_is_older}
use Rattle.pram_words.specs.Stamps.{older, older_word}
use Rattle.pram_words.specs.Words.{LayoutData, IsInRange, number_of, places_of}
use Rattle.pram_words.specs.Words.{counters_of, most_stored, has_claims}
use Rattle.pram_words.specs.declared.layout.Form.{Form}
use Rattle.pram_words.specs.declared.layout.Form.TheVariants.{Compact, Wide}
use Rattle.pram_words.specs.declared.phases.Kind.{Kind}
use Rattle.pram_words.specs.declared.phases.Kind.TheVariants.{Compute, Apply, Verify}
use Rattle.pram_words.specs.declared.words.Word.TheVariants.{Stored, Claim}
use Rattle.std.proofs.Common.{◌∷◌, ◌≡◌, ℕ, suc, ◌^◌, ◌<◌, ◌≤◌, ◌==◌}
use Rattle.std.proofs.Common.{◌||◌, nat_lt, IsTrue, List, [], Bool, true, false}
use Rattle.std.proofs.Common.{slice_index, Option, Some, None, refl}
use Rattle.std.proofs.Common.{sym, subst, inl, inr, lit<, arith}
use Rattle.std.proofs.lemmas.Bool.{cond_both, cases_Bool}
use Rattle.walk_memory.specs.Learned.{carried, loaded_memo, memo_after}
use Rattle.walkx.specs.Passes.{carry_task, computes_own, crew_carry_task, hears_before, if_write}
use Rattle.walkx.specs.Passes.{is_beyond, knows, landings, lands_counter, lands_register}
use Rattle.walkx.specs.Passes.{loads_memo, own_claim_task, own_task, priority_carry_task, put_if}
use Rattle.walkx.specs.Passes.{registers_landing, reports_other, stores, task_in, wide_task_of}
use Rattle.walkx.specs.Passes.{word_before, writes_each, writes_own}
use Rattle.walk_memory.proofs.Boards.{admits, same_cells, same_procs, stamps}
use Rattle.walkx.specs.Scripts.{Script, asks}
use Rattle.walkx.specs.Tasks.{claim_of, claims, differs, is_late}
use Rattle.walk_memory.specs.Blocks.{IsBoard}
use Rattle.walk_memory.specs.declared.memo.Memo.{Memo}
use Rattle.walk_memory.specs.Memory.{FitsMemo, FitsOwn, all_registers, asked, at_start, cell_next}
use Rattle.walk_memory.specs.Memory.{has_store, is_past, loads_next, own_after, settles_in}
use Rattle.walk_memory.proofs.OwnFits.{FitsStore, after_fits, asked_shape, carried_fits, cell_below}
use Rattle.walk_memory.proofs.OwnFits.{index_fits, loaded_fits, own_after_fits, start_fits}
use Rattle.walk_memory.proofs.OwnFits.{store_fits}
use Rattle.std.specs.List.{AllByRecursion}
use Rattle.walkx.specs.declared.operation.Op.TheVariants.{Swap}
use Rattle.walkx.proofs.TaskAsking.{AllAsk, both_ask, cell_asks, claim_word, claims_ask}
use Rattle.walkx.proofs.TaskAsking.{counter_most, load_of, next_most, place_in}
use Rattle.walkx.proofs.TaskAsking.{reports_ask, task_asks, value_most, writes_ask}

module _ (job : JobData) (y : LayoutData) (board : IsBoard job y) where
  cell_in : (c : ℕ) → c < job.cells → c < places_of y
  cell_in c cell = place_in job y board c (omega arith)

  cell_most : (c v : ℕ) → c < job.cells → v < 2 ^ 32 → v ≤ most_stored y job c
  cell_most c v cell fits =
      value_most job y board c v (let b = same_cells job y board in omega arith) fits

  -- what is written of a processor's own places is admitted
  abbrev AllWrites : List (ℕ × ℕ) → Type 0
  AllWrites writes = AllByRecursion (λ (w : ℕ × ℕ). (w.0 < places_of y) × (w.1 < 2 ^ 32)
      × (w.1 ≤ most_stored y job w.0)) writes

  put_fits : (so : Bool) (p v : ℕ) (others : List (ℕ × ℕ)) → p < places_of y → v < 2 ^ 32 →
      v ≤ most_stored y job p → AllWrites others → AllWrites (put_if so p v others)
  put_fits true p v others place fits most all = ((place, fits, most), all)
  put_fits false p v others place fits most all = all

  registers_fit : (i : ℕ) (known : Memo) (r : Request) (registers : List ℕ)
      (others : List (ℕ × ℕ)) → i < y.procs → FitsOwn job (own_after job i known.own r) →
      AllByRecursion (λ r. r < 4) registers → AllWrites others →
      AllWrites (registers_landing job i known r registers others)
  registers_fit i known r [] others proc fits low all = all
  registers_fit i known r (which ∷ registers) others proc fits low all =
      let c = same_cells job y board in
      let d = same_procs job y board in
      let less : which < 4 = low.0 in
      let below : register_place job i which < counters_of y = omega arith in
      let held = index_fits (own_after job i known.own r).registers which fits.registers in
      put_fits (lands_register job i known r which) (register_place job i which)
      (slice_index (own_after job i known.own r).registers which)
      (registers_landing job i known r registers others)
      (place_in job y board (register_place job i which) (omega arith)) held
      (value_most job y board (register_place job i which)
      (slice_index (own_after job i known.own r).registers which) below held)
      (registers_fit i known r registers others proc fits low.1 all)

  landings_fit : (t i : ℕ) (known : Memo) (r : Request) → i < y.procs → FitsMemo job known →
      HasShape job i r → AllWrites (landings job t i known r)
  landings_fit t i known r proc fits shape =
      let d = same_procs job y board in
      let next = shape.next in
      let limits = board.limits in
      cond_both (settles_in job t known.settled known.own) _ [] AllWrites
      (λ e. registers_fit i known r all_registers _ proc
      (own_after_fits job i known.own r fits.own shape)
      (lit< tt, (lit< tt, (lit< tt, (lit< tt, tt))))
      (put_fits (lands_counter job known r) (counter_place job i) r.next []
      (place_in job y board (counter_place job i) (omega arith))
      (omega (arith, limits.code_len, next)) (next_most job y board i r.next next) tt))
      (λ e. tt)

module _ {R : Type 0} (job : JobData) (y : LayoutData) (board : IsBoard job y)
    (E : R → Type 0) where
  older_goes : (p a b new : ℕ) (next : ℕ → Script R) →
      p < places_of y → IsInRange y job (Stored p 0) a →
      IsInRange y job (Stored p 1) b → IsInRange y job (Stored p 0) new →
      ((found : ℕ) → AllAsk job y E (next found)) →
      AllAsk job y E (asks (Swap (number_of y (Stored p (older a b))) (older_word a b) new) next)
  unfolding AllAsk
  older_goes p a b new next place ok ok_too range each =
      elim (cases_Bool (first_is_older a b)) [
        | inl e ↦ rw e (
            let k = admits job y (Stored p 0) a board (place, lit< tt) ok in (
              (k.0, (k, admits job y (Stored p 0) new board (place, lit< tt) range)),
              λ found ok. each found,
            ))
        | inr e ↦ rw e (
            let k = admits job y (Stored p 1) b board (place, lit< tt) ok_too in (
              (k.0, (k, admits job y (Stored p 1) new board (place, lit< tt) range)),
              λ found ok. each found,
            ))
      ]

  -- ---- a processor's own places

  -- the word of a place that was written before the step
  before_asks : (t p : ℕ) (late : Script R) (next : ℕ → Script R) → p < places_of y →
      AllAsk job y E late →
      ((w : ℕ) → payload_of w ≤ most_stored y job p → AllAsk job y E (next w)) →
      AllAsk job y E (hears_before y t p late next)
  before_asks t p late next place ended each = both_ask job y board E p _ place
      (λ a b ok ok_too. cond_both (is_beyond t a b) late _ (AllAsk job y E) (λ e. ended)
      (λ e. each (word_before t a b)
      (cond_both (stamp_of a == t) b _ Low (λ f. ok_too.1)
      (λ f. cond_both (stamp_of b == t) a _ Low (λ g. ok.1)
      (λ g. cond_both (first_is_older a b) b a Low (λ h. ok_too.1) (λ h. ok.1))))))
    where
      Low : ℕ → Type 0
      Low w = payload_of w ≤ most_stored y job p

  -- what all of them tell
  loads_asks : (t i : ℕ) (late : Script R) (next : Memo → Script R) → t ≤ job.steps →
      i < y.procs → AllAsk job y E late →
      ((memo : Memo) → FitsMemo job memo → AllAsk job y E (next memo)) →
      AllAsk job y E (loads_memo job y t i late next)
  loads_asks t i late next time proc ended each =
      let d = same_procs job y board in
      let one = λ (r : ℕ) (low : r < 4). place_in job y board (register_place job i r)
      (omega arith) in
      before_asks t (counter_place job i) late _
      (place_in job y board (counter_place job i) (omega arith)) ended (λ c most.
      before_asks t (register_place job i 0) late _ (one 0 (lit< tt)) ended (λ r0 m0.
      before_asks t (register_place job i 1) late _ (one 1 (lit< tt)) ended (λ r1 m1.
      before_asks t (register_place job i 2) late _ (one 2 (lit< tt)) ended (λ r2 m2.
      before_asks t (register_place job i 3) late _ (one 3 (lit< tt)) ended (λ r3 m3.
      each (loaded_memo job t i (c ∷ r0 ∷ r1 ∷ r2 ∷ r3 ∷ []))
      (loaded_fits job i board.limits (omega arith) t c r0 r1 r2 r3 time
      (counter_most job y board i (payload_of c) most)))))))

  knows_asks : (t i : ℕ) (memo : Memo) (late : Script R) (next : Memo → Script R) →
      t ≤ job.steps → i < y.procs → FitsMemo job memo → AllAsk job y E late →
      ((known : Memo) → FitsMemo job known → AllAsk job y E (next known)) →
      AllAsk job y E (knows job y t i memo late next)
  knows_asks t i memo late next time proc fits ended each =
      cond_both (suc memo.step == t) (next memo) _ (AllAsk job y E) (λ e. each memo fits)
      (λ e. loads_asks t i late next time proc ended each)

  -- ---- what is written of them

  each_asks : (t : ℕ) (writes : List (ℕ × ℕ)) (after : Script R) → t ≤ job.steps →
      AllWrites job y board writes → AllAsk job y E after →
      AllAsk job y E (writes_each y t writes after)
  each_asks t [] after time all late = late
  each_asks t (write ∷ writes) after time all late =
      let is = all.0 in
      writes_ask job y board E t write.0 write.1 _ time is.0 is.1 is.2
      (each_asks t writes after time all.1 late)

  own_asked : (t i : ℕ) (known : Memo) (r : Request) (after : Script R) → t ≤ job.steps →
      i < y.procs → FitsMemo job known → HasShape job i r → AllAsk job y E after →
      AllAsk job y E (writes_own job y t i known r after)
  own_asked t i known r after time proc fits shape late =
      each_asks t (landings job t i known r) after time
      (landings_fit job y board t i known r proc fits shape)
      late

  -- ---- the first pass

  computes_asks : (t i : ℕ) (memo : Memo) (after : Memo → Script R)
      (next : Memo → Request → Script R) → t ≤ job.steps → i < y.procs → FitsMemo job memo →
      ((m : Memo) → FitsMemo job m → AllAsk job y E (after m)) →
      ((m : Memo) (r : Request) → FitsMemo job m → HasShape job i r → AllAsk job y E (next m r)) →
      AllAsk job y E (computes_own job y t i memo after next)
  computes_asks t i memo after next time proc fits ended each =
      let d = same_procs job y board in
      cond_both (is_past (phase_of t Compute) memo) (after memo) _ (AllAsk job y E)
      (λ e. ended memo fits)
      (λ e. knows_asks t i memo (after memo) _ time proc fits (ended memo fits) (λ known fit.
      cell_asks job y board E t (cell_next job known.own) (after at_start) _
      (λ c is. cell_below job known.own c board.limits is) (ended at_start (start_fits job))
      (λ v held. each known (asked job i known.own v) fit
      (asked_shape job i known.own v board.limits (omega arith) fit.own held))))

  own_asks_all : (t i : ℕ) (memo : Memo) (after : Memo → Script R) →
      t ≤ job.steps → i < y.procs → FitsMemo job memo →
      ((m : Memo) → FitsMemo job m → AllAsk job y E (after m)) →
      AllAsk job y E (own_task job y t i memo after)
  unfolding own_task
  own_asks_all t i memo after time proc fits ended =
      computes_asks t i memo after _ time proc fits ended (λ known r fit shape.
      own_asked t i known r _ time proc fit shape
      (ended (memo_after job t i known r) (after_fits job t i known r time fit shape)))

  own_claim_asks : (t i : ℕ) (memo : Memo)
      (after : Memo → Script R) → t ≤ job.steps → IsTrue (has_claims job.rule) → i < y.procs →
      FitsMemo job memo → ((m : Memo) → FitsMemo job m → AllAsk job y E (after m)) →
      AllAsk job y E (own_claim_task job y t i memo after)
  unfolding own_claim_task
  own_claim_asks t i memo after time has proc fits ended =
      computes_asks t i memo after _ time proc fits ended (λ known r fit shape.
      by (cell_write job r.put) _ (own_asked t i known r _ time proc fit shape
      (ended (memo_after job t i known r) (after_fits job t i known r time fit shape))))
    where
      by : (o : Option (ℕ × ℕ)) (written : Script R) → AllAsk job y E written →
          AllAsk job y E (if_write o written (λ c v. claims job y t i c written))
      by None written late = late
      by (Some w) written late = claims_ask job y board E t i w.0 written time has late

  -- ---- the second pass

  stores_ask : (t i : ℕ) (memo : Memo) (after : Script R)
      (next : ℕ → ℕ → Script R) → t ≤ job.steps → i < y.procs → FitsMemo job memo →
      AllAsk job y E after → ((c v : ℕ) → c < job.cells → v < 2 ^ 32 → AllAsk job y E (next c v)) →
      AllAsk job y E (stores job y t i memo after next)
  stores_ask t i memo after next time proc fits late each =
      cond_both (is_past (phase_of t Verify) memo) after _ (AllAsk job y E) (λ e. late)
      (λ e. cond_both (has_store t memo) _ _ (AllAsk job y E)
      (λ f. kept memo.store fits.store)
      (λ f. loads_asks t i after _ time proc late (λ known fit.
      cond_both (loads_next job known.own) after _ (AllAsk job y E) (λ g. late)
      (λ g. kept (cell_write job (asked job i known.own 0).put) (put known fit)))))
    where
      kept : (o : Option (ℕ × ℕ)) → FitsStore job o → AllAsk job y E (if_write o after next)
      kept None is = late
      kept (Some w) is = each w.0 w.1 is.0 is.1

      put : (known : Memo) → FitsMemo job known →
          FitsStore job (cell_write job (asked job i known.own 0).put)
      put known fit =
          let d = same_procs job y board in
          store_fits job i (asked job i known.own 0)
          (asked_shape job i known.own 0 board.limits (omega arith) fit.own (lit< tt))

  carry_asks : (t i : ℕ) (memo : Memo) (after : Memo → Script R) →
      t ≤ job.steps → i < y.procs → FitsMemo job memo →
      ((m : Memo) → FitsMemo job m → AllAsk job y E (after m)) →
      AllAsk job y E (carry_task job y t i memo after)
  unfolding carry_task
  carry_asks t i memo after time proc fit ended =
      let late = ended (carried t memo) (carried_fits job t memo fit) in
      stores_ask t i memo _ _ time proc fit (ended memo fit) (λ c v cell fits.
      both_ask job y board E c _ (cell_in job y board c cell) (λ a b ok ok_too.
      cond_both (is_late t a b) _ _ (AllAsk job y E)
      (λ e. reports_ask job y board E t (differs t v a || differs t v b) _ time late)
      (λ e. compared c v a b cell fits ok ok_too)))
    where
      compared : (c v a b : ℕ) → c < job.cells → v < 2 ^ 32 → IsInRange y job (Stored c 0) a →
          IsInRange y job (Stored c 1) b → AllAsk job y E
          (asks (Swap (number_of y (Stored c (older a b))) (older_word a b) (stamped_word t v))
          (λ found. reports_other y t (differs t v found) (after (carried t memo))))
      compared c v a b cell fits ok ok_too =
          older_goes c a b (stamped_word t v) _ (cell_in job y board c cell) ok ok_too
          (stamps job.steps (most_stored y job c) t v time (cell_most job y board c v cell fits)
          fits)
          (λ found. reports_ask job y board E t (differs t v found) _ time
          (ended (carried t memo) (carried_fits job t memo fit)))

  crew_carry_asks : (t i : ℕ) (memo : Memo)
      (after : Memo → Script R) → t ≤ job.steps →
      IsTrue (has_claims job.rule) → i < y.procs → FitsMemo job memo →
      ((m : Memo) → FitsMemo job m → AllAsk job y E (after m)) →
      AllAsk job y E (crew_carry_task job y t i memo after)
  unfolding crew_carry_task
  crew_carry_asks t i memo after time has proc fit ended =
      let late = ended (carried t memo) (carried_fits job t memo fit) in
      stores_ask t i memo _ _ time proc fit (ended memo fit) (λ c v cell fits.
      let writes = writes_ask job y board E t c v (after (carried t memo)) time
      (cell_in job y board c cell) fits (cell_most job y board c v cell fits) late in
      load_of job y board E (Claim c) _ (claim_word job y board c has cell)
      (λ found ok. reports_ask job y board E t (differs t (claim_of job i) found) _ time writes))

  priority_carry_asks : (t i : ℕ) (memo : Memo)
      (after : Memo → Script R) → t ≤ job.steps →
      IsTrue (has_claims job.rule) → i < y.procs → FitsMemo job memo →
      ((m : Memo) → FitsMemo job m → AllAsk job y E (after m)) →
      AllAsk job y E (priority_carry_task job y t i memo after)
  unfolding priority_carry_task
  priority_carry_asks t i memo after time has proc fit ended =
      let late = ended (carried t memo) (carried_fits job t memo fit) in
      stores_ask t i memo _ _ time proc fit (ended memo fit) (λ c v cell fits.
      load_of job y board E (Claim c) _ (claim_word job y board c has cell)
      (λ found ok. cond_both (nat_lt t (stamp_of found)) (after memo) _ (AllAsk job y E)
      (λ e. ended memo fit)
      (λ e. cond_both (payload_of found == claim_of job i) _ (after (carried t memo))
      (AllAsk job y E) (λ f. writes_ask job y board E t c v (after (carried t memo)) time
      (cell_in job y board c cell) fits (cell_most job y board c v cell fits) late)
      (λ f. late))))

  pub wide_asks : (rule : Rule) (kind : Kind) (t i : ℕ) (memo : Memo)
      (after : Memo → Script R) → job.rule ≡ rule → t ≤ job.steps → i < y.procs →
      FitsMemo job memo → ((m : Memo) → FitsMemo job m → AllAsk job y E (after m)) →
      AllAsk job y E (wide_task_of rule kind job y t i memo after)
  unfolding wide_task_of
  wide_asks Common Compute t i memo after is time proc fits each =
      own_asks_all t i memo after time proc fits each
  wide_asks Common Apply t i memo after is time proc fits each = each memo fits
  wide_asks Common Verify t i memo after is time proc fits each =
      carry_asks t i memo after time proc fits each
  wide_asks Priority Compute t i memo after is time proc fits each =
      own_claim_asks t i memo after time
      (subst (λ (r : Rule). IsTrue (has_claims r)) (sym is) refl) proc fits each
  wide_asks Priority Apply t i memo after is time proc fits each = each memo fits
  wide_asks Priority Verify t i memo after is time proc fits each =
      priority_carry_asks t i memo after time
      (subst (λ (r : Rule). IsTrue (has_claims r)) (sym is) refl) proc fits each
  wide_asks Crew Compute t i memo after is time proc fits each =
      own_claim_asks t i memo after time
      (subst (λ (r : Rule). IsTrue (has_claims r)) (sym is) refl) proc fits each
  wide_asks Crew Apply t i memo after is time proc fits each = each memo fits
  wide_asks Crew Verify t i memo after is time proc fits each =
      crew_carry_asks t i memo after time
      (subst (λ (r : Rule). IsTrue (has_claims r)) (sym is) refl) proc fits each

  pub form_asks : (form : Form) (kind : Kind) (t i : ℕ) (memo : Memo)
      (after : Memo → Script R) → y.form ≡ form → t ≤ job.steps → i < y.procs →
      FitsMemo job memo → ((m : Memo) → FitsMemo job m → AllAsk job y E (after m)) →
      AllAsk job y E (task_in form job.rule kind job y t i memo after)
  unfolding task_in
  form_asks Compact kind t i memo after is time proc fits each =
      task_asks job y board E is job.rule kind t i (after memo) refl time proc (each memo fits)
  form_asks (Wide g) kind t i memo after is time proc fits each =
      wide_asks job.rule kind t i memo after refl time proc fits each
