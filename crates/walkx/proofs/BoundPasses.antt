-- How many operations the tasks of the wide form have before what follows them.
use Rattle.std.proofs.Common.{◌≡◌, ℕ, ◌+◌, ◌-◌, ◌*◌, ◌≤◌, ◌||◌, ◌==◌, nat_lt}
use Rattle.std.proofs.Common.{List, [], ◌∷◌, length, Option, Some, None}
use Rattle.std.proofs.Common.{suc, arith, Bool, true, false, slice_index}
use Rattle.std.proofs.lemmas.Bool.{cond_both}
use Rattle.pram_job.specs.declared.instr.Rule.{Rule}
use Rattle.pram_job.specs.declared.instr.Rule.TheVariants.{Common, Priority, Crew}
use Rattle.pram_job.specs.Job.{JobData}
use Rattle.pram_machine.specs.Machine.{counter_place, register_place}
use Rattle.pram_machine.specs.declared.requests.Request.{Request}
use Rattle.pram_words.specs.declared.phases.Kind.{Kind}
use Rattle.pram_words.specs.declared.phases.Kind.TheVariants.{Compute, Apply, Verify}
use Rattle.pram_words.specs.Phases.{phase_of}
use Rattle.pram_words.specs.Stamps.{stamp_of, payload_of}
use Rattle.pram_words.specs.Words.{LayoutData}
use Rattle.walkx.specs.Scripts.{Script}
use Rattle.walkx.specs.Tasks.{claim_of, differs}
use Rattle.pram_words.specs.declared.layout.Form.{Form}
use Rattle.pram_words.specs.declared.layout.Form.TheVariants.{Compact, Wide}
use Rattle.walk_memory.specs.OwnWrites.{cell_write}
use Rattle.walk_memory.specs.Learned.{carried, loaded_memo, memo_after}
use Rattle.walkx.specs.Passes.{carry_task, computes_own, crew_carry_task, hears_words, if_write}
use Rattle.walkx.specs.Passes.{is_beyond, knows, landings, lands_counter, lands_register}
use Rattle.walkx.specs.Passes.{loads_memo, own_claim_task, own_places, own_task}
use Rattle.walkx.specs.Passes.{priority_carry_task, put_if, registers_landing, stores, task_in}
use Rattle.walkx.specs.Passes.{wide_task_of, writes_each, writes_own}
use Rattle.walk_memory.specs.declared.memo.Memo.{Memo}
use Rattle.walk_memory.specs.Memory.{all_registers, asked, at_start, cell_next, has_store, is_past}
use Rattle.walk_memory.specs.Memory.{loads_next, own_after, settles_in}
use Rattle.walkx.proofs.BoundTasks.{IsWithin, one_of, task_within, claims_within}
use Rattle.walkx.proofs.BoundTasks.{loads_both_within, writes_place_within}
use Rattle.walkx.proofs.BoundTasks.{reads_cell_within, reports_within}

-- ---- at most five places are written

put_few : (so : Bool) (p v n : ℕ) (others : List (ℕ × ℕ)) → length others ≤ n →
    length (put_if so p v others) ≤ suc n
put_few true p v n others few = omega (arith, few)
put_few false p v n others few = omega (arith, few)

registers_few : (job : JobData) (i : ℕ) (known : Memo) (r : Request) (registers : List ℕ) (n : ℕ)
    (others : List (ℕ × ℕ)) → length others ≤ n →
    length (registers_landing job i known r registers others) ≤ length registers + n
registers_few job i known r [] n others few = omega (arith, few)
registers_few job i known r (which ∷ registers) n others few =
    omega (
      arith,
      put_few (lands_register job i known r which) (register_place job i which)
          (slice_index (own_after job i known.own r).registers which) (length registers + n)
          (registers_landing job i known r registers others)
          (registers_few job i known r registers n others few),
    )

landings_few : (job : JobData) (t i : ℕ) (known : Memo) (r : Request) →
    length (landings job t i known r) ≤ 5
landings_few job t i known r = cond_both (settles_in job t known.settled known.own) _ [] (λ ws. length ws ≤ 5)
    (λ e. registers_few job i known r all_registers 1 _
    (put_few (lands_counter job known r) (counter_place job i) r.next 0 [] (omega arith)))
    (λ e. omega arith)

module _ {R : Type 0} (G : ℕ → Script R → Type 0) (is : IsWithin G) (y : LayoutData) where
  -- ---- a processor's own places

  hears_words_within : (j k t : ℕ) (places words : List ℕ) (late : Script R)
      (next : List ℕ → Script R) → 2 * length places + k ≤ j → G k late →
      ((words : List ℕ) → G k (next words)) → G j (hears_words y t places words late next)
  hears_words_within j k t [] words late next few ended each =
      is.more j k (next words) (omega arith) (each words)
  hears_words_within j k t (p ∷ places) words late next few ended each =
      is.more j (j - 2 + 2) _ (omega arith) (loads_both_within G is (j - 2) y p _
      (λ a b. one_of G (j - 2) (is_beyond t a b) _ _ (is.more (j - 2) k late (omega arith) ended)
      (hears_words_within (j - 2) k t places _ late next (omega arith) ended each)))

  -- all of them: ten operations
  loads_within : (k : ℕ) (job : JobData) (t i : ℕ) (late : Script R)
      (next : Memo → Script R) → G k late → ((m : Memo) → G k (next m)) →
      G (k + 10) (loads_memo job y t i late next)
  loads_within k job t i late next ended each =
      hears_words_within (k + 10) k t (own_places job i) [] late
      (λ words. next (loaded_memo job t i words)) (omega arith) ended
      (λ words. each (loaded_memo job t i words))

  -- what is known of a processor: ten operations at most
  memo_within : (k : ℕ) (job : JobData) (t i : ℕ) (memo : Memo) (late : Script R)
      (next : Memo → Script R) → G k late → ((m : Memo) → G k (next m)) →
      G (k + 10) (knows job y t i memo late next)
  memo_within k job t i memo late next ended each =
      one_of G (k + 10) (suc memo.step == t) _ _ (is.more (k + 10) k (next memo) (omega arith)
      (each memo)) (loads_within k job t i late next ended each)

  writes_each_within : (j k t : ℕ) (writes : List (ℕ × ℕ)) (after : Script R) →
      3 * length writes + k ≤ j → G k after → G j (writes_each y t writes after)
  writes_each_within j k t [] after few late = is.more j k after (omega arith) late
  writes_each_within j k t (write ∷ writes) after few late =
      is.more j (j - 3 + 3) _ (omega arith)
      (writes_place_within G is (j - 3) y t write.0 write.1 _
      (writes_each_within (j - 3) k t writes after (omega arith) late))

  -- those where a processor settles: fifteen operations at most
  writes_own_within : (k : ℕ) (job : JobData) (t i : ℕ) (known : Memo) (r : Request)
      (after : Script R) → G k after → G (k + 15) (writes_own job y t i known r after)
  writes_own_within k job t i known r after late =
      writes_each_within (k + 15) k t (landings job t i known r) after
      (let few = landings_few job t i known r in omega (arith, few)) late

  -- ---- the first pass

  computes_within : (j k : ℕ) (job : JobData) (t i : ℕ) (memo : Memo) (after : Memo → Script R)
      (next : Memo → Request → Script R) → k ≤ j → ((m : Memo) → G k (after m)) →
      ((m : Memo) (r : Request) → G j (next m r)) →
      G (j + 2 + 10) (computes_own job y t i memo after next)
  computes_within j k job t i memo after next h ended each =
      let more = λ (n : ℕ) (low : k ≤ n) (m : Memo). is.more n k (after m) low (ended m) in
      one_of G (j + 2 + 10) (is_past (phase_of t Compute) memo) _ _
      (more (j + 2 + 10) (omega arith) memo)
      (memo_within (j + 2) job t i memo (after memo) _ (more (j + 2) (omega arith) memo) (λ known.
      reads_cell_within G is j y t (cell_next job known.own) (after at_start) _
      (more j h at_start) (λ v. each known (asked job i known.own v))))

  own_within : (k : ℕ) (job : JobData) (t i : ℕ) (memo : Memo) (after : Memo → Script R) →
      ((m : Memo) → G k (after m)) → G (k + 28) (own_task job y t i memo after)
  unfolding own_task
  own_within k job t i memo after ended =
      is.more (k + 28) (k + 15 + 2 + 10) _ (omega arith)
      (computes_within (k + 15) k job t i memo after
      (λ m r. writes_own job y t i m r (after (memo_after job t i m r))) (omega arith) ended
      (λ m r. writes_own_within k job t i m r _ (ended (memo_after job t i m r))))

  write_within : (j : ℕ) (o : Option (ℕ × ℕ)) (after : Script R) (some : ℕ → ℕ → Script R) →
      G j after → ((p v : ℕ) → G j (some p v)) → G j (if_write o after some)
  write_within j None after some none each = none
  write_within j (Some w) after some none each = each w.0 w.1

  own_claim_within : (k : ℕ) (job : JobData) (t i : ℕ) (memo : Memo) (after : Memo → Script R) →
      ((m : Memo) → G k (after m)) → G (k + 28) (own_claim_task job y t i memo after)
  unfolding own_claim_task
  own_claim_within k job t i memo after ended =
      is.more (k + 28) (k + 15 + 1 + 2 + 10) _ (omega arith)
      (computes_within (k + 15 + 1) k job t i memo after _ (omega arith) ended
      (λ m r. let written = writes_own_within k job t i m r _ (ended (memo_after job t i m r)) in
      write_within (k + 15 + 1) (cell_write job r.put) _ _
      (is.more (k + 15 + 1) (k + 15) _ (omega arith) written)
      (λ c v. claims_within G is (k + 15) job y t i c _ written)))

  -- ---- the second pass

  stores_within : (k : ℕ) (job : JobData) (t i : ℕ) (memo : Memo) (after : Script R)
      (next : ℕ → ℕ → Script R) → G k after → ((c v : ℕ) → G (k + 5) (next c v)) →
      G (k + 15) (stores job y t i memo after next)
  stores_within k job t i memo after next late each =
      let more = λ (j : ℕ) (h : k ≤ j). is.more j k after h late in
      let kept = λ (o : Option (ℕ × ℕ)).
      write_within (k + 5) o after next (more (k + 5) (omega arith)) each in
      one_of G (k + 15) (is_past (phase_of t Verify) memo) _ _ (more (k + 15) (omega arith))
      (one_of G (k + 15) (has_store t memo) _ _
      (is.more (k + 15) (k + 5) _ (omega arith) (kept memo.store))
      (is.more (k + 15) (k + 5 + 10) _ (omega arith)
      (loads_within (k + 5) job t i after _ (more (k + 5) (omega arith)) (λ known.
      one_of G (k + 5) (loads_next job known.own) _ _ (more (k + 5) (omega arith))
      (kept (cell_write job (asked job i known.own 0).put))))))

  carry_within : (k : ℕ) (job : JobData) (t i : ℕ) (memo : Memo) (after : Memo → Script R) →
      ((m : Memo) → G k (after m)) → G (k + 15) (carry_task job y t i memo after)
  unfolding carry_task
  carry_within k job t i memo after ended =
      stores_within k job t i memo (after memo) _ (ended memo) (λ c v.
      is.more (k + 5) (k + 1 + 1 + 2) _ (omega arith)
      (loads_both_within G is (k + 1 + 1) y c _ (λ a b. one_of G (k + 1 + 1) _ _ _
      (is.more (k + 1 + 1) (k + 1) _ (omega arith)
      (reports_within G is k y t (differs t v a || differs t v b) _ (ended (carried t memo))))
      (is.step (k + 1 + 1) (k + 1) _ _ (omega arith)
      (λ found. reports_within G is k y t (differs t v found) _
      (ended (carried t memo)))))))

  crew_carry_within : (k : ℕ) (job : JobData) (t i : ℕ) (memo : Memo) (after : Memo → Script R) →
      ((m : Memo) → G k (after m)) → G (k + 15) (crew_carry_task job y t i memo after)
  unfolding crew_carry_task
  crew_carry_within k job t i memo after ended =
      stores_within k job t i memo (after memo) _ (ended memo) (λ c v.
      is.more (k + 5) (k + 3 + 1 + 1) _ (omega arith)
      (is.step (k + 3 + 1 + 1) (k + 3 + 1) _ _ (omega arith)
      (λ found. reports_within G is (k + 3) y t (differs t (claim_of job i) found) _
      (writes_place_within G is k y t c v _ (ended (carried t memo))))))

  priority_carry_within : (k : ℕ) (job : JobData) (t i : ℕ) (memo : Memo)
      (after : Memo → Script R) → ((m : Memo) → G k (after m)) →
      G (k + 15) (priority_carry_task job y t i memo after)
  unfolding priority_carry_task
  priority_carry_within k job t i memo after ended =
      let more = λ (j : ℕ) (h : k ≤ j) (m : Memo). is.more j k (after m) h (ended m) in
      stores_within k job t i memo (after memo) _ (ended memo) (λ c v.
      is.more (k + 5) (k + 3 + 1) _ (omega arith)
      (is.step (k + 3 + 1) (k + 3) _ _ (omega arith)
      (λ found. one_of G (k + 3) (nat_lt t (stamp_of found)) _ _
      (more (k + 3) (omega arith) memo)
      (one_of G (k + 3) (payload_of found == claim_of job i) _ _
      (writes_place_within G is k y t c v _ (ended (carried t memo)))
      (more (k + 3) (omega arith) (carried t memo))))))

  -- A task has at most twenty-eight operations.
  pub wide_within : (k : ℕ) (rule : Rule) (kind : Kind) (job : JobData) (t i : ℕ) (memo : Memo)
      (after : Memo → Script R) → ((m : Memo) → G k (after m)) →
      G (k + 28) (wide_task_of rule kind job y t i memo after)
  unfolding wide_task_of
  wide_within k Common Compute job t i memo after each = own_within k job t i memo after each
  wide_within k Common Apply job t i memo after each =
      is.more (k + 28) k (after memo) (omega arith) (each memo)
  wide_within k Common Verify job t i memo after each = is.more (k + 28) (k + 15) _ (omega arith)
      (carry_within k job t i memo after each)
  wide_within k Priority Compute job t i memo after each =
      own_claim_within k job t i memo after each
  wide_within k Priority Apply job t i memo after each =
      is.more (k + 28) k (after memo) (omega arith) (each memo)
  wide_within k Priority Verify job t i memo after each = is.more (k + 28) (k + 15) _ (omega arith)
      (priority_carry_within k job t i memo after each)
  wide_within k Crew Compute job t i memo after each = own_claim_within k job t i memo after each
  wide_within k Crew Apply job t i memo after each =
      is.more (k + 28) k (after memo) (omega arith) (each memo)
  wide_within k Crew Verify job t i memo after each = is.more (k + 28) (k + 15) _ (omega arith)
      (crew_carry_within k job t i memo after each)

  -- and one of the compact form at most eleven
  pub compact_within : (k : ℕ) (form : Form) (rule : Rule) (kind : Kind) (job : JobData) (t i : ℕ)
      (memo : Memo) (after : Memo → Script R) → form ≡ Compact → G k (after memo) →
      G (k + 11) (task_in form rule kind job y t i memo after)
  unfolding task_in
  compact_within k form rule kind job t i memo after is_compact late =
      rw is_compact (task_within G is k rule kind job y t i (after memo) late)

  -- and so in both forms
  pub form_within : (k : ℕ) (form : Form) (rule : Rule) (kind : Kind) (job : JobData) (t i : ℕ)
      (memo : Memo) (after : Memo → Script R) → ((m : Memo) → G k (after m)) →
      G (k + 28) (task_in form rule kind job y t i memo after)
  unfolding task_in
  form_within k Compact rule kind job t i memo after each =
      is.more (k + 28) (k + 11) _ (omega arith)
      (task_within G is k rule kind job y t i (after memo) (each memo))
  form_within k (Wide g) rule kind job t i memo after each =
      wide_within k rule kind job t i memo after each
