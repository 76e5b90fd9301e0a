-- The job in the midst of lines.
use Rattle.std.proofs.Common.{◌≡◌, ◌≢◌, ℕ, zero, suc, ◌+◌, ◌-◌, ◌<◌, ◌≤◌, ◌⊎◌, true, Option}
use Rattle.std.proofs.Common.{false, Some, None, refl, sym, ap, ◌∙◌, subst, inl, inr, ⊎_elim, arith}
use Rattle.std.proofs.Common.{length}
use Rattle.std.specs.Prelude.{is_some, slice_get}
use Rattle.std.proofs.lemmas.Bool.{cases_lt}
use Rattle.std.proofs.lemmas.Option.{none-some, some_pair_parts}
use Rattle.pram_job.specs.declared.instr.Instr.{Instr}
use Rattle.pram_job.specs.declared.instr.Instr.TheVariants.{Pid, Halt}
use Rattle.pram_job.specs.Job.{JobData}
use Rattle.pram_machine.specs.declared.requests.Request.{Request}
use Rattle.pram_machine.specs.Instructions.{decided, decided_in, goes_to, request_in}
use Rattle.pram_machine.specs.Machine.{State, IsStopped, counter, halted, out_of_range}
use Rattle.pram_machine.specs.Machine.{register_place}
use Rattle.pram_step.specs.Runs.{state_after, AgreesAfter}
use Rattle.pram_step.specs.Runs as machine
use Rattle.pram_step.proofs.LawCounters.{stopped_processor}
use Rattle.pram_step.proofs.LawStopped.{stopped_request}
use Rattle.pardo_program.specs.declared.statement.Line.{Line}
use Rattle.pardo_program.specs.Program.{ProgramData}
use Rattle.pardo_flat.specs.Layouts.{program_layout}
use Rattle.pardo_job.specs.Carries.{ComesFrom}
use Rattle.pardo_job.specs.Compiled.{AreLineNumbers, IsWhole}
use Rattle.pram_step.specs.declared.answer.Dispute.{Dispute}
use Rattle.pardo_job.specs.Conflicts.{LineAgrees, IsLineDispute, Assigns}
use Rattle.pardo_job.specs.Lines.{place_of}
use Rattle.pardo_job.specs.Meaning.{Source, after, after_statement, asked_in}
use Rattle.pardo_job.specs.Runs.{IsProgramConflict, IsProgramEnd, IsProgramOver, IsLineReached}
use Rattle.pardo_job.specs.Runs.{line_number}
use Rattle.pardo_job.proofs.Assigning.{both_code}
use Rattle.pardo_job.proofs.Meanings.{asked_at, next_at}
use Rattle.pardo_law.specs.Between.{AreLinesMade, Executes, HoldsVariables, IsInLine}
use Rattle.pardo_law.specs.Between.{LeavesIn, LinesNeverFall, PutsTo}
use Rattle.pardo_law.specs.Locals.{memory_of}
use Rattle.pardo_law.proofs.Carried.{Carried, StillBelow, cost, place_low, still_all}
use Rattle.pardo_law.proofs.Carrying.{carried_after, line_carried, line_next, time_next}
use Rattle.pardo_law.proofs.Carrying.{time_of}
use Rattle.pardo_law.proofs.Cutting.{PutOnly, StaysIn, is_inside}
use Rattle.pardo_law.proofs.Disputing.{InConflict, asks_nothing, decides, in_conflict}
use Rattle.pardo_law.proofs.Disputing.{line_number_is, lost_here, number_at, puts_here, stays_here}
use Rattle.pardo_law.proofs.Disputing.{unchanged_here}
use Rattle.pardo_law.proofs.Finishing.{decide_over, finishes, reached_next}
use Rattle.pardo_law.proofs.Leaving.{lost_in}
use Rattle.pardo_law.proofs.Masks.{quiet}
use Rattle.pardo_law.proofs.Lengths.{end_stands, first_is}
use Rattle.pardo_law.proofs.Picturing.{IsOf, code_is, procs_are, layout_procs, row_low, shared_low}
use Rattle.pardo_law.proofs.Rows.{held_below, own_of, row_within}
use Rattle.pardo_law.proofs.Showing.{all_stopped, here_shows, last_cells, last_privates, last_there}
use Rattle.pardo_law.proofs.Showing.{later_same, out_shows, reached_last, shows, stopped_at}
use Rattle.pardo_law.proofs.Starting.{first_standing, held_private, held_shared}
use Rattle.pardo_law.proofs.Stepping.{same_cell}

-- ---- lines never fall

pub rises_to : (time : ℕ → ℕ) → ((k : ℕ) → time k ≤ time (k + 1)) → (a k : ℕ) → time a ≤ time (a + k)
rises_to time rises a zero = let e : a ≡ a + 0 = omega arith in let f = ap time e in omega arith
rises_to time rises a (suc k) =
    let e : a + k + 1 ≡ a + suc k = omega arith in
    omega (arith, rises_to time rises a k, rises (a + k), ap time e)

pub lines_never_fall : LinesNeverFall
lines_never_fall program time t u n m rises is later le = ⊎_elim
    (λ (less : m < n). absurd (⊎_elim
    (λ over. (is.reached m less).0 over)
    (λ (low : u < time (m + 1)). ⊎_elim
    (λ (none : n ≡ 0). let e = none in omega arith)
    (λ (high : time n ≤ t).
    let e : m + 1 + (n - (m + 1)) ≡ n = omega arith in
    omega (arith, rises_to time rises (m + 1) (n - (m + 1)), ap time e))
    is.made)
    later.no_more))
    (λ (more : n ≤ m). more)
    (cases_lt m n)

-- ---- a line

-- before all steps of a line the processors stand in it, and arrays and private variables stay
pub record Keeps (program : ProgramData) (job : JobData) (asked : ℕ → Option (ℕ × ℕ))
    (source : Source) (t c : ℕ) : Type 0 where
  pub stays : StaysIn job (place_of program source.at) (place_of program (source.at + 1)) t c
  still : StillBelow job (held_below (program_layout program)) t c
  puts : PutOnly job (program_layout program).shared t c asked

module _ (program : ProgramData) (job : JobData) (of : IsOf program job) (source : Source) (t : ℕ)
    (carried : Carried program job source t) (line : Line)
    (is : slice_get program.lines source.at ≡ Some line) where
  abbrev asked_here : ℕ → Option (ℕ × ℕ)
  asked_here = asked_in program source line.depth line.statement

  abbrev KeptHere : Type 0
  KeptHere =
      Keeps program job asked_here source t (cost program source line.depth line.statement)

  agreed : LineAgrees program source → KeptHere
  agreed agrees =
      let advance = line_carried program job of source t carried line is agrees in
      record { stays = advance.stays; still = advance.still; puts = advance.puts }

  disputed : (dispute : Dispute) → IsLineDispute program source dispute → KeptHere
  disputed dispute d =
      let it = asks_nothing program source line.depth dispute.first line.statement dispute.cell
      d.clash.value
      (sym (asked_at program source line dispute.first is) ∙ d.clash.writes.1) in
      let n : ℕ = quiet line.depth (length (both_code (program_layout program) it.2 it.1)) in
      let costs : suc n ≡ cost program source line.depth line.statement =
      sym (ap (cost program source line.depth) it.3) in record {
        stays = subst
            (StaysIn job (place_of program source.at) (place_of program (source.at + 1)) t) costs
            (stays_here program job of source t carried line is it.0 it.1 it.2 it.3);
        still = subst (StillBelow job (held_below (program_layout program)) t) costs
            (still_all job (held_below (program_layout program)) t (suc n)
            (unchanged_here program job of source t carried line is it.0 it.1 it.2 it.3));
        puts = λ k i cell value lt less below put.
            ap (λ s. asked_in program source line.depth s i) it.3
            ∙ puts_here program job of source t carried line is it.0 it.1 it.2 it.3 k i cell value
            (subst (λ m. k < m) (sym costs) lt) less (shared_low program job of cell below) put;
      }

  pub keeps : KeptHere
  keeps = ⊎_elim agreed (λ (d : (dispute : Dispute) × IsLineDispute program source dispute).
      disputed d.0 d.1) (decides program job of source t carried line is)

  -- who leaves before the stores of a line in conflict is gone after it
  lost_disputed : (line_of : ℕ → ℕ) (numbers : AreLineNumbers program line_of) (dispute : Dispute) →
      IsLineDispute program source dispute → (u i : ℕ) → t ≤ u → machine.IsReached job u →
      i < job.procs →
      ((v : ℕ) → u ≤ v → counter job (state_after job v) i ≡ out_of_range job) →
      (number : ℕ) ×
      ((after_statement program line.number line.depth line.statement source).gone i ≡ Some number)
  lost_disputed line_of numbers dispute d u i high reached lt out =
      let it = asks_nothing program source line.depth dispute.first line.statement dispute.cell
      d.clash.value
      (sym (asked_at program source line dispute.first is) ∙ d.clash.writes.1) in
      let n : ℕ = quiet line.depth (length (both_code (program_layout program) it.2 it.1)) in
      let found : InConflict program job source t line line_of dispute =
      in_conflict program job of source t carried line is line_of numbers dispute d in
      let costs : suc n ≡ suc found.before =
      sym (ap (cost program source line.depth) it.3) ∙ found.costs in
      let last : u ≤ t + n = ⊎_elim
      (λ (past : t + found.before < u). absurd (found.against (reached (t + found.before) past)))
      (λ (low : u ≤ t + found.before). omega arith)
      (cases_lt (t + found.before) u) in
      let lost = lost_here program job of source t carried line is it.0 it.1 it.2 it.3 i lt
      (out (t + n) last) in (
        lost.0,
        ap (λ s. (after_statement program line.number line.depth s source).gone i) it.3 ∙ lost.1,
      )

-- ---- all steps

time_least : (program : ProgramData) (n : ℕ) → 1 ≤ time_of program n
time_least program zero = omega arith
time_least program (suc n) = let e = time_least program n in omega arith

module _ (program : ProgramData) (job : JobData) (of : IsOf program job) (line_of : ℕ → ℕ)
    (numbers : AreLineNumbers program line_of) (whole : IsWhole job) where
  abbrev Made : ℕ → ℕ → Type 0
  Made t n = AreLinesMade program (time_of program) t n

  low : (i : ℕ) → i < program.procs → i < job.procs
  low i lt = let e = procs_are program job of in omega arith

  pub out_later : (t u i : ℕ) → t ≤ u → i < job.procs →
      counter job (state_after job t) i ≡ out_of_range job →
      counter job (state_after job u) i ≡ out_of_range job
  out_later t u i le lt out =
      let past : IsStopped job (state_after job t) i = omega (arith, out) in
      let e : t + (u - t) ≡ u = omega arith in
      subst (λ (n : ℕ). counter job (state_after job n) i ≡ out_of_range job) e
      ((stopped_processor job t (u - t) i of.job_is lt past).0 ∙ out)

  carried : (n : ℕ) → IsLineReached program n →
      Carried program job (after program n) (time_of program n)
  carried n reached = carried_after program job of n reached

  -- ---- which lines are made

  find : (t m : ℕ) → IsLineReached program m →
      (IsProgramOver program (after program m) ⊎ (t < time_of program (m + 1))) →
      (n : ℕ) × Made t n
  find t zero reached no_more =
      (0, record { reached = reached; made = inl refl; no_more = no_more })
  find t (suc m) reached no_more = ⊎_elim
      (λ (early : t < time_of program (suc m)). find t m
      (λ earlier lt. reached earlier (omega arith))
      (inr (let e : suc m ≡ m + 1 = omega arith in
      subst (λ (k : ℕ). t < time_of program k) e early)))
      (λ (late : time_of program (suc m) ≤ t).
      (suc m, record { reached = reached; made = inr late; no_more = no_more }))
      (cases_lt t (time_of program (suc m)))

  before_conflict : (t n : ℕ) (dispute : Dispute) → machine.IsReached job t →
      IsProgramConflict program n dispute → t < time_of program (n + 1)
  before_conflict t n dispute reached is =
      let c = carried n is.reached in
      let line = line_next program (after program n) c.pictured.within is.goes_on in
      let found : InConflict program job (after program n) (time_of program n) line.0 line_of
      dispute = in_conflict program job of (after program n) (time_of program n) c line.0 line.1
      line_of numbers dispute is.disputed in
      let e : suc n ≡ n + 1 = omega arith in
      let more = time_next program n line.0 line.1 in
      let costs = found.costs in
      ⊎_elim
      (λ (past : time_of program n + found.before < t).
      absurd (found.against (reached (time_of program n + found.before) past)))
      (λ (early : t ≤ time_of program n + found.before).
      subst (λ (k : ℕ). t < time_of program k) e (omega arith))
      (cases_lt (time_of program n + found.before) t)

  pub made_at : (t : ℕ) → machine.IsReached job t → (n : ℕ) × Made t n
  made_at t reached =
      let over = finishes program job of whole in ⊎_elim
      (λ (is : IsProgramEnd program over.0). find t over.0 is.reached (inl is.over))
      (λ (is : (dispute : Dispute) × IsProgramConflict program over.0 dispute).
      find t over.0 is.1.reached (inr (before_conflict t over.0 is.0 reached is.1)))
      over.1

  -- ---- in the midst of a line

  record Midst (t n : ℕ) : Type 0 where
    line : Line
    is : slice_get program.lines (after program n).at ≡ Some line
    steps : ℕ
    at_step : time_of program n + steps ≡ t
    within : steps < cost program (after program n) line.depth line.statement

  begun : (t n : ℕ) → 1 ≤ t → Made t n → time_of program n ≤ t
  begun t n some is = ⊎_elim
      (λ (none : n ≡ 0). subst (λ (k : ℕ). time_of program k ≤ t) (sym none) some)
      (λ (late : time_of program n ≤ t). late)
      is.made

  midst : (t n : ℕ) → 1 ≤ t → Made t n → (IsProgramOver program (after program n) → ⊥) → Midst t n
  midst t n some is goes_on =
      let line = line_next program (after program n) (carried n is.reached).pictured.within
      goes_on in
      let late : time_of program n ≤ t = begun t n some is in
      let e : n + 1 ≡ suc n = omega arith in
      let more = time_next program n line.0 line.1 in
      let early : t < time_of program (suc n) = ⊎_elim (λ over. absurd (goes_on over))
      (λ (lt : t < time_of program (n + 1)). subst (λ (k : ℕ). t < time_of program k) e lt)
      is.no_more in record {
        line = line.0;
        is = line.1;
        steps = t - time_of program n;
        at_step = omega arith;
        within = omega arith;
      }

  kept : (t n : ℕ) → Made t n → (m : Midst t n) →
      Keeps program job (asked_in program (after program n) m.line.depth m.line.statement)
      (after program n) (time_of program n)
      (cost program (after program n) m.line.depth m.line.statement)
  kept t n is m = keeps program job of (after program n) (time_of program n)
      (carried n is.reached) m.line m.is

  -- ---- what is held

  holds_still : (source : Source) (s r : State) →
      ((cell : ℕ) → cell < held_below (program_layout program) →
      memory_of job s cell ≡ memory_of job r cell) →
      HoldsVariables program source r → HoldsVariables program source s
  holds_still source s r same holds = record {
    cells = λ cell lt. same_cell job s cell (shared_low program job of cell lt)
        ∙ same cell (omega arith)
        ∙ sym (same_cell job r cell (shared_low program job of cell lt)) ∙ holds.cells cell lt;
    privates = λ x i lt less.
        let few : i < (program_layout program).procs =
        (let e = layout_procs program in omega arith) in
        let here = row_low program job of x i (omega arith) few in
        same_cell job s (own_of (program_layout program) x i) here
        ∙ same (own_of (program_layout program) x i)
        (row_within (program_layout program) x (program_layout program).privates i lt few)
        ∙ sym (same_cell job r (own_of (program_layout program) x i) here)
        ∙ holds.privates x i lt less;
  }

  holds_after : (n : ℕ) → Carried program job (after program n) (time_of program n) →
      HoldsVariables program (after program n) (state_after job (time_of program n))
  holds_after n c =
      let s = shows program job of (after program n) (time_of program n) c in
      record { cells = s.cells; privates = s.privates }

  holds_first : HoldsVariables program (after program 0) (state_after job 0)
  unfolding after state_after
  holds_first = record {
    cells = λ cell lt. same_cell job (state_after job 0) cell (shared_low program job of cell lt)
        ∙ held_shared program job of cell lt;
    privates = λ x i lt less. same_cell job (state_after job 0)
        (own_of (program_layout program) x i)
        (row_low program job of x i (omega arith)
        (let e = layout_procs program in omega arith))
        ∙ held_private program job of x i lt less;
  }

  -- after the end nothing changes
  holds_end : (n t : ℕ) → Carried program job (after program n) (time_of program n) →
      IsProgramOver program (after program n) →
      time_of program n + 1 ≤ t → HoldsVariables program (after program n) (state_after job t)
  holds_end n t c over late =
      let source : Source = after program n in
      let u : ℕ = time_of program n in
      subst (HoldsVariables program (after program n))
      (later_same job (u + 1) t late (reached_last program job of source u c over)
      (all_stopped program job of source u c over))
      (record {
        cells = last_cells program job of source u c over;
        privates = last_privates program job of source u c over;
      })

  pub holds_over : (n t : ℕ) → Carried program job (after program n) (time_of program n) →
      IsProgramOver program (after program n) →
      time_of program n ≤ t → HoldsVariables program (after program n) (state_after job t)
  holds_over n t c over late = ⊎_elim
      (λ (later : time_of program n < t). holds_end n t c over (omega arith))
      (λ (same : t ≤ time_of program n). let e : time_of program n ≡ t = omega arith in
      subst (λ (k : ℕ). HoldsVariables program (after program n) (state_after job k)) e
      (holds_after n c))
      (cases_lt (time_of program n) t)

  holds_midst : (t n : ℕ) → Made t n → Midst t n →
      HoldsVariables program (after program n) (state_after job t)
  holds_midst t n is m =
      subst (λ (k : ℕ). HoldsVariables program (after program n) (state_after job k)) m.at_step
      (holds_still (after program n) (state_after job (time_of program n + m.steps))
      (state_after job (time_of program n))
      (λ cell lt. (kept t n is m).still m.steps cell m.within lt)
      (holds_after n (carried n is.reached)))

  holds_from : (t n : ℕ) → 1 ≤ t → Made t n →
      HoldsVariables program (after program n) (state_after job t)
  holds_from t n some is = ⊎_elim
      (λ over. holds_over n t (carried n is.reached) over (begun t n some is))
      (λ on. holds_midst t n is (midst t n some is on.0))
      (decide_over program (after program n))

  none_made : (n : ℕ) → Made 0 n → n ≡ 0
  none_made n is = ⊎_elim (λ (none : n ≡ 0). none)
      (λ (late : time_of program n ≤ 0). absurd (omega (arith, time_least program n)))
      is.made

  pub holds_at : (t n : ℕ) → Made t n → HoldsVariables program (after program n) (state_after job t)
  holds_at zero n is = subst
      (λ (k : ℕ). HoldsVariables program (after program k) (state_after job 0))
      (sym (none_made n is)) holds_first
  holds_at (suc t) n is = holds_from (suc t) n (omega arith) is

  -- ---- where the processors stand

  -- one that is there stands at the line that is next
  stands : (n i : ℕ) → IsLineReached program n → i < program.procs →
      (after program n).gone i ≡ None →
      counter job (state_after job (time_of program n)) i ≡ place_of program (after program n).at
  stands n i reached lt there =
      let c = carried n reached in
      (here_shows job (state_after job (time_of program n)) i ((after program n).gone i)
      (place_of program (after program n).at) (c.locals i) there (c.pictured.here i lt)
      (c.standing.locals_are i (low i lt))).0

  is_out : (n i number : ℕ) → IsLineReached program n → i < program.procs →
      (after program n).gone i ≡ Some number →
      counter job (state_after job (time_of program n)) i ≡ out_of_range job
  is_out n i number reached lt gone =
      let c = carried n reached in
      out_shows job (state_after job (time_of program n)) i ((after program n).gone i)
      (place_of program (after program n).at) number (c.locals i) gone (c.pictured.here i lt)
      (c.standing.locals_are i (low i lt))

  pub there_before : (t n i : ℕ) → time_of program n ≤ t → IsLineReached program n → i < program.procs →
      counter job (state_after job t) i ≢ out_of_range job → (after program n).gone i ≡ None
  there_before t n i late reached lt there = by_gone ((after program n).gone i) refl
    where
      by_gone : (g : Option ℕ) → (after program n).gone i ≡ g → (after program n).gone i ≡ None
      by_gone None e = e
      by_gone (Some number) e = absurd (there (out_later (time_of program n) t i late (low i lt)
          (is_out n i number reached lt e)))

  in_line : (t n i : ℕ) → Made t n → Midst t n → i < program.procs →
      counter job (state_after job t) i < halted job →
      ComesFrom job line_of t i (line_number program (after program n))
  in_line t n i is m lt runs =
      let inside : is_inside (place_of program (after program n).at)
      (place_of program ((after program n).at + 1))
      (counter job (state_after job (time_of program n + m.steps)) i) ≡ true = ⊎_elim
      (λ (out : counter job (state_after job (time_of program n + m.steps)) i
      ≡ out_of_range job).
      let same = ap (λ (k : ℕ). counter job (state_after job k) i) m.at_step in
      absurd (omega (arith, same, out, runs)))
      (λ inside. inside)
      ((kept t n is m).stays m.steps i m.within (low i lt)) in
      ap (λ (k : ℕ). line_of (counter job (state_after job k) i)) (sym m.at_step)
      ∙ number_at program line_of numbers (after program n).at
      (counter job (state_after job (time_of program n + m.steps)) i) m.line m.is inside
      ∙ sym (line_number_is program (after program n) m.line m.is)

  -- in the first step
  starts : (i : ℕ) → i < program.procs → Executes job 0 i (Pid 3)
  starts i lt =
      let here = ((first_standing program job of).locals_are i (low i lt)).0 in
      ap (slice_get job.code) here ∙ (first_is program job (code_is program job of)).0

  -- after the last line
  over_stands : (n i : ℕ) → IsProgramOver program (after program n) →
      (after program n).gone i ≡ None →
      i < program.procs → place_of program (length program.lines)
      ≡ place_of program (after program n).at
  over_stands n i (inl at_end) there lt = ap (place_of program) at_end
  over_stands n i (inr all_gone) there lt = absurd
      (let no : false ≡ true = sym (ap is_some there) ∙ all_gone i lt in cc)

  ends_first : (n i : ℕ) → IsLineReached program n → IsProgramOver program (after program n) →
      i < program.procs → (after program n).gone i ≡ None →
      Executes job (time_of program n) i Halt
  ends_first n i reached over lt there =
      ap (slice_get job.code)
      (stands n i reached lt there ∙ sym (over_stands n i over there lt))
      ∙ (end_stands program job (code_is program job of)).0

  pub ends : (t n i : ℕ) → time_of program n ≤ t → IsLineReached program n →
      IsProgramOver program (after program n) → i < program.procs →
      counter job (state_after job t) i < halted job → Executes job t i Halt
  ends t n i late reached over lt runs = ⊎_elim
      (λ (later : time_of program n < t).
      let u : ℕ = time_of program n in
      let c = carried n reached in
      let stopped = stopped_at job (u + 1) t (omega arith)
      (reached_last program job of (after program n) u c over)
      (all_stopped program job of (after program n) u c over) i (low i lt) in
      absurd (omega arith))
      (λ (same : t ≤ time_of program n).
      let e : time_of program n ≡ t = omega arith in
      subst (λ (k : ℕ). Executes job k i Halt) e
      (ends_first n i reached over lt
      (there_before t n i late reached lt (λ out. omega arith))))
      (cases_lt (time_of program n) t)

  lines_from : (t n i : ℕ) → 1 ≤ t → Made t n → i < program.procs →
      counter job (state_after job t) i < halted job →
      IsInLine program job line_of t (after program n) i
  lines_from t n i some is lt runs = ⊎_elim
      (λ over. inr (inr (over, ends t n i (begun t n some is) is.reached over lt runs)))
      (λ on. inl (in_line t n i is (midst t n some is on.0) lt runs))
      (decide_over program (after program n))

  pub lines_at : (t n i : ℕ) → Made t n → i < program.procs →
      counter job (state_after job t) i < halted job →
      IsInLine program job line_of t (after program n) i
  lines_at zero n i is lt runs = inr (inl (refl, starts i lt))
  lines_at (suc t) n i is lt runs = lines_from (suc t) n i (omega arith) is lt runs

  -- ---- what is written

  pid_puts : (t cell i value : ℕ) → cell < job.cells → Executes job t i (Pid 3) →
      PutsTo job t cell i value → ⊥
  unfolding request_in decided
  pid_puts t cell i value below is put =
      let s : State = state_after job t in
      let asks : request_in job s i ≡ decided_in job s i (Pid 3) =
      ap (λ (o : Option Instr). elim o as (λ (x : Option Instr). Request) [
        | None ↦ goes_to (counter job s i)
        | Some one ↦ decided_in job s i one
      ]) is in
      let parts = some_pair_parts (register_place job i 3) cell i value
      (sym (ap (λ (r : Request). r.put) asks) ∙ put) in
      let e : register_place job i 3 ≡ cell = parts.0 in
      omega arith

  halt_puts : (t cell i value : ℕ) → Executes job t i Halt → PutsTo job t cell i value → ⊥
  unfolding request_in decided
  halt_puts t cell i value is put =
      let s : State = state_after job t in
      let asks : request_in job s i ≡ decided_in job s i Halt =
      ap (λ (o : Option Instr). elim o as (λ (x : Option Instr). Request) [
        | None ↦ goes_to (counter job s i)
        | Some one ↦ decided_in job s i one
      ]) is in
      none-some (cell, value) (sym (ap (λ (r : Request). r.put) asks) ∙ put)

  pub stopped_puts : (t cell i value : ℕ) → halted job ≤ counter job (state_after job t) i →
      PutsTo job t cell i value → ⊥
  stopped_puts t cell i value past put = none-some (cell, value)
      (sym (ap (λ (r : Request). r.put) (stopped_request job (state_after job t) i past)) ∙ put)

  over_puts : (t n cell i value : ℕ) → time_of program n ≤ t → IsLineReached program n →
      IsProgramOver program (after program n) → i < program.procs → PutsTo job t cell i value → ⊥
  over_puts t n cell i value late reached over lt put = ⊎_elim
      (λ (runs : counter job (state_after job t) i < halted job).
      halt_puts t cell i value (ends t n i late reached over lt runs) put)
      (λ (past : halted job ≤ counter job (state_after job t) i).
      stopped_puts t cell i value past put)
      (cases_lt (counter job (state_after job t) i) (halted job))

  midst_puts : (t n cell i value : ℕ) → Made t n → Midst t n → i < program.procs →
      cell < (program_layout program).shared → PutsTo job t cell i value →
      Assigns program (after program n) cell i value
  midst_puts t n cell i value is m lt below put = (
    lt,
    asked_at program (after program n) m.line i m.is
        ∙ (kept t n is m).puts m.steps i cell value m.within (low i lt) below
        (subst (λ (k : ℕ). PutsTo job k cell i value) (sym m.at_step) put),
  )

  puts_from : (t n cell i value : ℕ) → 1 ≤ t → Made t n → i < program.procs →
      cell < (program_layout program).shared → PutsTo job t cell i value →
      Assigns program (after program n) cell i value
  puts_from t n cell i value some is lt below put = ⊎_elim
      (λ over. absurd (over_puts t n cell i value (begun t n some is) is.reached over lt put))
      (λ on. midst_puts t n cell i value is (midst t n some is on.0) lt below put)
      (decide_over program (after program n))

  pub puts_at : (t n cell i value : ℕ) → Made t n → i < program.procs →
      cell < (program_layout program).shared → PutsTo job t cell i value →
      Assigns program (after program n) cell i value
  puts_at zero n cell i value is lt below put =
      absurd (pid_puts 0 cell i value (shared_low program job of cell below) (starts i lt) put)
  puts_at (suc t) n cell i value is lt below put =
      puts_from (suc t) n cell i value (omega arith) is lt below put

  -- ---- who leaves

  -- one whose counter says that it is gone is gone
  gone_by : (n i : ℕ) → IsLineReached program n → i < program.procs →
      counter job (state_after job (time_of program n)) i ≡ out_of_range job →
      (number : ℕ) × ((after program n).gone i ≡ Some number)
  gone_by n i reached lt out = by_gone ((after program n).gone i) refl
    where
      by_gone : (g : Option ℕ) → (after program n).gone i ≡ g →
          (number : ℕ) × ((after program n).gone i ≡ Some number)
      by_gone (Some number) e = (number, e)
      by_gone None e =
          let here = stands n i reached lt e in
          let below = place_low program job of (after program n).at in
          absurd (omega arith)

  -- nobody leaves after the end
  none_leaves : (t n i : ℕ) → time_of program n ≤ t → IsLineReached program n →
      IsProgramOver program (after program n) → i < program.procs →
      (after program n).gone i ≡ None →
      counter job (state_after job (t + 1)) i ≡ out_of_range job → ⊥
  none_leaves t n i late reached over lt there out =
      let u : ℕ = time_of program n in
      let c = carried n reached in
      let stopped : counter job (state_after job (u + 1)) i ≡ halted job =
      last_there program job of (after program n) u c over i lt there in
      let past : IsStopped job (state_after job (u + 1)) i = omega (arith, stopped) in
      let e : u + 1 + (t - u) ≡ t + 1 = omega arith in
      let still = (stopped_processor job (u + 1) (t - u) i of.job_is (low i lt) past).0 in
      let same = ap (λ (k : ℕ). counter job (state_after job k) i) e in
      omega arith

  -- who leaves in a line is gone after it
  lost_after : (t n i : ℕ) (m : Midst t n) → Made t n →
      (IsProgramOver program (after program n) → ⊥) →
      machine.IsReached job (t + 1) → i < program.procs →
      counter job (state_after job (t + 1)) i ≡ out_of_range job →
      (number : ℕ) × ((after_statement program m.line.number m.line.depth m.line.statement
      (after program n)).gone i ≡ Some number)
  unfolding after
  lost_after t n i m is goes_on reached lt out =
      let u : ℕ = time_of program n in
      let source : Source = after program n in
      let at_step = m.at_step in
      let within = m.within in
      ⊎_elim
      (λ (agrees : LineAgrees program source).
      let more : IsLineReached program (suc n) = reached_next program n is.reached goes_on agrees in
      let later : t + 1 ≤ time_of program (suc n) =
      (let e = time_next program n m.line m.is in omega arith) in
      let gone = gone_by (suc n) i more lt
      (out_later (t + 1) (time_of program (suc n)) i later (low i lt) out) in (
        gone.0,
        sym (ap (λ (s : Source). s.gone i) (next_at program source m.line m.is)) ∙ gone.1,
      ))
      (λ (d : (dispute : Dispute) × IsLineDispute program source dispute).
      lost_disputed program job of source u (carried n is.reached) m.line m.is line_of numbers
      d.0 d.1 (t + 1) i (omega arith) reached (low i lt)
      (λ v late. out_later (t + 1) v i late (low i lt) out))
      (decides program job of source u (carried n is.reached) m.line m.is)

  leaves_midst : (t n i : ℕ) → Midst t n → Made t n →
      (IsProgramOver program (after program n) → ⊥) →
      machine.IsReached job (t + 1) → i < program.procs → (after program n).gone i ≡ None →
      counter job (state_after job (t + 1)) i ≡ out_of_range job →
      (after program (n + 1)).gone i ≡ Some (line_number program (after program n))
  unfolding after
  leaves_midst t n i m is goes_on reached lt there out =
      let source : Source = after program n in
      let lost = lost_after t n i m is goes_on reached lt out in
      let named : m.line.number ≡ lost.0 = lost_in program m.line.number m.line.depth i lost.0
      m.line.statement source there lost.1 in
      let e : n + 1 ≡ suc n = omega arith in
      ap (λ (k : ℕ). (after program k).gone i) e
      ∙ ap (λ (s : Source). s.gone i) (next_at program source m.line m.is) ∙ lost.1
      ∙ ap Some (sym named ∙ sym (line_number_is program source m.line m.is))

  leaves_from : (t n i : ℕ) → 1 ≤ t → Made t n → machine.IsReached job (t + 1) →
      i < program.procs → LeavesIn job t i →
      (after program (n + 1)).gone i ≡ Some (line_number program (after program n))
  leaves_from t n i some is reached lt leaves =
      let late : time_of program n ≤ t = begun t n some is in
      let there : (after program n).gone i ≡ None =
      there_before t n i late is.reached lt leaves.was_there in ⊎_elim
      (λ over. absurd (none_leaves t n i late is.reached over lt there leaves.is_gone))
      (λ on. leaves_midst t n i (midst t n some is on.0) is on.0 reached lt there leaves.is_gone)
      (decide_over program (after program n))

  -- in the first step nobody does
  none_first : (i : ℕ) → i < program.procs →
      counter job (state_after job (0 + 1)) i ≡ out_of_range job → ⊥
  unfolding after
  none_first i lt out =
      let here = stands 0 i (λ earlier less. absurd (omega arith)) lt refl in
      let below = place_low program job of (after program 0).at in
      omega arith

  pub leaves_at : (t n i : ℕ) → Made t n → machine.IsReached job (t + 1) → i < program.procs →
      LeavesIn job t i →
      (after program (n + 1)).gone i ≡ Some (line_number program (after program n))
  leaves_at zero n i is reached lt leaves = absurd (none_first i lt leaves.is_gone)
  leaves_at (suc t) n i is reached lt leaves =
      leaves_from (suc t) n i (omega arith) is reached lt leaves
