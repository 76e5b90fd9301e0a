-- What the machine shows, in the words of the theorem, and its end.
use Rattle.std.proofs.Common.{◌≡◌, ℕ, suc, ◌+◌, ◌-◌, ◌<◌, ◌≤◌, true, false, Option, Some, None}
use Rattle.std.proofs.Common.{refl, sym, ap, ◌∙◌, subst, inl, inr, ⊎_elim, arith, length}
use Rattle.std.specs.Prelude.{IsTrue, slice_index, is_some}
use Rattle.std.specs.Option.{is_none}
use Rattle.std.proofs.lemmas.Bool.{cases_lt, cases_order}
use Rattle.pram_job.specs.declared.instr.Instr.TheVariants.{Halt}
use Rattle.pram_job.specs.Job.{JobData}
use Rattle.pram_machine.specs.Machine.{AllStopped}
use Rattle.pram_machine.specs.Machine.{State, register, counter, halted, out_of_range, IsStopped}
use Rattle.pram_step.specs.Runs.{state_after, IsStateAfter, IsFirstConflict, AgreesAfter}
use Rattle.pram_step.specs.Runs as machine
use Rattle.pram_step.proofs.LawStopped.{stopped_stays, stopped_later}
use Rattle.pardo_program.specs.Operations.{bit}
use Rattle.pardo_program.specs.Program.{ProgramData}
use Rattle.pardo_flat.specs.Layouts.{program_layout, mask_cells, private_cells}
use Rattle.pardo_job.specs.Compiled.{Stops, IsWhole}
use Rattle.pardo_job.specs.Lines.{place_of}
use Rattle.pardo_job.specs.Meaning.{Source}
use Rattle.pardo_job.specs.Runs.{IsProgramOver}
use Rattle.pardo_job.specs.Shows.{Represents, IsThere as IsStill, own_cell}
use Rattle.pardo_law.specs.Locals.{Local, IsLocal}
use Rattle.pardo_law.proofs.Carried.{Carried}
use Rattle.pardo_law.proofs.Bodies.{IsThere, there_at}
use Rattle.pardo_law.proofs.Lengths.{end_stands}
use Rattle.pardo_law.proofs.Making.{Goes, Went, all_go, goes_out, goes_one, goes_here}
use Rattle.pardo_law.proofs.Picturing.{IsOf, IsHere, procs_are, layout_procs, row_low, shared_low}
use Rattle.pardo_law.proofs.Picturing.{code_is}
use Rattle.pardo_law.proofs.Rows.{own_of}
use Rattle.pardo_law.proofs.Stepping.{same_cell, same_register}

pub gone_not : (o : Option ℕ) → IsTrue (is_none o) → o ≡ None
gone_not None e = refl
gone_not (Some x) e = absurd (let f : false ≡ true = e in cc)

pub gone_line : (o : Option ℕ) → IsTrue (is_some o) → (line : ℕ) × (o ≡ Some line)
gone_line None e = absurd (let f : false ≡ true = e in cc)
gone_line (Some x) e = (x, refl)

module _ (job : JobData) (state : State) (i : ℕ) where
  pub there_shows : (place : ℕ) (l : Local) → IsThere place i l → IsLocal job state i l →
      (counter job state i ≡ place) × (register job state i 3 ≡ i)
  there_shows place l here local =
      let is : IsLocal job state i (Some (place, here.held)) =
      subst (IsLocal job state i) here.is local in
      (is.0, same_register job state i 3 (omega arith) ∙ ap (λ (f : ℕ → ℕ). f 3) is.1 ∙ here.own)

  pub here_shows : (g : Option ℕ) (place : ℕ) (l : Local) → g ≡ None → IsHere g place i l →
      IsLocal job state i l →
      (counter job state i ≡ place) × (register job state i 3 ≡ i)
  here_shows g place l e here local =
      there_shows place l (subst (λ x. IsHere x place i l) e here) local

  pub out_shows : (g : Option ℕ) (place line : ℕ) (l : Local) → g ≡ Some line → IsHere g place i l →
      IsLocal job state i l →
      counter job state i ≡ out_of_range job
  out_shows g place line l e here local =
      subst (IsLocal job state i) (subst (λ x. IsHere x place i l) e here) local

module _ (program : ProgramData) (job : JobData) (of : IsOf program job) (source : Source) (t : ℕ)
    (carried : Carried program job source t) where
  few : (i : ℕ) → i < program.procs → i < (program_layout program).procs
  few i lt = let e = layout_procs program in omega arith

  many : (i : ℕ) → i < program.procs → i < job.procs
  many i lt = let e = procs_are program job of in omega arith

  cell_is : (cell : ℕ) → cell < job.cells → slice_index (state_after job t) cell ≡
      carried.memory cell
  cell_is cell low = same_cell job (state_after job t) cell low ∙
      ap (λ (f : ℕ → ℕ). f cell) carried.standing.memory_is

  mask_shows : (depth i : ℕ) → depth < (program_layout program).choices → IsStill program source i →
      slice_index (state_after job t) ((mask_cells (program_layout program) (depth + 1)).base + i) ≡
      bit (source.masks (depth + 1) i)
  mask_shows depth i low still =
      let e : suc depth ≡ depth + 1 = omega arith in
      subst (λ n. slice_index (state_after job t) ((mask_cells (program_layout program) n).base + i)
      ≡
      bit (source.masks n i)) e
      (cell_is (own_of (program_layout program)
      ((program_layout program).privates + (program_layout program).loops + (suc depth - 1)) i)
      (row_low program job of ((program_layout program).privates + (program_layout program).loops +
      (suc depth - 1)) i (omega arith) (few i still.0))
      ∙ carried.pictured.masks depth i low still.0 (gone_not (source.gone i) still.1))

  pub shows : Represents program job source (state_after job t)
  shows = record {
    cells = λ cell lt. cell_is cell (shared_low program job of cell lt) ∙
        carried.pictured.cells cell lt;
    privates = λ x i lt less. cell_is (own_of (program_layout program) x i)
        (row_low program job of x i (omega arith) (few i less))
        ∙ carried.pictured.privates x i lt less;
    loops = λ nest i lt still. cell_is
        (own_of (program_layout program) ((program_layout program).privates + nest) i)
        (row_low program job of ((program_layout program).privates + nest) i (omega arith)
        (few i still.0))
        ∙ carried.pictured.loops nest i lt still.0 (gone_not (source.gone i) still.1);
    masks = mask_shows;
    own = λ i still. (here_shows job (state_after job t) i (source.gone i)
        (place_of program source.at) (carried.locals i)
        (gone_not (source.gone i) still.1) (carried.pictured.here i still.0)
        (carried.standing.locals_are i (many i still.0))).1;
    stands = λ i still. (here_shows job (state_after job t) i (source.gone i)
        (place_of program source.at) (carried.locals i)
        (gone_not (source.gone i) still.1) (carried.pictured.here i still.0)
        (carried.standing.locals_are i (many i still.0))).0;
    gone = λ i lt out. let line = gone_line (source.gone i) out in
        out_shows job (state_after job t) i (source.gone i) (place_of program source.at) line.0
        (carried.locals i)
        line.1 (carried.pictured.here i lt) (carried.standing.locals_are i (many i lt));
  }

  -- ---- where the program is over

  halt_goes : (i : ℕ) (g : Option ℕ) →
      IsHere g (place_of program (length program.lines)) i (carried.locals i) →
      Goes job carried.memory i 1 (carried.locals i) (IsHere g (halted job) i)
  halt_goes i (Some line) here = subst
      (λ l. Goes job carried.memory i 1 l (IsHere (Some line) (halted job) i)) (sym here)
      (goes_out job carried.memory i 1 (IsHere (Some line) (halted job) i) refl)
  halt_goes i None here = subst (λ l. Goes job carried.memory i 1 l (IsThere (halted job) i))
      (sym here.is)
      (goes_one job carried.memory i 0 (place_of program (length program.lines)) here.held Halt
      (IsThere (halted job) i)
      (end_stands program job (code_is program job of)).0 tt refl
      (goes_here job carried.memory i (Some (halted job, here.held)) (IsThere (halted job) i)
      (there_at (halted job) i here.held here.own)))

  over_goes : IsProgramOver program source → (i : ℕ) → i < job.procs →
      Goes job carried.memory i 1 (carried.locals i) (IsHere (source.gone i) (halted job) i)
  over_goes (inl at_end) i lt = halt_goes i (source.gone i)
      (subst (λ n. IsHere (source.gone i) (place_of program n) i (carried.locals i)) (sym at_end)
      (carried.pictured.here i (let e = procs_are program job of in omega arith)))
  over_goes (inr all_gone) i lt =
      let low : i < program.procs = (let e = procs_are program job of in omega arith) in
      let line = gone_line (source.gone i) (all_gone i low) in
      subst (λ g. Goes job carried.memory i 1 (carried.locals i) (IsHere g (halted job) i))
      (sym line.1)
      (halt_goes i (Some line.0) (subst
      (λ g. IsHere g (place_of program source.at) i (carried.locals i)) line.1
      (carried.pictured.here i low)))

  module _ (over : IsProgramOver program source) where
    last : Went job (t + 1) carried.memory (λ i. IsHere (source.gone i) (halted job) i)
    last = all_go job of.job_is t 1 carried.memory carried.locals carried.standing
        (λ i. IsHere (source.gone i) (halted job) i) (over_goes over)

    stopped_by : (i : ℕ) (g : Option ℕ) → IsHere g (halted job) i (last.places i) →
        IsLocal job (state_after job (t + 1)) i (last.places i) →
        IsStopped job (state_after job (t + 1)) i
    stopped_by i (Some line) here local =
        let e : counter job (state_after job (t + 1)) i ≡ out_of_range job =
        subst (IsLocal job (state_after job (t + 1)) i) here local in omega arith
    stopped_by i None here local =
        let e = (there_shows job (state_after job (t + 1)) i (halted job) (last.places i) here
        local).0 in omega arith

    pub all_stopped : AllStopped job (state_after job (t + 1))
    all_stopped i lt = stopped_by i (source.gone i) (last.each i lt) (last.standing.locals_are i lt)

    pub reached_last : machine.IsReached job (t + 1)
    reached_last = last.standing.reached

    pub last_cells : (cell : ℕ) → cell < (program_layout program).shared →
        slice_index (state_after job (t + 1)) cell ≡ source.cells cell
    last_cells cell lt = same_cell job (state_after job (t + 1)) cell
        (shared_low program job of cell lt)
        ∙ ap (λ (f : ℕ → ℕ). f cell) last.standing.memory_is ∙ carried.pictured.cells cell lt

    pub last_privates : (x i : ℕ) → x < (program_layout program).privates → i < program.procs →
        own_cell (state_after job (t + 1)) (private_cells (program_layout program) x) i
        ≡ source.privates x i
    last_privates x i lt less = same_cell job (state_after job (t + 1))
        (own_of (program_layout program) x i)
        (row_low program job of x i (omega arith) (few i less))
        ∙ ap (λ (f : ℕ → ℕ). f (own_of (program_layout program) x i)) last.standing.memory_is
        ∙ carried.pictured.privates x i lt less

    pub last_there : (i : ℕ) → i < program.procs → source.gone i ≡ None →
        counter job (state_after job (t + 1)) i ≡ halted job
    last_there i lt e = (here_shows job (state_after job (t + 1)) i (source.gone i) (halted job)
        (last.places i) e
        (last.each i (many i lt)) (last.standing.locals_are i (many i lt))).0

-- ---- the steps of a job that is whole

-- a machine that has stopped is what it is later
pub later_same : (job : JobData) (t u : ℕ) → t ≤ u → machine.IsReached job t →
    AllStopped job (state_after job t) →
    state_after job t ≡ state_after job u
later_same job t u le reached stopped =
    let later : IsStateAfter job (t + (u - t)) (state_after job t) =
    stopped_later job t (u - t) (state_after job t) (record { reached = reached; state = refl })
    stopped in
    let same : t + (u - t) ≡ u = omega arith in
    later.state ∙ ap (state_after job) same

pub stopped_at : (job : JobData) (t u : ℕ) → t ≤ u → machine.IsReached job t →
    AllStopped job (state_after job t) →
    AllStopped job (state_after job u)
stopped_at job t u le reached stopped =
    subst (AllStopped job) (later_same job t u le reached stopped) stopped

pub agrees_at : (job : JobData) (t u : ℕ) → t ≤ u → machine.IsReached job t →
    AllStopped job (state_after job t) →
    AgreesAfter job u
agrees_at job t u le reached stopped =
    (stopped_stays job (state_after job u) (stopped_at job t u le reached stopped)).0

-- a job whose processors have all stopped has no conflict, and no more steps
pub record Whole (job : JobData) (t : ℕ) : Type 0 where
  pub stops : Stops job
  pub within : job.steps ≤ t

pub whole_at : (job : JobData) (t : ℕ) → IsWhole job → machine.IsReached job t →
    AllStopped job (state_after job t) → Whole job t
whole_at job t (inl stops) reached stopped = record {
  stops = stops;
  within = ⊎_elim (λ (low : t < job.steps). absurd (stops.runs t low stopped))
      (λ (high : job.steps ≤ t). high) (cases_lt t job.steps);
}
whole_at job t (inr conflict) reached stopped =
    let first : IsFirstConflict job conflict.0 = conflict.1 in
    let agrees : AgreesAfter job first.before = ⊎_elim
    (λ (low : first.before < t). reached first.before low)
    (λ (high : t ≤ first.before). agrees_at job t first.before high reached stopped)
    (cases_lt first.before t) in
    absurd (agrees _ _ _ first.dispute.clash)

-- the job has more steps, where some processor runs
pub more_steps : (job : JobData) (t i : ℕ) → IsWhole job → machine.IsReached job t → i < job.procs →
    (IsStopped job (state_after job t) i → ⊥) → t < job.steps
more_steps job t i (inl stops) reached lt runs = ⊎_elim (λ (low : t < job.steps). low)
    (λ (high : job.steps ≤ t). absurd
    (runs (stopped_at job job.steps t high stops.reached stops.stopped i lt)))
    (cases_lt t job.steps)
more_steps job t i (inr conflict) reached lt runs = ⊎_elim (λ (low : t < job.steps). low)
    (λ (high : job.steps ≤ t).
    let first : IsFirstConflict job conflict.0 = conflict.1 in
    let e : conflict.0.step ≡ job.steps = conflict.2 in
    let f : conflict.0.step ≡ first.before + 1 = first.step in
    absurd (reached first.before (omega arith) _ _ _ first.dispute.clash))
    (cases_lt t job.steps)

-- a step in conflict is the last
pub conflict_is_last : (job : JobData) (before : ℕ) → IsWhole job → machine.IsReached job before →
    (AgreesAfter job before → ⊥) → job.steps ≡ before + 1
conflict_is_last job before (inl stops) reached against = ⊎_elim
    (λ (low : before < job.steps). absurd (against (stops.reached before low)))
    (λ (high : job.steps ≤ before). absurd
    (against (agrees_at job job.steps before high stops.reached stops.stopped)))
    (cases_lt before job.steps)
conflict_is_last job before (inr conflict) reached against =
    let first : IsFirstConflict job conflict.0 = conflict.1 in
    let e : conflict.0.step ≡ job.steps = conflict.2 in
    let f : conflict.0.step ≡ first.before + 1 = first.step in
    elim (cases_order before first.before) [
      | inl same ↦ omega arith
      | inr apart ↦ elim apart [
        | inl low ↦ absurd (against (first.reached before low))
        | inr high ↦ absurd (reached first.before high _ _ _ first.dispute.clash)
      ]
    ]
