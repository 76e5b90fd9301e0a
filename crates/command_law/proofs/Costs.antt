-- What costs say of a program's lines.
use Rattle.std.proofs.Common.{◌≡◌, ◌∙◌, ◌++◌, ◌⊎◌, ◌+◌, ℕ, suc, ◌<◌, Bool, true, false}
use Rattle.std.proofs.Common.{List, [], ◌∷◌, Option, Some, None, nat_lt, length, map}
use Rattle.std.proofs.Common.{ap, sym, subst, inl, inr, refl, codes, decimal, arith}
use Rattle.std.proofs.Common.{if◌then◌else◌}
use Rattle.std.specs.Prelude.{All, IfSome, slice_get, slice_index, sum_by}
use Rattle.std.proofs.lemmas.List.Elements.{All-append, All-cons, All-nil}
use Rattle.std.proofs.lemmas.List.Sums.{sum_by-cons}
use Rattle.std.proofs.lemmas.Bool.{cases_Bool, ltb-true}
use Rattle.std.proofs.lemmas.Option.{none-some}
use Rattle.pram_job.specs.Job.{JobData}
use Rattle.pram_machine.specs.Machine.{counter, halted}
use Rattle.pram_step.specs.declared.answer.Dispute.{Dispute}
use Rattle.pram_step.specs.declared.answer.Fault.{Fault}
use Rattle.pram_step.specs.declared.answer.RunAnswer.{RunAnswer}
use Rattle.pram_step.specs.declared.answer.RunAnswer.TheVariants.{Conflict}
use Rattle.pram_step.specs.Runs.{IsFault, IsReached, state_after}
use Rattle.pram_step.proofs.LawAnswer.{conflict_ends}
use Rattle.pram_step.proofs.LawFixed.{reached_down}
use Rattle.pram_cost.specs.Accesses.{put_to_cell, write_by}
use Rattle.pram_step.specs.Running.{is_running}
use Rattle.pram_cost.specs.Costs.{IsLength}
use Rattle.pram_cost.specs.Meetings.{IsFirstMeeting, IsFirstOrNone, Meet, access_by}
use Rattle.pram_cost.specs.Printed.{cost_text}
use Rattle.pram_cost.specs.Profiles.{executed_at, most_at, instruction_steps}
use Rattle.pram_cost.specs.declared.cost.Cost.{Cost}
use Rattle.pram_cost.specs.declared.meeting.Meeting.{Meeting}
use Rattle.pram_cost.specs.declared.meeting.Sharing.{Sharing}
use Rattle.pram_cost.specs.declared.meeting.Sharing.TheVariants.{SameRead, SameWrite, OtherValue}
use Rattle.pram_cost.proofs.Accessing.{idle_access}
use Rattle.pardo_program.specs.declared.statement.Line.{Line}
use Rattle.pardo_program.specs.Program.{ProgramData}
use Rattle.pardo_flat.specs.Layouts.{program_layout}
use Rattle.pardo_flat.specs.Flat.{first_flat_of, flat}
use Rattle.pardo_job.specs.Meaning.{after}
use Rattle.pardo_job.specs.Printed.{IsConflictText, cell_text}
use Rattle.pardo_job.specs.Runs.{IsProgramConflict, IsProgramEnd, line_number}
use Rattle.pardo_job.specs.declared.times.CountedLine.{CountedLine}
use Rattle.pardo_job.specs.Lines.{place_of}
use Rattle.pardo_job.specs.Times.{AreAllLines, counted_from, counted_line, counted_place}
use Rattle.pardo_job.specs.Times.{is_counted, rounds_to}
use Rattle.pardo_law.specs.Between.{AreLinesMade, IsInLine}
use Rattle.pardo_law.specs.Counted.{TellsLine}
use Rattle.pardo_law.proofs.Summing.{lines_add_up}
use Rattle.pardo_law.proofs.FlatTelling.{jobs_tell_lines}
use Rattle.pardo_law.proofs.Rounds.{jobs_tell_rounds}
use Rattle.pardo_answers.specs.Language.{is_program}
use Rattle.pardo_answers.specs.Laws.{IsAnswerText, IsCarrying}
use Rattle.pardo_answers.proofs.LawAnswers.{printed_answers_are_the_programs}
use Rattle.pardo_answers.specs.declared.line_costs.LineCost.{LineCost}
use Rattle.pram_commands.specs.Costs.{TellsCost}
use Rattle.naming.specs.Costs.{cost_words, named_line_costs, named_rounds, rounds_text}
use Rattle.pardo_answers.specs.Costs.{line_cost, rounds_in}
use Rattle.naming.specs.Costs.{place_or_cell}
use Rattle.naming.specs.Names.{AreNames, IsNaming, NamingData}
use Rattle.command_law.specs.Programs.{AreLineCosts, AreProgramsCosts}
use Rattle.command_law.specs.Programs.{CostsTellTheProgramsLines, IsMeetingOf, line_cost_by}
use Rattle.command_law.specs.Programs.{AreProgramsRecords, RecordsTellTheProgramsLines}
use Rattle.pram_commands.specs.LineRecords.{TellsLines}
use Rattle.naming.specs.LineRecords.{records_text}
use Rattle.command_law.specs.Programs.{BothWrite, IsProgramsJob, MeetByMeaning}
use Rattle.command_law.proofs.Executing.{halt_access, pid_access}
use Rattle.command_law.proofs.Jobs.{lawful, nested, no_machines, procs_are, programs_job}

-- the steps before the last one of a run are reached
pub reached_within : (job : JobData) (n : ℕ) (conflict : Option Fault) → IsLength job n conflict →
    (before : ℕ) → before < n → IsReached job before
reached_within job n None length before lt = reached_down job before n (omega arith) length.1
reached_within job n (Some fault) length before lt =
    let first = length.1.first in
    let step = first.step in
    let same = length.0 in
    reached_down job before first.before (omega arith) first.reached

module _ (text : List ℕ) (job : JobData) (naming : NamingData) (names : IsNaming text job naming)
    (is : IsProgramsJob text job naming) where
  abbrev time : ℕ → ℕ
  time = is.goes.carries.time

  -- one that goes to a cell runs
  runs : (sharing : Sharing) (t i cell value : ℕ) →
      access_by sharing job (state_after job t) i ≡ Some (cell, value) →
      counter job (state_after job t) i < halted job
  runs sharing t i cell value goes = elim (cases_Bool (is_running job (state_after job t) i)) [
    | inl on ↦ ltb-true (counter job (state_after job t) i) (halted job) on
    | inr off ↦ absurd (none-some (cell, value)
        (sym (idle_access sharing job (state_after job t) i off) ∙ goes))
  ]

  -- by an instruction of the line that is next
  in_line : (sharing : Sharing) (t n i cell value : ℕ) →
      access_by sharing job (state_after job t) i ≡ Some (cell, value) →
      IsInLine naming.program job (slice_index naming.numbers) t (after naming.program n) i →
      slice_index naming.numbers (counter job (state_after job t) i)
      ≡ line_number naming.program (after naming.program n)
  in_line sharing t n i cell value goes (inl comes) = comes
  in_line sharing t n i cell value goes (inr (inl first)) =
      absurd (none-some (cell, value) (sym (pid_access sharing job t i first.1) ∙ goes))
  in_line sharing t n i cell value goes (inr (inr last)) =
      absurd (none-some (cell, value) (sym (halt_access sharing job t i last.1) ∙ goes))

  -- what goes to a cell is put there
  put_of : (put : Option (ℕ × ℕ)) (cell value : ℕ) → put_to_cell job put ≡ Some (cell, value) →
      put ≡ Some (cell, value)
  put_of None cell value e = absurd (none-some (cell, value) e)
  put_of (Some put) cell value e = elim (cases_Bool (nat_lt put.0 job.cells)) [
    | inl on ↦ sym (ap (λ (b : Bool). if b then Some put else None) on) ∙ e
    | inr off ↦ absurd (none-some (cell, value)
        (sym (ap (λ (b : Bool). if b then Some put else None) off) ∙ e))
  ]

  -- who writes to a place does so by the meaning
  both_write : (sharing : Sharing) (before n : ℕ) (meeting : Meeting) → IsReached job before →
      AreLinesMade naming.program time before n → (meet : Meet sharing
      (write_by job (state_after job before)) job.procs meeting.cell meeting.first
      meeting.second) → meeting.cell < (program_layout naming.program).shared →
      BothWrite sharing naming.program n meeting
  both_write sharing before n meeting reached made meet below =
      let e = procs_are naming.program job is.made in
      let few = meet.within in
      let few_too = meet.within_too in record {
        value = meet.value;
        other = meet.other;
        writes = is.goes.writes before n meeting.cell meeting.first meet.value reached made
            (omega arith) below (put_of _ meeting.cell meet.value meet.goes);
        writes_too = is.goes.writes before n meeting.cell meeting.second meet.other reached made
            (omega arith) below (put_of _ meeting.cell meet.other meet.goes_too);
        differ = meet.differ;
      }

  by_meaning : (sharing : Sharing) (before n : ℕ) (meeting : Meeting) → IsReached job before →
      AreLinesMade naming.program time before n → Meet sharing
      (access_by sharing job (state_after job before)) job.procs meeting.cell meeting.first
      meeting.second → MeetByMeaning sharing naming.program n meeting
  by_meaning SameRead before n meeting reached made meet = tt
  by_meaning SameWrite before n meeting reached made meet =
      both_write SameWrite before n meeting reached made meet
  by_meaning OtherValue before n meeting reached made meet =
      both_write OtherValue before n meeting reached made meet

  pub meeting_is : (sharing : Sharing) (n : ℕ) (meeting : Meeting) →
      ((before : ℕ) → before < n → IsReached job before) → IsFirstMeeting sharing job n meeting →
      IsMeetingOf sharing naming time meeting
  meeting_is sharing n meeting reached first =
      let at : IsReached job first.before = reached first.before first.within in
      let found : (k : ℕ) × AreLinesMade naming.program time first.before k =
      is.goes.made first.before at in
      let meet = first.least.meet in
      let low : meeting.first < naming.program.procs =
      (let e = procs_are naming.program job is.made in let f = meet.within in omega arith) in
      let goes_on = runs sharing first.before meeting.first meeting.cell meet.value meet.goes in
      let line : slice_index naming.numbers meeting.counter
      ≡ line_number naming.program (after naming.program found.0) =
      ap (slice_index naming.numbers) first.stands
      ∙ in_line sharing first.before found.0 meeting.first meeting.cell meet.value meet.goes
      (is.goes.lines first.before found.0 meeting.first at found.1 low goes_on) in record {
        before = first.before;
        step = first.step;
        lines = found.0;
        are_made = found.1;
        told = ap (λ (number : ℕ). codes " line=" ++ decimal number
            ++ place_or_cell (cell_text naming.program.arrays meeting.cell) meeting) line;
        meet = by_meaning sharing first.before found.0 meeting at found.1 meet;
      }

  meeting_or_none : (sharing : Sharing) (n : ℕ) (found : Option Meeting) →
      ((before : ℕ) → before < n → IsReached job before) → IsFirstOrNone sharing job n found →
      IfSome found (IsMeetingOf sharing naming time)
  meeting_or_none sharing n None reached none = tt
  meeting_or_none sharing n (Some meeting) reached first =
      meeting_is sharing n meeting reached first

  no_end : (fault : Fault) (bytes : List ℕ) → IsFault job fault →
      IsAnswerText naming.program job.steps bytes → IsConflictText naming.program bytes
  no_end fault bytes is_fault (inl end) =
      absurd (conflict_ends job fault job.steps is_fault.first is_fault.within
      (is.goes.carries.ends end.0 end.1).0.reached)
  no_end fault bytes is_fault (inr conflict) = conflict

  conflict_is : (n : ℕ) (conflict : Option Fault) → IsLength job n conflict →
      IfSome conflict (λ fault.
      IsConflictText naming.program ((cost_words (Some naming) []).conflict fault))
  conflict_is n None length = tt
  conflict_is n (Some fault) length =
      let c : IsCarrying naming.program job (slice_index naming.numbers) = record {
        lawful = lawful text job naming names;
        made = is.made;
        carries = is.goes.carries;
      } in
      no_end fault _ length.1 (printed_answers_are_the_programs naming.program job
      (slice_index naming.numbers) (Conflict fault) naming.ended.lines c length.1
      names.ends.ends_in)

-- ---- the lines

module _ (text : List ℕ) (job : JobData) (naming : NamingData) (names : IsNaming text job naming)
    (is : IsProgramsJob text job naming) where
  abbrev program : ProgramData
  program = naming.program

  -- how many lines the run has
  all_lines : (n : ℕ) × AreAllLines program n
  all_lines = by_over is.goes.carries.over
    where
      by_over : (n : ℕ) × (IsProgramEnd program n
          ⊎ ((dispute : Dispute) × IsProgramConflict program n dispute)) →
          (n : ℕ) × AreAllLines program n
      by_over over = elim over.1 [
        | inl end ↦ (over.0, inl end)
        | inr conflict ↦ (over.0 + 1, inr (over.0, conflict.0, conflict.1, refl))
      ]

  abbrev n : ℕ
  n = all_lines.0

  -- a counted line of the program
  record IsLineOf (counted : CountedLine) : Type 0 where
    line : Line
    found : slice_get program.lines counted.at ≡ Some line
    counts : is_counted line.statement ≡ true
    first : counted.first ≡ place_of (flat program) (first_flat_of program counted.at)
    own : counted.own ≡ counted_place (flat program) (first_flat_of program counted.at) line.depth

  one_by_meaning : (counted : CountedLine) → IsLineOf counted →
      line_cost job counted ≡ line_cost_by program n counted
  one_by_meaning counted it =
      let tells : TellsLine program job n counted.at it.line.depth =
      jobs_tell_lines program job (slice_index naming.numbers) n counted.at it.line
      (lawful text job naming names) (nested text job naming names)
      names.makes all_lines.1 it.found it.counts in
      λ k. record {
        line = counted.number;
        times = (ap (λ (p : ℕ). instruction_steps job p job.steps) it.first ∙ tells.times) k;
        time = (ap (λ (p : ℕ). instruction_steps job p job.steps) it.own ∙ tells.time) k;
        operations = (ap (λ (p : ℕ). executed_at job p job.steps) it.own ∙ tells.operations) k;
        most = (ap (λ (p : ℕ). most_at job p job.steps) it.own ∙ tells.most) k;
      }

  abbrev listed : ℕ → Line → Bool → List CountedLine
  listed j line b = if b
      then record {
        at = j;
        number = line.number;
        first = place_of (flat program) (first_flat_of program j);
        own = counted_place (flat program) (first_flat_of program j) line.depth;
      } ∷ []
      else []

  one_of_it : (j : ℕ) (line : Line) → slice_get program.lines j ≡ Some line →
      All IsLineOf (counted_line (place_of (flat program) (first_flat_of program j)) j line)
  one_of_it j line found = by_counted (is_counted line.statement) refl
    where
      by_counted : (b : Bool) → is_counted line.statement ≡ b →
          All IsLineOf (listed j line (is_counted line.statement))
      by_counted false e = subst (λ b. All IsLineOf (listed j line b)) (sym e) (All-nil IsLineOf)
      by_counted true e =
          let it : IsLineOf (record {
            at = j;
            number = line.number;
            first = place_of (flat program) (first_flat_of program j);
            own = counted_place (flat program) (first_flat_of program j) line.depth;
          }) = record { line = line; found = found; counts = e; first = refl; own = refl } in
          subst (λ b. All IsLineOf (listed j line b)) (sym e)
          (All-cons IsLineOf _ [] it (All-nil IsLineOf))

  all_of_it : (j : ℕ) (lines : List Line) → ((k : ℕ) (line : Line) →
      slice_get lines k ≡ Some line → slice_get program.lines (j + k) ≡ Some line) →
      All IsLineOf (counted_from program j lines)
  all_of_it j [] there = All-nil IsLineOf
  all_of_it j (line ∷ lines) there =
      let here : j + 0 ≡ j = omega arith in
      All-append IsLineOf (counted_line (place_of (flat program) (first_flat_of program j)) j line)
      (counted_from program (j + 1) lines)
      (one_of_it j line (subst (λ k. slice_get program.lines k ≡ Some line) here
      (there 0 line refl)))
      (all_of_it (j + 1) lines (λ k other found.
      let next : j + suc k ≡ j + 1 + k = omega arith in
      subst (λ m. slice_get program.lines m ≡ Some other) next (there (suc k) other found)))

  all_by_meaning : (counted : List CountedLine) → All IsLineOf counted →
      map (line_cost job) counted ≡ map (line_cost_by program n) counted
  all_by_meaning [] are = refl
  all_by_meaning (one ∷ counted) are =
      ap (λ (cost : LineCost). cost ∷ map (line_cost job) counted)
      (one_by_meaning one (are 0 one (omega arith)))
      ∙ ap (λ (costs : List LineCost). line_cost_by program n one ∷ costs)
      (all_by_meaning counted (λ k d lt. are (suc k) d (omega arith)))

  sum_of : (f : LineCost → ℕ) (counted : List CountedLine) →
      sum_by f (map (line_cost_by program n) counted)
      ≡ sum_by (λ one. f (line_cost_by program n one)) counted
  sum_of f [] = refl
  sum_of f (one ∷ counted) =
      sum_by-cons f (line_cost_by program n one) (map (line_cost_by program n) counted)
      ∙ ap (λ m. f (line_cost_by program n one) + m) (sum_of f counted)
      ∙ sym (sum_by-cons (λ c. f (line_cost_by program n c)) one counted)

  pub costs_by_meaning : AreLineCosts program (named_line_costs (Some naming) job)
  costs_by_meaning =
      let counted : List CountedLine = counted_from program 0 program.lines in
      let same : map (line_cost job) counted ≡ map (line_cost_by program n) counted =
      all_by_meaning counted (all_of_it 0 program.lines (λ k line found.
      let e : k ≡ 0 + k = omega arith in
      subst (λ m. slice_get program.lines m ≡ Some line) e found)) in
      let sums = lines_add_up program n in record {
        n = n;
        all = all_lines.1;
        lines_are = same;
        time = ap (λ (lines : List LineCost). sum_by (λ cost. cost.time) lines) same
            ∙ sum_of (λ cost. cost.time) counted ∙ sums.1;
        operations = ap (λ (lines : List LineCost). sum_by (λ cost. cost.operations) lines) same
            ∙ sum_of (λ cost. cost.operations) counted ∙ sums.0;
      }

  rounds_by_meaning : rounds_in program job ≡ rounds_to program costs_by_meaning.n
  rounds_by_meaning =
      jobs_tell_rounds program job (slice_index naming.numbers) costs_by_meaning.n
      (lawful text job naming names) (nested text job naming names) names.makes
      costs_by_meaning.all

by_names : (text : List ℕ) (job : JobData) (bytes : List ℕ) (answer : Option RunAnswer) →
    is_program text ≡ true → (names : Option NamingData) → AreNames text job names →
    (tells : TellsCost text job bytes answer) → tells.names ≡ names →
    AreProgramsCosts text job bytes
by_names text job bytes answer one None names tells same = no_machines text job one names
by_names text job bytes answer one (Some naming) names tells same =
    let is = programs_job text job naming names in
    let cost : Cost = tells.cost in
    let first = tells.costs.cost_is.first_are in
    let reached = reached_within job cost.steps cost.conflict tells.costs.length_is in record {
      naming = naming;
      is = is;
      cost = cost;
      pram = tells.pram;
      costs = tells.costs;
      procs = tells.costs.cost_is.procs_are ∙ procs_are naming.program job is.made;
      needs = tells.needs;
      same_read = meeting_or_none text job naming names is SameRead cost.steps
          cost.meetings.same_read reached first.same_read;
      same_write = meeting_or_none text job naming names is SameWrite cost.steps
          cost.meetings.same_write reached first.same_write;
      other_value = meeting_or_none text job naming names is OtherValue cost.steps
          cost.meetings.other_value reached first.other_value;
      conflict = conflict_is text job naming names is cost.steps cost.conflict
          tells.costs.length_is;
      lines = named_line_costs (Some naming) job;
      lines_cost = costs_by_meaning text job naming names is;
      rounds = rounds_in naming.program job;
      rounds_are = rounds_by_meaning text job naming names is;
      prints = tells.prints ∙ ap (λ (n : Option NamingData).
          cost_text (cost_words n (named_line_costs n job)) cost tells.pram
          ++ rounds_text n (named_rounds n job)) same;
    }

pub costs_tell : CostsTellTheProgramsLines
costs_tell text job bytes answer one comes =
    by_names text job bytes answer one comes.names comes.are_names comes refl

records_by_names : (text : List ℕ) (job : JobData) (bytes : List ℕ) (answer : Option RunAnswer) →
    is_program text ≡ true → (names : Option NamingData) → AreNames text job names →
    (tells : TellsLines text job bytes answer) → tells.names ≡ names →
    AreProgramsRecords text job bytes
records_by_names text job bytes answer one None names tells same =
    no_machines text job one names
records_by_names text job bytes answer one (Some naming) names tells same =
    let is = programs_job text job naming names in record {
      naming = naming;
      is = is;
      lines = named_line_costs (Some naming) job;
      lines_cost = costs_by_meaning text job naming names is;
      prints = tells.prints
          ∙ ap (λ (n : Option NamingData). records_text text (named_line_costs n job)) same;
    }

pub records_tell : RecordsTellTheProgramsLines
records_tell text job bytes answer one comes =
    records_by_names text job bytes answer one comes.names comes.are_names comes refl
