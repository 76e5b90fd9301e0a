-- What the commands print of a program, in the program's words: its lines, its places, and what
-- these hold by its meaning.
use Rattle.std.specs.Prelude.{◌≡◌, ◌⊎◌, ◌++◌, ℕ, ◌+◌, ◌<◌, ◌≤◌, Bool, true, false, List, []}
use Rattle.std.specs.Prelude.{Option, Some, None, Ok, All, IfSome, map, codes, decimal, sum_by}
use Rattle.std.specs.Prelude.{nat_lt, if◌then◌else◌, slice_index, ⊤}
use Rattle.std.specs.List.{repeat}
use Rattle.std.specs.List.Sorted.{IsNonDecreasingBy}
use Rattle.pram_job.specs.Job.{JobData}
use Rattle.pram_machine.specs.Machine.{counter, halted}
use Rattle.pram_step.specs.declared.answer.Dispute.{Dispute}
use Rattle.pram_step.specs.declared.answer.RunAnswer.{RunAnswer}
use Rattle.pram_step.specs.declared.answer.RunAnswer.TheVariants.{Final, Conflict, Unfinished}
use Rattle.pram_step.specs.Runs.{IsAnswer, IsReached, state_after}
use Rattle.pram_streams.specs.Printed.{summary}
use Rattle.pram_rows.specs.declared.fates.End.{End}
use Rattle.pram_rows.specs.declared.fates.End.TheVariants.{Running, Stopped}
use Rattle.pram_rows.specs.declared.causes.Values.{Values}
use Rattle.pram_rows.specs.declared.causes.Why.{Why}
use Rattle.pram_rows.specs.declared.fates.Lost.{Lost}
use Rattle.pram_rows.specs.Told.{why_text}
use Rattle.pram_rows.specs.Rows.{row_end, rows_text}
use Rattle.pram_rows.specs.Shown.{last_step, steps_text}
use Rattle.pram_rows.specs.declared.window.Window.{Window}
use Rattle.pram_cost.specs.Beyond.{IsBeyond, beyond_line}
use Rattle.pram_cost.specs.Costs.{IsCost}
use Rattle.pram_cost.specs.Meetings.{Differ}
use Rattle.pram_cost.specs.Models.{IsWeakestModel}
use Rattle.pram_cost.specs.Printed.{cost_text}
use Rattle.pram_cost.specs.declared.beyond.Beyond.{Beyond}
use Rattle.pram_cost.specs.declared.cost.Cost.{Cost}
use Rattle.pram_cost.specs.declared.meeting.Meeting.{Meeting}
use Rattle.pram_cost.specs.declared.meeting.Sharing.{Sharing}
use Rattle.pram_cost.specs.declared.meeting.Sharing.TheVariants.{SameRead, SameWrite, OtherValue}
use Rattle.pram_cost.specs.declared.pram.Pram.{Pram}
use Rattle.stop_plan.specs.Plan.{PlanData}
use Rattle.pram_run.specs.declared.sight.Sight.{Sight}
use Rattle.pram_run.specs.declared.trace.TraceRow.{TraceRow}
use Rattle.pram_run.specs.Printed.{sights_text, trace_text}
use Rattle.pram_run.specs.Replays.{IsReplay}
use Rattle.pardo_program.specs.Program.{ProgramData}
use Rattle.pardo_text.specs.Reading.{program_of}
use Rattle.pardo_flat.specs.Layouts.{program_layout, private_cells}
use Rattle.pardo_flat.specs.Flat.{flat}
use Rattle.pardo_job.specs.Conflicts.{Assigns}
use Rattle.pardo_job.specs.Drafts.{ArePlacesOf}
use Rattle.pardo_job.specs.Lines.{job_of}
use Rattle.pardo_job.specs.Meaning.{after}
use Rattle.pardo_job.specs.Printed.{IsConflictText, cell_text}
use Rattle.pardo_job.specs.Runs.{IsProgramConflict, IsProgramEnd, IsProgramOver, line_number}
use Rattle.pardo_job.specs.Runs as source
use Rattle.pardo_job.specs.Times.{AreAllLines, counted_from, line_most, line_operations}
use Rattle.pardo_job.specs.Times.{line_time, line_times, operations_to, rounds_to, time_to}
use Rattle.pardo_job.specs.declared.times.CountedLine.{CountedLine}
use Rattle.pardo_law.specs.Between.{AreLinesMade, GoesThrough, PutsTo}
use Rattle.pardo_answers.specs.Language.{is_program}
use Rattle.naming.specs.CellLists.{AreCellsOf}
use Rattle.pardo_answers.specs.declared.line_costs.LineCost.{LineCost}
use Rattle.naming.specs.Costs.{cost_words, place_or_cell, rounds_text, spot_in}
use Rattle.pram_commands.specs.Costs.{costing}
use Rattle.pram_commands.specs.LineRecords.{costing_by}
use Rattle.naming.specs.LineRecords.{records_text}
use Rattle.naming.specs.Names.{Means, NamingData}
use Rattle.pram_commands.specs.Plain.{checking, no_plan, plainly}
use Rattle.pram_commands.specs.Replayed.{replaying}
use Rattle.pram_commands.specs.Sweeps.{TellsRecord, end_word, fields_text}
use Rattle.naming.specs.Rounds.{AreRounds}
use Rattle.naming.specs.RowNames.{row_words}
use Rattle.pram_commands.specs.Steps.{stepping}
use Rattle.naming.specs.CellNames.{cell_words}
use Rattle.pram_commands.specs.Threads.{running, watching}
use Rattle.pram_commands.specs.Traced.{all_steps, traced, tracing}
use Rattle.pram_commands.specs.Under.{TellsBeyond}
use Rattle.pram_commands.specs.Why.{in_lines}
use Rattle.command_law.specs.Laws.{IsCutOff, IsProgramsAnswer}

-- ---- the program and its job

-- The text is a program, and this is its job, which goes through its lines.
pub record IsProgramsJob (text : List ℕ) (job : JobData) (naming : NamingData) : Type 0 where
  pub reads : program_of text ≡ Ok naming.program
  pub made : job ≡ job_of (flat naming.program) job.steps
  pub goes : GoesThrough naming.program job (slice_index naming.numbers)

-- how many lines of the program are made after a number of steps of its job
abbrev pub Made : (text : List ℕ) (job : JobData) (naming : NamingData) →
    IsProgramsJob text job naming → ℕ → ℕ → Type 0
Made text job naming is = AreLinesMade naming.program is.goes.carries.time

-- ---- `check`

-- The summary is that of the program's job.
pub record IsProgramsSummary (text : List ℕ) (job : JobData) (bytes : List ℕ) : Type 0 where
  pub naming : NamingData
  pub is : IsProgramsJob text job naming
  pub prints : bytes ≡ summary (job_of (flat naming.program) job.steps)

abbrev pub CheckTellsTheProgramsJob : Type 0
CheckTellsTheProgramsJob = (text : List ℕ) (job : JobData) (bytes : List ℕ)
    (answer : Option RunAnswer) → is_program text ≡ true → Means text job →
    checking.Comes text job no_plan bytes answer → IsProgramsSummary text job bytes

-- ---- `watch`

-- After the sight's step so many lines are made; and a place of the program, or a processor's
-- private variable, was seen to hold what it holds after these.
pub record IsSightOf (program : ProgramData) (time : ℕ → ℕ) (sight : Sight) : Type 0 where
  pub lines : ℕ
  pub are_made : AreLinesMade program time sight.step lines
  pub place : sight.cell < (program_layout program).shared →
      sight.value ≡ (after program lines).cells sight.cell
  pub private : (x i : ℕ) → x < (program_layout program).privates → i < program.procs →
      sight.cell ≡ (private_cells (program_layout program) x).base + i →
      sight.value ≡ (after program lines).privates x i

-- The bytes tell what was seen of these cells, so many rounds, and then the program's answer.
pub record IsProgramsWatch (parts : List (List ℕ)) (rounds : ℕ) (text : List ℕ) (job : JobData)
    (plan : PlanData) (bytes : List ℕ) (answer : Option RunAnswer) : Type 0 where
  pub naming : NamingData
  pub is : IsProgramsJob text job naming
  pub cells : List ℕ
  pub named : AreCellsOf (Some naming) parts cells
  pub sights : List Sight
  pub listed : map (λ sight. sight.cell) sights ≡ repeat rounds cells
  pub tell : All (λ sight. IsSightOf naming.program is.goes.carries.time sight) sights
  pub rises : IsNonDecreasingBy (λ sight. sight.step) sights
  pub back : List ℕ
  pub prints : bytes ≡ sights_text (cell_words (Some naming)) sights ++ back
  pub ends : IsProgramsAnswer text job back ⊎ IsCutOff plan answer

abbrev pub WatchesTellThePrograms : Type 0
WatchesTellThePrograms = (text : List ℕ) (job : JobData) (plan : PlanData) (workers rounds : ℕ)
    (parts : List (List ℕ)) (bytes : List ℕ) (answer : Option RunAnswer) →
    is_program text ≡ true → (watching workers parts rounds).Comes text job plan bytes answer →
    IsProgramsWatch parts rounds text job plan bytes answer

-- ---- `steps`

-- a line as a row tells it; 0 is none
abbrev pub told_line : ℕ → List ℕ
told_line number = if nat_lt 0 number then decimal number else []

-- In each step each processor that runs is told with the line of the program that is next; but not
-- in the first step, nor after the last line.
abbrev pub TellLines : (text : List ℕ) (job : JobData) (naming : NamingData) →
    IsProgramsJob text job naming → Type 0
TellLines text job naming is = (t n i : ℕ) → IsReached job t → Made text job naming is t n →
    1 ≤ t → (IsProgramOver naming.program (after naming.program n) → ⊥) → i < naming.program.procs →
    counter job (state_after job t) i < halted job →
    row_end (Some naming.numbers) job (counter job (state_after job t) i)
    ≡ codes "," ++ told_line (line_number naming.program (after naming.program n)) ++ codes "\n"

-- What a row has a processor write to a place of the program it writes there in that line, by the
-- meaning.
abbrev pub TellWrites : (text : List ℕ) (job : JobData) (naming : NamingData) →
    IsProgramsJob text job naming → Type 0
TellWrites text job naming is = (t n cell i value : ℕ) → IsReached job t →
    Made text job naming is t n → i < naming.program.procs →
    cell < (program_layout naming.program).shared → PutsTo job t cell i value →
    Assigns naming.program (after naming.program n) cell i value

-- what follows the rows: the program's answer, unless they stand alone
abbrev pub IsEnding : Bool → List ℕ → JobData → List ℕ → Type 0
IsEnding true text job back = back ≡ []
IsEnding false text job back = IsProgramsAnswer text job back

-- The bytes are rows of the program's job, whose lines and writes are the program's, and then its
-- answer.
pub record AreProgramsSteps (alone : Bool) (window : Window) (text : List ℕ) (job : JobData)
    (bytes : List ℕ) : Type 0 where
  pub naming : NamingData
  pub is : IsProgramsJob text job naming
  pub lines : TellLines text job naming is
  pub writes : TellWrites text job naming is
  pub ended : RunAnswer
  pub answers : IsAnswer job ended
  pub back : List ℕ
  pub prints : bytes ≡ rows_text (row_words (Some naming)) job window.from window.to
      (last_step job ended) ++ back
  pub ends : IsEnding alone text job back

abbrev pub StepsTellTheProgramsLines : Type 0
StepsTellTheProgramsLines = (text : List ℕ) (job : JobData) (alone : Bool) (window : Window)
    (bytes : List ℕ) (answer : Option RunAnswer) → is_program text ≡ true →
    (stepping alone window).Comes text job no_plan bytes answer →
    AreProgramsSteps alone window text job bytes

-- ---- `trace`

-- In each step each processor that runs is told in the line of the program that is next, but in the
-- first step, and after the last line.
abbrev pub TellNumbers : (text : List ℕ) (job : JobData) (naming : NamingData) →
    IsProgramsJob text job naming → Type 0
TellNumbers text job naming is = (t n i : ℕ) → IsReached job t →
    Made text job naming is t n → 1 ≤ t →
    (IsProgramOver naming.program (after naming.program n) → ⊥) → i < naming.program.procs →
    counter job (state_after job t) i < halted job →
    slice_index naming.numbers (counter job (state_after job t) i)
    ≡ line_number naming.program (after naming.program n)

-- The bytes are rows of the program's job, whose lines and writes are the program's, and then its
-- answer. The places in them are those where the code of the program's lines begins.
pub record AreProgramsLines (alone : Bool) (text : List ℕ) (job : JobData) (bytes : List ℕ)
    : Type 0 where
  pub naming : NamingData
  pub is : IsProgramsJob text job naming
  pub begins : ArePlacesOf naming.program naming.places
  pub numbers : TellNumbers text job naming is
  pub writes : TellWrites text job naming is
  pub ended : RunAnswer
  pub answers : IsAnswer job ended
  pub back : List ℕ
  pub prints : bytes ≡ steps_text (traced (Some naming)) job all_steps ended ++ back
  pub ends : IsEnding alone text job back

abbrev pub TracesTellTheProgramsLines : Type 0
TracesTellTheProgramsLines = (text : List ℕ) (job : JobData) (alone : Bool) (bytes : List ℕ)
    (answer : Option RunAnswer) → is_program text ≡ true →
    (tracing alone).Comes text job no_plan bytes answer →
    AreProgramsLines alone text job bytes

-- ---- `replay`

-- what follows the trace: the program's answer, or the plan stops every worker
abbrev pub IsReplaysEnding : Bool → List ℕ → JobData → PlanData → Option RunAnswer → List ℕ →
    Type 0
IsReplaysEnding true text job plan answer back = back ≡ []
IsReplaysEnding false text job plan answer back =
    IsProgramsAnswer text job back ⊎ IsCutOff plan answer

-- The bytes are the trace of a replay of the program's job, and then the program's answer, unless
-- the trace stands alone.
pub record IsProgramsReplay (alone : Bool) (text : List ℕ) (job : JobData) (plan : PlanData)
    (bytes : List ℕ) (answer : Option RunAnswer) : Type 0 where
  pub naming : NamingData
  pub is : IsProgramsJob text job naming
  pub ended : RunAnswer
  pub trace : List TraceRow
  pub replays : IsReplay job plan ended trace
  pub back : List ℕ
  pub prints : bytes ≡ trace_text trace ++ back
  pub ends : IsReplaysEnding alone text job plan answer back

abbrev pub ReplaysPrintTheProgramsAnswer : Type 0
ReplaysPrintTheProgramsAnswer = (text : List ℕ) (job : JobData) (plan : PlanData) (alone : Bool)
    (workers : ℕ) (bytes : List ℕ) (answer : Option RunAnswer) → is_program text ≡ true →
    (replaying alone workers).Comes text job plan bytes answer →
    IsProgramsReplay alone text job plan bytes answer

-- ---- `cost`

-- In the line after so many both write to the place, by the meaning.
pub record BothWrite (sharing : Sharing) (program : ProgramData) (lines : ℕ) (meeting : Meeting)
    : Type 0 where
  pub value : ℕ
  pub other : ℕ
  pub writes : Assigns program (after program lines) meeting.cell meeting.first value
  pub writes_too : Assigns program (after program lines) meeting.cell meeting.second other
  pub differ : Differ sharing meeting.first value meeting.second other

-- who meets at a place of the program by writing does so by the meaning; of what is read the
-- meaning does not speak
abbrev pub MeetByMeaning : Sharing → ProgramData → ℕ → Meeting → Type 0
MeetByMeaning SameRead program lines meeting = ⊤
MeetByMeaning sharing program lines meeting =
    meeting.cell < (program_layout program).shared → BothWrite sharing program lines meeting

-- The meeting's step lies in this line of the program, and it is told by its number, and by the
-- place.
pub record IsMeetingOf (sharing : Sharing) (naming : NamingData) (time : ℕ → ℕ)
    (meeting : Meeting) : Type 0 where
  pub before : ℕ
  pub step : meeting.step ≡ before + 1
  pub lines : ℕ
  pub are_made : AreLinesMade naming.program time before lines
  pub told : spot_in naming meeting ≡ codes " line="
      ++ decimal (line_number naming.program (after naming.program lines))
      ++ place_or_cell (cell_text naming.program.arrays meeting.cell) meeting
  pub meet : MeetByMeaning sharing naming.program lines meeting

-- what a counted line costs in the first n lines of the run
abbrev pub line_cost_by : ProgramData → ℕ → CountedLine → LineCost
line_cost_by program n counted = record {
  line = counted.number;
  times = line_times program counted.at n;
  time = line_time program counted.at n;
  operations = line_operations program counted.at n;
  most = line_most program counted.at n;
}

-- These are the costs of the counted lines, by the meaning; their sums are the time and the
-- operations of the run.
pub record AreLineCosts (program : ProgramData) (lines : List LineCost) : Type 0 where
  pub n : ℕ
  pub all : AreAllLines program n
  pub lines_are : lines ≡ map (line_cost_by program n) (counted_from program 0 program.lines)
  pub time : sum_by (λ cost. cost.time) lines ≡ time_to program n
  pub operations : sum_by (λ cost. cost.operations) lines ≡ operations_to program n

-- The bytes are the program's time and operations, and the costs of its job, with meetings and a
-- conflict in the program's lines; and last the program's rounds, by the meaning.
pub record AreProgramsCosts (text : List ℕ) (job : JobData) (bytes : List ℕ) : Type 0 where
  pub naming : NamingData
  pub is : IsProgramsJob text job naming
  pub cost : Cost
  pub pram : Pram
  pub costs : IsCost job cost
  pub procs : cost.procs ≡ naming.program.procs
  pub needs : IsWeakestModel job cost.steps pram
  pub same_read : IfSome cost.meetings.same_read
      (IsMeetingOf SameRead naming is.goes.carries.time)
  pub same_write : IfSome cost.meetings.same_write
      (IsMeetingOf SameWrite naming is.goes.carries.time)
  pub other_value : IfSome cost.meetings.other_value
      (IsMeetingOf OtherValue naming is.goes.carries.time)
  pub lines : List LineCost
  pub lines_cost : AreLineCosts naming.program lines
  pub conflict : IfSome cost.conflict (λ fault.
      IsConflictText naming.program ((cost_words (Some naming) lines).conflict fault))
  pub rounds : ℕ
  pub rounds_are : rounds ≡ rounds_to naming.program lines_cost.n
  pub prints : bytes ≡ cost_text (cost_words (Some naming) lines) cost pram
      ++ rounds_text (Some naming) rounds

abbrev pub CostsTellTheProgramsLines : Type 0
CostsTellTheProgramsLines = (text : List ℕ) (job : JobData) (bytes : List ℕ)
    (answer : Option RunAnswer) → is_program text ≡ true →
    costing.Comes text job no_plan bytes answer → AreProgramsCosts text job bytes

-- The bytes are the records of the program's counted lines, by the meaning.
pub record AreProgramsRecords (text : List ℕ) (job : JobData) (bytes : List ℕ) : Type 0 where
  pub naming : NamingData
  pub is : IsProgramsJob text job naming
  pub lines : List LineCost
  pub lines_cost : AreLineCosts naming.program lines
  pub prints : bytes ≡ records_text text lines

abbrev pub RecordsTellTheProgramsLines : Type 0
RecordsTellTheProgramsLines = (text : List ℕ) (job : JobData) (bytes : List ℕ)
    (answer : Option RunAnswer) → is_program text ≡ true →
    (costing_by true).Comes text job no_plan bytes answer → AreProgramsRecords text job bytes

-- ---- `--model`

-- The bytes say where the run of the program first goes beyond the model: by the line in which that
-- step lies, and the place.
pub record IsProgramsBeyond (pram : Pram) (text : List ℕ) (job : JobData) (bytes : List ℕ)
    : Type 0 where
  pub naming : NamingData
  pub is : IsProgramsJob text job naming
  pub cost : Cost
  pub costs : IsCost job cost
  pub beyond : Beyond
  pub goes : IsBeyond pram job cost.steps beyond
  pub meets : IsMeetingOf beyond.sharing naming is.goes.carries.time beyond.meeting
  pub prints : bytes ≡ beyond_line (cost_words (Some naming) []) pram beyond

-- Under a model a command tells what it tells without one, or where the run goes beyond the model
-- (`under_model`): of a program then by its line and place.
abbrev pub ModelsJudgeTheProgram : Type 0
ModelsJudgeTheProgram = (text : List ℕ) (job : JobData) (pram : Pram) (bytes : List ℕ)
    (answer : Option RunAnswer) → is_program text ≡ true →
    TellsBeyond pram text job bytes answer → IsProgramsBeyond pram text job bytes

-- ---- `sweep`

-- The word says how the run of the program ends.
abbrev pub IsEndWord : ProgramData → List ℕ → Type 0
IsEndWord program word =
    ((n : ℕ) × IsProgramEnd program n × (word ≡ end_word program.procs (after program n).gone None))
    ⊎ ((n : ℕ) × (dispute : Dispute) × IsProgramConflict program n dispute
    × (word ≡ codes "conflict"))

-- The bytes are the record of the program's run: its time and operations, by the meaning, and how
-- it ends.
pub record IsProgramsRun (text : List ℕ) (job : JobData) (bytes : List ℕ) : Type 0 where
  pub naming : NamingData
  pub is : IsProgramsJob text job naming
  pub cost : Cost
  pub pram : Pram
  pub costs : IsCost job cost
  pub procs : cost.procs ≡ naming.program.procs
  pub needs : IsWeakestModel job cost.steps pram
  pub lines : List LineCost
  pub lines_cost : AreLineCosts naming.program lines
  pub word : List ℕ
  pub ends : IsEndWord naming.program word
  pub prints : bytes ≡ fields_text lines cost pram word

abbrev pub SweepsTellTheProgramsRuns : Type 0
SweepsTellTheProgramsRuns = (text : List ℕ) (job : JobData) (bytes : List ℕ)
    (answer : Option RunAnswer) → is_program text ≡ true →
    TellsRecord text job bytes answer → IsProgramsRun text job bytes

-- ---- `--why`

-- the answer speaks of the program after so many lines
abbrev pub SpeaksOf : ProgramData → (ℕ → ℕ) → RunAnswer → ℕ → Type 0
SpeaksOf program time (Final cells) n = IsProgramEnd program n
SpeaksOf program time (Conflict fault) n =
    IsProgramConflict program n
    (record { cell = fault.cell; first = fault.first; second = fault.second })
SpeaksOf program time (Unfinished step) n = AreLinesMade program time step n

-- nobody is gone after so many lines
abbrev pub AllThere : ProgramData → ℕ → Type 0
AllThere program n = (i : ℕ) → i < program.procs → (after program n).gone i ≡ None

-- In the line of this number processor i is gone, and before it nobody is.
pub record IsFirstGone (program : ProgramData) (i number : ℕ) : Type 0 where
  pub lines : ℕ
  pub reached : source.IsLineReached program lines
  pub all_there : AllThere program lines
  pub leaves : (after program (lines + 1)).gone i ≡ Some number
  pub in_line : number ≡ line_number program (after program lines)

-- who is told as lost: the first who is gone, in that line; or nobody
abbrev pub IsLostOf : NamingData → (ℕ → ℕ) → RunAnswer → Option Lost → Type 0
IsLostOf naming time ended None =
    (n : ℕ) → SpeaksOf naming.program time ended n → AllThere naming.program n
IsLostOf naming time ended (Some lost) =
    IsFirstGone naming.program lost.processor (slice_index naming.numbers lost.index)

-- how the processors are told at the end: after `done` all have stopped with the last step, after a
-- conflict nothing is told, and where the run is cut off the least that runs stands in the line
-- that is next
abbrev pub IsEndOf : NamingData → (ℕ → ℕ) → JobData → RunAnswer → Option End → Type 0
IsEndOf naming time job (Final cells) end = end ≡ Some (Stopped job.steps)
IsEndOf naming time job (Conflict fault) end = end ≡ None
IsEndOf naming time job (Unfinished step) end = (count first index : ℕ)
    × (end ≡ Some (Running count first index))
    × ((n : ℕ) → 1 ≤ step → AreLinesMade naming.program time step n →
    (IsProgramOver naming.program (after naming.program n) → ⊥) →
    slice_index naming.numbers index ≡ line_number naming.program (after naming.program n))

-- the two of a conflict write these values to the place in the line that is against the rule
abbrev pub AreClashingValues : NamingData → (ℕ → ℕ) → RunAnswer → Option Values → Type 0
AreClashingValues naming time (Conflict fault) told = (values : Values) × (told ≡ Some values)
    × ((before n : ℕ) → fault.step ≡ before + 1 → AreLinesMade naming.program time before n →
    fault.cell < (program_layout naming.program).shared →
    Assigns naming.program (after naming.program n) fault.cell fault.first values.first
    × Assigns naming.program (after naming.program n) fault.cell fault.second values.second)
AreClashingValues naming time (Final cells) told = told ≡ None
AreClashingValues naming time (Unfinished step) told = told ≡ None

-- The bytes are the program's answer, and then what became of its processors, why, and in which
-- rounds of loops.
pub record IsProgramsWhy (text : List ℕ) (job : JobData) (bytes : List ℕ)
    (answer : Option RunAnswer) (Ends : List ℕ → Type 0) : Type 0 where
  pub naming : NamingData
  pub is : IsProgramsJob text job naming
  pub ended : RunAnswer
  pub gives : answer ≡ Some ended
  pub front : List ℕ
  pub ends : Ends front
  pub why : Why
  pub end : IsEndOf naming is.goes.carries.time job ended why.fates.end
  pub lost : IsLostOf naming is.goes.carries.time ended why.fates.lost
  pub values : AreClashingValues naming is.goes.carries.time ended why.values
  pub rounds : List ℕ
  pub are_rounds : AreRounds (Some naming) job ended why.fates.lost rounds
  pub prints : bytes ≡ front
      ++ (why_text (slice_index naming.numbers) (row_words (Some naming)).array why ++ rounds)

abbrev pub PlainTellsWhy : Type 0
PlainTellsWhy = (text : List ℕ) (job : JobData) (bytes : List ℕ) (answer : Option RunAnswer) →
    is_program text ≡ true → (plainly (in_lines true)).Comes text job no_plan bytes answer →
    IsProgramsWhy text job bytes answer (IsProgramsAnswer text job)

abbrev pub RunsTellWhy : Type 0
RunsTellWhy = (text : List ℕ) (job : JobData) (plan : PlanData) (workers : ℕ) (bytes : List ℕ)
    (answer : Option RunAnswer) → is_program text ≡ true →
    (running (in_lines true) workers).Comes text job plan bytes answer →
    IsProgramsWhy text job bytes answer
    (λ front. IsProgramsAnswer text job front ⊎ IsCutOff plan answer)
