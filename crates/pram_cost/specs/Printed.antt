-- What a run costs, as text.
use Rattle.std.specs.Prelude.{ℕ, ◌*◌, List, [], ◌++◌, Option, Some, None, codes, decimal}
use Rattle.pram_step.specs.declared.answer.Fault.{Fault}
use Rattle.pram_streams.specs.Printed.{conflict_line}
use Rattle.pram_cost.specs.declared.cost.Cost.{Cost}
use Rattle.pram_cost.specs.declared.meeting.Meeting.{Meeting}
use Rattle.pram_cost.specs.declared.meeting.Meetings.{Meetings}
use Rattle.pram_cost.specs.declared.pram.Pram.{Pram}
use Rattle.pram_cost.specs.declared.pram.Pram.TheVariants.{Erew, Crew, CommonCrcw, PriorityCrcw}
use Rattle.pram_cost.specs.declared.work.Work.{Work}

-- the name of a model
abbrev pub name_of : Pram → List ℕ
name_of Erew = codes "EREW"
name_of Crew = codes "CREW"
name_of CommonCrcw = codes "CRCW common"
name_of PriorityCrcw = codes "CRCW priority"

-- how large the run is
abbrev pub size_text : Cost → List ℕ
size_text cost =
    codes "steps " ++ decimal cost.steps ++ codes "\nprocessors " ++ decimal cost.procs
    ++ codes "\nproduct " ++ decimal (cost.steps * cost.procs) ++ codes "\n"

-- what its steps do
abbrev pub work_text : Work → List ℕ
work_text work =
    codes "work " ++ decimal work.executed ++ codes "\nmost " ++ decimal work.most
    ++ codes "\nreading " ++ decimal work.reading ++ codes "\nwriting " ++ decimal work.writing
    ++ codes "\n"

-- what is told before all else, how the cell of a meeting is told, and the conflict of a run
pub record CostWords : Type 0 where
  pub head : List ℕ
  pub spot : Meeting → List ℕ
  pub conflict : Fault → List ℕ

-- by cells and steps: `cell=2`, and the line of a conflict
abbrev pub by_cells : CostWords
by_cells = record {
  head = [];
  spot = λ meeting. codes " cell=" ++ decimal meeting.cell;
  conflict = conflict_line;
}

-- where two first meet, or that none do
abbrev pub meeting_text : CostWords → Option Meeting → List ℕ
meeting_text words None = codes "none"
meeting_text words (Some meeting) =
    codes "step=" ++ decimal meeting.step ++ words.spot meeting
    ++ codes " processors=" ++ decimal meeting.first ++ codes "," ++ decimal meeting.second

abbrev pub meetings_text : CostWords → Meetings → List ℕ
meetings_text words meetings =
    codes "same read " ++ meeting_text words meetings.same_read
    ++ codes "\nsame write " ++ meeting_text words meetings.same_write
    ++ codes "\nother value " ++ meeting_text words meetings.other_value ++ codes "\n"

-- how the run of so many steps ended
abbrev pub run_end_line : CostWords → ℕ → Option Fault → List ℕ
run_end_line words steps None = codes "done steps=" ++ decimal steps ++ codes "\n"
run_end_line words steps (Some fault) = words.conflict fault

-- what the run costs, the model that it needs, and how it ended
abbrev pub run_text : CostWords → Cost → Pram → List ℕ
run_text words cost pram =
    codes "cost of this input\n" ++ size_text cost ++ work_text cost.work ++ codes "needs "
    ++ name_of pram ++ codes "\n" ++ meetings_text words cost.meetings
    ++ run_end_line words cost.steps cost.conflict

abbrev pub cost_text : CostWords → Cost → Pram → List ℕ
cost_text words cost pram = words.head ++ run_text words cost pram
