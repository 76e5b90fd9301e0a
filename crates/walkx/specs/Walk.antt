-- The walk: the scripts back, begin and turn, and a worker that goes through them.
use Rattle.std.specs.Prelude.{◌≡◌, ℕ, ◌+◌, ◌-◌, ◌*◌, ◌/◌, ◌%◌, ◌<◌, ◌≤◌, ◌&&◌, ◌==◌, nat_le, nat_lt}
use Rattle.std.specs.Prelude.{if◌then◌else◌, List, [], ◌∷◌, false, min, zero, suc, Bool, IsTrue}
use Rattle.std.specs.Prelude.{◌++◌, Option, Some, None, IfSome, unwrap_or, slice_set}
use Rattle.std.specs.List.{AllByRecursion}
use Rattle.pram_job.specs.Job.{JobData}
use Rattle.pram_words.specs.Phases.{step_at, kind_at, has_phase, next_phase, phase_before}
use Rattle.pram_words.specs.Ways.{first_leaf_in, turns_right_in}
use Rattle.pram_words.specs.Words.{LayoutData, Admits, grain, number_of, length_of}
use Rattle.pram_words.specs.declared.words.Word.TheVariants.{Conflict, Node, Position}
use Rattle.walkx.specs.declared.operation.Ended.{Ended}
use Rattle.walkx.specs.declared.operation.Op.{Op}
use Rattle.walkx.specs.declared.operation.Op.TheVariants.{Load, Store, Max, Swap, Over}
use Rattle.walkx.specs.Doing.{Doing}
use Rattle.walkx.specs.Scripts.{Script, asks, ends, rest_after, rest, first_op, heard_in}
use Rattle.pram_words.specs.Forms.{by_form}
use Rattle.walk_memory.specs.declared.memo.Memo.{Memo}
use Rattle.walk_memory.specs.Memory.{FitsMemory, at_start, blank, memo_of}
use Rattle.walkx.specs.Passes.{task_in}
use Rattle.walk_memory.specs.Blocks.{last_phase, processor_at, has_rank, block_reach, block_gone_on}
use Rattle.walk_memory.specs.Blocks.{IsWide}
use Rattle.walkx.specs.declared.operation.Ended.TheVariants as ended
use Rattle.walkx.specs.Doing as doing

-- ---- the scripts

-- what comes of a script: the worker begins at a node, makes a turn at a node in a phase, enters
-- the block of a leaf, has done the task of a processor there, by its rank, of which it now knows
-- this, or is over
pub data Then : Type 0 where
  begins : ℕ → Then
  turns : ℕ → ℕ → Then
  enters : ℕ → ℕ → Then
  worked : ℕ → ℕ → ℕ → Memo → Then
  stops : Ended → Then

-- A worker that comes back stands where its position word says.
abbrev pub back_script : LayoutData → ℕ → Script Then
back_script layout worker =
    asks (Load (number_of layout (Position worker))) (λ node. ends (begins node))

-- The root shows the last phase that is finished everywhere. After a third pass a conflict is
-- looked for.
unfoldable pub begin_script : JobData → LayoutData → ℕ → Script Then
begin_script job layout node = asks (Load (number_of layout (Node 1))) (λ root.
    if root % 3 == 0 then asks (Load (number_of layout Conflict)) (λ conflict.
    if conflict == 0 then (if root == 3 * job.steps then ends (stops ended.Done)
    else ends (turns node (next_phase layout.form root)))
    else ends (stops (ended.Conflict conflict)))
    else ends (turns node (next_phase layout.form root)))

-- the child of an inner node with an unfinished child to which the worker goes, its children having
-- been heard
abbrev pub way_down : LayoutData → ℕ → ℕ → ℕ → ℕ → ℕ → ℕ
way_down layout worker node phase left right =
    if nat_le phase left then 2 * node + 1
    else (if nat_le phase right then 2 * node
    else (if turns_right_in layout worker node then 2 * node + 1 else 2 * node))

abbrev pub stands_at : LayoutData → ℕ → ℕ → ℕ → Script Then
stands_at layout worker node phase =
    asks (Store (number_of layout (Position worker)) node) (λ stored. ends (turns node phase))

abbrev pub marks_node : LayoutData → ℕ → ℕ → ℕ → Script Then
marks_node layout node mark phase =
    asks (Max (number_of layout (Node node)) mark) (λ found. ends (turns node phase))

-- In the wide form a mark may be above the phase. The root's is the step's last phase at most,
-- since a conflict is looked for there.
abbrev pub bounded_mark : ℕ → ℕ → ℕ → ℕ
bounded_mark node phase mark = if node == 1 then min mark (last_phase phase) else mark

-- an inner node's is the lesser one of its children's
abbrev pub inner_mark : LayoutData → ℕ → ℕ → ℕ → ℕ → ℕ
inner_mark layout node phase left right =
    by_form layout.form phase (bounded_mark node phase (min left right))

-- a leaf's without processors, the last phase of all
abbrev pub empty_mark : JobData → LayoutData → ℕ → ℕ → ℕ
empty_mark job layout node phase =
    by_form layout.form phase (bounded_mark node phase (3 * job.steps))

-- In the first pass the root is raised over the step's end where it may be: by a swap, which fails
-- where another phase has begun, before it is marked.
abbrev pub jumps : LayoutData → ℕ → ℕ → ℕ → Bool
jumps layout node phase mark =
    by_form layout.form false ((node == 1) && ((phase % 3 == 1) && nat_lt (last_phase phase) mark))

abbrev pub jumps_first : LayoutData → ℕ → ℕ → ℕ → Script Then → Script Then
jumps_first layout node phase mark next =
    if jumps layout node phase mark
    then asks (Swap (number_of layout (Node node)) (phase - 1) mark) (λ found. next) else next

-- in the compact form a leaf has one processor, and is marked after its task
abbrev pub after_part : LayoutData → ℕ → ℕ → ℕ → Memo → Script Then
after_part layout node phase rank memo =
    by_form layout.form (marks_node layout node phase phase) (ends (worked node phase rank memo))

-- the task of a processor of which the worker knows this
abbrev pub task_at : {R : Type 0} → JobData → LayoutData → ℕ → ℕ → ℕ → Memo → (Memo → Script R) →
    Script R
task_at job layout node phase rank =
    task_in layout.form job.rule (kind_at phase) job layout (step_at phase)
    (processor_at layout node rank)

unfoldable pub part_script : JobData → LayoutData → ℕ → ℕ → ℕ → Memo → Script Then
part_script job layout node phase rank memo =
    task_at job layout node phase rank memo (after_part layout node phase rank)

-- a block is marked up to where its processors have nothing to do
abbrev pub block_mark : JobData → LayoutData → ℕ → ℕ → List Memo → ℕ
block_mark job layout node phase memory =
    bounded_mark node phase (block_reach job layout node phase memory)

abbrev pub marks_block : JobData → LayoutData → ℕ → ℕ → List Memo → Script Then
marks_block job layout node phase memory =
    jumps_first layout node phase (block_reach job layout node phase memory)
    (marks_node layout node (block_mark job layout node phase memory) phase)

-- and an inner node, its children having been heard
abbrev pub marks_inner : LayoutData → ℕ → ℕ → ℕ → ℕ → Script Then
marks_inner layout node phase left right =
    jumps_first layout node phase (min left right)
    (marks_node layout node (inner_mark layout node phase left right) phase)

-- in a block: the task of the processor of this rank, or, after the last one's, the mark
abbrev pub block_script : JobData → LayoutData → ℕ → ℕ → ℕ → List Memo → Script Then
block_script job layout node phase rank memory =
    if has_rank layout node rank
    then part_script job layout node phase rank (memo_of memory (processor_at layout node rank))
    else marks_block job layout node phase memory

-- the work at an unfinished leaf; the leaves after those of the processors have none
abbrev pub leaf_script : JobData → LayoutData → ℕ → ℕ → Script Then
leaf_script job layout node phase =
    if has_rank layout node 0
    then by_form layout.form (part_script job layout node phase 0 at_start)
    (ends (enters node phase)) else marks_node layout node (empty_mark job layout node phase) phase

-- A finished node is left upward, a leaf is worked at and marked, an inner node is marked or left
-- downward.
unfoldable pub turn_script : JobData → LayoutData → ℕ → ℕ → ℕ → Script Then
turn_script job layout worker node phase = asks (Load (number_of layout (Node node))) (λ found.
    if nat_le phase found
    then (if node == 1 then ends (begins 1) else stands_at layout worker (node / 2) phase)
    else (if nat_le layout.leaves node then leaf_script job layout node phase
    else asks (Load (number_of layout (Node (2 * node)))) (λ left.
    asks (Load (number_of layout (Node (2 * node + 1)))) (λ right.
    if nat_le phase left && nat_le phase right
    then marks_inner layout node phase left right
    else stands_at layout worker (way_down layout worker node phase left right) phase))))

-- ---- a worker

-- its number, the node where it stands (none stands for its first leaf), the script in progress,
-- the answers heard in it, the newest first, and what it remembers of each processor
pub record Walking : Type 0 where
  pub number : ℕ
  pub node : Option ℕ
  pub now : Doing
  pub heard : List ℕ
  pub memory : List Memo

abbrev pub node_of : LayoutData → Walking → ℕ
node_of layout worker = unwrap_or worker.node (first_leaf_in layout worker.number)

-- A worker that is over has heard a whole begin.
abbrev pub script_by : JobData → LayoutData → ℕ → ℕ → List Memo → Doing → Script Then
script_by job layout worker node memory doing.Back = back_script layout worker
script_by job layout worker node memory doing.Begin = begin_script job layout node
script_by job layout worker node memory (doing.Turn phase) =
    turn_script job layout worker node phase
script_by job layout worker node memory (doing.Part phase rank) =
    block_script job layout node phase rank memory
script_by job layout worker node memory (doing.Over end) = begin_script job layout node

abbrev pub script_of : JobData → LayoutData → Walking → Script Then
script_of job layout worker =
    script_by job layout worker.number (node_of layout worker) worker.memory worker.now

abbrev pub rest_of : JobData → LayoutData → Walking → Script Then
rest_of job layout worker = rest (script_of job layout worker) worker.heard

-- a worker newly started, and one that comes back
abbrev pub started : ℕ → Walking
started worker =
    record { number = worker; node = None; now = doing.Begin; heard = []; memory = [] }

abbrev pub come_back : ℕ → Walking
come_back worker =
    record { number = worker; node = None; now = doing.Back; heard = []; memory = [] }

-- it, with a memory of so many processors
abbrev pub remembering : ℕ → Walking → Walking
remembering procs worker = record worker { memory = blank procs }

-- the worker's next operation
abbrev pub next_op : Doing → Script Then → Op
next_op (doing.Over end) script = Over end
next_op _ script = unwrap_or (first_op script) (Over ended.Done)

abbrev pub ask_of : JobData → LayoutData → Walking → Op
ask_of job layout worker = next_op worker.now (rest_of job layout worker)

-- In a block, from this rank on, processors whose task asks nothing are passed over, and what the
-- worker then knows of them is remembered: the first other one, or the end of the block.
abbrev pub if_ended : {A : Type 0} → Script Memo → A → (Memo → A) → A
if_ended (asks op next) going ended = going
if_ended (ends memo) going ended = ended memo

abbrev pub passes_over : ℕ → JobData → LayoutData → ℕ → ℕ → ℕ → List Memo → ℕ × List Memo
passes_over zero job layout node phase rank memory = (rank, memory)
passes_over (suc more) job layout node phase rank memory =
    if has_rank layout node rank
    then if_ended (task_at job layout node phase rank
    (memo_of memory (processor_at layout node rank)) (λ memo. ends memo)) (rank, memory)
    (λ memo. passes_over more job layout node phase (suc rank)
    (slice_set memory (processor_at layout node rank) memo)) else (rank, memory)

abbrev pub ends_block : JobData → LayoutData → ℕ → ℕ × List Memo → ℕ × List Memo
ends_block job layout node passed = if has_rank layout node passed.0 then passed
    else (passed.0, block_gone_on (grain layout) job layout node 0 passed.1)

-- the worker in a block, at such a rank
abbrev pub stands_in : ℕ → ℕ → ℕ → ℕ × List Memo → Walking
stands_in worker node phase passed = record {
  number = worker;
  node = Some node;
  now = doing.Part phase passed.0;
  heard = [];
  memory = passed.1;
}

abbrev pub goes_in : JobData → LayoutData → ℕ → ℕ → ℕ → ℕ → List Memo → Walking
goes_in job layout worker node phase rank memory =
    stands_in worker node phase (ends_block job layout node
    (passes_over (grain layout) job layout node phase rank memory))

-- the worker with one answer more, this being the rest of its script
abbrev pub goes_on : JobData → LayoutData → Walking → ℕ → Script Then → Walking
goes_on job layout worker found (asks op next) = record worker { heard = found ∷ worker.heard }
goes_on job layout worker found (ends (begins node)) =
    record worker { node = Some node; now = doing.Begin; heard = [] }
goes_on job layout worker found (ends (turns node phase)) =
    record worker { node = Some node; now = doing.Turn phase; heard = [] }
goes_on job layout worker found (ends (enters node phase)) =
    goes_in job layout worker.number node phase 0 worker.memory
goes_on job layout worker found (ends (worked node phase rank memo)) =
    goes_in job layout worker.number node phase (suc rank)
    (slice_set worker.memory (processor_at layout node rank) memo)
goes_on job layout worker found (ends (stops end)) =
    record worker { now = doing.Over end; heard = found ∷ worker.heard }

abbrev pub told_by : JobData → LayoutData → Doing → Walking → ℕ → Script Then → Walking
told_by job layout (doing.Over end) worker found script = worker
told_by job layout _ worker found script = goes_on job layout worker found script

abbrev pub told : JobData → LayoutData → Walking → ℕ → Walking
told job layout worker found =
    told_by job layout worker.now worker found (rest_after (rest_of job layout worker) found)

-- how the worker ended, if it did
abbrev pub end_of : Doing → Option Ended
end_of (doing.Over end) = Some end
end_of _ = None

-- ---- what a worker has heard, and whether it fits

-- the begin of a phase
abbrev pub begun_phase : LayoutData → ℕ → List (Op × ℕ)
begun_phase layout phase =
    (if phase_before layout.form phase % 3 == 0 then (Load (number_of layout Conflict), 0) ∷ []
    else []) ++ (Load (number_of layout (Node 1)), phase_before layout.form phase) ∷ []

abbrev pub phase_begun : LayoutData → Doing → List (Op × ℕ)
phase_begun layout (doing.Turn phase) = begun_phase layout phase
phase_begun layout (doing.Part phase rank) = begun_phase layout phase
phase_begun layout _ = []

-- the operations with their answers that brought the worker where it stands, the newest first
abbrev pub heard_of : JobData → LayoutData → Walking → List (Op × ℕ)
heard_of job layout worker =
    heard_in (script_of job layout worker) worker.heard ++ phase_begun layout worker.now

-- what was loaded is admitted for its word
abbrev pub HearsAdmitted : JobData → LayoutData → Op → ℕ → Type 0
HearsAdmitted job layout (Load word) found = Admits layout job word found
HearsAdmitted job layout _ found = Unit {0}

-- a root that was loaded is a phase of the form
abbrev pub HearsPhase : LayoutData → Op → ℕ → Type 0
HearsPhase layout op found =
    op ≡ Load (number_of layout (Node 1)) → IsTrue (has_phase layout.form found)

abbrev pub AllAdmitted : JobData → LayoutData → List (Op × ℕ) → Type 0
AllAdmitted job layout heard =
    AllByRecursion (λ (end : Op × ℕ). HearsAdmitted job layout end.0 end.1) heard

-- the operation is on the board, and a value that a word is to take is admitted for it
abbrev pub AsksAdmitted : JobData → LayoutData → Op → Type 0
AsksAdmitted job layout (Load word) = word < length_of layout
AsksAdmitted job layout (Store word value) = Admits layout job word value
AsksAdmitted job layout (Max word value) = Admits layout job word value
AsksAdmitted job layout (Swap word old new) =
    Admits layout job word old × Admits layout job word new
AsksAdmitted job layout (Over end) = Unit {0}

-- it is an atomic step on a word of the board
abbrev pub IsStepOn : LayoutData → Op → Type 0
IsStepOn layout (Load word) = word < length_of layout
IsStepOn layout (Store word value) = word < length_of layout
IsStepOn layout (Max word value) = word < length_of layout
IsStepOn layout (Swap word old new) = word < length_of layout
IsStepOn layout (Over end) = ⊥

-- the worker is not over
abbrev pub IsGoing : Doing → Type 0
IsGoing (doing.Over end) = ⊥
IsGoing _ = Unit {0}

-- the phase is one of the job's, in the form
abbrev pub IsPhase : JobData → LayoutData → Doing → Type 0
IsPhase job layout (doing.Turn phase) =
    (1 ≤ phase) × (phase ≤ 3 * job.steps) × IsTrue (has_phase layout.form phase)
IsPhase job layout (doing.Part phase rank) =
    (1 ≤ phase) × (phase ≤ 3 * job.steps) × IsTrue (has_phase layout.form phase)
IsPhase job layout _ = Unit {0}

-- the node is a leaf, in the wide form, and the rank one of its block, or the end of it
abbrev pub IsInBlock : LayoutData → ℕ → Doing → Type 0
IsInBlock layout node (doing.Part phase rank) =
    (layout.leaves ≤ node) × (rank ≤ grain layout) × IsWide layout.form
IsInBlock layout node _ = Unit {0}

-- What is left of the script matches what the worker is doing: it goes on, or it ended as the
-- worker did.
abbrev pub Matches : Doing → Script Then → Type 0
Matches (doing.Over end) script = script ≡ ends (stops end)
Matches _ script = (op : Op) × (first_op script ≡ Some op)

-- The worker fits the job and the layout. One that is over has heard what ended it.
pub record Fits (job : JobData) (layout : LayoutData) (worker : Walking) : Type 0 where
  pub number : worker.number < layout.workers
  pub node : IfSome worker.node (λ node. (1 ≤ node) × (node < 2 * layout.leaves))
  pub phase : IsPhase job layout worker.now
  pub block : IsInBlock layout (node_of layout worker) worker.now
  pub memory : FitsMemory job worker.memory
  pub admitted : AllAdmitted job layout (heard_of job layout worker)
  pub matches : Matches worker.now (rest_of job layout worker)
