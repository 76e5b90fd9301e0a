-- What is left of a turn in its midst.
use Rattle.std.specs.Prelude.{◌≡◌, ◌≤◌, ℕ, ◌*◌, ◌/◌, ◌%◌, ◌+◌, ◌&&◌, ◌==◌, nat_le, if◌then◌else◌}
use Rattle.std.specs.Prelude.{List, Option, Some, None}
use Rattle.pram_words.specs.Phases.{next_phase}
use Rattle.pram_words.specs.declared.words.Word.TheVariants.{Conflict, Node}
use Rattle.pram_words.specs.Words.{grain, number_of}
use Rattle.walkx.specs.declared.operation.Op.TheVariants.{Load}
use Rattle.walkx.specs.Scripts.{Script, asks, ends}
use Rattle.walkx.specs.declared.next.Next.{Next}
use Rattle.walkx.specs.declared.next.Next.TheVariants as next
use Rattle.walkx.specs.declared.operation.Activity.{Activity}
use Rattle.walkx.specs.declared.operation.Activity.TheVariants as activity
use Rattle.walkx.specs.declared.operation.Ended.TheVariants as ended
use Rattle.walkx.specs.declared.turns.Turned.{Turned}
use Rattle.walkx.specs.declared.turns.Turned.TheVariants as turned
use Rattle.walk_memory.specs.declared.memo.Memo.{Memo}
use Rattle.walk_memory.specs.Memory.{at_start}
use Rattle.walkx.specs.Walk.{Then, begins, turns, enters, worked, stops, back_script, begin_script}
use Rattle.walkx.specs.Walk.{block_script, leaf_script, part_script, stands_at, turn_script}
use Rattle.walkx.specs.Walk.{marks_inner, way_down}
use Rattle.walk_memory.specs.Blocks.{IsWide}
use Rattle.walk_memory.specs.Inner.Posts.{PostData}

abbrev pub moves : PostData → ℕ → Script Then
moves at to = stands_at at.layout at.worker to at.phase

abbrev pub leaf_rest : PostData → Script Then
leaf_rest at = leaf_script at.job at.layout at.node at.phase

abbrev pub inner_marks : PostData → ℕ → ℕ → Script Then
inner_marks at left right = marks_inner at.layout at.node at.phase left right

abbrev pub after_children : PostData → ℕ → ℕ → Script Then
after_children at left right =
    if nat_le at.phase left && nat_le at.phase right
    then inner_marks at left right
    else moves at (way_down at.layout at.worker at.node at.phase left right)

abbrev pub inner_of : PostData → Script Then
inner_of at =
    asks (Load (number_of at.layout (Node (2 * at.node)))) (λ left.
    asks (Load (number_of at.layout (Node (2 * at.node + 1))))
    (λ right. after_children at left right))

abbrev pub leaves_up : PostData → Script Then
leaves_up at = if at.node == 1 then ends (begins 1) else moves at (at.node / 2)

abbrev pub after_node : PostData → ℕ → Script Then
after_node at found =
    if nat_le at.phase found then leaves_up at
    else (if nat_le at.layout.leaves at.node then leaf_rest at else inner_of at)

abbrev pub turn_of : PostData → Script Then
turn_of at = turn_script at.job at.layout at.worker at.node at.phase

-- the task of a processor of which the worker knows this, and what it leads to in the wide form
abbrev pub part_rest : PostData → Memo → Script Then
part_rest at memo = part_script at.job at.layout at.node at.phase at.rank memo

abbrev pub has_worked : PostData → Memo → Then
has_worked at memo = worked at.node at.phase at.rank memo

-- in a block: such a task, or the mark
abbrev pub block_of : PostData → List Memo → Script Then
block_of at memory = block_script at.job at.layout at.node at.phase at.rank memory

-- what comes of a turn
abbrev pub leads : PostData → Turned → Then
leads at turned.Finished = begins 1
leads at (turned.To node) = turns node at.phase
leads at turned.Enters = enters at.node at.phase

-- what is left of a turn, or before the task at a leaf in the compact form
abbrev pub entered : PostData → Option Turned → Script Then
entered at None = part_rest at at_start
entered at (Some turned) = ends (leads at turned)

-- ---- the scripts back and begin

-- what comes of a script
abbrev pub then_of : Next → Then
then_of (next.Begins node) = begins node
then_of (next.Turns node phase) = turns node phase
then_of (next.Enters node phase) = enters node phase
then_of (next.Worked node phase rank memo) = worked node phase rank memo
then_of (next.Stops end) = stops end

abbrev pub back_of : PostData → Script Then
back_of at = back_script at.layout at.worker

abbrev pub begin_of : PostData → Script Then
begin_of at = begin_script at.job at.layout at.node

-- the root was heard, and the conflict
abbrev pub after_conflict : PostData → ℕ → ℕ → Script Then
after_conflict at root conflict =
    if conflict == 0 then (if root == 3 * at.job.steps then ends (stops ended.Done)
    else ends (turns at.node (next_phase at.layout.form root)))
    else ends (stops (ended.Conflict conflict))

abbrev pub conflict_rest : PostData → ℕ → Script Then
conflict_rest at root = asks (Load (number_of at.layout Conflict)) (after_conflict at root)

abbrev pub after_root : PostData → ℕ → Script Then
after_root at root =
    if root % 3 == 0 then conflict_rest at root
    else ends (turns at.node (next_phase at.layout.form root))

-- the script of an activity, with this memory; a worker that is over has heard a whole begin
abbrev pub script_in : PostData → Activity → List Memo → Script Then
script_in at activity.Back memory = back_of at
script_in at activity.Begin memory = begin_of at
script_in at (activity.Turn phase) memory = turn_of at
script_in at (activity.Part phase rank) memory = block_of at memory
script_in at (activity.Over end) memory = begin_of at

-- a leaf in the wide form, at a rank of its block, or at its end
pub record IsBlockPost (at : PostData) : Type 0 where
  pub leaf : at.layout.leaves ≤ at.node
  pub rank : at.rank ≤ grain at.layout
  pub wide : IsWide at.layout.form
  pub phase : at.phase ≤ 3 * at.job.steps

-- an activity that the worker's post fits
abbrev pub IsWithin : PostData → Activity → Type 0
IsWithin at (activity.Turn phase) = (at.rank ≡ 0) × (at.phase ≤ 3 * at.job.steps)
IsWithin at (activity.Part phase rank) = IsBlockPost at
IsWithin at _ = Unit {0}
