-- A weight of what a worker has still to do, which falls with each operation.
use Rattle.std.specs.Prelude.{ℕ, zero, suc, ◌+◌, ◌-◌, ◌*◌, ◌/◌, Bool, false, ◌||◌, min}
use Rattle.std.specs.Prelude.{◌==◌, nat_le, if◌then◌else◌, List, length, drop}
use Rattle.std.specs.List.{range_with_len, sum_by}
use Rattle.pram_job.specs.Job.{JobData}
use Rattle.pram_words.specs.Forms.{by_form}
use Rattle.pram_words.specs.Tree.{leaves_of}
use Rattle.pram_words.specs.Words.{LayoutData, grain, number_of}
use Rattle.pram_words.specs.declared.words.Word.TheVariants.{Node}
use Rattle.walkx.specs.declared.operation.Op.{Op}
use Rattle.walkx.specs.Doing.{Doing}
use Rattle.walkx.specs.Doing as doing
use Rattle.walkx.specs.Bound.{low}
use Rattle.walkx.specs.Walk.{Walking, node_of}

-- the greatest that a history shows of a node
abbrev pub low_of : LayoutData → List (Op × ℕ) → ℕ → ℕ
low_of y history n = low history (number_of y (Node n))

-- node m lies on the way of so many nodes from node n to the root
unfoldable pub lies_on_way : ℕ → ℕ → ℕ → Bool
lies_on_way zero m n = false
lies_on_way (suc more) m n = (m == n) || lies_on_way more m (n / 2)

-- how many processors a block has at most
abbrev pub count : LayoutData → ℕ
count y = min (grain y) y.procs

-- A turn has at most so many operations: in the compact form that at a leaf makes the task of its
-- processor, and marks it. In the wide form tasks and marks are scripts of their own, of at most
-- twenty-eight operations.
abbrev pub turn_ops : LayoutData → ℕ
turn_ops y = by_form y.form 16 5

abbrev pub tasks : LayoutData → ℕ
tasks y = by_form y.form 0 (28 * (count y + 1))

-- those of node m
unfoldable pub tasks_at : LayoutData → ℕ → ℕ
tasks_at y m = if nat_le y.leaves m then tasks y else 0

-- Operations at node m while the worker stands at node n in phase q: a turn marks it, after its
-- tasks, one leaves it upward, and one enters it where it is not yet on the way to the root.
unfoldable pub turns_at : LayoutData → List (Op × ℕ) → ℕ → ℕ → ℕ → ℕ
turns_at y history q n m =
    if nat_le q (low_of y history m) then (if lies_on_way n m n then turn_ops y else 0)
    else tasks_at y m + (if lies_on_way n m n then 2 * turn_ops y else 3 * turn_ops y)

-- those of the phase that are left
unfoldable pub turns_left : LayoutData → List (Op × ℕ) → ℕ → ℕ → ℕ
turns_left y history q n = sum_by (turns_at y history q n) (range_with_len 1 (2 * y.leaves - 1))

-- the same in the midst of the block of node n, at the processor of this rank
unfoldable pub part_at : LayoutData → List (Op × ℕ) → ℕ → ℕ → ℕ → ℕ → ℕ
part_at y history q n rank m =
    if m == n then 2 * turn_ops y + 28 * (count y - rank) else turns_at y history q n m

unfoldable pub parts_left : LayoutData → List (Op × ℕ) → ℕ → ℕ → ℕ → ℕ
parts_left y history q n rank =
    sum_by (part_at y history q n rank) (range_with_len 1 (2 * y.leaves - 1))

-- how many operations a script has at most
abbrev pub longest : LayoutData → Doing → ℕ
longest y doing.Back = 1
longest y doing.Begin = 2
longest y (doing.Turn q) = turn_ops y
longest y (doing.Part q rank) = 28
longest y (doing.Over e) = 0

-- operations of this many phases, each of a begin and, in the compact form, up to 6L - 3 turns
abbrev pub phases_weight : LayoutData → ℕ → ℕ
phases_weight y phases = phases * (96 * leaves_of y.procs)

-- what follows the script in progress, this being the history before it
unfoldable pub later_weight : JobData → LayoutData → List (Op × ℕ) → ℕ → Doing → ℕ
later_weight job y before n doing.Back = 2 + phases_weight y (3 * job.steps)
later_weight job y before n doing.Begin = phases_weight y (3 * job.steps - low_of y before 1)
later_weight job y before n (doing.Turn q) =
    2 + phases_weight y (3 * job.steps - q) + turns_left y before q n
later_weight job y before n (doing.Part q rank) =
    2 + phases_weight y (3 * job.steps - q) + parts_left y before q n rank
later_weight job y before n (doing.Over e) = 0

-- at least as many operations as the worker has still to make
unfoldable pub weight : JobData → LayoutData → List (Op × ℕ) → Walking → ℕ
weight job y history w = later_weight job y (drop (length w.heard) history) (node_of y w) w.now
    + (longest y w.now - length w.heard)
