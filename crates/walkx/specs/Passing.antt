-- Processors of a block whose task asks nothing, by a post.
use Rattle.std.specs.Prelude.{◌≡◌, ℕ, Bool, if◌then◌else◌, List, slice_set, Option, Some, None}
use Rattle.std.specs.Prelude.{IfSome, Result, Ok, Err, true, false}
use Rattle.pram_words.specs.Words.{grain}
use Rattle.pram_words.specs.Phases.{kind_at}
use Rattle.pram_words.specs.declared.phases.Kind.{Kind}
use Rattle.walk_memory.specs.declared.memo.Memo.{Memo}
use Rattle.walk_memory.specs.Inner.Posts.{PostData, step_of, processor_of}
use Rattle.walkx.specs.declared.left.Stopped.{Stopped}
use Rattle.walkx.specs.Driving.{Standing, goes, learns_all, learns_value}
use Rattle.walk_memory.specs.Memory.{memo_of}
use Rattle.walk_memory.specs.Plain.{loaded}
use Rattle.walkx.specs.Parts.{does_wide}
use Rattle.walkx.specs.Passes.{wide_task_of}
use Rattle.walkx.specs.Scripts.{Script, ends}
use Rattle.walkx.specs.Walk.{Then, ends_block, if_ended, passes_over}

-- what is known of the processor after its task, if that asks nothing
abbrev pub idle_in : Kind → PostData → Memo → Option Memo
idle_in kind at memo =
    if_ended (wide_task_of at.job.rule kind at.job at.layout (step_of at) (processor_of at) memo
    (λ learned. ends learned)) None (λ learned. Some learned)

-- this is then known, if so
abbrev pub if_so : Bool → Memo → Option Memo
if_so so memo = if so then Some memo else None

-- where its task asks nothing, no step is made, and this is what is then known
abbrev pub Passes : {D : Type 0} → Option Memo → D → D → Memo → Type 0
Passes idle old new memo = IfSome idle (λ known. (memo ≡ known) × (new ≡ old))

abbrev pub idle : PostData → Memo → Option Memo
idle at memo = idle_in (kind_at at.phase) at memo

-- a task was done with what was remembered of its processor, and this is remembered now: it played
-- its script, and where that asks nothing it made no step
pub record TakesUp {D : Type 0} (stands : Standing D) (at : PostData) (old : D)
    (memory : List Memo) (new : D) (now : List Memo) (result : Result (Unit {0}) Stopped) : Type 0
  where
    pub learned : Memo
    pub kept : now ≡ slice_set memory (processor_of at) learned
    pub idle : Passes (idle at (memo_of memory (processor_of at))) old new learned
    pub on : (from : D × Script Then) (late : Script Then) (next : Memo → Script Then) →
        stands from old (Some (does_wide at (memo_of memory (processor_of at)) late next)) →
        stands from new (goes next (learns_all result learned))

-- The processor's task was played, of which this was known: its value is given, by which it is
-- known what it did, if the worker was not late. Another remembers it.
pub record PlaysUp {D : Type 0} (stands : Standing D) (at : PostData) (old : D) (memo : Memo)
    (does : ℕ → Memo) (new : D) (result : Result (Option ℕ) Stopped) : Type 0 where
  pub asks : idle at memo ≡ None
  pub on : (from : D × Script Then) (late : Script Then) (next : Memo → Script Then) →
      stands from old (Some (does_wide at memo late next)) →
      stands from new (goes next (learns_value does result))

-- the same of a plain load
abbrev pub LoadsUp : {D : Type 0} → Standing D → PostData → D → Memo → ℕ → D →
    Result (Option ℕ) Stopped → Type 0
LoadsUp stands at old memo r new result = PlaysUp stands at old memo (loaded at memo r) new result

-- It is done so, or, where the answer is no, nothing is.
abbrev pub TakesUpIf : {D : Type 0} → Standing D → PostData → D → List Memo → D → List Memo →
    Result Bool Stopped → Type 0
TakesUpIf stands at old memory new now (Ok true) = TakesUp stands at old memory new now (Ok tt)
TakesUpIf stands at old memory new now (Ok false) = (new ≡ old) × (now ≡ memory)
TakesUpIf stands at old memory new now (Err why) = TakesUp stands at old memory new now (Err why)

-- the rank that comes next, from that of the post on, and what is then remembered
abbrev pub passed_alone : PostData → List Memo → ℕ × List Memo
passed_alone at memory =
    passes_over (grain at.layout) at.job at.layout at.node at.phase at.rank memory

-- past the last one they go on alone
abbrev pub passed : PostData → List Memo → ℕ × List Memo
passed at memory = ends_block at.job at.layout at.node (passed_alone at memory)
