-- Where a driver stands in a script that it plays, and what each function of the walk promises.
use Rattle.std.specs.Prelude.{ℕ, Option, Some, None, Result, Ok, Err, IfOk}
use Rattle.walk_memory.specs.declared.memo.Memo.{Memo}
use Rattle.walkx.specs.declared.operation.Op.{Op}
use Rattle.walkx.specs.Scripts.{Script, asks, ends}
use Rattle.walkx.specs.Walk.{Then, HearsAdmitted}
use Rattle.walk_memory.specs.Inner.Posts.{PostData}
use Rattle.walk_memory.specs.Plain.{done_or_late}
use Rattle.walkx.specs.declared.left.Left.{Left}
use Rattle.walkx.specs.declared.left.Stopped.{Stopped}
use Rattle.walkx.specs.declared.left.Left.TheVariants.{Late, Held}

-- begun there at that script, the driver stands here at this one, or it is held
abbrev pub Standing : Type 0 → Type 1
Standing D = D × Script Then → D → Option (Script Then) → Type 0

-- a part of a script, by what follows where the worker is late, and what follows each result
abbrev pub Part : Type 0 → Type 0
Part A = Script Then → (A → Script Then) → Script Then

-- what follows a part
abbrev pub left_as : Script Then → Left → Option (Script Then)
left_as after Late = Some after
left_as after Held = None

abbrev pub comes : {A : Type 0} → Script Then → (A → Script Then) → Result A Left →
    Option (Script Then)
comes after next (Ok result) = Some (next result)
comes after next (Err why) = left_as after why

-- the driver is to play this part next
pub record IsNextPart {D A : Type 0} (stands : Standing D) (driver : D) (part : Part A)
    : Type 0 where
  pub from : D × Script Then
  pub after : Script Then
  pub next : A → Script Then
  pub here : stands from driver (Some (part after next))

-- it played this part up to its result, or it was held in it
pub record Plays {D A : Type 0} (stands : Standing D) (old : D) (part : Part A) (new : D)
    (result : Result A Left) : Type 0 where
  pub on : (from : D × Script Then) (after : Script Then) (next : A → Script Then) →
      stands from old (Some (part after next)) → stands from new (comes after next result)

-- the driver is to play this whole task next, which a late worker ends as any other
pub record IsDue {D : Type 0} (stands : Standing D) (driver : D)
    (task : Script Then → Script Then) : Type 0 where
  pub from : D × Script Then
  pub after : Script Then
  pub here : stands from driver (Some (task after))

pub record Ends {D : Type 0} (stands : Standing D) (old : D) (task : Script Then → Script Then)
    (new : D) (result : Result (Unit {0}) Left) : Type 0 where
  pub on : (from : D × Script Then) (after : Script Then) →
      stands from old (Some (task after)) → stands from new (comes after (λ done. after) result)

-- one operation
abbrev pub makes : Op → Part ℕ
makes op after next = asks op next

abbrev pub goes : {A : Type 0} → (A → Script Then) → Result A Stopped → Option (Script Then)
goes next (Ok result) = Some (next result)
goes next (Err why) = None

-- it made this operation, and the answer is one that the word may have; or it is held there
pub record Makes {D : Type 0} (stands : PostData → Standing D) (old : D) (op : Op) (new : D)
    (result : Result ℕ Stopped) : Type 0 where
  pub on : (at : PostData) (from : D × Script Then) (next : ℕ → Script Then) →
      stands at from old (Some (asks op next)) → stands at from new (goes next result)
  pub admitted : (at : PostData) → IsNextPart (stands at) old (makes op) →
      IfOk result (HearsAdmitted at.job at.layout op)

-- the driver is at this script, and no part comes after it
pub record IsHere {D : Type 0} (stands : Standing D) (driver : D)
    (script : Script Then) : Type 0 where
  pub from : D × Script Then
  pub here : stands from driver (Some script)

-- it played the script up to a result, and what follows that is next; or it was held in it
pub record Leads {D A : Type 0} (stands : Standing D) (old : D) (script : Script Then)
    (next : A → Script Then) (new : D) (result : Result A Stopped) : Type 0 where
  pub on : (from : D × Script Then) → stands from old (Some script) →
      stands from new (goes next result)

-- it played the script to its end, which its result names, or it was held in it
abbrev pub Reaches : {D A : Type 0} → Standing D → D → Script Then → (A → Then) → D →
    Result A Stopped → Type 0
Reaches stands old script to new result =
    Leads stands old script (λ answer. ends (to answer)) new result

-- the end of a task, late or not
abbrev pub settled_or_late : Result (Unit {0}) Left → Result (Unit {0}) Stopped
settled_or_late (Ok done) = Ok done
settled_or_late (Err Late) = Ok tt
settled_or_late (Err Held) = Err (record {})

-- that of a task in a block: what is then known, late or not
abbrev pub learns : Result (Unit {0}) Left → Memo → Result Memo Left
learns (Ok done) memo = Ok memo
learns (Err Late) memo = Ok memo
learns (Err Held) memo = Err Held

-- what was loaded, if it was
abbrev pub loads : Result (Unit {0}) Left → Memo → Result Memo Left
loads (Ok done) memo = Ok memo
loads (Err why) memo = Err why

-- what is known by a value
abbrev pub learns_value : (ℕ → Memo) → Result (Option ℕ) Stopped → Result Memo Stopped
learns_value does (Ok found) = Ok (done_or_late does found)
learns_value does (Err why) = Err why

abbrev pub learns_all : Result (Unit {0}) Stopped → Memo → Result Memo Stopped
learns_all (Ok done) memo = Ok memo
learns_all (Err why) memo = Err why
