-- The first pass of a processor that is known, or past, or has stopped.
use Rattle.std.proofs.Common.{◌≡◌, true, false, slice_get, Some, None, refl}
use Rattle.std.proofs.lemmas.Bool.{and_right}
use Rattle.pram_job.specs.declared.instr.Instr.{Instr}
use Rattle.pram_job.specs.declared.instr.Rule.{Rule}
use Rattle.pram_job.specs.declared.instr.Rule.TheVariants.{Common, Priority, Crew}
use Rattle.pram_machine.specs.Instructions.{goes_to}
use Rattle.walk_memory.specs.declared.memo.Memo.{Memo}
use Rattle.walk_memory.specs.Inner.Posts.{PostData, step_of}
use Rattle.walk_memory.specs.Memory.{is_due, is_past}
use Rattle.walkx.specs.Scripts.{Script}
use Rattle.walkx.specs.Walk.{Then}
use Rattle.walkx.specs.WideParts.{does_own, does_own_by, learned, memo_known, own_known}
use Rattle.walk_memory.proofs.GoingAlone.{no_more}

module _ (at : PostData) (memo : Memo) (late : Script Then) (next : Memo → Script Then) where
  pub past_does : is_past at.phase memo ≡ true → does_own at memo late next ≡ next memo
  past_does past = rw past refl

  pub known_does : is_past at.phase memo ≡ false →
      does_own at memo late next ≡ memo_known at memo (next memo) (own_known at next)
  known_does past = rw past refl

-- by the instruction at its counter
module _ (at : PostData) (known : Memo) (next : Memo → Script Then) where
  pub stands_does : (instr : Instr) → slice_get at.job.code known.own.counter ≡ Some instr →
      own_known at next known ≡ does_own_by at known (Some instr) (next known) next
  stands_does instr some = rw some refl

  module _ (none : slice_get at.job.code known.own.counter ≡ None) where
    stopped_by : (r : Rule) → at.job.rule ≡ r → own_known at next known
        ≡ next (learned at known (goes_to known.own.counter))
    stopped_by Common e = rw (
      e,
      none,
      no_more at.job known.own none,
      and_right (is_due known.settled (step_of at)) false refl,
    ) refl
    stopped_by Priority e = rw (
      e,
      none,
      no_more at.job known.own none,
      and_right (is_due known.settled (step_of at)) false refl,
    ) refl
    stopped_by Crew e = rw (
      e,
      none,
      no_more at.job known.own none,
      and_right (is_due known.settled (step_of at)) false refl,
    ) refl

    pub stopped_does : own_known at next known ≡ next (learned at known (goes_to known.own.counter))
    stopped_does = stopped_by at.job.rule refl
