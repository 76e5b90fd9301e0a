-- A processor that goes on alone.
use Rattle.std.proofs.Common.{◌≡◌, ℕ, zero, suc, ◌+◌, ◌<◌, ◌≤◌, ◌&&◌, Bool, true, false}
use Rattle.std.proofs.Common.{not, length, slice_get, Some, None, refl, sym, ap, ◌∙◌, arith}
use Rattle.std.specs.Prelude.{◌||◌, is_some, is_none, if◌then◌else◌}
use Rattle.std.proofs.lemmas.Bool.{le-leb, lt-leb}
use Rattle.std.proofs.lemmas.Option.{slice_get_within}
use Rattle.pram_job.specs.declared.instr.Instr.{Instr}
use Rattle.pram_job.specs.Job.{JobData}
use Rattle.pram_machine.specs.declared.requests.Request.{Request}
use Rattle.walk_memory.specs.declared.memo.Memo.{Memo}
use Rattle.walk_memory.specs.declared.memo.Own.{Own}
use Rattle.walk_memory.specs.Memory.{asked_by, goes_alone, goes_on_alone, has_stopped, is_common, is_due}
use Rattle.walk_memory.specs.Memory.{is_load, one_alone, own_after, own_alone, settles_in}
use Rattle.walk_memory.specs.OwnWrites.{cell_write}
use Rattle.walk_memory.proofs.Halted.{past_end}

-- it stands at an instruction
module _ (job : JobData) (own : Own) (instr : Instr)
    (some : slice_get job.code own.counter ≡ Some instr) where
  pub still_goes : has_stopped job own ≡ false
  still_goes = lt-leb (length job.code) own.counter (slice_get_within job.code own.counter instr some)

  pub settles_by : (t since : ℕ) →
      settles_in job t since own ≡ (is_load (Some instr) || is_due since t)
  settles_by t since = rw (some, still_goes) (all_and (is_load (Some instr)) (is_due since t))
    where
      all_and : (a b : Bool) → (a || (b && not false)) ≡ (a || b)
      all_and true b = refl
      all_and false true = refl
      all_and false false = refl

module _ (job : JobData) (i : ℕ) (memo : Memo) (instr : Instr)
    (some : slice_get job.code memo.own.counter ≡ Some instr) where
  abbrev no_store : Bool
  no_store = is_common job.rule || is_none (cell_write job (asked_by job i memo.own (Some instr) 0).put)

  pub goes_by : goes_alone job i memo
      ≡ (not (is_load (Some instr) || is_due memo.settled (suc memo.step)) && no_store)
  goes_by = rw (settles_by job memo.own instr some (suc memo.step) memo.settled, some) refl

  pub stays_load : is_load (Some instr) ≡ true → false ≡ goes_alone job i memo
  stays_load e = sym (goes_by ∙ rw e refl)

  due_next : is_due memo.settled (suc memo.step) ≡ is_due memo.settled (memo.step + 1)
  due_next =
      let next : suc memo.step ≡ memo.step + 1 = omega arith in
      ap (λ (t : ℕ). is_due memo.settled t) next

  pub stays_at : is_due memo.settled (memo.step + 1) ≡ true → false ≡ goes_alone job i memo
  stays_at e = sym (goes_by ∙ rw (due_next ∙ e) (none_left (is_load (Some instr)) no_store))
    where
      none_left : (a b : Bool) → (not (a || true) && b) ≡ false
      none_left true b = refl
      none_left false b = refl

  pub goes_if : is_due memo.settled (memo.step + 1) ≡ false → is_load (Some instr) ≡ false → (b : Bool) →
      no_store ≡ b → b ≡ goes_alone job i memo
  goes_if other load b is = sym (goes_by ∙ rw (due_next ∙ other, load) is)

-- it has stopped
module _ (job : JobData) (own : Own) (none : slice_get job.code own.counter ≡ None) where
  pub no_more : has_stopped job own ≡ true
  no_more = le-leb (length job.code) own.counter (past_end job.code own.counter none)

  pub stays_alone : (i more : ℕ) → own_alone job i more own ≡ own
  stays_alone i zero = refl
  stays_alone i (suc more) = rw none (stays_alone i more)

-- so many steps
module _ (job : JobData) (i : ℕ) (memo : Memo) where
  pub none_more : (n : ℕ) → n ≡ 0 → goes_on_alone n job i memo ≡ memo
  unfolding goes_on_alone
  none_more n is = rw is refl

  pub stored_stays : (n : ℕ) → is_some memo.store ≡ true → goes_on_alone n job i memo ≡ memo
  unfolding goes_on_alone
  stored_stays zero is = refl
  stored_stays (suc n) is = rw is refl

  pub last_stays : (n : ℕ) → job.steps ≤ memo.step → goes_on_alone n job i memo ≡ memo
  unfolding goes_on_alone
  last_stays zero last = refl
  last_stays (suc n) last = rw (le-leb job.steps memo.step last) (either (is_some memo.store))
    where
      either : (b : Bool) → (if b || true then memo
          else (if has_stopped job memo.own then record memo { step = job.steps }
          else (if goes_alone job i memo then goes_on_alone n job i (one_alone job i memo)
          else memo))) ≡ memo
      either true = refl
      either false = refl

  module _ (n m : ℕ) (next : n ≡ suc m) (none : is_some memo.store ≡ false)
      (before : memo.step < job.steps) where
    pub to_the_end : slice_get job.code memo.own.counter ≡ None →
        goes_on_alone n job i memo ≡ record memo { step = job.steps }
    unfolding goes_on_alone
    to_the_end past =
        rw (next, none, lt-leb job.steps memo.step before, no_more job memo.own past) refl

    module _ (instr : Instr) (some : slice_get job.code memo.own.counter ≡ Some instr) where
      pub stays_here : goes_alone job i memo ≡ false → goes_on_alone n job i memo ≡ memo
      unfolding goes_on_alone
      stays_here is = rw (
        next,
        none,
        lt-leb job.steps memo.step before,
        is,
        still_goes job memo.own instr some,
      ) refl

      pub goes_one : goes_alone job i memo ≡ true →
          goes_on_alone n job i memo ≡ goes_on_alone m job i (one_alone job i memo)
      unfolding goes_on_alone
      goes_one is = rw (
        next,
        none,
        lt-leb job.steps memo.step before,
        is,
        still_goes job memo.own instr some,
      ) refl

-- one step more of its own
pub one_more : (job : JobData) (i n m : ℕ) (own : Own) (instr : Instr) (request : Request) → n ≡ suc m →
    slice_get job.code own.counter ≡ Some instr → request ≡ asked_by job i own (Some instr) 0 →
    own_alone job i n own ≡ own_alone job i m (own_after job i own request)
one_more job i n m own instr request next some is = rw (next, some, is) refl
