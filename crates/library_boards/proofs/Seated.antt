-- A member's seat sees more, and knows the worker still.
use Rattle.std.proofs.Common.{◌≡◌, ◌∙◌, ℕ, List, [], ◌∷◌, refl, ap, subst, inr, rules}
use Rattle.std.specs.Prelude.{Option, Some, None, IfNone, IfSome}
use Rattle.std.specs.Arc.{arc_value}
use Rattle.pram_job.specs.Job.{JobData}
use Rattle.pram_words.specs.declared.layout.Form.TheVariants.{Wide}
use Rattle.walkx.specs.Inner.Workers.{WorkerData}
use Rattle.pram_step.specs.Runs.{IsAnswer, IsFault}
use Rattle.pram_step.specs.declared.answer.Fault.{Fault}
use Rattle.pram_step.specs.declared.answer.RunAnswer.TheVariants.{Final}
use Rattle.pram_board.specs.declared.task.Task.{Task}
use Rattle.pram_board.specs.Seats.{Desk, SeatData, HasLoaded, HasSeen, IsLater, IsOpened}
use Rattle.pram_board.specs.Seats.{KnowsConflict, Remembers}
use Rattle.pram_board.proofs.Memory.{still_known}
use Rattle.pram_board.proofs.Remembering.{still_knows}
use Rattle.pram_board.specs.Stops.{EndsApart, StopsThere}
use Rattle.pram_board.specs.Worked.{Works}
use Rattle.walk_memory.specs.Blocks.{IsWide}
use Rattle.library_boards.specs.declared.member.Member.{Member}
use Rattle.library_boards.specs.declared.shared.Shared.{Shared}
use Rattle.library_boards.specs.Grains.{grain_or_default}
use Rattle.library_boards.specs.Members.{MemberGoesOn, IsKnownFault, IsLastMemory, IsMember}
use Rattle.library_boards.specs.Members.{IsOpenedAt, IsOpenedFor, NoStopIsKnown, board_at, job_at}
use Rattle.library_boards.specs.Members.{member_task}

later_works : (board : Desk) (p q : SeatData) (worker : WorkerData) →
    IsLater board p q → Works board p worker → Works board q worker
later_works board p q worker later works = record {
  desk = later.desk;
  serves = works.serves;
  knows = still_knows board.task p.record_of q.record_of later.keeps worker.walking works.knows;
}

later_yet : (board : Desk) (p q r : SeatData) →
    IsLater board p q → IsLater board q r → IsLater board p r
later_yet board p q r first second = record {
  desk = second.desk;
  keeps = λ steps has. second.keeps steps (first.keeps steps has);
}

is_member_later : (m : Member) (q : SeatData) → IsMember m → IsLater (board_at m) m.seat q →
    IsMember (record { shared = m.shared; seat = q; worker = m.worker })
is_member_later m q is later = record {
  desk = later.desk;
  works = λ worker e. later_works (board_at m) m.seat q worker later (is.works worker e);
}

pub goes_on : (m : Member) (q : SeatData) → IsMember m → IsLater (board_at m) m.seat q →
    MemberGoesOn m (record { shared = m.shared; seat = q; worker = m.worker })
goes_on m q is later =
    record { goes = later; worker = refl; same = refl; is_member = is_member_later m q is later }

pub goes_further : (m n : Member) (q : SeatData) → MemberGoesOn m n →
    IsLater (board_at n) n.seat q →
    MemberGoesOn m (record { shared = n.shared; seat = q; worker = n.worker })
goes_further m n q on later =
    let same : board_at n ≡ board_at m = λ i. (arc_value (on.same i)).board in
    record {
      goes = later_yet (board_at m) m.seat n.seat q on.goes
          (subst (λ (d : Desk). IsLater d n.seat q) same later);
      worker = on.worker;
      same = on.same;
      is_member = is_member_later n q on.is_member later;
    }

-- the board is that of an earlier member, too
module _ (m n : Member) (s : Shared) (q : SeatData) (same : s ≡ arc_value n.shared)
    (goes : MemberGoesOn m n) where
  task_is : s.board.task ≡ member_task m
  task_is = ap (λ (r : Shared). r.board.task) same
      ∙ (λ i. (arc_value (goes.same i)).board.task)

  pub last_memory : (loads : ℕ) (cells : List ℕ) →
      HasSeen s.board.task.layout n.seat.record_of s.board.task.job.steps →
      HasLoaded loads n.seat q → IsAnswer s.board.task.job (Final cells) →
      IsLastMemory m (record { shared = n.shared; seat = q; worker = n.worker }) cells
  last_memory loads cells seen load answers =
      let still = still_known s.board.task loads n.seat q s.board.task.job.steps load seen.knows in
      record {
        seen = subst (λ (t : Task). HasSeen t.layout q.record_of t.job.steps) task_is
            (record { knows = still });
        answers = subst (λ (t : Task). IsAnswer t.job (Final cells)) task_is answers;
      }

  pub stops_as : (found : Option ℕ) → IfSome found (StopsThere s.board.task.job) →
      IfSome found (StopsThere (job_at m))
  stops_as found = subst (λ (t : Task). IfSome found (StopsThere t.job)) task_is

  pub apart_as : (found : Option ℕ) →
      IfNone found (IsWide s.board.task.layout.form → EndsApart s.board.task.job) →
      IfNone found (NoStopIsKnown m (record { shared = n.shared; seat = q; worker = n.worker }))
  apart_as None apart = inr (subst
      (λ (t : Task). IsWide t.layout.form → EndsApart t.job) task_is apart)
  apart_as (Some step) is = is

  pub known_fault : (fault : Fault) → KnowsConflict s.board.task.layout n.seat.record_of →
      Remembers n.seat.record_of q.record_of → IsFault s.board.task.job fault →
      IsKnownFault m (record { shared = n.shared; seat = q; worker = n.worker }) fault
  known_fault fault known keeps is =
      let heard = known.heard in
      record {
        heard = subst (λ (t : Task). KnowsConflict t.layout q.record_of) task_is (record {
          step = known.step;
          some = known.some;
          heard = record {
            op = heard.op;
            hears = heard.hears;
            has = keeps ((heard.op, known.step) ∷ []) heard.has;
          };
        });
        is = subst (λ (t : Task). IsFault t.job fault) task_is is;
      }

nobody : (worker : WorkerData) → None ≡ Some worker → ⊥
nobody worker e = search rules

pub opened_at : (workers grain : ℕ) (job : JobData) (m : Member) →
    IsOpened job (Wide (grain_or_default grain job.procs)) workers (board_at m, m.seat) →
    m.worker ≡ None → IsOpenedAt job workers grain m
opened_at workers grain job m opened none = record {
  opened = opened;
  reader = none;
  is_member = record {
    desk = ap (λ (p : SeatData). p.desk) opened.2;
    works = λ worker e. absurd (nobody worker (subst (λ o. o ≡ Some worker) none e));
  };
}

pub opened_for : (Holds : JobData → Type 0) (workers grain : ℕ) (job : JobData) (m : Member) →
    Holds job → IsOpenedAt job workers grain m → IsOpenedFor Holds workers grain m
opened_for Holds workers grain job m holds at = record { job = job; holds = holds; at = at }
