-- Answers that are heard beside the workers, and after them.
use Rattle.std.proofs.Common.{◌≡◌, ◌⊎◌, ℕ, ◌<◌, ◌≤◌, Ok, Err, Bool, true, refl, sym, ap, subst}
use Rattle.std.proofs.Common.{◌∙◌, inl, inr}
use Rattle.std.specs.Prelude.{IfOk}
use Rattle.pram_step.specs.declared.answer.RunAnswer.{RunAnswer}
use Rattle.pram_step.specs.declared.answer.RunAnswer.TheVariants as answer
use Rattle.pram_step.specs.declared.answer.RunAnswer.TheVariants.{Final, Unfinished}
use Rattle.pram_words.specs.declared.words.Word.TheVariants.{Conflict}
use Rattle.walkx.specs.Records.{Record}
use Rattle.stop_plan.specs.Plan.{PlanData}
use Rattle.pram_board.specs.declared.task.Task.{Task}
use Rattle.pram_board.specs.Seats.{Desk, SeatData, unites}
use Rattle.pram_run.specs.Heard.{Ended, HasRunWith}
use Rattle.pram_run.specs.Inner.Hearing.{RunHasEnded, HasTold, IsJoined, TellsEnd, ToldEnd}
use Rattle.pram_run.specs.Inner.Obeying.{IsContinued}
use Rattle.pram_run.specs.Obeyed.{HasLooked, IsAnswered, LooksFor}
use Rattle.pram_run.specs.Running.{IsRun, IsUnfinished, Tells}
use Rattle.pram_run.proofs.Endings.{answered_at, looked_goes, looked_same, looks_looked}
use Rattle.pram_run.proofs.Records.{HasAll, begins_all, heard_all, right_all, shows_all}

-- the end of a job is told for good
told_later : (t : Task) (r later : Record) (a : RunAnswer) → (IsUnfinished a → ⊥) →
    HasAll r later → Tells t r a → Tells t later a
told_later t r later (Final cells) ends all h =
    (h.0, shows_all t.layout r later t.job.steps all h.1)
told_later t r later (answer.Conflict fault) ends all h =
    (h.0, heard_all t.layout r later Conflict fault.step all h.1)
told_later t r later (Unfinished step) ends all h = absurd (ends tt)

-- the joined seat has what the looker heard
has_looked : (t : Task) (plan : PlanData) (given looker : SeatData) (n : ℕ) (later : SeatData) →
    IsJoined t plan given looker n later → HasAll looker.record_of later.record_of
has_looked t plan given looker n later joined =
    subst (λ (s : SeatData). HasAll looker.record_of s.record_of) (sym joined.is)
    (right_all joined.seat.record_of looker.record_of)

told_run : (t : Task) (plan : PlanData) (r later : Record) (a : RunAnswer) →
    (IsUnfinished a → ⊥) → HasAll r later → Tells t r a → IsRun t plan later a
told_run t plan r later a ends all h =
    record { tells = told_later t r later a ends all h; stops = λ un. absurd (ends un) }

-- what the looker told before the threads were joined
pub early_answer : (t : Task) (plan : PlanData) (given looker : SeatData) (n : ℕ)
    (later : SeatData) (r : Ended) (is : IsJoined t plan given looker n later) → TellsEnd r →
    IfOk r (Tells t looker.record_of) → IfOk r (IsAnswered t plan (unites is.seat looker) later)
early_answer t plan given looker n later (Ok (Final cells)) is end h = record {
  looks = looked_same (unites is.seat looker) later is.is;
  sound = is.sound;
  told = told_run t plan looker.record_of later.record_of (Final cells) (λ un. un)
      (has_looked t plan given looker n later is) h;
}
early_answer t plan given looker n later (Ok (answer.Conflict fault)) is end h = record {
  looks = looked_same (unites is.seat looker) later is.is;
  sound = is.sound;
  told = told_run t plan looker.record_of later.record_of (answer.Conflict fault) (λ un. un)
      (has_looked t plan given looker n later is) h;
}
early_answer t plan given looker n later (Ok (Unfinished step)) is end h = absurd end
early_answer t plan given looker n later (Err refused) is end h = absurd end

-- what the joined seat told
pub late_answer : (t : Task) (plan : PlanData) (given looker : SeatData) (n : ℕ)
    (joined later : SeatData) (r : Ended) (is : IsJoined t plan given looker n joined) →
    given.desk.task ≡ t → IfOk r (HasTold t joined later) →
    IfOk r (λ a. IsUnfinished a → n ≡ plan.workers) →
    IfOk r (IsAnswered t plan (unites is.seat looker) later)
late_answer t plan given looker n joined later (Ok a) is task h all =
    subst (λ (s : SeatData). IsAnswered t plan s later a) is.is
    (answered_at t plan joined later a (ap (λ (d : Desk). d.task) is.goes_on.desk ∙ task)
    (λ un worker lt. is.ends worker (subst (λ (k : ℕ). worker < k) (sym (all un)) lt)) h)
late_answer t plan given looker n joined later (Err refused) is task h all = tt

-- an answer that is no end is none where a worker is missing
pub ends_all : (r : Ended) (A : Type 0) → TellsEnd r → IfOk r (λ a. IsUnfinished a → A)
ends_all (Ok (Final cells)) A end = λ un. absurd un
ends_all (Ok (answer.Conflict fault)) A end = λ un. absurd un
ends_all (Ok (Unfinished step)) A end = absurd end
ends_all (Err refused) A end = absurd end

-- what the joined seat tells was told before it
told_since : (t : Task) (plan : PlanData) (before joined later : SeatData) (a : RunAnswer) →
    HasAll before.record_of later.record_of → (told : ToldEnd t before.record_of) →
    HasTold t joined later a → IsAnswered t plan joined later told.0
told_since t plan before joined later a all told found = record {
  looks = end_looks told.0 told.1 (looks_looked t joined later a found.looks);
  sound = found.sound;
  told = told_run t plan before.record_of later.record_of told.0 told.1 all told.2;
}
  where
    end_looks : (end : RunAnswer) → (IsUnfinished end → ⊥) → HasLooked joined later →
        LooksFor t joined later end
    end_looks (Final cells) ends h = h
    end_looks (answer.Conflict fault) ends h = h
    end_looks (Unfinished step) ends h = absurd (ends tt)

module _ (t : Task) (plan : PlanData) (given before looker : SeatData) (n : ℕ) (joined : SeatData)
    (is : IsJoined t plan given looker n joined) (most : n ≤ plan.workers)
    (beside : HasLooked before looker) where
  -- so the run was, with an answer
  ran_so : (later : SeatData) (a : RunAnswer) → (IsUnfinished a → n ≡ plan.workers) →
      IsAnswered t plan (unites is.seat looker) later a →
      HasRunWith (λ started seat. (started ≡ n) × HasLooked before seat) t plan given later a
  ran_so later a all answered = record {
    started = n;
    most = most;
    all = all;
    seat = is.seat;
    obeyed = is.obeyed;
    looker = looker;
    beside = (refl, beside);
    answered = answered;
  }

  -- the end was told before the threads were joined
  pub ended_early : (r : Ended) → TellsEnd r → IfOk r (Tells t looker.record_of) →
      RunHasEnded t plan given n before joined r
  ended_early (Ok a) end h = record {
    answer = a;
    ran = ran_so joined a (ends_all (Ok a) (n ≡ plan.workers) end)
        (early_answer t plan given looker n joined (Ok a) is end h);
    given_if = refl;
  }
  ended_early (Err refused) end h = absurd end

  -- the joined seat was asked
  pub ended_late : (later : SeatData) (r : Ended) → given.desk.task ≡ t →
      (n ≡ plan.workers) ⊎ ToldEnd t before.record_of → IfOk r (HasTold t joined later) →
      IfOk r (λ a. IsUnfinished a → n ≡ plan.workers) →
      (a : RunAnswer) × HasTold t joined later a → RunHasEnded t plan given n before later r
  ended_late later (Ok a) task which h all some = record {
    answer = a;
    ran = ran_so later a all
        (late_answer t plan given looker n joined later (Ok a) is task h all);
    given_if = refl;
  }
  ended_late later (Err refused) task (inl whole) h all some = record {
    answer = some.0;
    ran = ran_so later some.0 (λ un. whole)
        (late_answer t plan given looker n joined later (Ok some.0) is task some.1 (λ un. whole));
    given_if = tt;
  }
  ended_late later (Err refused) task (inr told) h all some =
      let looks = looked_goes joined later (looks_looked t joined later some.0 some.1.looks) in
      let kept : HasAll before.record_of later.record_of = λ e es h.
      begins_all joined.record_of later.record_of looks.begins e es
      (has_looked t plan given looker n joined is e es
      (begins_all before.record_of looker.record_of (looked_goes before looker beside).begins e es
      h)) in
      let end = told_since t plan before joined later some.0 kept told some.1 in
      record {
        answer = told.0;
        ran = ran_so later told.0 (λ un. absurd (told.1 un))
            (subst (λ (s : SeatData). IsAnswered t plan s later told.0) is.is end);
        given_if = tt;
      }

-- an end that was told
pub told_end : (t : Task) (past : Record) (r : Ended) → TellsEnd r → IfOk r (Tells t past) →
    ToldEnd t past
told_end t past (Ok (Final cells)) end h = (Final cells, (λ un. un), h)
told_end t past (Ok (answer.Conflict fault)) end h = (answer.Conflict fault, (λ un. un), h)
told_end t past (Ok (Unfinished step)) end h = absurd end
told_end t past (Err refused) end h = absurd end

-- where all were started, or else the end is told
pub all_whole : (r : Ended) (whole : Bool) (A : Type 0) → (whole ≡ true → A) →
    IfOk r (λ a. IsUnfinished a → whole ≡ true) → IfOk r (λ a. IsUnfinished a → A)
all_whole (Ok a) whole A so h = λ un. so (h un)
all_whole (Err refused) whole A so h = tt

pub any_all : (r : Ended) (P : RunAnswer → Type 0) (A : Type 0) → A → IfOk r (λ x. P x → A)
any_all (Ok x) P A a = λ p. a
any_all (Err e) P A a = tt

-- it stays told
pub end_later : (t : Task) (p q : SeatData) (A : Type 0) → IsContinued p q →
    A ⊎ ToldEnd t p.record_of → A ⊎ ToldEnd t q.record_of
end_later t p q A goes (inl a) = inl a
end_later t p q A goes (inr told) = inr (
  told.0,
  told.1,
  told_later t p.record_of q.record_of told.0 told.1
      (begins_all p.record_of q.record_of goes.begins) told.2,
)
