-- Seats that go on, and what they show of the end of a job.
use Rattle.std.proofs.Common.{◌≡◌, ◌≢◌, ◌⊎◌, ℕ, ◌<◌, ◌==◌, if◌then◌else◌, Option}
use Rattle.std.proofs.Common.{◌≤◌, List, [], ◌∷◌, ◌++◌, length, take, Some, None, true}
use Rattle.std.proofs.Common.{false, refl, sym, ap, subst, ◌∙◌, inl, inr, arith}
use Rattle.std.proofs.lemmas.Bool.{cases_Bool, eqb-true, eqb-false}
use Rattle.std.specs.List.{AllByRecursion}
use Rattle.std.specs.Prelude.{Result, Ok, Err, IfOk, is_some}
use Rattle.pram_job.specs.Job.{JobData}
use Rattle.pram_step.specs.declared.answer.Fault.{Fault}
use Rattle.pram_step.specs.declared.answer.RunAnswer.{RunAnswer}
use Rattle.pram_step.specs.declared.answer.RunAnswer.TheVariants as answer
use Rattle.pram_step.specs.declared.answer.RunAnswer.TheVariants.{Final, Unfinished}
use Rattle.pram_step.specs.Runs.{IsAnswer, IsFault, state_after}
use Rattle.pram_step.proofs.LawAnswer.{one_conflict}
use Rattle.pram_words.specs.declared.words.Word.TheVariants.{Conflict, Node}
use Rattle.pram_words.specs.Words.{LayoutData, number_of}
use Rattle.walkx.specs.declared.operation.Op.{Op}
use Rattle.walkx.specs.declared.operation.Op.TheVariants.{Load}
use Rattle.walkx.specs.Records.{Record, Has, after, both}
use Rattle.walkx.specs.Walk.{Walking}
use Rattle.lawful_walk.specs.Moments.{Sound, afters}
use Rattle.lawful_walk.specs.Seen.{Heard, Shows, BeginsWith}
use Rattle.lawful_walk.proofs.Knowing.{conflict_now}
use Rattle.stop_plan.specs.declared.plan.Act.{Act}
use Rattle.stop_plan.specs.declared.plan.Act.TheVariants as act
use Rattle.stop_plan.specs.declared.plan.Row.{Row}
use Rattle.stop_plan.specs.Plan.{PlanData}
use Rattle.pram_run.specs.Obeyed.{Acts, HasLooked, HasRun, IsAnswered, LooksFor}
use Rattle.pram_run.specs.Running.{ShowsEnd, Tells, IsUnfinished}
use Rattle.pram_board.specs.declared.look.Progress.{Progress}
use Rattle.pram_board.specs.declared.task.Task.{Task}
use Rattle.pram_board.specs.declared.work.Stay.{Stay}
use Rattle.pram_board.specs.Seats.{Desk, SeatData, Progressed, HasLoaded}
use Rattle.pram_board.specs.Seats.{IsLoad, KnowsConflict, hears_all, unites}
use Rattle.pram_board.specs.declared.work.Stay.TheVariants as stay
use Rattle.pram_board.specs.Worked.{EndShows, Worked}
use Rattle.walkx.specs.declared.operation.Ended.{Ended}
use Rattle.walkx.specs.declared.operation.Ended.TheVariants as ended
use Rattle.std.proofs.lemmas.Option.{none-some}
use Rattle.pram_run.specs.Inner.Hearing.{HasTold}
use Rattle.pram_run.specs.Inner.Obeying.{AllEndOrStop, AllWorked, EndsOrStops, IsContinued}
use Rattle.pram_run.proofs.Records.{HasAll, begins_self, begins_trans, begins_afters, begins_all}
use Rattle.pram_run.proofs.Records.{left_all, right_all, heard_all, shows_all, shows_earlier}

-- ---- a seat goes on

pub goes_self : (p : SeatData) → IsContinued p p
goes_self p = record { desk = refl; begins = begins_self p.record_of }

pub goes_trans : (p q r : SeatData) → IsContinued p q → IsContinued q r → IsContinued p r
goes_trans p q r h k = record {
  desk = k.desk ∙ h.desk;
  begins = begins_trans p.record_of q.record_of r.record_of h.begins k.begins;
}

pub goes_all : (p q : SeatData) (steps : List (Op × ℕ)) → q ≡ hears_all p steps → IsContinued p q
goes_all p q steps is = record {
  desk = ap (λ (s : SeatData). s.desk) is;
  begins = subst (λ (s : SeatData). BeginsWith p.record_of s.record_of)
      (sym is) (begins_afters p.record_of steps);
}

pub goes_united : (first p q later : SeatData) → later ≡ unites p q → IsContinued first p →
    IsContinued first q → IsContinued first later
goes_united first p q later is h k = record {
  desk = ap (λ (s : SeatData). s.desk) is ∙ h.desk;
  begins = subst (λ (s : SeatData). BeginsWith first.record_of s.record_of)
      (sym is) (inr (h.begins, k.begins));
}

-- ---- the end

-- what the type of a seat keeps, of the board that it is of
pub sound_at : (d : Desk) (p : SeatData) → p.desk ≡ d →
    Sound p.desk.task.job p.desk.task.layout p.record_of →
    Sound d.task.job d.task.layout p.record_of
sound_at d p is sound =
    subst (λ (x : Desk). Sound x.task.job x.task.layout p.record_of) is sound

pub end_all : (t : Task) (r later : Record) → HasAll r later → ShowsEnd t r → ShowsEnd t later
end_all t r later all (inl s) = inl (shows_all t.layout r later t.job.steps all s)
end_all t r later all (inr s) = inr (s.0, s.1, heard_all t.layout r later Conflict s.0 all s.2)

-- a worker that has worked without a limit shows the end
pub worked_ends : (d : Desk) (p : SeatData) (w : Walking) (q : SeatData) (now : Walking)
    (stay : Stay) → q.desk ≡ d → Worked d.task p w None q now stay →
    ShowsEnd q.desk.task q.record_of
worked_ends d p w q now (stay.Ended how) is worked =
    subst (λ (x : Desk). ShowsEnd x.task q.record_of) (sym is) (by how (subst
    (EndShows d.task q.record_of) worked.stays worked.shows))
  where
    by : (e : Ended) → EndShows d.task q.record_of (Some e) → ShowsEnd d.task q.record_of
    by ended.Done shows = inl shows.shows
    by (ended.Conflict u) shows = inr (
      u,
      (let step = shows.1.step in
          let first = shows.1.is.first.step in λ none. absurd (omega arith)),
      shows.0,
    )
worked_ends d p w q now stay.Stopped is worked = absurd (none-some _ worked.stays.0)

-- ---- joined seats

pub ends_front : (rows : List Row) (worker : ℕ) (p q later : SeatData) → later ≡ unites p q →
    EndsOrStops rows worker p → EndsOrStops rows worker later
ends_front rows worker p q later is h =
    subst (λ (s : SeatData). EndsOrStops rows worker s) (sym is) (by h)
  where
    by : EndsOrStops rows worker p → EndsOrStops rows worker (unites p q)
    by (inl s) = inl (end_all p.desk.task p.record_of (both p.record_of q.record_of)
        (left_all p.record_of q.record_of) s)
    by (inr s) = inr s

pub ends_back : (rows : List Row) (worker : ℕ) (p q later : SeatData) → q.desk ≡ p.desk →
    later ≡ unites p q → EndsOrStops rows worker q → EndsOrStops rows worker later
ends_back rows worker p q later desk is h =
    subst (λ (s : SeatData). EndsOrStops rows worker s) (sym is) (by h)
  where
    by : EndsOrStops rows worker q → EndsOrStops rows worker (unites p q)
    by (inl s) = inl (subst (λ (d : Desk). ShowsEnd d.task (both p.record_of q.record_of)) desk
        (end_all q.desk.task q.record_of (both p.record_of q.record_of)
        (right_all p.record_of q.record_of) s))
    by (inr s) = inr s

-- ---- progress

-- after a load of word 0 as 0, no conflict was ever heard
none_heard : (job : JobData) (y : LayoutData) (r : Record) (named u : ℕ) →
    Sound job y (after r (Load (number_of y Conflict)) named) → named ≡ 0 → u ≢ 0 →
    Heard y (after r (Load (number_of y Conflict)) named) Conflict u → ⊥
none_heard job y r named u sound zero some heard = by heard.has
  where
    by : (◌≡◌ {A = Op × ℕ} (heard.op, u) (Load (number_of y Conflict), named) × Unit {0})
        ⊎ Has r ((heard.op, u) ∷ []) → ⊥
    by (inl now) = some (ap (λ (e : Op × ℕ). e.1) now.0 ∙ zero)
    by (inr earlier) =
        let m = sound.backed in
        some (sym (m.heard ∙ conflict_now job y r u m.words m.earlier
        (record { op = heard.op; hears = heard.hears; has = earlier }) some) ∙ zero)

none_named : (n : ℕ) (o : Option ℕ) →
    o ≡ (if n == 0 then None else Some n) → is_some o ≡ false → n ≡ 0
none_named n o e f = elim (cases_Bool (n == 0)) [
  | inl same ↦ eqb-true n 0 same
  | inr apart ↦ absurd (let g : is_some o ≡ true = ap is_some (rw apart at e) in cc)
]

some_named : (n : ℕ) (o : Option ℕ) →
    o ≡ (if n == 0 then None else Some n) → is_some o ≡ true → n ≢ 0
some_named n o e f = elim (cases_Bool (n == 0)) [
  | inl same ↦ absurd (let g : is_some o ≡ false = ap is_some (rw same at e) in cc)
  | inr apart ↦ eqb-false n 0 apart
]

heard_named : (t : Task) (p q : SeatData) (progress : Progress) (h : Progressed t p q progress) →
    Heard t.layout q.record_of Conflict h.named
heard_named t p q progress h =
    subst (λ (x : SeatData). Heard t.layout x.record_of Conflict h.named) (sym h.is)
    (record { op = Load (number_of t.layout Conflict); hears = refl; has = inl (refl, tt) })

-- a conflict is heard
pub progress_heard : (t : Task) (p q : SeatData) (progress : Progress) → Progressed t p q progress →
    is_some progress.conflict ≡ true → KnowsConflict t.layout q.record_of
progress_heard t p q progress h some =
    record {
      step = h.named;
      some = some_named h.named progress.conflict h.conflict some;
      heard = heard_named t p q progress h;
    }

pub progress_goes : (t : Task) (p q : SeatData) (progress : Progress) →
    Progressed t p q progress → IsContinued p q
progress_goes t p q progress h = goes_all p q ((Load (number_of t.layout Conflict), h.named)
    ∷ (Load (number_of t.layout (Node 1)), h.root) ∷ []) h.is

-- where no conflict is heard and the last step is not seen, the end is not shown
unended : (t : Task) (p q : SeatData) (progress : Progress) →
    Progressed t p q progress → Sound t.job t.layout q.record_of →
    is_some progress.conflict ≡ false → progress.step < t.job.steps → ShowsEnd t q.record_of → ⊥
unended t p q progress h sound none low (inl shows) =
    let most : t.job.steps ≤ progress.step = h.well.seen t.job.steps shows in absurd (omega arith)
unended t p q progress h sound none low (inr s) =
    none_heard t.job t.layout
    (after p.record_of (Load (number_of t.layout (Node 1))) h.root) h.named s.0
    (subst (λ (x : SeatData). Sound t.job t.layout x.record_of) h.is sound)
    (none_named h.named progress.conflict h.conflict none) s.1
    (subst (λ (x : SeatData). Heard t.layout x.record_of Conflict s.0) h.is s.2)

-- ---- seats that go on by their steps

pub worked_goes : (t : Task) (p : SeatData) (w : Walking) (limit : Option ℕ) (q : SeatData)
    (now : Walking) (stay : Stay) → Worked t p w limit q now stay → IsContinued p q
worked_goes t p w limit q now stay h =
    goes_all p q h.by.steps h.by.seat

pub loads_go : (n : ℕ) (p q : SeatData) → HasLoaded n p q → IsContinued p q
loads_go n p q h = goes_all p q h.steps h.is

pub same_goes : (p q : SeatData) → q ≡ p → IsContinued p q
same_goes p q is = subst (λ (x : SeatData). IsContinued p x) (sym is) (goes_self p)

pub shows_goes : (y : LayoutData) (p q : SeatData) (t : ℕ) → IsContinued p q →
    Shows y p.record_of t → Shows y q.record_of t
shows_goes y p q t goes s =
    shows_all y p.record_of q.record_of t (begins_all p.record_of q.record_of goes.begins) s

-- ---- loads of a look

afters_both : (r : Record) (first next : List (Op × ℕ)) →
    afters (afters r first) next ≡ afters r (next ++ first)
afters_both r first [] = refl
afters_both r first (e ∷ es) = ap (λ (s : Record). after s e.0 e.1) (afters_both r first es)

loads_both : (xs ys : List (Op × ℕ)) → AllByRecursion (λ (e : Op × ℕ). IsLoad e.0) xs →
    AllByRecursion (λ (e : Op × ℕ). IsLoad e.0) ys →
    AllByRecursion (λ (e : Op × ℕ). IsLoad e.0) (xs ++ ys)
loads_both [] ys h k = k
loads_both (x ∷ xs) ys h k = (h.0, loads_both xs ys h.1 k)

pub looked_more : (p q r : SeatData) → HasLooked p q → HasLooked q r → HasLooked p r
looked_more p q r h k = (
  length (k.1.steps ++ h.1.steps),
  record {
    steps = k.1.steps ++ h.1.steps;
    is = k.1.is ∙ ap (λ (x : SeatData). hears_all x k.1.steps) h.1.is
        ∙ ap (λ (s : Record). (let x : SeatData = record { desk = p.desk; record_of = s } in x))
        (afters_both p.record_of h.1.steps k.1.steps);
    loads = loads_both k.1.steps h.1.steps k.1.loads h.1.loads;
    count = refl;
  },
)

pub looked_same : (p q : SeatData) → q ≡ p → HasLooked p q
looked_same p q is = (0, record { steps = []; is = is; loads = tt; count = refl })

pub looked_goes : (p q : SeatData) → HasLooked p q → IsContinued p q
looked_goes p q h = loads_go h.0 p q h.1

pub progress_looks : (t : Task) (p q : SeatData) (progress : Progress) →
    Progressed t p q progress → HasLooked p q
progress_looks t p q progress h = (
  2,
  record {
    steps = (Load (number_of t.layout Conflict), h.named)
        ∷ (Load (number_of t.layout (Node 1)), h.root) ∷ [];
    is = h.is;
    loads = (tt, (tt, tt));
    count = refl;
  },
)

-- without a conflict it is one of an unfinished answer
none_is : (o : Option ℕ) → is_some o ≡ false → o ≡ None
none_is None none = refl
none_is (Some n) none = cc none

pub unfinished_looks : (t : Task) (p q : SeatData) (progress : Progress) →
    Progressed t p q progress → is_some progress.conflict ≡ false →
    LooksFor t p q (Unfinished progress.step)
unfinished_looks t p q progress h none = record {
  root = h.root;
  named = h.named;
  is = h.is;
  step = h.step;
  conflict = sym (none_is progress.conflict none) ∙ h.conflict;
  well = h.well;
}

pub looks_looked : (t : Task) (p q : SeatData) (a : RunAnswer) → LooksFor t p q a → HasLooked p q
looks_looked t p q (Final cells) h = h
looks_looked t p q (answer.Conflict fault) h = h
looks_looked t p q (Unfinished step) h =
    progress_looks t p q (record { step = step; conflict = None }) h

-- ---- what a look tells

-- the last step is shown
pub last_shown : (t : Task) (p q : SeatData) (progress : Progress) → Progressed t p q progress →
    t.job.steps ≤ progress.step → Shows t.layout q.record_of t.job.steps
last_shown t p q progress h le =
    shows_earlier t.layout q.record_of progress.step t.job.steps le h.well.shows

-- the conflict that was heard is the one that is answered
pub conflict_shown : (t : Task) (p q later : SeatData) (progress : Progress) (fault : Fault) →
    Progressed t p q progress → is_some progress.conflict ≡ true →
    IsContinued q later → IsFault t.job fault → Heard t.layout later.record_of Conflict fault.step
conflict_shown t p q later progress fault h some goes is =
    let c = h.well.conflict (some_named h.named progress.conflict h.conflict some) in
    let same : h.named ≡ fault.step = sym c.step
    ∙ ap (λ (f : Fault). f.step) (one_conflict t.job c.fault fault c.is.first is.first) in
    subst (λ (u : ℕ). Heard t.layout later.record_of Conflict u) same
    (heard_all t.layout q.record_of later.record_of Conflict h.named
    (begins_all q.record_of later.record_of goes.begins) (heard_named t p q progress h))

pub conflict_told : (t : Task) (p q later : SeatData) (progress : Progress) (fault : Fault) →
    Progressed t p q progress → is_some progress.conflict ≡ true → HasLooked q later →
    Sound t.job t.layout later.record_of → IsFault t.job fault →
    HasTold t p later (answer.Conflict fault)
conflict_told t p q later progress fault h some looked sound is = record {
  looks = looked_more p q later (progress_looks t p q progress h) looked;
  sound = sound;
  tells = (
    is,
    conflict_shown t p q later progress fault h some (looked_goes q later looked) is,
  );
}

pub final_told : (t : Task) (p q later : SeatData) (progress : Progress) (cells : List ℕ) →
    Progressed t p q progress → t.job.steps ≤ progress.step → HasLooked q later →
    Sound t.job t.layout later.record_of → IsAnswer t.job (Final cells) →
    HasTold t p later (Final cells)
final_told t p q later progress cells h le looked sound is = record {
  looks = looked_more p q later (progress_looks t p q progress h) looked;
  sound = sound;
  tells = (
    is,
    shows_goes t.layout q later t.job.steps (looked_goes q later looked)
        (last_shown t p q progress h le),
  );
}

-- there is an answer, also where memory is refused to tell it
pub conflict_exists : (t : Task) (p q later : SeatData) (progress : Progress) →
    Progressed t p q progress → is_some progress.conflict ≡ true → HasLooked q later →
    Sound t.job t.layout later.record_of → (a : RunAnswer) × HasTold t p later a
conflict_exists t p q later progress h some looked sound =
    let c = h.well.conflict (some_named h.named progress.conflict h.conflict some) in (
      answer.Conflict c.fault,
      conflict_told t p q later progress c.fault h some looked sound c.is,
    )

pub final_exists : (t : Task) (p q later : SeatData) (progress : Progress) →
    Progressed t p q progress → t.job.steps ≤ progress.step → HasLooked q later →
    Sound t.job t.layout later.record_of → (a : RunAnswer) × HasTold t p later a
final_exists t p q later progress h le looked sound =
    let cells : List ℕ = take t.job.cells (state_after t.job t.job.steps) in (
      Final cells,
      final_told t p q later progress cells h le looked sound (
        state_after t.job t.job.steps,
        record { reached = λ earlier lt. h.well.reached earlier (omega arith); state = refl },
        refl,
      ),
    )

pub unfinished_told : (t : Task) (p q : SeatData) (progress : Progress) →
    Progressed t p q progress → Sound t.job t.layout q.record_of →
    is_some progress.conflict ≡ false → progress.step < t.job.steps →
    HasTold t p q (Unfinished progress.step)
unfinished_told t p q progress h sound none low = record {
  looks = unfinished_looks t p q progress h none;
  sound = sound;
  tells = record {
    seen = record { shows = h.well.shows; most = h.well.seen };
    reached = h.well.reached;
    below = low;
    unended = λ shows. unended t p q progress h sound none low shows;
  };
}

pub ok_tells : {E : Type 0} (t : Task) (p later : SeatData) (r : Result RunAnswer E) →
    IfOk r (HasTold t p later) → IfOk r (Tells t later.record_of)
ok_tells t p later (Ok a) h = h.tells
ok_tells t p later (Err e) h = h

-- ---- an act of a row

pub acts_goes : (a : Act) (t : Task) (number ticks : ℕ) (p : SeatData) (w : Walking) (q : SeatData)
    (now : Walking) → Acts a t number ticks p w q now → IsContinued p q
acts_goes act.Go t number ticks p w q now h = worked_goes t p w (Some ticks) q now h.0 h.1
acts_goes act.Sleep t number ticks p w q now h = same_goes p q h.0
acts_goes act.Back t number ticks p w q now h = same_goes p q h.0
acts_goes act.Stop t number ticks p w q now h = same_goes p q h.0

-- ---- the answer of a run

not_shown : (t : Task) (r : Record) (a : RunAnswer) → IsUnfinished a →
    Tells t r a → ShowsEnd t r → ⊥
not_shown t r (Final cells) un h shows = un
not_shown t r (answer.Conflict fault) un h shows = un
not_shown t r (Unfinished step) un h shows = h.unended shows

pub answered_at : (t : Task) (plan : PlanData) (p later : SeatData) (a : RunAnswer) →
    p.desk.task ≡ t → (IsUnfinished a → AllEndOrStop plan p) → HasTold t p later a →
    IsAnswered t plan p later a
answered_at t plan p later a is all h = record {
  looks = h.looks;
  sound = h.sound;
  told = record {
    tells = h.tells;
    stops = λ un worker lt. elim (all un worker lt) [
      | inl shows ↦ absurd (not_shown t later.record_of a un h.tells
          (end_all t p.record_of later.record_of (begins_all p.record_of later.record_of
          (looked_goes p later (looks_looked t p later a h.looks)).begins)
          (subst (λ (x : Task). ShowsEnd x p.record_of) is shows)))
      | inr stops ↦ stops
    ];
  };
}

pub run_of : {E : Type 0} (t : Task) (plan : PlanData) (given p later : SeatData)
    (r : Result RunAnswer E) → p.desk.task ≡ t → AllWorked t plan given p →
    IfOk r (HasTold t p later) → IfOk r (HasRun t plan given later)
run_of t plan given p later (Ok a) is all h = record {
  seat = p;
  obeyed = all.obeyed;
  answered = answered_at t plan p later a is (λ un. all.ends) h;
}
run_of t plan given p later (Err e) is all h = h

-- all that ended or stopped did so to a seat that is joined
pub all_front : (plan : PlanData) (p q later : SeatData) → later ≡ unites p q →
    AllEndOrStop plan p → AllEndOrStop plan later
all_front plan p q later is all worker lt = ends_front plan.rows worker p q later is (all worker lt)
