-- The ticks of `work`, which goes on by one or by many, and the looks between them.
use Rattle.std.proofs.Common.{◌≡◌, ◌≢◌, ◌⊎◌, ℕ, ◌+◌, ◌-◌, ◌*◌, ◌%◌, ◌^◌, ◌<◌, ◌≤◌, Bool}
use Rattle.std.proofs.Common.{List, [], ◌++◌, length, Option, Some, None, IfSome, eqb, eqb-true}
use Rattle.std.proofs.Common.{true, false, true≢false, refl, sym, ap, subst, ◌∙◌, inl, inr, arith}
use Rattle.std.proofs.lemmas.Bool.{eqb-false, leb-false, leb-true}
use Rattle.std.proofs.lemmas.List.{length-append}
use Rattle.std.proofs.lemmas.Option.{none-some}
use Rattle.std.specs.Option.{is_some}
use Rattle.walkx.specs.Bound.{own_step_bound}
use Rattle.walkx.specs.declared.operation.Ended.{Ended}
use Rattle.walkx.specs.declared.operation.Op.{Op}
use Rattle.walkx.specs.Inner.Workers.{WorkerData}
use Rattle.walkx.specs.Records.{Knows}
use Rattle.walkx.specs.Serving.{Serves}
use Rattle.walkx.specs.Walk.{Walking, Fits, end_of}
use Rattle.walk_memory.specs.Blocks.{IsBoard}
use Rattle.lawful_walk.specs.Moments.{Sound}
use Rattle.pram_board.specs.declared.rest.Patience.{Patience}
use Rattle.pram_board.specs.declared.task.Task.{Task}
use Rattle.pram_board.specs.declared.until.Until.{Until}
use Rattle.pram_board.specs.declared.until.Until.TheVariants.{End, Most, Least}
use Rattle.pram_board.specs.declared.work.Stay.{Stay}
use Rattle.pram_board.specs.declared.work.Stay.TheVariants as stay
use Rattle.pram_board.specs.Seats.{Desk, SeatData, IsLater}
use Rattle.pram_board.specs.Worked.{Advanced, Ticked, WorkedAs, Works}
use Rattle.pram_board.specs.Inner.Plays.{Driving, OnlyLooked, IsAt, IsWalking, Led, Roamed, Went}
use Rattle.pram_board.specs.Inner.Plays.{RoamedThrough, WorkerGoesOn}
use Rattle.pram_board.specs.Inner.Until.{EndsSoon, StaysUntil, is_reached, limit_in}
use Rattle.pram_board.proofs.Roaming.{advanced_few, advanced_more, advanced_ran, later_advanced}
use Rattle.pram_board.proofs.Roaming.{merges_length, roamed_looks, roamed_more, roamed_none}
use Rattle.pram_board.proofs.Roaming.{roamed_went, steps_length}
use Rattle.pram_board.proofs.Told.{shows_end}
use Rattle.pram_board.proofs.Telling.{went_more}
use Rattle.pram_board.proofs.Works.{bound_small, ran_none, ran_on}

count_once : (m n : ℕ) → n ≡ (m + 1) % 2 ^ 64 → n % 2 ^ 64 ≡ (m + 1) % 2 ^ 64
count_once m n is = omega arith

below_once : (m n : ℕ) → n ≡ (m + 1) % 2 ^ 64 → n < 2 ^ 64
below_once m n is = omega arith

-- a worker that goes with a board, at the start of its ticks
pub record Begun (b : Desk) (p : SeatData) (w : Walking) : Type 0 where
  pub board : IsBoard b.task.job b.task.layout
  pub fits : Fits b.task.job b.task.layout w
  pub knows : Knows b.task.job b.task.layout p.record_of w

-- ---- whole turns

-- what was done in a phase so far, and how much patience is left
pub record Ranged (t : Task) (p : Driving × ℕ) (w : Walking) (d : Driving × Patience)
    (now : Walking) : Type 0 where
  pub roamed : Roamed t p w (d.0, d.1.looks) now
  pub most : length roamed.by.answers ≤ own_step_bound t.job
  pub few : 2 * d.1.looks + d.1.left ≤ d.0.made
  pub left : d.1.left ≤ 512

pub ranged_none : (t : Task) (p : Driving) (patience : Patience) (w : Walking) →
    2 * patience.looks + patience.left ≤ p.made → patience.left ≤ 512 →
    Ranged t (p, patience.looks) w (p, patience) w
ranged_none t p patience w few left = record {
  roamed = roamed_none t (p, patience.looks) w (omega arith);
  most = omega arith;
  few = few;
  left = left;
}

-- and with looks and a visit more
pub record Visited (t : Task) (p : Driving × ℕ) (w : Walking) (had : Driving × Patience)
    (z : Driving × Patience) (now : Walking) : Type 0 where
  pub ranged : Ranged t p w z now
  pub some : 1 ≤ length ranged.roamed.by.answers
  pub nearer : p.0.made + own_step_bound t.job + z.1.looks - (p.1 + z.0.made)
      < p.0.made + own_step_bound t.job + had.1.looks - (p.1 + had.0.made)

module _ (t : Task) (p : Driving × ℕ) (w : Walking) (q : Driving) (had : Patience) (v : Walking)
    (board : IsBoard t.job t.layout) (start : p.0.made < 2 ^ 60)
    (ranged : Ranged t p w (q, had) v) where
  -- there is room for more
  pub room_left : q.made < 2 ^ 62
  room_left =
      let small = bound_small t board in let most = ranged.most in
      let made = ranged.roamed.made in let looks = ranged.roamed.looks in
      let few = ranged.roamed.few in omega arith

  pub visited : Fits t.job t.layout w → Knows t.job t.layout p.0.seat.record_of w →
      (r : Driving) (has : Patience) → OnlyLooked t q had r has → (z : Driving) (now : Walking) →
      (went : Went t r v z now) → 1 ≤ went.ticks → end_of now.now ≡ None →
      Sound t.job t.layout z.seat.record_of → Visited t p w (q, had) (z, has) now
  visited fits knows r has looked z now went some none sound =
      let roamed = ranged.roamed in
      let enough = ranged.few in
      let before : Roamed t p w (r, has.looks) v =
      roamed_more t p w (q, had.looks) v (r, has.looks) v roamed
      (roamed_looks t q had r has v looked enough) in
      let all : Advanced t p.0.seat w z.seat now = advanced_more t p.0.seat w r.seat v z.seat now
      before.by (advanced_ran t r.seat v went.ticks z.seat now went.ran) in
      let bound = advanced_few t p.0.seat w z.seat now board fits knows all sound none in
      let count = went.ran.count in
      let answers = length-append went.ran.answers roamed.by.answers in
      let small = bound_small t board in
      let room = room_left in
      let made = looked.made in let counted = looked.count in let spent = looked.left in
      let most = ranged.left in
      let ticks : went.ticks < 2 ^ 58 = omega arith in
      let on : Roamed t (r, has.looks) v (z, has.looks) now =
      roamed_went t r has.looks v z now (omega arith) went (omega arith) in
      let both : Roamed t p w (z, has.looks) now =
      roamed_more t p w (r, has.looks) v (z, has.looks) now before on in
      let made_all = both.made in let made_on = on.made in
      let made_before = roamed.made in let looks_before = roamed.looks in
      record {
        ranged = record {
          roamed = both;
          most = omega arith;
          few = omega arith;
          left = omega arith;
        };
        some = omega arith;
        nearer = omega arith;
      }

-- what a seat at a board has heard is sound
pub sound_at : (t : Task) (d : Driving) → IsAt t d →
    Sound d.seat.desk.task.job d.seat.desk.task.layout d.seat.record_of →
    Sound t.job t.layout d.seat.record_of
sound_at t d here sound =
    subst (λ (u : Task). Sound u.job u.layout d.seat.record_of)
    (ap (λ (b : Desk). b.task) here.desk ∙ here.task) sound

-- one tick goes on in any case, and whole turns where there is no limit
pub goes_once : (p q : Driving) (looks : ℕ) (w now : WorkerData) →
    Ticked p.desk.task p.seat w.walking q.seat now.walking → Works q.desk q.seat now →
    q.desk ≡ p.desk → q.made ≡ (p.made + 1) % 2 ^ 64 → p.made < 2 ^ 60 → 2 * looks ≤ p.made →
    WorkerGoesOn true (p, looks) w (q, looks) now
goes_once p q looks w now ticked works desk count room few = record {
  roamed = roamed_went p.desk.task p looks w.walking q now.walking few (record {
    ticks = 1;
    ran = ran_on p.desk.task p.seat w.walking 0 p.seat w.walking q.seat now.walking ticked
        (ran_none p.desk.task p.seat w.walking);
    desk = desk;
    count = count_once p.made q.made count;
    small = λ h. below_once p.made q.made count;
  }) (omega arith);
  some = omega arith;
  single = inl (refl, refl);
  works = works;
}

pub goes_any : (limited : Bool) (p q : Driving × ℕ) (w now : WorkerData) →
    WorkerGoesOn true p w q now → WorkerGoesOn limited p w q now
goes_any limited p q w now goes =
    record {
      roamed = goes.roamed;
      some = goes.some;
      single = elim goes.single [ inl one ↦ inl one | inr far ↦ absurd (true≢false far.0) ];
      works = goes.works;
    }

pub goes_free : (limited : Bool) (p q : Driving × ℕ) (w now : WorkerData) → limited ≡ false →
    WorkerGoesOn false p w q now → WorkerGoesOn limited p w q now
goes_free limited p q w now is goes =
    subst (λ (b : Bool). WorkerGoesOn b p w q now) (sym is) goes

-- whole turns, up to one that has the worker begin
pub goes_far : (p q : Driving × ℕ) (w now : WorkerData) →
    RoamedThrough p.0.desk.task p w.walking q now.walking → Works q.0.desk q.0.seat now →
    end_of now.walking.now ≡ None → WorkerGoesOn false p w q now
goes_far p q w now led works none =
    record { roamed = led.roamed; some = led.some; single = inr (refl, none); works = works }

pub led_more : (t : Task) (p : Driving) (w : Walking) (q : Driving) (mid : Walking) (z : Driving)
    (now : Walking) → Went t p w q mid → Led t q mid z now → Led t p w z now
led_more t p w q mid z now first second = record {
  walks = second.walks;
  went = went_more t p w q mid z now first second.went;
  some = (let h = second.some in omega arith);
}

-- ---- the worker that the code has, and its board

pub walks_of : (t : Task) (d : Driving) (w v : Walking) → t ≡ d.desk.task → w ≡ v →
    d.seat.desk ≡ d.desk → IsBoard d.desk.task.job d.desk.task.layout →
    Fits d.desk.task.job d.desk.task.layout w →
    Knows d.desk.task.job d.desk.task.layout d.seat.record_of w → IsWalking t d v
walks_of t d w v same is desk board fits knows =
    subst (λ (x : Task × Walking). IsWalking x.0 d x.1) (λ i. (sym same i, is i)) (record {
      here = record { desk = desk; task = refl; board = board };
      fits = fits;
      knows = knows;
    })

pub led_as : (t u : Task) (p q : Driving × ℕ) (w w' now now' : Walking) → t ≡ u → w ≡ w' →
    now ≡ now' → RoamedThrough t p w q now → RoamedThrough u p w' q now'
led_as t u p q w w' now now' same is is_too led =
    subst (λ (x : Task × Walking × Walking). RoamedThrough x.0 p x.1 q x.2)
    (λ i. (same i, is i, is_too i)) led

pub works_on : (p q : Driving × ℕ) (w : WorkerData) (first : Walking) →
    RoamedThrough p.0.desk.task p first q w.walking →
    Serves p.0.desk.task.job p.0.desk.task.layout w → Works q.0.desk q.0.seat w
works_on p q w first led serves =
    subst (λ (b : Desk). Works b q.0.seat w) (sym led.roamed.desk) (record {
      desk = led.walks.here.desk ∙ led.roamed.desk;
      serves = serves;
      knows = led.walks.knows;
    })

-- ---- all of `work`

-- what was done since its start
pub record Sofar (b : Desk) (p : Driving) (w : Walking) (until : Until) (d : Driving × ℕ)
    (now : Walking) : Type 0 where
  pub roamed : Roamed b.task (p, 0) w d now
  pub most : length roamed.by.answers ≤ own_step_bound b.task.job
  pub within : IfSome (limit_in until)
      (λ bound. (roamed.by.looks ≡ []) × (length roamed.by.answers ≤ bound))
  pub soon : EndsSoon until (length roamed.by.answers) now

pub sofar_none : (b : Desk) (p : Driving) (w : Walking) (until : Until) → p.made ≡ 0 →
    Sofar b p w until (p, 0) w
sofar_none b p w until none = record {
  roamed = roamed_none b.task (p, 0) w (omega (arith, none));
  most = omega arith;
  within = within_none (limit_in until);
  soon = soon_none until;
}
  where
    within_none : (o : Option ℕ) →
        IfSome o (λ bound. (◌≡◌ {A = List (Op × ℕ)} [] []) × (0 ≤ bound))
    within_none None = tt
    within_none (Some k) = (refl, omega arith)

    soon_none : (until : Until) → EndsSoon until 0 w
    soon_none End = tt
    soon_none (Most most) = tt
    soon_none (Least least) = inr (omega arith)

-- a limit that is not reached leaves room for one tick
within_more : (until : Until) (limited : Bool) (looks looks_on : List (Op × ℕ))
    (answers answers_on : List ℕ) (ended : Type 0) → limited ≡ is_some (limit_in until) →
    is_reached until (length answers) ≡ false →
    IfSome (limit_in until) (λ k. (looks ≡ []) × (length answers ≤ k)) →
    ((length answers_on ≡ 1) × (looks_on ≡ [])) ⊎ ((limited ≡ false) × ended) →
    IfSome (limit_in until)
    (λ k. (looks_on ++ looks ≡ []) × (length (answers_on ++ answers) ≤ k))
within_more End limited looks looks_on answers answers_on ended some apart within single = tt
within_more (Least least) limited looks looks_on answers answers_on ended some apart within single =
    tt
within_more (Most k) limited looks looks_on answers answers_on ended some apart within single =
    elim single [
      | inl one ↦ (
          let more = length-append answers_on answers in
          let unlike : k ≢ length answers = eqb-false k (length answers) apart in
          let most = within.1 in
          (rw (one.1, within.0) refl, omega arith))
      | inr far ↦ absurd (true≢false (sym some ∙ far.0))
    ]

-- one that is not reached lets a worker end by one tick, and no turns end it
soon_more : (until : Until) (limited : Bool) (looks_on : List (Op × ℕ)) (answers answers_on : List ℕ)
    (now : Walking) → is_reached until (length answers) ≡ false →
    ((length answers_on ≡ 1) × (looks_on ≡ [])) ⊎ ((limited ≡ false) × (end_of now.now ≡ None)) →
    EndsSoon until (length (answers_on ++ answers)) now
soon_more End limited looks_on answers answers_on now apart single = tt
soon_more (Most most) limited looks_on answers answers_on now apart single = tt
soon_more (Least least) limited looks_on answers answers_on now apart single = elim single [
  | inl one ↦ inr (
      let more = length-append answers_on answers in
      let few = leb-false least (length answers) apart in
      let single = one.0 in omega arith)
  | inr far ↦ inl far.1
]

-- the ticks are what was made, looks apart
pub reached_there : (b : Desk) (p : Driving) (w : Walking) (until : Until) (d : Driving) (looks : ℕ)
    (now : Walking) → p.made ≡ 0 → (sofar : Sofar b p w until (d, looks) now) → (reached : Bool) →
    is_reached until (d.made - looks) ≡ reached →
    is_reached until (length sofar.roamed.by.answers) ≡ reached
reached_there b p w until d looks now none sofar reached is =
    let made = sofar.roamed.made in let count = sofar.roamed.looks in
    let same : d.made - looks ≡ length sofar.roamed.by.answers =
    omega (arith, made, count, none) in
    subst (λ (n : ℕ). is_reached until n ≡ reached) same is

module _ (p : Driving) (w : Walking) (until : Until) (d : Driving) (looks : ℕ)
    (mid : WorkerData) (e : Driving) (looks_on : ℕ) (now : WorkerData) (none : p.made ≡ 0)
    (begun : Begun d.desk p.seat w)
    (sofar : Sofar d.desk p w until (d, looks) mid.walking)
  where
    -- there is room for more
    pub room_far : d.made < 2 ^ 60
    room_far =
        let small = bound_small d.desk.task begun.board in
        let made = sofar.roamed.made in let count = sofar.roamed.looks in
        let few = sofar.roamed.few in let most = sofar.most in omega arith

    module _ (sound : Sound d.desk.task.job d.desk.task.layout d.seat.record_of) (limited : Bool)
        (goes : WorkerGoesOn limited (d, looks) mid (e, looks_on) now)
        (sound_too : Sound e.desk.task.job e.desk.task.layout e.seat.record_of)
        (going : end_of mid.walking.now ≡ None) where
      abbrev both : Roamed d.desk.task (p, 0) w (e, looks_on) now.walking
      both = roamed_more d.desk.task (p, 0) w (d, looks) mid.walking (e, looks_on) now.walking
          sofar.roamed goes.roamed

      before : length sofar.roamed.by.answers < own_step_bound d.desk.task.job
      before = advanced_few d.desk.task p.seat w d.seat mid.walking begun.board begun.fits
          begun.knows sofar.roamed.by sound going

      few : length both.by.answers ≤ own_step_bound d.desk.task.job
      few = elim goes.single [
        | inl one ↦ (
            let more = length-append goes.roamed.by.answers sofar.roamed.by.answers in
            let single = one.0 in let h = before in omega arith)
        | inr far ↦ (
            let h = advanced_few d.desk.task p.seat w e.seat now.walking begun.board begun.fits
            begun.knows both.by
            (subst (λ (b : Desk). Sound b.task.job b.task.layout e.seat.record_of)
            goes.roamed.desk sound_too) far.1 in omega arith)
      ]

      pub sofar_on : limited ≡ is_some (limit_in until) →
          is_reached until (d.made - looks) ≡ false →
          Sofar e.desk p w until (e, looks_on) now.walking
      sofar_on some apart =
          let far = reached_there d.desk p w until d looks mid.walking none sofar false apart in
          subst (λ (b : Desk). Sofar b p w until (e, looks_on) now.walking) (sym goes.roamed.desk)
          (record {
            roamed = both;
            most = few;
            within = within_more until limited sofar.roamed.by.looks goes.roamed.by.looks
                sofar.roamed.by.answers goes.roamed.by.answers _ some far sofar.within goes.single;
            soon = soon_more until limited goes.roamed.by.looks sofar.roamed.by.answers
                goes.roamed.by.answers now.walking far goes.single;
          })

      pub nearer : own_step_bound e.desk.task.job + looks_on - e.made
          < own_step_bound d.desk.task.job + looks - d.made
      nearer =
          subst (λ (b : Desk). own_step_bound b.task.job + looks_on - e.made
          < own_step_bound d.desk.task.job + looks - d.made) (sym goes.roamed.desk)
          (let more = length-append goes.roamed.by.answers sofar.roamed.by.answers in
          let some = goes.some in let h = before in let bound = few in let k = both.made in
          let l = both.looks in let m = sofar.roamed.made in let n = sofar.roamed.looks in
          omega arith)

-- it stops where it goes no further
pub stays_there : (until : Until) (ticks : ℕ) (now : Walking) → is_reached until ticks ≡ true →
    end_of now.now ≡ None → StaysUntil until ticks now stay.Stopped
stays_there End ticks now is going = absurd (true≢false (sym is))
stays_there (Most most) ticks now is going = (ap (λ (n : ℕ). Some n) (eqb-true most ticks is), going)
stays_there (Least least) ticks now is going = (leb-true least ticks is, going)

pub ends_there : (until : Until) (ticks : ℕ) (now : Walking) (ended : Ended) →
    EndsSoon until ticks now → end_of now.now ≡ Some ended →
    StaysUntil until ticks now (stay.Ended ended)
ends_there End ticks now ended soon is = is
ends_there (Most most) ticks now ended soon is = is
ends_there (Least least) ticks now ended soon is =
    elim soon [ inl going ↦ absurd (none-some ended (sym going ∙ is)) | inr few ↦ (few, is) ]

pub record Finished (b : Desk) (p : SeatData) (w : Walking) (until : Until) (q : SeatData)
    (now : WorkerData) (stay : Stay) : Type 0 where
  pub worked : WorkedAs (StaysUntil until) b.task p w (limit_in until) q now.walking stay
  pub later : IsLater b p q
  pub works : Works b q now

pub finished : (b : Desk) (p : Driving) (w : Walking) (until : Until) (d : Driving) (looks : ℕ)
    (now : WorkerData) (stays_as : Stay) → p.made ≡ 0 → d.desk ≡ b → Works d.desk d.seat now →
    Sound d.desk.task.job d.desk.task.layout d.seat.record_of →
    (sofar : Sofar d.desk p w until (d, looks) now.walking) →
    StaysUntil until (length sofar.roamed.by.answers) now.walking stays_as →
    Finished b p.seat w until d.seat now stays_as
finished b p w until d looks now stays_as none same works sound sofar stays =
    let by = sofar.roamed.by in
    let made = sofar.roamed.made in let count = sofar.roamed.looks in let few = sofar.roamed.few in
    let most = sofar.most in
    let more : length by.looks ≤ length by.answers = omega arith in
    let all = merges_length _ by.looks by.steps by.all in
    let own = steps_length d.desk.task w by.answers in
    subst (λ (x : Desk). Finished x p.seat w until d.seat now stays_as) same (record {
      worked = record {
        by = by;
        all = omega arith;
        most = most;
        looks = more;
        within = sofar.within;
        stays = stays;
        shows = shows_end d.desk.task d.seat.record_of now.walking (end_of now.walking.now) refl
            sound works.serves.fits works.knows;
      };
      later = later_advanced d.desk p.seat w d.seat now.walking works.desk by;
      works = works;
    })
