-- Ticks of a worker and looks between them.
use Rattle.std.proofs.Common.{◌≡◌, ℕ, ◌+◌, ◌*◌, ◌%◌, ◌^◌, ◌<◌, ◌≤◌, List, [], ◌∷◌, ◌++◌, length, None}
use Rattle.std.proofs.Common.{refl, sym, ap, subst, inl, inr, ◌∙◌, arith}
use Rattle.std.proofs.lemmas.List.{length-append}
use Rattle.std.specs.List.{AllByRecursion}
use Rattle.pram_words.specs.declared.words.Word.TheVariants.{Node}
use Rattle.pram_words.specs.Words.{LayoutData, length_of, number_of}
use Rattle.walkx.specs.Bound.{told_all, history_of, own_step_bound}
use Rattle.walkx.specs.declared.operation.Op.{Op}
use Rattle.walkx.specs.declared.operation.Op.TheVariants.{Load}
use Rattle.walkx.specs.Records.{Record, Has, Knows}
use Rattle.walkx.specs.Walk.{Walking, Fits, IsGoing, end_of}
use Rattle.walkx.proofs.Knowing.{has_more}
use Rattle.walk_memory.specs.Blocks.{IsBoard}
use Rattle.lawful_walk.specs.Moments.{Sound, afters}
use Rattle.lawful_walk.specs.Walks.{steps_heard}
use Rattle.lawful_walk.proofs.Bounding.{history_known}
use Rattle.lawful_walk.proofs.Sounding.{sound_steps}
use Rattle.pram_board.specs.declared.rest.Patience.{Patience}
use Rattle.pram_board.specs.declared.task.Task.{Task}
use Rattle.pram_board.specs.Rules.{May}
use Rattle.pram_board.specs.Seats.{Desk, SeatData, IsLater, hears, hears_all}
use Rattle.pram_board.specs.Worked.{Advanced, IsLook, Merges}
use Rattle.pram_board.specs.Inner.Plays.{Driving, OnlyLooked, IsAt, IsWalking, Led, Ran, Roamed, Went}
use Rattle.pram_board.proofs.Begins.{has_afters}
use Rattle.pram_board.proofs.Playing.{afters_more}
use Rattle.pram_board.proofs.Remembering.{remembers_more, still_knows}
use Rattle.pram_board.proofs.Steps.{may_load}
use Rattle.pram_board.proofs.Telling.{steps_more, told_more}
use Rattle.pram_board.proofs.Told.{going_of}
use Rattle.pram_board.proofs.Works.{bound_small, exactly}

abbrev Steps : Type 0
Steps = List (Op × ℕ)

-- ---- lists that are merged

pub merges_first : (xs : Steps) → Merges xs [] xs
merges_first [] = (refl, refl)
merges_first (x ∷ xs) = inl (xs, refl, merges_first xs)

pub merges_second : (xs : Steps) → Merges [] xs xs
merges_second [] = (refl, refl)
merges_second (x ∷ xs) = inr (xs, refl, merges_second xs)

pub merges_more : (first second all : Steps) → Merges first second all → (xs ys zs : Steps) →
    Merges xs ys zs → Merges (xs ++ first) (ys ++ second) (zs ++ all)
merges_more first second all before xs ys [] more =
    subst (λ (lists : Steps × Steps). Merges (lists.0 ++ first) (lists.1 ++ second) all)
    (λ i. (sym more.0 i, sym more.1 i)) before
merges_more first second all before xs ys (z ∷ zs) (inl h) = inl (
  h.0 ++ first,
  ap (λ (list : Steps). list ++ first) h.1,
  merges_more first second all before h.0 ys zs h.2,
)
merges_more first second all before xs ys (z ∷ zs) (inr h) = inr (
  h.0 ++ second,
  ap (λ (list : Steps). list ++ second) h.1,
  merges_more first second all before xs h.0 zs h.2,
)

pub merges_length : (xs ys zs : Steps) → Merges xs ys zs → length zs ≡ length xs + length ys
merges_length xs ys [] m =
    let a : length xs ≡ 0 = ap (λ (list : Steps). length list) m.0 in
    let b : length ys ≡ 0 = ap (λ (list : Steps). length list) m.1 in
    omega arith
merges_length xs ys (z ∷ zs) (inl h) =
    let a : length xs ≡ length (z ∷ h.0) = ap (λ (list : Steps). length list) h.1 in
    let b = merges_length h.0 ys zs h.2 in
    omega arith
merges_length xs ys (z ∷ zs) (inr h) =
    let a : length ys ≡ length (z ∷ h.0) = ap (λ (list : Steps). length list) h.1 in
    let b = merges_length xs h.0 zs h.2 in
    omega arith

-- what a record has by the first list, it has by both
has_merged : (r : Record) (xs ys zs : Steps) → Merges xs ys zs → (es : Steps) →
    Has (afters r xs) es → Has (afters r zs) es
has_merged r xs ys [] m es has = subst (λ (list : Steps). Has (afters r list) es) m.0 has
has_merged r xs ys (z ∷ zs) (inl h) [] has = tt
has_merged r xs ys (z ∷ zs) (inl h) (e ∷ es) has =
    elim (subst (λ (list : Steps). Has (afters r list) (e ∷ es)) h.1 has) [
      | inl last ↦ inl (last.0, has_merged r h.0 ys zs h.2 es last.1)
      | inr early ↦ inr (has_merged r h.0 ys zs h.2 (e ∷ es) early)
    ]
has_merged r xs ys (z ∷ zs) (inr h) es has =
    has_more (afters r zs) z.0 z.1 es (has_merged r xs h.0 zs h.2 es has)

pub steps_length : (t : Task) (w : Walking) (answers : List ℕ) →
    length (steps_heard t.job t.layout w answers) ≡ length answers
steps_length t w [] = refl
steps_length t w (found ∷ earlier) = let h = steps_length t w earlier in omega arith

pub each_more : (y : LayoutData) (xs ys : Steps) →
    AllByRecursion (λ (look : Op × ℕ). IsLook y look.0) xs →
    AllByRecursion (λ (look : Op × ℕ). IsLook y look.0) ys →
    AllByRecursion (λ (look : Op × ℕ). IsLook y look.0) (xs ++ ys)
each_more y [] ys first second = second
each_more y (x ∷ xs) ys first second = (first.0, each_more y xs ys first.1 second)

-- ---- ticks and looks, one after the other

abbrev pub advanced_ran : (t : Task) (p : SeatData) (w : Walking) (n : ℕ) (q : SeatData) (now : Walking) →
    Ran t p w n q now → Advanced t p w q now
advanced_ran t p w n q now ran = record {
  answers = ran.answers;
  looks = [];
  steps = steps_heard t.job t.layout w ran.answers;
  all = merges_first (steps_heard t.job t.layout w ran.answers);
  each = tt;
  seat = ran.seat;
  worker = ran.worker;
}

abbrev pub advanced_none : (t : Task) (p : SeatData) (w : Walking) → Advanced t p w p w
advanced_none t p w = record {
  answers = [];
  looks = [];
  steps = [];
  all = (refl, refl);
  each = tt;
  seat = refl;
  worker = refl;
}

abbrev pub advanced_more : (t : Task) (p : SeatData) (w : Walking) (q : SeatData) (mid : Walking)
    (z : SeatData) (now : Walking) → Advanced t p w q mid → Advanced t q mid z now →
    Advanced t p w z now
advanced_more t p w q mid z now first second = record {
  answers = second.answers ++ first.answers;
  looks = second.looks ++ first.looks;
  steps = second.steps ++ first.steps;
  all = subst (λ (own : Steps). Merges own (second.looks ++ first.looks)
      (second.steps ++ first.steps)) (sym (steps_more t w second.answers first.answers))
      (merges_more _ _ _ first.all _ _ _
      (subst (λ (v : Walking). Merges (steps_heard t.job t.layout v second.answers)
      second.looks second.steps) first.worker second.all));
  each = each_more t.layout second.looks first.looks second.each first.each;
  seat = second.seat ∙ ap (λ (x : SeatData). hears_all x second.steps) first.seat
      ∙ ap (λ (r : Record). record { desk = p.desk; record_of = r })
      (sym (afters_more p.record_of first.steps second.steps));
  worker = second.worker ∙ ap (λ (v : Walking). told_all t.job t.layout v second.answers)
      first.worker ∙ sym (told_more t w second.answers first.answers);
}

-- a worker that is going has made fewer ticks than the bound
pub advanced_few : (t : Task) (p : SeatData) (w : Walking) (q : SeatData) (now : Walking) →
    IsBoard t.job t.layout → Fits t.job t.layout w → Knows t.job t.layout p.record_of w →
    (by : Advanced t p w q now) → Sound t.job t.layout q.record_of → end_of now.now ≡ None →
    length by.answers < own_step_bound t.job
advanced_few t p w q now board fits knows by sound none =
    let going : IsGoing (told_all t.job t.layout w by.answers).now =
    subst (λ (v : Walking). IsGoing v.now) by.worker (going_of now.now none) in
    let own = steps_heard t.job t.layout w by.answers in
    let has : Has (afters p.record_of by.steps) (history_of t.job t.layout w by.answers) =
    has_merged p.record_of own by.looks by.steps by.all (history_of t.job t.layout w by.answers)
    (history_known t.job t.layout p.record_of w by.answers knows) in
    sound_steps t.job t.layout (afters p.record_of by.steps) w by.answers board fits
    (subst (λ (z : SeatData). Sound t.job t.layout z.record_of) by.seat sound) has going

pub later_advanced : (d : Desk) (p : SeatData) (w : Walking) (q : SeatData) (now : Walking) →
    q.desk ≡ d → Advanced d.task p w q now → IsLater d p q
later_advanced d p w q now desk by =
    record { desk = desk; keeps = remembers_more p q by.steps by.seat }

-- ---- the same, counted

abbrev pub roamed_none : (t : Task) (p : Driving × ℕ) (w : Walking) → 2 * p.1 ≤ p.0.made →
    Roamed t p w p w
roamed_none t p w few = record {
  by = advanced_none t p.0.seat w;
  desk = refl;
  made = omega arith;
  looks = omega arith;
  few = few;
}

abbrev pub roamed_more : (t : Task) (p : Driving × ℕ) (w : Walking) (q : Driving × ℕ) (mid : Walking)
    (z : Driving × ℕ) (now : Walking) → Roamed t p w q mid → Roamed t q mid z now →
    Roamed t p w z now
roamed_more t p w q mid z now first second =
    let answers = length-append second.by.answers first.by.answers in
    let looks = length-append second.by.looks first.by.looks in
    let a = first.made in let b = second.made in let c = first.looks in let d = second.looks in
    record {
      by = advanced_more t p.0.seat w q.0.seat mid z.0.seat now first.by second.by;
      desk = second.desk ∙ first.desk;
      made = omega arith;
      looks = omega arith;
      few = second.few;
    }

-- looks, which are at most as many as there is patience
abbrev pub roamed_looks : (t : Task) (p : Driving) (had : Patience) (q : Driving) (has : Patience)
    (w : Walking) → OnlyLooked t p had q has → 2 * had.looks + had.left ≤ p.made →
    Roamed t (p, had.looks) w (q, has.looks) w
roamed_looks t p had q has w looked few =
    let a = looked.made in let b = looked.count in let c = looked.left in
    record {
      by = record {
        answers = [];
        looks = looked.looks;
        steps = looked.looks;
        all = merges_second looked.looks;
        each = looked.each;
        seat = looked.seat;
        worker = refl;
      };
      desk = looked.desk;
      made = omega arith;
      looks = omega arith;
      few = omega arith;
    }

-- and the worker is where it was
pub walks_looked : (t : Task) (p : Driving) (had : Patience) (q : Driving) (has : Patience)
    (w : Walking) → OnlyLooked t p had q has → IsWalking t p w → IsWalking t q w
walks_looked t p had q has w looked walks = record {
  here = record {
    desk = ap (λ (x : SeatData). x.desk) looked.seat ∙ walks.here.desk ∙ sym looked.desk;
    task = ap (λ (d : Desk). d.task) looked.desk ∙ walks.here.task;
    board = walks.here.board;
  };
  fits = walks.fits;
  knows = still_knows t p.seat.record_of q.seat.record_of
      (remembers_more p.seat q.seat looked.looks looked.seat) w walks.knows;
}

-- few ticks are counted exactly
abbrev pub roamed_went : (t : Task) (p : Driving) (looks : ℕ) (w : Walking) (q : Driving) (now : Walking) →
    2 * looks ≤ p.made → (went : Went t p w q now) → p.made + went.ticks < 2 ^ 64 →
    Roamed t (p, looks) w (q, looks) now
roamed_went t p looks w q now few went small =
    let count = went.ran.count in
    let is : q.made ≡ p.made + went.ticks =
    exactly p.made q.made went.ticks went.count (went.small (omega arith)) small in
    record {
      by = advanced_ran t p.seat w went.ticks q.seat now went.ran;
      desk = went.desk;
      made = omega arith;
      looks = omega arith;
      few = omega arith;
    }

-- ---- looks, one after the other

pub looked_none : (t : Task) (p : Driving) (patience : Patience) → OnlyLooked t p patience p patience
looked_none t p patience = record {
  looks = [];
  each = tt;
  seat = refl;
  desk = refl;
  made = omega arith;
  count = omega arith;
  left = omega arith;
}

pub may_look : (t : Task) (d : Driving) (word : ℕ) → IsAt t d → word < length_of t.layout →
    May d.desk.task d.seat.record_of (Load word)
may_look t d word here below =
    subst (λ (u : Task). May u d.seat.record_of (Load word)) (sym here.task)
    (may_load t d.seat.record_of word below)

-- one look more
module _ (t : Task) (p : Driving) (had : Patience) (d : Driving) (mid : Patience)
    (looked : OnlyLooked t p had d mid) (word node found : ℕ) (some : 1 ≤ node)
    (most : node < 2 * t.layout.leaves) (word_is : word ≡ number_of t.layout (Node node))
    (e : Driving) (has : Patience) (desk : e.desk ≡ d.desk)
    (grows : e.seat ≡ hears d.seat (Load word) found) where
  pub still_here : IsAt t d → IsAt t e
  still_here here = record {
    desk = ap (λ (x : SeatData). x.desk) grows ∙ here.desk ∙ sym desk;
    task = ap (λ (b : Desk). b.task) desk ∙ here.task;
    board = here.board;
  }

  pub looked_more : e.made ≡ (d.made + 1) % 2 ^ 64 → has.looks ≡ mid.looks + 1 →
      has.left + 1 ≡ mid.left → p.made < 2 ^ 62 → had.left ≤ 512 → OnlyLooked t p had e has
  looked_more count looks left small few =
      let made_before = looked.made in let count_before = looked.count in
      let left_before = looked.left in
      record {
        looks = (Load word, found) ∷ looked.looks;
        each = ((node, some, most, ap (λ (w : ℕ). Load w) word_is), looked.each);
        seat = grows ∙ ap (λ (x : SeatData). hears x (Load word) found) looked.seat;
        desk = desk ∙ looked.desk;
        made = omega arith;
        count = omega arith;
        left = omega arith;
      }
