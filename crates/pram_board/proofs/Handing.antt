-- What a driver's work comes to for whom it was made.
use Rattle.std.proofs.Common.{◌≡◌, ℕ, Option, Some, None, subst, sym}
use Rattle.walkx.specs.Walk.{Walking}
use Rattle.pram_board.specs.declared.task.Task.{Task}
use Rattle.pram_board.specs.declared.until.Until.{Until}
use Rattle.pram_board.specs.declared.work.Stay.{Stay}
use Rattle.pram_board.specs.Seats.{SeatData}
use Rattle.pram_board.specs.Worked.{Worked, WorkedAs}
use Rattle.pram_board.specs.Inner.Until.{StaysUntil, limit_in, until_of}

pub worked_for : (until : Until) (one other : Task) (before before' later later' : SeatData)
    (walking now : Walking) (stay : Stay) → one ≡ other → before ≡ before' → later' ≡ later
    → WorkedAs (StaysUntil until) one before walking (limit_in until) later now stay
    → WorkedAs (StaysUntil until) other before' walking (limit_in until) later' now stay
worked_for until one other before before' later later' walking now stay task seat ends made =
    let T : Task → Type 0 =
    λ t. WorkedAs (StaysUntil until) t before walking (limit_in until) later now stay in
    let B : SeatData → Type 0 =
    λ s. WorkedAs (StaysUntil until) other s walking (limit_in until) later now stay in
    let L : SeatData → Type 0 =
    λ s. WorkedAs (StaysUntil until) other before' walking (limit_in until) s now stay in
    subst L (sym ends) (subst B seat (subst T task made))

-- up to a limit, if there is one
pub worked_limit : (until : Until) (limit : Option ℕ) (task : Task) (before later : SeatData)
    (walking now : Walking) (stay : Stay) → until ≡ until_of limit
    → WorkedAs (StaysUntil until) task before walking (limit_in until) later now stay
    → Worked task before walking limit later now stay
worked_limit until limit task before later walking now stay is made =
    of limit (subst (λ (u : Until).
    WorkedAs (StaysUntil u) task before walking (limit_in u) later now stay) is made)
  where
    of : (limit : Option ℕ)
        → WorkedAs (StaysUntil (until_of limit)) task before walking (limit_in (until_of limit))
        later now stay
        → Worked task before walking limit later now stay
    of None made = made
    of (Some most) made = made
