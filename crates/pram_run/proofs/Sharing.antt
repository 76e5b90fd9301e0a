-- What holds of what threads share holds of the parts that it was made of.
use Rattle.std.proofs.Common.{◌≡◌, ℕ, List, subst}
use Rattle.stop_plan.specs.Plan.{PlanData}
use Rattle.pram_board.specs.Seats.{Desk}

pub of_shared : (P : Desk → PlanData → List ℕ → ℕ → Type 0) (desk made : Desk)
    (plan obeyed : PlanData) (cells listed : List ℕ) (rounds count : ℕ) →
    desk ≡ made → plan ≡ obeyed → cells ≡ listed → rounds ≡ count →
    P desk plan cells rounds → P made obeyed listed count
of_shared P desk made plan obeyed cells listed rounds count board workers list number h =
    subst (λ (n : ℕ). P made obeyed listed n) number
    (subst (λ (l : List ℕ). P made obeyed l rounds) list
    (subst (λ (d : Desk). P d obeyed cells rounds) board
    (subst (λ (p : PlanData). P desk p cells rounds) workers h)))
