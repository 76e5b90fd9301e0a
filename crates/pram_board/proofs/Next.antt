-- A worker's next operation.
use Rattle.std.proofs.Common.{◌≡◌, None, refl, subst}
use Rattle.walkx.specs.declared.operation.Op.{Op}
use Rattle.walkx.specs.Doing.{Doing}
use Rattle.walkx.specs.Doing as doing
use Rattle.walkx.specs.Walk.{Walking, IsGoing, AsksAdmitted, IsStepOn, ask_of, end_of}
use Rattle.pram_board.specs.declared.task.Task.{Task}
use Rattle.pram_board.specs.Inner.Next.{IsNextOperation}

pub none_of : (d : Doing) → IsGoing d → end_of d ≡ None
none_of doing.Back going = refl
none_of doing.Begin going = refl
none_of (doing.Turn q) going = refl
none_of (doing.Part q rank) going = refl
none_of (doing.Over e) going = absurd going

-- so for the task that lies inside the board
pub is_next : (u t : Task) (w : Walking) (op : Op) → u ≡ t → op ≡ ask_of u.job u.layout w →
    AsksAdmitted u.job u.layout op → (end_of w.now ≡ None → IsStepOn u.layout op) →
    IsNextOperation t w op
is_next u t w op same is admitted step = subst (λ (x : Task). IsNextOperation x w op) same (record {
  is = is;
  admitted = admitted;
  step = step;
})
