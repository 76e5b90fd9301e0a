use Rattle.std.proofs.Common.{◌≡◌, ℕ, List, [], ◌∷◌, ◌++◌, get_or, refl, sym, subst, ◌∙◌}
use Rattle.std.proofs.Common.{append_assoc, arith}
use Rattle.std.proofs.lemmas.List.{append-nil}
use Rattle.walkx.specs.declared.operation.Reading.{Reading}
use Rattle.walkx.specs.declared.operation.Reading.TheVariants.{At}
use Rattle.pram_board.specs.Seats.{WasRead}
use Rattle.pram_run.specs.Watching.{HasRead}
use Rattle.pram_run.specs.declared.sight.Sight.{Sight}
use Rattle.pram_run.proofs.Watches.{has_read_more, listed_more}
use Rattle.pram_run.proofs.watcher.read_round.Goals as goal

pub loop-cell-init : goal.loop-cell-init
loop-cell-init g c = record {
  desk = c.requires.seat;
  reads = λ front p h. h;
  listed = sym (append-nil _);
  len = omega arith;
  capacity = refl;
}

pub loop-cell-preserved : goal.loop-cell-preserved
loop-cell-preserved g c =
    let was = c.loop-cell.invariant in
    let task = c.args.shared.now.board.now.task in
    let seat = c.loop-cell.seat in
    let next = c.read.new.seat in
    let sight : Sight = c.sight_of-sight.result in
    let cell : sight.cell ≡ get_or c.args.shared.now.cells.now c.loop-cell.cell-index 0 =
    c.sight_of-sight.ensures.cell in
    let read : WasRead task seat next sight.cell (At sight.step sight.value) =
    subst (λ (r : Reading). WasRead task seat next sight.cell r) c.sight_of-sight.ensures.tells
    (subst (λ (n : ℕ). WasRead task seat next n c.read.result) (sym cell) c.read.ensures.read) in
    let items = c.push_reserved.ensures.items in record {
      desk = c.read.ensures.later.desk;
      reads = λ front p h.
          subst (λ (ss : List Sight). HasRead task p (front ++ ss) next) (sym items)
          (subst (λ (ss : List Sight). HasRead task p ss next)
          (append_assoc front c.loop-cell.sights.items (sight ∷ []))
          (has_read_more task p seat next (front ++ c.loop-cell.sights.items) sight
          (was.reads front p h) read));
      listed =
          listed_more _ c.args.shared.now.cells.now c.loop-cell.cell-index c.loop-cell.sights.items
          c.push_reserved.new.self.items sight c.loop-cell-test.true items cell was.listed;
      len = omega (arith, c.push_reserved.ensures.len, was.len);
      capacity = c.push_reserved.ensures.capacity ∙ was.capacity;
    }
