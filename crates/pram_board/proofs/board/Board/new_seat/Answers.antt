use Rattle.std.proofs.Common.{◌<◌, ap, ap₂, sym, subst, ◌∙◌}
use Rattle.atomic_table.specs.Seated.{TableId}
use Rattle.pram_words.specs.Words.{length_of}
use Rattle.walkx.specs.declared.operation.Op.TheVariants.{Load}
use Rattle.walkx.specs.Records.{Record, empty, after}
use Rattle.pram_board.specs.declared.task.Task.{Task}
use Rattle.pram_board.specs.Seats.{Desk, SeatData}
use Rattle.pram_board.proofs.Keeps.{M, entering}
use Rattle.pram_board.proofs.Memory.{no_loads, one_load}
use Rattle.pram_board.proofs.Steps.{may_load, some_words}
use Rattle.pram_board.proofs.board.Board.new_seat.Goals as goal

pub load_new_seat-seat-requires : goal.load_new_seat-seat-requires
load_new_seat-seat-requires c =
    let some = some_words _ _ (c.self.invariant.2).layout c.self.invariant.1 in
    let key : 0 < length_of c.self.inside.table.shared.key.layout =
    subst (λ (t : Task). 0 < length_of t.layout) (sym c.self.invariant.0)
    (subst (λ n. 0 < n) c.self.invariant.1 some) in
    (some, entering _ _ 0 (may_load _ empty 0 key))

pub returns-clause-seen : goal.returns-clause-seen
returns-clause-seen c =
    let e = c.load_new_seat-seat.ensures in
    let found = c.load_new_seat-seat.result.0 in
    let at : TableId → Task → Record → SeatData =
    λ i t r. record { desk = record { id = i; task = t }; record_of = r } in
    let seen : Record = after empty (Load 0) found in
    let p : SeatData = record { desk = c.args.self.now; record_of = empty } in
    one_load 0 0 found p p _ (no_loads p)
    (ap₂ (λ (i : TableId) (m : M). at i m.0.task m.0.heard) e.0 e.2.0
    ∙ ap (λ (t : Task). at c.self.inside.table.shared.table_id t seen) c.self.invariant.0
    ∙ ap (λ (d : Desk). record { desk = d; record_of = seen }) c.self.view_is)
