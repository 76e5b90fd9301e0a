use Rattle.std.proofs.Common.{◌≡◌, ℕ, List, [], length, map, vec_capacity}
use Rattle.std.proofs.Common.{refl, sym, ap, subst, ◌∙◌, arith}
use Rattle.std.specs.List.{repeat}
use Rattle.std.proofs.lemmas.List.{nil_from_length}
use Rattle.pram_run.specs.Watching.{HasRead}
use Rattle.pram_run.specs.declared.sight.Sight.{Sight}
use Rattle.pram_run.proofs.Watches.{is_watch, round_more, count_more, room_more, reads_go}
use Rattle.pram_run.proofs.watcher.read_all.Goals as goal

pub loop-init : goal.loop-init
loop-init g c =
    let none : c.args.sights.items ≡ [] =
    nil_from_length c.args.sights.items (omega (arith, c.requires.empty, c.args.sights.ok)) in
    record {
      desk = c.requires.seat;
      reads = subst (λ (ss : List Sight).
          HasRead c.args.shared.now.board.now.task c.args.seat ss c.args.seat) (sym none) refl;
      listed = ap (map (λ (s : Sight). s.cell)) none;
      len = omega arith;
      capacity = refl;
    }

pub read_round-requires-clause-room : goal.read_round-requires-clause-room
read_round-requires-clause-room g c =
    let was = c.loop.invariant in
    let more = room_more c.loop.counter c.args.shared.now.rounds (length c.args.shared.now.cells.now)
    (vec_capacity c.args.sights) c.loop-test.true c.requires.room in
    omega (arith, was.len, was.capacity)

pub loop-preserved : goal.loop-preserved
loop-preserved g c =
    let was = c.loop.invariant in
    let now = c.read_round.ensures in record {
      desk = now.desk;
      reads = now.reads.reads [] c.args.seat was.reads;
      listed = round_more c.loop.counter c.args.shared.now.cells.now _ _ now.reads.cells was.listed;
      len = omega (
        arith,
        count_more c.loop.counter (length c.args.shared.now.cells.now),
        was.len,
        now.len,
      );
      capacity = now.capacity ∙ was.capacity;
    }

pub returns-clause-goes_on : goal.returns-clause-goes_on
returns-clause-goes_on g c =
    reads_go c.args.shared.now.board.now.task c.args.seat c.loop.seat _ c.loop.invariant.reads

pub returns-clause-watch : goal.returns-clause-watch
returns-clause-watch g c =
    let was = c.loop.invariant in
    let all : c.loop.counter ≡ c.args.shared.now.rounds = omega arith in
    is_watch c.args.shared.now.board.now.task
    c.args.shared.now.cells.now c.args.shared.now.rounds c.args.seat c.loop.sights.items c.loop.seat
    (subst (λ (n : ℕ). map (λ (s : Sight). s.cell) c.loop.sights.items
    ≡ repeat n c.args.shared.now.cells.now) all was.listed) was.reads
