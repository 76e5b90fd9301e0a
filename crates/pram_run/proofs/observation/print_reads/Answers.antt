use Rattle.std.proofs.Common.{◌≡◌, ℕ, [], ◌++◌, refl, subst, arith}
use Rattle.std.proofs.lemmas.List.{nil_from_length}
use Rattle.pram_run.specs.PutReads.{PutWatch}
use Rattle.pram_run.proofs.Reading.{passed_all, put_begun, put_more, put_round, put_watch}
use Rattle.pram_run.proofs.Watches.{reads_go}
use Rattle.pram_run.proofs.observation.print_reads.Goals as goal

pub loop-init : goal.loop-init
loop-init g c = record {
  desk = c.requires.seat;
  few = omega arith;
  room = c.requires.room;
  put = put_begun _ c.args.shared.now.board.now.task c.args.shared.now.cells.now
      0 c.args.seat.now _ _ _ _
      (nil_from_length _ (omega (arith, c.requires.empty, c.args.sights.now.ok)))
      c.begin_sights-printed.ensures.ok c.begin_sights-printed.ensures.beginning;
  failed = c.begin_sights-printed.ensures.failed;
}

pub loop-preserved : goal.loop-preserved
loop-preserved g c =
    let was = c.loop.invariant in
    let read = c.read_next.ensures in
    let passed = c.pass_sights-printed.ensures in
    record {
      desk = read.desk;
      few = passed.few;
      room = omega (arith, was.room, read.capacity, passed.capacity);
      put = put_more _ _ _ _ _ _ _ _ _ _ _ _ _
          (put_round _ _ _ _ _ _ _ _ _ _ _ _ was.put read.reads) passed.passed;
      failed = passed.failed;
    }

pub returns-clause-reads : goal.returns-clause-reads
returns-clause-reads g c =
    let shared = c.args.shared.now in
    let all : c.loop.counter ≡ shared.rounds = omega arith in
    subst (λ (n : ℕ). PutWatch (g.C.CellNames.words c.args.names.now) shared.board.now.task shared.cells.now n
    c.args.seat.now c.loop.seat (g.W.Sink.taken c.args.sink.now)
    (g.W.Sink.taken c.put_after.new.sink) c.put_after.result) all
    (put_watch _ _ _ _ _ _ _ _ _
    (put_more _ _ _ _ _ _ _ [] _ _ _ _ _ c.loop.invariant.put
    (passed_all _ _ _ _ _ _ _ [] c.as_slice.ensures.value refl c.put_after.ensures.put)))

pub returns-clause-goes_on : goal.returns-clause-goes_on
returns-clause-goes_on g c =
    let put = c.loop.invariant.put in
    reads_go _ _ _ (put.gone ++ c.loop.sights.items) put.reads
