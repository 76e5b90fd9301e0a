use Rattle.pram_run.proofs.runner.obey_row.Goals as goal

pub returns-in-Back-clause-works : goal.returns-in-Back-clause-works
returns-in-Back-clause-works g c =
    let task = c.args.shared.now.board.now.task in
    record {
      desk = c.requires.works.desk;
      serves = c.back_with.ensures.serves task.job task.layout c.requires.worker;
      knows = c.back_with.ensures.known task.job task.layout c.args.seat.now.record_of
          c.requires.worker;
    }
