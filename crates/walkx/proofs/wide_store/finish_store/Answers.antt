use Rattle.walkx.specs.WideParts.{write_left}
use Rattle.walkx.proofs.Passing.{passed}
use Rattle.walkx.proofs.wide_store.finish_store.Goals as goal

pub report_if-requires : goal.report_if-requires
report_if-requires g c =
    let at = c.args.leaf.now in
    let r = c.requires.due in
    record {
      next = record {
        from = r.from;
        after = r.after;
        next = λ done. write_left at.job.rule at c.args.write r.after;
        here = r.here;
      };
    }

pub returns-in_err-report_if : goal.returns-in_err-report_if
returns-in_err-report_if g c =
    let at = c.args.leaf.now in
    rw (passed c.from_residual.result _ c.from_residual.ensures.1) (record {
      ends = record {
        on = λ from after here. c.in_err-report_if.ensures.plays.on from after
            (λ done. write_left at.job.rule at c.args.write after) here;
      };
    })

pub write_last-requires-clause-due : goal.write_last-requires-clause-due
write_last-requires-clause-due g c =
    let at = c.args.leaf.now in
    let r = c.requires.due in
    record {
      from = r.from;
      after = r.after;
      here = c.in_ok-report_if.ensures.plays.on r.from r.after
          (λ done. write_left at.job.rule at c.args.write r.after) r.here;
    }

pub returns : goal.returns
returns g c =
    let at = c.args.leaf.now in
    record {
      ends = record {
        on = λ from after here. c.write_last.ensures.ends.on from after
            (c.in_ok-report_if.ensures.plays.on from after
            (λ done. write_left at.job.rule at c.args.write after) here);
      };
    }
