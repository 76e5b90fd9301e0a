use Rattle.walkx.proofs.Passing.{passed}
use Rattle.walkx.specs.Parts.{raises}
use Rattle.walkx.proofs.request.execute.Goals as goal

pub decide-requires-clause-next : goal.decide-requires-clause-next
decide-requires-clause-next g c =
    let r = c.requires.due in
    record {
      from = r.from;
      after = r.after;
      next = λ request. raises c.args.leaf.now request r.after;
      here = r.here;
    }

pub returns-in_err-request : goal.returns-in_err-request
returns-in_err-request g c =
    rw (passed c.from_residual.result _ c.from_residual.ensures.1) (record {
      ends = record {
        on = λ from after here. c.in_err-request.ensures.plays.on from after
            (λ request. raises c.args.leaf.now request after) here;
      };
    })

pub raise_request-requires-clause-due : goal.raise_request-requires-clause-due
raise_request-requires-clause-due g c =
    let r = c.requires.due in
    record {
      from = r.from;
      after = r.after;
      here = c.in_ok-request.ensures.plays.on r.from r.after
          (λ request. raises c.args.leaf.now request r.after) r.here;
    }

pub returns : goal.returns
returns g c = record {
  ends = record {
    on = λ from after here. c.raise_request.ensures.ends.on from after
        (c.in_ok-request.ensures.plays.on from after
        (λ request. raises c.args.leaf.now request after) here);
  };
}
