use Rattle.walkx.proofs.Passing.{passed}
use Rattle.walkx.specs.Parts.{decides_cell, decides_with}
use Rattle.walkx.proofs.request.decide.Goals as goal

pub read_operands-requires-clause-next : goal.read_operands-requires-clause-next
read_operands-requires-clause-next g c =
    let r = c.requires.next in
    record {
      from = r.from;
      after = r.after;
      next = decides_cell c.args.leaf.now c.args.counter c.args.instr r.after r.next;
      here = r.here;
    }

pub returns-in_err-a-clause-plays : goal.returns-in_err-a-clause-plays
returns-in_err-a-clause-plays g c =
    rw (passed c.from_residual.result _ c.from_residual.ensures.1) (record {
      on = λ from after next here.
          c.in_err-a.ensures.plays.on from after
          (decides_cell c.args.leaf.now c.args.counter c.args.instr after next) here;
    })

pub read_cell-requires-clause-next : goal.read_cell-requires-clause-next
read_cell-requires-clause-next g c =
    let r = c.requires.next in
    record {
      from = r.from;
      after = r.after;
      next = decides_with c.args.leaf.now c.args.counter c.args.instr r.next
          (c.in_ok-a.a, c.in_ok-a.b);
      here = c.in_ok-a.ensures.plays.on r.from r.after
          (decides_cell c.args.leaf.now c.args.counter c.args.instr r.after r.next) r.here;
    }

pub returns-in_err-value-clause-plays : goal.returns-in_err-value-clause-plays
returns-in_err-value-clause-plays g c =
    rw (passed c.from_residual-in_err-value.result _ c.from_residual-in_err-value.ensures.1)
    (record {
      on = λ from after next here.
          c.in_err-value.ensures.plays.on from after
          (decides_with c.args.leaf.now c.args.counter c.args.instr next (c.in_ok-a.a, c.in_ok-a.b))
          (c.in_ok-a.ensures.plays.on from after
          (decides_cell c.args.leaf.now c.args.counter c.args.instr after next) here);
    })

pub returns-clause-plays : goal.returns-clause-plays
returns-clause-plays g c = rw c.request.ensures.value (record {
  on = λ from after next here.
      c.in_ok-value.ensures.plays.on from after
      (decides_with c.args.leaf.now c.args.counter c.args.instr next (c.in_ok-a.a, c.in_ok-a.b))
      (c.in_ok-a.ensures.plays.on from after
      (decides_cell c.args.leaf.now c.args.counter c.args.instr after next) here);
})
