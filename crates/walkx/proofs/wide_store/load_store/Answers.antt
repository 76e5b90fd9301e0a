use Rattle.walkx.proofs.Kept.{instr_comes, known_then, none_comes}
use Rattle.walkx.proofs.Passing.{passed}
use Rattle.walkx.proofs.Turning.{comes_to, moved}
use Rattle.walkx.proofs.wide_store.load_store.Goals as goal

pub load_memo-requires : goal.load_memo-requires
load_memo-requires g c =
    let r = c.requires.next in
    record {
      next = record {
        from = r.from;
        after = r.after;
        next = known_then c.args.leaf.now r.after r.next;
        here = r.here;
      };
    }

pub returns-in_err-known-clause-plays : goal.returns-in_err-known-clause-plays
returns-in_err-known-clause-plays g c =
    rw (passed c.from_residual.result _ c.from_residual.ensures.1) (record {
      on = λ from after next here. c.in_err-known.ensures.plays.on from after
          (known_then c.args.leaf.now after next) here;
    })

pub returns-in-None-clause-plays : goal.returns-in-None-clause-plays
returns-in-None-clause-plays g c =
    let at = c.args.leaf.now in
    record {
      on = λ from after next here. moved (g.S.Steps.stands at) from _ _ _
          (none_comes at after next c.in_ok-known.known c.in-None.ensures.value)
          (c.in_ok-known.ensures.plays.on from after (known_then at after next) here);
    }

pub returns-in-Some-clause-plays : goal.returns-in-Some-clause-plays
returns-in-Some-clause-plays g c =
    let at = c.args.leaf.now in
    rw c.store_by.ensures.value (record {
      on = λ from after next here. comes_to (g.S.Steps.stands at) from _ _ _
          (instr_comes at after next c.in_ok-known.known c.in-Some.instr.now
          c.in-Some.ensures.value)
          (c.in_ok-known.ensures.plays.on from after (known_then at after next) here);
    })
