use Rattle.std.proofs.Common.{[], ◌∷◌}
use Rattle.walkx.specs.WideParts.{landed_from}
use Rattle.walkx.proofs.Passing.{passed}
use Rattle.walkx.proofs.wide_own.land_own.Goals as goal

pub land_register-requires-clause-next : goal.land_register-requires-clause-next
land_register-requires-clause-next g c =
    let at = c.args.leaf.now in
    let taken = c.args.taken.now in
    let tells = c.args.tells in
    let r = c.requires.next in
    record {
      from = r.from;
      after = r.after;
      next = λ done. landed_from at taken tells (1 ∷ 2 ∷ 3 ∷ []) r.after r.next;
      here = r.here;
    }

pub land_register-requires-2-clause-next : goal.land_register-requires-2-clause-next
land_register-requires-2-clause-next g c =
    let at = c.args.leaf.now in
    let taken = c.args.taken.now in
    let tells = c.args.tells in
    let r = c.requires.next in
    record {
      from = r.from;
      after = r.after;
      next = λ done. landed_from at taken tells (2 ∷ 3 ∷ []) r.after r.next;
      here = c.in_ok-land_register.ensures.plays.on r.from r.after
          (λ done. landed_from at taken tells (1 ∷ 2 ∷ 3 ∷ []) r.after r.next) r.here;
    }

pub land_register-requires-3-clause-next : goal.land_register-requires-3-clause-next
land_register-requires-3-clause-next g c =
    let at = c.args.leaf.now in
    let taken = c.args.taken.now in
    let tells = c.args.tells in
    let r = c.requires.next in
    record {
      from = r.from;
      after = r.after;
      next = λ done. landed_from at taken tells (3 ∷ []) r.after r.next;
      here = c.in_ok-land_register-2.ensures.plays.on r.from r.after
          (λ done. landed_from at taken tells (2 ∷ 3 ∷ []) r.after r.next)
          (c.in_ok-land_register.ensures.plays.on r.from r.after
          (λ done. landed_from at taken tells (1 ∷ 2 ∷ 3 ∷ []) r.after r.next) r.here);
    }

pub land_register-requires-4-clause-next : goal.land_register-requires-4-clause-next
land_register-requires-4-clause-next g c =
    let at = c.args.leaf.now in
    let taken = c.args.taken.now in
    let tells = c.args.tells in
    let r = c.requires.next in
    record {
      from = r.from;
      after = r.after;
      next = λ done. landed_from at taken tells [] r.after r.next;
      here = c.in_ok-land_register-3.ensures.plays.on r.from r.after
          (λ done. landed_from at taken tells (3 ∷ []) r.after r.next)
          (c.in_ok-land_register-2.ensures.plays.on r.from r.after
          (λ done. landed_from at taken tells (2 ∷ 3 ∷ []) r.after r.next)
          (c.in_ok-land_register.ensures.plays.on r.from r.after
          (λ done. landed_from at taken tells (1 ∷ 2 ∷ 3 ∷ []) r.after r.next) r.here));
    }

pub land_counter-requires : goal.land_counter-requires
land_counter-requires g c =
    let at = c.args.leaf.now in
    let taken = c.args.taken.now in
    let tells = c.args.tells in
    let r = c.requires.next in
    record {
      next = record {
        from = r.from;
        after = r.after;
        next = r.next;
        here = c.in_ok-land_register-4.ensures.plays.on r.from r.after
            (λ done. landed_from at taken tells [] r.after r.next)
            (c.in_ok-land_register-3.ensures.plays.on r.from r.after
            (λ done. landed_from at taken tells (3 ∷ []) r.after r.next)
            (c.in_ok-land_register-2.ensures.plays.on r.from r.after
            (λ done. landed_from at taken tells (2 ∷ 3 ∷ []) r.after r.next)
            (c.in_ok-land_register.ensures.plays.on r.from r.after
            (λ done. landed_from at taken tells (1 ∷ 2 ∷ 3 ∷ []) r.after r.next) r.here)));
      };
    }

pub returns-in_err-land_register : goal.returns-in_err-land_register
returns-in_err-land_register g c =
    let at = c.args.leaf.now in
    let taken = c.args.taken.now in
    let tells = c.args.tells in
    rw (passed c.from_residual.result _ c.from_residual.ensures.1) (record {
      plays = record {
        on = λ from late next here. c.in_err-land_register.ensures.plays.on from late
            (λ done. landed_from at taken tells (1 ∷ 2 ∷ 3 ∷ []) late next) here;
      };
    })

pub returns-in_err-land_register-2 : goal.returns-in_err-land_register-2
returns-in_err-land_register-2 g c =
    let at = c.args.leaf.now in
    let taken = c.args.taken.now in
    let tells = c.args.tells in
    rw (passed c.from_residual-in_err-land_register-2.result _
    c.from_residual-in_err-land_register-2.ensures.1) (record {
      plays = record {
        on = λ from late next here. c.in_err-land_register-2.ensures.plays.on from late
            (λ done. landed_from at taken tells (2 ∷ 3 ∷ []) late next)
            (c.in_ok-land_register.ensures.plays.on from late
            (λ done. landed_from at taken tells (1 ∷ 2 ∷ 3 ∷ []) late next) here);
      };
    })

pub returns-in_err-land_register-3 : goal.returns-in_err-land_register-3
returns-in_err-land_register-3 g c =
    let at = c.args.leaf.now in
    let taken = c.args.taken.now in
    let tells = c.args.tells in
    rw (passed c.from_residual-in_err-land_register-3.result _
    c.from_residual-in_err-land_register-3.ensures.1) (record {
      plays = record {
        on = λ from late next here. c.in_err-land_register-3.ensures.plays.on from late
            (λ done. landed_from at taken tells (3 ∷ []) late next)
            (c.in_ok-land_register-2.ensures.plays.on from late
            (λ done. landed_from at taken tells (2 ∷ 3 ∷ []) late next)
            (c.in_ok-land_register.ensures.plays.on from late
            (λ done. landed_from at taken tells (1 ∷ 2 ∷ 3 ∷ []) late next) here));
      };
    })

pub returns-in_err-land_register-4 : goal.returns-in_err-land_register-4
returns-in_err-land_register-4 g c =
    let at = c.args.leaf.now in
    let taken = c.args.taken.now in
    let tells = c.args.tells in
    rw (passed c.from_residual-in_err-land_register-4.result _
    c.from_residual-in_err-land_register-4.ensures.1) (record {
      plays = record {
        on = λ from late next here. c.in_err-land_register-4.ensures.plays.on from late
            (λ done. landed_from at taken tells [] late next)
            (c.in_ok-land_register-3.ensures.plays.on from late
            (λ done. landed_from at taken tells (3 ∷ []) late next)
            (c.in_ok-land_register-2.ensures.plays.on from late
            (λ done. landed_from at taken tells (2 ∷ 3 ∷ []) late next)
            (c.in_ok-land_register.ensures.plays.on from late
            (λ done. landed_from at taken tells (1 ∷ 2 ∷ 3 ∷ []) late next) here)));
      };
    })

pub returns : goal.returns
returns g c =
    let at = c.args.leaf.now in
    let taken = c.args.taken.now in
    let tells = c.args.tells in
    record {
      plays = record {
        on = λ from late next here. c.land_counter.ensures.plays.on from late next
            (c.in_ok-land_register-4.ensures.plays.on from late
            (λ done. landed_from at taken tells [] late next)
            (c.in_ok-land_register-3.ensures.plays.on from late
            (λ done. landed_from at taken tells (3 ∷ []) late next)
            (c.in_ok-land_register-2.ensures.plays.on from late
            (λ done. landed_from at taken tells (2 ∷ 3 ∷ []) late next)
            (c.in_ok-land_register.ensures.plays.on from late
            (λ done. landed_from at taken tells (1 ∷ 2 ∷ 3 ∷ []) late next) here))));
      };
    }
