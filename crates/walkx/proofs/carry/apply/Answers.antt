use Rattle.walkx.proofs.Passing.{passed}
use Rattle.walkx.specs.Parts.{after_place, after_value, after_count, carries_out}
use Rattle.walkx.proofs.carry.apply.Goals as goal

pub hear_part-requires-clause-next : goal.hear_part-requires-clause-next
hear_part-requires-clause-next g c =
    let at = c.args.leaf.now in
    let R = at.job.rule in
    let r = c.requires.due in
    record { from = r.from; after = r.after; next = after_place R at r.after; here = r.here }

pub returns-in_err-place : goal.returns-in_err-place
returns-in_err-place g c =
    let at = c.args.leaf.now in
    let R = at.job.rule in
    rw (passed c.from_residual.result _ c.from_residual.ensures.1) (record {
      ends = record {
        on = λ from after here.
            c.in_err-place.ensures.plays.on from after (after_place R at after) here;
      };
    })

pub hear_part-requires-2-clause-next : goal.hear_part-requires-2-clause-next
hear_part-requires-2-clause-next g c =
    let at = c.args.leaf.now in
    let R = at.job.rule in
    let r = c.requires.due in
    let s0 = c.in_ok-place.ensures.plays.on r.from r.after (after_place R at r.after) r.here in
    record {
      from = r.from;
      after = r.after;
      next = after_value R at r.after c.in_ok-place.place;
      here = s0;
    }

pub returns-in_err-value : goal.returns-in_err-value
returns-in_err-value g c =
    let at = c.args.leaf.now in
    let R = at.job.rule in
    rw (passed c.from_residual-in_err-value.result _ c.from_residual-in_err-value.ensures.1)
    (record {
      ends = record {
        on = λ from after here.
            let s0 = c.in_ok-place.ensures.plays.on from after (after_place R at after) here in
            c.in_err-value.ensures.plays.on from after
            (after_value R at after c.in_ok-place.place) s0;
      };
    })

pub hear_part-requires-3-clause-next : goal.hear_part-requires-3-clause-next
hear_part-requires-3-clause-next g c =
    let at = c.args.leaf.now in
    let R = at.job.rule in
    let r = c.requires.due in
    let s0 = c.in_ok-place.ensures.plays.on r.from r.after (after_place R at r.after) r.here in
    let s1 = c.in_ok-value.ensures.plays.on r.from r.after
    (after_value R at r.after c.in_ok-place.place) s0 in
    record {
      from = r.from;
      after = r.after;
      next = after_count R at r.after c.in_ok-place.place c.in_ok-value.value;
      here = s1;
    }

pub returns-in_err-count : goal.returns-in_err-count
returns-in_err-count g c =
    let at = c.args.leaf.now in
    let R = at.job.rule in
    rw (passed c.from_residual-in_err-count.result _ c.from_residual-in_err-count.ensures.1)
    (record {
      ends = record {
        on = λ from after here.
            let s0 = c.in_ok-place.ensures.plays.on from after (after_place R at after) here in
            let s1 = c.in_ok-value.ensures.plays.on from after
            (after_value R at after c.in_ok-place.place) s0 in
            c.in_err-count.ensures.plays.on from after
            (after_count R at after c.in_ok-place.place c.in_ok-value.value) s1;
      };
    })

pub ready-requires : goal.ready-requires
ready-requires g c =
    let at = c.args.leaf.now in
    let R = at.job.rule in
    let r = c.requires.due in
    let s0 = c.in_ok-place.ensures.plays.on r.from r.after (after_place R at r.after) r.here in
    let s1 = c.in_ok-value.ensures.plays.on r.from r.after
    (after_value R at r.after c.in_ok-place.place) s0 in
    let s2 = c.in_ok-count.ensures.plays.on r.from r.after
    (after_count R at r.after c.in_ok-place.place c.in_ok-value.value) s1 in
    record {
      next = record {
        from = r.from;
        after = r.after;
        next =
            λ p. carries_out at p c.in_ok-value.value c.in_ok-count.count r.after (λ done. r.after);
        here = s2;
      };
    }

pub returns-in_err-ready : goal.returns-in_err-ready
returns-in_err-ready g c =
    let at = c.args.leaf.now in
    let R = at.job.rule in
    rw (passed c.from_residual-in_err-ready.result _ c.from_residual-in_err-ready.ensures.1)
    (record {
      ends = record {
        on = λ from after here.
            let s0 = c.in_ok-place.ensures.plays.on from after (after_place R at after) here in
            let s1 = c.in_ok-value.ensures.plays.on from after
            (after_value R at after c.in_ok-place.place) s0 in
            let s2 = c.in_ok-count.ensures.plays.on from after
            (after_count R at after c.in_ok-place.place c.in_ok-value.value) s1 in
            c.in_err-ready.ensures.plays.on from after (λ p.
            carries_out at p c.in_ok-value.value c.in_ok-count.count after (λ done. after)) s2;
      };
    })

pub carry-requires-clause-next : goal.carry-requires-clause-next
carry-requires-clause-next g c =
    let at = c.args.leaf.now in
    let R = at.job.rule in
    let r = c.requires.due in
    let s0 = c.in_ok-place.ensures.plays.on r.from r.after (after_place R at r.after) r.here in
    let s1 = c.in_ok-value.ensures.plays.on r.from r.after
    (after_value R at r.after c.in_ok-place.place) s0 in
    let s2 = c.in_ok-count.ensures.plays.on r.from r.after
    (after_count R at r.after c.in_ok-place.place c.in_ok-value.value) s1 in
    let s3 = c.in_ok-ready.ensures.plays.on r.from r.after
    (λ p. carries_out at p c.in_ok-value.value c.in_ok-count.count r.after (λ done. r.after)) s2 in
    record { from = r.from; after = r.after; next = λ done. r.after; here = s3 }

pub returns : goal.returns
returns g c =
    let at = c.args.leaf.now in
    let R = at.job.rule in
    record {
      ends = record {
        on = λ from after here.
            let s0 = c.in_ok-place.ensures.plays.on from after (after_place R at after) here in
            let s1 = c.in_ok-value.ensures.plays.on from after
            (after_value R at after c.in_ok-place.place) s0 in
            let s2 = c.in_ok-count.ensures.plays.on from after
            (after_count R at after c.in_ok-place.place c.in_ok-value.value) s1 in
            let s3 = c.in_ok-ready.ensures.plays.on from after (λ p.
            carries_out at p c.in_ok-value.value c.in_ok-count.count after (λ done. after)) s2 in
            c.carry.ensures.plays.on from after (λ done. after) s3;
      };
    }
