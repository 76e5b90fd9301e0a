use Rattle.std.proofs.Common.{◌≡◌, false, sym, ◌∙◌}
use Rattle.walkx.proofs.Passing.{passed}
use Rattle.walk_memory.specs.Inner.Posts.{processor_of}
use Rattle.walkx.specs.Parts.{differs_from}
use Rattle.walkx.specs.Tasks.{claim_of}
use Rattle.walkx.specs.WideParts.{crew_looked}
use Rattle.walkx.proofs.wide_store.write_looked.Goals as goal

pub claim_look-requires : goal.claim_look-requires
claim_look-requires g c = c.requires.cell.claim c.requires.rule

pub make-requires : goal.make-requires
make-requires g c =
    let at = c.args.leaf.now in
    let write = c.args.write in
    let r = c.requires.next in
    rw c.claim_look.ensures (
      at,
      record {
        from = r.from;
        after = r.after;
        next = λ found. crew_looked at write found r.after r.next;
        here = r.here;
      },
    )

pub returns-in_err-found : goal.returns-in_err-found
returns-in_err-found g c =
    let at = c.args.leaf.now in
    let write = c.args.write in
    rw (passed c.from_residual.result _ c.from_residual.ensures.1) (record {
      plays = record {
        on = λ from after next here. rw c.claim_look.ensures at (c.in_err-found.ensures.on at from
            (λ found. crew_looked at write found after next)) here;
      };
    })

pub write_place-requires-clause-next : goal.write_place-requires-clause-next
write_place-requires-clause-next g c =
    let at = c.args.leaf.now in
    let write = c.args.write in
    let r = c.requires.next in
    let found = c.in_ok-found.found in
    let own : differs_from at (claim_of at.job (processor_of at)) found ≡ false =
    rw c.claim_for.ensures at (sym c.differs.ensures ∙ c.if-differs.false) in
    record {
      from = r.from;
      after = r.after;
      next = λ done. r.next false;
      here = rw own at (rw c.claim_look.ensures at (c.in_ok-found.ensures.on at r.from
          (λ found. crew_looked at write found r.after r.next)) r.here);
    }

pub returns-in_err-write_place : goal.returns-in_err-write_place
returns-in_err-write_place g c =
    let at = c.args.leaf.now in
    let write = c.args.write in
    let found = c.in_ok-found.found in
    let own : differs_from at (claim_of at.job (processor_of at)) found ≡ false =
    rw c.claim_for.ensures at (sym c.differs.ensures ∙ c.if-differs.false) in
    rw (passed c.from_residual-in_err-write_place.result _
    c.from_residual-in_err-write_place.ensures.1) (record {
      plays = record {
        on = λ from after next here. c.in_err-write_place.ensures.plays.on from after
            (λ done. next false) (rw own at (rw c.claim_look.ensures at (c.in_ok-found.ensures.on
            at from (λ found. crew_looked at write found after next)) here));
      };
    })

pub returns : goal.returns
returns g c =
    let at = c.args.leaf.now in
    let write = c.args.write in
    let found = c.in_ok-found.found in
    let own : differs_from at (claim_of at.job (processor_of at)) found ≡ false =
    rw c.claim_for.ensures at (sym c.differs.ensures ∙ c.if-differs.false) in
    record {
      plays = record {
        on = λ from after next here. c.in_ok-write_place.ensures.plays.on from after
            (λ done. next false) (rw own at (rw c.claim_look.ensures at (c.in_ok-found.ensures.on
            at from (λ found. crew_looked at write found after next)) here));
      };
    }
