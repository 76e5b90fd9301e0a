use Rattle.std.proofs.Common.{None, refl, sym, ◌∙◌}
use Rattle.pram_machine.specs.Turns.{request_of}
use Rattle.walkx.proofs.Landing.{quiet_taken, settled_landed}
use Rattle.walkx.proofs.Passes.{next_as, plays_as}
use Rattle.walkx.proofs.wide_own.settle_own.Goals as goal

pub land_own-requires : goal.land_own-requires
land_own-requires g c =
    let at = c.args.leaf.now in
    let known = c.args.known.now in
    let request = request_of c.args.turn in
    record {
      next = next_as (g.S.Steps.stands at) c.args.steps.now _ _ (λ late next.
          settled_landed at known request (record known { own = c.take.new.self }) None
          (quiet_taken at known request _ c.take.ensures refl c.requires.reads) late late next
          (sym c.requires.settles ∙ c.if-settles.true)) c.requires.next;
    }

pub returns-then-settles-clause-plays : goal.returns-then-settles-clause-plays
returns-then-settles-clause-plays g c =
    let at = c.args.leaf.now in
    let known = c.args.known.now in
    let request = request_of c.args.turn in
    plays_as (g.S.Steps.stands at) c.args.steps.now _ _ (λ late next.
    settled_landed at known request (record known { own = c.take.new.self }) None
    (quiet_taken at known request _ c.take.ensures refl c.requires.reads) late late next
    (sym c.requires.settles ∙ c.if-settles.true)) _ _ c.land_own.ensures.plays
