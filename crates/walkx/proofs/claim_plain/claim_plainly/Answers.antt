use Rattle.std.proofs.Common.{◌≡◌, Err, Ok, Some, refl, rules}
use Rattle.walk_memory.specs.Inner.Posts.{processor_of}
use Rattle.walk_memory.specs.Memory.{memo_of}
use Rattle.walk_memory.specs.Plain.{claimed}
use Rattle.walkx.specs.declared.left.Left.TheVariants.{Held}
use Rattle.walkx.proofs.PlainClaims.{claim_held, claim_idle, claim_next, claim_played}
use Rattle.walkx.proofs.TakingUp.{plays_up}
use Rattle.walkx.proofs.claim_plain.claim_plainly.Goals as goal

pub make-requires : goal.make-requires
make-requires g c =
    let at = c.args.leaf.now in
    let memo = memo_of c.args.memory.now (processor_of at) in
    let p = c.requires.plain in
    let cell = c.args.write.0 in
    let operand = c.args.write.1 in
    let stands = g.S.Steps.stands at in
    rw c.claiming.ensures (
      at,
      claim_next stands at memo cell operand p c.args.steps.now
          c.requires.next,
    )

pub returns-in_err-make : goal.returns-in_err-make
returns-in_err-make g c =
    let at = c.args.leaf.now in
    let memo = memo_of c.args.memory.now (processor_of at) in
    let p = c.requires.plain in
    let cell = c.args.write.0 in
    let operand = c.args.write.1 in
    let stands = g.S.Steps.stands at in
    let why = c.in_err-make.field-0.0 in
    let e : c.from_residual.result ≡ Err why = search rules in
    rw e (plays_up stands at memo (λ found. claimed at memo cell operand) c.args.steps.now
    c.make.new.self memo (Err Held) (claim_idle at memo cell operand p)
    (claim_held stands at memo cell operand p c.args.steps.now c.make.new.self why
    (λ from next here.
    c.in_err-make.ensures.on at from next (rw c.claiming.ensures here))) (Err why) refl)

pub returns : goal.returns
returns g c =
    let at = c.args.leaf.now in
    let memo = memo_of c.args.memory.now (processor_of at) in
    let p = c.requires.plain in
    let cell = c.args.write.0 in
    let operand = c.args.write.1 in
    let stands = g.S.Steps.stands at in
    plays_up stands at memo (λ found. claimed at memo cell operand) c.args.steps.now
    c.make.new.self (claimed at memo cell operand) (Ok tt) (claim_idle at memo cell operand p)
    (claim_played stands at memo cell operand p c.args.steps.now c.make.new.self
    c.in_ok-make.field-0 (λ from next here.
    c.in_ok-make.ensures.on at from next (rw c.claiming.ensures here))) (Ok (Some 0)) refl
