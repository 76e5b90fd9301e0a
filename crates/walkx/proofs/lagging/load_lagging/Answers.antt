use Rattle.std.proofs.Common.{◌≡◌, ◌≤◌, length, Result, Ok, Err, Some, None, refl, sym, ap, ◌∙◌}
use Rattle.std.proofs.Common.{rules, arith}
use Rattle.std.proofs.lemmas.Option.{slice_get_within}
use Rattle.pram_job.specs.declared.instr.Instr.TheVariants.{Ld}
use Rattle.walk_memory.specs.Lagging.{load_landed}
use Rattle.walk_memory.specs.Lanes.{lane}
use Rattle.walk_memory.specs.Memory.{at_start}
use Rattle.walkx.specs.declared.left.Left.TheVariants.{Late, Held}
use Rattle.walkx.specs.declared.left.Stopped.{Stopped}
use Rattle.walkx.specs.Driving.{learns_all}
use Rattle.walkx.proofs.KnownLoads.{asks_cell, load_left, load_played, reads_cell, writes_own}
use Rattle.walkx.proofs.TakingUp.{plays_up}
use Rattle.walkx.proofs.lagging.load_lagging.Goals as goal

pub read_place-requires-clause-next : goal.read_place-requires-clause-next
read_place-requires-clause-next g c =
    let at = c.args.leaf.now in
    let memo = lane c.args.block.now c.args.load.lane in
    let r = c.args.load.register in
    let stands = g.S.Steps.stands at in
    reads_cell stands at memo r c.args.load.cell c.requires.loads
    c.args.steps.now c.requires.next

pub returns-in-Err-Late : goal.returns-in-Err-Late
returns-in-Err-Late g c =
    let at = c.args.leaf.now in
    let memo = lane c.args.block.now c.args.load.lane in
    let r = c.args.load.register in
    let stands = g.S.Steps.stands at in
    let new = c.read_place.new.steps in
    let left = load_left stands at memo r c.args.load.cell c.requires.loads
    c.args.steps.now new c.in-Err-Late.field-0 c.in-Err-Late.ensures.plays in
    plays_up stands at memo (load_landed at memo r) c.args.steps.now new at_start
    (Err Late) (asks_cell stands at memo r c.args.load.cell c.requires.loads
    c.args.steps.now) (rw c.in-Err-Late.field-0-is at left) (Ok None) refl

pub returns-in-Err-Held : goal.returns-in-Err-Held
returns-in-Err-Held g c =
    let at = c.args.leaf.now in
    let memo = lane c.args.block.now c.args.load.lane in
    let r = c.args.load.register in
    let stands = g.S.Steps.stands at in
    let new = c.read_place.new.steps in
    let left = load_left stands at memo r c.args.load.cell c.requires.loads
    c.args.steps.now new c.in-Err-Held.field-0 c.in-Err-Held.ensures.plays in
    plays_up stands at memo (load_landed at memo r) c.args.steps.now new at_start
    (Err Held) (asks_cell stands at memo r c.args.load.cell c.requires.loads
    c.args.steps.now) (rw c.in-Err-Held.field-0-is at left) (Err (record {})) refl

pub land_load-done-requires-clause-counter : goal.land_load-done-requires-clause-counter
land_load-done-requires-clause-counter g c =
    let job = c.args.leaf.now.job in
    let memo = lane c.args.block.now c.args.load.lane in
    let p = c.requires.loads in
    let low = slice_get_within job.code memo.own.counter (Ld c.args.load.register p.place)
    p.stands.code in
    let most : length job.code ≤ 4096 =
    rw c.job-job.ensures.value at c.limits_hold.ensures.code_len.1 in
    omega (arith, low, most)

pub land_load-done-requires-clause-next : goal.land_load-done-requires-clause-next
land_load-done-requires-clause-next g c =
    let at = c.args.leaf.now in
    let memo = lane c.args.block.now c.args.load.lane in
    let r = c.args.load.register in
    let stands = g.S.Steps.stands at in
    writes_own stands at memo r c.args.load.cell c.requires.loads
    c.args.steps.now c.read_place.new.steps c.in-Ok.value c.in-Ok.ensures.plays c.requires.next

pub returns-in_err-settle : goal.returns-in_err-settle
returns-in_err-settle g c =
    let at = c.args.leaf.now in
    let memo = lane c.args.block.now c.args.load.lane in
    let r = c.args.load.register in
    let stands = g.S.Steps.stands at in
    let then = load_landed at memo r c.in-Ok.value in
    let done = c.land_load-done.result in
    let why = c.in_err-settle.field-0.0 in
    let e : c.from_residual.result ≡ Err why = search rules in
    rw e (plays_up stands at memo (load_landed at memo r) c.args.steps.now
    c.land_load-done.new.steps then done
    (asks_cell stands at memo r c.args.load.cell c.requires.loads c.args.steps.now)
    (load_played stands at memo r c.args.load.cell c.requires.loads c.args.steps.now
    c.read_place.new.steps c.in-Ok.value c.in-Ok.ensures.plays c.land_load-done.new.steps done
    c.land_load-done.ensures) (Err why) (ap (λ (s : Result (Unit {0}) Stopped). learns_all s then)
    (sym c.settle.ensures ∙ c.in_err-settle.was)))

pub returns : goal.returns
returns g c =
    let at = c.args.leaf.now in
    let memo = lane c.args.block.now c.args.load.lane in
    let r = c.args.load.register in
    let stands = g.S.Steps.stands at in
    let then = load_landed at memo r c.in-Ok.value in
    let done = c.land_load-done.result in
    plays_up stands at memo (load_landed at memo r) c.args.steps.now
    c.land_load-done.new.steps then done
    (asks_cell stands at memo r c.args.load.cell c.requires.loads c.args.steps.now)
    (load_played stands at memo r c.args.load.cell c.requires.loads c.args.steps.now
    c.read_place.new.steps c.in-Ok.value c.in-Ok.ensures.plays c.land_load-done.new.steps done
    c.land_load-done.ensures) (Ok (Some c.in-Ok.value))
    (ap (λ (s : Result (Unit {0}) Stopped). learns_all s then)
    (sym c.settle.ensures ∙ c.in_ok-settle.was))
