use Rattle.std.proofs.Common.{◌≡◌, Result, Ok, Err, Some, None, refl, sym, ap, ◌∙◌, rules}
use Rattle.walk_memory.specs.Inner.Posts.{processor_of}
use Rattle.walk_memory.specs.Memory.{at_start, memo_of}
use Rattle.walk_memory.specs.Plain.{loaded}
use Rattle.walkx.specs.declared.left.Stopped.{Stopped}
use Rattle.walkx.specs.declared.left.Left.TheVariants.{Late, Held}
use Rattle.walkx.specs.Driving.{learns_all}
use Rattle.walkx.proofs.KnownLoads.{asks_cell, load_left, reads_cell}
use Rattle.walkx.proofs.PlainLoads.{load_played, plain_known, writes_register}
use Rattle.walkx.proofs.TakingUp.{plays_up}
use Rattle.walkx.proofs.plain.load_plainly.Goals as goal

pub read_place-requires-clause-next : goal.read_place-requires-clause-next
read_place-requires-clause-next g c =
    let at = c.args.leaf.now in
    let memo = memo_of c.args.memory.now (processor_of at) in
    reads_cell (g.S.Steps.stands at) at memo c.args.register c.args.cell
    (plain_known at memo c.args.register c.args.cell c.requires.plain)
    c.args.steps.now c.requires.next

pub returns-in-Err-Late : goal.returns-in-Err-Late
returns-in-Err-Late g c =
    let at = c.args.leaf.now in
    let memo = memo_of c.args.memory.now (processor_of at) in
    let stands = g.S.Steps.stands at in
    let new = c.read_place.new.steps in
    let left = load_left stands at memo c.args.register c.args.cell
    (plain_known at memo c.args.register c.args.cell c.requires.plain)
    c.args.steps.now new c.in-Err-Late.field-0 c.in-Err-Late.ensures.plays in
    plays_up stands at memo (loaded at memo c.args.register) c.args.steps.now new at_start
    (Err Late)
    (asks_cell stands at memo c.args.register c.args.cell
    (plain_known at memo c.args.register c.args.cell c.requires.plain) c.args.steps.now)
    (rw c.in-Err-Late.field-0-is at left) (Ok None) refl

pub returns-in-Err-Held : goal.returns-in-Err-Held
returns-in-Err-Held g c =
    let at = c.args.leaf.now in
    let memo = memo_of c.args.memory.now (processor_of at) in
    let stands = g.S.Steps.stands at in
    let new = c.read_place.new.steps in
    let left = load_left stands at memo c.args.register c.args.cell
    (plain_known at memo c.args.register c.args.cell c.requires.plain)
    c.args.steps.now new c.in-Err-Held.field-0 c.in-Err-Held.ensures.plays in
    plays_up stands at memo (loaded at memo c.args.register) c.args.steps.now new at_start
    (Err Held)
    (asks_cell stands at memo c.args.register c.args.cell
    (plain_known at memo c.args.register c.args.cell c.requires.plain) c.args.steps.now)
    (rw c.in-Err-Held.field-0-is at left) (Err (record {})) refl

pub write_place-done-requires-clause-next : goal.write_place-done-requires-clause-next
write_place-done-requires-clause-next g c =
    let at = c.args.leaf.now in
    let memo = memo_of c.args.memory.now (processor_of at) in
    writes_register (g.S.Steps.stands at) at memo c.args.register c.args.cell c.requires.plain
    c.args.steps.now c.read_place.new.steps c.in-Ok.value c.in-Ok.ensures.plays c.requires.four
    c.register_place-place.result c.register_place-place.ensures.value c.requires.next

pub returns-in_err-settle : goal.returns-in_err-settle
returns-in_err-settle g c =
    let at = c.args.leaf.now in
    let memo = memo_of c.args.memory.now (processor_of at) in
    let stands = g.S.Steps.stands at in
    let then = loaded at memo c.args.register c.in-Ok.value in
    let done = c.write_place-done.result in
    let why = c.in_err-settle.field-0.0 in
    let e : c.from_residual.result ≡ Err why = search rules in
    rw e (plays_up stands at memo (loaded at memo c.args.register) c.args.steps.now
    c.write_place-done.new.steps then done
    (asks_cell stands at memo c.args.register c.args.cell
    (plain_known at memo c.args.register c.args.cell c.requires.plain) c.args.steps.now)
    (load_played stands at memo c.args.register c.args.cell c.requires.plain c.args.steps.now
    c.read_place.new.steps c.in-Ok.value c.in-Ok.ensures.plays c.requires.four
    c.register_place-place.result c.register_place-place.ensures.value
    c.write_place-done.new.steps done c.write_place-done.ensures.plays) (Err why)
    (ap (λ (s : Result (Unit {0}) Stopped). learns_all s then)
    (sym c.settle.ensures ∙ c.in_err-settle.was)))

pub returns : goal.returns
returns g c =
    let at = c.args.leaf.now in
    let memo = memo_of c.args.memory.now (processor_of at) in
    let stands = g.S.Steps.stands at in
    let then = loaded at memo c.args.register c.in-Ok.value in
    let done = c.write_place-done.result in
    plays_up stands at memo (loaded at memo c.args.register) c.args.steps.now
    c.write_place-done.new.steps then done
    (asks_cell stands at memo c.args.register c.args.cell
    (plain_known at memo c.args.register c.args.cell c.requires.plain) c.args.steps.now)
    (load_played stands at memo c.args.register c.args.cell c.requires.plain c.args.steps.now
    c.read_place.new.steps c.in-Ok.value c.in-Ok.ensures.plays c.requires.four
    c.register_place-place.result c.register_place-place.ensures.value
    c.write_place-done.new.steps done c.write_place-done.ensures.plays) (Ok (Some c.in-Ok.value))
    (ap (λ (s : Result (Unit {0}) Stopped). learns_all s then)
    (sym c.settle.ensures ∙ c.in_ok-settle.was))
