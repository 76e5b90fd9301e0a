use Rattle.std.proofs.Common.{◌≡◌, suc, true, slice_get, sym, ◌∙◌, arith}
use Rattle.std.proofs.lemmas.Bool.{eqb-true}
use Rattle.walk_memory.specs.Lanes.{lane}
use Rattle.walk_memory.specs.Memory.{is_load, steps_left}
use Rattle.walk_memory.proofs.AsFar.{at_load}
use Rattle.walk_memory.proofs.GoingAlone.{last_stays, stored_stays}
use Rattle.walk_memory.proofs.alone.rests.Goals as goal
use Rattle.walk_memory.proofs.alone.rests.Goals.{then-has_store-via-then-has_store}
use Rattle.walk_memory.proofs.alone.rests.Goals.{then-has_store-via-else-has_store+then-steps-block}

pub returns-then-has_store : goal.returns-then-has_store
returns-then-has_store c = λ yes i.
    let job = c.args.job.now in
    let memo = lane c.args.block.now c.args.k in
    elim c.then-has_store.branch [
      | then-has_store-via-then-has_store w ↦
          stored_stays job i memo (suc (steps_left memo)) (sym c.has_store.ensures ∙ w.if-has_store.true)
      | then-has_store-via-else-has_store+then-steps-block w ↦
          last_stays job i memo (suc (steps_left memo)) (omega (arith, w.if-steps-block.true, w.steps.ensures.value))
    ]

pub returns-in-Some : goal.returns-in-Some
returns-in-Some c = λ yes i.
    let job = c.args.job.now in
    let memo = lane c.args.block.now c.args.k in
    let there : memo.own.counter ≡ c.in-Some.counter =
    eqb-true memo.own.counter c.in-Some.counter yes in
    let load : is_load (slice_get job.code c.in-Some.counter) ≡ true =
    rw c.in-Some.is at c.requires.load in
    at_load job i memo (rw there load)
