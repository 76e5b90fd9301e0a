use Rattle.std.proofs.Common.{◌≡◌, ◌⊎◌, ℕ, ◌≤◌, ◌+◌, sym, ap, subst, inl, inr, ◌∙◌, arith}
use Rattle.std.proofs.lemmas.Bool.{cases_lt}
use Rattle.pram_machine.specs.Machine.{counter}
use Rattle.pram_step.specs.Runs.{state_after}
use Rattle.walk_memory.specs.declared.memo.Own.{Own}
use Rattle.walk_memory.specs.Memory.{settled_at}
use Rattle.lawful_walk.proofs.Settles.{settled_most}
use Rattle.pram_board.proofs.Stopping.{RunsTo, ended_by, ends_if, ends_not, ends_so, no_load}
use Rattle.pram_board.proofs.Stopping.{own_more, ran_to, runs_more}
use Rattle.pram_board.proofs.stops.stop_alone.Goals as goal

pub loop-step-init : goal.loop-step-init
loop-step-init c =
    let job = c.args.job.now in
    record {
      own = c.requires.told;
      runs = subst (RunsTo job c.args.i) (sym c.requires.since)
          (ran_to job c.args.i c.limits_hold.ensures c.requires.processor job.steps);
    }

pub returns-in-None-clause-stops : goal.returns-in-None-clause-stops
returns-in-None-clause-stops c =
    ends_if c.args.job.now c.args.i c.loop-step.step c.loop-step.own.counter c.stop_at.result
    (omega arith) c.loop-step.invariant.runs
    (ap (λ (o : Own). o.counter) c.loop-step.invariant.own) c.stop_at.ensures.some

pub returns-in-None-clause-none : goal.returns-in-None-clause-none
returns-in-None-clause-none c =
    ends_not c.args.job.now c.args.i c.loop-step.own.counter c.stop_at.result
    (ends_so c.args.job.now c.args.i c.limits_hold.ensures c.requires.processor c.loop-step.step
    c.loop-step.own.counter (omega arith) (ap (λ (o : Own). o.counter) c.loop-step.invariant.own)
    c.in-None.ensures.value) c.stop_at.ensures.none

pub returns-then-is_load-clause-none : goal.returns-then-is_load-clause-none
returns-then-is_load-clause-none c =
    let job = c.args.job.now in
    let since = c.requires.since in
    let from : c.args.since ≤ c.loop-step.step =
    (let m = settled_most job c.args.i job.steps in omega arith) in
    absurd (no_load job c.args.i c.limits_hold.ensures c.requires.processor job.steps
    c.loop-step.step c.loop-step.own c.in-Some.instr.now
    c.loop-step.invariant.own c.in-Some.ensures.value (sym c.is_load.ensures ∙ c.if-is_load.true)
    (omega (arith, since, from)) (omega arith))

pub loop-step-preserved : goal.loop-step-preserved
loop-step-preserved c =
    let job = c.args.job.now in
    let i = c.loop-step.invariant in
    record {
      own = own_more job c.args.i c.limits_hold.ensures c.requires.processor c.loop-step.step
          c.loop-step.own c.go_on.new.own c.in-Some.instr.now i.own c.in-Some.ensures.value
          (sym c.is_load.ensures ∙ c.if-is_load.false) c.go_on.ensures;
      runs = runs_more job c.args.i c.limits_hold.ensures c.requires.processor c.loop-step.step
          c.loop-step.own c.in-Some.instr.now i.own c.in-Some.ensures.value i.runs;
    }

-- the loop ends after this step, with this counter
at_last : (c : goal.After-stop_at-2) → c.loop-step.step ≡ c.min-last.result
at_last c =
    let m = settled_most c.args.job.now c.args.i c.args.job.now.steps in
    let since = c.requires.since in
    omega (arith, m, since)

counter_last : (c : goal.After-stop_at-2) → c.loop-step.own.counter
    ≡ counter c.args.job.now (state_after c.args.job.now c.min-last.result) c.args.i
counter_last c = ap (λ (o : Own). o.counter) c.loop-step.invariant.own
    ∙ ap (λ (t : ℕ). counter c.args.job.now (state_after c.args.job.now t) c.args.i) (at_last c)

pub returns-clause-stops : goal.returns-clause-stops
returns-clause-stops c =
    let job = c.args.job.now in
    ends_if job c.args.i c.min-last.result c.loop-step.own.counter c.stop_at-2.result
    (omega arith) (subst (RunsTo job c.args.i) (at_last c) c.loop-step.invariant.runs)
    (counter_last c) c.stop_at-2.ensures.some

pub returns-clause-none : goal.returns-clause-none
returns-clause-none c =
    let job = c.args.job.now in
    let since = c.requires.since in
    let far : (c.min-last.result ≡ job.steps)
    ⊎ (settled_at job job.steps c.args.i + 64 ≤ c.min-last.result) =
    elim (cases_lt job.steps (c.args.since + 64)) [
      | inl near ↦ inl (omega arith)
      | inr past ↦ inr (omega arith)
    ] in
    ends_not job c.args.i c.loop-step.own.counter c.stop_at-2.result
    (λ e. counter_last c ∙ ended_by job c.args.i c.limits_hold.ensures c.requires.processor
    job.steps c.min-last.result (omega arith) far e) c.stop_at-2.ensures.none
