use Rattle.std.proofs.Common.{ap, sym, refl, ◌∙◌, arith}
use Rattle.pram_world.specs.Worlds.{start_compact}
use Rattle.pram_run.specs.Traces.{trace_of}
use Rattle.pram_run.proofs.Advancing.{starts}
use Rattle.pram_run.proofs.schedule.Replaying.new.Goals as goal

pub returns : goal.returns
unfolding trace_of
returns c = starts c.args.job.now c.args.plan.now _ c.limits_hold.ensures
    (omega (arith, c.requires.some, c.requires.plan))
    (omega (arith, c.requires.most, c.requires.plan)) c.requires.plan refl refl c.rows.ensures
    (record {
      world = c.in_ok-world.ensures ∙ ap (λ n. start_compact c.args.job.now n)
          (sym c.requires.plan);
      trace = refl;
    })
