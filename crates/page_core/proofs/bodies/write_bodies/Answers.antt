use Rattle.std.proofs.Common.{rules, length}
use Rattle.page_core.specs.Scenes.{body_in}
use Rattle.page_core.proofs.Buffers.{kept_set, written}
use Rattle.page_core.proofs.bodies.write_bodies.Goals as goal

pub loop-b-preserved : goal.loop-b-preserved
loop-b-preserved c = record {
  bodies = written (body_in c.args.world.now) c.loop-b.rows c.loop-b.b c.body_row.result
      (search rules) c.loop-b.invariant.bodies c.body_row.ensures;
  behind = kept_set (length c.args.world.now.bodies) c.args.rows.now
      c.loop-b.rows c.loop-b.b c.body_row.result (search rules) c.loop-b.invariant.behind;
}
