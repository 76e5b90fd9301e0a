use Rattle.std.proofs.Common.{arith, rules, length}
use Rattle.std.proofs.lemmas.Option.{slice_get-get_or}
use Rattle.page_core.proofs.Buffers.{kept_noted}
use Rattle.page_core.proofs.Playing.{run_more, shown_all, shown_next}
use Rattle.page_core.proofs.scene.watch.Goals as goal

pub loop-number-preserved : goal.loop-number-preserved
loop-number-preserved c =
    let at = slice_get-get_or c.args.events.now c.loop-number.number _ (omega arith) in
    record {
      run = λ r is.
          run_more r c.args.events.now c.loop-number.number _ c.loop-number.world c.make.new.world
          c.in_ok-effect.effect at (c.loop-number.invariant.run r is) c.in_ok-effect.ensures.made;
      shown = λ r is. shown_next r c.args.events.now c.args.from c.loop-number.number
          c.loop-number.rows c.note.new.rows _ c.loop-number.world c.make.new.world
          c.in_ok-effect.effect _ at (c.loop-number.invariant.run r is) c.in_ok-effect.ensures.made
          (search rules) c.note.ensures (c.loop-number.invariant.shown r is);
      rows = kept_noted _ c.args.from c.loop-number.number
          (length c.args.events.now) c.args.rows.now c.loop-number.rows c.note.new.rows
          (omega arith) c.note.ensures c.loop-number.invariant.rows;
    }

pub returns-clause-shown : goal.returns-clause-shown
returns-clause-shown c = λ r is. shown_all r c.args.events.now c.args.from c.loop-number.number
    c.loop-number.rows (omega arith) (c.loop-number.invariant.shown r is)
