use Rattle.std.proofs.Common.{refl}
use Rattle.walkx.specs.Rests.{has_worked}
use Rattle.walkx.specs.Scripts.{ends}
use Rattle.walkx.specs.Walk.{script_of}
use Rattle.pram_board.specs.Inner.Plays.{driving, in_block}
use Rattle.pram_board.proofs.Storing.{driver_of, reported}
use Rattle.pram_board.proofs.driver.Driver.report.Goals as goal

pub report_store-requires-clause-cell : goal.report_store-requires-clause-cell
report_store-requires-clause-cell g c =
    let due = c.requires.due in
    due.3.cell

pub report_store-requires-clause-due : goal.report_store-requires-clause-due
report_store-requires-clause-due g c =
    let at = c.args.leaf.now in
    let due = c.requires.due in
    record {
      from = (
        driver_of c.args.self.now due.0,
        script_of at.job at.layout (in_block at at.rank due.1),
      );
      after = ends (has_worked at due.3.learned);
      here = (refl, due.3.drives);
    }

pub unreachable-requires : goal.unreachable-requires
unreachable-requires g c =
    let at = c.args.leaf.now in
    let due = c.requires.due in
    ((c.in-Err.ensures (ends (has_worked at due.3.learned))).on (
      driver_of c.args.self.now due.0,
      script_of at.job at.layout (in_block at at.rank due.1),
    ) (refl, due.3.drives)).1

pub returns-clause-same : goal.returns-clause-same
returns-clause-same g c =
    let at = c.args.leaf.now in
    let due = c.requires.due in
    ((c.in-Ok.ensures (ends (has_worked at due.3.learned))).on (
      driver_of c.args.self.now due.0,
      script_of at.job at.layout (in_block at at.rank due.1),
    ) (refl, due.3.drives)).0

pub returns-clause-reported : goal.returns-clause-reported
returns-clause-reported g c = λ before memory now swapped.
    let at = c.args.leaf.now in
    reported at before memory now c.args.write (driving c.args.self.now)
    (driving c.report_store.new.steps) swapped
    ((c.in-Ok.ensures (ends (has_worked at swapped.learned))).on (
      driver_of c.args.self.now before,
      script_of at.job at.layout (in_block at at.rank memory),
    ) (refl, swapped.drives)).1 c.facts.ensures
