use Rattle.std.proofs.Common.{◌∙◌, ap, arith}
use Rattle.pram_machine.specs.Turns.{put_of}
use Rattle.pram_step.proofs.Marking.{AreAsked_quiet, AreAsked_more}
use Rattle.pram_step.proofs.RequestList.{Puts_put}
use Rattle.pram_step.proofs.Turning.{no_cell}
use Rattle.pram_step.proofs.stores.take_up.Goals as goal

-- no data for a cell
pub returns-in_default-clause-asked : goal.returns-in_default-clause-asked
returns-in_default-clause-asked c = λ requests request is put are.
    AreAsked_quiet c.args.job.now.cells requests c.args.processor c.args.asked.now c.args.count are
    (λ cell v low puts. no_cell c.args.job.now c.args.put c.requires.sorted
    (λ cell' v' e. c.in_default.not-Cell cell' v' e) cell v low
    (Puts_put requests cell c.args.processor v request (put_of c.args.put) is put puts))

-- data for a cell
pub returns-clause-asked : goal.returns-clause-asked
returns-clause-asked c = λ requests request is put are.
    AreAsked_more c.args.job.now.cells requests c.args.processor c.args.asked.now c.args.count are
    c.in-Cell.cell c.in-Cell.value (rw c.in-Cell.is at c.requires.sorted)
    (record { request = request; request_is = is; puts = put ∙ ap put_of c.in-Cell.is })
    (omega arith)
