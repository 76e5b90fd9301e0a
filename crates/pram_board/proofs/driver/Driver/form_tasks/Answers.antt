use Rattle.pram_board.specs.Inner.Plays.{driving}
use Rattle.pram_board.proofs.Tasks.{done_first}
use Rattle.pram_board.proofs.driver.Driver.form_tasks.Goals as goal

pub returns-clause-done : goal.returns-clause-done
returns-clause-done g c =
    done_first c.args.leaf.now c.args.len (driving c.args.self.now) c.args.memory.now
    (driving c.part.new.self) c.part.new.memory c.part.ensures.done.moved c.run_form.result
    (driving c.run_form.new.self) c.run_form.new.memory c.run_form.ensures.done
