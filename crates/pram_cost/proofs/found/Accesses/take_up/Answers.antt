use Rattle.std.proofs.Common.{refl}
use Rattle.pram_cost.proofs.Finding.{found_stopped, found_elsewhere, found_read, found_write}
use Rattle.pram_cost.proofs.found.Accesses.take_up.Goals as goal

pub returns-in-Stopped : goal.returns-in-Stopped
returns-in-Stopped c =
    found_stopped c.args.job.now c.args.state.now c.args.processor c.args.self.now
    c.requires.before c.in-Stopped.ensures.runs

pub returns-in-Elsewhere : goal.returns-in-Elsewhere
returns-in-Elsewhere c =
    found_elsewhere c.args.job.now c.args.state.now c.args.processor c.args.self.now
    c.requires.before _ refl c.in-Elsewhere.ensures refl refl

pub returns-in_ok-push-in-Reads : goal.returns-in_ok-push-in-Reads
returns-in_ok-push-in-Reads c =
    found_read c.args.job.now c.args.state.now c.args.processor c.args.self.now
    c.requires.before _ refl c.in-Reads.cell c.in-Reads.ensures
    c.in_ok-push-in-Reads.ensures.items refl

pub returns-in_ok-push-in-Writes : goal.returns-in_ok-push-in-Writes
returns-in_ok-push-in-Writes c =
    found_write c.args.job.now c.args.state.now c.args.processor c.args.self.now
    c.requires.before _ refl c.in-Writes.cell c.in-Writes.value c.in-Writes.ensures refl
    c.in_ok-push-in-Writes.ensures.items
