use Rattle.library_boards.specs.Calls.IsOpenStatus.{of_text}
use Rattle.library_boards.proofs.calls.open_uncounted.Goals as goal

pub returns-in-Err-clause-status : goal.returns-in-Err-clause-status
returns-in-Err-clause-status c = of_text c.in-Err.fault c.in-Err.ensures.none
    c.fault_status.ensures.status
