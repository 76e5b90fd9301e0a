use Rattle.std.proofs.Common.{◌∙◌, ap, refl, subst}
use Rattle.library_boards.specs.Calls.{status_of_fault}
use Rattle.library_boards.specs.Calls.IsOpenStatus.{of_text}
use Rattle.library_boards.specs.Givens.{IsGivenFault}
use Rattle.library_boards.specs.Givens.IsGivenStatus.{of_given, of_opening}
use Rattle.library_boards.specs.declared.given.GivenFault.{GivenFault}
use Rattle.library_boards.proofs.opening.open_with.Goals as goal

pub returns-in-Err-Text-clause-status : goal.returns-in-Err-Text-clause-status
returns-in-Err-Text-clause-status c =
    let none = subst (λ (f : GivenFault). IsGivenFault c.args.text.now c.args.given.now f)
    c.in-Err-Text.field-0-is c.in-Err-Text.ensures.none in
    of_opening (of_text c.in-Err-Text.fault none
    (c.fault_status.ensures.status ∙ ap status_of_fault c.in-Err-Text.fault-is))

pub returns-in-Err-Unfit-clause-status : goal.returns-in-Err-Unfit-clause-status
returns-in-Err-Unfit-clause-status c =
    let none = subst (λ (f : GivenFault). IsGivenFault c.args.text.now c.args.given.now f)
    c.in-Err-Unfit.field-0-is c.in-Err-Unfit.ensures.none in
    of_given c.in-Err-Unfit.field-0-0 none refl
