use Rattle.std.proofs.Common.{◌≡◌, refl, rules}
use Rattle.std.proofs.Common.{Some}
use Rattle.std.specs.Prelude.{slice_get, slice_index_or}
use Rattle.std.proofs.lemmas.Option.{get_or_from_slice_get}
use Rattle.pram_machine.specs.Machine.{counter, out_of_range}
use Rattle.pram_step.specs.declared.last.LastRow.{LastRow}
use Rattle.pram_step.specs.Last.{last_row}
use Rattle.pram_step.specs.Runs.{state_after}
use Rattle.pram_rows.proofs.Losing.{lost_in}
use Rattle.pram_rows.proofs.losses.lost_in.Goals as goal

pub returns : goal.returns
returns c =
    let job = c.args.standing.now.job.now in
    let n = c.args.standing.now.steps in
    let i = c.args.processor in
    let rows = c.args.standing.now.last.now in
    let none : LastRow = record { step = 0; index = 0 } in
    let out : counter job (state_after job n) i ≡ out_of_range job = search rules in
    let at : slice_get rows i ≡ Some (last_row job n i) = search rules in
    let is : slice_index_or rows i none ≡ last_row job n i =
    get_or_from_slice_get rows i (last_row job n i) none at in
    (refl, lost_in job n i (slice_index_or rows i none) c.limits_hold.ensures c.requires out is)
