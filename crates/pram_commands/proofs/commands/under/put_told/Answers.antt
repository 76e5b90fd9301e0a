use Rattle.std.proofs.Common.{◌≡◌, ap, false, rules, sym, true}
use Rattle.pram_commands.specs.Did.{ends_with}
use Rattle.pram_commands.proofs.Judged.{puts_status}
use Rattle.pram_commands.proofs.commands.under.put_told.Goals as goal

pub returns-in-Summary : goal.returns-in-Summary
returns-in-Summary g c = rw c.in-Summary.is
    (puts_status _ _ _ _ (λ told given none. sym (ap ends_with none)) _ c.put_summary.ensures _
    c.with_status.ensures)

pub returns-in-Answer : goal.returns-in-Answer
returns-in-Answer g c = rw c.in-Answer.is
    (puts_status _ _ _ _ (λ told given is. sym (ap ends_with is)) _ c.put_plain.ensures _
    c.answered.ensures)

pub returns-in-Costs-false : goal.returns-in-Costs-false
returns-in-Costs-false g c =
    let e : c.in-Costs-false.lines ≡ false = search rules in rw (c.in-Costs-false.is, e)
    (puts_status _ _ _ _ (λ told given is. sym (ap ends_with is)) _ c.put_cost.ensures _
    c.costed-in-Costs-false.ensures)

pub returns-in-Costs-true : goal.returns-in-Costs-true
returns-in-Costs-true g c =
    let e : c.in-Costs-true.lines ≡ true = search rules in rw (c.in-Costs-true.is, e)
    (puts_status _ _ _ _ (λ told given is. sym (ap ends_with is)) _ c.put_records.ensures _
    c.costed.ensures)
