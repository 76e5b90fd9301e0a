use Rattle.std.proofs.Common.{◌∙◌, ap, length, rules}
use Rattle.pram_machine.specs.Machine.{State, counter}
use Rattle.pram_step.proofs.LawAnswer.{conflict_ends}
use Rattle.pram_rows.proofs.losses.lost_by.Goals as goal

-- a step that is against the rule is not gone past
pub returns-in-Disputed : goal.returns-in-Disputed
returns-in-Disputed c = λ reached out.
    let found = rw c.in-Disputed.is at c.in_ok-walk.ensures.walked in
    conflict_ends c.args.job.now c.in-Disputed.field-0 c.args.steps found.0 found.1 reached

pub invariant_of-standing : goal.invariant_of-standing
invariant_of-standing c =
    let job = c.args.job.now in
    let after = rw c.in-Through.is at c.in_ok-walk.ensures.walked in
    let seen = rw c.in-Through.is at c.in_ok-walk.ensures.seen in
    record {
      counters = record {
        len = ap length after.state
            ∙ (c.states_have_all_places.ensures job c.args.steps c.limits_hold.ensures).0;
        same = λ i low. ap (λ (s : State). counter job s i) after.state;
      };
      rows = λ i low. (let at = seen i low in search rules);
    }
