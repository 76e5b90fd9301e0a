use Rattle.std.proofs.Common.{rules, ◌≡◌, take, length, subst, sym, ap, refl, ◌∙◌}
use Rattle.pram_machine.specs.Machine.{place_count}
use Rattle.pram_step.specs.Runs.{IsStateAfter}
use Rattle.page_core.proofs.Buffers.{length_after}
use Rattle.page_core.proofs.moment.tell_state.Goals as goal

pub returns-then-copy-clause-state : goal.returns-then-copy-clause-state
returns-then-copy-clause-state c =
    let job = c.args.reached.now.job in
    let state = c.args.reached.now.state in
    let all : length state ≡ place_count job = length_after job c.args.reached.now.step state
    c.states_have_all_places.ensures c.limits_hold.ensures c.args.reached.now.after in
    let count : length c.places.result.now ≡ place_count job = ap length c.places.ensures ∙ all in
    let told : take (length c.places.result.now) c.copy.new.buffer ≡ c.places.result.now =
    search rules in
    let copied : take (length c.places.result.now) c.copy.new.buffer ≡ state =
    told ∙ c.places.ensures in (
      refl,
      c.args.reached.now.within,
      count,
      subst (IsStateAfter job c.args.reached.now.step) (sym copied) c.args.reached.now.after,
    )

pub returns-else-copy-clause-state : goal.returns-else-copy-clause-state
returns-else-copy-clause-state c =
    let job = c.args.reached.now.job in
    let state = c.args.reached.now.state in
    let all : length state ≡ place_count job = length_after job c.args.reached.now.step state
    c.states_have_all_places.ensures c.limits_hold.ensures c.args.reached.now.after in
    let count : length c.places.result.now ≡ place_count job = ap length c.places.ensures ∙ all in
    (count, search rules)
