use Rattle.std.proofs.Common.{◌∙◌, ◌++◌, ℕ, List, ap, refl, arith}
use Rattle.std.specs.Prelude.{slice_get, string_bytes}
use Rattle.pardo_answers.proofs.Ranges.{range_told}
use Rattle.naming.specs.Rounds.{round_of, variable_value}
use Rattle.naming.proofs.rounds.rounds_around.Goals as goal

pub loop-begin-preserved : goal.loop-begin-preserved
loop-begin-preserved c =
    let view = c.args.view.now in
    let value_of = variable_value view.program.now view.state.now view.processor in
    range_told (λ begin. round_of value_of view.step c.args.at
    (slice_get view.program.now.lines begin)) (string_bytes c.loop-begin.rounds) _ _
    c.loop-begin.begin _ _ _ refl (omega arith)
    (c.in_ok-push_str.ensures.bytes
    ∙ ap (λ (b : List ℕ). string_bytes c.loop-begin.rounds ++ b)
    (c.as_str.ensures.value ∙ c.in_ok-round.ensures))
    c.loop-begin.invariant
