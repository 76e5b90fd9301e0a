use Rattle.std.proofs.Common.{◌∙◌, ◌++◌, List, ℕ, ap}
use Rattle.std.specs.Prelude.{string_bytes}
use Rattle.naming.specs.Names.{line_at}
use Rattle.pram_commands.proofs.Explaining.{explains}
use Rattle.pram_commands.proofs.why.explained.Goals as goal

pub returns : goal.returns
returns c =
    let spelled = c.args.spelled.now in
    explains spelled.text.items spelled.names spelled.job c.args.answer.now c.args.why.now _ _ _ _
    (c.origin_of-origin.ensures
    ∙ ap (λ (t : List ℕ). line_at t spelled.names) c.as_slice.ensures.value)
    c.in_ok-back.ensures c.in_ok-rounds.ensures
    (c.in_ok-push_str.ensures.bytes
    ∙ ap (λ (b : List ℕ). string_bytes c.in_ok-back.back ++ b) c.as_str.ensures.value)
