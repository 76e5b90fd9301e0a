use Rattle.std.proofs.Common.{◌∙◌, ◌<◌, ◌^◌, List, ℕ, ap, length, subst}
use Rattle.std.specs.Prelude.{All}
use Rattle.library_boards.proofs.Giving.{parts_fit}
use Rattle.library_boards.proofs.given.job_with.Goals as goal

pub of_parts-requires : goal.of_parts-requires
of_parts-requires c =
    let count = c.in_ok-cells.ensures.length ∙ ap (λ (l : List ℕ). length l) c.init.ensures.value
    ∙ c.init.ensures.job.init_len in
    parts_fit c.args.own.now _ _ _ _ _ _ c.rule.ensures.value count c.procs.ensures.value
    c.steps.ensures.value (c.in_ok-code.ensures.items ∙ c.code.ensures.value) c.init.ensures.job
    c.in_ok-cells.cells.ok.0
    (subst (λ (l : List ℕ). All (λ number. number < 2 ^ 32) l) c.as_slice.ensures.value
    c.numbers_fit.ensures)
