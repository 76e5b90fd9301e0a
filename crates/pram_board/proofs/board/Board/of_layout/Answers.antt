use Rattle.std.proofs.Common.{sym, subst, ◌∙◌}
use Rattle.pram_job.specs.Job.{JobData}
use Rattle.walk_memory.specs.Blocks.{IsLayoutOf}
use Rattle.lawful_walk.specs.Board.{Stands}
use Rattle.pram_board.proofs.Keeps.{opens}
use Rattle.pram_board.proofs.Steps.{starts}
use Rattle.pram_board.proofs.board.Board.of_layout.Goals as goal

pub of_words-requires : goal.of_words-requires
of_words-requires c =
    let is : IsLayoutOf c.in_ok-job.job c.args.layout =
    subst (λ (job : JobData). IsLayoutOf job c.args.layout) (sym c.in_ok-job.ensures) c.requires in
    opens _ c.as_slice.result.now
    (starts c.in_ok-job.job c.args.layout c.as_slice.result.now c.limits_hold.ensures
    c.limits_hold-2.ensures is (c.as_slice.ensures.value ∙ c.in_ok-words.ensures))

pub invariant_of-result : goal.invariant_of-result
invariant_of-result c =
    let is : IsLayoutOf c.in_ok-job.job c.args.layout =
    subst (λ (job : JobData). IsLayoutOf job c.args.layout) (sym c.in_ok-job.ensures) c.requires in
    let stands : Stands c.in_ok-job.job c.args.layout c.as_slice.result.now =
    starts c.in_ok-job.job c.args.layout c.as_slice.result.now c.limits_hold.ensures
    c.limits_hold-2.ensures is (c.as_slice.ensures.value ∙ c.in_ok-words.ensures) in
    let t = c.in_ok-table.ensures in (
      t.5,
      t.0 ∙ (stands.admitted).len,
      record { limits = stands.limits; layout = stands.sizes; is = stands.layout },
    )
