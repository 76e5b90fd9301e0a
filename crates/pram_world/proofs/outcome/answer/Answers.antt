use Rattle.std.proofs.Common.{◌≡◌, ◌*◌, ◌/◌, subst, refl, sym, ap, ◌∙◌, arith}
use Rattle.pram_step.specs.Runs.{IsReached, state_after}
use Rattle.lawful_walk.specs.Board.{conflict, root}
use Rattle.pram_world.proofs.Answering.{root_most, finished_clear, finished_last}
use Rattle.pram_world.proofs.Answering.{disputed, finished_so, still}
use Rattle.pram_world.proofs.outcome.answer.Goals as goal

pub overflow_cast-result : goal.overflow_cast-result
overflow_cast-result c =
    let most = root_most c.args.job.now c.args.layout.now c.args.words.now c.requires in
    let steps = c.requires.limits.steps in
    omega arith

pub returns-in_ok-conflict-in-Disputed : goal.returns-in_ok-conflict-in-Disputed
returns-in_ok-conflict-in-Disputed c =
    let some = disputed c.args.job.now c.glance-named.result.0
    c.glance-named.result.1 c.progress_of.result c.in-Disputed.is c.progress_of.ensures in
    ((λ e. some (c.glance-named.ensures.conflict ∙ e)), c.in_ok-conflict-in-Disputed.ensures)

pub cells-requires-clause-clear : goal.cells-requires-clause-clear
cells-requires-clause-clear c =
    sym c.glance-named.ensures.conflict ∙ (finished_so c.args.job.now c.glance-named.result.0
    c.glance-named.result.1 c.progress_of.result c.in-Finished.is c.progress_of.ensures).0

pub cells-requires-clause-done : goal.cells-requires-clause-done
cells-requires-clause-done c =
    sym c.glance-named.ensures.root ∙ (finished_so c.args.job.now c.glance-named.result.0
    c.glance-named.result.1 c.progress_of.result c.in-Finished.is c.progress_of.ensures).1

pub returns-in_ok-cells-in-Finished : goal.returns-in_ok-cells-in-Finished
returns-in_ok-cells-in-Finished c =
    let says = finished_so c.args.job.now c.glance-named.result.0
    c.glance-named.result.1 c.progress_of.result c.in-Finished.is c.progress_of.ensures in
    let none : conflict c.args.layout.now c.args.words.now ≡ 0 =
    sym c.glance-named.ensures.conflict ∙ says.0 in
    let full : root c.args.layout.now c.args.words.now ≡ 3 * c.args.job.now.steps =
    sym c.glance-named.ensures.root ∙ says.1 in (
      none,
      full,
      (
        state_after c.args.job.now c.args.job.now.steps,
        record {
          reached =
              finished_last c.args.job.now c.args.layout.now c.args.words.now c.requires none full;
          state = refl;
        },
        c.in_ok-cells-in-Finished.ensures,
      ),
    )

pub returns-in-Going : goal.returns-in-Going
returns-in-Going c =
    let says = still c.args.job.now c.glance-named.result.0
    c.glance-named.result.1 c.progress_of.result c.in-Going.is c.progress_of.ensures in
    let none : conflict c.args.layout.now c.args.words.now ≡ 0 =
    sym c.glance-named.ensures.conflict ∙ says.0 in
    let same : root c.args.layout.now c.args.words.now ≡ c.glance-named.result.1 =
    sym c.glance-named.ensures.root in (
      none,
      (λ e. says.1 (sym same ∙ e)),
      ap (λ n. n / 3) c.glance-named.ensures.root,
      subst (λ n. IsReached c.args.job.now (n / 3)) same
          (finished_clear c.args.job.now c.args.layout.now c.args.words.now c.requires none),
    )
