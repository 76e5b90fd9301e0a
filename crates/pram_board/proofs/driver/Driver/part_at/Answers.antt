use Rattle.std.proofs.Common.{◌≡◌, Bool, true, Ok, refl, ap, ◌∙◌}
use Rattle.walkx.specs.Passing.{idle}
use Rattle.walkx.specs.Scripts.{ends}
use Rattle.walkx.specs.Walk.{begins, script_of}
use Rattle.pram_board.specs.Inner.Plays.{driving, in_block, post_task}
use Rattle.pram_board.proofs.Blocks.{after_task, memo, passes_driving, task_done, task_starts}
use Rattle.pram_board.proofs.Working.{sound_at}
use Rattle.pram_board.proofs.driver.Driver.part_at.Goals as goal

pub take_up_at-requires-clause-next : goal.take_up_at-requires-clause-next
take_up_at-requires-clause-next g c =
    let at = c.args.leaf.now in
    let wide = c.requires.at.walks.fits.block.2 in
    let memory = c.args.memory.now in
    record {
      from = (c.args.self.now, script_of at.job at.layout (in_block at at.rank memory));
      after = ends (begins 1);
      next = after_task at c.requires.at.leaf wide memory
          (idle at (memo at c.requires.at.leaf wide memory));
      here = (
        refl,
        task_starts at c.requires.at.leaf wide memory (driving c.args.self.now)
            c.requires.at.walks (ends (begins 1)),
      );
    }

pub unreachable-requires : goal.unreachable-requires
unreachable-requires g c =
    let at = c.args.leaf.now in
    let wide = c.requires.at.walks.fits.block.2 in
    let memory = c.args.memory.now in
    (c.in-Err.ensures.on (
      c.args.self.now,
      script_of at.job at.layout (in_block at at.rank memory),
    ) (ends (begins 1))
    (after_task at c.requires.at.leaf wide memory (idle at (memo at c.requires.at.leaf wide memory))) (
      refl,
      task_starts at c.requires.at.leaf wide memory (driving c.args.self.now) c.requires.at.walks
          (ends (begins 1)),
    )).1

pub returns-in-Ok-true-clause-same : goal.returns-in-Ok-true-clause-same
returns-in-Ok-true-clause-same g c =
    let at = c.args.leaf.now in
    let wide = c.requires.at.walks.fits.block.2 in
    let memory = c.args.memory.now in
    let is : c.take_up_at.result ≡ Ok true =
    c.in-Ok-true.is ∙ ap (λ (there : Bool). Ok there) c.in-Ok-true.field-0-test in
    ((rw is at c.take_up_at.ensures).on (
      c.args.self.now,
      script_of at.job at.layout (in_block at at.rank memory),
    ) (ends (begins 1))
    (after_task at c.requires.at.leaf wide memory (idle at (memo at c.requires.at.leaf wide memory))) (
      refl,
      task_starts at c.requires.at.leaf wide memory (driving c.args.self.now) c.requires.at.walks
          (ends (begins 1)),
    )).0

pub returns-in-Ok-true-clause-tried : goal.returns-in-Ok-true-clause-tried
returns-in-Ok-true-clause-tried g c =
    let at = c.args.leaf.now in
    let wide = c.requires.at.walks.fits.block.2 in
    let memory = c.args.memory.now in
    let is : c.take_up_at.result ≡ Ok true =
    c.in-Ok-true.is ∙ ap (λ (there : Bool). Ok there) c.in-Ok-true.field-0-test in
    let takes = rw is at c.take_up_at.ensures in
    let done = (takes.on (
      c.args.self.now,
      script_of at.job at.layout (in_block at at.rank memory),
    ) (ends (begins 1))
    (after_task at c.requires.at.leaf wide memory (idle at (memo at c.requires.at.leaf wide memory))) (
      refl,
      task_starts at c.requires.at.leaf wide memory (driving c.args.self.now) c.requires.at.walks
          (ends (begins 1)),
    )).1 in
    rw takes.kept (task_done at c.requires.at.leaf wide memory (driving c.args.self.now)
    (driving c.take_up_at.new.steps) c.requires.at.walks
    (sound_at (post_task at) (driving c.take_up_at.new.steps) done.here c.facts.ensures) takes.learned
    c.requires.at.fits (passes_driving (idle at (memo at c.requires.at.leaf wide memory))
    takes.learned (λ d. driving d) _ _ takes.idle) done)
