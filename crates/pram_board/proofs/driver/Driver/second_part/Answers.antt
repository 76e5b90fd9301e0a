use Rattle.std.proofs.Common.{◌≡◌, List, Bool, true, false, Ok, refl, sym, ap, subst, ◌∙◌}
use Rattle.walk_memory.specs.declared.memo.Memo.{Memo}
use Rattle.walkx.specs.Passing.{idle}
use Rattle.walkx.specs.Scripts.{ends}
use Rattle.walkx.specs.Walk.{begins, script_of}
use Rattle.pram_board.specs.Inner.Plays.{DonePart, driving, in_block, post_task}
use Rattle.pram_board.proofs.Blocks.{after_task, memo, passes_driving, task_done, task_starts}
use Rattle.pram_board.proofs.Working.{sound_at}
use Rattle.pram_board.proofs.driver.Driver.second_part.Goals as goal

pub carry-requires-clause-next : goal.carry-requires-clause-next
carry-requires-clause-next g c =
    let at = c.args.leaf.now in
    let wide = c.requires.at.walks.fits.block.2 in
    let memory = c.args.memory.now in
    record {
      from = (c.args.self.now, script_of at.job at.layout (in_block at at.rank memory));
      after = ends (begins 1);
      next = after_task at c.requires.at.leaf wide memory
          (idle at (memo at c.requires.at.leaf wide memory));
      here = (
        refl,
        task_starts at c.requires.at.leaf wide memory (driving c.args.self.now)
            c.requires.at.walks (ends (begins 1)),
      );
    }

pub unreachable-requires : goal.unreachable-requires
unreachable-requires g c =
    let at = c.args.leaf.now in
    let wide = c.requires.at.walks.fits.block.2 in
    let memory = c.args.memory.now in
    (c.in-Err.ensures.on (
      c.args.self.now,
      script_of at.job at.layout (in_block at at.rank memory),
    ) (ends (begins 1))
    (after_task at c.requires.at.leaf wide memory (idle at (memo at c.requires.at.leaf wide memory))) (
      refl,
      task_starts at c.requires.at.leaf wide memory (driving c.args.self.now) c.requires.at.walks
          (ends (begins 1)),
    )).1

pub returns-in-Ok-true-clause-same : goal.returns-in-Ok-true-clause-same
returns-in-Ok-true-clause-same g c =
    let at = c.args.leaf.now in
    let wide = c.requires.at.walks.fits.block.2 in
    let memory = c.args.memory.now in
    let is : c.carry.result ≡ Ok true =
    c.in-Ok-true.is ∙ ap (λ (there : Bool). Ok there) c.in-Ok-true.field-0-test in
    ((rw is at c.carry.ensures).on (
      c.args.self.now,
      script_of at.job at.layout (in_block at at.rank memory),
    ) (ends (begins 1))
    (after_task at c.requires.at.leaf wide memory (idle at (memo at c.requires.at.leaf wide memory))) (
      refl,
      task_starts at c.requires.at.leaf wide memory (driving c.args.self.now) c.requires.at.walks
          (ends (begins 1)),
    )).0

pub returns-in-Ok-true-clause-done : goal.returns-in-Ok-true-clause-done
returns-in-Ok-true-clause-done g c =
    let at = c.args.leaf.now in
    let wide = c.requires.at.walks.fits.block.2 in
    let memory = c.args.memory.now in
    let is : c.carry.result ≡ Ok true =
    c.in-Ok-true.is ∙ ap (λ (there : Bool). Ok there) c.in-Ok-true.field-0-test in
    let takes = rw is at c.carry.ensures in
    let done = (takes.on (
      c.args.self.now,
      script_of at.job at.layout (in_block at at.rank memory),
    ) (ends (begins 1))
    (after_task at c.requires.at.leaf wide memory (idle at (memo at c.requires.at.leaf wide memory))) (
      refl,
      task_starts at c.requires.at.leaf wide memory (driving c.args.self.now) c.requires.at.walks
          (ends (begins 1)),
    )).1 in
    subst (λ (now : List Memo). DonePart at (driving c.args.self.now) memory
    (driving c.carry.new.steps) now) (sym takes.kept)
    (task_done at c.requires.at.leaf wide memory (driving c.args.self.now)
    (driving c.carry.new.steps) c.requires.at.walks
    (sound_at (post_task at) (driving c.carry.new.steps) done.here c.facts.ensures) takes.learned
    c.requires.at.fits (passes_driving (idle at (memo at c.requires.at.leaf wide memory))
    takes.learned (λ d. driving d) _ _ takes.idle) done)

pub part_apart-requires : goal.part_apart-requires
part_apart-requires g c =
    let is : c.carry.result ≡ Ok false =
    c.in-Ok-false.is ∙ ap (λ (there : Bool). Ok there) c.in-Ok-false.field-0-test in
    let still = rw is at c.carry.ensures in
    record { at = rw (still.0, still.1) c.requires.at }
