use Rattle.std.proofs.Common.{refl}
use Rattle.pram_board.specs.Inner.Plays.{driving, post_task}
use Rattle.pram_board.proofs.Blocks.{gone, mark_leads, mark_starts, marks_block}
use Rattle.pram_board.proofs.Working.{sound_at}
use Rattle.pram_board.proofs.driver.Driver.mark.Goals as goal

pub mark-requires : goal.mark-requires
mark-requires g c =
    let at = c.args.post.now in
    rw (c.go_on-reach.ensures.reach, c.go_on-reach.ensures.gone) (record {
      wide = c.requires.walks.fits.block.2;
      phase = c.requires.walks.fits.phase.1;
      here = record {
        from = (c.args.self.now, marks_block at (gone at c.args.memory.now));
        here = (
          refl,
          mark_starts at c.args.rank c.args.memory.now c.requires.walks.fits.block.2
              c.requires.last (driving c.args.self.now) c.requires.walks,
        );
      };
    })

pub unreachable-requires : goal.unreachable-requires
unreachable-requires g c =
    let at = c.args.post.now in
    (rw (c.go_on-reach.ensures.reach, c.go_on-reach.ensures.gone) at
    (c.in-Err.ensures.reaches.on (c.args.self.now, marks_block at (gone at c.args.memory.now))) (
      refl,
      mark_starts at c.args.rank c.args.memory.now c.requires.walks.fits.block.2 c.requires.last
          (driving c.args.self.now) c.requires.walks,
    )).1

pub returns-clause-same : goal.returns-clause-same
returns-clause-same g c =
    let at = c.args.post.now in
    (rw (c.go_on-reach.ensures.reach, c.go_on-reach.ensures.gone) at
    (c.in-Ok.ensures.reaches.on (c.args.self.now, marks_block at (gone at c.args.memory.now))) (
      refl,
      mark_starts at c.args.rank c.args.memory.now c.requires.walks.fits.block.2 c.requires.last
          (driving c.args.self.now) c.requires.walks,
    )).0

pub returns-clause-led : goal.returns-clause-led
returns-clause-led g c =
    let at = c.args.post.now in
    let done = (rw (c.go_on-reach.ensures.reach, c.go_on-reach.ensures.gone) at
    (c.in-Ok.ensures.reaches.on (c.args.self.now, marks_block at (gone at c.args.memory.now))) (
      refl,
      mark_starts at c.args.rank c.args.memory.now c.requires.walks.fits.block.2 c.requires.last
          (driving c.args.self.now) c.requires.walks,
    )).1 in
    rw c.go_on-reach.ensures.gone (mark_leads at c.args.rank c.args.memory.now c.requires.walks.fits.block.2
    c.requires.last (driving c.args.self.now) (driving c.mark.new.steps) c.in-Ok.turned
    c.requires.walks (sound_at (post_task at) (driving c.mark.new.steps) done.here c.facts.ensures)
    done)
