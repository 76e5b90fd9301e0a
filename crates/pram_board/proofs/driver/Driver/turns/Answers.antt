use Rattle.std.proofs.Common.{refl, ◌∙◌}
use Rattle.pram_board.specs.Inner.Plays.{driving}
use Rattle.pram_board.proofs.Roaming.{walks_looked}
use Rattle.pram_board.proofs.Working.{ranged_none, room_left, sound_at, visited}
use Rattle.pram_board.proofs.driver.Driver.turns.Goals as goal

pub visits-init : goal.visits-init
visits-init g c = record {
  same = refl;
  walks = c.requires.walks;
  ranged = ranged_none _ (driving c.args.self.now) c.args.patience.now _ c.requires.few
      c.requires.most;
}

pub new-post-requires : goal.new-post-requires
new-post-requires g c =
    let walks = c.visits.invariant.walks in
    rw c.task-task.ensures.value (record {
      board = walks.here.board;
      worker = walks.fits.number;
      some = walks.fits.node.0;
      most = walks.fits.node.1;
    })

pub keep_off-requires : goal.keep_off-requires
keep_off-requires g c =
    let i = c.visits.invariant in
    let first = c.requires.walks in
    record {
      room = room_left _ _ _ _ _ _ first.here.board c.requires.room i.ranged;
      few = i.ranged.few;
      most = i.ranged.left;
      here = rw (c.new-post.ensures, c.task-task.ensures.value) i.walks.here;
    }

pub visit-requires-clause-walks : goal.visit-requires-clause-walks
visit-requires-clause-walks g c =
    rw (c.new-post.ensures, c.task-task.ensures.value) (walks_looked _ _ _ _ _ _
    (rw (c.new-post.ensures, c.task-task.ensures.value) at c.keep_off.ensures.looked)
    c.visits.invariant.walks)

pub returns-in-None-clause-led : goal.returns-in-None-clause-led
returns-in-None-clause-led g c =
    let i = c.visits.invariant in
    let first = c.requires.walks in
    let led = rw (c.new-post.ensures, c.task-task.ensures.value) at c.in-None.ensures.led in
    let looked = rw (c.new-post.ensures, c.task-task.ensures.value) at c.keep_off.ensures.looked in
    let done = visited _ _ _ _ _ _ first.here.board c.requires.room i.ranged first.fits first.knows
    _ _ looked _ _ led.went led.some refl (sound_at _ _ led.walks.here c.facts.ensures) in
    record { walks = led.walks; roamed = done.ranged.roamed; some = done.some }

pub visits-smaller : goal.visits-smaller
visits-smaller g c =
    let i = c.visits.invariant in
    let first = c.requires.walks in
    let led = rw (c.new-post.ensures, c.task-task.ensures.value) at c.in-Some.ensures.led in
    let looked = rw (c.new-post.ensures, c.task-task.ensures.value) at c.keep_off.ensures.looked in
    (visited _ _ _ _ _ _ first.here.board c.requires.room i.ranged first.fits first.knows
    _ _ looked _ _ led.went led.some refl
    (sound_at _ _ led.walks.here c.facts-in-Some.ensures)).nearer

pub visits-preserved : goal.visits-preserved
visits-preserved g c =
    let i = c.visits.invariant in
    let first = c.requires.walks in
    let led = rw (c.new-post.ensures, c.task-task.ensures.value) at c.in-Some.ensures.led in
    let looked = rw (c.new-post.ensures, c.task-task.ensures.value) at c.keep_off.ensures.looked in
    record {
      same = c.in-Some.ensures.same ∙ c.keep_off.ensures.same ∙ i.same;
      walks = led.walks;
      ranged = (visited _ _ _ _ _ _ first.here.board c.requires.room i.ranged first.fits
          first.knows _ _ looked _ _ led.went led.some refl
          (sound_at _ _ led.walks.here c.facts-in-Some.ensures)).ranged;
    }
