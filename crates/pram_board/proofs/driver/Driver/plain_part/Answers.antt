use Rattle.std.proofs.Common.{refl}
use Rattle.walk_memory.specs.Plain.{done_or_late}
use Rattle.walk_memory.specs.Inner.Posts.{processor_of}
use Rattle.walk_memory.specs.Memory.{memo_of}
use Rattle.walkx.specs.Scripts.{ends}
use Rattle.walkx.specs.Walk.{begins}
use Rattle.pram_board.specs.Inner.Plays.{driving, post_task}
use Rattle.pram_board.proofs.Doing.{follows, alike_done, alike_starts, script_there}
use Rattle.pram_board.proofs.Working.{sound_at}
use Rattle.pram_board.proofs.driver.Driver.plain_part.Goals as goal

pub take-requires-clause-next : goal.take-requires-clause-next
take-requires-clause-next g c =
    let at = c.args.leaf.now in
    let a = c.requires.at in
    let memory = c.args.memory.now in
    let p = driving c.args.self.now in
    record {
      from = (c.args.self.now, script_there at a.held memory a.same p a.part);
      after = ends (begins 1);
      next = follows at a.held memory a.same p a.part;
      here = (refl, alike_starts at a.held memory a.same p a.part (ends (begins 1)));
    }

pub unreachable-requires : goal.unreachable-requires
unreachable-requires g c =
    let at = c.args.leaf.now in
    let a = c.requires.at in
    let memory = c.args.memory.now in
    let p = driving c.args.self.now in
    (c.in-Err.ensures.on (c.args.self.now, script_there at a.held memory a.same p a.part)
    (ends (begins 1)) (follows at a.held memory a.same p a.part)
    (refl, alike_starts at a.held memory a.same p a.part (ends (begins 1)))).1

pub returns-clause-same : goal.returns-clause-same
returns-clause-same g c =
    let at = c.args.leaf.now in
    let a = c.requires.at in
    let memory = c.args.memory.now in
    let p = driving c.args.self.now in
    (c.in-Ok.ensures.on (c.args.self.now, script_there at a.held memory a.same p a.part)
    (ends (begins 1)) (follows at a.held memory a.same p a.part)
    (refl, alike_starts at a.held memory a.same p a.part (ends (begins 1)))).0

pub returns-clause-done : goal.returns-clause-done
returns-clause-done g c = λ held same part.
    let at = c.args.leaf.now in
    let memory = c.args.memory.now in
    let p = driving c.args.self.now in
    let z = driving c.take.new.steps in
    let does = g.P.PlainTasks.does c.args.plain.now at (processor_of at)
    (memo_of memory (processor_of at)) in
    let done = (c.in-Ok.ensures.on (c.args.self.now, script_there at held memory same p part)
    (ends (begins 1)) (follows at held memory same p part)
    (refl, alike_starts at held memory same p part (ends (begins 1)))).1 in
    alike_done at held memory same p part z (done_or_late does c.in-Ok.value) c.in-Ok.ensures.asks
    (sound_at (post_task at) z done.here c.facts.ensures) done
