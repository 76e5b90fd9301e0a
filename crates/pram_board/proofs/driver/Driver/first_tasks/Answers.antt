use Rattle.std.proofs.Common.{◌≡◌, ◌<◌, suc, ℕ, refl, ap, subst, ◌∙◌, arith}
use Rattle.pram_words.specs.Phases.{kind_at}
use Rattle.walk_memory.specs.Inner.Posts.{PostData}
use Rattle.pram_board.specs.Inner.Plays.{Moved, driving, in_block, post_task}
use Rattle.pram_board.proofs.Tasks.{leaf_after, not_moved, same_after, task_after, went_on}
use Rattle.pram_board.proofs.driver.Driver.first_tasks.Goals as goal

pub loop-leaf-init : goal.loop-leaf-init
loop-leaf-init g c = record {
  seat = refl;
  same = refl;
  at = c.requires.at;
  moved = not_moved _ _ _ c.requires.at.walks;
}

pub returns-then-last-len-clause-moved : goal.returns-then-last-len-clause-moved
returns-then-last-len-clause-moved g c =
    let i = c.loop-leaf.invariant in
    let last : suc c.task-last.result ≡ c.args.len =
    omega (arith, c.if-last-len.true) in
    subst (λ (rank : ℕ). Moved (post_task c.args.leaf) (driving c.args.self.now)
    (in_block c.args.leaf c.args.leaf.rank c.args.memory.now) (driving c.task-last.new.self)
    (in_block c.args.leaf rank c.task-last.new.memory)) last
    (went_on c.args.leaf c.loop-leaf.leaf i.same c.args.len
    (driving c.args.self.now) c.args.memory.now (driving c.loop-leaf.self) c.loop-leaf.memory i.at
    i.moved (driving c.task-last.new.self) c.task-last.new.memory c.task-last.result c.task-last.ensures.done)

pub after-leaf-requires-clause-leaf : goal.after-leaf-requires-clause-leaf
after-leaf-requires-clause-leaf g c =
    let i = c.loop-leaf.invariant in
    let within = c.task-last.ensures.done.within in
    let more : suc c.task-last.result < c.args.len =
    omega (arith, within, c.if-last-len.false) in
    leaf_after c.args.leaf c.loop-leaf.leaf i.same c.args.len
    (driving c.args.self.now) c.args.memory.now (driving c.loop-leaf.self) c.loop-leaf.memory i.at
    i.moved (driving c.task-last.new.self) c.task-last.new.memory c.task-last.result c.task-last.ensures.done more

pub loop-leaf-smaller : goal.loop-leaf-smaller
loop-leaf-smaller g c =
    let done = c.task-last.ensures.done in
    let next = ap (λ (a : PostData). a.rank) c.after-leaf.ensures in
    omega (arith, done.onward, done.within, next)

pub loop-leaf-preserved : goal.loop-leaf-preserved
loop-leaf-preserved g c =
    let i = c.loop-leaf.invariant in
    let within = c.task-last.ensures.done.within in
    let more : suc c.task-last.result < c.args.len =
    omega (arith, within, c.if-last-len.false) in
    rw c.after-leaf.ensures (record {
      seat = c.task-last.ensures.same ∙ i.seat;
      same = same_after c.args.leaf c.loop-leaf.leaf i.same c.args.len
          (driving c.args.self.now) c.args.memory.now (driving c.loop-leaf.self)
          c.loop-leaf.memory i.at i.moved (driving c.task-last.new.self) c.task-last.new.memory
          c.task-last.result c.task-last.ensures.done;
      at = task_after c.args.leaf c.loop-leaf.leaf i.same c.args.len
          (driving c.args.self.now) c.args.memory.now (driving c.loop-leaf.self)
          c.loop-leaf.memory i.at i.moved (driving c.task-last.new.self) c.task-last.new.memory
          c.task-last.result c.task-last.ensures.done more;
      moved = went_on c.args.leaf c.loop-leaf.leaf i.same c.args.len
          (driving c.args.self.now) c.args.memory.now (driving c.loop-leaf.self)
          c.loop-leaf.memory i.at i.moved (driving c.task-last.new.self) c.task-last.new.memory
          c.task-last.result c.task-last.ensures.done;
    })

pub task-last-requires-clause-first : goal.task-last-requires-clause-first
task-last-requires-clause-first g c =
    ap (λ (a : PostData). kind_at a.phase) c.loop-leaf.invariant.same ∙ c.requires.first
