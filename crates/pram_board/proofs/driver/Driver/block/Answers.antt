use Rattle.std.proofs.Common.{◌≡◌, ◌<◌, ℕ, refl, subst, ◌∙◌, arith}
use Rattle.std.proofs.lemmas.Bool.{lt-ltb}
use Rattle.walk_memory.proofs.Ranks.{rank_parts}
use Rattle.pram_board.specs.Inner.Plays.{IsWalking, driving, in_block, post_task}
use Rattle.pram_board.proofs.Working.{led_more}
use Rattle.pram_board.proofs.driver.Driver.block.Goals as goal
use Rattle.pram_board.proofs.driver.Driver.block.Goals.{then-len-gt0, else-len-gt0}

pub leaf-requires : goal.leaf-requires
leaf-requires g c =
    let at = c.args.post.now in
    let walks = c.requires.walks in
    let some : 0 < c.block_len-len.result = omega (arith, c.if-len-gt0.true) in
    let parts = rank_parts at.layout at.node 0
    (c.block_len-len.ensures.ranks 0 ∙ lt-ltb 0 c.block_len-len.result some) in
    rw c.at.ensures (record {
      board = walks.here.board;
      first = walks.fits.block.0;
      rank = parts.0;
      last = parts.1;
      phase = walks.fits.phase.1;
    })

pub tasks-requires : goal.tasks-requires
tasks-requires g c =
    let at = c.args.post.now in
    let walks = c.requires.walks in
    let parts = rank_parts at.layout at.node 0
    (c.block_len-len.ensures.ranks 0 ∙ lt-ltb 0 c.block_len-len.result c.if-len-gt0.true) in
    rw (c.leaf.ensures, c.at.ensures) (record {
      at = record {
        leaf = record {
          board = walks.here.board;
          first = walks.fits.block.0;
          rank = parts.0;
          last = parts.1;
          phase = walks.fits.phase.1;
        };
        ranks = c.block_len-len.ensures.ranks;
        fits = c.requires.fits;
        walks = walks;
      };
    })

pub mark-requires-clause-walks : goal.mark-requires-clause-walks
mark-requires-clause-walks g c = elim c.if-len-gt0.branch [
  | then-len-gt0 w ↦ rw (w.self-is, w.memory-is)
      (rw (w.leaf.ensures, w.at.ensures) at w.tasks.ensures.moved.walks)
  | else-len-gt0 w ↦ rw (w.self-is, w.memory-is) (
      let none : 0 ≡ c.block_len-len.result = omega (arith, w.if-len-gt0.false) in
      subst (λ (rank : ℕ). IsWalking (post_task c.args.post.now) (driving c.args.self.now)
      (in_block c.args.post.now rank c.args.memory.now)) none c.requires.walks)
]

pub returns-clause-same : goal.returns-clause-same
returns-clause-same g c = elim c.if-len-gt0.branch [
  | then-len-gt0 w ↦ c.mark.ensures.same ∙ rw w.self-is w.tasks.ensures.same
  | else-len-gt0 w ↦ c.mark.ensures.same ∙ rw w.self-is refl
]

pub returns-clause-led : goal.returns-clause-led
returns-clause-led g c = elim c.if-len-gt0.branch [
  | then-len-gt0 w ↦ (
      let moved = rw (w.leaf.ensures, w.at.ensures) at w.tasks.ensures.moved in
      led_more _ _ _ (driving w.tasks.new.self) _ _ _ moved.went
      (rw (w.self-is, w.memory-is) at c.mark.ensures.led))
  | else-len-gt0 w ↦ (
      let none : c.block_len-len.result ≡ 0 = omega (arith, w.if-len-gt0.false) in
      rw none at (rw (w.self-is, w.memory-is) at c.mark.ensures.led))
]
