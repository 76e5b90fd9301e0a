use Rattle.std.proofs.Common.{ℕ, ◌+◌, ◌%◌, ◌≤◌, subst, sym, arith}
use Rattle.walk_memory.proofs.Ways.{within_row}
use Rattle.walk_memory.proofs.row_walk.span_of.Goals as goal

pub invariant_of-result-clause-within : goal.invariant_of-result-clause-within
invariant_of-result-clause-within c =
    let at = c.args.post.now in
    subst (λ (n : ℕ). n % 64 + c.block_len-len.result ≤ 64) (sym c.first_processor-first.ensures)
    (omega (
      arith,
      within_row at.layout at.node c.limits_hold.ensures.board.layout.block,
      c.block_len-len.ensures.most,
    ))
