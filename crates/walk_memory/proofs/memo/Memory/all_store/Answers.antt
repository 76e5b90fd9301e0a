use Rattle.std.proofs.Common.{◌≡◌, ◌*◌, ◌/◌, ◌%◌, ◌≤◌, ◌+◌, ◌-◌, arith}
use Rattle.walk_memory.proofs.Storing.{all_stores}
use Rattle.walk_memory.proofs.memo.Memory.all_store.Goals as goal

pub returns-in-Some : goal.returns-in-Some
returns-in-Some c = λ is.
    let at = c.args.leaf.now in
    let i = c.processor-i.result in
    let more = c.saturating_sub-more.result in
    let most : i % 64 + more ≤ 64 = omega (arith, c.if-start-more.false) in
    let length_is : i % 64 + (c.args.len - at.rank) ≡ i % 64 + more =
    omega (arith, c.saturating_sub-more.ensures, c.rank.ensures) in
    all_stores at c.args.len c.args.self.now c.in-Some.block.now (64 * (i / 64)) (i % 64)
    (i % 64 + more) (omega (arith, c.processor-i.ensures.value)) (omega arith) c.requires.second
    length_is most c.in-Some.ensures.some (rw c.step.ensures.value at (c.all_stored.ensures is))
