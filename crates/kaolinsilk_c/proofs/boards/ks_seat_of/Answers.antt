use Rattle.std.proofs.Common.{subst}
use Rattle.library_boards.specs.declared.member.Member.{Member}
use Rattle.library_boards.specs.Members.{IsReaderAt, shared_at}
use Rattle.kaolinsilk_c.proofs.Passing.{made}
use Rattle.kaolinsilk_c.proofs.boards.ks_seat_of.Goals as goal

pub returns-in-Ok-clause-made : goal.returns-in-Ok-clause-made
returns-in-Ok-clause-made c = λ _.
    let reader = c.in-Ok.reader.value in
    made _ _ IsReaderAt c.take-member.result.value reader c.take-member.ensures.member
    c.of-in-Ok.ensures (subst (λ (m : Member). IsReaderAt (shared_at m) reader)
    c.deref.ensures c.in-Ok.ensures.made)
