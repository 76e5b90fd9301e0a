use Rattle.std.proofs.Common.{Option, refl, sym, slice_index, subst, ◌%◌}
use Rattle.std.proofs.lemmas.Option.{IfSome_then}
use Rattle.std.specs.Prelude.{unwrap_or}
use Rattle.walk_memory.specs.declared.memo.Memo.{Memo}
use Rattle.walk_memory.specs.Inner.Posts.{at_rank, processor_of}
use Rattle.walk_memory.specs.Memory.{at_start}
use Rattle.walk_memory.specs.Plain.{ClaimsPlainly}
use Rattle.walk_memory.proofs.PlainClaims.{claim_at}
use Rattle.walk_memory.proofs.memo.Memory.plain_claims.Goals as goal

pub returns : goal.returns
returns c = IfSome_then c.plain_claims.result c.plain_claims.ensures (λ claims all rank from to.
    let at = at_rank c.args.leaf.now rank in
    let k = processor_of at % 64 in
    let held = c.in_ok-block.ensures rank from to in record {
      there = rw held.there refl;
      plain = subst (λ (o : Option Memo). ClaimsPlainly at (unwrap_or o at_start)
          (slice_index claims.cells k) claims.operand) (sym held.there)
          (claim_at c.args.leaf.now rank _ _ _ (all k held.low held.high));
    })
