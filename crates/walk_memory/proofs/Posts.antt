-- Where a worker stands.
use Rattle.std.proofs.Common.{◌≡◌, ap, sym}
use Rattle.walk_memory.specs.Inner.Posts.{PostData}

-- what is the same stands at the same node
pub node_is : {at other : PostData} → at ≡ other → at.node ≡ other.node
node_is same = ap (λ (p : PostData). p.node) same

pub form_is : {at other : PostData} → at ≡ other → other.layout.form ≡ at.layout.form
form_is same = sym (ap (λ (p : PostData). p.layout.form) same)

pub phase_is : {at other : PostData} → at ≡ other → at.phase ≡ other.phase
phase_is same = ap (λ (p : PostData). p.phase) same

pub rank_is : {at other : PostData} → at ≡ other → at.rank ≡ other.rank
rank_is same = ap (λ (p : PostData). p.rank) same
