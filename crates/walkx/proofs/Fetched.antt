-- What an instruction that was looked up says.
use Rattle.std.proofs.Common.{◌≡◌, Option, Some, None}
use Rattle.std.specs.Prelude.{MatchOption}

pub fetched_none : {T : Type 0} (o : Option T) (A : Type 0) (B : T → Type 0) →
    MatchOption o A B → o ≡ None → A
fetched_none None A B is none = is
fetched_none (Some x) A B is none = absurd (cc)

pub fetched_some : {T : Type 0} (o : Option T) (x : T) (A : Type 0) (B : T → Type 0) →
    MatchOption o A B → o ≡ Some x → B x
fetched_some None x A B is some = absurd (cc)
fetched_some (Some z) x A B is some = let same : z ≡ x = cc in rw (← same) is
