use Rattle.std.proofs.Common.{◌∙◌, ℕ, List, ap, arith, take_all}
use Rattle.std.specs.Prelude.{fold}
use Rattle.naming.specs.Inner.Places.{read_on}
use Rattle.naming.proofs.Digits.{brackets_read}
use Rattle.naming.proofs.places.last_number.Goals as goal

pub returns : goal.returns
returns c = λ front number small is.
    c.loop-byte.invariant
    ∙ ap (λ (l : List ℕ). fold read_on 0 l)
    (take_all c.loop-byte.byte-index c.args.place.now (omega arith))
    ∙ brackets_read front c.args.place.now number small is
