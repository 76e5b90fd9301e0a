use Rattle.std.proofs.Common.{◌∙◌, ◌++◌, ℕ, List, ap, sym}
use Rattle.std.proofs.lemmas.Bool.{false≢true}
use Rattle.std.proofs.lemmas.Bool.Decides.{Decides-eqb}
use Rattle.std.proofs.lemmas.Slice.Eq.{starts_is}
use Rattle.naming.proofs.Digits.{named}
use Rattle.naming.proofs.places.cells_named.Goals as goal

pub returns-then-not-starts_with : goal.returns-then-not-starts_with
returns-then-not-starts_with c = λ cell small has told.
    let begins = named c.args.array.now cell c.args.place.now told in
    let starts = (starts_is Decides-eqb c.args.place.now c.name.result.now c.starts_with.result
    c.starts_with.ensures.value).1 begins.0
    (begins.1 ∙ ap (λ (l : List ℕ). l ++ begins.0) (sym c.name.ensures)) in
    absurd (false≢true (sym c.if-not-starts_with.true ∙ starts))
