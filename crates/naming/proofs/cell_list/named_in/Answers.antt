use Rattle.std.proofs.Common.{◌≡◌, ◌⊎◌, ◌≤◌, ◌∙◌, ℕ, List, [], ◌∷◌, ◌++◌, All, Option, None}
use Rattle.std.proofs.Common.{Some, ap, sym, subst}
use Rattle.std.proofs.Common.{append-nil, append_assoc, arith, length, refl}
use Rattle.std.proofs.lemmas.List.Elements.{All-nil, All-push}
use Rattle.std.specs.Borrow.{Bor}
use Rattle.command_data.specs.CellLists.{SpellsCell, cell_listed, parts_left, parts_of}
use Rattle.naming.specs.CellLists.{AreStretches}
use Rattle.naming.specs.declared.places.Stretch.{Stretch}
use Rattle.refusals.specs.declared.fault.CommandFault.TheVariants.{OutsideCell, OutsidePlace}
use Rattle.naming.proofs.Cells.{as_many, named_more, first_without, found_none, found_some}
use Rattle.naming.proofs.Cells.{front_here, said_outside, turn_here}
use Rattle.naming.proofs.cell_list.named_in.Goals as goal

no_parts : (left : Option (Bor (List ℕ))) → ((rest : Bor (List ℕ)) → left ≡ Some rest → ⊥) →
    parts_left left ≡ []
no_parts None none = refl
no_parts (Some rest) none = absurd (none rest refl)

pub loop-left-init : goal.loop-left-init
loop-left-init c =
    let names = c.args.spelled.now.names in
    let none = sym c.new-named.ensures.items in (
      [],
      refl,
      subst (λ (l : List Stretch). AreStretches names [] l) none tt,
      subst (λ (l : List Stretch). All (λ cells. cells.end ≤ c.args.spelled.now.job.cells) l) none
          (All-nil (λ (cells : Stretch). cells.end ≤ c.args.spelled.now.job.cells)),
    )

pub returns-in_default-2-clause-outside : goal.returns-in_default-2-clause-outside
returns-in_default-2-clause-outside c =
    let names = c.args.spelled.now.names in
    let job = c.args.spelled.now.job in
    let parts = parts_of c.args.text.now in
    let done = c.loop-left.invariant.0 in
    let part = c.first_part.result.0.now in
    let tail = parts_left c.first_part.result.1 in
    let e : parts ≡ done ++ part ∷ tail =
    c.loop-left.invariant.1 ∙ ap (λ left. done ++ parts_left left) c.in-Some.is
    ∙ ap (λ (l : List (List ℕ)). done ++ l) c.first_part.ensures in
    let turn = turn_here parts done tail part e in
    let all = as_many names done c.loop-left.named.items c.loop-left.invariant.2 in
    let count : c.len.result ≡ length done = omega (arith, c.len.ensures, c.loop-left.named.ok, all) in
    let none = found_none c.in_ok-cells.field-0 _ _ c.in_ok-cells.ensures c.in_default-2.not-Some in
    said_outside names job parts (length done) part c.outside.result
    (first_without names job parts done c.loop-left.named.items (length done) part
    (front_here parts done (part ∷ tail) e) refl c.loop-left.invariant.2 c.loop-left.invariant.3 turn
    none) turn
    (subst (λ (n : ℕ). (SpellsCell part × (c.outside.result ≡ OutsideCell (cell_listed part)))
    ⊎ ((¬ SpellsCell part) × (c.outside.result ≡ OutsidePlace n))) count c.outside.ensures)

pub loop-left-preserved : goal.loop-left-preserved
loop-left-preserved c =
    let names = c.args.spelled.now.names in
    let done = c.loop-left.invariant.0 in
    let part = c.first_part.result.0.now in
    let tail = parts_left c.first_part.result.1 in
    let found = found_some c.in_ok-cells.field-0 _ _ c.in-Some-2.cells c.in_ok-cells.ensures
    c.in-Some-2.is in
    let kept = c.in_ok-keep.ensures in (
      done ++ part ∷ [],
      c.loop-left.invariant.1 ∙ ap (λ left. done ++ parts_left left) c.in-Some.is
          ∙ ap (λ (l : List (List ℕ)). done ++ l) c.first_part.ensures
          ∙ sym (append_assoc done (part ∷ []) tail),
      subst (λ (l : List Stretch). AreStretches names (done ++ part ∷ []) l) (sym kept)
          (named_more names done c.loop-left.named.items part c.in-Some-2.cells
          c.loop-left.invariant.2 found.0),
      subst (λ (l : List Stretch). All (λ cells. cells.end ≤ c.args.spelled.now.job.cells) l)
          (sym kept)
          (All-push (λ (cells : Stretch). cells.end ≤ c.args.spelled.now.job.cells)
          c.loop-left.named.items c.in-Some-2.cells c.loop-left.invariant.3 found.1),
    )

pub returns-clause-named : goal.returns-clause-named
returns-clause-named c =
    let done = c.loop-left.invariant.0 in
    let whole : parts_of c.args.text.now ≡ done =
    c.loop-left.invariant.1
    ∙ ap (λ (l : List (List ℕ)). done ++ l) (no_parts c.loop-left.left c.in_default.not-Some)
    ∙ append-nil done in
    subst (λ (ps : List (List ℕ)). AreStretches c.args.spelled.now.names ps c.loop-left.named.items)
    (sym whole) c.loop-left.invariant.2
