use Rattle.std.proofs.Common.{◌∙◌, ℕ, List, All, ap, sym, subst}
use Rattle.std.proofs.lemmas.List.Elements.{All-cons, All-head, All-tail}
use Rattle.std.proofs.lemmas.Bool.{false≢true}
use Rattle.command_data.specs.CellLists.{SpellsPart, parts_left}
use Rattle.command_data.proofs.cell_list.CellList.read.Goals as goal

-- the first of those that are left names no cell
pub returns-then-not-spells_part-clause-none : goal.returns-then-not-spells_part-clause-none
returns-then-not-spells_part-clause-none c = λ _ all.
    let left = subst (λ (ps : List (List ℕ)). All SpellsPart ps)
    (ap parts_left c.in-Some.is ∙ c.first_part.ensures) (c.loop-left.invariant.down all) in
    false≢true (sym c.if-not-spells_part.true
    ∙ c.spells_part.ensures.1 (All-head SpellsPart c.first_part.result.0.now
    (parts_left c.first_part.result.1) left))

pub loop-left-preserved : goal.loop-left-preserved
loop-left-preserved c = record {
  down = λ all. All-tail SpellsPart c.first_part.result.0.now
      (parts_left c.first_part.result.1) (subst (λ (ps : List (List ℕ)). All SpellsPart ps)
      (ap parts_left c.in-Some.is ∙ c.first_part.ensures) (c.loop-left.invariant.down all));
  up = λ rest. c.loop-left.invariant.up (subst (λ (ps : List (List ℕ)). All SpellsPart ps)
      (sym (ap parts_left c.in-Some.is ∙ c.first_part.ensures))
      (All-cons SpellsPart c.first_part.result.0.now (parts_left c.first_part.result.1)
      (c.spells_part.ensures.0 c.if-not-spells_part.false) rest));
}
