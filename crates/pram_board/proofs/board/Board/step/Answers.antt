use Rattle.std.proofs.Common.{◌<◌, rules, ap, sym, ◌∙◌, subst}
use Rattle.pram_words.specs.Words.{length_of}
use Rattle.pram_board.proofs.Keeps.{loading, storing, raising, swapping, may_as}
use Rattle.pram_board.proofs.board.Board.step.Goals as goal

pub load-requires : goal.load-requires
load-requires c =
    let may = may_as _ _ _ _ _ _ (c.self.invariant.0 ∙ ap (λ d. d.task) c.self.view_is)
    (ap (λ p. p.record_of) c.seat.view_is) c.in-Load.is c.requires.allowed in (
      search rules,
      subst (λ n. c.in-Load.word < n)
          (ap (λ t. length_of t.layout) c.self.invariant.0 ∙ sym c.self.invariant.1) may.0,
      loading _ _ _ _ _ c.seat.invariant.0 may,
    )

pub store-requires : goal.store-requires
store-requires c =
    let may = may_as _ _ _ _ _ _ (c.self.invariant.0 ∙ ap (λ d. d.task) c.self.view_is)
    (ap (λ p. p.record_of) c.seat.view_is) c.in-Store.is c.requires.allowed in (
      search rules,
      subst (λ n. c.in-Store.word < n)
          (ap (λ t. length_of t.layout) c.self.invariant.0 ∙ sym c.self.invariant.1) may.0,
      storing _ _ _ _ _ _ c.seat.invariant.0 may,
    )

pub fetch_max-requires : goal.fetch_max-requires
fetch_max-requires c =
    let may = may_as _ _ _ _ _ _ (c.self.invariant.0 ∙ ap (λ d. d.task) c.self.view_is)
    (ap (λ p. p.record_of) c.seat.view_is) c.in-Max.is c.requires.allowed in (
      search rules,
      subst (λ n. c.in-Max.word < n)
          (ap (λ t. length_of t.layout) c.self.invariant.0 ∙ sym c.self.invariant.1) may.0,
      raising _ _ _ _ _ _ c.seat.invariant.0 may,
    )

pub compare_exchange-requires : goal.compare_exchange-requires
compare_exchange-requires c =
    let may = may_as _ _ _ _ _ _ (c.self.invariant.0 ∙ ap (λ d. d.task) c.self.view_is)
    (ap (λ p. p.record_of) c.seat.view_is) c.in-Swap.is c.requires.allowed in (
      search rules,
      subst (λ n. c.in-Swap.word < n)
          (ap (λ t. length_of t.layout) c.self.invariant.0 ∙ sym c.self.invariant.1) may.0,
      swapping _ _ _ _ _ _ _ c.seat.invariant.0 may,
    )
