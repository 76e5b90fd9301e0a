use Rattle.std.proofs.Common.{◌<◌, rules, ap, sym, refl, ◌∙◌, subst}
use Rattle.pram_words.specs.Words.{length_of}
use Rattle.pram_board.proofs.Keeps.{loading, may_as}
use Rattle.pram_board.proofs.board.Board.load.Goals as goal

pub load-requires : goal.load-requires
load-requires c =
    let may = may_as _ _ _ _ _ _ (c.self.invariant.0 ∙ ap (λ d. d.task) c.self.view_is)
    (ap (λ p. p.record_of) c.seat.view_is) refl c.requires.allowed in (
      search rules,
      subst (λ n. c.args.word < n)
          (ap (λ t. length_of t.layout) c.self.invariant.0 ∙ sym c.self.invariant.1) may.0,
      loading _ _ _ _ _ c.seat.invariant.0 may,
    )
