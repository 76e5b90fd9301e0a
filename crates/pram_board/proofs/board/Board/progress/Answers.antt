use Rattle.std.proofs.Common.{◌≡◌, ◌<◌, ap, subst, ◌∙◌, inl}
use Rattle.pram_words.specs.Words.{length_of, number_of}
use Rattle.pram_words.specs.declared.words.Word.TheVariants.{Conflict, Node}
use Rattle.walkx.specs.declared.operation.Op.TheVariants.{Load}
use Rattle.lawful_walk.specs.Moments.{Sound}
use Rattle.pram_board.specs.Seats.{Desk, SeatData, hears}
use Rattle.pram_board.proofs.Steps.{may_load, root_small, conflict_small}
use Rattle.pram_board.proofs.Remembering.{progress_conflict, remembers_progress}
use Rattle.pram_board.proofs.Told.{progressed}
use Rattle.pram_board.proofs.board.Board.progress.Goals as goal

pub step-root-requires-clause-allowed : goal.step-root-requires-clause-allowed
step-root-requires-clause-allowed c = may_load c.args.self.now.task _ c.node_word.result
    (subst (λ (d : Desk). c.node_word.result < length_of d.task.layout)
    c.self.view_is c.node_word.ensures.below)

pub step-named-requires-clause-allowed : goal.step-named-requires-clause-allowed
step-named-requires-clause-allowed c = may_load c.args.self.now.task _ c.conflict_word.result
    (subst (λ (d : Desk). c.conflict_word.result < length_of d.task.layout) c.self.view_is
    c.conflict_word.ensures.below)

pub seen_step-requires : goal.seen_step-requires
seen_step-requires c =
    let t = c.args.self.now.task in
    root_small t c.args.seat.now.record_of c.node_word.result c.step-root.result c.facts.ensures
    (subst (λ (d : Desk). c.node_word.result ≡ number_of d.task.layout (Node 1))
    c.self.view_is c.node_word.ensures.value)
    (subst (λ (d : Desk). c.node_word.result < length_of d.task.layout)
    c.self.view_is c.node_word.ensures.below)
    (subst (λ (p : SeatData). Sound t.job t.layout p.record_of)
    c.step-root.ensures.grows c.step-root.ensures.sound)

pub named_step-requires : goal.named_step-requires
named_step-requires c =
    let t = c.args.self.now.task in
    conflict_small t c.step-root.new.seat.record_of
    c.conflict_word.result c.step-named.result c.facts.ensures
    (subst (λ (d : Desk). c.conflict_word.result ≡ number_of d.task.layout Conflict) c.self.view_is
    c.conflict_word.ensures.value)
    (subst (λ (d : Desk). c.conflict_word.result < length_of d.task.layout)
    c.self.view_is c.conflict_word.ensures.below)
    (subst (λ (p : SeatData). Sound t.job t.layout p.record_of)
    c.step-named.ensures.grows c.step-named.ensures.sound)

pub returns-clause-progressed : goal.returns-clause-progressed
returns-clause-progressed c =
    progressed c.args.self.now.task c.args.seat.now c.step-named.new.seat c.step-root.result
    c.step-named.result c.node_word.result c.conflict_word.result _
    (subst (λ (d : Desk). c.node_word.result ≡ number_of d.task.layout (Node 1))
    c.self.view_is c.node_word.ensures.value)
    (subst (λ (d : Desk). c.conflict_word.result ≡ number_of d.task.layout Conflict)
    c.self.view_is c.conflict_word.ensures.value)
    (c.step-named.ensures.grows ∙ ap (λ (p : SeatData).
    hears p (Load c.conflict_word.result) c.step-named.result) c.step-root.ensures.grows)
    c.seen_step.ensures c.named_step.ensures c.step-named.ensures.sound

pub returns-clause-knows : goal.returns-clause-knows
returns-clause-knows c = record { knows = inl (returns-clause-progressed c).well.shows }

pub returns-clause-conflict : goal.returns-clause-conflict
returns-clause-conflict c = progress_conflict _ _ _ _ (returns-clause-progressed c)

pub returns-clause-later : goal.returns-clause-later
returns-clause-later c = record {
  desk = ap (λ (p : SeatData). p.desk) c.step-named.ensures.grows
      ∙ ap (λ (p : SeatData). p.desk) c.step-root.ensures.grows ∙ c.requires;
  keeps = remembers_progress _ _ _ _ (returns-clause-progressed c);
}
