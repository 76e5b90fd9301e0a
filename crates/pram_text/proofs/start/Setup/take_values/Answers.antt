use Rattle.std.proofs.Common.{◌≡◌, ◌≤◌, ◌∙◌, refl, ap, Ok, Err, Some, None}
use Rattle.std.proofs.Common.{length, arith, if◌then◌else◌}
use Rattle.std.specs.Option.{option_or}
use Rattle.std.specs.Vec.{with_items}
use Rattle.std.proofs.lemmas.List.{with_items_is}
use Rattle.std.proofs.lemmas.Result.{err_from_is_err_and}
use Rattle.pram_text.specs.declared.fault.TextKind.TheVariants.{BadHeader}
use Rattle.text_lines.specs.Lines.{is_filled}
use Rattle.pram_text.specs.Judgement.{gives}
use Rattle.pram_text.specs.Inner.Reading.{value_given}
use Rattle.pram_text.specs.Text.{value_by}
use Rattle.pram_text.proofs.Inits.{init_read-err, init_read-ok, filled_by, given_before}
use Rattle.pram_text.proofs.Inits.{entry_fault-err, entry_fault-given, HoldsStart-given}
use Rattle.pram_text.proofs.start.Setup.take_values.Goals as goal

pub returns-in_err-first : goal.returns-in_err-first
returns-in_err-first c = λ inits h.
    let p = err_from_is_err_and c.from_residual.result c.from_residual.ensures.1 in
    rw (p.1, p.2) (λ _. entry_fault-err c.args.later c.args.cells inits _ _
    (init_read-err c.args.later c.args.cells _ _ _ c.requires.line c.init_in.ensures.read
    c.in_err-first.was))

pub returns-in_err-values : goal.returns-in_err-values
returns-in_err-values c = λ inits h.
    let p = err_from_is_err_and c.from_residual-in_err-values.result
    c.from_residual-in_err-values.ensures.1 in
    rw (p.1, p.2) (λ other. entry_fault-err c.args.later c.args.cells inits _ _
    (init_read-ok c.args.later c.args.cells _ _ _ (Err _) c.requires.line c.init_in.ensures.read
    c.in_ok-first.was (c.in_err-values.ensures.read other)))

pub returns-then-is_given : goal.returns-then-is_given
returns-then-is_given c = λ inits h _.
    let said = init_read-ok c.args.later c.args.cells _ _ _ (Ok _) c.requires.line
    c.init_in.ensures.read c.in_ok-first.was c.in_ok-values.ensures.read in
    let len : c.len.result ≡ length c.in_ok-values.values.items =
    omega (arith, c.in_ok-values.values.ok.0) in
    let asked = given_before c.args.self.now.values.items c.make_room.new.start.items
    c.in_ok-first.first _ _ _ c.make_room.ensures.given len
    (rw c.deref.ensures.value at c.is_given.ensures) in
    entry_fault-given c.args.later c.args.cells inits c.args.self.now _ h _ _ said
    ∙ ap (λ b. if b then Some BadHeader else None) (asked ∙ c.if-is_given.true)

pub returns : goal.returns
returns c = λ inits h.
    let said = init_read-ok c.args.later c.args.cells _ _ _ (Ok _) c.requires.line
    c.init_in.ensures.read c.in_ok-first.was c.in_ok-values.ensures.read in
    let len : c.len.result ≡ length c.in_ok-values.values.items =
    omega (arith, c.in_ok-values.values.ok.0) in
    let asked = given_before c.args.self.now.values.items c.make_room.new.start.items
    c.in_ok-first.first _ _ _ c.make_room.ensures.given len
    (rw c.deref.ensures.value at c.is_given.ensures) in
    let none = asked ∙ c.if-is_given.false in
    let start = c.deref_mut.ensures.value in
    let same : length c.give.new.start ≡ length c.make_room.new.start.items =
    c.give.ensures.len ∙ ap length start in
    let now : (with_items c.make_room.new.start c.give.new.start).items ≡ c.give.new.start =
    with_items_is c.make_room.new.start _ (omega (arith, same, c.make_room.new.start.ok.0)) in
    let some : 1 ≤ length c.give.new.start =
    omega (
      arith,
      c.requires.cells,
      c.in_ok-make_room.ensures.room,
      same,
      c.make_room.new.start.ok.0,
    ) in (
      entry_fault-given c.args.later c.args.cells inits c.args.self.now _ h _ _ said
          ∙ ap (λ b. if b then Some BadHeader else None) none,
      HoldsStart-given c.args.later c.args.cells inits c.args.self.now _ h _ _ said _ none
          (λ name. refl) (ap is_filled now ∙ filled_by c.give.new.start some)
          (λ q. ap (λ items. value_given items q) now
          ∙ (rw (start, c.deref-2.ensures.value) at (c.give.ensures.given q))
          ∙ ap (option_or (value_by (gives c.in_ok-first.first c.in_ok-values.values.items) q))
          (c.make_room.ensures.given q)),
    )
