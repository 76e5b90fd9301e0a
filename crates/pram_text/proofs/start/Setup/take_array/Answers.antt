use Rattle.std.proofs.Common.{◌≡◌, ◌∙◌, ◌||◌, sym, refl, ap, ap₂, true, false, is_some, Some, None}
use Rattle.std.proofs.Common.{arith, if◌then◌else◌}
use Rattle.std.proofs.lemmas.Map.Text.{btree_map_updates_str}
use Rattle.std.proofs.lemmas.Result.{err_from_is_err_and}
use Rattle.pram_text.specs.declared.fault.TextKind.TheVariants.{BadHeader}
use Rattle.text_lines.specs.Lines.{is_filled}
use Rattle.pram_text.specs.Inner.Statement.{array_of_name}
use Rattle.pram_text.proofs.Inits.{array_read-err, array_read-ok, bare_if, filled_unless}
use Rattle.pram_text.proofs.Inits.{entry_fault-err, entry_fault-late, HoldsStart-named}
use Rattle.pram_text.proofs.start.Setup.take_array.Goals as goal

pub returns-in_err-name : goal.returns-in_err-name
returns-in_err-name c = λ inits h.
    let p = err_from_is_err_and c.from_residual.result c.from_residual.ensures.1 in
    rw (p.1, p.2) (λ _. entry_fault-err true c.args.cells inits _ _
    (array_read-err c.args.cells _ _ _ c.requires.line c.array_in.ensures c.in_err-name.was))

pub returns-then-not-is_empty : goal.returns-then-not-is_empty
returns-then-not-is_empty c = λ inits h _.
    let said = array_read-ok c.args.cells _ _ _ c.requires.line c.array_in.ensures
    c.in_ok-name.was in
    let filled : is_filled c.args.self.now.values.items ≡ true =
    filled_unless _ _ (omega (arith, c.args.self.now.values.ok.0))
    (sym c.is_empty.ensures ∙ c.if-not-is_empty.true) in
    entry_fault-late true c.args.cells inits c.args.self.now _ h _ _ said
    ∙ ap (λ b. if b || is_some (array_of_name c.args.self.now.arrays c.in_ok-name.name.now)
    then Some BadHeader else None) filled

pub returns-in-None : goal.returns-in-None
returns-in-None c = λ inits h.
    let said = array_read-ok c.args.cells _ _ _ c.requires.line c.array_in.ensures
    c.in_ok-name.was in
    let bare : is_filled c.args.self.now.values.items ≡ false =
    bare_if _ _ (omega (arith, c.args.self.now.values.ok.0))
    (sym c.is_empty.ensures ∙ c.if-not-is_empty.false) in
    let none : array_of_name c.args.self.now.arrays c.in_ok-name.name.now ≡ None =
    sym c.in_ok-insert.ensures.old ∙ c.in-None.is in (
      entry_fault-late true c.args.cells inits c.args.self.now _ h _ _ said
          ∙ ap₂ (λ a o. if a || is_some o then Some BadHeader else None) bare none,
      HoldsStart-named true c.args.cells inits c.args.self.now _ h _ _ said _ bare none refl
          (λ name. btree_map_updates_str _ c.args.self.now.arrays c.insert.new.self _
          c.in_ok-insert.ensures.updates name),
    )

pub returns-in-Some : goal.returns-in-Some
returns-in-Some c = λ inits h _.
    let said = array_read-ok c.args.cells _ _ _ c.requires.line c.array_in.ensures
    c.in_ok-name.was in
    let bare : is_filled c.args.self.now.values.items ≡ false =
    bare_if _ _ (omega (arith, c.args.self.now.values.ok.0))
    (sym c.is_empty.ensures ∙ c.if-not-is_empty.false) in
    let some = sym c.in_ok-insert.ensures.old ∙ c.in-Some.is in
    entry_fault-late true c.args.cells inits c.args.self.now _ h _ _ said
    ∙ ap₂ (λ a o. if a || is_some o then Some BadHeader else None) bare some
