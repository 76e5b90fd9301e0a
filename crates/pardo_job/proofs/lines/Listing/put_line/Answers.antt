use Rattle.std.proofs.Common.{◌≡◌, ◌+◌, ◌≤◌, ◌<◌, ◌∙◌, ◌++◌, Err, List, ap, arith, length, rules}
use Rattle.std.proofs.Common.{subst, sym}
use Rattle.std.specs.Prelude.{slice_index}
use Rattle.pram_job.specs.declared.instr.Instr.{Instr}
use Rattle.pardo_program.specs.declared.statement.Line.{Line}
use Rattle.pardo_program.specs.declared.statement.Statement.{Statement}
use Rattle.pardo_program.specs.Lawful.{IsStatement, bounds_of, masks_of}
use Rattle.pardo_flat.proofs.FlatLines.{line_there}
use Rattle.pardo_job.specs.Lines.{assignment_code, condition_code, first_code, none_code}
use Rattle.pardo_job.proofs.LineFits.{choices_in, loops_in, target_in, tree_in}
use Rattle.pardo_job.proofs.LineGoals.{assign_fails, assign_puts, else_puts, end_for_puts}
use Rattle.pardo_job.proofs.LineGoals.{end_if_puts, end_while_puts}
use Rattle.pardo_job.proofs.LineGoals.{for_puts, for_start_fails, for_test_fails, if_fails, if_puts}
use Rattle.pardo_job.proofs.LineGoals.{while_fails, while_puts}
use Rattle.pardo_job.proofs.Placed.{statement_there}
use Rattle.pardo_job.proofs.lines.Listing.put_line.Goals as goal

pub put_assignment-requires-clause-target : goal.put_assignment-requires-clause-target
put_assignment-requires-clause-target c =
    let is = subst (λ (s : Statement). IsStatement (bounds_of c.args.self.now.program.now) s)
    c.in-Assign.is c.requires.line.0 in
    target_in c.args.self.now.program.now c.args.self.now.layout c.in-Assign.target
    c.args.self.now.laid_out is.0

pub put_assignment-requires-clause-value : goal.put_assignment-requires-clause-value
put_assignment-requires-clause-value c =
    let is = subst (λ (s : Statement). IsStatement (bounds_of c.args.self.now.program.now) s)
    c.in-Assign.is c.requires.line.0 in
    tree_in c.args.self.now.program.now c.args.self.now.layout c.in-Assign.value
    c.args.self.now.laid_out is.1

pub returns-in_err-put_assignment-in-Assign : goal.returns-in_err-put_assignment-in-Assign
returns-in_err-put_assignment-in-Assign c =
    let e : c.from_residual.result ≡ Err c.in_err-put_assignment-in-Assign.field-0.0 =
    search rules in
    assign_fails _ _ _ c.args.self.now.program.now c.args.self.now.layout
    (slice_index c.args.self.now.places.items) (length c.args.code.now.items)
    c.args.line.now.depth c.args.line.now.statement
    c.in-Assign.target c.in-Assign.value _
    (record { layout_is = c.args.self.now.laid_out; is = c.in-Assign.is }) e
    c.in_err-put_assignment-in-Assign.ensures.fault

pub invariant_of-site : goal.invariant_of-site
invariant_of-site c = record {
  within = omega (
    arith,
    c.requires.line.1,
    choices_in c.args.self.now.program.now c.args.self.now.layout c.args.self.now.laid_out,
  );
}

pub invariant_of-site-in-If : goal.invariant_of-site-in-If
invariant_of-site-in-If c = record {
  within = omega (
    arith,
    c.requires.line.1,
    choices_in c.args.self.now.program.now c.args.self.now.layout c.args.self.now.laid_out,
  );
}

pub invariant_of-site-in-Else : goal.invariant_of-site-in-Else
invariant_of-site-in-Else c = record {
  within = omega (
    arith,
    c.requires.line.1,
    choices_in c.args.self.now.program.now c.args.self.now.layout c.args.self.now.laid_out,
  );
}

pub put_condition-requires : goal.put_condition-requires
put_condition-requires c =
    let is = subst (λ (s : Statement). IsStatement (bounds_of c.args.self.now.program.now) s)
    c.in-If.is c.requires.line.0 in
    tree_in c.args.self.now.program.now c.args.self.now.layout c.in-If.expr c.args.self.now.laid_out
    is

pub returns-in_err-put_condition-in-If : goal.returns-in_err-put_condition-in-If
returns-in_err-put_condition-in-If c =
    let e : c.from_residual-in_err-put_condition-in-If.result ≡
    Err c.in_err-put_condition-in-If.field-0.0 = search rules in
    if_fails _ _ _ c.args.self.now.program.now c.args.self.now.layout
    (slice_index c.args.self.now.places.items) (length c.args.code.now.items)
    c.args.line.now.depth c.args.line.now.statement
    c.in-If.expr _ (record { layout_is = c.args.self.now.laid_out; is = c.in-If.is }) e
    c.in_err-put_condition-in-If.ensures.fault

pub put_if-requires-clause-depth : goal.put_if-requires-clause-depth
put_if-requires-clause-depth c =
    let few = subst (λ (s : Statement). c.args.line.now.depth +
    masks_of s ≤ c.args.self.now.program.now.choices) c.in-If.is c.requires.line.1 in
    omega (
      arith,
      few,
      choices_in c.args.self.now.program.now c.args.self.now.layout
          c.args.self.now.laid_out,
    )

pub put_else-requires : goal.put_else-requires
put_else-requires c =
    let few = subst (λ (s : Statement). c.args.line.now.depth +
    masks_of s ≤ c.args.self.now.program.now.choices) c.in-Else.is c.requires.line.1 in
    omega (
      arith,
      few,
      choices_in c.args.self.now.program.now c.args.self.now.layout
          c.args.self.now.laid_out,
    )

pub put_while_test-requires : goal.put_while_test-requires
put_while_test-requires c =
    let is = subst (λ (s : Statement). IsStatement (bounds_of c.args.self.now.program.now) s)
    c.in-While.is c.requires.line.0 in
    tree_in c.args.self.now.program.now c.args.self.now.layout c.in-While.expr
    c.args.self.now.laid_out is.0.0

pub returns-in_err-register-in-While : goal.returns-in_err-register-in-While
returns-in_err-register-in-While c =
    let e : c.from_residual-in_err-register-in-While.result ≡
    Err c.in_err-register-in-While.field-0.0 = search rules in
    while_fails _ _ _ c.args.self.now.program.now c.args.self.now.layout
    (slice_index c.args.self.now.places.items) (length c.args.code.now.items)
    c.args.line.now.depth c.args.line.now.statement
    c.in-While.expr c.in-While.end _
    (record { layout_is = c.args.self.now.laid_out; is = c.in-While.is }) e
    c.in_err-register-in-While.ensures.put.fault

pub none_test-requires-clause-first : goal.none_test-requires-clause-first
none_test-requires-clause-first c =
    let is = subst (λ (s : Statement). IsStatement (bounds_of c.args.self.now.program.now) s)
    c.in-For.is c.requires.line.0 in
    tree_in c.args.self.now.program.now c.args.self.now.layout c.in-For.first
    c.args.self.now.laid_out is.1.0

pub none_test-requires-clause-last : goal.none_test-requires-clause-last
none_test-requires-clause-last c =
    let is = subst (λ (s : Statement). IsStatement (bounds_of c.args.self.now.program.now) s)
    c.in-For.is c.requires.line.0 in
    tree_in c.args.self.now.program.now c.args.self.now.layout c.in-For.last
    c.args.self.now.laid_out is.2.0

pub returns-in_err-test-in-For : goal.returns-in_err-test-in-For
returns-in_err-test-in-For c =
    let e : c.from_residual-in_err-test-in-For.result ≡ Err c.in_err-test-in-For.field-0.0 =
    search rules in
    for_test_fails _ _ _ c.args.self.now.program.now c.args.self.now.layout
    (slice_index c.args.self.now.places.items) (length c.args.code.now.items)
    c.args.line.now.depth c.args.line.now.statement
    c.in-For.nest c.in-For.first c.in-For.last c.in-For.up c.in-For.end _
    (record { layout_is = c.args.self.now.laid_out; is = c.in-For.is }) e
    c.in_err-test-in-For.ensures.fault

pub put_first_value-requires-clause-nest : goal.put_first_value-requires-clause-nest
put_first_value-requires-clause-nest c =
    let is = subst (λ (s : Statement). IsStatement (bounds_of c.args.self.now.program.now) s)
    c.in-For.is c.requires.line.0 in
    omega (
      arith,
      is.0,
      loops_in c.args.self.now.program.now c.args.self.now.layout
          c.args.self.now.laid_out,
    )

pub put_first_value-requires-clause-first : goal.put_first_value-requires-clause-first
put_first_value-requires-clause-first c =
    let is = subst (λ (s : Statement). IsStatement (bounds_of c.args.self.now.program.now) s)
    c.in-For.is c.requires.line.0 in
    tree_in c.args.self.now.program.now c.args.self.now.layout c.in-For.first
    c.args.self.now.laid_out is.1.0

pub returns-in_err-put_first_value-in-For : goal.returns-in_err-put_first_value-in-For
returns-in_err-put_first_value-in-For c =
    let e : c.from_residual-in_err-put_first_value-in-For.result ≡
    Err c.in_err-put_first_value-in-For.field-0.0 = search rules in
    for_start_fails _ _ _ c.args.self.now.program.now c.args.self.now.layout
    (slice_index c.args.self.now.places.items) (length c.args.code.now.items)
    c.args.line.now.depth c.args.line.now.statement
    c.in-For.nest c.in-For.first c.in-For.last c.in-For.up c.in-For.end _
    (record { layout_is = c.args.self.now.laid_out; is = c.in-For.is }) e
    c.in_err-put_first_value-in-For.ensures.fault

pub returns-in_ok-put_assignment-in-Assign : goal.returns-in_ok-put_assignment-in-Assign
returns-in_ok-put_assignment-in-Assign c =
    let body : c.deref.result.now ≡
    assignment_code c.args.self.now.layout c.in-Assign.target c.in-Assign.value =
    c.deref.ensures.value ∙ c.in_ok-put_assignment-in-Assign.ensures.all
    ∙ ap (λ (l : List Instr). l ++ assignment_code c.args.self.now.layout c.in-Assign.target
    c.in-Assign.value) c.new-body.ensures.items in
    assign_puts _ _ _ c.args.self.now.program.now c.args.self.now.layout
    (slice_index c.args.self.now.places.items) (length c.args.code.now.items)
    c.args.line.now.depth c.args.line.now.statement
    c.in-Assign.target c.in-Assign.value c.deref.result.now
    (record { layout_is = c.args.self.now.laid_out; is = c.in-Assign.is }) body
    c.put_masked.ensures

pub returns-in_ok-put_condition-in-If : goal.returns-in_ok-put_condition-in-If
returns-in_ok-put_condition-in-If c =
    let body : c.deref-in-If.result.now ≡ condition_code c.args.self.now.layout c.in-If.expr =
    c.deref-in-If.ensures.value ∙ c.in_ok-put_condition-in-If.ensures.all
    ∙ ap (λ (l : List Instr). l ++ condition_code c.args.self.now.layout c.in-If.expr)
    c.new-body-in-If.ensures.items in
    if_puts _ _ _ c.args.self.now.program.now c.args.self.now.layout
    (slice_index c.args.self.now.places.items) (length c.args.code.now.items)
    c.args.line.now.depth c.args.line.now.statement
    c.in-If.expr c.deref-in-If.result.now
    (record { layout_is = c.args.self.now.laid_out; is = c.in-If.is }) body c.put_if.ensures

pub returns-in-Else : goal.returns-in-Else
returns-in-Else c =
    else_puts _ _ _ c.args.self.now.program.now c.args.self.now.layout
    (slice_index c.args.self.now.places.items) (length c.args.code.now.items)
    c.args.line.now.depth c.args.line.now.statement
    (record { layout_is = c.args.self.now.laid_out; is = c.in-Else.is }) c.put_else.ensures

pub returns-in-EndIf : goal.returns-in-EndIf
returns-in-EndIf c =
    end_if_puts _ _ c.args.self.now.program.now (slice_index c.args.self.now.places.items)
    (length c.args.code.now.items) c.args.line.now.depth
    c.args.line.now.statement c.in-EndIf.is

pub returns-in_ok-register-in-While : goal.returns-in_ok-register-in-While
returns-in_ok-register-in-While c =
    while_puts _ _ _ _ _ c.args.self.now.program.now c.args.self.now.layout
    (slice_index c.args.self.now.places.items) (length c.args.code.now.items)
    c.args.line.now.depth c.args.line.now.statement
    c.in-While.expr c.in-While.end c.in_ok-register-in-While.register c.place_after.result
    (record { layout_is = c.args.self.now.laid_out; is = c.in-While.is })
    c.in_ok-register-in-While.ensures.register c.place_after.ensures
    c.in_ok-register-in-While.ensures.put c.put.ensures

pub returns-in-EndWhile : goal.returns-in-EndWhile
returns-in-EndWhile c =
    end_while_puts _ _ _ c.args.self.now.program.now (slice_index c.args.self.now.places.items)
    (length c.args.code.now.items)
    c.args.line.now.depth c.args.line.now.statement c.in-EndWhile.begin c.place_of.result
    c.in-EndWhile.is c.place_of.ensures c.put-in-EndWhile.ensures

pub returns-in_ok-put_first_value-in-For : goal.returns-in_ok-put_first_value-in-For
returns-in_ok-put_first_value-in-For c =
    let test : c.deref-in-For.result.now ≡
    none_code c.args.self.now.layout c.in-For.up c.in-For.first c.in-For.last =
    c.deref-in-For.ensures.value ∙ c.in_ok-test-in-For.ensures.code in
    let start : c.deref-in-For-2.result.now ≡
    first_code c.args.self.now.layout c.in-For.nest c.in-For.first =
    c.deref-in-For-2.ensures.value ∙ c.in_ok-put_first_value-in-For.ensures.all
    ∙ ap (λ (l : List Instr). l ++ first_code c.args.self.now.layout c.in-For.nest c.in-For.first)
    c.new-start.ensures.items in
    for_puts _ _ _ c.args.self.now.program.now c.args.self.now.layout
    (slice_index c.args.self.now.places.items) (length c.args.code.now.items)
    c.args.line.now.depth c.args.line.now.statement
    c.in-For.nest c.in-For.first c.in-For.last c.in-For.up c.in-For.end c.place_after-in-For.result
    c.deref-in-For.result.now c.deref-in-For-2.result.now
    (record { layout_is = c.args.self.now.laid_out; is = c.in-For.is }) test start
    c.place_after-in-For.ensures c.put_loop.ensures

pub returns-in-EndFor : goal.returns-in-EndFor
returns-in-EndFor c =
    let is = subst (λ (s : Statement). IsStatement (bounds_of c.args.self.now.program.now) s)
    c.in-EndFor.is c.requires.line.0 in
    let lt : c.in-EndFor.begin < length c.lines.result.now =
    omega (arith, is, ap (λ (l : List Line). length l) c.lines.ensures) in
    let there = line_there c.args.self.now.program.now.lines c.lines.result.now c.in-EndFor.begin
    c.index-lines-begin.result c.lines.ensures lt c.index-lines-begin.is in
    end_for_puts _ _ _ c.args.self.now.program.now (slice_index c.args.self.now.places.items)
    (length c.args.code.now.items)
    c.args.line.now.depth c.args.line.now.statement _ c.in-EndFor.begin c.in-EndFor.is
    (ap (λ (l : Line). l.statement) (sym c.index-lines-begin.is)
    ∙ statement_there c.args.self.now.program.now c.in-EndFor.begin c.index-lines-begin.result
    there) c.put_turn.ensures
