use Rattle.std.proofs.Common.{◌≡◌, ◌∙◌, ap, subst}
use Rattle.std.specs.Prelude.{slice_index}
use Rattle.pardo_program.specs.declared.statement.Statement.{Statement}
use Rattle.pardo_program.specs.declared.statement.Statement.TheVariants.{Assign}
use Rattle.pardo_program.specs.declared.statement.Target.{Target}
use Rattle.pardo_program.specs.declared.statement.Target.TheVariants.{Private, Array as Shared}
use Rattle.pardo_program.specs.Lawful.{IsStatement, bounds_of}
use Rattle.pardo_flat.specs.Layouts.{ProgramLayoutData}
use Rattle.pardo_job.specs.Inner.Pieces.{bounds_code}
use Rattle.pardo_job.specs.Values.{value_code}
use Rattle.pardo_job.proofs.Great.{array_part, for_part, if_part, judged_as, private_part}
use Rattle.pardo_job.proofs.Great.{while_part}
use Rattle.pardo_job.proofs.LineFits.{target_in, tree_in}
use Rattle.pardo_job.proofs.lines.Listing.judge.Goals as goal

pub judge_one-requires : goal.judge_one-requires
judge_one-requires c =
    let is = subst (λ (s : Statement). IsStatement (bounds_of c.args.self.now.program.now) s)
    c.in-Assign-Private-default.is c.requires.line.0 in
    tree_in c.args.self.now.program.now c.args.self.now.layout
    c.in-Assign-Private-default.value c.args.self.now.laid_out is.1

pub judge_both-requires-clause-first : goal.judge_both-requires-clause-first
judge_both-requires-clause-first c =
    let is = subst (λ (s : Statement). IsStatement (bounds_of c.args.self.now.program.now) s)
    c.in-Assign-Array-default.is c.requires.line.0 in
    tree_in c.args.self.now.program.now c.args.self.now.layout
    c.in-Assign-Array-default.value c.args.self.now.laid_out is.1

pub judge_both-requires-clause-second : goal.judge_both-requires-clause-second
judge_both-requires-clause-second c =
    let said : c.args.line.now.statement ≡ Assign (Shared c.in-Assign-Array-default.field-0-0
    c.in-Assign-Array-default.index) c.in-Assign-Array-default.value =
    c.in-Assign-Array-default.is ∙ ap (λ (t : Target). Assign t c.in-Assign-Array-default.value)
    (rw c.in-Assign-Array-default.is at c.in-Assign-Array-default.field-0-is) in
    let is = subst (λ (s : Statement). IsStatement (bounds_of c.args.self.now.program.now) s)
    said c.requires.line.0 in
    (target_in c.args.self.now.program.now c.args.self.now.layout
    (Shared c.in-Assign-Array-default.field-0-0 c.in-Assign-Array-default.index)
    c.args.self.now.laid_out is.0).1

pub judge_one-requires-in-If : goal.judge_one-requires-in-If
judge_one-requires-in-If c =
    let is = subst (λ (s : Statement). IsStatement (bounds_of c.args.self.now.program.now) s)
    c.in-If.is c.requires.line.0 in
    tree_in c.args.self.now.program.now c.args.self.now.layout c.in-If.expr
    c.args.self.now.laid_out is

pub judge_one-requires-in-While : goal.judge_one-requires-in-While
judge_one-requires-in-While c =
    let is = subst (λ (s : Statement). IsStatement (bounds_of c.args.self.now.program.now) s)
    c.in-While.is c.requires.line.0 in
    tree_in c.args.self.now.program.now c.args.self.now.layout c.in-While.expr
    c.args.self.now.laid_out is.0.0

pub judge_both-requires-in-For-clause-first : goal.judge_both-requires-in-For-clause-first
judge_both-requires-in-For-clause-first c =
    let is = subst (λ (s : Statement). IsStatement (bounds_of c.args.self.now.program.now) s)
    c.in-For.is c.requires.line.0 in
    tree_in c.args.self.now.program.now c.args.self.now.layout c.in-For.first
    c.args.self.now.laid_out is.1.0

pub judge_both-requires-in-For-clause-second : goal.judge_both-requires-in-For-clause-second
judge_both-requires-in-For-clause-second c =
    let is = subst (λ (s : Statement). IsStatement (bounds_of c.args.self.now.program.now) s)
    c.in-For.is c.requires.line.0 in
    tree_in c.args.self.now.program.now c.args.self.now.layout c.in-For.last
    c.args.self.now.laid_out is.2.0

pub returns-in-Assign-Private-default : goal.returns-in-Assign-Private-default
returns-in-Assign-Private-default c = λ at.
    let said : c.args.line.now.statement ≡ Assign (Private c.in-Assign-Private-default.field-0-0)
    c.in-Assign-Private-default.value = c.in-Assign-Private-default.is
    ∙ ap (λ (t : Target). Assign t c.in-Assign-Private-default.value)
    (rw c.in-Assign-Private-default.is at c.in-Assign-Private-default.field-0-is) in
    judged_as c.judge_one.result c.args.self.now.program.now c.args.self.now.layout
    (slice_index c.args.self.now.places.items) at c.args.line.now.depth
    c.args.line.now.statement _
    (λ (l : ProgramLayoutData). value_code l 0 c.in-Assign-Private-default.value)
    (record { layout_is = c.args.self.now.laid_out; is = said })
    (private_part c.args.self.now.program.now (slice_index c.args.self.now.places.items) at
    c.args.line.now.depth c.in-Assign-Private-default.field-0-0
    c.in-Assign-Private-default.value) c.judge_one.ensures

pub returns-in-Assign-Array-default : goal.returns-in-Assign-Array-default
returns-in-Assign-Array-default c = λ at.
    let said : c.args.line.now.statement ≡ Assign (Shared c.in-Assign-Array-default.field-0-0
    c.in-Assign-Array-default.index) c.in-Assign-Array-default.value =
    c.in-Assign-Array-default.is ∙ ap (λ (t : Target). Assign t c.in-Assign-Array-default.value)
    (rw c.in-Assign-Array-default.is at c.in-Assign-Array-default.field-0-is) in
    judged_as c.judge_both.result c.args.self.now.program.now c.args.self.now.layout
    (slice_index c.args.self.now.places.items) at c.args.line.now.depth
    c.args.line.now.statement _
    (λ (l : ProgramLayoutData). bounds_code l c.in-Assign-Array-default.value
    c.in-Assign-Array-default.index)
    (record { layout_is = c.args.self.now.laid_out; is = said })
    (array_part c.args.self.now.program.now (slice_index c.args.self.now.places.items) at
    c.args.line.now.depth c.in-Assign-Array-default.field-0-0 c.in-Assign-Array-default.index
    c.in-Assign-Array-default.value) c.judge_both.ensures

pub returns-in-If : goal.returns-in-If
returns-in-If c = λ at.
    judged_as c.judge_one-in-If.result c.args.self.now.program.now c.args.self.now.layout
    (slice_index c.args.self.now.places.items) at c.args.line.now.depth
    c.args.line.now.statement _ (λ (l : ProgramLayoutData). value_code l 0 c.in-If.expr)
    (record { layout_is = c.args.self.now.laid_out; is = c.in-If.is })
    (if_part c.args.self.now.program.now (slice_index c.args.self.now.places.items) at
    c.args.line.now.depth c.in-If.expr) c.judge_one-in-If.ensures

pub returns-in-While : goal.returns-in-While
returns-in-While c = λ at.
    judged_as c.judge_one-in-While.result c.args.self.now.program.now c.args.self.now.layout
    (slice_index c.args.self.now.places.items) at c.args.line.now.depth
    c.args.line.now.statement _ (λ (l : ProgramLayoutData). value_code l 0 c.in-While.expr)
    (record { layout_is = c.args.self.now.laid_out; is = c.in-While.is })
    (while_part c.args.self.now.program.now (slice_index c.args.self.now.places.items) at
    c.args.line.now.depth c.in-While.expr c.in-While.field-1) c.judge_one-in-While.ensures

pub returns-in-For : goal.returns-in-For
returns-in-For c = λ at.
    judged_as c.judge_both-in-For.result c.args.self.now.program.now c.args.self.now.layout
    (slice_index c.args.self.now.places.items) at c.args.line.now.depth
    c.args.line.now.statement _
    (λ (l : ProgramLayoutData). bounds_code l c.in-For.first c.in-For.last)
    (record { layout_is = c.args.self.now.laid_out; is = c.in-For.is })
    (for_part c.args.self.now.program.now (slice_index c.args.self.now.places.items) at
    c.args.line.now.depth c.in-For.field-0 c.in-For.first c.in-For.last c.in-For.field-3
    c.in-For.field-4) c.judge_both-in-For.ensures
