use Rattle.std.proofs.Common.{◌≡◌, ◌++◌, ◌∙◌, Err, List, ap, rules}
use Rattle.pram_job.specs.declared.instr.Instr.{Instr}
use Rattle.pardo_job.specs.Lines.{none_code}
use Rattle.pardo_job.proofs.LineParts.{none_first_fails, none_puts, on_err}
use Rattle.pardo_job.proofs.pieces.none_test.Goals as goal

pub returns-in_err-a-clause-fault : goal.returns-in_err-a-clause-fault
returns-in_err-a-clause-fault c =
    let e : c.from_residual.result ≡ Err c.in_err-a.field-0.0 = search rules in
    on_err _ _ _ e (none_first_fails c.args.layout.now c.args.up c.args.first.now c.args.last.now
    c.in_err-a.field-0.0 c.in_err-a.ensures.put.fault)

pub returns-in_err-put_native-clause-fault : goal.returns-in_err-put_native-clause-fault
returns-in_err-put_native-clause-fault c =
    let e : c.from_residual-in_err-put_native.result ≡ Err c.in_err-put_native.field-0.0 =
    search rules in
    on_err _ _ _ e (none_puts _ _ _ _ _ c.args.layout.now c.args.up c.args.first.now c.args.last.now
    _ _ _ c.passing_test.ensures c.in_ok-a.ensures.operands
    c.in_ok-a.ensures.put c.in_err-put_native.ensures).fault

pub returns-clause-code : goal.returns-clause-code
returns-clause-code c =
    (none_puts _ _ _ _ _ c.args.layout.now c.args.up c.args.first.now c.args.last.now _ _ _
    c.passing_test.ensures c.in_ok-a.ensures.operands
    c.in_ok-a.ensures.put c.in_ok-put_native.ensures).all
    ∙ ap (λ (l : List Instr). l ++ none_code c.args.layout.now c.args.up c.args.first.now
    c.args.last.now) c.new-code.ensures.items

pub returns-clause-shallow : goal.returns-clause-shallow
returns-clause-shallow c =
    (none_puts _ _ _ _ _ c.args.layout.now c.args.up c.args.first.now c.args.last.now _ _ _
    c.passing_test.ensures c.in_ok-a.ensures.operands
    c.in_ok-a.ensures.put c.in_ok-put_native.ensures).shallow
