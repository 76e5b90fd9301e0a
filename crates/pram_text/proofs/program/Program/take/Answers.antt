use Rattle.std.proofs.Common.{◌≡◌, ◌<◌, ◌∙◌, ℕ, sym, ap, ap₂, length}
use Rattle.std.proofs.Common.{Option, Some, arith, if◌then◌else◌}
use Rattle.std.specs.Result.{result_err}
use Rattle.std.proofs.lemmas.Result.{err_from_is_err_and}
use Rattle.pram_text.specs.Judgement.{instr_of}
use Rattle.pram_job.specs.declared.limits.TheConstants.{MAX_CODE}
use Rattle.text_lines.specs.Lines.{Word}
use Rattle.pram_text.specs.Inner.Reading.{define_fault, label_at}
use Rattle.pram_text.specs.Inner.Statement.{known}
use Rattle.pram_text.specs.Text.{is_named}
use Rattle.pram_text.proofs.Labels.{label_fault-held, instr_fault-long}
use Rattle.pram_text.proofs.Labels.{instr_fault-label, instr_fault-rest, resolved-known}
use Rattle.pram_text.proofs.Labels.{length-held, HoldsIndices-push, HoldsCode-push}
use Rattle.pram_text.proofs.program.Program.take.Goals as goal

pub returns-then-index-ge-MAX_CODE-clause-told : goal.returns-then-index-ge-MAX_CODE-clause-told
returns-then-index-ge-MAX_CODE-clause-told c = λ body h _.
    instr_fault-long _ body _
    (omega (arith, length-held _ body c.args.self.now h, c.args.self.now.written.ok.0))

pub returns-in_err-define-clause-told : goal.returns-in_err-define-clause-told
returns-in_err-define-clause-told c = λ body h.
    let p = err_from_is_err_and c.from_residual.result c.from_residual.ensures.1 in
    let few : length body < MAX_CODE =
    omega (arith, length-held _ body c.args.self.now h, c.args.self.now.written.ok.0) in
    rw (p.1, p.2) (λ other. instr_fault-label _ body _ _ few
    (label_fault-held body c.args.self.now.indices _ h.indices ∙ ap (define_fault
    c.args.self.now.indices) (sym c.split_label.ensures.label) ∙ c.in_err-define.ensures other))

pub returns-in_err-statement-clause-told : goal.returns-in_err-statement-clause-told
returns-in_err-statement-clause-told c = λ body h.
    let p = err_from_is_err_and c.from_residual-in_err-statement.result
    c.from_residual-in_err-statement.ensures.1 in
    let few : length body < MAX_CODE =
    omega (arith, length-held _ body c.args.self.now h, c.args.self.now.written.ok.0) in
    let fine = label_fault-held body c.args.self.now.indices _ h.indices
    ∙ ap (define_fault c.args.self.now.indices) (sym c.split_label.ensures.label)
    ∙ c.in_ok-define.ensures.0 in
    rw (p.1, p.2) (λ _. instr_fault-rest _ body _ few fine
    ∙ ap (λ line. result_err (instr_of (known c.args.names.now) (λ label. Some 0) line)) (sym c.split_label.ensures.rest)
    ∙ ap result_err (c.in_err-statement.ensures (λ label. Some 0)))

pub returns-clause-told : goal.returns-clause-told
returns-clause-told c = λ body h.
    let len = length-held _ body c.args.self.now h in
    let few : length body < MAX_CODE = omega (arith, len, c.args.self.now.written.ok.0) in
    let fine = label_fault-held body c.args.self.now.indices _ h.indices
    ∙ ap (define_fault c.args.self.now.indices) (sym c.split_label.ensures.label)
    ∙ c.in_ok-define.ensures.0 in
    let said = λ (find : Word → Option ℕ).
    ap (instr_of (known c.args.names.now) find) (sym c.split_label.ensures.rest) ∙ c.in_ok-statement.ensures find in
    let index : c.len-index.result ≡ length body =
    omega (arith, len, c.args.self.now.written.ok.0) in
    let put = λ (name : Word). c.in_ok-define.ensures.1 name ∙ ap₂ (λ o n. if is_named o name
    then Some n else label_at c.args.self.now.indices name) c.split_label.ensures.label index in (
      instr_fault-rest _ body _ few fine
          ∙ ap result_err (said (λ label. Some 0)) ∙ resolved-known c.in_ok-statement.statement,
      HoldsCode-push _ body c.args.self.now _ _ _ h few fine
          (HoldsIndices-push body c.args.self.now.indices c.define.new.indices _ h.indices fine put)
          said c.in_ok-push.ensures.items,
    )
