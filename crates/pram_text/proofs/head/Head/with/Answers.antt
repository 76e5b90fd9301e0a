use Rattle.std.proofs.Common.{[], ◌∷◌, ◌++◌, ap, sym, ◌∙◌, subst}
use Rattle.std.specs.Result.{result_err}
use Rattle.std.proofs.lemmas.Result.{err_from_is_err_and}
use Rattle.text_lines.specs.Lines.{words_of}
use Rattle.pram_text.specs.Inner.Reading.{HoldsHead}
use Rattle.pram_text.proofs.Front.{fault_at_version, fault_at_cells, fault_at_procs}
use Rattle.pram_text.proofs.Front.{fault_at_steps, fault_at_rule, HoldsHead-steps, HoldsHead-rule}
use Rattle.pram_text.proofs.head.Head.with.Goals as goal

pub returns-in_err-version_in-in-Version : goal.returns-in_err-version_in-in-Version
returns-in_err-version_in-in-Version c = λ before h.
    let p = err_from_is_err_and c.from_residual.result c.from_residual.ensures.1 in
    rw (p.1, p.2) (fault_at_version before _ c.args.self (rw c.in-Version.is at h)
    ∙ ap result_err (sym c.version_in.ensures ∙ c.in_err-version_in-in-Version.was))

pub returns-in_err-cells_in-in-Cells : goal.returns-in_err-cells_in-in-Cells
returns-in_err-cells_in-in-Cells c = λ before h.
    let p = err_from_is_err_and c.from_residual-in_err-cells_in-in-Cells.result
    c.from_residual-in_err-cells_in-in-Cells.ensures.1 in
    rw (p.1, p.2) (fault_at_cells before _ c.args.self (rw c.in-Cells.is at h)
    ∙ ap result_err (sym c.cells_in.ensures ∙ c.in_err-cells_in-in-Cells.was))

pub returns-in_err-procs_in-in-Procs : goal.returns-in_err-procs_in-in-Procs
returns-in_err-procs_in-in-Procs c = λ before h.
    let p = err_from_is_err_and c.from_residual-in_err-procs_in-in-Procs.result
    c.from_residual-in_err-procs_in-in-Procs.ensures.1 in
    rw (p.1, p.2) (fault_at_procs before _ c.args.self (rw c.in-Procs.is at h)
    ∙ ap result_err (sym c.procs_in.ensures ∙ c.in_err-procs_in-in-Procs.was))

pub returns-in_err-steps_in-in-Steps : goal.returns-in_err-steps_in-in-Steps
returns-in_err-steps_in-in-Steps c = λ before h.
    let p = err_from_is_err_and c.from_residual-in_err-steps_in-in-Steps.result
    c.from_residual-in_err-steps_in-in-Steps.ensures.1 in
    rw (p.1, p.2) (fault_at_steps before _ c.args.self (rw c.in-Steps.is at h)
    ∙ ap result_err (sym c.steps_in.ensures ∙ c.in_err-steps_in-in-Steps.was))

pub returns-in_err-rule_in-in-Rules : goal.returns-in_err-rule_in-in-Rules
returns-in_err-rule_in-in-Rules c = λ before h.
    let p = err_from_is_err_and c.from_residual-in_err-rule_in-in-Rules.result
    c.from_residual-in_err-rule_in-in-Rules.ensures.1 in
    rw (p.1, p.2) (fault_at_rule before _ c.args.self (subst (λ n. HoldsHead n before c.args.self)
    c.in-Rules.is h) ∙ ap result_err (sym c.rule_in.ensures ∙ c.in_err-rule_in-in-Rules.was))

pub returns-in_ok-version_in-in-Version : goal.returns-in_ok-version_in-in-Version
returns-in_ok-version_in-in-Version c = λ before h.
    let held = rw c.in-Version.is at h in
    let here = sym c.version_in.ensures ∙ c.in_ok-version_in-in-Version.was in (
      fault_at_version before _ c.args.self held ∙ ap result_err here,
      (
        words_of c.args.line.now,
        ap (λ lines. lines ++ words_of c.args.line.now ∷ []) held.0,
        here,
        held.1,
      ),
      λ e. cc,
    )

pub returns-in_ok-cells_in-in-Cells : goal.returns-in_ok-cells_in-in-Cells
returns-in_ok-cells_in-in-Cells c = λ before h.
    let held = rw c.in-Cells.is at h in
    let here = sym c.cells_in.ensures ∙ c.in_ok-cells_in-in-Cells.was in (
      fault_at_cells before _ c.args.self held ∙ ap result_err here,
      (
        held.0,
        words_of c.args.line.now,
        ap (λ lines. lines ++ words_of c.args.line.now ∷ []) held.1,
        held.2,
        here,
        held.3,
      ),
      λ e. cc,
    )

pub returns-in_ok-procs_in-in-Procs : goal.returns-in_ok-procs_in-in-Procs
returns-in_ok-procs_in-in-Procs c = λ before h.
    let held = rw c.in-Procs.is at h in
    let here = sym c.procs_in.ensures ∙ c.in_ok-procs_in-in-Procs.was in (
      fault_at_procs before _ c.args.self held ∙ ap result_err here,
      (
        held.0,
        held.1,
        words_of c.args.line.now,
        ap (λ lines. lines ++ words_of c.args.line.now ∷ []) held.2,
        held.3,
        held.4,
        here,
        held.5,
      ),
      λ e. cc,
    )

pub returns-in_ok-steps_in-in-Steps : goal.returns-in_ok-steps_in-in-Steps
returns-in_ok-steps_in-in-Steps c = λ before h.
    let held = rw c.in-Steps.is at h in
    let here = sym c.steps_in.ensures ∙ c.in_ok-steps_in-in-Steps.was in
    let next = HoldsHead-steps before
    (words_of c.args.line.now) c.args.self _ _ held here c.after_steps.ensures in
    (fault_at_steps before _ c.args.self held ∙ ap result_err here, next.0, next.1)

pub returns-in_ok-rule_in-in-Rules : goal.returns-in_ok-rule_in-in-Rules
returns-in_ok-rule_in-in-Rules c = λ before h.
    let held = subst (λ n. HoldsHead n before c.args.self) c.in-Rules.is h in
    let here = sym c.rule_in.ensures ∙ c.in_ok-rule_in-in-Rules.was in (
      fault_at_rule before _ c.args.self held ∙ ap result_err here,
      HoldsHead-rule before (words_of c.args.line.now) c.args.self _ held here,
      λ e. cc,
    )
