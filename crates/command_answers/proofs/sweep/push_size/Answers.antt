use Rattle.std.proofs.Common.{◌≡◌, ◌∙◌, ◌++◌, List, ℕ, Err, ap, codes, rules}
use Rattle.std.specs.Prelude.{decimal}
use Rattle.command_answers.specs.declared.sweep.Unswept.TheVariants.{Unset}
use Rattle.command_answers.proofs.Sweeps.{size_made, unfit_refused}
use Rattle.command_answers.proofs.sweep.push_size.Goals as goal

pub returns-in_err-set-clause-refused : goal.returns-in_err-set-clause-refused
returns-in_err-set-clause-refused c =
    let failed = c.in_err-set.field-0.0 in
    let e : c.from_residual-in_err-set.result ≡ Err (Unset failed) = search rules in
    rw e (unfit_refused c.args.settings.now _ c.args.text.now c.args.value failed.refusal
    c.in_ok-set_first.ensures c.in_err-set.ensures.refused)

pub returns-in-Ok-clause-record : goal.returns-in-Ok-clause-record
returns-in-Ok-clause-record c = (
  decimal c.args.value ++ codes "," ++ c.in-Ok.size.bytes.items,
  size_made c.args.settings.now _ c.args.text.now c.in_ok-set.set.items _ c.args.value
      c.in_ok-set_first.ensures c.in_ok-set.ensures.set c.as_slice.ensures.value c.in-Ok.size
      c.in_ok-set.ensures.met c.in-Ok.ensures.ok,
  c.in_ok-push_record-in-Ok.ensures ∙ ap (λ (record_text : List ℕ). c.args.bytes.now.items
      ++ (decimal c.args.value ++ codes "," ++ record_text)) c.as_slice-in-Ok.ensures.value,
)
