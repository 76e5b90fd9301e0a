use Rattle.std.proofs.Common.{◌≡◌, ◌∙◌, List, ℕ, refl, ap₂}
use Rattle.pram_streams.specs.declared.print.PrintFault.TheVariants.{Device, Memory}
use Rattle.pram_commands.specs.Costs.{conflict_of}
use Rattle.naming.specs.Costed.{IsCosted}
use Rattle.pram_commands.specs.LineRecords.{TellsLines}
use Rattle.naming.specs.LineRecords.{records_text}
use Rattle.pardo_answers.specs.declared.line_costs.Costs.{Costs}
use Rattle.pardo_answers.specs.declared.line_costs.LineCost.{LineCost}
use Rattle.naming.specs.declared.texts.Spelled.{Spelled}
use Rattle.pram_commands.proofs.Doing.{err_is, ok_not_err, put_failed, well}
use Rattle.pram_commands.proofs.commands.alone.put_records.Goals as goal

told : (spelled : Spelled) (costs : Costs) (text : List ℕ) (lines : List LineCost)
    (bytes : List ℕ) → IsCosted spelled costs → text ≡ spelled.text.items →
    lines ≡ costs.lines.items → bytes ≡ records_text text lines →
    TellsLines spelled.text.items spelled.job bytes (conflict_of costs.cost)
told spelled costs text lines bytes is same same_lines are = record {
  cost = costs.cost;
  names = spelled.names;
  costs = is.are_costs.cost;
  are_names = is.names;
  prints = are ∙ ap₂ (λ (t : List ℕ) (all : List LineCost). records_text t all) same
      (same_lines ∙ is.are_costs.lines);
  gives = refl;
}

device_memory : Device ≡ Memory → ⊥
device_memory is = cc is

pub returns-in_err-put : goal.returns-in_err-put
returns-in_err-put g c =
    put_failed _ _ _ _ _ Device (err_is _ _ c.from_residual-in_err-put.ensures)
    (record {
      text = _;
      answer = _;
      comes = told c.args.spelled.now c.args.costs.now c.as_slice.result.now
          c.as_slice-2.result.now c.as_slice-3.result.now c.requires.costs
          c.as_slice.ensures.value c.as_slice-2.ensures.value
          (c.as_slice-3.ensures.value ∙ c.in_ok-records.ensures);
      takes = c.in_err-put.ensures.beginning;
    })
    (λ e. absurd (device_memory e))
    ((λ _. refl), (λ _. c.in_err-put.ensures.failed))

pub returns : goal.returns
returns g c = record {
  done = record {
    text = _;
    answer = _;
    comes = told c.args.spelled.now c.args.costs.now c.as_slice.result.now
        c.as_slice-2.result.now c.as_slice-3.result.now c.requires.costs
        c.as_slice.ensures.value c.as_slice-2.ensures.value
        (c.as_slice-3.ensures.value ∙ c.in_ok-records.ensures);
    takes = c.in_ok-put.ensures.ok;
    is = refl;
  };
  wrote = tt;
  failed = (
    (λ f. absurd (well _ c.in_ok-put.ensures.failed f)),
    (λ e. absurd (ok_not_err c.args.costs.now.cost Device e)),
  );
}
