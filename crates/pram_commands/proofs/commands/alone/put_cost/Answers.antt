use Rattle.std.proofs.Common.{◌≡◌, ◌∙◌, ◌++◌, Err, List, ℕ, inl, refl, ap}
use Rattle.std.proofs.KnownBytes.{Appends-trans}
use Rattle.pram_streams.proofs.Beginnings.{beginning-after, beginning-longer}
use Rattle.pram_streams.specs.declared.print.PrintFault.TheVariants.{Device, Memory}
use Rattle.pram_cost.specs.Models.{IsWeakestModel}
use Rattle.pram_cost.specs.Printed.{cost_text}
use Rattle.pram_cost.specs.declared.pram.Pram.{Pram}
use Rattle.pram_commands.specs.Costs.{TellsCost, conflict_of}
use Rattle.naming.specs.Costs.{cost_words, named_line_costs, rounds_text}
use Rattle.naming.specs.Costed.{IsCosted}
use Rattle.pardo_answers.specs.declared.line_costs.Costs.{Costs}
use Rattle.pardo_answers.specs.declared.line_costs.LineCost.{LineCost}
use Rattle.naming.specs.declared.texts.Spelled.{Spelled}
use Rattle.pram_commands.proofs.Doing.{err_is, ok_not_err, put_failed, well}
use Rattle.pram_commands.proofs.commands.alone.put_cost.Goals as goal

told : (spelled : Spelled) (costs : Costs) (pram : Pram) (lines : List LineCost) (last : List ℕ) →
    IsCosted spelled costs → IsWeakestModel spelled.job costs.cost.steps pram →
    lines ≡ costs.lines.items → last ≡ rounds_text spelled.names costs.rounds →
    TellsCost spelled.text.items spelled.job
    (cost_text (cost_words spelled.names lines) costs.cost pram ++ last) (conflict_of costs.cost)
told spelled costs pram lines last is needs same are = record {
  cost = costs.cost;
  pram = pram;
  names = spelled.names;
  costs = is.are_costs.cost;
  needs = needs;
  are_names = is.names;
  prints = ap (λ (told : List LineCost).
      cost_text (cost_words spelled.names told) costs.cost pram ++ last)
      (same ∙ is.are_costs.lines)
      ∙ ap (λ (l : List ℕ). cost_text (cost_words spelled.names
      (named_line_costs spelled.names spelled.job)) costs.cost pram ++ l)
      (are ∙ ap (rounds_text spelled.names) is.are_costs.rounds);
  gives = refl;
}

device_memory : Device ≡ Memory → ⊥
device_memory is = cc is

pub returns-in_err-print_cost : goal.returns-in_err-print_cost
returns-in_err-print_cost g c =
    put_failed _ _ _ _ _ c.in_err-print_cost.field-0.0
    (err_is _ _ c.from_residual-in_err-print_cost.ensures)
    (record {
      text = _;
      answer = _;
      comes = told c.args.spelled.now c.args.costs.now c.needs-pram.result c.as_slice.result.now
          c.in_ok-rounds.rounds.items c.requires.costs
          (c.needs-pram.ensures c.args.spelled.now.job c.requires.costs.are_costs.cost)
          c.as_slice.ensures.value c.in_ok-rounds.ensures;
      takes = beginning-longer _ _ _ _ c.in_err-print_cost.ensures.beginning;
    })
    (λ e. inl (c.in_err-print_cost.ensures.memory (ap (λ x. Err x) e)))
    c.in_err-print_cost.ensures.failed

pub returns-in_err-put : goal.returns-in_err-put
returns-in_err-put g c =
    put_failed _ _ _ _ _ Device (err_is _ _ c.from_residual-in_err-put.ensures)
    (record {
      text = _;
      answer = _;
      comes = told c.args.spelled.now c.args.costs.now c.needs-pram.result c.as_slice.result.now
          c.as_slice-2.result.now c.requires.costs
          (c.needs-pram.ensures c.args.spelled.now.job c.requires.costs.are_costs.cost)
          c.as_slice.ensures.value (c.as_slice-2.ensures.value ∙ c.in_ok-rounds.ensures);
      takes = beginning-after _ _ _ _ _ c.in_ok-print_cost.ensures.ok
          c.in_err-put.ensures.beginning;
    })
    (λ e. absurd (device_memory e))
    ((λ _. refl), (λ _. c.in_err-put.ensures.failed))

pub returns : goal.returns
returns g c = record {
  done = record {
    text = _;
    answer = _;
    comes = told c.args.spelled.now c.args.costs.now c.needs-pram.result c.as_slice.result.now
        c.as_slice-2.result.now c.requires.costs
        (c.needs-pram.ensures c.args.spelled.now.job c.requires.costs.are_costs.cost)
        c.as_slice.ensures.value (c.as_slice-2.ensures.value ∙ c.in_ok-rounds.ensures);
    takes = Appends-trans _ _ _ _ _ c.in_ok-print_cost.ensures.ok c.in_ok-put.ensures.ok;
    is = refl;
  };
  wrote = tt;
  failed = (
    (λ f. absurd (well _ c.in_ok-put.ensures.failed f)),
    (λ e. absurd (ok_not_err c.args.costs.now.cost Device e)),
  );
}
