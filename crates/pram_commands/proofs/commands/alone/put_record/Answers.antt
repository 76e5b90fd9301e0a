use Rattle.std.proofs.Common.{◌≡◌, ◌∙◌, refl}
use Rattle.pram_streams.specs.declared.print.PrintFault.TheVariants.{Device, Memory}
use Rattle.pram_commands.proofs.Doing.{err_is, ok_not_err, put_failed, well}
use Rattle.pram_commands.proofs.Recording.{told_record}
use Rattle.pram_commands.proofs.commands.alone.put_record.Goals as goal

device_memory : Device ≡ Memory → ⊥
device_memory is = cc is

pub returns-in_err-put : goal.returns-in_err-put
returns-in_err-put g c =
    put_failed _ _ _ _ _ Device (err_is _ _ c.from_residual-in_err-put.ensures)
    (record {
      text = _;
      answer = _;
      comes = told_record c.args.spelled.now.text.items c.args.spelled.now.job
          c.args.spelled.now.names c.args.costs.now c.needs-pram.result c.as_slice.result.now
          c.requires.costs.names c.requires.costs.are_costs
          (c.needs-pram.ensures c.args.spelled.now.job c.requires.costs.are_costs.cost)
          (c.as_slice.ensures.value ∙ c.in_ok-record.ensures);
      takes = c.in_err-put.ensures.beginning;
    })
    (λ e. absurd (device_memory e))
    ((λ _. refl), (λ _. c.in_err-put.ensures.failed))

pub returns : goal.returns
returns g c = record {
  done = record {
    text = _;
    answer = _;
    comes = told_record c.args.spelled.now.text.items c.args.spelled.now.job
        c.args.spelled.now.names c.args.costs.now c.needs-pram.result c.as_slice.result.now
        c.requires.costs.names c.requires.costs.are_costs
        (c.needs-pram.ensures c.args.spelled.now.job c.requires.costs.are_costs.cost)
        (c.as_slice.ensures.value ∙ c.in_ok-record.ensures);
    takes = c.in_ok-put.ensures.ok;
    is = refl;
  };
  wrote = tt;
  failed = (
    (λ f. absurd (well _ c.in_ok-put.ensures.failed f)),
    (λ e. absurd (ok_not_err c.args.costs.now.cost Device e)),
  );
}
