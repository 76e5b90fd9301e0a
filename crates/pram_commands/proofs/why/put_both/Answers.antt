use Rattle.std.proofs.Common.{◌≡◌, Err, Some, ap, inl, refl}
use Rattle.std.proofs.KnownBytes.{Appends-trans}
use Rattle.pram_streams.proofs.Beginnings.{beginning-after, beginning-longer}
use Rattle.pram_streams.specs.declared.print.PrintFault.TheVariants.{Device, Memory}
use Rattle.pram_commands.proofs.Doing.{err_is, ok_not_err, put_failed, well}
use Rattle.pram_commands.proofs.Told.{tells_all}
use Rattle.pram_commands.proofs.why.put_both.Goals as goal

device_memory : Device ≡ Memory → ⊥
device_memory is = cc is

pub returns-in_err-print_styled : goal.returns-in_err-print_styled
returns-in_err-print_styled g c =
    put_failed _ _ _ _ _ c.in_err-print_styled.field-0.0
    (err_is _ _ c.from_residual.ensures)
    (record {
      text = _;
      answer = Some _;
      comes = tells_all _ _ _ _ _ _ _ _ c.requires.names refl refl
          c.requires.follows;
      takes = beginning-longer _ _ _ _ c.in_err-print_styled.ensures.beginning;
    })
    (λ e. inl (c.in_err-print_styled.ensures.memory (ap (λ x. Err x) e)))
    c.in_err-print_styled.ensures.failed

pub returns-in_err-put : goal.returns-in_err-put
returns-in_err-put g c =
    put_failed _ _ _ _ _ Device (err_is _ _ c.from_residual-in_err-put.ensures)
    (record {
      text = _;
      answer = Some _;
      comes = tells_all _ _ _ _ _ _ _ _ c.requires.names refl c.as_bytes.ensures.value
          c.requires.follows;
      takes = beginning-after _ _ _ _ _ c.in_ok-print_styled.ensures.ok
          c.in_err-put.ensures.beginning;
    })
    (λ e. absurd (device_memory e))
    ((λ _. refl), (λ _. c.in_err-put.ensures.failed))

pub returns : goal.returns
returns g c = record {
  done = record {
    text = _;
    answer = Some _;
    comes = tells_all _ _ _ _ _ _ _ _ c.requires.names refl c.as_bytes.ensures.value
        c.requires.follows;
    takes = Appends-trans _ _ _ _ _ c.in_ok-print_styled.ensures.ok c.in_ok-put.ensures.ok;
    is = refl;
  };
  wrote = tt;
  failed = (
    (λ f. absurd (well _ c.in_ok-put.ensures.failed f)),
    (λ e. absurd (ok_not_err tt Device e)),
  );
}
