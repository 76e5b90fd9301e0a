use Rattle.std.proofs.Common.{inr, arith}
use Rattle.std.proofs.lemmas.Result.{err_from_is_err_and}
use Rattle.pram_text.proofs.Finishing.{end_fault-none, first_unknown, SpellsLines-held}
use Rattle.pram_text.proofs.Lawful.{lines_keep}
use Rattle.pram_text.proofs.Taking.{body_of-held, scope_in-held}
use Rattle.pram_text.proofs.reader.Reader.job.Goals as goal

pub returns-in_err-code-clause-told : goal.returns-in_err-code-clause-told
returns-in_err-code-clause-told c = λ before last held.
    let p = err_from_is_err_and c.from_residual.result c.from_residual.ensures.1 in
    rw (p.1, p.2) (λ other.
    let first = c.in_err-code.ensures.told other in
    inr (
      end_fault-none before c.args.self.now held
          (omega (arith, c.requires.some, c.args.self.now.program.written.ok.0)),
      (
        first.0,
        first.1,
        rw (body_of-held before c.args.self.now held, scope_in-held before c.args.self.now held)
            (first_unknown _ held.2 c.args.self.now.program first.0 _ held.6 first.2),
      ),
    ))

pub job_of-requires : goal.job_of-requires
job_of-requires c = lines_keep _ _ (SpellsLines-held c.requires.held.0 c.args.self.now _
    _ c.requires.held.1 (rw c.deref.ensures.value at c.in_ok-init.ensures) c.in_ok-code.ensures.told
    (omega (arith, c.requires.some, c.args.self.now.program.written.ok.0)))

pub returns-clause-told : goal.returns-clause-told
returns-clause-told c = λ before last held.
    rw c.job_of.ensures (SpellsLines-held before c.args.self.now _ _ held
    (rw c.deref.ensures.value at c.in_ok-init.ensures) c.in_ok-code.ensures.told
    (omega (arith, c.requires.some, c.args.self.now.program.written.ok.0)))
