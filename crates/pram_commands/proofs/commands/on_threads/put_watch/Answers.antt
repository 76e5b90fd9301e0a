use Rattle.std.proofs.Common.{◌∙◌, ap, inl, inr, subst, sym}
use Rattle.pram_commands.proofs.Watching.{puts_alone, puts_read, told_by}
use Rattle.std.specs.Borrow.{Bor}
use Rattle.naming.specs.Names.{AreNames}
use Rattle.naming.specs.declared.texts.Spelled.{Spelled}
use Rattle.pram_commands.proofs.commands.on_threads.put_watch.Goals as goal

-- the output's last value is what was handed back
pub returns : goal.returns
returns g c =
    let inputs = c.args.watched.now.inputs.now in
    let cells = c.args.watched.now.cells.now in
    let rounds = c.args.watched.now.rounds in
    let ended = c.run_job-ended.result in
    elim c.run_job-ended.ensures [
      | inl alone ↦ rw (c.out-1.given.1 (sym alone.1.0) ∙ c.take_back.ensures)
          (puts_alone g.O.Sink inputs cells rounds c.args.out.now c.args.out.now ended.1.0.now
          inputs.spelled.names inputs.spelled.names c.requires.names
          inputs.spelled.job.steps ended.0 ended.1.1 c.outcome.result alone.0 alone.1.1 c.requires.output
          c.outcome.ensures)
      | inr by ↦
          let read = by.on.watched.ran.beside.reads in
          rw (c.out-1.given.1 (sym (read.hears.0 ∙ read.reads.0)) ∙ c.take_back.ensures)
          (puts_read g.O.Sink inputs cells rounds c.args.out.now read.after.out.now
          ended.1.0.now inputs.spelled.names read.after.spelled.now.names
          (subst (λ (s : Bor Spelled). AreNames inputs.spelled.text.items inputs.spelled.job s.now.names)
          (sym read.reads.1) c.requires.names)
          by.on.watched.answer _ read.after.spelled.now.job.steps read.after.printed ended.0
          ended.1.1 c.outcome.result (told_by _ _ inputs cells rounds ended _ _ _ inputs.spelled.names by
          read.reads.2) by.on.watched.given_if read.reads.2.ok read.reads.2.beginning
          read.reads.3 (ap (λ (s : Bor Spelled). s.now.job.steps) read.reads.1)
          read.hears.1
          c.outcome.ensures)
    ]
