use Rattle.std.proofs.Common.{◌≤◌, ap, subst, sym, ◌∙◌}
use Rattle.pram_machine.specs.declared.requests.Request.{Request}
use Rattle.pram_machine.specs.Machine.{out_of_range}
use Rattle.pram_machine.proofs.Shapes.{decided_next, decided_place}
use Rattle.walk_memory.proofs.asked.turn_of.Goals as goal

pub returns-clause-shape : goal.returns-clause-shape
returns-clause-shape c =
    let job = c.args.job.now in
    let known = c.args.own.now in
    let turn = c.decided_by.ensures in
    record {
      place = λ p v e. decided_place job c.args.i known.counter _ _ c.args.value c.args.instr.now
          c.requires.instr p v (sym (ap (λ (r : Request). r.put) turn.value) ∙ e);
      next = subst (λ (r : Request). r.next ≤ out_of_range job) (sym turn.value)
          (decided_next job c.args.i known.counter _ _ c.args.value c.args.instr.now
          c.requires.instr c.requires.counter);
      sorted = turn.sorted;
    }
