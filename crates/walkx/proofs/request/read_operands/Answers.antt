use Rattle.std.proofs.Common.{sym, ap, ◌∙◌}
use Rattle.pram_machine.specs.Instructions.{listed}
use Rattle.walkx.specs.Parts.{reads, register_at_post}
use Rattle.walkx.proofs.request.read_operands.Goals as goal

pub read_register-requires-clause-next : goal.read_register-requires-clause-next
read_register-requires-clause-next g c =
    let r = c.requires.next in
    record {
      from = r.from;
      after = r.after;
      next = λ a. r.next (a, 0);
      here = rw (sym c.sources_of.ensures.listed ∙ ap listed c.in-One.is) at r.here;
    }

pub read_register-requires-in-Two-clause-next : goal.read_register-requires-in-Two-clause-next
read_register-requires-in-Two-clause-next g c =
    let at = c.args.leaf.now in
    let r = c.requires.next in
    record {
      from = r.from;
      after = r.after;
      next = λ a. reads at (register_at_post at c.in-Two.s) r.after (λ b. r.next (a, b));
      here = rw (sym c.sources_of.ensures.listed ∙ ap listed c.in-Two.is) at r.here;
    }

pub read_register-requires-in-Two-2-clause-next : goal.read_register-requires-in-Two-2-clause-next
read_register-requires-in-Two-2-clause-next g c =
    let at = c.args.leaf.now in
    let r = c.requires.next in
    record {
      from = r.from;
      after = r.after;
      next = λ b. r.next (c.in_ok-a-in-Two.a, b);
      here = c.in_ok-a-in-Two.ensures.plays.on r.from r.after
          (λ a. reads at (register_at_post at c.in-Two.s) r.after (λ b. r.next (a, b)))
          (rw (sym c.sources_of.ensures.listed ∙ ap listed c.in-Two.is) at r.here);
    }
