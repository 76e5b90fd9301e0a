use Rattle.std.proofs.Common.{Some, refl, sym, ap, ◌∙◌, arith}
use Rattle.std.specs.Prelude.{slice_index}
use Rattle.pram_job.specs.declared.instr.Operand.{Operand}
use Rattle.pram_machine.specs.Instructions.{reached}
use Rattle.walk_memory.specs.Lanes.{entries}
use Rattle.walk_memory.specs.Rows.{held_in}
use Rattle.walk_memory.proofs.rows.store_all.Goals as goal

pub shift_in-requires : goal.shift_in-requires
shift_in-requires c = λ k from to.
    omega (
      arith,
      c.all_below.ensures c.if-not-all_below.false k from to,
      c.parts_of-parts.ensures.cells,
      c.limits_hold.ensures.cells.1,
    )

pub returns-clause-all : goal.returns-clause-all
returns-clause-all c = λ t.
    let block = c.args.block.now in
    let job = c.args.job.now in
    let place = c.args.place.now in record {
      common = sym c.is_common.ensures ∙ c.if-not-is_common.false;
      same = record {
        acted = refl;
        step = refl;
        counter = refl;
        settled = refl;
        told_counter = refl;
        told = refl;
        stored = refl;
      };
      registers = refl;
      there = λ k from to.
          ap (reached job place) (sym (c.held-x.ensures k (omega arith) (omega arith)
          ∙ ap (λ (o : Operand). held_in o (entries block.registers k)) c.parts_of-parts.ensures.index))
          ∙ c.parts_of-parts.ensures.reached (slice_index c.held-x.result k)
          (c.all_below.ensures c.if-not-all_below.false k from to)
          ∙ ap Some (sym (c.shift_in.ensures.there k from to));
      below = λ k from to.
          omega (
            arith,
            c.all_below.ensures c.if-not-all_below.false k from to,
            c.parts_of-parts.ensures.cells,
            c.shift_in.ensures.there k from to,
          );
      cells = record {
        there = λ k from to. refl;
        before = c.shift_in.ensures.before;
        after = c.shift_in.ensures.after;
      };
      values = record {
        there = c.copy_held.ensures.there;
        before = c.copy_held.ensures.before;
        after = c.copy_held.ensures.after;
      };
    }
