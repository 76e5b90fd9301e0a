use Rattle.std.proofs.Common.{◌≡◌, ◌+◌, ℕ, Option, Some, sym, ap, ◌∙◌, arith}
use Rattle.std.specs.Prelude.{is_some, slice_index}
use Rattle.pram_job.specs.declared.instr.Operand.{Operand}
use Rattle.pram_machine.specs.Instructions.{index_of, reached}
use Rattle.walk_memory.specs.Lanes.{entries}
use Rattle.walk_memory.specs.Rows.{held_in}
use Rattle.walk_memory.proofs.rows.all_have.Goals as goal

pub returns : goal.returns
returns c = λ t k from to.
    let job = c.args.job.now in
    let place = c.args.place.now in
    let registers = entries c.args.block.now.registers k in
    let there : reached job place (held_in (index_of place) registers)
    ≡ Some (c.parts_of-parts.result.1 + slice_index c.held-x.result k) =
    ap (reached job place) (sym (c.held-x.ensures k (omega arith) (omega arith)
    ∙ ap (λ (o : Operand). held_in o registers) c.parts_of-parts.ensures.index))
    ∙ c.parts_of-parts.ensures.reached (slice_index c.held-x.result k)
    (c.all_below.ensures t k from to) in
    ap (λ (o : Option ℕ). is_some o) there
