use Rattle.std.proofs.Common.{◌∙◌, get_or, arith, [], sym}
use Rattle.std.specs.Prelude.{slice_index, unwrap_or}
use Rattle.pram_machine.specs.Instructions.{computed}
use Rattle.walk_memory.specs.Lanes.{entries}
use Rattle.walk_memory.specs.Rows.{held_in}
use Rattle.walk_memory.proofs.InLanes.{computed_some, entry_is, puts_by, same_computed}
use Rattle.walk_memory.proofs.rows.put_computed.Goals as goal

pub returns-clause-puts : goal.returns-clause-puts
returns-clause-puts c = λ t.
    let rows = c.args.registers.now in
    let x = get_or rows c.args.of.1 [] in
    puts_by c.args.lanes.start c.args.lanes.end c.args.of.0
    (λ k. unwrap_or (computed c.args.instr.now (slice_index x k) (slice_index c.held-y.result k)) 0)
    (λ k. unwrap_or (computed c.args.instr.now (slice_index (entries rows k) c.args.of.1)
    (held_in c.args.of.2 (entries rows k))) 0) rows c.compute_in.new.to
    (λ k from to. same_computed c.args.instr.now (slice_index x k) (slice_index c.held-y.result k)
    (slice_index (entries rows k) c.args.of.1) (held_in c.args.of.2 (entries rows k))
    (sym (entry_is rows c.args.of.1 k)) (c.held-y.ensures k (omega arith) (omega arith)))
    c.compute_in.ensures

pub returns-clause-some : goal.returns-clause-some
returns-clause-some c = λ t k from to.
    let rows = c.args.registers.now in
    computed_some c.args.instr.now c.args.of.0 c.args.of.1 c.args.of.2
    (slice_index (entries rows k) c.args.of.1) (held_in c.args.of.2 (entries rows k)) c.requires.two
    (λ d e. c.has_values.ensures c.if-not-has_values.false k from to d
    (c.held-y.ensures k (omega arith) (omega arith) ∙ e))
