use Rattle.command_data.proofs.Blocks.{no_power, small}
use Rattle.command_data.proofs.block.Block.of.Goals as goal

pub returns-then-size-exponent-clause-none : goal.returns-then-size-exponent-clause-none
returns-then-size-exponent-clause-none c = λ none.
    no_power c.args.size c.ilog2-exponent.result c.if-size-gt64.false
    c.ilog2-exponent.ensures.power_le c.ilog2-exponent.ensures.next_power_gt c.if-size-exponent.true

pub invariant_of-result : goal.invariant_of-result
invariant_of-result c = record {
  most = small c.args.size c.ilog2-exponent.result c.if-size-gt64.false
      c.ilog2-exponent.ensures.power_le;
}
