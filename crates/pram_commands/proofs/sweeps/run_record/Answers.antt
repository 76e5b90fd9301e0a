use Rattle.pram_commands.proofs.Recording.{told_record}
use Rattle.pram_commands.proofs.sweeps.run_record.Goals as goal

pub returns-clause-ok : goal.returns-clause-ok
returns-clause-ok c = record {
  job = c.in_ok-names.field-0-0;
  answer = _;
  tells = told_record c.args.text.now c.in_ok-names.field-0-0 c.in_ok-names.names
      c.in_ok-names.costs c.needs-pram.result c.in_ok-bytes.bytes.items
      c.in_ok-names.ensures.read c.in_ok-names.ensures.costs
      (c.needs-pram.ensures c.in_ok-names.field-0-0 c.in_ok-names.ensures.costs.cost)
      c.in_ok-bytes.ensures;
  ends = c.cost_status.ensures;
}
