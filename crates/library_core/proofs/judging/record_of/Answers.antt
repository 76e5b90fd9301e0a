use Rattle.std.proofs.Common.{◌≡◌, rules}
use Rattle.library_core.specs.Judging.{record_of}
use Rattle.library_core.proofs.judging.record_of.Goals as goal

pub returns-in-Ok-clause-told : goal.returns-in-Ok-clause-told
returns-in-Ok-clause-told c =
    let writes : c.in-Ok.bytes.items ≡ record_of c.in_ok-said.said = search rules in record {
      said = c.in_ok-said.said;
      is = c.in_ok-said.ensures;
      writes = writes;
      ends = c.status.ensures;
    }
