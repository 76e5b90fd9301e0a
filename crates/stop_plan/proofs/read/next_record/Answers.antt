use Rattle.csv.specs.Records.{fields_of}
use Rattle.stop_plan.proofs.Rest.{after_read, fewer_left, mapped}
use Rattle.stop_plan.proofs.read.next_record.Goals as goal

pub returns-clause-reads : goal.returns-clause-reads
returns-clause-reads g c =
    mapped c.read_byte_record.result
    _ _ _ _ c.map_err.ensures.cases c.read_byte_record.ensures.reads (λ found reads text given h.
    after_read g.R.Read.remaining text given c.args.reader.now c.read_byte_record.new.self found
    (fields_of c.read_byte_record.new.row) c.requires.config h
    (reads c.requires.trim c.requires.ready))

pub returns-clause-shrinks : goal.returns-clause-shrinks
returns-clause-shrinks g c =
    mapped c.read_byte_record.result _
    _ _ _ c.map_err.ensures.cases c.read_byte_record.ensures.reads (λ found reads more text given h.
    fewer_left g.R.Read.remaining text given c.args.reader.now c.read_byte_record.new.self found
    (fields_of c.read_byte_record.new.row) c.requires.config h
    (reads c.requires.trim c.requires.ready) more)
