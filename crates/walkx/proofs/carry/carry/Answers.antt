use Rattle.walkx.proofs.Passing.{passed}
use Rattle.walk_memory.specs.Inner.Posts.{processor_of}
use Rattle.pram_machine.specs.Machine.{counter_place}
use Rattle.walkx.specs.Parts.{writes}
use Rattle.walkx.proofs.carry.carry.Goals as goal

pub write_data-requires-clause-next : goal.write_data-requires-clause-next
write_data-requires-clause-next g c =
    let at = c.args.leaf.now in
    let r = c.requires.next in
    record {
      from = r.from;
      after = r.after;
      next = λ done. writes at (counter_place at.job (processor_of at)) c.args.count r.after r.next;
      here = r.here;
    }

pub returns-in_err-write_data : goal.returns-in_err-write_data
returns-in_err-write_data g c =
    let at = c.args.leaf.now in
    rw (passed c.from_residual.result _ c.from_residual.ensures.1) (record {
      plays = record {
        on = λ from after next here. c.in_err-write_data.ensures.plays.on from after (λ done.
            writes at (counter_place at.job (processor_of at)) c.args.count after next) here;
      };
    })

pub write_place-requires-clause-word : goal.write_place-requires-clause-word
write_place-requires-clause-word g c =
    rw c.counter_place-counter.ensures.value c.counter_word.ensures

pub write_place-requires-clause-next : goal.write_place-requires-clause-next
write_place-requires-clause-next g c =
    let at = c.args.leaf.now in
    let r = c.requires.next in
    rw c.counter_place-counter.ensures.value (record {
      from = r.from;
      after = r.after;
      next = r.next;
      here = c.in_ok-write_data.ensures.plays.on r.from r.after
          (λ done. writes at (counter_place at.job (processor_of at)) c.args.count r.after r.next)
          r.here;
    })

pub returns : goal.returns
returns g c =
    let at = c.args.leaf.now in
    record {
      plays = record {
        on = λ from after next here.
            rw c.counter_place-counter.ensures.value
            at (c.write_place.ensures.plays.on from after next)
            (c.in_ok-write_data.ensures.plays.on from after (λ done.
            writes at (counter_place at.job (processor_of at)) c.args.count after next) here);
      };
    }
