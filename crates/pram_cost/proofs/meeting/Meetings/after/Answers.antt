use Rattle.pram_cost.specs.declared.meeting.Sharing.TheVariants.{SameRead, SameWrite, OtherValue}
use Rattle.pram_cost.proofs.Repeated.{first_repeats}
use Rattle.pram_cost.proofs.meeting.Meetings.after.Goals as goal

pub returns : goal.returns
returns c =
    let moment = c.args.moment.now in
    let job = moment.sight.job.now in
    let state = moment.sight.state.now in
    let made = moment.sight.made in
    record {
      same_read = first_repeats job made state SameRead moment.sight.times c.next-same_read.result
          moment.some moment.repeats c.next-same_read.ensures;
      same_write = first_repeats job made state SameWrite moment.sight.times c.next-same_write.result
          moment.some moment.repeats c.next-same_write.ensures;
      other_value = first_repeats job made state OtherValue moment.sight.times
          c.next_other-other_value.result
          moment.some moment.repeats c.next_other-other_value.ensures;
    }
