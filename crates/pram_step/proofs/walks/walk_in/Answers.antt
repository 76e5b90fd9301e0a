use Rattle.std.proofs.Common.{add-zero, inl, inr, subst}
use Rattle.pram_step.specs.Inner.Courses.{GoesTo, begun_on_course}
use Rattle.pram_step.specs.Runs.{IsStateAfter}
use Rattle.pram_step.proofs.walks.walk_in.Goals as goal

pub returns-in-Made : goal.returns-in-Made
returns-in-Made g c =
    let job = c.args.job.now in
    let steps = c.args.span.to in
    let state = c.make_steps.new.state in
    let found = c.in_ok-make_steps.ensures in
    elim c.in-Made.is [
      | inl made ↦ record {
        walked = subst (GoesTo job steps state) made found.course;
        seen = subst (λ course. g.O.Observer.has_seen job (begun_on_course steps course)
            c.make_steps.new.observer) made found.seen;
      }
      | inr settled ↦ record {
        walked = subst (λ n. IsStateAfter job n state) (add-zero steps)
            (subst (GoesTo job steps state) settled found.course 0);
        seen = subst (λ course. g.O.Observer.has_seen job (begun_on_course steps course)
            c.make_steps.new.observer) settled found.seen;
      }
    ]
