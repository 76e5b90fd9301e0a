use Rattle.std.proofs.Common.{◌+◌, ◌*◌, ap, ap₂, ◌∙◌, arith, ℕ}
use Rattle.std.specs.Prelude.{max}
use Rattle.pram_cost.specs.declared.meeting.Sharing.TheVariants.{SameRead, SameWrite}
use Rattle.pram_cost.proofs.LawCosts.{work_fits, count_fits}
use Rattle.pram_cost.proofs.Repeated.{work_more}
use Rattle.pram_cost.proofs.work.Work.after.Goals as goal

pub overflow_mul-result : goal.overflow_mul-result
overflow_mul-result c =
    let moment = c.args.moment.now in
    let fits = work_fits moment.sight.job.now moment.sight.state.now moment.sight.made moment.sight.times c.from.result
    c.from-2.result c.args.self.executed c.limits_hold.ensures moment.fits c.from.ensures
    (c.from-2.ensures ∙ moment.found.count) c.requires.executed_is in
    omega (arith, fits)

pub overflow_add-result : goal.overflow_add-result
overflow_add-result c =
    let moment = c.args.moment.now in
    let fits = work_fits moment.sight.job.now moment.sight.state.now moment.sight.made moment.sight.times c.from.result
    c.from-2.result c.args.self.executed c.limits_hold.ensures moment.fits c.from.ensures
    (c.from-2.ensures ∙ moment.found.count) c.requires.executed_is in
    omega (arith, fits)

pub overflow_add-result-2 : goal.overflow_add-result-2
overflow_add-result-2 c =
    let moment = c.args.moment.now in
    let fits = count_fits SameRead moment.sight.job.now moment.sight.made moment.sight.times c.args.self.reading _ _
    moment.fits c.requires.reading_is c.steps_with-reading.ensures in
    omega (arith, fits)

pub overflow_add-result-3 : goal.overflow_add-result-3
overflow_add-result-3 c =
    let moment = c.args.moment.now in
    let fits = count_fits SameWrite moment.sight.job.now moment.sight.made moment.sight.times c.args.self.writing _ _
    moment.fits c.requires.writing_is c.steps_with-writing.ensures in
    omega (arith, fits)

pub returns : goal.returns
returns c =
    let moment = c.args.moment.now in
    let runs = moment.found.count in
    work_more moment.sight.job.now moment.sight.made moment.sight.state.now moment.sight.times c.args.self _
    c.requires moment.some moment.repeats
    (ap (λ (m : ℕ). c.args.self.executed + m)
    (ap₂ (λ (a b : ℕ). a * b) c.from.ensures (c.from-2.ensures ∙ runs)))
    (c.max.ensures ∙ ap (λ (m : ℕ). max c.args.self.most m) runs)
    (ap (λ (m : ℕ). c.args.self.reading + m) c.steps_with-reading.ensures)
    (ap (λ (m : ℕ). c.args.self.writing + m) c.steps_with-writing.ensures)
