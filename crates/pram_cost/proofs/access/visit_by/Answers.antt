use Rattle.std.proofs.Common.{◌≡◌, Some, sym, subst}
use Rattle.std.specs.Prelude.{slice_get}
use Rattle.pram_cost.proofs.Visiting.{visit_reads, visit_no_read, visit_writes, visit_no_write}
use Rattle.pram_cost.proofs.Visiting.{visit_elsewhere}
use Rattle.pram_cost.proofs.access.visit_by.Goals as goal

pub returns-in-Some : goal.returns-in-Some
returns-in-Some c =
    let job = c.args.fetched.job.now in
    let state = c.args.state.now in
    let instr = c.args.fetched.instr.now in
    let at = subst (λ n. slice_get job.code n ≡ Some instr) (sym c.requires.here)
    c.args.fetched.stands in
    visit_reads job state c.args.processor instr at c.in-Ld.field-0 c.in-Ld.field-1 c.in-Ld.is
    c.in-Some.cell (sym c.in-Some.ensures.value) c.in-Some.ensures.within

pub returns-in-None : goal.returns-in-None
returns-in-None c =
    let job = c.args.fetched.job.now in
    let state = c.args.state.now in
    let instr = c.args.fetched.instr.now in
    let at = subst (λ n. slice_get job.code n ≡ Some instr) (sym c.requires.here)
    c.args.fetched.stands in
    visit_no_read job state c.args.processor instr at c.in-Ld.field-0 c.in-Ld.field-1 c.in-Ld.is
    (sym c.in-None.ensures.value)

pub returns-in-Some-stored : goal.returns-in-Some-stored
returns-in-Some-stored c =
    let job = c.args.fetched.job.now in
    let state = c.args.state.now in
    let instr = c.args.fetched.instr.now in
    let at = subst (λ n. slice_get job.code n ≡ Some instr) (sym c.requires.here)
    c.args.fetched.stands in
    visit_writes job state c.args.processor instr at c.in-St.field-0 c.in-St.field-1 c.in-St.is
    c.in-Some-stored.cell c.in-Some-stored.value (sym c.in-Some-stored.ensures.value)
    c.in-Some-stored.ensures.within

pub returns-in-None-stored : goal.returns-in-None-stored
returns-in-None-stored c =
    let job = c.args.fetched.job.now in
    let state = c.args.state.now in
    let instr = c.args.fetched.instr.now in
    let at = subst (λ n. slice_get job.code n ≡ Some instr) (sym c.requires.here)
    c.args.fetched.stands in
    visit_no_write job state c.args.processor instr at c.in-St.field-0 c.in-St.field-1 c.in-St.is
    (sym c.in-None-stored.ensures.value)

pub returns-in_default : goal.returns-in_default
returns-in_default c =
    let job = c.args.fetched.job.now in
    let state = c.args.state.now in
    let instr = c.args.fetched.instr.now in
    let at = subst (λ n. slice_get job.code n ≡ Some instr) (sym c.requires.here)
    c.args.fetched.stands in
    visit_elsewhere job state c.args.processor instr at
    (λ r place is. c.in_default.not-Ld r place is) (λ place b is. c.in_default.not-St place b is)
