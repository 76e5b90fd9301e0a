use Rattle.std.proofs.Common.{◌≡◌, slice_get, Some, arith}
use Rattle.pram_cost.proofs.Finding.{found_group, found_group_past}
use Rattle.pram_cost.proofs.Grouping.{bound_most, group_few}
use Rattle.pram_cost.proofs.found.Accesses.take_group.Goals as goal

pub returns-in_default : goal.returns-in_default
returns-in_default c = found_group_past c.args.sight.now c.requires.sight c.args.group
    c.requires.group c.args.self.now c.requires.before c.in_default.ensures

pub overflow_cast-self : goal.overflow_cast-self
overflow_cast-self c =
    let few = group_few c.args.sight.now c.requires.sight c.args.group.from c.args.group
    c.requires.group in
    let procs = c.limits_hold.ensures.procs in omega arith

pub overflow_add-self : goal.overflow_add-self
overflow_add-self c =
    let sight = c.args.sight.now in
    let instr = c.in-Some.fetched.instr.now in
    let at : slice_get sight.job.now.code c.args.group.index ≡ Some instr =
    (cc (c.in-Some.ensures.0, c.in-Some.ensures.1, c.in-Some.fetched.stands)) in
    let all = found_group sight c.requires.sight c.args.group c.requires.group c.args.self.now
    c.requires.before instr at (λ r place is. c.in_default-instr.not-Ld r place is)
    (λ place b is. c.in_default-instr.not-St place b is) in
    let few = all.few in
    let most = bound_most sight.job.now sight.state.now sight.running.now
    c.requires.sight.running c.args.group.end in
    let procs = c.limits_hold.ensures.procs in omega arith

pub returns-in_default-instr : goal.returns-in_default-instr
returns-in_default-instr c =
    let instr = c.in-Some.fetched.instr.now in
    let at : slice_get c.args.sight.now.job.now.code c.args.group.index ≡ Some instr =
    (cc (c.in-Some.ensures.0, c.in-Some.ensures.1, c.in-Some.fetched.stands)) in
    found_group c.args.sight.now c.requires.sight c.args.group c.requires.group c.args.self.now
    c.requires.before instr at (λ r place is. c.in_default-instr.not-Ld r place is)
    (λ place b is. c.in_default-instr.not-St place b is)
