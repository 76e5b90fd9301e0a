use Rattle.std.proofs.Common.{Bool, List, cond, length, sym, ap, ◌∙◌, arith}
use Rattle.std.proofs.lemmas.Bool.{eqb-true, eqb-false}
use Rattle.pram_cost.specs.declared.found.Access.{Access}
use Rattle.pram_cost.specs.Inner.Found.{of_kind}
use Rattle.pram_cost.proofs.Accessing.{no_access, some_access}
use Rattle.pram_cost.proofs.Finding.{all_of_kind}
use Rattle.pram_cost.proofs.work.steps_with.Goals as goal

pub returns-then-is_empty : goal.returns-then-is_empty
returns-then-is_empty c =
    let moment = c.args.moment.now in
    let job = moment.sight.job.now in
    let state = moment.sight.state.now in
    let list = of_kind c.args.sharing moment.accesses.now in
    let same = ap (λ (xs : List Access). length xs) c.of_kind.ensures in
    let none = eqb-true (length c.of_kind.result.now) 0
    (sym c.is_empty.ensures ∙ c.if-is_empty.true) in
    sym (ap (λ (has : Bool). cond has moment.sight.times 0)
    (no_access c.args.sharing job state list
    (all_of_kind job state c.args.sharing moment.accesses.now moment.found) (omega arith)))

pub returns-else-is_empty : goal.returns-else-is_empty
returns-else-is_empty c =
    let moment = c.args.moment.now in
    let job = moment.sight.job.now in
    let state = moment.sight.state.now in
    let list = of_kind c.args.sharing moment.accesses.now in
    let same = ap (λ (xs : List Access). length xs) c.of_kind.ensures in
    let some = eqb-false (length c.of_kind.result.now) 0
    (sym c.is_empty.ensures ∙ c.if-is_empty.false) in
    sym (ap (λ (has : Bool). cond has moment.sight.times 0)
    (some_access c.args.sharing job state list
    (all_of_kind job state c.args.sharing moment.accesses.now moment.found) (omega (arith, some))))
