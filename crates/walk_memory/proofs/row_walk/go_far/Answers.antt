use Rattle.std.proofs.Common.{◌≡◌, ◌+◌, ◌≤◌, ◌*◌, sym, ap, subst, ◌∙◌}
use Rattle.walk_memory.specs.declared.memo.Memo.{Memo}
use Rattle.walk_memory.specs.Memory.{gone_on}
use Rattle.walk_memory.specs.Rows.{AllRest, RestIn, reach_at}
use Rattle.walk_memory.specs.Blocks.{reach_from_phase}
use Rattle.walk_memory.proofs.InLanes.{if_each, reach_as, reach_most, still_there}
use Rattle.walk_memory.proofs.row_walk.go_far.Goals as goal

pub returns-clause-far : goal.returns-clause-far
returns-clause-far c = λ k from to.
    let gone = gone_on c.args.job.now (c.args.lanes.first + k) in
    ap gone (c.remember.ensures k ∙ c.stand_from.ensures.there k from to)
    ∙ c.go_steps-gone.ensures.far.there k from to
    ∙ ap gone (c.in_ok-start.ensures.lanes k from to)

pub returns-clause-before : goal.returns-clause-before
returns-clause-before c = λ k low.
    c.remember.ensures k ∙ c.stand_from.ensures.before k low
    ∙ c.go_steps-gone.ensures.far.before k low

pub returns-clause-after : goal.returns-clause-after
returns-clause-after c = λ k high.
    c.remember.ensures k ∙ c.stand_from.ensures.after k high
    ∙ c.go_steps-gone.ensures.far.after k high

pub returns-clause-rest : goal.returns-clause-rest
returns-clause-rest c =
    let job = c.args.job.now in
    let lanes = c.args.lanes in
    let block = c.remember.new.block in
    let at = c.go_steps-gone.result.0 in
    if_each c.go_steps-gone.result.1 (λ reach. (reach ≡ reach_at at)
    × AllRest job lanes at c.go_steps-gone.new.block)
    (λ reach. RestIn job lanes c.args.phase reach block)
    (λ reach rest. record {
      some = c.in_ok-start.ensures.some;
      stay = λ k from to. subst (λ (m : Memo). gone_on job (lanes.first + k) m ≡ m)
          (sym (c.remember.ensures k ∙ c.stand_from.ensures.there k from to))
          (rest.1.there k from to);
      reaches = λ k from to.
          ap (reach_from_phase c.args.phase)
          (c.remember.ensures k ∙ c.stand_from.ensures.there k from to)
          ∙ reach_as c.args.phase at c.go_steps-gone.new.block k
          (subst (λ n. n ≤ c.args.phase) (sym (c.go_steps-gone.ensures.far.acted k from to))
          (c.in_ok-start.ensures.acted k from to)) ∙ sym rest.0;
      most = subst (λ n. n ≤ 3 * job.steps) (sym rest.0) (reach_most at job.steps rest.1.last);
    })
    c.go_steps-gone.ensures.rest

pub stand_from-requires : goal.stand_from-requires
stand_from-requires c = λ e k from to.
    still_there c.in_ok-start.start c.go_steps-gone.result.0 c.args.block.now
    c.go_steps-gone.new.block k (c.go_steps-gone.ensures.far.none e)
    (c.in_ok-start.ensures.lanes k from to)
