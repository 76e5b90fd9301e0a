use Rattle.std.proofs.Common.{◌≡◌, ◌≤◌, ◌<◌, ◌+◌, ℕ, zero, suc, true, false, Option, Some, None}
use Rattle.std.proofs.Common.{slice_get, refl, sym, subst, ap, ◌∙◌, arith, rules}
use Rattle.std.proofs.lemmas.Grind.{common_steps}
use Rattle.walkx.specs.declared.operation.Ended.{Ended}
use Rattle.walkx.specs.Bound.{own_step_bound}
use Rattle.pram_world.specs.declared.event.Event.TheVariants.{Go}
use Rattle.pram_world.specs.Ends.{Finishes, end_in, after_own_steps}
use Rattle.walkx.specs.Walk.{Walking}
use Rattle.pram_world.specs.Worlds.{Body, WorldData, KeepsBoard, body_goes, going, happens}
use Rattle.pram_world.specs.Worlds.{stopped, walks, went}
use Rattle.pram_world.proofs.Counting.{finish_bound, bound_small}
use Rattle.pram_world.proofs.Counting.{get_set_same, going_more, step_more, steps_board}
use Rattle.pram_world.proofs.world.World.finish.Goals as goal

-- with this step too the body was going before each
all_going : (c : goal.After-go) → (k : ℕ) → k < c.loop-self.made + 1 →
    going (after_own_steps c.args.self.now c.args.b k) c.args.b ≡ true
all_going c =
    let now : going c.loop-self.self c.args.b ≡ true =
    sym c.is_going.ensures ∙ c.if-not-is_going.false in
    going_more c.args.self.now c.args.b c.loop-self.made c.loop-self.invariant.goes
    (subst (λ (x : WorldData). going x c.args.b ≡ true) c.loop-self.invariant.is now)

most : (c : goal.After-go) →
    c.loop-self.made + 1 ≤ own_step_bound c.args.self.now.job
most c =
    finish_bound c.args.self.now c.args.b
    (c.loop-self.made + 1) c.invariant_holds.ensures (all_going c)

pub loop-self-preserved : goal.loop-self-preserved
loop-self-preserved c = record {
  is = step_more c.args.self.now c.go.new.self c.args.b c.loop-self.made (c.go.ensures.world
      ∙ ap (λ (x : WorldData). happens x (Go c.args.b)) c.loop-self.invariant.is);
  goes = all_going c;
  most = most c;
}

pub loop-self-smaller : goal.loop-self-smaller
loop-self-smaller c = let m = most c in omega arith

pub overflow_add-made : goal.overflow_add-made
overflow_add-made c =
    let m = most c in
    let small =
    bound_small c.args.self.now.job c.args.self.now.layout c.args.self.now.words
    (c.invariant_holds.ensures.holds).stands in
    omega arith

pub returns-then-not-is_going-clause-board : goal.returns-then-not-is_going-clause-board
returns-then-not-is_going-clause-board c = subst (KeepsBoard c.args.self.now)
    (sym c.loop-self.invariant.is) (steps_board c.args.self.now c.args.b c.loop-self.made)

-- a body that was going is a worker after its step
walks_on : (s : WorldData) (b : ℕ) (o : Option Body) → slice_get s.bodies b ≡ o →
    body_goes o ≡ true →
    (w : Walking) × (slice_get (went s b o).bodies b ≡ Some (walks w))
walks_on s b None at on = absurd (cc)
walks_on s b (Some (stopped n)) at on = absurd (cc)
walks_on s b (Some (walks w)) at on = (_, get_set_same s.bodies b _ (walks w) at)

ends : (s now : WorldData) (b n : ℕ) (e : Option Ended) (w : Walking) →
    now ≡ after_own_steps s b n →
    ((k : ℕ) → k < n → going (after_own_steps s b k) b ≡ true) → n ≤ own_step_bound s.job →
    slice_get now.bodies b ≡ Some (walks w) → going now b ≡ false → e ≡ end_in now b →
    Finishes s b now e
ends s now b n None w is all few at over end = grind (arith, common_steps)
ends s now b n (Some e) w is all few at over end =
    record { steps = n; is = is; going = all; over = sym end; most = few }

finishes : (s now : WorldData) (b n : ℕ) (e : Option Ended) → now ≡ after_own_steps s b n →
    ((k : ℕ) → k < n → going (after_own_steps s b k) b ≡ true) → n ≤ own_step_bound s.job →
    going now b ≡ false → e ≡ end_in now b → Finishes s b now e
finishes s now b zero e is all few over end = grind (arith, common_steps)
finishes s now b (suc n) e is all few over end =
    let before = after_own_steps s b n in
    let on = walks_on before b (slice_get before.bodies b) refl (all n (omega arith)) in
    ends s now b (suc n) e on.0 is all few
    (subst (λ (x : WorldData). slice_get x.bodies b ≡ Some (walks on.0)) (sym is) on.1) over end

pub returns-then-not-is_going-clause-finishes : goal.returns-then-not-is_going-clause-finishes
returns-then-not-is_going-clause-finishes c =
    let over : going c.loop-self.self c.args.b ≡ false = search rules in
    finishes c.args.self.now c.loop-self.self c.args.b c.loop-self.made c.ended.result
    c.loop-self.invariant.is c.loop-self.invariant.goes c.loop-self.invariant.most
    over c.ended.ensures
