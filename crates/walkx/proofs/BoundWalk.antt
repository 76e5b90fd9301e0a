-- A worker that is going makes its weight less with each operation.
use Rattle.std.proofs.Common.{◌≡◌, ℕ, suc, ◌+◌, ◌-◌, ◌<◌, ◌≤◌, List, ◌∷◌}
use Rattle.std.proofs.Common.{length, drop, Some, refl, sym, ap, ◌∙◌, subst, arith}
use Rattle.pram_job.specs.Job.{JobData}
use Rattle.pram_words.specs.Words.{LayoutData, IsLayout, grain}
use Rattle.walkx.specs.declared.operation.Ended.{Ended}
use Rattle.walkx.specs.declared.operation.Op.{Op}
use Rattle.walkx.specs.Doing as doing
use Rattle.walkx.specs.Scripts.{Script, asks, ends, rest_after, first_op}
use Rattle.walkx.specs.Walk.{Then, begins, turns, enters, worked, stops, Walking, node_of, rest_of}
use Rattle.walkx.specs.Walk.{ends_block, goes_in, passes_over}
use Rattle.walk_memory.specs.declared.memo.Memo.{Memo}
use Rattle.walkx.specs.Turns.{beginning, turning}
use Rattle.walkx.proofs.BoundTurns.{rank_falls}
use Rattle.walkx.proofs.PassingOver.{goes_stops}
use Rattle.walkx.specs.Walk.{ask_of, IsGoing, goes_on, told, begin_script, turn_script}
use Rattle.walkx.specs.Bound.{MayHear}
use Rattle.walkx.proofs.BoundWeight.{longest, later_weight, turn_ops, weight}
use Rattle.walkx.proofs.Going.{Asks, next_of, told_going}
use Rattle.walkx.proofs.BoundScripts.{InBlock, Leads, leads_more, To, begin_leads}
use Rattle.walkx.proofs.BoundTurn.{block_leads, turn_leads}

-- ---- what is known of a worker that is going

-- the weight of what follows its script
unfoldable pub after_weight : JobData → LayoutData → List (Op × ℕ) → Walking → ℕ
after_weight job y history w =
    later_weight job y (drop (length w.heard) history) (node_of y w) w.now

-- the rest of its script leads to no more weight, and is not empty
pub record Going (job : JobData) (y : LayoutData)
    (history : List (Op × ℕ)) (w : Walking) : Type 0 where
  pub leads : Leads job y w.number (To job y (after_weight job y history w)) (rest_of job y w)
      (longest y w.now - length w.heard) history
  pub asking : Asks (rest_of job y w)

abbrev pub Sound : JobData → LayoutData → List (Op × ℕ) → Walking → Type 0
Sound job y history w = IsGoing w.now → Going job y history w

-- ---- one answer more

-- The worker with a longer history is sound and weighs less.
pub record Less (job : JobData) (y : LayoutData) (history : List (Op × ℕ))
    (w : Walking) (most : ℕ) : Type 0 where
  pub sound : Sound job y history w
  pub less : weight job y history w < most

later_falls : (job : JobData) (y : LayoutData) (history : List (Op × ℕ)) (n q rank later : ℕ) →
    rank ≤ later → later_weight job y history n (doing.Part q later)
    ≤ later_weight job y history n (doing.Part q rank)
unfolding later_weight
later_falls job y history n q rank later most =
    let falls = rank_falls y history q n rank later most in omega arith

begins_less : (job : JobData) (y : LayoutData) (history : List (Op × ℕ)) (number n most k : ℕ)
    (memory : List Memo) →
    IsLayout y → To job y most (begins n) history → 1 ≤ k →
    Less job y history
    (beginning number n memory) (most + k)
unfolding after_weight weight begin_script
begins_less job y history number n most k memory leaves to some = record {
  sound = λ going. record {
    leads = begin_leads job y number n history leaves to.0 to.1;
    asking = record { op = _; first = refl };
  };
  less = omega (arith, to.2);
}

turns_less : (job : JobData) (y : LayoutData) (history : List (Op × ℕ))
    (number n q most k : ℕ) (memory : List Memo) →
    To job y most (turns n q) history → 1 ≤ k →
    Less job y history
    (turning number n q memory) (most + k)
unfolding after_weight weight turn_script
turns_less job y history number n q most k memory to some = record {
  sound = λ going. record {
    leads = leads_more job y number (To job y (later_weight job y history n (doing.Turn q)))
        (turn_script job y number n q) (turn_ops y - 0) (turn_ops y) history (omega arith)
        (turn_leads job y number n q history to.0 to.1 to.2 to.3 to.5);
    asking = record { op = _; first = refl };
  };
  less = omega (arith, to.4);
}

-- in a block, from a rank on
block_less : (job : JobData) (y : LayoutData) (history : List (Op × ℕ))
    (number n q rank most k : ℕ) (memory : List Memo) → InBlock job y n q → rank ≤ grain y →
    later_weight job y history n (doing.Part q rank) + 28 ≤ most → 1 ≤ k →
    Less job y history (goes_in job y number n q rank memory) (most + k)
unfolding after_weight weight
block_less job y history number n q rank most k memory at few less some =
    let passed = ends_block job y n (passes_over (grain y) job y n q rank memory) in
    let stop = goes_stops job y n q at.wide rank memory few in
    let falls = later_falls job y history n q rank passed.0 stop.later in
    record {
      sound = λ going. record {
        leads = block_leads job y number n q passed.0 passed.1 history at;
        asking = record { op = stop.first.0; first = stop.first.1 };
      };
      less = omega (arith, falls, less);
    }

longer : Walking → ℕ → Walking
longer w found = record w { heard = found ∷ w.heard }

-- what follows the script is the same in the midst of it
after_weight-longer :
    (job : JobData) (y : LayoutData) (history : List (Op × ℕ)) (w : Walking) (op : Op) (found : ℕ) →
    after_weight job y ((op, found) ∷ history) (longer w found) ≡ after_weight job y history w
unfolding after_weight longer
after_weight-longer job y history w op found = refl

longer_less : (job : JobData) (y : LayoutData) (history : List (Op × ℕ)) (w : Walking)
    (op other : Op) (found k : ℕ) (t : Script Then) → longest y w.now - length w.heard ≡ k → 1 ≤ k →
    rest_after (rest_of job y w) found ≡ t → first_op t ≡ Some other → Leads job y w.number
    (To job y (after_weight job y history w)) t (k - 1) ((op, found) ∷ history) →
    Less job y ((op, found) ∷ history) (longer w found) (after_weight job y history w + k)
unfolding longer weight
longer_less job y history w op other found k t is some e first leads =
    let same = after_weight-longer job y history w op found in
    let h : List (Op × ℕ) = (op, found) ∷ history in
    let now : Leads job y w.number
    (To job y (after_weight job y history w)) t (longest y w.now - suc (length w.heard)) h =
    leads_more job y w.number (To job y (after_weight job y history w)) t
    (longest y w.now - suc (length w.heard)) (k - 1) h (omega arith) leads in
    record {
      sound = λ going. record {
        leads =
            subst (λ (a : ℕ). Leads job y w.number (To job y a) (rest_after (rest_of job y w) found)
            (longest y w.now - suc (length w.heard)) h) (sym same)
            (subst (λ (script : Script Then).
            Leads job y w.number (To job y (after_weight job y history w)) script
            (longest y w.now - suc (length w.heard)) h) (sym e) now);
        asking = record { op = other; first = ap first_op e ∙ first };
      };
      less = less;
    }
  where
    less : weight job y ((op, found) ∷ history) (longer w found) < after_weight job y history w + k
    less = unfold after_weight in omega arith

stops_less : (job : JobData) (y : LayoutData) (history : List (Op × ℕ)) (w : Walking) (e : Ended)
    (k : ℕ) → 1 ≤ k → Less job y history (record w { now = doing.Over e }) k
unfolding weight later_weight
stops_less job y history w e k some = record { sound = λ going. absurd going; less = omega arith }

goes_less : (job : JobData) (y : LayoutData) (history : List (Op × ℕ)) (w : Walking) (op : Op)
    (found k : ℕ) (t : Script Then) → IsLayout y → longest y w.now - length w.heard ≡ k → 1 ≤ k →
    rest_after (rest_of job y w) found ≡ t → Leads job y w.number
    (To job y (after_weight job y history w)) t (k - 1) ((op, found) ∷ history) →
    Less job y ((op, found) ∷ history) (goes_on job y w found t) (after_weight job y history w + k)
goes_less job y history w op found k (asks other next) leaves is some e leads = unfold longer in
    longer_less job y history w op other found k (asks other next) is some e refl leads
goes_less job y history w op found k (ends (begins n)) leaves is some e leads =
    begins_less job y ((op, found) ∷ history) w.number n
    (after_weight job y history w) k w.memory leaves leads some
goes_less job y history w op found k (ends (turns n q)) leaves is some e leads =
    turns_less job y ((op, found) ∷ history) w.number n q
    (after_weight job y history w) k w.memory leads some
goes_less job y history w op found k (ends (enters n q)) leaves is some e leads =
    block_less job y ((op, found) ∷ history) w.number n q 0
    (after_weight job y history w) k w.memory leads.0 (omega arith) leads.1 some
goes_less job y history w op found k (ends (worked n q rank memo)) leaves is some e leads =
    block_less job y ((op, found) ∷ history) w.number n q (suc rank)
    (after_weight job y history w) k _ leads.0 (let r = leads.1 in omega arith) leads.2 some
goes_less job y history w op found k (ends (stops over)) leaves is some e leads =
    stops_less job y ((op, found) ∷ history) (record w { heard = found ∷ w.heard }) over
    (after_weight job y history w + k) (omega arith)

-- ---- the step

step_by : (job : JobData) (y : LayoutData) (history : List (Op × ℕ)) (w : Walking)
    (found k : ℕ) (s : Script Then) (op : Op) → IsLayout y → longest y w.now - length w.heard ≡ k →
    rest_of job y w ≡ s → first_op s ≡ Some op →
    Leads job y w.number (To job y (after_weight job y history w)) s k history →
    MayHear job y w.number history op found →
    Less job y ((op, found) ∷ history) (goes_on job y w found (rest_after s found))
    (after_weight job y history w + k)
step_by job y history w found k (ends r) op leaves is e first leads may = absurd (cc)
step_by job y history w found k (asks other next) op leaves is e first leads may =
    let same : other ≡ op = cc in
    subst (λ (o : Op). Less job y ((o, found) ∷ history)
    (goes_on job y w found (next found)) (after_weight job y history w + k)) same
    (goes_less job y history w other found k
    (next found) leaves is leads.0 (ap (λ s. rest_after s found) e)
    (leads.1 found (subst (λ (o : Op). MayHear job y w.number history o found) (sym same) may)))

pub step : (job : JobData) (y : LayoutData) (history : List (Op × ℕ)) (w : Walking) (found : ℕ) →
    IsLayout y → IsGoing w.now →
    Sound job y history w → MayHear job y w.number history (ask_of job y w) found →
    Less job y ((ask_of job y w, found) ∷ history) (told job y w found) (weight job y history w)
unfolding weight after_weight
step job y history w found leaves going sound may =
    let known = sound going in
    let op_is : ask_of job y w ≡ known.asking.op =
    next_of w.now (rest_of job y w) known.asking.op going known.asking.first in
    subst (λ (o : Op).
    Less job y ((o, found) ∷ history) (told job y w found) (weight job y history w)) (sym op_is)
    (subst
    (λ (v : Walking). Less job y ((known.asking.op, found) ∷ history) v (weight job y history w))
    (sym (told_going job y w.now w found (rest_after (rest_of job y w) found) going))
    (step_by job y history w found (longest y w.now - length w.heard)
    (rest_of job y w) known.asking.op leaves refl refl known.asking.first known.leads
    (subst (λ (o : Op). MayHear job y w.number history o found) op_is may)))
