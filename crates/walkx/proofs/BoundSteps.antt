-- The own-step bound.
use Rattle.std.proofs.Common.{◌≡◌, ℕ, suc, ◌+◌, ◌-◌, ◌*◌, ◌<◌, ◌≤◌, List, [], ◌∷◌, ◌++◌}
use Rattle.std.proofs.Common.{length, drop, Some, refl, sym, ◌∙◌, subst, ap, arith}
use Rattle.pram_job.specs.Job.{JobData}
use Rattle.pram_words.specs.Tree.{leaves_of}
use Rattle.pram_words.specs.Words.{LayoutData, IsLayout}
use Rattle.walkx.specs.declared.operation.Op.{Op}
use Rattle.walkx.specs.Doing.{Doing}
use Rattle.walkx.specs.Doing as doing
use Rattle.walkx.specs.Scripts.{Script, asks, ends, rest_after, rest, first_op, op_with, heard_in}
use Rattle.walkx.specs.Walk.{Then, begins, turns, enters, worked, stops, Walking, Fits, IsPhase}
use Rattle.walkx.specs.Walk.{IsGoing, IsInBlock, node_of, script_by, script_of, rest_of}
use Rattle.walkx.specs.Walk.{phase_begun, heard_of, ask_of, goes_on, told_by, told}
use Rattle.walk_memory.specs.declared.memo.Memo.{Memo}
use Rattle.walk_memory.specs.Blocks.{IsBoard}
use Rattle.walkx.specs.Bound.{told_all, history_of, MayHear, IsHeard, own_step_bound}
use Rattle.walkx.specs.Laws.{OwnStepsAreBounded}
use Rattle.walkx.proofs.BoundWeight.{low_of, longest, later_weight, weight}
use Rattle.walk_memory.proofs.Boards.{same_procs}
use Rattle.walkx.proofs.BoundScripts.{Leads, To, phases_fewer, phase_enters, part_enters}
use Rattle.walkx.proofs.BoundScripts.{back_leads, begin_leads}
use Rattle.walkx.proofs.BoundTurn.{block_leads, turn_leads}
use Rattle.walkx.proofs.Going.{asks_of}
use Rattle.walkx.proofs.Fitting.{new_workers_fit}
use Rattle.walkx.proofs.Nodes.{node_range}
use Rattle.walkx.proofs.BoundWalk.{Sound, Less, after_weight, step}

-- ---- a worker that fits is sound

-- each script leads from its start to what follows it
script_leads : (job : JobData) (y : LayoutData) (w n : ℕ) (memory : List Memo) (now : Doing)
    (before : List (Op × ℕ)) → IsLayout y → 1 ≤ n → n < 2 * y.leaves → IsPhase job y now →
    IsInBlock y n now → IsGoing now →
    Leads job y w (To job y (later_weight job y before n now))
    (script_by job y w n memory now) (longest y now) before
script_leads job y w n memory doing.Back before limits some inside phase block going =
    back_leads job y w n before
script_leads job y w n memory doing.Begin before limits some inside phase block going =
    begin_leads job y w n before limits some inside
script_leads job y w n memory (doing.Turn q) before limits some inside phase block going =
    turn_leads job y w n q before some inside phase.0 phase.1 phase.2
script_leads job y w n memory (doing.Part q rank) before limits some inside phase block going =
    block_leads job y w n q rank memory before (record {
      some = some;
      leaf = block.0;
      inside = inside;
      first = phase.0;
      last = phase.1;
      wide = block.2;
      formed = phase.2;
    })
script_leads job y w n memory (doing.Over e) before limits some inside phase block going =
    absurd going

-- and from where these answers bring it
one_on : (job : JobData) (y : LayoutData) (w : ℕ) (to : Then → List (Op × ℕ) → Type 0)
    (s : Script Then) (found k j : ℕ) (heard before : List (Op × ℕ)) → k - 1 ≡ j →
    Leads job y w to s k (heard ++ before) →
    IsHeard job y w ((op_with s found ++ heard) ++ before) →
    Leads job y w to (rest_after s found) j ((op_with s found ++ heard) ++ before)
one_on job y w to (asks op next) found k j heard before e leads may =
    subst (λ (i : ℕ). Leads job y w to (next found) i ((op, found) ∷ (heard ++ before))) e
    (leads.1 found may.0)
one_on job y w to (ends r) found k j heard before e leads may = leads

earlier_heard : (job : JobData) (y : LayoutData) (w : ℕ) (s : Script Then) (found : ℕ)
    (heard before : List (Op × ℕ)) → IsHeard job y w ((op_with s found ++ heard) ++ before) →
    IsHeard job y w (heard ++ before)
earlier_heard job y w (asks op next) found heard before may = may.1
earlier_heard job y w (ends r) found heard before may = may

rest_leads : (job : JobData) (y : LayoutData) (w : ℕ) (to : Then → List (Op × ℕ) → Type 0)
    (script : Script Then) (k : ℕ) (answers : List ℕ) (before : List (Op × ℕ)) →
    Leads job y w to script k before → IsHeard job y w (heard_in script answers ++ before) →
    Leads job y w to (rest script answers) (k - length answers) (heard_in script answers ++ before)
rest_leads job y w to script k [] before leads may =
    subst (λ (i : ℕ). Leads job y w to script i before) (omega arith) leads
rest_leads job y w to script k (found ∷ earlier) before leads may =
    one_on job y w to (rest script earlier) found (k - length earlier)
    (k - suc (length earlier)) (heard_in script earlier) before (omega arith)
    (rest_leads job y w to script k earlier before leads
    (earlier_heard job y w (rest script earlier) found (heard_in script earlier) before may)) may

-- A script that goes on has heard all its answers.
one_dropped : (s : Script Then) (found : ℕ) (op : Op) (n : ℕ) (heard before : List (Op × ℕ)) →
    first_op (rest_after s found) ≡ Some op →
    ((o : Op) → first_op s ≡ Some o → drop n (heard ++ before) ≡ before) →
    drop (suc n) ((op_with s found ++ heard) ++ before) ≡ before
one_dropped (asks other next) found op n heard before first drops = drops other refl
one_dropped (ends r) found op n heard before first drops = absurd (cc)

all_dropped : (script : Script Then) (answers : List ℕ) (before : List (Op × ℕ)) (op : Op) →
    first_op (rest script answers) ≡ Some op →
    drop (length answers) (heard_in script answers ++ before) ≡ before
all_dropped script [] before op first = refl
all_dropped script (found ∷ earlier) before op first =
    one_dropped (rest script earlier) found op (length earlier)
    (heard_in script earlier) before first (λ o. all_dropped script earlier before o)

pub fits_sound : (job : JobData) (y : LayoutData) (w : Walking) → IsLayout y → Fits job y w →
    IsHeard job y w.number (heard_of job y w) → Sound job y (heard_of job y w) w
unfolding after_weight
fits_sound job y w limits fits may = λ going.
    let asks = asks_of w.now (rest_of job y w) going fits.matches in
    let node = node_range job y w limits.leaves.0 fits in
    let before : List (Op × ℕ) = phase_begun y w.now in
    let dropped : drop (length w.heard) (heard_of job y w) ≡ before =
    all_dropped (script_of job y w) w.heard before asks.op asks.first in
    record {
      leads = subst (λ (es : List (Op × ℕ)).
          Leads job y w.number (To job y (later_weight job y es (node_of y w) w.now))
          (rest_of job y w) (longest y w.now - length w.heard) (heard_of job y w)) (sym dropped)
          (rest_leads job y w.number (To job y (later_weight job y before (node_of y w) w.now))
          (script_of job y w) (longest y w.now) w.heard before
          (script_leads job y w.number (node_of y w) w.memory w.now before limits node.0
          node.1 fits.phase fits.block going) may);
      asking = asks;
    }

-- ---- the walk

goes_number : (job : JobData) (y : LayoutData) (w : Walking) (found : ℕ) (script : Script Then) →
    (goes_on job y w found script).number ≡ w.number
goes_number job y w found (asks op next) = refl
goes_number job y w found (ends (begins n)) = refl
goes_number job y w found (ends (turns n q)) = refl
goes_number job y w found (ends (enters n q)) = refl
goes_number job y w found (ends (worked n q rank memo)) = refl
goes_number job y w found (ends (stops e)) = refl

told_number : (job : JobData) (y : LayoutData) (now : Doing) (w : Walking) (found : ℕ)
    (script : Script Then) → (told_by job y now w found script).number ≡ w.number
told_number job y (doing.Over e) w found script = refl
told_number job y doing.Back w found script = goes_number job y w found script
told_number job y doing.Begin w found script = goes_number job y w found script
told_number job y (doing.Turn q) w found script = goes_number job y w found script
told_number job y (doing.Part q rank) w found script = goes_number job y w found script

-- A worker that is going after an answer was going before it.
going_before : (job : JobData) (y : LayoutData) (now : Doing) (w : Walking) (found : ℕ)
    (script : Script Then) → w.now ≡ now →
    IsGoing (told_by job y now w found script).now → IsGoing w.now
going_before job y (doing.Over e) w found script is going = going
going_before job y doing.Back w found script is going = subst IsGoing (sym is) tt
going_before job y doing.Begin w found script is going = subst IsGoing (sym is) tt
going_before job y (doing.Turn q) w found script is going = subst IsGoing (sym is) tt
going_before job y (doing.Part q rank) w found script is going = subst IsGoing (sym is) tt

pub going_earlier : (job : JobData) (y : LayoutData) (w : Walking) (found : ℕ) →
    IsGoing (told job y w found).now → IsGoing w.now
going_earlier job y w found going =
    going_before job y w.now w found (rest_after (rest_of job y w) found) refl going

number_stays : (job : JobData) (y : LayoutData) (w : Walking) (answers : List ℕ) →
    (told_all job y w answers).number ≡ w.number
number_stays job y w [] = refl
number_stays job y w (found ∷ earlier) =
    let v = told_all job y w earlier in
    told_number job y v.now v found (rest_after (rest_of job y v) found)
    ∙ number_stays job y w earlier

-- the step at the end of a walk
walk_step : (job : JobData) (y : LayoutData) (w : Walking) (found : ℕ) (earlier : List ℕ) →
    IsLayout y → IsGoing (told_all job y w earlier).now →
    Sound job y (history_of job y w earlier) (told_all job y w earlier) →
    IsHeard job y w.number (history_of job y w (found ∷ earlier)) →
    Less job y (history_of job y w (found ∷ earlier)) (told_all job y w (found ∷ earlier))
    (weight job y (history_of job y w earlier) (told_all job y w earlier))
walk_step job y w found earlier leaves going sound may =
    let v = told_all job y w earlier in
    let history = history_of job y w earlier in
    step job y history v found leaves going sound
    (subst (λ (number : ℕ). MayHear job y number history (ask_of job y v) found)
    (sym (number_stays job y w earlier)) may.0)

pub sound_all : (job : JobData) (y : LayoutData) (w : Walking) (answers : List ℕ) →
    IsLayout y → Fits job y w → IsHeard job y w.number (history_of job y w answers) →
    Sound job y (history_of job y w answers) (told_all job y w answers)
sound_all job y w [] leaves fits may = fits_sound job y w leaves fits may
sound_all job y w (found ∷ earlier) leaves fits may = λ going.
    let before = going_earlier job y (told_all job y w earlier) found going in
    (walk_step job y w found earlier leaves before
    (sound_all job y w earlier leaves fits may.1) may).sound going

falls : (job : JobData) (y : LayoutData) (w : Walking) → IsLayout y →
    Fits job y w → (found : ℕ) (earlier : List ℕ) → IsGoing (told_all job y w earlier).now →
    IsHeard job y w.number (history_of job y w (found ∷ earlier)) →
    weight job y (history_of job y w (found ∷ earlier)) (told_all job y w (found ∷ earlier))
    < weight job y (history_of job y w earlier) (told_all job y w earlier)
falls job y w leaves fits found earlier going may = (walk_step job y w found earlier leaves going
    (sound_all job y w earlier leaves fits may.1) may).less

-- each answer has taken one
pub lighter : (job : JobData) (y : LayoutData) (w : Walking) →
    IsLayout y → Fits job y w → (answers : List ℕ) → IsGoing (told_all job y w answers).now →
    IsHeard job y w.number (history_of job y w answers) →
    length answers + weight job y (history_of job y w answers) (told_all job y w answers)
    ≤ weight job y (heard_of job y w) w
lighter job y w leaves fits [] going may = omega arith
lighter job y w leaves fits (found ∷ earlier) going may =
    let before = going_earlier job y (told_all job y w earlier) found going in
    let less = falls job y w leaves fits found earlier before may in
    let rest = lighter job y w leaves fits earlier before may.1 in
    omega arith

-- ---- the weight at the start

start_weight : (job : JobData) (y : LayoutData)
    (history : List (Op × ℕ)) (n heard : ℕ) (now : Doing) → IsLayout y → IsPhase job y now →
    IsInBlock y n now →
    later_weight job y history n now + (longest y now - heard)
    ≤ 288 * leaves_of y.procs * job.steps + 5
unfolding later_weight
start_weight job y history n heard doing.Back limits phase block = omega arith
start_weight job y history n heard doing.Begin limits phase block =
    let fewer = phases_fewer y (3 * job.steps - low_of y history 1) (3 * job.steps) (omega arith) in
    omega arith
start_weight job y history n heard (doing.Turn q) limits phase block =
    let first = phase.0 in
    let last = phase.1 in
    let enters = phase_enters job y history n q (3 * job.steps) limits (omega arith) in
    omega arith
start_weight job y history n heard (doing.Part q rank) limits phase block =
    let first = phase.0 in
    let last = phase.1 in
    let enters = part_enters job y history n q rank (3 * job.steps) limits block.0 block.2
    (omega arith) in
    omega arith
start_weight job y history n heard (doing.Over e) limits phase block = omega arith

pub starts : (job : JobData) (y : LayoutData) (w : Walking) → IsLayout y → Fits job y w →
    weight job y (heard_of job y w) w ≤ 288 * leaves_of y.procs * job.steps + 5
unfolding weight
starts job y w limits fits = start_weight job y (drop (length w.heard) (heard_of job y w))
    (node_of y w) (length w.heard) w.now limits fits.phase fits.block

within : (job : JobData) → 288 * leaves_of job.procs * job.steps + 5 < own_step_bound job
within job = omega arith

steps_bounded : (job : JobData) (y : LayoutData) (w : Walking) →
    IsBoard job y → Fits job y w → (answers : List ℕ) → IsGoing (told_all job y w answers).now →
    IsHeard job y w.number (history_of job y w answers) → length answers < own_step_bound job
steps_bounded job y w board fits answers going may =
    let same : leaves_of y.procs ≡ leaves_of job.procs = ap leaves_of (same_procs job y board) in
    let all : length answers < 288 * leaves_of y.procs * job.steps + 6 = omega (
      arith,
      lighter job y w board.layout fits answers going may,
      starts job y w board.layout fits,
    ) in
    let few : length answers < 288 * leaves_of job.procs * job.steps + 6 =
    subst (λ (l : ℕ). length answers < 288 * l * job.steps + 6) same all in
    omega (arith, few, within job)

pub own_steps : OwnStepsAreBounded
own_steps = (steps_bounded, new_workers_fit)
