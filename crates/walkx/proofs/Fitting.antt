-- A worker that fits still fits with each admitted answer.
use Rattle.std.proofs.Common.{◌≡◌, ◌≢◌, ℕ, suc, ◌*◌, ◌<◌, ◌≤◌, List}
use Rattle.std.proofs.Common.{[], ◌∷◌, ◌++◌, lit<}
use Rattle.std.proofs.Common.{refl, sym, ap, subst, ◌∙◌, inl, inr, arith, IsTrue}
use Rattle.std.proofs.lemmas.Bool.{cases_lt}
use Rattle.pram_job.specs.Job.{JobData}
use Rattle.pram_words.proofs.NextPhases.{has_next, next_above, next_within}
use Rattle.pram_words.specs.Phases.{has_phase, next_phase}
use Rattle.pram_words.specs.Words.{LayoutData, grain}
use Rattle.pram_words.specs.declared.words.Word.TheVariants.{Node, Position}
use Rattle.walk_memory.specs.declared.memo.Memo.{Memo}
use Rattle.walkx.specs.declared.operation.Ended.{Ended}
use Rattle.walkx.specs.declared.operation.Op.{Op}
use Rattle.walkx.specs.Doing.{Doing}
use Rattle.walkx.specs.Doing as doing
use Rattle.walk_memory.specs.Memory.{FitsMemory}
use Rattle.walkx.specs.Playing.{hearing}
use Rattle.walkx.specs.Laws.{NewWorkersFit, AnswersKeepFit}
use Rattle.walkx.specs.Scripts.{Script, asks, ends, rest_after, rest, heard_in}
use Rattle.walkx.specs.Walk.{Then, begins, turns, enters, worked, stops, Walking, Fits, IsGoing}
use Rattle.walkx.specs.Walk.{IsInBlock, IsPhase, begun_phase, goes_in, Matches, AllAdmitted}
use Rattle.walkx.specs.Walk.{script_by, script_of, rest_of, node_of, ask_of, goes_on, phase_begun}
use Rattle.walkx.specs.Walk.{heard_of, turn_script, begin_script}
use Rattle.walk_memory.specs.Blocks.{IsBoard, IsWide, processor_at}
use Rattle.walkx.proofs.Asking.{FitsThen, all_left, asks_after, script_asks}
use Rattle.walk_memory.proofs.Boards.{in_range}
use Rattle.walkx.proofs.Ends.{AllEnds, Brings, worker_ends}
use Rattle.walk_memory.proofs.Ranks.{rank_parts}
use Rattle.walkx.proofs.Going.{asks_of, going_or_over, matches_of, next_of}
use Rattle.walkx.proofs.Going.{op_with_first, told_going, told_over}
use Rattle.walk_memory.proofs.Memories.{memory_set, none_fits}
use Rattle.walkx.proofs.Nodes.{node_range}
use Rattle.walkx.proofs.PassingOver.{goes_fit, goes_stops}
use Rattle.walkx.proofs.TaskAsking.{AllAsk}

pub heard_more : (job : JobData) (y : LayoutData) (w : Walking) (found : ℕ) →
    IsGoing w.now → Matches w.now (rest_of job y w) →
    heard_of job y (hearing w found) ≡ (ask_of job y w, found) ∷ heard_of job y w
heard_more job y w found going goes =
    let a = asks_of w.now (rest_of job y w) going goes in
    ap (λ (es : List (Op × ℕ)). (es ++ heard_in (script_of job y w) w.heard) ++ phase_begun y w.now)
    (op_with_first (rest_of job y w) a.op found a.first)
    ∙ ap (λ (op : Op). (op, found) ∷ heard_of job y w)
    (sym (next_of w.now (rest_of job y w) a.op going a.first))

-- only a begin ends the work
pub stops_begin : (job : JobData) (y : LayoutData)
    (number n : ℕ) (d : Doing) (e : Ended) (history : List (Op × ℕ)) → IsGoing d →
    Brings job y number n d (stops e) history → d ≡ doing.Begin
stops_begin job y number n doing.Back e history going b = absurd b
stops_begin job y number n doing.Begin e history going b = refl
stops_begin job y number n (doing.Turn q) e history going b = absurd b
stops_begin job y number n (doing.Part q rank) e history going b = absurd b
stops_begin job y number n (doing.Over x) e history going b = absurd going

all_after : (job : JobData) (y : LayoutData) (xs ys : List (Op × ℕ)) →
    AllAdmitted job y (xs ++ ys) → AllAdmitted job y ys
all_after job y [] ys all = all
all_after job y (x ∷ xs) ys all = all_after job y xs ys all.1

begun_fits : (job : JobData) (y : LayoutData) (number n m q : ℕ) (d : Doing) (xs : List (Op × ℕ)) →
    IsBoard job y → IsGoing d → IsPhase job y d →
    1 ≤ n → n < 2 * y.leaves → Brings job y number n d (turns m q) (xs ++ phase_begun y d) →
    AllAdmitted job y (xs ++ phase_begun y d) →
    ((1 ≤ m) × (m < 2 * y.leaves)) × IsPhase job y (doing.Turn q)
    × AllAdmitted job y (phase_begun y (doing.Turn q))
begun_fits job y number n m q doing.Back xs board going phase low high b all = absurd b
begun_fits job y number n m q doing.Begin xs board going phase low high b all =
    let leaves = board.layout.leaves in
    let range = in_range job y (Node 1) b.root board (lit< tt, omega arith) (b.admitted all) in
    let other = b.less in
    let node = b.node in
    let next = b.phase in
    let above = (next_above y.form b.root).0 in (
      (omega arith, omega arith),
      (
        omega arith,
        below b.root q other range.0 next,
        subst (λ (t : ℕ). IsTrue (has_phase y.form t)) (sym next) (has_next y.form b.root),
      ),
      subst (AllAdmitted job y) (b.is range.1) all,
    )
  where
    below : (root q : ℕ) → root ≢ 3 * job.steps → root ≤ 3 * job.steps →
        q ≡ next_phase y.form root → q ≤ 3 * job.steps
    below root q other range next = elim (cases_lt root (3 * job.steps)) [
      | inl c ↦ (let most = next_within y.form root job.steps c in omega arith)
      | inr c ↦ absurd (other (omega arith))
    ]
begun_fits job y number n m q (doing.Turn p) xs board going phase low high b all = (
  b.1 low high,
  subst (λ (t : ℕ). IsPhase job y (doing.Turn t)) (sym b.0) phase,
  subst (λ (t : ℕ). AllAdmitted job y (phase_begun y (doing.Turn t)))
      (sym b.0) (all_after job y xs (phase_begun y (doing.Turn p)) all),
)
begun_fits job y number n m q (doing.Part p rank) xs board going phase low high b all = (
  subst (λ (k : ℕ). (1 ≤ k) × (k < 2 * y.leaves)) (sym b.1) (low, high),
  subst (λ (t : ℕ). IsPhase job y (doing.Turn t)) (sym b.0) phase,
  subst (λ (t : ℕ). AllAdmitted job y (begun_phase y t))
      (sym b.0) (all_after job y xs (begun_phase y p) all),
)
begun_fits job y number n m q (doing.Over e) xs board going phase low high b all = absurd going

-- in a block
pub record Within (job : JobData) (y : LayoutData) (n m q : ℕ) : Type 0 where
  pub node : (1 ≤ m) × (m < 2 * y.leaves)
  pub phase : IsPhase job y (doing.Turn q)
  pub leaf : y.leaves ≤ m
  pub wide : IsWide y.form
  pub admitted : AllAdmitted job y (begun_phase y q)

within_by : (job : JobData) (y : LayoutData) (n m q p : ℕ) (xs : List (Op × ℕ)) →
    y.leaves ≤ n → IsWide y.form → IsPhase job y (doing.Turn p) → 1 ≤ n → n < 2 * y.leaves →
    m ≡ n → q ≡ p → AllAdmitted job y (xs ++ begun_phase y p) → Within job y n m q
within_by job y n m q p xs leaf wide phase low high node same all = record {
  node = rw node (low, high);
  phase = subst (λ (v : ℕ). IsPhase job y (doing.Turn v)) (sym same) phase;
  leaf = rw node leaf;
  wide = wide;
  admitted = rw same (all_after job y xs (begun_phase y p) all);
}

pub enters_fits : (job : JobData) (y : LayoutData) (number n m q : ℕ) (d : Doing)
    (xs : List (Op × ℕ)) → IsGoing d → IsPhase job y d →
    1 ≤ n → n < 2 * y.leaves → Brings job y number n d (enters m q) (xs ++ phase_begun y d) →
    AllAdmitted job y (xs ++ phase_begun y d) → Within job y n m q
enters_fits job y number n m q doing.Back xs going phase low high b all = absurd b
enters_fits job y number n m q doing.Begin xs going phase low high b all = absurd b
enters_fits job y number n m q (doing.Turn p) xs going phase low high b all =
    within_by job y n m q p xs b.0 b.3 phase low high b.1 b.2 all
enters_fits job y number n m q (doing.Part p rank) xs going phase low high b all = absurd b
enters_fits job y number n m q (doing.Over e) xs going phase low high b all = absurd going

-- and how far the task that was done
pub record Worked (job : JobData) (y : LayoutData) (n m q done : ℕ) : Type 0 where
  pub within : Within job y n m q
  pub rank : done < grain y
  pub last : processor_at y m done < y.procs

pub worked_fits : (job : JobData) (y : LayoutData) (number n m q rank : ℕ) (memo : Memo) (d : Doing)
    (xs : List (Op × ℕ)) → IsGoing d → IsPhase job y d → IsInBlock y n d →
    1 ≤ n → n < 2 * y.leaves →
    Brings job y number n d (worked m q rank memo) (xs ++ phase_begun y d) →
    AllAdmitted job y (xs ++ phase_begun y d) → Worked job y n m q rank
worked_fits job y number n m q rank memo doing.Back xs going phase block low high b all = absurd b
worked_fits job y number n m q rank memo doing.Begin xs going phase block low high b all = absurd b
worked_fits job y number n m q rank memo (doing.Turn p) xs going phase block low high b all =
    absurd b
worked_fits job y number n m q rank memo (doing.Part p at) xs going phase block low high b all =
    let there = rank_parts y n at b.there in
    record {
      within = within_by job y n m q p xs block.0 b.wide phase low high b.node b.phase all;
      rank = omega (arith, there.0, b.rank);
      last = rw (b.node, b.rank) there.1;
    }
worked_fits job y number n m q rank memo (doing.Over e) xs going phase block low high b all =
    absurd going

begins_fits : (job : JobData) (y : LayoutData)
    (number n m : ℕ) (d : Doing) (history : List (Op × ℕ)) →
    IsBoard job y → number < y.workers → IsGoing d → Brings job y number n d (begins m) history →
    AllAdmitted job y history → (1 ≤ m) × (m < 2 * y.leaves)
begins_fits job y number n m doing.Back history board worker going b all =
    in_range job y (Position number) m board worker (b all)
begins_fits job y number n m doing.Begin history board worker going b all = absurd b
begins_fits job y number n m (doing.Turn p) history board worker going b all =
    let leaves = board.layout.leaves in (omega arith, omega arith)
begins_fits job y number n m (doing.Part p rank) history board worker going b all = absurd b
begins_fits job y number n m (doing.Over e) history board worker going b all = absurd going

-- in a block, from a rank on
in_fits : (job : JobData) (y : LayoutData) (number n m q rank : ℕ) (memory : List Memo) →
    IsBoard job y → number < y.workers → Within job y n m q → rank ≤ grain y →
    FitsMemory job memory → Fits job y (goes_in job y number m q rank memory)
in_fits job y number n m q rank memory board worker b most fits =
    let last = b.phase.1 in
    let stop = goes_stops job y m q b.wide rank memory most in
    record {
      number = worker;
      node = b.node;
      phase = b.phase;
      block = (b.leaf, stop.within, b.wide);
      memory = goes_fit job y m q board b.wide last rank memory fits;
      admitted = b.admitted;
      matches = stop.first;
    }

fits_on : (job : JobData) (y : LayoutData) (w : Walking) (found : ℕ) (t : Script Then) →
    IsBoard job y → IsGoing w.now → Fits job y w → rest_after (rest_of job y w) found ≡ t →
    AllEnds (Brings job y w.number (node_of y w) w.now) t (heard_of job y (hearing w found)) →
    AllAsk job y (FitsThen job) t →
    AllAdmitted job y (heard_of job y (hearing w found)) → Fits job y (goes_on job y w found t)
unfolding begin_script turn_script AllAsk
fits_on job y w found (asks op next) board going fits is each learned all = record {
  number = fits.number;
  node = fits.node;
  phase = fits.phase;
  block = fits.block;
  memory = fits.memory;
  admitted = all;
  matches = subst (Matches w.now)
      (sym is) (matches_of w.now (asks op next) going (record { op = op; first = refl }));
}
fits_on job y w found (ends (begins m)) board going fits is each learned all =
    record {
      number = fits.number;
      node = begins_fits job y w.number
          (node_of y w) m w.now (heard_of job y (hearing w found)) board fits.number going each all;
      phase = tt;
      block = tt;
      memory = fits.memory;
      admitted = tt;
      matches = (_, refl);
    }
fits_on job y w found (ends (turns m q)) board going fits is each learned all =
    let leaves = board.layout.leaves in
    let at = node_range job y w leaves.0 fits in
    let b = begun_fits job y w.number (node_of y w) m q w.now
    (heard_in (script_of job y w) (found ∷ w.heard)) board going fits.phase at.0 at.1 each all in
    record {
      number = fits.number;
      node = b.0;
      phase = b.1;
      block = tt;
      memory = fits.memory;
      admitted = b.2;
      matches = (_, refl);
    }
fits_on job y w found (ends (enters m q)) board going fits is each learned all =
    let leaves = board.layout.leaves in
    let at = node_range job y w leaves.0 fits in
    let b = enters_fits job y w.number (node_of y w) m q w.now
    (heard_in (script_of job y w) (found ∷ w.heard)) going fits.phase at.0 at.1 each all in
    in_fits job y w.number (node_of y w) m q 0 w.memory board fits.number b (omega arith)
    fits.memory
fits_on job y w found (ends (worked m q rank memo)) board going fits is each learned all =
    let leaves = board.layout.leaves in
    let at = node_range job y w leaves.0 fits in
    let b = worked_fits job y w.number (node_of y w) m q rank memo w.now
    (heard_in (script_of job y w) (found ∷ w.heard)) going fits.phase
    fits.block at.0 at.1 each all in
    in_fits job y w.number (node_of y w) m q (suc rank) _ board fits.number b.within
    (let r = b.rank in omega arith)
    (memory_set job w.memory (processor_at y m rank) memo fits.memory learned)
fits_on job y w found (ends (stops e)) board going fits is each learned all =
    let from = stops_begin job y w.number (node_of y w) w.now e
    (heard_of job y (hearing w found)) going each in
    record {
      number = fits.number;
      node = fits.node;
      phase = tt;
      block = tt;
      memory = fits.memory;
      admitted = subst (λ (d : Doing). AllAdmitted job y (heard_in (script_by job y w.number
          (node_of y w) w.memory d) (found ∷ w.heard) ++ phase_begun y d)) from all;
      matches = subst (λ (d : Doing).
          rest_after (rest (script_by job y w.number (node_of y w) w.memory d) w.heard) found
          ≡ ends (stops e)) from is;
    }

pub fits_told : AnswersKeepFit
fits_told job y w found board fits admitted = elim (going_or_over w.now) [
  | inl going ↦ (
      let all : AllAdmitted job y (heard_of job y (hearing w found)) = subst (AllAdmitted job y)
      (sym (heard_more job y w found going fits.matches)) (admitted, fits.admitted) in
      subst (Fits job y)
      (sym (told_going job y w.now w found (rest_after (rest_of job y w) found) going))
      (fits_on job y w found (rest_after (rest_of job y w) found) board going fits refl
      (worker_ends job y (hearing w found) fits.block)
      (asks_after (FitsThen job) job y (script_of job y w) (found ∷ w.heard)
      (all_left job y (heard_in (script_of job y w) (found ∷ w.heard)) (phase_begun y w.now) all)
      (script_asks job y w board fits)) all))
  | inr over ↦ subst (Fits job y)
      (sym (told_over job y w found (rest_after (rest_of job y w) found) w.now over.0 over.1)) fits
]

-- ---- a worker newly started, and one that comes back

pub new_workers_fit : NewWorkersFit
unfolding begin_script
new_workers_fit job y number worker = (
  record {
    number = worker;
    node = tt;
    phase = tt;
    block = tt;
    memory = none_fits job;
    admitted = tt;
    matches = (_, refl);
  },
  record {
    number = worker;
    node = tt;
    phase = tt;
    block = tt;
    memory = none_fits job;
    admitted = tt;
    matches = (_, refl);
  },
)
