-- From safe scripts to a worker's step.
use Rattle.std.proofs.Common.{◌≡◌, ℕ, ◌-◌, ◌*◌, ◌<◌, ◌≤◌, List, [], ◌∷◌, ◌++◌, Option, unwrap_or}
use Rattle.std.proofs.Common.{IsTrue}
use Rattle.std.proofs.Common.{refl, sym, subst, arith}
use Rattle.pram_job.specs.Job.{JobData}
use Rattle.pram_words.specs.Phases.{has_phase, kind_at, step_at}
use Rattle.pram_words.specs.Words.{LayoutData}
use Rattle.walkx.specs.declared.operation.Ended.TheVariants as ended
use Rattle.walkx.specs.Doing as doing
use Rattle.walkx.specs.Records.{HasBlock, HasPart, Record}
use Rattle.walk_memory.specs.declared.memo.Memo.{Memo}
use Rattle.walk_memory.specs.Memory.{IsTrueMemo, IsTrueMemory}
use Rattle.walkx.specs.Walk.{Fits, IsPhase, begun_phase, script_of, rest_of, ask_of, phase_begun}
use Rattle.walkx.specs.Walk.{heard_of, Then, Walking, AllAdmitted, HearsAdmitted, IsInBlock}
use Rattle.walkx.specs.Walk.{Matches, node_of, next_op, part_script, worked}
use Rattle.walk_memory.specs.Blocks.{IsBoard, IsWide, has_rank, processor_at}
use Rattle.walkx.proofs.TaskAsking.{AllAsk}
use Rattle.walkx.proofs.Asking.{FitsThen, all_left, asks_after, first_admitted, part_asks}
use Rattle.walk_memory.proofs.Boards.{same_procs}
use Rattle.walk_memory.proofs.Ranks.{rank_parts}
use Rattle.walkx.specs.Doing.{Doing}
use Rattle.walkx.specs.Playing.{rank_of}
use Rattle.walkx.specs.Scripts.{Script, asks, ends, heard_in, op_with, rest}
use Rattle.walkx.specs.declared.operation.Op.{Op}
use Rattle.walkx.specs.declared.operation.Op.TheVariants.{Over}
use Rattle.walkx.proofs.Nodes.{node_range}
use Rattle.lawful_walk.proofs.TrueFits.{true_fits}
use Rattle.lawful_walk.proofs.Moments.{same, backs}
use Rattle.lawful_walk.specs.Board.{root, Done, Stands}
use Rattle.lawful_walk.proofs.Admitted.{answer_admitted}
use Rattle.lawful_walk.proofs.Scripts.{Aim, Safe, safe_after, safe_first}
use Rattle.lawful_walk.proofs.Sees.{Chain, Sees, chain_of_has}
use Rattle.lawful_walk.specs.Moments.{Backed}
use Rattle.lawful_walk.specs.WalkLaws.{WorkersKeepWordsLawful}
use Rattle.lawful_walk.specs.Walks.{Goes, phase_now}

-- ---- what a worker aims at

-- In a phase, at the processor of a rank in the block of a leaf: those before it are done, and so
-- is it with the end of its script.
abbrev pub rank_done : JobData → LayoutData → ℕ → ℕ → ℕ → List ℕ → Type 0
rank_done job y q n rank words = root y words < q →
    Done job.rule (kind_at q) job y (step_at q - 1) words (processor_at y n rank)

abbrev pub aim_at : JobData → LayoutData → ℕ → ℕ → ℕ → Aim
aim_at job y q n rank = record {
  given = λ words. (earlier : ℕ) → earlier < rank → IsTrue (has_rank y n earlier) →
      rank_done job y q n earlier words;
  done = λ memo words.
      rank_done job y q n rank words × IsTrueMemo job (processor_at y n rank) memo;
}

abbrev pub aim_of : JobData → LayoutData → ℕ → Doing → Aim
aim_of job y n now = aim_at job y (phase_now now) n (rank_of now)

-- what is to be shown of the script of a worker that fits
abbrev pub WorkerSafe : Type 0
WorkerSafe = (job : JobData) (y : LayoutData) (w : Walking) → IsBoard job y → Fits job y w →
    IsTrueMemory job w.memory →
    Safe job y w.number (phase_now w.now) (aim_of job y (node_of y w) w.now) (script_of job y w)
    (phase_begun y w.now)

-- and of the task of a processor in a block
abbrev pub RankSafe : Type 0
RankSafe = (job : JobData) (y : LayoutData) → IsBoard job y → IsWide y.form → (w n q rank : ℕ)
    (memo : Memo) → IsTrueMemo job (processor_at y n rank) memo → y.leaves ≤ n →
    n < 2 * y.leaves → 1 ≤ q → q ≤ 3 * job.steps → IsTrue (has_phase y.form q) →
    IsTrue (has_rank y n rank) →
    Safe job y w q (aim_at job y q n rank) (part_script job y n q rank memo) (begun_phase y q)

-- ---- what the processors before a worker's have done

-- answers that standing words gave are admitted
answer_fits : (job : JobData) (y : LayoutData) (s : Script Then) (found : ℕ)
    (heard more : List (Op × ℕ)) (now : List ℕ) →
    (AllAdmitted job y heard → AllAsk job y (FitsThen job) s) → ((words : List ℕ) →
    Chain job y (λ words. Unit {0}) (heard ++ more) words → AllAdmitted job y heard) →
    Chain job y (λ words. Unit {0}) ((op_with s found ++ heard) ++ more) now →
    AllAdmitted job y (op_with s found ++ heard)
answer_fits job y (asks op next) found heard more now asked before m =
    let earlier = before m.words m.earlier in (
      subst (HearsAdmitted job y op) (sym m.heard) (answer_admitted job y m.words op m.stands
          (first_admitted job y op next (asked earlier))),
      earlier,
    )
answer_fits job y (ends r) found heard more now asked before m = before now m

chain_admitted : (job : JobData) (y : LayoutData) (script : Script Then) (answers : List ℕ)
    (more : List (Op × ℕ)) (now : List ℕ) → AllAsk job y (FitsThen job) script →
    Chain job y (λ words. Unit {0}) (heard_in script answers ++ more) now →
    AllAdmitted job y (heard_in script answers)
chain_admitted job y script [] more now asked chain = tt
chain_admitted job y script (found ∷ earlier) more now asked chain =
    answer_fits job y (rest script earlier) found (heard_in script earlier) more now
    (λ all. asks_after (FitsThen job) job y script earlier all asked)
    (λ words before. chain_admitted job y script earlier more words asked before) chain

-- what the whole task of an earlier processor shows
module _ (job : JobData) (y : LayoutData) (board : IsBoard job y) (wide : IsWide y.form)
    (w n q : ℕ) (words : List ℕ) (safe : RankSafe) (some : 1 ≤ y.leaves) (low : y.leaves ≤ n)
    (high : n < 2 * y.leaves) (first : 1 ≤ q) (last : q ≤ 3 * job.steps)
    (formed : IsTrue (has_phase y.form q)) (stands : Stands job y words) where
  pub shown_of : (rank : ℕ) → IsTrue (has_rank y n rank) →
      (memo learned : Memo) (answers : List ℕ) →
      IsTrueMemo job (processor_at y n rank) memo →
      rest (part_script job y n q rank memo) answers ≡ ends (worked n q rank learned) →
      Chain job y (λ words. Unit {0})
      (heard_in (part_script job y n q rank memo) answers ++ begun_phase y q) words →
      (aim_at job y q n rank).done learned words
  shown_of rank there memo learned answers is_true whole chain =
      let script = part_script job y n q rank memo in
      let aim = aim_at job y q n rank in
      let proc = (rank_parts y n rank there).1 in
      let fits = true_fits job (processor_at y n rank) board.limits
      (let same = same_procs job y board in omega (arith, proc, same)) memo is_true in
      let admitted = chain_admitted job y script answers (begun_phase y q) words
      (part_asks job y board n q rank memo (omega (arith, some, low)) high last formed there fits)
      chain in
      let whole_safe = safe_after job y w q aim script (begun_phase y q) answers admitted
      (safe job y board wide w n q rank memo is_true low high first last formed there) in
      let shown = subst (λ (s : Script Then). Safe job y w q aim s
      (heard_in script answers ++ begun_phase y q)) whole whole_safe in
      shown words stands chain

  shown_at : (r : Record) (rank : ℕ) → IsTrue (has_rank y n rank) → Backed job y r words →
      HasPart job y r n q rank → rank_done job y q n rank words
  shown_at r rank there backed part =
      (shown_of rank there part.memo part.learned part.answers part.is_true part.whole
      (chain_of_has job y r
      (heard_in (part_script job y n q rank part.memo) part.answers ++ begun_phase y q) words backed
      part.has)).0

given_of : (job : JobData) (y : LayoutData) (board : IsBoard job y) (r : Record) (w n : ℕ)
    (now : Doing) (words : List ℕ) → RankSafe → 1 ≤ y.leaves →
    n < 2 * y.leaves → IsPhase job y now → IsInBlock y n now → Stands job y words →
    Backed job y r words → HasBlock job y r n now → (aim_of job y n now).given words
given_of job y board r w n doing.Back words safe some high phase block stands backed has =
    λ earlier less there. absurd (omega arith)
given_of job y board r w n doing.Begin words safe some high phase block stands backed has =
    λ earlier less there. absurd (omega arith)
given_of job y board r w n (doing.Turn q) words safe some high phase block stands backed has =
    λ earlier less there. absurd (omega arith)
given_of job y board r w n (doing.Part q rank) words safe some high phase block stands
    backed has = λ earlier less there.
    shown_at job y board block.2 w n q words safe some block.0 high phase.0 phase.1 phase.2 stands r
    earlier there backed (has earlier less)
given_of job y board r w n (doing.Over e) words safe some high phase block stands backed has =
    λ earlier less there. absurd (omega arith)

-- ---- the worker's step

goes_by : (job : JobData) (y : LayoutData) (now : Doing) (aim : Aim)
    (script : Script Then) (w : ℕ) (history : List (Op × ℕ)) (words : List ℕ) → Matches now script →
    Safe job y w (phase_now now) aim script history → Stands job y words →
    ((op : Op) → Sees job y history (λ words. aim.given words →
    Goes job y w (phase_now now) op words) → Goes job y w (phase_now now) op words) →
    Goes job y w (phase_now now) (next_op now script) words
goes_by job y doing.Back aim script w history words goes safe stands apply =
    subst (λ (o : Option Op). Goes job y w 0 (unwrap_or o (Over ended.Done)) words) (sym goes.1)
    (apply goes.0 (safe_first job y w 0 aim script history goes.0 goes.1 safe))
goes_by job y doing.Begin aim script w history words goes safe stands apply =
    subst (λ (o : Option Op). Goes job y w 0 (unwrap_or o (Over ended.Done)) words) (sym goes.1)
    (apply goes.0 (safe_first job y w 0 aim script history goes.0 goes.1 safe))
goes_by job y (doing.Turn q) aim script w history words goes safe stands apply =
    subst (λ (o : Option Op). Goes job y w q (unwrap_or o (Over ended.Done)) words) (sym goes.1)
    (apply goes.0 (safe_first job y w q aim script history goes.0 goes.1 safe))
goes_by job y (doing.Part q rank) aim script w history words goes safe stands apply =
    subst (λ (o : Option Op). Goes job y w q (unwrap_or o (Over ended.Done)) words) (sym goes.1)
    (apply goes.0 (safe_first job y w q aim script history goes.0 goes.1 safe))
goes_by job y (doing.Over e) aim script w history words goes safe stands apply = record {
  keeps = record { stands = stands; grows = same y words };
  stale = λ h a is other fixed. refl;
}

pub moves : WorkerSafe → RankSafe → WorkersKeepWordsLawful
moves each ranks job y r w words stands fits knows backed =
    let board : IsBoard job y =
    record { limits = stands.limits; layout = stands.sizes; is = stands.layout } in
    let script = script_of job y w in
    let q = phase_now w.now in
    let aim = aim_of job y (node_of y w) w.now in
    let at = node_range job y w board.layout.leaves.0 fits in
    let safe : Safe job y w.number q aim (rest_of job y w) (heard_of job y w) =
    safe_after job y w.number q aim script (phase_begun y w.now) w.heard
    (all_left job y (heard_in script w.heard) (phase_begun y w.now) fits.admitted)
    (each job y w board fits knows.memory) in
    let given : aim.given words = given_of job y board r w.number (node_of y w) w.now words ranks
    board.layout.leaves.0 at.1 fits.phase fits.block stands backed knows.block in
    let goes : Goes job y w.number q (ask_of job y w) words =
    goes_by job y w.now aim (rest_of job y w) w.number (heard_of job y w) words fits.matches safe
    stands (λ op sees. sees words stands
    (chain_of_has job y r (heard_of job y w) words backed knows.script) given) in
    record { goes = goes; backed = backs job y r (ask_of job y w) words stands backed goes.keeps }
