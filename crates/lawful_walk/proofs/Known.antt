-- What a script may take for known at its head: a fact without words that its history shows.
use Rattle.std.proofs.Common.{◌≡◌, ℕ, ◌<◌, ◌≤◌, max, List, ◌∷◌, get_or-set_same, length, arith}
use Rattle.pram_job.specs.Job.{JobData}
use Rattle.pram_words.proofs.NextPhases.{next_rises}
use Rattle.pram_words.proofs.Numbering.{numbering}
use Rattle.pram_words.specs.Words.{LayoutData, IsWord, number_of}
use Rattle.pram_words.specs.declared.words.Word.{Word}
use Rattle.walkx.specs.Operations.{words_after}
use Rattle.walkx.specs.Scripts.{Script, asks, ends}
use Rattle.walkx.specs.Walk.{Then, begins, enters, turns, worked, stops}
use Rattle.walk_memory.specs.Blocks.{IsBoard}
use Rattle.walk_memory.specs.declared.memo.Memo.{Memo}
use Rattle.walk_memory.specs.Memory.{IsTrueMemo}
use Rattle.walkx.specs.declared.operation.Op.{Op}
use Rattle.walkx.specs.declared.operation.Op.TheVariants.{Max}
use Rattle.lawful_walk.proofs.Moments.{onward}
use Rattle.lawful_walk.specs.Board.{held, root, Grows, Stands}
use Rattle.lawful_walk.proofs.Growths.{root_up}
use Rattle.lawful_walk.proofs.Scripts.{Aim, Safe, goes_of}
use Rattle.lawful_walk.proofs.Sees.{Sees, Lasts, so, heard, later}
use Rattle.lawful_walk.specs.Moments.{Moment}
use Rattle.lawful_walk.specs.Walks.{Goes}
use Rattle.lawful_walk.specs.Writes.{Floor, Does}

-- a fact in which no words stand, once seen, is a premise
pub safe_known : (job : JobData)
    (y : LayoutData) (w q : ℕ) (aim : Aim)
    (script : Script Then) (history : List (Op × ℕ)) (K : Type 0) →
    Sees job y history (λ words. K) → (K → Safe job y w q aim script history) →
    Safe job y w q aim script history
safe_known job y w q aim (asks op next) history K sees each = (
  λ words stands chain. (each (sees words stands chain)).0 words stands chain,
  λ found ok. safe_known job y w q aim (next found)
      ((op, found) ∷ history) K (later job y history (λ words. K) op found (λ a b c d e k. k) sees)
      (λ k. (each k).1 found ok),
)
safe_known job y w q aim (ends (begins n)) history K sees each = tt
safe_known job y w q aim (ends (turns n p)) history K sees each = tt
safe_known job y w q aim (ends (enters n p)) history K sees each = tt
safe_known job y w q aim (ends (worked n p rank memo)) history K sees each =
    λ words stands chain. each (sees words stands chain) words stands chain
safe_known job y w q aim (ends (stops e)) history K sees each = tt

-- job and board are within their limits
pub board_of : (job : JobData) (y : LayoutData) (words : List ℕ) →
    Stands job y words → IsBoard job y
board_of job y words stands =
    record { limits = stands.limits; layout = stands.sizes; is = stands.layout }

-- ---- what lasts

pub both_last : (job : JobData) (y : LayoutData) (P Q : List ℕ → Type 0) → Lasts job y P →
    Lasts job y Q → Lasts job y (λ words. P words × Q words)
both_last job y P Q p q =
    λ words later a b up h. (p words later a b up h.0, q words later a b up h.1)

pub floor_lasts : (job : JobData) (y : LayoutData) (q x : ℕ) → Lasts job y (Floor job y q x)
floor_lasts job y q x = λ words later a b up floor. let r = root_up job y words later a up in
    let low = floor.root in
    let s = next_rises y.form (root y words) (root y later) r in
    record { root = omega arith; reached = floor.reached; is_phase = floor.is_phase }

-- ---- how a task ends: what follows it is safe where the phase is over, and where this holds if it
-- is not

abbrev pub StaleSafe : JobData → LayoutData → ℕ → ℕ → Aim → ℕ → Script Then → Type 0
StaleSafe job y w q aim x after = (longer : List (Op × ℕ)) →
    Sees job y longer (λ words. Floor job y q x words × (q ≤ root y words)) →
    Safe job y w q aim after longer

abbrev pub EndSafe : JobData → LayoutData → ℕ → ℕ → Aim → ℕ →
    (List ℕ → Type 0) → Script Then → Type 0
EndSafe job y w q aim x D after = (longer : List (Op × ℕ)) →
    Sees job y longer (λ words. Floor job y q x words × (root y words < q → D words)) →
    Safe job y w q aim after longer

-- the same where a worker then knows something that is true of processor i
abbrev pub LearnedSafe : JobData → LayoutData → ℕ → ℕ → Aim → ℕ → ℕ → (List ℕ → Type 0) →
    (Memo → Script Then) → Type 0
LearnedSafe job y w q aim x i D after = (memo : Memo) → IsTrueMemo job i memo →
    EndSafe job y w q aim x D (after memo)

pub stale_end : (job : JobData) (y : LayoutData) (w q : ℕ) (aim : Aim) (x : ℕ) (D : List ℕ → Type 0)
    (after : Script Then) → EndSafe job y w q aim x D after → StaleSafe job y w q aim x after
stale_end job y w q aim x D after done = λ longer sees. done longer
    (so job y longer (λ words. Floor job y q x words × (q ≤ root y words))
    (λ words. Floor job y q x words × (root y words < q → D words))
    (λ words stands h. (h.0, λ live. absurd (let l = h.1 in omega arith))) sees)

-- ---- a word that only rises is raised

max_held : (job : JobData) (y : LayoutData) (a : Word) (v : ℕ) (words : List ℕ) → IsWord y a →
    Stands job y words → v ≤ held y (words_after words (Max (number_of y a) v)) a
max_held job y a v words is stands =
    let below : number_of y a < length words = (let n = (numbering y stands.sizes).below a is in
    let l = stands.admitted.len in omega arith) in
    let e : held y (words_after words (Max (number_of y a) v)) a ≡ max (held y words a) v =
    get_or-set_same words (number_of y a) (max (held y words a) v) 0 below in
    omega arith

pub raises_safe : (job : JobData) (y : LayoutData)
    (w q : ℕ) (aim : Aim) (a : Word) (v : ℕ) (P : List ℕ → Type 0) → Lasts job y P → IsWord y a →
    ((words later : List ℕ) → Grows y words later → held y words a ≤ held y later a) →
    ((words : List ℕ) → Stands job y words → P words → Does job y q (Max (number_of y a) v) words) →
    (after : Script Then) (history : List (Op × ℕ)) → Sees job y history P →
    ((longer : List (Op × ℕ)) → Sees job y longer (λ words. P words × (v ≤ held y words a)) →
    Safe job y w q aim after longer) →
    Safe job y w q aim (asks (Max (number_of y a) v) (λ found. after)) history
raises_safe job y w q aim a v P lasts is up does after history sees on = (
  so job y history P (λ words. aim.given words → Goes job y w q (Max (number_of y a) v) words)
      (λ words stands p given.
      goes_of job y w q (Max (number_of y a) v) words (does words stands p)) sees,
  λ found ok. on ((Max (number_of y a) v, found) ∷ history)
      (so job y ((Max (number_of y a) v, found) ∷ history)
      (Moment job y (Max (number_of y a) v) found P) (λ words. P words × (v ≤ held y words a))
      (λ words stands m.
      let high : v ≤ held y (words_after m.words (Max (number_of y a) v)) a =
      max_held job y a v m.words is m.stands in
      let more : held y (words_after m.words (Max (number_of y a) v)) a ≤ held y words a =
      up (words_after m.words (Max (number_of y a) v)) words m.since in (
        lasts m.words words m.stands stands
            (onward y m.words (words_after m.words (Max (number_of y a) v)) words m.grew m.since)
            m.earlier,
        omega arith,
      ))
      (heard job y history P (Max (number_of y a) v) found sees)),
)
