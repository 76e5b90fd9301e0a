-- A proof down a script: each operation keeps the words, whatever was heard before it.
use Rattle.std.proofs.Common.{◌≡◌, ℕ, List, [], ◌∷◌, ◌++◌, Some, refl, ap, subst}
use Rattle.pram_job.specs.Job.{JobData}
use Rattle.pram_words.specs.Words.{LayoutData, number_of}
use Rattle.pram_words.specs.declared.words.Word.TheVariants.{Node, Stored}
use Rattle.walkx.proofs.Asking.{admitted_earlier}
use Rattle.walkx.specs.Scripts.{Script, asks, ends, rest_after, rest, first_op, op_with, heard_in}
use Rattle.walkx.specs.Tasks.{loads_both}
use Rattle.walkx.specs.Walk.{Then, worked, HearsAdmitted, AllAdmitted}
use Rattle.walk_memory.specs.declared.memo.Memo.{Memo}
use Rattle.walkx.specs.declared.operation.Op.{Op}
use Rattle.walkx.specs.declared.operation.Op.TheVariants.{Load, Max}
use Rattle.lawful_walk.specs.Board.{held, Stands}
use Rattle.lawful_walk.proofs.Moments.{load_keeps}
use Rattle.lawful_walk.proofs.Sees.{Sees, always, heard}
use Rattle.lawful_walk.specs.Moments.{Moment}
use Rattle.lawful_walk.specs.Walks.{Goes}
use Rattle.lawful_walk.specs.Writes.{Does, Marks}

-- ---- one operation

pub load_goes : (job : JobData) (y : LayoutData) (w q k : ℕ) (words : List ℕ) → Stands job y words →
    Goes job y w q (Load k) words
load_goes job y w q k words stands =
    record { keeps = load_keeps job y k words stands; stale = λ h a is other fixed. refl }

-- what the lemmas on writes say of an operation
pub goes_of : (job : JobData) (y : LayoutData) (w q : ℕ) (op : Op) (words : List ℕ) →
    Does job y q op words → Goes job y w q op words
goes_of job y w q op words does = record {
  keeps = does.keeps;
  stale = λ h a is other fixed. ap (λ (l : List ℕ). held y l a) (does.still h);
}

-- and what they say of a mark
pub goes_mark : (job : JobData) (y : LayoutData) (w q n m : ℕ) (words : List ℕ) →
    Marks job y q n m words → Goes job y w q (Max (number_of y (Node n)) m) words
goes_mark job y w q n m words marks =
    record { keeps = marks.keeps; stale = λ h a is other fixed. marks.still h a is fixed }

-- what is known of the words beside the history of a script, and what the history of a whole task
-- in a block shows, this being what the worker then knows of its processor
pub record Aim : Type 1 where
  pub given : List ℕ → Type 0
  pub done : Memo → List ℕ → Type 0

-- after this history each operation of the script goes well, whatever admitted answers it hears:
-- the script is worker w's in phase q
abbrev pub Safe : JobData → LayoutData → ℕ → ℕ → Aim → Script Then → List (Op × ℕ) → Type 0
Safe job y w q aim (asks op next) history =
    Sees job y history (λ words. aim.given words → Goes job y w q op words)
    × ((found : ℕ) → HearsAdmitted job y op found →
    Safe job y w q aim (next found) ((op, found) ∷ history))
Safe job y w q aim (ends (worked n p rank memo)) history = Sees job y history (aim.done memo)
Safe job y w q aim (ends _) history = Unit {0}

-- an operation that goes well whatever is known
pub goes_on : (job : JobData) (y : LayoutData) (w q : ℕ) (aim : Aim) (op : Op)
    (history : List (Op × ℕ)) → Sees job y history (Goes job y w q op) →
    Sees job y history (λ words. aim.given words → Goes job y w q op words)
goes_on job y w q aim op history sees = λ words stands chain given. sees words stands chain

safe_next : (job : JobData) (y : LayoutData)
    (w q : ℕ) (aim : Aim) (script : Script Then) (history heard : List (Op × ℕ)) (found : ℕ) →
    AllAdmitted job y (op_with script found ++ heard) →
    Safe job y w q aim script (heard ++ history) →
    Safe job y w q aim (rest_after script found) ((op_with script found ++ heard) ++ history)
safe_next job y w q aim (asks op next) history heard found ok safe = safe.1 found ok.0
safe_next job y w q aim (ends r) history heard found ok safe = safe

-- so it is in the midst of it
pub safe_after : (job : JobData)
    (y : LayoutData) (w q : ℕ) (aim : Aim)
    (script : Script Then) (history : List (Op × ℕ)) (answers : List ℕ) →
    AllAdmitted job y (heard_in script answers) → Safe job y w q aim script history →
    Safe job y w q aim (rest script answers) (heard_in script answers ++ history)
safe_after job y w q aim script history [] ok safe = safe
safe_after job y w q aim script history (found ∷ earlier) ok safe =
    safe_next job y w q aim (rest script earlier) history (heard_in script earlier) found ok
    (safe_after job y w q aim script history earlier
    (admitted_earlier job y (rest script earlier) found (heard_in script earlier) ok) safe)

-- the first operation of a safe script
pub safe_first : (job : JobData) (y : LayoutData)
    (w q : ℕ) (aim : Aim) (script : Script Then) (history : List (Op × ℕ)) (op : Op) →
    first_op script ≡ Some op →
    Safe job y w q aim script history →
    Sees job y history (λ words. aim.given words → Goes job y w q op words)
safe_first job y w q aim (asks o next) history op e safe =
    let same : o ≡ op = cc in
    subst (λ (x : Op). Sees job y history (λ words. aim.given words → Goes job y w q x words)) same
    safe.0
safe_first job y w q aim (ends r) history op e safe = absurd (cc)

-- ---- blocks: a load is always safe

pub load_safe : (job : JobData)
    (y : LayoutData) (w q : ℕ) (aim : Aim) (k : ℕ)
    (next : ℕ → Script Then) (history : List (Op × ℕ)) →
    ((found : ℕ) → HearsAdmitted job y (Load k) found →
    Safe job y w q aim (next found) ((Load k, found) ∷ history)) →
    Safe job y w q aim (asks (Load k) next) history
load_safe job y w q aim k next history each = (
  always job y history (λ words. aim.given words → Goes job y w q (Load k) words)
      (λ words stands given. load_goes job y w q k words stands),
  each,
)

-- both words of a place, each heard at a moment of its own
pub both_safe : (job : JobData) (y : LayoutData) (w q : ℕ) (aim : Aim) (p : ℕ)
    (next : ℕ → ℕ → Script Then) (history : List (Op × ℕ)) (P : List ℕ → Type 0) →
    Sees job y history P →
    ((a b : ℕ) (longer : List (Op × ℕ)) → Sees job y longer
    (Moment job y (Load (number_of y (Stored p 1))) b
    (Moment job y (Load (number_of y (Stored p 0))) a P)) → Safe job y w q aim (next a b) longer) →
    Safe job y w q aim (loads_both y p next) history
both_safe job y w q aim p next history P sees each =
    load_safe job y w q aim (number_of y (Stored p 0))
    (λ a. asks (Load (number_of y (Stored p 1))) (λ b. next a b)) history (λ a ok.
    load_safe job y w q aim (number_of y (Stored p 1))
    (λ b. next a b) ((Load (number_of y (Stored p 0)), a) ∷ history) (λ b ok_too.
    each a b ((Load (number_of y (Stored p 1)), b) ∷ (Load (number_of y (Stored p 0)), a) ∷ history)
    (heard job y ((Load (number_of y (Stored p 0)), a) ∷ history)
    (Moment job y (Load (number_of y (Stored p 0))) a P) (Load (number_of y (Stored p 1))) b
    (heard job y history P (Load (number_of y (Stored p 0))) a sees))))
