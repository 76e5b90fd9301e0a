-- What the cells hold in the end.
use Rattle.std.proofs.Common.{◌≡◌, ℕ, ◌+◌, ◌<◌, List, [], ◌∷◌, ◌++◌, length-append, take}
use Rattle.std.proofs.Common.{slice_index, refl, sym, ap, ap₂, subst, ◌∙◌, arith}
use Rattle.std.specs.List.{AllByRecursion}
use Rattle.std.proofs.lemmas.List.{take_more}
use Rattle.pram_step.proofs.LawFixed.{length-state_after}
use Rattle.pram_step.specs.Runs.{state_after}
use Rattle.pram_words.specs.Words.{LayoutData, number_of, places_of}
use Rattle.pram_words.specs.declared.words.Word.TheVariants.{Stored}
use Rattle.pram_words.specs.Stamps.{newer_payload}
use Rattle.walkx.specs.declared.operation.Op.{Op}
use Rattle.walkx.specs.declared.operation.Op.TheVariants.{Load}
use Rattle.walkx.specs.Records.{Record, after}
use Rattle.walk_memory.specs.Blocks.{IsBoard}
use Rattle.lawful_walk.specs.Moments.{Sound, afters}
use Rattle.lawful_walk.specs.Seen.{KnowsStep}
use Rattle.lawful_walk.proofs.Sounding.{was_place}
use Rattle.lawful_walk.proofs.Places.{cell_value}
use Rattle.pram_board.specs.declared.task.Task.{Task}
use Rattle.pram_board.specs.Seats.{SeatData, hears, hears_all, IsLoad, HasLoaded}
use Rattle.pram_board.proofs.Begins.{knows_afters}

-- a cell is a place of the board
pub cell_place : (t : Task) (p : ℕ) → IsBoard t.job t.layout →
    p < t.job.cells → p < places_of t.layout
cell_place t p board cell =
    let e : t.layout.cells ≡ t.job.cells = ap (λ (y : LayoutData). y.cells) board.is in omega arith

-- both words were loaded, one after the other
pub loaded : (t : Task) (q second : SeatData) (p word a b : ℕ) →
    KnowsStep t.layout q.record_of t.job.steps → p < t.job.cells → p < places_of t.layout →
    word ≡ number_of t.layout (Stored p 0) → word + 1 ≡ number_of t.layout (Stored p 1) →
    second ≡ hears (hears q (Load word) a) (Load (word + 1)) b →
    Sound t.job t.layout second.record_of →
    newer_payload a b ≡ slice_index (state_after t.job t.job.steps) p
loaded t q second p word a b knows cell place e f is sound =
    let s : Sound t.job t.layout (after (after q.record_of (Load word) a) (Load (word + 1)) b) =
    subst (λ (z : SeatData). Sound t.job t.layout z.record_of) is sound in
    let u : Sound t.job t.layout (after (after q.record_of
    (Load (number_of t.layout (Stored p 0))) a) (Load (number_of t.layout (Stored p 1))) b) =
    subst (λ (x : ℕ × ℕ). Sound t.job t.layout
    (after (after q.record_of (Load x.0) a) (Load x.1) b)) (λ i. (e i, f i)) s in
    was_place t.job t.layout q.record_of p a b knows place u
    ∙ cell_value t.layout.form t.job t.job.steps p cell

-- ---- loads, one after the other

pub no_loads : (p : SeatData) → HasLoaded 0 p p
no_loads p = record { steps = []; is = refl; loads = tt; count = refl }

pub one_load : (n k found : ℕ) (p q r : SeatData) → HasLoaded n p q →
    r ≡ hears q (Load k) found → HasLoaded (n + 1) p r
one_load n k found p q r so_far is =
    record {
      steps = (Load k, found) ∷ so_far.steps;
      is = is ∙ ap (λ (z : SeatData). hears z (Load k) found) so_far.is;
      loads = (tt, so_far.loads);
      count = (let e = so_far.count in omega arith);
    }

pub two_loads : (k a j b : ℕ) (p q r : SeatData) → q ≡ hears p (Load k) a →
    r ≡ hears q (Load j) b → HasLoaded 2 p r
two_loads k a j b p q r first second =
    one_load 1 j b p q r (one_load 0 k a p p q (no_loads p) first) second

afters_append : (r : Record) (xs ys : List (Op × ℕ)) → afters r (xs ++ ys) ≡ afters (afters r ys) xs
afters_append r [] ys = refl
afters_append r (x ∷ xs) ys = ap (λ (s : Record). after s x.0 x.1) (afters_append r xs ys)

all_append : (xs ys : List (Op × ℕ)) → AllByRecursion (λ (e : Op × ℕ). IsLoad e.0) xs →
    AllByRecursion (λ (e : Op × ℕ). IsLoad e.0) ys →
    AllByRecursion (λ (e : Op × ℕ). IsLoad e.0) (xs ++ ys)
all_append [] ys all more = more
all_append (x ∷ xs) ys all more = (all.0, all_append xs ys all.1 more)

pub more_loads : (n m : ℕ) (p q r : SeatData) → HasLoaded n p q →
    HasLoaded m q r → HasLoaded (n + m) p r
more_loads n m p q r first second =
    record {
      steps = second.steps ++ first.steps;
      is = second.is ∙ ap (λ (z : SeatData). hears_all z second.steps) first.is
          ∙ ap (λ (s : Record). record { desk = p.desk; record_of = s })
          (sym (afters_append p.record_of second.steps first.steps));
      loads = all_append second.steps first.steps second.loads first.loads;
      count = (let l = length-append second.steps first.steps in
          let a = first.count in
          let b = second.count in omega arith);
    }

pub still_known : (t : Task) (n : ℕ) (p q : SeatData) (s : ℕ) → HasLoaded n p q →
    KnowsStep t.layout p.record_of s → KnowsStep t.layout q.record_of s
still_known t n p q s loads knows = subst (λ (z : SeatData). KnowsStep t.layout z.record_of s)
    (sym loads.is) (knows_afters t.layout p.record_of loads.steps s knows)

-- one cell more
pub cells_more : (t : Task) (values now : List ℕ) (cell value : ℕ) → IsBoard t.job t.layout →
    cell < t.job.cells → values ≡ take cell (state_after t.job t.job.steps) →
    value ≡ slice_index (state_after t.job t.job.steps) cell →
    now ≡ values ++ value ∷ [] → now ≡ take (cell + 1) (state_after t.job t.job.steps)
cells_more t values now cell value board below so_far is pushed =
    let len = length-state_after t.job t.job.steps board.limits in
    pushed ∙ ap₂ (λ xs v. xs ++ v ∷ []) so_far is
    ∙ sym (take_more (state_after t.job t.job.steps) cell 0 (omega arith))
