-- What a node is marked with: the phase or more, a phase of the form.
use Rattle.std.proofs.Common.{◌≡◌, ℕ, zero, suc, ◌+◌, ◌-◌, ◌*◌, ◌%◌, ◌<◌, ◌≤◌, ◌==◌, ◌&&◌}
use Rattle.std.proofs.Common.{Bool, true, false, nat_le, nat_lt, IsTrue, List}
use Rattle.std.proofs.Common.{refl, sym, subst, inl, inr, arith}
use Rattle.std.specs.Prelude.{is_some, max, min}
use Rattle.std.proofs.Math.Nat.{le-max_left, le-min, max-eq_left, max-eq_right, min-eq_left}
use Rattle.std.proofs.Math.Nat.{min-eq_right}
use Rattle.std.proofs.lemmas.Bool.{cases_Bool, cases_eq, cases_lt, cond_both, eq-eqb, eqb-true}
use Rattle.std.proofs.lemmas.Bool.{leb-true, le-ltb, lt-ltb, ltb-true, ne_eqb}
use Rattle.pram_job.specs.Job.{JobData}
use Rattle.pram_words.specs.declared.layout.Form.{Form}
use Rattle.pram_words.specs.declared.layout.Form.TheVariants.{Compact, Wide}
use Rattle.pram_words.specs.Phases.{has_phase, step_at}
use Rattle.pram_words.specs.Words.{LayoutData, grain}
use Rattle.walk_memory.specs.declared.memo.Memo.{Memo}
use Rattle.walk_memory.specs.Memory.{FitsMemo, FitsMemory, memo_of, reach}
use Rattle.walk_memory.specs.Blocks.{least_of, IsWide, block_reach, has_rank, last_phase}
use Rattle.walk_memory.specs.Blocks.{least_reach, processor_at, reach_from_phase}
use Rattle.walkx.specs.Walk.{block_mark, bounded_mark, empty_mark, inner_mark, jumps}
use Rattle.walk_memory.proofs.Ranks.{rank_parts, rank_there}
use Rattle.walkx.proofs.Forms.{form_both, form_cases, form_wide_of}

-- a mark in this phase of a board with so many steps
pub record IsMark (steps : ℕ) (y : LayoutData) (q m : ℕ) : Type 0 where
  pub least : q ≤ m
  pub most : m ≤ 3 * steps
  pub formed : IsTrue (has_phase y.form m)

pub phase_marks : (steps : ℕ) (y : LayoutData) (q : ℕ) → q ≤ 3 * steps →
    IsTrue (has_phase y.form q) → IsMark steps y q q
phase_marks steps y q last formed = record { least = omega arith; most = last; formed = formed }

-- a phase that is no second one of its step is one of each form
formed_by : (form : Form) (m : ℕ) → (m % 3 ≡ 2 → ⊥) → IsTrue (has_phase form m)
formed_by Compact m other = refl
formed_by (Wide g) m other = rw (ne_eqb (m % 3) 2 other) refl

-- so is a step's last phase
last_formed : (form : Form) (t : ℕ) → IsTrue (has_phase form (3 * t))
last_formed form t = formed_by form (3 * t) (λ (e : 3 * t % 3 ≡ 2). omega (arith, e))

last_marks : (steps : ℕ) (y : LayoutData) (q : ℕ) → q ≤ 3 * steps →
    IsMark steps y q (last_phase q)
last_marks steps y q last = record {
  least = omega arith;
  most = omega arith;
  formed = last_formed y.form (step_at q);
}

-- and the last phase of all
end_marks : (steps : ℕ) (y : LayoutData) (q : ℕ) → q ≤ 3 * steps → IsMark steps y q (3 * steps)
end_marks steps y q last = record {
  least = last;
  most = omega arith;
  formed = last_formed y.form steps;
}

-- the lesser one of two
least_of_two : (steps : ℕ) (y : LayoutData) (q l r : ℕ) → IsMark steps y q l → IsMark steps y q r →
    IsMark steps y q (min l r)
least_of_two steps y q l r left right = elim (cases_lt l r) [
  | inl less ↦ subst (IsMark steps y q)
      (sym (min-eq_left {n = l} {m = r} (omega (arith, less)))) left
  | inr more ↦ subst (IsMark steps y q) (sym (min-eq_right {n = r} {m = l} more)) right
]

-- the root's is the step's last phase at most
pub bounded_marks : (steps : ℕ) (y : LayoutData) (n q m : ℕ) → q ≤ 3 * steps → IsMark steps y q m →
    IsMark steps y q (bounded_mark n q m)
bounded_marks steps y n q m last is =
    cond_both (n == 1) (min m (last_phase q)) m (IsMark steps y q)
    (λ root. least_of_two steps y q m (last_phase q) is (last_marks steps y q last)) (λ other. is)

-- so it is the phase or more where that is so of what it bounds
pub bounded_least : (n q m : ℕ) → q ≤ m → q ≤ bounded_mark n q m
bounded_least n q m least =
    cond_both (n == 1) (min m (last_phase q)) m (λ k. q ≤ k)
    (λ root. le-min least (omega arith)) (λ other. least)

pub empty_marks : (job : JobData) (y : LayoutData) (n q : ℕ) → q ≤ 3 * job.steps →
    IsTrue (has_phase y.form q) → IsMark job.steps y q (empty_mark job y n q)
empty_marks job y n q last formed =
    form_both y.form q (bounded_mark n q (3 * job.steps)) (IsMark job.steps y q)
    (phase_marks job.steps y q last formed)
    (bounded_marks job.steps y n q (3 * job.steps) last (end_marks job.steps y q last))

-- ---- how far a block has nothing to do

-- a phase of a board with so many steps, which may be below the one that is marked
abbrev pub IsFound : ℕ → LayoutData → ℕ → Type 0
IsFound steps y m = (m ≤ 3 * steps) × IsTrue (has_phase y.form m)

reach_found : (job : JobData) (y : LayoutData) (memo : Memo) → FitsMemo job memo →
    IsFound job.steps y (reach memo)
reach_found job y memo fits =
    let step = fits.step in
    cond_both (is_some memo.store) (3 * memo.step - 2) (3 * memo.step) (IsFound job.steps y)
    (λ e. (
      omega (arith, step),
      formed_by y.form (3 * memo.step - 2)
          (λ (two : (3 * memo.step - 2) % 3 ≡ 2). omega (arith, two)),
    ))
    (λ e. (omega (arith, step), last_formed y.form memo.step))

from_found : (job : JobData) (y : LayoutData) (q : ℕ) (memo : Memo) → FitsMemo job memo →
    IsFound job.steps y (reach_from_phase q memo)
from_found job y q memo fits = cond_both (nat_le memo.acted q) (reach memo) 0 (IsFound job.steps y)
    (λ e. reach_found job y memo fits) (λ e. (omega arith, last_formed y.form 0))

min_found : (steps : ℕ) (y : LayoutData) (l r : ℕ) → IsFound steps y l → IsFound steps y r →
    IsFound steps y (min l r)
min_found steps y l r left right = elim (cases_lt l r) [
  | inl less ↦ subst (IsFound steps y)
      (sym (min-eq_left {n = l} {m = r} (omega (arith, less)))) left
  | inr more ↦ subst (IsFound steps y) (sym (min-eq_right {n = r} {m = l} more)) right
]

pub least_found : (job : JobData) (y : LayoutData) (n q more rank : ℕ) (memory : List Memo) →
    FitsMemory job memory → IsFound job.steps y (least_reach more job y n q rank memory)
least_found job y n q zero rank memory fits = (omega arith, last_formed y.form job.steps)
least_found job y n q (suc more) rank memory fits =
    cond_both (has_rank y n rank) _ (3 * job.steps) (IsFound job.steps y)
    (λ e. min_found job.steps y _ _
    (from_found job y q (memo_of memory (processor_at y n rank)) (fits (processor_at y n rank)))
    (least_found job y n q more (suc rank) memory fits))
    (λ e. (omega arith, last_formed y.form job.steps))

pub block_reaches : (job : JobData) (y : LayoutData) (n q : ℕ) (memory : List Memo) →
    q ≤ 3 * job.steps → IsTrue (has_phase y.form q) → FitsMemory job memory →
    IsMark job.steps y q (block_reach job y n q memory)
block_reaches job y n q memory last formed fits =
    let found = least_found job y n q (grain y) 0 memory fits in
    by (least_reach (grain y) job y n q 0 memory) found
  where
    by : (l : ℕ) → IsFound job.steps y l → IsMark job.steps y q (max q l)
    by l found = elim (cases_lt q l) [
      | inl less ↦ subst (IsMark job.steps y q)
          (sym (max-eq_right {n = q} {m = l} (omega (arith, less))))
          (record { least = omega (arith, less); most = found.0; formed = found.1 })
      | inr more ↦ subst (IsMark job.steps y q) (sym (max-eq_left {n = q} {m = l} more))
          (phase_marks job.steps y q last formed)
    ]

pub block_marks : (job : JobData) (y : LayoutData) (n q : ℕ) (memory : List Memo) →
    q ≤ 3 * job.steps → IsTrue (has_phase y.form q) → FitsMemory job memory →
    IsMark job.steps y q (block_mark job y n q memory)
block_marks job y n q memory last formed fits =
    bounded_marks job.steps y n q (block_reach job y n q memory) last
    (block_reaches job y n q memory last formed fits)

-- whatever is remembered, the mark is the phase or more
pub block_least : (job : JobData) (y : LayoutData) (n q : ℕ) (memory : List Memo) →
    q ≤ block_mark job y n q memory
block_least job y n q memory =
    bounded_least n q (block_reach job y n q memory)
    (le-max_left q (least_reach (grain y) job y n q 0 memory))

pub both_parts : (a b : Bool) → (a && b) ≡ true → (a ≡ true) × (b ≡ true)
both_parts true true e = (refl, refl)
both_parts true false e = absurd (cc)
both_parts false b e = absurd (cc)

-- how far an inner node may be raised, its children holding these
pub inner_reaches : (steps : ℕ) (y : LayoutData) (q l r : ℕ) →
    (l ≤ 3 * steps) × IsTrue (has_phase y.form l) →
    (r ≤ 3 * steps) × IsTrue (has_phase y.form r) → (nat_le q l && nat_le q r) ≡ true →
    IsMark steps y q (min l r)
inner_reaches steps y q l r left right done =
    let both = both_parts (nat_le q l) (nat_le q r) done in
    least_of_two steps y q l r
    (record { least = leb-true q l both.0; most = left.0; formed = left.1 })
    (record { least = leb-true q r both.1; most = right.0; formed = right.1 })

pub inner_marks : (steps : ℕ) (y : LayoutData) (n q l r : ℕ) → q ≤ 3 * steps →
    IsTrue (has_phase y.form q) → (l ≤ 3 * steps) × IsTrue (has_phase y.form l) →
    (r ≤ 3 * steps) × IsTrue (has_phase y.form r) → (nat_le q l && nat_le q r) ≡ true →
    IsMark steps y q (inner_mark y n q l r)
inner_marks steps y n q l r last formed left right done =
    form_both y.form q (bounded_mark n q (min l r)) (IsMark steps y q)
    (phase_marks steps y q last formed)
    (bounded_marks steps y n q (min l r) last (inner_reaches steps y q l r left right done))

-- whatever the children hold, the mark is the phase or more
pub inner_least : (y : LayoutData) (n q l r : ℕ) → (nat_le q l && nat_le q r) ≡ true →
    q ≤ inner_mark y n q l r
inner_least y n q l r done =
    let both = both_parts (nat_le q l) (nat_le q r) done in
    form_both y.form q (bounded_mark n q (min l r)) (λ m. q ≤ m) (omega arith)
    (bounded_least n q (min l r) (le-min (leb-true q l both.0) (leb-true q r both.1)))

-- ---- the swap before the mark

-- where the root is first raised over the step's end
pub record Jumps (y : LayoutData) (n q m : ℕ) : Type 0 where
  pub wide : IsWide y.form
  pub root : n ≡ 1
  pub first : q % 3 ≡ 1
  pub over : last_phase q < m

-- in the wide form
pub jumps_wide : (y : LayoutData) (n q m : ℕ) → IsWide y.form →
    jumps y n q m ≡ ((n == 1) && ((q % 3 == 1) && nat_lt (last_phase q) m))
jumps_wide y n q m wide =
    form_wide_of y.form false ((n == 1) && ((q % 3 == 1) && nat_lt (last_phase q) m)) wide

pub jumps_where : (y : LayoutData) (n q m : ℕ) → jumps y n q m ≡ true → Jumps y n q m
jumps_where y n q m is =
    form_cases y.form false over (λ b. b ≡ true → Jumps y n q m) (λ e f. absurd (cc))
    (λ wide both. let root = both_parts (n == 1) later both in
    let first = both_parts (q % 3 == 1) (nat_lt (last_phase q) m) root.1 in record {
      wide = wide;
      root = eqb-true n 1 root.0;
      first = eqb-true (q % 3) 1 first.0;
      over = ltb-true (last_phase q) m first.1;
    }) is
  where
    later : Bool
    later = (q % 3 == 1) && nat_lt (last_phase q) m

    over : Bool
    over = (n == 1) && later

-- the mark after it is the step's last phase
pub jump_bounds : (y : LayoutData) (n q m : ℕ) → Jumps y n q m → bounded_mark n q m ≡ last_phase q
jump_bounds y n q m jump =
    let over = jump.over in
    rw (eq-eqb n 1 jump.root) (min-eq_right {n = last_phase q} {m = m} (omega arith))

-- what the swap takes the root from is a phase of the form too
pub jump_from : (steps : ℕ) (y : LayoutData) (n q m : ℕ) → q ≤ 3 * steps → Jumps y n q m →
    (q - 1 ≤ 3 * steps) × IsTrue (has_phase y.form (q - 1))
jump_from steps y n q m last jump =
    let before : q - 1 ≡ 3 * (step_at q - 1) = omega (arith, jump.first) in
    (omega arith, rw before (last_formed y.form (step_at q - 1)))

-- ---- a block's mark, as it is found

-- Where a block has nothing to do up to a later phase, that is so of each of its processors, by
-- what is known of it.
abbrev pub ReachesAt : LayoutData → ℕ → ℕ → ℕ → List Memo → ℕ → Type 0
ReachesAt y n q k memory m = ((memo_of memory (processor_at y n k)).acted ≤ q)
    × (m ≤ reach (memo_of memory (processor_at y n k)))

from_at : (q m : ℕ) (memo : Memo) → q < m → m ≤ reach_from_phase q memo →
    (memo.acted ≤ q) × (m ≤ reach memo)
from_at q m memo later most = elim (cases_Bool (nat_le memo.acted q)) [
  | inl e ↦ (leb-true memo.acted q e, rw e at most)
  | inr e ↦ absurd (let none : m ≤ 0 = rw e at most in omega (arith, none, later))
]

least_at : (job : JobData) (y : LayoutData) (n q m more rank k : ℕ) (memory : List Memo) →
    rank ≤ k → k < rank + more → IsTrue (has_rank y n k) → q < m →
    m ≤ least_reach more job y n q rank memory → ReachesAt y n q k memory m
least_at job y n q m zero rank k memory low high there later most =
    absurd (omega (arith, low, high))
least_at job y n q m (suc more) rank k memory low high there later most =
    let at = rank_parts y n k there in
    let less = at.0 in
    let last = at.1 in
    let here = rank_there y n rank (omega (arith, low, less)) (omega (arith, low, last)) in
    let both : m ≤ min (reach_from_phase q (memo_of memory (processor_at y n rank)))
    (least_reach more job y n q (suc rank) memory) = rw here at most in
    elim (cases_eq rank k) [
      | inl same ↦ subst (λ (j : ℕ). ReachesAt y n q j memory m) same
          (from_at q m (memo_of memory (processor_at y n rank)) later (omega (arith, both)))
      | inr other ↦ least_at job y n q m more (suc rank) k memory (omega (arith, low, other))
          (omega (arith, high)) there later (omega (arith, both))
    ]

pub reach_at : (job : JobData) (y : LayoutData) (n q k : ℕ) (memory : List Memo) →
    IsTrue (has_rank y n k) → q < block_reach job y n q memory →
    ReachesAt y n q k memory (block_reach job y n q memory)
reach_at job y n q k memory there later =
    least_at job y n q (block_reach job y n q memory) (grain y) 0 k memory (omega arith)
    (let below = (rank_parts y n k there).0 in omega (arith, below)) there later
    (most (least_reach (grain y) job y n q 0 memory) later)
  where
    most : (l : ℕ) → q < max q l → max q l ≤ l
    most l less = omega (arith, less)

-- ---- the same, as it is worked out

-- in a block of so many processors
module _ (job : JobData) (y : LayoutData) (n q len : ℕ) (memory : List Memo)
    (ranks : (rank : ℕ) → has_rank y n rank ≡ nat_lt rank len) where
  from_next : (more rank : ℕ) → len ≤ rank + more →
      least_reach more job y n q rank memory
      ≡ least_of (3 * job.steps) q (len - rank) (processor_at y n rank) memory
  from_next zero rank upto = let none : len - rank ≡ 0 = omega (arith, upto) in rw none refl
  from_next (suc more) rank upto = elim (cases_lt rank len) [
    | inl less ↦ (let left : len - rank ≡ suc (len - suc rank) = omega (arith, less) in
        let next : suc (processor_at y n rank) ≡ processor_at y n (suc rank) = omega arith in
        let rest = from_next more (suc rank) (omega (arith, upto)) in
        rw (ranks rank, lt-ltb rank len less, left, next, rest) refl)
    | inr past ↦ (let none : len - rank ≡ 0 = omega (arith, past) in
        rw (ranks rank, le-ltb rank len past, none) refl)
  ]

  -- the least of its processors' is the block's
  pub block_found : (first end : ℕ) (memos : List Memo) → len ≤ grain y →
      first ≡ processor_at y n 0 → end ≡ first + len → memos ≡ memory →
      least_of (3 * job.steps) q (end - first) first memos
      ≡ least_reach (grain y) job y n q 0 memory
  block_found first end memos most from to same =
      let count : end - first ≡ len - 0 = omega (arith, to) in
      rw (count, from, same) (sym (from_next (grain y) 0 (omega (arith, most))))

-- one processor more
pub least_next : (most q end i : ℕ) (memory : List Memo) → i < end →
    least_of most q (end - i) i memory
    ≡ min (reach_from_phase q (memo_of memory i)) (least_of most q (end - (i + 1)) (i + 1) memory)
least_next most q end i memory less =
    let left : end - i ≡ suc (end - (i + 1)) = omega (arith, less) in
    let next : suc i ≡ i + 1 = omega arith in rw (left, next) refl

-- it is no more than this
pub least_most : (most q more i : ℕ) (memory : List Memo) → least_of most q more i memory ≤ most
least_most most q zero i memory = omega arith
least_most most q (suc more) i memory =
    omega (arith, least_most most q more (suc i) memory)
