-- A worker's way over the tree.
use Rattle.std.proofs.Common.{◌≡◌, ℕ, Bool, true, false, ◌==◌, ◌+◌, ◌-◌, ◌*◌, ◌/◌, ◌%◌, ◌^◌, bit_and}
use Rattle.std.proofs.Common.{◌<◌, ◌≤◌, inl, inr, refl, sym, ap, ◌∙◌, arith, zero, suc}
use Rattle.std.proofs.lemmas.Bool.{eqb-true, eq-eqb}
use Rattle.std.proofs.Math.Nat.{pow-le-pow_right, div-eq_of_lt, div-div-eq-div-mul}
use Rattle.std.proofs.lemmas.Nat.{and_mask, mod_below, pow_pos}
use Rattle.std.specs.Int.{from_bool}
use Rattle.pram_words.specs.declared.layout.Form.TheVariants.{Compact}
use Rattle.pram_words.specs.Tree.{depth_of, first_leaf_of, turns_right}
use Rattle.pram_words.specs.Forms.{by_form}
use Rattle.pram_words.specs.Words.{LayoutData, IsLayout}
use Rattle.pram_words.specs.Ways.{turns_right_wide, IsTurnWide}
use Rattle.pram_words.specs.Ways.{turns_right_in, way_of, first_leaf_in}
use Rattle.pram_words.proofs.Halvings.{double, exponents, depth_unique}
use Rattle.pram_words.proofs.Blocks.{leaves_power}
use Rattle.pram_words.proofs.Numbering.{cases_form, form_compact, form_wide}

-- so many of the lowest bits of a number
pub low_bits : (w d : ℕ) → 2 * 2 ^ d < 4294967296 →
    bit_and w (2 * 2 ^ d % 4294967296 - 1) ≡ w % 2 ^ (d + 1)
low_bits w d fits =
    let same : 2 * 2 ^ d % 4294967296 ≡ 2 ^ (d + 1) = omega (arith, double d) in
    ap (λ m. bit_and w (m - 1)) same ∙ and_mask w (d + 1)

pub turn_wide : (worker n : ℕ) → n < 2 ^ 32 → IsTurnWide worker n (turns_right_wide worker n)
turn_wide worker n fits = λ d low high.
    let depth : d ≡ depth_of n = depth_unique n d fits low (omega (arith, double d)) in
    rw depth (λ t. eqb-true _ 1 t, λ e. eq-eqb _ 1 e)

-- the node at depth d of a worker's way
one_most : (b : Bool) → from_bool b ≤ 1
one_most true = omega arith
one_most false = omega arith

pub way_depth : (y : LayoutData) (worker d : ℕ) →
    (2 ^ d ≤ way_of y worker d) × (way_of y worker d < 2 * 2 ^ d)
unfolding way_of
way_depth y worker zero = (omega arith, omega arith)
way_depth y worker (suc d) =
    let before = way_depth y worker d in
    let e : 2 ^ suc d ≡ 2 * 2 ^ d = omega (arith, double d) in
    let most = one_most (turns_right_in y worker (way_of y worker d)) in
    (omega arith, omega arith)

-- a tree's leaves lie where its height says
pub leaves_height : (y : LayoutData) → IsLayout y → y.leaves ≡ 2 ^ depth_of y.leaves
leaves_height y limits =
    let power = leaves_power y limits in
    let h : ℕ = power.0 in
    let e : y.leaves ≡ 2 ^ h = power.1 in
    let height : h ≡ depth_of y.leaves = depth_unique y.leaves h
    (omega (arith, limits.leaves)) (omega arith) (let pos = pow_pos h in omega arith) in
    e ∙ ap (λ x. 2 ^ x) height

-- a worker begins at a leaf
pub way_leaf : (y : LayoutData) (worker : ℕ) → IsLayout y →
    (y.leaves ≤ way_of y worker (depth_of y.leaves))
    × (way_of y worker (depth_of y.leaves) < 2 * y.leaves)
way_leaf y worker limits =
    let way = way_depth y worker (depth_of y.leaves) in
    let height = leaves_height y limits in
    (omega arith, omega arith)

pub first_leaf : (y : LayoutData) (worker : ℕ) → IsLayout y →
    (y.leaves ≤ first_leaf_in y worker) × (first_leaf_in y worker < 2 * y.leaves)
unfolding first_leaf_in
first_leaf y worker limits = elim (cases_form y.form) [
  | inl e ↦
      rw e (let below = mod_below worker y.leaves limits.leaves.0 in (omega arith, omega arith))
  | inr e ↦
      rw (form_wide y.form e.0 (first_leaf_of y.leaves worker)
      (way_of y worker (depth_of y.leaves)) e.1)
      (way_leaf y worker limits)
]

-- in the compact form too, a worker begins where its turns lead
is_bit : (b : ℕ) → b < 2 → from_bool (b == 1) ≡ b
is_bit zero h = refl
is_bit (suc zero) h = refl
is_bit (suc (suc n)) h = absurd (omega arith)

compact_way : (y : LayoutData) (worker h e d : ℕ) → y.form ≡ Compact → y.leaves ≡ 2 ^ h →
    y.leaves ≤ 65536 → e + d ≡ h → way_of y worker d ≡ 2 ^ d + worker % y.leaves / 2 ^ e
unfolding way_of turns_right_in
compact_way y worker h e zero form power most sum =
    let same : e ≡ h = omega arith in
    let below = mod_below worker y.leaves (omega (arith, power, pow_pos h)) in
    let none : worker % y.leaves / 2 ^ e ≡ 0 =
    div-eq_of_lt {n = worker % y.leaves} {m = 2 ^ e} (omega (arith, ap (λ x. 2 ^ x) same)) in
    omega arith
compact_way y worker h e (suc d) form power most sum =
    let before : way_of y worker d ≡ 2 ^ d + worker % y.leaves / 2 ^ suc e =
    compact_way y worker h (suc e) d form power most (omega arith) in
    let bounds = way_depth y worker d in
    let up = pow-le-pow_right {n = 2} (omega arith) {i = d} {j = h} (omega arith) in
    let depth : d ≡ depth_of (way_of y worker d) =
    depth_unique (way_of y worker d) d (omega arith) (bounds.0) (bounds.1) in
    let height : h ≡ depth_of y.leaves =
    depth_unique y.leaves h (omega arith) (omega arith) (omega (arith, pow_pos h)) in
    let bit : depth_of y.leaves - 1 - depth_of (way_of y worker d) ≡ e = omega arith in
    let next : 2 ^ suc e ≡ 2 ^ e * 2 = omega (arith, double e) in
    let half : worker % y.leaves / 2 ^ suc e ≡ worker % y.leaves / 2 ^ e / 2 =
    ap (λ m. worker % y.leaves / m) next ∙ sym (div-div-eq-div-mul (worker % y.leaves) (2 ^ e) 2) in
    let turn : from_bool (by_form y.form (turns_right y.leaves worker (way_of y worker d))
    (turns_right_wide worker (way_of y worker d))) ≡ worker % y.leaves / 2 ^ e % 2 = rw (
      form_compact y.form (turns_right y.leaves worker (way_of y worker d))
          (turns_right_wide worker (way_of y worker d)) form,
      bit,
    ) (is_bit _ (omega arith)) in
    omega (arith, turn, half, before, double d)

pub begins_at_leaf : (y : LayoutData) (worker : ℕ) → IsLayout y →
    (y.leaves ≤ first_leaf_in y worker) × (first_leaf_in y worker < 2 * y.leaves)
    × (first_leaf_in y worker ≡ way_of y worker (depth_of y.leaves))
unfolding first_leaf_in
begins_at_leaf y worker limits =
    let leaf = first_leaf y worker limits in (
      leaf.0,
      leaf.1,
      elim (cases_form y.form) [
        | inl e ↦ rw (form_compact y.form
            (first_leaf_of y.leaves worker) (way_of y worker (depth_of y.leaves)) e)
            (omega (
              arith,
              leaves_height y limits,
              compact_way y worker (depth_of y.leaves) 0
                  (depth_of y.leaves) e (leaves_height y limits) limits.leaves.1 (omega arith),
            ))
        | inr e ↦ form_wide y.form e.0 (first_leaf_of y.leaves worker)
            (way_of y worker (depth_of y.leaves)) e.1
      ],
    )

-- a node of a worker's way that is no further than a leaf
pub record OnWay (y : LayoutData) (worker node : ℕ) : Type 0 where
  pub depth : ℕ
  pub most : depth ≤ depth_of y.leaves
  pub is : node ≡ way_of y worker depth

pub root_on_way : (y : LayoutData) (worker : ℕ) → OnWay y worker 1
unfolding way_of
root_on_way y worker = record { depth = 0; most = omega arith; is = refl }

pub next_on_way : (y : LayoutData) (worker node bit : ℕ) → IsLayout y →
    OnWay y worker node → node < y.leaves → bit ≡ from_bool (turns_right_in y worker node) →
    OnWay y worker (2 * node + bit)
unfolding way_of
next_on_way y worker node bit limits on inner e =
    let low = (way_depth y worker on.depth).0 in
    let same = on.is in
    record {
      depth = suc on.depth;
      most = exponents on.depth (depth_of y.leaves) (omega (arith, leaves_height y limits));
      is = rw (e, on.is) refl;
    }

pub end_on_way : (y : LayoutData) (worker node : ℕ) → IsLayout y → OnWay y worker node →
    y.leaves ≤ node → node ≡ way_of y worker (depth_of y.leaves)
end_on_way y worker node limits on leaf =
    let high = (way_depth y worker on.depth).1 in
    let same = on.is in
    let above : depth_of y.leaves < suc on.depth = exponents (depth_of y.leaves) (suc on.depth)
    (omega (arith, leaves_height y limits, double on.depth)) in
    let most = on.most in
    let e : on.depth ≡ depth_of y.leaves = omega arith in
    on.is ∙ ap (way_of y worker) e
