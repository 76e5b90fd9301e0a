-- The least writer is found in any order, and so the next state under any rule.
use Rattle.std.proofs.Common.{◌≡◌, ℕ, zero, suc, ◌<◌, ◌≤◌, ◌⊎◌, Bool, true, false}
use Rattle.std.proofs.Common.{cond, List, [], ◌∷◌, Option, Some, None, map, length}
use Rattle.std.proofs.Common.{refl, sym, ap, subst, ◌∙◌, inl, inr, ⊎_elim, arith}
use Rattle.std.specs.Prelude.{slice_index, slice_index_or, nat_le}
use Rattle.std.specs.List.{range_with_len, Contains}
use Rattle.std.specs.Option.{option_map, unwrap_or}
use Rattle.std.proofs.lemmas.Bool.{leb-true, leb-false}
use Rattle.std.proofs.lemmas.Option.{none-some, same_Some}
use Rattle.pram_job.specs.Job.{JobData}
use Rattle.pram_machine.specs.declared.requests.Request.{Request}
use Rattle.pram_machine.specs.Machine.{State}
use Rattle.pram_machine.specs.Instructions.{requests_in}
use Rattle.pram_step.specs.Steps.{Writes, first_written, after_requests, next_state}
use Rattle.pram_step.specs.Orders.{HasAll, written_by, lesser_writer, least_found}
use Rattle.pram_step.specs.Orders.{after_least_found}
use Rattle.pram_step.proofs.LawWriters.{written_once, option_cases, HasFirst, HasNone, writer_cases}
use Rattle.pram_step.proofs.LawPlaces.{writer_is}
use Rattle.pram_step.proofs.LawOrders.{writes_from_by, by_from_writes, not_by}

-- ---- the lesser of two writers

lesser_none : (a b : Option (ℕ × ℕ)) → lesser_writer a b ≡ None → (a ≡ None) × (b ≡ None)
lesser_none None b e = (refl, e)
lesser_none (Some a) None e = absurd (none-some a (sym e))
lesser_none (Some a) (Some b) e = absurd (chosen_some (nat_le a.0 b.0) a b e)
  where
    chosen_some : (c : Bool) (x y : ℕ × ℕ) → cond c (Some x) (Some y) ≡ None → ⊥
    chosen_some true x y e = none-some x (sym e)
    chosen_some false x y e = none-some y (sym e)

-- w is one of the two, and no other has a lesser number
record IsLesser (a b : Option (ℕ × ℕ)) (w : ℕ × ℕ) : Type 0 where
  pub one : (a ≡ Some w) ⊎ (b ≡ Some w)
  pub left : (x : ℕ × ℕ) → a ≡ Some x → w.0 ≤ x.0
  pub right : (x : ℕ × ℕ) → b ≡ Some x → w.0 ≤ x.0

number_is : (a w : ℕ × ℕ) → Some a ≡ Some w → a.0 ≡ w.0
number_is a w e = ap (λ (x : ℕ × ℕ). x.0) (same_Some a w e)

lesser_of_two : (c : Bool) (a b w : ℕ × ℕ) → c ≡ nat_le a.0 b.0 →
    cond c (Some a) (Some b) ≡ Some w → IsLesser (Some a) (Some b) w
lesser_of_two true a b w is e =
    let le : a.0 ≤ b.0 = leb-true a.0 b.0 (sym is) in
    let me : a.0 ≡ w.0 = number_is a w e in
    record {
      one = inl e;
      left = λ x f. let there : a.0 ≡ x.0 = number_is a x f in omega arith;
      right = λ x f. let there : b.0 ≡ x.0 = number_is b x f in omega arith;
    }
lesser_of_two false a b w is e =
    let lt : b.0 < a.0 = leb-false a.0 b.0 (sym is) in
    let me : b.0 ≡ w.0 = number_is b w e in
    record {
      one = inr e;
      left = λ x f. let there : a.0 ≡ x.0 = number_is a x f in omega arith;
      right = λ x f. let there : b.0 ≡ x.0 = number_is b x f in omega arith;
    }

lesser_some : (a b : Option (ℕ × ℕ)) (w : ℕ × ℕ) → lesser_writer a b ≡ Some w → IsLesser a b w
lesser_some None b w e = record {
  one = inr e;
  left = λ x f. absurd (none-some x f);
  right = λ x f. let there : w.0 ≡ x.0 = number_is w x (sym e ∙ f) in omega arith;
}
lesser_some (Some a) None w e = record {
  one = inl e;
  left = λ x f. let there : w.0 ≡ x.0 = number_is w x (sym e ∙ f) in omega arith;
  right = λ x f. absurd (none-some x f);
}
lesser_some (Some a) (Some b) w e = lesser_of_two (nat_le a.0 b.0) a b w refl e

-- ---- the least that is found

map_some : (i : ℕ) (o : Option ℕ) (w : ℕ × ℕ) →
    option_map {U = ℕ × ℕ} (λ v. (i, v)) o ≡ Some w → (i ≡ w.0) × (o ≡ Some w.1)
map_some i None w e = absurd (none-some w e)
map_some i (Some v) w e =
    let is : ◌≡◌ {A = ℕ × ℕ} (i, v) w = same_Some _ _ e in
    (ap (λ (x : ℕ × ℕ). x.0) is, ap (λ (x : ℕ × ℕ). Some x.1) is)

map_none : (i : ℕ) (o : Option ℕ) → option_map {U = ℕ × ℕ} (λ v. (i, v)) o ≡ None → o ≡ None
map_none i None e = refl
map_none i (Some v) e = absurd (none-some _ (sym e))

map_of : (i v : ℕ) (o : Option ℕ) → o ≡ Some v →
    option_map {U = ℕ × ℕ} (λ u. (i, u)) o ≡ Some (i, v)
map_of i v o e = ap (option_map {U = ℕ × ℕ} (λ u. (i, u))) e

least_writes : (job : JobData) (requests : List Request) (p : ℕ) (order : List ℕ) (w : ℕ × ℕ) →
    least_found job requests p order ≡ Some w → written_by job requests p w.0 ≡ Some w.1
least_writes job requests p [] w e = absurd (none-some w e)
least_writes job requests p (i ∷ order) w e = ⊎_elim (λ here.
    let is : (i ≡ w.0) × (written_by job requests p i ≡ Some w.1) =
    map_some i (written_by job requests p i) w here in
    subst (λ (j : ℕ). written_by job requests p j ≡ Some w.1) is.0 is.1)
    (λ later. least_writes job requests p order w later)
    (lesser_some _ _ w e).one

least_none_at : (job : JobData) (requests : List Request) (p i k : ℕ) (order : List ℕ) →
    least_found job requests p order ≡ None → k < length order → slice_index_or order k i ≡ i →
    written_by job requests p i ≡ None
least_none_at job requests p i k [] e lt is = absurd (omega arith)
least_none_at job requests p i zero (x ∷ order) e lt is =
    subst (λ (j : ℕ). written_by job requests p j ≡ None) is
    (map_none x (written_by job requests p x) (lesser_none _ _ e).0)
least_none_at job requests p i (suc k) (x ∷ order) e lt is =
    least_none_at job requests p i k order (lesser_none _ _ e).1 (omega arith) is

-- no writer that stands in the order is less
least_at : (job : JobData) (requests : List Request) (p i v k : ℕ) (order : List ℕ) (w : ℕ × ℕ) →
    least_found job requests p order ≡ Some w → k < length order → slice_index_or order k i ≡ i →
    written_by job requests p i ≡ Some v → w.0 ≤ i
least_at job requests p i v k [] w e lt is writes = absurd (omega arith)
least_at job requests p i v zero (x ∷ order) w e lt is writes =
    let here : written_by job requests p x ≡ Some v =
    subst (λ (j : ℕ). written_by job requests p j ≡ Some v) (sym is) writes in
    let le : w.0 ≤ x =
    (lesser_some _ _ w e).left (x, v) (map_of x v (written_by job requests p x) here) in
    omega (arith, le, is)
least_at job requests p i v (suc k) (x ∷ order) w e lt is writes =
    option_cases (least_found job requests p order)
    (λ none. absurd (none-some v
    (sym (least_none_at job requests p i k order none (omega arith) is) ∙ writes)))
    (λ u some.
    let below : w.0 ≤ u.0 = (lesser_some (option_map {U = ℕ × ℕ} (λ v. (x, v))
    (written_by job requests p x)) (least_found job requests p order) w e).right u some in
    let le : u.0 ≤ i = least_at job requests p i v k order u some (omega arith) is writes in
    omega arith)

-- ---- the next state

least_found_none : (job : JobData) (requests : List Request) (p : ℕ) (order : List ℕ) →
    HasNone job requests p → least_found job requests p order ≡ None
least_found_none job requests p order n =
    option_cases (least_found job requests p order) (λ e. e)
    (λ w e. absurd (n.none w.0 w.1
    (writes_from_by job requests p w.0 w.1 (least_writes job requests p order w e))))

least_found_some : (job : JobData) (s : State) (p : ℕ) (order : List ℕ) →
    HasAll job order → (f : HasFirst job (requests_in job s) p) →
    option_map (λ w. w.1) (least_found job (requests_in job s) p order) ≡ Some f.value
least_found_some job s p order all f =
    let below : f.writer < job.procs = (writer_is job s p f.writer f.value f.first.writes).0 in
    let there : Contains order f.writer = all f.writer below in
    option_cases (least_found job (requests_in job s) p order)
    (λ e. absurd (not_by job (requests_in job s) p f.writer f.value f.first.writes
    (least_none_at job (requests_in job s) p f.writer there.0 order e there.1 there.2)))
    (λ w e.
    let is : Writes job (requests_in job s) p w.0 w.1 = writes_from_by job
    (requests_in job s) p w.0 w.1 (least_writes job (requests_in job s) p order w e) in
    let le : w.0 ≤ f.writer = least_at job (requests_in job s) p f.writer f.value there.0 order w
    e there.1 there.2 (by_from_writes job (requests_in job s) p f.writer f.value f.first.writes) in
    let ge : f.writer ≤ w.0 = f.first.least w.0 w.1 is in
    let same : w.0 ≡ f.writer = omega arith in
    let value : w.1 ≡ f.value = written_once job (requests_in job s) p f.writer w.1 f.value
    (subst (λ (j : ℕ). Writes job (requests_in job s) p j w.1) same is) f.first.writes in
    ap (option_map (λ (x : ℕ × ℕ). x.1)) e ∙ ap Some value)

least_found_is : (job : JobData) (s : State) (p : ℕ) (order : List ℕ) → HasAll job order →
    option_map (λ w. w.1) (least_found job (requests_in job s) p order)
    ≡ first_written job p 0 (requests_in job s)
least_found_is job s p order all = ⊎_elim
    (λ (n : HasNone job (requests_in job s) p). ap (option_map (λ (x : ℕ × ℕ). x.1))
    (least_found_none job (requests_in job s) p order n) ∙ sym n.found)
    (λ (f : HasFirst job (requests_in job s) p). least_found_some job s p order all f ∙ sym f.found)
    (writer_cases job (requests_in job s) p)

pub least_is_found : (job : JobData) (s : State) (order : List ℕ) → HasAll job order →
    after_least_found job (requests_in job s) order s ≡ next_state job s
unfolding after_least_found after_requests
least_is_found job s order all =
    ap (λ (f : ℕ → Option ℕ).
    map (λ p. unwrap_or (f p) (slice_index s p)) (range_with_len 0 (length s)))
    (λ k p. least_found_is job s p order all k)
