-- Values at hand, one more and one less.
use Rattle.std.proofs.Common.{Result, Ok, Err, OnOk, subst}
use Rattle.pram_job.specs.declared.instr.Array.{Array}
use Rattle.pram_job.specs.declared.instr.Instr.TheVariants.{Ld}
use Rattle.pram_job.specs.declared.instr.Place.TheVariants.{Named}
use Rattle.pardo_program.specs.declared.expression.Node.TheVariants.{Place, Apply}
use Rattle.pardo_program.specs.Expression.{with_node}
use Rattle.pardo_flat.specs.Layouts.{ProgramLayoutData, array_cells}
use Rattle.pardo_flat.specs.Flat.{gives_truth}
use Rattle.pardo_job.specs.declared.fault.JobKind.{JobKind}
use Rattle.pardo_job.specs.Inner.Emitting.{PutsCode, IsCodeFault}
use Rattle.pardo_job.proofs.Emitting.{puts_none}
use Rattle.pardo_job.specs.declared.fault.JobKind.TheVariants.{Memory}
use Rattle.pardo_job.specs.Inner.Nodes.{TakesOne, IsReady, node_code}
use Rattle.std.proofs.Common.{◌≡◌, ℕ, ◌+◌, ◌<◌, ◌≤◌, true, ◌&&◌, List, [], ◌∷◌, ◌++◌, length, drop}
use Rattle.std.proofs.Common.{refl, ap, sym, ◌∙◌, append_assoc, arith}
use Rattle.std.proofs.Common.{if◌then◌else◌, Bool, false}
use Rattle.std.proofs.lemmas.List.{length-append}
use Rattle.std.proofs.lemmas.List.Sums.{sum_by-cons}
use Rattle.pram_job.specs.declared.instr.Instr.{Instr}
use Rattle.pram_job.specs.declared.instr.Instr.TheVariants as instr
use Rattle.pram_job.specs.declared.instr.Operand.{Operand}
use Rattle.pram_job.specs.declared.instr.Operand.TheVariants.{Register, Number}
use Rattle.pardo_program.specs.declared.operation.Op.{Op}
use Rattle.pardo_program.specs.declared.operation.Op.TheVariants as op
use Rattle.pardo_program.specs.Expression.{Tree, number, own, loop, private, place, apply}
use Rattle.pardo_job.specs.declared.held.Held.{Held}
use Rattle.pardo_job.specs.declared.held.Stack.{Stack}
use Rattle.pardo_job.specs.Operations.{taken_by, chosen_of, is_shallow, native}
use Rattle.pardo_job.specs.Operations.{in_order, negation, conjunction, choice, operation_code}
use Rattle.pardo_job.specs.Operations.{register_code, register_or_spare, instruction_of, zero_test}
use Rattle.pardo_job.specs.Operations.{tested_in, copy_code, first_chosen, second_chosen, is_max}
use Rattle.pardo_job.specs.Operations.{is_turned, within_code, index_code, test_register}
use Rattle.pardo_job.specs.Values.{value_operand, takes}
use Rattle.pardo_job.specs.Inner.Nodes.{free_after, held_of, all_held, HoldsValues}
use Rattle.pardo_job.proofs.Loads.{taken_at}
use Rattle.pardo_job.proofs.Shallow.{shallow_target, shallow_rest, shallow_front, shallow_back}
use Rattle.pardo_job.proofs.Shallow.{instruction_target}

abbrev held_at : ℕ → Held
held_at k = record { operand = Register k; is_truth = false }

last_same : {A : Type 0} (xs ys : List A) (x y : A) → xs ++ x ∷ [] ≡ ys ++ y ∷ [] →
    (xs ≡ ys) × (x ≡ y)
last_same [] [] x y e = (refl, cc)
last_same [] (b ∷ ys) x y e = absurd (omega (arith, ap length e, length-append ys (y ∷ [])))
last_same (a ∷ xs) [] x y e = absurd (omega (arith, ap length e, length-append xs (x ∷ [])))
last_same {A} (a ∷ xs) (b ∷ ys) x y e =
    let rest = last_same xs ys x y (ap (λ (l : List A). drop 1 l) e) in
    let same : xs ≡ ys = rest.0 in
    (cc, rest.1)

pub taken_of : (at : ℕ) (tree : Tree) → at + takes tree ≤ 3 → taken_by (value_operand at tree) ≡
    takes tree
taken_of at (number k) few = refl
taken_of at own few = refl
taken_of at (loop nest) few = taken_at at (omega arith)
taken_of at (private x) few = taken_at at (omega arith)
taken_of at (place array index) few = taken_at at (omega arith)
taken_of at (apply one first second) few = taken_at at (omega arith)

pub held_more : (s t : Stack) (before : List Held) (base : ℕ) (tree : Tree) (trees : List Tree) →
    HoldsValues s before base trees →
    t.values.items ≡ s.values.items ++ held_of (free_after base trees) tree ∷ [] →
    t.taken ≡ s.taken + takes tree → HoldsValues t before base (tree ∷ trees)
held_more s t before base tree trees h e f = record {
  values = e ∙ ap (λ l. l ++ held_of (free_after base trees) tree ∷ []) h.values
      ∙ append_assoc before (all_held base trees) (held_of (free_after base trees) tree ∷ []);
  taken = omega (arith, f, h.taken, sum_by-cons takes tree trees);
}

pub record Less (t : Stack) (x : Held) (before : List Held) (base : ℕ) (tree : Tree)
    (trees : List Tree) : Type 0 where
  pub holds : HoldsValues t before base trees
  pub is : x ≡ held_of (free_after base trees) tree

pub held_less : (s t : Stack) (x : Held) (before : List Held) (base : ℕ) (tree : Tree)
    (trees : List Tree) →
    s.taken ≤ 3 → HoldsValues s before base (tree ∷ trees) →
    s.values.items ≡ t.values.items ++ x ∷ [] →
    s.taken ≡ t.taken + taken_by x.operand → Less t x before base tree trees
held_less s t x before base tree trees few h e f =
    let at : ℕ = free_after base trees in
    let both = last_same t.values.items (before ++ all_held base trees) x (held_of at tree)
    (sym e ∙ h.values ∙ sym (append_assoc before (all_held base trees) (held_of at tree ∷ []))) in
    let sum : s.taken ≡ at + takes tree = omega (arith, h.taken, sum_by-cons takes tree trees) in
    let took : taken_by x.operand ≡ takes tree = ap (λ (y : Held). taken_by y.operand) both.1 ∙
    taken_of at tree (omega (arith, sum, few)) in record {
      holds = record { values = both.0; taken = omega (arith, f, took, sum) };
      is = both.1;
    }

-- ---- the register of an operation is one for values

room_in_order : (at : ℕ) (one : Op) (a b : Operand) → is_shallow (in_order at one a b) ≡ true →
    at < 3
room_in_order at one a b s =
    let r : ℕ = register_or_spare (at + taken_by b) a in
    let last = shallow_target (instruction_of one at r b) []
    (shallow_back (register_code (at + taken_by b) a) _ s) in
    omega (arith, last, instruction_target one at r b)

room_turned : (at : ℕ) (one : Op) (a b : Operand) (t : Bool) →
    is_shallow (if t then in_order at one b a else in_order at one a b) ≡ true → at < 3
room_turned at one a b true e = room_in_order at one b a e
room_turned at one a b false e = room_in_order at one a b e

room_native : (at : ℕ) (one : Op) (a b : Operand) → is_shallow (native at one a b) ≡ true → at < 3
unfolding native
room_native at one a b s = room_turned at one a b (is_turned one a) s

room_negation : (at : ℕ) (front : List Instr) → is_shallow (front ++ negation at) ≡ true → at < 3
room_negation at front s = shallow_target (instr.Eq at at (Number 0)) []
    (shallow_back front (negation at) s)

-- ---- nodes

pub on_two : {A : Type 0} (r : Result A JobKind) (P Q R : Type 0) → OnOk r P → OnOk r Q →
    (P → Q → R) → OnOk r R
on_two (Ok x) P Q R p q f = f p q
on_two (Err k) P Q R p q f = tt

-- a load
pub loaded : {A : Type 0} (s t : Stack) (old new : List Instr) (r : Result A JobKind)
    (row cells : Array) (index there : Operand) (tree : Tree) (before : List Held) (base : ℕ)
    (trees : List Tree) →
    held_of (free_after base trees) tree ≡
    record { operand = Register (free_after base trees); is_truth = false } →
    takes tree ≡ 1 → row ≡ cells → index ≡ there → HoldsValues s before base trees →
    PutsCode old new r (Ld s.taken (Named row index) ∷ []) →
    OnOk r (t.values.items ≡ s.values.items ++
    record { operand = Register s.taken; is_truth = false } ∷ []) →
    OnOk r (t.taken ≡ s.taken + 1) →
    TakesOne old new t r (Ld (free_after base trees) (Named cells there) ∷ []) before base
    (tree ∷ trees)
loaded s t old new r row cells index there tree before base trees is one e f h put values taken =
    let at : ℕ = free_after base trees in
    let same : Ld s.taken (Named row index) ≡ Ld at (Named cells there) =
    ap (λ n. Ld n (Named row index)) h.taken ∙ ap (λ (a : Array). Ld at (Named a index)) e ∙
    ap (λ (o : Operand). Ld at (Named cells o)) f in record {
      put = subst (λ (i : Instr). PutsCode old new r (i ∷ [])) same put;
      held = on_two r _ _ _ values taken (λ v n.
          held_more s t before base tree trees h
          (v ∙ ap (λ (k : ℕ). s.values.items ++ held_at k ∷ []) h.taken ∙
          ap (λ (x : Held). s.values.items ++ x ∷ []) (sym is))
          (omega (arith, n, one)));
    }

pub place_taken : {A : Type 0} (s p t : Stack) (old new : List Instr) (r : Result A JobKind)
    (layout : ProgramLayoutData) (array : ℕ) (row : Array) (x : Held) (before : List Held)
    (base : ℕ)
    (trees : List Tree) →
    s.taken ≤ 3 → row ≡ array_cells layout array → s.values.items ≡ p.values.items ++ x ∷ [] →
    s.taken ≡ p.taken + taken_by x.operand →
    PutsCode old new r (Ld p.taken (Named row x.operand) ∷ []) →
    OnOk r (t.values.items ≡ p.values.items ++
    record { operand = Register p.taken; is_truth = false } ∷ []) →
    OnOk r (t.taken ≡ p.taken + 1) → HoldsValues s before base trees →
    IsReady layout trees (Place array) →
    TakesOne old new t r (node_code layout base trees (Place array)) before base
    (with_node trees (Place array))
place_taken s p t old new r layout array row x before base [] few e v n put values taken h ready =
    absurd ready
place_taken s p t old new r layout array row x before base (tree ∷ trees) few e v n put values taken
    h ready =
    let less = held_less s p x before base tree trees few h v n in
    loaded p t old new r row (array_cells layout array) x.operand
    (value_operand (free_after base trees) tree) (place array tree) before base trees
    refl refl e (ap (λ (y : Held). y.operand) less.is) less.holds put values taken

room_choice : (at : ℕ) (one : Op) (a b : Operand) →
    is_shallow (copy_code at a ++ chosen_of at one b) ≡ true → at < 3
room_choice at one a b s =
    let test : ℕ = at + 1 + taken_by b in
    let last : List Instr = instr.Mul at at (Register test) ∷ instr.Add at at b ∷ [] in
    let turned : List Instr = if is_max one then negation test else [] in
    shallow_target (instr.Sub at at b) last (shallow_back turned (instr.Sub at at b ∷ last)
    (shallow_rest (instr.Lt test at b) (turned ++ (instr.Sub at at b ∷ last))
    (shallow_back (copy_code at a) (chosen_of at one b) s)))

room_operation : (at : ℕ) (one : Op) (truths : Bool) (a b : Operand) →
    is_shallow (operation_code at one truths a b) ≡ true → at < 3
unfolding operation_code conjunction choice within_code
room_operation at op.Ne truths a b s = room_negation at (native at op.Eq a b) s
room_operation at op.Le truths a b s = room_negation at (native at op.Gt a b) s
room_operation at op.Ge truths a b s = room_negation at (native at op.Lt a b) s
room_operation at op.And true a b s = room_native at op.BitAnd a b s
room_operation at op.And false a b s =
    shallow_target (instr.Eq at at (Number 0)) []
    (shallow_rest (instr.Or at (tested_in (at + taken_by b) (register_or_spare (at + taken_by b) a))
    (Register (tested_in (at + 1) (register_or_spare (at + 1) b)))) (negation at)
    (shallow_back (zero_test (at + 1) b) _ (shallow_back (zero_test (at + taken_by b) a) _ s)))
room_operation at op.Or true a b s =
    room_native at op.BitOr a b (shallow_front (native at op.BitOr a b) [] s)
room_operation at op.Or false a b s =
    room_native at op.BitOr a b (shallow_front (native at op.BitOr a b) (negation at ++ negation at)
    s)
room_operation at op.Min truths a b s =
    room_choice at op.Min (first_chosen a b) (second_chosen a b) s
room_operation at op.Max truths a b s =
    room_choice at op.Max (first_chosen a b) (second_chosen a b) s
room_operation at op.Within truths a b s =
    let index : ℕ = register_or_spare (at + taken_by b) a in
    let test : ℕ = test_register at index in
    shallow_target (instr.Div at index (Register test)) []
    (shallow_rest (instr.Lt test index b) (instr.Div at index (Register test) ∷ [])
    (shallow_back (register_code (at + taken_by b) a) (index_code at index b) s))
room_operation at op.Add truths a b s = room_native at op.Add a b s
room_operation at op.Sub truths a b s = room_native at op.Sub a b s
room_operation at op.Mul truths a b s = room_native at op.Mul a b s
room_operation at op.Div truths a b s = room_native at op.Div a b s
room_operation at op.Rem truths a b s = room_native at op.Rem a b s
room_operation at op.Shl truths a b s = room_native at op.Shl a b s
room_operation at op.Shr truths a b s = room_native at op.Shr a b s
room_operation at op.BitAnd truths a b s = room_native at op.BitAnd a b s
room_operation at op.BitOr truths a b s = room_native at op.BitOr a b s
room_operation at op.BitXor truths a b s = room_native at op.BitXor a b s
room_operation at op.Eq truths a b s = room_native at op.Eq a b s
room_operation at op.Lt truths a b s = room_native at op.Lt a b s
room_operation at op.Gt truths a b s = room_native at op.Gt a b s

-- two operands less
record Two (q : Stack) (y x : Held) (before : List Held) (base : ℕ) (first second : Tree)
    (trees : List Tree) : Type 0 where
  pub holds : HoldsValues q before base trees
  pub lower : y ≡ held_of (free_after base trees) first
  pub upper : x ≡ held_of (free_after base trees + takes first) second

-- the two values that came last, popped one after the other
pub record Popped (s q : Stack) (y x : Held) : Type 0 where
  pub between : Stack
  pub few : s.taken ≤ 3
  pub few_then : between.taken ≤ 3
  pub values : s.values.items ≡ between.values.items ++ x ∷ []
  pub taken : s.taken ≡ between.taken + taken_by x.operand
  pub values_then : between.values.items ≡ q.values.items ++ y ∷ []
  pub taken_then : between.taken ≡ q.taken + taken_by y.operand

two_less : (s q : Stack) (y x : Held) (before : List Held) (base : ℕ) (first second : Tree)
    (trees : List Tree) →
    Popped s q y x → HoldsValues s before base (second ∷ first ∷ trees) →
    Two q y x before base first second trees
two_less s q y x before base first second trees p h =
    let one = held_less s p.between x before base second (first ∷ trees) p.few h p.values p.taken in
    let two = held_less p.between q y before base first trees p.few_then one.holds p.values_then
    p.taken_then in
    let up : free_after base (first ∷ trees) ≡ free_after base trees + takes first =
    omega (arith, sum_by-cons takes first trees) in record {
      holds = two.holds;
      lower = two.is;
      upper = one.is ∙ ap (λ (n : ℕ). held_of n second) up;
    }

abbrev pub joined_code : ℕ → Op → Held → Held → List Instr
joined_code at one y x = operation_code at one (y.is_truth && x.is_truth) y.operand x.operand

abbrev pub made : ℕ → Op → Held → Held → Held
made at one y x = record {
  operand = Register at;
  is_truth =
      gives_truth one (y.is_truth && x.is_truth);
}

same_code : (layout : ProgramLayoutData) (q : Stack) (y x : Held) (before : List Held) (base : ℕ)
    (one : Op) (first second : Tree) (trees : List Tree) →
    Two q y x before base first second trees →
    joined_code q.taken one y x ≡ node_code layout base (second ∷ first ∷ trees) (Apply one)
same_code layout q y x before base one first second trees two =
    let at : ℕ = free_after base trees in
    ap (λ (n : ℕ). joined_code n one y x) two.holds.taken
    ∙ ap (λ (h : Held). joined_code at one h x) two.lower
    ∙ ap (λ (h : Held). joined_code at one (held_of at first) h) two.upper

-- an operation whose code is at fault, or after which memory ran out
pub apply_fails : {A : Type 0} (s q t : Stack) (old new : List Instr) (kind : JobKind)
    (layout : ProgramLayoutData) (one : Op)
    (y x : Held) (before : List Held) (base : ℕ) (trees : List Tree) → Popped s q y x →
    IsCodeFault (joined_code q.taken one y x) kind → HoldsValues s before base trees →
    IsReady layout trees (Apply one) →
    TakesOne {A = A} old new t (Err kind) (node_code layout base trees (Apply one)) before base
    (with_node trees (Apply one))
apply_fails s q t old new kind layout one y x before base [] p f h ready = absurd ready
apply_fails s q t old new kind layout one y x before base (second ∷ []) p f h ready = absurd ready
apply_fails s q t old new kind layout one y x before base (second ∷ first ∷ trees) p f h ready =
    record {
      put = record {
        all = tt;
        shallow = tt;
        fault = subst (λ (l : List Instr). IsCodeFault l kind)
            (same_code layout q y x before base one first second trees
            (two_less s q y x before base first second trees p h)) f;
      };
      held = tt;
    }

pub apply_taken : {A B : Type 0} (s q t : Stack) (old new : List Instr) (u : B) (v : A)
    (layout : ProgramLayoutData) (one : Op)
    (y x : Held) (before : List Held) (base : ℕ) (trees : List Tree) → Popped s q y x →
    q.taken ≤ 3 →
    PutsCode old new (Ok u) (joined_code q.taken one y x) →
    t.values.items ≡ q.values.items ++
    record { operand = Register q.taken; is_truth = gives_truth one (y.is_truth && x.is_truth) } ∷
    [] →
    t.taken ≡ q.taken + taken_by (Register q.taken) →
    HoldsValues s before base trees → IsReady layout trees (Apply one) →
    TakesOne old new t (Ok v) (node_code layout base trees (Apply one)) before base
    (with_node trees (Apply one))
apply_taken s q t old new u v layout one y x before base [] p few put values taken h ready =
    absurd ready
apply_taken s q t old new u v layout one y x before base (second ∷ []) p few put values taken h
    ready = absurd ready
apply_taken s q t old new u v layout one y x before base (second ∷ first ∷ trees) p few put values
    taken h ready =
    let at : ℕ = free_after base trees in
    let two = two_less s q y x before base first second trees p h in
    let code = same_code layout q y x before base one first second trees two in
    let low : q.taken < 3 = room_operation q.taken one (y.is_truth && x.is_truth) y.operand
    x.operand put.shallow in
    let one_more : taken_by (Register q.taken) ≡ 1 = taken_at q.taken low in record {
      put = record {
        all = put.all ∙ ap (λ (l : List Instr). old ++ l) code;
        shallow = ap is_shallow (sym code) ∙ put.shallow;
        fault = tt;
      };
      held = held_more q t before base (apply one first second) trees two.holds
          (values ∙ ap (λ (n : ℕ). q.values.items ++ made n one y x ∷ []) two.holds.taken
          ∙ ap (λ (z : Held). q.values.items ++ made at one z x ∷ []) two.lower
          ∙ ap (λ (z : Held). q.values.items ++ made at one (held_of at first) z ∷ []) two.upper)
          (omega (arith, taken, one_more));
    }

-- nothing is put, and memory ran out
pub out_of_memory : {A : Type 0} (t : Stack) (old new code : List Instr) (kind : JobKind)
    (before : List Held) (base : ℕ) (trees : List Tree) →
    kind ≡ Memory → TakesOne {A = A} old new t (Err kind) code before base trees
out_of_memory t old new code kind before base trees e = record {
  put = record {
    all = tt;
    shallow = tt;
    fault =
        subst (λ (k : JobKind). IsCodeFault code k) (sym e) tt;
  };
  held = tt;
}

pub pushed : {A : Type 0} (s t : Stack) (old : List Instr) (v : A) (tree : Tree)
    (before : List Held) (base : ℕ) (trees : List Tree) →
    t.values.items ≡ s.values.items ++ held_of (free_after base trees) tree ∷ [] → t.taken ≡
    s.taken + takes tree →
    HoldsValues s before base trees → TakesOne old old t (Ok v) [] before base (tree ∷ trees)
pushed s t old v tree before base trees e f h =
    record { put = puts_none old v; held = held_more s t before base tree trees h e f }

pub apply_fails_as : (s q t : Stack) (old new : List Instr) (r : Result (Unit {0}) JobKind)
    (kind : JobKind) (layout : ProgramLayoutData) (one : Op)
    (y x : Held) (before : List Held) (base : ℕ) (trees : List Tree) → r ≡ Err kind →
    Popped s q y x →
    IsCodeFault (joined_code q.taken one y x) kind → HoldsValues s before base trees →
    IsReady layout trees (Apply one) →
    TakesOne old new t r (node_code layout base trees (Apply one)) before base
    (with_node trees (Apply one))
apply_fails_as s q t old new r kind layout one y x before base trees e p f h ready =
    subst (λ (r : Result (Unit {0}) JobKind). TakesOne old new t r
    (node_code layout base trees (Apply one)) before base (with_node trees (Apply one)))
    (sym e) (apply_fails s q t old new kind layout one y x before base trees p f h ready)
