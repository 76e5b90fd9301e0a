-- The code of an expression leaves its value in its register, and keeps what was taken; where there
-- is no value it names a place that there is not, or divides by 0.
use Rattle.std.proofs.Common.{◌≡◌, ℕ, ◌+◌, ◌^◌, ◌<◌, ◌≤◌, nat_lt, Bool, true, false, ◌&&◌}
use Rattle.std.proofs.Common.{List, [], ◌∷◌, ◌++◌, length, Option, Some, None, refl, sym, ap, ◌∙◌}
use Rattle.std.proofs.Common.{subst, inl, inr, arith, if◌then◌else◌}
use Rattle.std.specs.Option.{option_map, option_and_then}
use Rattle.std.proofs.lemmas.Bool.{lt-ltb, le-ltb}
use Rattle.pram_job.specs.declared.instr.Array.{Array}
use Rattle.pram_job.specs.declared.instr.Instr.{Instr}
use Rattle.pram_job.specs.declared.instr.Instr.TheVariants as instr
use Rattle.pram_job.specs.declared.instr.Operand.{Operand}
use Rattle.pram_job.specs.declared.instr.Operand.TheVariants.{Register}
use Rattle.pram_job.specs.declared.instr.Place.TheVariants.{Named}
use Rattle.pardo_program.specs.declared.operation.Op.{Op}
use Rattle.pardo_program.specs.Expression.{Tree, number, own, loop, private, place, apply}
use Rattle.pardo_program.specs.Operations.{operation_value, worked_out}
use Rattle.pardo_program.specs.Program.{ProgramData}
use Rattle.pardo_flat.specs.Layouts.{ProgramLayoutData, private_cells, loop_cells, array_cells}
use Rattle.pardo_job.specs.Lawful.{IsLawfulTree}
use Rattle.pardo_job.specs.Leaves.{LeavesTo, ExpressionsAreEvaluated}
use Rattle.pardo_job.specs.Meaning.{Source, value, array_cell}
use Rattle.pardo_job.specs.Operations.{operation_code, is_shallow, taken_by}
use Rattle.pardo_job.specs.Sees.{Sees}
use Rattle.pardo_job.specs.Straight.{Registers, put, operand_value, after_one, after_all, IsKept}
use Rattle.pardo_job.specs.Values.{value_code, takes, value_operand, is_truth, own_load}
use Rattle.pardo_job.proofs.Straight.{put_same, put_other, after_append, after_front}
use Rattle.pardo_job.proofs.Shallow.{shallow_front, shallow_back}
use Rattle.pardo_job.proofs.Choosing.{not_kept}
use Rattle.pardo_job.proofs.Choices.{IsAt, taken_one}
use Rattle.pardo_job.proofs.Applying.{IsTruth, Operands}
use Rattle.pardo_job.proofs.Dividing.{ComputesTo, computes_found, worked_value}
use Rattle.pardo_job.proofs.Truths.{truth_value}
use Rattle.pardo_job.proofs.Below.{operation_below, value_below}
use Rattle.pardo_job.proofs.Fits.{value_fits}

-- ---- what is shown

pub record Evaluated (memory : ℕ → ℕ) (i : ℕ) (held : Registers) (layout : ProgramLayoutData)
    (at : ℕ)
    (tree : Tree) (v : ℕ) : Type 0 where
  pub now : Registers
  pub runs : after_all memory i (value_code layout at tree) held ≡ Some now
  pub gives : operand_value now (value_operand at tree) ≡ v
  pub keeps : (which : ℕ) → IsKept at which → now which ≡ held which
  pub fits : v < 2 ^ 32
  pub truth : is_truth tree ≡ true → IsTruth v

abbrev pub EvaluatesTo : (ℕ → ℕ) → ℕ → Registers → ProgramLayoutData → ℕ → Tree → Option ℕ → Type 0
EvaluatesTo memory i held layout at tree None =
    after_all memory i (value_code layout at tree) held ≡ None
EvaluatesTo memory i held layout at tree (Some v) = Evaluated memory i held layout at tree v

no_truth : {A : Type 0} → false ≡ true → A
no_truth e = absurd (cc)

pub none_after : (memory : ℕ → ℕ) (i : ℕ) (front back : List Instr) (held : Registers) →
    after_all memory i front held ≡ None → after_all memory i (front ++ back) held ≡ None
none_after memory i front back held e =
    after_append memory i front back held ∙ ap (option_and_then (after_all memory i back)) e

-- ---- loads

pub load_within : (memory : ℕ → ℕ) (i at k : ℕ) (held : Registers) (cells : Array)
    (operand : Operand) →
    operand_value held operand ≡ k → k < cells.len →
    after_one memory i (instr.Ld at (Named cells operand)) held
    ≡ Some (put at (memory (cells.base + k)) held)
load_within memory i at k held cells operand e lt =
    ap (λ x. if nat_lt x cells.len then Some (put at (memory (cells.base + x)) held) else None) e
    ∙ ap (λ t. if t then Some (put at (memory (cells.base + k)) held) else None)
    (lt-ltb k cells.len lt)

load_outside : (memory : ℕ → ℕ) (i at k : ℕ) (held : Registers) (cells : Array)
    (operand : Operand) →
    operand_value held operand ≡ k → cells.len ≤ k →
    after_one memory i (instr.Ld at (Named cells operand)) held ≡ None
load_outside memory i at k held cells operand e le =
    ap (λ x. if nat_lt x cells.len then Some (put at (memory (cells.base + x)) held) else None) e
    ∙ ap (λ t. if t then Some (put at (memory (cells.base + k)) held) else None)
    (le-ltb k cells.len le)

kept_put : (at v : ℕ) (held : Registers) → at < 3 → (which : ℕ) → IsKept at which →
    put at v held which ≡ held which
kept_put at v held lt which kept =
    put_other at v which held (not_kept at at (omega arith) lt which kept)

-- a processor's own cell of a row
own_loaded : (memory : ℕ → ℕ) (i at v : ℕ) (held : Registers) (cells : Array) → at < 3 →
    held 3 ≡ i → i < cells.len → memory (cells.base + i) ≡ v →
    after_all memory i (own_load at cells ∷ []) held ≡ Some (put at v held)
own_loaded memory i at v held cells lt e less m =
    ap (option_and_then (after_all memory i []))
    (load_within memory i at i held cells (Register 3) e less ∙ ap (λ x. Some (put at x held)) m)

-- ---- places

place_found : (program : ProgramData) (layout : ProgramLayoutData) (source : Source)
    (memory : ℕ → ℕ)
    (i at array k : ℕ) (index : Tree) (held : Registers) → Sees program layout source memory i →
    array < length layout.arrays → at < 3 → Evaluated memory i held layout at index k →
    (cell : Option ℕ) → array_cell program array k ≡ cell →
    EvaluatesTo memory i held layout at (place array index) (option_map source.cells cell)
place_found program layout source memory i at array k index held sees is lt c None e =
    let load : Instr = instr.Ld at (Named (array_cells layout array) (value_operand at index)) in
    after_front memory i (value_code layout at index) (load ∷ []) held c.now c.runs
    ∙ ap (option_and_then (after_all memory i []))
    (load_outside memory i at k c.now (array_cells layout array) (value_operand at index) c.gives
    (sees.outside array k is e))
place_found program layout source memory i at array k index held sees is lt c (Some cell) e =
    let load : Instr = instr.Ld at (Named (array_cells layout array) (value_operand at index)) in
    let cells : Array = array_cells layout array in
    let w : (k < cells.len) × (cells.base + k ≡ cell) × (memory cell ≡ source.cells cell) =
    sees.within array k cell e in
    let v : ℕ = memory (cells.base + k) in
    record {
      now = put at v c.now;
      runs = after_front memory i (value_code layout at index) (load ∷ []) held c.now c.runs
          ∙ ap (option_and_then (after_all memory i []))
          (load_within memory i at k c.now cells (value_operand at index) c.gives w.0);
      gives = put_same at v c.now ∙ ap memory w.1 ∙ w.2;
      keeps = λ which kept. kept_put at v c.now lt which kept ∙ c.keeps which kept;
      fits = subst (λ x. x < 2 ^ 32) w.2 (sees.fits cell);
      truth = λ no. no_truth no;
    }

place_evaluates : (program : ProgramData) (layout : ProgramLayoutData) (source : Source)
    (memory : ℕ → ℕ)
    (i at array : ℕ) (index : Tree) (held : Registers) → Sees program layout source memory i →
    array < length layout.arrays → at < 3 → (k : Option ℕ) →
    EvaluatesTo memory i held layout at index k →
    EvaluatesTo memory i held layout at (place array index)
    (option_and_then (λ k. option_map source.cells (array_cell program array k)) k)
place_evaluates program layout source memory i at array index held sees is lt None e =
    none_after memory i (value_code layout at index)
    (instr.Ld at (Named (array_cells layout array) (value_operand at index)) ∷ []) held e
place_evaluates program layout source memory i at array index held sees is lt (Some k) c =
    place_found program layout source memory i at array k index held sees is lt c
    (array_cell program array k) refl

-- ---- operations

-- where an operand is
pub operand_at : (at : ℕ) (tree : Tree) → (takes tree ≡ 1 → at < 3) →
    IsAt at (value_operand at tree)
operand_at at (number k) below = tt
operand_at at own below = inr refl
operand_at at (loop nest) below = inl (refl, below refl)
operand_at at (private x) below = inl (refl, below refl)
operand_at at (place array index) below = inl (refl, below refl)
operand_at at (apply op first second) below = inl (refl, below refl)

pub operand_taken : (at : ℕ) (tree : Tree) → (takes tree ≡ 1 → at < 3) →
    taken_by (value_operand at tree) ≡ takes tree
operand_taken at (number k) below = refl
operand_taken at own below = refl
operand_taken at (loop nest) below = taken_one at (below refl)
operand_taken at (private x) below = taken_one at (below refl)
operand_taken at (place array index) below = taken_one at (below refl)
operand_taken at (apply op first second) below = taken_one at (below refl)

-- an operand stays while the next one is evaluated
operand_stays : (at : ℕ) (tree : Tree) (held now : Registers) →
    ((which : ℕ) → IsKept (at + takes tree) which → now which ≡ held which) →
    operand_value now (value_operand at tree) ≡ operand_value held (value_operand at tree)
operand_stays at (number k) held now keeps = refl
operand_stays at own held now keeps = keeps 3 (inr refl)
operand_stays at (loop nest) held now keeps = keeps at (inl (omega arith))
operand_stays at (private x) held now keeps = keeps at (inl (omega arith))
operand_stays at (place array index) held now keeps = keeps at (inl (omega arith))
operand_stays at (apply op first second) held now keeps = keeps at (inl (omega arith))

more_kept : (at more which : ℕ) → IsKept at which → IsKept (at + more) which
more_kept at more which (inl lt) = inl (omega arith)
more_kept at more which (inr last) = inr last

both_truths : (s t : Bool) → (s && t) ≡ true → (s ≡ true) × (t ≡ true)
both_truths true true e = (refl, refl)
both_truths true false e = no_truth e
both_truths false t e = no_truth e

-- what comes of two values
after_operation : (memory : ℕ → ℕ) (i at : ℕ) (op : Op) (first second : Tree)
    (layout : ProgramLayoutData) (held : Registers) (a b : ℕ)
    (c : Evaluated memory i held layout at first a)
    (d : Evaluated memory i c.now layout (at + takes first) second b) → (o : Option ℕ) →
    worked_out op a b ≡ o → ((is_truth first && is_truth second) ≡ true → IsTruth a × IsTruth b) →
    ComputesTo memory i d.now at (operation_code at op (is_truth first && is_truth second)
    (value_operand at first) (value_operand (at + takes first) second)) o →
    EvaluatesTo memory i held layout at (apply op first second) o
after_operation memory i at op first second layout held a b c d None is truths e =
    let front : List Instr = value_code layout at first in
    let middle : List Instr = value_code layout (at + takes first) second in
    let back : List Instr = operation_code at op (is_truth first && is_truth second)
    (value_operand at first) (value_operand (at + takes first) second) in
    after_front memory i front (middle ++ back) held c.now c.runs
    ∙ after_front memory i middle back c.now d.now d.runs ∙ e
after_operation memory i at op first second layout held a b c d (Some v) is truths e =
    let front : List Instr = value_code layout at first in
    let middle : List Instr = value_code layout (at + takes first) second in
    let back : List Instr = operation_code at op (is_truth first && is_truth second)
    (value_operand at first) (value_operand (at + takes first) second) in
    let value_is : operation_value op a b ≡ v = worked_value op a b v is in record {
      now = e.now;
      runs = after_front memory i front (middle ++ back) held c.now c.runs
          ∙ after_front memory i middle back c.now d.now d.runs ∙ e.runs;
      gives = e.gives;
      keeps = λ which kept. e.keeps which kept ∙
          d.keeps which (more_kept at (takes first) which kept)
          ∙ c.keeps which kept;
      fits = subst (λ x. x < 2 ^ 32) value_is (value_fits op a b c.fits d.fits);
      truth = λ yes. subst IsTruth value_is
          (truth_value op (is_truth first && is_truth second) a b yes truths);
    }

apply_evaluates : (memory : ℕ → ℕ) (i at : ℕ) (op : Op) (first second : Tree)
    (layout : ProgramLayoutData)
    (held : Registers) (a b : ℕ) → held 3 ≡ i →
    is_shallow (value_code layout at (apply op first second)) ≡ true →
    (c : Evaluated memory i held layout at first a) →
    Evaluated memory i c.now layout (at + takes first) second b →
    EvaluatesTo memory i held layout at (apply op first second) (worked_out op a b)
apply_evaluates memory i at op first second layout held a b own_i shallow c d =
    let up : ℕ = at + takes first in
    let t : Bool = is_truth first && is_truth second in
    let front : List Instr = value_code layout at first in
    let middle : List Instr = value_code layout up second in
    let x : Operand = value_operand at first in
    let y : Operand = value_operand up second in
    let back : List Instr = operation_code at op t x y in
    let rest : is_shallow (middle ++ back) ≡ true = shallow_back front (middle ++ back) shallow in
    let last : is_shallow back ≡ true = shallow_back middle back rest in
    let lt : at < 3 = operation_below op at t x y last in
    let taken : taken_by x ≡ takes first = operand_taken at first (λ one. lt) in
    let second_lt : takes second ≡ 1 → up < 3 =
    λ one. value_below layout up second one (shallow_front middle back rest) in
    let truths : t ≡ true → IsTruth a × IsTruth b =
    λ e. (
      c.truth (both_truths (is_truth first) (is_truth second) e).0,
      d.truth (both_truths (is_truth first) (is_truth second) e).1,
    ) in
    let operands : Operands at i a b d.now x y = record {
      below = lt;
      own = d.keeps 3 (inr refl) ∙ c.keeps 3 (inr refl) ∙ own_i;
      first_at = operand_at at first (λ one. lt);
      second_at = subst (λ n. IsAt (at + n) y) (sym taken) (operand_at up second second_lt);
      first_fits = c.fits;
      second_fits = d.fits;
      first_is = operand_stays at first c.now d.now d.keeps ∙ c.gives;
      second_is = d.gives;
    } in
    after_operation memory i at op first second layout held a b c d (worked_out op a b) refl truths
    (computes_found op t memory i at a b d.now x y operands truths last)

apply_values : (memory : ℕ → ℕ) (i at : ℕ) (op : Op) (first second : Tree)
    (layout : ProgramLayoutData)
    (held : Registers) → held 3 ≡ i →
    is_shallow (value_code layout at (apply op first second)) ≡ true →
    (a b : Option ℕ) → EvaluatesTo memory i held layout at first a →
    ((now : Registers) → now 3 ≡ i → EvaluatesTo memory i now layout (at + takes first) second b) →
    EvaluatesTo memory i held layout at (apply op first second)
    (option_and_then (λ x. option_and_then (worked_out op x) b) a)
apply_values memory i at op first second layout held own_i shallow None b c d =
    none_after memory i (value_code layout at first) (value_code layout (at + takes first) second
    ++ operation_code at op (is_truth first && is_truth second) (value_operand at first)
    (value_operand (at + takes first) second)) held c
apply_values memory i at op first second layout held own_i shallow (Some a) None c d =
    let back : List Instr = operation_code at op (is_truth first && is_truth second)
    (value_operand at first) (value_operand (at + takes first) second) in
    let middle : List Instr = value_code layout (at + takes first) second in
    after_front memory i (value_code layout at first) (middle ++ back) held c.now c.runs
    ∙ none_after memory i middle back c.now (d c.now (c.keeps 3 (inr refl) ∙ own_i))
apply_values memory i at op first second layout held own_i shallow (Some a) (Some b) c d =
    apply_evaluates memory i at op first second layout held a b own_i shallow c
    (d c.now (c.keeps 3 (inr refl) ∙ own_i))

-- ---- expressions

leaf_loaded : (memory : ℕ → ℕ) (i at v : ℕ) (held : Registers) (layout : ProgramLayoutData)
    (tree : Tree)
    (cells : Array) →
    value_code layout at tree ≡ own_load at cells ∷ [] → value_operand at tree ≡ Register at →
    is_truth tree ≡ false → at < 3 → held 3 ≡ i → i < cells.len → memory (cells.base + i) ≡ v →
    v < 2 ^ 32 → Evaluated memory i held layout at tree v
leaf_loaded memory i at v held layout tree cells code is plain lt own_i less m fits = record {
  now = put at v held;
  runs = ap (λ c. after_all memory i c held) code ∙
      own_loaded memory i at v held cells lt own_i less m;
  gives = ap (operand_value (put at v held)) is ∙ put_same at v held;
  keeps = kept_put at v held lt;
  fits = fits;
  truth = λ yes. no_truth (sym plain ∙ yes);
}

pub evaluates : (program : ProgramData) (layout : ProgramLayoutData) (source : Source)
    (memory : ℕ → ℕ)
    (i : ℕ) → Sees program layout source memory i → (tree : Tree) (at : ℕ) (held : Registers) →
    held 3 ≡ i → IsLawfulTree layout tree → is_shallow (value_code layout at tree) ≡ true →
    EvaluatesTo memory i held layout at tree (value program source i tree)
evaluates program layout source memory i sees (number k) at held own_i is shallow = record {
  now = held;
  runs = refl;
  gives = refl;
  keeps = λ which kept. refl;
  fits = is;
  truth = λ no. no_truth no;
}
evaluates program layout source memory i sees own at held own_i is shallow = record {
  now = held;
  runs = refl;
  gives = own_i;
  keeps = λ which kept. refl;
  fits = let lt : i < layout.procs = sees.is_processor in let few : layout.procs ≤ 65536 =
      sees.few in omega arith;
  truth = λ no. no_truth no;
}
evaluates program layout source memory i sees (loop nest) at held own_i is shallow =
    let m : memory ((loop_cells layout nest).base + i) ≡ source.loops nest = sees.loops nest is in
    leaf_loaded memory i at (source.loops nest) held layout (loop nest) (loop_cells layout nest)
    refl refl refl
    (value_below layout at (loop nest) refl shallow) own_i sees.is_processor m
    (subst (λ x. x < 2 ^ 32) m (sees.fits ((loop_cells layout nest).base + i)))
evaluates program layout source memory i sees (private x) at held own_i is shallow =
    let m : memory ((private_cells layout x).base + i) ≡ source.privates x i = sees.privates x is in
    leaf_loaded memory i at (source.privates x i) held layout (private x) (private_cells layout x)
    refl refl refl
    (value_below layout at (private x) refl shallow) own_i sees.is_processor m
    (subst (λ v. v < 2 ^ 32) m (sees.fits ((private_cells layout x).base + i)))
evaluates program layout source memory i sees (place array index) at held own_i is shallow =
    place_evaluates program layout source memory i at array index held sees is.0
    (value_below layout at (place array index) refl shallow) (value program source i index)
    (evaluates program layout source memory i sees index at held own_i is.1
    (shallow_front (value_code layout at index)
    (instr.Ld at (Named (array_cells layout array) (value_operand at index)) ∷ []) shallow))
evaluates program layout source memory i sees (apply op first second) at held own_i is shallow =
    let middle : List Instr = value_code layout (at + takes first) second in
    let back : List Instr = operation_code at op (is_truth first && is_truth second)
    (value_operand at first) (value_operand (at + takes first) second) in
    apply_values memory i at op first second layout held own_i shallow
    (value program source i first) (value program source i second)
    (evaluates program layout source memory i sees first at held own_i is.0
    (shallow_front (value_code layout at first) (middle ++ back) shallow))
    (λ now now_i. evaluates program layout source memory i sees second (at + takes first) now now_i
    is.1
    (shallow_front middle back (shallow_back (value_code layout at first) (middle ++ back)
    shallow)))

left : (memory : ℕ → ℕ) (i at : ℕ) (held : Registers) (layout : ProgramLayoutData) (tree : Tree)
    (v : Option ℕ) →
    EvaluatesTo memory i held layout at tree v → LeavesTo memory i held layout at tree v
left memory i at held layout tree None e = e
left memory i at held layout tree (Some v) c = record {
  now = c.now;
  runs = c.runs;
  gives = c.gives;
  keeps = c.keeps;
  fits = c.fits;
}

pub expressions_are_evaluated : ExpressionsAreEvaluated
expressions_are_evaluated program layout source memory i at tree held sees own_i is shallow =
    left memory i at held layout tree (value program source i tree)
    (evaluates program layout source memory i sees tree at held own_i is shallow)
