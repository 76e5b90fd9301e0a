-- A job that a text spells keeps the limits.
use Rattle.std.proofs.Common.{◌≡◌, ℕ, zero, suc, ◌+◌, ◌-◌, ◌<◌, ◌≤◌, ◌^◌, ◌==◌, Bool, true}
use Rattle.std.proofs.Common.{false, ◌&&◌, nat_le, if◌then◌else◌, List, [], ◌∷◌, length, map}
use Rattle.std.proofs.Common.{codes, bytes_eq, All, Option, Some, None, Result, Ok, Err, IfOk}
use Rattle.std.proofs.Common.{IfSome, slice_get, get_or, le_of_lt, refl, sym, ap, subst, arith}
use Rattle.std.specs.List.{AllByRecursion}
use Rattle.std.specs.Option.{ok_or, option_or, unwrap_or}
use Rattle.std.proofs.lemmas.Bool.{cond_both, and_parts, leb-true, eqb-false}
use Rattle.std.proofs.lemmas.Option.{same_Some}
use Rattle.std.proofs.lemmas.Result.{IfOk-at_ok}
use Rattle.std.proofs.lemmas.List.{length-map, get_or_default}
use Rattle.std.proofs.lemmas.List.Elements.{All-from_recursion}
use Rattle.std.proofs.lemmas.List.Quantifiers.{position-Some}
use Rattle.pram_text.specs.declared.fault.TextKind.{TextKind}
use Rattle.pram_text.specs.declared.fault.TextKind.TheVariants.{BadHeader, BadNumber, OutOfLimits}
use Rattle.pram_text.specs.declared.fault.TextKind.TheVariants.{UnknownInstruction, WrongOperands}
use Rattle.pram_text.specs.declared.fault.TextKind.TheVariants.{BadRegister, UnknownLabel}
use Rattle.pram_job.specs.declared.instr.Array.{Array}
use Rattle.pram_job.specs.declared.instr.Instr.{Instr}
use Rattle.pram_job.specs.declared.instr.Operand.{Operand}
use Rattle.pram_job.specs.declared.instr.Operand.TheVariants.{Register, Number}
use Rattle.pram_job.specs.declared.instr.Place.{Place}
use Rattle.pram_job.specs.declared.instr.Place.TheVariants.{Cell, Named}
use Rattle.pram_job.specs.declared.limits.TheConstants.{MAX_CELLS, MAX_PROCS}
use Rattle.pram_job.specs.Instructions.{Form, bare, only_target, target_number, target_place}
use Rattle.pram_job.specs.Instructions.{target_two, place_value, register_index, only_index}
use Rattle.pram_job.specs.Instructions.{table, IsOperand, IsArray, IsPlace}
use Rattle.pram_job.specs.Job.{JobData, IsJob, IsInstr}
use Rattle.text_lines.specs.Lines.{Word, Line, lines_of, worded}
use Rattle.pram_text.specs.Judgement.{is_number, value_of_digits, number_in, most, named_number}
use Rattle.text_lines.specs.Reads.{◌>>=◌}
use Rattle.pram_text.specs.Judgement.{is_later, most_cells, most_procs}
use Rattle.pram_text.specs.Judgement.{Entry, names, gives, is_array_name, says_array}
use Rattle.pram_text.specs.Judgement.{array_of, values_of, are_values, init_of, entry_of}
use Rattle.pram_text.specs.Judgement.{Scope, operand_of, array_at, register_of, no_operand}
use Rattle.pram_text.specs.Judgement.{one_register, two_operands, register_and_place, place_operand}
use Rattle.pram_text.specs.Judgement.{register_number, index_in, one_label, register_label}
use Rattle.pram_text.specs.Judgement.{instr_of, instr_by, made_of, unlabelled}
use Rattle.pram_text.proofs.Table.{IsRow, is_instr, table_is}
use Rattle.pram_text.specs.Text.{label_index, defines, array_in, value_by, value_in, scope_of}
use Rattle.pram_text.specs.Text.{SaysEntries, SpellsInit, SpellsCode, SpellsLines, Spells}

-- the value, if there is one, is such
pub record Keeps {A : Type 0} (P : A → Type 0) (r : Result A TextKind) : Type 0 where
  pub holds : IfOk r P

ok : {A : Type 0} (P : A → Type 0) (x : A) → P x → Keeps P (Ok x)
ok P x p = record { holds = p }

err : {A : Type 0} (P : A → Type 0) (kind : TextKind) → Keeps P (Err kind)
err P kind = record { holds = tt }

pub value_keeps : {A : Type 0} {P : A → Type 0} {r : Result A TextKind} (x : A) →
    Keeps P r → r ≡ Ok x → P x
value_keeps {A} {P} x k e = IfOk-at_ok P e k.holds

weaker : {A : Type 0} {P Q : A → Type 0} (r : Result A TextKind) → Keeps P r →
    ((x : A) → P x → Q x) → Keeps Q r
weaker (Ok x) k h = record { holds = h x k.holds }
weaker (Err kind) k h = record { holds = tt }

-- what holds of both branches holds of the choice
either : {A : Type 0} {P : A → Type 0} (b : Bool) (x y : Result A TextKind) → Keeps P x →
    Keeps P y → Keeps P (if b then x else y)
either true x y p q = p
either false x y p q = q

-- what the parts give, the whole gives
then_ok : {A B : Type 0} {P : A → Type 0} {Q : B → Type 0} (r : Result A TextKind)
    (f : A → Result B TextKind) → Keeps P r → ((x : A) → P x → Keeps Q (f x)) → Keeps Q (r >>= f)
then_ok (Ok x) f p h = h x p.holds
then_ok {A} {B} {P} {Q} (Err k) f p h = err Q k

register_of-keeps : (word : Word) → Keeps (λ r. r < 4) (register_of word)
unfolding register_of
register_of-keeps word =
    either _ _ _ (ok _ 0 (omega arith))
    (either _ _ _ (ok _ 1 (omega arith))
    (either _ _ _ (ok _ 2 (omega arith)) (either _ _ _ (ok _ 3 (omega arith)) (err _ BadRegister))))

number_in-keeps : (low high : ℕ) (word : Word) →
    Keeps (λ n. (low ≤ n) × (n ≤ high)) (number_in low high word)
unfolding number_in
number_in-keeps low high word =
    either (is_number word) _ _
    (cond_both (nat_le low (value_of_digits word) && nat_le (value_of_digits word) high)
    (Ok (value_of_digits word)) (Err OutOfLimits) (λ r. Keeps (λ n. (low ≤ n) × (n ≤ high)) r)
    (λ e. let parts = and_parts _ _ e in ok _ (value_of_digits word) (
      leb-true low (value_of_digits word) parts.0,
      leb-true (value_of_digits word) high parts.1,
    )) (λ e. err _ OutOfLimits)) (err _ BadNumber)

operand_of-keeps : (later : Bool) (word : Word) → Keeps IsOperand (operand_of later word)
operand_of-keeps later word = either (later && is_number word) _ _
    (then_ok _ _ (number_in-keeps 0 most word)
    (λ n h. ok IsOperand (Number n) (omega (arith, h.1))))
    (then_ok _ _ (register_of-keeps word) (λ r h. ok IsOperand (Register r) h))

pub named_number-keeps : (name : Word) (low high : ℕ) (line : Line) →
    Keeps (λ n. (low ≤ n) × (n ≤ high)) (named_number name low high line)
unfolding named_number
named_number-keeps name low high (first ∷ number ∷ []) =
    either (bytes_eq first name) _ _ (number_in-keeps low high number) (err _ BadHeader)
named_number-keeps name low high _ = err _ BadHeader

-- an array lies within so many cells, and so do start values, which are below 2^32
abbrev pub Fits : ℕ → Entry → Type 0
Fits cells (names name array) = IsArray cells array
Fits cells (gives first values) =
    (first + length values ≤ cells) × AllByRecursion (λ v. v < 2 ^ 32) values

array_of-keeps : (cells : ℕ) (line : Line) → Keeps (Fits cells) (array_of cells line)
unfolding array_of
array_of-keeps cells (first ∷ name ∷ base ∷ len ∷ []) =
    either (is_array_name name) _ _
    (then_ok _ _ (number_in-keeps 0 (cells - 1) base) (λ b g.
    then_ok _ _ (number_in-keeps 1 (cells - b) len) (λ n h.
    ok (Fits cells) (names name (record { base = b; len = n }))
    (h.0, omega (arith, g.1, h.0, h.1)))))
    (err _ BadHeader)
array_of-keeps cells _ = err _ BadHeader

values_of-keeps : (room : ℕ) (words : Line) →
    Keeps (λ vs. (length vs ≤ room) × AllByRecursion (λ v. v < 2 ^ 32) vs) (values_of room words)
values_of-keeps room [] = ok _ [] (omega arith, tt)
values_of-keeps room (word ∷ words) =
    then_ok _ _ (number_in-keeps 0 most word) (λ v h.
    cond_both (room == 0) (Err OutOfLimits)
    (values_of (room - 1) words >>= λ vs. Ok (v ∷ vs))
    (λ r. Keeps (λ vs. (length vs ≤ room) × AllByRecursion (λ v. v < 2 ^ 32) vs) r)
    (λ e. err _ OutOfLimits)
    (λ e. then_ok _ _ (values_of-keeps (room - 1) words) (λ vs g.
    ok _ (v ∷ vs) (omega (arith, g.0, eqb-false room 0 e), (omega (arith, h.1), g.1)))))

init_of-keeps : (later : Bool) (cells : ℕ) (line : Line) →
    Keeps (Fits cells) (init_of later cells line)
unfolding init_of
init_of-keeps later cells (first ∷ cell ∷ values) =
    either (bytes_eq first (codes "init") && are_values later values) _ _
    (then_ok _ _ (number_in-keeps 0 (cells - 1) cell) (λ c g.
    then_ok _ _ (values_of-keeps (cells - c) values) (λ vs h.
    ok (Fits cells) (gives c vs) (omega (arith, g.1, h.0), h.1))))
    (err _ BadHeader)
init_of-keeps later cells _ = err _ BadHeader

pub entry_of-keeps : (later : Bool) (cells : ℕ) (line : Line) →
    Keeps (Fits cells) (entry_of later cells line)
unfolding entry_of
entry_of-keeps later cells line =
    either (later && says_array line) _ _ (array_of-keeps cells line)
    (init_of-keeps later cells line)

-- ---- instructions

module _ (cells len : ℕ) where
  keeps_none : (instr : Instr) → IsInstr cells len instr → (operands : Line) →
      Keeps (IsInstr cells len) (no_operand instr operands)
  keeps_none instr h [] = ok _ instr h
  keeps_none instr h (word ∷ words) = err _ WrongOperands

  keeps_one : (make : ℕ → Instr) → ((r : ℕ) → r < 4 → IsInstr cells len (make r)) → (operands : Line) →
      Keeps (IsInstr cells len) (one_register make operands)
  keeps_one make h (r ∷ []) = then_ok _ _ (register_of-keeps r) (λ r' p. ok _ (make r') (h r' p))
  keeps_one make h _ = err _ WrongOperands

  module _ (scope : Scope) (fit : (name : Word) (array : Array) → scope.arrays name ≡ Some array →
      IsArray cells array) where
    array_at-keeps : (name : Word) → Keeps (IsArray cells) (array_at scope name)
    array_at-keeps name = go (scope.arrays name) (λ array e. fit name array e)
      where
        go : (o : Option Array) → ((array : Array) → o ≡ Some array → IsArray cells array) →
            Keeps (IsArray cells) (ok_or o BadRegister)
        go None h = err _ BadRegister
        go (Some array) h = ok _ array (h array refl)

    keeps_two : (make : ℕ → ℕ → Operand → Instr) → ((r a : ℕ) (b : Operand) → r < 4 → a < 4 →
        IsOperand b → IsInstr cells len (make r a b)) → (operands : Line) →
        Keeps (IsInstr cells len) (two_operands scope.later make operands)
    keeps_two make h (r ∷ a ∷ b ∷ []) = then_ok _ _ (register_of-keeps r) (λ r' o.
        then_ok _ _ (register_of-keeps a) (λ a' p. then_ok _ _ (operand_of-keeps scope.later b)
        (λ b' q. ok _ (make r' a' b') (h r' a' b' o p q))))
    keeps_two make h _ = err _ WrongOperands

    keeps_load : (make : ℕ → Place → Instr) → ((r : ℕ) (place : Place) → r < 4 →
        IsPlace cells place → IsInstr cells len (make r place)) → (operands : Line) →
        Keeps (IsInstr cells len) (register_and_place scope make operands)
    keeps_load make h (r ∷ a ∷ []) = then_ok _ _ (register_of-keeps r) (λ r' o.
        then_ok _ _ (operand_of-keeps scope.later a)
        (λ a' p. ok _ (make r' (Cell a')) (h r' (Cell a') o p)))
    keeps_load make h (r ∷ name ∷ a ∷ []) = either scope.later _ _
        (then_ok _ _ (register_of-keeps r) (λ r' o. then_ok _ _ (array_at-keeps name) (λ n' p.
        then_ok _ _ (operand_of-keeps scope.later a)
        (λ a' q. ok _ (make r' (Named n' a')) (h r' (Named n' a') o (p, q))))))
        (err _ WrongOperands)
    keeps_load make h _ = err _ WrongOperands

    keeps_store : (make : Place → Operand → Instr) → ((place : Place) (b : Operand) →
        IsPlace cells place → IsOperand b → IsInstr cells len (make place b)) →
        (operands : Line) → Keeps (IsInstr cells len) (place_operand scope make operands)
    keeps_store make h (a ∷ b ∷ []) = then_ok _ _ (operand_of-keeps scope.later a) (λ a' p.
        then_ok _ _ (operand_of-keeps scope.later b)
        (λ b' q. ok _ (make (Cell a') b') (h (Cell a') b' p q)))
    keeps_store make h (name ∷ a ∷ b ∷ []) = either scope.later _ _
        (then_ok _ _ (array_at-keeps name) (λ n' o. then_ok _ _ (operand_of-keeps scope.later a)
        (λ a' p. then_ok _ _ (operand_of-keeps scope.later b)
        (λ b' q. ok _ (make (Named n' a') b') (h (Named n' a') b' (o, p) q)))))
        (err _ WrongOperands)
    keeps_store make h _ = err _ WrongOperands

  keeps_number : (make : ℕ → ℕ → Instr) →
      ((r k : ℕ) → r < 4 → k < 2 ^ 32 → IsInstr cells len (make r k)) → (operands : Line) →
      Keeps (IsInstr cells len) (register_number make operands)
  keeps_number make h (r ∷ k ∷ []) = then_ok _ _ (register_of-keeps r) (λ r' p. then_ok _ _
      (number_in-keeps 0 most k) (λ k' q. ok _ (make r' k') (h r' k' p (omega (arith, q.1)))))
  keeps_number make h _ = err _ WrongOperands

  module _ (scope : Scope) (fit : (name : Word) (array : Array) → scope.arrays name ≡ Some array →
      IsArray cells array) (find : Word → Option ℕ)
      (within : (label : Word) (index : ℕ) → find label ≡ Some index → index ≤ len) where
    index_within : (label : Word) → Keeps (λ index. index ≤ len) (index_in find label)
    index_within label = go (find label) (λ index e. within label index e)
      where
        go : (o : Option ℕ) → ((index : ℕ) → o ≡ Some index → index ≤ len) →
            Keeps (λ index. index ≤ len) (ok_or o UnknownLabel)
        go None h = err _ UnknownLabel
        go (Some index) h = ok _ index (h index refl)

    keeps_label : (make : ℕ → Instr) → ((index : ℕ) → index ≤ len → IsInstr cells len (make index)) →
        (operands : Line) → Keeps (IsInstr cells len) (one_label find make operands)
    keeps_label make h (label ∷ []) =
        then_ok _ _ (index_within label) (λ index p. ok _ (make index) (h index p))
    keeps_label make h _ = err _ WrongOperands

    keeps_jump : (make : ℕ → ℕ → Instr) →
        ((r index : ℕ) → r < 4 → index ≤ len → IsInstr cells len (make r index)) → (operands : Line) →
        Keeps (IsInstr cells len) (register_label find make operands)
    keeps_jump make h (r ∷ label ∷ []) = then_ok _ _ (register_of-keeps r) (λ r' p.
        then_ok _ _ (index_within label) (λ index q. ok _ (make r' index) (h r' index p q)))
    keeps_jump make h _ = err _ WrongOperands

    form_keeps : (name : Word) (form : Form) → IsRow name form → (operands : Line) →
        Keeps (IsInstr cells len) (made_of scope find form operands)
    form_keeps name (bare instr) is operands =
        keeps_none instr (is_instr cells len name _ _ is tt) operands
    form_keeps name (only_target make) is operands =
        keeps_one make (λ r p. is_instr cells len name _ _ (is r) p) operands
    form_keeps name (target_number make) is operands =
        keeps_number make (λ r k p q. is_instr cells len name _ _ (is r k) (p, q)) operands
    form_keeps name (target_place make) is operands = keeps_load scope fit make
        (λ r place p q. is_instr cells len name _ _ (is r place) (p, q)) operands
    form_keeps name (target_two make) is operands = keeps_two scope fit make
        (λ r a b o p q. is_instr cells len name _ _ (is r a b) (o, p, q)) operands
    form_keeps name (place_value make) is operands = keeps_store scope fit make
        (λ place b p q. is_instr cells len name _ _ (is place b) (p, q)) operands
    form_keeps name (register_index make) is operands =
        keeps_jump make (λ r index p q. is_instr cells len name _ _ (is r index) (p, q)) operands
    form_keeps name (only_index make) is operands =
        keeps_label make (λ index p. is_instr cells len name _ _ (is index) p) operands

    rows_keep : (rows : List (Word × Form)) →
        AllByRecursion (λ (row : Word × Form). IsRow row.0 row.1) rows →
        (name : Word) (operands : Line) → Keeps (IsInstr cells len) (instr_by rows scope find name operands)
    rows_keep [] are name operands = err _ UnknownInstruction
    rows_keep (row ∷ rows) are name operands =
        either _ _ _ (form_keeps row.0 row.1 are.0 operands) (rows_keep rows are.1 name operands)

    instr_keeps : (line : Line) → Keeps (IsInstr cells len) (instr_of scope find line)
    unfolding instr_of
    instr_keeps [] = err _ UnknownInstruction
    instr_keeps (name ∷ operands) = rows_keep (table scope.later) (table_is scope.later) name operands

-- ---- jobs

-- what each answer keeps, all values keep
said_all : {X Y : Type 0} (P : Y → Type 0) (f : X → Result Y TextKind) → ((x : X) → Keeps P (f x)) →
    (xs : List X) (ys : List Y) → map f xs ≡ map (λ y. Ok y) ys → AllByRecursion P ys
said_all P f h xs [] e = tt
said_all P f h [] (y ∷ ys) e = cc
said_all P f h (x ∷ xs) (y ∷ ys) e =
    let first : f x ≡ Ok y = cc in
    let rest : map f xs ≡ map (λ y. Ok y) ys = cc in
    (value_keeps y (h x) first, said_all P f h xs ys rest)

said_length : {X Y : Type 0} (f : X → Result Y TextKind) (xs : List X) (ys : List Y) →
    map f xs ≡ map (λ y. Ok y) ys → length ys ≡ length xs
said_length {X} {Y} f xs ys e =
    let a = length-map xs f in
    let b = length-map {B = Result Y TextKind} ys (λ y. Ok y) in
    let c = ap length e in
    omega arith

value_fits : (cells c : ℕ) (entry : Entry) → Fits cells entry →
    IfSome (value_by entry c) (λ v. v < 2 ^ 32)
value_fits cells c (names name array) fits = tt
value_fits cells c (gives first values) fits = cond_both (nat_le first c)
    (slice_get values (c - first)) None (λ o. IfSome o (λ v. v < 2 ^ 32))
    (λ e. got values (c - first) fits.1) (λ e. tt)
  where
    got : (vs : List ℕ) (k : ℕ) → AllByRecursion (λ v. v < 2 ^ 32) vs →
        IfSome (slice_get vs k) (λ v. v < 2 ^ 32)
    got [] k h = tt
    got (v ∷ vs) zero h = h.0
    got (v ∷ vs) (suc k) h = got vs k h.1

or_fits : (o p : Option ℕ) → IfSome o (λ v. v < 2 ^ 32) → unwrap_or p 0 < 2 ^ 32 →
    unwrap_or (option_or o p) 0 < 2 ^ 32
or_fits None p h g = g
or_fits (Some v) p h g = h

found_fits : (cells c : ℕ) (entries : List Entry) → AllByRecursion (Fits cells) entries →
    unwrap_or (value_in entries c) 0 < 2 ^ 32
found_fits cells c [] h = omega arith
found_fits cells c (entry ∷ entries) h = or_fits (value_by entry c) (value_in entries c)
    (value_fits cells c entry h.0) (found_fits cells c entries h.1)

array_fits : (cells : ℕ) (entries : List Entry) → AllByRecursion (Fits cells) entries →
    (name : Word) (array : Array) → array_in entries name ≡ Some array → IsArray cells array
array_fits cells [] h name array e = cc
array_fits cells (gives first values ∷ entries) h name array e =
    array_fits cells entries h.1 name array e
array_fits cells (names own one ∷ entries) h name array e =
    go (bytes_eq own name) (λ f. array_fits cells entries h.1 name array f) e
  where
    go : (b : Bool) → (array_in entries name ≡ Some array → IsArray cells array) →
        option_or (if b then Some one else None) (array_in entries name) ≡ Some array →
        IsArray cells array
    go true more f = subst (IsArray cells) (same_Some one array f) h.0
    go false more f = more f

entries_keep : (later : Bool) (cells : ℕ) (inits : List Line) (entries : List Entry) →
    SaysEntries later cells inits entries → AllByRecursion (Fits cells) entries
entries_keep later cells inits entries s =
    said_all (Fits cells) (entry_of later cells) (entry_of-keeps later cells) inits entries s.said

init_keeps : (cells : ℕ) (entries : List Entry) (init : List ℕ) →
    AllByRecursion (Fits cells) entries → SpellsInit cells entries init → All (λ v. v < 2 ^ 32) init
init_keeps cells entries init fits s k d lt =
    let within : k < cells = omega (arith, s.len) in
    let one : get_or init k 0 < 2 ^ 32 =
    subst (λ v. v < 2 ^ 32) (sym (s.values k within)) (found_fits cells k entries fits) in
    subst (λ v. v < 2 ^ 32) (get_or_default init k 0 d lt) one

code_keeps : (cells : ℕ) (scope : Scope) (body : List Line) (code : List Instr) →
    ((name : Word) (array : Array) → scope.arrays name ≡ Some array → IsArray cells array) →
    SpellsCode scope body code → All (IsInstr cells (length code)) code
code_keeps cells scope body code fit s =
    let says : Line → Result Instr TextKind =
    λ line. instr_of scope (label_index body) (unlabelled line) in
    let same = said_length says body code s.said in
    let within = λ (label : Word) (index : ℕ) (e : label_index body label ≡ Some index). le_of_lt
    (subst (λ n. index < n) (sym same) (position-Some (defines label) body index [] e).0) in
    All-from_recursion (IsInstr cells (length code)) code
    (said_all (IsInstr cells (length code)) says
    (λ line. instr_keeps cells (length code) scope fit (label_index body) within (unlabelled line))
    body code s.said)

-- earlier texts may ask for less
no_more : (later : Bool) (less most : ℕ) → less ≤ most → (if later then most else less) ≤ most
no_more true less most le = omega arith
no_more false less most le = le

pub lines_keep : (job : JobData) (lines : List Line) → SpellsLines job lines → IsJob job
lines_keep job lines s =
    let later : Bool = is_later s.version in
    let scope : Scope = scope_of later s.entries in
    let same = said_length (λ (line : Line). instr_of scope (label_index s.body) (unlabelled line))
    s.body job.code s.code.said in
    let cells : (1 ≤ job.cells) × (job.cells ≤ most_cells s.version) =
    value_keeps job.cells (named_number-keeps _ _ _ s.sizes.cells_line) s.sizes.cells_said in
    let procs : (1 ≤ job.procs) × (job.procs ≤ most_procs s.version) =
    value_keeps job.procs (named_number-keeps _ _ _ s.sizes.procs_line) s.sizes.procs_said in
    let steps =
    value_keeps job.steps (named_number-keeps _ _ _ s.sizes.steps_line) s.sizes.steps_said in
    let fits = entries_keep later job.cells s.inits s.entries s.said in
    record {
      cells = (cells.0, omega (arith, cells.1, no_more later 65536 MAX_CELLS (omega arith)));
      procs = (procs.0, omega (arith, procs.1, no_more later 1024 MAX_PROCS (omega arith)));
      steps = omega (arith, steps.1);
      init_len = s.init.len;
      init_fits = init_keeps job.cells s.entries job.init fits s.init;
      code_len = (omega (arith, same, s.code.some), omega (arith, same, s.code.labelled.few));
      code_fits = code_keeps job.cells scope s.body job.code
          (array_fits job.cells s.entries fits) s.code;
    }

pub spells_lawful : (text : List ℕ) (job : JobData) → Spells text job → IsJob job
spells_lawful text job s = lines_keep job (worded (lines_of text)) s.lines
