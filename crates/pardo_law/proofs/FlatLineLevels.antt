-- Three registers are enough for each flat line.
use Rattle.std.proofs.Common.{◌≡◌, ℕ, zero, suc, ◌+◌, ◌≤◌, ◌*◌, ◌==◌, Bool, true, false}
use Rattle.std.proofs.Common.{◌&&◌, List, [], ◌∷◌, ◌++◌, Option, Some, None, refl, ap}
use Rattle.std.specs.Prelude.{slice_get}
use Rattle.std.proofs.Common.{arith, if◌then◌else◌, length}
use Rattle.std.specs.List.{All}
use Rattle.std.proofs.lemmas.Bool.{leb-true}
use Rattle.std.proofs.lemmas.List.Elements.{All-append, All-cons, All-nil, All-tail}
use Rattle.pram_job.specs.declared.instr.Array.{Array}
use Rattle.pram_job.specs.declared.instr.Instr.{Instr}
use Rattle.pram_job.specs.declared.instr.Instr.TheVariants as instr
use Rattle.pram_job.specs.declared.instr.Operand.{Operand}
use Rattle.pram_job.specs.declared.instr.Operand.TheVariants.{Register, Number}
use Rattle.pram_job.specs.declared.instr.Place.TheVariants.{Named}
use Rattle.pardo_program.specs.declared.operation.Op.TheVariants.{Eq, Gt, Lt}
use Rattle.pardo_program.specs.declared.statement.Line.{Line}
use Rattle.pardo_program.specs.declared.statement.Statement.{Statement}
use Rattle.pardo_program.specs.declared.statement.Statement.TheVariants.{Assign, If, Else, EndIf}
use Rattle.pardo_program.specs.declared.statement.Statement.TheVariants.{While, EndWhile, For}
use Rattle.pardo_program.specs.declared.statement.Statement.TheVariants.{EndFor}
use Rattle.pardo_program.specs.declared.statement.Target.TheVariants.{Private, Array as Shared}
use Rattle.pardo_program.specs.Program.{ProgramData}
use Rattle.pardo_program.specs.Expression.{Tree, number}
use Rattle.pardo_flat.specs.Flat.{ShapeData, base_of, beside, first_flat_of, fits, flat, giving}
use Rattle.pardo_flat.specs.Flat.{has_room, hidden, is_for_all, last_line, last_of, last_pieces}
use Rattle.pardo_flat.specs.Flat.{line_parts, lines_for, moved_statement, pieces_of, shape_of}
use Rattle.pardo_flat.specs.Flat.{split}
use Rattle.pardo_flat.specs.Flat.{split_last, split_statement, statement_parts, registers_taken}
use Rattle.pardo_flat.specs.Layouts.{ProgramLayoutData, array_cells, loop_cells, mask_cells}
use Rattle.pardo_flat.specs.Layouts.{private_cells, program_layout}
use Rattle.pardo_flat.specs.Statements.{statement_at}
use Rattle.pardo_flat.proofs.FlatLines.{hidden_for}
use Rattle.pardo_job.specs.Lines.{assignment_code, choosing, condition_code, first_code, no_code}
use Rattle.pardo_job.specs.Lines.{line_code, loop_end, masked, next_value, none_code, others}
use Rattle.pardo_job.specs.Lines.{own_store, turn_code, while_code}
use Rattle.pardo_job.specs.Operations.{is_shallow, native, register_code, register_or_spare}
use Rattle.pardo_job.specs.Refusals.{is_level}
use Rattle.pardo_job.specs.Values.{is_truth, own_load, own_place, takes, value_code}
use Rattle.pardo_job.specs.Values.{value_operand}
use Rattle.pardo_law.specs.FlatLevels.{FlatLinesAreLevel}
use Rattle.pardo_law.proofs.Carrying.{all_at}
use Rattle.pardo_law.proofs.FlatLawful.{located}
use Rattle.pardo_law.proofs.FlatLevel.{IsSmall, IsSmaller, both, compared_level, last_is_small}
use Rattle.pardo_law.proofs.FlatLevel.{more, room_is_enough, split_are_small, split_small}
use Rattle.pardo_law.proofs.FlatLevel.{taken_few, takes_as, turned_level}

abbrev store : Array → Operand → Instr
store cells x = instr.St (own_place cells) x

private_level : (layout : ProgramLayoutData) (x : ℕ) (tree : Tree) → IsSmall tree →
    is_shallow (assignment_code layout (Private x) tree) ≡ true
unfolding assignment_code
private_level layout x tree small =
    let last = store (private_cells layout x) (value_operand 0 tree) in
    both (value_code layout 0 tree) (last ∷ []) (room_is_enough layout tree 0 (omega (arith, small)))
    (more last [] 0 refl (omega arith) refl)

shared_level : (layout : ProgramLayoutData) (array : ℕ) (index tree : Tree) → IsSmall tree →
    registers_taken (shape_of tree) + (shape_of index).need ≤ 3 →
    is_shallow (assignment_code layout (Shared array index) tree) ≡ true
unfolding assignment_code
shared_level layout array index tree small room =
    let at : ℕ = takes tree in
    let last = instr.St (Named (array_cells layout array) (value_operand at index))
    (value_operand 0 tree) in
    let same = takes_as tree in
    both (value_code layout 0 tree) (value_code layout at index ++ last ∷ [])
    (room_is_enough layout tree 0 (omega (arith, small)))
    (both (value_code layout at index) (last ∷ [])
    (room_is_enough layout index at (omega (arith, room, same)))
    (more last [] 0 refl (omega arith) refl))

condition_level : (layout : ProgramLayoutData) (tree : Tree) → IsSmall tree →
    is_shallow (condition_code layout tree) ≡ true
unfolding condition_code
condition_level layout tree small =
    both (value_code layout 0 tree) (if is_truth tree then []
    else native 0 Eq (value_operand 0 tree) (Number 0) ++ native 0 Eq (Register 0) (Number 0))
    (room_is_enough layout tree 0 (omega (arith, small))) (tested (is_truth tree))
  where
    tested : (t : Bool) → is_shallow (if t then []
        else native 0 Eq (value_operand 0 tree) (Number 0) ++ native 0 Eq (Register 0) (Number 0))
        ≡ true
    tested true = refl
    tested false = both (native 0 Eq (value_operand 0 tree) (Number 0))
        (native 0 Eq (Register 0) (Number 0))
        (turned_level 0 Eq ((λ k. refl), (λ register. refl)) (value_operand 0 tree) (Number 0)
        (omega arith))
        (turned_level 0 Eq ((λ k. refl), (λ register. refl)) (Register 0) (Number 0) (omega arith))

idle_level : (at count : ℕ) → is_shallow (no_code at count) ≡ true
idle_level at zero = refl
idle_level at (suc count) = more (instr.Jmp (at + 1)) (no_code (at + 1) count) 0 refl (omega arith)
    (idle_level (at + 1) count)

masked_level : (layout : ProgramLayoutData) (at depth : ℕ) (body : List Instr) →
    is_shallow body ≡ true → is_shallow (masked layout at depth body) ≡ true
unfolding masked
masked_level layout at depth body shallow = by_depth (depth == 0)
  where
    by_depth : (t : Bool) → is_shallow (if t then body
        else own_load 0 (mask_cells layout depth) ∷ instr.Jz 0 (at + 3)
        ∷ instr.Jmp (at + 4 + length body)
        ∷ (no_code (at + 3) (length body) ++ instr.Jmp (at + 4 + 2 * length body) ∷ body)) ≡ true
    by_depth true = shallow
    by_depth false =
        let n : ℕ = length body in
        let rest : List Instr = no_code (at + 3) n ++ instr.Jmp (at + 4 + 2 * n) ∷ body in
        more (own_load 0 (mask_cells layout depth))
        (instr.Jz 0 (at + 3) ∷ instr.Jmp (at + 4 + n) ∷ rest) 0 refl (omega arith)
        (more (instr.Jz 0 (at + 3)) (instr.Jmp (at + 4 + n) ∷ rest) 0 refl (omega arith)
        (more (instr.Jmp (at + 4 + n)) rest 0 refl (omega arith)
        (both (no_code (at + 3) n) (instr.Jmp (at + 4 + 2 * n) ∷ body) (idle_level (at + 3) n)
        (more (instr.Jmp (at + 4 + 2 * n)) body 0 refl (omega arith) shallow))))

choosing_level : (layout : ProgramLayoutData) (at depth : ℕ) (body : List Instr) →
    is_shallow body ≡ true → is_shallow (choosing layout at depth body) ≡ true
unfolding choosing
choosing_level layout at depth body shallow =
    let n : ℕ = length body in
    let last : Instr = own_store (mask_cells layout (depth + 1)) in
    both (if depth == 0 then body
    else own_load 0 (mask_cells layout depth) ∷ instr.Jz 0 (at + 3 + n)
    ∷ (body ++ instr.Jmp (at + 4 + 2 * n) ∷ no_code (at + 3 + n) (n + 1))) (last ∷ [])
    (by_depth (depth == 0)) (more last [] 0 refl (omega arith) refl)
  where
    by_depth : (t : Bool) → is_shallow (if t then body
        else own_load 0 (mask_cells layout depth) ∷ instr.Jz 0 (at + 3 + length body)
        ∷ (body ++ instr.Jmp (at + 4 + 2 * length body)
        ∷ no_code (at + 3 + length body) (length body + 1))) ≡ true
    by_depth true = shallow
    by_depth false =
        let n : ℕ = length body in
        let rest : List Instr = instr.Jmp (at + 4 + 2 * n) ∷ no_code (at + 3 + n) (n + 1) in
        more (own_load 0 (mask_cells layout depth)) (instr.Jz 0 (at + 3 + n) ∷ (body ++ rest)) 0
        refl (omega arith)
        (more (instr.Jz 0 (at + 3 + n)) (body ++ rest) 0 refl (omega arith)
        (both body rest shallow
        (more (instr.Jmp (at + 4 + 2 * n)) (no_code (at + 3 + n) (n + 1)) 0 refl (omega arith)
        (idle_level (at + 3 + n) (n + 1)))))

-- ---- lines of loops

while_level : (layout : ProgramLayoutData) (tree : Tree) (place : ℕ) → IsSmall tree →
    is_shallow (while_code layout tree
    ++ instr.Jz (register_or_spare 0 (value_operand 0 tree)) place ∷ []) ≡ true
unfolding while_code
while_level layout tree place small =
    let last = instr.Jz (register_or_spare 0 (value_operand 0 tree)) place in
    both (value_code layout 0 tree ++ register_code 0 (value_operand 0 tree)) (last ∷ [])
    (both (value_code layout 0 tree) (register_code 0 (value_operand 0 tree))
    (room_is_enough layout tree 0 (omega (arith, small))) (in_register (value_operand 0 tree)))
    (more last [] 0 refl (omega arith) refl)
  where
    in_register : (x : Operand) → is_shallow (register_code 0 x) ≡ true
    in_register (Register register) = refl
    in_register (Number k) = refl

none_level : (layout : ProgramLayoutData) (up : Bool) (first last : Tree) → IsSmall first →
    IsSmaller last → is_shallow (none_code layout up first last) ≡ true
unfolding none_code
none_level layout up first last small smaller =
    let few = taken_few (shape_of first) in
    let same = takes_as first in
    let test = native 0 (if up then Gt else Lt) (value_operand 0 first)
    (value_operand (takes first) last) in
    both (value_code layout 0 first) (value_code layout (takes first) last ++ test)
    (room_is_enough layout first 0 (omega (arith, small)))
    (both (value_code layout (takes first) last) test
    (room_is_enough layout last (takes first) (omega (arith, smaller, few, same)))
    (compared_level up first last small smaller))

first_level : (layout : ProgramLayoutData) (nest : ℕ) (first : Tree) → IsSmall first →
    is_shallow (first_code layout nest first) ≡ true
unfolding first_code
first_level layout nest first small =
    let last = store (loop_cells layout nest) (value_operand 0 first) in
    both (value_code layout 0 first) (last ∷ [])
    (room_is_enough layout first 0 (omega (arith, small))) (more last [] 0 refl (omega arith) refl)

turn_level : (layout : ProgramLayoutData) (nest : ℕ) (last : Tree) → IsSmaller last →
    is_shallow (turn_code layout nest last) ≡ true
unfolding turn_code
turn_level layout nest last smaller =
    let sub = instr.Sub 1 0 (value_operand 1 last) in
    more (own_load 0 (loop_cells layout nest)) (value_code layout 1 last ++ sub ∷ []) 0 refl
    (omega arith)
    (both (value_code layout 1 last) (sub ∷ []) (room_is_enough layout last 1 smaller)
    (more sub [] 1 refl (omega arith) refl))

-- the last bound of a `for` is small enough
abbrev BoundIsSmall : Statement → Type 0
BoundIsSmall (For nest first last up end) = IsSmaller last
BoundIsSmall statement = Unit {0}

end_level : (layout : ProgramLayoutData) (places : ℕ → ℕ) (begin : ℕ) (opener : Statement) →
    BoundIsSmall opener → is_shallow (loop_end layout places begin opener) ≡ true
end_level layout places begin (For nest first last up end) smaller =
    let cells = loop_cells layout nest in
    let out = instr.Jz 1 (places (end + 1)) in
    let back = instr.Jmp (places (begin + 1)) in
    both (turn_code layout nest last) (out ∷ next_value up ∷ own_store cells ∷ back ∷ [])
    (turn_level layout nest last smaller)
    (more out (next_value up ∷ own_store cells ∷ back ∷ []) 0 refl (omega arith)
    (next_level up (own_store cells ∷ back ∷ [])
    (more (own_store cells) (back ∷ []) 0 refl (omega arith)
    (more back [] 0 refl (omega arith) refl))))
  where
    next_level : (up : Bool) (code : List Instr) → is_shallow code ≡ true →
        is_shallow (next_value up ∷ code) ≡ true
    next_level true code rest = more (next_value true) code 0 refl (omega arith) rest
    next_level false code rest = more (next_value false) code 0 refl (omega arith) rest
end_level layout places begin (Assign target tree) smaller = refl
end_level layout places begin (If tree) smaller = refl
end_level layout places begin Else smaller = refl
end_level layout places begin EndIf smaller = refl
end_level layout places begin (While tree end) smaller = refl
end_level layout places begin (EndWhile line) smaller = refl
end_level layout places begin (EndFor line) smaller = refl

others_level : (layout : ProgramLayoutData) (depth : ℕ) → is_shallow (others layout depth) ≡ true
unfolding others
others_level layout depth =
    let cells = mask_cells layout (depth + 1) in
    let body = if depth == 0 then instr.Eq 0 0 (Number 0) ∷ []
    else own_load 1 (mask_cells layout depth) ∷ instr.Lt 0 0 (Register 1) ∷ [] in
    more (own_load 0 cells) (body ++ own_store cells ∷ []) 0 refl (omega arith)
    (both body (own_store cells ∷ []) (by_depth (depth == 0))
    (more (own_store cells) [] 0 refl (omega arith) refl))
  where
    by_depth : (t : Bool) → is_shallow (if t then instr.Eq 0 0 (Number 0) ∷ []
        else own_load 1 (mask_cells layout depth) ∷ instr.Lt 0 0 (Register 1) ∷ []) ≡ true
    by_depth true = more (instr.Eq 0 0 (Number 0)) [] 0 refl (omega arith) refl
    by_depth false = more (own_load 1 (mask_cells layout depth))
        (instr.Lt 0 0 (Register 1) ∷ []) 1 refl (omega arith)
        (more (instr.Lt 0 0 (Register 1)) [] 0 refl (omega arith) refl)

-- ---- flat lines

and_both : (a b : Bool) → (a && b) ≡ true → (a ≡ true) × (b ≡ true)
and_both true b e = (refl, e)
and_both false b e = let no : false ≡ true = e in absurd (cc)

module _ (program : ProgramData) where
  abbrev other : ProgramData
  other = flat program

  abbrev IsLevelAt : ℕ → Statement → Type 0
  IsLevelAt depth statement =
      is_shallow (line_code other (λ j. 0) 0 depth statement) ≡ true

  private_line : (depth x : ℕ) (tree : Tree) → IsSmall tree →
      IsLevelAt depth (Assign (Private x) tree)
  unfolding line_code
  private_line depth x tree small = masked_level (program_layout other) 0 depth
      (assignment_code (program_layout other) (Private x) tree)
      (private_level (program_layout other) x tree small)

  shared_line : (depth array : ℕ) (index tree : Tree) → IsSmall tree →
      registers_taken (shape_of tree) + (shape_of index).need ≤ 3 →
      IsLevelAt depth (Assign (Shared array index) tree)
  unfolding line_code
  shared_line depth array index tree small room = masked_level (program_layout other) 0 depth
      (assignment_code (program_layout other) (Shared array index) tree)
      (shared_level (program_layout other) array index tree small room)

  if_line : (depth : ℕ) (tree : Tree) → IsSmall tree → IsLevelAt depth (If tree)
  unfolding line_code
  if_line depth tree small = choosing_level (program_layout other) 0 depth
      (condition_code (program_layout other) tree)
      (condition_level (program_layout other) tree small)

  while_line : (depth : ℕ) (tree : Tree) (end : ℕ) → IsSmall tree →
      IsLevelAt depth (While tree end)
  unfolding line_code
  while_line depth tree end small = while_level (program_layout other) tree 0 small

  for_line : (depth nest : ℕ) (first last : Tree) (up : Bool) (end : ℕ) → IsSmall first →
      IsSmaller last → IsLevelAt depth (For nest first last up end)
  unfolding line_code
  for_line depth nest first last up end small smaller =
      let layout = program_layout other in
      let test = none_code layout up first last in
      let stay = instr.Jz 0 (0 + length test + 2) in
      both test (stay ∷ instr.Jmp 0 ∷ first_code layout nest first)
      (none_level layout up first last small smaller)
      (more stay (instr.Jmp 0 ∷ first_code layout nest first) 0 refl (omega arith)
      (more (instr.Jmp 0) (first_code layout nest first) 0 refl (omega arith)
      (first_level layout nest first small)))

  else_line : (depth : ℕ) → IsLevelAt depth Else
  unfolding line_code
  else_line depth = others_level (program_layout other) depth

  empty_line : (depth : ℕ) → IsLevelAt depth EndIf
  unfolding line_code
  empty_line depth = refl

  jump_line : (depth begin : ℕ) → IsLevelAt depth (EndWhile begin)
  unfolding line_code
  jump_line depth begin = more (instr.Jmp 0) [] 0 refl (omega arith) refl

  turn_line : (depth begin : ℕ) → BoundIsSmall (statement_at other begin) →
      IsLevelAt depth (EndFor begin)
  unfolding line_code
  turn_line depth begin smaller =
      end_level (program_layout other) (λ j. 0) begin (statement_at other begin) smaller

  abbrev base : ℕ
  base = length program.privates

  has_small : (shape : ShapeData) → has_room 0 shape ≡ true → shape.need ≤ 3
  has_small shape e = let f = leb-true (0 + shape.need) 3 e in omega (arith, f)

  -- what three registers are enough for, but for the end of a `for`
  abbrev Fitting : Statement → Type 0
  Fitting (Assign (Private x) tree) = IsSmall tree
  Fitting (Assign (Shared array index) tree) =
      IsSmall tree × (registers_taken (shape_of tree) + (shape_of index).need ≤ 3)
  Fitting (If tree) = IsSmall tree
  Fitting (While tree end) = IsSmall tree
  Fitting (For nest first last up end) = IsSmall first × IsSmaller last
  Fitting statement = Unit {0}

  abbrev AreFitting : List Tree × Statement → Type 0
  AreFitting parts = All IsSmall parts.0 × Fitting parts.1

  whole_fits : (statement : Statement) → fits statement ≡ true → Fitting statement
  whole_fits (Assign (Private x) tree) e = has_small (shape_of tree) e
  whole_fits (Assign (Shared array index) tree) e =
      let parts = and_both (has_room 0 (shape_of tree))
      (has_room (registers_taken (shape_of tree)) (shape_of index)) e in (
        has_small (shape_of tree) parts.0,
        leb-true (registers_taken (shape_of tree) + (shape_of index).need) 3 parts.1,
      )
  whole_fits (If tree) e = has_small (shape_of tree) e
  whole_fits Else e = tt
  whole_fits EndIf e = tt
  whole_fits (While tree end) e = has_small (shape_of tree) e
  whole_fits (EndWhile begin) e = tt
  whole_fits (For nest first last up end) e =
      let parts = and_both (has_room 0 (shape_of first)) (has_room 1 (shape_of last)) e in
      (has_small (shape_of first) parts.0, leb-true (1 + (shape_of last).need) 3 parts.1)
  whole_fits (EndFor begin) e = tt

  split_fits : (statement : Statement) → AreFitting (split_statement program statement)
  split_fits (Assign (Private x) tree) = split_are_small false base tree
  split_fits (Assign (Shared array index) tree) =
      by_room (has_room (registers_taken (shape_of (split false base tree).1)) (shape_of index)) refl
    where
      by_room : (room : Bool) →
          has_room (registers_taken (shape_of (split false base tree).1)) (shape_of index) ≡ room →
          AreFitting (let parts = beside false base room (split false base tree)
          (split false (base + length (split false base tree).0) index) in
          (parts.0, Assign (Shared array parts.2) parts.1))
      by_room true on =
          let value = split false base tree in
          let u : ℕ = base + length value.0 in
          let one = split_are_small false base tree in
          let other_one = split_are_small false u index in
          let room = leb-true (registers_taken (shape_of value.1) + (shape_of index).need) 3 on in
          let whole = split_small false u index (omega (arith, room)) in
          let same = ap (λ (s : List Tree × Tree). (shape_of s.1).need) whole in (
            All-append IsSmall value.0 (split false u index).0 one.0 other_one.0,
            (one.1, omega (arith, room, same)),
          )
      by_room false off =
          let value = split false base tree in
          let u : ℕ = base + length value.0 in
          let right = split false u index in
          let one = split_are_small false base tree in
          let other_one = split_are_small false u index in
          let few = taken_few (shape_of value.1) in (
            All-append IsSmall value.0 (right.0 ++ right.1 ∷ []) one.0
                (All-append IsSmall right.0 (right.1 ∷ []) other_one.0
                (All-cons IsSmall right.1 [] other_one.1 (All-nil IsSmall))),
            (one.1, omega (arith, few)),
          )
  split_fits (If tree) = split_are_small false base tree
  split_fits Else = (All-nil IsSmall, tt)
  split_fits EndIf = (All-nil IsSmall, tt)
  split_fits (While tree end) = split_are_small true program.loops tree
  split_fits (EndWhile begin) = (All-nil IsSmall, tt)
  split_fits (For nest first last up end) =
      let high = split_last program.loops last in
      let u : ℕ = program.loops + length high.0 in
      let one = last_is_small program.loops last in
      let other_one = split_are_small true u first in (
        All-append IsSmall high.0 (split true u first).0 one.0 other_one.0,
        (other_one.1, one.1),
      )
  split_fits (EndFor begin) = (All-nil IsSmall, tt)

  by_fits : (statement : Statement) (level : Bool) → fits statement ≡ level →
      AreFitting (if level then ([], statement) else split_statement program statement)
  by_fits statement true e = (All-nil IsSmall, whole_fits statement e)
  by_fits statement false e = split_fits statement

  bound_fits : (opener : Statement) (level : Bool) →
      All IsSmall (if level then [] else last_pieces program opener)
  bound_fits opener true = All-nil IsSmall
  bound_fits (For nest first last up end) false = (last_is_small program.loops last).0
  bound_fits (Assign target tree) false = All-nil IsSmall
  bound_fits (If tree) false = All-nil IsSmall
  bound_fits Else false = All-nil IsSmall
  bound_fits EndIf false = All-nil IsSmall
  bound_fits (While tree end) false = All-nil IsSmall
  bound_fits (EndWhile begin) false = All-nil IsSmall
  bound_fits (EndFor begin) false = All-nil IsSmall

  parts_fit : (statement : Statement) → AreFitting (statement_parts program statement)
  parts_fit (Assign target tree) =
      by_fits (Assign target tree) (fits (Assign target tree)) refl
  parts_fit (If tree) = by_fits (If tree) (fits (If tree)) refl
  parts_fit Else = (All-nil IsSmall, tt)
  parts_fit EndIf = (All-nil IsSmall, tt)
  parts_fit (While tree end) = by_fits (While tree end) (fits (While tree end)) refl
  parts_fit (EndWhile begin) = (All-nil IsSmall, tt)
  parts_fit (For nest first last up end) =
      by_fits (For nest first last up end) (fits (For nest first last up end)) refl
  parts_fit (EndFor begin) =
      (bound_fits (statement_at program begin) (fits (statement_at program begin)), tt)

  -- ---- bounds of flat lines

  fitting_bound : (statement : Statement) → Fitting statement →
      BoundIsSmall (moved_statement program statement)
  fitting_bound (Assign target tree) is = tt
  fitting_bound (If tree) is = tt
  fitting_bound Else is = tt
  fitting_bound EndIf is = tt
  fitting_bound (While tree end) is = tt
  fitting_bound (EndWhile begin) is = tt
  fitting_bound (For nest first last up end) is = is.1
  fitting_bound (EndFor begin) is = tt

  giving_bound : (common : Bool) (end t : ℕ) (piece : Tree) →
      BoundIsSmall (giving common end t piece)
  giving_bound true end t piece = omega arith
  giving_bound false end t piece = tt

  abbrev HasBound : Line → Type 0
  HasBound line = BoundIsSmall line.statement

  hidden_bounds : (end : ℕ) (line : Line) (t : ℕ) (pieces : List Tree) →
      All HasBound (hidden end line t pieces)
  hidden_bounds end line t [] = All-nil HasBound
  hidden_bounds end line t (piece ∷ pieces) = All-cons HasBound
      (record line { statement = giving (is_for_all line.statement) end t piece })
      (hidden end line (t + 1) pieces)
      (giving_bound (is_for_all line.statement) end t piece)
      (hidden_bounds end line (t + 1) pieces)

  line_bounds : (line : Line) → All HasBound (lines_for program line)
  unfolding lines_for
  line_bounds line = All-append HasBound (hidden_for program line) (last_line program line ∷ [])
      (hidden_bounds (last_of program 0) line (base_of program line.statement)
      (pieces_of program line))
      (All-cons HasBound (last_line program line) []
      (fitting_bound (line_parts program line).1 (parts_fit line.statement).1)
      (All-nil HasBound))

  bound_at : (j : ℕ) (o : Option Line) → slice_get other.lines j ≡ o →
      BoundIsSmall (elim o as (λ (x : Option Line). Statement)
      [ None ↦ EndIf | Some line ↦ line.statement ])
  bound_at j None e = tt
  bound_at j (Some line) e =
      let at = located (lines_for program) program.lines j line e in
      all_at HasBound (lines_for program at.line) at.k line (line_bounds at.line) at.here

  -- ---- flat lines are level

  fitting_level : (depth : ℕ) (statement : Statement) → Fitting statement →
      IsLevelAt depth (moved_statement program statement)
  fitting_level depth (Assign (Private x) tree) is = private_line depth x tree is
  fitting_level depth (Assign (Shared array index) tree) is =
      shared_line depth array index tree is.0 is.1
  fitting_level depth (If tree) is = if_line depth tree is
  fitting_level depth Else is = else_line depth
  fitting_level depth EndIf is = empty_line depth
  fitting_level depth (While tree end) is = while_line depth tree (last_of program end) is
  fitting_level depth (EndWhile begin) is = jump_line depth (first_flat_of program begin)
  fitting_level depth (For nest first last up end) is =
      for_line depth nest first last up (last_of program end) is.0 is.1
  fitting_level depth (EndFor begin) is = turn_line depth (last_of program begin)
      (bound_at (last_of program begin) (slice_get other.lines (last_of program begin)) refl)

  giving_level : (common : Bool) (depth end t : ℕ) (piece : Tree) → IsSmall piece →
      IsLevelAt depth (giving common end t piece)
  giving_level true depth end t piece small =
      for_line depth t piece (number 0) false end small (omega arith)
  giving_level false depth end t piece small = private_line depth t piece small

  abbrev Level : Line → Type 0
  Level line = is_level other line ≡ true

  hidden_level : (end : ℕ) (line : Line) (t : ℕ) (pieces : List Tree) → All IsSmall pieces →
      All Level (hidden end line t pieces)
  hidden_level end line t [] are = All-nil Level
  hidden_level end line t (piece ∷ pieces) are = All-cons Level
      (record line { statement = giving (is_for_all line.statement) end t piece })
      (hidden end line (t + 1) pieces)
      (giving_level (is_for_all line.statement) line.depth end t piece
      (all_at IsSmall (piece ∷ pieces) 0 piece are refl))
      (hidden_level end line (t + 1) pieces (All-tail IsSmall piece pieces are))

  line_level : (line : Line) → All Level (lines_for program line)
  unfolding lines_for
  line_level line =
      let parts = parts_fit line.statement in
      All-append Level (hidden_for program line) (last_line program line ∷ [])
      (hidden_level (last_of program 0) line (base_of program line.statement)
      (pieces_of program line) parts.0)
      (All-cons Level (last_line program line) []
      (fitting_level line.depth (line_parts program line).1 parts.1) (All-nil Level))

pub flat_level : FlatLinesAreLevel
flat_level program j line is =
    let at = located (lines_for program) program.lines j line is in
    all_at (λ l. is_level (flat program) l ≡ true) (lines_for program at.line) at.k line
    (line_level program at.line) at.here
