-- What the straight pieces of lines leave to a processor, by the meaning.
use Rattle.std.proofs.Common.{◌≡◌, ℕ, ◌+◌, ◌-◌, ◌%◌, ◌^◌, ◌<◌, ◌≤◌, ◌==◌, nat_lt, Bool, true, false}
use Rattle.std.proofs.Common.{not, List, [], ◌∷◌, ◌++◌, Option, Some, None}
use Rattle.std.proofs.Common.{refl, sym, ap, ◌∙◌, subst, inl, inr, arith, if◌then◌else◌, length}
use Rattle.std.proofs.Common.{append_assoc, ◌⊎◌}
use Rattle.std.proofs.lemmas.Option.{none-some}
use Rattle.std.specs.Option.{option_map, option_and_then}
use Rattle.std.proofs.lemmas.Bool.{lt-ltb, le-ltb}
use Rattle.pram_job.specs.declared.instr.Array.{Array}
use Rattle.pram_job.specs.declared.instr.Instr.{Instr}
use Rattle.pram_job.specs.declared.instr.Instr.TheVariants.{St, Sub}
use Rattle.pram_job.specs.declared.instr.Operand.{Operand}
use Rattle.pram_job.specs.declared.instr.Operand.TheVariants.{Register}
use Rattle.pram_job.specs.declared.instr.Place.TheVariants.{Named}
use Rattle.pram_job.specs.Job.{JobData}
use Rattle.pardo_program.specs.Expression.{Tree}
use Rattle.pardo_program.specs.Lawful.{IsExpression, IsCommonTree, IsProgram, bounds_of}
use Rattle.pardo_program.specs.Operations.{bit}
use Rattle.pardo_program.specs.Program.{ProgramData}
use Rattle.pardo_flat.specs.Layouts.{ProgramLayoutData, program_layout, loop_cells, array_cells}
use Rattle.pardo_job.specs.Leaves.{DecidesTo}
use Rattle.pardo_job.specs.Lines.{condition_code, while_code, none_code, turn_code}
use Rattle.pardo_job.specs.Meaning.{Source, value, common_value, array_cell, write_of, has_none}
use Rattle.pardo_job.specs.Operations.{is_shallow, register_or_spare}
use Rattle.pardo_job.specs.Sees.{Sees}
use Rattle.pardo_job.specs.Straight.{Registers, put, operand_value, after_one, after_all}
use Rattle.pardo_job.specs.Values.{value_code, value_operand, takes, own_load}
use Rattle.pardo_job.proofs.Assigning.{both_code, BothTo, both_evaluate, HasIn}
use Rattle.pardo_job.proofs.Assigning.{while_evaluates, none_evaluates}
use Rattle.pardo_job.proofs.Deciding.{conditions_decide}
use Rattle.pardo_job.proofs.Evaluating.{Evaluated, EvaluatesTo, evaluates, load_within}
use Rattle.pardo_job.proofs.Evaluating.{none_after}
use Rattle.pardo_job.proofs.Meanings.{loops_are_common}
use Rattle.pardo_job.proofs.Shallow.{shallow_front, shallow_rest}
use Rattle.pardo_job.proofs.Straight.{put_same, put_other, after_front}
use Rattle.pardo_job.proofs.Trees.{lawful_tree}
use Rattle.pardo_law.specs.Locals.{Local, after_instr, local_store_by, HasCodeAt, AreStraight}
use Rattle.pardo_law.proofs.Bodies.{IsThere, Arrives, ValueTo, there_at, with_store}
use Rattle.pardo_law.proofs.Making.{Makes, makes_body}
use Rattle.pardo_law.proofs.Placing.{straight_append}
use Rattle.pardo_law.proofs.Rows.{place_is, place_outside}
use Rattle.pardo_law.proofs.Straightness.{value_straight}

value_from : (memory : ℕ → ℕ) (i : ℕ) (layout : ProgramLayoutData) (tree : Tree) (held : Registers)
    (o : Option ℕ) →
    held 3 ≡ i → EvaluatesTo memory i held layout 0 tree o →
    ValueTo memory i (value_code layout 0 tree) held (value_operand 0 tree) o
value_from memory i layout tree held None own_i e = e
value_from memory i layout tree held (Some v) own_i e = record {
  now = e.now;
  runs = e.runs;
  gives = e.gives;
  own = e.keeps 3 (inr refl) ∙ own_i;
}

-- a condition as 1 or 0
abbrev pub decided : Option ℕ → Option ℕ
decided o = option_map (λ v. bit (not (v == 0))) o

decided_from : (memory : ℕ → ℕ) (i : ℕ) (code : List Instr) (held : Registers) (o : Option ℕ) →
    held 3 ≡ i → DecidesTo memory i held code o →
    ValueTo memory i code held (Register 0) (decided o)
decided_from memory i code held None own_i e = e
decided_from memory i code held (Some v) own_i e = record {
  now = e.now;
  runs = e.runs;
  gives = e.gives;
  own = e.keeps ∙ own_i;
}

-- ---- what is common

-- all processors have the value, if there is one
pub common_is : (program : ProgramData) (source : Source) (tree : Tree) →
    IsCommonTree (bounds_of program) tree → (i : ℕ) →
    value program source i tree ≡ common_value program source tree
common_is program source tree is i = loops_are_common program source tree i 0 is.1

-- the end of a loop: its variable, and whether that is the last one
pub record HasTurn (memory : ℕ → ℕ) (i : ℕ) (held : Registers) (code : List Instr) (a b : ℕ) :
    Type 0 where
  pub now : Registers
  pub runs : after_all memory i code held ≡ Some now
  pub variable : now 0 ≡ a
  pub rest : now 1 ≡ (a + (2 ^ 32 - b)) % 2 ^ 32
  pub own : now 3 ≡ i
  pub low : a < 2 ^ 32
  pub last_low : b < 2 ^ 32

-- ---- one processor that is there

module _ (program : ProgramData) (job : JobData) (of : IsProgram program) (source : Source)
    (memory : ℕ → ℕ) (i : ℕ)
    (sees : Sees program (program_layout program) source memory i) where
  pub value_to : (tree : Tree) (held : Registers) → held 3 ≡ i →
      IsExpression (bounds_of program) tree →
      is_shallow (value_code (program_layout program) 0 tree) ≡ true →
      ValueTo memory i (value_code (program_layout program) 0 tree) held (value_operand 0 tree)
      (value program source i tree)
  value_to tree held own_i is shallow =
      value_from memory i (program_layout program) tree held (value program source i tree) own_i
      (evaluates program (program_layout program) source memory i sees tree 0 held own_i
      (lawful_tree program tree is) shallow)

  pub decided_to : (tree : Tree) (held : Registers) → held 3 ≡ i →
      IsExpression (bounds_of program) tree →
      is_shallow (condition_code (program_layout program) tree) ≡ true →
      ValueTo memory i (condition_code (program_layout program) tree) held (Register 0)
      (decided (value program source i tree))
  decided_to tree held own_i is shallow =
      decided_from memory i (condition_code (program_layout program) tree) held
      (value program source i tree) own_i
      (conditions_decide program (program_layout program) source memory i tree held sees own_i
      (lawful_tree program tree is) shallow)

  -- ---- a store to an array

  abbrev store_to : ℕ → Tree → Tree → Instr
  store_to array index tree = St (Named (array_cells (program_layout program) array)
      (value_operand (takes tree) index)) (value_operand 0 tree)

  -- by the place, if it is there
  by_cell : (at array a k : ℕ) (index tree : Tree) (now : Registers) (o : Option ℕ)
      (P : Local → Type 0) →
      array_cell program array k ≡ o → operand_value now (value_operand 0 tree) ≡ a →
      operand_value now (value_operand (takes tree) index) ≡ k →
      now 3 ≡ i →
      (local_store_by now (store_to array index tree) ≡ option_map (λ cell. (cell, a)) o)
      × Arrives (at + 1) i (option_map {U = ℕ × ℕ} (λ cell. (cell, a)) o)
      (after_instr job memory i at now (store_to array index tree))
  by_cell at array a k index tree now None P e first second own_i =
      let cells : Array = array_cells (program_layout program) array in
      let high : cells.len ≤ k = place_outside program of.arrays array k e in
      let idx : Operand = value_operand (takes tree) index in
      let no : nat_lt (operand_value now idx) cells.len ≡ false = ap (λ n. nat_lt n cells.len) second ∙
      le-ltb k cells.len high in (
        ap (λ b. if b then Some (
          cells.base + operand_value now idx,
          operand_value now (value_operand 0 tree),
        ) else None) no,
        ap (λ b. if b then Some (at + 1, now) else None) no,
      )
  by_cell at array a k index tree now (Some cell) P e first second own_i =
      let cells : Array = array_cells (program_layout program) array in
      let p = place_is program of.arrays array k cell e in
      let low : k < cells.len = p.within in
      let idx : Operand = value_operand (takes tree) index in
      let yes : nat_lt (operand_value now idx) cells.len ≡ true = ap (λ n. nat_lt n cells.len) second ∙
      lt-ltb k cells.len low in (
        ap (λ b. if b then Some (
          cells.base + operand_value now idx,
          operand_value now (value_operand 0 tree),
        ) else None) yes
            ∙ (λ j. Some ((ap (λ n. cells.base + n) second ∙ p.is) j, first j)),
        subst (IsThere (at + 1) i) (sym (ap (λ b. if b then Some (at + 1, now) else None) yes))
            (there_at (at + 1) i now own_i),
      )

  abbrev front_of : Tree → Tree → List Instr
  front_of tree index = both_code (program_layout program) tree index

  both_straight : (tree index : Tree) → AreStraight (front_of tree index)
  both_straight tree index = straight_append (value_code (program_layout program) 0 tree)
      (value_code (program_layout program) (takes tree) index)
      (value_straight (program_layout program) 0 tree)
      (value_straight (program_layout program) (takes tree) index)

  abbrev write_from : ℕ → Option ℕ → Option ℕ → Option (ℕ × ℕ)
  write_from array a b =
      option_and_then (λ v. option_map (λ cell. (cell, v))
      (option_and_then (array_cell program array) b)) a

  shared_by : (array at : ℕ) (index tree : Tree) (held : Registers) (a b : Option ℕ) →
      HasCodeAt job at (front_of tree index ++ store_to array index tree ∷ []) → held 3 ≡ i →
      BothTo memory i held (program_layout program) tree index a b →
      Makes job memory i (length (front_of tree index)) (Some (at, held)) (write_from array a b)
      (Arrives (at + length (front_of tree index) + 1) i (write_from array a b))
  shared_by array at index tree held None b stands own_i c =
      makes_body job memory i at held (front_of tree index) (store_to array index tree)
      (λ l. l ≡ None) None
      (both_straight tree index) stands tt c refl
  shared_by array at index tree held (Some a) None stands own_i c =
      makes_body job memory i at held (front_of tree index) (store_to array index tree)
      (λ l. l ≡ None) None
      (both_straight tree index) stands tt c refl
  shared_by array at index tree held (Some a) (Some b) stands own_i c =
      let n : ℕ = length (front_of tree index) in
      let o : Option ℕ = array_cell program array b in
      let w : Option (ℕ × ℕ) = option_map {U = ℕ × ℕ} (λ cell. (cell, a)) o in
      let by = by_cell (at + n) array a b index tree c.now o (λ l. l ≡ None) refl c.first_is
      c.second_is (c.keeps ∙ own_i) in
      with_store job memory i n (Some (at, held)) (Arrives (at + n + 1) i w)
      (local_store_by c.now (store_to array index tree)) w by.0
      (makes_body job memory i at held (front_of tree index) (store_to array index tree)
      (Arrives (at + n + 1) i w) (Some c.now)
      (both_straight tree index) stands tt c.runs by.1)

  pub shared_to : (array at : ℕ) (index tree : Tree) (held : Registers) →
      HasCodeAt job at (front_of tree index ++ store_to array index tree ∷ []) → held 3 ≡ i →
      IsExpression (bounds_of program) tree → IsExpression (bounds_of program) index →
      is_shallow (front_of tree index) ≡ true →
      Makes job memory i (length (front_of tree index)) (Some (at, held))
      (write_of program source array i index tree)
      (Arrives (at + length (front_of tree index) + 1) i
      (write_of program source array i index tree))
  shared_to array at index tree held stands own_i is is_too shallow =
      shared_by array at index tree held (value program source i tree)
      (value program source i index) stands own_i
      (both_evaluate program (program_layout program) source memory i sees tree index held own_i
      (lawful_tree program tree is) (lawful_tree program index is_too) shallow)

  -- ---- loops

  -- the code of an expression that all have, by its value
  common_to : (tree : Tree) (at : ℕ) (o : Option ℕ) (held : Registers) → held 3 ≡ i →
      IsCommonTree (bounds_of program) tree →
      is_shallow (value_code (program_layout program) at tree) ≡ true →
      common_value program source tree ≡ o →
      EvaluatesTo memory i held (program_layout program) at tree o
  common_to tree at o held own_i is shallow e =
      subst (EvaluatesTo memory i held (program_layout program) at tree)
      (common_is program source tree is i ∙ e)
      (evaluates program (program_layout program) source memory i sees tree at held own_i
      (lawful_tree program tree is.0) shallow)

  pub while_to : (tree : Tree) (v : ℕ) (held : Registers) → held 3 ≡ i →
      IsCommonTree (bounds_of program) tree →
      is_shallow (while_code (program_layout program) tree) ≡ true →
      common_value program source tree ≡ Some v →
      HasIn memory i held (while_code (program_layout program) tree)
      (register_or_spare 0 (value_operand 0 tree)) v
  unfolding while_code
  while_to tree v held own_i is shallow e =
      while_evaluates memory i v (program_layout program) tree held
      (common_to tree 0 (Some v) held own_i is
      (shallow_front (value_code (program_layout program) 0 tree) _ shallow) e)

  pub while_out : (tree : Tree) (held : Registers) → held 3 ≡ i →
      IsCommonTree (bounds_of program) tree →
      is_shallow (while_code (program_layout program) tree) ≡ true →
      common_value program source tree ≡ None →
      after_all memory i (while_code (program_layout program) tree) held ≡ None
  unfolding while_code
  while_out tree held own_i is shallow e =
      none_after memory i (value_code (program_layout program) 0 tree) _ held
      (common_to tree 0 None held own_i is
      (shallow_front (value_code (program_layout program) 0 tree) _ shallow) e)

  none_shallow : (up : Bool) (first last : Tree) →
      is_shallow (none_code (program_layout program) up first last) ≡ true →
      is_shallow (both_code (program_layout program) first last) ≡ true
  unfolding none_code
  none_shallow up first last shallow =
      shallow_front (both_code (program_layout program) first last) _
      (ap is_shallow (append_assoc (value_code (program_layout program) 0 first)
      (value_code (program_layout program) (takes first) last) _) ∙ shallow)

  common_both : (up : Bool) (first last : Tree) (held : Registers) (a b : Option ℕ) →
      held 3 ≡ i → IsCommonTree (bounds_of program) first →
      IsCommonTree (bounds_of program) last →
      is_shallow (none_code (program_layout program) up first last) ≡ true →
      common_value program source first ≡ a → common_value program source last ≡ b →
      BothTo memory i held (program_layout program) first last a b
  common_both up first last held a b own_i is is_too shallow e f =
      subst (λ x. BothTo memory i held (program_layout program) first last a x)
      (common_is program source last is_too i ∙ f)
      (subst (λ x. BothTo memory i held (program_layout program) first last x
      (value program source i last)) (common_is program source first is i ∙ e)
      (both_evaluate program (program_layout program) source memory i sees first last held own_i
      (lawful_tree program first is.0) (lawful_tree program last is_too.0)
      (none_shallow up first last shallow)))

  pub none_to : (up : Bool) (first last : Tree) (a b : ℕ) (held : Registers) → held 3 ≡ i →
      IsCommonTree (bounds_of program) first → IsCommonTree (bounds_of program) last →
      is_shallow (none_code (program_layout program) up first last) ≡ true →
      common_value program source first ≡ Some a → common_value program source last ≡ Some b →
      HasIn memory i held (none_code (program_layout program) up first last) 0
      (bit (has_none up a b))
  none_to up first last a b held own_i is is_too shallow e f =
      none_evaluates memory i a b (program_layout program) up first last held
      (common_both up first last held (Some a) (Some b) own_i is is_too shallow e f) shallow

  -- where the first or the last value is none
  pub none_out : (up : Bool) (first last : Tree) (held : Registers) → held 3 ≡ i →
      IsCommonTree (bounds_of program) first → IsCommonTree (bounds_of program) last →
      is_shallow (none_code (program_layout program) up first last) ≡ true →
      (common_value program source first ≡ None) ⊎ (common_value program source last ≡ None) →
      after_all memory i (none_code (program_layout program) up first last) held ≡ None
  unfolding none_code
  none_out up first last held own_i is is_too shallow lacks =
      ap (λ code. after_all memory i code held)
      (sym (append_assoc (value_code (program_layout program) 0 first)
      (value_code (program_layout program) (takes first) last) _))
      ∙ none_after memory i (both_code (program_layout program) first last) _ held
      (neither (common_value program source first) (common_value program source last) lacks
      (common_both up first last held (common_value program source first)
      (common_value program source last) own_i is is_too shallow refl refl))
    where
      neither : (a b : Option ℕ) → (a ≡ None) ⊎ (b ≡ None) →
          BothTo memory i held (program_layout program) first last a b →
          after_all memory i (both_code (program_layout program) first last) held ≡ None
      neither None b lacks c = c
      neither (Some a) None lacks c = c
      neither (Some a) (Some b) (inl e) c = absurd (none-some a (sym e))
      neither (Some a) (Some b) (inr e) c = absurd (none-some b (sym e))

  -- the variable of a loop is loaded first
  loop_loaded : (nest : ℕ) (held : Registers) → held 3 ≡ i →
      nest < (program_layout program).loops →
      after_one memory i (own_load 0 (loop_cells (program_layout program) nest)) held
      ≡ Some (put 0 (source.loops nest) held)
  loop_loaded nest held own_i low =
      load_within memory i 0 i held (loop_cells (program_layout program) nest) (Register 3) own_i
      sees.is_processor
      ∙ ap (λ v. Some (put 0 v held)) (sees.loops nest low)

  turn_shallow : (nest : ℕ) (last : Tree) →
      is_shallow (turn_code (program_layout program) nest last) ≡ true →
      is_shallow (value_code (program_layout program) 1 last) ≡ true
  unfolding turn_code
  turn_shallow nest last shallow =
      let front : List Instr = value_code (program_layout program) 1 last in
      let sub : Instr = Sub 1 0 (value_operand 1 last) in
      shallow_front front (sub ∷ [])
      (shallow_rest (own_load 0 (loop_cells (program_layout program) nest)) (front ++ sub ∷ [])
      shallow)

  pub turn_to : (nest : ℕ) (last : Tree) (b : ℕ) (held : Registers) → held 3 ≡ i →
      nest < (program_layout program).loops →
      IsCommonTree (bounds_of program) last →
      is_shallow (turn_code (program_layout program) nest last) ≡ true →
      common_value program source last ≡ Some b →
      HasTurn memory i held (turn_code (program_layout program) nest last) (source.loops nest) b
  unfolding turn_code
  turn_to nest last b held own_i low is shallow e =
      let a : ℕ = source.loops nest in
      let front : List Instr = value_code (program_layout program) 1 last in
      let sub : Instr = Sub 1 0 (value_operand 1 last) in
      let first : Registers = put 0 a held in
      let own_first : first 3 ≡ i = put_other 0 a 3 held (λ e. omega arith) ∙ own_i in
      let c : Evaluated memory i first (program_layout program) 1 last b =
      common_to last 1 (Some b) first own_first is (turn_shallow nest last shallow) e in
      let variable : c.now 0 ≡ a = c.keeps 0 (inl (omega arith)) ∙ put_same 0 a held in
      let end : Registers = put 1
      ((c.now 0 + (2 ^ 32 - operand_value c.now (value_operand 1 last))) % 2 ^
      32) c.now in record {
        now = end;
        runs = ap (option_and_then (after_all memory i (front ++ sub ∷ [])))
            (loop_loaded nest held own_i low)
            ∙ after_front memory i front (sub ∷ []) first c.now c.runs;
        variable = put_other 1 ((c.now 0 + (2 ^ 32 - operand_value c.now (value_operand 1 last))) % 2 ^
            32) 0 c.now (λ e. omega arith) ∙ variable;
        rest = put_same 1 ((c.now 0 + (2 ^ 32 - operand_value c.now (value_operand 1 last))) % 2 ^ 32)
            c.now
            ∙ (λ k. (variable k + (2 ^ 32 - c.gives k)) % 2 ^ 32);
        own = put_other 1 ((c.now 0 + (2 ^ 32 - operand_value c.now (value_operand 1 last))) % 2 ^ 32)
            3
            c.now (λ e. omega arith)
            ∙ c.keeps 3 (inr refl) ∙ own_first;
        low = subst (λ n. n < 2 ^ 32) (sees.loops nest low)
            (sees.fits ((loop_cells (program_layout program) nest).base + i));
        last_low = c.fits;
      }

  pub turn_out : (nest : ℕ) (last : Tree) (held : Registers) → held 3 ≡ i →
      nest < (program_layout program).loops →
      IsCommonTree (bounds_of program) last →
      is_shallow (turn_code (program_layout program) nest last) ≡ true →
      common_value program source last ≡ None →
      after_all memory i (turn_code (program_layout program) nest last) held ≡ None
  unfolding turn_code
  turn_out nest last held own_i low is shallow e =
      let first : Registers = put 0 (source.loops nest) held in
      let front : List Instr = value_code (program_layout program) 1 last in
      let sub : Instr = Sub 1 0 (value_operand 1 last) in
      ap (option_and_then (after_all memory i (front ++ sub ∷ [])))
      (loop_loaded nest held own_i low)
      ∙ none_after memory i front (sub ∷ []) first
      (common_to last 1 None first
      (put_other 0 (source.loops nest) 3 held (λ e. omega arith) ∙ own_i) is
      (turn_shallow nest last shallow) e)
