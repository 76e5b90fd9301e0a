-- The lines of loops, for one processor.
use Rattle.std.proofs.Common.{◌≡◌, ◌≢◌, ℕ, ◌+◌, ◌-◌, ◌%◌, ◌^◌, ◌<◌, ◌==◌, Bool, true, false, List}
use Rattle.std.proofs.Common.{[], ◌∷◌, ◌++◌, Option, Some, None}
use Rattle.std.proofs.Common.{refl, sym, ap, ◌∙◌, subst, arith, if◌then◌else◌, length}
use Rattle.std.proofs.Common.{length-append}
use Rattle.std.specs.Option.{option_map, option_or, is_none}
use Rattle.std.proofs.lemmas.Bool.{eqb-true, eq-eqb, ne_eqb}
use Rattle.pram_job.specs.declared.instr.Instr.{Instr}
use Rattle.pram_job.specs.declared.instr.Instr.TheVariants.{St, Jz, Jmp}
use Rattle.pram_job.specs.declared.instr.Operand.TheVariants.{Register}
use Rattle.pram_job.specs.Job.{JobData}
use Rattle.pardo_program.specs.Expression.{Tree}
use Rattle.pardo_program.specs.Lawful.{IsCommonTree, IsProgram, bounds_of}
use Rattle.pardo_program.specs.Operations.{bit, operation_value}
use Rattle.pardo_program.specs.Program.{ProgramData}
use Rattle.pardo_flat.specs.Layouts.{program_layout, loop_cells}
use Rattle.pardo_job.specs.Lines.{while_code, none_code, first_code, turn_code, next_value}
use Rattle.pardo_job.specs.Lines.{own_store, place_of}
use Rattle.pardo_job.specs.Meaning.{Source, common_value, has_none, next_turn}
use Rattle.pardo_job.specs.Operations.{is_shallow, register_or_spare}
use Rattle.pardo_job.specs.Straight.{Registers, put, after_all}
use Rattle.pardo_job.specs.Values.{value_code, value_operand, own_place}
use Rattle.pardo_job.proofs.Assigning.{HasIn}
use Rattle.pardo_job.proofs.Straight.{put_same, put_other}
use Rattle.pardo_law.specs.Locals.{Local, HasCodeAt, AreStraight, after_instr, local_store_by}
use Rattle.pardo_law.specs.Locals.{NamesByArray}
use Rattle.pardo_law.proofs.Bodies.{IsThere, ValueTo, there_at, own_body, own_last}
use Rattle.pardo_law.proofs.Making.{Makes, Goes, makes_out, goes_out, makes_one, goes_one}
use Rattle.pardo_law.proofs.Making.{makes_then, goes_then, goes_here}
use Rattle.pardo_law.proofs.Masks.{makes_as}
use Rattle.pardo_law.proofs.Picturing.{IsHere, Pictured, sees, layout_procs}
use Rattle.pardo_law.proofs.Placing.{runs_to, stands_front, stands_back}
use Rattle.pardo_law.proofs.Straightness.{while_straight, none_straight, turn_straight}
use Rattle.pardo_law.proofs.Straightness.{value_straight}
use Rattle.pardo_law.proofs.Values.{value_to, while_to, none_to, HasTurn, turn_to, common_is}

goes_as : (job : JobData) (memory : ℕ → ℕ) (i n place : ℕ) (l other : Local) (g gone : Option ℕ) → l
    ≡ other → g ≡ gone →
    Goes job memory i n other (IsHere gone place i) → Goes job memory i n l (IsHere g place i)
goes_as job memory i n place l other g other_gone e h c =
    subst (λ x. Goes job memory i n x (IsHere g place i)) (sym e)
    (subst (λ x. Goes job memory i n other (IsHere x place i)) (sym h) c)

goes_map : (job : JobData) (memory : ℕ → ℕ) (i n : ℕ) (l : Local) (P Q : Local → Type 0) →
    ((x : Local) → P x → Q x) → Goes job memory i n l P → Goes job memory i n l Q
goes_map job memory i n l P Q to c = record { now = c.now; runs = c.runs; goes = to c.now c.goes }

length_one : (front : List Instr) (one : Instr) → length (front ++ one ∷ []) ≡ length front + 1
length_one front one = let e = length-append front (one ∷ []) in omega arith

-- how far the variable of a loop is from its last value
rest_zero : (a b : ℕ) → a < 2 ^ 32 → a ≡ b → (a + (2 ^ 32 - b)) % 2 ^ 32 ≡ 0
rest_zero a b few same = omega arith

rest_more : (a b : ℕ) → a < 2 ^ 32 → b < 2 ^ 32 → a ≢ b → (a + (2 ^ 32 - b)) % 2 ^ 32 ≢ 0
rest_more a b few low ne zero_is = ne (omega arith)

next_named : (up : Bool) → NamesByArray (next_value up)
next_named true = tt
next_named false = tt

next_stores : (held : Registers) (up : Bool) → local_store_by held (next_value up) ≡ None
next_stores held true = refl
next_stores held false = refl

next_goes : (job : JobData) (memory : ℕ → ℕ) (i at : ℕ) (held : Registers) (up : Bool) →
    after_instr job memory i at held (next_value up) ≡
    Some (at + 1, put 0 (next_turn up (held 0)) held)
unfolding operation_value
next_goes job memory i at held true = refl
next_goes job memory i at held false = refl

-- where it does not jump
at_other : (out place : ℕ) (held : Registers) (t : Bool) (l : Local) → t ≡ false →
    l ≡ Some (if t then out else place, held) → l ≡ Some (place, held)
at_other out place held t l e same = same ∙ ap (λ (b : Bool). Some (if b then out else place, held)) e

-- a jump alone
pub jump_goes : (job : JobData) (memory : ℕ → ℕ) (i place target : ℕ) (rest : List Instr) →
    HasCodeAt job place (Jmp target ∷ rest) → (g : Option ℕ) (l : Local) → IsHere g place i l →
    Goes job memory i 1 l (IsHere g target i)
jump_goes job memory i place target rest stands (Some line) l here =
    subst (λ x. Goes job memory i 1 x (IsHere (Some line) target i)) (sym here)
    (goes_out job memory i 1 (IsHere (Some line) target i) refl)
jump_goes job memory i place target rest stands None l here =
    subst (λ x. Goes job memory i 1 x (IsThere target i)) (sym here.is)
    (goes_one job memory i 0 place here.held (Jmp target) (IsThere target i) stands.0 tt refl
    (goes_here job memory i (Some (target, here.held)) (IsThere target i)
    (there_at target i here.held here.own)))

module _ (program : ProgramData) (job : JobData) (of : IsProgram program) (source : Source)
    (memory : ℕ → ℕ) (locals : ℕ → Local)
    (pictured : Pictured program source memory locals) (fits : (cell : ℕ) → memory cell < 2 ^ 32)
    (i : ℕ) (lt : i < program.procs) where
  abbrev at : ℕ
  at = place_of program source.at

  low : i < (program_layout program).procs
  low = let e = layout_procs program in omega arith

  -- ---- straight code, and then a jump

  jumps : (place target register v : ℕ) (held now : Registers) (code rest : List Instr) →
      AreStraight code →
      HasCodeAt job place (code ++ Jz register target ∷ rest) → after_all memory i code held ≡
      Some now → now register ≡ v →
      now 3 ≡ i → Goes job memory i (length code + 1) (Some (place, held))
      (λ l. l ≡ Some (if v == 0 then target else place + length code + 1, now))
  jumps place target register v held now code rest straight stands runs gives own =
      goes_then job memory i (length code) 1 (Some (place, held)) (Some (place + length code, now))
      _
      (runs_to job memory i code place held (Some now) straight
      (stands_front job place code (Jz register target ∷ rest) stands) runs)
      (goes_one job memory i 0 (place + length code) now (Jz register target) _
      (stands_back job place code (Jz register target ∷ rest) stands).0 tt refl
      (goes_here job memory i _ _ (ap
      (λ x. Some (if x == 0 then target else place + length code + 1, now)) gives)))

  -- ---- a line without a value

  leaves_all : (place n : ℕ) (held : Registers) (code rest : List Instr) (P : Local → Type 0) →
      AreStraight code → HasCodeAt job place (code ++ rest) → after_all memory i code held ≡ None →
      P None → Goes job memory i (length code + n) (Some (place, held)) P
  leaves_all place n held code rest P straight stands runs p =
      goes_then job memory i (length code) n (Some (place, held)) None P
      (runs_to job memory i code place held None straight (stands_front job place code rest stands)
      runs) (goes_out job memory i n P p)

  pub all_out : (text_line place n : ℕ) (code rest : List Instr) → AreStraight code →
      HasCodeAt job at (code ++ rest) →
      ((held : Registers) → held 3 ≡ i → source.gone i ≡ None → after_all memory i code held ≡ None) →
      Goes job memory i (length code + n) (locals i)
      (IsHere (option_or (source.gone i) (Some text_line)) place i)
  all_out text_line place n code rest straight stands leaves =
      by_gone (source.gone i) refl (pictured.here i lt)
    where
      by_gone : (g : Option ℕ) → source.gone i ≡ g → IsHere g at i (locals i) →
          Goes job memory i (length code + n) (locals i)
          (IsHere (option_or (source.gone i) (Some text_line)) place i)
      by_gone (Some line) gone here =
          goes_as job memory i (length code + n) place (locals i) None
          (option_or (source.gone i) (Some text_line)) (Some line) here
          (ap (λ g. option_or g (Some text_line)) gone)
          (goes_out job memory i (length code + n) (IsHere (Some line) place i) refl)
      by_gone None gone here =
          goes_as job memory i (length code + n) place (locals i) (Some (at, here.held))
          (option_or (source.gone i) (Some text_line)) (Some text_line) here.is
          (ap (λ g. option_or g (Some text_line)) gone)
          (leaves_all at n here.held code rest (IsHere (Some text_line) place i) straight stands
          (leaves here.held here.own gone) refl)

  -- ---- `while`

  module _ (tree : Tree) (v target : ℕ) (is : IsCommonTree (bounds_of program) tree)
      (has : common_value program source tree ≡ Some v)
      (shallow : is_shallow (while_code (program_layout program) tree) ≡ true)
      (stands : HasCodeAt job at (while_code (program_layout program) tree ++
      Jz (register_or_spare 0 (value_operand 0 tree)) target ∷ [])) where
    abbrev test : List Instr
    test = while_code (program_layout program) tree

    abbrev after_while : ℕ
    after_while = if v == 0 then target else at + length test + 1

    while_by : (g : Option ℕ) → source.gone i ≡ g → IsHere g at i (locals i) →
        Goes job memory i (length test + 1) (locals i) (IsHere (source.gone i) after_while i)
    while_by (Some line) gone here =
        goes_as job memory i (length test + 1) after_while (locals i) None (source.gone i) (Some line)
        here gone
        (goes_out job memory i (length test + 1) (IsHere (Some line) after_while i) refl)
    while_by None gone here =
        let found : HasIn memory i here.held test (register_or_spare 0 (value_operand 0 tree)) v =
        while_to program job of source memory i
        (sees program of source memory locals pictured fits i lt gone) tree v here.held here.own is
        shallow has in
        let own_now : found.now 3 ≡ i = found.keeps ∙ here.own in
        goes_as job memory i (length test + 1) after_while (locals i) (Some (at, here.held))
        (source.gone i) None here.is gone
        (goes_map job memory i (length test + 1) (Some (at, here.held)) _ _
        (λ l e. subst (IsThere after_while i) (sym e) (there_at after_while i found.now own_now))
        (jumps at target (register_or_spare 0 (value_operand 0 tree)) v here.held found.now test []
        (while_straight (program_layout program) tree) stands found.runs found.gives own_now))

    pub while_goes : Goes job memory i (length test + 1) (locals i)
        (IsHere (source.gone i) after_while i)
    while_goes = while_by (source.gone i) refl (pictured.here i lt)

  -- ---- `for`

  module _ (nest : ℕ) (first last : Tree) (up : Bool) (a b target : ℕ)
      (nest_low : nest < (program_layout program).loops)
      (is : IsCommonTree (bounds_of program) first) (is_too : IsCommonTree (bounds_of program) last)
      (first_has : common_value program source first ≡ Some a)
      (last_has : common_value program source last ≡ Some b)
      (shallow : is_shallow (none_code (program_layout program) up first last) ≡ true)
      (first_shallow : is_shallow (value_code (program_layout program) 0 first) ≡ true)
      (stands : HasCodeAt job at (none_code (program_layout program) up first last
      ++ (Jz 0 (at + length (none_code (program_layout program) up first last) + 2) ∷ (Jmp target
      ∷ first_code (program_layout program) nest first)))) where
    abbrev asks_none : List Instr
    asks_none = none_code (program_layout program) up first last

    abbrev begins : List Instr
    begins = first_code (program_layout program) nest first

    abbrev turns_at : ℕ
    turns_at = at + length asks_none + 2

    abbrev none : Bool
    none = has_none up a b

    back_stands : HasCodeAt job (at + length asks_none) (Jz 0 turns_at ∷ (Jmp target ∷ begins))
    back_stands = stands_back job at asks_none (Jz 0 turns_at ∷ (Jmp target ∷ begins)) stands

    tested : (held : Registers) → held 3 ≡ i → source.gone i ≡ None →
        HasIn memory i held asks_none 0 (bit none)
    tested held own there = none_to program job of source memory i
        (sees program of source memory locals pictured fits i lt there)
        up first last a b held own is is_too shallow first_has last_has

    -- where there is no turn
    none_by : none ≡ true → (g : Option ℕ) → source.gone i ≡ g → IsHere g at i (locals i) →
        Goes job memory i (length asks_none + 1 + 1) (locals i) (IsHere (source.gone i) target i)
    none_by e (Some line) gone here =
        goes_as job memory i (length asks_none + 1 + 1) target (locals i) None (source.gone i)
        (Some line) here gone
        (goes_out job memory i (length asks_none + 1 + 1) (IsHere (Some line) target i) refl)
    none_by e None gone here =
        let found : HasIn memory i here.held asks_none 0 (bit none) =
        tested here.held here.own gone in
        let own_now : found.now 3 ≡ i = found.keeps ∙ here.own in
        let next : ℕ = at + length asks_none + 1 in
        let c = jumps at turns_at 0 1 here.held found.now asks_none (Jmp target ∷ begins)
        (none_straight (program_layout program) up first last)
        stands found.runs (found.gives ∙ ap bit e) own_now in
        goes_as job memory i (length asks_none + 1 + 1) target (locals i) (Some (at, here.held))
        (source.gone i) None here.is gone
        (goes_then job memory i (length asks_none + 1) 1 (Some (at, here.held)) c.now
        (IsThere target i) c.runs
        (subst (λ l. Goes job memory i 1 l (IsThere target i)) (sym c.goes)
        (goes_one job memory i 0 next found.now (Jmp target) (IsThere target i) back_stands.1.0 tt
        refl
        (goes_here job memory i (Some (target, found.now)) (IsThere target i)
        (there_at target i found.now own_now)))))

    pub none_goes : none ≡ true → Goes job memory i (length asks_none + 1 + 1) (locals i)
        (IsHere (source.gone i) target i)
    none_goes e = none_by e (source.gone i) refl (pictured.here i lt)

    -- where there is one
    abbrev first_value : Option ℕ
    first_value = if is_none (source.gone i) then Some a else None

    abbrev loop_stored : Option ℕ → Option (ℕ × ℕ)
    loop_stored o = option_map {U = ℕ × ℕ}
        (λ v. ((loop_cells (program_layout program) nest).base + i, v)) o

    abbrev first_front : List Instr
    first_front = value_code (program_layout program) 0 first

    abbrev for_end : ℕ
    for_end = turns_at + length first_front + 1

    first_stands : HasCodeAt job turns_at
        (first_front ++ St (own_place (loop_cells (program_layout program) nest))
        (value_operand 0 first) ∷
        [])
    unfolding first_code
    first_stands = let e : at + length asks_none + 1 + 1 ≡ turns_at = omega arith in
        subst (λ n. HasCodeAt job n begins) e back_stands.1.1

    turn_by : none ≡ false → (g : Option ℕ) → source.gone i ≡ g → IsHere g at i (locals i) →
        Makes job memory i ((length asks_none + 1) + length first_front) (locals i)
        (loop_stored first_value)
        (IsHere (source.gone i) for_end i)
    turn_by e (Some line) gone here =
        makes_as job memory i ((length asks_none + 1) + length first_front) for_end (locals i) None
        (loop_stored first_value) None
        (source.gone i) (Some line) here
        (ap (λ x. loop_stored (if is_none x then Some a else None)) gone) gone
        (makes_out job memory i ((length asks_none + 1) + length first_front)
        (IsHere (Some line) for_end i) refl)
    turn_by e None gone here =
        let found : HasIn memory i here.held asks_none 0 (bit none) =
        tested here.held here.own gone in
        let own_now : found.now 3 ≡ i = found.keeps ∙ here.own in
        let c = jumps at turns_at 0 0 here.held found.now asks_none (Jmp target ∷ begins)
        (none_straight (program_layout program) up first last)
        stands found.runs (found.gives ∙ ap bit e) own_now in
        let leaves : ValueTo memory i first_front found.now (value_operand 0 first) (Some a) =
        subst (ValueTo memory i first_front found.now (value_operand 0 first))
        (common_is program source first is i ∙ first_has)
        (value_to program job of source memory i
        (sees program of source memory locals pictured fits i lt gone) first found.now own_now
        is.0 first_shallow) in
        makes_as job memory i ((length asks_none + 1) + length first_front) for_end (locals i)
        (Some (at, here.held))
        (loop_stored first_value) (loop_stored (Some a)) (source.gone i) None here.is
        (ap (λ x. loop_stored (if is_none x then Some a else None)) gone) gone
        (makes_then job memory i (length asks_none + 1) (length first_front) (Some (at, here.held))
        c.now (loop_stored (Some a)) (IsThere for_end i) c.runs
        (subst (λ l. Makes job memory i (length first_front) l (loop_stored (Some a))
        (IsThere for_end i)) (sym c.goes)
        (own_body job memory i turns_at found.now first_front
        (loop_cells (program_layout program) nest)
        (value_operand 0 first) (Some a)
        (value_straight (program_layout program) 0 first) first_stands low leaves)))

    -- after the test, which tells of a turn
    turns_by : none ≡ false → (g : Option ℕ) → source.gone i ≡ g → IsHere g at i (locals i) →
        Goes job memory i (length asks_none + 1) (locals i) (IsHere (source.gone i) turns_at i)
    turns_by e (Some line) gone here =
        goes_as job memory i (length asks_none + 1) turns_at (locals i) None (source.gone i)
        (Some line) here gone
        (goes_out job memory i (length asks_none + 1) (IsHere (Some line) turns_at i) refl)
    turns_by e None gone here =
        let found : HasIn memory i here.held asks_none 0 (bit none) =
        tested here.held here.own gone in
        let own_now : found.now 3 ≡ i = found.keeps ∙ here.own in
        goes_as job memory i (length asks_none + 1) turns_at (locals i) (Some (at, here.held))
        (source.gone i) None here.is gone
        (goes_map job memory i (length asks_none + 1) (Some (at, here.held)) _ _
        (λ l same. subst (IsThere turns_at i) (sym same) (there_at turns_at i found.now own_now))
        (jumps at turns_at 0 0 here.held found.now asks_none (Jmp target ∷ begins)
        (none_straight (program_layout program) up first last)
        stands found.runs (found.gives ∙ ap bit e) own_now))

    pub turns_goes : none ≡ false →
        Goes job memory i (length asks_none + 1) (locals i) (IsHere (source.gone i) turns_at i)
    turns_goes e = turns_by e (source.gone i) refl (pictured.here i lt)

    pub turn_makes : none ≡ false →
        Makes job memory i ((length asks_none + 1) + length first_front) (locals i)
        (loop_stored first_value)
        (IsHere (source.gone i) for_end i)
    turn_makes e = turn_by e (source.gone i) refl (pictured.here i lt)

    pub for_end_is : at + length (asks_none ++ (Jz 0 turns_at ∷ (Jmp target ∷ begins))) ≡ for_end
    unfolding first_code
    for_end_is =
        let e = length-append asks_none (Jz 0 turns_at ∷ (Jmp target ∷ begins)) in
        let f = length_one first_front (St (own_place (loop_cells (program_layout program) nest))
        (value_operand 0 first)) in omega arith

  -- ---- the end of a `for`

  module _ (nest : ℕ) (last : Tree) (up : Bool) (b out again : ℕ)
      (nest_low : nest < (program_layout program).loops)
      (is : IsCommonTree (bounds_of program) last)
      (has : common_value program source last ≡ Some b)
      (shallow : is_shallow (turn_code (program_layout program) nest last) ≡ true)
      (stands : HasCodeAt job at (turn_code (program_layout program) nest last
      ++ (Jz 1 out ∷ (next_value up ∷
      (own_store (loop_cells (program_layout program) nest) ∷ (Jmp again ∷ [])))))) where
    abbrev turn : List Instr
    turn = turn_code (program_layout program) nest last

    abbrev tail : List Instr
    tail = next_value up ∷ (own_store (loop_cells (program_layout program) nest) ∷ (Jmp again ∷ []))

    abbrev a : ℕ
    a = source.loops nest

    end_stands : HasCodeAt job (at + length turn) (Jz 1 out ∷ tail)
    end_stands = stands_back job at turn (Jz 1 out ∷ tail) stands

    turned_to : (held : Registers) → held 3 ≡ i → source.gone i ≡ None →
        HasTurn memory i held turn a b
    turned_to held own there = turn_to program job of source memory i
        (sees program of source memory locals pictured fits i lt there)
        nest last b held own nest_low is shallow has

    last_by : (a == b) ≡ true → (g : Option ℕ) → source.gone i ≡ g → IsHere g at i (locals i) →
        Goes job memory i (length turn + 1) (locals i) (IsHere (source.gone i) out i)
    last_by e (Some line) gone here =
        goes_as job memory i (length turn + 1) out (locals i) None (source.gone i) (Some line) here
        gone
        (goes_out job memory i (length turn + 1) (IsHere (Some line) out i) refl)
    last_by e None gone here =
        let found = turned_to here.held here.own gone in
        let zero_is : found.now 1 ≡ 0 = found.rest ∙ rest_zero a b found.low (eqb-true a b e) in
        goes_as job memory i (length turn + 1) out (locals i) (Some (at, here.held)) (source.gone i)
        None here.is gone
        (goes_map job memory i (length turn + 1) (Some (at, here.held)) _ _
        (λ l same. subst (IsThere out i) (sym same) (there_at out i found.now found.own))
        (jumps at out 1 0 here.held found.now turn tail
        (turn_straight (program_layout program) nest last) stands found.runs zero_is found.own))

    pub last_goes : (a == b) ≡ true →
        Goes job memory i (length turn + 1) (locals i) (IsHere (source.gone i) out i)
    last_goes e = last_by e (source.gone i) refl (pictured.here i lt)

    -- where there is a turn more
    more_by : (a == b) ≡ false → (g : Option ℕ) → source.gone i ≡ g → IsHere g at i (locals i) →
        Goes job memory i (length turn + 1) (locals i)
        (IsHere (source.gone i) (at + length turn + 1) i)
    more_by e (Some line) gone here =
        goes_as job memory i (length turn + 1) (at + length turn + 1) (locals i) None
        (source.gone i) (Some line) here gone
        (goes_out job memory i (length turn + 1) (IsHere (Some line) (at + length turn + 1) i) refl)
    more_by e None gone here =
        let found = turned_to here.held here.own gone in
        let place : ℕ = at + length turn + 1 in
        let apart : a ≢ b = λ same. let f : true ≡ false = sym (eq-eqb a b same) ∙ e in
        absurd (cc) in
        let more : (found.now 1 == 0) ≡ false = ne_eqb (found.now 1) 0
        (λ zero_is. rest_more a b found.low found.last_low apart (sym found.rest ∙ zero_is)) in
        goes_as job memory i (length turn + 1) place (locals i) (Some (at, here.held))
        (source.gone i) None here.is gone
        (goes_map job memory i (length turn + 1) (Some (at, here.held)) _ _
        (λ l same. subst (IsThere place i)
        (sym (at_other out place found.now (found.now 1 == 0) l more same))
        (there_at place i found.now found.own))
        (jumps at out 1 (found.now 1) here.held found.now turn tail
        (turn_straight (program_layout program) nest last) stands found.runs refl found.own))

    pub more_goes : (a == b) ≡ false → Goes job memory i (length turn + 1) (locals i)
        (IsHere (source.gone i) (at + length turn + 1) i)
    more_goes e = more_by e (source.gone i) refl (pictured.here i lt)

    abbrev next_variable : Option ℕ
    next_variable = if is_none (source.gone i) then Some (next_turn up a) else None

    abbrev turn_stored : Option ℕ → Option (ℕ × ℕ)
    turn_stored o = option_map {U = ℕ × ℕ}
        (λ v. ((loop_cells (program_layout program) nest).base + i, v)) o

    abbrev stored_at : ℕ
    stored_at = at + length turn + 1 + 1 + 1

    again_by : (a == b) ≡ false → (g : Option ℕ) → source.gone i ≡ g → IsHere g at i (locals i) →
        Makes job memory i ((length turn + 1) + 1) (locals i) (turn_stored next_variable)
        (IsHere (source.gone i) stored_at i)
    again_by e (Some line) gone here =
        makes_as job memory i ((length turn + 1) + 1) stored_at (locals i) None
        (turn_stored next_variable) None
        (source.gone i) (Some line) here
        (ap (λ x. turn_stored (if is_none x then Some (next_turn up a) else None)) gone) gone
        (makes_out job memory i ((length turn + 1) + 1) (IsHere (Some line) stored_at i) refl)
    again_by e None gone here =
        let found = turned_to here.held here.own gone in
        let v : ℕ = next_turn up a in
        let place : ℕ = at + length turn + 1 in
        let apart : a ≢ b = λ same. let f : true ≡ false = sym (eq-eqb a b same) ∙ e in
        absurd (cc) in
        let more : (found.now 1 == 0) ≡ false = ne_eqb (found.now 1) 0
        (λ zero_is. rest_more a b found.low found.last_low apart (sym found.rest ∙ zero_is)) in
        let c = jumps at out 1 (found.now 1) here.held found.now turn tail
        (turn_straight (program_layout program) nest last) stands found.runs refl found.own in
        let came : c.now ≡ Some (place, found.now) = c.goes ∙
        ap (λ t. Some (if t then out else place, found.now)) more in
        let then_held : Registers = put 0 (next_turn up (found.now 0)) found.now in
        let own_then : then_held 3 ≡ i =
        put_other 0 (next_turn up (found.now 0)) 3 found.now (λ x. omega arith) ∙ found.own in
        let gives : then_held 0 ≡ v = put_same 0 (next_turn up (found.now 0)) found.now ∙
        ap (next_turn up) found.variable in
        makes_as job memory i ((length turn + 1) + 1) stored_at (locals i) (Some (at, here.held))
        (turn_stored next_variable) (turn_stored (Some v)) (source.gone i) None here.is
        (ap (λ x. turn_stored (if is_none x then Some v else None)) gone) gone
        (makes_then job memory i (length turn + 1) 1 (Some (at, here.held)) c.now
        (turn_stored (Some v)) (IsThere stored_at i) c.runs
        (subst (λ l. Makes job memory i 1 l (turn_stored (Some v)) (IsThere stored_at i)) (sym came)
        (makes_one job memory i 0 place found.now (next_value up) (turn_stored (Some v))
        (IsThere stored_at i) end_stands.1.0
        (next_named up) (next_stores found.now up)
        (subst (λ l. Makes job memory i 0 l (turn_stored (Some v)) (IsThere stored_at i))
        (sym (next_goes job memory i place found.now up))
        (own_last job memory i (place + 1) v (loop_cells (program_layout program) nest) (Register 0)
        then_held end_stands.1.1.0 own_then low gives)))))

    pub again_makes : (a == b) ≡ false →
        Makes job memory i ((length turn + 1) + 1) (locals i) (turn_stored next_variable)
        (IsHere (source.gone i) stored_at i)
    again_makes e = again_by e (source.gone i) refl (pictured.here i lt)

    pub jump_stands : HasCodeAt job stored_at (Jmp again ∷ [])
    jump_stands = end_stands.1.1.1
