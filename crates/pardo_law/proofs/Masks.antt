-- Lines that work under a mask, for one processor.
use Rattle.std.proofs.Common.{◌≡◌, ℕ, zero, suc, ◌+◌, ◌*◌, ◌^◌, ◌<◌, ◌≤◌, ◌==◌, nat_lt, Bool, true}
use Rattle.std.proofs.Common.{false, not, ◌&&◌, List, [], ◌∷◌, ◌++◌, Option, Some, None}
use Rattle.std.proofs.Common.{refl, sym, ap, ◌∙◌, subst, arith, if◌then◌else◌, length}
use Rattle.std.proofs.Common.{length-append}
use Rattle.std.specs.Prelude.{is_some}
use Rattle.std.specs.Option.{option_map, option_and_then, is_none}
use Rattle.std.proofs.Math.Bool.{and-false, and-true}
use Rattle.std.proofs.lemmas.Bool.{eqb-true}
use Rattle.pram_job.specs.declared.instr.Array.{Array}
use Rattle.pram_job.specs.declared.instr.Instr.{Instr}
use Rattle.pram_job.specs.declared.instr.Instr.TheVariants.{Jmp, Eq, Lt}
use Rattle.pram_job.specs.declared.instr.Operand.TheVariants.{Register, Number}
use Rattle.pram_job.specs.Job.{JobData}
use Rattle.pardo_program.specs.Expression.{Tree}
use Rattle.pardo_program.specs.Lawful.{IsExpression, IsProgram, bounds_of}
use Rattle.pardo_program.specs.Operations.{bit}
use Rattle.pardo_program.specs.Program.{ProgramData}
use Rattle.pardo_flat.specs.Layouts.{ProgramLayoutData, program_layout, mask_cells}
use Rattle.pardo_job.specs.Lines.{no_code, masked, choosing, others, own_store, place_of}
use Rattle.pardo_job.specs.Lines.{condition_code}
use Rattle.pardo_job.specs.Meaning.{Source, value, is_active, losing}
use Rattle.pardo_job.specs.Operations.{is_shallow}
use Rattle.pardo_job.specs.Straight.{Registers, put, after_one, after_all}
use Rattle.pardo_job.specs.Values.{own_load}
use Rattle.pardo_job.proofs.Straight.{put_same, put_other}
use Rattle.pardo_job.proofs.Evaluating.{load_within}
use Rattle.pardo_law.specs.Locals.{Local, HasCodeAt, AreStraight}
use Rattle.pardo_law.proofs.Bodies.{IsThere, Arrives, ValueTo, there_moved, own_body, under, passes}
use Rattle.pardo_law.proofs.Bodies.{enters}
use Rattle.pardo_law.proofs.Bodies.{between, goes_around, goes_through, body_stands}
use Rattle.pardo_law.proofs.Lengths.{length-idle}
use Rattle.pardo_law.proofs.Making.{Makes, makes_out}
use Rattle.pardo_law.proofs.Picturing.{IsHere, Pictured, sees, layout_procs}
use Rattle.pardo_law.proofs.Straightness.{condition_straight}
use Rattle.pardo_law.proofs.Values.{decided, decided_to}

pub makes_map : (job : JobData) (memory : ℕ → ℕ) (i n : ℕ) (l : Local) (store : Option (ℕ × ℕ))
    (P Q : Local → Type 0) →
    ((x : Local) → P x → Q x) → Makes job memory i n l store P → Makes job memory i n l store Q
makes_map job memory i n l store P Q to c = record {
  mid = c.mid;
  runs = c.runs;
  named = c.named;
  stores = c.stores;
  goes = to _ c.goes;
}

-- in other words
pub makes_as : (job : JobData) (memory : ℕ → ℕ) (i n place : ℕ) (l other : Local)
    (store stored : Option (ℕ × ℕ))
    (g gone : Option ℕ) → l ≡ other → store ≡ stored → g ≡ gone →
    Makes job memory i n other stored (IsHere gone place i) →
    Makes job memory i n l store (IsHere g place i)
makes_as job memory i n place l other store stored g other_gone e f h c =
    subst (λ x. Makes job memory i n x store (IsHere g place i)) (sym e)
    (subst (λ x. Makes job memory i n other x (IsHere g place i)) (sym f)
    (subst (λ x. Makes job memory i n other stored (IsHere x place i)) (sym h) c))

pub length-under : (layout : ProgramLayoutData) (at depth : ℕ) (body : List Instr) →
    length (under layout at depth body) ≡ 4 + 2 * length body
length-under layout at depth body =
    let e = length-append (no_code (at + 3) (length body)) (Jmp (at + 4 + 2 * length body) ∷ body) in
    let f = length-idle (at + 3) (length body) in omega arith

length_one_more : (front : List Instr) (st : Instr) → length (front ++ st ∷ []) ≡ suc (length front)
length_one_more front st = let e = length-append front (st ∷ []) in omega arith

some_decided : (o : Option ℕ) → is_some o ≡ is_some (decided o)
some_decided None = refl
some_decided (Some v) = refl

-- ---- who is active

pub active_is : (source : Source) (depth i : ℕ) (m : Bool) → source.gone i ≡ None →
    source.masks depth i ≡ m →
    is_active source depth i ≡ m
active_is source depth i m there e = (λ k. e k && is_none (there k)) ∙ and-true m

pub gone_inactive : (source : Source) (depth i line : ℕ) → source.gone i ≡ Some line →
    is_active source depth i ≡ false
gone_inactive source depth i line e =
    ap (λ o. source.masks depth i && is_none o) e ∙ and-false (source.masks depth i)

pub still : (source : Source) (text_line depth i : ℕ) (has : ℕ → Bool) → is_active source depth i ≡
    false →
    losing text_line depth has source i ≡ source.gone i
still source text_line depth i has e =
    ap (λ t. if t && not (has i) then Some text_line else source.gone i) e

pub arrives_here : (A : Type 0) (source : Source) (text_line depth i place end : ℕ) (has : ℕ → Bool)
    (o : Option A) (l : Local) →
    has i ≡ is_some o → is_active source depth i ≡ true → source.gone i ≡ None → place ≡ end →
    Arrives place i o l → IsHere (losing text_line depth has source i) end i l
arrives_here A source text_line depth i place end has None l e active there same is =
    let lost : losing text_line depth has source i ≡ Some text_line =
    (λ k. if active k && not (e k) then Some text_line else source.gone i) in
    subst (λ g. IsHere g end i l) (sym lost) is
arrives_here A source text_line depth i place end has (Some v) l e active there same is =
    let kept : losing text_line depth has source i ≡ None =
    (λ k. if active k && not (e k) then Some text_line else there k) in
    subst (λ g. IsHere g end i l) (sym kept) (there_moved place end i l same is)

-- how many quiet steps an assignment has, by those of its body
abbrev pub quiet : ℕ → ℕ → ℕ
quiet depth n = if depth == 0 then n else suc (suc (suc n))

-- and a condition
abbrev pub quiet_choice : ℕ → ℕ → ℕ
quiet_choice depth n = if depth == 0 then n else suc (suc (n + 1))

module _ (program : ProgramData) (job : JobData) (of : IsProgram program) (source : Source)
    (memory : ℕ → ℕ) (locals : ℕ → Local)
    (pictured : Pictured program source memory locals) (fits : (cell : ℕ) → memory cell < 2 ^ 32)
    (i : ℕ) (lt : i < program.procs) where
  abbrev at : ℕ
  at = place_of program source.at

  low : i < (program_layout program).procs
  low = let e = layout_procs program in omega arith

  pub mask_at : (depth : ℕ) → (depth == 0) ≡ false → depth ≤ (program_layout program).choices →
      source.gone i ≡ None →
      memory ((mask_cells (program_layout program) depth).base + i) ≡ bit (source.masks depth i)
  mask_at zero e few there = absurd (let f : true ≡ false = e in cc)
  mask_at (suc d) e few there = pictured.masks d i (omega arith) lt there

  outermost : (depth : ℕ) → (depth == 0) ≡ true → source.masks depth i ≡ false → {A : Type 0} → A
  outermost depth e m =
      let zero_is : depth ≡ 0 = eqb-true depth 0 e in
      absurd (let f : true ≡ false = sym (pictured.all i) ∙ ap (λ d. source.masks d i) (sym zero_is)
      ∙ m in cc)

  -- ---- assignments

  module _ (A : Type 0) (depth text_line : ℕ) (front : List Instr) (st : Instr)
      (store : Option (ℕ × ℕ)) (o : Option A)
      (has : ℕ → Bool) (few : depth ≤ (program_layout program).choices)
      (has_is : source.gone i ≡ None → has i ≡ is_some o)
      (active : source.gone i ≡ None → (place : ℕ) (held : Registers) → held 3 ≡ i →
      HasCodeAt job place (front ++ st ∷ []) →
      Makes job memory i (length front) (Some (place, held)) store
      (Arrives (place + length front + 1) i o)) where
    abbrev body : List Instr
    body = front ++ st ∷ []

    abbrev code_by : Bool → List Instr
    code_by t = if t then body else under (program_layout program) at depth body

    abbrev steps_by : Bool → ℕ
    steps_by t = if t then length front else suc (suc (suc (length front)))

    abbrev gone_after : Option ℕ
    gone_after = losing text_line depth has source i

    abbrev store_after : Option (ℕ × ℕ)
    store_after = if is_active source depth i then store else None

    in_mask : (t : Bool) → (depth == 0) ≡ t → HasCodeAt job at (code_by t) → source.gone i ≡ None →
        source.masks depth i ≡ true → (held : Registers) → held 3 ≡ i →
        Makes job memory i (steps_by t) (Some (at, held)) store
        (IsHere gone_after (at + length (code_by t)) i)
    in_mask true e stands there m held own =
        let same : at + length front + 1 ≡ at + length body =
        (let f = length_one_more front st in omega arith) in
        makes_map job memory i (length front) (Some (at, held)) store _ _
        (λ l. arrives_here A source text_line depth i (at + length front + 1) (at + length body) has
        o l (has_is there)
        (active_is source depth i true there m) there same)
        (active there at held own stands)
    in_mask false e stands there m held own =
        let place : ℕ = at + 4 + length body in
        let same : place + length front + 1 ≡ at +
        length (under (program_layout program) at depth body) =
        (let f = length_one_more front st in let g =
        length-under (program_layout program) at depth body in omega arith) in
        enters job memory i (program_layout program) at depth body held stands own low
        (length front)
        store
        (IsHere gone_after (at + length (under (program_layout program) at depth body)) i)
        (mask_at depth e few there ∙ ap bit m)
        (λ now now_i. makes_map job memory i (length front) (Some (place, now)) store _ _
        (λ l. arrives_here A source text_line depth i (place + length front + 1)
        (at + length (under (program_layout program) at depth body)) has o l
        (has_is there) (active_is source depth i true there m) there same)
        (active there place now now_i
        (body_stands job memory i (program_layout program) at depth body
        held stands own low)))

    outside : (t : Bool) → (depth == 0) ≡ t → HasCodeAt job at (code_by t) → source.gone i ≡ None →
        source.masks depth i ≡ false → (held : Registers) → held 3 ≡ i →
        Makes job memory i (steps_by t) (Some (at, held)) None (IsThere (at + length (code_by t)) i)
    outside true e stands there m held own = outermost depth e m
    outside false e stands there m held own =
        makes_map job memory i (suc (suc (suc (length front)))) (Some (at, held)) None _ _
        (λ l. there_moved (at + 4 + 2 * length body)
        (at + length (under (program_layout program) at depth body)) i l
        (let g = length-under (program_layout program) at depth body in omega arith))
        (passes job memory i (program_layout program) at depth body held stands own low
        (length front)
        (length_one_more front st)
        (mask_at depth e few there ∙ ap bit m))

    by_mask : (t : Bool) → (depth == 0) ≡ t → HasCodeAt job at (code_by t) → (m : Bool) →
        source.masks depth i ≡ m →
        source.gone i ≡ None → IsThere at i (locals i) →
        Makes job memory i (steps_by t) (locals i) store_after
        (IsHere gone_after (at + length (code_by t)) i)
    by_mask t e stands true m there here =
        makes_as job memory i (steps_by t) (at + length (code_by t)) (locals i)
        (Some (at, here.held)) store_after store
        gone_after gone_after here.is
        (ap (λ a. if a then store else None) (active_is source depth i true there m)) refl
        (in_mask t e stands there m here.held here.own)
    by_mask t e stands false m there here =
        let inactive : is_active source depth i ≡ false = active_is source depth i false there m in
        makes_as job memory i (steps_by t) (at + length (code_by t)) (locals i)
        (Some (at, here.held)) store_after None
        gone_after None here.is (ap (λ a. if a then store else None) inactive)
        (still source text_line depth i has inactive ∙ there)
        (outside t e stands there m here.held here.own)

    by_gone : (t : Bool) → (depth == 0) ≡ t → HasCodeAt job at (code_by t) → (g : Option ℕ) →
        source.gone i ≡ g →
        IsHere g at i (locals i) →
        Makes job memory i (steps_by t) (locals i) store_after
        (IsHere gone_after (at + length (code_by t)) i)
    by_gone t e stands (Some line) gone here =
        let inactive : is_active source depth i ≡ false = gone_inactive source depth i line gone in
        makes_as job memory i (steps_by t) (at + length (code_by t)) (locals i) None store_after
        None gone_after (Some line) here
        (ap (λ a. if a then store else None) inactive)
        (still source text_line depth i has inactive ∙ gone)
        (makes_out job memory i (steps_by t) (IsHere (Some line) (at + length (code_by t)) i) refl)
    by_gone t e stands None gone here = by_mask t e stands (source.masks depth i) refl gone here

    pub masked_makes : HasCodeAt job at (masked (program_layout program) at depth body) →
        Makes job memory i (quiet depth (length front)) (locals i) store_after
        (IsHere gone_after (at + length (masked (program_layout program) at depth body)) i)
    unfolding masked
    masked_makes stands = by_gone (depth == 0) refl stands (source.gone i) refl (pictured.here i lt)

  -- ---- conditions

  module _ (depth text_line : ℕ) (tree : Tree) (is : IsExpression (bounds_of program) tree)
      (shallow : is_shallow (condition_code (program_layout program) tree) ≡ true)
      (few : depth + 1 ≤ (program_layout program).choices) where
    abbrev choice_body : List Instr
    choice_body = condition_code (program_layout program) tree

    abbrev mask : Array
    mask = mask_cells (program_layout program) (depth + 1)

    abbrev chosen_value : Option ℕ
    chosen_value = if is_none (source.gone i)
        then (if source.masks depth i then decided (value program source i tree) else Some 0) else
        None

    abbrev stored : Option ℕ → Option (ℕ × ℕ)
    stored o = option_map {U = ℕ × ℕ} (λ v. (mask.base + i, v)) o

    abbrev choice_code : Bool → List Instr
    choice_code t =
        (if t then choice_body else between (program_layout program) at depth choice_body) ++
        own_store mask ∷ []

    abbrev choice_steps : Bool → ℕ
    choice_steps t = if t then length choice_body else suc (suc (length choice_body + 1))

    abbrev choice_gone : Option ℕ
    choice_gone = losing text_line depth (λ j. is_some (value program source j tree)) source i

    mask_low : i < mask.len
    mask_low = low

    length-between : length (between (program_layout program) at depth choice_body) ≡ 4 + 2 *
        length choice_body
    length-between =
        let e = length-append choice_body
        (Jmp (at + 4 + 2 * length choice_body) ∷
        no_code (at + 3 + length choice_body) (length choice_body + 1)) in
        let f = length-idle (at + 3 + length choice_body) (length choice_body + 1) in omega arith

    through : (now : Registers) → source.gone i ≡ None → now 3 ≡ i →
        ValueTo memory i choice_body now (Register 0) (decided (value program source i tree))
    through now there now_i = decided_to program job of source memory i
        (sees program of source memory locals pictured fits i lt there)
        tree now now_i is shallow

    abbrev chosen : Option ℕ
    chosen = decided (value program source i tree)

    choice_in : (t : Bool) → (depth == 0) ≡ t → HasCodeAt job at (choice_code t) → source.gone i ≡
        None →
        source.masks depth i ≡ true → (held : Registers) → held 3 ≡ i →
        Makes job memory i (choice_steps t) (Some (at, held)) (stored chosen)
        (IsHere choice_gone (at + length (choice_code t)) i)
    choice_in true e stands there m held own =
        let same : at + length choice_body + 1 ≡ at + length (choice_body ++ own_store mask ∷ []) =
        (let f = length_one_more choice_body (own_store mask) in omega arith) in
        makes_map job memory i (length choice_body) (Some (at, held)) (stored chosen) _ _
        (λ l. arrives_here ℕ source text_line depth i (at + length choice_body + 1)
        (at + length (choice_body ++ own_store mask ∷ []))
        (λ j. is_some (value program source j tree)) chosen l
        (some_decided (value program source i tree))
        (active_is source depth i true there m) there same)
        (own_body job memory i at held choice_body mask (Register 0) chosen
        (condition_straight (program_layout program) tree) stands mask_low
        (through held there own))
    choice_in false e stands there m held own =
        let end : ℕ = at + 4 + 2 * length choice_body in
        let whole : List Instr = between (program_layout program) at depth choice_body ++
        own_store mask ∷ [] in
        let same : end + 1 ≡ at + length whole =
        (let f = length_one_more (between (program_layout program) at depth choice_body)
        (own_store mask) in
        let g = length-between in omega arith) in
        makes_map job memory i (suc (suc (length choice_body + 1))) (Some (at, held))
        (stored chosen) _ _
        (λ l. arrives_here ℕ source text_line depth i (end + 1) (at + length whole)
        (λ j. is_some (value program source j tree)) chosen l
        (some_decided (value program source i tree))
        (active_is source depth i true there m) there same)
        (goes_through job memory i (program_layout program) at depth choice_body held mask stands
        own low
        mask_low chosen
        (condition_straight (program_layout program) tree)
        (mask_at depth e (omega arith) there ∙ ap bit m) (λ now now_i. through now there now_i))

    choice_out : (t : Bool) → (depth == 0) ≡ t → HasCodeAt job at (choice_code t) → source.gone i ≡
        None →
        source.masks depth i ≡ false → (held : Registers) → held 3 ≡ i →
        Makes job memory i (choice_steps t) (Some (at, held)) (stored (Some 0))
        (IsThere (at + length (choice_code t)) i)
    choice_out true e stands there m held own = outermost depth e m
    choice_out false e stands there m held own =
        let end : ℕ = at + 4 + 2 * length choice_body in
        let whole : List Instr = between (program_layout program) at depth choice_body ++
        own_store mask ∷ [] in
        makes_map job memory i (suc (suc (length choice_body + 1))) (Some (at, held))
        (stored (Some 0)) _ _
        (λ l. there_moved (end + 1) (at + length whole) i l
        (let f = length_one_more (between (program_layout program) at depth choice_body)
        (own_store mask) in
        let g = length-between in omega arith))
        (goes_around job memory i (program_layout program) at depth choice_body held mask stands own
        low
        mask_low
        (mask_at depth e (omega arith) there ∙ ap bit m))

    choice_mask : (t : Bool) → (depth == 0) ≡ t → HasCodeAt job at (choice_code t) → (m : Bool) →
        source.masks depth i ≡ m →
        source.gone i ≡ None → IsThere at i (locals i) →
        Makes job memory i (choice_steps t) (locals i) (stored chosen_value)
        (IsHere choice_gone (at + length (choice_code t)) i)
    choice_mask t e stands true m there here =
        makes_as job memory i (choice_steps t) (at + length (choice_code t)) (locals i)
        (Some (at, here.held))
        (stored chosen_value) (stored chosen) choice_gone choice_gone here.is
        (λ k. stored (if is_none (there k) then (if m k then chosen else Some 0) else None)) refl
        (choice_in t e stands there m here.held here.own)
    choice_mask t e stands false m there here =
        makes_as job memory i (choice_steps t) (at + length (choice_code t)) (locals i)
        (Some (at, here.held))
        (stored chosen_value) (stored (Some 0)) choice_gone None here.is
        (λ k. stored (if is_none (there k) then (if m k then chosen else Some 0) else None))
        (still source text_line depth i (λ j. is_some (value program source j tree))
        (active_is source depth i false there m) ∙ there)
        (choice_out t e stands there m here.held here.own)

    choice_whole : (t : Bool) → (depth == 0) ≡ t → HasCodeAt job at (choice_code t) →
        (g : Option ℕ) → source.gone i ≡ g →
        IsHere g at i (locals i) →
        Makes job memory i (choice_steps t) (locals i) (stored chosen_value)
        (IsHere choice_gone (at + length (choice_code t)) i)
    choice_whole t e stands (Some line) gone here =
        makes_as job memory i (choice_steps t) (at + length (choice_code t)) (locals i) None
        (stored chosen_value) None
        choice_gone (Some line) here
        (ap (λ x. stored (if is_none x then (if source.masks depth i then chosen else Some 0) else
        None)) gone)
        (still source text_line depth i (λ j. is_some (value program source j tree))
        (gone_inactive source depth i line gone) ∙ gone)
        (makes_out job memory i (choice_steps t)
        (IsHere (Some line) (at + length (choice_code t)) i) refl)
    choice_whole t e stands None gone here =
        choice_mask t e stands (source.masks depth i) refl gone here

    pub choosing_makes : HasCodeAt job at (choosing (program_layout program) at depth choice_body) →
        Makes job memory i (quiet_choice depth (length choice_body)) (locals i)
        (stored chosen_value)
        (IsHere choice_gone (at + length (choosing (program_layout program) at depth choice_body))
        i)
    unfolding choosing
    choosing_makes stands = choice_whole (depth == 0) refl stands (source.gone i) refl
        (pictured.here i lt)

  -- ---- `else`

  module _ (depth : ℕ) (few : depth + 1 ≤ (program_layout program).choices) where
    abbrev inner : Array
    inner = mask_cells (program_layout program) (depth + 1)

    abbrev outer : Array
    outer = mask_cells (program_layout program) depth

    abbrev others_front : Bool → List Instr
    others_front t = own_load 0 inner ∷
        (if t then Eq 0 0 (Number 0) ∷ [] else own_load 1 outer ∷ Lt 0 0 (Register 1) ∷ [])

    abbrev other_value : Bool
    other_value = source.masks depth i && not (source.masks (depth + 1) i)

    inner_is : source.gone i ≡ None → memory (inner.base + i) ≡ bit (source.masks (depth + 1) i)
    inner_is there = let e : suc depth ≡ depth + 1 = omega arith in
        subst (λ n. memory ((mask_cells (program_layout program) n).base + i)
        ≡ bit (source.masks n i)) e
        (pictured.masks depth i (omega arith) lt there)

    load_inner : (held : Registers) → held 3 ≡ i → source.gone i ≡ None →
        after_one memory i (own_load 0 inner) held ≡
        Some (put 0 (bit (source.masks (depth + 1) i)) held)
    load_inner held own there = load_within memory i 0 i held inner (Register 3) own low
        ∙ ap (λ v. Some (put 0 v held)) (inner_is there)

    not_bit : (m : Bool) → bit (bit m == 0) ≡ bit (true && not m)
    not_bit true = refl
    not_bit false = refl

    less_bit : (a b : Bool) → bit (nat_lt (bit b) (bit a)) ≡ bit (a && not b)
    less_bit true true = refl
    less_bit true false = refl
    less_bit false true = refl
    less_bit false false = refl

    others_to : (t : Bool) → (depth == 0) ≡ t → source.gone i ≡ None → (held : Registers) → held 3 ≡
        i →
        ValueTo memory i (others_front t) held (Register 0) (Some (bit other_value))
    others_to true e there held own =
        let m : ℕ = bit (source.masks (depth + 1) i) in
        let first : Registers = put 0 m held in
        let all : source.masks depth i ≡ true =
        ap (λ d. source.masks d i) (eqb-true depth 0 e) ∙ pictured.all i in record {
          now = put 0 (bit (first 0 == 0)) first;
          runs = ap (option_and_then (after_all memory i (Eq 0 0 (Number 0) ∷ [])))
              (load_inner held own there);
          gives = put_same 0 (bit (first 0 == 0)) first ∙ ap (λ v. bit (v == 0)) (put_same 0 m held)
              ∙ not_bit (source.masks (depth + 1) i) ∙
              ap (λ a. bit (a && not (source.masks (depth + 1) i))) (sym all);
          own = put_other 0 (bit (first 0 == 0)) 3 first (λ x. omega arith) ∙
              put_other 0 m 3 held (λ x. omega arith) ∙ own;
        }
    others_to false e there held own =
        let m : ℕ = bit (source.masks (depth + 1) i) in
        let a : ℕ = bit (source.masks depth i) in
        let first : Registers = put 0 m held in
        let second : Registers = put 1 a first in
        let own_first : first 3 ≡ i = put_other 0 m 3 held (λ x. omega arith) ∙ own in
        let v : ℕ = bit (nat_lt (second 0) (second 1)) in record {
          now = put 0 v second;
          runs = ap (option_and_then (after_all memory i
              (own_load 1 outer ∷ Lt 0 0 (Register 1) ∷ []))) (load_inner held own there)
              ∙ ap (option_and_then (after_all memory i (Lt 0 0 (Register 1) ∷ [])))
              (load_within memory i 1 i first outer (Register 3) own_first low
              ∙ ap (λ x. Some (put 1 x first)) (mask_at depth e (omega arith) there));
          gives = put_same 0 v second
              ∙ (λ k. bit (nat_lt ((put_other 1 a 0 first (λ x. omega arith) ∙ put_same 0 m held) k)
              (put_same 1 a first k)))
              ∙ less_bit (source.masks depth i) (source.masks (depth + 1) i);
          own = put_other 0 v 3 second (λ x. omega arith) ∙ put_other 1 a 3 first (λ x. omega arith)
              ∙ own_first;
        }

    others_straight : (t : Bool) → AreStraight (others_front t)
    others_straight true = (tt, (tt, tt))
    others_straight false = (tt, (tt, (tt, tt)))

    abbrev else_value : Option ℕ
    else_value = if is_none (source.gone i) then Some (bit other_value) else None

    abbrev else_stored : Option ℕ → Option (ℕ × ℕ)
    else_stored o = option_map {U = ℕ × ℕ} (λ v. (inner.base + i, v)) o

    others_by : (t : Bool) → (depth == 0) ≡ t →
        HasCodeAt job at (others_front t ++ own_store inner ∷ []) →
        (g : Option ℕ) → source.gone i ≡ g → IsHere g at i (locals i) →
        Makes job memory i (length (others_front t)) (locals i) (else_stored else_value)
        (IsHere (source.gone i) (at + length (others_front t ++ own_store inner ∷ [])) i)
    others_by t e stands (Some line) gone here =
        makes_as job memory i (length (others_front t))
        (at + length (others_front t ++ own_store inner ∷ [])) (locals i) None
        (else_stored else_value) None (source.gone i) (Some line) here
        (ap (λ x. else_stored (if is_none x then Some (bit other_value) else None)) gone) gone
        (makes_out job memory i (length (others_front t))
        (IsHere (Some line) (at + length (others_front t ++ own_store inner ∷ [])) i) refl)
    others_by t e stands None gone here =
        makes_as job memory i (length (others_front t))
        (at + length (others_front t ++ own_store inner ∷ [])) (locals i) (Some (at, here.held))
        (else_stored else_value) (else_stored (Some (bit other_value))) (source.gone i) None here.is
        (ap (λ x. else_stored (if is_none x then Some (bit other_value) else None)) gone) gone
        (makes_map job memory i (length (others_front t)) (Some (at, here.held))
        (else_stored (Some (bit other_value))) _ _
        (λ l. there_moved (at + length (others_front t) + 1)
        (at + length (others_front t ++ own_store inner ∷ [])) i l
        (let f = length_one_more (others_front t) (own_store inner) in omega arith))
        (own_body job memory i at here.held (others_front t) inner (Register 0)
        (Some (bit other_value))
        (others_straight t) stands low (others_to t e gone here.held here.own)))

    pub others_makes : HasCodeAt job at (others (program_layout program) depth) →
        Makes job memory i (length (others_front (depth == 0))) (locals i) (else_stored else_value)
        (IsHere (source.gone i) (at + length (others (program_layout program) depth)) i)
    unfolding others
    others_makes stands = others_by (depth == 0) refl stands (source.gone i) refl
        (pictured.here i lt)
