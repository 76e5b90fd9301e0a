-- Code that ends with a store to a processor's own cell, and the two ways through a mask.
use Rattle.std.proofs.Common.{◌≡◌, ℕ, suc, ◌+◌, ◌*◌, ◌<◌, ◌==◌, nat_lt, List, [], ◌∷◌, ◌++◌, Option}
use Rattle.std.proofs.Common.{Some, None}
use Rattle.std.proofs.Common.{refl, sym, ap, ◌∙◌, subst, arith, if◌then◌else◌, length}
use Rattle.std.proofs.Common.{length-append}
use Rattle.std.specs.Prelude.{slice_get}
use Rattle.std.specs.Option.{option_map}
use Rattle.std.proofs.lemmas.Bool.{lt-ltb}
use Rattle.pram_job.specs.declared.instr.Array.{Array}
use Rattle.pram_job.specs.declared.instr.Instr.{Instr}
use Rattle.pram_job.specs.declared.instr.Instr.TheVariants.{St, Jz, Jmp}
use Rattle.pram_job.specs.declared.instr.Operand.{Operand}
use Rattle.pram_job.specs.declared.instr.Operand.TheVariants.{Register}
use Rattle.pram_job.specs.Job.{JobData}
use Rattle.pardo_flat.specs.Layouts.{ProgramLayoutData, mask_cells}
use Rattle.pardo_job.specs.Lines.{no_code, own_store}
use Rattle.pardo_job.specs.Straight.{Registers, put, operand_value, after_one, after_all}
use Rattle.pardo_job.specs.Values.{own_place, own_load}
use Rattle.pardo_job.proofs.Straight.{put_other}
use Rattle.pardo_job.proofs.Evaluating.{load_within}
use Rattle.pardo_law.specs.Locals.{Local, standing_at, after_instr, local_store_by}
use Rattle.pardo_law.specs.Locals.{AreStraight, HasCodeAt}
use Rattle.pardo_law.proofs.Lengths.{length-idle}
use Rattle.pardo_law.proofs.Placing.{runs_to, stands_front, stands_back}
use Rattle.pardo_law.proofs.Idling.{runs_idle}
use Rattle.pardo_law.proofs.Making.{Makes, makes_then, makes_one, makes_last, makes_body, makes_out}

-- it stands at a place, and its last register is its own number
pub record IsThere (place i : ℕ) (l : Local) : Type 0 where
  pub held : Registers
  pub is : l ≡ Some (place, held)
  pub own : held 3 ≡ i

pub there_at : (place i : ℕ) (held : Registers) → held 3 ≡ i → IsThere place i (Some (place, held))
there_at place i held own = record { held = held; is = refl; own = own }

pub there_moved : (place other i : ℕ) (l : Local) → place ≡ other → IsThere place i l →
    IsThere other i l
there_moved place other i l e is = subst (λ n. IsThere n i l) e is

-- by whether there was a value
abbrev pub Arrives : {A : Type 0} → ℕ → ℕ → Option A → Local → Type 0
Arrives place i None l = l ≡ None
Arrives place i (Some v) l = IsThere place i l

-- straight code leaves a value in an operand
pub record HasValue (memory : ℕ → ℕ) (i : ℕ) (code : List Instr) (held : Registers)
    (operand : Operand) (v : ℕ) :
    Type 0 where
  pub now : Registers
  pub runs : after_all memory i code held ≡ Some now
  pub gives : operand_value now operand ≡ v
  pub own : now 3 ≡ i

abbrev pub ValueTo : (ℕ → ℕ) → ℕ → List Instr → Registers → Operand → Option ℕ → Type 0
ValueTo memory i code held operand None = after_all memory i code held ≡ None
ValueTo memory i code held operand (Some v) = HasValue memory i code held operand v

-- ---- a store to the own cell

own_goes : (cells : Array) (operand : Operand) (job : JobData) (memory : ℕ → ℕ) (i at : ℕ)
    (held : Registers) →
    held 3 ≡ i → i < cells.len →
    after_instr job memory i at held (St (own_place cells) operand) ≡ Some (at + 1, held)
own_goes cells operand job memory i at held own lt =
    ap (λ n. if nat_lt n cells.len then Some (at + 1, held) else None) own
    ∙ ap (λ b. if b then Some (at + 1, held) else None) (lt-ltb i cells.len lt)

own_stored : (cells : Array) (operand : Operand) (i v : ℕ) (held : Registers) →
    held 3 ≡ i → i < cells.len → operand_value held operand ≡ v →
    local_store_by held (St (own_place cells) operand) ≡ Some (cells.base + i, v)
own_stored cells operand i v held own lt gives =
    ap (λ n. if nat_lt n cells.len then Some (cells.base + n, operand_value held operand) else None)
    own
    ∙ ap (λ b. if b then Some (cells.base + i, operand_value held operand) else None)
    (lt-ltb i cells.len lt)
    ∙ ap (λ w. Some (cells.base + i, w)) gives

pub with_store : (job : JobData) (memory : ℕ → ℕ) (i n : ℕ) (l : Local) (P : Local → Type 0)
    (store other : Option (ℕ × ℕ)) → store ≡ other → Makes job memory i n l store P →
    Makes job memory i n l other P
with_store job memory i n l P store other e c = subst (λ x. Makes job memory i n l x P) e c

-- the code under a mask
abbrev pub under : ProgramLayoutData → ℕ → ℕ → List Instr → List Instr
under layout at depth body = own_load 0 (mask_cells layout depth) ∷ (Jz 0 (at + 3)
    ∷ (Jmp (at + 4 + length body)
    ∷ (no_code (at + 3) (length body) ++ (Jmp (at + 4 + 2 * length body) ∷ body))))

-- a condition under a mask, up to its store
abbrev pub between : ProgramLayoutData → ℕ → ℕ → List Instr → List Instr
between layout at depth body = own_load 0 (mask_cells layout depth) ∷ (Jz 0 (at + 3 + length body)
    ∷ (body ++ (Jmp (at + 4 + 2 * length body) ∷ no_code (at + 3 + length body) (length body + 1))))

module _ (job : JobData) (memory : ℕ → ℕ) (i : ℕ) where
  -- the last instruction of such code
  pub own_last : (at v : ℕ) (cells : Array) (operand : Operand) (held : Registers) →
      slice_get job.code at ≡ Some (St (own_place cells) operand) → held 3 ≡ i → i < cells.len →
      operand_value held operand ≡ v →
      Makes job memory i 0 (Some (at, held)) (Some (cells.base + i, v)) (IsThere (at + 1) i)
  own_last at v cells operand held stands own lt gives =
      with_store job memory i 0 (Some (at, held)) (IsThere (at + 1) i) _ _
      (own_stored cells operand i v held own lt gives)
      (makes_last job memory i at held (St (own_place cells) operand) (IsThere (at + 1) i) stands tt
      (subst (IsThere (at + 1) i) (sym (own_goes cells operand job memory i at held own lt))
      (there_at (at + 1) i held own)))

  pub own_body : (at : ℕ) (held : Registers) (front : List Instr) (cells : Array)
      (operand : Operand) (o : Option ℕ) →
      AreStraight front → HasCodeAt job at (front ++ St (own_place cells) operand ∷ []) →
      i < cells.len →
      ValueTo memory i front held operand o →
      Makes job memory i (length front) (Some (at, held)) (option_map (λ v. (cells.base + i, v)) o)
      (Arrives (at + length front + 1) i o)
  own_body at held front cells operand None straight stands lt leaves =
      makes_body job memory i at held front (St (own_place cells) operand) (λ l. l ≡ None) None
      straight stands tt leaves refl
  own_body at held front cells operand (Some v) straight stands lt leaves =
      let place : ℕ = at + length front + 1 in
      with_store job memory i (length front) (Some (at, held)) (IsThere place i) _ _
      (own_stored cells operand i v leaves.now leaves.own lt leaves.gives)
      (makes_body job memory i at held front (St (own_place cells) operand) (IsThere place i)
      (Some leaves.now)
      straight stands tt leaves.runs
      (subst (IsThere place i) (sym (own_goes cells operand job memory i (at + length front)
      leaves.now leaves.own lt))
      (there_at place i leaves.now leaves.own)))

  -- ---- the mask of the line comes into register 0

  pub loads_mask : (layout : ProgramLayoutData) (depth : ℕ) (held : Registers) (v : ℕ) → held 3 ≡ i →
      i < layout.procs →
      memory ((mask_cells layout depth).base + i) ≡ v →
      after_one memory i (own_load 0 (mask_cells layout depth)) held ≡ Some (put 0 v held)
  loads_mask layout depth held v own lt is =
      load_within memory i 0 i held (mask_cells layout depth) (Register 3) own lt ∙
      ap (λ w. Some (put 0 w held)) is

  put_own : (v : ℕ) (held : Registers) → held 3 ≡ i → put 0 v held 3 ≡ i
  put_own v held own = put_other 0 v 3 held (λ e. omega arith) ∙ own

  -- by a load of the mask, and a jump if it is 0
  makes_mask : (layout : ProgramLayoutData) (depth n at target v : ℕ) (held : Registers)
      (rest : List Instr)
      (store : Option (ℕ × ℕ)) (P : Local → Type 0) →
      HasCodeAt job at (own_load 0 (mask_cells layout depth) ∷ Jz 0 target ∷ rest) → held 3 ≡ i →
      i < layout.procs →
      memory ((mask_cells layout depth).base + i) ≡ v →
      Makes job memory i n (Some (if v == 0 then target else at + 1 + 1, put 0 v held)) store P →
      Makes job memory i (suc (suc n)) (Some (at, held)) store P
  makes_mask layout depth n at target v held rest store P stands own lt is c =
      makes_one job memory i (suc n) at held (own_load 0 (mask_cells layout depth)) store P stands.0
      tt refl
      (subst (λ l. Makes job memory i (suc n) l store P)
      (sym (ap (standing_at (at + 1)) (loads_mask layout depth held v own lt is)))
      (makes_one job memory i n (at + 1) (put 0 v held) (Jz 0 target) store P stands.1.0 tt refl c))

  -- ---- assignments

  module _ (layout : ProgramLayoutData) (at depth : ℕ) (body : List Instr) (held : Registers)
      (stands : HasCodeAt job at (under layout at depth body)) (own : held 3 ≡ i)
      (lt : i < layout.procs) where
    abbrev rest : List Instr
    rest = Jmp (at + 4 + length body) ∷
        (no_code (at + 3) (length body) ++ (Jmp (at + 4 + 2 * length body) ∷ body))

    back_stands : HasCodeAt job (at + 3)
        (no_code (at + 3) (length body) ++ (Jmp (at + 4 + 2 * length body) ∷ body))
    back_stands = let e : at + 1 + 1 + 1 ≡ at + 3 = omega arith in
        subst (λ k. HasCodeAt job k (no_code (at + 3) (length body) ++
        (Jmp (at + 4 + 2 * length body) ∷ body))) e stands.1.1.1

    last_stands : HasCodeAt job (at + 3 + length body) (Jmp (at + 4 + 2 * length body) ∷ body)
    last_stands = subst (λ k. HasCodeAt job (at + 3 + k) (Jmp (at + 4 + 2 * length body) ∷ body))
        (length-idle (at + 3) (length body))
        (stands_back job (at + 3) (no_code (at + 3) (length body))
        (Jmp (at + 4 + 2 * length body) ∷ body) back_stands)

    pub body_stands : HasCodeAt job (at + 4 + length body) body
    body_stands = let e : at + 3 + length body + 1 ≡ at + 4 + length body = omega arith in
        subst (λ k. HasCodeAt job k body) e last_stands.1

    pub passes : (k : ℕ) → length body ≡ suc k → memory ((mask_cells layout depth).base + i) ≡ 0 →
        Makes job memory i (suc (suc (suc k))) (Some (at, held)) None
        (IsThere (at + 4 + 2 * length body) i)
    passes k len is =
        let end : ℕ = at + 4 + 2 * length body in
        makes_mask layout depth (suc k) at (at + 3) 0 held rest None (IsThere end i) stands own lt
        is
        (subst (λ n. Makes job memory i n (Some (at + 3, put 0 0 held)) None (IsThere end i))
        (let e : length body + 0 ≡ suc k = omega arith in e)
        (makes_then job memory i (length body) 0 (Some (at + 3, put 0 0 held))
        (Some (at + 3 + length body, put 0 0 held)) None (IsThere end i)
        (runs_idle job memory i (put 0 0 held) (length body) (at + 3)
        (stands_front job (at + 3) (no_code (at + 3) (length body)) (Jmp end ∷ body) back_stands))
        (makes_last job memory i (at + 3 + length body) (put 0 0 held) (Jmp end) (IsThere end i)
        last_stands.0 tt
        (there_at end i (put 0 0 held) (put_own 0 held own)))))

    pub enters : (n : ℕ) (store : Option (ℕ × ℕ)) (P : Local → Type 0) →
        memory ((mask_cells layout depth).base + i) ≡ 1 →
        ((now : Registers) → now 3 ≡ i →
        Makes job memory i n (Some (at + 4 + length body, now)) store P) →
        Makes job memory i (suc (suc (suc n))) (Some (at, held)) store P
    enters n store P is each =
        makes_mask layout depth (suc n) at (at + 3) 1 held rest store P stands own lt is
        (makes_one job memory i n (at + 1 + 1) (put 0 1 held) (Jmp (at + 4 + length body)) store P
        stands.1.1.0 tt refl
        (each (put 0 1 held) (put_own 1 held own)))

  -- ---- conditions

  length-between : (layout : ProgramLayoutData) (at depth : ℕ) (body : List Instr) →
      length (between layout at depth body) ≡ 4 + 2 * length body
  length-between layout at depth body =
      let e = length-append body (Jmp (at + 4 + 2 * length body) ∷
      no_code (at + 3 + length body) (length body + 1)) in
      let f = length-idle (at + 3 + length body) (length body + 1) in omega arith

  module _ (layout : ProgramLayoutData) (at depth : ℕ) (body : List Instr) (held : Registers)
      (cells : Array)
      (whole : HasCodeAt job at (between layout at depth body ++ own_store cells ∷ []))
      (own : held 3 ≡ i) (lt : i < layout.procs) (low : i < cells.len) where
    abbrev skip : ℕ
    skip = at + 3 + length body

    abbrev end : ℕ
    end = at + 4 + 2 * length body

    stands : HasCodeAt job at (between layout at depth body)
    stands = stands_front job at (between layout at depth body) (own_store cells ∷ []) whole

    store_stands : slice_get job.code end ≡ Some (own_store cells)
    store_stands =
        let e : at + length (between layout at depth body) ≡ end =
        (let f = length-between layout at depth body in omega arith) in
        subst (λ n. slice_get job.code n ≡ Some (own_store cells)) e
        (stands_back job at (between layout at depth body) (own_store cells ∷ []) whole).0

    inner : HasCodeAt job (at + 1 + 1) (body ++ (Jmp end ∷ no_code skip (length body + 1)))
    inner = stands.1.1

    jump_stands : HasCodeAt job (at + 1 + 1 + length body) (Jmp end ∷ no_code skip (length body + 1))
    jump_stands = stands_back job (at + 1 + 1) body (Jmp end ∷ no_code skip (length body + 1)) inner

    idle_stands : HasCodeAt job skip (no_code skip (length body + 1))
    idle_stands = let e : at + 1 + 1 + length body + 1 ≡ skip = omega arith in
        subst (λ n. HasCodeAt job n (no_code skip (length body + 1))) e jump_stands.1

    -- a processor outside the mask stores 0
    pub goes_around : memory ((mask_cells layout depth).base + i) ≡ 0 →
        Makes job memory i (suc (suc (length body + 1))) (Some (at, held))
        (Some (cells.base + i, 0)) (IsThere (end + 1) i)
    goes_around is =
        makes_mask layout depth (length body + 1) at skip 0 held
        (body ++ (Jmp end ∷ no_code skip (length body + 1))) (Some (cells.base + i, 0))
        (IsThere (end + 1) i) stands own lt is
        (subst (λ n. Makes job memory i n (Some (skip, put 0 0 held)) (Some (cells.base + i, 0))
        (IsThere (end + 1) i))
        (let e : (length body + 1) + 0 ≡ length body + 1 = omega arith in e)
        (makes_then job memory i (length body + 1) 0 (Some (skip, put 0 0 held))
        (Some (skip + (length body + 1), put 0 0 held))
        (Some (cells.base + i, 0)) (IsThere (end + 1) i)
        (runs_idle job memory i (put 0 0 held) (length body + 1) skip idle_stands)
        (let e : end ≡ skip + (length body + 1) = omega arith in
        subst (λ n. Makes job memory i 0 (Some (n, put 0 0 held)) (Some (cells.base + i, 0))
        (IsThere (end + 1) i)) e
        (own_last end 0 cells (Register 0) (put 0 0 held) store_stands (put_own 0 held own) low
        refl))))

    -- one in it stores what the body gives, if that is something
    pub goes_through : (o : Option ℕ) → AreStraight body →
        memory ((mask_cells layout depth).base + i) ≡ 1 →
        ((now : Registers) → now 3 ≡ i → ValueTo memory i body now (Register 0) o) →
        Makes job memory i (suc (suc (length body + 1))) (Some (at, held))
        (option_map (λ v. (cells.base + i, v)) o)
        (Arrives (end + 1) i o)
    goes_through None straight is leaves =
        makes_mask layout depth (length body + 1) at skip 1 held
        (body ++ (Jmp end ∷ no_code skip (length body + 1))) None (λ l. l ≡ None) stands own lt is
        (makes_then job memory i (length body) 1 (Some (at + 1 + 1, put 0 1 held)) None None
        (λ l. l ≡ None)
        (runs_to job memory i body (at + 1 + 1) (put 0 1 held) None straight
        (stands_front job (at + 1 + 1) body (Jmp end ∷ no_code skip (length body + 1)) inner)
        (leaves (put 0 1 held) (put_own 1 held own)))
        (makes_out job memory i 1 (λ l. l ≡ None) refl))
    goes_through (Some v) straight is leaves =
        let found : HasValue memory i body (put 0 1 held) (Register 0) v =
        leaves (put 0 1 held) (put_own 1 held own) in
        makes_mask layout depth (length body + 1) at skip 1 held
        (body ++ (Jmp end ∷ no_code skip (length body + 1))) (Some (cells.base + i, v))
        (IsThere (end + 1) i) stands own lt is
        (makes_then job memory i (length body) 1 (Some (at + 1 + 1, put 0 1 held))
        (Some (at + 1 + 1 + length body, found.now))
        (Some (cells.base + i, v)) (IsThere (end + 1) i)
        (runs_to job memory i body (at + 1 + 1) (put 0 1 held) (Some found.now) straight
        (stands_front job (at + 1 + 1) body (Jmp end ∷ no_code skip (length body + 1)) inner)
        found.runs)
        (makes_one job memory i 0 (at + 1 + 1 + length body) found.now (Jmp end)
        (Some (cells.base + i, v)) (IsThere (end + 1) i)
        jump_stands.0 tt refl
        (own_last end v cells (Register 0) found.now store_stands found.own low found.gives)))
