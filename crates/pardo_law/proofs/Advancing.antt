-- A line of the program, and the steps of the job for it.
use Rattle.std.proofs.Common.{◌≡◌, ℕ, suc, ◌+◌, ◌-◌, ◌^◌, ◌<◌, ◌≤◌, ◌==◌, Bool, true, not}
use Rattle.std.proofs.Common.{false, ◌&&◌, List, [], ◌∷◌, ◌++◌, Option, Some, None, refl, sym, ap}
use Rattle.std.proofs.Common.{◌∙◌, subst, inl, inr, arith, if◌then◌else◌, length}
use Rattle.std.specs.Prelude.{is_some, unwrap_or}
use Rattle.std.specs.Option.{is_none, option_map, option_and_then}
use Rattle.std.proofs.lemmas.Bool.{ne_eqb, eq-eqb, cases_Bool}
use Rattle.std.proofs.lemmas.Option.{none-some, some_pair_parts}
use Rattle.pram_job.specs.declared.instr.Instr.{Instr}
use Rattle.pram_job.specs.declared.instr.Instr.TheVariants.{St, Eq, Lt}
use Rattle.pram_job.specs.declared.instr.Operand.TheVariants.{Register, Number}
use Rattle.pram_job.specs.declared.instr.Place.TheVariants.{Named}
use Rattle.pram_job.specs.Job.{JobData}
use Rattle.pardo_program.specs.declared.statement.Statement.TheVariants.{Assign}
use Rattle.pardo_program.specs.declared.statement.Target.TheVariants.{Array as Shared}
use Rattle.pardo_program.specs.Expression.{Tree}
use Rattle.pardo_program.specs.Lawful.{IsExpression, bounds_of}
use Rattle.pardo_program.specs.Operations.{bit}
use Rattle.pardo_program.specs.Program.{ProgramData}
use Rattle.pardo_flat.specs.Layouts.{program_layout, private_cells}
use Rattle.pardo_flat.specs.Layouts.{mask_cells}
use Rattle.pardo_flat.specs.Layouts.{array_cells}
use Rattle.pardo_job.specs.Lines.{masked, choosing, others, own_store, place_of}
use Rattle.pardo_job.specs.Lines.{condition_code}
use Rattle.pardo_job.specs.Meaning.{Source, value, is_active, is_true, losing, on_to}
use Rattle.pardo_job.specs.Meaning.{asked_in, write_of, private_assigned, shared_assigned, chosen}
use Rattle.pardo_job.specs.Meaning.{otherwise, array_cell, given_to}
use Rattle.pardo_job.specs.Meaning.{first_below}
use Rattle.pardo_job.specs.Operations.{is_shallow}
use Rattle.pardo_job.specs.Values.{value_code, value_operand, takes, own_place, own_load}
use Rattle.pardo_job.proofs.Assigning.{both_code}
use Rattle.pardo_law.specs.Locals.{Local, HasCodeAt, StandsAfter}
use Rattle.pardo_law.proofs.Bodies.{own_body, with_store}
use Rattle.pardo_law.proofs.Effects.{private_pictured, masks_pictured}
use Rattle.pardo_law.proofs.Effects.{there_before}
use Rattle.pardo_law.proofs.Cutting.{site, Below, PutOnly, StaysIn, Unchanged, made_in}
use Rattle.pardo_law.proofs.Making.{Makes, IsMade}
use Rattle.pardo_law.proofs.Masks.{quiet, quiet_choice, masked_makes, choosing_makes, others_makes}
use Rattle.pardo_law.proofs.Masks.{active_is}
use Rattle.pardo_law.proofs.Picturing.{IsOf, IsHere, Pictured, memory_fits, procs_are, procs_same}
use Rattle.pardo_law.proofs.Picturing.{layout_procs, shared_low, sees, row_low}
use Rattle.pardo_law.proofs.Rows.{own_stores, own_agree, after_apart, place_is}
use Rattle.pardo_law.proofs.Rows.{own_of, own_high, held_below}
use Rattle.pardo_law.proofs.Straightness.{value_straight}
use Rattle.pardo_law.proofs.Values.{decided, value_to, shared_to}
use Rattle.pardo_law.proofs.Carried.{StillBelow, here_below, place_low, still_all, AgreesIn, if_map, Advance}

module _ (program : ProgramData) (job : JobData) (of : IsOf program job) (source : Source) (t : ℕ)
    (memory : ℕ → ℕ)
    (locals : ℕ → Local) (standing : StandsAfter job t memory locals)
    (pictured : Pictured program source memory locals)
    (text_line depth : ℕ) (low : source.at < length program.lines)
    (hi : ℕ) (hi_low : hi ≤ length job.code) where
  abbrev at : ℕ
  at = place_of program source.at

  fits : (cell : ℕ) → memory cell < 2 ^ 32
  fits = memory_fits job t memory locals of.job_is standing

  few : (i : ℕ) → i < job.procs → i < program.procs
  few i lt = let e = procs_are program job of in omega arith

  many : (i : ℕ) → i < program.procs → i < job.procs
  many i lt = let e = procs_are program job of in omega arith

  bounded : (place i : ℕ) (g : Option ℕ) (l : Local) → place < length job.code →
      IsHere g place i l → Below at hi job l
  bounded place i g l lt here = here_below job at hi place i g l lt here

  next_low : source.at + 1 ≤ length program.lines
  next_low = omega arith

  -- stores to the own cells of a row go to no place of the program
  none_put : (u n row : ℕ) (values : ℕ → Option ℕ) →
      PutOnly job job.cells u n (own_stores (program_layout program) row values) →
      PutOnly job (program_layout program).shared u n (λ i. None)
  none_put u n row values puts k i cell value lt less below put =
      absurd (own_high (program_layout program) row i cell value values below
      (puts k i cell value lt less (shared_low program job of cell below) put))

  -- ---- `x := e`

  pub private_advances : (x : ℕ) (tree : Tree) → x < (program_layout program).privates →
      IsExpression (bounds_of program) tree →
      depth ≤ (program_layout program).choices →
      is_shallow (value_code (program_layout program) 0 tree) ≡ true →
      HasCodeAt (site at hi job) at (masked (program_layout program) at depth
      (value_code (program_layout program) 0 tree
      ++ St (own_place (private_cells (program_layout program) x)) (value_operand 0 tree) ∷ [])) →
      at + length (masked (program_layout program) at depth
      (value_code (program_layout program) 0 tree
      ++ St (own_place (private_cells (program_layout program) x)) (value_operand 0 tree) ∷ [])) ≡
      place_of program (source.at + 1) →
      Advance program job (λ i. None) (on_to (source.at + 1)
      (private_assigned program text_line depth x tree source)) t
      (suc (quiet depth (length (value_code (program_layout program) 0 tree)))) at hi
  private_advances x tree x_low is few_ifs shallow stands ends =
      let front : List Instr = value_code (program_layout program) 0 tree in
      let n : ℕ = quiet depth (length front) in
      let P : (ℕ → Local → Type 0) = λ i. IsHere
      (losing text_line depth (λ j. is_some (value program source j tree)) source i)
      (place_of program (source.at + 1)) i in
      let values : (ℕ → Option ℕ) = λ i. if is_active source depth i then value program source i
      tree else None in
      let done : IsMade job (suc (t + n)) memory (own_stores (program_layout program) x values) P ×
      StaysIn job at hi t (suc n) × Unchanged job t (suc n)
      × PutOnly job job.cells t (suc n) (own_stores (program_layout program) x values) =
      made_in job of.job_is at hi t n memory locals standing
      (own_stores (program_layout program) x values) P
      (λ i l. bounded (place_of program (source.at + 1)) i
      (losing text_line depth (λ j. is_some (value program source j tree)) source i) l
      (place_low program job of (source.at + 1)))
      (λ i lt. with_store (site at hi job) memory i n (locals i) (P i) _ _
      (if_map (own_of (program_layout program) x i) (is_active source depth i)
      (value program source i tree))
      (subst (λ place. Makes (site at hi job) memory i n (locals i)
      (if is_active source depth i then option_map {U = ℕ × ℕ}
      (λ v. (own_of (program_layout program) x i, v)) (value program source i tree) else None)
      (IsHere (losing text_line depth (λ j. is_some (value program source j tree)) source i) place
      i)) ends
      (masked_makes program (site at hi job) of.program_is source memory locals pictured fits i
      (few i lt) ℕ depth text_line front
      (St (own_place (private_cells (program_layout program) x)) (value_operand 0 tree))
      (option_map {U = ℕ × ℕ} (λ v. (own_of (program_layout program) x i, v))
      (value program source i tree))
      (value program source i tree) (λ j. is_some (value program source j tree)) few_ifs
      (λ there. refl)
      (λ there place held own here. own_body (site at hi job) memory i place held front
      (private_cells (program_layout program) x) (value_operand 0 tree)
      (value program source i tree) (value_straight (program_layout program) 0 tree) here
      (let e = layout_procs program in let f = few i lt in omega arith)
      (value_to program (site at hi job) of.program_is source memory i
      (sees program of.program_is source memory locals pictured fits i (few i lt) there) tree held
      own is shallow))
      stands)))
      (own_agree job (program_layout program) x values (procs_same program job of)) in
      let made : IsMade job (suc (t + n)) memory (own_stores (program_layout program) x values) P =
      done.0 in
      record {
        stays = done.1;
        still = still_all job (held_below (program_layout program)) t (suc n) done.2;
        puts = none_put t (suc n) x values done.3;
        carried = record {
          memory = made.now;
          locals = made.locals;
          standing = subst (λ u. StandsAfter job u made.now made.locals)
              (let e : suc (t + n) ≡ t + suc n = omega arith in e) made.standing;
          pictured = private_pictured program job of source memory locals pictured (suc (t + n))
              text_line depth x (source.at + 1) tree
              (omega arith) x_low made;
        };
      }

  -- ---- `A[f] := e`

  abbrev asked_of : ℕ → Tree → Tree → ℕ → Option (ℕ × ℕ)
  asked_of array index tree i = asked_in program source depth (Assign (Shared array index) tree) i

  write_shared : (array cell v : ℕ) (a b : Option ℕ) →
      option_and_then {U = ℕ × ℕ} (λ w. option_map {U = ℕ × ℕ} (λ c. (c, w))
      (option_and_then (array_cell program array) b)) a ≡ Some (cell, v) →
      cell < (program_layout program).shared
  write_shared array cell v None b e = absurd (none-some (cell, v) e)
  write_shared array cell v (Some w) None e = absurd (none-some (cell, v) e)
  write_shared array cell v (Some w) (Some k) e = by_cell (array_cell program array k) refl e
    where
      by_cell : (o : Option ℕ) → array_cell program array k ≡ o →
          option_map {U = ℕ × ℕ} (λ c. (c, w)) o ≡ Some (cell, v) →
          cell < (program_layout program).shared
      by_cell None f g = absurd (none-some (cell, v) g)
      by_cell (Some c) f g =
          let same : c ≡ cell = (some_pair_parts c cell w v g).0 in
          let p = place_is program of.program_is.arrays array k c f in
          let s = p.shared in omega arith

  pub asked_shared : (array cell v i : ℕ) (index tree : Tree) → asked_of array index tree i ≡
      Some (cell, v) →
      cell < (program_layout program).shared
  asked_shared array cell v i index tree e = elim (cases_Bool (is_active source depth i)) [
    | inl on ↦ write_shared array cell v (value program source i tree)
        (value program source i index)
        (sym (ap (λ b. if b then write_of program source array i index tree else None) on) ∙ e)
    | inr off ↦ absurd (none-some (cell, v)
        (sym (ap (λ b. if b then write_of program source array i index tree else None) off) ∙ e))
  ]

  module _ (array : ℕ) (index tree : Tree) (is : IsExpression (bounds_of program) tree)
      (is_too : IsExpression (bounds_of program) index)
      (few_ifs : depth ≤ (program_layout program).choices)
      (shallow : is_shallow (both_code (program_layout program) tree index) ≡ true)
      (stands : HasCodeAt (site at hi job) at
      (masked (program_layout program) at depth (both_code (program_layout program) tree index
      ++ St (Named (array_cells (program_layout program) array) (value_operand (takes tree) index))
      (value_operand 0 tree) ∷ [])))
      (ends : at + length (masked (program_layout program) at depth
      (both_code (program_layout program) tree index
      ++ St (Named (array_cells (program_layout program) array) (value_operand (takes tree) index))
      (value_operand 0 tree) ∷ []))
      ≡ place_of program (source.at + 1)) where
    abbrev shared_steps : ℕ
    shared_steps = quiet depth (length (both_code (program_layout program) tree index))

    abbrev shared_gone : ℕ → Option ℕ
    shared_gone i = losing text_line depth
        (λ j. is_some (write_of program source array j index tree)) source i

    pub shared_makes : (i : ℕ) → i < job.procs →
        Makes (site at hi job) memory i shared_steps (locals i) (asked_of array index tree i)
        (IsHere (shared_gone i) (place_of program (source.at + 1)) i)
    shared_makes i lt =
        subst (λ place. Makes (site at hi job) memory i shared_steps (locals i)
        (asked_of array index tree i) (IsHere (shared_gone i) place i)) ends
        (masked_makes program (site at hi job) of.program_is source memory locals pictured fits i
        (few i lt) (ℕ × ℕ) depth text_line
        (both_code (program_layout program) tree index)
        (St (Named (array_cells (program_layout program) array) (value_operand (takes tree) index))
        (value_operand 0 tree))
        (write_of program source array i index tree) (write_of program source array i index tree)
        (λ j. is_some (write_of program source array j index tree)) few_ifs (λ there. refl)
        (λ there place held own here. shared_to program (site at hi job) of.program_is source memory
        i
        (sees program of.program_is source memory locals pictured fits i (few i lt) there) array
        place index tree held here own is is_too shallow)
        stands)

    pub shared_advances : AgreesIn program job source depth (Assign (Shared array index) tree) →
        Advance program job (asked_of array index tree) (on_to (source.at + 1)
        (shared_assigned program text_line depth array index tree source)) t (suc shared_steps) at
        hi
    shared_advances agree =
        let stores : (ℕ → Option (ℕ × ℕ)) = λ i. asked_of array index tree i in
        let P : (ℕ → Local → Type 0) = λ i. IsHere (shared_gone i)
        (place_of program (source.at + 1)) i in
        let done : IsMade job (suc (t + shared_steps)) memory stores P ×
        StaysIn job at hi t (suc shared_steps) × Unchanged job t (suc shared_steps)
        × PutOnly job job.cells t (suc shared_steps) stores =
        made_in job of.job_is at hi t shared_steps memory locals standing stores P
        (λ i l. bounded (place_of program (source.at + 1)) i (shared_gone i) l
        (place_low program job of (source.at + 1)))
        shared_makes agree in
        let made : IsMade job (suc (t + shared_steps)) memory stores P = done.0 in
        let kept : ((cell : ℕ) → (program_layout program).shared ≤ cell → cell < job.cells →
        made.now cell ≡ memory cell) =
        λ cell high within. made.cells cell within
        ∙ after_apart job.procs cell stores memory
        (λ i v lt e. let s = asked_shared array cell v i index tree e in omega arith) in
        let there : ((i : ℕ) → shared_gone i ≡ None → source.gone i ≡ None) =
        λ i e. there_before source text_line depth i
        (λ j. is_some (write_of program source array j index tree)) e in
        let enough : ((i : ℕ) → i < program.procs → i < (program_layout program).procs) =
        λ i lt. let e = layout_procs program in omega arith in record {
          stays = done.1;
          still = still_all job (held_below (program_layout program)) t (suc shared_steps) done.2;
          puts = λ k i cell value lt less low put.
              done.3 k i cell value lt less (shared_low program job of cell low) put;
          carried = record {
            memory = made.now;
            locals = made.locals;
            standing = subst (λ u. StandsAfter job u made.now made.locals)
                (let e : suc (t + shared_steps) ≡ t + suc shared_steps = omega arith in e)
                made.standing;
            pictured = record {
              within = omega arith;
              all = pictured.all;
              cells = λ cell lt. made.cells cell (shared_low program job of cell lt)
                  ∙ (λ k. unwrap_or (first_below (procs_are program job of k)
                  (λ i. given_to cell (asked_of array index tree i))) (pictured.cells cell lt k));
              privates = λ x i lt less. kept (own_of (program_layout program) x i) (omega arith)
                  (row_low program job of x i (omega arith) (enough i less)) ∙
                  pictured.privates x i lt less;
              loops = λ nest i lt less e. kept
                  (own_of (program_layout program) ((program_layout program).privates + nest) i)
                  (omega arith)
                  (row_low program job of ((program_layout program).privates + nest) i (omega arith)
                  (enough i less))
                  ∙ pictured.loops nest i lt less (there i e);
              masks = λ d i lt less e. kept (own_of (program_layout program)
                  ((program_layout program).privates + (program_layout program).loops + (suc d - 1))
                  i)
                  (omega arith)
                  (row_low program job of ((program_layout program).privates +
                  (program_layout program).loops + (suc d - 1)) i (omega arith) (enough i less))
                  ∙ pictured.masks d i lt less (there i e);
              here = λ i lt. made.each i (many i lt);
            };
          };
        }

  -- ---- `if` and `else`

  pub choice_advances : (tree : Tree) → IsExpression (bounds_of program) tree → depth +
      1 ≤ (program_layout program).choices →
      is_shallow (condition_code (program_layout program) tree) ≡ true →
      HasCodeAt (site at hi job) at (choosing (program_layout program) at depth
      (condition_code (program_layout program) tree)) →
      at + length (choosing (program_layout program) at depth
      (condition_code (program_layout program) tree))
      ≡ place_of program (source.at + 1) →
      Advance program job (λ i. None)
      (on_to (source.at + 1) (chosen program text_line depth tree source)) t
      (suc (quiet_choice depth (length (condition_code (program_layout program) tree)))) at hi
  choice_advances tree is few_ifs shallow stands ends =
      let n : ℕ = quiet_choice depth (length (condition_code (program_layout program) tree)) in
      let after : Source = on_to (source.at + 1) (chosen program text_line depth tree source) in
      let P : (ℕ → Local → Type 0) = λ i. IsHere (after.gone i) (place_of program (source.at + 1))
      i in
      let row : ℕ =
      (program_layout program).privates + (program_layout program).loops + (depth + 1 - 1) in
      let values : (ℕ → Option ℕ) = λ i. if is_none (source.gone i)
      then (if source.masks depth i then decided (value program source i tree) else Some 0) else
      None in
      let done : IsMade job (suc (t + n)) memory (own_stores (program_layout program) row values) P
      ×
      StaysIn job at hi t (suc n) × Unchanged job t (suc n)
      × PutOnly job job.cells t (suc n) (own_stores (program_layout program) row values) =
      made_in job of.job_is at hi t n memory locals standing
      (own_stores (program_layout program) row values) P
      (λ i l. bounded (place_of program (source.at + 1)) i (after.gone i) l
      (place_low program job of (source.at + 1)))
      (λ i lt. subst (λ place. Makes (site at hi job) memory i n (locals i)
      (own_stores (program_layout program) row values i) (IsHere (after.gone i) place i)) ends
      (choosing_makes program (site at hi job) of.program_is source memory locals pictured fits i
      (few i lt) depth text_line tree is shallow few_ifs stands))
      (own_agree job (program_layout program) row values (procs_same program job of)) in
      let made : IsMade job (suc (t + n)) memory (own_stores (program_layout program) row values)
      P =
      done.0 in
      record {
        stays = done.1;
        still = still_all job (held_below (program_layout program)) t (suc n) done.2;
        puts = none_put t (suc n) row values done.3;
        carried = record {
          memory = made.now;
          locals = made.locals;
          standing = subst (λ u. StandsAfter job u made.now made.locals)
              (let e : suc (t + n) ≡ t + suc n = omega arith in e) made.standing;
          pictured = masks_pictured program job of source memory locals pictured (suc (t + n)) depth
              (source.at + 1) values after
              (omega arith) (omega arith) (λ cell. refl) (λ x i. refl) (λ nest. refl)
              (λ i e. there_before source text_line depth i
              (λ j. is_some (value program source j tree)) e)
              (λ d i ne. ap (λ b. if b then is_active source depth i &&
              is_true (value program source i tree) else source.masks d i)
              (ne_eqb d (depth + 1) ne))
              (λ i lt e. choice_value tree i (there_before source text_line depth i
              (λ j. is_some (value program source j tree)) e) e)
              refl made;
        };
      }
    where
      by_mask : (tree : Tree) (i : ℕ) (m : Bool) (o : Option ℕ) → source.masks depth i ≡ m →
          value program source i tree ≡ o →
          source.gone i ≡ None →
          losing text_line depth (λ j. is_some (value program source j tree)) source i ≡ None →
          (if m then decided o else Some 0) ≡ Some (bit (m && is_true o))
      by_mask tree i true None e f there lost =
          let gone : losing text_line depth (λ j. is_some (value program source j tree)) source i ≡
          Some text_line =
          (λ k. if active_is source depth i true there e k &&
          not (is_some (f k)) then Some text_line else source.gone i) in
          absurd (none-some text_line (sym lost ∙ gone))
      by_mask tree i true (Some v) e f there lost = refl
      by_mask tree i false o e f there lost = refl

      choice_value : (tree : Tree) (i : ℕ) → source.gone i ≡ None →
          losing text_line depth (λ j. is_some (value program source j tree)) source i ≡ None →
          (if is_none (source.gone i) then
          (if source.masks depth i then decided (value program source i tree) else Some 0) else
          None)
          ≡ Some (bit (if depth + 1 == depth + 1 then is_active source depth i &&
          is_true (value program source i tree)
          else source.masks (depth + 1) i))
      choice_value tree i there lost =
          ap (λ g. if is_none g then (if source.masks depth i then decided
          (value program source i tree) else Some 0) else None) there
          ∙ by_mask tree i (source.masks depth i) (value program source i tree) refl refl there lost
          ∙ ap (λ b. Some (bit (b && is_true (value program source i tree))))
          (sym (active_is source depth i (source.masks depth i) there refl))
          ∙ sym (ap (λ b. Some (bit (if b then is_active source depth i &&
          is_true (value program source i tree)
          else source.masks (depth + 1) i))) (eq-eqb (depth + 1) (depth + 1) refl))

  others_length : length (others (program_layout program) depth) ≡
      suc (length (own_load 0 (mask_cells (program_layout program) (depth + 1))
      ∷ (if depth == 0 then Eq 0 0 (Number 0) ∷
      [] else own_load 1 (mask_cells (program_layout program) depth) ∷ Lt 0 0 (Register 1) ∷ [])))
  unfolding others
  others_length = ap suc (by_depth (depth == 0))
    where
      by_depth : (b : Bool) → length ((if b then Eq 0 0 (Number 0) ∷ []
          else own_load 1 (mask_cells (program_layout program) depth) ∷ Lt 0 0 (Register 1) ∷ [])
          ++ own_store (mask_cells (program_layout program) (depth + 1)) ∷ [])
          ≡ suc (length (if b then Eq 0 0 (Number 0) ∷
          [] else own_load 1 (mask_cells (program_layout program) depth) ∷ Lt 0 0 (Register 1)
          ∷ []))
      by_depth true = refl
      by_depth false = refl

  pub else_advances : depth + 1 ≤ (program_layout program).choices →
      HasCodeAt (site at hi job) at (others (program_layout program) depth) →
      at + length (others (program_layout program) depth) ≡ place_of program (source.at + 1) →
      Advance program job (λ i. None) (on_to (source.at + 1) (otherwise depth source)) t
      (length (others (program_layout program) depth)) at hi
  else_advances few_ifs stands ends =
      let n : ℕ = length (own_load 0 (mask_cells (program_layout program) (depth + 1))
      ∷ (if depth == 0 then Eq 0 0 (Number 0) ∷
      [] else own_load 1 (mask_cells (program_layout program) depth) ∷ Lt 0 0 (Register 1) ∷ [])) in
      let after : Source = on_to (source.at + 1) (otherwise depth source) in
      let P : (ℕ → Local → Type 0) = λ i. IsHere (source.gone i) (place_of program (source.at + 1))
      i in
      let row : ℕ =
      (program_layout program).privates + (program_layout program).loops + (depth + 1 - 1) in
      let values : (ℕ → Option ℕ) = λ i. if is_none (source.gone i)
      then Some (bit (source.masks depth i && not (source.masks (depth + 1) i))) else None in
      let done : IsMade job (suc (t + n)) memory (own_stores (program_layout program) row values) P
      ×
      StaysIn job at hi t (suc n) × Unchanged job t (suc n)
      × PutOnly job job.cells t (suc n) (own_stores (program_layout program) row values) =
      made_in job of.job_is at hi t n memory locals standing
      (own_stores (program_layout program) row values) P
      (λ i l. bounded (place_of program (source.at + 1)) i (source.gone i) l
      (place_low program job of (source.at + 1)))
      (λ i lt. subst (λ place. Makes (site at hi job) memory i n (locals i)
      (own_stores (program_layout program) row values i) (IsHere (source.gone i) place i)) ends
      (others_makes program (site at hi job) of.program_is source memory locals pictured fits i
      (few i lt) depth few_ifs stands))
      (own_agree job (program_layout program) row values (procs_same program job of)) in
      let made : IsMade job (suc (t + n)) memory (own_stores (program_layout program) row values)
      P =
      done.0 in
      record {
        stays = subst (StaysIn job at hi t) (sym others_length) done.1;
        still = subst (StillBelow job (held_below (program_layout program)) t) (sym others_length)
            (still_all job (held_below (program_layout program)) t (suc n) done.2);
        puts = subst (λ m. PutOnly job (program_layout program).shared t m (λ i. None))
            (sym others_length) (none_put t (suc n) row values done.3);
        carried = record {
          memory = made.now;
          locals = made.locals;
          standing = subst (λ u. StandsAfter job u made.now made.locals)
              (let e : suc (t + n) ≡ t + suc n = omega arith in e ∙
              ap (λ k. t + k) (sym others_length)) made.standing;
          pictured = masks_pictured program job of source memory locals pictured (suc (t + n)) depth
              (source.at + 1) values after
              (omega arith) (omega arith) (λ cell. refl) (λ x i. refl) (λ nest. refl) (λ i e. e)
              (λ d i ne. ap (λ b. if b then source.masks depth i &&
              not (source.masks d i) else source.masks d i)
              (ne_eqb d (depth + 1) ne))
              (λ i lt e. ap (λ g. if is_none g then Some
              (bit (source.masks depth i && not (source.masks (depth + 1) i))) else None) e
              ∙ sym (ap (λ b. Some (bit (if b then source.masks depth i &&
              not (source.masks (depth + 1) i) else source.masks (depth + 1) i)))
              (eq-eqb (depth + 1) (depth + 1) refl)))
              refl made;
        };
      }
