-- What stores of all processors to a row of theirs make of a picture.
use Rattle.std.proofs.Common.{◌≡◌, ◌≢◌, ℕ, suc, ◌+◌, ◌-◌, ◌<◌, ◌≤◌, Bool, true, false, ◌&&◌, Option}
use Rattle.std.proofs.Common.{Some, None}
use Rattle.std.proofs.Common.{refl, sym, ap, ◌∙◌, subst, ⊎_elim, arith, if◌then◌else◌, length}
use Rattle.std.specs.Prelude.{is_some, unwrap_or}
use Rattle.std.specs.Option.{is_none}
use Rattle.std.proofs.Math.Bool.{and-false}
use Rattle.std.proofs.lemmas.Bool.{eq-eqb, ne_eqb, cases_eq}
use Rattle.std.proofs.lemmas.Option.{none-some}
use Rattle.pram_job.specs.Job.{JobData}
use Rattle.pardo_program.specs.Expression.{Tree}
use Rattle.pardo_program.specs.Operations.{bit}
use Rattle.pardo_program.specs.Program.{ProgramData}
use Rattle.pardo_flat.specs.Layouts.{program_layout, private_cells, loop_cells, mask_cells}
use Rattle.pardo_job.specs.Lines.{place_of}
use Rattle.pardo_job.specs.Meaning.{Source, value, is_active, losing, on_to, private_assigned}
use Rattle.pardo_job.specs.Meaning.{loop_turned}
use Rattle.pardo_law.specs.Locals.{Local, after_stores}
use Rattle.pardo_law.proofs.Making.{IsMade}
use Rattle.pardo_law.proofs.Masks.{still}
use Rattle.pardo_law.proofs.Picturing.{IsOf, IsHere, Pictured, procs_same, layout_procs, row_low}
use Rattle.pardo_law.proofs.Picturing.{shared_low}
use Rattle.pardo_law.proofs.Rows.{own_of, own_stores, after_own, after_other, after_shared}

-- one that is there after a line was there before
pub there_before : (source : Source) (text_line depth i : ℕ) (has : ℕ → Bool) →
    losing text_line depth has source i ≡ None → source.gone i ≡ None
there_before source text_line depth i has e = by_gone (source.gone i) refl
  where
    by_gone : (g : Option ℕ) → source.gone i ≡ g → source.gone i ≡ None
    by_gone None gone = gone
    by_gone (Some line) gone =
        let inactive : is_active source depth i ≡ false =
        ap (λ o. source.masks depth i && is_none o) gone ∙ and-false (source.masks depth i) in
        absurd (none-some line (sym e ∙ still source text_line depth i has inactive ∙ gone))

module _ (program : ProgramData) (job : JobData) (of : IsOf program job) (source : Source)
    (memory : ℕ → ℕ) (locals : ℕ → Local)
    (pictured : Pictured program source memory locals) where
  abbrev rows : ℕ
  rows = (program_layout program).privates + (program_layout program).loops + (program_layout
      program).choices

  module _ (t which : ℕ) (values : ℕ → Option ℕ) (P : ℕ → Local → Type 0)
      (made : IsMade job t memory (own_stores (program_layout program) which values) P) where
    few : (i : ℕ) → i < program.procs → i < (program_layout program).procs
    few i lt = let e = layout_procs program in omega arith

    now_is : (cell : ℕ) → cell < job.cells →
        made.now cell ≡ after_stores (program_layout program).procs
        (own_stores (program_layout program) which values) memory cell
    now_is cell low = made.cells cell low
        ∙ ap (λ n. after_stores n (own_stores (program_layout program) which values) memory cell)
        (procs_same program job of)

    now_shared : (cell : ℕ) → cell < (program_layout program).shared → made.now cell ≡ memory cell
    now_shared cell lt = now_is cell (shared_low program job of cell lt)
        ∙ after_shared (program_layout program) which cell values memory lt

    now_same : (w i : ℕ) → w ≡ which → w < rows → i < program.procs →
        made.now (own_of (program_layout program) w i) ≡
        unwrap_or (values i) (memory (own_of (program_layout program) w i))
    now_same w i same lt less = now_is (own_of (program_layout program) w i)
        (row_low program job of w i lt (few i less))
        ∙ ap (λ v. after_stores (program_layout program).procs
        (own_stores (program_layout program) which values) memory
        (own_of (program_layout program) v i))
        same
        ∙ after_own (program_layout program) which i values memory (few i less)
        ∙ ap (λ v. unwrap_or (values i) (memory (own_of (program_layout program) v i))) (sym same)

    now_other : (w i : ℕ) → w ≢ which → w < rows → i < program.procs →
        made.now (own_of (program_layout program) w i)
        ≡ memory (own_of (program_layout program) w i)
    now_other w i ne lt less = now_is (own_of (program_layout program) w i)
        (row_low program job of w i lt (few i less))
        ∙ after_other (program_layout program) which w i values memory (few i less)
        (λ same. ne (sym same))

  -- ---- `x := e`

  module _ (t text_line depth x at : ℕ) (tree : Tree) (at_low : at ≤ length program.lines)
      (low : x < (program_layout program).privates)
      (made : IsMade job t memory (own_stores (program_layout program) x
      (λ i. if is_active source depth i then value program source i tree else None))
      (λ i. IsHere (losing text_line depth (λ j. is_some (value program source j tree)) source i)
      (place_of program at) i)) where
    abbrev assigned : Source
    assigned = on_to at (private_assigned program text_line depth x tree source)

    was_there : (i : ℕ) → assigned.gone i ≡ None → source.gone i ≡ None
    was_there i e = there_before source text_line depth i
        (λ j. is_some (value program source j tree)) e

    by_active : (b : Bool) (o : Option ℕ) (v : ℕ) →
        unwrap_or (if b then o else None) v ≡ (if b then unwrap_or o v else v)
    by_active true o v = refl
    by_active false o v = refl

    privates_now : (y i : ℕ) → y < (program_layout program).privates → i < program.procs →
        made.now ((private_cells (program_layout program) y).base + i) ≡ assigned.privates y i
    privates_now y i lt less = ⊎_elim
        (λ (same : y ≡ x).
        now_same t x _ _ made y i same (omega arith) less
        ∙ ap (λ v. unwrap_or (if is_active source depth i then value program source i tree else
        None) v) (pictured.privates y i lt less)
        ∙ by_active (is_active source depth i) (value program source i tree) (source.privates y i)
        ∙ sym (ap (λ b. if b && is_active source depth i then unwrap_or
        (value program source i tree) (source.privates y i)
        else source.privates y i) (eq-eqb y x same)))
        (λ (ne : y ≢ x).
        now_other t x _ _ made y i ne (omega arith) less ∙ pictured.privates y i lt less
        ∙ sym (ap (λ b. if b && is_active source depth i then unwrap_or
        (value program source i tree) (source.privates y i)
        else source.privates y i) (ne_eqb y x ne)))
        (cases_eq y x)

    pub private_pictured : Pictured program assigned made.now made.locals
    private_pictured = record {
      within = at_low;
      all = pictured.all;
      cells = λ cell lt. now_shared t x _ _ made cell lt ∙ pictured.cells cell lt;
      privates = privates_now;
      loops = λ nest i lt less there. now_other t x _ _ made
          ((program_layout program).privates + nest) i
          (λ e. omega arith) (omega arith) less
          ∙ pictured.loops nest i lt less (was_there i there);
      masks = λ d i lt less there. now_other t x _ _ made
          ((program_layout program).privates + (program_layout program).loops + (suc d - 1)) i
          (λ e. omega arith) (omega arith) less ∙ pictured.masks d i lt less (was_there i there);
      here = λ i lt. made.each i (let e = procs_same program job of in let f =
          layout_procs program in omega arith);
    }

  -- ---- masks

  module _ (t depth at : ℕ) (values : ℕ → Option ℕ) (after : Source)
      (at_low : at ≤ length program.lines)
      (low : depth < (program_layout program).choices)
      (same_cells : (cell : ℕ) → after.cells cell ≡ source.cells cell)
      (same_privates : (x i : ℕ) → after.privates x i ≡ source.privates x i)
      (same_loops : (nest : ℕ) → after.loops nest ≡ source.loops nest)
      (was_there : (i : ℕ) → after.gone i ≡ None → source.gone i ≡ None)
      (other_masks : (d i : ℕ) → d ≢ depth + 1 → after.masks d i ≡ source.masks d i)
      (mask_is : (i : ℕ) → i < program.procs → after.gone i ≡ None → values i ≡
      Some (bit (after.masks (depth + 1) i)))
      (after_at : after.at ≡ at)
      (made : IsMade job t memory
      (own_stores (program_layout program)
      ((program_layout program).privates + (program_layout program).loops + (depth + 1 - 1)) values)
      (λ i. IsHere (after.gone i) (place_of program at) i)) where
    abbrev mask_row : ℕ
    mask_row = (program_layout program).privates + (program_layout program).loops + (depth + 1 - 1)

    masks_now : (d i : ℕ) → d < (program_layout program).choices → i < program.procs →
        after.gone i ≡
        None →
        made.now ((mask_cells (program_layout program) (suc d)).base + i)
        ≡ bit (after.masks (suc d) i)
    masks_now d i lt less there = ⊎_elim
        (λ (same : suc d ≡ depth + 1).
        now_same t mask_row values _ made
        ((program_layout program).privates + (program_layout program).loops + (suc d - 1)) i
        (omega arith) (omega arith) less
        ∙ ap (λ o. unwrap_or o (memory ((mask_cells (program_layout program) (suc d)).base + i)))
        (mask_is i less there)
        ∙ ap (λ n. bit (after.masks n i)) (sym same))
        (λ (ne : suc d ≢ depth + 1).
        now_other t mask_row values _ made
        ((program_layout program).privates + (program_layout program).loops + (suc d - 1)) i
        (λ e. ne (omega arith)) (omega arith) less
        ∙ pictured.masks d i lt less (was_there i there) ∙ ap bit (sym (other_masks (suc d) i ne)))
        (cases_eq (suc d) (depth + 1))

    pub masks_pictured : Pictured program after made.now made.locals
    masks_pictured = record {
      within = let e = after_at in omega arith;
      all = λ i. other_masks 0 i (λ e. omega arith) ∙ pictured.all i;
      cells = λ cell lt. now_shared t mask_row values _ made cell lt ∙ pictured.cells cell lt ∙
          sym (same_cells cell);
      privates = λ x i lt less. now_other t mask_row values _ made x i (λ e. omega arith)
          (omega arith) less
          ∙ pictured.privates x i lt less ∙ sym (same_privates x i);
      loops = λ nest i lt less there. now_other t mask_row values _ made
          ((program_layout program).privates + nest) i (λ e. omega arith) (omega arith) less
          ∙ pictured.loops nest i lt less (was_there i there) ∙ sym (same_loops nest);
      masks = masks_now;
      here = λ i lt. subst (λ n. IsHere (after.gone i) (place_of program n) i (made.locals i))
          (sym after_at)
          (made.each i (let e = procs_same program job of in let f = layout_procs program in
          omega arith));
    }

  -- ---- the variable of a loop

  module _ (t nest at v place : ℕ) (at_low : at ≤ length program.lines)
      (nest_low : nest < (program_layout program).loops)
      (made : IsMade job t memory (own_stores (program_layout program)
      ((program_layout program).privates + nest)
      (λ i. if is_none (source.gone i) then Some v else None))
      (λ i. IsHere (source.gone i) place i)) where
    abbrev turned_on : Source
    turned_on = on_to at (loop_turned nest v source)

    abbrev loop_row : ℕ
    loop_row = (program_layout program).privates + nest

    loops_now : (n i : ℕ) → n < (program_layout program).loops → i < program.procs → source.gone i ≡
        None →
        made.now ((loop_cells (program_layout program) n).base + i) ≡ turned_on.loops n
    loops_now n i lt less there = ⊎_elim
        (λ (same : n ≡ nest).
        now_same t loop_row _ _ made ((program_layout program).privates + n) i (omega arith)
        (omega arith) less
        ∙ ap (λ g. unwrap_or (if is_none g then Some v else None)
        (memory (own_of (program_layout program) ((program_layout program).privates + n) i))) there
        ∙ sym (ap (λ b. if b then v else source.loops n) (eq-eqb n nest same)))
        (λ (ne : n ≢ nest).
        now_other t loop_row _ _ made ((program_layout program).privates + n) i
        (λ e. ne (omega arith))
        (omega arith) less
        ∙ pictured.loops n i lt less there
        ∙ sym (ap (λ b. if b then v else source.loops n) (ne_eqb n nest ne)))
        (cases_eq n nest)

    -- wherever the processors then come to
    pub turned_pictured : (now : ℕ → Local) →
        ((i : ℕ) → i < program.procs → IsHere (source.gone i) (place_of program at) i (now i)) →
        Pictured program turned_on made.now now
    turned_pictured now comes = record {
      within = at_low;
      all = pictured.all;
      cells = λ cell lt. now_shared t loop_row _ _ made cell lt ∙ pictured.cells cell lt;
      privates = λ x i lt less. now_other t loop_row _ _ made x i (λ e. omega arith) (omega arith)
          less ∙ pictured.privates x i lt less;
      loops = loops_now;
      masks = λ d i lt less there. now_other t loop_row _ _ made
          ((program_layout program).privates + (program_layout program).loops + (suc d - 1)) i
          (λ e. omega arith) (omega arith) less ∙ pictured.masks d i lt less there;
      here = comes;
    }

  -- ---- nothing but another line

  pub moved_pictured : (at : ℕ) (now : ℕ → Local) → at ≤ length program.lines →
      ((i : ℕ) → i < program.procs → IsHere (source.gone i) (place_of program at) i (now i)) →
      Pictured program (on_to at source) memory now
  moved_pictured at now at_low comes = record {
    within = at_low;
    all = pictured.all;
    cells = pictured.cells;
    privates = pictured.privates;
    loops = pictured.loops;
    masks = pictured.masks;
    here = comes;
  }
