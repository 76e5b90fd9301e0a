-- A line of a loop of the program, and the steps of the job for it.
use Rattle.std.proofs.Common.{◌≡◌, ℕ, suc, ◌+◌, ◌^◌, ◌<◌, ◌≤◌, ◌==◌, Bool, true}
use Rattle.std.proofs.Common.{false, [], ◌∷◌, ◌++◌, Option, Some, None, refl, sym, ap}
use Rattle.std.proofs.Common.{◌∙◌, subst, inl, inr, ◌⊎◌, arith, if◌then◌else◌, length}
use Rattle.std.specs.Option.{is_none, option_or}
use Rattle.std.proofs.lemmas.Option.{none-some}
use Rattle.pram_job.specs.declared.instr.Instr.TheVariants.{Jz, Jmp}
use Rattle.pram_job.specs.Job.{JobData}
use Rattle.pardo_program.specs.Expression.{Tree}
use Rattle.pardo_program.specs.Lawful.{IsCommonTree, bounds_of}
use Rattle.pardo_program.specs.Program.{ProgramData}
use Rattle.pardo_flat.specs.Layouts.{program_layout, loop_cells}
use Rattle.pardo_job.specs.Lines.{own_store, place_of}
use Rattle.pardo_job.specs.Lines.{next_value, while_code, none_code, first_code}
use Rattle.pardo_job.specs.Lines.{turn_code}
use Rattle.pardo_job.specs.Meaning.{Source, value, common_value, on_to}
use Rattle.pardo_job.specs.Meaning.{loop_turned, has_none, next_turn}
use Rattle.pardo_job.specs.Meaning.{abandoned, by_common}
use Rattle.pardo_job.specs.Operations.{is_shallow, register_or_spare}
use Rattle.pardo_job.specs.Values.{value_code, value_operand}
use Rattle.pardo_law.specs.Locals.{Local, HasCodeAt, StandsAfter}
use Rattle.pardo_law.proofs.Effects.{turned_pictured}
use Rattle.pardo_law.proofs.Effects.{moved_pictured}
use Rattle.pardo_law.proofs.Loops.{while_goes, jump_goes, none_goes, turn_makes, for_end_is}
use Rattle.pardo_law.proofs.Loops.{last_goes, again_makes, all_out}
use Rattle.pardo_law.proofs.Placing.{stands_back}
use Rattle.pardo_law.proofs.Cutting.{site, Below, PutOnly, StaysIn, Unchanged, made_in}
use Rattle.pardo_law.proofs.Cutting.{gone_in}
use Rattle.pardo_law.proofs.Making.{Makes, Goes, IsMade, Went}
use Rattle.pardo_law.proofs.Picturing.{IsOf, IsHere, Pictured, memory_fits, procs_are, procs_same}
use Rattle.pardo_law.proofs.Picturing.{shared_low, sees, held_low}
use Rattle.pardo_law.proofs.Rows.{own_stores, own_agree, after_before}
use Rattle.pardo_law.proofs.Rows.{own_high, held_before, held_below}
use Rattle.pardo_law.proofs.Straightness.{while_straight, none_straight, turn_straight}
use Rattle.pardo_law.proofs.Values.{while_out, none_out, turn_out}
use Rattle.pardo_law.proofs.Carried.{here_below, place_low, stays_then, still_all, still_then, puts_then, Advance, cost_by}

module _ (program : ProgramData) (job : JobData) (of : IsOf program job) (source : Source) (t : ℕ)
    (memory : ℕ → ℕ)
    (locals : ℕ → Local) (standing : StandsAfter job t memory locals)
    (pictured : Pictured program source memory locals)
    (text_line depth : ℕ) (low : source.at < length program.lines)
    (hi : ℕ) (hi_low : hi ≤ length job.code) where
  abbrev at : ℕ
  at = place_of program source.at

  fits : (cell : ℕ) → memory cell < 2 ^ 32
  fits = memory_fits job t memory locals of.job_is standing

  few : (i : ℕ) → i < job.procs → i < program.procs
  few i lt = let e = procs_are program job of in omega arith

  many : (i : ℕ) → i < program.procs → i < job.procs
  many i lt = let e = procs_are program job of in omega arith

  bounded : (place i : ℕ) (g : Option ℕ) (l : Local) → place < length job.code →
      IsHere g place i l → Below at hi job l
  bounded place i g l lt here = here_below job at hi place i g l lt here

  -- stores to the own cells of a row go to no place of the program
  none_put : (u n row : ℕ) (values : ℕ → Option ℕ) →
      PutOnly job job.cells u n (own_stores (program_layout program) row values) →
      PutOnly job (program_layout program).shared u n (λ i. None)
  none_put u n row values puts k i cell value lt less below put =
      absurd (own_high (program_layout program) row i cell value values below
      (puts k i cell value lt less (shared_low program job of cell below) put))

  went_on : (next n : ℕ) → next ≤ length program.lines →
      ((i : ℕ) → i < job.procs → Goes (site at hi job) memory i n (locals i)
      (IsHere (source.gone i) (place_of program next) i)) →
      Advance program job (λ i. None) (on_to next source) t n at hi
  went_on next n next_low goes =
      let done : Went job (t + n) memory (λ i. IsHere (source.gone i) (place_of program next) i) ×
      StaysIn job at hi t n × Unchanged job t n × PutOnly job job.cells t n (λ i. None) =
      gone_in job of.job_is at hi t n memory locals standing
      (λ i. IsHere (source.gone i) (place_of program next) i)
      (λ i l. bounded (place_of program next) i (source.gone i) l (place_low program job of next))
      goes in
      let went : Went job (t + n) memory (λ i. IsHere (source.gone i) (place_of program next) i) =
      done.0 in
      record {
        stays = done.1;
        still = still_all job (held_below (program_layout program)) t n done.2;
        puts = λ k i cell value lt less low put.
            done.3 k i cell value lt less (shared_low program job of cell low) put;
        carried = record {
          memory = memory;
          locals = went.places;
          standing = went.standing;
          pictured = moved_pictured program job of source memory locals pictured next went.places
              next_low
              (λ i lt. went.each i (many i lt));
        };
      }

  -- all that are there leave
  abandons : (n : ℕ) → ((i : ℕ) → i < job.procs → Goes (site at hi job) memory i n (locals i)
      (IsHere (option_or (source.gone i) (Some text_line))
      (place_of program (length program.lines)) i)) →
      Advance program job (λ i. None) (abandoned program text_line source) t n at hi
  abandons n goes =
      let P : (ℕ → Local → Type 0) = λ i. IsHere (option_or (source.gone i) (Some text_line))
      (place_of program (length program.lines)) i in
      let done : Went job (t + n) memory P × StaysIn job at hi t n × Unchanged job t n
      × PutOnly job job.cells t n (λ i. None) =
      gone_in job of.job_is at hi t n memory locals standing P
      (λ i l. bounded (place_of program (length program.lines)) i
      (option_or (source.gone i) (Some text_line)) l
      (place_low program job of (length program.lines))) goes in
      record {
        stays = done.1;
        still = still_all job (held_below (program_layout program)) t n done.2;
        puts = λ k i cell value lt less low put.
            done.3 k i cell value lt less (shared_low program job of cell low) put;
        carried = record {
          memory = memory;
          locals = done.0.places;
          standing = done.0.standing;
          pictured = record {
            within = omega arith;
            all = pictured.all;
            cells = pictured.cells;
            privates = pictured.privates;
            loops = λ nest i lt less there. absurd (is_out (source.gone i) there);
            masks = λ d i lt less there. absurd (is_out (source.gone i) there);
            here = λ i lt. done.0.each i (many i lt);
          };
        };
      }
    where
      is_out : (g : Option ℕ) → option_or g (Some text_line) ≡ None → ⊥
      is_out None e = none-some text_line (sym e)
      is_out (Some line) e = none-some line (sym e)

  pub while_advances : (tree : Tree) (end : ℕ) → IsCommonTree (bounds_of program) tree →
      end < length program.lines →
      is_shallow (while_code (program_layout program) tree) ≡ true →
      HasCodeAt (site at hi job) at (while_code (program_layout program) tree ++
      Jz (register_or_spare 0 (value_operand 0 tree)) (place_of program (end + 1)) ∷ []) →
      at + length (while_code (program_layout program) tree) + 1
      ≡ place_of program (source.at + 1) →
      Advance program job (λ i. None)
      (by_common program text_line source (common_value program source tree) (λ value.
      if value == 0 then on_to (end + 1) source else on_to (source.at + 1) source))
      t (length (while_code (program_layout program) tree) + 1) at hi
  while_advances tree end is end_low shallow stands ends =
      by_has (common_value program source tree) refl
    where
      goes : (v : ℕ) → common_value program source tree ≡ Some v → (b : Bool) → (v == 0) ≡ b →
          (i : ℕ) → i < job.procs →
          Goes (site at hi job) memory i (length (while_code (program_layout program) tree) + 1)
          (locals i)
          (IsHere (source.gone i) (if b then place_of program (end + 1) else at +
          length (while_code (program_layout program) tree) + 1) i)
      goes v has b e i lt = subst (λ x. Goes (site at hi job) memory i
          (length (while_code (program_layout program) tree) + 1) (locals i)
          (IsHere (source.gone i) (if x then place_of program (end + 1) else at +
          length (while_code (program_layout program) tree) + 1) i)) e
          (while_goes program (site at hi job) of.program_is source memory locals pictured fits i
          (few i lt) tree v (place_of program (end + 1)) is has shallow stands)

      by_value : (v : ℕ) → common_value program source tree ≡ Some v → (b : Bool) → (v == 0) ≡ b →
          Advance program job (λ i. None)
          (if b then on_to (end + 1) source else on_to (source.at + 1) source)
          t (length (while_code (program_layout program) tree) + 1) at hi
      by_value v has true e = went_on (end + 1)
          (length (while_code (program_layout program) tree) + 1) (omega arith) (goes v has true e)
      by_value v has false e = went_on (source.at + 1)
          (length (while_code (program_layout program) tree) + 1) (omega arith)
          (λ i lt. subst (λ place. Goes (site at hi job) memory i
          (length (while_code (program_layout program) tree) + 1) (locals i)
          (IsHere (source.gone i) place i)) ends (goes v has false e i lt))

      by_has : (o : Option ℕ) → common_value program source tree ≡ o →
          Advance program job (λ i. None) (by_common program text_line source o (λ value.
          if value == 0 then on_to (end + 1) source else on_to (source.at + 1) source))
          t (length (while_code (program_layout program) tree) + 1) at hi
      by_has None lacks = abandons (length (while_code (program_layout program) tree) + 1) (λ i lt.
          all_out program (site at hi job) of.program_is source memory locals pictured fits i
          (few i lt) text_line (place_of program (length program.lines)) 1
          (while_code (program_layout program) tree) _
          (while_straight (program_layout program) tree) stands
          (λ held own there. while_out program (site at hi job) of.program_is source memory i
          (sees program of.program_is source memory locals pictured fits i (few i lt) there)
          tree held own is shallow lacks))
      by_has (Some v) has = by_value v has (v == 0) refl

  pub back_advances : (begin : ℕ) → begin < length program.lines →
      HasCodeAt (site at hi job) at (Jmp (place_of program begin) ∷ []) →
      Advance program job (λ i. None) (on_to begin source) t 1 at hi
  back_advances begin begin_low stands = went_on begin 1 (omega arith)
      (λ i lt. jump_goes (site at hi job) memory i at (place_of program begin) [] stands
      (source.gone i) (locals i) (pictured.here i (few i lt)))

  pub for_advances : (nest : ℕ) (first last : Tree) (up : Bool) (end : ℕ) →
      nest < (program_layout program).loops →
      IsCommonTree (bounds_of program) first → IsCommonTree (bounds_of program) last →
      end < length program.lines →
      is_shallow (none_code (program_layout program) up first last) ≡ true →
      is_shallow (value_code (program_layout program) 0 first) ≡ true →
      HasCodeAt (site at hi job) at (none_code (program_layout program) up first last
      ++ (Jz 0 (at + length (none_code (program_layout program) up first last) + 2) ∷
      (Jmp (place_of program (end + 1))
      ∷ first_code (program_layout program) nest first))) →
      at + length (none_code (program_layout program) up first last
      ++ (Jz 0 (at + length (none_code (program_layout program) up first last) + 2) ∷
      (Jmp (place_of program (end + 1))
      ∷ first_code (program_layout program) nest first))) ≡ place_of program (source.at + 1) →
      Advance program job (λ i. None)
      (by_common program text_line source (common_value program source first) (λ a.
      by_common program text_line source (common_value program source last) (λ b.
      if has_none up a b then on_to (end + 1) source
      else on_to (source.at + 1) (loop_turned nest a source))))
      t (cost_by (length (none_code (program_layout program) up first last) + 1)
      (common_value program source first) (λ a.
      cost_by (length (none_code (program_layout program) up first last) + 1)
      (common_value program source last) (λ b. if has_none up a b
      then length (none_code (program_layout program) up first last) + 1 + 1
      else suc ((length (none_code (program_layout program) up first last) + 1) +
      length (value_code (program_layout program) 0 first))))) at hi
  for_advances nest first last up end nest_low is is_too end_low shallow first_shallow stands ends =
      by_first (common_value program source first) refl
    where
      lost : (common_value program source first ≡ None) ⊎ (common_value program source last ≡ None)
          → Advance program job (λ i. None) (abandoned program text_line source)
          t (length (none_code (program_layout program) up first last) + 1) at hi
      lost lacks = abandons (length (none_code (program_layout program) up first last) + 1) (λ i lt.
          all_out program (site at hi job) of.program_is source memory locals pictured fits i
          (few i lt) text_line (place_of program (length program.lines)) 1
          (none_code (program_layout program) up first last) _
          (none_straight (program_layout program) up first last) stands
          (λ held own there. none_out program (site at hi job) of.program_is source memory i
          (sees program of.program_is source memory locals pictured fits i (few i lt) there)
          up first last held own is is_too shallow lacks))

      by_value : (a b : ℕ) → common_value program source first ≡ Some a →
          common_value program source last ≡ Some b → (none : Bool) → has_none up a b ≡ none →
          Advance program job (λ i. None)
          (if none then on_to (end + 1) source else on_to (source.at + 1) (loop_turned nest a source))
          t (if none then length (none_code (program_layout program) up first last) + 1 + 1
          else suc ((length (none_code (program_layout program) up first last) + 1) +
          length (value_code (program_layout program) 0 first))) at hi
      by_value a b first_has last_has true e = went_on (end + 1)
          (length (none_code (program_layout program) up first last) + 1 + 1) (omega arith)
          (λ i lt. none_goes program (site at hi job) of.program_is source memory locals pictured
          fits i (few i lt) nest first last up a b (place_of program (end + 1))
          nest_low is is_too first_has last_has shallow first_shallow stands e)
      by_value a b first_has last_has false e =
          let k : ℕ = (length (none_code (program_layout program) up first last) + 1) +
          length (value_code (program_layout program) 0 first) in
          let row : ℕ = (program_layout program).privates + nest in
          let values : (ℕ → Option ℕ) = λ i. if is_none (source.gone i) then Some a else None in
          let P : (ℕ → Local → Type 0) = λ i. IsHere (source.gone i)
          (place_of program (source.at + 1)) i in
          let done : IsMade job (suc (t + k)) memory
          (own_stores (program_layout program) row values) P ×
          StaysIn job at hi t (suc k) × Unchanged job t (suc k)
          × PutOnly job job.cells t (suc k) (own_stores (program_layout program) row values) =
          made_in job of.job_is at hi t k memory locals standing
          (own_stores (program_layout program) row values) P
          (λ i l. bounded (place_of program (source.at + 1)) i (source.gone i) l
          (place_low program job of (source.at + 1)))
          (λ i lt. subst (λ place. Makes (site at hi job) memory i k (locals i)
          (own_stores (program_layout program) row values i) (IsHere (source.gone i) place i))
          (sym (for_end_is program (site at hi job) of.program_is source memory locals pictured fits
          i (few i lt) nest first last up a b (place_of program (end + 1))
          nest_low is is_too first_has last_has shallow first_shallow stands) ∙ ends)
          (turn_makes program (site at hi job) of.program_is source memory locals pictured fits i
          (few i lt) nest first last up a b (place_of program (end + 1))
          nest_low is is_too first_has last_has shallow first_shallow stands e))
          (own_agree job (program_layout program) row values (procs_same program job of)) in
          let made : IsMade job (suc (t + k)) memory
          (own_stores (program_layout program) row values) P =
          done.0 in
          record {
            stays = done.1;
            still = still_all job (held_below (program_layout program)) t (suc k) done.2;
            puts = none_put t (suc k) row values done.3;
            carried = record {
              memory = made.now;
              locals = made.locals;
              standing = subst (λ u. StandsAfter job u made.now made.locals)
                  (let f : suc (t + k) ≡ t + suc k = omega arith in f) made.standing;
              pictured = turned_pictured program job of source memory locals pictured (suc (t + k))
                  nest (source.at + 1) a
                  (place_of program (source.at + 1)) (omega arith) nest_low made made.locals
                  (λ i lt. made.each i (many i lt));
            };
          }

      by_last : (a : ℕ) → common_value program source first ≡ Some a → (o : Option ℕ) →
          common_value program source last ≡ o → Advance program job (λ i. None)
          (by_common program text_line source o (λ b. if has_none up a b then on_to (end + 1) source
          else on_to (source.at + 1) (loop_turned nest a source)))
          t (cost_by (length (none_code (program_layout program) up first last) + 1) o
          (λ b. if has_none up a b
          then length (none_code (program_layout program) up first last) + 1 + 1
          else suc ((length (none_code (program_layout program) up first last) + 1) +
          length (value_code (program_layout program) 0 first)))) at hi
      by_last a first_has None lacks = lost (inr lacks)
      by_last a first_has (Some b) last_has =
          by_value a b first_has last_has (has_none up a b) refl

      by_first : (o : Option ℕ) → common_value program source first ≡ o →
          Advance program job (λ i. None) (by_common program text_line source o (λ a.
          by_common program text_line source (common_value program source last) (λ b.
          if has_none up a b then on_to (end + 1) source
          else on_to (source.at + 1) (loop_turned nest a source))))
          t (cost_by (length (none_code (program_layout program) up first last) + 1) o (λ a.
          cost_by (length (none_code (program_layout program) up first last) + 1)
          (common_value program source last) (λ b. if has_none up a b
          then length (none_code (program_layout program) up first last) + 1 + 1
          else suc ((length (none_code (program_layout program) up first last) + 1) +
          length (value_code (program_layout program) 0 first))))) at hi
      by_first None lacks = lost (inl lacks)
      by_first (Some a) has = by_last a has (common_value program source last) refl

  tail_stands : (nest : ℕ) (last : Tree) (up : Bool) (begin end : ℕ) →
      HasCodeAt (site at hi job) at (turn_code (program_layout program) nest last
      ++ (Jz 1 (place_of program (end + 1)) ∷
      (next_value up ∷ (own_store (loop_cells (program_layout program) nest)
      ∷ (Jmp (place_of program (begin + 1)) ∷ []))))) →
      HasCodeAt (site at hi job)
      (at + length (turn_code (program_layout program) nest last) + 1 + 1 + 1)
      (Jmp (place_of program (begin + 1)) ∷ [])
  tail_stands nest last up begin end stands =
      (stands_back (site at hi job) at (turn_code (program_layout program) nest last)
      (Jz 1 (place_of program (end + 1)) ∷
      (next_value up ∷ (own_store (loop_cells (program_layout program) nest)
      ∷ (Jmp (place_of program (begin + 1)) ∷ [])))) stands).1.1.1

  pub turn_advances : (nest : ℕ) (last : Tree) (up : Bool) (begin end : ℕ) →
      nest < (program_layout program).loops →
      IsCommonTree (bounds_of program) last → end < length program.lines →
      begin < length program.lines →
      is_shallow (turn_code (program_layout program) nest last) ≡ true →
      HasCodeAt (site at hi job) at (turn_code (program_layout program) nest last
      ++ (Jz 1 (place_of program (end + 1)) ∷
      (next_value up ∷ (own_store (loop_cells (program_layout program) nest)
      ∷ (Jmp (place_of program (begin + 1)) ∷ []))))) →
      at + length (turn_code (program_layout program) nest last) + 1 + 1 + 1 < hi →
      Advance program job (λ i. None)
      (by_common program text_line source (common_value program source last) (λ b.
      if source.loops nest == b then on_to (end + 1) source
      else on_to (begin + 1) (loop_turned nest (next_turn up (source.loops nest)) source)))
      t (cost_by (length (turn_code (program_layout program) nest last) + 1)
      (common_value program source last) (λ b. if source.loops nest == b
      then length (turn_code (program_layout program) nest last) + 1
      else suc ((length (turn_code (program_layout program) nest last) + 1) + 1) + 1)) at hi
  turn_advances nest last up begin end nest_low is end_low begin_low shallow stands inside =
      by_has (common_value program source last) refl
    where
      by_value : (b : ℕ) → common_value program source last ≡ Some b → (ends : Bool) →
          (source.loops nest == b) ≡ ends →
          Advance program job (λ i. None) (if ends then on_to (end + 1) source
          else on_to (begin + 1) (loop_turned nest (next_turn up (source.loops nest)) source))
          t (if ends then length (turn_code (program_layout program) nest last) + 1
          else suc ((length (turn_code (program_layout program) nest last) + 1) + 1) + 1) at hi
      by_value b has true e = went_on (end + 1)
          (length (turn_code (program_layout program) nest last) + 1)
          (omega arith)
          (λ i lt. last_goes program (site at hi job) of.program_is source memory locals pictured
          fits i (few i lt) nest last up b (place_of program (end + 1))
          (place_of program (begin + 1)) nest_low is has shallow stands e)
      by_value b has false e =
          let k : ℕ = (length (turn_code (program_layout program) nest last) + 1) + 1 in
          let row : ℕ = (program_layout program).privates + nest in
          let place : ℕ = at + length (turn_code (program_layout program) nest last) + 1 + 1 + 1 in
          let place_is_low : place < length job.code = omega arith in
          let values : (ℕ → Option ℕ) = λ i. if is_none (source.gone i) then Some
          (next_turn up (source.loops nest)) else None in
          let P : (ℕ → Local → Type 0) = λ i. IsHere (source.gone i) place i in
          let done : IsMade job (suc (t + k)) memory
          (own_stores (program_layout program) row values) P ×
          StaysIn job at hi t (suc k) × Unchanged job t (suc k)
          × PutOnly job job.cells t (suc k) (own_stores (program_layout program) row values) =
          made_in job of.job_is at hi t k memory locals standing
          (own_stores (program_layout program) row values) P
          (λ i l. bounded place i (source.gone i) l place_is_low)
          (λ i lt. again_makes program (site at hi job) of.program_is source memory locals pictured
          fits i (few i lt) nest last up b (place_of program (end + 1))
          (place_of program (begin + 1)) nest_low is has shallow stands e)
          (own_agree job (program_layout program) row values (procs_same program job of)) in
          let made : IsMade job (suc (t + k)) memory
          (own_stores (program_layout program) row values) P =
          done.0 in
          let left : Went job (suc (t + k) + 1) made.now
          (λ i. IsHere (source.gone i) (place_of program (begin + 1)) i)
          × StaysIn job at hi (suc (t + k)) 1 × Unchanged job (suc (t + k)) 1
          × PutOnly job job.cells (suc (t + k)) 1 (λ i. None) =
          gone_in job of.job_is at hi (suc (t + k)) 1 made.now made.locals made.standing
          (λ i. IsHere (source.gone i) (place_of program (begin + 1)) i)
          (λ i l. bounded (place_of program (begin + 1)) i (source.gone i) l
          (place_low program job of (begin + 1)))
          (λ i lt. jump_goes (site at hi job) made.now i place (place_of program (begin + 1)) []
          (tail_stands nest last up begin end stands)
          (source.gone i) (made.locals i) (made.each i lt)) in
          let went : Went job (suc (t + k) + 1) made.now
          (λ i. IsHere (source.gone i) (place_of program (begin + 1)) i) = left.0 in
          record {
            stays = stays_then job at hi t (suc (t + k)) (suc k) 1
                (let f : suc (t + k) ≡ t + suc k = omega arith in f) done.1 left.1;
            still = still_then job (held_below (program_layout program)) t (suc (t + k)) (suc k) 1
                (let f : suc (t + k) ≡ t + suc k = omega arith in f)
                (still_all job (held_below (program_layout program)) t (suc k) done.2)
                (λ cell less. ap (λ (f : ℕ → ℕ). f cell) made.standing.memory_is
                ∙ made.cells cell (held_low program job of cell less)
                ∙ after_before (program_layout program) job.procs row cell values memory
                (held_before (program_layout program) row cell (omega arith) less)
                ∙ sym (ap (λ (f : ℕ → ℕ). f cell) standing.memory_is))
                (still_all job (held_below (program_layout program)) (suc (t + k)) 1 left.2);
            puts = puts_then job (program_layout program).shared t (suc (t + k)) (suc k) 1
                (λ i. None)
                (let f : suc (t + k) ≡ t + suc k = omega arith in f)
                (none_put t (suc k) row values done.3)
                (λ n i cell value lt less low put.
                left.3 n i cell value lt less (shared_low program job of cell low) put);
            carried = record {
              memory = made.now;
              locals = went.places;
              standing = subst (λ u. StandsAfter job u made.now went.places)
                  (let f : suc (t + k) + 1 ≡ t + (suc k + 1) = omega arith in f) went.standing;
              pictured = turned_pictured program job of source memory locals pictured (suc (t + k))
                  nest (begin + 1) (next_turn up (source.loops nest))
                  place (omega arith) nest_low made went.places (λ i lt. went.each i (many i lt));
            };
          }

      by_has : (o : Option ℕ) → common_value program source last ≡ o →
          Advance program job (λ i. None) (by_common program text_line source o (λ b.
          if source.loops nest == b then on_to (end + 1) source
          else on_to (begin + 1) (loop_turned nest (next_turn up (source.loops nest)) source)))
          t (cost_by (length (turn_code (program_layout program) nest last) + 1) o
          (λ b. if source.loops nest == b
          then length (turn_code (program_layout program) nest last) + 1
          else suc ((length (turn_code (program_layout program) nest last) + 1) + 1) + 1)) at hi
      by_has None lacks = abandons (length (turn_code (program_layout program) nest last) + 1)
          (λ i lt.
          all_out program (site at hi job) of.program_is source memory locals pictured fits i
          (few i lt) text_line (place_of program (length program.lines)) 1
          (turn_code (program_layout program) nest last) _
          (turn_straight (program_layout program) nest last) stands
          (λ held own there. turn_out program (site at hi job) of.program_is source memory i
          (sees program of.program_is source memory locals pictured fits i (few i lt) there)
          nest last held own nest_low is shallow lacks))
      by_has (Some b) has = by_value b has (source.loops nest == b) refl
