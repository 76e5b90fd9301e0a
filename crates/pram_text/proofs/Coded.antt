-- The instructions of a text, each label as its index.
use Rattle.std.proofs.Common.{◌≡◌, ℕ, zero, suc, ◌+◌, ◌<◌, List, [], ◌∷◌, ◌++◌, length, map}
use Rattle.std.proofs.Common.{take, get_or, Result, Ok, Err, None, refl, ap, ap₂, sym, ◌∙◌}
use Rattle.std.specs.Result.{result_err}
use Rattle.std.proofs.lemmas.List.{get_or-map, get_or-take, take-map, map-append, map_more}
use Rattle.pram_text.specs.declared.fault.TextKind.{TextKind}
use Rattle.pram_job.specs.declared.instr.Instr.{Instr}
use Rattle.pram_job.specs.declared.instr.Instr.TheVariants.{Halt}
use Rattle.pram_text.specs.declared.program.Written.{Written}
use Rattle.pram_text.specs.Inner.Reading.{fault_of_index}
use Rattle.pram_text.specs.Text.{IsFirst}

pub no_fault-Ok : (code : List Instr) (k : ℕ) → fault_of_index (map (λ i. Ok i) code) k ≡ None
no_fault-Ok [] k = refl
no_fault-Ok (i ∷ code) zero = refl
no_fault-Ok (i ∷ code) (suc k) = no_fault-Ok code k

module _ (outcome : Written → Result Instr TextKind)
    (written : List Written) (i : ℕ) (d : Written) (code : List Instr) (here : i < length written)
    (before : map outcome (take i written) ≡ map (λ j. Ok j) code) where
  -- one statement more
  pub coded_more : (instr : Instr) → outcome (get_or written i d) ≡ Ok instr →
      map outcome (take (i + 1) written) ≡ map (λ j. Ok j) (code ++ instr ∷ [])
  coded_more instr e = map_more outcome written i d here ∙ ap₂ (λ xs x. xs ++ x ∷ []) before e
      ∙ sym (map-append (λ j. Ok j) code (instr ∷ []))

  -- the first statement that is wrong
  pub first_wrong : (kind : TextKind) → outcome (get_or written i d) ≡ Err kind →
      IsFirst (fault_of_index (map outcome written)) (length written) i kind
  first_wrong kind e = record {
    within = here;
    here = ap result_err (get_or-map outcome written i d (Ok Halt) here ∙ e);
    earlier = λ k l. ap result_err (sym (get_or-take i (map outcome written) k (Ok Halt) l) ∙ ap
        (λ xs. get_or xs k (Ok Halt)) (take-map outcome i written ∙ before)) ∙ no_fault-Ok code k;
  }
