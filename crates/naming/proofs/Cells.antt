-- The parts of a list, and the cells that they name.
use Rattle.std.proofs.Common.{◌≡◌, ◌∙◌, ◌⊎◌, ℕ, zero, suc, ◌+◌, ◌-◌, ◌<◌, ◌≤◌, List, [], ◌∷◌, ◌++◌}
use Rattle.std.proofs.Common.{All}
use Rattle.std.specs.List.{flat_map, range_with_len}
use Rattle.std.proofs.lemmas.List.Elements.{All-append, All-head, All-tail}
use Rattle.std.proofs.lemmas.List.FromFn.{get_or-range_with_len, length-range_with_len}
use Rattle.std.proofs.Common.{Option, None, Some, MatchOption, sym, subst, ap, inl, inr, refl, arith}
use Rattle.std.proofs.Common.{length, take, get_or}
use Rattle.std.proofs.lemmas.List.{get_or-take, get_or_default, length-append}
use Rattle.std.proofs.Math.Seq.{get_or-append_seam, take-append_seam}
use Rattle.command_data.specs.CellLists.{SpellsCell, cell_listed, part_at}
use Rattle.pram_job.specs.Job.{JobData}
use Rattle.naming.specs.CellLists.{AreStretches, HasCells, NamesCells, IsFirstOutside, IsOutside}
use Rattle.naming.specs.CellLists.{cells_from}
use Rattle.naming.specs.declared.places.Stretch.{Stretch}
use Rattle.naming.specs.Names.{NamingData}
use Rattle.refusals.specs.declared.fault.CommandFault.{CommandFault}
use Rattle.refusals.specs.declared.fault.CommandFault.TheVariants.{OutsideCell, OutsidePlace}

-- the part of this turn
turn_at : (parts : List (List ℕ)) (n : ℕ) (part : List ℕ) →
    (n < length parts) × (part ≡ get_or parts n part) → part ≡ part_at parts n
turn_at parts n part turn = turn.1 ∙ get_or_default parts n part [] turn.0

-- the part after those that are done
pub turn_here : (parts done tail : List (List ℕ)) (part : List ℕ) →
    parts ≡ done ++ part ∷ tail → (length done < length parts)
    × (part ≡ get_or parts (length done) part)
turn_here parts done tail part e =
    let sum : length parts ≡ length (done ++ part ∷ tail) =
    ap (λ (l : List (List ℕ)). length l) e in (
      omega (arith, sum, length-append done (part ∷ tail)),
      sym (ap (λ (l : List (List ℕ)). get_or l (length done) part) e
          ∙ get_or-append_seam done part tail part),
    )

pub front_here : (parts done tail : List (List ℕ)) → parts ≡ done ++ tail →
    done ≡ take (length done) parts
front_here parts done tail e =
    sym (ap (λ (l : List (List ℕ)). take (length done) l) e ∙ take-append_seam done tail)

-- whether one was found
pub found_none : {X : Type 0} → (r : Option X) (No : Type 0) (Yes : X → Type 0) →
    MatchOption r No Yes → ((x : X) → r ≡ Some x → ⊥) → No
found_none None No Yes told none = told
found_none (Some x) No Yes told none = absurd (none x refl)

pub found_some : {X : Type 0} → (r : Option X) (No : Type 0) (Yes : X → Type 0) (x : X) →
    MatchOption r No Yes → r ≡ Some x → Yes x
found_some None No Yes x told is = cc is
found_some (Some y) No Yes x told is = let same : y ≡ x = cc is in subst Yes same told

-- ---- what each part names

module _ (names : Option NamingData) where
  pub named_more : (parts : List (List ℕ)) (named : List Stretch) (part : List ℕ)
      (cells : Stretch) → AreStretches names parts named → NamesCells names part cells →
      AreStretches names (parts ++ part ∷ []) (named ++ cells ∷ [])
  named_more [] [] part cells are is = (is, tt)
  named_more [] (other ∷ named) part cells are is = absurd are
  named_more (first ∷ parts) [] part cells are is = absurd are
  named_more (first ∷ parts) (other ∷ named) part cells are is =
      (are.0, named_more parts named part cells are.1 is)

  pub as_many : (parts : List (List ℕ)) (named : List Stretch) → AreStretches names parts named →
      length parts ≡ length named
  as_many [] [] are = refl
  as_many [] (other ∷ named) are = absurd are
  as_many (first ∷ parts) [] are = absurd are
  as_many (first ∷ parts) (other ∷ named) are = ap suc (as_many parts named are.1)

  module _ (job : JobData) where
    abbrev pub IsWithin : Stretch → Type 0
    IsWithin cells = cells.end ≤ job.cells

    at_place : (parts : List (List ℕ)) (named : List Stretch) (k : ℕ) →
        AreStretches names parts named → All IsWithin named → k < length parts →
        HasCells names job (get_or parts k [])
    at_place [] named k are within lt = absurd (omega (arith, lt))
    at_place (first ∷ parts) [] k are within lt = absurd are
    at_place (first ∷ parts) (cells ∷ named) zero are within lt =
        (cells, are.0, All-head IsWithin cells named within)
    at_place (first ∷ parts) (cells ∷ named) (suc k) are within lt =
        at_place parts named k are.1 (All-tail IsWithin cells named within) (omega (arith, lt))

    -- the first part that has no cells
    pub first_without : (parts so_far : List (List ℕ)) (named : List Stretch) (n : ℕ)
        (part : List ℕ) → so_far ≡ take n parts → length so_far ≡ n →
        AreStretches names so_far named → All IsWithin named →
        (n < length parts) × (part ≡ get_or parts n part) → ¬ HasCells names job part →
        IsFirstOutside names job parts n
    first_without parts so_far named n part front count are within turn none = record {
      within = turn.0;
      before = λ k lt.
          let here : k < length so_far = omega (arith, count, lt) in
          let same : get_or so_far k [] ≡ part_at parts k =
          ap (λ (ps : List (List ℕ)). get_or ps k []) front ∙ get_or-take n parts k [] lt in
          subst (λ (p : List ℕ). HasCells names job p) same
          (at_place so_far named k are within here);
      here = λ has. none
          (subst (λ (p : List ℕ). HasCells names job p) (sym (turn_at parts n part turn)) has);
    }

    -- so says the fault
    pub said_outside : (parts : List (List ℕ)) (n : ℕ) (part : List ℕ) (found : CommandFault) →
        IsFirstOutside names job parts n → (n < length parts) × (part ≡ get_or parts n part) →
        (SpellsCell part × (found ≡ OutsideCell (cell_listed part)))
        ⊎ ((¬ SpellsCell part) × (found ≡ OutsidePlace n)) → IsOutside names job parts found
    said_outside parts n part found first turn is =
        let same = turn_at parts n part turn in
        elim is [
          | inl (spells, so) ↦ subst (λ (f : CommandFault). IsOutside names job parts f) (sym so) (
            n,
            first,
            subst (λ (p : List ℕ). SpellsCell p) same spells,
            ap cell_listed same,
          )
          | inr (spells, so) ↦ subst (λ (f : CommandFault). IsOutside names job parts f) (sym so) (
            first,
            (λ s. spells (subst (λ (p : List ℕ). SpellsCell p) (sym same) s)),
          )
        ]

-- ---- all of them

-- one number more
pub range_more : (first count last : ℕ) → first + count ≡ last →
    range_with_len first (count + 1) ≡ range_with_len first count ++ last ∷ []
range_more first zero last e = ap (λ (n : ℕ). n ∷ []) (omega (arith, e))
range_more first (suc count) last e =
    let same : suc count + 1 ≡ suc (count + 1) = omega arith in
    ap (range_with_len first) same
    ∙ ap (λ (l : List ℕ). first ∷ l) (range_more (first + 1) count last (omega (arith, e)))

-- each is below what none ends after
module _ (most : ℕ) where
  abbrev Below : ℕ → Type 0
  Below cell = cell < most

  below_all : (cells : Stretch) → cells.end ≤ most → All Below (cells_from cells)
  below_all cells few = λ k default lt.
      let here : k < cells.end - cells.first =
      omega (arith, lt, length-range_with_len cells.first (cells.end - cells.first)) in
      omega (
        arith,
        here,
        get_or-range_with_len cells.first (cells.end - cells.first) k default here,
      )

  pub all_below : (named : List Stretch) → All (λ cells. cells.end ≤ most) named →
      All Below (flat_map cells_from named)
  all_below [] few = λ k default lt. absurd (omega (arith, lt))
  all_below (cells ∷ named) few =
      All-append Below (cells_from cells) (flat_map cells_from named)
      (below_all cells (All-head (λ (s : Stretch). s.end ≤ most) cells named few))
      (all_below named (All-tail (λ (s : Stretch). s.end ≤ most) cells named few))
