-- Cells that are spelled, and a block that there is, are no bad values.
use Rattle.std.proofs.Common.{◌≡◌, ◌∙◌, ℕ, List, Option}
use Rattle.std.proofs.Common.{None, Some, MatchOption, option_map, arith, ap, codes}
use Rattle.std.proofs.Common.{refl, subst, sym, true, false}
use Rattle.std.proofs.Math.Nat.{pow-le-pow_right}
use Rattle.std.specs.Prelude.{IsSome, IsSomeAnd, find, option_and_then, slice_get}
use Rattle.std.specs.Str.{bytes_eq}
use Rattle.std.specs.Str.Parse.{digits_value, without_leading_plus}
use Rattle.clap.specs.Values.{read_as}
use Rattle.clap.specs.Walk.{row_text}
use Rattle.clap.specs.Words.{Row, Text, first_of, one_of}
use Rattle.command_data.specs.CellLists.{SpellsCells}
use Rattle.command_data.specs.Manner.{IsGrain, size_of}
use Rattle.command_data.specs.declared.block.Block.{Block}
use Rattle.pram_cost.specs.Beyond.{model_named}
use Rattle.pram_cost.specs.declared.pram.Pram.{Pram}
use Rattle.command_line.specs.CommandLine.{HasBadBlock, HasBadCells, HasBadModel, HasTwoPlans}
use Rattle.command_line.specs.CommandLine.{IsBlockIfSet, IsModelIfSet, IsNumberOf}

abbrev value_of : Text → ℕ
value_of text = digits_value 10 (without_leading_plus text)

-- ---- a number is that of its option

-- an option without a first value has no value that is read
unread : (found : Option Row) → option_and_then (λ r. slice_get r.values 0) found ≡ None →
    option_and_then row_text found ≡ None
unread None none = refl
unread (Some row) none = ap (option_map (read_as row.reading)) none

same_number : (text : Option Text) (n m : ℕ) → IsSomeAnd text (λ t. n ≡ value_of t) →
    IsSomeAnd text (λ t. m ≡ value_of t) → n ≡ m
same_number None n m h k = absurd h
same_number (Some text) n m h k = h ∙ sym k

-- ---- the values of a line

pub no_cells : (rows : List Row) (cells : Text) → first_of (codes "cells") rows ≡ Some cells →
    SpellsCells cells → HasBadCells rows → ⊥
no_cells rows cells has spells bad =
    let same : Some cells ≡ Some bad.cells = sym has ∙ bad.has_cells in
    bad.bad (subst SpellsCells (let e : cells ≡ bad.cells = cc same in e) spells)

grain_of : (block : Block) → IsGrain (size_of block)
grain_of block = (
  (block.exponent, refl),
  pow-le-pow_right {n = 2} (omega arith) {i = block.exponent} {j = 6} block.most,
)

pub no_block : (rows : List Row) (block : Option Block) → IsBlockIfSet rows block →
    HasBadBlock rows → ⊥
no_block rows block set bad =
    by (first_of (codes "block") rows) block
    (unread (find (λ r. bytes_eq r.id (codes "block")) rows)) set
  where
    by : (first : Option Text) (block : Option Block) →
        (first ≡ None → one_of (codes "block") rows ≡ None) →
        MatchOption first (option_map size_of block ≡ None)
        (λ _. IsSomeAnd (option_map size_of block) (IsNumberOf (codes "block") rows)) → ⊥
    by None block none set = subst (λ (o : Option Text). IsSomeAnd o (λ t. bad.size ≡ value_of t))
        (none refl) bad.has_block
    by (Some text) None none set = set
    by (Some text) (Some block) none set = bad.bad (subst IsGrain
        (same_number (one_of (codes "block") rows) (size_of block) bad.size set bad.has_block)
        (grain_of block))

-- ---- two plans

one_plan : (found : Option Text) → found ≡ None → IsSome found → ⊥
one_plan None none some = let e : false ≡ true = some in cc e
one_plan (Some text) none some = cc none

is_some_text : (found : Option Text) (text : Text) → found ≡ Some text → IsSome found
is_some_text None text some = cc some
is_some_text (Some it) text some = refl

pub no_plan : (rows : List Row) → first_of (codes "plan") rows ≡ None → HasTwoPlans rows → ⊥
no_plan rows none two = one_plan (first_of (codes "plan") rows) none two.0

pub no_seed : (rows : List Row) → first_of (codes "random") rows ≡ None → HasTwoPlans rows → ⊥
no_seed rows none two = one_plan (first_of (codes "random") rows) none two.1

pub two_plans : (rows : List Row) (plan seed : Text) → first_of (codes "plan") rows ≡ Some plan →
    first_of (codes "random") rows ≡ Some seed → HasTwoPlans rows
two_plans rows plan seed named given = (
  is_some_text (first_of (codes "plan") rows) plan named,
  is_some_text (first_of (codes "random") rows) seed given,
)

-- ---- models

module _ (rows : List Row) where
  named_by : (text : Text) (named : Option Pram) → first_of (codes "model") rows ≡ Some text →
      named ≡ model_named text → option_map model_named (first_of (codes "model") rows) ≡ Some named
  named_by text named first is =
      ap (λ (t : Option Text). option_map model_named t) first
      ∙ ap (λ (p : Option Pram). Some p) (sym is)

  pub is_model : (text : Text) (named : Option Pram) (pram : Pram) →
      first_of (codes "model") rows ≡ Some text → named ≡ model_named text → named ≡ Some pram →
      IsModelIfSet rows (Some pram)
  is_model text named pram first is some =
      named_by text named first is ∙ ap (λ (p : Option Pram). Some p) some

  pub is_no_model : first_of (codes "model") rows ≡ None → IsModelIfSet rows None
  is_no_model none = ap (λ (t : Option Text). option_map model_named t) none

  pub bad_model : (text : Text) (named : Option Pram) → first_of (codes "model") rows ≡ Some text →
      named ≡ model_named text → named ≡ None → HasBadModel rows
  bad_model text named first is none =
      named_by text named first is ∙ ap (λ (p : Option Pram). Some p) none

  pub good_model : (text : Text) (named : Option Pram) (pram : Pram) →
      first_of (codes "model") rows ≡ Some text → named ≡ model_named text → named ≡ Some pram →
      HasBadModel rows → ⊥
  good_model text named pram first is some bad =
      let same : Some (Some pram) ≡ Some None = sym (is_model text named pram first is some) ∙ bad in
      cc same

  pub none_bad : first_of (codes "model") rows ≡ None → HasBadModel rows → ⊥
  none_bad none bad =
      let same : None ≡ Some None = sym (is_no_model none) ∙ bad in cc same
