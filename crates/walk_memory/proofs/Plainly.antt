-- Loads of which little is to be done.
use Rattle.std.proofs.Common.{◌≡◌, ◌≢◌, ℕ, zero, suc, ◌%◌, ◌<◌, length, List, [], ◌∷◌, Some}
use Rattle.std.proofs.Common.{slice_index, refl, sym, ap, subst, ◌∙◌, arith, ◌⊎◌, inl, inr}
use Rattle.std.specs.Prelude.{slice_set}
use Rattle.std.proofs.lemmas.List.{length-map}
use Rattle.pram_job.specs.declared.instr.Instr.TheVariants.{Ld}
use Rattle.pram_job.specs.declared.instr.Operand.TheVariants.{Register, Number}
use Rattle.pram_job.specs.declared.instr.Place.{Place}
use Rattle.pram_job.specs.declared.instr.Place.TheVariants.{Cell, Named}
use Rattle.pram_job.specs.Job.{JobData}
use Rattle.pram_machine.specs.Instructions.{index_of, reached}
use Rattle.walk_memory.specs.declared.load_in.Loads.{Loads}
use Rattle.walk_memory.specs.declared.memo.Memo.{Memo}
use Rattle.walk_memory.specs.declared.memo.Own.{Own}
use Rattle.walk_memory.specs.Inner.Posts.{PostData, at_rank, processor_of}
use Rattle.walk_memory.specs.Lanes.{entries}
use Rattle.walk_memory.specs.Memory.{cell_named, memo_of}
use Rattle.walk_memory.specs.Plain.{AllLoadBy, LoadsPlainly}
use Rattle.walk_memory.specs.Rows.{held_in}
use Rattle.walk_memory.proofs.Lanes.{four_are}

-- ---- the test of lanes

-- four numbers that are the same but for the one at r
pub set_same : (a b c d e f g h r : ℕ) → (0 ≢ r → a ≡ e) → (1 ≢ r → b ≡ f) → (2 ≢ r → c ≡ g) →
    (3 ≢ r → d ≡ h) → (value : ℕ) →
    slice_set (a ∷ b ∷ c ∷ d ∷ []) r value ≡ slice_set (e ∷ f ∷ g ∷ h ∷ []) r value
set_same a b c d e f g h zero p q s t value =
    rw (q (λ x. absurd (cc)), s (λ x. absurd (cc)), t (λ x. absurd (cc))) refl
set_same a b c d e f g h (suc zero) p q s t value =
    rw (p (λ x. absurd (cc)), s (λ x. absurd (omega (arith, x))), t (λ x. absurd (omega (arith, x)))) refl
set_same a b c d e f g h (suc (suc zero)) p q s t value =
    rw (p (λ x. absurd (cc)), q (λ x. absurd (omega (arith, x))), t (λ x. absurd (omega (arith, x)))) refl
set_same a b c d e f g h (suc (suc (suc zero))) p q s t value =
    rw (p (λ x. absurd (cc)), q (λ x. absurd (omega (arith, x))), s (λ x. absurd (omega (arith, x)))) refl
set_same a b c d e f g h (suc (suc (suc (suc n)))) p q s t value =
    rw (
      p (λ x. absurd (omega (arith, x))),
      q (λ x. absurd (omega (arith, x))),
      s (λ x. absurd (omega (arith, x))),
      t (λ x. absurd (omega (arith, x))),
    ) refl

pub told_but : (told own : List ℕ) (r : ℕ) → length told ≡ 4 → length own ≡ 4 →
    (0 ≢ r → slice_index told 0 ≡ slice_index own 0) →
    (1 ≢ r → slice_index told 1 ≡ slice_index own 1) →
    (2 ≢ r → slice_index told 2 ≡ slice_index own 2) →
    (3 ≢ r → slice_index told 3 ≡ slice_index own 3) → (value : ℕ) →
    slice_set told r value ≡ slice_set own r value
told_but told own r four other p q s t value =
    ap (λ (xs : List ℕ). slice_set xs r value) (four_are told four)
    ∙ set_same _ _ _ _ _ _ _ _ r p q s t value
    ∙ ap (λ (xs : List ℕ). slice_set xs r value) (sym (four_are own other))

-- entry k of each of four rows
pub four_entries : (rows : List (List ℕ)) (k : ℕ) → length rows ≡ 4 → length (entries rows k) ≡ 4
four_entries rows k four = length-map rows (λ (row : List ℕ). slice_index row k) ∙ four

-- the cell that a load reads
pub load_reads : (job : JobData) (own : Own) (r : ℕ) (place : Place) →
    cell_named job own (Some (Ld r place))
    ≡ reached job place (held_in (index_of place) own.registers)
load_reads job own r (Cell (Register a)) = refl
load_reads job own r (Cell (Number n)) = refl
load_reads job own r (Named array (Register a)) = refl
load_reads job own r (Named array (Number n)) = refl

-- the same at another rank
pub plain_at : (at : PostData) (rank : ℕ) (memo : Memo) (r cell : ℕ) → LoadsPlainly at memo r cell →
    LoadsPlainly (at_rank at rank) memo r cell
plain_at at rank memo r cell is = record {
  first = is.first;
  before = is.before;
  place = is.place;
  code = is.code;
  reads = is.reads;
  below = is.below;
  four = is.four;
  counter = is.counter;
  told = is.told;
}

-- after the load of one, those of the others of its block are as they were
pub loads_left : (at : PostData) (len : ℕ) (memory now : List Memo) (loads : Loads) →
    ((i : ℕ) → i ≢ processor_of at → memo_of now i ≡ memo_of memory i) →
    AllLoadBy at len memory loads → AllLoadBy (at_rank at (suc at.rank)) len now loads
loads_left at len memory now loads others all = λ rank from to.
    let i = processor_of (at_rank at rank) in
    subst (λ (m : Memo). LoadsPlainly (at_rank at rank) m loads.register
    (slice_index loads.cells (i % 64)))
    (sym (others i (λ e. absurd (omega (arith, from, e)))))
    (all rank (omega (arith, from)) to)

-- ---- a load

pub four_ways : (r : ℕ) → r < 4 → (r ≡ 0) ⊎ ((r ≡ 1) ⊎ ((r ≡ 2) ⊎ (r ≡ 3)))
four_ways zero low = inl refl
four_ways (suc zero) low = inr (inl refl)
four_ways (suc (suc zero)) low = inr (inr (inl refl))
four_ways (suc (suc (suc zero))) low = inr (inr (inr refl))
four_ways (suc (suc (suc (suc n)))) low = absurd (omega (arith, low))
