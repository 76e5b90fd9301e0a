-- The draft of a program is that of its flat program.
use Rattle.std.proofs.Common.{◌≡◌, ℕ, ◌<◌, List, Result, Ok, Err, length, map, sym, ap, ◌∙◌, subst, arith}
use Rattle.std.specs.Prelude.{IfErr, slice_index}
use Rattle.std.proofs.lemmas.List.{get_or-map}
use Rattle.pram_job.specs.Job.{JobData}
use Rattle.pram_job.specs.declared.limits.TheConstants.{MAX_CODE}
use Rattle.pardo_program.specs.Lawful.{IsProgram}
use Rattle.pardo_program.specs.Program.{ProgramData}
use Rattle.pardo_flat.specs.declared.flat.Flat.{Flat}
use Rattle.pardo_flat.specs.Flat.{first_flat_of, flat}
use Rattle.pardo_flat.specs.Inner.Flats.{DoAllFit, IsFlatProgram}
use Rattle.pardo_flat.proofs.FlatLawful.{first_within}
use Rattle.pardo_flat.proofs.FlatWhole.{first_same, whole}
use Rattle.pardo_job.specs.declared.fault.JobKind.{JobKind}
use Rattle.pardo_job.specs.declared.fault.JobKind.TheVariants.{TooDeep, TooLong, Endless, Memory}
use Rattle.pardo_job.specs.declared.fault.JobKind.TheVariants.{TooManyCells}
use Rattle.pardo_job.specs.Drafts.{AreLinePlaces, ArePlacesOf, IsDraft, IsLinesDraft}
use Rattle.pardo_job.specs.Inner.Listings.{AreFirstPlaces}
use Rattle.pardo_job.specs.Lines.{place_of}
use Rattle.pardo_job.specs.Refusals.{IsLinesFault, IsProgramFault}

pub err_weaker : {X Y : Type 0} (r : Result X Y) (P Q : Y → Type 0) → ((y : Y) → P y → Q y) →
    IfErr r P → IfErr r Q
err_weaker (Ok x) P Q f p = tt
err_weaker (Err y) P Q f p = f y p

pub lines_fault : (program : ProgramData) (number : ℕ) (kind : JobKind) →
    IsLinesFault (flat program) number kind → IsProgramFault program number kind
lines_fault program number TooDeep f = f
lines_fault program number TooLong f = f
lines_fault program number Endless f = f
lines_fault program number Memory f = f
lines_fault program number TooManyCells f = absurd f

-- ---- of a program that is flat already

module _ (program : ProgramData) (lawful : IsProgram program) (fit : DoAllFit program.lines) where
  same_is : flat program ≡ program
  same_is = whole program lawful fit

  pub same_draft : (job : JobData) (numbers : List ℕ) → IsLinesDraft program job numbers →
      IsDraft program job numbers
  same_draft job numbers draft = subst (λ p. IsLinesDraft p job numbers) (sym same_is) draft

  pub same_places : (places : List ℕ) → AreLinePlaces program places → ArePlacesOf program places
  same_places places are = record {
    each = λ j lt. are.each j lt
        ∙ ap (place_of program) (sym (first_same program lawful fit j (omega (arith, lt))))
        ∙ ap (λ (p : ProgramData). place_of p (first_flat_of program j)) (sym same_is);
    short = subst (λ (p : ProgramData). place_of p (length p.lines) < MAX_CODE) (sym same_is)
        are.short;
  }

  pub same_fault : (number : ℕ) (kind : JobKind) → IsLinesFault program number kind →
      IsProgramFault program number kind
  same_fault number kind fault = lines_fault program number kind
      (subst (λ p. IsLinesFault p number kind) (sym same_is) fault)

-- ---- of its flat program

module _ (program : ProgramData) (lawful : IsProgram program) (given : Flat)
    (is : IsFlatProgram program given) where
  pub flat_draft : (job : JobData) (numbers : List ℕ) → IsLinesDraft given.program job numbers →
      IsDraft program job numbers
  flat_draft job numbers draft = subst (λ p. IsLinesDraft p job numbers) is.program_is draft

  pub flat_places : (places : List ℕ) →
      AreFirstPlaces given.program given.firsts.items places → ArePlacesOf program places
  flat_places places are = record {
    each = λ j lt.
        let e = is.firsts_are j (omega (arith, lt)) in
        let within = first_within program lawful j lt in
        let same = ap (λ (p : ProgramData). length p.lines) is.program_is in
        are.each j (let count = is.count in omega (arith, lt, count))
        (omega (arith, e, within, same))
        ∙ ap (place_of given.program) e
        ∙ ap (λ (p : ProgramData). place_of p (first_flat_of program j)) is.program_is;
    short = subst (λ (p : ProgramData). place_of p (length p.lines) < MAX_CODE) is.program_is
        are.short;
  }

  pub flat_fault : (number : ℕ) (kind : JobKind) → IsLinesFault given.program number kind →
      IsProgramFault program number kind
  flat_fault number kind fault = lines_fault program number kind
      (subst (λ p. IsLinesFault p number kind) is.program_is fault)

-- ---- places by the first lines

pub first_places_are : (lines : ProgramData) (places firsts given old froms : List ℕ) →
    AreLinePlaces lines places → old ≡ places → froms ≡ firsts →
    given ≡ map (slice_index old) froms → AreFirstPlaces lines firsts given
first_places_are lines places firsts given old froms are e f g = record {
  each = λ j lt within. ap (λ (l : List ℕ). slice_index l j)
      (g ∙ ap (λ (l : List ℕ). map (slice_index l) froms) e ∙ ap (map (slice_index places)) f)
      ∙ get_or-map (slice_index places) firsts j 0 0 lt
      ∙ are.each (slice_index firsts j) within;
  short = are.short;
}
