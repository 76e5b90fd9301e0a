-- What the lines of a text say, one after another.
use Rattle.std.proofs.Common.{◌≡◌, ◌⊎◌, inl, inr, ℕ, ◌+◌, List, [], ◌∷◌, ◌++◌, length}
use Rattle.std.proofs.Common.{Result, Ok, Err, refl, sym, ap, ◌∙◌, arith}
use Rattle.pardo_text.specs.declared.fault.PardoFault.{PardoFault}
use Rattle.pardo_text.specs.declared.fault.PardoKind.{PardoKind}
use Rattle.pardo_text.specs.Drafts.{Draft, empty}
use Rattle.pardo_text.specs.Laws.{SayTheSame, LinesAreWhatTheySay, drafted, IsBadLine, IsIncomplete}
use Rattle.pardo_text.specs.Laws.{FirstBadLine, AllLinesAreTaken}
use Rattle.text_lines.specs.Lines.{lines_of}
use Rattle.pardo_program.specs.Program.{ProgramData}
use Rattle.pardo_text.specs.Reading.{with_text_line, program_in, program_of, program_after, on_line}
use Rattle.pardo_text.specs.Reading.{and_then}

-- ---- lines that say the same

and_then_same : {A B : Type 0} → (read : Result A PardoFault) (f g : A → Result B PardoFault) →
    ((x : A) → f x ≡ g x) → and_then read f ≡ and_then read g
and_then_same (Ok x) f g e = e x
and_then_same (Err fault) f g e = refl

same_after : (before : List (List ℕ)) (line other : List ℕ) (after : List (List ℕ))
    (draft : Draft) (n : ℕ) → SayTheSame line other →
    program_after draft n (before ++ line ∷ after) ≡ program_after draft n (before ++ other ∷ after)
same_after [] line other after draft n same =
    ap (λ read. and_then (on_line (n + 1) read) (λ next. program_after next (n + 1) after))
    (same (n + 1) draft)
same_after (first ∷ before) line other after draft n same =
    and_then_same (on_line (n + 1) (with_text_line (n + 1) draft first)) _ _
    (λ next. same_after before line other after next (n + 1) same)

pub lines_are_what_they_say : LinesAreWhatTheySay
unfolding program_of
lines_are_what_they_say text other line other_line has same =
    ap (program_after empty 0) has.lines
    ∙ same_after has.before line other_line has.after empty 0 same
    ∙ ap (program_after empty 0) (sym has.other_lines)

-- ---- faults

record BadFrom (from : Draft) (n : ℕ) (lines : List (List ℕ)) (fault : PardoFault) : Type 0 where
  before : List (List ℕ)
  line : List ℕ
  after : List (List ℕ)
  draft : Draft
  all : lines ≡ before ++ line ∷ after
  number : fault.line ≡ n + (length before + 1)
  taken : drafted from n before ≡ Ok draft
  bad : with_text_line fault.line draft line ≡ Err fault.kind

record IncompleteFrom (from : Draft) (n : ℕ) (lines : List (List ℕ)) (fault : PardoFault) :
    Type 0 where
  draft : Draft
  number : fault.line ≡ n + length lines
  taken : drafted from n lines ≡ Ok draft
  bad : program_in draft ≡ Err fault.kind

abbrev FaultFrom : Draft → ℕ → List (List ℕ) → PardoFault → Type 0
FaultFrom from n lines fault = BadFrom from n lines fault ⊎ IncompleteFrom from n lines fault

at_end : (draft : Draft) (n : ℕ) (fault : PardoFault) (read : Result ProgramData PardoKind) →
    program_in draft ≡ read → on_line n read ≡ Err fault → FaultFrom draft n [] fault
at_end draft n fault (Ok program) is e = absurd (let other : Ok program ≡ Err fault = e in cc)
at_end draft n fault (Err kind) is e =
    let same : record { line = n; kind = kind } ≡ fault = cc in
    inr (record {
      draft = draft;
      number = omega (arith, ap (λ f. f.line) same);
      taken = refl;
      bad = is ∙ ap (λ f. Err f.kind) same;
    })

one_more : (draft next : Draft) (n : ℕ) (line : List ℕ) (lines : List (List ℕ))
    (fault : PardoFault) → with_text_line (n + 1) draft line ≡ Ok next →
    FaultFrom next (n + 1) lines fault → FaultFrom draft n (line ∷ lines) fault
one_more draft next n line lines fault is (inl from) = inl (record {
  before = line ∷ from.before;
  line = from.line;
  after = from.after;
  draft = from.draft;
  all = ap (λ rest. line ∷ rest) from.all;
  number = omega (arith, from.number);
  taken = rw is from.taken;
  bad = from.bad;
})
one_more draft next n line lines fault is (inr from) = inr (record {
  draft = from.draft;
  number = omega (arith, from.number);
  taken = rw is from.taken;
  bad = from.bad;
})

abbrev FaultsFrom : List (List ℕ) → Type 0
FaultsFrom lines = (draft : Draft) (n : ℕ) (fault : PardoFault) →
    program_after draft n lines ≡ Err fault → FaultFrom draft n lines fault

at_line : (line : List ℕ) (lines : List (List ℕ)) (draft : Draft) (n : ℕ) (fault : PardoFault)
    (read : Result Draft PardoKind) → FaultsFrom lines → with_text_line (n + 1) draft line ≡ read →
    and_then (on_line (n + 1) read) (λ next. program_after next (n + 1) lines) ≡ Err fault →
    FaultFrom draft n (line ∷ lines) fault
at_line line lines draft n fault (Ok next) more is e =
    one_more draft next n line lines fault is (more next (n + 1) fault e)
at_line line lines draft n fault (Err kind) more is e =
    let same : record { line = n + 1; kind = kind } ≡ fault = cc in
    inl (record {
      before = [];
      line = line;
      after = lines;
      draft = draft;
      all = refl;
      number = omega (arith, ap (λ f. f.line) same);
      taken = refl;
      bad = ap (λ f. with_text_line f.line draft line) (sym same) ∙ is ∙ ap (λ f. Err f.kind) same;
    })

fault_from : (lines : List (List ℕ)) → FaultsFrom lines
fault_from [] draft n fault e = at_end draft n fault (program_in draft) refl e
fault_from (line ∷ lines) draft n fault e =
    at_line line lines draft n fault (with_text_line (n + 1) draft line) (fault_from lines) refl e

pub first_bad_line : FirstBadLine
unfolding program_of
first_bad_line text fault e = said (fault_from (lines_of text) empty 0 fault e)
  where
    said : FaultFrom empty 0 (lines_of text) fault → IsBadLine text fault ⊎ IsIncomplete text fault
    said (inl from) = inl (record {
      before = from.before;
      line = from.line;
      after = from.after;
      draft = from.draft;
      lines = from.all;
      number = omega (arith, from.number);
      taken = from.taken;
      bad = from.bad;
    })
    said (inr from) = inr (record {
      draft = from.draft;
      number = omega (arith, from.number);
      taken = from.taken;
      bad = from.bad;
    })

-- ---- programs

abbrev AllTaken : List (List ℕ) → Type 0
AllTaken lines = (draft : Draft) (n : ℕ) (program : ProgramData) →
    program_after draft n lines ≡ Ok program →
    (last : Draft) × (drafted draft n lines ≡ Ok last) × (program_in last ≡ Ok program)

taken_at_end : (draft : Draft) (n : ℕ) (program : ProgramData)
    (read : Result ProgramData PardoKind) → program_in draft ≡ read → on_line n read ≡ Ok program →
    (last : Draft) × (drafted draft n [] ≡ Ok last) × (program_in last ≡ Ok program)
taken_at_end draft n program (Ok other) is e =
    (draft, refl, is ∙ (let same : other ≡ program = cc in ap Ok same))
taken_at_end draft n program (Err kind) is e =
    absurd (let other : Err (record { line = n; kind = kind }) ≡ Ok program = e in cc)

taken_at_line : (line : List ℕ) (lines : List (List ℕ)) (draft : Draft) (n : ℕ)
    (program : ProgramData) (read : Result Draft PardoKind) → AllTaken lines →
    with_text_line (n + 1) draft line ≡ read →
    and_then (on_line (n + 1) read) (λ next. program_after next (n + 1) lines) ≡ Ok program →
    (last : Draft) × (drafted draft n (line ∷ lines) ≡ Ok last) × (program_in last ≡ Ok program)
taken_at_line line lines draft n program (Ok next) all is e =
    let more = all next (n + 1) program e in (more.0, rw is more.1, more.2)
taken_at_line line lines draft n program (Err kind) all is e =
    absurd (let other : Err (record { line = n + 1; kind = kind }) ≡ Ok program = e in cc)

all_taken : (lines : List (List ℕ)) → AllTaken lines
all_taken [] draft n program e = taken_at_end draft n program (program_in draft) refl e
all_taken (line ∷ lines) draft n program e =
    taken_at_line line lines draft n program (with_text_line (n + 1) draft line) (all_taken lines)
    refl e

pub all_lines_are_taken : AllLinesAreTaken
unfolding program_of
all_lines_are_taken text program e = all_taken (lines_of text) empty 0 program e
