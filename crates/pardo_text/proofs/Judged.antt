-- Programs and faults, line by line.
use Rattle.std.proofs.Common.{◌≡◌, ◌≢◌, ℕ, ◌+◌, List, ◌∷◌, Result, Ok, Err, sym, ap, ◌∙◌}
use Rattle.pardo_text.specs.declared.fault.PardoFault.{PardoFault}
use Rattle.pardo_text.specs.declared.fault.PardoKind.{PardoKind}
use Rattle.pardo_text.specs.declared.fault.PardoKind.TheVariants.{Memory}
use Rattle.pardo_text.specs.Drafts.{Draft}
use Rattle.pardo_text.specs.Reading.{IsReaderRefusal, and_then, on_line, program_after}
use Rattle.pardo_text.specs.Reading.{program_of, with_text_line}

-- a line is taken
pub program_after-line : (draft next : Draft) (number : ℕ) (line : List ℕ) (lines : List (List ℕ)) →
    with_text_line (number + 1) draft line ≡ Ok next →
    program_after draft number (line ∷ lines) ≡ program_after next (number + 1) lines
program_after-line draft next number line lines is =
    ap (λ (read : Result Draft PardoKind). and_then (on_line (number + 1) read)
    (λ after. program_after after (number + 1) lines)) is

-- or it has a fault
pub program_after-fault : (draft : Draft) (number : ℕ) (line : List ℕ) (lines : List (List ℕ))
    (kind : PardoKind) → with_text_line (number + 1) draft line ≡ Err kind →
    program_after draft number (line ∷ lines) ≡ Err (record { line = number + 1; kind = kind })
program_after-fault draft number line lines kind is =
    ap (λ (read : Result Draft PardoKind). and_then (on_line (number + 1) read)
    (λ after. program_after after (number + 1) lines)) is

same_fault : (fault : PardoFault) (line : ℕ) (kind : PardoKind) → fault.kind ≡ kind →
    fault.line ≡ line → record { line = line; kind = kind } ≡ fault
same_fault fault line kind e f =
    ap (λ (n : ℕ). record { line = n; kind = kind }) (sym f)
    ∙ ap (λ (k : PardoKind). record { line = fault.line; kind = k }) (sym e)

-- the fault of a line is that of the text
pub IsRefusal-from : (text : List ℕ) (fault : PardoFault) (line : ℕ) (kind : PardoKind) →
    fault.kind ≡ kind → (kind ≢ Memory → fault.line ≡ line) → (kind ≡ Memory → fault.line ≡ 0) →
    (kind ≢ Memory → program_of text ≡ Err (record { line = line; kind = kind })) →
    IsReaderRefusal text fault
IsRefusal-from text fault line kind is here memory told = (
  λ other.
      let spoken : kind ≢ Memory = λ e. other (is ∙ e) in
      told spoken ∙ ap Err (same_fault fault line kind is (here spoken)),
  λ e. memory (sym is ∙ e),
)
