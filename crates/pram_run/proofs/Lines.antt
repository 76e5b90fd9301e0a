-- The lines of a trace's rows and of sights, and that csv writes them without quotes.
use Rattle.std.proofs.Common.{◌≡◌, ◌∙◌, ◌++◌, ◌+◌, ◌<◌, ◌^◌, ◌∷◌, []}
use Rattle.std.proofs.Common.{ℕ, List, Option, false, refl, subst, sym, ap, append_assoc}
use Rattle.std.proofs.Common.{append-nil, length, take, get_or, drop, arith}
use Rattle.std.proofs.lemmas.List.{length-take-le, take-append-drop, take_all, take_more}
use Rattle.std.specs.Prelude.{codes, decimal}
use Rattle.csv.specs.Writing.{default_writer, field_text, fields_text}
use Rattle.csv.specs.Writing.{is_blank, row_text}
use Rattle.pram_streams.specs.Transfer.{AppendsBeginning}
use Rattle.pram_streams.proofs.Beginnings.{beginning-longer}
use Rattle.pram_streams.proofs.Plain.{IsPlain}
use Rattle.pram_run.specs.Printed.{CellWords, kind_word, trace_line, row_lines, sight_line}
use Rattle.pram_run.specs.Printed.{sight_lines, sights_text, trace_text}
use Rattle.pram_run.specs.declared.sight.Sight.{Sight}
use Rattle.pram_run.specs.declared.trace.StepKind.{StepKind}
use Rattle.pram_run.specs.declared.trace.StepKind.TheVariants.{Load, Store, Max, Swap}
use Rattle.pram_run.specs.declared.trace.TraceRow.{TraceRow}

-- the lines of some rows, and then of others
pub lines-append : (tick : ℕ) (rows more : List TraceRow) →
    row_lines tick (rows ++ more) ≡ row_lines tick rows ++ row_lines (tick + length rows) more
lines-append tick [] more =
    let none : tick ≡ tick + 0 = omega arith in
    ap (λ n. row_lines n more) none
lines-append tick (row ∷ rows) more =
    let count : tick + 1 + length rows ≡ tick + length (row ∷ rows) = omega arith in
    ap (λ l. trace_line (tick + 1) row ++ l) (lines-append (tick + 1) rows more
    ∙ ap (λ n. row_lines (tick + 1) rows ++ row_lines n more) count)
    ∙ sym (append_assoc (trace_line (tick + 1) row) (row_lines (tick + 1) rows)
    (row_lines (tick + length (row ∷ rows)) more))

-- the lines of one row more
pub lines-more : (tick : ℕ) (rows : List TraceRow) (n : ℕ) (d : TraceRow) → n < length rows →
    row_lines tick (take (n + 1) rows)
    ≡ row_lines tick (take n rows) ++ trace_line (tick + n + 1) (get_or rows n d)
lines-more tick rows n d within =
    let count : tick + length (take n rows) ≡ tick + n =
    omega (arith, length-take-le n rows (omega (arith, within))) in
    ap (λ l. row_lines tick l) (take_more rows n d within)
    ∙ lines-append tick (take n rows) (get_or rows n d ∷ [])
    ∙ ap (λ k. row_lines tick (take n rows) ++ row_lines k (get_or rows n d ∷ [])) count
    ∙ ap (λ l. row_lines tick (take n rows) ++ l)
    (append-nil (trace_line (tick + n + 1) (get_or rows n d)))

-- the lines of all the rows, where they were made from the first row on
pub lines-all : (tick : ℕ) (rows : List TraceRow) (lines : List ℕ) →
    row_lines tick (take 0 rows) ++ lines ≡ row_lines tick (take (length rows) rows) →
    lines ≡ row_lines tick rows
lines-all tick rows lines is =
    is ∙ ap (λ l. row_lines tick l) (take_all (length rows) rows (omega arith))

-- a beginning of the trace of the first rows is one of the whole trace
pub trace-begins : (a b : Option (List ℕ)) (rows : List TraceRow) (n : ℕ) →
    AppendsBeginning a b (trace_text (take n rows)) → AppendsBeginning a b (trace_text rows)
trace-begins a b rows n begins =
    let all = lines-append 0 (take n rows) (drop n rows) in
    let whole = ap (λ l. trace_text l) (take-append-drop n rows) in
    rw (sym whole, all) (beginning-longer a b (trace_text (take n rows))
    (row_lines (0 + length (take n rows)) (drop n rows)) begins)

kind-plain : (kind : StepKind) → field_text default_writer (kind_word kind) ≡ kind_word kind
kind-plain Load = refl
kind-plain Store = refl
kind-plain Max = refl
kind-plain Swap = refl

-- a row of such fields as csv writes it
pub row-text : (tick worker word before after : List ℕ) (kind : StepKind) →
    IsPlain tick → IsPlain worker → IsPlain word → IsPlain before → IsPlain after →
    row_text default_writer (tick ∷ worker ∷ kind_word kind ∷ word ∷ before ∷ after ∷ [])
    ≡ tick ++ codes "," ++ worker ++ codes "," ++ kind_word kind ++ codes "," ++ word ++ codes ","
    ++ before ++ codes "," ++ after ++ codes "\n"
unfolding fields_text is_blank
row-text tick worker word before after kind ticks workers words befores afters =
    rw (ticks, workers, kind-plain kind, words, befores, afters) (simp append_assoc)

module _ (words : CellWords) where
  -- the lines of some sights, and then of others
  pub sights-append : (sights more : List Sight) →
      sight_lines words (sights ++ more) ≡ sight_lines words sights ++ sight_lines words more
  sights-append [] more = refl
  sights-append (sight ∷ sights) more =
      ap (λ l. sight_line words sight ++ l) (sights-append sights more)
      ∙ sym (append_assoc (sight_line words sight) (sight_lines words sights) (sight_lines words more))

  -- the lines of one sight more
  pub sights-more : (sights : List Sight) (n : ℕ) (d : Sight) → n < length sights →
      sight_lines words (take (n + 1) sights)
      ≡ sight_lines words (take n sights) ++ sight_line words (get_or sights n d)
  sights-more sights n d within =
      ap (λ l. sight_lines words l) (take_more sights n d within)
      ∙ sights-append (take n sights) (get_or sights n d ∷ [])
      ∙ ap (λ l. sight_lines words (take n sights) ++ l) (append-nil (sight_line words (get_or sights n d)))

  -- the lines of all the sights, where they were made from the first one on
  pub sights-all : (sights : List Sight) (lines : List ℕ) →
      sight_lines words (take 0 sights) ++ lines ≡ sight_lines words (take (length sights) sights) →
      lines ≡ sight_lines words sights
  sights-all sights lines is =
      is ∙ ap (λ l. sight_lines words l) (take_all (length sights) sights (omega arith))

  -- a beginning of the text of the first sights is one of the whole text
  pub sights-begin : (a b : Option (List ℕ)) (sights : List Sight) (n : ℕ) →
      AppendsBeginning a b (sights_text words (take n sights)) → AppendsBeginning a b (sights_text words sights)
  sights-begin a b sights n begins =
      let front = sight_lines words (take n sights) in
      let back = sight_lines words (drop n sights) in
      let whole : sights_text words sights ≡ sights_text words (take n sights) ++ back =
      ap (λ l. sights_text words l) (sym (take-append-drop n sights))
      ∙ ap (λ l. words.header ++ l) (sights-append (take n sights) (drop n sights))
      ∙ sym (append_assoc words.header front back) in
      subst (λ text. AppendsBeginning a b text) (sym whole)
      (beginning-longer a b (sights_text words (take n sights)) back begins)
