-- The lines of a text, read from the first.
use Rattle.std.proofs.Common.{◌≡◌, ◌≢◌, ℕ, ◌+◌, ◌-◌, ◌<◌, ◌≤◌, ◌==◌, List, [], ◌∷◌, ◌++◌}
use Rattle.std.proofs.Common.{length, map, filter, take, get_or, Result, Ok, Err, Option}
use Rattle.std.proofs.Common.{Some, None, refl, ap, ap₂, sym, ◌∙◌, subst, Bool, true}
use Rattle.std.proofs.Common.{false, ◌&&◌, cond, if◌then◌else◌, arith, ⊎_elim, inl, inr}
use Rattle.std.proofs.Common.{slice_index, below_more, ne_eqb, eq-eqb, IfOk, IfErr}
use Rattle.std.specs.List.{list_all}
use Rattle.std.specs.Option.{option_or}
use Rattle.std.proofs.lemmas.Bool.{cases_Bool}
use Rattle.std.proofs.lemmas.List.{map-append, take_more, take_all}
use Rattle.std.proofs.lemmas.List.{length-map, length-take-le, get_or_default}
use Rattle.std.proofs.lemmas.List.Elements.{filter-append}
use Rattle.std.proofs.lemmas.List.Splits.{length-slice_split}
use Rattle.pram_text.specs.declared.fault.TextFault.{TextFault}
use Rattle.pram_text.specs.declared.fault.TextKind.{TextKind}
use Rattle.pram_text.specs.declared.fault.TextKind.TheVariants.{NotAscii, BadHeader, BadNumber}
use Rattle.pram_text.specs.declared.fault.TextKind.TheVariants.{OutOfLimits, UnknownInstruction}
use Rattle.pram_text.specs.declared.fault.TextKind.TheVariants.{WrongOperands, BadRegister}
use Rattle.pram_text.specs.declared.fault.TextKind.TheVariants.{DuplicateLabel, UnknownLabel}
use Rattle.pram_text.specs.declared.fault.TextKind.TheVariants.{NoCode, TooLong, Memory}
use Rattle.pram_text.specs.declared.reader.Reader.{Reader}
use Rattle.pram_job.specs.Job.{JobData}
use Rattle.text_lines.specs.Lines.{Line, lines_of, words_of, worded, is_allowed, is_filled}
use Rattle.pram_text.specs.Inner.Reading.{HoldsLines, numbers_of, number_if, FinishesJob}
use Rattle.pram_text.specs.Inner.Reading.{TakesInLine}
use Rattle.pram_text.specs.Text.{line_fault, end_fault, fault_at, label_fault_at, has_code, body_of}
use Rattle.pram_text.specs.Text.{scope_in, numbered_body, IsFirst, Bears, IsRefusal, Spells, SpellsLines}
use Rattle.pram_text.proofs.Worded.{numbered_body-push, words-numbered_body}

-- ---- one line more

worded-append : (ls ms : List (List ℕ)) → worded (ls ++ ms) ≡ worded ls ++ worded ms
worded-append ls ms = ap (filter is_filled) (map-append words_of ls ms)
    ∙ filter-append is_filled (map words_of ls) (map words_of ms)

-- what a reader holds of so many lines: none of them has a fault
pub record HasRead (lines : List (List ℕ)) (n : ℕ) (reader : Reader) : Type 0 where
  pub held : HoldsLines (worded (take n lines)) reader
  pub clean : (k : ℕ) → k < n → line_fault (worded (take k lines)) (get_or lines k []) ≡ None
  pub numbers : numbers_of reader.program ≡ map (λ l. l.0) (numbered_body (take n lines))

pub HasRead-none : (lines : List (List ℕ)) (reader : Reader) → HoldsLines [] reader →
    numbers_of reader.program ≡ [] → HasRead lines 0 reader
HasRead-none lines reader h e =
    record { held = h; clean = λ k l. absurd (omega arith); numbers = e }

numbers-push : (b : Bool) (numbers : List (ℕ × Line)) (number : ℕ) (line : Line) →
    map (λ l. l.0) numbers ++ number_if b number
    ≡ map (λ l. l.0) (numbers ++ cond b ((number, line) ∷ []) [])
numbers-push true numbers number line = sym (map-append (λ l. l.0) numbers ((number, line) ∷ []))
numbers-push false numbers number line = sym (map-append (λ l. l.0) numbers [])

pub HasRead-more : (lines : List (List ℕ)) (n number : ℕ) (line : List ℕ) (old new : Reader) →
    HasRead lines n old → n < length lines → line ≡ get_or lines n [] → number ≡ n + 1 →
    TakesInLine (worded (take n lines)) line old number (Ok (tt {0})) new →
    HasRead lines (n + 1) new
HasRead-more lines n number line old new h l here numbered t =
    let before : List Line = worded (take n lines) in
    let more : take (n + 1) lines ≡ take n lines ++ line ∷ [] =
    take_more lines n [] l ∙ ap (λ one. take n lines ++ one ∷ []) (sym here) in
    let number_is : number ≡ length (take n lines) + 1 = omega (arith, length-take-le n lines) in
    record {
      held = subst (λ ls. HoldsLines ls new)
          (sym (ap worded more ∙ worded-append (take n lines) (line ∷ []))) t.1;
      clean = below_more _ _ h.clean (ap (line_fault before) (sym here) ∙ t.0);
      numbers = t.2 ∙ ap₂ (λ ns k. ns ++ number_if (has_code before && is_filled (words_of line)) k)
          h.numbers number_is ∙ numbers-push _
          (numbered_body (take n lines)) (length (take n lines) + 1) (words_of line) ∙ sym
          (ap (map (λ l. l.0)) (ap numbered_body more ∙ numbered_body-push (take n lines) line));
    }

-- ---- refusals

pub IsRefusal-from : (text : List ℕ) (line : ℕ) (kind : TextKind) →
    (kind ≢ Memory → Bears text line kind) → (kind ≡ Memory → line ≡ 0) → IsRefusal text line kind
IsRefusal-from text line Memory fault memory = memory refl
IsRefusal-from text line NotAscii fault memory = fault (λ e. cc)
IsRefusal-from text line BadHeader fault memory = fault (λ e. cc)
IsRefusal-from text line BadNumber fault memory = fault (λ e. cc)
IsRefusal-from text line OutOfLimits fault memory = fault (λ e. cc)
IsRefusal-from text line UnknownInstruction fault memory = fault (λ e. cc)
IsRefusal-from text line WrongOperands fault memory = fault (λ e. cc)
IsRefusal-from text line BadRegister fault memory = fault (λ e. cc)
IsRefusal-from text line DuplicateLabel fault memory = fault (λ e. cc)
IsRefusal-from text line UnknownLabel fault memory = fault (λ e. cc)
IsRefusal-from text line NoCode fault memory = fault (λ e. cc)
IsRefusal-from text line TooLong fault memory = fault (λ e. cc)

fault_at-own : (lines : List (List ℕ)) (k : ℕ) (kind : TextKind) →
    line_fault (worded (take k lines)) (get_or lines k []) ≡ Some kind →
    fault_at lines k ≡ Some kind
unfolding fault_at
fault_at-own lines k kind e =
    ap (λ o. option_or o (if (k + 1) == length lines then end_fault (worded lines) else None)) e

fault_at-end : (lines : List (List ℕ)) (k : ℕ) →
    line_fault (worded (take k lines)) (get_or lines k []) ≡ None →
    fault_at lines k ≡ (if (k + 1) == length lines then end_fault (worded lines) else None)
unfolding fault_at
fault_at-end lines k e =
    ap (λ o. option_or o (if (k + 1) == length lines then end_fault (worded lines) else None)) e

fault_at-before : (lines : List (List ℕ)) (k : ℕ) →
    line_fault (worded (take k lines)) (get_or lines k []) ≡ None →
    k + 1 < length lines → fault_at lines k ≡ None
fault_at-before lines k e l =
    fault_at-end lines k e ∙ ap (λ b. if b then end_fault (worded lines) else None)
    (ne_eqb (k + 1) (length lines) (λ same. omega arith))

fault_at-fine : (lines : List (List ℕ)) (k : ℕ) →
    line_fault (worded (take k lines)) (get_or lines k []) ≡ None →
    end_fault (worded lines) ≡ None → fault_at lines k ≡ None
fault_at-fine lines k e fine = fault_at-end lines k e ∙ by_end ((k + 1) == length lines) where
  by_end : (b : Bool) → (if b then end_fault (worded lines) else None) ≡ None
  by_end true = fine
  by_end false = refl

-- a line that is wrong by itself
pub Bears-line : (text : List ℕ) (n number : ℕ)
    (line : List ℕ) (reader : Reader) (kind : TextKind) → HasRead (lines_of text) n reader →
    n < length (lines_of text) → line ≡ get_or (lines_of text) n [] → number ≡ n + 1 →
    line_fault (worded (take n (lines_of text))) line ≡ Some kind → Bears text number kind
unfolding Bears
Bears-line text n number line reader kind h l here numbered e = inl (
  n,
  numbered,
  record {
    within = l;
    here = fault_at-own (lines_of text) n kind
        (ap (line_fault (worded (take n (lines_of text)))) (sym here) ∙ e);
    earlier = λ k below. fault_at-before (lines_of text) k (h.clean k below) (omega arith);
  },
)

-- what the text lacks at its end
Bears-last : (text : List ℕ) (n : ℕ) (reader : Reader) (kind : TextKind) →
    HasRead (lines_of text) n reader → n ≡ length (lines_of text) →
    end_fault (worded (lines_of text)) ≡ Some kind → Bears text n kind
unfolding Bears
Bears-last text n reader kind h all e =
    let lines : List (List ℕ) = lines_of text in
    let some : 1 ≤ n = omega (arith, length-slice_split (λ b. b == 10) text) in
    inl (
      n - 1,
      omega arith,
      record {
        within = omega arith;
        here = fault_at-end lines (n - 1) (h.clean (n - 1) (omega arith))
            ∙ ap (λ b. if b then end_fault (worded lines) else None)
            (eq-eqb (n - 1 + 1) (length lines) (omega arith)) ∙ e;
        earlier = λ k below. fault_at-before lines k (h.clean k (omega arith)) (omega arith);
      },
    )

-- ---- the end

lawful_from_none : (before : List Line) (line : List ℕ) → line_fault before line ≡ None →
    list_all is_allowed line ≡ true
unfolding line_fault
lawful_from_none before line e = ⊎_elim (λ yes. yes)
    (λ no. absurd (let unlawful : ◌≡◌ {A = Option TextKind} (Some NotAscii) None = rw no at e in
    cc)) (cases_Bool (list_all is_allowed line))

held-end : (lines : List (List ℕ)) (n : ℕ) (reader : Reader) → HasRead lines n reader →
    n ≡ length lines → HoldsLines (worded lines) reader
held-end lines n reader h all =
    subst (λ ls. HoldsLines (worded ls) reader) (take_all n lines (omega arith)) h.held

Bears-end : (text : List ℕ) (n : ℕ) (reader : Reader) (fault : TextFault) →
    HasRead (lines_of text) n reader → n ≡ length (lines_of text) → fault.kind ≢ Memory →
    FinishesJob (worded (lines_of text)) (numbers_of reader.program) n (Err fault) →
    Bears text fault.line fault.kind
unfolding Bears
Bears-end text n reader fault h all other told = ⊎_elim
    (λ lacks. subst (λ k. Bears text k fault.kind)
    (sym lacks.1) (Bears-last text n reader fault.kind h all lacks.0))
    (λ unknown.
    let lines : List (List ℕ) = lines_of text in
    let body : List (ℕ × Line) = numbered_body lines in
    let words = words-numbered_body lines in
    let numbers =
    h.numbers ∙ ap (λ ls. map (λ l. l.0) (numbered_body ls)) (take_all n lines (omega arith)) in
    let len : length (body_of (worded lines)) ≡ length body =
    ap length (sym words) ∙ length-map body (λ l. l.1) in
    inr (
      (λ j l. fault_at-fine lines j (h.clean j (omega arith)) unknown.0),
      unknown.1.0,
      unknown.1.1 ∙ ap (λ ns. slice_index ns unknown.1.0) numbers,
      subst (λ ls. IsFirst (label_fault_at (scope_in (worded lines)) ls) (length body)
          unknown.1.0 fault.kind) (sym words)
          (subst (λ m. IsFirst (label_fault_at (scope_in (worded lines)) (body_of (worded lines)))
          m unknown.1.0 fault.kind) len unknown.1.2),
    )) (told other)

Spells-end : (text : List ℕ) (n : ℕ) (reader : Reader) (job : JobData) →
    HasRead (lines_of text) n reader → n ≡ length (lines_of text) →
    SpellsLines job (worded (lines_of text)) → Spells text job
Spells-end text n reader job h all lines = record {
  allowed = λ k d l. subst (λ line. list_all is_allowed line ≡ true)
      (get_or_default (lines_of text) k [] d l) (lawful_from_none _ _ (h.clean k (omega arith)));
  lines = lines;
}

-- what the end of a text makes of it
pub spells_from_finish : (text : List ℕ) (n : ℕ) (reader : Reader) (r : Result JobData TextFault) →
    HasRead (lines_of text) n reader → n ≡ length (lines_of text) →
    ((before : List Line) → HoldsLines before reader →
    FinishesJob before (numbers_of reader.program) n r) →
    IfOk r (λ job. Spells text job)
spells_from_finish text n reader (Ok job) h all told = Spells-end text n reader job h all
    (told (worded (lines_of text)) (held-end (lines_of text) n reader h all))
spells_from_finish text n reader (Err fault) h all told = tt

pub bears_from_finish : (text : List ℕ) (n : ℕ) (reader : Reader) (r : Result JobData TextFault) →
    HasRead (lines_of text) n reader → n ≡ length (lines_of text) →
    ((before : List Line) → HoldsLines before reader →
    FinishesJob before (numbers_of reader.program) n r) →
    IfErr r (λ fault. fault.kind ≡ Memory → fault.line ≡ 0) →
    IfErr r (λ fault. IsRefusal text fault.line fault.kind)
bears_from_finish text n reader (Ok job) h all told memory = tt
bears_from_finish text n reader (Err fault) h all told memory =
    IsRefusal-from text fault.line fault.kind (λ other. Bears-end text n reader fault h all other
    (told (worded (lines_of text)) (held-end (lines_of text) n reader h all))) memory
