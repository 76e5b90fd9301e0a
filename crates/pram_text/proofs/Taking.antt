-- A reader, one line with words more.
use Rattle.std.proofs.Common.{◌≡◌, ◌≢◌, ℕ, List, [], ◌∷◌, ◌++◌, Result, Ok, Err, Some, None, refl}
use Rattle.std.proofs.Common.{ap, ap₂, sym, ◌∙◌, subst, Bool, true, false, ◌&&◌, cond}
use Rattle.std.proofs.Common.{if◌then◌else◌, append_assoc, append-nil, OnOk, slice_index_or}
use Rattle.std.specs.List.{list_all}
use Rattle.std.proofs.lemmas.Bool.{and_right}
use Rattle.pram_text.specs.declared.fault.TextKind.{TextKind}
use Rattle.pram_text.specs.declared.fault.TextKind.TheVariants.{NotAscii}
use Rattle.pram_text.specs.declared.head.Head.{Head}
use Rattle.pram_text.specs.declared.head.Next.{Next}
use Rattle.pram_text.specs.declared.head.Next.TheVariants.{Version, Cells, Procs}
use Rattle.pram_text.specs.declared.head.Next.TheVariants.{Steps, Rules, Start, Code}
use Rattle.pram_text.specs.declared.program.Program.{Program}
use Rattle.pram_text.specs.declared.reader.Reader.{Reader}
use Rattle.text_lines.specs.Lines.{Line, is_allowed, is_filled, words_of, worded}
use Rattle.pram_text.specs.declared.start.Setup.{Setup}
use Rattle.pram_text.specs.Judgement.{is_later, is_code, Scope}
use Rattle.pram_text.specs.Inner.Reading.{HoldsHead, HoldsAt, HoldsLines, HoldsNothing, HoldsStart}
use Rattle.pram_text.specs.Inner.Reading.{HoldsCode, HoldsNoCode, Starts, scope_by, TakesHead}
use Rattle.pram_text.specs.Inner.Reading.{TakesStart, TakesCode, TakesWords, TakesInLine}
use Rattle.pram_text.specs.Inner.Reading.{numbers_of, number_if}
use Rattle.pram_text.specs.Inner.Statement.{array_of_name}
use Rattle.pram_text.specs.Text.{words_fault, entries_in, entry_fault, instr_fault}
use Rattle.pram_text.specs.Text.{line_fault, has_code, body_of, scope_in, code_heading}
use Rattle.pram_text.proofs.Inits.{SaysEntries-none, entries_in-said}
use Rattle.pram_text.proofs.Stages.{none_named, has_code-header, has_code-body}
use Rattle.pram_text.proofs.Stages.{body_of-body, scope_in-body, words_fault-after}
use Rattle.pram_text.proofs.Stages.{rest_fault-inits, rest_fault-body, code_line_is}

-- ---- the header

-- in the header no line says `code`
pub has_code-front : (next : Next) (before : List Line) (head : Head) → next ≢ Start → next ≢ Code →
    HoldsHead next before head → has_code before ≡ false
has_code-front Version before head a b h = ap has_code h.0
has_code-front Cells before head a b h = ap has_code h.1
has_code-front Procs before head a b h = ap has_code h.2
has_code-front Steps before head a b h = ap has_code h.3
has_code-front Rules before head a b h = ap has_code h.4
has_code-front Start before head a b h = absurd (a refl)
has_code-front Code before head a b h = absurd (b refl)

pub HoldsAt-front : (next : Next) (before : List Line) (reader : Reader) → next ≢ Start →
    next ≢ Code → HoldsAt next before reader →
    HoldsHead next before reader.head × HoldsNothing reader.setup × HoldsNoCode reader.program
HoldsAt-front Version before reader a b h = h
HoldsAt-front Cells before reader a b h = h
HoldsAt-front Procs before reader a b h = h
HoldsAt-front Steps before reader a b h = h
HoldsAt-front Rules before reader a b h = h
HoldsAt-front Start before reader a b h = absurd (a refl)
HoldsAt-front Code before reader a b h = absurd (b refl)

pub HoldsStart-none : (later : Bool) (cells : ℕ) (start : Setup) → HoldsNothing start →
    HoldsStart later cells [] start
HoldsStart-none later cells start e = record {
  entries = [];
  said = SaysEntries-none later cells;
  arrays = e.1;
  values = λ c. ap (λ xs. slice_index_or xs c None) e.0;
  filled = ap is_filled e.0;
}

HoldsAt-from_head : (next : Next) (before : List Line) (reader : Reader) → next ≢ Code →
    HoldsHead next before reader.head → HoldsNothing reader.setup →
    HoldsNoCode reader.program → HoldsAt next before reader
HoldsAt-from_head Version before reader b h e code = (h, e, code)
HoldsAt-from_head Cells before reader b h e code = (h, e, code)
HoldsAt-from_head Procs before reader b h e code = (h, e, code)
HoldsAt-from_head Steps before reader b h e code = (h, e, code)
HoldsAt-from_head Rules before reader b h e code = (h, e, code)
HoldsAt-from_head Start before reader b h e code = (
  before,
  [],
  sym (append-nil before),
  h,
  HoldsStart-none (is_later reader.head.version) reader.head.cells reader.setup e,
  code,
)
HoldsAt-from_head Code before reader b h e code = absurd (b refl)

pub TakesWords-front : (before : List Line) (w : Line) (old : Reader) (number : ℕ) (head : Head) →
    old.head.next ≢ Start → old.head.next ≢ Code → HoldsLines before old →
    TakesHead before w (Ok head) →
    (words_fault before w ≡ None) × HoldsLines (before ++ w ∷ []) (record old { head = head })
    × (numbers_of old.program ≡ numbers_of old.program ++ number_if (has_code before) number)
TakesWords-front before w old number head a b h t =
    let parts = HoldsAt-front old.head.next before old a b h in (
      t.0,
      HoldsAt-from_head head.next (before ++ w ∷ [])
          (record old { head = head }) t.2 t.1 parts.1 parts.2,
      sym (ap (λ b. numbers_of old.program ++ number_if b number) (has_code-front old.head.next
          before old.head a b parts.0) ∙ append-nil (numbers_of old.program)),
    )

-- ---- start values

module _ (before : List Line) (reader : Reader) (h : HoldsAt Start before reader) where
  pub has_code-held_start : has_code before ≡ false
  has_code-held_start = ap has_code h.2
      ∙ has_code-header _ _ _ _ _ h.0 h.3 h.1 [] (none_named _ _ h.1 h.4.entries h.4.said)

  words_fault-held_start : (w : Line) →
      words_fault before w ≡ (if is_code w then None
      else entry_fault (is_later reader.head.version) reader.head.cells h.1 w)
  words_fault-held_start w =
      ap (λ ls. words_fault ls w) h.2 ∙ words_fault-after _ _ _ _ _ h.0 h.3 h.1 w
      ∙ rest_fault-inits (is_later reader.head.version) reader.head.cells h.1 w (none_named _ _ h.1 h.4.entries h.4.said)

pub TakesWords-code_line : (before : List Line) (w : Line) (old : Reader) (number : ℕ) →
    HoldsAt Start before old → is_code w ≡ true → (words_fault before w ≡ None)
    × HoldsAt Code (before ++ w ∷ []) (record old { head = record old.head { next = Code } })
    × (numbers_of old.program ≡ numbers_of old.program ++ number_if (has_code before) number)
TakesWords-code_line before w old number h code = (
  words_fault-held_start before old h w
      ∙ ap (λ b. cond b None (entry_fault (is_later old.head.version) old.head.cells h.1 w)) code,
  (
    h.0,
    h.1,
    [],
    ap₂ (λ ls l. ls ++ l ∷ []) h.2 (code_line_is w code) ∙ append_assoc h.0 h.1 (code_heading ∷ []),
    h.3,
    h.4,
    h.5 (scope_by old h.4.entries),
  ),
  sym (ap (λ b. numbers_of old.program ++ number_if b number) (has_code-held_start before old h)
      ∙ append-nil (numbers_of old.program)),
)

pub TakesWords-start : (before : List Line) (w : Line)
    (old : Reader) (number : ℕ) (r : Result (Unit {0}) TextKind) (setup : Setup) →
    HoldsAt Start before old → old.head.next ≡ Start → is_code w ≡ false →
    ((inits : List Line) → Starts inits old →
    TakesStart (is_later old.head.version) old.head.cells inits w r setup) →
    TakesWords before w old number r (record old { setup = setup })
TakesWords-start before w old number (Ok u) setup h next other told =
    let t = told h.1 h.4 in (
      words_fault-held_start before old h w
          ∙ ap (λ b. cond b None (entry_fault (is_later old.head.version) old.head.cells h.1 w)) other ∙ t.0,
      subst (λ n. HoldsAt n (before ++ w ∷ []) (record old { setup = setup })) (sym next) (
        h.0,
        h.1 ++ w ∷ [],
        ap (λ ls. ls ++ w ∷ []) h.2 ∙ append_assoc h.0 h.1 (w ∷ []),
        h.3,
        t.1,
        h.5,
      ),
      sym (ap (λ b. numbers_of old.program ++ number_if b number) (has_code-held_start before old h)
          ∙ append-nil (numbers_of old.program)),
    )
TakesWords-start before w old number (Err kind) setup h next other told = λ memory.
    words_fault-held_start before old h w
    ∙ ap (λ b. cond b None (entry_fault (is_later old.head.version) old.head.cells h.1 w)) other ∙ told h.1 h.4 memory

-- ---- instructions

module _ (before : List Line) (reader : Reader) (h : HoldsAt Code before reader) where
  pub has_code-held : has_code before ≡ true
  has_code-held = ap has_code h.3
      ∙ has_code-body _ _ _ _ _ h.0 h.4 h.1 h.2 (none_named _ _ h.1 h.5.entries h.5.said)

  pub body_of-held : body_of before ≡ h.2
  body_of-held =
      ap body_of h.3 ∙ body_of-body _ _ _ _ _ h.0 h.4 h.1 h.2 (none_named _ _ h.1 h.5.entries h.5.said)

  entries_held : entries_in (is_later reader.head.version) reader.head.cells h.1 ≡ h.5.entries
  entries_held = entries_in-said _ _ h.1 h.5.entries h.5.said.said

  pub scope_in-held : scope_in before ≡ scope_by reader h.5.entries
  scope_in-held = ap scope_in h.3
      ∙ scope_in-body _ _ _ _ _ h.0 h.4 h.1 h.2 (none_named _ _ h.1 h.5.entries h.5.said)
      ∙ ap (scope_by reader) entries_held

  words_fault-held : (w : Line) →
      words_fault before w ≡ instr_fault (scope_by reader h.5.entries) h.2 w
  words_fault-held w =
      ap (λ ls. words_fault ls w) h.3
      ∙ words_fault-after _ _ _ _ _ h.0 h.4 (h.1 ++ code_heading ∷ h.2) w
      ∙ rest_fault-body (is_later reader.head.version) reader.head.cells h.1 h.2 w
      (none_named _ _ h.1 h.5.entries h.5.said)
      ∙ ap (λ entries. instr_fault (scope_by reader entries) h.2 w) entries_held

-- what code knows of names is what the lines before say
abbrev pub scope_at : Bool → Reader → Scope
scope_at later reader = record { later = later; arrays = array_of_name reader.setup.arrays }

scope_same : (later : Bool) (old : Reader) (inits : List Line) (starts : Starts inits old) →
    later ≡ is_later old.head.version → scope_at later old ≡ scope_by old starts.entries
scope_same later old inits starts same =
    λ i. record { later = same i; arrays = λ name. starts.arrays name i }

pub TakesWords-code : (before : List Line) (w : Line)
    (old : Reader) (number : ℕ) (r : Result (Unit {0}) TextKind) (program : Program)
    (later : Bool) → later ≡ is_later old.head.version →
    HoldsAt Code before old → old.head.next ≡ Code →
    ((body : List Line) → HoldsCode (scope_at later old) body old.program →
    TakesCode (scope_at later old) body w r program) →
    OnOk r (numbers_of program ≡ numbers_of old.program ++ number ∷ []) →
    TakesWords before w old number r (record old { program = program })
TakesWords-code before w old number r program later same h next told numbers =
    go r (subst (λ scope. (body : List Line) → HoldsCode scope body old.program →
    TakesCode scope body w r program) (scope_same later old h.1 h.5 same) told h.2 h.6) numbers
  where
    go : (r : Result (Unit {0}) TextKind) →
        TakesCode (scope_by old h.5.entries) h.2 w r program →
        OnOk r (numbers_of program ≡ numbers_of old.program ++ number ∷ []) →
        TakesWords before w old number r (record old { program = program })
    go (Ok u) t more = (
      words_fault-held before old h w ∙ t.0,
      subst (λ n. HoldsAt n (before ++ w ∷ []) (record old { program = program })) (sym next) (
        h.0,
        h.1,
        h.2 ++ w ∷ [],
        ap (λ ls. ls ++ w ∷ []) h.3 ∙ append_assoc h.0 (h.1 ++ code_heading ∷ h.2) (w ∷ [])
            ∙ ap (λ ls. h.0 ++ ls) (append_assoc h.1 (code_heading ∷ h.2) (w ∷ [])),
        h.4,
        h.5,
        t.1,
      ),
      more
          ∙ sym (ap (λ b. numbers_of old.program ++ number_if b number)
          (has_code-held before old h)),
    )
    go (Err kind) t more = λ memory. words_fault-held before old h w ∙ t memory

-- ---- any line

pub line_fault-unlawful : (before : List Line) (line : List ℕ) → list_all is_allowed line ≡ false →
    line_fault before line ≡ Some NotAscii
unfolding line_fault
line_fault-unlawful before line unlawful = rw unlawful refl

line_fault-words : (before : List Line) (line : List ℕ) → list_all is_allowed line ≡ true →
    is_filled (words_of line) ≡ true → line_fault before line ≡ words_fault before (words_of line)
unfolding line_fault
line_fault-words before line lawful some = rw (lawful, some) refl

line_fault-blank : (before : List Line) (line : List ℕ) → list_all is_allowed line ≡ true →
    is_filled (words_of line) ≡ false → line_fault before line ≡ None
unfolding line_fault
line_fault-blank before line lawful none = rw (lawful, none) refl

and-true : (b : Bool) → (b && true) ≡ b
and-true true = refl
and-true false = refl

worded-one : (line : List ℕ) (b : Bool) → is_filled (words_of line) ≡ b →
    worded (line ∷ []) ≡ cond b (words_of line ∷ []) []
worded-one line b e = ap (λ b. cond b (words_of line ∷ []) []) e

pub TakesLine-words : (before : List Line) (line : List ℕ) (old : Reader)
    (number : ℕ) (r : Result (Unit {0}) TextKind) (new : Reader) → list_all is_allowed line ≡ true →
    is_filled (words_of line) ≡ true → TakesWords before (words_of line) old number r new →
    TakesInLine before line old number r new
TakesLine-words before line old number (Ok u) new lawful some t = (
  line_fault-words before line lawful some ∙ t.0,
  subst (λ ls. HoldsLines (before ++ ls) new) (sym (worded-one line true some)) t.1,
  t.2 ∙ ap (λ b. numbers_of old.program ++ number_if b number)
      (sym (ap (λ b. has_code before && b) some ∙ and-true (has_code before))),
)
TakesLine-words before line old number (Err kind) new lawful some t =
    λ memory. line_fault-words before line lawful some ∙ t memory

pub TakesLine-blank : (before : List Line) (line : List ℕ) (reader : Reader) (number : ℕ) →
    list_all is_allowed line ≡ true → is_filled (words_of line) ≡ false → HoldsLines before reader →
    (line_fault before line ≡ None)
    × HoldsLines (before ++ worded (line ∷ [])) reader × (numbers_of reader.program
    ≡ numbers_of reader.program ++ number_if (has_code before && is_filled (words_of line)) number)
TakesLine-blank before line reader number lawful none h = (
  line_fault-blank before line lawful none,
  subst (λ ls. HoldsLines ls reader)
      (sym (ap (λ ls. before ++ ls) (worded-one line false none) ∙ append-nil before)) h,
  sym (ap (λ b. numbers_of reader.program ++ number_if b number) (and_right (has_code before)
      (is_filled (words_of line)) none) ∙ append-nil (numbers_of reader.program)),
)
