-- A reader that has read every line.
use Rattle.std.proofs.Common.{◌≡◌, ◌≢◌, ℕ, ◌<◌, ◌≤◌, List, [], ◌∷◌, length, map, get_or, Ok}
use Rattle.std.proofs.Common.{Some, None, refl, ap, sym, ◌∙◌, true, false, unwrap_or, arith}
use Rattle.std.specs.List.{range_with_len}
use Rattle.std.specs.Result.{result_err}
use Rattle.std.proofs.lemmas.List.{get_or-map, nil_from_length}
use Rattle.pram_text.specs.declared.fault.TextKind.{TextKind}
use Rattle.pram_text.specs.declared.fault.TextKind.TheVariants.{BadHeader, NoCode}
use Rattle.pram_text.specs.declared.head.Next.{Next}
use Rattle.pram_text.specs.declared.head.Next.TheVariants.{Version, Cells, Procs}
use Rattle.pram_text.specs.declared.head.Next.TheVariants.{Steps, Rules, Start, Code}
use Rattle.pram_job.specs.declared.instr.Instr.{Instr}
use Rattle.pram_job.specs.declared.instr.Instr.TheVariants.{Halt}
use Rattle.pram_text.specs.declared.program.Program.{Program}
use Rattle.pram_text.specs.declared.reader.Reader.{Reader}
use Rattle.text_lines.specs.Lines.{Line, is_filled}
use Rattle.pram_text.specs.Judgement.{Scope, instr_of, unlabelled}
use Rattle.pram_text.specs.Inner.Reading.{value_given, HoldsAt, HoldsCode, scope_by, label_at}
use Rattle.pram_text.specs.Inner.Reading.{fault_of_index}
use Rattle.pram_text.specs.Inner.Statement.{resolved}
use Rattle.pram_text.specs.Text.{end_fault, has_code, label_index}
use Rattle.pram_text.specs.Text.{label_fault_at, IsFirst, SpellsLines}
use Rattle.pram_text.proofs.Inits.{SpellsInit-held}
use Rattle.pram_text.proofs.Labels.{length-held}
use Rattle.pram_text.proofs.Taking.{has_code-front, has_code-held_start}
use Rattle.pram_text.proofs.Taking.{has_code-held, body_of-held}

-- ---- what the lines lack

pub has_code-none : (next : Next) (before : List Line) (reader : Reader) → next ≢ Code →
    HoldsAt next before reader → has_code before ≡ false
has_code-none Start before reader a h = has_code-held_start before reader h
has_code-none Code before reader a h = absurd (a refl)
has_code-none Version before reader a h = has_code-front Version before reader.head (λ e. cc) a h.0
has_code-none Cells before reader a h = has_code-front Cells before reader.head (λ e. cc) a h.0
has_code-none Procs before reader a h = has_code-front Procs before reader.head (λ e. cc) a h.0
has_code-none Steps before reader a h = has_code-front Steps before reader.head (λ e. cc) a h.0
has_code-none Rules before reader a h = has_code-front Rules before reader.head (λ e. cc) a h.0

pub end_fault-header : (next : Next) (before : List Line) (reader : Reader) → next ≢ Code →
    HoldsAt next before reader → end_fault before ≡ Some BadHeader
unfolding end_fault
end_fault-header next before reader a h = rw (has_code-none next before reader a h) refl

pub filled : (lines : List Line) → 1 ≤ length lines → is_filled lines ≡ true
filled [] l = absurd (omega arith)
filled (line ∷ lines) l = refl

module _ (before : List Line) (reader : Reader) (h : HoldsAt Code before reader) where
  pub end_fault-empty : length reader.program.written.items ≡ 0 → end_fault before ≡ Some NoCode
  unfolding end_fault
  end_fault-empty e =
      let none = ap is_filled (body_of-held before reader h
      ∙ nil_from_length h.2 (length-held (scope_by reader h.5.entries) h.2 reader.program h.6 ∙ e)) in
      rw (has_code-held before reader h, none) refl

  pub end_fault-none : 1 ≤ length reader.program.written.items → end_fault before ≡ None
  unfolding end_fault
  end_fault-none l =
      let some = ap is_filled (body_of-held before reader h)
      ∙ filled h.2 (omega (arith, length-held (scope_by reader h.5.entries) h.2 reader.program h.6)) in
      rw (has_code-held before reader h, some) refl

-- ---- statements and instructions

-- what each line says is what its statement says
outcomes-held : (scope : Scope) (body : List Line) (program : Program) →
    HoldsCode scope body program →
    map (λ line. instr_of scope (label_index body) (unlabelled line)) body
    ≡ map (λ w. resolved (label_at program.indices) w.statement) program.written.items
outcomes-held scope body program h = h.said (label_index body)
    ∙ (λ i. map (λ w. resolved (λ name. sym (h.indices name) i) w.statement) program.written.items)

-- the first statement that is wrong stands in the first line that is
pub first_unknown : (scope : Scope) (body : List Line) (program : Program) (k : ℕ)
    (kind : TextKind) → HoldsCode scope body program → IsFirst (fault_of_index
    (map (λ w. resolved (label_at program.indices) w.statement) program.written.items))
    (length program.written.items) k kind →
    IsFirst (label_fault_at scope body) (length body) k kind
first_unknown scope body program k kind h first =
    let len = length-held scope body program h in
    let same = λ (j : ℕ) (l : j < length body).
    sym (get_or-map (λ line. instr_of scope (label_index body) (unlabelled line)) body j []
    (Ok Halt) l)
    ∙ ap (λ os. get_or os j (Ok Halt)) (outcomes-held scope body program h) in
    let here : k < length body = omega (arith, first.within) in
    record {
      within = here;
      here = ap result_err (same k here) ∙ first.here;
      earlier = λ j l. ap result_err (same j (omega arith)) ∙ first.earlier j l;
    }

-- ---- the job

module _ (before : List Line) (reader : Reader)
    (init : List ℕ) (code : List Instr) (h : HoldsAt Code before reader)
    (values : init ≡ map (λ c. unwrap_or (value_given reader.setup.values.items c) 0)
    (range_with_len 0 reader.head.cells))
    (coded : map (λ w. resolved (label_at reader.program.indices) w.statement)
    reader.program.written.items ≡ map (λ i. Ok i) code)
    (some : 1 ≤ length reader.program.written.items) where
  pub SpellsLines-held : SpellsLines (record {
    rule = reader.head.rule;
    cells = reader.head.cells;
    procs = reader.head.procs;
    steps = reader.head.steps;
    init = init;
    code = code;
  }) before
  SpellsLines-held = record {
    version = reader.head.version;
    header = h.0;
    inits = h.1;
    body = h.2;
    entries = h.5.entries;
    parts = h.3;
    sizes = h.4;
    said = h.5.said;
    init = SpellsInit-held _ reader.head.cells h.1 reader.setup init h.5 values;
    code = record {
      some = omega (arith, length-held (scope_by reader h.5.entries) h.2 reader.program h.6);
      labelled = h.6.labelled;
      said = outcomes-held (scope_by reader h.5.entries) h.2 reader.program h.6 ∙ coded;
    };
  }
