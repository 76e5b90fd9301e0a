-- Lines without a fault are a header, start values, the line `code` and instructions.
use Rattle.std.proofs.Common.{◌≡◌, ℕ, ◌<◌, ◌≤◌, Bool, true, false, not, if◌then◌else◌}
use Rattle.std.proofs.Common.{List, [], ◌∷◌, ◌++◌, length, Option, Some, None, Result, Ok, Err}
use Rattle.std.proofs.Common.{get_or, refl, sym, ap, subst, ◌∙◌, inl, inr, append_assoc, arith}
use Rattle.std.specs.List.{list_any}
use Rattle.std.specs.Result.{result_err, result_unwrap_or}
use Rattle.std.proofs.lemmas.Bool.{not-false}
use Rattle.std.proofs.lemmas.List.{get_or_default}
use Rattle.pram_text.specs.declared.fault.TextKind.{TextKind}
use Rattle.pram_text.specs.declared.fault.TextKind.TheVariants.{BadHeader, NoCode}
use Rattle.pram_job.specs.declared.instr.Instr.{Instr}
use Rattle.pram_job.specs.declared.instr.Rule.{Rule}
use Rattle.pram_job.specs.declared.instr.Rule.TheVariants.{Common}
use Rattle.pram_job.specs.Job.{JobData}
use Rattle.text_lines.specs.Lines.{Line, is_filled}
use Rattle.pram_text.specs.Judgement.{version_of, is_later, cells_of, procs_of, steps_of}
use Rattle.pram_text.specs.Judgement.{rule_of, Entry, is_code, unlabelled, Scope, instr_of}
use Rattle.pram_text.specs.Text.{label_index, code_heading, SaysEntries, IsLabelled, SpellsHeader}
use Rattle.pram_text.specs.Text.{SpellsLines, entry_fault, instr_fault, rest_fault, words_fault}
use Rattle.pram_text.specs.Text.{entries_in, scope_of, scope_in}
use Rattle.pram_text.specs.Text.{names_rule, has_code, body_of, end_fault, label_fault_at}
use Rattle.pram_text.proofs.Lists.{NonePasses, none_left, none_at, any_split, grown}
use Rattle.pram_text.proofs.Said.{said_from_each}
use Rattle.pram_text.proofs.Inits.{SaysEntries-none, SaysEntries-more, SpellsInit-from}
use Rattle.pram_text.proofs.Inits.{entries_in-said}
use Rattle.pram_text.proofs.Labels.{IsLabelled-none, IsLabelled-push, instr_fault-none}
use Rattle.pram_text.proofs.Stages.{version_cases, names_rule_later, rule_named, code_line_is}
use Rattle.pram_text.proofs.Stages.{scope_in-body}
use Rattle.pram_text.proofs.Stages.{rest_fault-inits, rest_fault-body}
use Rattle.pram_text.proofs.Stages.{words_fault-after, has_code-after, body_of-body}

abbrev pub EachSplit : List Line → (List Line → Line → Type 0) → Type 0
EachSplit lines P = (before : List Line) (line : Line) (after : List Line) →
    lines ≡ before ++ line ∷ after → P before line

-- each line passes
abbrev pub Passes : List Line → Type 0
Passes lines = EachSplit lines (λ before line. words_fault before line ≡ None)

ok_from_no_err : {A : Type 0} (r : Result A TextKind) → result_err r ≡ None → (x : A) × (r ≡ Ok x)
ok_from_no_err (Ok x) e = (x, refl)
ok_from_no_err (Err kind) e = cc

pub unfaulted : (b : Bool) (kind : TextKind) (o : Option TextKind) →
    (if b then Some kind else o) ≡ None → (b ≡ false) × (o ≡ None)
unfaulted true kind o e = cc
unfaulted false kind o e = (refl, e)

-- ---- the header

record HasHeader (lines : List Line) : Type 0 where
  version : ℕ
  cells : ℕ
  procs : ℕ
  steps : ℕ
  rule : Rule
  header : List Line
  rest : List Line
  parts : lines ≡ header ++ rest
  sizes : SpellsHeader version cells procs steps rule header

has_header : (lines : List Line) → Passes lines → has_code lines ≡ true → HasHeader lines
unfolding words_fault
has_header [] passes code = cc
has_header (a ∷ []) passes code = cc
has_header (a ∷ b ∷ []) passes code = cc
has_header (a ∷ b ∷ c ∷ []) passes code = cc
has_header (a ∷ b ∷ c ∷ d ∷ lines) passes code =
    let v = ok_from_no_err (version_of a) (passes [] a (b ∷ c ∷ d ∷ lines) refl) in
    let m = ok_from_no_err (cells_of v.0 b)
    (ap (λ said. result_err (cells_of (result_unwrap_or said 0) b)) (sym v.1)
    ∙ passes (a ∷ []) b (c ∷ d ∷ lines) refl) in
    let n = ok_from_no_err (procs_of v.0 c)
    (ap (λ said. result_err (procs_of (result_unwrap_or said 0) c)) (sym v.1)
    ∙ passes (a ∷ b ∷ []) c (d ∷ lines) refl) in
    let t = ok_from_no_err (steps_of d) (passes (a ∷ b ∷ c ∷ []) d lines refl) in
    elim (version_cases a v.0 v.1) [
      | inl one ↦ record {
        version = v.0;
        cells = m.0;
        procs = n.0;
        steps = t.0;
        rule = Common;
        header = a ∷ b ∷ c ∷ d ∷ [];
        rest = lines;
        parts = refl;
        sizes = record {
          version_line = a;
          cells_line = b;
          procs_line = c;
          steps_line = d;
          rule_lines = [];
          parts = refl;
          version_said = v.1;
          cells_said = m.1;
          procs_said = n.1;
          steps_said = t.1;
          rule_said = rw one (refl, refl);
        };
      }
      | inr two ↦ ruled lines (names_rule_later a v.0 v.1 two) passes code
          (λ rule first rest said parts. record {
            version = v.0;
            cells = m.0;
            procs = n.0;
            steps = t.0;
            rule = rule;
            header = a ∷ b ∷ c ∷ d ∷ first ∷ [];
            rest = rest;
            parts = ap (λ ls. a ∷ b ∷ c ∷ d ∷ ls) parts;
            sizes = record {
              version_line = a;
              cells_line = b;
              procs_line = c;
              steps_line = d;
              rule_lines = first ∷ [];
              parts = refl;
              version_said = v.1;
              cells_said = m.1;
              procs_said = n.1;
              steps_said = t.1;
              rule_said = rule_named v.0 rule (first ∷ []) two (first, refl, said);
            };
          })
    ]
  where
    ruled : (lines : List Line) → names_rule a ≡ true →
        Passes (a ∷ b ∷ c ∷ d ∷ lines) → list_any is_code lines ≡ true →
        ((rule : Rule) (first : Line) (rest : List Line) →
        rule_of first ≡ Ok rule → lines ≡ first ∷ rest → HasHeader (a ∷ b ∷ c ∷ d ∷ lines)) →
        HasHeader (a ∷ b ∷ c ∷ d ∷ lines)
    ruled [] named passes code make = cc
    ruled (first ∷ rest) named passes code make =
        let one = passes (a ∷ b ∷ c ∷ d ∷ []) first rest refl in
        let said : result_err (rule_of first) ≡ None = rw named at one in
        let rule = ok_from_no_err (rule_of first) said in
        make rule.0 first rest rule.1 refl

-- ---- the parts of lines without a fault

pub record HasParts (lines : List Line) : Type 0 where
  pub version : ℕ
  pub cells : ℕ
  pub procs : ℕ
  pub steps : ℕ
  pub rule : Rule
  pub header : List Line
  pub inits : List Line
  pub body : List Line
  pub parts : lines ≡ header ++ (inits ++ code_heading ∷ body)
  pub sizes : SpellsHeader version cells procs steps rule header
  pub entries : List Entry
  pub said : SaysEntries (is_later version) cells inits entries
  pub scope : Scope
  pub is_scope : scope_in lines ≡ scope
  pub scope_is : scope ≡ scope_of (is_later version) entries
  pub passes : EachSplit body (λ before line. instr_fault scope before line ≡ None)
  pub is_body : body_of lines ≡ body

pub has_parts : (lines : List Line) → Passes lines → has_code lines ≡ true → HasParts lines
has_parts lines passes code =
    let h = has_header lines passes code in
    let later = is_later h.version in
    let cut = any_split is_code h.rest
    (sym (ap has_code h.parts ∙ has_code-after _ _ _ _ _ h.header h.sizes h.rest) ∙ code) in
    let rest : h.rest ≡ cut.0 ++ code_heading ∷ cut.2 =
    cut.3 ∙ ap (λ l. cut.0 ++ l ∷ cut.2) (code_line_is cut.1 cut.5) in
    let whole : lines ≡ h.header ++ (cut.0 ++ code_heading ∷ cut.2) =
    h.parts ∙ ap (λ ls. h.header ++ ls) rest in
    let after_header : EachSplit (cut.0 ++ code_heading ∷ cut.2)
    (λ before line. rest_fault later h.cells before line ≡ None) = λ before line after e.
    sym (words_fault-after _ _ _ _ _ h.header h.sizes before line)
    ∙ passes (h.header ++ before) line after (h.parts ∙ ap (λ ls. h.header ++ ls) (rest ∙ e)
    ∙ sym (append_assoc h.header before (line ∷ after))) in
    let inits : EachSplit cut.0 (λ before line. entry_fault later h.cells before line ≡ None) =
    λ before line after e.
    let none = subst (NonePasses is_code) e cut.4 in
    sym (rest_fault-inits later h.cells before line (none_left is_code before (line ∷ after) none)
    ∙ ap (λ b. if b then None else entry_fault later h.cells before line)
    (none_at is_code before line after none))
    ∙ after_header before line (after ++ code_heading ∷ cut.2)
    (ap (λ ls. ls ++ code_heading ∷ cut.2) e
    ∙ append_assoc before (line ∷ after) (code_heading ∷ cut.2)) in
    let said = grown (λ ls. (entries : List Entry) × SaysEntries later h.cells ls entries) cut.0
    ([], SaysEntries-none later h.cells) (λ before line after e more.
    SaysEntries-more later h.cells before line more (inits before line after e)) in
    let scope = scope_of later (entries_in later h.cells cut.0) in
    record {
      version = h.version;
      cells = h.cells;
      procs = h.procs;
      steps = h.steps;
      rule = h.rule;
      header = h.header;
      inits = cut.0;
      body = cut.2;
      parts = whole;
      sizes = h.sizes;
      entries = said.0;
      said = said.1;
      scope = scope;
      is_scope =
          ap scope_in whole ∙ scope_in-body _ _ _ _ _ h.header h.sizes cut.0 cut.2 cut.4;
      scope_is = ap (scope_of later) (entries_in-said later h.cells cut.0 said.0 said.1.said);
      passes = λ before line after e. sym (rest_fault-body later h.cells cut.0 before line cut.4)
          ∙ after_header (cut.0 ++ code_heading ∷ before) line after
          (ap (λ ls. cut.0 ++ code_heading ∷ ls) e
          ∙ sym (append_assoc cut.0 (code_heading ∷ before) (line ∷ after)));
      is_body = ap body_of whole ∙ body_of-body _ _ _ _ _ h.header h.sizes cut.0 cut.2 cut.4;
    }

-- ---- where all labels are known, too

pub ends : (lines : List Line) → end_fault lines ≡ None →
    (has_code lines ≡ true) × (is_filled (body_of lines) ≡ true)
unfolding end_fault
ends lines e =
    let parts = unfaulted (not (has_code lines)) BadHeader
    (if is_filled (body_of lines) then None else Some NoCode) e in
    (not-false (has_code lines) parts.0, filled (is_filled (body_of lines)) parts.1)
  where
    filled : (b : Bool) → (if b then None else Some NoCode) ≡ None → b ≡ true
    filled true f = refl
    filled false f = cc

pub lines_spell : (lines : List Line) → Passes lines → end_fault lines ≡ None →
    ((k : ℕ) → k < length (body_of lines) →
    label_fault_at (scope_in lines) (body_of lines) k ≡ None) →
    (job : JobData) × SpellsLines job lines
lines_spell lines passes e known =
    let end = ends lines e in
    let p = has_parts lines passes end.0 in
    let scope = scope_of (is_later p.version) p.entries in
    let says : Line → Result Instr TextKind =
    λ line. instr_of scope (label_index p.body) (unlabelled line) in
    let known' : (k : ℕ) → k < length p.body → label_fault_at scope p.body k ≡ None =
    subst (λ sc. (k : ℕ) → k < length p.body → label_fault_at sc p.body k ≡ None)
    (p.is_scope ∙ p.scope_is)
    (subst (λ ls. (k : ℕ) → k < length ls → label_fault_at (scope_in lines) ls k ≡ None)
    p.is_body known) in
    let code =
    said_from_each says p.body (λ k d lt. subst (λ line. (i : Instr) × (says line ≡ Ok i))
    (get_or_default p.body k [] d lt) (ok_from_no_err (says (get_or p.body k [])) (known' k lt))) in
    let init = SpellsInit-from p.cells p.entries in (
      record {
        rule = p.rule;
        cells = p.cells;
        procs = p.procs;
        steps = p.steps;
        init = _;
        code = code.0;
      },
      record {
        version = p.version;
        header = p.header;
        inits = p.inits;
        body = p.body;
        entries = p.entries;
        parts = p.parts;
        sizes = p.sizes;
        said = p.said;
        init = init;
        code = record {
          some = some p.body (subst (λ ls. is_filled ls ≡ true) p.is_body end.1);
          labelled = grown IsLabelled p.body IsLabelled-none (λ before line after f h.
              let fine = instr_fault-none p.scope before line (p.passes before line after f) in
              IsLabelled-push before line h fine.0 fine.1);
          said = code.1;
        };
      },
    )
  where
    some : (ls : List Line) → is_filled ls ≡ true → 1 ≤ length ls
    some [] f = cc
    some (l ∷ ls) f = omega arith
