-- A text that spells a job bears no fault: its lines by themselves.
use Rattle.std.proofs.Common.{◌≡◌, ◌≢◌, ◌⊎◌, ℕ, ◌<◌, Bool, true, false, not, if◌then◌else◌}
use Rattle.std.proofs.Common.{List, [], ◌∷◌, ◌++◌, length, bytes_eq, All}
use Rattle.std.proofs.Common.{IsTrue, IfSome, Option, Some, None, Result, Ok, Err, ok_or, refl}
use Rattle.std.proofs.Common.{sym, ap, subst, ◌∙◌, inl, inr, append-nil, arith}
use Rattle.std.specs.List.{AllByRecursion, list_any}
use Rattle.std.specs.Result.{result_err, result_unwrap_or}
use Rattle.std.proofs.lemmas.Bool.{cond-false, false_from_ne_true}
use Rattle.std.proofs.lemmas.List.{length-append}
use Rattle.std.proofs.lemmas.List.Elements.{recursion_from_All}
use Rattle.std.proofs.lemmas.Slice.Eq.{bytes_eq-Decides}
use Rattle.pram_text.specs.declared.fault.TextKind.{TextKind}
use Rattle.pram_text.specs.declared.fault.TextKind.TheVariants.{BadHeader, UnknownInstruction}
use Rattle.pram_text.specs.declared.fault.TextKind.TheVariants.{DuplicateLabel, UnknownLabel}
use Rattle.pram_job.specs.declared.instr.Instr.{Instr}
use Rattle.pram_job.specs.Instructions.{Form, register_index, only_index, table}
use Rattle.pram_job.specs.declared.instr.Rule.{Rule}
use Rattle.pram_job.specs.declared.limits.TheConstants.{MAX_CODE}
use Rattle.pram_job.specs.Job.{JobData}
use Rattle.text_lines.specs.Lines.{Word, Line}
use Rattle.pram_text.specs.Judgement.{version_of, cells_of, procs_of, steps_of, rule_of}
use Rattle.text_lines.specs.Reads.{◌>>=◌}
use Rattle.pram_text.specs.Judgement.{is_later, Entry, entry_of, is_code, label_of, unlabelled}
use Rattle.pram_text.specs.Judgement.{is_name, Scope, register_of, one_label}
use Rattle.pram_text.specs.Judgement.{register_label, index_in, instr_of, instr_by, made_of}
use Rattle.pram_text.specs.Text.{is_named, new_label_fault, defines, label_index, code_heading}
use Rattle.pram_text.specs.Text.{SaysEntries, SpellsCode, SpellsRule, scope_of}
use Rattle.pram_text.specs.Text.{SpellsHeader, SpellsLines, names_rule, entry_fault}
use Rattle.pram_text.specs.Text.{label_fault, instr_fault, rest_fault, words_fault}
use Rattle.pram_text.proofs.Lists.{split_of_append, NonePasses, none_left, none_at}
use Rattle.pram_text.proofs.Lists.{any_none, all_at, pairs_at}
use Rattle.pram_text.proofs.Said.{said_around}
use Rattle.pram_text.proofs.Inits.{entry_fault-ok, SaysEntries-front, entries_in-said}
use Rattle.pram_text.proofs.Labels.{instr_fault-rest}
use Rattle.pram_text.proofs.Stages.{version_cases, names_rule_later, rule_line, none_named}
use Rattle.pram_text.proofs.Stages.{code_line_is_code}
use Rattle.pram_text.proofs.Stages.{rest_fault-inits, rest_fault-body, words_fault-after}

-- ---- start values

entry_passes : (later : Bool) (cells : ℕ) (before : List Line) (line : Line) (after : List Line)
    (entries : List Entry) → SaysEntries later cells (before ++ line ∷ after) entries →
    entry_fault later cells before line ≡ None
entry_passes later cells before line after entries s =
    let a = said_around (entry_of later cells) before line after entries s.said in
    let front = SaysEntries-front later cells (before ++ line ∷ after) before entries a.front a.value
    a.back s a.parts a.said_front in
    entry_fault-ok later cells before a.front line a.value front a.said_value
    ∙ ap (λ b. if b then Some BadHeader else None) (s.fresh a.front a.value a.back a.parts)

-- ---- instructions

-- They have one fault, or the first has that of an unknown label and the second none.
pub record Follows (r s : Result Instr TextKind) : Type 0 where
  pub same : (result_err r ≡ result_err s)
      ⊎ ((result_err r ≡ Some UnknownLabel) × (result_err s ≡ None))

follows_same : (r : Result Instr TextKind) → Follows r r
follows_same r = record { same = inl refl }

either : (b : Bool) (x y x' y' : Result Instr TextKind) → Follows x x' → Follows y y' →
    Follows (if b then x else y) (if b then x' else y')
either true x y x' y' p q = p
either false x y x' y' p q = q

index_follows : (o : Option ℕ) (make : ℕ → Instr) →
    Follows (ok_or o UnknownLabel >>= λ index. Ok (make index)) (Ok (make 0))
index_follows None make = record { same = inr (refl, refl) }
index_follows (Some index) make = record { same = inl refl }

label_follows : (find : Word → Option ℕ) (make : ℕ → Instr) (operands : Line) →
    Follows (one_label find make operands) (one_label (λ label. Some 0) make operands)
label_follows find make (label ∷ []) = index_follows (find label) make
label_follows find make _ = follows_same _

jump_follows : (find : Word → Option ℕ) (make : ℕ → ℕ → Instr) (operands : Line) →
    Follows (register_label find make operands) (register_label (λ label. Some 0) make operands)
jump_follows find make (r ∷ label ∷ []) = go (register_of r)
  where
    go : (o : Result ℕ TextKind) →
        Follows (o >>= λ r'. index_in find label >>= λ index. Ok (make r' index))
        (o >>= λ r'. index_in (λ label. Some 0) label >>= λ index. Ok (make r' index))
    go (Ok r') = index_follows (find label) (make r')
    go (Err kind) = follows_same (Err kind)
jump_follows find make _ = follows_same _

module _ (scope : Scope) where
  form_follows : (find : Word → Option ℕ) (form : Form) (operands : Line) →
      Follows (made_of scope find form operands) (made_of scope (λ label. Some 0) form operands)
  form_follows find (register_index make) operands = jump_follows find make operands
  form_follows find (only_index make) operands = label_follows find make operands
  form_follows find _ operands = follows_same _

  rows_follow : (find : Word → Option ℕ) (rows : List (Word × Form)) (name : Word)
      (operands : Line) → Follows (instr_by rows scope find name operands)
      (instr_by rows scope (λ label. Some 0) name operands)
  rows_follow find [] name operands = follows_same _
  rows_follow find (row ∷ rows) name operands = either (bytes_eq name row.0) _ _ _ _
      (form_follows find row.1 operands) (rows_follow find rows name operands)

  pub instr_follows : (find : Word → Option ℕ) (line : Line) →
      Follows (instr_of scope find line) (instr_of scope (λ label. Some 0) line)
  unfolding instr_of
  instr_follows find [] = follows_same _
  instr_follows find (name ∷ operands) = rows_follow find (table scope.later) name operands

-- what is an instruction with these indices has no fault with any
known_passes : (scope : Scope) (find : Word → Option ℕ) (line : Line) (instr : Instr) →
    instr_of scope find line ≡ Ok instr →
    result_err (instr_of scope (λ label. Some 0) line) ≡ None
known_passes scope find line instr e = elim (instr_follows scope find line).same [
  | inl same ↦ sym same ∙ ap result_err e
  | inr unknown ↦ let none = ap result_err e in let some = unknown.0 in cc
]

undefined : (name : Word) (line : Line) →
    (label_of line ≡ Some name → ⊥) → defines name line ≡ false
undefined name line h = go (label_of line) h
  where
    go : (o : Option Word) → (o ≡ Some name → ⊥) → is_named o name ≡ false
    go None h = refl
    go (Some label) h = false_from_ne_true (bytes_eq label name)
        (λ e. h (ap (λ l. Some l) ((bytes_eq-Decides label name).0 e)))

undefined_all : (name : Word) (body : List Line) →
    AllByRecursion (λ line. label_of line ≡ Some name → ⊥) body → NonePasses (defines name) body
undefined_all name [] h = tt
undefined_all name (line ∷ body) h = (undefined name line h.0, undefined_all name body h.1)

label_passes : (scope : Scope) (before : List Line) (line : Line) (after : List Line)
    (code : List Instr) → SpellsCode scope (before ++ line ∷ after) code →
    label_fault before line ≡ None
unfolding label_fault
label_passes scope before line after code s = go (label_of line) refl
  where
    named : IfSome (label_of line) (λ label. IsTrue (is_name label))
    named = all_at (λ line. IfSome (label_of line) (λ label. IsTrue (is_name label)))
        before line after s.labelled.names

    once : All (λ a. (label : Word) → label_of a ≡ Some label → label_of line ≢ Some label) before
    once = pairs_at (λ a b. (label : Word) → label_of a ≡ Some label → label_of b ≢ Some label)
        before line after s.labelled.once

    go : (o : Option Word) → label_of line ≡ o →
        new_label_fault (λ label. list_any (defines label) before) o ≡ None
    go None e = refl
    go (Some label) e =
        let good : IsTrue (is_name label) =
        subst (λ o. IfSome o (λ label. IsTrue (is_name label))) e named in
        let other = recursion_from_All (λ a. label_of a ≡ Some label → ⊥) before
        (λ k d lt f. once k d lt label f e) in
        ap (λ b. if not b then Some UnknownInstruction
        else (if list_any (defines label) before then Some DuplicateLabel else None)) good
        ∙ cond-false _ (Some DuplicateLabel) None
        (any_none (defines label) before (undefined_all label before other))

instr_passes : (scope : Scope) (before : List Line) (line : Line) (after : List Line)
    (code : List Instr) → SpellsCode scope (before ++ line ∷ after) code →
    instr_fault scope before line ≡ None
instr_passes scope before line after code s =
    let a = said_around
    (λ (l : Line). instr_of scope (label_index (before ++ line ∷ after)) (unlabelled l))
    before line after code s.said in
    let few : length before < MAX_CODE =
    omega (arith, s.labelled.few, length-append before (line ∷ after)) in
    instr_fault-rest scope before line few (label_passes scope before line after code s)
    ∙ known_passes scope (label_index (before ++ line ∷ after)) (unlabelled line) a.value
    a.said_value

-- ---- all lines with words

header_passes : (version cells procs steps : ℕ) (rule : Rule) (header before : List Line)
    (line : Line) (after : List Line) → SpellsHeader version cells procs steps rule header →
    header ≡ before ++ line ∷ after → words_fault before line ≡ None
unfolding words_fault
header_passes version cells procs steps rule header before line after h e =
    go before (sym h.parts ∙ e)
  where
    version_said : (a : Line) → h.version_line ≡ a → version_of a ≡ Ok version
    version_said a first = ap version_of (sym first) ∙ h.version_said

    go : (before : List Line) →
        h.version_line ∷ h.cells_line ∷ h.procs_line ∷ h.steps_line ∷ h.rule_lines
        ≡ before ++ line ∷ after → words_fault before line ≡ None
    go [] f =
        let same : line ≡ h.version_line = cc in
        ap (λ l. result_err (version_of l)) same ∙ ap result_err h.version_said
    go (a ∷ []) f =
        let first : h.version_line ≡ a = cc in
        let same : line ≡ h.cells_line = cc in
        ap (λ said. result_err (cells_of (result_unwrap_or said 0) line)) (version_said a first)
        ∙ ap (λ l. result_err (cells_of version l)) same ∙ ap result_err h.cells_said
    go (a ∷ b ∷ []) f =
        let first : h.version_line ≡ a = cc in
        let same : line ≡ h.procs_line = cc in
        ap (λ said. result_err (procs_of (result_unwrap_or said 0) line)) (version_said a first)
        ∙ ap (λ l. result_err (procs_of version l)) same ∙ ap result_err h.procs_said
    go (a ∷ b ∷ c ∷ []) f =
        let same : line ≡ h.steps_line = cc in
        ap (λ l. result_err (steps_of l)) same ∙ ap result_err h.steps_said
    go (a ∷ b ∷ c ∷ d ∷ before) f =
        let first : h.version_line ≡ a = cc in
        let ruled : h.rule_lines ≡ before ++ line ∷ after = cc in
        elim (version_cases h.version_line version h.version_said) [
          | inl one ↦ no_line before
              (sym (subst (λ v. SpellsRule v rule h.rule_lines) one h.rule_said).0 ∙ ruled)
          | inr two ↦
              let some = rule_line version rule h.rule_lines two h.rule_said in
              let named : names_rule a ≡ true =
              names_rule_later a version (version_said a first) two in
              one_line before (sym some.1 ∙ ruled) some.2 named
        ]
      where
        no_line : (before : List Line) → [] ≡ before ++ line ∷ after →
            words_fault (a ∷ b ∷ c ∷ d ∷ before) line ≡ None
        no_line [] g = cc
        no_line (x ∷ before) g = cc

        one_line : (before : List Line) {first : Line} →
            first ∷ [] ≡ before ++ line ∷ after → rule_of first ≡ Ok rule → names_rule a ≡ true →
            words_fault (a ∷ b ∷ c ∷ d ∷ before) line ≡ None
        one_line [] {first} g said named =
            let same : line ≡ first = cc in
            rw (named, same, said) refl
        one_line (x ∷ []) g said named = cc
        one_line (x ∷ y ∷ before) g said named = cc

rest_passes : (job : JobData) (lines : List Line) (s : SpellsLines job lines) (before : List Line)
    (line : Line) (after : List Line) → s.inits ++ code_heading ∷ s.body ≡ before ++ line ∷ after →
    rest_fault (is_later s.version) job.cells before line ≡ None
rest_passes job lines s before line after e =
    elim (split_of_append s.inits (code_heading ∷ s.body) before line after e) [
      | inl start ↦
          let none' = subst (NonePasses is_code) start.1 none in
          rest_fault-inits later job.cells before line
          (none_left is_code before (line ∷ start.0) none')
          ∙ ap (λ b. if b then None else entry_fault later job.cells before line)
          (none_at is_code before line start.0 none')
          ∙ entry_passes later job.cells before line start.0 s.entries
          (subst (λ l. SaysEntries later job.cells l s.entries) start.1 s.said)
      | inr more ↦ ap (λ ls. rest_fault later job.cells ls line) more.1 ∙ go more.0 more.2
    ]
  where
    later : Bool
    later = is_later s.version

    none : NonePasses is_code s.inits
    none = none_named (is_later s.version) job.cells s.inits s.entries s.said

    go : (more : List Line) → code_heading ∷ s.body ≡ more ++ line ∷ after →
        rest_fault later job.cells (s.inits ++ more) line ≡ None
    go [] f =
        let same : line ≡ code_heading = cc in
        ap (λ ls. rest_fault later job.cells ls line) (append-nil s.inits)
        ∙ rest_fault-inits later job.cells s.inits line none
        ∙ ap (λ b. if b then None else entry_fault later job.cells s.inits line)
        (ap is_code same ∙ code_line_is_code)
    go (c ∷ more) f =
        let same : c ≡ code_heading = cc in
        let body : s.body ≡ more ++ line ∷ after = cc in
        ap (λ l. rest_fault later job.cells (s.inits ++ l ∷ more) line) same
        ∙ rest_fault-body later job.cells s.inits more line none
        ∙ ap (λ entries. instr_fault (scope_of later entries) more line)
        (entries_in-said later job.cells s.inits s.entries s.said.said)
        ∙ instr_passes (scope_of later s.entries) more line after job.code
        (subst (λ l. SpellsCode (scope_of later s.entries) l job.code) body s.code)

pub words_pass : (job : JobData) (lines before : List Line) (line : Line) (after : List Line) →
    SpellsLines job lines → lines ≡ before ++ line ∷ after → words_fault before line ≡ None
words_pass job lines before line after s e = elim (split_of_append s.header
    (s.inits ++ code_heading ∷ s.body) before line after (sym s.parts ∙ e)) [
      | inl front ↦ header_passes s.version job.cells job.procs job.steps job.rule
          s.header before line front.0 s.sizes front.1
      | inr later ↦ ap (λ ls. words_fault ls line) later.1 ∙ words_fault-after _
          _ _ _ _ s.header s.sizes later.0 line ∙ rest_passes job lines s later.0 line after later.2
    ]
