-- What the judgement of a line depends on, at each stage of a text.
use Rattle.std.proofs.Common.{◌≡◌, ◌⊎◌, ℕ, zero, suc, ◌≤◌, List, [], ◌∷◌, ◌++◌, Result, Ok}
use Rattle.std.proofs.Common.{Err, None, refl, ap, ap₂, sym, ◌∙◌, subst, Bool, true}
use Rattle.std.proofs.Common.{false, not, ◌||◌, ◌&&◌, cond, if◌then◌else◌, ⊎_elim, inl}
use Rattle.std.proofs.Common.{inr, nat_le, le-leb, codes, bytes_eq, arith}
use Rattle.std.specs.List.{list_any, before_first, after_first, cons_option}
use Rattle.std.specs.Result.{result_ok, result_unwrap_or}
use Rattle.std.proofs.lemmas.Bool.{cond-false, and_parts, leb-true, cases_eq}
use Rattle.std.proofs.lemmas.Slice.Eq.{bytes_eq-Decides}
use Rattle.pram_text.specs.declared.fault.TextKind.{TextKind}
use Rattle.pram_text.specs.declared.fault.TextKind.TheVariants.{BadHeader, BadNumber}
use Rattle.pram_job.specs.declared.instr.Rule.{Rule}
use Rattle.text_lines.specs.Lines.{Line}
use Rattle.pram_text.specs.Judgement.{is_number, value_of_digits, version_of, is_later, cells_of, rule_of}
use Rattle.pram_text.specs.Judgement.{Entry, says_array, array_of, init_of, entry_of, is_code}
use Rattle.pram_text.specs.Text.{words_fault, entry_fault, new_entry_fault, instr_fault}
use Rattle.pram_text.specs.Text.{rest_fault, names_rule, entries_in, has_code, body_of}
use Rattle.pram_text.specs.Text.{scope_of, scope_after, scope_in, version_in}
use Rattle.pram_text.specs.Text.{code_heading, SaysEntries, SpellsRule, SpellsHeader}
use Rattle.pram_text.proofs.Lists.{NonePasses, any_none, any_at, after_first_at, after_first_skip}
use Rattle.pram_text.proofs.Lists.{before_first_at, before_first_skip}
use Rattle.pram_text.proofs.Said.{Said}

-- ---- versions

version_picked : (a b c : Bool) (m n : ℕ) (k l : TextKind) →
    (cond (not a) (Err k) (cond (not b) (Err l) (cond c (Ok m) (Err k)))) ≡ Ok n →
    (c ≡ true) × (m ≡ n)
version_picked false b c m n k l e = cc
version_picked true false c m n k l e = cc
version_picked true true false m n k l e = cc
version_picked true true true m n k l e = (refl, cc)

pub version_cases : (w : Line) (n : ℕ) → version_of w ≡ Ok n → (n ≡ 1) ⊎ (2 ≤ n)
unfolding version_of
version_cases [] n e = cc
version_cases (a ∷ []) n e = cc
version_cases (a ∷ b ∷ []) n e =
    let p = version_picked (bytes_eq a (codes "pram")) (is_number b)
    (nat_le 1 (value_of_digits b) && nat_le (value_of_digits b) 3) (value_of_digits b) n BadHeader
    BadNumber e in
    let least : 1 ≤ n = subst (λ m. 1 ≤ m) p.1
    (leb-true 1 (value_of_digits b) (and_parts _ _ p.0).0) in
    ⊎_elim (λ same. inl (sym same)) (λ other. inr (omega arith)) (cases_eq 1 n)
version_cases (a ∷ b ∷ c ∷ ds) n e = cc

-- a line of version 2, or a later one, asks for a rule
pub names_rule_at : (v : Line) (n : ℕ) → version_of v ≡ Ok n → names_rule v ≡ nat_le 2 n
names_rule_at v n e = ap (λ r. nat_le 2 (result_unwrap_or r 0)) e

pub names_rule_later : (v : Line) (n : ℕ) → version_of v ≡ Ok n → 2 ≤ n → names_rule v ≡ true
names_rule_later v n e later = names_rule_at v n e ∙ le-leb 2 n later

pub names_no_rule : (v : Line) (n : ℕ) → version_of v ≡ Ok n → n ≡ 1 → names_rule v ≡ false
names_no_rule v n e one = names_rule_at v n e ∙ ap (λ m. nat_le 2 m) one

-- the line of the rule
abbrev pub RuleLine : Rule → List Line → Type 0
RuleLine rule lines = (line : Line) × (lines ≡ line ∷ []) × (rule_of line ≡ Ok rule)

pub rule_named : (v : ℕ) (rule : Rule) (lines : List Line) → 2 ≤ v → RuleLine rule lines →
    SpellsRule v rule lines
rule_named zero rule lines later h = absurd (omega arith)
rule_named (suc zero) rule lines later h = absurd (omega arith)
rule_named (suc (suc v)) rule lines later h = h

pub rule_line : (v : ℕ) (rule : Rule) (lines : List Line) → 2 ≤ v → SpellsRule v rule lines →
    RuleLine rule lines
rule_line zero rule lines later h = absurd (omega arith)
rule_line (suc zero) rule lines later h = absurd (omega arith)
rule_line (suc (suc v)) rule lines later h = h

-- ---- which lines are the line `code`

pub is_code-rule : (line : Line) (rule : Rule) → rule_of line ≡ Ok rule → is_code line ≡ false
unfolding rule_of is_code
is_code-rule [] rule e = refl
is_code-rule (a ∷ []) rule e = cc
is_code-rule (a ∷ b ∷ ds) rule e = refl

both_bad : {A : Type 0} (b : Bool) (r : Result A TextKind) → r ≡ Err BadHeader →
    (if b then Err BadHeader else r) ≡ Err BadHeader
both_bad true r e = refl
both_bad false r e = e

is_code-entry : (later : Bool) (cells : ℕ) (line : Line) (entry : Entry) →
    entry_of later cells line ≡ Ok entry → is_code line ≡ false
unfolding entry_of array_of init_of is_code
is_code-entry later cells [] entry e = refl
is_code-entry later cells (a ∷ []) entry e =
    let bad = both_bad {A = Entry} (later && says_array (a ∷ [])) (Err BadHeader) refl in cc
is_code-entry later cells (a ∷ b ∷ ds) entry e = refl

no_values : (b : Bool) (r : Result Entry TextKind) →
    (if b && false then r else Err BadHeader) ≡ Err BadHeader
no_values true r = refl
no_values false r = refl

entry_of-rule : (later : Bool) (cells : ℕ) (line : Line) (rule : Rule) → rule_of line ≡ Ok rule →
    entry_of later cells line ≡ Err BadHeader
unfolding rule_of entry_of array_of init_of
entry_of-rule later cells [] rule e = cc
entry_of-rule later cells (a ∷ []) rule e = cc
entry_of-rule later cells (a ∷ b ∷ []) rule e =
    both_bad (later && says_array (a ∷ b ∷ [])) _ (no_values (bytes_eq a (codes "init")) _)
entry_of-rule later cells (a ∷ b ∷ c ∷ ds) rule e = cc

pub code_line_is : (line : Line) → is_code line ≡ true → line ≡ code_heading
unfolding is_code
code_line_is [] e = cc
code_line_is (a ∷ []) e = ap (λ word. word ∷ []) ((bytes_eq-Decides a (codes "code")).0 e)
code_line_is (a ∷ b ∷ ds) e = cc

pub code_line_is_code : is_code code_heading ≡ true
unfolding is_code
code_line_is_code = refl

none_said : (later : Bool) (cells : ℕ) (inits : List Line) (entries : List Entry) →
    Said (entry_of later cells) inits entries → NonePasses is_code inits
none_said later cells [] entries s = tt
none_said later cells (line ∷ inits) [] s = cc
none_said later cells (line ∷ inits) (entry ∷ entries) s =
    (is_code-entry later cells line entry (cc), none_said later cells inits entries (cc))

pub none_named : (later : Bool) (cells : ℕ) (inits : List Line) (entries : List Entry) →
    SaysEntries later cells inits entries → NonePasses is_code inits
none_named later cells inits entries h = none_said later cells inits entries h.said

-- ---- after the header

pub rest_fault-inits : (later : Bool) (cells : ℕ) (inits : List Line) (w : Line) →
    NonePasses is_code inits → rest_fault later cells inits w
    ≡ (if is_code w then None else entry_fault later cells inits w)
rest_fault-inits later cells inits w none =
    cond-false (list_any is_code inits) _ _ (any_none is_code inits none)

-- what instruction lines may say after these lines
pub scope_after-body : (later : Bool) (cells : ℕ) (inits body : List Line) →
    NonePasses is_code inits → scope_after later cells (inits ++ code_heading ∷ body)
    ≡ scope_of later (entries_in later cells inits)
scope_after-body later cells inits body none =
    ap (λ ls. scope_of later (entries_in later cells ls))
    (before_first_at is_code inits code_heading body none code_line_is_code)

pub rest_fault-body : (later : Bool) (cells : ℕ) (inits body : List Line) (w : Line) →
    NonePasses is_code inits → rest_fault later cells (inits ++ code_heading ∷ body) w
    ≡ instr_fault (scope_of later (entries_in later cells inits)) body w
rest_fault-body later cells inits body w none =
    ap (λ b. if b then instr_fault (scope_after later cells (inits ++ code_heading ∷ body))
    (after_first is_code (inits ++ code_heading ∷ body)) w
    else (if is_code w then None else entry_fault later cells (inits ++ code_heading ∷ body) w))
    (any_at is_code inits code_heading body code_line_is_code)
    ∙ ap₂ (λ scope ls. instr_fault scope ls w) (scope_after-body later cells inits body none)
    (after_first_at is_code inits code_heading body none code_line_is_code)

-- the line of the rule says nothing of arrays, start values and instructions
entries_in-rule : (later : Bool) (cells : ℕ) (first : Line) (rule : Rule) (lines : List Line) →
    rule_of first ≡ Ok rule → entries_in later cells (first ∷ lines) ≡ entries_in later cells lines
entries_in-rule later cells first rule lines e =
    ap (λ (r : Result Entry TextKind). cons_option (result_ok r) (entries_in later cells lines))
    (entry_of-rule later cells first rule e)

scope_after-rule : (later : Bool) (cells : ℕ) (first : Line) (rule : Rule) (lines : List Line) →
    rule_of first ≡ Ok rule →
    scope_after later cells (first ∷ lines) ≡ scope_after later cells lines
scope_after-rule later cells first rule lines e = ap (scope_of later)
    (ap (entries_in later cells) (before_first_skip is_code first lines (is_code-rule first rule e))
    ∙ entries_in-rule later cells first rule (before_first is_code lines) e)

rest_fault-rule : (later : Bool) (cells : ℕ) (first : Line) (rule : Rule) (before : List Line)
    (w : Line) → rule_of first ≡ Ok rule →
    rest_fault later cells (first ∷ before) w ≡ rest_fault later cells before w
unfolding entry_fault
rest_fault-rule later cells first rule before w e =
    let no_code = is_code-rule first rule e in
    let any : list_any is_code (first ∷ before) ≡ list_any is_code before =
    ap (λ b. b || list_any is_code before) no_code in
    let after = after_first_skip is_code first before no_code in
    let scope = scope_after-rule later cells first rule before e in
    let named = entries_in-rule later cells first rule before e in
    (λ i. if any i then instr_fault (scope i) (after i) w
    else (if is_code w then None else new_entry_fault (named i) (entry_of later cells w)))

module _ (version cells procs steps : ℕ) (rule : Rule) (header : List Line)
    (h : SpellsHeader version cells procs steps rule header) where
  cells_said : cells_of (version_in h.version_line) h.cells_line ≡ Ok cells
  cells_said =
      ap (λ said. cells_of (result_unwrap_or said 0) h.cells_line) h.version_said ∙ h.cells_said

  module _ (rest : List Line) where
    pub words_fault-after : (w : Line) →
        words_fault (header ++ rest) w ≡ rest_fault (is_later version) cells rest w
    unfolding words_fault
    words_fault-after w =
        ap (λ ls. words_fault (ls ++ rest) w) h.parts ∙ ⊎_elim
        (λ one. let ruled = subst (λ v. SpellsRule v rule h.rule_lines) one h.rule_said in
        let none = ruled.0 in
        let named = names_no_rule h.version_line version h.version_said one in
        rw (none, named, cells_said, h.version_said) refl)
        (λ two. let some = rule_line version rule h.rule_lines two h.rule_said in
        let lines = some.1 in
        let named = names_rule_later h.version_line version h.version_said two in
        rw (lines, named, cells_said, h.version_said)
        (rest_fault-rule (is_later version) cells some.0 rule rest w some.2))
        (version_cases h.version_line version h.version_said)

    -- what passes over the line of the rule gives of all lines what it gives of the rest
    passes_over : {A : Type 0} (answer : List Line → A) →
        ((first : Line) (ls : List Line) → rule_of first ≡ Ok rule →
        answer (first ∷ ls) ≡ answer ls) → answer (h.rule_lines ++ rest) ≡ answer rest
    passes_over answer skip = ⊎_elim
        (λ one. let none = subst (λ v. SpellsRule v rule h.rule_lines) one h.rule_said in
        ap (λ ls. answer (ls ++ rest)) none.0)
        (λ two. let some = rule_line version rule h.rule_lines two h.rule_said in
        ap (λ ls. answer (ls ++ rest)) some.1 ∙ skip some.0 rest some.2)
        (version_cases h.version_line version h.version_said)

    pub has_code-after : has_code (header ++ rest) ≡ list_any is_code rest
    has_code-after = ap (λ ls. has_code (ls ++ rest)) h.parts ∙ passes_over (list_any is_code)
        (λ first ls e. ap (λ b. b || list_any is_code ls) (is_code-rule first rule e))

    pub body_of-after : body_of (header ++ rest) ≡ after_first is_code rest
    body_of-after = ap (λ ls. body_of (ls ++ rest)) h.parts ∙ passes_over (after_first is_code)
        (λ first ls e. after_first_skip is_code first ls (is_code-rule first rule e))

    pub scope_in-after : scope_in (header ++ rest) ≡ scope_after (is_later version) cells rest
    scope_in-after = ap (λ ls. scope_in (ls ++ rest)) h.parts
        ∙ (λ i. scope_after (is_later (result_unwrap_or (h.version_said i) 0))
        (result_unwrap_or (cells_said i) 0) (h.rule_lines ++ rest))
        ∙ passes_over (scope_after (is_later version) cells)
        (λ first ls e. scope_after-rule (is_later version) cells first rule ls e)

  -- a text up to and after its line `code`
  module _ (inits body : List Line) (none : NonePasses is_code inits) where
    pub has_code-header : has_code (header ++ inits) ≡ false
    has_code-header = has_code-after inits ∙ any_none is_code inits none

    pub has_code-body : has_code (header ++ (inits ++ code_heading ∷ body)) ≡ true
    has_code-body = has_code-after (inits ++ code_heading ∷ body)
        ∙ any_at is_code inits code_heading body code_line_is_code

    pub body_of-body : body_of (header ++ (inits ++ code_heading ∷ body)) ≡ body
    body_of-body = body_of-after (inits ++ code_heading ∷ body)
        ∙ after_first_at is_code inits code_heading body none code_line_is_code

    pub scope_in-body : scope_in (header ++ (inits ++ code_heading ∷ body))
        ≡ scope_of (is_later version) (entries_in (is_later version) cells inits)
    scope_in-body = scope_in-after (inits ++ code_heading ∷ body)
        ∙ scope_after-body (is_later version) cells inits body none
