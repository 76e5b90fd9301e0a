-- A text spells at most one job.
use Rattle.std.proofs.Common.{◌≡◌, ◌⊎◌, ℕ, ◌<◌, ◌≤◌, List, ◌∷◌, ◌++◌}
use Rattle.std.proofs.Common.{sym, ap, ap₂, subst, ◌∙◌, ⊎_elim, arith}
use Rattle.std.proofs.lemmas.List.{ext_get_or}
use Rattle.pram_job.specs.declared.instr.Rule.{Rule}
use Rattle.pram_job.specs.Job.{JobData}
use Rattle.text_lines.specs.Lines.{Line, lines_of, worded}
use Rattle.pram_text.specs.Judgement.{is_later, rule_of, Entry, entry_of, is_code, instr_of}
use Rattle.pram_text.specs.Judgement.{unlabelled}
use Rattle.pram_text.specs.Text.{label_index, code_heading, scope_of, SpellsInit, SpellsCode}
use Rattle.pram_text.specs.Text.{SpellsRule, SpellsLines, Spells}
use Rattle.pram_text.proofs.Lists.{cut_once}
use Rattle.pram_text.proofs.Said.{Said, said_once}
use Rattle.pram_text.proofs.Stages.{version_cases, rule_line, none_named, code_line_is_code}

-- start values, for so many cells
one_init : (cells : ℕ) (entries : List Entry) (a b : List ℕ) → SpellsInit cells entries a →
    SpellsInit cells entries b → a ≡ b
one_init cells entries a b s t = ext_get_or 0 a b (s.len ∙ sym t.len) (λ c lt.
    let within : c < cells = omega (arith, s.len) in s.values c within ∙ sym (t.values c within))

one_rule : (v : ℕ) (r r' : Rule) (ruled ruled' rest rest' : List Line) →
    (v ≡ 1) ⊎ (2 ≤ v) → SpellsRule v r ruled → SpellsRule v r' ruled' →
    ruled ++ rest ≡ ruled' ++ rest' → (r ≡ r') × (rest ≡ rest')
one_rule v r r' ruled ruled' rest rest' which s t e = ⊎_elim
    (λ one. let a = subst (λ v. SpellsRule v r ruled) one s in
    let b = subst (λ v. SpellsRule v r' ruled') one t in
    (a.1 ∙ sym b.1, sym (ap (λ ls. ls ++ rest) a.0) ∙ e ∙ ap (λ ls. ls ++ rest') b.0))
    (λ two. let a = rule_line v r ruled two s in
    let b = rule_line v r' ruled' two t in
    let cut : a.0 ∷ rest ≡ b.0 ∷ rest' =
    sym (ap (λ ls. ls ++ rest) a.1) ∙ e ∙ ap (λ ls. ls ++ rest') b.1 in
    let line : a.0 ≡ b.0 = cc in
    let more : rest ≡ rest' = cc in
    let rules : r ≡ r' = cc (a.2, b.2, ap rule_of line) in (rules, more)) which

one_lines : (a b : JobData) (lines : List Line) → SpellsLines a lines → SpellsLines b lines → a ≡ b
one_lines a b lines s t =
    let h = s.sizes in
    let k = t.sizes in
    let front = s.inits ++ code_heading ∷ s.body in
    let front' = t.inits ++ code_heading ∷ t.body in
    let e : h.version_line ∷ h.cells_line ∷ h.procs_line ∷ h.steps_line ∷ (h.rule_lines ++ front)
    ≡ k.version_line ∷ k.cells_line ∷ k.procs_line ∷ k.steps_line ∷ (k.rule_lines ++ front') =
    sym (ap (λ ls. ls ++ front) h.parts)
    ∙ sym s.parts ∙ t.parts ∙ ap (λ ls. ls ++ front') k.parts in
    let v : s.version ≡ t.version = cc (h.version_said, k.version_said) in
    let c : a.cells ≡ b.cells = cc (h.cells_said, k.cells_said) in
    let p : a.procs ≡ b.procs = cc (h.procs_said, k.procs_said) in
    let n : a.steps ≡ b.steps = cc (h.steps_said, k.steps_said) in
    let ruled : h.rule_lines ++ front ≡ k.rule_lines ++ front' = cc in
    let r = one_rule t.version a.rule b.rule h.rule_lines k.rule_lines front front'
    (version_cases k.version_line t.version k.version_said)
    (subst (λ v. SpellsRule v a.rule h.rule_lines) v h.rule_said) k.rule_said ruled in
    let cut = cut_once is_code s.inits code_heading s.body t.inits code_heading t.body
    (none_named _ a.cells s.inits s.entries s.said) code_line_is_code
    (none_named _ b.cells t.inits t.entries t.said) code_line_is_code r.1 in
    let later : is_later s.version ≡ is_later t.version = ap is_later v in
    let said : Said (entry_of (is_later t.version) b.cells) t.inits s.entries =
    subst (λ inits. Said (entry_of (is_later t.version) b.cells) inits s.entries) cut.0
    (subst (λ cells. Said (entry_of (is_later t.version) cells) s.inits s.entries) c
    (subst (λ new. Said (entry_of new a.cells) s.inits s.entries) later s.said.said)) in
    let entries : s.entries ≡ t.entries = said_once (entry_of (is_later t.version) b.cells)
    t.inits s.entries t.entries said t.said.said in
    let init = one_init b.cells t.entries a.init b.init
    (subst (λ cells. SpellsInit cells t.entries a.init) c
    (subst (λ entries. SpellsInit a.cells entries a.init) entries s.init)) t.init in
    let scope : scope_of (is_later s.version) s.entries ≡ scope_of (is_later t.version) t.entries =
    ap₂ scope_of later entries in
    let spelled = subst (λ scope. SpellsCode scope t.body a.code) scope
    (subst (λ body. SpellsCode (scope_of (is_later s.version) s.entries) body a.code)
    cut.1 s.code) in
    let code = said_once (λ (line : Line). instr_of (scope_of (is_later t.version) t.entries)
    (label_index t.body) (unlabelled line)) t.body a.code b.code spelled.said t.code.said in λ i.
    record { rule = r.0 i; cells = c i; procs = p i; steps = n i; init = init i; code = code i }

pub spells_once : (text : List ℕ) (a b : JobData) → Spells text a → Spells text b → a ≡ b
spells_once text a b s t = one_lines a b (worded (lines_of text)) s.lines t.lines
