-- A text that spells a job bears no fault, and any other bears one at most.
use Rattle.std.proofs.Common.{◌≡◌, ℕ, ◌+◌, ◌<◌, suc, Bool, true, false, not, ◌==◌, if◌then◌else◌}
use Rattle.std.proofs.Common.{List, [], length, map, take, drop, All, IsTrue, Option, None, Ok}
use Rattle.std.proofs.Common.{get_or, slice_index, refl, sym, ap, ap₂, subst, ◌∙◌, inl, inr, arith}
use Rattle.std.specs.List.{list_all}
use Rattle.std.specs.Option.{option_or}
use Rattle.std.specs.Result.{result_err}
use Rattle.std.proofs.lemmas.Bool.{cond-false, not_from_true, cases_lt}
use Rattle.std.proofs.lemmas.List.{get_or-map, length-map}
use Rattle.pram_text.specs.declared.fault.TextKind.{TextKind}
use Rattle.pram_job.specs.declared.instr.Instr.TheVariants.{Halt}
use Rattle.pram_job.specs.Job.{JobData}
use Rattle.text_lines.specs.Lines.{Line, lines_of, words_of, worded, is_allowed, is_filled}
use Rattle.pram_text.specs.Judgement.{is_later, unlabelled, instr_of}
use Rattle.pram_text.specs.Text.{label_index, SpellsLines, Spells, words_fault}
use Rattle.pram_text.specs.Text.{line_fault, has_code, body_of, numbered_body, scope_of, scope_in}
use Rattle.pram_text.specs.Text.{end_fault, fault_at, label_fault_at, IsFirst, Bears}
use Rattle.pram_text.proofs.Coded.{no_fault-Ok}
use Rattle.pram_text.proofs.Finishing.{filled}
use Rattle.pram_text.proofs.LawNoFault.{words_pass}
use Rattle.pram_text.proofs.Inits.{entries_in-said}
use Rattle.pram_text.proofs.Stages.{none_named, has_code-body, body_of-body, scope_in-body}
use Rattle.pram_text.proofs.Worded.{worded_around, words-numbered_body}

-- ---- the end, and labels

end_passes : (job : JobData) (lines : List Line) → SpellsLines job lines → end_fault lines ≡ None
unfolding end_fault
end_passes job lines s =
    let none = none_named _ job.cells s.inits s.entries s.said in
    let code = ap has_code s.parts ∙ has_code-body _ _ _ _ _ s.header s.sizes s.inits s.body none in
    let body = ap body_of s.parts ∙ body_of-body _ _ _ _ _ s.header s.sizes s.inits s.body none in
    let some : is_filled (body_of lines) ≡ true = ap is_filled body ∙ filled s.body s.code.some in
    rw (code, some) refl

labels_pass : (job : JobData) (lines : List Line) → SpellsLines job lines → (k : ℕ) →
    k < length (body_of lines) → label_fault_at (scope_in lines) (body_of lines) k ≡ None
labels_pass job lines s k =
    let none = none_named _ job.cells s.inits s.entries s.said in
    let body = ap body_of s.parts ∙ body_of-body _ _ _ _ _ s.header s.sizes s.inits s.body none in
    let scope : scope_in lines ≡ scope_of (is_later s.version) s.entries = ap scope_in s.parts
    ∙ scope_in-body _ _ _ _ _ s.header s.sizes s.inits s.body none
    ∙ ap (scope_of (is_later s.version))
    (entries_in-said (is_later s.version) job.cells s.inits s.entries s.said.said) in
    subst (λ ls. k < length ls → label_fault_at (scope_in lines) ls k ≡ None) (sym body)
    (subst (λ sc. k < length s.body → label_fault_at sc s.body k ≡ None) (sym scope) (λ lt.
    ap result_err (sym (get_or-map (λ line. instr_of (scope_of (is_later s.version) s.entries)
    (label_index s.body) (unlabelled line)) s.body k [] (Ok Halt) lt)
    ∙ ap (λ os. get_or os k (Ok Halt)) s.code.said) ∙ no_fault-Ok job.code k))

-- ---- a line by itself

line_passes : (job : JobData) (lines : List (List ℕ)) (k : ℕ) → k < length lines →
    All (λ line. IsTrue (list_all is_allowed line)) lines → SpellsLines job (worded lines) →
    line_fault (worded (take k lines)) (get_or lines k []) ≡ None
unfolding line_fault
line_passes job lines k lt allowed s =
    cond-false (not (list_all is_allowed (get_or lines k []))) _ _
    (not_from_true _ (allowed k [] lt)) ∙ go (is_filled (words_of (get_or lines k []))) refl
  where
    go : (b : Bool) → is_filled (words_of (get_or lines k [])) ≡ b →
        (if b then words_fault (worded (take k lines)) (words_of (get_or lines k [])) else None)
        ≡ None
    go false e = refl
    go true e = words_pass job (worded lines) (worded (take k lines)) (words_of (get_or lines k []))
        (worded (drop (suc k) lines)) s (worded_around lines k lt e)

if_none : (b : Bool) (o : Option TextKind) → o ≡ None → (if b then o else None) ≡ None
if_none true o e = e
if_none false o e = refl

passes_at : (job : JobData) (lines : List (List ℕ)) (k : ℕ) →
    k < length lines → All (λ line. IsTrue (list_all is_allowed line)) lines →
    SpellsLines job (worded lines) → fault_at lines k ≡ None
unfolding fault_at
passes_at job lines k lt allowed s =
    ap₂ option_or (line_passes job lines k lt allowed s)
    (if_none ((k + 1) == length lines) (end_fault (worded lines)) (end_passes job (worded lines) s))

pub spelled_bears_none : (text : List ℕ) (job : JobData) (line : ℕ) (kind : TextKind) →
    Spells text job → Bears text line kind → ⊥
unfolding Bears
spelled_bears_none text job line kind s (inl first) =
    let none = passes_at job (lines_of text) first.0 first.2.within s.allowed s.lines in
    let some = first.2.here in
    cc
spelled_bears_none text job line kind s (inr label) =
    let words = words-numbered_body (lines_of text) in
    let len : length (body_of (worded (lines_of text))) ≡ length (numbered_body (lines_of text)) =
    ap length (sym words) ∙ length-map (numbered_body (lines_of text)) (λ l. l.1) in
    let none = subst (λ ls. label_fault_at (scope_in (worded (lines_of text))) ls label.1 ≡ None)
    (sym words)
    (labels_pass job (worded (lines_of text)) s.lines label.1 (omega (arith, label.3.within))) in
    let some = label.3.here in cc

-- ---- one fault

first_once : (fault : ℕ → Option TextKind) (len i j : ℕ) (kind kind' : TextKind) →
    IsFirst fault len i kind → IsFirst fault len j kind' → (i ≡ j) × (kind ≡ kind')
first_once fault len i j kind kind' a b = elim (cases_lt i j) [
  | inl lt ↦ let none = b.earlier i lt in let some = a.here in cc
  | inr ge ↦ elim (cases_lt j i) [
    | inl lt ↦ let none = a.earlier j lt in let some = b.here in cc
    | inr le ↦
        let same : i ≡ j = omega arith in
        let one = a.here in
        let other = b.here in
        let kinds : kind ≡ kind' = cc in
        (same, kinds)
  ]
]

pub bears_once : (text : List ℕ) (line line' : ℕ) (kind kind' : TextKind) → Bears text line kind →
    Bears text line' kind' → (line ≡ line') × (kind ≡ kind')
unfolding Bears
bears_once text line line' kind kind' (inl a) (inl b) =
    let one =
    first_once (fault_at (lines_of text)) (length (lines_of text)) a.0 b.0 kind kind' a.2 b.2 in
    (a.1 ∙ ap (λ n. n + 1) one.0 ∙ sym b.1, one.1)
bears_once text line line' kind kind' (inl a) (inr b) =
    let none = b.0 a.0 a.2.within in
    let some = a.2.here in cc
bears_once text line line' kind kind' (inr a) (inl b) =
    let none = a.0 b.0 b.2.within in
    let some = b.2.here in cc
bears_once text line line' kind kind' (inr a) (inr b) =
    let body : List (ℕ × Line) = numbered_body (lines_of text) in
    let one =
    first_once (label_fault_at (scope_in (worded (lines_of text))) (map (λ l. l.1) body))
    (length body) a.1 b.1 kind kind' a.3 b.3 in
    (a.2 ∙ ap (slice_index (map (λ l. l.0) body)) one.0 ∙ sym b.2, one.1)
