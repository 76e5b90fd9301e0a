-- Every text spells a job or bears a fault.
use Rattle.std.proofs.Common.{◌≡◌, ◌⊎◌, ℕ, ◌+◌, ◌-◌, ◌<◌, ◌≤◌, zero, suc, true, not}
use Rattle.std.proofs.Common.{◌==◌, if◌then◌else◌, List, [], ◌++◌, length, map}
use Rattle.std.proofs.Common.{take, drop, All, IsTrue, Option, Some, None, get_or}
use Rattle.std.proofs.Common.{refl, sym, ap, subst, ◌∙◌, inl, inr, arith, eq-eqb}
use Rattle.std.specs.List.{list_all}
use Rattle.std.specs.Option.{option_or}
use Rattle.std.proofs.lemmas.Bool.{cond-true, not-false, cases_eq}
use Rattle.std.proofs.lemmas.List.{get_or_default, length-map, take-append-drop, drop_more}
use Rattle.std.proofs.lemmas.List.Splits.{length-slice_split}
use Rattle.pram_text.specs.declared.fault.TextKind.{TextKind}
use Rattle.pram_text.specs.declared.fault.TextKind.TheVariants.{NotAscii, UnknownLabel}
use Rattle.pram_job.specs.Job.{JobData}
use Rattle.text_lines.specs.Lines.{Line, lines_of, words_of, worded, is_allowed, is_filled}
use Rattle.pram_text.specs.Judgement.{unlabelled}
use Rattle.pram_text.specs.Text.{label_index, Spells, words_fault, line_fault, body_of}
use Rattle.pram_text.specs.Text.{numbered_body}
use Rattle.pram_text.specs.Text.{end_fault, fault_at, scope_in, label_fault_at, IsFirst, Bears}
use Rattle.pram_text.proofs.Worded.{worded_at, words-numbered_body}
use Rattle.pram_text.proofs.Labels.{instr_fault-none}
use Rattle.pram_text.proofs.LawNoFault.{instr_follows}
use Rattle.pram_text.proofs.LawEnding.{Passes, has_parts, ends, unfaulted, lines_spell}

-- ---- the first fault, if there is one

abbrev Searched : (ℕ → Option TextKind) → ℕ → Type 0
Searched fault n =
    ((k : ℕ) × (kind : TextKind) × IsFirst fault n k kind) ⊎ ((k : ℕ) → k < n → fault k ≡ None)

one_more : (fault : ℕ → Option TextKind) (n : ℕ) (o : Option TextKind) → fault n ≡ o →
    Searched fault n → Searched fault (suc n)
one_more fault n o e (inl first) =
    let within = first.2.within in
    inl (
      first.0,
      first.1,
      record { within = omega arith; here = first.2.here; earlier = first.2.earlier },
    )
one_more fault n (Some kind) e (inr none) =
    inl (n, kind, record { within = omega arith; here = e; earlier = none })
one_more fault n None e (inr none) = inr (λ k lt. elim (cases_eq k n) [
  | inl same ↦ ap fault same ∙ e
  | inr other ↦ none k (omega arith)
])

search_for : (fault : ℕ → Option TextKind) (n : ℕ) → Searched fault n
search_for fault zero = inr (λ k lt. absurd (omega arith))
search_for fault (suc n) = one_more fault n (fault n) refl (search_for fault n)

-- ---- where no line bears a fault

or_parts_none : (a b : Option TextKind) → option_or a b ≡ None → (a ≡ None) × (b ≡ None)
or_parts_none None b e = (refl, e)
or_parts_none (Some kind) b e = cc

module _ (lines : List (List ℕ)) (some : 1 ≤ length lines)
    (none : (k : ℕ) → k < length lines → fault_at lines k ≡ None) where
  line_passes : (k : ℕ) → k < length lines →
      line_fault (worded (take k lines)) (get_or lines k []) ≡ None
  unfolding fault_at
  line_passes k lt = (or_parts_none (line_fault (worded (take k lines)) (get_or lines k []))
      (if (k + 1) == length lines then end_fault (worded lines) else None) (none k lt)).0

  end_passes : end_fault (worded lines) ≡ None
  unfolding fault_at
  end_passes =
      let last : length lines - 1 < length lines = omega arith in
      let here : ((length lines - 1) + 1 == length lines) ≡ true =
      eq-eqb ((length lines - 1) + 1) (length lines) (omega arith) in
      sym (cond-true ((length lines - 1) + 1 == length lines) (end_fault (worded lines)) None here)
      ∙ (or_parts_none
      (line_fault (worded (take (length lines - 1) lines)) (get_or lines (length lines - 1) []))
      (if ((length lines - 1) + 1) == length lines then end_fault (worded lines) else None)
      (none (length lines - 1) last)).1

  line_parts : (k : ℕ) → k < length lines → (list_all is_allowed (get_or lines k []) ≡ true)
      × ((if is_filled (words_of (get_or lines k []))
      then words_fault (worded (take k lines)) (words_of (get_or lines k [])) else None) ≡ None)
  unfolding line_fault
  line_parts k lt =
      let parts = unfaulted (not (list_all is_allowed (get_or lines k []))) NotAscii
      (if is_filled (words_of (get_or lines k [])) then words_fault (worded (take k lines))
      (words_of (get_or lines k [])) else None) (line_passes k lt) in
      (not-false (list_all is_allowed (get_or lines k [])) parts.0, parts.1)

  all_allowed : All (λ line. IsTrue (list_all is_allowed line)) lines
  all_allowed k d lt = subst (λ line. list_all is_allowed line ≡ true)
      (get_or_default lines k [] d lt) (line_parts k lt).0

  pub words_pass : Passes (worded lines)
  words_pass before line after e =
      let at = worded_at lines before line after e in
      let filled = subst (λ l. is_filled l ≡ true) (sym at.says) at.filled in
      let one = sym (cond-true (is_filled (words_of (get_or lines at.index [])))
      (words_fault (worded (take at.index lines)) (words_of (get_or lines at.index [])))
      None filled) ∙ (line_parts at.index at.within).1 in
      subst (λ l. words_fault before l ≡ None) at.says
      (subst (λ l. words_fault l (words_of (get_or lines at.index [])) ≡ None) at.front one)

has_line : (text : List ℕ) → 1 ≤ length (lines_of text)
has_line text = omega (arith, length-slice_split (λ b. b == 10) text)

-- A text none of whose lines bears a fault spells a job.
faultless_spells : (text : List ℕ) →
    ((k : ℕ) → k < length (lines_of text) → fault_at (lines_of text) k ≡ None) →
    ((k : ℕ) → k < length (numbered_body (lines_of text)) →
    label_fault_at (scope_in (worded (lines_of text)))
    (map (λ l. l.1) (numbered_body (lines_of text))) k ≡ None) →
    (job : JobData) × Spells text job
faultless_spells text none known =
    let lines = lines_of text in
    let some = has_line text in
    let words = words-numbered_body lines in
    let len : length (body_of (worded lines)) ≡ length (numbered_body lines) =
    ap length (sym words) ∙ length-map (numbered_body lines) (λ l. l.1) in
    let job = lines_spell (worded lines) (words_pass lines some none) (end_passes lines some none)
    (λ k lt. subst (λ ls. label_fault_at (scope_in (worded lines)) ls k ≡ None) words
    (known k (omega arith))) in
    (job.0, record { allowed = all_allowed lines some none; lines = job.1 })

pub spells_or_bears : (text : List ℕ) →
    ((job : JobData) × Spells text job) ⊎ ((line : ℕ) × (kind : TextKind) × Bears text line kind)
unfolding Bears
spells_or_bears text = go (search_for (fault_at lines) (length lines))
    (search_for (label_fault_at (scope_in (worded lines)) (map (λ l. l.1) body)) (length body))
  where
    lines : List (List ℕ)
    lines = lines_of text

    body : List (ℕ × Line)
    body = numbered_body lines

    go : Searched (fault_at (lines_of text)) (length (lines_of text)) →
        Searched (label_fault_at (scope_in (worded (lines_of text)))
        (map (λ l. l.1) (numbered_body (lines_of text))))
        (length (numbered_body (lines_of text))) → ((job : JobData) × Spells text job)
        ⊎ ((line : ℕ) × (kind : TextKind) × Bears text line kind)
    go (inl first) labels = inr (first.0 + 1, first.1, inl (first.0, refl, first.2))
    go (inr none) (inl first) = inr (_, first.1, inr (none, first.0, refl, first.2))
    go (inr none) (inr known) = inl (faultless_spells text none known)

-- ---- labels come last

-- where no line has a fault of its own, an instruction has none with its labels known
pub label_comes_last : (text : List ℕ) (line : ℕ) (kind : TextKind) → Bears text line kind →
    ((k : ℕ) → k < length (lines_of text) → fault_at (lines_of text) k ≡ None) → kind ≡ UnknownLabel
unfolding Bears
label_comes_last text line kind (inl first) none =
    let at = none first.0 first.2.within in
    let here = first.2.here in cc
label_comes_last text line kind (inr label) none =
    let lines = lines_of text in
    let some = has_line text in
    let words = words-numbered_body lines in
    let k = label.1 in
    let passes = words_pass lines some none in
    let p = has_parts (worded lines) passes (ends (worded lines) (end_passes lines some none)).0 in
    let body : map (λ l. l.1) (numbered_body lines) ≡ p.body = words ∙ p.is_body in
    let len : length p.body ≡ length (numbered_body lines) =
    sym (ap length body) ∙ length-map (numbered_body lines) (λ l. l.1) in
    let within : k < length p.body = omega (arith, label.3.within) in
    let fine = instr_fault-none p.scope (take k p.body) (get_or p.body k []) (p.passes (take k p.body)
    (get_or p.body k []) (drop (k + 1) p.body) (sym (take-append-drop k p.body)
    ∙ ap (λ l. take k p.body ++ l) (drop_more p.body k [] within))) in
    let here : label_fault_at p.scope p.body k ≡ Some kind =
    subst (λ scope. label_fault_at scope p.body k ≡ Some kind) p.is_scope
    (subst (λ ls. label_fault_at (scope_in (worded lines)) ls k ≡ Some kind) body label.3.here) in
    elim (instr_follows p.scope (label_index p.body) (unlabelled (get_or p.body k []))).same [
      | inl same ↦ let known = fine.2 in cc
      | inr unknown ↦ let is = unknown.0 in cc
    ]
