-- The lines of a header, one at a time.
use Rattle.std.proofs.Common.{◌≡◌, ◌≢◌, ℕ, nat_le, le-leb, ⊎_elim, if◌then◌else◌}
use Rattle.std.proofs.Common.{List, [], ◌∷◌, ◌++◌, Ok, refl, ap, ◌∙◌}
use Rattle.std.specs.Result.{result_err, result_unwrap_or}
use Rattle.pram_text.specs.declared.head.Head.{Head}
use Rattle.pram_text.specs.declared.head.Next.{Next}
use Rattle.pram_job.specs.declared.instr.Rule.{Rule}
use Rattle.pram_text.specs.declared.head.Next.TheVariants.{Version, Cells, Procs}
use Rattle.pram_text.specs.declared.head.Next.TheVariants.{Steps, Rules, Start, Code}
use Rattle.text_lines.specs.Lines.{Line}
use Rattle.pram_text.specs.Judgement.{version_of, cells_of, procs_of, steps_of, rule_of}
use Rattle.pram_text.specs.Inner.Reading.{HoldsHead}
use Rattle.pram_text.specs.Text.{words_fault}
use Rattle.pram_text.proofs.Stages.{version_cases, names_rule_later, rule_named}

-- ---- the fault of a line of the header

pub fault_at_version : (before : List Line) (w : Line) (head : Head) →
    HoldsHead Version before head → words_fault before w ≡ result_err (version_of w)
unfolding words_fault
fault_at_version before w head h = rw h.0 refl

pub fault_at_cells : (before : List Line) (w : Line) (head : Head) → HoldsHead Cells before head →
    words_fault before w ≡ result_err (cells_of head.version w)
unfolding words_fault
fault_at_cells before w head h =
    rw h.1 (ap (λ said. result_err (cells_of (result_unwrap_or said 0) w)) h.2)

pub fault_at_procs : (before : List Line) (w : Line) (head : Head) → HoldsHead Procs before head →
    words_fault before w ≡ result_err (procs_of head.version w)
unfolding words_fault
fault_at_procs before w head h =
    rw h.2 (ap (λ said. result_err (procs_of (result_unwrap_or said 0) w)) h.3)

pub fault_at_steps : (before : List Line) (w : Line) (head : Head) → HoldsHead Steps before head →
    words_fault before w ≡ result_err (steps_of w)
unfolding words_fault
fault_at_steps before w head h = rw h.3 refl

pub fault_at_rule : (before : List Line) (w : Line) (head : Head) → HoldsHead Rules before head →
    words_fault before w ≡ result_err (rule_of w)
unfolding words_fault
fault_at_rule before w head h =
    rw (h.4, names_rule_later h.0 head.version h.5 h.9) refl

-- ---- what follows the line `steps`, and the line `rule`

pub HoldsHead-steps : (before : List Line) (w : Line) (head : Head) (n : ℕ) (next : Next) →
    HoldsHead Steps before head → steps_of w ≡ Ok n →
    next ≡ (if nat_le 2 head.version then Rules else Start) →
    HoldsHead next (before ++ w ∷ []) (record head { steps = n; next = next }) × (next ≢ Code)
HoldsHead-steps before w head n next h said is =
    let lines : before ++ w ∷ [] ≡ h.0 ∷ h.1 ∷ h.2 ∷ w ∷ [] = ap (λ ls. ls ++ w ∷ []) h.3 in
    ⊎_elim (λ one.
    let at : next ≡ Start = is ∙ ap (λ k. if nat_le 2 k then Rules else Start) one in
    rw at (
      record {
        version_line = h.0;
        cells_line = h.1;
        procs_line = h.2;
        steps_line = w;
        rule_lines = [];
        parts = lines;
        version_said = h.4;
        cells_said = h.5;
        procs_said = h.6;
        steps_said = said;
        rule_said = rw one (refl, h.7);
      },
      λ e. cc,
    )) (λ two.
    let at : next ≡ Rules = is ∙ ap (λ b. if b then Rules else Start) (le-leb 2 head.version two) in
    rw at ((h.0, h.1, h.2, w, lines, h.4, h.5, h.6, said, two), λ e. cc))
    (version_cases h.0 head.version h.4)

pub HoldsHead-rule : (before : List Line) (w : Line) (head : Head) (rule : Rule) →
    HoldsHead Rules before head → rule_of w ≡ Ok rule →
    HoldsHead Start (before ++ w ∷ []) (record head { rule = rule; next = Start })
HoldsHead-rule before w head rule h said =
    record {
      version_line = h.0;
      cells_line = h.1;
      procs_line = h.2;
      steps_line = h.3;
      rule_lines = w ∷ [];
      parts = ap (λ ls. ls ++ w ∷ []) h.4;
      version_said = h.5;
      cells_said = h.6;
      procs_said = h.7;
      steps_said = h.8;
      rule_said = rule_named head.version rule (w ∷ []) h.9 (w, refl, said);
    }
