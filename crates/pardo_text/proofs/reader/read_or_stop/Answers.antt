use Rattle.std.proofs.Common.{◌≡◌, ◌∙◌, ◌∷◌, ℕ, sym, ap, ap₂}
use Rattle.pardo_text.specs.Drafts.{Draft}
use Rattle.pardo_text.specs.Inner.Drafts.{draft_of}
use Rattle.text_lines.specs.Lines.{lines_of}
use Rattle.text_lines.specs.TextLines.{left_of, taken_of}
use Rattle.pardo_text.specs.Reading.{program_after, program_of, with_text_line}
use Rattle.pardo_text.proofs.Judged.{IsRefusal-from, program_after-fault, program_after-line}
use Rattle.pardo_text.proofs.reader.read_or_stop.Goals as goal
use Rattle.pardo_text.proofs.reader.read_or_stop.Goals.{In-Some}

pub loop-line-init : goal.loop-line-init
unfolding program_of
loop-line-init c =
    let text = lines_of c.args.text.now in
    ap (λ (draft : Draft). program_after draft 0 text) (sym c.new-draft.ensures)
    ∙ ap₂ (program_after (draft_of c.new-draft.result)) (sym c.new-lines.ensures.taken)
    (sym c.new-lines.ensures.left)

-- the program is that of the line that is taken, and of those that are left after it
left : (c : In-Some) → program_of c.args.text.now
    ≡ program_after (draft_of c.loop-line.draft) (taken_of c.loop-line.lines)
    (c.in-Some.line.now ∷ left_of c.take_line.new.self)
left c = c.loop-line.invariant
    ∙ ap (program_after (draft_of c.loop-line.draft) (taken_of c.loop-line.lines))
    c.in-Some.ensures.0

pub loop-line-preserved : goal.loop-line-preserved
loop-line-preserved c =
    let taken = c.in-Some.ensures.1 in
    let line = c.in-Some.line.now in
    let said = c.in_default-take_line.ensures in
    left (goal.at.loop-line-preserved c).In-Some
    ∙ program_after-line _ (draft_of c.take_line-in-Some.new.draft) _ line _
    (ap (λ (n : ℕ). with_text_line n (draft_of c.loop-line.draft) line)
    (sym (c.number.ensures ∙ taken)) ∙ said)
    ∙ ap (λ (n : ℕ). program_after (draft_of c.take_line-in-Some.new.draft) n
    (left_of c.take_line.new.self)) (sym taken)

pub returns-in-Err-clause-refused : goal.returns-in-Err-clause-refused
returns-in-Err-clause-refused c =
    let numbered = c.number.ensures ∙ c.in-Some.ensures.1 in
    IsRefusal-from c.args.text.now _ _ c.in-Err.kind c.refusal-fault.ensures.kind
    (λ other. c.refusal-fault.ensures.line other ∙ c.number-in-Err.ensures ∙ c.in-Some.ensures.1)
    c.refusal-fault.ensures.memory
    (λ other. left (goal.at.returns-in-Err-clause-refused c).In-Some
    ∙ program_after-fault _ _ _ _ _
    (ap (λ (n : ℕ). with_text_line n (draft_of c.loop-line.draft) c.in-Some.line.now)
    (sym numbered) ∙ c.in-Err.ensures other))
