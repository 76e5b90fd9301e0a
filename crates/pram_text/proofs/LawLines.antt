-- Each instruction of a job stands on a line of its text.
use Rattle.std.proofs.Common.{◌≡◌, ℕ, length, ap, sym, ◌∙◌}
use Rattle.std.proofs.lemmas.List.{length-map}
use Rattle.pram_text.specs.Judgement.{is_later, unlabelled, instr_of}
use Rattle.pram_text.specs.Laws.{InstructionsHaveLines}
use Rattle.text_lines.specs.Lines.{Line, lines_of, worded}
use Rattle.pram_text.specs.Text.{body_of, label_index, numbered_body, scope_of}
use Rattle.pram_text.proofs.Stages.{body_of-body, none_named}
use Rattle.pram_text.proofs.Worded.{words-numbered_body}

pub have_lines : InstructionsHaveLines
have_lines text job spells =
    let s = spells.lines in
    let lines = lines_of text in
    let none = none_named _ job.cells s.inits s.entries s.said in
    let body : body_of (worded lines) ≡ s.body =
    ap body_of s.parts ∙ body_of-body _ _ _ _ _ s.header s.sizes s.inits s.body none in
    let entries : length (numbered_body lines) ≡ length s.body =
    sym (length-map (numbered_body lines) (λ (l : ℕ × Line). l.1))
    ∙ ap length (words-numbered_body lines ∙ body) in
    let code : length s.body ≡ length job.code =
    sym (length-map s.body (λ (line : Line). instr_of (scope_of (is_later s.version) s.entries)
    (label_index s.body) (unlabelled line)))
    ∙ ap length s.code.said ∙ length-map job.code _ in
    length-map (numbered_body lines) (λ (l : ℕ × Line). l.0) ∙ entries ∙ code
