use Rattle.std.proofs.Common.{◌≡◌, ◌∙◌, ◌+◌, ◌∷◌, [], ℕ, List, Bor, drop, sym, ap, subst, arith}
use Rattle.text_lines.specs.Lines.{lines_of}
use Rattle.text_lines.specs.TextLines.{left_of, taken_of}
use Rattle.naming.specs.LineRecords.{numbered_line}
use Rattle.naming.proofs.LineFinding.{line_past, line_taken}
use Rattle.naming.proofs.line_records.line_from.Goals as goal

pub loop-line-preserved : goal.loop-line-preserved
loop-line-preserved c =
    let text = c.before-start.result.text.now in
    let new = c.take_line.new.self in
    let was = c.loop-line.invariant.is in
    let next : (left_of c.loop-line.lines ≡ c.in-Some.next.now ∷ left_of new)
    × (taken_of new ≡ taken_of c.loop-line.lines + 1) = c.in-Some.ensures in
    let both = line_taken text (taken_of c.loop-line.lines) c.in-Some.next.now (left_of new)
    (sym next.0 ∙ was.left) in
    let more = next.1 in
    let test = c.loop-line-test.true in
    let at = c.number.ensures in
    record {
      few = omega arith;
      is = record {
        left = both.1 ∙ ap (λ (n : ℕ). drop n (lines_of text)) (sym more);
        here = both.0 ∙ ap (λ (n : ℕ). numbered_line text n) (sym more);
      };
    }

pub returns-in_default-clause-line : goal.returns-in_default-clause-line
returns-in_default-clause-line c =
    let text = c.before-start.result.text.now in
    let was = c.loop-line.invariant.is in
    let none : (left_of c.loop-line.lines ≡ []) × (left_of c.take_line.new.self ≡ [])
    × (taken_of c.take_line.new.self ≡ taken_of c.loop-line.lines) = c.in_default.ensures in
    let test = c.loop-line-test.true in
    let at = c.number.ensures in
    subst (λ (bytes : Bor (List ℕ)). [] ≡ numbered_line bytes.now c.args.number)
    c.before-start.ensures.text
    (line_past text (taken_of c.loop-line.lines) c.args.number (sym none.0 ∙ was.left)
    (omega arith))

pub returns-clause-line : goal.returns-clause-line
returns-clause-line c =
    let text = c.before-start.result.text.now in
    let was = c.loop-line.invariant in
    let few = was.few in
    let test = c.loop-line-test.false in
    let at = c.number.ensures in
    let all : taken_of c.loop-line.lines ≡ c.args.number = omega arith in
    was.is.here
    ∙ ap (λ (n : ℕ). numbered_line text n) all
    ∙ ap (λ (bytes : Bor (List ℕ)). numbered_line bytes.now c.args.number)
    c.before-start.ensures.text
