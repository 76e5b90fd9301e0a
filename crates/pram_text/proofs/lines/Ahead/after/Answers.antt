use Rattle.std.proofs.Common.{◌≡◌, ℕ, ◌-◌, sym, subst, ◌∙◌, arith}
use Rattle.text_lines.specs.Lines.{words_of}
use Rattle.pram_text.specs.declared.lines.Ahead.{Ahead}
use Rattle.pram_text.specs.declared.lines.Ahead.TheVariants.{Header}
use Rattle.pram_text.specs.Inner.Ahead.{SkipsLine}
use Rattle.pram_text.proofs.Skipping.{skips_header, skips_other}
use Rattle.pram_text.proofs.lines.Ahead.after.Goals as goal

pub returns-then-lines-gt0 : goal.returns-then-lines-gt0
returns-then-lines-gt0 c =
    let lines = c.in-Header.lines in
    let words = words_of c.args.line.now in
    subst (λ (a : Ahead). SkipsLine c.args.index a words (Header (lines - 1))) (sym c.in-Header.is)
    (skips_header c.args.index lines words (λ e. absurd (omega arith)))

pub returns-else-is_code_line : goal.returns-else-is_code_line
returns-else-is_code_line c =
    let lines = c.in-Header.lines in
    let words = words_of c.args.line.now in
    let none : lines ≡ 0 = omega arith in
    let skips = skips_other c.args.index words (sym c.is_code_line.ensures ∙ c.if-is_code_line.false)
    in
    subst (λ (a : Ahead). SkipsLine c.args.index a words (Header lines)) (sym c.in-Header.is)
    (subst (λ (n : ℕ). SkipsLine c.args.index (Header n) words (Header n)) (sym none) skips)
