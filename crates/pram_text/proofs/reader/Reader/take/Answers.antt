use Rattle.std.proofs.Common.{◌∙◌, sym}
use Rattle.pram_text.proofs.Taking.{line_fault-unlawful, TakesLine-words, TakesLine-blank}
use Rattle.pram_text.proofs.reader.Reader.take.Goals as goal

pub returns-then-not-is_lawful : goal.returns-then-not-is_lawful
returns-then-not-is_lawful c = λ before h _.
    line_fault-unlawful before _ (sym c.is_lawful.ensures ∙ c.if-not-is_lawful.true)

pub returns-then-has_words : goal.returns-then-has_words
returns-then-has_words c = λ before h.
    TakesLine-words before _ c.args.self.now _ _ c.take_words.new.self
    (sym c.is_lawful.ensures ∙ c.if-not-is_lawful.false)
    (sym c.has_words.ensures ∙ c.if-has_words.true) (c.take_words.ensures before h)

pub returns-else-has_words : goal.returns-else-has_words
returns-else-has_words c = λ before h.
    TakesLine-blank before c.args.line.now c.args.self.now _
    (sym c.is_lawful.ensures ∙ c.if-not-is_lawful.false)
    (sym c.has_words.ensures ∙ c.if-has_words.false) h
