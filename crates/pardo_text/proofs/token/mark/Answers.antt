use Rattle.std.proofs.Common.{◌∙◌, sym}
use Rattle.pardo_text.specs.Inner.Marks.{long_marks, short_marks}
use Rattle.pardo_text.proofs.Marks.{mark_found, mark_missed}
use Rattle.pardo_text.proofs.token.mark.Goals as goal

pub returns-in-Some-clause-mark : goal.returns-in-Some-clause-mark
returns-in-Some-clause-mark c =
    sym (mark_found long_marks short_marks c.args.line.now _ (sym c.in-Some.ensures.mark))

pub returns-in_default-clause-mark : goal.returns-in_default-clause-mark
returns-in_default-clause-mark c = c.short_mark.ensures.mark
    ∙ sym (mark_missed long_marks short_marks c.args.line.now (sym c.in_default.ensures.mark))
