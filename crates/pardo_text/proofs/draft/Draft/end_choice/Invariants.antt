use Rattle.std.proofs.Common.{◌≡◌, length}
use Rattle.pardo_text.specs.Code.{elsifs_ended}
use Rattle.pardo_program.specs.declared.statement.Statement.TheVariants.{EndIf}
use Rattle.pardo_text.specs.Drafts.{with_line}
use Rattle.pardo_text.specs.Inner.Drafts.{draft_of}
use Rattle.pardo_text.proofs.draft.Draft.end_choice.Given as goal

abbrev pub invariant-loop-self : goal.invariant-loop-self
invariant-loop-self l =
    elsifs_ended l.number (draft_of l.self).blocks (draft_of l.self)
    ≡ elsifs_ended l.number (draft_of l.fn.self).blocks
    (with_line l.number EndIf (draft_of l.fn.self))

abbrev pub decreases-loop-self : goal.decreases-loop-self
decreases-loop-self l = length (draft_of l.self).blocks
