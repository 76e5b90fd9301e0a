use Rattle.std.proofs.Common.{◌≡◌, ◌==◌, ◌∙◌, sym, ap, length, vec_len, arith, Ok, List}
use Rattle.pardo_text.specs.Inner.Drafts.{draft_of}
use Rattle.pardo_program.specs.Program.{ArrayData, ProgramData}
use Rattle.pardo_text.specs.Reading.{program_in, said_so_far}
use Rattle.pardo_program.specs.Tests.{program_untested}
use Rattle.pardo_text.proofs.Finished.{finished-early, finished-open, finished-empty}
use Rattle.pardo_text.proofs.Finished.{finished-whole}
use Rattle.pardo_text.proofs.draft.Draft.finish.Goals as goal

pub returns-in_default : goal.returns-in_default
unfolding program_in
returns-in_default c =
    λ ne. finished-early c.args.self.stage _ _ (draft_of c.args.self) c.in_default.not-Code

pub returns-then-not-is_empty : goal.returns-then-not-is_empty
unfolding program_in
returns-then-not-is_empty c =
    λ ne. finished-open c.args.self.stage _ _ (draft_of c.args.self) c.in-Code.is
    (sym c.is_empty.ensures ∙ c.if-not-is_empty.true)

pub returns-then-is_empty : goal.returns-then-is_empty
unfolding program_in
returns-then-is_empty c =
    let same : length c.args.self.lines.items ≡ vec_len c.args.self.lines =
    omega (arith, c.args.self.lines.ok.0) in
    λ ne. finished-empty c.args.self.stage _ _ (draft_of c.args.self) c.in-Code.is
    (sym c.is_empty.ensures ∙ c.if-not-is_empty.false)
    (ap (λ n. n == 0) same ∙ sym c.is_empty-2.ensures ∙ c.if-is_empty.true)

pub returns : goal.returns
unfolding program_in
returns c =
    let same : length c.args.self.lines.items ≡ vec_len c.args.self.lines =
    omega (arith, c.args.self.lines.ok.0) in
    let said = said_so_far (draft_of c.args.self) in
    finished-whole c.args.self.stage _ _ (draft_of c.args.self) c.in-Code.is
    (sym c.is_empty.ensures ∙ c.if-not-is_empty.false)
    (ap (λ n. n == 0) same ∙ sym c.is_empty-2.ensures ∙ c.if-is_empty.false)
    ∙ ap Ok (sym (c.in_ok-leave_tests_out.ensures
    ∙ ap (λ (program : ProgramData). program_untested program) c.new-program.ensures
    ∙ ap (λ (arrays : List ArrayData). program_untested (record said { arrays = arrays }))
    c.into_items.ensures))
