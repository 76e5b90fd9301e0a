use Rattle.std.proofs.Common.{◌≡◌, ◌∙◌, ◌++◌, Some, ap, rules, subst, sym}
use Rattle.text_lines.specs.Lines.{Line, words_of}
use Rattle.exercise_text.specs.Entries.{entry_text}
use Rattle.exercise_text.specs.declared.key.Key.TheVariants.{Reference}
use Rattle.exercise_judge.specs.Trials.{AreEnds, wanted_names}
use Rattle.exercise_judge.proofs.Ends.{ends_same}
use Rattle.exercise_judge.proofs.Referring.{of_reference}
use Rattle.exercise_judge.proofs.trials.check_reference.Goals as goal

pub returns-clause-none : goal.returns-clause-none
returns-clause-none c = λ certain is.
    let exercise = c.args.exercise.now in
    let header = c.args.header.now in
    let wanted = c.args.wanted.now in
    let reference = c.in-Some.reference.now in
    let ends = c.in_ok-ends.ends.items in
    let there : entry_text Reference exercise ≡ Some reference = search rules in
    let names : wanted_names exercise ≡ words_of c.part_in.result.now =
    ap words_of (sym c.part_in.ensures) in
    let same : wanted ≡ ends =
    ends_same (header ++ reference) (words_of c.part_in.result.now) wanted ends
    (subst (λ (l : Line). AreEnds (header ++ reference) l wanted) names
    (of_reference exercise header wanted reference there is)) c.in_ok-ends.ensures.ends in
    c.are_same.ensures.other c.if-are_same.false (same ∙ sym c.as_slice.ensures.value)
