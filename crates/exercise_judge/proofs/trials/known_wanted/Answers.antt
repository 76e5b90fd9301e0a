use Rattle.std.proofs.Common.{◌≡◌, List, None, rules, subst, sym}
use Rattle.text_lines.specs.Lines.{words_of}
use Rattle.exercise_text.specs.Entries.{answer_of}
use Rattle.exercise_text.specs.Values.{WantedData}
use Rattle.exercise_judge.specs.Trials.{HaveValues, AreWanted, IsReferenced}
use Rattle.exercise_judge.specs.Verdicts.{IsOfExercise}
use Rattle.exercise_judge.proofs.Ends.{wanted_same}
use Rattle.exercise_judge.proofs.Judged.{if_err}
use Rattle.exercise_judge.proofs.Referring.{by_reference}
use Rattle.exercise_judge.proofs.trials.known_wanted.Goals as goal

pub returns-in_err-check_known-clause-none : goal.returns-in_err-check_known-clause-none
returns-in_err-check_known-clause-none c =
    let exercise = c.args.exercise.now in
    let input = c.args.input.now in
    let header = c.args.header.now in
    let wanted = c.in_ok-wanted.wanted.items in
    let none : IsOfExercise c.in_err-check_known.field-0.0 → (other : List WantedData) →
    AreWanted exercise input header other × HaveValues other × IsReferenced exercise header other →
    ⊥ = λ certain other are.
    let known : HaveValues wanted = subst HaveValues
    (wanted_same exercise input header other wanted are.0 c.in_ok-wanted.ensures.wanted) are.1 in
    c.in_err-check_known.ensures.unknown certain
    (subst HaveValues (sym c.as_slice.ensures.value) known) in
    if_err c.from_residual-in_err-check_known.result c.in_err-check_known.field-0.0 _
    (search rules) none

pub returns-then-is_none-clause-wanted : goal.returns-then-is_none-clause-wanted
returns-then-is_none-clause-wanted c =
    let exercise = c.args.exercise.now in
    let input = c.args.input.now in
    let header = c.args.header.now in
    let wanted = c.in_ok-wanted.wanted.items in
    let none : answer_of (words_of input.text) ≡ None = search rules in
    let known : HaveValues wanted = subst HaveValues c.as_slice.ensures.value
    c.in_ok-check_known.ensures.known in (
      c.in_ok-wanted.ensures.wanted,
      known,
      by_reference exercise header wanted input none c.in_ok-wanted.ensures.wanted,
    )

pub returns-in_err-check_reference-clause-none : goal.returns-in_err-check_reference-clause-none
returns-in_err-check_reference-clause-none c =
    let exercise = c.args.exercise.now in
    let input = c.args.input.now in
    let header = c.args.header.now in
    let wanted = c.in_ok-wanted.wanted.items in
    let none : IsOfExercise c.in_err-check_reference.field-0.0 → (other : List WantedData) →
    AreWanted exercise input header other × HaveValues other × IsReferenced exercise header other →
    ⊥ = λ certain other are.
    let is : IsReferenced exercise header wanted = subst (IsReferenced exercise header)
    (wanted_same exercise input header other wanted are.0 c.in_ok-wanted.ensures.wanted) are.2 in
    c.in_err-check_reference.ensures.none certain
    (subst (IsReferenced exercise header) (sym c.as_slice-2.ensures.value) is) in
    if_err c.from_residual-in_err-check_reference.result
    c.in_err-check_reference.field-0.0 _ (search rules) none

pub returns-clause-wanted : goal.returns-clause-wanted
returns-clause-wanted c =
    let exercise = c.args.exercise.now in
    let header = c.args.header.now in
    let wanted = c.in_ok-wanted.wanted.items in
    let known : HaveValues wanted = subst HaveValues c.as_slice.ensures.value
    c.in_ok-check_known.ensures.known in
    let is : IsReferenced exercise header wanted = subst (IsReferenced exercise header)
    c.as_slice-2.ensures.value c.in_ok-check_reference.ensures.ends in
    (c.in_ok-wanted.ensures.wanted, known, is)
