use Rattle.std.proofs.Common.{◌≡◌, ◌∙◌, ◌+◌, ◌<◌, ℕ, List, ◌∷◌, add-one, ap, arith, drop, drop-cons}
use Rattle.std.proofs.Common.{get_or, length, rules, subst, sym}
use Rattle.exercise_text.specs.Entries.{EntryData}
use Rattle.exercise_judge.specs.Trials.{AddTrials, AddsTrial}
use Rattle.exercise_judge.proofs.trials.trials_of.Goals as goal

pub loop-entry-preserved : goal.loop-entry-preserved
loop-entry-preserved c = λ all rest.
    let exercise = c.args.exercise.now in
    let items = c.entries-entry-items.result.now in
    let k = c.loop-entry.entry-index in
    let entry = c.entry-item.result in
    let within : k < length items = omega (arith, c.loop-entry-test.true) in
    let cut : drop k items ≡ get_or items k entry ∷ drop (k + 1) items =
    drop-cons items k entry within
    ∙ ap (λ (n : ℕ). get_or items k entry ∷ drop n items) (sym (add-one k)) in
    let adds : AddsTrial exercise (get_or items k entry) c.loop-entry.trials.items
    c.push_trial.new.trials.items = search rules in
    c.loop-entry.invariant all (subst (λ (l : List EntryData).
    AddTrials exercise l c.loop-entry.trials.items all) (sym cut)
    (c.push_trial.new.trials.items, adds, rest))
