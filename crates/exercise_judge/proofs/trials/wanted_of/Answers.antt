use Rattle.std.proofs.Common.{◌≡◌, ◌++◌, Option, Some, ap, rules, subst, sym}
use Rattle.std.specs.Prelude.{MatchOption}
use Rattle.std.proofs.lemmas.Result.{IfErr-weaker}
use Rattle.text_lines.specs.Lines.{Line, words_of}
use Rattle.exercise_text.specs.Entries.{answer_of}
use Rattle.exercise_text.specs.declared.key.Key.TheVariants.{Reference}
use Rattle.exercise_judge.specs.Trials.{AreEnds, AreSaid, wanted_names, part_in}
use Rattle.exercise_judge.proofs.trials.wanted_of.Goals as goal

pub returns-in-Some-clause-none : goal.returns-in-Some-clause-none
returns-in-Some-clause-none c =
    let exercise = c.args.exercise.now in
    let header = c.args.header.now in
    let words = words_of c.in-Some.words.now in
    let there : answer_of (words_of c.args.input.now.text) ≡ Some words = search rules in
    let names : wanted_names exercise ≡ words_of c.part_in-names.result.now =
    ap words_of (sym c.part_in-names.ensures) in
    IfErr-weaker c.wanted_by_words.result _ _ (λ kind none certain wanted is.
    none certain wanted (subst (λ (l : Line). AreSaid header words l wanted) names
    (subst (λ (said : Option Line). MatchOption said
    (AreEnds (header ++ part_in Reference exercise) (wanted_names exercise) wanted)
    (λ l. AreSaid header l (wanted_names exercise) wanted)) there is)))
    c.wanted_by_words.ensures.none
