use Rattle.exercise_judge.proofs.trials.wanted_by_words.Goals as goal

pub returns-in-Err-clause-none : goal.returns-in-Err-clause-none
returns-in-Err-clause-none c = λ certain wanted said.
    c.in-Err.ensures.none (c.answer_fault.ensures certain) wanted said
