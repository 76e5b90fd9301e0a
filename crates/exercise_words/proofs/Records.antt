-- What the records of submissions mean.
use Rattle.std.proofs.Common.{◌≡◌, ◌∙◌, ℕ, Bool, true, false, List, [], ◌∷◌, All}
use Rattle.std.proofs.Common.{ap, arith, decimal, get_or, inl, inr, max, refl, subst, take}
use Rattle.std.proofs.lemmas.List.Elements.{All-cons, All-nil}
use Rattle.exercise_judge.specs.Trials.{TrialData}
use Rattle.exercise_judge.specs.Verdicts.{IsVerdictOn}
use Rattle.exercise_judge.specs.declared.verdict.Verdict.{Verdict}
use Rattle.exercise_judge.specs.declared.verdict.Verdict.TheVariants.{Passed, Failed}
use Rattle.exercise_words.specs.Records.{AreRecords, IsSaidOf, IsWhat, SaysVerdict, passed_status}
use Rattle.exercise_words.specs.declared.said.Said.{Said}
use Rattle.exercise_words.specs.Laws.{DoneWhereAllSolve, Fails, SolvesAll}
use Rattle.exercise_words.specs.Laws.{WhatDidNotPassFails, WhatPassedSolves}
use Rattle.exercise_words.proofs.Solving.{what_is_met_is_solved, what_is_solved_is_met}

module _ (trials : List TrialData) (submission : List ℕ) (said : Said) where
  passed_by : (verdict : Verdict) → IsVerdictOn trials submission verdict →
      SaysVerdict verdict said → said.passed ≡ true → SolvesAll trials submission
  passed_by Passed met says passed = λ k trial lt.
      what_is_met_is_solved (get_or trials k trial) submission (met k trial lt)
  passed_by (Failed input hidden wrong) fails says passed =
      let not : said.passed ≡ false = says.0 in absurd (cc)

  failed_by : (verdict : Verdict) → IsVerdictOn trials submission verdict →
      SaysVerdict verdict said → said.passed ≡ false →
      Fails trials submission said.input.items said.what.items
  failed_by Passed met says failed = let yes : said.passed ≡ true = says.0 in absurd (cc)
  failed_by (Failed input hidden wrong) fails says failed = record {
    before = fails.before;
    counts = says.1 ∙ ap decimal fails.number;
    trial = fails.trial;
    is_there = fails.is_there;
    solves = λ k trial lt. what_is_met_is_solved (get_or (take fails.before trials) k trial)
        submission (fails.met k trial lt);
    wrong = wrong;
    says = subst (λ (b : Bool). IsWhat b wrong said.what.items) fails.is_hidden says.2;
    is_wrong = fails.is_wrong;
    unsolved = λ certain solves. fails.unmet certain
        (what_is_solved_is_met fails.trial submission solves);
  }

pub what_passed_solves : WhatPassedSolves
what_passed_solves trials submission said is passed =
    passed_by trials submission said is.verdict is.judged is.says passed

pub what_did_not_pass_fails : WhatDidNotPassFails
what_did_not_pass_fails trials submission said is failed =
    failed_by trials submission said is.verdict is.judged is.says failed

-- ---- all records

passed_if : (passed : Bool) (status later : ℕ) → status ≡ max (passed_status passed) later →
    status ≡ 0 → passed ≡ true
passed_if true status later most done = refl
passed_if false status later most done = absurd (omega (arith, most, done))

later_done : (passed : Bool) (status later : ℕ) → status ≡ max (passed_status passed) later →
    status ≡ 0 → later ≡ 0
later_done true status later most done = omega (arith, most, done)
later_done false status later most done = omega (arith, most, done)

module _ (Gives : List ℕ → List ℕ → Type 0) (trials : List TrialData) where
  abbrev GivesSolution : List ℕ → Type 0
  GivesSolution file = (submission : List ℕ) × Gives file submission
      × SolvesAll trials submission

  one_solves : (file : List ℕ) (said : Said) → IsSaidOf Gives trials file said →
      said.passed ≡ true → GivesSolution file
  one_solves file said (inl (submission, gives, is)) passed =
      (submission, gives, what_passed_solves trials submission said is passed)
  one_solves file said (inr unjudged) passed =
      let not : said.passed ≡ false = unjudged.0 in absurd (cc)

  pub all_solve : (files : List (List ℕ)) (bytes : List ℕ) (status : ℕ) →
      AreRecords Gives trials files bytes status → status ≡ 0 → All GivesSolution files
  all_solve [] bytes status records done = All-nil GivesSolution
  all_solve (file ∷ files) bytes status (said, rest, later, is, others, same, most) done =
      All-cons GivesSolution file files
      (one_solves file said is (passed_if said.passed status later most done))
      (all_solve files rest later others (later_done said.passed status later most done))

pub done_where_all_solve : (Gives : List ℕ → List ℕ → Type 0) → DoneWhereAllSolve Gives
done_where_all_solve Gives file files bytes judged = record {
  text = judged.text;
  gives = judged.gives;
  trials = judged.trials;
  has = judged.has;
  solve = all_solve Gives judged.trials files judged.records _ judged.judged refl;
}
