-- What is said of words whose line waited for threads.
use Rattle.std.proofs.Common.{◌≡◌, ◌∙◌, ◌≤◌, ◌⊎◌, ℕ, Bool, true, false, List, [], ◌∷◌, Option, None}
use Rattle.std.proofs.Common.{Some, ap, arith, inl, inr, max, subst}
use Rattle.std.specs.Prelude.{MatchBool, MatchOption}
use Rattle.std.specs.Global.{Vec}
use Rattle.clap.specs.Words.{Text, subcommand_of}
use Rattle.command_data.specs.declared.line.Ask.{Ask}
use Rattle.command_data.specs.declared.line.Ask.TheVariants.{OnThreads}
use Rattle.command_data.specs.declared.line.AskOnThreads.{AskOnThreads}
use Rattle.command_data.specs.declared.line.Line.{Line}
use Rattle.command_line.specs.CommandLine.{HasSettings, IsAskedLine, pramx}
use Rattle.command_line.specs.declared.line.Asked.{Asked}
use Rattle.pardo_text.specs.Settings.{SettingData}
use Rattle.pardo_text.specs.declared.settings.SetKind.{SetKind}
use Rattle.pram_step.specs.declared.answer.RunAnswer.{RunAnswer}
use Rattle.pram_step.specs.declared.answer.RunAnswer.TheVariants as answer
use Rattle.naming.specs.Writing.{Writing}
use Rattle.pram_commands.specs.Did.{ends_with}
use Rattle.pram_commands.specs.Files.{ServesFiles, ServesText}
use Rattle.refusals.specs.declared.refusal.TheConstants.{MEMORY}
use Rattle.command_answers.specs.Answering.{AnswersWords, IsTextIfSet, RefusesSet, ServesAsked}
use Rattle.command_answers.specs.Answering.{ServesLineSet, ServesOrRefusesSet, ServesOwn}
use Rattle.command_answers.specs.Answering.{ServesWaiting, is_sweep}
use Rattle.exercise_judge.specs.Trials.{TrialData}
use Rattle.exercise_words.specs.Records.{AreRecords, passed_status}
use Rattle.command_answers.specs.Judging.{AnswersJudging}
use Rattle.command_answers.specs.Random.{AnswersByPlan, random_text}
use Rattle.command_answers.specs.Setting.{IsRefusedSet}
use Rattle.command_answers.specs.Sweeping.{AreSizes, IsRefusedSweep, ServesSweep}
use Rattle.command_answers.proofs.Sweeps.{served_so}

-- a line that is done on threads follows no random plan
no_random : (ask : Ask) (asks : AskOnThreads) (seed : Option ℕ) → ask ≡ OnThreads asks →
    random_text ask seed ≡ None
no_random ask asks seed threads = ap (λ (a : Ask). random_text a seed) threads

-- what is done without one
pub own_so : {A : Type 0} (B : List ℕ → Type 0) (plan : Option (List ℕ)) → plan ≡ None → A →
    MatchOption plan A B
own_so B None none own = own
own_so B (Some plan) none own = cc none

module _ (Holds : List ℕ → Option (List ℕ) → Type 0) (Fails : Type 0) (writes : Writing)
    (status : ℕ) where
  pub waited_most : (text : Option (Vec ℕ)) (line : Line) →
      ServesWaiting Holds Fails text line writes status → status ≤ MEMORY
  waited_most None line serves = serves.served.most
  waited_most (Some text) line serves = serves.served.most

  pub waited_answers : (words : List Text) (on_terminal : Bool) (asked : Asked)
      (given : List Text) (text : Option (Vec ℕ)) (line : Line) →
      IsAskedLine on_terminal (subcommand_of pramx words) asked →
      HasSettings (subcommand_of pramx words) given → line ≡ asked.line →
      IsTextIfSet Holds asked.line.file.now given text →
      (asks : AskOnThreads) → asked.line.ask ≡ OnThreads asks →
      ServesWaiting Holds Fails text line writes status →
      AnswersWords Holds Fails words on_terminal writes status
  waited_answers words on_terminal asked given None line met sets same none
      asks threads serves = inl (record {
        asked = asked;
        met = met;
        given = given;
        sets = sets;
        serves = own_so _ (random_text asked.line.ask asked.random)
            (no_random asked.line.ask asks asked.random threads) (inl (
              none,
              subst (λ (l : Line). ServesFiles Holds Fails l writes status) same serves,
            ));
      })
  waited_answers words on_terminal asked given (Some text) line met sets same set
      asks threads serves =
      inl (record {
        asked = asked;
        met = met;
        given = given;
        sets = sets;
        serves = own_so _ (random_text asked.line.ask asked.random)
            (no_random asked.line.ask asks asked.random threads)
            (inr (served_so _ _ (is_sweep asked.line.ask) (ap is_sweep threads) (inl (record {
              text = text.items;
              set = set;
              serves = subst (λ (l : Line). ServesText text.items Holds Fails l writes status) same
                  serves;
            }))));
      })

-- the status of a run, and of the runs of a sweep
answer_most : (given : Option RunAnswer) → ends_with given ≤ MEMORY
answer_most None = omega arith
answer_most (Some (answer.Final cells)) = omega arith
answer_most (Some (answer.Conflict fault)) = omega arith
answer_most (Some (answer.Unfinished step)) = omega arith

sizes_most : (settings : List SettingData) (text values bytes : List ℕ) (status : ℕ) →
    AreSizes settings text values bytes status → status ≤ MEMORY
sizes_most settings text [] bytes status sizes = let done = sizes.1 in omega (arith, done)
sizes_most settings text (value ∷ values) bytes status
    (size, ends, rest, later, is, others, same, most) =
    let one = answer_most is.is.answer in
    let now = is.ends ∙ is.is.ends in
    let after = sizes_most settings text values rest later others in
    omega (arith, one, now, after, most)

refused_most : (Reason : Type 0) (writes : Writing) (status : ℕ) →
    RefusesSet Reason writes status → status ≤ MEMORY
refused_most Reason writes status refuses = elim refuses.told [
  | inl two ↦ omega (arith, two)
  | inr (inl four) ↦ omega (arith, four)
  | inr (inr five) ↦ omega (arith, five)
]

-- a line with names that are set ends with one of the statuses
set_most_as : (Holds : List ℕ → Option (List ℕ) → Type 0) (Fails : Type 0) (line : Line)
    (given : List Text) (writes : Writing) (status : ℕ) (b : Bool) →
    MatchBool b (ServesSweep Holds line given writes status
    ⊎ RefusesSet (IsRefusedSweep Holds line.file.now given) writes status)
    (ServesLineSet Holds Fails line given writes status
    ⊎ RefusesSet ((kind : SetKind) × IsRefusedSet Holds line.file.now given kind) writes status) →
    status ≤ MEMORY
set_most_as Holds Fails line given writes status true (inl swept) = elim swept.wrote [
  | inl took ↦
      let most = sizes_most _ _ _ _ _ swept.sweep.sizes in
      let same = took.0 in omega (arith, most, same)
  | inr began ↦ began.1
]
set_most_as Holds Fails line given writes status true (inr refused) =
    refused_most _ writes status refused
set_most_as Holds Fails line given writes status false (inl served) = served.serves.served.most
set_most_as Holds Fails line given writes status false (inr refused) =
    refused_most _ writes status refused

pub set_most : (Holds : List ℕ → Option (List ℕ) → Type 0) (Fails : Type 0) (line : Line)
    (given : List Text) (writes : Writing) (status : ℕ) →
    ServesOrRefusesSet Holds Fails line given writes status → status ≤ MEMORY
set_most Holds Fails line given writes status serves =
    set_most_as Holds Fails line given writes status (is_sweep line.ask) serves

-- so does one that is asked for, by a random plan or without
own_most : (Holds : List ℕ → Option (List ℕ) → Type 0) (Fails : Type 0) (line : Line)
    (given : List Text) (writes : Writing) (status : ℕ) →
    ServesOwn Holds Fails line given writes status → status ≤ MEMORY
own_most Holds Fails line given writes status (inl files) = files.1.served.most
own_most Holds Fails line given writes status (inr set) =
    set_most Holds Fails line given writes status set

plan_most : (Holds : List ℕ → Option (List ℕ) → Type 0) (Fails : Type 0) (line : Line)
    (given : List Text) (plan : List ℕ) (writes : Writing) (status : ℕ) →
    AnswersByPlan Holds Fails line given plan writes status → status ≤ MEMORY
plan_most Holds Fails line given plan writes status (inl own) = own.1.served.most
plan_most Holds Fails line given plan writes status (inr (inl set)) = set.serves.served.most
plan_most Holds Fails line given plan writes status (inr (inr refused)) =
    refused_most _ writes status refused

pub asked_most : (Holds : List ℕ → Option (List ℕ) → Type 0) (Fails : Type 0) (asked : Asked)
    (given : List Text) (writes : Writing) (status : ℕ) →
    ServesAsked Holds Fails asked given writes status → status ≤ MEMORY
asked_most Holds Fails asked given writes status serves =
    by (random_text asked.line.ask asked.random) serves
  where
    by : (plan : Option (List ℕ)) →
        MatchOption plan (ServesOwn Holds Fails asked.line given writes status)
        (λ plan. AnswersByPlan Holds Fails asked.line given plan writes status) → status ≤ MEMORY
    by None own = own_most Holds Fails asked.line given writes status own
    by (Some plan) answers = plan_most Holds Fails asked.line given plan writes status answers

-- and what was judged
records_most : (Gives : List ℕ → List ℕ → Type 0) (trials : List TrialData) (files : List Text)
    (bytes : List ℕ) (status : ℕ) → AreRecords Gives trials files bytes status → status ≤ 1
records_most Gives trials [] bytes status records = let done = records.1 in omega (arith, done)
records_most Gives trials (file ∷ files) bytes status
    (said, rest, later, is, others, same, most) =
    by said.passed (records_most Gives trials files rest later others) most
  where
    by : (passed : Bool) → later ≤ 1 → status ≡ max (passed_status passed) later → status ≤ 1
    by true after most = omega (arith, most, after)
    by false after most = omega (arith, most, after)

pub judging_most : (Holds : List ℕ → Option (List ℕ) → Type 0) (file : Text) (files : List Text)
    (writes : Writing) (status : ℕ) → AnswersJudging Holds file files writes status →
    status ≤ MEMORY
judging_most Holds file files writes status (inl judged) = elim judged.wrote [
  | inl took ↦
      let most = records_most _ _ _ _ _ judged.judged.judged in
      let same = took.0 in omega (arith, most, same)
  | inr began ↦ began.1
]
judging_most Holds file files writes status (inr refused) = refused_most _ writes status refused
