-- An answer that was told with what follows it.
use Rattle.std.proofs.Common.{◌≡◌, ℕ, List, ◌++◌, Option, Some, Result, Ok, Err}
use Rattle.std.proofs.Common.{refl, sym, ap₂, subst, inl, inr}
use Rattle.pram_job.specs.Job.{JobData}
use Rattle.pram_step.specs.declared.answer.RunAnswer.{RunAnswer}
use Rattle.pram_streams.specs.declared.print.PrintFault.{PrintFault}
use Rattle.pram_streams.specs.declared.print.PrintFault.TheVariants.{Device, Memory}
use Rattle.command_data.specs.declared.line.Style.{Style}
use Rattle.naming.specs.Writing.{Writing}
use Rattle.pram_commands.specs.Did.{tells}
use Rattle.pram_commands.specs.Inner.Puts.{HasAnswered, PutBeginning, PutsAnswer, outcome}
use Rattle.naming.specs.Names.{AreNames, NamingData, styled}
use Rattle.pram_commands.specs.Why.{Explaining, Follows}
use Rattle.pram_commands.proofs.Doing.{ok_not_err, other_fault}

-- what is told of an answer
abbrev pub Told : Style → List ℕ → JobData → RunAnswer → List ℕ → Option RunAnswer → Type 0
Told style job_text job answer = Explaining style (λ ended. ended ≡ answer) job_text job

pub tells_all : (style : Style) (job_text : List ℕ) (job : JobData) (names : Option NamingData)
    (answer : RunAnswer) (steps : ℕ) (back bytes : List ℕ) → AreNames job_text job names →
    steps ≡ job.steps → bytes ≡ back →
    Follows style.why job_text names job answer back →
    Told style job_text job answer (styled style.csv names answer steps ++ bytes) (Some answer)
tells_all style job_text job names answer steps back bytes are_names same is follows = record {
  ended = answer;
  back = back;
  names = names;
  ends = refl;
  are_names = are_names;
  follows = follows;
  prints = ap₂ (λ (n : ℕ) (b : List ℕ). styled style.csv names answer n ++ b) same is;
  gives = refl;
}

module _ (style : Style) (Ends : RunAnswer → Type 0) (job_text : List ℕ) (job : JobData) (w : Writing)
    (answer : RunAnswer) (ends : Ends answer) where
  abbrev Comes : List ℕ → Option RunAnswer → Type 0
  Comes = Explaining style Ends job_text job

  -- it is what a command comes to that ends so
  comes_so : (text : List ℕ) (given : Option RunAnswer) → Told style job_text job answer text given →
      Comes text given
  comes_so text given so = record {
    ended = so.ended;
    back = so.back;
    names = so.names;
    ends = subst Ends (sym so.ends) ends;
    are_names = so.are_names;
    follows = so.follows;
    prints = so.prints;
    gives = so.gives;
  }

  begins_so : PutBeginning (Told style job_text job answer) w → PutBeginning Comes w
  begins_so some = record {
    text = some.text;
    answer = some.answer;
    comes = comes_so _ _ some.comes;
    takes = some.takes;
  }

  pub told_as : (put : Result (Unit {0}) PrintFault) → HasAnswered style job_text job w answer put →
      (result : Result RunAnswer PrintFault) → result ≡ outcome put (Ok answer) →
      PutsAnswer Comes ⊥ w tells result
  told_as (Ok done) puts result is =
      let all = puts.done in
      subst (λ (x : Result RunAnswer PrintFault). PutsAnswer Comes ⊥ w tells x) (sym is) (record {
        done = record {
          text = all.text;
          answer = all.answer;
          comes = comes_so _ _ all.comes;
          takes = all.takes;
          is = all.is;
        };
        wrote = tt;
        failed = (
          (λ f. absurd (ok_not_err done Device (puts.failed.0 f))),
          (λ e. absurd (ok_not_err answer Device e)),
        );
      })
  told_as (Err Device) puts result is =
      subst (λ (x : Result RunAnswer PrintFault). PutsAnswer Comes ⊥ w tells x) (sym is) (record {
        done = tt;
        wrote = begins_so puts.wrote;
        failed = ((λ _. refl), (λ _. puts.failed.1 refl));
      })
  told_as (Err Memory) puts result is =
      subst (λ (x : Result RunAnswer PrintFault). PutsAnswer Comes ⊥ w tells x) (sym is) (record {
        done = tt;
        wrote = elim puts.wrote [ inl unwritten ↦ inl unwritten | inr some ↦ absurd some.0 ];
        failed = (
          (λ f. absurd (other_fault (puts.failed.0 f))),
          (λ e. absurd (other_fault e)),
        );
      })
