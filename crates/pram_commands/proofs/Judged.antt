-- What was printed under a model, and its status.
use Rattle.std.proofs.Common.{◌≡◌, ◌∙◌, ℕ, List, Option, Some, Result, Ok, Err, IsTrue}
use Rattle.std.proofs.Common.{ap, inl, inr, refl, subst, sym}
use Rattle.std.specs.Io.KnownBytes.{Appends}
use Rattle.std.specs.Prelude.{◌↔◌, IsErrOf, OnOk}
use Rattle.pram_step.specs.declared.answer.RunAnswer.{RunAnswer}
use Rattle.pram_step.specs.declared.answer.RunAnswer.TheVariants.{Conflict}
use Rattle.pram_streams.specs.Transfer.{AppendsBeginning}
use Rattle.pram_streams.specs.declared.print.PrintFault.{PrintFault}
use Rattle.pram_streams.specs.declared.print.PrintFault.TheVariants.{Device, Memory}
use Rattle.pram_cost.specs.Beyond.{IsBeyond, beyond_line}
use Rattle.pram_cost.specs.declared.beyond.Beyond.{Beyond}
use Rattle.pram_cost.specs.declared.pram.Pram.{Pram}
use Rattle.naming.specs.Costs.{cost_words}
use Rattle.naming.specs.Writing.{Writing}
use Rattle.pram_commands.specs.Did.{ends_with, tells_status}
use Rattle.naming.specs.Costed.{IsCosted}
use Rattle.pram_commands.specs.Inner.Puts.{PutsAnswer, with_status}
use Rattle.pram_commands.specs.Under.{TellsBeyond, clash_at}
use Rattle.pardo_answers.specs.declared.line_costs.Costs.{Costs}
use Rattle.pardo_answers.specs.declared.line_costs.LineCost.{LineCost}
use Rattle.naming.specs.declared.texts.Spelled.{Spelled}
use Rattle.pram_commands.proofs.Doing.{err_as, ok_not_err, put_failed}

-- what the answer is, whatever else a call tells
abbrev pub Gives : {A : Type 0} → Option RunAnswer → A → Option RunAnswer → Type 0
Gives answer told given = given ≡ answer

-- where a call prints one text, and gives this answer
pub answer_put : (Comes : List ℕ → Option RunAnswer → Type 0) (w : Writing) (text : List ℕ)
    (answer : Option RunAnswer) (result : Result (Unit {0}) PrintFault) → Comes text answer →
    OnOk result (Appends w.out w.out' text) → AppendsBeginning w.out w.out' text →
    (IsErrOf result Memory → w.Unwritten) → (IsTrue w.failed ↔ IsErrOf result Device) →
    PutsAnswer Comes ⊥ w (Gives answer) result
answer_put Comes w text answer (Ok done) comes takes begins memory failed = record {
  done = record { text = text; answer = answer; comes = comes; takes = takes; is = refl };
  wrote = tt;
  failed = failed;
}
answer_put Comes w text answer (Err fault) comes takes begins memory failed =
    put_failed Comes ⊥ w (Gives answer) (Err fault) fault refl
    (record { text = text; answer = answer; comes = comes; takes = begins })
    (λ e. inl (memory (ap (λ (x : PrintFault). Err x) e))) failed

module _ {A : Type 0} (Comes : List ℕ → Option RunAnswer → Type 0) (w : Writing)
    (Tells : A → Option RunAnswer → Type 0) where
  -- what was printed is also what another relation tells
  pub puts_as : (Other : List ℕ → Option RunAnswer → Type 0) →
      ((text : List ℕ) (given : Option RunAnswer) → Comes text given → Other text given) →
      (put : Result A PrintFault) → PutsAnswer Comes ⊥ w Tells put → PutsAnswer Other ⊥ w Tells put
  puts_as Other so (Ok told) puts =
      let all = puts.done in
      record {
        done = record {
          text = all.text;
          answer = all.answer;
          comes = so all.text all.answer all.comes;
          takes = all.takes;
          is = all.is;
        };
        wrote = tt;
        failed = puts.failed;
      }
  puts_as Other so (Err Device) puts =
      let some = puts.wrote in
      record {
        done = tt;
        wrote = record {
          text = some.text;
          answer = some.answer;
          comes = so some.text some.answer some.comes;
          takes = some.takes;
        };
        failed = puts.failed;
      }
  puts_as Other so (Err Memory) puts = record {
    done = tt;
    wrote = elim puts.wrote [ inl unwritten ↦ inl unwritten | inr some ↦ absurd some.0 ];
    failed = puts.failed;
  }

  -- the status of what was printed
  pub puts_status : (status : A → ℕ) →
      ((told : A) (given : Option RunAnswer) → Tells told given → status told ≡ ends_with given) →
      (put : Result A PrintFault) → PutsAnswer Comes ⊥ w Tells put →
      (result : Result ℕ PrintFault) → result ≡ with_status status put →
      PutsAnswer Comes ⊥ w tells_status result
  puts_status status ends (Ok told) puts result is =
      let all = puts.done in
      subst (λ (x : Result ℕ PrintFault). PutsAnswer Comes ⊥ w tells_status x) (sym is) (record {
        done = record {
          text = all.text;
          answer = all.answer;
          comes = all.comes;
          takes = all.takes;
          is = ends told all.answer all.is;
        };
        wrote = tt;
        failed = (
          (λ f. absurd (ok_not_err told Device (puts.failed.0 f))),
          (λ e. absurd (ok_not_err _ Device e)),
        );
      })
  puts_status status ends (Err fault) puts result is =
      subst (λ (x : Result ℕ PrintFault). PutsAnswer Comes ⊥ w tells_status x) (sym is) (record {
        done = tt;
        wrote = puts.wrote;
        failed = (
          (λ f. err_as fault Device (puts.failed.0 f)),
          (λ e. puts.failed.1 (err_as fault Device e)),
        );
      })

-- where the run goes beyond the model, by what was read
pub told_beyond : (spelled : Spelled) (costs : Costs) (pram : Pram) (beyond : Beyond)
    (lines : List LineCost) → IsCosted spelled costs →
    IsBeyond pram spelled.job costs.cost.steps beyond → lines ≡ costs.lines.items →
    TellsBeyond pram spelled.text.items spelled.job
    (beyond_line (cost_words spelled.names lines) pram beyond)
    (Some (Conflict (clash_at beyond.meeting)))
told_beyond spelled costs pram beyond lines costed is same = record {
  cost = costs.cost;
  beyond = beyond;
  names = spelled.names;
  costs = costed.are_costs.cost;
  is = is;
  are_names = costed.names;
  prints =
      let both = same ∙ costed.are_costs.lines in
      ap (λ (told : List LineCost). beyond_line (cost_words spelled.names told) pram beyond) both;
  gives = refl;
}
