-- What is told of a program under a model.
use Rattle.std.proofs.Common.{◌≡◌, ◌∙◌, true, List, ℕ, Option, Some, None, ap, refl}
use Rattle.pram_job.specs.Job.{JobData}
use Rattle.pram_step.specs.declared.answer.RunAnswer.{RunAnswer}
use Rattle.pram_cost.specs.Beyond.{beyond_line}
use Rattle.pram_cost.specs.declared.pram.Pram.{Pram}
use Rattle.pardo_answers.specs.Language.{is_program}
use Rattle.naming.specs.Costs.{cost_words, named_line_costs}
use Rattle.naming.specs.Names.{AreNames, NamingData}
use Rattle.pram_commands.specs.Under.{TellsBeyond}
use Rattle.command_law.specs.Programs.{IsProgramsBeyond, ModelsJudgeTheProgram}
use Rattle.command_law.proofs.Costs.{meeting_is, reached_within}
use Rattle.command_law.proofs.Jobs.{no_machines, programs_job}

beyond_by_names : (pram : Pram) (text : List ℕ) (job : JobData) (bytes : List ℕ)
    (answer : Option RunAnswer) → is_program text ≡ true → (names : Option NamingData) →
    AreNames text job names → (tells : TellsBeyond pram text job bytes answer) →
    tells.names ≡ names → IsProgramsBeyond pram text job bytes
beyond_by_names pram text job bytes answer one None names tells same =
    no_machines text job one names
beyond_by_names pram text job bytes answer one (Some naming) names tells same =
    let is = programs_job text job naming names in
    let cost = tells.cost in record {
      naming = naming;
      is = is;
      cost = cost;
      costs = tells.costs;
      beyond = tells.beyond;
      goes = tells.is;
      meets = meeting_is text job naming names is tells.beyond.sharing cost.steps
          tells.beyond.meeting
          (reached_within job cost.steps cost.conflict tells.costs.length_is) tells.is.first;
      prints = tells.prints ∙ ap (λ (n : Option NamingData).
          beyond_line (cost_words n (named_line_costs n job)) pram tells.beyond) same;
    }

pub models_judge : ModelsJudgeTheProgram
models_judge text job pram bytes answer one beyond =
    beyond_by_names pram text job bytes answer one beyond.names beyond.are_names beyond refl
