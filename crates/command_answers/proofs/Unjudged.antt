-- What is answered where no submission was judged.
use Rattle.std.proofs.Common.{◌≡◌, ◌⊎◌, ℕ, List, Option, arith, inl, inr, refl, subst, sym}
use Rattle.clap.specs.Words.{Text}
use Rattle.exercise_words.specs.declared.trials.NoTrials.{NoTrials}
use Rattle.exercise_words.specs.declared.trials.NoTrials.TheVariants as why
use Rattle.naming.specs.Writing.{Writing}
use Rattle.refusals.specs.Refusals.{refusal_status}
use Rattle.refusals.specs.declared.refusal.Refusal.{Refusal}
use Rattle.refusals.specs.declared.refusal.Refusal.TheVariants as refusal
use Rattle.refusals.specs.declared.refusal.TheConstants.{FAILED, MEMORY}
use Rattle.command_answers.specs.Judging.{AnswersJudging, ByExercise, IsNoExercise}
use Rattle.command_answers.specs.Judging.{reason_status, unjudged_status}
use Rattle.command_answers.specs.Setting.{BySetting}
use Rattle.command_answers.specs.declared.judging.Unjudged.{Unjudged}
use Rattle.command_answers.specs.declared.judging.Unjudged.TheVariants.{Unset, Exercise}

-- a file failed, or memory ran out
told_as : (told : Refusal) → BySetting (λ kind. ⊥) told →
    (refusal_status told ≡ FAILED) ⊎ (refusal_status told ≡ MEMORY)
told_as (refusal.Text line kind) says = absurd says
told_as (refusal.Program found) says = absurd says
told_as (refusal.Plan row kind) says = absurd says
told_as (refusal.Cell cell) says = absurd says
told_as (refusal.Place place) says = absurd says
told_as (refusal.Step step) says = absurd says
told_as (refusal.Setting name kind) says = absurd says
told_as refusal.Memory says = inr refl
told_as (refusal.File name) says = inl refl
told_as refusal.Output says = absurd says
told_as (refusal.Size name) says = inl refl
told_as refusal.Word says = absurd says

module _ (Holds : List ℕ → Option (List ℕ) → Type 0) (file : Text) (files : List Text)
    (writes : Writing) (status : ℕ) (unwritten : writes.Unwritten) where
  ends_failed : (status ≡ FAILED) ⊎ (status ≡ MEMORY) →
      AnswersJudging Holds file files writes status
  ends_failed (inl failed) = inr (record {
    refused = λ refused. absurd (omega (arith, failed, refused));
    told = inr (inl failed);
    unwritten = unwritten;
  })
  ends_failed (inr memory) = inr (record {
    refused = λ refused. absurd (omega (arith, memory, refused));
    told = inr (inr memory);
    unwritten = unwritten;
  })

  ends_refused : (reason : NoTrials) → IsNoExercise Holds file reason →
      status ≡ reason_status reason → AnswersJudging Holds file files writes status
  ends_refused why.Memory is same = ends_failed (inr same)
  ends_refused (why.Fault fault) is same = inr (record {
    refused = λ refused. (why.Fault fault, (λ (e : why.Fault fault ≡ why.Memory). cc), is);
    told = inl same;
    unwritten = unwritten;
  })
  ends_refused (why.Unfit unfit) is same = inr (record {
    refused = λ refused. (why.Unfit unfit, (λ (e : why.Unfit unfit ≡ why.Memory). cc), is);
    told = inl same;
    unwritten = unwritten;
  })

  pub ends_unjudged : (unjudged : Unjudged) → ByExercise Holds file unjudged →
      (status ≡ MEMORY) ⊎ (status ≡ unjudged_status unjudged) →
      AnswersJudging Holds file files writes status
  ends_unjudged unjudged by (inl memory) = ends_failed (inr memory)
  ends_unjudged (Unset unset) by (inr same) = ends_failed
      (subst (λ (s : ℕ). (s ≡ FAILED) ⊎ (s ≡ MEMORY)) (sym same) (told_as unset.refusal by))
  ends_unjudged (Exercise reason) by (inr same) = ends_refused reason by same
