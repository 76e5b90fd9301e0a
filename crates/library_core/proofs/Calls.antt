-- A call prints what the line prints that it stands for.
use Rattle.std.proofs.Common.{◌≡◌, ℕ, List, Option, Some, None, refl, subst, sym, inl, inr}
use Rattle.command_data.specs.declared.line.AskAlone.{AskAlone}
use Rattle.command_data.specs.declared.line.AskAlone.TheVariants as ask
use Rattle.pram_commands.specs.Line.{command_alone}
use Rattle.pram_commands.specs.LineRecords.{costing_by}
use Rattle.pram_commands.specs.Plain.{checking, plainly}
use Rattle.pram_commands.specs.Replayed.{replaying}
use Rattle.pram_commands.specs.Steps.{stepping}
use Rattle.pram_commands.specs.Under.{under_model}
use Rattle.library_core.specs.Calls.{IsCall, RefusesOrNot}
use Rattle.library_core.specs.Requests.{IsAskOf, command_asked, is_set, to_of}
use Rattle.library_core.specs.Serving.{PrintsAll}
use Rattle.library_core.specs.Telling.{AreThese, IsNever}
use Rattle.library_core.specs.declared.answer.Answer.{Answer}
use Rattle.library_core.specs.declared.fault.CallFault.{CallFault}
use Rattle.library_core.specs.declared.request.Call.{Call}
use Rattle.library_core.specs.declared.request.Call.TheVariants.{Check, Compile, Plain, Cost}
use Rattle.library_core.specs.declared.request.Call.TheVariants.{Steps, Replay}
use Rattle.library_core.specs.declared.request.Request.{Request}

pub none_of : {X : Type 0} → (found : Option X) → ((x : X) → found ≡ Some x → ⊥) → found ≡ None
none_of None never = refl
none_of (Some x) never = absurd (never x refl)

pub not_refused : (Why : CallFault → Type 0) (answer answer' : Answer) (status : ℕ) →
    RefusesOrNot IsNever answer answer' status → RefusesOrNot Why answer answer' status
not_refused Why answer answer' status (inl refused) = absurd refused.why
not_refused Why answer answer' status (inr untold) = inr untold

-- what these items are is shown where they are
pub shown_as : (Gives : List ℕ → ℕ → Type 0) (Why : CallFault → Type 0)
    (items buffer buffer' : List ℕ) (given : ℕ) (answer answer' : Answer) (status : ℕ) →
    Gives items given → IsCall (AreThese items given) IsNever buffer buffer' answer answer' status →
    IsCall Gives Why buffer buffer' answer answer' status
shown_as Gives Why items buffer buffer' given answer answer' status gives call = record {
  done = λ ending.
      let shown = call.done ending in record {
        items = shown.items;
        gives = subst (λ (n : ℕ). Gives shown.items n) (sym shown.gives.1)
            (subst (λ (l : List ℕ). Gives l given) (sym shown.gives.0) gives);
        front = shown.front;
        sized = shown.sized;
        placed = shown.placed;
        told = shown.told;
      };
  kept = call.kept;
  refused = λ not. not_refused Why answer answer' status (call.refused not);
}

module _ (text plan bytes : List ℕ) (status : ℕ) where
  pub prints_asked : (call : Call) (request : Request) (it : AskAlone) → IsAskOf call request it →
      PrintsAll (command_alone it) text plan bytes status →
      PrintsAll (command_asked call request) text plan bytes status
  prints_asked Check request (ask.Check model) is all =
      subst (λ m. PrintsAll (under_model m checking) text plan bytes status) is all
  prints_asked Compile request ask.Compile is all = all
  prints_asked Plain request (ask.Plain style model) is all =
      subst (λ s. PrintsAll (plainly s) text plan bytes status) is.0
      (subst (λ m. PrintsAll (under_model m (plainly style)) text plan bytes status) is.1 all)
  prints_asked Cost request (ask.Cost lines model) is all =
      subst (λ l. PrintsAll (costing_by l) text plan bytes status) is.0
      (subst (λ m. PrintsAll (under_model m (costing_by lines)) text plan bytes status) is.1 all)
  prints_asked Steps request (ask.Steps from to alone) is all =
      let shown = is_set request.rows_alone in
      subst (λ f. PrintsAll (stepping shown (record { from = f; to = to_of request })) text plan
      bytes status) is.0
      (subst (λ t. PrintsAll (stepping shown (record { from = from; to = t })) text plan bytes
      status) is.1
      (subst (λ a. PrintsAll (stepping a (record { from = from; to = to })) text plan bytes status)
      is.2 all))
  prints_asked Replay request (ask.Replay workers alone) is all =
      subst (λ n. PrintsAll (replaying (is_set request.rows_alone) n) text plan bytes status) is.0
      (subst (λ a. PrintsAll (replaying a workers.count) text plan bytes status) is.1 all)
  prints_asked call request it is all = absurd is
