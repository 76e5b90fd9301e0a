use Rattle.std.proofs.Common.{◌∙◌, ℕ, List, subst, sym}
use Rattle.library_core.specs.Requests.{command_asked, wrong_in}
use Rattle.library_core.specs.Serving.{GivesBytes, IsWhy}
use Rattle.library_core.proofs.Calls.{none_of, not_refused, prints_asked}
use Rattle.library_core.proofs.call.serve_call.Goals as goal

pub returns-in-Ok : goal.returns-in-Ok
returns-in-Ok c =
    let it = c.args.asked.now in
    let command = command_asked it.call it.request.now in
    let wrong = wrong_in it.call it.request.now in
    let text = it.text.now in
    let plan = it.plan.now in
    let right = sym c.wrong_in.ensures ∙ none_of c.wrong_in.result c.in_default.not-Some in
    let all = prints_asked text plan c.in-Ok.served.bytes.items c.in-Ok.served.status it.call
    it.request.now c.ask_of-ask.result c.ask_of-ask.ensures c.in-Ok.ensures.done in record {
      done = λ ending.
          let shown = c.show.ensures.done ending in record {
            items = shown.items;
            gives = subst (λ (bytes : List ℕ). GivesBytes command wrong text plan bytes
                c.show.result) (sym (shown.gives.0 ∙ c.as_slice.ensures.value))
                (subst (λ (n : ℕ). GivesBytes command wrong text plan
                c.in-Ok.served.bytes.items n) (sym shown.gives.1) (right, all));
            front = shown.front;
            sized = shown.sized;
            placed = shown.placed;
            told = shown.told;
          };
      kept = c.show.ensures.kept;
      refused = λ not. not_refused (IsWhy command wrong text plan) c.args.answer.now
          c.show.new.answer c.show.result (c.show.ensures.refused not);
    }
