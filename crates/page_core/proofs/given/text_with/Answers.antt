use Rattle.std.proofs.Common.{◌≡◌, Some, rules}
use Rattle.page_core.specs.Given.{IsNoGiven, input_at}
use Rattle.page_core.proofs.Unset.{not_given}
use Rattle.page_core.proofs.given.text_with.Goals as goal

pub returns-in-Ok-clause-given : goal.returns-in-Ok-clause-given
returns-in-Ok-clause-given c = λ text reads. record {
  exercise = c.args.exercise.now;
  input = c.in-Some.input.now;
  header = c.in_ok-header.header.items;
  reads = reads;
  at = search rules;
  set = search rules;
  is = search rules;
}

pub returns-in_err-header-clause-none : goal.returns-in_err-header-clause-none
returns-in_err-header-clause-none c = λ text reads.
    let exercise = c.args.exercise.now in
    let at : input_at c.args.line exercise ≡ Some c.in-Some.input.now = search rules in
    let none : IsNoGiven text c.args.submission.now c.args.line c.in_err-header.field-0.0 =
    not_given exercise c.in-Some.input.now text c.args.submission.now c.args.line
    c.in_err-header.field-0.0 reads at c.in_err-header.ensures.none in
    search rules
