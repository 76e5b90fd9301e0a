use Rattle.std.proofs.Common.{◌∙◌, codes, sym}
use Rattle.clap.specs.Words.{found_of, rows_of}
use Rattle.clap.proofs.WalkLemmas.{first_value-rows}
use Rattle.command_line.proofs.Values.{no_plan, no_seed, two_plans}
use Rattle.command_line.proofs.bad_value.bad_plans.Goals as goal

pub returns-in-None : goal.returns-in-None
returns-in-None c =
    let found = found_of c.args.inner.now in
    no_plan (rows_of found) (sym (c.in-None.ensures ∙ first_value-rows found (codes "plan")))

pub returns-in-None-get_str : goal.returns-in-None-get_str
returns-in-None-get_str c =
    let found = found_of c.args.inner.now in
    no_seed (rows_of found) (sym (c.in-None-get_str.ensures ∙ first_value-rows found (codes "random")))

pub returns-in-Some-get_str : goal.returns-in-Some-get_str
returns-in-Some-get_str c =
    let found = found_of c.args.inner.now in
    two_plans (rows_of found) _ _
    (sym (c.in-Some.ensures ∙ first_value-rows found (codes "plan")))
    (sym (c.in-Some-get_str.ensures ∙ first_value-rows found (codes "random")))
