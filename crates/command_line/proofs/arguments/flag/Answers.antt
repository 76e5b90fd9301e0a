use Rattle.std.proofs.Common.{◌∙◌, Bool, Some, ap}
use Rattle.clap.specs.Words.{Rule, rule_of}
use Rattle.clap.specs.declared.builder.action.ArgAction.TheVariants.{SetTrue}
use Rattle.clap.specs.declared.builder.arg.Arg.{Arg}
use Rattle.command_line.proofs.arguments.flag.Goals as goal

abbrev settled : Rule → Rule
settled rule = record rule { action = Some SetTrue }

abbrev global_of : Arg → Bool
global_of arg = arg.global

pub returns : goal.returns
returns c = record {
  rule = ap rule_of c.action.ensures ∙ ap settled (ap rule_of c.help.ensures)
      ∙ ap settled (ap rule_of c.long.ensures)
      ∙ ap (λ (r : Rule). record r {
        long = Some c.args.name.now;
        action = Some SetTrue;
      }) c.new.ensures.rule;
  local = ap global_of c.action.ensures ∙ ap global_of c.help.ensures
      ∙ ap global_of c.long.ensures
      ∙ c.new.ensures.optional.1;
}
