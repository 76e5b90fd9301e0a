use Rattle.std.proofs.Common.{◌∙◌, Bool, Some, ap}
use Rattle.clap.specs.Words.{Rule, rule_of}
use Rattle.clap.specs.declared.builder.action.ArgAction.TheVariants.{Set}
use Rattle.clap.specs.declared.builder.arg.Arg.{Arg}
use Rattle.command_line.proofs.arguments.placed.Goals as goal

abbrev settled : Rule → Rule
settled rule = record rule { action = Some Set }

abbrev named : Rule → Rule
named rule = record rule { value_names = 1; action = Some Set }

abbrev global_of : Arg → Bool
global_of arg = arg.global

pub returns : goal.returns
returns c = record {
  rule = ap rule_of c.action.ensures ∙ ap settled (ap rule_of c.help.ensures)
      ∙ ap settled (ap rule_of c.value_name.ensures)
      ∙ ap named c.new.ensures.rule;
  local = ap global_of c.action.ensures ∙ ap global_of c.help.ensures
      ∙ ap global_of c.value_name.ensures
      ∙ c.new.ensures.optional.1;
}
