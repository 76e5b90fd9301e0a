use Rattle.std.proofs.Common.{◌∙◌, ap}
use Rattle.command_line.specs.CommandLine.{several_rule}
use Rattle.command_line.proofs.arguments.list.Goals as goal

pub returns : goal.returns
returns c = record {
  rule = c.several.ensures.rule ∙ ap several_rule c.option.ensures.rule;
  local = c.several.ensures.local ∙ c.option.ensures.local;
}
