use Rattle.std.proofs.Common.{◌∙◌, Some, ap}
use Rattle.clap.specs.Words.{Rule, rule_of}
use Rattle.clap.specs.declared.builder.arg.Arg.{Arg}
use Rattle.command_line.proofs.arguments.option.Goals as goal

pub returns : goal.returns
returns c = record {
  rule = ap rule_of c.long.ensures
      ∙ ap (λ (r : Rule). record r { long = Some c.args.name.now }) c.placed.ensures.rule;
  local = ap (λ (a : Arg). a.global) c.long.ensures ∙ c.placed.ensures.local;
}
