use Rattle.std.proofs.Common.{ap}
use Rattle.clap.specs.Words.{rule_of}
use Rattle.clap.specs.declared.builder.arg.Arg.{Arg}
use Rattle.command_line.proofs.arguments.needed.Goals as goal

pub returns : goal.returns
returns c = record {
  rule = ap rule_of c.required.ensures;
  local = ap (λ (a : Arg). a.global) c.required.ensures;
}
