use Rattle.std.proofs.Common.{◌<◌, ◌^◌, length}
use Rattle.stop_plan.proofs.Numbers.{Spelled}
use Rattle.stop_plan.proofs.number.number_below.Given as goal

abbrev pub invariant-loop-digit : goal.invariant-loop-digit
invariant-loop-digit l = record {
  filled : 0 < length l.field;
  fits : l.value < 2 ^ 32;
  so_far : Spelled l.field l.digit-index l.value;
}
