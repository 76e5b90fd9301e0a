use Rattle.walkx.proofs.Asking.{all_ask}
use Rattle.walkx.proofs.laws.each_operation_is_admitted.Goals as goal

pub returns : goal.returns
returns c = all_ask
