use Rattle.pardo_law.proofs.Untested.{left_out_tests_change_nothing}
use Rattle.pardo_law.proofs.laws.left_out_tests_change_nothing.Goals as goal

pub returns : goal.returns
returns c = left_out_tests_change_nothing
