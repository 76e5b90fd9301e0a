-- Values at hand, and the registers that they take.

use Rattle.std.proofs.lemmas.List.Sums.{sum_by-append, sum_by-cons}

-- how many registers values and one value more take
pub ruleset taken = (sum_by-append, sum_by-cons)
