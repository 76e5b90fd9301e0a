-- Names of the code as the definitions see them.
use Rattle.std.specs.BTreeMap.{BTreeMap, get_by}
use Rattle.std.specs.Cmp.Lexicographic.{slice_cmp}
use Rattle.std.specs.Borrow.{Bor}
use Rattle.std.specs.Ordering.{nat_cmp}
use Rattle.std.specs.Prelude.{ℕ, List}
use Rattle.pardo_text.specs.declared.names.Named.{Named}
use Rattle.pardo_text.specs.Names.{Names}

abbrev pub names_in : BTreeMap (Bor (List ℕ)) Named → Names
names_in map = λ word. get_by (λ key. slice_cmp nat_cmp word key.now) map
