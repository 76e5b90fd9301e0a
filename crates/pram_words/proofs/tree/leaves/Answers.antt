use Rattle.pram_words.proofs.Halvings.{leaves_from_next}
use Rattle.pram_words.proofs.tree.leaves.Goals as goal

pub returns-clause-value : goal.returns-clause-value
returns-clause-value c =
    leaves_from_next _ _ c.requires (
      c.next_power_of_two.ensures.power,
      c.next_power_of_two.ensures.lower_bound,
      c.next_power_of_two.ensures.upper_bound,
    )
