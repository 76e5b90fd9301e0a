-- What differs by the form of a board.
use Rattle.pram_words.specs.declared.layout.Form.{Form}
use Rattle.pram_words.specs.declared.layout.Form.TheVariants.{Compact, Wide}

abbrev pub by_form : {A : Type 0} → Form → A → A → A
by_form Compact compact wide = compact
by_form (Wide grain) compact wide = wide
