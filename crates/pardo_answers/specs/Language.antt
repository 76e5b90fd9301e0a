-- Whether a text is a program.
use Rattle.std.specs.Prelude.{ℕ, Bool, false, List, [], ◌∷◌, codes}
use Rattle.std.specs.List.{flat_map}
use Rattle.std.specs.Str.{bytes_eq}
use Rattle.text_lines.specs.Lines.{Word, lines_of, words_of}

abbrev pub begins_program : List Word → Bool
begins_program [] = false
begins_program (word ∷ words) = bytes_eq word (codes "pardo")

-- The first word of its lines is `pardo`.
abbrev pub is_program : List ℕ → Bool
is_program text = begins_program (flat_map words_of (lines_of text))
