-- What a reference ends with is wanted where an input does not say what is.
use Rattle.std.proofs.Common.{◌≡◌, ◌++◌, ℕ, List, [], Option, None, Some, subst, sym}
use Rattle.std.specs.Prelude.{IfSome, MatchOption, unwrap_or}
use Rattle.text_lines.specs.Lines.{Line, words_of}
use Rattle.exercise_text.specs.Entries.{EntryData, answer_of, entry_text}
use Rattle.exercise_text.specs.declared.key.Key.TheVariants.{Reference}
use Rattle.exercise_text.specs.Values.{WantedData}
use Rattle.exercise_judge.specs.Trials.{AreEnds, AreSaid, AreWanted, IsReferenced, part_in}
use Rattle.exercise_judge.specs.Trials.{wanted_names}

module _ (exercise : List EntryData) (header : List ℕ) (wanted : List WantedData) where
  by_text : (text : Option (List ℕ)) →
      AreEnds (header ++ unwrap_or text []) (wanted_names exercise) wanted →
      IfSome text (λ reference. AreEnds (header ++ reference) (wanted_names exercise) wanted)
  by_text None ends = tt
  by_text (Some reference) ends = ends

  pub by_reference : (input : EntryData) → answer_of (words_of input.text) ≡ None →
      AreWanted exercise input header wanted → IsReferenced exercise header wanted
  by_reference input none is = by_text (entry_text Reference exercise)
      (subst (λ (said : Option Line). MatchOption said
      (AreEnds (header ++ part_in Reference exercise) (wanted_names exercise) wanted)
      (λ words. AreSaid header words (wanted_names exercise) wanted)) none is)

  pub with_reference : (reference : List ℕ) → entry_text Reference exercise ≡ Some reference →
      AreEnds (header ++ reference) (wanted_names exercise) wanted →
      IsReferenced exercise header wanted
  with_reference reference there ends = subst (λ (text : Option (List ℕ)).
      IfSome text (λ its. AreEnds (header ++ its) (wanted_names exercise) wanted)) (sym there) ends

  pub of_reference : (reference : List ℕ) → entry_text Reference exercise ≡ Some reference →
      IsReferenced exercise header wanted →
      AreEnds (header ++ reference) (wanted_names exercise) wanted
  of_reference reference there is = subst (λ (text : Option (List ℕ)).
      IfSome text (λ its. AreEnds (header ++ its) (wanted_names exercise) wanted)) there is
