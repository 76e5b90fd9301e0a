use Rattle.std.proofs.Common.{◌∙◌, List, Some, ap, codes, map, sym}
use Rattle.std.specs.Borrow.{Bor}
use Rattle.clap.specs.Words.{Text, found_of, rows_of}
use Rattle.clap.proofs.WalkLemmas.{first_value-rows, raw_values-rows}
use Rattle.command_line.proofs.Matches.{flag_of, has_flag, pair_of}
use Rattle.command_line.proofs.line.judging_of.Goals as goal

abbrev texts_of : List (Bor Text) → List Text
texts_of words = map (λ (word : Bor Text). word.now) words

pub returns : goal.returns
returns c =
    let met = c.in-Some-judge-default in
    let found = found_of met.inner.now in
    let given = c.in-Some-get_strs in
    let copied = ap texts_of c.in_ok-from_slice.ensures.items in record {
      of_file = record {
        rows = rows_of found;
        met = pair_of _ _ _ _ _ met.ensures.name met.ensures.rows
            ∙ ap (λ (name : Text). Some (name, rows_of found)) met.is-judge;
        has_file = sym (c.in-Some.ensures ∙ first_value-rows found (codes "file"));
      };
      files = sym (ap (λ (texts : List Text). Some texts) copied ∙ given.ensures
          ∙ raw_values-rows found (codes "files"));
      explain = has_flag _ _ found (codes "explain") _
          (pair_of _ _ _ _ _ met.ensures.name met.ensures.rows)
          (flag_of found (codes "explain") _ c.get_flag.ensures.none c.get_flag.ensures.value
          c.get_flag.ensures.other);
    }
