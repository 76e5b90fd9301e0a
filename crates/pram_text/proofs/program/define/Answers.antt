use Rattle.std.proofs.Common.{◌≡◌, ◌∙◌, sym, ap, refl, true, None, option_copied}
use Rattle.std.proofs.lemmas.Map.Text.{btree_map_updates_str}
use Rattle.pram_text.specs.Judgement.{is_name}
use Rattle.pram_text.specs.Inner.Reading.{label_at}
use Rattle.pram_text.proofs.program.define.Goals as goal

pub returns-in-None : goal.returns-in-None
returns-in-None c =
    let label = ap option_copied c.in-Some.is in
    let named : is_name c.in-Some.label.now ≡ true =
    sym c.is_name_word.ensures ∙ c.if-not-is_name_word.false in
    let new : label_at c.args.indices.now c.in-Some.label.now ≡ None =
    sym c.in_ok-insert.ensures.old ∙ c.in-None.is in
    rw (label, named, new) (
      refl,
      λ name. btree_map_updates_str _ c.args.indices.now c.insert.new.self _
          c.in_ok-insert.ensures.updates name,
    )
