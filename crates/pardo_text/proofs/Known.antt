-- Names that are known, and loops that are open.
use Rattle.std.proofs.Common.{◌≡◌, List, [], ◌∷◌, ◌++◌, Some, None, map, reverse, ap, ◌∙◌}
use Rattle.std.proofs.lemmas.List.{map-append, reverse-append}
use Rattle.std.proofs.lemmas.Map.Text.{btree_map_updates_str}
use Rattle.std.specs.Borrow.{Bor}
use Rattle.std.specs.BTreeMap.{BTreeMap, UpdatesBy}
use Rattle.std.specs.Cmp.Lexicographic.{slice_cmp}
use Rattle.std.specs.Ordering.{nat_cmp}
use mathlib.Core.Path.{fun_ext}
use Rattle.pardo_text.specs.declared.names.Named.{Named}
use Rattle.pardo_text.specs.Inner.Drafts.{loops_in}
use Rattle.pardo_text.specs.Inner.Names.{names_in}
use Rattle.text_lines.specs.Lines.{Word}
use Rattle.pardo_text.specs.Names.{named, unnamed}

pub names_in-insert : (old new : BTreeMap (Bor Word) Named) (word : Word) (thing : Named) →
    UpdatesBy (λ x y. slice_cmp nat_cmp x.now y.now) (λ key. slice_cmp nat_cmp word key.now) old new
    (Some thing) →
    names_in new ≡ named word thing (names_in old)
names_in-insert old new word thing updates =
    fun_ext (λ other. btree_map_updates_str word old new (Some thing) updates other)

pub names_in-remove : (old new : BTreeMap (Bor Word) Named) (word : Word) →
    UpdatesBy (λ x y. slice_cmp nat_cmp x.now y.now) (λ key. slice_cmp nat_cmp word key.now) old new
    None →
    names_in new ≡ unnamed word (names_in old)
names_in-remove old new word updates =
    fun_ext (λ other. btree_map_updates_str word old new None updates other)

-- one loop more
pub loops_in-push : (loops : List (Bor Word)) (name : Bor Word) →
    loops_in (loops ++ name ∷ []) ≡ name.now ∷ loops_in loops
loops_in-push loops name =
    ap reverse (map-append (λ (word : Bor Word). word.now) loops (name ∷ []))
    ∙ reverse-append (map (λ word. word.now) loops) (name.now ∷ [])
