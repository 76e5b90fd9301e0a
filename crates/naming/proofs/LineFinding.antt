-- Lines of a text, taken one after another.
use Rattle.std.proofs.Common.{◌≡◌, ℕ, zero, suc, ◌+◌, ◌<◌, List, [], ◌∷◌, length, get_or}
use Rattle.std.proofs.Common.{drop, inl, inr, sym, ap, ◌∙◌, ◌++◌, take, arith, add-one}
use Rattle.std.proofs.lemmas.Bool.{cases_lt}
use Rattle.std.proofs.lemmas.List.{drop_all, drop_more, flat_map_more, get_or_past, take_more}
use Rattle.std.specs.List.{flat_map}
use Rattle.text_lines.specs.Lines.{lines_of}
use Rattle.naming.specs.LineRecords.{numbered_line, line_record}
use Rattle.pardo_answers.specs.declared.line_costs.LineCost.{LineCost}

module _ (text : List ℕ) where
  -- the line after those taken
  pub line_taken : (taken : ℕ) (line : List ℕ) (left : List (List ℕ)) → line ∷ left
      ≡ drop taken (lines_of text) →
      (line ≡ numbered_line text (taken + 1)) × (left ≡ drop (taken + 1) (lines_of text))
  line_taken taken line left is = elim (cases_lt taken (length (lines_of text))) [
    | inl inside ↦
        let more = drop_more (lines_of text) taken [] inside in
        let both : line ∷ left
        ≡ get_or (lines_of text) taken [] ∷ drop (taken + 1) (lines_of text) = is ∙ more in
        let next : numbered_line text (taken + 1) ≡ get_or (lines_of text) taken [] =
        ap (λ (n : ℕ). numbered_line text n) (add-one taken) in
        let head : line ≡ get_or (lines_of text) taken [] = (cc both) in
        let tail : left ≡ drop (taken + 1) (lines_of text) = (cc both) in
        (head ∙ sym next, tail)
    | inr past ↦
        let none : drop taken (lines_of text) ≡ [] = drop_all taken (lines_of text) past in
        let both : line ∷ left ≡ [] = is ∙ none in absurd (cc both)
  ]

  -- no line is left
  pub line_past : (taken number : ℕ) → [] ≡ drop taken (lines_of text) → taken < number →
      [] ≡ numbered_line text number
  line_past taken zero none low = absurd (omega arith)
  line_past taken (suc number) none low = elim (cases_lt taken (length (lines_of text))) [
    | inl inside ↦
        let more = drop_more (lines_of text) taken [] inside in
        let both : [] ≡ get_or (lines_of text) taken [] ∷ drop (taken + 1) (lines_of text) =
        none ∙ more in absurd (cc both)
    | inr past ↦ sym (get_or_past (lines_of text) number [] (omega arith))
  ]

-- ---- records

-- what stands where no line's cost does, as code reads it
abbrev pub no_cost : LineCost
no_cost = record { line = 0; times = 0; time = 0; operations = 0; most = 0 }

-- one record more
pub record_more : (head text : List ℕ) (costs : List LineCost) (i : ℕ) (before after line : List ℕ) →
    i < length costs → after ≡ before ++ line_record (get_or costs i no_cost) line →
    line ≡ numbered_line text (get_or costs i no_cost).line →
    before ≡ head ++ flat_map (λ cost. line_record cost (numbered_line text cost.line))
    (take i costs) →
    after ≡ head ++ flat_map (λ cost. line_record cost (numbered_line text cost.line))
    (take (i + 1) costs)
record_more head text costs i before after line inside written is was =
    let one : LineCost → List ℕ = λ cost. line_record cost (numbered_line text cost.line) in
    let cost : LineCost = get_or costs i no_cost in
    written
    ∙ ap (λ (l : List ℕ). before ++ line_record cost l) is
    ∙ ap (λ (bytes : List ℕ). bytes ++ one cost) was
    ∙ flat_map_more one head (take i costs) cost
    ∙ ap (λ (all : List LineCost). head ++ flat_map one all) (sym (take_more costs i no_cost inside))
