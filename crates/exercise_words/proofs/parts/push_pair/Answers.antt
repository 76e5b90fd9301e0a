use Rattle.std.proofs.Common.{◌≡◌, ◌∙◌, ◌++◌, ℕ, List, ap, append_assoc, codes, decimal}
use Rattle.exercise_words.specs.Words.{pair}
use Rattle.exercise_words.proofs.Outcomes.{on_ok}
use Rattle.exercise_words.proofs.parts.push_pair.Goals as goal

-- two labels, each with what stands behind it
labelled_twice : (old a b c d between new : List ℕ) → between ≡ old ++ a ++ b →
    new ≡ between ++ c ++ d → new ≡ old ++ (a ++ b ++ c ++ d)
labelled_twice old a b c d between new first second =
    second ∙ ap (λ (l : List ℕ). l ++ c ++ d) first ∙ simp append_assoc

pub returns : goal.returns
unfolding pair
returns c =
    let old = c.args.words.now.items in
    let between = c.push_labelled.new.text.items in
    let new = c.push_labelled-2.new.text.items in
    on_ok (new ≡ between ++ codes " and " ++ decimal c.args.second)
    (new ≡ old ++ pair c.args.first c.args.second) c.push_labelled-2.result
    (labelled_twice old (codes "processors ") (decimal c.args.first) (codes " and ")
    (decimal c.args.second) between new c.in_ok-push_labelled.ensures) c.push_labelled-2.ensures
