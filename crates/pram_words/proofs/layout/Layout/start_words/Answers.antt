use Rattle.std.proofs.Common.{◌≡◌, ℕ, List, ◌++◌, length, take, subst, ◌∙◌, arith}
use Rattle.std.proofs.lemmas.List.{take-append-le, take_all}
use Rattle.pram_words.specs.Inner.Started.{HasStarted}
use Rattle.pram_words.proofs.Starting.{zeros_started, all_started}
use Rattle.pram_words.proofs.layout.Layout.start_words.Goals as goal

pub start_workers-requires : goal.start_workers-requires
start_workers-requires c =
    zeros_started _ _ _ c.length.ensures.limits c.length.ensures.value
    (c.deref_mut.ensures.value ∙ c.in_ok-words.ensures.items_if_clones_equal (λ y is. is))

-- what is written into a list of the same length is the list
back : (n : ℕ) (new old : List ℕ) → length new ≡ n → take n (new ++ old) ≡ new
back n new old len = take-append-le n new old (omega arith) ∙ take_all n new (omega arith)

pub returns : goal.returns
returns c =
    let new = c.start_cells.new.words in
    let len : length new ≡ c.in_ok-words.words.len =
    omega (arith, c.start_cells.ensures.len, c.length.ensures.value, c.in_ok-words.ensures.len) in
    back c.in_ok-words.words.len new _ len
    ∙ all_started _ _ new c.length.ensures.limits
    (subst (λ values. HasStarted c.args.self.now c.args.self.now.workers values new)
    c.init.ensures.value c.start_cells.ensures)
