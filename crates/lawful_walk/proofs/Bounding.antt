-- What a worker of a backed record hears may be heard: the premise of the bound on its own steps.
use Rattle.std.proofs.Common.{sym, subst, ℕ, ◌<◌, List, [], ◌∷◌, refl, inl, lit<, arith}
use Rattle.pram_job.specs.Job.{JobData}
use Rattle.pram_words.proofs.Numbering.{numbering}
use Rattle.pram_words.specs.declared.words.Word.TheVariants.{Node, Position}
use Rattle.pram_words.specs.Words.{LayoutData}
use Rattle.walkx.specs.declared.operation.Op.{Op}
use Rattle.walkx.specs.Bound.{MayHear, IsHeard}
use Rattle.walkx.specs.Operations.{words_after, answer}
use Rattle.walkx.specs.Records.{Record, Has}
use Rattle.walkx.proofs.BoundHeard.{NodesRise, IsShownBelow, shown_below_none}
use Rattle.walkx.proofs.BoundHeard.{shown_below_later, shown_below_more, may_hear}
use Rattle.lawful_walk.specs.Board.{Grows}
use Rattle.lawful_walk.specs.Moments.{Moment, Backed}
use Rattle.lawful_walk.specs.WalkLaws.{HistoriesAreKept}
use Rattle.lawful_walk.proofs.Sees.{Chain, chain_of_has}

-- nodes of words that grow only rise
nodes_rise : (y : LayoutData) (words later : List ℕ) → Grows y words later → NodesRise y words later
nodes_rise y words later up n some most = up (Node n) (some, most)

-- nothing that a history shows of a node is above it
low_below : (job : JobData) (y : LayoutData) (history : List (Op × ℕ)) (now : List ℕ) →
    Chain job y (λ words. Unit {0}) history now → IsShownBelow y now history
low_below job y [] now chain = shown_below_none y now
low_below job y (e ∷ es) now m =
    let after = words_after m.words e.0 in
    subst (λ (found : ℕ). IsShownBelow y now ((e.0, found) ∷ es)) (sym m.heard)
    (shown_below_later y after now ((e.0, answer m.words e.0) ∷ es) (nodes_rise y after now m.since)
    (shown_below_more y m.words es e.0 (λ n some most.
    let b = (numbering y m.stands.sizes).below (Node n) (some, most) in
    let l = m.stands.admitted.len in omega arith)
    (nodes_rise y m.words after m.grew) (low_below job y es m.words m.earlier)))

heard_may : (job : JobData) (y : LayoutData)
    (w : ℕ) (es : List (Op × ℕ)) (op : Op) (found : ℕ) (now : List ℕ) → w < y.workers →
    Moment job y op found (Chain job y (λ words. Unit {0}) es) now → MayHear job y w es op found
heard_may job y w es op found now worker m =
    let leaves = m.stands.sizes.leaves in
    subst (λ (answer : ℕ). MayHear job y w es op answer) (sym m.heard)
    (may_hear job y w m.words es op (low_below job y es m.words m.earlier)
    (m.stands.admitted.in_range (Node 1) (lit< tt, omega arith)).0
    (m.stands.admitted.in_range (Position w) worker))

pub chain_is_heard : (job : JobData) (y : LayoutData)
    (w : ℕ) (history : List (Op × ℕ)) (now : List ℕ) → w < y.workers →
    Chain job y (λ words. Unit {0}) history now → IsHeard job y w history
chain_is_heard job y w [] now worker chain = tt
chain_is_heard job y w (e ∷ es) now worker m =
    (heard_may job y w es e.0 e.1 now worker m, chain_is_heard job y w es m.words worker m.earlier)

-- whatever steps a record has that the words bear out
pub backed_is_heard : (job : JobData) (y : LayoutData) (w : ℕ)
    (r : Record) (history : List (Op × ℕ)) (now : List ℕ) → w < y.workers → Backed job y r now →
    Has r history → IsHeard job y w history
backed_is_heard job y w r history now worker backed has =
    chain_is_heard job y w history now worker (chain_of_has job y r history now backed has)

-- the record that knew a worker, lengthened by its steps, has its whole history
pub history_known : HistoriesAreKept
history_known job y r w [] knows = knows.script
history_known job y r w (found ∷ earlier) knows = inl (refl, history_known job y r w earlier knows)
