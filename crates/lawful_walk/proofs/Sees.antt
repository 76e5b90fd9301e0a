-- What the words must be after a history: a row of moments, whatever record they come from.
use Rattle.std.proofs.Common.{ℕ, List, [], ◌∷◌}
use Rattle.pram_job.specs.Job.{JobData}
use Rattle.pram_words.specs.Words.{LayoutData}
use Rattle.walkx.specs.Operations.{words_after}
use Rattle.walkx.specs.Records.{Record, Has}
use Rattle.walkx.specs.declared.operation.Op.{Op}
use Rattle.lawful_walk.proofs.Moments.{onward, Found, find}
use Rattle.lawful_walk.specs.Board.{Grows, Stands}
use Rattle.lawful_walk.specs.Moments.{Moment, Backed, afters}

-- these steps were made one after the other, newest first, the first of them from words of which P
-- holds
abbrev pub Chain : JobData → LayoutData → (List ℕ → Type 0) → List (Op × ℕ) → List ℕ → Type 0
Chain job y P [] now = P now
Chain job y P (e ∷ es) now = Moment job y e.0 e.1 (Chain job y P es) now

-- a record that the words bear out has its steps so
pub chain_of_has : (job : JobData) (y : LayoutData)
    (r : Record) (history : List (Op × ℕ)) (words : List ℕ) → Backed job y r words → Has r history →
    Chain job y (λ then_words. Unit {0}) history words
chain_of_has job y r [] words b has = tt
chain_of_has job y r (e ∷ es) words b has =
    let f : Found job y words e.0 e.1 es = find job y words r e.0 e.1 es b has in
    let m = f.moment in
    record {
      words = m.words;
      stands = m.stands;
      heard = m.heard;
      grew = m.grew;
      since = m.since;
      earlier = chain_of_has job y f.rest es m.words m.earlier f.has;
    }

pub chain_of_afters : (job : JobData) (y : LayoutData) (before : Record)
    (es : List (Op × ℕ)) (words : List ℕ) → Backed job y (afters before es) words →
    Chain job y (Backed job y before) es words
chain_of_afters job y before [] words b = b
chain_of_afters job y before (e ∷ es) words m =
    record {
      words = m.words;
      stands = m.stands;
      heard = m.heard;
      grew = m.grew;
      since = m.since;
      earlier = chain_of_afters job y before es m.words m.earlier;
    }

-- whatever standing words have this row of moments, this holds of them
abbrev pub Sees : JobData → LayoutData → List (Op × ℕ) → (List ℕ → Type 0) → Type 0
Sees job y history P = (words : List ℕ) → Stands job y words →
    Chain job y (λ then_words. Unit {0}) history words → P words

-- it lasts while the words grow
abbrev pub Lasts : JobData → LayoutData → (List ℕ → Type 0) → Type 0
Lasts job y P = (words later : List ℕ) → Stands job y words → Stands job y later →
    Grows y words later → P words → P later

pub always : (job : JobData) (y : LayoutData) (history : List (Op × ℕ)) (P : List ℕ → Type 0) →
    ((words : List ℕ) → Stands job y words → P words) → Sees job y history P
always job y history P each = λ words stands chain. each words stands

pub so : (job : JobData) (y : LayoutData) (history : List (Op × ℕ)) (P Q : List ℕ → Type 0) →
    ((words : List ℕ) → Stands job y words → P words → Q words) →
    Sees job y history P → Sees job y history Q
so job y history P Q each sees = λ words stands chain. each words stands (sees words stands chain)

pub and : (job : JobData) (y : LayoutData) (history : List (Op × ℕ)) (P Q : List ℕ → Type 0) →
    Sees job y history P → Sees job y history Q →
    Sees job y history (λ words. P words × Q words)
and job y history P Q p q = λ words stands chain. (p words stands chain, q words stands chain)

-- what was so before an answer was so at its moment
pub heard : (job : JobData) (y : LayoutData) (history : List (Op × ℕ))
    (P : List ℕ → Type 0) (op : Op) (found : ℕ) → Sees job y history P →
    Sees job y ((op, found) ∷ history) (Moment job y op found P)
heard job y history P op found sees = λ words stands m.
    record {
      words = m.words;
      stands = m.stands;
      heard = m.heard;
      grew = m.grew;
      since = m.since;
      earlier = sees m.words m.stands m.earlier;
    }

-- what lasts is still so after one answer more
pub later : (job : JobData) (y : LayoutData) (history : List (Op × ℕ))
    (P : List ℕ → Type 0) (op : Op) (found : ℕ) → Lasts job y P → Sees job y history P →
    Sees job y ((op, found) ∷ history) P
later job y history P op found lasts sees = λ words stands m.
    lasts m.words words m.stands stands
    (onward y m.words (words_after m.words op) words m.grew m.since)
    (sees m.words m.stands m.earlier)
