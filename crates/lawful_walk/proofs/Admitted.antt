-- What standing words answer is admitted.
use Rattle.std.proofs.Common.{ℕ, ◌<◌, List, slice_index, subst}
use Rattle.pram_job.specs.Job.{JobData}
use Rattle.pram_words.proofs.Numbering.{numbering}
use Rattle.pram_words.specs.Words.{LayoutData, IsInRange, Admits, length_of, number_of, word_at}
use Rattle.walkx.specs.Operations.{answer}
use Rattle.walkx.specs.Walk.{HearsAdmitted, AsksAdmitted}
use Rattle.walkx.specs.declared.operation.Op.{Op}
use Rattle.walkx.specs.declared.operation.Op.TheVariants.{Load, Store, Max, Swap, Over}
use Rattle.lawful_walk.specs.Board.{Stands}

pub word_admitted : (job : JobData) (y : LayoutData) (words : List ℕ) (k : ℕ) → Stands job y words →
    k < length_of y → Admits y job k (slice_index words k)
word_admitted job y words k stands below =
    let w = (numbering y stands.sizes).word k below in
    let range : IsInRange y job (word_at y k) (slice_index words (number_of y (word_at y k))) =
    stands.admitted.in_range (word_at y k) w.0 in
    (below, subst (λ (n : ℕ). IsInRange y job (word_at y k) (slice_index words n)) w.1 range)

pub answer_admitted : (job : JobData) (y : LayoutData) (words : List ℕ) (op : Op) →
    Stands job y words → AsksAdmitted job y op → HearsAdmitted job y op (answer words op)
answer_admitted job y words (Load k) stands below = word_admitted job y words k stands below
answer_admitted job y words (Store k v) stands below = tt
answer_admitted job y words (Max k v) stands below = tt
answer_admitted job y words (Swap k old new) stands below = tt
answer_admitted job y words (Over e) stands below = tt
