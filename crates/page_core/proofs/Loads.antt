-- What a reader gets that makes all its loads on the same words.
use Rattle.std.proofs.Common.{arith, ◌≡◌, ℕ, ◌%◌, ◌==◌, ◌<◌, nat_le, List, [], ◌∷◌}
use Rattle.std.proofs.Common.{◌++◌, slice_index, Some, refl, sym, ap, subst, ◌∙◌}
use Rattle.std.proofs.lemmas.Bool.{cond_both}
use Rattle.pram_job.specs.Job.{JobData}
use Rattle.pram_words.specs.Stamps.{stamp_of}
use Rattle.pram_words.specs.Words.{LayoutData}
use Rattle.walkx.specs.declared.operation.Op.{Op}
use Rattle.walkx.specs.declared.operation.Op.TheVariants.{Load, Store, Max, Swap, Over}
use Rattle.walkx.specs.declared.operation.ReadOp.TheVariants as read
use Rattle.walkx.specs.declared.operation.Reading.{Reading}
use Rattle.walkx.specs.declared.operation.Reading.TheVariants.{At}
use Rattle.walkx.specs.Reads.{Looking, look_of, looked, looks_for}
use Rattle.walkx.specs.Reads.{reader_script, read_script, step_seen}
use Rattle.walkx.specs.Records.{Record, after}
use Rattle.walkx.specs.Scripts.{Script, asks, ends, rest_after, rest, op_with, heard_in}
use Rattle.walk_memory.specs.Blocks.{IsLayoutOf}
use Rattle.lawful_walk.specs.Board.{Stands}
use Rattle.lawful_walk.specs.Moments.{Backed, afters}
use Rattle.lawful_walk.specs.Walks.{IsLawfulRead}
use Rattle.lawful_walk.proofs.Sounding.{was_read}
use Rattle.lawful_walk.proofs.Staying.{loads_keep}
use Rattle.pram_world.specs.Worlds.{WorldData}
use Rattle.page_core.specs.declared.reads.ReadRow.{ReadRow}
use Rattle.page_core.specs.Answers.{AreLawful, AreRead, record_loaded, read_in, read_through, row_of_read}

-- ---- a script of loads

abbrev IsLoad : Op → Type 0
IsLoad (Load k) = Unit {0}
IsLoad _ = ⊥

abbrev Loads : Script Reading → Type 0
Loads (asks op next) = IsLoad op × ((found : ℕ) → Loads (next found))
Loads (ends r) = Unit {0}

read_loads : (y : LayoutData) (c s : ℕ) → Loads (read_script y c s)
unfolding read_script
read_loads y c s = (
  tt,
  λ a. (
    tt,
    λ b. cond_both (nat_le (stamp_of a) s) _ _ Loads
        (λ e. cond_both (nat_le (stamp_of b) s) _ _ Loads
        (λ f. tt) (λ f. (tt, λ again. cond_both (again == a) _ _ Loads (λ g. tt) (λ g. tt))))
        (λ e. cond_both (nat_le (stamp_of b) s) _ _ Loads (λ f. tt) (λ f. tt)),
  ),
)

reader_loads : (y : LayoutData) (c : ℕ) → Loads (reader_script y c)
unfolding reader_script
reader_loads y c = (
  tt,
  λ root. cond_both (root % 3 == 0) _ _ Loads
      (λ e. (tt, λ u. read_loads y c (step_seen root u))) (λ e. read_loads y c (step_seen root 0)),
)

loads_next : (s : Script Reading) (found : ℕ) → Loads s → Loads (rest_after s found)
loads_next (asks op next) found l = l.1 found
loads_next (ends r) found l = tt

loads_rest : (s : Script Reading) (answers : List ℕ) → Loads s → Loads (rest s answers)
loads_rest s [] l = l
loads_rest s (found ∷ earlier) l = loads_next (rest s earlier) found (loads_rest s earlier l)

looked_load : (x : Looking) (found k : ℕ) (s : Script Reading) → looks_for s ≡ read.Load k →
    looked x found s ≡ record { cell = x.cell; heard = found ∷ x.heard }
looked_load x found k (asks op next) e = refl
looked_load x found k (ends r) e = absurd (cc)

-- ---- one load

-- what comes of the script stays after a load
read_behind : (words : List ℕ) (s : Script Reading) (k found : ℕ) →
    Loads s → looks_for s ≡ read.Load k → found ≡ slice_index words k →
    read_through words (rest_after s found) ≡ read_through words s
read_behind words (asks (Load j) next) k found l e is =
    let same : k ≡ j = cc in
    ap (λ v. read_through words (next v)) (is ∙ ap (slice_index words) same)
read_behind words (asks (Store j v) next) k found l e is = absurd l.0
read_behind words (asks (Max j v) next) k found l e is = absurd l.0
read_behind words (asks (Swap j old new) next) k found l e is = absurd l.0
read_behind words (asks (Over e') next) k found l e is = absurd l.0
read_behind words (ends r) k found l e is = absurd (cc)

pub same_cells : (job : JobData) (y : LayoutData) → IsLayoutOf job y → y.cells ≡ job.cells
same_cells job y is = ap (λ (z : LayoutData). z.cells) is

pub reads_on : (y : LayoutData) (words : List ℕ) (x now : Looking) (k found : ℕ) →
    looks_for (look_of y x) ≡ read.Load k →
    found ≡ slice_index words k → now ≡ looked x found (look_of y x) →
    (now.cell ≡ x.cell) × (read_through words (look_of y now) ≡ read_through words (look_of y x))
reads_on y words x now k found e is told =
    let s = look_of y x in
    let next : now ≡ record { cell = x.cell; heard = found ∷ x.heard } =
    told ∙ looked_load x found k s e in (
      ap (λ (z : Looking). z.cell) next,
      ap (λ (z : Looking). read_through words (look_of y z)) next ∙ read_behind words s k found
          (loads_rest (reader_script y x.cell) x.heard (reader_loads y x.cell)) e is,
    )

-- ---- all loads, one after the other

-- the loads of a script after a record: their answers, the newest first, and what comes of them
record Loaded (job : JobData) (y : LayoutData) (words : List ℕ) (before : Record)
    (script : Script Reading) (reading : Reading) (rest_after : Record) : Type 0 where
  answers : List ℕ
  over : rest script answers ≡ ends reading
  is : rest_after ≡ afters before (heard_in script answers)
  backed : Backed job y rest_after words

-- from a rest of the script on
load_all : (job : JobData) (y : LayoutData) (words : List ℕ) (before : Record)
    (script : Script Reading) (s : Script Reading) (r : Record) (answers : List ℕ) →
    Stands job y words → Loads s → rest script answers ≡ s →
    r ≡ afters before (heard_in script answers) → Backed job y r words →
    Loaded job y words before script (read_through words s) (record_loaded words r s)
load_all job y words before script (ends reading) r answers stands l at is backed =
    record { answers = answers; over = at; is = is; backed = backed }
load_all job y words before script (asks (Load k) next) r answers stands l at is backed =
    let found = slice_index words k in
    let longer : op_with (rest script answers) found ≡ (Load k, found) ∷ [] =
    ap (λ z. op_with z found) at in
    let now : after r (Load k) found ≡ afters before (heard_in script (found ∷ answers)) =
    ap (λ z. after z (Load k) found) is
    ∙ ap (λ (h : List (Op × ℕ)). afters before (h ++ heard_in script answers)) (sym longer) in
    load_all job y words before script (next found) (after r (Load k) found) (found ∷ answers)
    stands (l.1 found) (ap (λ z. rest_after z found) at) now
    (loads_keep job y r k words stands backed)
load_all job y words before script (asks (Store j v) next) r answers stands l at is backed =
    absurd l.0
load_all job y words before script (asks (Max j v) next) r answers stands l at is backed =
    absurd l.0
load_all job y words before script (asks (Swap j old new) next) r answers stands l at is backed =
    absurd l.0
load_all job y words before script (asks (Over e) next) r answers stands l at is backed = absurd l.0

lawful_over : (job : JobData) (y : LayoutData) (words : List ℕ) (before : Record)
    (c : ℕ) (reading : Reading) (rest_after : Record) → Stands job y words →
    c < y.cells → Loaded job y words before (reader_script y c) reading rest_after →
    IsLawfulRead job y before rest_after c (row_of_read reading).step (row_of_read reading).value
lawful_over job y words before c (At step value) rest_after stands cell l =
    subst (λ z. IsLawfulRead job y before z c step value) (sym l.is)
    (was_read job y before c step value l.answers cell l.over (record {
      words = words;
      stands = stands;
      backed = subst (λ z. Backed job y z words) l.is l.backed;
    })).0

-- *Lawful read*: what a reader gets from lawful words that bear out a record, after that record
lawful_in : (s : WorldData) (made : Record) (c : ℕ) →
    Stands s.job s.layout s.words → Backed s.job s.layout made s.words → c < s.layout.cells →
    IsLawfulRead s.job s.layout made (record_loaded s.words made (reader_script s.layout c)) c
    (read_in s c).step (read_in s c).value
lawful_in s made c stands backed cell =
    lawful_over s.job s.layout s.words made c (read_through s.words (reader_script s.layout c))
    (record_loaded s.words made (reader_script s.layout c)) stands cell
    (load_all s.job s.layout s.words made (reader_script s.layout c)
    (reader_script s.layout c) made [] stands (reader_loads s.layout c) refl refl backed)

some_same : (a b : ReadRow) → Some a ≡ Some b → a ≡ b
some_same a b e = cc

pub lawful_rows : (s : WorldData) (made : Record) (rows : List ReadRow) →
    Stands s.job s.layout s.words → Backed s.job s.layout made s.words →
    s.layout.cells ≡ s.job.cells → AreRead s rows → AreLawful s.job s made rows
lawful_rows s made rows stands backed cells read c row below is =
    let this : read_in s c ≡ row = some_same (read_in s c) row (sym (read c below) ∙ is) in
    subst (λ (x : ReadRow). IsLawfulRead s.job s.layout made
    (record_loaded s.words made (reader_script s.layout c)) c x.step x.value)
    this (lawful_in s made c stands backed (omega arith))
