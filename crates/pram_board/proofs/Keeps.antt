-- Each step on the board keeps its rule.
use Rattle.std.proofs.Common.{◌≡◌, ◌≢◌, ℕ, zero, suc, ◌==◌, max, true, false, List, [], ◌∷◌, ◌++◌}
use Rattle.std.proofs.Common.{set, slice_index, slice_set, refl, sym, subst, ⊎_elim, true≢false}
use Rattle.std.proofs.lemmas.List.{set-get_or}
use mathlib.Core.Option.{none, some, some-ne-none, some-injective}
use lib.ListN.{get_elem?}
use prog.Atomic.{either}
use Rattle.atomic_table.specs.Table.{State, Me, keeps, step, opening}
use Rattle.atomic_table.specs.Table.{Allows, Enters, Splits, Joins}
use Rattle.atomic_table.proofs.Lists.{at_set, at_snoc}
use Rattle.walkx.specs.declared.operation.Op.{Op}
use Rattle.walkx.specs.declared.operation.Op.TheVariants.{Load, Store, Max, Swap}
use Rattle.walkx.specs.Operations.{words_after, answer}
use Rattle.walkx.specs.Records.{Record, empty, after, both}
use Rattle.lawful_walk.specs.Board.{Stands, Grows}
use Rattle.lawful_walk.specs.Moments.{Backed, Sound, Keeps}
use Rattle.lawful_walk.proofs.Moments.{same, backed_later, backs}
use Rattle.lawful_walk.proofs.Sounding.{sound_of}
use Rattle.pram_board.specs.declared.task.Task.{Task}
use Rattle.pram_board.specs.declared.task.View.{View}
use Rattle.pram_board.specs.Rules.{idle_view, opened, united, viewing, BearsOut, Holds, SeatHeard}
use Rattle.pram_board.specs.Rules.{Loaded, Stored, RaisedWord, Swapped, May}

abbrev S : Type 0
S = State (Unit {0}) View

abbrev pub M : Type 0
M = Me (Unit {0}) View

-- ---- the views of all seats
-- one seat's view changes, and the words grow
set_seats : (t : Task) (words later : List ℕ) (views : List View) (id : ℕ) (w : View) →
    ((j : ℕ) (v : View) → get_elem? views j ≡ some v → v.live ≡ true →
    (v.task ≡ t) × Backed t.job t.layout v.heard words) → Grows t.layout words later →
    (w.live ≡ true → (w.task ≡ t) × Backed t.job t.layout w.heard later) →
    (j : ℕ) (v : View) → get_elem? (set views id w) j ≡ some v → v.live ≡ true →
    (v.task ≡ t) × Backed t.job t.layout v.heard later
set_seats t words later views id w all up mine j v e = ⊎_elim
    (λ (c : (j ≡ id) × (w ≡ v)). subst
    (λ (u : View). u.live ≡ true → (u.task ≡ t) × Backed t.job t.layout u.heard later) c.1 mine)
    (λ (c : (j ≢ id) × (get_elem? views j ≡ some v)). λ live.
    let old = all j v c.1 live in (old.0, backed_later t.job t.layout v.heard words later old.1 up))
    (at_set views id j w v e)

-- one more seat
more_seats : (t : Task) (words : List ℕ) (views : List View) (w : View) →
    ((j : ℕ) (v : View) → get_elem? views j ≡ some v →
    v.live ≡ true → (v.task ≡ t) × Backed t.job t.layout v.heard words) →
    (w.live ≡ true → (w.task ≡ t) × Backed t.job t.layout w.heard words) →
    (j : ℕ) (v : View) → get_elem? (views ++ w ∷ []) j ≡ some v → v.live ≡ true →
    (v.task ≡ t) × Backed t.job t.layout v.heard words
more_seats t words views w all mine j v e =
    ⊎_elim (λ (c : get_elem? views j ≡ some v). all j v c)
    (λ (c : w ≡ v).
    subst (λ (u : View). u.live ≡ true → (u.task ≡ t) × Backed t.job t.layout u.heard words) c mine)
    (at_snoc views w v j e)

off : false ≡ true → ⊥
off e = true≢false (sym e)

-- ---- a new board
pub opens : (t : Task) (words : List ℕ) → Stands t.job t.layout words →
    Holds t (opening words [] (opened t))
opens t words stands = record { stands = stands; seats = one }
  where
    one : (id : ℕ) (v : View) → get_elem? (opened t ∷ []) id ≡ some v →
        BearsOut t (opening words [] (opened t)) v
    one zero v e =
        subst (BearsOut t (opening words [] (opened t))) (some-injective _ _ e) (λ live. (refl, tt))
    one (suc id) v e = absurd (some-ne-none v (sym e))

-- ---- one atomic step
-- what is asked of a step, whatever its kind
pub allows : (t : Task) (slots id : ℕ) (me : M)
    (op : Op) (k : ℕ) (f : ℕ → ℕ) (then : ℕ → M → Type 0) → me.0.live ≡ true →
    ((words : List ℕ) → words_after words op ≡ slice_set words k (f (slice_index words k))) →
    ((words : List ℕ) (now : M) → SeatHeard op (answer words op) me now →
    then (slice_index words k) now) →
    ((words : List ℕ) → Stands t.job t.layout words → Backed t.job t.layout me.0.heard words →
    Keeps t.job t.layout op words) → Allows (Holds t) slots id me k f then
allows t slots id me op k f then live does tells may s holds homes at range =
    let mine : (me.0.task ≡ t) × Backed t.job t.layout me.0.heard s.words =
    holds.seats id me.0 at live in
    let m : Keeps t.job t.layout op s.words = may s.words holds.stands mine.1 in
    let w : View = record {
      live = me.0.live;
      task = me.0.task;
      heard = after me.0.heard op (answer s.words op);
    } in
    let later : List ℕ = words_after s.words op in
    let is : later ≡ slice_set s.words k (f (slice_index s.words k)) = does s.words in
    let backed : Backed t.job t.layout (after me.0.heard op (answer s.words op)) later =
    backs t.job t.layout me.0.heard op s.words holds.stands mine.1 m in
    let after_step : List ℕ → Type 0 =
    λ ws. Holds t record { words = ws; homes = s.homes; views = slice_set s.views id w } in (
      w,
      keeps,
      tt,
      subst after_step is (record {
        stands = m.stands;
        seats = set_seats t s.words later s.views id w holds.seats m.grows (λ _. (mine.0, backed));
      }),
      tells s.words (w, me.1) (
        refl,
        subst (λ (u : Task). Sound u.job u.layout (after me.0.heard op (answer s.words op)))
            (sym mine.0) (sound_of t.job t.layout
            (after me.0.heard op (answer s.words op)) later m.stands backed),
      ),
    )

-- the four kinds of step
pub loading : (t : Task) (slots id : ℕ) (me : M) (k : ℕ) →
    me.0.live ≡ true → May t me.0.heard (Load k) →
    Allows (Holds t) slots id me k (λ n. n) (Loaded (step slots k 0 0 none) me)
loading t slots id me k live may =
    allows t slots id me (Load k) k (λ n. n) (Loaded (step slots k 0 0 none) me) live
    (λ words. sym (set-get_or words k 0)) (λ words now h. h) may.1

pub storing : (t : Task) (slots id : ℕ) (me : M) (k value : ℕ) →
    me.0.live ≡ true → May t me.0.heard (Store k value) →
    Allows (Holds t) slots id me k (λ _. value) (λ _. Stored (step slots k value 0 none) me value)
storing t slots id me k value live may =
    allows t slots id me (Store k value) k (λ _. value)
    (λ _. Stored (step slots k value 0 none) me value) live (λ words. refl) (λ words now h. h) may.1

pub raising : (t : Task) (slots id : ℕ) (me : M) (k value : ℕ) →
    me.0.live ≡ true → May t me.0.heard (Max k value) →
    Allows (Holds t) slots id me k (λ n. max n value) (RaisedWord (step slots k value 0 none) me)
raising t slots id me k value live may =
    allows t slots id me (Max k value) k (λ n. max n value)
    (RaisedWord (step slots k value 0 none) me) live (λ words. refl) (λ words now h. h) may.1

pub swapping : (t : Task) (slots id : ℕ) (me : M) (k old new : ℕ) →
    me.0.live ≡ true → May t me.0.heard (Swap k old new) →
    Allows (Holds t) slots id me k (λ n. either (n == old) new n)
    (Swapped (step slots k old new none) me)
swapping t slots id me k old new live may =
    allows t slots id me (Swap k old new) k (λ n. either (n == old) new n)
    (Swapped (step slots k old new none) me) live (λ words. refl) (λ words now h. h) may.1

-- what a seat may do, said of what lies inside the seat
pub may_as : (key t : Task) (r q : Record) (op o : Op) → key ≡ t → r ≡ q →
    op ≡ o → May t q op → May key r o
may_as key t r q op o k e is may =
    subst (λ (x : Task × Record × Op). May x.0 x.1 x.2) (λ i. (sym k i, sym e i, is i)) may

-- ---- a seat without another one
-- its record is a load, which the words bear out
pub entering : (t : Task) (slots word : ℕ) → May t empty (Load word) →
    Enters (Holds t) slots word
    (λ found view. Loaded (step slots word 0 0 none) (opened t, []) found (view, []))
entering t slots word may s holds homes range =
    let known : Record = after empty (Load word) (slice_index s.words word) in
    let backed : Backed t.job t.layout known s.words =
    backs t.job t.layout empty (Load word) s.words holds.stands tt
    (may.1 s.words holds.stands tt) in (
      viewing t known,
      record {
        stands = holds.stands;
        seats = more_seats t s.words s.views (viewing t known) holds.seats (λ _. (refl, backed));
      },
      (refl, sound_of t.job t.layout known s.words holds.stands backed),
    )

-- ---- seats that are split and joined
pub splitting : (t : Task) (id : ℕ) (v : View) → Splits (Holds t) id v v v
splitting t id v s holds at =
    record {
      stands = holds.stands;
      seats = more_seats t s.words (set s.views id v) v
          (set_seats t s.words s.words s.views id v holds.seats (same t.layout s.words) mine) mine;
    }
  where
    mine : v.live ≡ true → (v.task ≡ t) × Backed t.job t.layout v.heard s.words
    mine = holds.seats id v at

pub joining : (t : Task) (id : ℕ) (v : View) (other : ℕ) (w : View) → w.live ≡ true →
    Joins (Holds t) id v other w (united v w) idle_view
joining t id v other w live s holds at apart there = record {
  stands = holds.stands;
  seats = set_seats t s.words s.words (set s.views id (united v w)) other idle_view
      (set_seats t s.words s.words s.views id (united v w) holds.seats (same t.layout s.words) mine)
      (same t.layout s.words) (λ l. absurd (off l));
}
  where
    theirs : (w.task ≡ t) × Backed t.job t.layout w.heard s.words
    theirs =
        ⊎_elim
        (λ (c : (other ≡ id) × (united v w ≡ w)). absurd (apart c.0))
        (λ (c : (other ≢ id) × (get_elem? s.views other ≡ some w)). holds.seats other w c.1 live)
        (at_set s.views id other (united v w) w there)

    mine : v.live ≡ true → (v.task ≡ t) × Backed t.job t.layout (both v.heard w.heard) s.words
    mine l = let p = holds.seats id v at l in (p.0, (p.1, theirs.1))
