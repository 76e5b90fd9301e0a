-- A reader's loads, and what they come to.
use Rattle.std.proofs.Common.{◌≡◌, ◌⊎◌, ℕ, ◌%◌, ◌==◌, ◌<◌, nat_le, List, []}
use Rattle.std.proofs.Common.{◌∷◌, ◌++◌, refl, sym, ap, subst, ◌∙◌, inl, inr}
use Rattle.std.proofs.lemmas.Bool.{cond_both}
use Rattle.pram_words.specs.Stamps.{stamp_of}
use Rattle.pram_words.specs.Words.{LayoutData}
use Rattle.walkx.specs.declared.operation.Op.{Op}
use Rattle.walkx.specs.declared.operation.Op.TheVariants.{Load, Store, Max, Swap, Over}
use Rattle.walkx.specs.declared.operation.ReadOp.TheVariants as read
use Rattle.walkx.specs.declared.operation.Reading.{Reading}
use Rattle.walkx.specs.declared.operation.Reading.TheVariants.{At}
use Rattle.walkx.specs.Reads.{Looking, look_of, looked, looks_for}
use Rattle.walkx.specs.Reads.{reader_script, read_script, step_seen}
use Rattle.walkx.specs.Records.{after}
use Rattle.walkx.specs.Scripts.{Script, asks, ends, rest_after, rest, op_with, heard_in}
use Rattle.lawful_walk.specs.Moments.{Sound, WasBacked}
use Rattle.lawful_walk.specs.Walks.{IsLawfulRead}
use Rattle.lawful_walk.specs.Moments.{afters}
use Rattle.lawful_walk.proofs.Sounding.{was_read}
use Rattle.pram_board.specs.declared.task.Task.{Task}
use Rattle.pram_board.specs.Seats.{SeatData, hears, WasRead}

-- ---- a script of loads

abbrev IsLoad : Op → Type 0
IsLoad (Load k) = Unit {0}
IsLoad _ = ⊥

abbrev Loads : Script Reading → Type 0
Loads (asks op next) = IsLoad op × ((found : ℕ) → Loads (next found))
Loads (ends r) = Unit {0}

read_loads : (y : LayoutData) (c s : ℕ) → Loads (read_script y c s)
unfolding read_script
read_loads y c s = (
  tt,
  λ a. (
    tt,
    λ b. cond_both (nat_le (stamp_of a) s) _ _ Loads
        (λ e. cond_both (nat_le (stamp_of b) s) _ _ Loads
        (λ f. tt) (λ f. (tt, λ again. cond_both (again == a) _ _ Loads (λ g. tt) (λ g. tt))))
        (λ e. cond_both (nat_le (stamp_of b) s) _ _ Loads (λ f. tt) (λ f. tt)),
  ),
)

reader_loads : (y : LayoutData) (c : ℕ) → Loads (reader_script y c)
unfolding reader_script
reader_loads y c = (
  tt,
  λ root. cond_both (root % 3 == 0) _ _ Loads
      (λ e. (tt, λ u. read_loads y c (step_seen root u))) (λ e. read_loads y c (step_seen root 0)),
)

loads_next : (s : Script Reading) (found : ℕ) → Loads s → Loads (rest_after s found)
loads_next (asks op next) found l = l.1 found
loads_next (ends r) found l = tt

loads_rest : (s : Script Reading) (answers : List ℕ) → Loads s → Loads (rest s answers)
loads_rest s [] l = l
loads_rest s (found ∷ earlier) l = loads_next (rest s earlier) found (loads_rest s earlier l)

-- ---- one load

with_load : (s : Script Reading) (k found : ℕ) → Loads s → looks_for s ≡ read.Load k →
    op_with s found ≡ (Load k, found) ∷ []
with_load (asks (Load j) next) k found l e =
    let same : j ≡ k = cc in ap (λ (n : ℕ). (Load n, found) ∷ []) same
with_load (asks (Store j v) next) k found l e = absurd l.0
with_load (asks (Max j v) next) k found l e = absurd l.0
with_load (asks (Swap j old new) next) k found l e = absurd l.0
with_load (asks (Over e') next) k found l e = absurd l.0
with_load (ends r) k found l e = absurd (cc)

looked_load : (x : Looking) (found k : ℕ) (s : Script Reading) → looks_for s ≡ read.Load k →
    looked x found s ≡ record { cell = x.cell; heard = found ∷ x.heard }
looked_load x found k (asks op next) e = refl
looked_load x found k (ends r) e = absurd (cc)

ends_as : (s : Script Reading) (r : Reading) → Loads s → looks_for s ≡ read.Over r → s ≡ ends r
ends_as (asks (Load j) next) r l e = absurd (cc)
ends_as (asks (Store j v) next) r l e = absurd l.0
ends_as (asks (Max j v) next) r l e = absurd l.0
ends_as (asks (Swap j old new) next) r l e = absurd l.0
ends_as (asks (Over e') next) r l e = absurd l.0
ends_as (ends r') r l e = let same : r' ≡ r = cc in ap (λ (x : Reading). ends x) same

starts_asking : (y : LayoutData) (c : ℕ) (r : Reading) → reader_script y c ≡ ends r → ⊥
unfolding reader_script
starts_asking y c r e = cc

-- ---- a reader under way: the seat has its loads, and they were borne out

pub record Looks (t : Task) (p q : SeatData) (c : ℕ) (x : Looking) : Type 0 where
  pub cell : x.cell ≡ c
  pub is : q ≡ record {
    desk = p.desk;
    record_of = afters p.record_of (heard_in (reader_script t.layout c) x.heard);
  }
  pub was : (x.heard ≡ []) ⊎ WasBacked t.job t.layout q.record_of

pub looks_at_first : (t : Task) (p : SeatData) (c : ℕ) (x : Looking) →
    x ≡ record { cell = c; heard = [] } → Looks t p p c x
looks_at_first t p c x e =
    subst (Looks t p p c) (sym e) (record { cell = refl; is = refl; was = inl refl })

-- the seat and the reader with one load more
pub looks_on : (t : Task) (p q : SeatData)
    (c k found : ℕ) (x : Looking) (q' : SeatData) (x' : Looking) →
    Looks t p q c x → looks_for (look_of t.layout x) ≡ read.Load k → q' ≡ hears q (Load k) found →
    Sound t.job t.layout q'.record_of → x' ≡ looked x found (look_of t.layout x) →
    Looks t p q' c x'
looks_on t p q c k found x q' x' l e grows sound told =
    let s : Script Reading = rest (reader_script t.layout c) x.heard in
    let es : looks_for s ≡ read.Load k =
    ap (λ (n : ℕ). looks_for (rest (reader_script t.layout n) x.heard)) (sym l.cell) ∙ e in
    let made : op_with s found ≡ (Load k, found) ∷ [] = with_load s k found
    (loads_rest (reader_script t.layout c) x.heard (reader_loads t.layout c)) es in
    let now : x' ≡ record { cell = x.cell; heard = found ∷ x.heard } =
    told ∙ looked_load x found k (look_of t.layout x) e in
    let longer : q' ≡ record {
      desk = p.desk;
      record_of = afters p.record_of (heard_in (reader_script t.layout c) (found ∷ x.heard));
    } =
    grows ∙ ap (λ (z : SeatData). hears z (Load k) found) l.is ∙ ap (λ (h : List (Op × ℕ)). record {
      desk = p.desk;
      record_of = afters p.record_of (h ++ heard_in (reader_script t.layout c) x.heard);
    }) (sym made) in
    let was : WasBacked t.job t.layout (after q.record_of (Load k) found) =
    subst (λ (z : SeatData). Sound t.job t.layout z.record_of) grows sound in
    subst (Looks t p q' c) (sym now) (record {
      cell = l.cell;
      is = longer;
      was = inr (subst (λ (z : SeatData). WasBacked t.job t.layout z.record_of) (sym grows) was);
    })

was_read_now : (t : Task) (p q : SeatData) (c : ℕ) (answers : List ℕ) (reading : Reading) →
    c < t.layout.cells → q ≡ record {
      desk = p.desk;
      record_of = afters p.record_of (heard_in (reader_script t.layout c) answers);
    } →
    rest (reader_script t.layout c) answers ≡ ends reading →
    WasBacked t.job t.layout q.record_of → WasRead t p q c reading
was_read_now t p q c answers (At step value) cell is over was =
    let w : WasBacked t.job t.layout
    (afters p.record_of (heard_in (reader_script t.layout c) answers)) =
    subst (λ (z : SeatData). WasBacked t.job t.layout z.record_of) is was in
    record {
      answers = answers;
      is = is;
      over = over;
      few = (was_read t.job t.layout p.record_of c step value answers cell over w).1;
      lawful =
          subst (λ (z : SeatData). IsLawfulRead t.job t.layout p.record_of z.record_of c step value)
          (sym is) ((was_read t.job t.layout p.record_of c step value answers cell over w).0);
    }

-- the end of a reader
pub looks_over : (t : Task) (p q : SeatData) (c : ℕ) (x : Looking) (reading : Reading) →
    c < t.layout.cells → Looks t p q c x →
    looks_for (look_of t.layout x) ≡ read.Over reading → WasRead t p q c reading
looks_over t p q c x reading cell l e =
    let over : rest (reader_script t.layout c) x.heard ≡ ends reading =
    ends_as (rest (reader_script t.layout c) x.heard) reading
    (loads_rest (reader_script t.layout c) x.heard (reader_loads t.layout c))
    (ap (λ (n : ℕ). looks_for (rest (reader_script t.layout n) x.heard)) (sym l.cell) ∙ e) in
    elim l.was [
      | inl none ↦ absurd (starts_asking t.layout c reading
          (subst (λ (h : List ℕ). rest (reader_script t.layout c) h ≡ ends reading) none over))
      | inr was ↦ was_read_now t p q c x.heard reading cell l.is over was
    ]
