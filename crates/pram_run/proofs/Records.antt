-- Records that begin with other ones: what was heard stays heard.
use Rattle.std.proofs.Common.{◌≡◌, ℕ, ◌*◌, ◌≤◌, ◌<◌, List, [], ◌∷◌}
use Rattle.std.proofs.Common.{refl, sym, subst, inl, inr, arith}
use Rattle.std.proofs.lemmas.Bool.{cases_lt}
use Rattle.pram_words.specs.declared.words.Word.{Word}
use Rattle.pram_words.specs.declared.words.Word.TheVariants.{Conflict, Node, Stored}
use Rattle.pram_words.specs.Words.{LayoutData}
use Rattle.walkx.specs.declared.operation.Op.{Op}
use Rattle.walkx.specs.Records.{Record, empty, after, both, Has}
use Rattle.walkx.proofs.Knowing.{has_earlier}
use Rattle.lawful_walk.specs.Moments.{afters}
use Rattle.lawful_walk.specs.Seen.{Heard, HeardThen, Shows, KnowsStep, BeginsWith}

-- ---- a record begins with itself, and so on

pub begins_self : (r : Record) → BeginsWith r r
begins_self empty = refl
begins_self (after r op found) = inl refl
begins_self (both r s) = inl refl

pub begins_trans : (a b c : Record) → BeginsWith a b → BeginsWith b c → BeginsWith a c
begins_trans a b empty h k = subst (λ (r : Record). BeginsWith a r) (sym k) h
begins_trans a b (after r op found) h (inl is) = subst (λ (r : Record). BeginsWith a r) (sym is) h
begins_trans a b (after r op found) h (inr k) = inr (begins_trans a b r h k)
begins_trans a b (both r s) h (inl is) = subst (λ (r : Record). BeginsWith a r) (sym is) h
begins_trans a b (both r s) h (inr k) = inr (begins_trans a b r h k.0, begins_trans a b s h k.1)

pub begins_afters : (r : Record) (es : List (Op × ℕ)) → BeginsWith r (afters r es)
begins_afters r [] = begins_self r
begins_afters r (e ∷ es) = inr (begins_afters r es)

-- ---- what one record has, another one has

abbrev pub HasAll : Record → Record → Type 0
HasAll r later = (e : Op × ℕ) (es : List (Op × ℕ)) → Has r (e ∷ es) → Has later (e ∷ es)

pub begins_all : (r later : Record) → BeginsWith r later → HasAll r later
begins_all r empty is e es h = subst (λ (s : Record). Has s (e ∷ es)) (sym is) h
begins_all r (after s op found) (inl is) e es h = subst (λ (s : Record). Has s (e ∷ es)) (sym is) h
begins_all r (after s op found) (inr b) e es h = inr (begins_all r s b e es h)
begins_all r (both s t) (inl is) e es h = subst (λ (s : Record). Has s (e ∷ es)) (sym is) h
begins_all r (both s t) (inr b) e es h = inl (begins_all r s b.0 e es h)

pub left_all : (r s : Record) → HasAll r (both r s)
left_all r s e es h = inl h

pub right_all : (r s : Record) → HasAll s (both r s)
right_all r s e es h = inr h

pub heard_all : (y : LayoutData) (r later : Record) (word : Word) (a : ℕ) → HasAll r later →
    Heard y r word a → Heard y later word a
heard_all y r later word a all h =
    record { op = h.op; hears = h.hears; has = all (h.op, a) [] h.has }

then_all : (y : LayoutData) (r later : Record) (word other : Word) (a b : ℕ) → HasAll r later →
    HeardThen y r word a other b → HeardThen y later word a other b
then_all y r later word other a b all h =
    record {
      op = h.op;
      next = h.next;
      hears = h.hears;
      hears_next = h.hears_next;
      has = all (h.next, b) ((h.op, a) ∷ []) h.has;
    }

pub shows_all : (y : LayoutData) (r later : Record) (t : ℕ) →
    HasAll r later → Shows y r t → Shows y later t
shows_all y r later t all (inl s) = inl (s.0, s.1, heard_all y r later (Node 1) s.0 all s.2)
shows_all y r later t all (inr (inl s)) =
    inr (inl (s.0, s.1, then_all y r later (Node 1) Conflict (3 * t) s.0 all s.2))
shows_all y r later t all (inr (inr s)) = inr (inr (s.0, heard_all y r later (Node 1) 0 all s.1))

pub knows_all : (y : LayoutData) (r later : Record) (t : ℕ) → HasAll r later →
    KnowsStep y r t → KnowsStep y later t
knows_all y r later t all (inl s) = inl (shows_all y r later t all s)
knows_all y r later t all (inr s) =
    inr (s.0, s.1, s.2, s.3, s.4, heard_all y r later (Stored s.0 s.1) s.2 all s.5)

-- ---- an earlier step is shown, too

first_of : (y : LayoutData) (r : Record) (word other : Word) (a b : ℕ) →
    HeardThen y r word a other b → Heard y r word a
first_of y r word other a b h =
    record { op = h.op; hears = h.hears; has = has_earlier r (h.next, b) ((h.op, a) ∷ []) h.has }

pub shows_earlier : (y : LayoutData) (r : Record) (s t : ℕ) → t ≤ s → Shows y r s → Shows y r t
shows_earlier y r s t le shows = elim (cases_lt t s) [
  | inl low ↦ by shows low
  | inr high ↦ subst (λ (k : ℕ). Shows y r k) (let e : s ≡ t = omega arith in e) shows
]
  where
    by : Shows y r s → t < s → Shows y r t
    by (inl h) low = inl (h.0, (omega arith), h.2)
    by (inr (inl h)) low =
        inl (3 * s, (omega arith), first_of y r (Node 1) Conflict (3 * s) h.0 h.2)
    by (inr (inr h)) low = absurd (omega arith)
