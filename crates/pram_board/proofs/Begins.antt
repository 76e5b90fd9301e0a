-- Records that begin with another one, and what a longer or a joined record knows.
use Rattle.std.proofs.Common.{ℕ, ◌*◌, List, [], ◌∷◌, refl, inl, inr}
use Rattle.pram_words.specs.declared.words.Word.{Word}
use Rattle.pram_words.specs.declared.words.Word.TheVariants.{Node, Stored}
use Rattle.pram_words.specs.Words.{LayoutData}
use Rattle.walkx.specs.declared.operation.Op.{Op}
use Rattle.walkx.specs.Records.{Record, empty, after, both, Has}
use Rattle.walkx.proofs.Knowing.{has_left, has_more, has_right}
use Rattle.lawful_walk.specs.Moments.{afters}
use Rattle.lawful_walk.specs.Seen.{BeginsWith, Heard, Shows, KnowsStep}
use Rattle.lawful_walk.proofs.Knowing.{heard_too, shows_too, knows_too}

pub begins_self : (r : Record) → BeginsWith r r
begins_self empty = refl
begins_self (after r op found) = inl refl
begins_self (both r s) = inl refl

pub begins_afters : (first r : Record) (steps : List (Op × ℕ)) → BeginsWith first r →
    BeginsWith first (afters r steps)
begins_afters first r [] begins = begins
begins_afters first r (e ∷ es) begins = inr (begins_afters first r es begins)

pub begins_both : (first r s : Record) → BeginsWith first r →
    BeginsWith first s → BeginsWith first (both r s)
begins_both first r s begins begins_too = inr (begins, begins_too)

-- ---- more steps

pub has_afters : (r : Record) (steps es : List (Op × ℕ)) → Has r es → Has (afters r steps) es
has_afters r [] es has = has
has_afters r (e ∷ steps) es has = has_more (afters r steps) e.0 e.1 es (has_afters r steps es has)

pub heard_afters : (y : LayoutData) (r : Record) (steps : List (Op × ℕ)) (word : Word) (a : ℕ) →
    Heard y r word a → Heard y (afters r steps) word a
heard_afters y r [] word a heard = heard
heard_afters y r (e ∷ es) word a heard =
    heard_too y (afters r es) e.0 e.1 word a (heard_afters y r es word a heard)

pub shows_afters : (y : LayoutData) (r : Record) (steps : List (Op × ℕ)) (t : ℕ) →
    Shows y r t → Shows y (afters r steps) t
shows_afters y r [] t shows = shows
shows_afters y r (e ∷ es) t shows =
    shows_too y (afters r es) e.0 e.1 t (shows_afters y r es t shows)

pub knows_afters : (y : LayoutData) (r : Record) (steps : List (Op × ℕ)) (t : ℕ) → KnowsStep y r t →
    KnowsStep y (afters r steps) t
knows_afters y r [] t knows = knows
knows_afters y r (e ∷ es) t knows =
    knows_too y (afters r es) e.0 e.1 t (knows_afters y r es t knows)

-- ---- a joined record

pub heard_left : (y : LayoutData) (r s : Record) (word : Word) (a : ℕ) →
    Heard y r word a → Heard y (both r s) word a
heard_left y r s word a h =
    record { op = h.op; hears = h.hears; has = has_left r s ((h.op, a) ∷ []) h.has }

pub heard_right : (y : LayoutData) (r s : Record) (word : Word) (a : ℕ) →
    Heard y s word a → Heard y (both r s) word a
heard_right y r s word a h =
    record { op = h.op; hears = h.hears; has = has_right r s ((h.op, a) ∷ []) h.has }

pub shows_left : (y : LayoutData) (r s : Record) (t : ℕ) → Shows y r t → Shows y (both r s) t
shows_left y r s t (inl h) = inl (h.0, h.1, heard_left y r s (Node 1) h.0 h.2)
shows_left y r s t (inr (inl h)) =
    let g = h.2 in inr (inl (
      h.0,
      h.1,
      record {
        op = g.op;
        next = g.next;
        hears = g.hears;
        hears_next = g.hears_next;
        has = has_left r s ((g.next, h.0) ∷ (g.op, 3 * t) ∷ []) g.has;
      },
    ))
shows_left y r s t (inr (inr h)) = inr (inr (h.0, heard_left y r s (Node 1) 0 h.1))

pub shows_right : (y : LayoutData) (r s : Record) (t : ℕ) → Shows y s t → Shows y (both r s) t
shows_right y r s t (inl h) = inl (h.0, h.1, heard_right y r s (Node 1) h.0 h.2)
shows_right y r s t (inr (inl h)) =
    let g = h.2 in inr (inl (
      h.0,
      h.1,
      record {
        op = g.op;
        next = g.next;
        hears = g.hears;
        hears_next = g.hears_next;
        has = has_right r s ((g.next, h.0) ∷ (g.op, 3 * t) ∷ []) g.has;
      },
    ))
shows_right y r s t (inr (inr h)) = inr (inr (h.0, heard_right y r s (Node 1) 0 h.1))

pub knows_left : (y : LayoutData) (r s : Record) (t : ℕ) →
    KnowsStep y r t → KnowsStep y (both r s) t
knows_left y r s t (inl h) = inl (shows_left y r s t h)
knows_left y r s t (inr h) =
    inr (h.0, h.1, h.2, h.3, h.4, heard_left y r s (Stored h.0 h.1) h.2 h.5)

pub knows_right : (y : LayoutData) (r s : Record) (t : ℕ) →
    KnowsStep y s t → KnowsStep y (both r s) t
knows_right y r s t (inl h) = inl (shows_right y r s t h)
knows_right y r s t (inr h) =
    inr (h.0, h.1, h.2, h.3, h.4, heard_right y r s (Stored h.0 h.1) h.2 h.5)
