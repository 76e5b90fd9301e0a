-- What one row more makes of a worker that obeys them.
use Rattle.std.proofs.Common.{◌≡◌, ◌≢◌, ℕ, ◌+◌, ◌<◌, ◌≤◌, List, ◌∷◌, None, drop}
use Rattle.std.proofs.Common.{length, get_or, add-one, ap, inl, inr, sym, subst, ◌∙◌}
use Rattle.std.proofs.Math.Seq.{drop-cons}
use Rattle.std.proofs.lemmas.List.{drop_all}
use Rattle.walkx.specs.Walk.{Walking}
use Rattle.stop_plan.specs.declared.plan.Act.TheVariants.{Stop}
use Rattle.stop_plan.specs.declared.plan.Row.{Row}
use Rattle.pram_board.specs.declared.task.Task.{Task}
use Rattle.pram_board.specs.declared.work.Stay.{Stay}
use Rattle.pram_board.specs.Seats.{SeatData}
use Rattle.pram_board.specs.Worked.{Worked}
use Rattle.pram_run.specs.Obeyed.{DoesRow, Obeys}

next_row : (rows : List Row) (i : ℕ) (d : Row) → i < length rows →
    drop i rows ≡ get_or rows i d ∷ drop (i + 1) rows
next_row rows i d lt =
    drop-cons rows i d lt ∙ ap (λ (n : ℕ). get_or rows i d ∷ drop n rows) (sym (add-one i))

pub other_row : (t : Task) (number : ℕ) (rows : List Row) (i : ℕ) (d : Row)
    (p : SeatData) (w : Walking) (q : SeatData) →
    i < length rows → (get_or rows i d).worker ≢ number →
    Obeys t number (drop (i + 1) rows) p w q → Obeys t number (drop i rows) p w q
other_row t number rows i d p w q lt apart h =
    subst (λ (rs : List Row). Obeys t number rs p w q) (sym (next_row rows i d lt)) (inl (apart, h))

pub own_row : (t : Task) (number : ℕ) (rows : List Row) (i : ℕ) (d : Row) (p : SeatData)
    (w : Walking) (next : SeatData) (now : Walking) (q : SeatData) → i < length rows →
    (get_or rows i d).worker ≡ number → (get_or rows i d).act ≢ Stop →
    DoesRow t (get_or rows i d) p w next now → Obeys t number (drop (i + 1) rows) next now q →
    Obeys t number (drop i rows) p w q
own_row t number rows i d p w next now q lt own goes does h =
    subst (λ (rs : List Row). Obeys t number rs p w q) (sym (next_row rows i d lt))
    (inr (inr (own, goes, next, now, does, h)))

pub stop_row : (t : Task) (number : ℕ) (rows : List Row) (i : ℕ)
    (d : Row) (p : SeatData) (w : Walking)
    (q : SeatData) → i < length rows → (get_or rows i d).worker ≡ number →
    (get_or rows i d).act ≡ Stop → q ≡ p → Obeys t number (drop i rows) p w q
stop_row t number rows i d p w q lt own stops is =
    subst (λ (rs : List Row). Obeys t number rs p w q)
    (sym (next_row rows i d lt)) (inr (inl (own, stops, is)))

pub no_row : (t : Task) (number : ℕ) (rows : List Row)
    (i : ℕ) (p : SeatData) (w : Walking) (q : SeatData) (now : Walking) (stay : Stay) →
    length rows ≤ i → Worked t p w None q now stay → Obeys t number (drop i rows) p w q
no_row t number rows i p w q now stay le worked = subst (λ (rs : List Row). Obeys t number rs p w q)
    (sym (drop_all i rows le)) (now, stay, worked)
