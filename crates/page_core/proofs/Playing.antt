-- Events that are played one after the other.
use Rattle.std.proofs.Common.{arith, ◌≡◌, ◌⊎◌, ℕ, zero, suc, ◌+◌, ◌-◌, ◌<◌, ◌≤◌, List}
use Rattle.std.proofs.Common.{[], ◌∷◌, ◌++◌, length, map, take, slice_get, slice_set}
use Rattle.std.proofs.Common.{get_or, Some, refl, sym, ap, subst, ◌∙◌, inl, inr}
use Rattle.std.proofs.lemmas.Bool.{cases_lt}
use Rattle.std.proofs.lemmas.List.{length-set}
use Rattle.std.proofs.lemmas.Option.{slice_get_within}
use Rattle.pram_words.specs.declared.layout.Form.TheVariants.{Compact}
use Rattle.pram_job.specs.Job.{JobData, IsJob}
use Rattle.pram_text.specs.Text.{Spells}
use Rattle.pram_text.proofs.Lawful.{spells_lawful}
use Rattle.pram_words.specs.Words.{LayoutData, layout_of}
use Rattle.lawful_walk.specs.Board.{Stands}
use Rattle.lawful_walk.specs.Moments.{Backed}
use Rattle.pram_world.specs.Laws.{IsLawfulRun}
use Rattle.pram_world.specs.Runs.{Run, acted, all_acted, StartFits, StartsFit}
use Rattle.pram_world.proofs.Counting.{board_after}
use Rattle.pram_world.proofs.Interleaving.{RunHolds, all_hold, lawful_run}
use Rattle.pram_world.proofs.Keeping.{holds_start}
use Rattle.page_core.specs.declared.text.Refusal.TheVariants.{Memory}
use Rattle.page_core.specs.Texts.{IsRefused}
use Rattle.pram_world.specs.Worlds.{WorldData, start_compact, world_after}
use Rattle.pram_world.specs.declared.event.Effect.{Effect}
use Rattle.page_core.specs.declared.board.Event.{Event}
use Rattle.page_core.specs.declared.board.Hindrance.{Hindrance}
use Rattle.page_core.specs.declared.board.Hindrance.TheVariants.{Refused, BadWorkers, BadEvent}
use Rattle.page_core.specs.declared.bodies.BodyRow.{BodyRow}
use Rattle.page_core.specs.declared.rows.EventRow.{EventRow}
use Rattle.page_core.specs.declared.scene.Scene.{Scene}
use Rattle.page_core.specs.declared.words.WordRow.{WordRow}
use Rattle.page_core.specs.declared.finding.Finding.TheVariants.{Done}
use Rattle.page_core.specs.declared.reads.ReadRow.{ReadRow}
use Rattle.page_core.specs.Answers.{AreLawful, AreRead, AreReadsFound}
use Rattle.page_core.specs.Events.{AreKnown, BoardAfter, IsBoardAfter, IsHindered}
use Rattle.page_core.specs.Events.{IsHinderedFrom, IsKnown, IsEventMade, IsRunFrom}
use Rattle.page_core.specs.Events.{act_of_event, effect_by, run_from, run_of, run_opened}
use Rattle.page_core.specs.Scenes.{AreShown, IsBoardTold, IsNoted, IsScene, IsWatched}
use Rattle.page_core.specs.Scenes.{count_shown, event_row, row_after_event}
use Rattle.page_core.proofs.Buffers.{nat_cases, set_other, set_same}
use Rattle.page_core.proofs.Loads.{lawful_rows, same_cells}

-- the rows of the events before n, as far as there is room
abbrev pub ShownTo : ℕ → Run → List Event → ℕ → List EventRow → Type 0
ShownTo n r events from rows =
    (i : ℕ) (e : Event) → from + i < n → i < length rows → slice_get events (from + i) ≡ Some e
    → slice_get rows i ≡ Some (event_row (run_from r (take (from + i) events)).world e)

take_suc : {X : Type 0} (xs : List X) (n : ℕ) (x : X) → slice_get xs n ≡ Some x →
    take (suc n) xs ≡ take n xs ++ x ∷ []
take_suc [] n x e = absurd (cc)
take_suc (z ∷ zs) zero x e = let same : z ≡ x = cc in ap (λ v. v ∷ []) same
take_suc (z ∷ zs) (suc n) x e = ap (λ v. z ∷ v) (take_suc zs n x e)

one_more : (n : ℕ) → suc n ≡ n + 1
one_more n = omega arith

take_next : {X : Type 0} (xs : List X) (n : ℕ) (x : X) → slice_get xs n ≡ Some x →
    take (n + 1) xs ≡ take n xs ++ x ∷ []
take_next xs n x e = subst (λ k. take k xs ≡ take n xs ++ x ∷ []) (one_more n) (take_suc xs n x e)

pub item_at : {X : Type 0} (xs : List X) (n : ℕ) (x : X) → n < length xs →
    x ≡ get_or xs n x → slice_get xs n ≡ Some x
item_at [] n x h e = absurd (omega arith)
item_at (z ∷ zs) zero x h e = ap Some (sym e)
item_at (z ∷ zs) (suc n) x h e = item_at zs n x (omega arith) e

run_next : (r : Run) (es : List Event) (e : Event) →
    run_from r (es ++ e ∷ []) ≡ acted (run_from r es) (act_of_event e)
run_next r [] e = refl
run_next r (f ∷ es) e = run_next (acted r (act_of_event f)) es e

known_next : (r : Run) (es : List Event) (e : Event) → AreKnown r es →
    IsKnown (run_from r es).world e → AreKnown r (es ++ e ∷ [])
known_next r [] e k new = (new, tt)
known_next r (f ∷ es) e k new = (k.0, known_next (acted r (act_of_event f)) es e k.1 new)

pub run_more : (r : Run) (events : List Event) (n : ℕ) (e : Event) (s now : WorldData)
    (effect : Effect) → slice_get events n ≡ Some e → IsRunFrom r (take n events) s →
    IsEventMade s e now effect → IsRunFrom r (take (n + 1) events) now
run_more r events n e s now effect at before made =
    let front = take n events in
    subst (λ es. IsRunFrom r es now) (sym (take_next events n e at)) (record {
      known = known_next r front e before.known (subst (λ w. IsKnown w e) before.world made.known);
      world = made.world ∙ ap (λ w. world_after w (act_of_event e)) before.world
          ∙ sym (ap (λ (x : Run). x.world) (run_next r front e));
    })

-- a row that is written
row_made : (s now : WorldData) (e : Event) (effect : Effect) (row : EventRow) (bodies : ℕ) →
    bodies ≡ length s.bodies → IsEventMade s e now effect →
    row ≡ row_after_event now e bodies effect → row ≡ event_row s e
row_made s now e effect row bodies count made is =
    is ∙ ap (λ w. row_after_event w e bodies effect) made.world
    ∙ ap (λ f. row_after_event (world_after s (act_of_event e)) e bodies f) made.effect_is
    ∙ ap (λ b. row_after_event (world_after s (act_of_event e)) e b (effect_by s (act_of_event e))) count

pub shown_more : (r : Run) (events : List Event) (from n : ℕ) (rows : List EventRow)
    (e : Event) (s now : WorldData) (effect : Effect) (row : EventRow) (bodies : ℕ) →
    slice_get events n ≡ Some e → IsRunFrom r (take n events) s →
    IsEventMade s e now effect → bodies ≡ length s.bodies →
    row ≡ row_after_event now e bodies effect →
    from ≤ n → n - from < length rows → ShownTo n r events from rows →
    ShownTo (n + 1) r events from (slice_set rows (n - from) row)
shown_more r events from n rows e
    s now effect row bodies at run made count is low room before i f below within item =
    elim (nat_cases i (n - from)) [
      | inl same ↦
          let here : from + i ≡ n = omega arith in
          let this : Some e ≡ Some f =
          sym at ∙ subst (λ k. slice_get events k ≡ Some f) here item in
          let event : e ≡ f = cc in
          let row_is : row ≡ event_row (run_from r (take (from + i) events)).world f =
          row_made s now e effect row bodies count made is ∙ ap (λ w. event_row w e)
          (run.world ∙ ap (λ k. (run_from r (take k events)).world) (sym here))
          ∙ ap (event_row (run_from r (take (from + i) events)).world) event in
          subst (λ k. slice_get (slice_set rows (n - from) row) k ≡ Some row)
          (sym same) (set_same rows (n - from) row room) ∙ ap Some row_is
      | inr apart ↦ set_other rows (n - from) i row apart
          ∙ before i f (omega arith) (omega (arith, length-set {A = EventRow})) item
    ]

pub shown_kept : (r : Run) (events : List Event) (from n : ℕ) (rows : List EventRow) →
    (from ≤ n → n - from < length rows → ⊥) → ShownTo n r events from rows →
    ShownTo (n + 1) r events from rows
shown_kept r events from n rows out before i f below within item =
    elim (nat_cases (from + i) n) [
      | inl same ↦ absurd (out (omega arith) (omega arith))
      | inr apart ↦ before i f (omega arith) within item
    ]

-- by what became of its row
pub shown_next : (r : Run) (events : List Event) (from n : ℕ) (rows new : List EventRow)
    (e : Event) (s now : WorldData) (effect : Effect) (bodies : ℕ) → slice_get events n ≡ Some e →
    IsRunFrom r (take n events) s → IsEventMade s e now effect → bodies ≡ length s.bodies →
    IsNoted (row_after_event now e bodies effect) from n rows new → ShownTo n r events from rows →
    ShownTo (n + 1) r events from new
shown_next r events from n rows new e s now effect bodies at run made count noted before =
    let row = row_after_event now e bodies effect in
    elim (cases_lt n from) [
      | inl early ↦
          subst (ShownTo (n + 1) r events from) (sym (noted.outside (λ low room. omega arith)))
          (shown_kept r events from n rows (λ low room. omega arith) before)
      | inr low ↦ elim (cases_lt (n - from) (length rows)) [
        | inl room ↦ subst (ShownTo (n + 1) r events from) (sym (noted.inside low room))
            (shown_more r events from n rows
            e s now effect row bodies at run made count refl low room before)
        | inr full ↦
            subst (ShownTo (n + 1) r events from) (sym (noted.outside (λ low room. omega arith)))
            (shown_kept r events from n rows (λ low room. omega arith) before)
      ]
    ]

-- all rows
pub shown_all : (r : Run) (events : List Event) (from n : ℕ) (rows : List EventRow) →
    length events ≤ n → ShownTo n r events from rows → AreShown r events from rows
shown_all r events from n rows over shown i e within item =
    let below : from + i < length events = slice_get_within events (from + i) e item in
    shown i e (omega arith) within item

-- ---- the law of runs holds of what is played

-- an event that is known is a twin of one of the workers, if it is a twin
act_fits : (workers kind body bodies : ℕ) →
    ((kind < 3) × (body < bodies)) ⊎ ((kind ≡ 3) × (body < workers)) →
    StartFits workers (act_of_event (record { kind = kind; body = body }))
act_fits workers zero body bodies known = tt
act_fits workers (suc zero) body bodies known = tt
act_fits workers (suc (suc zero)) body bodies known = tt
act_fits workers (suc (suc (suc zero))) body bodies (inl known) = absurd (omega arith)
act_fits workers (suc (suc (suc zero))) body bodies (inr known) = known.1
act_fits workers (suc (suc (suc (suc more)))) body bodies (inl known) = absurd (omega arith)
act_fits workers (suc (suc (suc (suc more)))) body bodies (inr known) = absurd (omega arith)

-- what holds of a run holds of the one that a page opens
opened_holds : (job : JobData) (workers : ℕ) → IsJob job → 1 ≤ workers → workers ≤ 64 →
    RunHolds job (layout_of job Compact workers) (run_opened job workers)
opened_holds job workers limits some most = record {
  job_stays = refl;
  board_stays = refl;
  holds = holds_start job workers limits some most;
  observed = tt;
}

starts_fit : (workers : ℕ) (r : Run) (events : List Event) → r.world.layout.workers ≡ workers →
    AreKnown r events → StartsFit workers (map act_of_event events)
starts_fit workers r [] is known = tt
starts_fit workers r (e ∷ es) is known =
    let stays : (acted r (act_of_event e)).world.layout.workers ≡ workers =
    ap (λ (y : LayoutData). y.workers) (board_after r.world (act_of_event e)).1 ∙ is in (
      subst (λ n. StartFits n (act_of_event e)) is
          (act_fits r.world.layout.workers e.kind e.body (length r.world.bodies) known.0),
      starts_fit workers (acted r (act_of_event e)) es stays known.1,
    )

played_lawfully : (text : List ℕ) (job : JobData) (workers : ℕ) (events : List Event) →
    Spells text job → 1 ≤ workers → workers ≤ 64 → AreKnown (run_opened job workers) events →
    IsLawfulRun job Compact workers (run_of job workers events)
played_lawfully text job workers events spells some most known =
    let r = run_opened job workers in
    let acts = map act_of_event events in
    lawful_run job Compact workers (all_acted r acts)
    (all_hold job (layout_of job Compact workers) r acts (starts_fit workers r events refl known)
    (opened_holds job workers (spells_lawful text job spells) some most))

-- ---- the board of a text

board_run : (text : List ℕ) (workers : ℕ) (events : List Event) (job : JobData) (now : WorldData) →
    Spells text job → 1 ≤ workers → workers ≤ 64 →
    IsRunFrom (run_opened job workers) events now → BoardAfter workers events now job
board_run text workers events job now spells some most run =
    let law = played_lawfully text job workers events spells some most run.known in
    record {
      some = some;
      most = most;
      run = run;
      job_stays = ap (λ (w : WorldData). w.job) run.world ∙ law.job_stays;
      lawful = law;
    }

pub board_first : (text : List ℕ) (workers : ℕ) (job : JobData) (s : WorldData) → Spells text job →
    1 ≤ workers → workers ≤ 64 → s ≡ start_compact job workers → IsBoardAfter text workers [] s
board_first text workers job s spells some most is = (
  job,
  spells,
  board_run text workers [] job s spells some most (record { known = tt; world = is }),
)

pub hindered_text : (text : List ℕ) (workers : ℕ) (events : List Event)
    (s : WorldData) (h : Hindrance) → IsBoardAfter text workers [] s →
    ((r : Run) → r.world ≡ s → IsHinderedFrom r events h) → IsHindered text workers events h
hindered_text text workers events s (Refused refusal) board found =
    subst (IsRefused text) (sym (found (run_opened board.0 workers) (sym board.2.run.world)))
    tt
hindered_text text workers events s BadWorkers board found =
    absurd (found (run_opened board.0 workers) (sym board.2.run.world))
hindered_text text workers events s (BadEvent n) board found =
    (board.0, board.1, found (run_opened board.0 workers) (sym board.2.run.world))

pub memory_out : (text : List ℕ) (workers : ℕ) (events : List Event) (h : Hindrance) →
    h ≡ Refused Memory → IsHindered text workers events h
memory_out text workers events h is = subst (IsHindered text workers events) (sym is) tt

pub watched_text : (text : List ℕ) (workers : ℕ) (events : List Event) (from : ℕ)
    (rows : List EventRow) (s now : WorldData) →
    IsBoardAfter text workers [] s → ((r : Run) → r.world ≡ s → IsRunFrom r events now) →
    ((r : Run) → r.world ≡ s → AreShown r events from rows) →
    IsWatched text workers events from rows now
watched_text text workers events from rows s now board run shown =
    let r = run_opened board.0 workers in
    let at : r.world ≡ s = sym board.2.run.world in (
      board.0,
      board.1,
      (
        board_run text workers events board.0 now board.1 board.2.some board.2.most (run r at),
        shown r at,
      ),
    )

pub board_watched : (text : List ℕ) (workers : ℕ) (events : List Event) (from : ℕ)
    (rows : List EventRow) (s : WorldData) → IsWatched text workers events from rows s →
    IsBoardAfter text workers events s
board_watched text workers events from rows s watched = (watched.0, watched.1, watched.2.0)

pub scene_watched : (text : List ℕ) (workers : ℕ) (events : List Event) (from : ℕ)
    (rows : List EventRow) (words : List WordRow) (bodies : List BodyRow) (told : Scene)
    (s : WorldData) → IsWatched text workers events from rows s →
    IsBoardTold s (count_shown (length events) from (length rows)) words bodies told →
    IsScene text workers events from rows words bodies told
scene_watched text workers events from rows words bodies told s watched is =
    inl (watched.0, watched.1, (s, watched.2.0, watched.2.1, is))

-- ---- the cells as readers get them

-- the words of the board are lawful, and bear out the record of all atomic steps on it
pub reads_text : (text : List ℕ) (workers : ℕ)
    (events : List Event) (s : WorldData) (step count : ℕ) (old rows : List ReadRow) →
    IsBoardAfter text workers events s → step ≡ 0 → count ≡ s.job.cells → AreRead s rows →
    AreReadsFound text workers events old rows (Done step count)
reads_text text workers events s step count old rows board zeroth all read =
    let job = board.0 in
    let r = run_of job workers events in
    let law = board.2.lawful in
    let here : s ≡ r.world = board.2.run.world in
    let same : s.job ≡ job = board.2.job_stays in
    let stands : Stands s.job s.layout s.words =
    subst (λ (w : WorldData). Stands w.job w.layout w.words) (sym here) law.interleaves.lawful in
    let backed : Backed s.job s.layout r.made s.words =
    subst (λ (w : WorldData). Backed w.job w.layout r.made w.words)
    (sym here) law.interleaves.backed in
    let lawful : AreLawful s.job s r.made rows =
    lawful_rows s r.made rows stands backed (same_cells s.job s.layout stands.layout) read in (
      job,
      board.1,
      (
        s,
        board.2,
        (
          zeroth,
          all ∙ ap (λ (j : JobData). j.cells) same,
          read,
          subst (λ j. AreLawful j s r.made rows) same lawful,
        ),
      ),
    )
