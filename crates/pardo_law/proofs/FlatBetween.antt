-- The job of the flat program in the midst of lines of the program.
use Rattle.std.proofs.Common.{◌≡◌, ℕ, zero, suc, ◌+◌, ◌<◌, ◌≤◌, ◌⊎◌, false, Option}
use Rattle.std.proofs.Common.{Some, None, refl, sym, ap, ◌∙◌, subst, inl, inr, ⊎_elim, arith}
use Rattle.std.proofs.Common.{length, length-append}
use Rattle.std.specs.Prelude.{replicate, slice_get}
use Rattle.std.proofs.lemmas.Bool.{cases_lt}
use Rattle.std.proofs.lemmas.Option.{none-some}
use Rattle.pram_job.specs.declared.instr.Instr.TheVariants.{Halt}
use Rattle.pram_job.specs.Job.{JobData}
use Rattle.pram_machine.specs.Machine.{State, counter, halted, out_of_range}
use Rattle.pram_step.specs.Runs.{state_after}
use Rattle.pram_step.specs.Runs as machine
use Rattle.pardo_program.specs.declared.statement.Line.{Line}
use Rattle.pardo_program.specs.Lawful.{IsProgram}
use Rattle.pardo_program.specs.Program.{ProgramData}
use Rattle.pardo_flat.specs.Layouts.{private_cells, program_layout}
use Rattle.pardo_flat.specs.Flat.{flat, most_pieces, nameless, pieces_of}
use Rattle.pardo_flat.proofs.FlatLines.{none_stands}
use Rattle.pardo_job.specs.Compiled.{AreLineNumbers, IsWhole}
use Rattle.pardo_job.specs.Conflicts.{Assigns, asked_for}
use Rattle.pardo_job.specs.Lines.{place_of}
use Rattle.pardo_job.specs.Meaning.{Source, after, asked_in}
use Rattle.pardo_job.specs.Runs.{AllGone, IsLineReached, IsProgramOver, line_number}
use Rattle.pardo_job.specs.Shows.{own_cell}
use Rattle.pardo_law.specs.Between.{AreLinesMade, Executes, HoldsVariables, IsInLine, LeavesIn}
use Rattle.pardo_law.specs.Between.{PutsTo}
use Rattle.pardo_law.specs.Between.{JobsGoThrough}
use Rattle.pardo_job.specs.Carries.{Shares}
use Rattle.pardo_law.specs.Flattening.{flat_count}
use Rattle.pardo_law.proofs.Between.{holds_at, holds_over, leaves_at, lines_at, lines_never_fall}
use Rattle.pardo_law.proofs.Between.{made_at, out_later, puts_at, stopped_puts, there_before}
use Rattle.pardo_law.proofs.FlatCarrying.{Within, all_back, at_end, at_line, carried}
use Rattle.pardo_law.proofs.FlatCarrying.{carries_flat, count_next, few_in, find, gone_all, gone_in, is_gone}
use Rattle.pardo_law.proofs.FlatCarrying.{keeps_line, line_next_in}
use Rattle.pardo_law.proofs.FlatCarrying.{no_line_after, none_next, of_flat, over_to, pieces_next}
use Rattle.pardo_law.proofs.FlatCarrying.{same_number, stands, time, time_flat, time_rises}
use Rattle.pardo_law.proofs.Picturing.{IsOf, procs_are}
use Rattle.pardo_law.proofs.Showing.{out_shows}

no_number : (program : ProgramData) (source : Source) → slice_get program.lines source.at ≡ None →
    line_number program source ≡ 0
no_number program source none = ap (λ (o : Option Line). elim o as (λ (x : Option Line). ℕ)
    [ None ↦ 0 | Some line ↦ line.number ]) none

start_there : (program : ProgramData) (i : ℕ) → (after program 0).gone i ≡ None
unfolding after
start_there program i = refl

nothing_asked : (program : ProgramData) (source : Source) (i : ℕ) →
    slice_get program.lines source.at ≡ None → asked_for program source i ≡ None
unfolding asked_for
nothing_asked program source i none =
    ap (λ (o : Option Line). elim o as (λ (x : Option Line). Option (ℕ × ℕ)) [
      | None ↦ None
      | Some line ↦ asked_in program source line.depth line.statement i
    ]) none

module _ (program : ProgramData) (lawful : IsProgram program) (job : JobData) (line_of : ℕ → ℕ)
    (of : IsOf (flat program) job) (whole : IsWhole job)
    (numbers : AreLineNumbers (flat program) line_of) where
  abbrev other : ProgramData
  other = flat program

  abbrev count : ℕ → ℕ
  count n = flat_count program n

  abbrev flat_time : ℕ → ℕ
  flat_time m = time_flat program lawful job line_of of whole numbers m

  abbrev line_time : ℕ → ℕ
  line_time n = time program lawful job line_of of whole numbers n

  abbrev Found : ℕ → Type 0
  Found m = Within program lawful job line_of of whole numbers m

  rises : (m k : ℕ) → m ≤ k → flat_time m ≤ flat_time k
  rises m k le = time_rises program lawful job line_of of whole numbers m k le

  abbrev Made : ℕ → ℕ → Type 0
  Made t n = AreLinesMade program line_time t n

  abbrev FlatMade : ℕ → ℕ → Type 0
  FlatMade t m = AreLinesMade other flat_time t m

  -- each line has a flat line at least
  count_least : (n : ℕ) → IsLineReached program n → n ≤ count n
  count_least zero reached = omega arith
  count_least (suc n) reached =
      let e = count_least n (λ earlier lt. reached earlier (omega (arith, lt))) in
      let here = reached n (omega arith) in
      let line = line_next_in program lawful job line_of of whole numbers n here.0 in
      let more = count_next program lawful n line.0 line.1 in
      omega (arith, e, more)

  -- so many lines are made, and the flat run is in the midst of the next one
  record InMidst (t n : ℕ) : Type 0 where
    m : ℕ
    k : ℕ
    made : FlatMade t m
    is_at : m ≡ count n + k
    few : k ≤ pieces_next program lawful job line_of of whole numbers
        (slice_get program.lines (after program n).at)

  -- or all have gone in it
  record IsLater (t n : ℕ) : Type 0 where
    reached : IsLineReached program n
    late : line_time n ≤ t
    all : AllGone program (after program n)

  record Stands (t : ℕ) : Type 0 where
    n : ℕ
    made : Made t n
    stands : InMidst t n ⊎ IsLater t n

  begun_by : (t m : ℕ) (w : Found m) → (m ≡ 0) ⊎ (flat_time m ≤ t) →
      (w.n ≡ 0) ⊎ (line_time w.n ≤ t)
  begun_by t m w (inl none) =
      let least = count_least w.n w.reached in
      let is = w.is_at in inl (omega (arith, least, is, none))
  begun_by t m w (inr late) =
      let is = w.is_at in
      let less = rises (count w.n) m (omega (arith, is)) in inr (omega (arith, less, late))

  stands_in : (t m : ℕ) (w : Found m) → FlatMade t m →
      IsProgramOver program (after program w.n) ⊎ (t < line_time (w.n + 1)) → Stands t
  stands_in t m w made no_more = record {
    n = w.n;
    made = record { reached = w.reached; made = begun_by t m w made.made; no_more = no_more };
    stands = inl (record { m = m; k = w.k; made = made; is_at = w.is_at; few = w.few });
  }

  next_is : (n : ℕ) → line_time (n + 1) ≡ line_time (suc n)
  next_is n = ap line_time (let e : n + 1 ≡ suc n = omega arith in e)

  -- all are gone in the midst of a line
  by_gone : (t m : ℕ) → FlatMade t m → (w : Found m) → (line : Line) →
      slice_get program.lines (after program w.n).at ≡ Some line →
      AllGone other (after other m) → (0 < w.k) ⊎ (w.k ≤ 0) → Stands t
  by_gone t m made w line e all (inr none) =
      let is = w.is_at in
      let same : m ≡ count w.n = omega (arith, is, none) in
      stands_in t m w made (inl (inr (all_back program lawful w.n
      (subst (λ j. AllGone other (after other j)) same all))))
  by_gone t m made w line e all (inl some) = ⊎_elim
      (λ (early : t < line_time (w.n + 1)). stands_in t m w made (inr early))
      (λ (late : line_time (w.n + 1) ≤ t).
      let few = few_in program lawful job line_of of whole numbers m w (Some line) e in
      let reached = (gone_in program lawful job line_of of whole numbers m w.n w.k line w.reached
      made.reached e w.is_at some few all).reached in
      let gone = gone_all program lawful job line_of of whole numbers m w.n w.k line e w.is_at few
      all in
      let same = next_is w.n in record {
        n = suc w.n;
        made = record {
          reached = reached;
          made = inr (omega (arith, same, late));
          no_more = inl (inr gone);
        };
        stands = inr (record {
          reached = reached;
          late = omega (arith, same, late);
          all = gone;
        });
      })
      (cases_lt t (line_time (w.n + 1)))

  by_end : (t m : ℕ) → FlatMade t m → (w : Found m) → (line : Line) →
      slice_get program.lines (after program w.n).at ≡ Some line →
      IsProgramOver other (after other m) ⊎ (t < flat_time (m + 1)) → Stands t
  by_end t m made w line e (inr early) =
      let is = w.is_at in
      let few = few_in program lawful job line_of of whole numbers m w (Some line) e in
      let more = count_next program lawful w.n line e in
      let same = next_is w.n in
      let less = rises (m + 1) (count (suc w.n)) (omega (arith, is, few, more)) in
      stands_in t m w made (inr (omega (arith, same, less, early)))
  by_end t m made w line e (inl (inl ends)) = ⊎_elim
      (λ (lt : (after other (count w.n + w.k)).at < length other.lines).
      let same = ap (λ j. (after other j).at) w.is_at in
      absurd (omega (arith, lt, same, ends)))
      (λ (all : AllGone other (after other (count w.n + w.k))).
      by_gone t m made w line e
      (subst (λ j. AllGone other (after other j)) (sym w.is_at) all) (cases_lt 0 w.k))
      (at_line program lawful w.n w.k line e
      (few_in program lawful job line_of of whole numbers m w (Some line) e))
  by_end t m made w line e (inl (inr all)) = by_gone t m made w line e all (cases_lt 0 w.k)

  by_line : (t m : ℕ) → FlatMade t m → (w : Found m) → (o : Option Line) →
      slice_get program.lines (after program w.n).at ≡ o → Stands t
  by_line t m made w None e = stands_in t m w made
      (inl (none_next program lawful job line_of of whole numbers m w e).0)
  by_line t m made w (Some line) e = by_end t m made w line e made.no_more

  stands_at : (t : ℕ) → machine.IsReached job t → Stands t
  stands_at t reached =
      let found = made_at other job of line_of numbers whole t reached in
      let w : Found found.0 = find program lawful job line_of of whole numbers found.0
      found.1.reached in
      by_line t found.0 found.1 w (slice_get program.lines (after program w.n).at) refl

  rises_one : (n : ℕ) → line_time n ≤ line_time (n + 1)
  rises_one n =
      let same = next_is n in
      let less = rises (count n) (count (suc n)) (omega arith) in omega (arith, same, less)

  -- these many lines are made, and no others
  stands_by : (t n : ℕ) → machine.IsReached job t → Made t n → InMidst t n ⊎ IsLater t n
  stands_by t n reached made =
      let s : Stands t = stands_at t reached in
      let low = lines_never_fall program line_time t t s.n n rises_one s.made made (omega arith) in
      let high = lines_never_fall program line_time t t n s.n rises_one made s.made (omega arith) in
      let same : s.n ≡ n = omega (arith, low, high) in
      subst (λ j. InMidst t j ⊎ IsLater t j) same s.stands

  -- ---- what holds in the midst of a line

  abbrev next_line : ℕ → Option Line
  next_line n = slice_get program.lines (after program n).at

  none_few : (t n : ℕ) (i : InMidst t n) → next_line n ≡ None → i.m ≡ count n
  none_few t n i none =
      let few = subst (λ o. i.k ≤ pieces_next program lawful job line_of of whole numbers o) none
      i.few in
      let is = i.is_at in omega (arith, few, is)

  some_few : (t n : ℕ) (i : InMidst t n) (line : Line) → next_line n ≡ Some line →
      i.k ≤ length (pieces_of program line)
  some_few t n i line is =
      subst (λ o. i.k ≤ pieces_next program lawful job line_of of whole numbers o) is i.few

  shares_in : (t n : ℕ) (i : InMidst t n) → (o : Option Line) → next_line n ≡ o →
      Shares program (after program n) (after other i.m)
  shares_in t n i None e = subst (λ j. Shares program (after program n) (after other j))
      (sym (none_few t n i e)) (stands program lawful n).shares
  shares_in t n i (Some line) e = subst (λ j. Shares program (after program n) (after other j))
      (sym i.is_at) ((keeps_line program lawful n line e).shares i.k (some_few t n i line e))

  flat_none : (t n : ℕ) (i : InMidst t n) → next_line n ≡ None →
      slice_get other.lines (after other i.m).at ≡ None
  flat_none t n i e =
      ap (λ j. slice_get other.lines (after other j).at) (none_few t n i e)
      ∙ ap (slice_get other.lines) (stands program lawful n).at
      ∙ none_stands program (after program n).at e

  -- the line has the number of the next one, or all are gone
  abbrev HasNumber : ℕ → ℕ → Type 0
  HasNumber n m = (line_number other (after other m) ≡ line_number program (after program n))
      ⊎ AllGone other (after other m)

  number_in : (t n : ℕ) (i : InMidst t n) → (o : Option Line) → next_line n ≡ o →
      HasNumber n i.m
  number_in t n i None e = inl (no_number other (after other i.m) (flat_none t n i e)
      ∙ sym (no_number program (after program n) e))
  number_in t n i (Some line) e = subst (HasNumber n) (sym i.is_at)
      (same_number program lawful n i.k line e (some_few t n i line e))

  private_same : (x : ℕ) → private_cells (program_layout other) x
      ≡ private_cells (program_layout program) x
  unfolding program_layout
  private_same x = refl

  shared_same : (program_layout other).shared ≡ (program_layout program).shared
  unfolding program_layout
  shared_same = refl

  privates_more : (x : ℕ) → x < (program_layout program).privates →
      (x < (program_layout other).privates) × (x < length program.privates)
  unfolding program_layout
  privates_more x lt =
      let long = length-append program.privates
      (replicate (most_pieces false program program.lines) (nameless program)) in
      (omega (arith, lt, long), lt)

  holds_as : (source flat_source : Source) (state : State) → Shares program source flat_source →
      HoldsVariables other flat_source state → HoldsVariables program source state
  holds_as source flat_source state shares h = record {
    cells = λ cell lt. h.cells cell (let e = shared_same in omega (arith, e, lt))
        ∙ ap (λ (f : ℕ → ℕ). f cell) shares.cells;
    privates = λ x i lt less.
        let more = privates_more x lt in
        ap (λ r. own_cell state r i) (sym (private_same x)) ∙ h.privates x i more.0 less
        ∙ shares.privates x i more.1;
  }

  holds_flat : (t n : ℕ) → machine.IsReached job t → Made t n →
      HoldsVariables program (after program n) (state_after job t)
  holds_flat t n reached made = ⊎_elim
      (λ (i : InMidst t n). holds_as (after program n) (after other i.m) (state_after job t)
      (shares_in t n i (next_line n) refl)
      (holds_at other job of line_of numbers whole t i.m i.made))
      (λ (l : IsLater t n). holds_as (after program n) (after other (count n)) (state_after job t)
      (stands program lawful n).shares
      (holds_over other job of line_of numbers whole (count n) t
      (carried program lawful job line_of of whole numbers n l.reached)
      (over_to program lawful n (inr l.all)) l.late))
      (stands_by t n reached made)

  -- ---- who is gone has left

  low : (i : ℕ) → i < program.procs → i < job.procs
  low i lt = let e = procs_are other job of in omega (arith, e, lt)

  later_out : (t n i : ℕ) (l : IsLater t n) → i < program.procs →
      counter job (state_after job t) i ≡ out_of_range job
  later_out t n i l lt =
      let c = carried program lawful job line_of of whole numbers n l.reached in
      let gone = is_gone ((after program n).gone i) (l.all i lt) in
      let flat_gone = ap (λ (g : ℕ → Option ℕ). g i) (stands program lawful n).gone ∙ gone.1 in
      out_later other job of line_of numbers whole (line_time n) t i l.late (low i lt)
      (out_shows job (state_after job (line_time n)) i ((after other (count n)).gone i)
      (place_of other (after other (count n)).at) gone.0 (c.locals i) flat_gone
      (c.pictured.here i lt) (c.standing.locals_are i (low i lt)))

  -- ---- where the processors stand

  -- where all are gone nobody is there
  nobody_there : (t n i : ℕ) (at : InMidst t n) → i < program.procs →
      (counter job (state_after job t) i ≡ out_of_range job → ⊥) →
      AllGone other (after other at.m) → ⊥
  nobody_there t n i at lt there all =
      let gone = is_gone ((after other at.m).gone i) (all i lt) in ⊎_elim
      (λ (none : at.m ≡ 0). none-some gone.0
      (sym (ap (λ j. (after other j).gone i) none ∙ start_there other i) ∙ gone.1))
      (λ (late : flat_time at.m ≤ t). none-some gone.0
      (sym (there_before other job of line_of numbers whole t at.m i late at.made.reached lt there)
      ∙ gone.1))
      at.made.made

  -- where one runs, and the flat program is over, the program is
  over_in : (t n i : ℕ) (at : InMidst t n) → i < program.procs →
      counter job (state_after job t) i < halted job → (o : Option Line) → next_line n ≡ o →
      IsProgramOver other (after other at.m) → IsProgramOver program (after program n)
  over_in t n i at lt runs None e over = inl (at_end program lawful n e)
  over_in t n i at lt runs (Some line) e (inl ends) = ⊎_elim
      (λ (less : (after other (count n + at.k)).at < length other.lines).
      let same = ap (λ j. (after other j).at) at.is_at in
      absurd (omega (arith, less, same, ends)))
      (λ (all : AllGone other (after other (count n + at.k))).
      absurd (nobody_there t n i at lt (λ out. omega (arith, out, runs))
      (subst (λ j. AllGone other (after other j)) (sym at.is_at) all)))
      (at_line program lawful n at.k line e (some_few t n at line e))
  over_in t n i at lt runs (Some line) e (inr all) =
      absurd (nobody_there t n i at lt (λ out. omega (arith, out, runs)) all)

  lines_flat : (t n i : ℕ) → machine.IsReached job t → Made t n → i < program.procs →
      counter job (state_after job t) i < halted job →
      IsInLine program job line_of t (after program n) i
  lines_flat t n i reached made lt runs = ⊎_elim
      (λ (at : InMidst t n). ⊎_elim
      (λ comes. ⊎_elim
      (λ (same : line_number other (after other at.m) ≡ line_number program (after program n)).
      inl (comes ∙ same))
      (λ (all : AllGone other (after other at.m)).
      absurd (nobody_there t n i at lt (λ out. omega (arith, out, runs)) all))
      (number_in t n at (next_line n) refl))
      (λ rest. ⊎_elim
      (λ first. inr (inl first))
      (λ (last : IsProgramOver other (after other at.m) × Executes job t i Halt).
      inr (inr (over_in t n i at lt runs (next_line n) refl last.0, last.1)))
      rest)
      (lines_at other job of line_of numbers whole t at.m i at.made lt runs))
      (λ (l : IsLater t n). let out = later_out t n i l lt in absurd (omega (arith, out, runs)))
      (stands_by t n reached made)

  -- ---- what is written

  writes_in : (t n cell i value : ℕ) (at : InMidst t n) → (o : Option Line) → next_line n ≡ o →
      Assigns other (after other at.m) cell i value → Assigns program (after program n) cell i value
  writes_in t n cell i value at None e writes = absurd (none-some (cell, value)
      (sym (nothing_asked other (after other at.m) i (flat_none t n at e)) ∙ writes.1))
  writes_in t n cell i value at (Some line) e writes =
      let keep = keeps_line program lawful n line e in
      let few = some_few t n at line e in
      let here = ap (λ j. asked_for other (after other j) i) (sym at.is_at) ∙ writes.1 in
      ⊎_elim
      (λ (hidden : at.k < length (pieces_of program line)).
      absurd (none-some (cell, value) (sym (keep.hidden at.k i hidden) ∙ here)))
      (λ (high : length (pieces_of program line) ≤ at.k).
      let all : length (pieces_of program line) ≡ at.k = omega (arith, few, high) in (
        writes.0,
        sym (keep.asks i)
            ∙ ap (λ k. asked_for other (after other (count n + k)) i) all ∙ here,
      ))
      (cases_lt at.k (length (pieces_of program line)))

  writes_flat : (t n cell i value : ℕ) → machine.IsReached job t → Made t n → i < program.procs →
      cell < (program_layout program).shared → PutsTo job t cell i value →
      Assigns program (after program n) cell i value
  writes_flat t n cell i value reached made lt below put = ⊎_elim
      (λ (at : InMidst t n). writes_in t n cell i value at (next_line n) refl
      (puts_at other job of line_of numbers whole t at.m cell i value at.made lt
      (let e = shared_same in omega (arith, e, below)) put))
      (λ (l : IsLater t n). let out = later_out t n i l lt in
      absurd (stopped_puts other job of line_of numbers whole t cell i value
      (omega (arith, out)) put))
      (stands_by t n reached made)

  -- ---- who leaves

  leaves_in : (t n i number : ℕ) (at : InMidst t n) → (o : Option Line) → next_line n ≡ o →
      (after other (at.m + 1)).gone i ≡ Some number →
      (after program (n + 1)).gone i ≡ Some number
  leaves_in t n i number at None e gone =
      let one : n + 1 ≡ suc n = omega arith in
      let next : at.m + 1 ≡ suc at.m = omega arith in
      ap (λ j. (after program j).gone i) one
      ∙ ap (λ (s : Source). s.gone i) (no_line_after program n e)
      ∙ sym (ap (λ (g : ℕ → Option ℕ). g i) (stands program lawful n).gone)
      ∙ sym (ap (λ j. (after other j).gone i) (none_few t n at e))
      ∙ sym (ap (λ (s : Source). s.gone i) (no_line_after other at.m (flat_none t n at e)))
      ∙ sym (ap (λ j. (after other j).gone i) next) ∙ gone
  leaves_in t n i number at (Some line) e gone =
      let keep = keeps_line program lawful n line e in
      let few = some_few t n at line e in
      let is = at.is_at in
      ⊎_elim
      (λ (hidden : at.k < length (pieces_of program line)).
      keep.gone (at.k + 1) i number (omega (arith, hidden))
      (ap (λ j. (after other j).gone i) (let f : count n + (at.k + 1) ≡ at.m + 1 =
      omega (arith, is) in f) ∙ gone))
      (λ (high : length (pieces_of program line) ≤ at.k).
      let more = count_next program lawful n line e in
      let one : n + 1 ≡ suc n = omega arith in
      ap (λ j. (after program j).gone i) one
      ∙ sym (ap (λ (g : ℕ → Option ℕ). g i) (stands program lawful (suc n)).gone)
      ∙ ap (λ j. (after other j).gone i) (let f : count (suc n) ≡ at.m + 1 =
      omega (arith, is, few, high, more) in f) ∙ gone)
      (cases_lt at.k (length (pieces_of program line)))

  leaves_flat : (t n i : ℕ) → machine.IsReached job (t + 1) → Made t n → i < program.procs →
      LeavesIn job t i →
      (after program (n + 1)).gone i ≡ Some (line_number program (after program n))
  leaves_flat t n i reached made lt leaves = ⊎_elim
      (λ (at : InMidst t n).
      leaves_in t n i (line_number other (after other at.m)) at (next_line n) refl
      (leaves_at other job of line_of numbers whole t at.m i at.made reached lt leaves)
      ∙ ap Some (⊎_elim
      (λ (same : line_number other (after other at.m) ≡ line_number program (after program n)).
      same)
      (λ (all : AllGone other (after other at.m)).
      absurd (nobody_there t n i at lt leaves.was_there all))
      (number_in t n at (next_line n) refl)))
      (λ (l : IsLater t n). absurd (leaves.was_there (later_out t n i l lt)))
      (stands_by t n (λ earlier less. reached earlier (omega (arith, less))) made)

pub jobs_go_through : JobsGoThrough
unfolding carries_flat
jobs_go_through program job line_of lawful nested compiled =
    let of = of_flat program job line_of lawful nested compiled in record {
      carries = carries_flat program lawful job line_of of compiled.whole compiled.numbers;
      made = λ t reached.
          let s = stands_at program lawful job line_of of compiled.whole compiled.numbers t reached
          in (s.n, s.made);
      holds = λ t n reached made.
          holds_flat program lawful job line_of of compiled.whole compiled.numbers t n reached made;
      lines = λ t n i reached made lt runs.
          lines_flat program lawful job line_of of compiled.whole compiled.numbers t n i reached made
          lt runs;
      writes = λ t n cell i value reached made lt below put.
          writes_flat program lawful job line_of of compiled.whole compiled.numbers t n cell i value
          reached made lt below put;
      leaves = λ t n i reached made lt leaves.
          leaves_flat program lawful job line_of of compiled.whole compiled.numbers t n i reached
          made lt leaves;
    }
