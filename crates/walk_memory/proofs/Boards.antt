-- A job's board: words and what they may have.
use Rattle.std.proofs.Common.{◌≡◌, ℕ, ◌+◌, ◌-◌, ◌*◌, ◌%◌, ◌^◌, ◌<◌, ◌≤◌, Bool, true, false, IsTrue}
use Rattle.std.proofs.Common.{if◌then◌else◌, Option, Some, None, ap, refl, sym, inl, inr, lit<, suc}
use Rattle.std.proofs.Common.{subst, ◌∙◌, arith}
use Rattle.std.proofs.lemmas.Nat.{mod-mul-add}
use Rattle.std.proofs.Math.Nat.{le_refl, mul_comm}
use Rattle.pram_job.specs.Job.{JobData}
use Rattle.pram_machine.specs.declared.requests.Request.{Request}
use Rattle.pram_machine.specs.Instructions.{HasShape, place_part}
use Rattle.pram_job.specs.Places.{register_at}
use Rattle.pram_machine.specs.Machine.{IsDataPlace, counter_place, register_place}
use Rattle.pram_words.proofs.Numbering.{ranges, numbering, cases_form, form_wide, own_wide}
use Rattle.pram_words.proofs.Numbering.{grain_some}
use Rattle.pram_words.proofs.Rows.{blocks_most, row_later}
use Rattle.pram_words.specs.declared.words.Word.{Word}
use Rattle.pram_words.specs.declared.words.Word.TheVariants.{Conflict, Node, Asked, Position}
use Rattle.pram_words.specs.declared.words.Word.TheVariants.{Stored}
use Rattle.pram_words.specs.declared.layout.OwnWords.{OwnWords}
use Rattle.pram_words.specs.Phases.{step_at, has_phase}
use Rattle.pram_words.specs.declared.phases.Kind.{Kind}
use Rattle.pram_words.specs.Stamps.{stamped_word, payload_of}
use Rattle.pram_words.specs.Words.{LayoutData, IsLayout, IsWord, IsInRange, IsStamped, Admits}
use Rattle.pram_words.specs.Words.{number_of, length_of, claims_at, wide_claims_at, most_asked}
use Rattle.pram_words.specs.Words.{AreOwn, counters_of, grain, row_at, places_of}
use Rattle.pram_words.specs.declared.layout.Form.{Form}
use Rattle.pram_words.specs.declared.layout.Form.TheVariants.{Compact, Wide}
use Rattle.walk_memory.specs.Inner.Posts.{IsLeafOf, IsLeafPost, IsPairAt, PostData, at_rank}
use Rattle.walk_memory.specs.Inner.Posts.{processor_of}
use Rattle.walk_memory.specs.Blocks.{IsBoard, IsWide}

-- what is admitted at a word's number the word may have
pub in_range : (job : JobData) (y : LayoutData) (a : Word) (v : ℕ) → IsBoard job y → IsWord y a →
    Admits y job (number_of y a) v → IsInRange y job a v
in_range job y a v board is admitted =
    ((ranges y job board.layout board.limits.steps).admitted a v is).1 admitted

-- what a word of the board may have is admitted at its number
pub admits : (job : JobData) (y : LayoutData) (a : Word) (v : ℕ) → IsBoard job y → IsWord y a →
    IsInRange y job a v → Admits y job (number_of y a) v
admits job y a v board is range =
    ((ranges y job board.layout board.limits.steps).admitted a v is).0 range

-- a word's number is below the length
pub is_below : (job : JobData) (y : LayoutData) (a : Word) → IsBoard job y →
    IsWord y a → number_of y a < length_of y
is_below job y a board is = (numbering y board.layout).below a is

pub root_most : (job : JobData) (y : LayoutData) (root : ℕ) → IsBoard job y →
    Admits y job (number_of y (Node 1)) root → root ≤ 3 * job.steps
root_most job y root board admitted =
    let range =
    in_range job y (Node 1) root board (omega arith, omega (arith, board.layout.leaves)) admitted in
    range.0

-- and a phase of the form
pub root_formed : (job : JobData) (y : LayoutData) (root : ℕ) → IsBoard job y →
    Admits y job (number_of y (Node 1)) root → IsTrue (has_phase y.form root)
root_formed job y root board admitted =
    let range =
    in_range job y (Node 1) root board (omega arith, omega (arith, board.layout.leaves)) admitted in
    range.1

pub conflict_most : (job : JobData) (y : LayoutData) (u : ℕ) → IsBoard job y →
    Admits y job (number_of y Conflict) u → u ≤ job.steps
conflict_most job y u board admitted = in_range job y Conflict u board tt admitted

-- a position that was loaded is a node
pub position_most : (job : JobData) (y : LayoutData) (w n : ℕ) → IsBoard job y → w < y.workers →
    Admits y job (number_of y (Position w)) n → n < 2 * y.leaves
position_most job y w n board worker admitted =
    (in_range job y (Position w) n board worker admitted).1

-- what a request word holds
pub asked_part : (job : JobData) (y : LayoutData) (i j a : ℕ) → IsBoard job y →
    y.form ≡ Compact → i < y.procs → j < 3 → Admits y job (number_of y (Asked i j)) a →
    payload_of a ≤ most_asked y job j
asked_part job y i j a board compact processor part admitted =
    (in_range job y (Asked i j) a board (compact, processor, part) admitted).1

-- a stamped word
pub stamps : (steps most t v : ℕ) → t ≤ steps → v ≤ most → v < 2 ^ 32 →
    IsStamped steps most (stamped_word t v)
stamps steps most t v a b c = (omega arith, omega arith)

-- the step of a phase of the job
pub step_most : (steps q : ℕ) → q ≤ 3 * steps → step_at q ≤ steps
step_most steps q h = omega arith

-- the layout's sizes are the job's
pub same_cells : (job : JobData) (y : LayoutData) → IsBoard job y → y.cells ≡ job.cells
same_cells job y board = ap (λ (z : LayoutData). z.cells) board.is

pub same_procs : (job : JobData) (y : LayoutData) → IsBoard job y → y.procs ≡ job.procs
same_procs job y board = ap (λ (z : LayoutData). z.procs) board.is

-- the numbers of a board are small
pub length_small : (y : LayoutData) → IsLayout y → length_of y < 2 ^ 32
unfolding length_of
length_small y limits = elim (cases_form y.form) [
  | inl e ↦ rw e (by_claims y.claims (claims_at y)
      (omega (arith, limits.leaves, limits.cells, limits.procs, limits.workers)))
  | inr e ↦ rw (form_wide y.form e.0 (claims_at y) (wide_claims_at y) e.1) (by_claims y.claims
      (wide_claims_at y) (omega (
        arith,
        limits.cells,
        blocks_most y y.leaves limits (grain_some y limits) (le_refl y.leaves),
      )))
]
  where
    by_claims : (b : Bool) (n : ℕ) → n ≤ 4000000 → n + (if b then y.cells else 0) < 2 ^ 32
    by_claims true n few = omega (arith, limits.cells)
    by_claims false n few = omega arith

-- the words of a place
pub pair_at : (job : JobData) (y : LayoutData) (place word : ℕ) → IsBoard job y →
    place < places_of y → word ≡ number_of y (Stored place 0) → IsPairAt y place word
pair_at job y place word board below first =
    let next = (numbering y board.layout).second place in
    let last = is_below job y (Stored place 1) board (below, lit< tt) in
    let small = length_small y board.layout in
    record {
      first = first;
      second = omega (arith, first, next);
      below = omega (arith, first, next, last, small);
    }

-- the words of a leaf's processor, and of a cell
module _ (at : PostData) (t : ℕ) (kind : Kind) (i : ℕ) (own : OwnWords) (first : ℕ)
    (is : IsLeafOf at t kind i own first) where
  board : IsBoard at.job at.layout
  board = is.leaf.board

  pub own_counter : IsPairAt at.layout (counter_place at.job (processor_of at)) own.counter
  own_counter =
      let place : counter_place at.job (processor_of at) ≡ counters_of at.layout + i =
      omega (
        arith,
        same_cells at.job at.layout board,
        same_procs at.job at.layout board,
        is.processor,
      ) in
      rw place (pair_at at.job at.layout (counters_of at.layout + i) own.counter board
      (omega (arith, is.processor, is.leaf.last)) (sym is.own.counter))

  pub own_register : (r : ℕ) → r < 4 →
      IsPairAt at.layout (register_place at.job (processor_of at) r)
      (own.registers + own.stride * r)
  own_register r register =
      let place : register_place at.job (processor_of at) r ≡ register_at at.layout.cells i r =
      omega (arith, same_cells at.job at.layout board, is.processor) in
      rw place (pair_at at.job at.layout (register_at at.layout.cells i r)
      (own.registers + own.stride * r) board (omega (arith, is.processor, is.leaf.last))
      (sym (is.own.register r register)))

  pub own_small : (r : ℕ) → r < 4 → own.registers + own.stride * r < 2 ^ 32
  own_small r register = omega (arith, (own_register r register).below)

  pub own_cell : (cell : ℕ) → cell < at.job.cells → IsPairAt at.layout cell (first + 2 * cell)
  own_cell cell below =
      let same = same_cells at.job at.layout board in
      pair_at at.job at.layout cell (first + 2 * cell) board (omega (arith, same, below))
      (sym (is.cells cell (omega (arith, same, below))))

  pub cell_small : (cell : ℕ) → cell < at.job.cells → first + 2 * cell < 2 ^ 32
  cell_small cell below = omega (arith, (own_cell cell below).below)

-- in the wide form the words of a later processor of the block lie two words a processor further
own_later : (y : LayoutData) (g i more : ℕ) (own : OwnWords) → y.form ≡ Wide g →
    i % grain y + more < grain y → i + more < y.procs → AreOwn y i own →
    AreOwn y (i + more) (record {
      counter = own.counter + 2 * more;
      registers = own.registers + 2 * more;
      stride = own.stride;
    })
own_later y g i more own form room below is =
    let here = own_wide y g i (row_at y i 0) form (omega (arith, below)) refl in
    let there = own_wide y g (i + more) (row_at y (i + more) 0) form below refl in
    let further = row_later y i more 0 room in
    let counter = sym is.counter ∙ here.counter in
    record {
      counter = there.counter ∙ omega (arith, further, counter);
      register = λ r register. let same = sym (is.register r register) ∙ here.register r register in
          there.register r register ∙ omega (arith, further, same);
    }

-- the leaf at a later processor
pub later_leaf : (at : PostData) (t : ℕ) (kind : Kind) (i : ℕ) (own : OwnWords) (first more : ℕ) →
    IsWide at.layout.form → IsLeafOf at t kind i own first →
    IsLeafPost (at_rank at (at.rank + more)) →
    IsLeafOf (at_rank at (at.rank + more)) t kind (i + more) (record {
      counter = own.counter + 2 * more;
      registers = own.registers + 2 * more;
      stride = own.stride;
    }) first
later_leaf at t kind i own first more wide is later = record {
  leaf = later;
  step = is.step;
  does = is.does;
  processor = omega (arith, is.processor);
  own = by_wide at.layout.form wide refl;
  cells = is.cells;
}
  where
    rank : i % grain at.layout ≡ at.rank
    rank =
        let g = grain at.layout in
        let b = at.node - at.layout.leaves in
        let split : i ≡ b * g + at.rank = omega (arith, is.processor, mul_comm g b) in
        ap (λ n. n % g) split ∙ mod-mul-add b g at.rank is.leaf.rank

    by_wide : (form : Form) → IsWide form → at.layout.form ≡ form → AreOwn at.layout (i + more)
        (record {
          counter = own.counter + 2 * more;
          registers = own.registers + 2 * more;
          stride = own.stride;
        })
    by_wide Compact wide e = absurd wide
    by_wide (Wide g) wide e = own_later at.layout g i more own e
        (omega (arith, rank, later.rank)) (omega (arith, is.processor, later.last)) is.own

-- the one after that of a rank
pub after_leaf : (at : PostData) (t : ℕ) (kind : Kind) (i : ℕ) (own : OwnWords) (first rank : ℕ) →
    IsWide at.layout.form → IsLeafOf at t kind i own first → at.rank ≤ rank →
    IsLeafPost (at_rank at (suc rank)) →
    IsLeafOf (at_rank at (rank + 1)) t kind (i + (rank - at.rank + 1)) (record {
      counter = own.counter + 2 * (rank - at.rank + 1);
      registers = own.registers + 2 * (rank - at.rank + 1);
      stride = own.stride;
    }) first
after_leaf at t kind i own first rank wide is low leaf =
    let more = rank - at.rank + 1 in
    let to : suc rank ≡ at.rank + more = omega (arith, low) in
    let from : at.rank + more ≡ rank + 1 = omega (arith, low) in
    subst (λ (r : ℕ). IsLeafOf (at_rank at r) t kind (i + more) (record {
      counter = own.counter + 2 * more;
      registers = own.registers + 2 * more;
      stride = own.stride;
    }) first) from (later_leaf at t kind i own first more wide is
    (subst (λ (r : ℕ). IsLeafPost (at_rank at r)) to leaf))

-- the leaf at the next processor
pub next_leaf : (at : PostData) (t : ℕ) (kind : Kind) (i : ℕ) (own : OwnWords) (first : ℕ) →
    IsWide at.layout.form → IsLeafOf at t kind i own first →
    IsLeafPost (at_rank at (suc at.rank)) →
    IsLeafOf (at_rank at (at.rank + 1)) t kind (i + 1)
    (record { counter = own.counter + 2; registers = own.registers + 2; stride = own.stride }) first
next_leaf at t kind i own first wide is next =
    let rank : suc at.rank ≡ at.rank + 1 = omega arith in
    later_leaf at t kind i own first 1 wide is
    (subst (λ (rank : ℕ). IsLeafPost (at_rank at rank)) rank next)

-- where a request's data goes, plus 1
pub place_shape : (job : JobData) (i : ℕ) (r : Request) → i < job.procs → HasShape job i r →
    place_part r ≤ job.cells + 4 * job.procs
place_shape job i r proc has = by_put r.put has.data_place
  where
    by_put : (put : Option (ℕ × ℕ)) →
        ((place value : ℕ) → put ≡ Some (place, value) → IsDataPlace job i place) →
        elim put [ None ↦ 0 | Some w ↦ w.0 + 1 ] ≤ job.cells + 4 * job.procs
    by_put None well = omega arith
    by_put (Some w) well =
        elim (well w.0 w.1 refl) [ inl cell ↦ omega arith | inr own ↦ omega (arith, own.1) ]
