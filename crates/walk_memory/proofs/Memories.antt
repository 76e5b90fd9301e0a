-- What is remembered: its numbers fit.
use Rattle.std.proofs.Common.{◌≡◌, ℕ, zero, suc, ◌-◌, ◌^◌, ◌<◌, ◌≤◌, nat_lt, List, [], ◌∷◌, Bool}
use Rattle.std.proofs.Common.{true, false, length, slice_get, slice_index, slice_index_or, Option}
use Rattle.std.proofs.Common.{Some, None, IfSome, refl, ap, ◌∙◌, inl, inr, lit<, arith}
use Rattle.std.specs.Prelude.{slice_set, replicate, map, is_some, nat_le, ◌||◌}
use Rattle.std.specs.List.{AllByRecursion}
use Rattle.std.proofs.lemmas.Bool.{cases_lt, cond_both, le-leb}
use Rattle.pram_job.specs.declared.instr.Instr.{Instr}
use Rattle.pram_job.specs.Job.{IsJob, JobData}
use Rattle.pram_machine.specs.declared.requests.Request.{Request}
use Rattle.pram_machine.specs.Instructions.{HasShape, goes_to, operand_in, sources_of}
use Rattle.pram_machine.specs.Machine.{out_of_range}
use Rattle.pram_machine.proofs.Shapes.{decided_shape, instr_is}
use Rattle.pram_words.specs.Words.{LayoutData}
use Rattle.std.proofs.lemmas.Option.{none-some, slice_get_within}
use Rattle.walk_memory.specs.declared.memo.Memo.{Memo}
use Rattle.walk_memory.specs.declared.memo.Own.{Own}
use Rattle.walk_memory.specs.Memory.{FitsMemo, FitsMemory, FitsOwn, asked, asked_by, at_start}
use Rattle.walk_memory.specs.Memory.{goes_alone, goes_on_alone, gone_on, has_stopped, has_store}
use Rattle.walk_memory.specs.Memory.{memo_of, one_alone, own_after, own_alone, own_at_start}
use Rattle.walk_memory.specs.Memory.{registers_after, settles_in, steps_left}
use Rattle.walk_memory.specs.OwnWrites.{cell_write}
use Rattle.walk_memory.specs.Learned.{carried, loaded_memo, memo_after, newest_of, learned_own}
use Rattle.walk_memory.specs.Blocks.{IsBoard, block_gone_on, has_rank, processor_at}
use Rattle.walk_memory.proofs.Ranks.{rank_parts}
use Rattle.walk_memory.proofs.Puts.{cell_put_is}

pub start_fits : (job : JobData) → FitsMemo job at_start
start_fits job = record {
  step = omega arith;
  own = own_fits;
  told = own_fits;
  store = tt;
}
  where
    own_fits : FitsOwn job own_at_start
    own_fits = record {
      counter = omega arith;
      registers = (lit< tt, (lit< tt, (lit< tt, (lit< tt, tt))));
      four = refl;
    }

-- a register that is set
all_set : (xs : List ℕ) (k v : ℕ) → AllByRecursion (λ x. x < 2 ^ 32) xs → v < 2 ^ 32 →
    AllByRecursion (λ x. x < 2 ^ 32) (slice_set xs k v)
all_set [] k v all fits = tt
all_set (x ∷ xs) zero v all fits = (fits, all.1)
all_set (x ∷ xs) (suc k) v all fits = (all.0, all_set xs k v all.1 fits)

length_set : (xs : List ℕ) (k v : ℕ) → length (slice_set xs k v) ≡ length xs
length_set [] k v = refl
length_set (x ∷ xs) zero v = refl
length_set (x ∷ xs) (suc k) v = ap suc (length_set xs k v)

-- what an index has, of numbers that fit
pub index_fits : (xs : List ℕ) (k : ℕ) → AllByRecursion (λ x. x < 2 ^ 32) xs →
    slice_index xs k < 2 ^ 32
index_fits [] k all = lit< tt
index_fits (x ∷ xs) zero all = all.0
index_fits (x ∷ xs) (suc k) all = index_fits xs k all.1

map_fits : (f : ℕ → ℕ) (xs : List ℕ) → ((x : ℕ) → f x < 2 ^ 32) →
    AllByRecursion (λ x. x < 2 ^ 32) (map f xs)
map_fits f [] each = tt
map_fits f (x ∷ xs) each = (each x, map_fits f xs each)

pub operand_fits : (job : JobData) (own : Own) (instr : Instr) (k : ℕ) → FitsOwn job own →
    operand_in own.registers instr k < 2 ^ 32
operand_fits job own instr k fits =
    index_fits (map (slice_index own.registers) (sources_of instr)) k
    (map_fits (slice_index own.registers) (sources_of instr)
    (λ r. index_fits own.registers r fits.registers))

-- ---- after a request

module _ (job : JobData) (i : ℕ) (own : Own) (request : Request) (fits : FitsOwn job own)
    (shape : HasShape job i request) where
  kept : (o : Option (ℕ × ℕ)) → ((p v : ℕ) → o ≡ Some (p, v) → v < 2 ^ 32) →
      AllByRecursion (λ x. x < 2 ^ 32) (registers_after job i own.registers o)
  kept None value = fits.registers
  kept (Some write) value = cond_both (nat_lt write.0 job.cells) _ _
      (AllByRecursion (λ x. x < 2 ^ 32)) (λ e. fits.registers)
      (λ e. all_set own.registers _ write.1 fits.registers (value write.0 write.1 refl))

  length_kept : (o : Option (ℕ × ℕ)) → length (registers_after job i own.registers o) ≡ 4
  length_kept None = fits.four
  length_kept (Some write) = cond_both (nat_lt write.0 job.cells) _ _ (λ xs. length xs ≡ 4)
      (λ e. fits.four) (λ e. length_set own.registers _ write.1 ∙ fits.four)

  pub own_fits : FitsOwn job (own_after job i own request)
  own_fits = record {
    counter = shape.next;
    registers = kept request.put (λ p v e. shape.data_value p v e);
    four = length_kept request.put;
  }

-- and its store
store_fits : (job : JobData) (i : ℕ) (request : Request) → HasShape job i request →
    IfSome (cell_write job request.put) (λ write. (write.0 < job.cells) × (write.1 < 2 ^ 32))
store_fits job i request shape = by (cell_write job request.put) refl
  where
    by : (o : Option (ℕ × ℕ)) → cell_write job request.put ≡ o →
        IfSome o (λ write. (write.0 < job.cells) × (write.1 < 2 ^ 32))
    by None e = tt
    by (Some write) e =
        let is = cell_put_is job request.put write.0 write.1 e in
        (is.1, shape.data_value write.0 write.1 is.0)

pub after_fits : (job : JobData) (t i : ℕ) (memo : Memo) (request : Request) → FitsMemo job memo →
    HasShape job i request → t ≤ job.steps → FitsMemo job (memo_after job t i memo request)
after_fits job t i memo request fits shape last = record {
  step = last;
  own = own_fits job i memo.own request fits.own shape;
  told = cond_both (settles_in job t memo.settled memo.own) (own_after job i memo.own request) memo.told
      (FitsOwn job) (λ e. own_fits job i memo.own request fits.own shape) (λ e. fits.told);
  store = store_fits job i request shape;
}

pub carried_fits : (job : JobData) (t : ℕ) (memo : Memo) → FitsMemo job memo →
    FitsMemo job (carried t memo)
carried_fits job t memo fits = cond_both (has_store t memo) _ memo (FitsMemo job) (λ e. record {
  step = fits.step;
  own = fits.own;
  told = fits.told;
  store = tt;
}) (λ e. fits)

-- one who has stopped asks for nothing
pub stays_shape : (job : JobData) (i counter : ℕ) → counter ≤ out_of_range job →
    HasShape job i (goes_to counter)
stays_shape job i counter most = record {
  data_place = λ p v e. absurd (none-some (p, v) e);
  data_value = λ p v e. absurd (none-some (p, v) e);
  next = most;
}

-- ---- as it goes on alone

module _ (job : JobData) (i : ℕ) (is_job : IsJob job) (low : i < 2 ^ 32) where
  pub asked_shape : (own : Own) (value : ℕ) → FitsOwn job own → value < 2 ^ 32 →
      HasShape job i (asked job i own value)
  asked_shape own value fits held = by (slice_get job.code own.counter) refl
    where
      by : (o : Option Instr) → slice_get job.code own.counter ≡ o →
          HasShape job i (asked_by job i own o value)
      by None e = stays_shape job i own.counter fits.counter
      by (Some instr) e = decided_shape job i own.counter (operand_in own.registers instr 0)
          (operand_in own.registers instr 1) value instr (instr_is job own.counter instr is_job e)
          low (operand_fits job own instr 0 fits) (operand_fits job own instr 1 fits) held
          (slice_get_within job.code own.counter instr e)

  pub alone_fits : (more : ℕ) (own : Own) → FitsOwn job own → FitsOwn job (own_alone job i more own)
  alone_fits zero own fits = fits
  alone_fits (suc more) own fits = alone_fits more (own_after job i own (asked job i own 0))
      (own_fits job i own (asked job i own 0) fits (asked_shape own 0 fits (lit< tt)))

  -- as it is loaded, its words telling what fits
  pub loaded_fits : (t : ℕ) (words : List ℕ) → FitsOwn job (learned_own words) → t ≤ job.steps →
      FitsMemo job (loaded_memo job t i words)
  loaded_fits t words fits last = record {
    step = omega arith;
    own = alone_fits (t - 1 - newest_of words) (learned_own words) fits;
    told = fits;
    store = tt;
  }

  one_fits : (memo : Memo) → FitsMemo job memo → memo.step < job.steps →
      FitsMemo job (one_alone job i memo)
  one_fits memo fits before = record {
    step = omega (arith, before);
    own = own_fits job i memo.own (asked job i memo.own 0) fits.own
        (asked_shape memo.own 0 fits.own (lit< tt));
    told = fits.told;
    store = store_fits job i (asked job i memo.own 0) (asked_shape memo.own 0 fits.own (lit< tt));
  }

  goes_fit : (more : ℕ) (memo : Memo) → FitsMemo job memo →
      FitsMemo job (goes_on_alone more job i memo)
  unfolding goes_on_alone
  goes_fit zero memo fits = fits
  goes_fit (suc more) memo fits =
      cond_both (is_some memo.store || nat_le job.steps memo.step) memo _ (FitsMemo job)
      (λ e. fits) (λ on. cond_both (has_stopped job memo.own) (record memo { step = job.steps }) _
      (FitsMemo job) (λ e. record {
        step = omega arith;
        own = fits.own;
        told = fits.told;
        store = fits.store;
      }) (λ e. cond_both (goes_alone job i memo)
      (goes_on_alone more job i (one_alone job i memo)) memo (FitsMemo job)
      (λ f. goes_fit more (one_alone job i memo) (one_fits memo fits
      (elim (cases_lt memo.step job.steps) [
        | inl before ↦ before
        | inr last ↦ absurd (ends_there (is_some memo.store) last on)
      ]))) (λ f. fits)))
    where
      ends_there : (b : Bool) → job.steps ≤ memo.step →
          (b || nat_le job.steps memo.step) ≡ false → ⊥
      ends_there true last e = absurd (cc)
      ends_there false last e = absurd (let f = rw (le-leb job.steps memo.step last) at e in cc)

  pub gone_fits : (memo : Memo) → FitsMemo job memo → FitsMemo job (gone_on job i memo)
  gone_fits memo fits = goes_fit (suc (steps_left memo)) memo fits

-- ---- of each processor

-- what holds of all still holds with one more
pub memo_set : (P : ℕ → Memo → Type 0) (memory : List Memo) (i : ℕ) (memo : Memo) →
    ((k : ℕ) → P k (memo_of memory k)) → P i memo → (k : ℕ) → P k (memo_of (slice_set memory i memo) k)
memo_set P [] i memo each one k = each k
memo_set P (m ∷ memory) zero memo each one zero = one
memo_set P (m ∷ memory) zero memo each one (suc k) = each (suc k)
memo_set P (m ∷ memory) (suc i) memo each one zero = each 0
memo_set P (m ∷ memory) (suc i) memo each one (suc k) =
    memo_set (λ k m. P (suc k) m) memory i memo (λ k. each (suc k)) one k

pub memo_other : (memory : List Memo) (i k : ℕ) (memo : Memo) → (i ≡ k → ⊥) →
    memo_of (slice_set memory i memo) k ≡ memo_of memory k
memo_other [] i k memo other = refl
memo_other (m ∷ memory) zero zero memo other = absurd (other refl)
memo_other (m ∷ memory) zero (suc k) memo other = refl
memo_other (m ∷ memory) (suc i) zero memo other = refl
memo_other (m ∷ memory) (suc i) (suc k) memo other =
    memo_other memory i k memo (λ e. other (ap suc e))

-- what is known already, once more
pub memo_again : (memory : List Memo) (i : ℕ) → slice_set memory i (memo_of memory i) ≡ memory
memo_again [] i = refl
memo_again (m ∷ memory) zero = refl
memo_again (m ∷ memory) (suc i) = ap (λ (rest : List Memo). m ∷ rest) (memo_again memory i)

pub memo_there : (memory : List Memo) (i : ℕ) (other : Memo) → i < length memory →
    slice_index_or memory i other ≡ memo_of memory i
memo_there [] i other low = absurd (omega (arith, low))
memo_there (m ∷ memory) zero other low = refl
memo_there (m ∷ memory) (suc i) other low = memo_there memory i other (omega (arith, low))

pub memo_past : (memory : List Memo) (i : ℕ) → length memory ≤ i → memo_of memory i ≡ at_start
memo_past [] i past = refl
memo_past (m ∷ memory) zero past = absurd (omega (arith, past))
memo_past (m ∷ memory) (suc i) past = memo_past memory i (omega (arith, past))

pub set_past : (memory : List Memo) (i : ℕ) (memo : Memo) → length memory ≤ i →
    memory ≡ slice_set memory i memo
set_past [] i memo past = refl
set_past (m ∷ memory) zero memo past = absurd (omega (arith, past))
set_past (m ∷ memory) (suc i) memo past =
    ap (λ (memos : List Memo). m ∷ memos) (set_past memory i memo (omega (arith, past)))

pub memory_set : (job : JobData) (memory : List Memo) (i : ℕ) (memo : Memo) →
    FitsMemory job memory → FitsMemo job memo → FitsMemory job (slice_set memory i memo)
memory_set job memory i memo fits one = memo_set (λ k m. FitsMemo job m) memory i memo fits one

pub none_fits : (job : JobData) → FitsMemory job []
none_fits job i = start_fits job

-- a memory of so many processors, before the first step
pub all_start : (n k : ℕ) → memo_of (replicate n at_start) k ≡ at_start
all_start zero k = refl
all_start (suc n) zero = refl
all_start (suc n) (suc k) = all_start n k

-- the processors of a block go on
pub block_fits : (job : JobData) (y : LayoutData) (n more rank : ℕ) (memory : List Memo) →
    IsBoard job y → FitsMemory job memory → FitsMemory job (block_gone_on more job y n rank memory)
block_fits job y n zero rank memory board fits = fits
block_fits job y n (suc more) rank memory board fits =
    cond_both (has_rank y n rank) _ memory (FitsMemory job) (λ there.
    let part = rank_parts y n rank there in
    let limits = board.layout.procs in
    block_fits job y n more (suc rank) _ board (memory_set job memory (processor_at y n rank) _ fits
    (gone_fits job (processor_at y n rank) board.limits (omega (arith, part.1, limits.1))
    (memo_of memory (processor_at y n rank)) (fits (processor_at y n rank))))) (λ e. fits)
