-- What is known of a processor fits, whatever it does: its numbers are as the board admits them.
use Rattle.std.proofs.Common.{◌≡◌, ℕ, zero, suc, ◌-◌, ◌^◌, ◌<◌, ◌≤◌, ◌||◌, nat_lt, nat_le, Bool}
use Rattle.std.proofs.Common.{true, false, List, [], ◌∷◌, length, slice_get, slice_index, Option}
use Rattle.std.proofs.Common.{Some, None, IfSome, refl, sym, ap, ◌∙◌, inl, inr, lit<, arith}
use Rattle.std.specs.Prelude.{slice_set, map, is_some}
use Rattle.std.specs.List.{AllByRecursion}
use Rattle.std.proofs.lemmas.Bool.{cases_lt, cond_both, leb-false, le-ltb, lt-ltb}
use Rattle.std.proofs.lemmas.Option.{none-some, slice_get_within, some_pair_parts}
use Rattle.pram_job.specs.declared.instr.Instr.{Instr}
use Rattle.pram_job.specs.Job.{JobData, IsJob}
use Rattle.pram_machine.proofs.Shapes.{decided_shape, instr_is}
use Rattle.pram_machine.specs.declared.requests.Request.{Request}
use Rattle.pram_machine.specs.Instructions.{HasShape, goes_to, operand_in, sources_of}
use Rattle.pram_machine.specs.Machine.{out_of_range}
use Rattle.pram_words.specs.Stamps.{payload_of}
use Rattle.walk_memory.proofs.Cells.{cell_is}
use Rattle.walk_memory.specs.declared.memo.Memo.{Memo}
use Rattle.walk_memory.specs.declared.memo.Own.{Own}
use Rattle.walk_memory.specs.Memory.{FitsMemo, FitsOwn, asked, asked_by, at_start, cell_named}
use Rattle.walk_memory.specs.Memory.{cell_next, goes_alone, goes_on_alone, gone_on, has_stopped}
use Rattle.walk_memory.specs.Memory.{has_store, one_alone, own_after, own_alone, own_at_start}
use Rattle.walk_memory.specs.Memory.{registers_after, settles_in, steps_left}
use Rattle.walk_memory.specs.OwnWrites.{cell_write}
use Rattle.walk_memory.specs.Learned.{carried, loaded_memo, memo_after, newest_of, learned_own}

-- ---- numbers below 2^32

-- one that is set
all_set : (xs : List ℕ) (k v : ℕ) → AllByRecursion (λ x. x < 2 ^ 32) xs → v < 2 ^ 32 →
    AllByRecursion (λ x. x < 2 ^ 32) (slice_set xs k v)
all_set [] k v all fits = tt
all_set (x ∷ xs) zero v all fits = (fits, all.1)
all_set (x ∷ xs) (suc k) v all fits = (all.0, all_set xs k v all.1 fits)

length_set : (xs : List ℕ) (k v : ℕ) → length (slice_set xs k v) ≡ length xs
length_set [] k v = refl
length_set (x ∷ xs) zero v = refl
length_set (x ∷ xs) (suc k) v = ap suc (length_set xs k v)

-- what an index has, of numbers that fit
pub index_fits : (xs : List ℕ) (k : ℕ) → AllByRecursion (λ x. x < 2 ^ 32) xs →
    slice_index xs k < 2 ^ 32
index_fits [] k all = lit< tt
index_fits (x ∷ xs) zero all = all.0
index_fits (x ∷ xs) (suc k) all = index_fits xs k all.1

map_fits : (f : ℕ → ℕ) (xs : List ℕ) → ((x : ℕ) → f x < 2 ^ 32) →
    AllByRecursion (λ x. x < 2 ^ 32) (map f xs)
map_fits f [] each = tt
map_fits f (x ∷ xs) each = (each x, map_fits f xs each)

pub operand_fits : (job : JobData) (own : Own) (instr : Instr) (k : ℕ) → FitsOwn job own →
    operand_in own.registers instr k < 2 ^ 32
operand_fits job own instr k fits =
    index_fits (map (slice_index own.registers) (sources_of instr)) k
    (map_fits (slice_index own.registers) (sources_of instr)
    (λ r. index_fits own.registers r fits.registers))

-- ---- before the first step

own_start_fits : (job : JobData) → FitsOwn job own_at_start
own_start_fits job = record {
  counter = omega arith;
  registers = (lit< tt, (lit< tt, (lit< tt, (lit< tt, tt))));
  four = refl;
}

pub start_fits : (job : JobData) → FitsMemo job at_start
start_fits job = record {
  step = omega arith;
  own = own_start_fits job;
  told = own_start_fits job;
  store = tt;
}

-- ---- what a processor asks for

-- one who has stopped asks for nothing
pub stays_shape : (job : JobData) (i counter : ℕ) → counter ≤ out_of_range job →
    HasShape job i (goes_to counter)
stays_shape job i counter most = record {
  data_place = λ p v e. absurd (none-some (p, v) e);
  data_value = λ p v e. absurd (none-some (p, v) e);
  next = most;
}

-- the cell that it reads is one
pub cell_below : (job : JobData) (own : Own) (c : ℕ) → IsJob job → cell_next job own ≡ Some c →
    c < job.cells
cell_below job own c limits is = by (slice_get job.code own.counter) refl is
  where
    by : (o : Option Instr) → slice_get job.code own.counter ≡ o → cell_named job own o ≡ Some c →
        c < job.cells
    by None e f = absurd (none-some c f)
    by (Some instr) e f =
        cell_is job instr (operand_in own.registers instr 0) c
        (instr_is job own.counter instr limits e) f

pub asked_shape : (job : JobData) (i : ℕ) (own : Own) (value : ℕ) → IsJob job → i < job.procs →
    FitsOwn job own → value < 2 ^ 32 → HasShape job i (asked job i own value)
asked_shape job i own value limits below fits held = by (slice_get job.code own.counter) refl
  where
    by : (o : Option Instr) → slice_get job.code own.counter ≡ o →
        HasShape job i (asked_by job i own o value)
    by None e = stays_shape job i own.counter fits.counter
    by (Some instr) e =
        decided_shape job i own.counter (operand_in own.registers instr 0)
        (operand_in own.registers instr 1) value instr (instr_is job own.counter instr limits e)
        (omega (arith, limits.procs, below)) (operand_fits job own instr 0 fits)
        (operand_fits job own instr 1 fits) held (slice_get_within job.code own.counter instr e)

-- ---- after a request

pub own_after_fits : (job : JobData) (i : ℕ) (own : Own) (request : Request) → FitsOwn job own →
    HasShape job i request → FitsOwn job (own_after job i own request)
own_after_fits job i own request fits shape = record {
  counter = shape.next;
  registers = kept request.put (λ p v e. shape.data_value p v e);
  four = length_kept request.put;
}
  where
    kept : (o : Option (ℕ × ℕ)) → ((p v : ℕ) → o ≡ Some (p, v) → v < 2 ^ 32) →
        AllByRecursion (λ x. x < 2 ^ 32) (registers_after job i own.registers o)
    kept None value = fits.registers
    kept (Some write) value = cond_both (nat_lt write.0 job.cells) _ _
        (AllByRecursion (λ x. x < 2 ^ 32)) (λ e. fits.registers)
        (λ e. all_set own.registers _ write.1 fits.registers (value write.0 write.1 refl))

    length_kept : (o : Option (ℕ × ℕ)) → length (registers_after job i own.registers o) ≡ 4
    length_kept None = fits.four
    length_kept (Some write) = cond_both (nat_lt write.0 job.cells) _ _ (λ xs. length xs ≡ 4)
        (λ e. fits.four) (λ e. length_set own.registers _ write.1 ∙ fits.four)

-- a write to a cell is the request's
pub cell_write_is : (job : JobData) (o : Option (ℕ × ℕ)) (c v : ℕ) →
    cell_write job o ≡ Some (c, v) → (o ≡ Some (c, v)) × (c < job.cells)
cell_write_is job None c v e = absurd (none-some (c, v) e)
cell_write_is job (Some (q, u)) c v e = elim (cases_lt q job.cells) [
  | inl cell ↦ (
      let f : cell_write job (Some (q, u)) ≡ Some (q, u) = rw (lt-ltb q job.cells cell) refl in
      let g : ◌≡◌ {A = Option (ℕ × ℕ)} (Some (q, u)) (Some (c, v)) = sym f ∙ e in
      let same = (some_pair_parts q c u v g).0 in (g, omega (arith, same, cell)))
  | inr own ↦ absurd (none-some (c, v)
      (let f : cell_write job (Some (q, u)) ≡ None = rw (le-ltb q job.cells own) refl in
      sym f ∙ e))
]

-- the cell and the value of a store
abbrev pub FitsStore : JobData → Option (ℕ × ℕ) → Type 0
FitsStore job store = IfSome store (λ write. (write.0 < job.cells) × (write.1 < 2 ^ 32))

pub store_fits : (job : JobData) (i : ℕ) (request : Request) → HasShape job i request →
    FitsStore job (cell_write job request.put)
store_fits job i request shape = by (cell_write job request.put) refl
  where
    by : (o : Option (ℕ × ℕ)) → cell_write job request.put ≡ o → FitsStore job o
    by None e = tt
    by (Some write) e =
        let is = cell_write_is job request.put write.0 write.1 e in
        (is.1, shape.data_value write.0 write.1 is.0)

pub after_fits : (job : JobData) (t i : ℕ) (known : Memo) (request : Request) → t ≤ job.steps →
    FitsMemo job known → HasShape job i request → FitsMemo job (memo_after job t i known request)
after_fits job t i known request time fits shape =
    let own = own_after_fits job i known.own request fits.own shape in
    record {
      step = time;
      own = own;
      told = cond_both (settles_in job t known.settled known.own) _ _ (FitsOwn job) (λ e. own)
          (λ e. fits.told);
      store = store_fits job i request shape;
    }

-- a store that is carried out
pub carried_fits : (job : JobData) (t : ℕ) (memo : Memo) → FitsMemo job memo →
    FitsMemo job (carried t memo)
carried_fits job t memo fits = cond_both (has_store t memo) _ _ (FitsMemo job)
    (λ e. record { step = fits.step; own = fits.own; told = fits.told; store = tt }) (λ e. fits)

-- ---- alone

second_false : (a b : Bool) → (a || b) ≡ false → b ≡ false
second_false true b e = absurd (cc)
second_false false b e = e

module _ (job : JobData) (i : ℕ) (limits : IsJob job) (below : i < job.procs) where
  pub own_alone_fits : (more : ℕ) (own : Own) → FitsOwn job own →
      FitsOwn job (own_alone job i more own)
  own_alone_fits zero own fits = fits
  own_alone_fits (suc more) own fits =
      own_alone_fits more (own_after job i own (asked job i own 0))
      (own_after_fits job i own (asked job i own 0) fits
      (asked_shape job i own 0 limits below fits (lit< tt)))

  one_fits : (memo : Memo) → memo.step < job.steps → FitsMemo job memo →
      FitsMemo job (one_alone job i memo)
  one_fits memo time fits =
      let shape = asked_shape job i memo.own 0 limits below fits.own (lit< tt) in
      record {
        step = omega (arith, time);
        own = own_after_fits job i memo.own (asked job i memo.own 0) fits.own shape;
        told = fits.told;
        store = store_fits job i (asked job i memo.own 0) shape;
      }

  goes_on_fits : (more : ℕ) (memo : Memo) → FitsMemo job memo →
      FitsMemo job (goes_on_alone more job i memo)
  unfolding goes_on_alone
  goes_on_fits zero memo fits = fits
  goes_on_fits (suc more) memo fits =
      cond_both (is_some memo.store || nat_le job.steps memo.step) _ _ (FitsMemo job)
      (λ e. fits) (λ e. cond_both (has_stopped job memo.own) _ _ (FitsMemo job)
      (λ f. record { step = omega arith; own = fits.own; told = fits.told; store = fits.store })
      (λ f. cond_both (goes_alone job i memo) _ _ (FitsMemo job)
      (λ g. goes_on_fits more (one_alone job i memo) (one_fits memo (leb-false job.steps memo.step
      (second_false (is_some memo.store) (nat_le job.steps memo.step) e)) fits)) (λ g. fits)))

  pub gone_on_fits : (memo : Memo) → FitsMemo job memo → FitsMemo job (gone_on job i memo)
  gone_on_fits memo fits = goes_on_fits (suc (steps_left memo)) memo fits

  -- what its words tell, and what is then known of it
  pub loaded_fits : (t c a b d e : ℕ) → t ≤ job.steps → payload_of c ≤ out_of_range job →
      FitsMemo job (loaded_memo job t i (c ∷ a ∷ b ∷ d ∷ e ∷ []))
  loaded_fits t c a b d e time most =
      let words : List ℕ = c ∷ a ∷ b ∷ d ∷ e ∷ [] in
      let told : FitsOwn job (learned_own words) = record {
        counter = most;
        registers = (omega arith, (omega arith, (omega arith, (omega arith, tt))));
        four = refl;
      } in record {
        step = omega arith;
        own = own_alone_fits (t - 1 - newest_of words) (learned_own words) told;
        told = told;
        store = tt;
      }
