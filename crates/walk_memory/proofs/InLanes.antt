-- A step alone of processors whose registers are side by side, lane by lane.
use Rattle.std.proofs.Common.{◌≡◌, ℕ, zero, suc, ◌+◌, ◌-◌, ◌<◌, ◌≤◌, ◌==◌, true, false, List}
use Rattle.std.proofs.Common.{[], ◌∷◌, map, get_or, set, slice_get, Option, Some, None, refl, sym}
use Rattle.std.proofs.Common.{ap, ◌∙◌, inl, inr, arith}
use Rattle.std.specs.Prelude.{◌*◌, ◌||◌, if◌then◌else◌, is_none, is_some, IfSome, IsSome}
use Rattle.std.specs.Prelude.{slice_index, unwrap_or}
use Rattle.std.proofs.lemmas.Bool.{cases_Bool, le-leb, le-ltb, lt-ltb, ne_eqb, or_right}
use Rattle.std.proofs.lemmas.List.{map-set}
use Rattle.std.proofs.Math.Seq.{map-set_same}
use Rattle.pram_job.specs.declared.instr.Instr.{Instr}
use Rattle.pram_job.specs.declared.instr.Instr.TheVariants.{Set, Pid, Add, Sub, Mul, And, Or, Xor}
use Rattle.pram_job.specs.declared.instr.Instr.TheVariants.{Lt, Eq, Shl, Shr, Div, Rem, Ld, St, Jz}
use Rattle.pram_job.specs.declared.instr.Instr.TheVariants.{Jmp, Halt}
use Rattle.pram_job.specs.declared.instr.Operand.{Operand}
use Rattle.pram_job.specs.declared.instr.Operand.TheVariants.{Register, Number}
use Rattle.pram_job.specs.declared.instr.Operands.{Operands}
use Rattle.pram_job.specs.declared.instr.Operands.TheVariants.{TargetTwo}
use Rattle.pram_job.specs.declared.instr.Place.{Place}
use Rattle.pram_job.specs.declared.instr.Place.TheVariants.{Cell, Named}
use Rattle.pram_job.specs.Instructions.{IsPlace, row_of}
use Rattle.pram_job.specs.Job.{JobData}
use Rattle.pram_machine.specs.declared.requests.Request.{Request}
use Rattle.pram_machine.specs.Instructions.{computed, decided, gives, goes_to, index_of, reached}
use Rattle.pram_machine.specs.Instructions.{read_by, request_with, within}
use Rattle.pram_machine.specs.Machine.{halted, out_of_range, register_place}
use Rattle.pram_machine.proofs.Shapes.{reached_below}
use Rattle.walk_memory.specs.declared.as_one.Together.{Together}
use Rattle.walk_memory.specs.declared.block.Block.{Block}
use Rattle.walk_memory.specs.declared.memo.Memo.{Memo}
use Rattle.walk_memory.specs.declared.memo.Own.{Own}
use Rattle.walk_memory.specs.declared.span.Span.{Span}
use Rattle.walk_memory.specs.Memory.{asked_by, goes_alone, gone_on, is_common, is_due, is_load, one_alone}
use Rattle.walk_memory.specs.Memory.{own_after, registers_after}
use Rattle.walk_memory.specs.OwnWrites.{cell_write}
use Rattle.walk_memory.specs.AsOne.{StandTogether}
use Rattle.walk_memory.specs.Lanes.{entries, lane}
use Rattle.walk_memory.specs.Standing.{StandThere}
use Rattle.walk_memory.specs.Rows.{AllGo, AllGoBy, AllRest, AreSame, FarIn, GoesBy, Puts, SameLane}
use Rattle.walk_memory.specs.Rows.{Stores, Written, divides, held_in, lane_as, own_of, reach_at}
use Rattle.walk_memory.specs.Rows.{store_of}
use Rattle.walk_memory.specs.Blocks.{reach_from_phase}
use Rattle.walk_memory.proofs.AsFar.{at_store, one_on}
use Rattle.walk_memory.proofs.GoingAlone.{goes_if, still_goes, stored_stays}

-- ---- a register of each is written where its row is

pub row_puts : (start end r : ℕ) (value : ℕ → ℕ) (rows : List (List ℕ)) (row : List ℕ) →
    Written start end value (get_or rows r []) row → Puts start end r value rows (set rows r row)
row_puts start end r value rows row written = record {
  there = λ k from to. map-set (λ (x : List ℕ). get_or x k 0) rows r row
      ∙ ap (set (entries rows k) r) (written.there k from to);
  before = λ k low. map-set_same (λ (x : List ℕ). get_or x k 0) rows r row [] (written.before k low);
  after = λ k high. map-set_same (λ (x : List ℕ). get_or x k 0) rows r row [] (written.after k high);
}

-- the same, its values having other names
pub puts_by : (start end r : ℕ) (v w : ℕ → ℕ) (rows : List (List ℕ)) (row : List ℕ) →
    ((k : ℕ) → start ≤ k → k < end → v k ≡ w k) → Written start end v (get_or rows r []) row →
    Puts start end r w rows (set rows r row)
puts_by start end r v w rows row same written = row_puts start end r w rows row (record {
  there = λ k from to. written.there k from to ∙ same k from to;
  before = written.before;
  after = written.after;
})

-- what register r of a lane holds
pub entry_is : (rows : List (List ℕ)) (r k : ℕ) →
    slice_index (entries rows k) r ≡ slice_index (get_or rows r []) k
entry_is [] r k = refl
entry_is (row ∷ rows) zero k = refl
entry_is (row ∷ rows) (suc r) k = entry_is rows r k

-- ---- what has a value

pub same_computed : (instr : Instr) (x y v w : ℕ) → x ≡ v → y ≡ w →
    unwrap_or (computed instr x y) 0 ≡ unwrap_or (computed instr v w) 0
same_computed instr x y v w e f = rw (e, f) refl

pub computed_some : (instr : Instr) (r a : ℕ) (b : Operand) (x y : ℕ) →
    (row_of instr).1 ≡ TargetTwo r a b → (divides instr ≡ true → y ≡ 0 → ⊥) →
    IsSome (computed instr x y)
computed_some (Add _ _ _) r a b x y two other = refl
computed_some (Sub _ _ _) r a b x y two other = refl
computed_some (Mul _ _ _) r a b x y two other = refl
computed_some (And _ _ _) r a b x y two other = refl
computed_some (Or _ _ _) r a b x y two other = refl
computed_some (Xor _ _ _) r a b x y two other = refl
computed_some (Lt _ _ _) r a b x y two other = refl
computed_some (Eq _ _ _) r a b x y two other = refl
computed_some (Shl _ _ _) r a b x y two other = refl
computed_some (Shr _ _ _) r a b x y two other = refl
computed_some (Div _ _ _) r a b x y two other = rw (ne_eqb y 0 (other refl)) refl
computed_some (Rem _ _ _) r a b x y two other = rw (ne_eqb y 0 (other refl)) refl
computed_some (Set _ _) r a b x y two other = absurd (cc)
computed_some (Pid _) r a b x y two other = absurd (cc)
computed_some (Ld _ _) r a b x y two other = absurd (cc)
computed_some (St _ _) r a b x y two other = absurd (cc)
computed_some (Jz _ _) r a b x y two other = absurd (cc)
computed_some (Jmp _) r a b x y two other = absurd (cc)
computed_some Halt r a b x y two other = absurd (cc)

-- ---- what a processor asks for

within_is : (o : Option ℕ) (x otherwise : ℕ) (asks : ℕ → Request) → o ≡ Some x →
    within o otherwise asks ≡ asks x
within_is o x otherwise asks e = ap (λ (p : Option ℕ). within p otherwise asks) e

within_some : (o : Option ℕ) (otherwise : ℕ) (asks : ℕ → Request) → IsSome o →
    within o otherwise asks ≡ asks (unwrap_or o 0)
within_some None otherwise asks some = absurd (cc)
within_some (Some x) otherwise asks some = refl

-- the instruction is this one
pub asks_by : (job : JobData) (i : ℕ) (own : Own) (instr form : Instr) (request : Request) →
    instr ≡ form → asked_by job i own (Some form) 0 ≡ request →
    asked_by job i own (Some instr) 0 ≡ request
asks_by job i own instr form request is asks =
    ap (λ (x : Instr). asked_by job i own (Some x) 0) is ∙ asks

module _ (job : JobData) (i : ℕ) (own : Own) where
  pub asks_set : (r n : ℕ) → asked_by job i own (Some (Set r n)) 0 ≡ gives job i own.counter r n
  unfolding decided
  asks_set r n = refl

  pub asks_pid : (r : ℕ) → asked_by job i own (Some (Pid r)) 0 ≡ gives job i own.counter r i
  unfolding decided
  asks_pid r = refl

  pub asks_jz : (r index : ℕ) → asked_by job i own (Some (Jz r index)) 0
      ≡ goes_to (if slice_index own.registers r == 0 then index else own.counter + 1)
  unfolding decided
  asks_jz r index = refl

  pub asks_jmp : (index : ℕ) → asked_by job i own (Some (Jmp index)) 0 ≡ goes_to index
  unfolding decided
  asks_jmp index = refl

  pub asks_halt : asked_by job i own (Some Halt) 0 ≡ goes_to (halted job)
  unfolding decided
  asks_halt = refl

  -- the numbers that an instruction computes of
  abbrev found : Operands → ℕ → ℕ
  found operands which = slice_index (map (slice_index own.registers) (read_by operands)) which

  module _ (instr : Instr) (r a : ℕ) where
    by_value : (b : Operand) →
        IsSome (computed instr (slice_index own.registers a) (held_in b own.registers)) →
        request_with job i own.counter (computed instr) (TargetTwo r a b) (found (TargetTwo r a b) 0)
        (found (TargetTwo r a b) 1) 0 ≡ gives job i own.counter r
        (unwrap_or (computed instr (slice_index own.registers a) (held_in b own.registers)) 0)
    by_value (Register s) some = within_some (computed instr (slice_index own.registers a)
        (slice_index own.registers s)) (out_of_range job) (gives job i own.counter r) some
    by_value (Number n) some = within_some (computed instr (slice_index own.registers a) n)
        (out_of_range job) (gives job i own.counter r) some

    pub asks_computed : (b : Operand) → (row_of instr).1 ≡ TargetTwo r a b →
        IsSome (computed instr (slice_index own.registers a) (held_in b own.registers)) →
        asked_by job i own (Some instr) 0 ≡ gives job i own.counter r
        (unwrap_or (computed instr (slice_index own.registers a) (held_in b own.registers)) 0)
    unfolding decided
    asks_computed b two some =
        ap (λ (o : Operands). request_with job i own.counter (computed instr) o (found o 0) (found o 1) 0)
        two ∙ by_value b some

  -- the cell of a store is there
  pub asks_store : (place : Place) (b : Operand) (cell : ℕ) →
      reached job place (held_in (index_of place) own.registers) ≡ Some cell →
      asked_by job i own (Some (St place b)) 0
      ≡ record { put = Some (cell, held_in b own.registers); next = own.counter + 1 }
  unfolding decided
  asks_store (Cell (Register a)) (Register s) cell is = within_is _ _ _ _ is
  asks_store (Cell (Register a)) (Number n) cell is = within_is _ _ _ _ is
  asks_store (Cell (Number m)) (Register s) cell is = within_is _ _ _ _ is
  asks_store (Cell (Number m)) (Number n) cell is = within_is _ _ _ _ is
  asks_store (Named array (Register a)) (Register s) cell is = within_is _ _ _ _ is
  asks_store (Named array (Register a)) (Number n) cell is = within_is _ _ _ _ is
  asks_store (Named array (Number m)) (Register s) cell is = within_is _ _ _ _ is
  asks_store (Named array (Number m)) (Number n) cell is = within_is _ _ _ _ is

-- ---- what becomes of a processor

module _ (job : JobData) (i counter : ℕ) (registers : List ℕ) (instr : Instr) where
  abbrev owning : ℕ → List ℕ → Own
  owning at held = record { counter = at; registers = held }

  abbrev own : Own
  own = owning counter registers

  abbrev request : Request
  request = asked_by job i own (Some instr) 0

  given : (r v : ℕ) → registers_after job i registers (Some (register_place job i r, v)) ≡ set registers r v
  given r v =
      let there : register_place job i r - register_place job i 0 ≡ r = omega arith in
      rw (le-ltb (register_place job i r) job.cells (omega arith))
      (ap (λ (q : ℕ). set registers q v) there)

  no_cell : (r v : ℕ) → cell_write job (Some (register_place job i r, v)) ≡ None
  no_cell r v = rw (le-ltb (register_place job i r) job.cells (omega arith)) refl

  pub gives_goes : (r v : ℕ) (after : List ℕ) → request ≡ gives job i counter r v →
      after ≡ set registers r v → GoesBy job i instr own (owning (counter + 1) after) None
  gives_goes r v after asks is = record {
    own = sym (ap (own_after job i own) asks ∙ ap (owning (counter + 1)) (given r v ∙ sym is));
    writes = sym (ap (λ (q : Request). cell_write job q.put) asks ∙ no_cell r v);
    unclaimed = or_right (is_common job.rule) true refl;
  }

  pub jumps_goes : (next : ℕ) → request ≡ goes_to next →
      GoesBy job i instr own (owning next registers) None
  jumps_goes next asks = record {
    own = sym (ap (own_after job i own) asks);
    writes = sym (ap (λ (q : Request). cell_write job q.put) asks);
    unclaimed = or_right (is_common job.rule) true refl;
  }

  abbrev stores : ℕ → ℕ → Request
  stores cell v = record { put = Some (cell, v); next = counter + 1 }

  pub stores_goes : (cell v : ℕ) → request ≡ stores cell v → cell < job.cells →
      is_common job.rule ≡ true → GoesBy job i instr own (owning (counter + 1) registers) (Some (cell, v))
  stores_goes cell v asks low common = record {
    own = sym (ap (own_after job i own) asks ∙ rw (lt-ltb cell job.cells low) refl);
    writes = sym (ap (λ (q : Request). cell_write job q.put) asks ∙ rw (lt-ltb cell job.cells low) refl);
    unclaimed = rw common refl;
  }

-- ---- all go on

-- only registers are written
pub unwritten : (block : Block) (registers : List (List ℕ)) (stand : StandThere block.standing
    block.acted block.step block.settled block.counter block.stored) →
    AreSame block (record block { registers = registers; stand = stand })
unwritten block registers stand = record {
  acted = refl;
  step = refl;
  counter = refl;
  settled = refl;
  told_counter = refl;
  told = refl;
  stored = refl;
}

module _ (job : JobData) (lanes : Span) (instr : Instr) (at next : Together) (old new : Block)
    (step : next.step ≡ suc at.step) (settled : next.settled ≡ at.settled) where
  -- a register of each is written
  pub all_give : (r : ℕ) (value : ℕ → ℕ) → next.counter ≡ at.counter + 1 → next.stored ≡ false →
      Puts lanes.start lanes.end r value old.registers new.registers → AreSame old new →
      new.cell ≡ old.cell → new.value ≡ old.value → ((k : ℕ) → lanes.start ≤ k → k < lanes.end →
      asked_by job (lanes.first + k) (own_of at.counter old k) (Some instr) 0
      ≡ gives job (lanes.first + k) at.counter r (value k)) →
      AllGoBy job lanes instr at next old new
  all_give r value counter none puts is cells values asks = record {
    step = step;
    settled = settled;
    same = is;
    there = λ k from to. rw (counter, none) (gives_goes job (lanes.first + k) at.counter
        (entries old.registers k) instr r (value k) (entries new.registers k) (asks k from to)
        (puts.there k from to));
    before = λ k low. lane_same k (puts.before k low);
    after = λ k high. lane_same k (puts.after k high);
  }
    where
      lane_same : (k : ℕ) → entries new.registers k ≡ entries old.registers k → SameLane old new k
      lane_same k here = record {
        registers = here;
        cell = ap (λ (xs : List ℕ). slice_index xs k) cells;
        value = ap (λ (xs : List ℕ). slice_index xs k) values;
      }

  -- nothing is written
  pub all_jump : next.stored ≡ false → new ≡ old → ((k : ℕ) → lanes.start ≤ k → k < lanes.end →
      asked_by job (lanes.first + k) (own_of at.counter old k) (Some instr) 0 ≡ goes_to next.counter) →
      AllGoBy job lanes instr at next old new
  all_jump none is asks = rw is (record {
    step = step;
    settled = settled;
    same = record {
      acted = refl;
      step = refl;
      counter = refl;
      settled = refl;
      told_counter = refl;
      told = refl;
      stored = refl;
    };
    there = λ k from to. rw none (jumps_goes job (lanes.first + k) at.counter
        (entries old.registers k) instr next.counter (asks k from to));
    before = λ k low. record { registers = refl; cell = refl; value = refl };
    after = λ k high. record { registers = refl; cell = refl; value = refl };
  })

  -- a store of each is remembered
  pub all_store : (place : Place) (b : Operand) → instr ≡ St place b → next.counter ≡ at.counter + 1 →
      next.stored ≡ true → Stores job lanes place b old new → AllGoBy job lanes instr at next old new
  all_store place b is counter some stores = record {
    step = step;
    settled = settled;
    same = stores.same;
    there = λ k from to. rw (counter, some, stores.registers) (stores_goes job (lanes.first + k)
        at.counter (entries old.registers k) instr (slice_index new.cell k) (slice_index new.value k)
        (asks k from to) (stores.below k from to) stores.common);
    before = λ k low. record {
      registers = ap (λ (rows : List (List ℕ)). entries rows k) stores.registers;
      cell = stores.cells.before k low;
      value = stores.values.before k low;
    };
    after = λ k high. record {
      registers = ap (λ (rows : List (List ℕ)). entries rows k) stores.registers;
      cell = stores.cells.after k high;
      value = stores.values.after k high;
    };
  }
    where
      asks : (k : ℕ) → lanes.start ≤ k → k < lanes.end →
          asked_by job (lanes.first + k) (own_of at.counter old k) (Some instr) 0
          ≡ record { put = Some (slice_index new.cell k, slice_index new.value k); next = at.counter + 1 }
      asks k from to = rw (is, stores.values.there k from to)
          (asks_store job (lanes.first + k) (own_of at.counter old k) place b (slice_index new.cell k)
          (stores.there k from to))

-- ---- what is remembered of a processor

module _ (job : JobData) (i : ℕ) (memo : Memo) (instr : Instr)
    (some : slice_get job.code memo.own.counter ≡ Some instr) (after : Own)
    (store : Option (ℕ × ℕ)) (goes : GoesBy job i instr memo.own after store) where
  -- it is then this
  pub lane_alone :
      one_alone job i memo ≡ record memo { step = suc memo.step; own = after; store = store }
  lane_alone = rw (goes.own, goes.writes, some) refl

  -- and could go so
  pub lane_goes : is_load (Some instr) ≡ false → is_due memo.settled (memo.step + 1) ≡ false →
      goes_alone job i memo ≡ true
  lane_goes other step = sym (goes_if job i memo instr some step other true
      (ap (λ (w : Option (ℕ × ℕ)). is_common job.rule || is_none w) (sym goes.writes) ∙ goes.unclaimed))

-- ---- what is remembered of all

module _ (old new : Block) (same : AreSame old new) (k : ℕ) where
  acted_is : slice_index new.acted k ≡ slice_index old.acted k
  acted_is = ap (λ (xs : List ℕ). slice_index xs k) same.acted

  told_is : (lane new k).told ≡ (lane old k).told
  told_is = rw (same.told_counter, same.told) refl

  -- another lane
  pub lane_same : SameLane old new k → lane new k ≡ lane old k
  lane_same here = rw (
    same.acted,
    same.step,
    same.settled,
    same.counter,
    same.told_counter,
    same.told,
    same.stored,
    here.registers,
    here.cell,
    here.value,
  ) refl

  -- a lane that goes on
  pub lane_next : (at next : Together) → next.step ≡ suc at.step → next.settled ≡ at.settled →
      lane_as next new k
      ≡ record (lane_as at old k) {
        step = suc at.step;
        own = own_of next.counter new k;
        store = store_of next.stored new k;
      }
  lane_next at next step settled = rw (acted_is, told_is, step, settled) refl

pub all_go : (job : JobData) (lanes : Span) (instr : Instr) (at next : Together) (old new : Block) →
    StandTogether job at instr → is_load (Some instr) ≡ false → is_due at.settled (at.step + 1) ≡ false →
    AllGoBy job lanes instr at next old new → AllGo job lanes at next old new
all_go job lanes instr at next old new stand load settles goes = record {
  step = goes.step;
  one = λ k from to. lane_next old new goes.same k at next goes.step goes.settled
      ∙ sym (lane_alone job (lanes.first + k) (lane_as at old k) instr stand.0
      (own_of next.counter new k) (store_of next.stored new k) (goes.there k from to));
  alone = λ k from to. lane_goes job (lanes.first + k) (lane_as at old k) instr stand.0
      (own_of next.counter new k) (store_of next.stored new k) (goes.there k from to) load settles;
  before = λ k low. lane_same old new goes.same k (goes.before k low);
  after = λ k high. lane_same old new goes.same k (goes.after k high);
}

-- ---- a store of each

-- but under common, a processor stays at a store of its own
pub store_stays : (job : JobData) (i : ℕ) (memo : Memo) (instr : Instr) (place : Place) (b : Operand) →
    slice_get job.code memo.own.counter ≡ Some instr → instr ≡ St place b →
    is_common job.rule ≡ false → IsPlace job.cells place →
    IsSome (reached job place (held_in (index_of place) memo.own.registers)) →
    gone_on job i memo ≡ memo
store_stays job i memo instr place b at is rule fits there =
    by (reached job place (held_in (index_of place) memo.own.registers)) refl there
  where
    by : (o : Option ℕ) → reached job place (held_in (index_of place) memo.own.registers) ≡ o →
        IsSome o → gone_on job i memo ≡ memo
    by None e some = absurd (cc)
    by (Some cell) e some = at_store job i memo instr at rule
        (ap (λ (q : Request). is_some (cell_write job q.put))
        (asks_by job i memo.own instr (St place b) _ is (asks_store job i memo.own place b cell e))
        ∙ rw (lt-ltb cell job.cells (reached_below job place _ cell fits e)) refl)

-- ---- the way of all

pub far_start : (job : JobData) (lanes : Span) (start : Together) (block : Block) →
    FarIn job lanes start start block block
far_start job lanes start block = record {
  later = omega arith;
  none = λ e. (refl, refl);
  there = λ k from to. refl;
  acted = λ k from to. refl;
  before = λ k low. refl;
  after = λ k high. refl;
}

pub far_step : (job : JobData) (lanes : Span) (instr : Instr) (start at next : Together)
    (old mid new : Block) → StandTogether job at instr → FarIn job lanes start at old mid →
    AllGo job lanes at next mid new → FarIn job lanes start next old new
far_step job lanes instr start at next old mid new stand far go = record {
  later = omega (arith, go.step, far.later);
  none = λ e. absurd (omega (arith, e, go.step, far.later));
  there = λ k from to. ap (gone_on job (lanes.first + k)) (go.one k from to)
      ∙ one_on job (lanes.first + k) (lane_as at mid k) instr stand.0
      (still_goes job (own_of at.counter mid k) instr stand.0) (rw stand.2 refl) stand.1
      (go.alone k from to) ∙ far.there k from to;
  acted = λ k from to. ap (λ (m : Memo). m.acted) (go.one k from to) ∙ far.acted k from to;
  before = λ k low. go.before k low ∙ far.before k low;
  after = λ k high. go.after k high ∙ far.after k high;
}

-- where no step was made, all stand there already
pub still_there : (start at : Together) (old new : Block) (k : ℕ) → (at ≡ start) × (new ≡ old) →
    lane_as start old k ≡ lane old k → lane_as at new k ≡ lane new k
still_there start at old new k same there = rw (same.0, same.1) there

-- up to which phase a lane has nothing to do
pub reach_as : (phase : ℕ) (at : Together) (block : Block) (k : ℕ) →
    slice_index block.acted k ≤ phase → reach_from_phase phase (lane_as at block k) ≡ reach_at at
reach_as phase at block k low = elim (cases_Bool at.stored) [
  | inl e ↦ rw (le-leb (slice_index block.acted k) phase low, e) refl
  | inr e ↦ rw (le-leb (slice_index block.acted k) phase low, e) refl
]

pub reach_most : (at : Together) (steps : ℕ) → at.step ≤ steps → reach_at at ≤ 3 * steps
reach_most at steps low = elim (cases_Bool at.stored) [
  | inl e ↦ rw e (omega (arith, low))
  | inr e ↦ rw e (omega (arith, low))
]

-- one that has a store to carry out stays
pub stored_rest : (job : JobData) (lanes : Span) (at : Together) (block : Block) →
    at.step ≤ job.steps → at.stored ≡ true → AllRest job lanes at block
stored_rest job lanes at block low stored = record {
  there = λ k from to. stored_stays job (lanes.first + k) (lane_as at block k)
      (suc (at.settled + 64 - at.step)) (rw stored refl);
  last = low;
}

pub if_each : (o : Option ℕ) (P Q : ℕ → Type 0) → ((x : ℕ) → P x → Q x) → IfSome o P → IfSome o Q
if_each None P Q each some = tt
if_each (Some x) P Q each some = each x some
