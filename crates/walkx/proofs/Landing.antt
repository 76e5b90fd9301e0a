-- What a processor writes where it settles, by what is known once its turn is taken.
use Rattle.std.proofs.Common.{◌≡◌, ℕ, ◌==◌, ◌&&◌, Bool, true, false, not, List, [], ◌∷◌}
use Rattle.std.proofs.Common.{Option, Some, None, Result, Ok, Err, slice_get, slice_index, refl}
use Rattle.std.proofs.Common.{sym, ap, ◌∙◌, arith}
use Rattle.std.specs.Prelude.{◌||◌, if◌then◌else◌, is_none, is_some}
use Rattle.std.proofs.lemmas.Bool.{eq-eqb, eqb-true, le-ltb, ne_eqb}
use Rattle.pram_job.specs.declared.instr.Instr.{Instr}
use Rattle.pram_job.specs.declared.instr.Instr.TheVariants.{Ld}
use Rattle.pram_job.specs.declared.instr.Place.{Place}
use Rattle.pram_job.specs.Job.{JobData}
use Rattle.pram_machine.specs.declared.requests.Request.{Request}
use Rattle.pram_machine.specs.Instructions.{gives}
use Rattle.pram_machine.specs.Machine.{counter_place, register_place}
use Rattle.pram_words.specs.Phases.{kind_at}
use Rattle.pram_words.specs.declared.phases.Kind.TheVariants.{Compute}
use Rattle.walk_memory.specs.declared.memo.Memo.{Memo}
use Rattle.walkx.specs.Driving.{IsNextPart, Part, Plays, Standing}
use Rattle.walk_memory.specs.Inner.Posts.{PostData, step_of, processor_of}
use Rattle.walk_memory.specs.Memory.{all_registers, cell_named, cell_next, own_after, settles_in}
use Rattle.walkx.specs.Passes.{is_put_to, lands_counter, lands_register, put_if, registers_landing}
use Rattle.walkx.specs.Passes.{writes_each}
use Rattle.walkx.specs.Scripts.{Script}
use Rattle.walkx.specs.Walk.{Then}
use Rattle.walkx.specs.declared.left.Left.{Left}
use Rattle.walkx.specs.WideParts.{counter_due, landed_from, learned, own_landed, own_written}
use Rattle.walkx.specs.WideParts.{register_due, register_landed, register_tells, writes_if}
use Rattle.walk_memory.specs.Turned.{landed}
use Rattle.walkx.proofs.FirstPass.{loads_then, made_with, reads_some, settles_reading}
use Rattle.walkx.proofs.Loaded.{load_claims, load_gives}
use Rattle.walk_memory.proofs.Timing.{compute_is}
use Rattle.walkx.proofs.Turning.{moved}

-- one place, and the others
one_place : (at : PostData) (so : Bool) (place value : ℕ) (others : List (ℕ × ℕ))
    (late after : Script Then) →
    writes_each at.layout (step_of at) (put_if so place value others) after
    ≡ writes_if at so place value late (λ done. writes_each at.layout (step_of at) others after)
one_place at true place value others late after = refl
one_place at false place value others late after = refl

same_place : (at : PostData) (a b : Bool) (place value other : ℕ) (late : Script Then)
    (next : Unit {0} → Script Then) → a ≡ b → value ≡ other →
    writes_if at a place value late next ≡ writes_if at b place other late next
same_place at a b place value other late next e f = rw (e, f) refl

-- the turn of this request is taken in what was known, but for what its words tell; the step is
-- told by this register, or the counter
pub record IsTaken (at : PostData) (known : Memo) (request : Request) (taken : Memo)
    (tells : Option ℕ) : Type 0 where
  pub own : taken.own ≡ own_after at.job (processor_of at) known.own request
  pub told : taken.told ≡ known.told
  pub reads : not (is_some (cell_next at.job known.own)) ≡ is_none tells
  pub put : (r : ℕ) → (is_some (cell_next at.job known.own)
      && is_put_to (register_place at.job (processor_of at) r) request.put) ≡ register_tells tells r

module _ (at : PostData) (known : Memo) (request : Request) (taken : Memo) (tells : Option ℕ)
    (is : IsTaken at known request taken tells) where
  register_same : (r : ℕ) →
      lands_register at.job (processor_of at) known request r ≡ register_due taken tells r
  register_same r = rw (is.own, is.told) (ap (λ (b : Bool). b
      || not (slice_index (own_after at.job (processor_of at) known.own request).registers r
      == slice_index known.told.registers r)) (is.put r))

  counter_same : lands_counter at.job known request ≡ counter_due taken tells
  counter_same = rw (is.own, is.told)
      (ap (λ (b : Bool). b || not (request.next == known.told.counter))
      is.reads)

  module _ (late after : Script Then) (next : Unit {0} → Script Then) where
    abbrev counter_left : List (ℕ × ℕ)
    counter_left = put_if (lands_counter at.job known request)
        (counter_place at.job (processor_of at)) request.next []

    each_landed : (registers : List ℕ) →
        writes_each at.layout (step_of at) (registers_landing at.job (processor_of at) known request
        registers counter_left) (next tt) ≡ landed_from at taken tells registers late next
    each_landed [] =
        one_place at (lands_counter at.job known request) (counter_place at.job (processor_of at))
        request.next [] late (next tt)
        ∙ same_place at _ _ (counter_place at.job (processor_of at)) request.next
        taken.own.counter late next counter_same (rw is.own refl)
    each_landed (r ∷ registers) =
        one_place at (lands_register at.job (processor_of at) known request r)
        (register_place at.job (processor_of at) r)
        (slice_index (own_after at.job (processor_of at) known.own request).registers r)
        (registers_landing at.job (processor_of at) known request registers counter_left)
        late (next tt)
        ∙ ap (λ (s : Script Then). writes_if at
        (lands_register at.job (processor_of at) known request r)
        (register_place at.job (processor_of at) r)
        (slice_index (own_after at.job (processor_of at) known.own request).registers r) late
        (λ done. s)) (each_landed registers)
        ∙ same_place at _ _ (register_place at.job (processor_of at) r) _
        (slice_index taken.own.registers r) late
        (λ done. landed_from at taken tells registers late next) (register_same r) (rw is.own refl)

    pub settled_landed : settles_in at.job (step_of at) known.settled known.own ≡ true →
        own_written at known request after next ≡ own_landed at taken tells late next
    settled_landed settles =
        ap (λ (b : Bool). writes_each at.layout (step_of at) (if b
        then registers_landing at.job (processor_of at) known request all_registers counter_left
        else []) (next tt)) settles ∙ each_landed all_registers

-- one of these registers, and then the others
module _ {D : Type 0} (stands : Standing D) (at : PostData) (taken : Memo) (tells : Option ℕ)
    (r : ℕ) (others : List ℕ) (old : D) where
  abbrev One : D → Result (Unit {0}) Left → Type 0
  One mid result = Plays stands old (register_landed at taken tells r) mid result

  abbrev rest : Part (Unit {0})
  rest = landed_from at taken tells others

  pub one_next : IsNextPart stands old (landed_from at taken tells (r ∷ others)) →
      IsNextPart stands old (register_landed at taken tells r)
  one_next is = record {
    from = is.from;
    after = is.after;
    next = λ done. rest is.after is.next;
    here = is.here;
  }

  module _ (mid : D) where
    pub one_left : (why : Left) → One mid (Err why) →
        Plays stands old (landed_from at taken tells (r ∷ others)) mid (Err why)
    one_left why one = record {
      on = λ from after next here. one.on from after (λ done. rest after next) here;
    }

    module _ (done : Unit {0}) (one : One mid (Ok done)) where
      pub others_next : IsNextPart stands old (landed_from at taken tells (r ∷ others)) →
          IsNextPart stands mid (landed_from at taken tells others)
      others_next is = record {
        from = is.from;
        after = is.after;
        next = is.next;
        here = one.on is.from is.after (λ done. rest is.after is.next) is.here;
      }

      pub others_played : (new : D) (result : Result (Unit {0}) Left) →
          Plays stands mid (landed_from at taken tells others) new result →
          Plays stands old (landed_from at taken tells (r ∷ others)) new result
      others_played new result plays = record {
        on = λ from after next here. plays.on from after next
            (one.on from after (λ done. rest after next) here);
      }

-- ---- a load

-- its register is the one that is put to
same_register : (job : JobData) (i a b : ℕ) →
    (register_place job i a == register_place job i b) ≡ (a == b)
same_register job i a b = by (a == b) refl
  where
    by : (so : Bool) → (a == b) ≡ so → (register_place job i a == register_place job i b) ≡ (a == b)
    by true e = eq-eqb _ _ (ap (register_place job i) (eqb-true a b e)) ∙ sym e
    by false e = ne_eqb _ _ (λ f. let g : a ≡ b = omega (arith, f) in
        let h : (a == b) ≡ true = eq-eqb a b g in absurd (let k = sym h ∙ e in cc)) ∙ sym e

module _ (at : PostData) (known taken : Memo) (register value : ℕ)
    (own : taken.own ≡ own_after at.job (processor_of at) known.own
    (gives at.job (processor_of at) known.own.counter register value)) where
  abbrev given : Request
  given = gives at.job (processor_of at) known.own.counter register value

  load_taken : taken.told ≡ known.told → true ≡ is_some (cell_next at.job known.own) →
      IsTaken at known given taken (Some register)
  load_taken told reads = record {
    own = own;
    told = told;
    reads = ap not (sym reads);
    put = λ r. ap (λ (b : Bool). b && is_put_to (register_place at.job (processor_of at) r)
        given.put)
        (sym reads) ∙ same_register at.job (processor_of at) register r;
  }

  module _ (instr : Instr) (place : Place) (cell : ℕ) (is : instr ≡ Ld register place)
      (code : slice_get at.job.code known.own.counter ≡ Some instr)
      (reads : cell_named at.job known.own (Some instr) ≡ Some cell) where
    pub load_learned : kind_at at.phase ≡ Compute → landed at taken ≡ learned at known given
    load_learned first =
        ap (λ (q : ℕ). record {
          acted = q;
          step = step_of at;
          own = taken.own;
          settled = step_of at;
          told = taken.own;
          store = None;
        }) (compute_is at.phase first)
        ∙ rw (
          own,
          settles_reading at.job known.own instr code (step_of at) known.settled cell reads,
          le-ltb (register_place at.job (processor_of at) register) at.job.cells (omega arith),
        ) refl

    -- its places are written, once the cell was read
    pub load_lands : {D : Type 0} (stands : Standing D) (from : D × Script Then) (d : D)
        (late : Script Then) (next : Memo → Script Then) → taken.told ≡ known.told →
        stands from d (Some (made_with stands at known instr from next value)) →
        stands from d (Some (own_landed at taken (Some register) late
        (λ done. next (learned at known given))))
    load_lands stands from d late next told here = moved stands from d _ _
        (settled_landed at known given taken (Some register)
        (load_taken told (reads_some at.job known.own instr code cell reads)) late (next known)
        (λ done. next (learned at known given))
        (settles_reading at.job known.own instr code (step_of at) known.settled cell reads))
        (loads_then stands at known instr from next d value given
        (load_gives at.job (processor_of at) known.own instr register place cell value is reads)
        (load_claims at.job (processor_of at) known.own.counter register value at.job.rule) here)

-- ---- a turn in which nothing is read

pub quiet_taken : (at : PostData) (known : Memo) (request : Request) (taken : Memo) →
    taken.own ≡ own_after at.job (processor_of at) known.own request → taken.told ≡ known.told →
    cell_next at.job known.own ≡ None → IsTaken at known request taken None
quiet_taken at known request taken own told none = record {
  own = own;
  told = told;
  reads = ap (λ (o : Option ℕ). not (is_some o)) none;
  put = λ r. ap (λ (o : Option ℕ). is_some o
      && is_put_to (register_place at.job (processor_of at) r) request.put) none;
}
