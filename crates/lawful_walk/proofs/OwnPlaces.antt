-- What a processor does of its own in a step, and what it stores; and when it has nothing to do.
use Rattle.std.proofs.Common.{◌≡◌, ℕ, suc, ◌<◌, Option, Some, None, refl}
use Rattle.std.proofs.Common.{sym, subst, ◌∙◌, inl, inr, arith}
use Rattle.std.proofs.lemmas.Bool.{lt-ltb}
use Rattle.std.proofs.lemmas.Option.{none-some}
use Rattle.pram_job.specs.declared.instr.Rule.{Rule}
use Rattle.pram_job.specs.declared.instr.Rule.TheVariants.{Common, Priority, Crew}
use Rattle.pram_job.specs.Job.{JobData}
use Rattle.pram_machine.specs.Instructions.{request_in}
use Rattle.pram_machine.specs.Machine.{counter_place}
use Rattle.pram_machine.proofs.Shapes.{asks}
use Rattle.pram_step.specs.History.{Asks}
use Rattle.pram_step.specs.Runs.{state_after}
use Rattle.pram_step.proofs.LawPlaces.{writer_is}
use Rattle.pram_step.proofs.RequestList.{written_cases, written_of_put}
use Rattle.pram_words.specs.declared.layout.Form.TheVariants.{Wide}
use Rattle.pram_words.specs.declared.phases.Kind.{Kind}
use Rattle.pram_words.specs.declared.phases.Kind.TheVariants.{Compute, Apply, Verify}
use Rattle.walk_memory.specs.Memory.{IsIdle, store_in}
use Rattle.walk_memory.specs.OwnWrites.{cell_write}
use Rattle.walk_memory.proofs.OwnFits.{cell_write_is}
use Rattle.lawful_walk.specs.Board.{Rests, StoresNone}
use Rattle.lawful_walk.proofs.Winners.{own_none_of_settles}

-- a store's cell and value are those of its write
pub cell_asks : (job : JobData) (t i c v : ℕ) → i < job.procs →
    cell_write job (request_in job (state_after job t) i).put ≡ Some (c, v) →
    Asks job t c i v × (c < job.cells)
cell_asks job t i c v proc e =
    let s = state_after job t in
    let r = request_in job s i in
    let put = cell_write_is job r.put c v e in
    let away : c ≡ counter_place job i → ⊥ = λ same. absurd (let l = put.1 in omega arith) in (
      record {
        request = r;
        request_is = asks job s i proc;
        writes = written_of_put job c i v r away put.0;
      },
      put.1,
    )

-- and what it asks for of a cell is that
pub asks_cell : (job : JobData) (t i c v : ℕ) → c < job.cells → Asks job t c i v →
    cell_write job (request_in job (state_after job t) i).put ≡ Some (c, v)
asks_cell job t i c v cell made =
    let s = state_after job t in
    let r = request_in job s i in
    elim (written_cases job c i v r (writer_is job s c i v made).1) [
      | inl is ↦ absurd (let e = is.0 in omega arith)
      | inr put ↦ subst (λ (o : Option (ℕ × ℕ)). cell_write job o ≡ Some (c, v)) (sym put)
          (rw (lt-ltb c job.cells cell) refl)
    ]

-- ---- when it has nothing to do

pub stores_none : (job : JobData) (t i : ℕ) → store_in job i (suc t) ≡ None → StoresNone job t i
stores_none job t i none c v made cell =
    absurd (none-some (c, v) (sym none ∙ asks_cell job t i c v cell made))

-- one that is idle in a pass rests in it
pub idle_rests : (g : ℕ) (rule : Rule) (kind : Kind) (job : JobData) (t i : ℕ) →
    IsIdle rule kind job t i → Rests (Wide g) rule kind job t i
idle_rests g Common Compute job t i idle = own_none_of_settles g job t i idle
idle_rests g Common Apply job t i idle = tt
idle_rests g Common Verify job t i idle = stores_none job t i idle
idle_rests g Priority Compute job t i idle =
    (own_none_of_settles g job t i idle.0, stores_none job t i idle.1)
idle_rests g Priority Apply job t i idle = tt
idle_rests g Priority Verify job t i idle = stores_none job t i idle
idle_rests g Crew Compute job t i idle =
    (own_none_of_settles g job t i idle.0, stores_none job t i idle.1)
idle_rests g Crew Apply job t i idle = tt
idle_rests g Crew Verify job t i idle = stores_none job t i idle

pub idle_stores : (rule : Rule) (job : JobData) (t i : ℕ) → IsIdle rule Verify job t i →
    store_in job i (suc t) ≡ None
idle_stores Common job t i idle = idle
idle_stores Priority job t i idle = idle
idle_stores Crew job t i idle = idle
