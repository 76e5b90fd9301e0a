-- What a load asks for.
use Rattle.std.proofs.Common.{◌≡◌, ℕ, Some, None, refl, arith}
use Rattle.std.proofs.lemmas.Bool.{le-ltb}
use Rattle.pram_job.specs.declared.instr.Rule.{Rule}
use Rattle.pram_job.specs.declared.instr.Rule.TheVariants.{Common, Priority, Crew}
use Rattle.pram_job.specs.declared.instr.Instr.{Instr}
use Rattle.pram_job.specs.declared.instr.Instr.TheVariants.{Ld}
use Rattle.pram_job.specs.declared.instr.Place.{Place}
use Rattle.pram_job.specs.Job.{JobData}
use Rattle.pram_machine.specs.Instructions.{decided, gives}
use Rattle.pram_machine.specs.Machine.{register_place}
use Rattle.walk_memory.specs.declared.memo.Own.{Own}
use Rattle.walk_memory.specs.Memory.{asked_by, cell_named}
use Rattle.walkx.specs.WideParts.{claimed_cell}

load_asks : (job : JobData) (i : ℕ) (own : Own) (register : ℕ) (place : Place) (cell value : ℕ) →
    cell_named job own (Some (Ld register place)) ≡ Some cell →
    gives job i own.counter register value ≡ asked_by job i own (Some (Ld register place)) value
unfolding decided
load_asks job i own register place cell value reads = rw reads refl

pub load_gives : (job : JobData) (i : ℕ) (own : Own) (instr : Instr) (register : ℕ) (place : Place)
    (cell value : ℕ) → instr ≡ Ld register place → cell_named job own (Some instr) ≡ Some cell →
    gives job i own.counter register value ≡ asked_by job i own (Some instr) value
load_gives job i own instr register place cell value is reads =
    rw is (load_asks job i own register place cell value (rw is at reads))

-- which claims nothing
pub load_claims : (job : JobData) (i counter register value : ℕ) (r : Rule) →
    claimed_cell r job (gives job i counter register value) ≡ None
load_claims job i counter register value Common = refl
load_claims job i counter register value Priority =
    rw (le-ltb (register_place job i register) job.cells (omega arith)) refl
load_claims job i counter register value Crew =
    rw (le-ltb (register_place job i register) job.cells (omega arith)) refl
