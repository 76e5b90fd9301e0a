-- Where processors stand in the first pass.
use Rattle.std.specs.Prelude.{◌≡◌, ℕ, List, Some, slice_get, suc, ◌<◌}
use Rattle.std.specs.Fn.{AnyResult, Shared, always_fn}
use Rattle.pram_job.specs.declared.instr.Instr.{Instr}
use Rattle.pram_words.specs.Phases.{kind_at}
use Rattle.pram_words.specs.declared.phases.Kind.{Kind}
use Rattle.walk_memory.specs.declared.memo.Memo.{Memo}
use Rattle.walk_memory.specs.Inner.Posts.{PostData, step_of, processor_of}
use Rattle.walk_memory.specs.Memory.{memo_of, cell_named}
use Rattle.pram_job.specs.declared.instr.Instr.TheVariants.{Ld}
use Rattle.pram_job.specs.declared.instr.Place.{Place}

-- in the first pass, this is the instruction at this counter
abbrev pub IsStand : PostData → ℕ → Instr → Type 0
IsStand at counter instr =
    (kind_at at.phase ≡ Kind.Compute) × (slice_get at.job.code counter ≡ Some instr)

-- in the first pass the processor is known before the step, and stands at this counter, at this
-- instruction
pub record StandsAt (at : PostData) (memory : List Memo) (counter : ℕ) (instr : Instr) : Type 0
  where
    pub first : kind_at at.phase ≡ Kind.Compute
    pub before : suc (memo_of memory (processor_of at)).step ≡ step_of at
    pub there : (memo_of memory (processor_of at)).own.counter ≡ counter
    pub code : slice_get at.job.code counter ≡ Some instr

-- in the first pass, a processor of which this is known before the step stands at this instruction
pub record StandsKnown (at : PostData) (memo : Memo) (instr : Instr) : Type 0 where
  pub first : kind_at at.phase ≡ Kind.Compute
  pub before : suc memo.step ≡ step_of at
  pub code : slice_get at.job.code memo.own.counter ≡ Some instr

-- the same at a load of this cell into register r
pub record LoadsKnown (at : PostData) (memo : Memo) (r cell : ℕ) : Type 0 where
  pub place : Place
  pub stands : StandsKnown at memo (Ld r place)
  pub reads : cell_named at.job memo.own (Some (Ld r place)) ≡ Some cell
  pub below : cell < at.job.cells

-- a closure that may always be called, and then gives this instruction
abbrev pub GivesInstr : {F : Type 0} → Shared F (Unit {0}) Instr → F → Instr → Type 0
GivesInstr calls form instr = always_fn calls form × AnyResult calls form tt (λ given. given ≡ instr)
