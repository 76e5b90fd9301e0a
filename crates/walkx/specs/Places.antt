-- The first pass of a processor, where what is known of it lies in a lane of a block.
use Rattle.std.specs.Prelude.{◌≡◌, ◌≢◌, ℕ, zero, suc, ◌<◌, drop, length, slice_index, slice_set}
use Rattle.std.specs.Prelude.{List, Some, Result}
use Rattle.walk_memory.specs.declared.block.Block.{Block}
use Rattle.walkx.specs.declared.land_at.Landing.{Landing}
use Rattle.walkx.specs.declared.left.Left.{Left}
use Rattle.walk_memory.specs.declared.memo.Memo.{Memo}
use Rattle.walkx.specs.Driving.{Part, Plays, Standing, learns}
use Rattle.walk_memory.specs.Inner.Posts.{PostData}
use Rattle.walk_memory.specs.Lanes.{lane}
use Rattle.walk_memory.specs.Memory.{all_registers}
use Rattle.walkx.specs.Parts.{does_wide}
use Rattle.walkx.specs.Scripts.{Script}
use Rattle.walkx.specs.Walk.{Then}
use Rattle.walkx.specs.WideParts.{landed_from, own_landed}

-- once its words tell what register r is
abbrev pub tells_register : Memo → ℕ → Memo
tells_register memo r = record memo {
  told = record memo.told {
    registers = slice_set memo.told.registers r (slice_index memo.own.registers r);
  };
}

-- once they tell what the first r registers are
abbrev pub told_registers : List ℕ → List ℕ → ℕ → List ℕ
told_registers own told zero = told
told_registers own told (suc r) = slice_set (told_registers own told r) r (slice_index own r)

abbrev pub told_to : Memo → ℕ → Memo
told_to memo r = record memo {
  told = record memo.told {
    registers = told_registers memo.own.registers memo.told.registers r;
  };
}

-- what its counter is, which is written last
abbrev pub tells_counter : Memo → Memo
tells_counter memo = record memo {
  settled = memo.step;
  told = record memo.told { counter = memo.own.counter };
}

-- and what all is
abbrev pub tells_all : Memo → Memo
tells_all memo = record memo { settled = memo.step; told = memo.own }

-- the task of the processor of lane k of a block
abbrev pub wide_in_lane : PostData → Block → ℕ → Part Memo
wide_in_lane at block k = does_wide at (lane block k)

-- The processor's task was done where lane k of a block lies: its script was played, and the other
-- lanes are as they were.
pub record DoneInLane {D : Type 0} (stands : Standing D) (at : PostData) (old : D) (block : Block)
    (k : ℕ) (new : D) (now : Block) (result : Result (Unit {0}) Left) : Type 0 where
  pub others : (j : ℕ) → j ≢ k → lane now j ≡ lane block j
  pub plays : Plays stands old (does_wide at (lane block k)) new (learns result (lane now k))

-- Of the registers of lane k of a block the first r were written that were to be, and tell what
-- they are.
pub record LandedTo {D : Type 0} (stands : Standing D) (at : PostData) (old : D) (block : Block)
    (landing : Landing) (r : ℕ) (new : D) (now : Block) : Type 0 where
  pub others : (j : ℕ) → j ≢ landing.lane → lane now j ≡ lane block j
  pub told : lane now landing.lane ≡ told_to (lane block landing.lane) r
  pub four : 0 < r → length (lane block landing.lane).told.registers ≡ 4
  pub on : (from : D × Script Then) (late : Script Then) (next : Unit {0} → Script Then) →
      stands from old (Some (own_landed at (lane block landing.lane) landing.tells late next)) →
      stands from new (Some (landed_from at (lane block landing.lane) landing.tells
      (drop r all_registers) late next))
