-- An instruction that computes gives what it makes of two numbers.
use Rattle.std.proofs.Common.{◌≡◌, ℕ, List, ◌∷◌, Option, sym, ap, subst, ◌∙◌}
use Rattle.pram_job.specs.declared.instr.Instr.{Instr}
use Rattle.pram_job.specs.declared.instr.Operand.{Operand}
use Rattle.pram_job.specs.declared.instr.Operands.{Operands}
use Rattle.pram_job.specs.declared.instr.Operands.TheVariants.{TargetTwo}
use Rattle.pram_job.specs.Instructions.{row_of}
use Rattle.pram_job.specs.Job.{JobData}
use Rattle.pram_machine.specs.declared.turn.Turn.{Turn}
use Rattle.pram_machine.specs.Machine.{out_of_range}
use Rattle.pram_machine.specs.Instructions.{request_with, computed, decided, gives}
use Rattle.pram_machine.specs.Instructions.{read_by, registers_in, sources_of, value_of, within}
use Rattle.pram_machine.specs.Turns.{IsTurnOf}

module _ (job : JobData) (i counter v : ℕ) (held : List ℕ → ℕ → ℕ) (r a : ℕ) (b : Operand) where
  -- the instruction has a target and two operands
  abbrev pub HasTwo : Instr → Type 0
  HasTwo instr = (row_of instr).1 ≡ TargetTwo r a b

  -- so the turn is one of what is computed of the operands
  pub computed_turn : (instr : Instr) (x y : ℕ) (value : Option ℕ) (turn : Turn) → HasTwo instr →
      x ≡ held (a ∷ registers_in b) 0 → y ≡ value_of b (held (a ∷ registers_in b) 1) →
      value ≡ computed instr x y →
      IsTurnOf job (within value (out_of_range job) (gives job i counter r)) turn →
      IsTurnOf job (decided job i counter instr (held (sources_of instr) 0)
      (held (sources_of instr) 1) v) turn
  unfolding decided
  computed_turn instr x y value turn two x_is y_is is turn_is =
      let same : value ≡ computed instr (held (a ∷ registers_in b) 0)
      (value_of b (held (a ∷ registers_in b) 1)) = cc in
      subst (λ request. IsTurnOf job request turn) (sym
      (ap (λ (operands : Operands). request_with job i counter (computed instr) operands
      (held (read_by operands) 0) (held (read_by operands) 1) v) two
      ∙ ap (λ o. within o (out_of_range job) (gives job i counter r)) (sym same)))
      turn_is
