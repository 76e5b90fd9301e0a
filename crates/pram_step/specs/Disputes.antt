-- When writes are against the rule: those of a step of the machine, or of a line of a program.
use Rattle.std.specs.Prelude.{◌≢◌, ℕ, ◌≤◌}
use Rattle.pram_job.specs.declared.instr.Rule.{Rule}
use Rattle.pram_job.specs.declared.instr.Rule.TheVariants.{Common, Priority, Crew}
use Rattle.pram_step.specs.declared.answer.Dispute.{Dispute}

-- Two writes to one cell that the rule forbids, of processors i and j.
abbrev pub Forbids : Rule → ℕ → ℕ → ℕ → ℕ → Type 0
Forbids Common i value j other = value ≢ other
Forbids Priority i value j other = ⊥
Forbids Crew i value j other = i ≢ j

-- Of writes of this kind (`Writes cell i value`: processor i writes the value to the cell) those of
-- processors i and j to the cell are against the rule.
pub record Clash (rule : Rule) (Writes : ℕ → ℕ → ℕ → Type 0) (cell i j : ℕ) : Type 0 where
  pub value : ℕ
  pub other : ℕ
  pub writes : Writes cell i value
  pub writes_too : Writes cell j other
  pub forbidden : Forbids rule i value j other

-- Where some two are: the least cell in which two clash, its least writer, and the least that
-- clashes with that one.
pub record IsLeastClash (rule : Rule) (Writes : ℕ → ℕ → ℕ → Type 0) (dispute : Dispute) : Type 0
  where
    pub clash : Clash rule Writes dispute.cell dispute.first dispute.second
    pub least_cell : (cell i j : ℕ) → Clash rule Writes cell i j → dispute.cell ≤ cell
    pub least_first : (i value : ℕ) → Writes dispute.cell i value → dispute.first ≤ i
    pub least_second : (j : ℕ) →
        Clash rule Writes dispute.cell dispute.first j → dispute.second ≤ j
