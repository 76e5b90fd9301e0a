-- Code that walks: without a jump, it goes on by one instruction at a step.
use Rattle.std.proofs.Common.{◌≡◌, ℕ, zero, suc, ◌+◌, ◌<◌, ◌≤◌, ◌⊎◌, Bool, true, false, List, []}
use Rattle.std.proofs.Common.{◌∷◌, ◌++◌, Option, Some, None, length, if◌then◌else◌}
use Rattle.std.proofs.Common.{refl, sym, ap, ◌∙◌, subst, inl, inr, ⊎_elim, arith}
use Rattle.std.specs.Prelude.{slice_get}
use Rattle.pram_job.specs.declared.instr.Instr.{Instr}
use Rattle.pram_job.specs.declared.instr.Instr.TheVariants.{Ld, St, Jz, Jmp, Halt}
use Rattle.pram_job.specs.declared.instr.Place.TheVariants.{Cell, Named}
use Rattle.pram_job.specs.Job.{JobData, IsJob}
use Rattle.pram_machine.specs.Machine.{counter, out_of_range}
use Rattle.pram_step.specs.Runs.{state_after}
use Rattle.pardo_job.specs.Straight.{Registers}
use Rattle.pardo_law.specs.Locals.{AreStraight, HasCodeAt, IsLocal, IsStraight, Local, NamesByArray}
use Rattle.pardo_law.specs.Locals.{after_instr, memory_of, registers_of, standing_at}
use Rattle.pardo_law.proofs.Leading.{next_is, stays_out}
use Rattle.pardo_law.proofs.Placing.{straight_instr}

-- it gives a register a value, or stores to a place of an array
abbrev pub Walks : Instr → Type 0
Walks (St (Named array index) value) = Unit {0}
Walks one = IsStraight one

abbrev pub AreWalking : List Instr → Type 0
AreWalking [] = Unit {0}
AreWalking (one ∷ code) = Walks one × AreWalking code

straight_walks : (one : Instr) → IsStraight one → Walks one
straight_walks (St (Named array index) value) is = tt
straight_walks (St (Cell index) value) is = is
straight_walks one is = is

pub all_walk : (code : List Instr) → AreStraight code → AreWalking code
all_walk [] is = tt
all_walk (one ∷ code) is = (straight_walks one is.0, all_walk code is.1)

pub walk_append : (front back : List Instr) → AreWalking front → AreWalking back →
    AreWalking (front ++ back)
walk_append [] back a b = b
walk_append (one ∷ front) back a b = (a.0, walk_append front back a.1 b)

-- ---- one instruction

abbrev IsNext : ℕ → Local → Type 0
IsNext at None = Unit {0}
IsNext at (Some local) = local.0 ≡ at + 1

next_store : (at : ℕ) (held : Registers) (t : Bool) →
    IsNext at (if t then Some (at + 1, held) else None)
next_store at held true = refl
next_store at held false = tt

next_straight : (at : ℕ) (o : Option Registers) → IsNext at (standing_at (at + 1) o)
next_straight at None = tt
next_straight at (Some held) = refl

module _ (job : JobData) (memory : ℕ → ℕ) (i at : ℕ) (held : Registers) where
  goes_straight : (one : Instr) → IsStraight one →
      IsNext at (after_instr job memory i at held one)
  goes_straight one is = subst (IsNext at) (sym (straight_instr job memory i at held one is))
      (next_straight at _)

  walks_on : (one : Instr) → Walks one → IsNext at (after_instr job memory i at held one)
  walks_on (Ld target (Named array index)) is = goes_straight (Ld target (Named array index)) tt
  walks_on (Ld target (Cell index)) is = absurd is
  walks_on (St (Named array index) value) is = next_store at held _
  walks_on (St (Cell index) value) is = absurd is
  walks_on (Jz register index) is = absurd is
  walks_on (Jmp index) is = absurd is
  walks_on Halt is = absurd is
  walks_on one is = goes_straight one tt

walks_named : (one : Instr) → Walks one → NamesByArray one
walks_named (Ld target (Named array index)) is = tt
walks_named (Ld target (Cell index)) is = absurd is
walks_named (St (Named array index) value) is = tt
walks_named (St (Cell index) value) is = absurd is
walks_named (Jz register index) is = absurd is
walks_named (Jmp index) is = absurd is
walks_named Halt is = absurd is
walks_named one is = tt

-- ---- one processor

-- after t steps it is out of range, or at this instruction
abbrev pub IsAt : JobData → ℕ → ℕ → ℕ → Type 0
IsAt job i t at = (counter job (state_after job t) i ≡ out_of_range job)
    ⊎ (counter job (state_after job t) i ≡ at)

module _ (job : JobData) (is_job : IsJob job) (i : ℕ) (lt : i < job.procs) where
  local_at : (t at : ℕ) (l : Local) → IsNext at l → IsLocal job (state_after job t) i l →
      IsAt job i t (at + 1)
  local_at t at None next local = inl local
  local_at t at (Some l) next local = inr (local.0 ∙ next)

  step_on : (t at : ℕ) (one : Instr) → slice_get job.code at ≡ Some one → Walks one →
      IsAt job i t at → IsAt job i (suc t) (at + 1)
  step_on t at one stands is (inl out) = inl (stays_out job is_job t i lt out)
  step_on t at one stands is (inr here) =
      let held : Registers = registers_of job (state_after job t) i in
      local_at (suc t) at
      (after_instr job (memory_of job (state_after job t)) i at held one)
      (walks_on job (memory_of job (state_after job t)) i at held one is)
      (next_is job is_job t i lt at held one stands (walks_named one is) (here, refl))

  pub walk : (code : List Instr) (t at d : ℕ) → HasCodeAt job at code → AreWalking code →
      d ≤ length code → IsAt job i t at → IsAt job i (t + d) (at + d)
  walk code t at zero stands walks le here =
      let e : t ≡ t + 0 = omega arith in
      let f : at ≡ at + 0 = omega arith in
      subst (λ (u : ℕ). IsAt job i u (at + 0)) e (subst (IsAt job i t) f here)
  walk [] t at (suc d) stands walks le here = absurd (omega (arith, le))
  walk (one ∷ code) t at (suc d) stands walks le here =
      let e : suc t + d ≡ t + suc d = omega arith in
      let f : at + 1 + d ≡ at + suc d = omega arith in
      subst (λ (u : ℕ). IsAt job i u (at + suc d)) e (subst (IsAt job i (suc t + d)) f
      (walk code (suc t) (at + 1) d stands.1 walks.1 (omega (arith, le))
      (step_on t at one stands.0 walks.0 here)))
