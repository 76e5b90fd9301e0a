-- A register that code may give a value is one for values.
use Rattle.std.proofs.Common.{◌≡◌, ℕ, ◌<◌, true, [], ◌∷◌, ap, if◌then◌else◌}
use Rattle.std.proofs.lemmas.Bool.{lt-ltb}
use Rattle.pram_job.specs.declared.instr.Instr.TheVariants.{Ld}
use Rattle.pram_job.specs.declared.instr.Operand.TheVariants.{Register}
use Rattle.pram_job.specs.declared.instr.Place.{Place}
use Rattle.pardo_job.specs.Operations.{is_shallow, taken_by}
use Rattle.pardo_job.proofs.Shallow.{shallow_target}

pub room : (at : ℕ) (place : Place) → is_shallow (Ld at place ∷ []) ≡ true → at < 3
room at place shallow = shallow_target (Ld at place) [] shallow

pub taken_at : (at : ℕ) → at < 3 → taken_by (Register at) ≡ 1
taken_at at lt = ap (λ b. if b then 1 else 0) (lt-ltb at 3 lt)
