-- Where the variables of loops are, and what is known of one who is lost, and of two that clash.
use Rattle.std.proofs.Common.{◌≡◌, ℕ, ◌+◌, ◌-◌, ◌<◌, List, Option, Some, None, true, ap, arith}
use Rattle.std.proofs.Common.{subst}
use Rattle.std.specs.Prelude.{IfOk, IfSome, Result}
use Rattle.pram_job.specs.Job.{JobData}
use Rattle.pram_step.specs.Runs.{IsReached}
use Rattle.pram_rows.specs.Fates.{AreFates}
use Rattle.pram_rows.specs.declared.fates.Fates.{Fates}
use Rattle.pram_rows.specs.declared.fates.Lost.{Lost}
use Rattle.pram_rows.proofs.Causing.{lost_reached, lost_within}
use Rattle.pardo_program.specs.Lawful.{IsProgram}
use Rattle.pardo_program.specs.Program.{ProgramData}
use Rattle.pardo_text.specs.declared.fault.PardoFault.{PardoFault}
use Rattle.pardo_text.specs.Laws.{ProgramsAreLawful}
use Rattle.pardo_flat.specs.Flat.{flat, most_pieces}
use Rattle.pardo_flat.specs.Layouts.{ProgramLayoutData, program_layout}
use Rattle.pardo_job.proofs.FlatCompiled.{compiled_lawful}
use Rattle.naming.specs.Inner.Rounds.{IsLawfulFlat}
use Rattle.naming.specs.Names.{IsNaming, NamingData}

-- the flat program has the loops of the program
pub nest_there : (program : ProgramData) (layout : ProgramLayoutData) (nest : ℕ) →
    layout ≡ program_layout (flat program) → nest < program.loops → nest < layout.loops
unfolding program_layout
nest_there program layout nest is lt =
    let e : layout.loops ≡ program.loops + most_pieces true program program.lines =
    ap (λ (l : ProgramLayoutData). l.loops) is in omega (arith, e, lt)

-- a program that was read and compiled
pub named_lawful : ProgramsAreLawful → (text : List ℕ) (job : JobData) (naming : NamingData) →
    IsNaming text job naming → IsLawfulFlat naming.program
named_lawful laws text job naming is =
    let lawful : IsProgram naming.program =
    subst (λ (r : Result ProgramData PardoFault). IfOk r IsProgram) is.reads (laws text) in
    (lawful, compiled_lawful naming.program job _ lawful is.makes)

-- the step in which one is lost is reached, and it is a processor of the job
pub lost_known : (job : JobData) (n : ℕ) (fates : Fates) → AreFates job n fates →
    (lost : Option Lost) → fates.lost ≡ lost →
    IfSome lost (λ one. IsReached job (one.step - 1) × (one.processor < job.procs))
lost_known job n fates are None is = tt
lost_known job n fates are (Some lost) is =
    (lost_reached job n fates lost are is, lost_within job n fates lost are is)
