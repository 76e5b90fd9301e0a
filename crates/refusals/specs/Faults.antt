-- The status of each fault.
use Rattle.std.specs.Prelude.{ℕ}
use Rattle.refusals.specs.declared.fault.CommandFault.{CommandFault}
use Rattle.refusals.specs.declared.fault.CommandFault.TheVariants.{Text, Program, Plan}
use Rattle.refusals.specs.declared.fault.CommandFault.TheVariants.{OutsideCell, JobDevice}
use Rattle.refusals.specs.declared.fault.CommandFault.TheVariants.{OutsidePlace, OutsideStep}
use Rattle.refusals.specs.declared.fault.CommandFault.TheVariants.{PlanDevice, OutDevice}
use Rattle.refusals.specs.declared.fault.CommandFault.TheVariants.{JobTooLarge, PlanTooLarge}
use Rattle.refusals.specs.declared.fault.CommandFault.TheVariants.{Memory}
use Rattle.refusals.specs.declared.refusal.TheConstants.{REFUSED, FAILED, MEMORY}

-- the status of a command that was not done
abbrev pub fault_status : CommandFault → ℕ
fault_status (Text line kind) = REFUSED
fault_status (Program refusal) = REFUSED
fault_status (Plan row kind) = REFUSED
fault_status (OutsideCell cell) = REFUSED
fault_status (OutsidePlace at) = REFUSED
fault_status (OutsideStep step) = REFUSED
fault_status JobDevice = FAILED
fault_status PlanDevice = FAILED
fault_status OutDevice = FAILED
fault_status JobTooLarge = FAILED
fault_status PlanTooLarge = FAILED
fault_status Memory = MEMORY
