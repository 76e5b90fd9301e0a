-- What a command answers where a call below it fails.
use Rattle.pram_streams.specs.declared.print.PrintFault.{PrintFault}
use Rattle.pram_streams.specs.declared.print.PrintFault.TheVariants as print
use Rattle.pram_streams.specs.declared.transfer.TakeFault.{TakeFault}
use Rattle.pram_streams.specs.declared.transfer.TakeFault.TheVariants as take
use Rattle.refusals.specs.declared.fault.CommandFault.{CommandFault}
use Rattle.refusals.specs.declared.fault.CommandFault.TheVariants.{JobDevice, PlanDevice}
use Rattle.refusals.specs.declared.fault.CommandFault.TheVariants.{OutDevice, JobTooLarge}
use Rattle.refusals.specs.declared.fault.CommandFault.TheVariants.{PlanTooLarge, Memory}

-- where the bytes of a job are taken
abbrev pub fault_of_job_source : TakeFault → CommandFault
fault_of_job_source take.Device = JobDevice
fault_of_job_source take.Memory = Memory
fault_of_job_source take.TooLarge = JobTooLarge

-- where an answer is printed
abbrev pub fault_of_print : PrintFault → CommandFault
fault_of_print print.Device = OutDevice
fault_of_print print.Memory = Memory

-- where the bytes of a plan are taken
abbrev pub fault_of_plan_source : TakeFault → CommandFault
fault_of_plan_source take.Device = PlanDevice
fault_of_plan_source take.Memory = Memory
fault_of_plan_source take.TooLarge = PlanTooLarge
