-- The lines, files, cells and places that refusals name.
use Rattle.std.specs.Prelude.{ℕ, List, [], unwrap_or}
use Rattle.pram_text.specs.declared.fault.TextKind.{TextKind}
use Rattle.stop_plan.specs.declared.plan.PlanKind.{PlanKind}
use Rattle.pardo_job.specs.declared.fault.Refusal.{Refusal as ProgramRefusal}
use Rattle.command_data.specs.Line.{watched_place, text_now}
use Rattle.command_data.specs.declared.line.Line.{Line}
use Rattle.refusals.specs.declared.fault.CommandFault.{CommandFault}
use Rattle.refusals.specs.declared.fault.CommandFault.TheVariants as fault
use Rattle.refusals.specs.declared.refusal.Refusal.{Refusal}
use Rattle.refusals.specs.declared.refusal.Refusal.TheVariants as refusal

-- What a refusal names: a line of the text or a row of the plan, and what is wrong with it; what is
-- wrong with a program; a file; a cell; a place; a step; or nothing.
pub data Named : Type 0 where
  a_line : ℕ → TextKind → Named
  a_program : ProgramRefusal → Named
  a_row : ℕ → PlanKind → Named
  a_file : List ℕ → Named
  a_cell : ℕ → Named
  a_place : List ℕ → Named
  a_step : ℕ → Named
  nothing : Named

abbrev pub named_in : Refusal → Named
named_in (refusal.Text line kind) = a_line line kind
named_in (refusal.Program found) = a_program found
named_in (refusal.Plan row kind) = a_row row kind
named_in (refusal.File name) = a_file name.now
named_in (refusal.Size name) = a_file name.now
named_in (refusal.Cell cell) = a_cell cell
named_in (refusal.Place place) = a_place place.now
named_in (refusal.Step step) = a_step step
named_in _ = nothing

-- what a fault of a line is about
abbrev pub fault_names : Line → CommandFault → Named
fault_names line (fault.Text number kind) = a_line number kind
fault_names line (fault.Program found) = a_program found
fault_names line (fault.Plan row kind) = a_row row kind
fault_names line fault.JobDevice = a_file line.file.now
fault_names line fault.JobTooLarge = a_file line.file.now
fault_names line fault.PlanDevice = a_file (unwrap_or (text_now line.plan) [])
fault_names line fault.PlanTooLarge = a_file (unwrap_or (text_now line.plan) [])
fault_names line (fault.OutsideCell cell) = a_cell cell
fault_names line (fault.OutsidePlace at) = a_place (watched_place line.ask at)
fault_names line (fault.OutsideStep step) = a_step step
fault_names line _ = nothing
