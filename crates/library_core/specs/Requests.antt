-- What a request asks of a call, and what is wrong with it.
use Rattle.std.specs.Prelude.{◌≡◌, ◌==◌, ◌||◌, ℕ, Bool, List, Option, Some, None, if◌then◌else◌}
use Rattle.std.specs.Prelude.{nat_lt, ⊤}
use Rattle.std.specs.List.{list_all}
use Rattle.command_data.specs.declared.line.AskAlone.{AskAlone}
use Rattle.command_data.specs.declared.line.AskAlone.TheVariants as ask
use Rattle.pram_commands.specs.Did.{Command}
use Rattle.pram_commands.specs.LineRecords.{costing_by}
use Rattle.pram_commands.specs.Plain.{checking, plainly}
use Rattle.pram_commands.specs.Replayed.{replaying}
use Rattle.pram_commands.specs.Steps.{stepping}
use Rattle.pram_commands.specs.Texts.{compiling}
use Rattle.pram_commands.specs.Why.{in_lines}
use Rattle.pram_rows.specs.declared.window.Window.{Window}
use Rattle.library_core.specs.declared.request.Call.{Call}
use Rattle.library_core.specs.declared.request.Call.TheVariants.{Check, Compile, Plain, Cost}
use Rattle.library_core.specs.declared.request.Call.TheVariants.{Steps, Replay}
use Rattle.library_core.specs.declared.request.Request.{Request}
use Rattle.library_core.specs.declared.request.RequestFault.{RequestFault}
use Rattle.library_core.specs.declared.request.RequestFault.TheVariants as fault
use Rattle.library_core.specs.declared.request.TheConstants.{REQUEST_SIZE, WORKERS_MOST}

abbrev pub is_set : ℕ → Bool
is_set flag = flag == 1

-- the first and the last step that are shown; 0 stands for the first and the last that there are
abbrev pub from_of : Request → ℕ
from_of request = if request.from == 0 then 1 else request.from

abbrev pub to_of : Request → ℕ
to_of request = if request.to == 0 then 4294967295 else request.to

abbrev pub window_of : Request → Window
window_of request = record { from = from_of request; to = to_of request }

-- the command of a call
abbrev pub command_asked : Call → Request → Command
command_asked Check request = checking
command_asked Compile request = compiling
command_asked Plain request = plainly (in_lines (is_set request.why))
command_asked Cost request = costing_by (is_set request.lines)
command_asked Steps request = stepping (is_set request.rows_alone) (window_of request)
command_asked Replay request = replaying (is_set request.rows_alone) request.workers

-- what a call asks, as a line of the program's would
abbrev pub IsAskOf : Call → Request → AskAlone → Type 0
IsAskOf Check request (ask.Check model) = model ≡ None
IsAskOf Compile request ask.Compile = ⊤
IsAskOf Plain request (ask.Plain style model) =
    (style ≡ in_lines (is_set request.why)) × (model ≡ None)
IsAskOf Cost request (ask.Cost lines model) = (lines ≡ is_set request.lines) × (model ≡ None)
IsAskOf Steps request (ask.Steps from to alone) =
    (from ≡ from_of request) × (to ≡ to_of request) × (alone ≡ is_set request.rows_alone)
IsAskOf Replay request (ask.Replay workers alone) =
    (workers.count ≡ request.workers) × (alone ≡ is_set request.rows_alone)
IsAskOf _ _ _ = ⊥

-- ---- what is wrong

abbrev pub wrong_flag : ℕ → Option RequestFault
wrong_flag flag = if nat_lt 1 flag then Some fault.Flag else None

abbrev pub is_bad_count : ℕ → Bool
is_bad_count workers = nat_lt workers 1 || nat_lt WORKERS_MOST workers

abbrev pub wrong_steps : Request → Option RequestFault
wrong_steps request =
    if nat_lt (to_of request) (from_of request) then Some fault.Window
    else wrong_flag request.rows_alone

abbrev pub wrong_replay : Request → Option RequestFault
wrong_replay request =
    if is_bad_count request.workers then Some fault.Workers else wrong_flag request.rows_alone

-- of the fields that the call uses
abbrev pub wrong_field : Call → Request → Option RequestFault
wrong_field Check request = None
wrong_field Compile request = None
wrong_field Plain request = wrong_flag request.why
wrong_field Cost request = wrong_flag request.lines
wrong_field Steps request = wrong_steps request
wrong_field Replay request = wrong_replay request

abbrev pub are_zero : List ℕ → Bool
are_zero numbers = list_all (λ n. n == 0) numbers

-- the size is judged first, then what is reserved
abbrev pub wrong_in : Call → Request → Option RequestFault
wrong_in call request =
    if request.size == REQUEST_SIZE then (if are_zero request.reserved
    then wrong_field call request else Some fault.Reserved) else Some fault.Size
