-- The program's command, and what a line holds of the matches of its words.
use Rattle.std.specs.Prelude.{◌≡◌, ◌≢◌, ◌<◌, ◌≤◌, ◌⊎◌, ◌-◌, ◌^◌, MatchOption, ℕ, Bool, true, false}
use Rattle.std.specs.Prelude.{⊤}
use Rattle.std.specs.Prelude.{List, [], Option, Some, None, Result, IsErrAnd, IsSome, IsSomeAnd}
use Rattle.std.specs.Prelude.{IfSome, codes, map, option_map, pos, unwrap_or}
use Rattle.std.specs.Str.Parse.{digits_value, without_leading_plus}
use Rattle.clap.specs.Words.{App, FailsBy, Row, Rule, Text}
use Rattle.clap.specs.Words.{all_of, fault_of, first_of, kind_of, new_app, new_rule}
use Rattle.clap.specs.Words.{one_of, subcommand_of, takes, with_rule, with_subcommand}
use Rattle.clap.specs.declared.builder.action.ArgAction.TheVariants.{Append, Set, SetTrue}
use Rattle.clap.specs.declared.error.Error.{Error}
use Rattle.clap.specs.declared.error.kind.ErrorKind.TheVariants.{OutOfMemory, ValueValidation}
use Rattle.clap.specs.declared.builder.value_parser.ValueParser.TheVariants.{Signed}
use Rattle.command_data.specs.CellLists.{SpellsCells}
use Rattle.command_data.specs.Line.{text_now}
use Rattle.command_data.specs.Manner.{IsGrain, is_told, size_of}
use Rattle.command_data.specs.declared.block.Block.{Block}
use Rattle.command_data.specs.declared.manner.Manner.{Manner}
use Rattle.command_data.specs.declared.manner.Telling.{Telling}
use Rattle.command_data.specs.declared.manner.Telling.TheVariants.{Silent, Lines, OneLine}
use Rattle.command_data.specs.declared.line.Ask.{Ask}
use Rattle.command_data.specs.declared.line.Ask.TheVariants.{Alone, OnThreads}
use Rattle.command_data.specs.declared.line.AskAlone.{AskAlone}
use Rattle.command_data.specs.declared.line.AskAlone.TheVariants.{Check, Compile, Plain, Cost}
use Rattle.command_data.specs.declared.line.AskAlone.TheVariants.{Sweep, Steps, Trace, Replay}
use Rattle.command_data.specs.declared.line.AskOnThreads.{AskOnThreads}
use Rattle.command_data.specs.declared.line.AskOnThreads.TheVariants.{Run, Watch}
use Rattle.command_data.specs.declared.line.Line.{Line}
use Rattle.command_data.specs.declared.line.Style.{Style}
use Rattle.command_line.specs.declared.line.Asked.{Asked}
use Rattle.command_line.specs.declared.line.Given.{Given}
use Rattle.command_line.specs.declared.line.Given.TheVariants as given
use Rattle.command_line.specs.declared.line.Judging.{Judging}
use Rattle.pram_cost.specs.Beyond.{model_named}
use Rattle.pram_cost.specs.declared.pram.Pram.{Pram}

-- an argument that is known by its place
abbrev pub placed_rule : Text → Rule
placed_rule name = record (new_rule name) { value_names = 1; action = Some Set }

-- an option with a value
abbrev pub option_rule : Text → Rule
option_rule name = record (placed_rule name) { long = Some name }

-- one whose value is a number from one to another
abbrev pub number_rule : Text → (least most : ℕ) → Rule
number_rule name least most =
    record (option_rule name) { parser = Some (Signed (pos least) (pos most)) }

-- an argument that has to stand
abbrev pub has_to_stand : Rule → Rule
has_to_stand rule = record rule { required = true }

-- an option that stands or does not
abbrev pub flag_rule : Text → Rule
flag_rule name = record (new_rule name) { long = Some name; action = Some SetTrue }

-- an argument that may stand several times
abbrev pub several_rule : Rule → Rule
several_rule rule = record rule { action = Some Append }

-- an option with a value that may
abbrev pub list_rule : Text → Rule
list_rule name = several_rule (option_rule name)

-- NAME FILE [--explain]
abbrev pub on_text : Text → App
on_text name = with_rule (with_rule (new_app name) (has_to_stand (placed_rule (codes "file"))))
    (flag_rule (codes "explain"))

-- NAME FILE [--explain] [--set NAME=V,..]..
abbrev pub on_file : Text → App
on_file name = with_rule (on_text name) (list_rule (codes "set"))

-- sweep FILE [--explain] --set NAME=V,.. [--set NAME=V,..]..
abbrev pub on_sweep : App
on_sweep = with_rule (on_text (codes "sweep")) (has_to_stand (list_rule (codes "set")))

-- judge EXERCISE [--explain] FILE..
abbrev pub on_judge : App
on_judge = with_rule (on_text (codes "judge"))
    (has_to_stand (several_rule (placed_rule (codes "files"))))

-- [--csv] [--why]
abbrev pub with_style : App → App
with_style app = with_rule (with_rule app (flag_rule (codes "csv"))) (flag_rule (codes "why"))

-- [--model M]
abbrev pub with_model : App → App
with_model app = with_rule app (option_rule (codes "model"))

-- check FILE [--model M]
abbrev pub on_check : App
on_check = with_model (on_file (codes "check"))

-- plain FILE, a style, and [--model M]
abbrev pub on_plain : App
on_plain = with_model (with_style (on_file (codes "plain")))

-- cost FILE [--lines] [--model M]
abbrev pub on_cost : App
on_cost = with_model (with_rule (on_file (codes "cost")) (flag_rule (codes "lines")))

-- steps FILE [--from A] [--to B] [--csv]
abbrev pub on_steps : App
on_steps = with_rule (with_rule (with_rule (on_file (codes "steps"))
    (number_rule (codes "from") 1 4294967295)) (number_rule (codes "to") 1 4294967295))
    (flag_rule (codes "csv"))

-- trace FILE [--csv]
abbrev pub on_trace : App
on_trace = with_rule (on_file (codes "trace")) (flag_rule (codes "csv"))

-- NAME FILE --workers W [--plan P]
abbrev pub with_workers : Text → App
with_workers name =
    with_rule (with_rule (on_file name) (has_to_stand (number_rule (codes "workers") 1 64)))
    (option_rule (codes "plan"))

-- [--progress] [--pace MICROSECONDS]
abbrev pub with_progress : App → App
with_progress app = with_rule (with_rule app (flag_rule (codes "progress")))
    (number_rule (codes "pace") 0 1000000)

-- what a run and a watch take last: these, and [--block G]
abbrev pub with_manner : App → App
with_manner app = with_rule (with_progress app) (number_rule (codes "block") 1 64)

-- run FILE --workers W [--plan P], these, and a style
abbrev pub on_run : App
on_run = with_style (with_manner (with_workers (codes "run")))

-- watch FILE --workers W --cells C,C,.. --rounds R [--plan P], and these
abbrev pub on_watch : App
on_watch = with_manner (with_rule (with_rule (with_workers (codes "watch"))
    (has_to_stand (option_rule (codes "cells"))))
    (has_to_stand (number_rule (codes "rounds") 1 1000000)))

-- replay FILE --workers W [--plan P] [--random SEED] [--csv]
abbrev pub on_replay : App
on_replay = with_rule (with_rule (with_workers (codes "replay"))
    (number_rule (codes "random") 0 4294967295)) (flag_rule (codes "csv"))

-- the program without its subcommands, of which one must stand
abbrev pub bare : App
bare =
    let app = new_app (codes "pramx") in
    record app { top = record app.top { has_version = true; subcommand_required = true } }

-- with most of those of the plain machine
abbrev pub on_machine : App
on_machine =
    with_subcommand (with_subcommand (with_subcommand (with_subcommand (with_subcommand
    (with_subcommand (with_subcommand bare
    on_check.top)
    (on_file (codes "compile")).top)
    on_plain.top)
    on_cost.top)
    on_sweep.top)
    on_judge.top)
    on_steps.top

-- the program's command
abbrev pub pramx : App
pramx =
    with_subcommand (with_subcommand (with_subcommand (with_subcommand on_machine
    on_trace.top)
    on_run.top)
    on_watch.top)
    on_replay.top

-- The subcommand of this name was met, with this file.
pub record HasFile (matches : Option (Text × List Row)) (name file : Text) : Type 0 where
  pub rows : List Row
  pub met : matches ≡ Some (name, rows)
  pub has_file : first_of (codes "file") rows ≡ Some file

-- The flag is set where the option stands.
pub record IsFlag (found : Option Text) (flag : Bool) : Type 0 where
  pub set : found ≡ Some (codes "true") → flag ≡ true
  pub unset : found ≡ Some (codes "false") → flag ≡ false
  pub none : found ≡ None → flag ≡ false

-- What was met has this flag.
abbrev pub HasFlag : Text → Option (Text × List Row) → Bool → Type 0
HasFlag option matches flag = IfSome matches (λ met. IsFlag (one_of option met.1) flag)

-- The number is that of the option's value.
abbrev pub IsNumberOf : Text → List Row → ℕ → Type 0
IsNumberOf option rows number = IsSomeAnd (one_of option rows)
    (λ text. number ≡ digits_value 10 (without_leading_plus text))

-- The subcommand of this name was met, with this file, these workers, this plan if it has one, and
-- a flag for rows alone.
pub record HasWorkers (matches : Option (Text × List Row)) (name file : Text) (workers : ℕ)
    (plan : Option Text) (alone : Bool) : Type 0 where
  pub of_file : HasFile matches name file
  pub has_workers : IsNumberOf (codes "workers") of_file.rows workers
  pub some : 1 ≤ workers
  pub few : workers ≤ 64
  pub has_plan : first_of (codes "plan") of_file.rows ≡ plan
  pub has_csv : IsFlag (one_of (codes "csv") of_file.rows) alone

-- The number is that of the option's value, or this other one where the option is left out.
abbrev pub IsNumberOr : Text → List Row → ℕ → ℕ → Type 0
IsNumberOr option rows other number =
    MatchOption (first_of option rows) (number ≡ other) (λ _. IsNumberOf option rows number)

-- The number is that of the option's value; there is none where the option is left out.
abbrev pub IsNumberIfSet : Text → List Row → Option ℕ → Type 0
IsNumberIfSet option rows number = MatchOption (first_of option rows) (number ≡ None)
    (λ _. IsSomeAnd number (IsNumberOf option rows))

-- The subcommand of this name was met, with this file, these steps, of which there are some, and a
-- flag for rows alone.
pub record HasSteps (matches : Option (Text × List Row)) (name file : Text) (from to : ℕ)
    (alone : Bool) : Type 0 where
  pub of_file : HasFile matches name file
  pub has_from : IsNumberOr (codes "from") of_file.rows 1 from
  pub has_to : IsNumberOr (codes "to") of_file.rows (2 ^ 32 - 1) to
  pub some : from ≤ to
  pub has_csv : IsFlag (one_of (codes "csv") of_file.rows) alone

-- The size of the block is the number of its option; there is none where that is left out.
abbrev pub IsBlockIfSet : List Row → Option Block → Type 0
IsBlockIfSet rows block =
    IsNumberIfSet (codes "block") rows (option_map size_of block)

-- What was met is of this manner: its workers, a flag for its progress, and its pace and its block
-- if it has one.
pub record HasManner (rows : List Row) (manner : Manner) : Type 0 where
  pub has_workers : IsNumberOf (codes "workers") rows manner.workers.count
  pub has_progress : IsFlag (one_of (codes "progress") rows) (is_told manner.progress)
  pub has_pace : IsNumberIfSet (codes "pace") rows manner.pace
  pub has_block : IsBlockIfSet rows manner.block

-- The subcommand of this name was met, with this file, this plan if it has one, and this manner.
pub record HasRunArguments (matches : Option (Text × List Row)) (name file : Text)
    (plan : Option Text)
    (manner : Manner) : Type 0 where
  pub of_file : HasFile matches name file
  pub has_plan : first_of (codes "plan") of_file.rows ≡ plan
  pub has_manner : HasManner of_file.rows manner

-- The subcommand of this name was met, with this file, this plan if it has one, this manner, this
-- text for its cells, which names some, and these rounds.
pub record HasWatch (matches : Option (Text × List Row)) (name file : Text) (plan : Option Text)
    (manner : Manner) (cells : Text) (rounds : ℕ) : Type 0 where
  pub has_run : HasRunArguments matches name file plan manner
  pub has_cells : first_of (codes "cells") has_run.of_file.rows ≡ Some cells
  pub spells : SpellsCells cells
  pub has_rounds : IsNumberOf (codes "rounds") has_run.of_file.rows rounds

-- The model is the one that the option's value names; there is none where the option is left out.
abbrev pub IsModelIfSet : List Row → Option Pram → Type 0
IsModelIfSet rows model =
    option_map model_named (first_of (codes "model") rows) ≡ option_map Some model

-- What was met is under this model, if under one.
abbrev pub HasModel : Option (Text × List Row) → Option Pram → Type 0
HasModel matches model = IfSome matches (λ met. IsModelIfSet met.1 model)

-- What was met has this style.
pub record HasStyle (matches : Option (Text × List Row)) (style : Style) : Type 0 where
  pub csv : HasFlag (codes "csv") matches style.csv
  pub why : HasFlag (codes "why") matches style.why

-- a file, a plan if there is one, and what the thread that calls is asked alone are what was met
abbrev pub IsMetAlone : Option (Text × List Row) → Text → Option Text → AskAlone → Type 0
IsMetAlone matches file plan (Check model) =
    HasFile matches (codes "check") file × HasModel matches model × (plan ≡ None)
IsMetAlone matches file plan Compile = HasFile matches (codes "compile") file × (plan ≡ None)
IsMetAlone matches file plan (Plain style model) = HasFile matches (codes "plain") file
    × HasStyle matches style × HasModel matches model × (plan ≡ None)
IsMetAlone matches file plan (Cost lines model) = HasFile matches (codes "cost") file
    × HasFlag (codes "lines") matches lines × HasModel matches model × (plan ≡ None)
IsMetAlone matches file plan Sweep = HasFile matches (codes "sweep") file × (plan ≡ None)
IsMetAlone matches file plan (Steps from to alone) =
    HasSteps matches (codes "steps") file from to alone × (plan ≡ None)
IsMetAlone matches file plan (Trace alone) =
    HasFile matches (codes "trace") file × HasFlag (codes "csv") matches alone × (plan ≡ None)
IsMetAlone matches file plan (Replay workers alone) =
    HasWorkers matches (codes "replay") file workers.count plan alone

-- what threads are asked, so
abbrev pub IsMetOnThreads : Option (Text × List Row) → Text → Option Text → AskOnThreads → Type 0
IsMetOnThreads matches file plan (Run run) =
    HasRunArguments matches (codes "run") file plan run.manner
    × HasStyle matches run.style
IsMetOnThreads matches file plan (Watch watch) =
    HasWatch matches (codes "watch") file plan watch.manner watch.cells.text.now watch.rounds

abbrev pub IsMetAs : Option (Text × List Row) → Text → Option Text → Ask → Type 0
IsMetAs matches file plan (Alone ask) = IsMetAlone matches file plan ask
IsMetAs matches file plan (OnThreads ask) = IsMetOnThreads matches file plan ask

-- the line is what was met
abbrev pub IsLineMet : Option (Text × List Row) → Line → Type 0
IsLineMet matches line = IsMetAs matches line.file.now (text_now line.plan) line.ask

-- how standard error is told how far the workers are
abbrev pub telling_of : Ask → Telling
telling_of (Alone ask) = Silent
telling_of (OnThreads (Run run)) = run.manner.progress
telling_of (OnThreads (Watch watch)) = watch.manner.progress

-- What is told goes on one line of a terminal, and elsewhere on one line after the other.
abbrev pub SuitsTerminal : Bool → Telling → Type 0
SuitsTerminal on_terminal Silent = ⊤
SuitsTerminal on_terminal Lines = on_terminal ≡ false
SuitsTerminal on_terminal OneLine = on_terminal ≡ true

-- What was met has this seed of a random plan, if it has one.
abbrev pub HasSeed : Option (Text × List Row) → Option ℕ → Type 0
HasSeed matches random = IfSome matches (λ met. IsNumberIfSet (codes "random") met.1 random)

-- The line is what was met, and so is the seed of its random plan, and whether a refusal is to be
-- explained; what the line tells suits the device.
pub record IsAskedLine (on_terminal : Bool) (matches : Option (Text × List Row))
    (asked : Asked) : Type 0 where
  pub line : IsLineMet matches asked.line
  pub telling : SuitsTerminal on_terminal (telling_of asked.line.ask)
  pub random : HasSeed matches asked.random
  pub explain : HasFlag (codes "explain") matches asked.explain

-- What names are set to: all values of the option, as they stand.
abbrev pub HasSettings : Option (Text × List Row) → List Text → Type 0
HasSettings matches settings =
    IfSome matches (λ met. settings ≡ unwrap_or (all_of (codes "set") met.1) [])

-- Submissions were met, in these files, with this exercise.
pub record IsJudging (matches : Option (Text × List Row)) (judging : Judging) : Type 0 where
  pub of_file : HasFile matches (codes "judge") judging.exercise.now
  pub files : all_of (codes "files") of_file.rows
      ≡ Some (map (λ file. file.now) judging.files.items)
  pub explain : HasFlag (codes "explain") matches judging.explain

-- What was met is a line, with what names are set to; or submissions.
abbrev pub IsLineGiven : Bool → Option (Text × List Row) → Given → Type 0
IsLineGiven on_terminal matches (given.Line asked settings) = IsAskedLine on_terminal matches asked
    × HasSettings matches (map (λ word. word.now) settings.items)
IsLineGiven on_terminal matches (given.Judge judging) = IsJudging matches judging

-- What stands for cells names none.
pub record HasBadCells (rows : List Row) : Type 0 where
  pub cells : Text
  pub has_cells : first_of (codes "cells") rows ≡ Some cells
  pub bad : ¬ SpellsCells cells

-- The number of a block is no size of one.
pub record HasBadBlock (rows : List Row) : Type 0 where
  pub size : ℕ
  pub has_block : IsNumberOf (codes "block") rows size
  pub bad : ¬ IsGrain size

-- The window of steps ends before it begins.
pub record HasBadWindow (rows : List Row) : Type 0 where
  pub from : ℕ
  pub to : ℕ
  pub has_from : IsNumberOr (codes "from") rows 1 from
  pub has_to : IsNumberOr (codes "to") rows (2 ^ 32 - 1) to
  pub empty : to < from

-- What stands for a model names none.
abbrev pub HasBadModel : List Row → Type 0
HasBadModel rows = option_map model_named (first_of (codes "model") rows) ≡ Some None

-- A plan is named, and there is a seed of a random one.
abbrev pub HasTwoPlans : List Row → Type 0
HasTwoPlans rows = IsSome (first_of (codes "plan") rows) × IsSome (first_of (codes "random") rows)

abbrev pub TakesModel : Text → Type 0
TakesModel name = (name ≡ codes "check") ⊎ ((name ≡ codes "plain") ⊎ (name ≡ codes "cost"))

-- A value of the subcommand of this name is bad.
abbrev pub IsBadIn : Text → List Row → Type 0
IsBadIn name rows = ((name ≡ codes "watch") × HasBadCells rows)
    ⊎ ((((name ≡ codes "run") ⊎ (name ≡ codes "watch")) × HasBadBlock rows)
    ⊎ (((name ≡ codes "steps") × HasBadWindow rows)
    ⊎ (((name ≡ codes "replay") × HasTwoPlans rows) ⊎ (TakesModel name × HasBadModel rows))))

-- A subcommand was met with a bad value.
abbrev pub HasBadValue : Option (Text × List Row) → Type 0
HasBadValue matches = IsSomeAnd matches (λ met. IsBadIn met.0 met.1)

-- The command does not take the words, or one of their values is bad.
abbrev pub AreRefused : List Text → Type 0
AreRefused words = (takes pramx words ≡ false) ⊎ HasBadValue (subcommand_of pramx words)

-- The words mean no line: the command finds a fault in them, or one of their values is bad.
abbrev pub MeanNoLine : List Text → Type 0
MeanNoLine words = (fault_of pramx words ≢ []) ⊎ HasBadValue (subcommand_of pramx words)

-- An error is of the kind that the command gives at the words, or of a bad value; or memory ran
-- out.
abbrev pub FailsByWords : {T : Type 0} → List Text → Result T Error → Type 0
FailsByWords words result = FailsBy (fault_of pramx words) result
    ⊎ (HasBadValue (subcommand_of pramx words)
    × IsErrAnd result (λ error. (kind_of error ≡ OutOfMemory) ⊎ (kind_of error ≡ ValueValidation)))
