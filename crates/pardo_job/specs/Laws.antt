-- The laws of the meaning.
use Rattle.std.specs.Prelude.{◌≡◌, ◌≢◌, ℕ, ◌⊎◌, ◌+◌, ◌*◌, ◌<◌, ◌≤◌, ◌&&◌, nat_lt}
use Rattle.std.specs.Prelude.{if◌then◌else◌, false, slice_get, Some, None}
use Rattle.pram_job.specs.declared.instr.Rule.{Rule}
use Rattle.pram_job.specs.declared.instr.Rule.TheVariants.{Priority, Crew}
use Rattle.pardo_program.specs.declared.statement.Line.{Line}
use Rattle.pardo_program.specs.declared.limits.TheConstants.{MAX_CELLS}
use Rattle.pardo_program.specs.declared.operation.Op.TheVariants.{Add, Mul}
use Rattle.pardo_program.specs.Expression.{Tree, number}
use Rattle.pardo_program.specs.Folding.{applied, constant_of, tested}
use Rattle.pardo_program.specs.Lawful.{IsCommon, IsExpression, bounds_of}
use Rattle.pardo_program.specs.Program.{ProgramData}
use Rattle.pardo_program.specs.Tests.{Known, without_tests}
use Rattle.pram_step.specs.declared.answer.Dispute.{Dispute}
use Rattle.pardo_flat.specs.Layouts.{program_layout}
use Rattle.pardo_job.specs.declared.limits.TheConstants.{MAX_STEPS, MAX_WORK}
use Rattle.pardo_job.specs.Conflicts.{LineAgrees, IsLineDispute, Assigns, asked_for}
use Rattle.pardo_job.specs.Lawful.{IsLawfulTree}
use Rattle.pardo_job.specs.Meaning.{Source, is_active, next, value}
use Rattle.pardo_job.specs.Runs.{AllGone, IsLineReached}

-- steps, and steps of all processors together
abbrev pub StepLimitsAre : Type 0
StepLimitsAre = (MAX_STEPS ≡ 1048576) × (MAX_WORK ≡ 1073741824)

-- a program with another rule in place of its own
abbrev pub by_rule : Rule → ProgramData → ProgramData
by_rule rule program = record program { rule = rule }

-- The rule says which lines agree, and nothing of the states.
abbrev pub RuleChangesNoState : Type 0
RuleChangesNoState = (program : ProgramData) (rule : Rule) (source : Source) →
    next (by_rule rule program) source ≡ next program source

-- What crew accepts every rule accepts.
abbrev pub CrewIsAccepted : Type 0
CrewIsAccepted = (program : ProgramData) (rule : Rule) (n : ℕ) →
    IsLineReached (by_rule Crew program) n → IsLineReached (by_rule rule program) n

-- No order of processors matters: but for rule priority, a cell holds what any of its writers gave
-- it.
abbrev pub AnyWriterCounts : Type 0
AnyWriterCounts = (program : ProgramData) (source : Source) (cell i value : ℕ) →
    LineAgrees program source → program.rule ≢ Priority → Assigns program source cell i value →
    (next program source).cells cell ≡ value

-- a cell that nobody writes keeps its value
abbrev pub UnwrittenIsKept : Type 0
UnwrittenIsKept = (program : ProgramData) (source : Source) (cell : ℕ) →
    ((i value : ℕ) → Assigns program source cell i value → ⊥) →
    (next program source).cells cell ≡ source.cells cell

-- A processor that is not active asks for nothing, keeps its variables, and is gone or there as
-- before, where not all are gone.
pub record IsUnchanged (program : ProgramData) (source : Source) (i : ℕ) : Type 0 where
  pub asks : asked_for program source i ≡ None
  pub privates : (x : ℕ) → (next program source).privates x i ≡ source.privates x i
  pub gone : ((next program source).gone i ≡ source.gone i) ⊎ AllGone program (next program source)

abbrev pub OutsideIsUnchanged : Type 0
OutsideIsUnchanged = (program : ProgramData) (source : Source) (line : Line) (i : ℕ) →
    slice_get program.lines source.at ≡ Some line → is_active source line.depth i ≡ false →
    IsUnchanged program source i

-- A processor that is gone stays so, with its line.
abbrev pub GoneForGood : Type 0
GoneForGood = (program : ProgramData) (source : Source) (i line : ℕ) →
    source.gone i ≡ Some line → (next program source).gone i ≡ Some line

-- Its value is one for all processors, or none: so all make the same turns of every loop.
abbrev pub LoopsAreCommon : Type 0
LoopsAreCommon = (program : ProgramData) (source : Source) (tree : Tree) (i j : ℕ) → IsCommon tree →
    value program source i tree ≡ value program source j tree

-- A line has one dispute at most.
abbrev pub OneLineDispute : Type 0
OneLineDispute = (program : ProgramData) (source : Source) (dispute other : Dispute) →
    IsLineDispute program source dispute → IsLineDispute program source other → dispute ≡ other

-- What the reader says of expressions is what their code rests on.
abbrev pub TreesAreLawful : Type 0
TreesAreLawful = (program : ProgramData) (tree : Tree) →
    IsExpression (bounds_of program) tree → IsLawfulTree (program_layout program) tree

-- the place in so many rows and columns, as it is read
abbrev pub row_by_row : ℕ → ℕ → Tree → Tree → Tree
row_by_row rows columns row column =
    applied Add (applied Mul (tested rows row (constant_of row)) (number columns))
    (tested columns column (constant_of column))

-- Two indices that are both below their bounds name a place, row by row, and others none.
abbrev pub IndicesAreTested : Type 0
IndicesAreTested = (program : ProgramData) (source : Source) (i h w r c : ℕ)
    (row column : Tree) → h * w ≤ MAX_CELLS → value program source i row ≡ Some r →
    value program source i column ≡ Some c →
    value program source i (row_by_row h w row column)
    ≡ (if nat_lt r h && nat_lt c w then Some (r * w + c) else None)

-- what is known of variables is true of those of processor i
pub record KnownIsTrue (known : Known) (source : Source) (i : ℕ) : Type 0 where
  pub own : i < known.procs
  pub privates : (x most : ℕ) → slice_get known.privates x ≡ Some most →
      source.privates x i ≤ most
  pub loops : (nest most : ℕ) → slice_get known.loops nest ≡ Some most → source.loops nest ≤ most

-- A test that is left out would have passed: no expression has another value without it.
abbrev pub LeftOutTestsPass : Type 0
LeftOutTestsPass = (program : ProgramData) (known : Known) (source : Source) (i : ℕ) (tree : Tree) →
    KnownIsTrue known source i →
    value program source i (without_tests known tree) ≡ value program source i tree
