-- How the blocks of a program lie in one another.
use Rattle.std.specs.Prelude.{◌≡◌, ℕ, ◌+◌, ◌<◌, true, List, [], ◌∷◌, ◌++◌, drop, slice_get}
use Rattle.std.specs.Prelude.{Option, Some, None}
use Rattle.pardo_program.specs.declared.block.Block.{Block}
use Rattle.pardo_program.specs.declared.block.Block.TheVariants as block
use Rattle.pardo_program.specs.declared.statement.Line.{Line}
use Rattle.pardo_program.specs.declared.statement.Statement.{Statement}
use Rattle.pardo_program.specs.declared.statement.Statement.TheVariants as statement
use Rattle.pardo_program.specs.Blocks.{choice_depth, is_choice}

-- how many of the open blocks are loops `for`
abbrev pub loops_of : List Block → ℕ
loops_of [] = 0
loops_of (block.For begin ∷ blocks) = loops_of blocks + 1
loops_of (other ∷ blocks) = loops_of blocks

-- the block that a line at a place opens
abbrev pub opened_by : ℕ → Statement → List Block
opened_by at (statement.If condition) = block.If ∷ []
opened_by at statement.Else = block.Else ∷ []
opened_by at (statement.While condition end) = block.While at ∷ []
opened_by at (statement.For nest first last up end) = block.For at ∷ []
opened_by at _ = []

-- the blocks around a line, without the one that it closes, which is the innermost
abbrev pub around : Statement → List Block → List Block
around statement.Else blocks = drop 1 blocks
around statement.EndIf blocks = drop 1 blocks
around (statement.EndWhile begin) blocks = drop 1 blocks
around (statement.EndFor begin) blocks = drop 1 blocks
around _ blocks = blocks

-- whether a line may close the innermost block, and which one a loop is
abbrev pub Belongs : List Block → Statement → Type 0
Belongs blocks statement.Else = (outer : List Block) × (blocks ≡ block.If ∷ outer)
Belongs blocks statement.EndIf =
    (closed : Block) × (outer : List Block) × (blocks ≡ closed ∷ outer) × (is_choice closed ≡ true)
Belongs blocks (statement.EndWhile begin) =
    (outer : List Block) × (blocks ≡ block.While begin ∷ outer)
Belongs blocks (statement.EndFor begin) =
    (outer : List Block) × (blocks ≡ block.For begin ∷ outer)
Belongs blocks (statement.For nest first last up end) = nest ≡ loops_of blocks
Belongs blocks _ = Unit {0}

abbrev pub StandsInBlocks : List Block → Line → Type 0
StandsInBlocks blocks line =
    Belongs blocks line.statement × (line.depth ≡ choice_depth (around line.statement blocks))

-- lines from a place on, from these open blocks to those
abbrev pub LinesLead : ℕ → List Block → List Line → List Block → Type 0
LinesLead at blocks [] last = blocks ≡ last
LinesLead at blocks (line ∷ lines) last = StandsInBlocks blocks line
    × LinesLead (at + 1) (opened_by at line.statement ++ around line.statement blocks) lines last

-- where the first line of a loop says that its end is
abbrev pub loop_end_told : Statement → Option ℕ
loop_end_told (statement.While condition end) = Some end
loop_end_told (statement.For nest first last up end) = Some end
loop_end_told _ = None

-- where the end of a loop says that it begins
abbrev pub loop_begin : Statement → Option ℕ
loop_begin (statement.EndWhile begin) = Some begin
loop_begin (statement.EndFor begin) = Some begin
loop_begin _ = None

abbrev pub said_by : (Statement → Option ℕ) → Option Line → Option ℕ
said_by says None = None
said_by says (Some line) = says line.statement

-- the end of a loop is where its first line says
abbrev pub EndsAreTied : List Line → Type 0
EndsAreTied lines = (at begin : ℕ) → said_by loop_begin (slice_get lines at) ≡ Some begin →
    (begin < at) × (said_by loop_end_told (slice_get lines begin) ≡ Some at)

-- and there is one
abbrev pub BeginsAreTied : List Line → Type 0
BeginsAreTied lines = (begin end : ℕ) → said_by loop_end_told (slice_get lines begin) ≡ Some end →
    said_by loop_begin (slice_get lines end) ≡ Some begin

-- Each block is closed by its own `end`, and a loop knows it.
abbrev pub IsNested : List Line → Type 0
IsNested lines = LinesLead 0 [] lines [] × EndsAreTied lines × BeginsAreTied lines
