-- The tests of indices that are left out of a program change no run.
use Rattle.std.specs.Prelude.{◌≡◌, ℕ, ◌<◌}
use Rattle.pardo_program.specs.Lawful.{IsProgram}
use Rattle.pardo_program.specs.Nested.{IsNested}
use Rattle.pardo_program.specs.Program.{ProgramData}
use Rattle.pardo_program.specs.Tests.{program_untested}
use Rattle.pardo_job.specs.Conflicts.{asked_for}
use Rattle.pardo_job.specs.Meaning.{Source, after}

-- Two states are one for so many processors: the line that is next, shared cells, the variables of
-- loops, and all that each of the processors has.
pub record AreAlike (procs : ℕ) (one other : Source) : Type 0 where
  pub at : one.at ≡ other.at
  pub cells : one.cells ≡ other.cells
  pub loops : one.loops ≡ other.loops
  pub privates : (x i : ℕ) → i < procs → one.privates x i ≡ other.privates x i
  pub masks : (depth i : ℕ) → i < procs → one.masks depth i ≡ other.masks depth i
  pub gone : (i : ℕ) → i < procs → one.gone i ≡ other.gone i

-- Without the tests a program is in the same state after n lines as with them, and each processor
-- asks for the same in the line that is next.
pub record RunsUntested (program : ProgramData) (n : ℕ) : Type 0 where
  pub same : AreAlike program.procs (after (program_untested program) n) (after program n)
  pub asks : (i : ℕ) → i < program.procs →
      asked_for (program_untested program) (after (program_untested program) n) i
      ≡ asked_for program (after program n) i

-- Without the tests that are left out a lawful program whose blocks are nested runs as with them.
abbrev pub LeftOutTestsChangeNothing : Type 0
LeftOutTestsChangeNothing = (program : ProgramData) (n : ℕ) → IsProgram program →
    IsNested program.lines → RunsUntested program n
