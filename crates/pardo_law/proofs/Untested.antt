-- Without the tests that are left out a program runs as with them.
use Rattle.std.proofs.Common.{◌≡◌, ℕ, zero, suc, ◌<◌, Option, Some, None, refl, sym, ap, ◌∙◌}
use Rattle.std.proofs.Common.{subst}
use Rattle.std.specs.Prelude.{slice_get}
use Rattle.pardo_program.specs.declared.statement.Line.{Line}
use Rattle.pardo_program.specs.Lawful.{IsProgram}
use Rattle.pardo_program.specs.Nested.{IsNested}
use Rattle.pardo_program.specs.Program.{ProgramData}
use Rattle.pardo_program.specs.Tests.{known_of, program_untested, statement_untested}
use Rattle.pardo_job.specs.Conflicts.{asked_for}
use Rattle.pardo_job.specs.Meaning.{Source, after, asked_in, next}
use Rattle.pardo_job.proofs.Meanings.{asked_at, next_at}
use Rattle.pardo_law.specs.Untested.{AreAlike, LeftOutTestsChangeNothing}
use Rattle.pardo_law.proofs.UntestedLines.{untested_at, untested_past}
use Rattle.pardo_law.proofs.UntestedLoops.{IsSound, known_here, next_none, sound_after, tests_pass}
use Rattle.pardo_law.proofs.UntestedSteps.{asked_bare, statement_bare}

asked_none : (program : ProgramData) (source : Source) (i : ℕ) →
    slice_get program.lines source.at ≡ None → asked_for program source i ≡ None
unfolding asked_for
asked_none program source i e =
    ap (λ (o : Option Line). elim o as (λ (x : Option Line). Option (ℕ × ℕ)) [
      | None ↦ None
      | Some line ↦ asked_in program source line.depth line.statement i
    ]) e

module _ (program : ProgramData) (lawful : IsProgram program)
    (nested : IsNested program.lines) where
  abbrev bare : ProgramData
  bare = program_untested program

  module _ (one two : Source) (same : AreAlike program.procs one two)
      (sound : IsSound program lawful nested two) where
    -- the line that is next, without tests
    bare_line : (line : Line) → slice_get program.lines two.at ≡ Some line →
        slice_get bare.lines one.at ≡ Some (record line {
          statement =
              statement_untested (known_here program lawful nested two.at) line.statement;
        })
    bare_line line is = ap (slice_get bare.lines) same.at
        ∙ untested_at (known_of program) program.lines two.at line is

    bare_none : slice_get program.lines two.at ≡ None → slice_get bare.lines one.at ≡ None
    bare_none is = ap (slice_get bare.lines) same.at
        ∙ untested_past (known_of program) program.lines two.at is

    step_same : (o : Option Line) → slice_get program.lines two.at ≡ o →
        AreAlike program.procs (next bare one) (next program two)
    step_same None is =
        subst (λ s. AreAlike program.procs s (next program two))
        (sym (next_none bare one (bare_none is)))
        (subst (AreAlike program.procs one) (sym (next_none program two is))
        same)
    step_same (Some line) is =
        let known = known_here program lawful nested two.at in
        subst (λ s. AreAlike program.procs s (next program two))
        (sym (next_at bare one (record line { statement = statement_untested known line.statement })
        (bare_line line is)))
        (subst (AreAlike program.procs _) (sym (next_at program two line is))
        (statement_bare program lawful.procs.0 one two same known
        (λ i lt tree. tests_pass program lawful nested two sound line is i lt tree)
        line.number line.depth line.statement))

    asks_same : (o : Option Line) → slice_get program.lines two.at ≡ o → (i : ℕ) →
        i < program.procs → asked_for bare one i ≡ asked_for program two i
    asks_same None is i lt =
        asked_none bare one i (bare_none is) ∙ sym (asked_none program two i is)
    asks_same (Some line) is i lt =
        let known = known_here program lawful nested two.at in
        asked_at bare one (record line { statement = statement_untested known line.statement }) i
        (bare_line line is)
        ∙ asked_bare program lawful.procs.0 one two same known
        (λ j low tree. tests_pass program lawful nested two sound line is j low tree)
        line.depth line.statement i lt
        ∙ sym (asked_at program two line i is)

  run_same : (n : ℕ) → AreAlike program.procs (after bare n) (after program n)
  unfolding after
  run_same zero = record {
    at = refl;
    cells = refl;
    loops = refl;
    privates = λ x i lt. refl;
    masks = λ depth i lt. refl;
    gone = λ i lt. refl;
  }
  run_same (suc n) = step_same (after bare n) (after program n) (run_same n)
      (sound_after program lawful nested n)
      (slice_get program.lines (after program n).at) refl

pub left_out_tests_change_nothing : LeftOutTestsChangeNothing
left_out_tests_change_nothing program n lawful nested = record {
  same = run_same program lawful nested n;
  asks = asks_same program lawful nested (after (program_untested program) n) (after program n)
      (run_same program lawful nested n) (sound_after program lawful nested n)
      (slice_get program.lines (after program n).at) refl;
}
