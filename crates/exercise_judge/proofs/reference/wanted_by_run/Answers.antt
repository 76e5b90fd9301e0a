use Rattle.std.proofs.Common.{◌∙◌, ℕ, List, ap, map, subst}
use Rattle.std.specs.Prelude.{slice_index}
use Rattle.pram_step.specs.Runs.{IsAnswer}
use Rattle.pardo_program.specs.Program.{ArrayData}
use Rattle.text_lines.specs.Lines.{words_of}
use Rattle.exercise_text.specs.Values.{held_by, wanted_by}
use Rattle.exercise_judge.proofs.Ends.{same_answer}
use Rattle.exercise_judge.proofs.reference.wanted_by_run.Goals as goal

pub returns-in_ok-wanted_at_end-in-Some-clause-ends : goal.returns-in_ok-wanted_at_end-in-Some-clause-ends
returns-in_ok-wanted_at_end-in-Some-clause-ends c = λ text is.
    let run = c.args.run.now in
    record {
      program = run.program;
      job = run.job;
      line_of = slice_index run.numbers.items;
      cells = c.in-Some.cells.now;
      ends = record {
        reads = is.0;
        compiled = is.1.compiled;
        ends = subst (IsAnswer run.job) c.in-Some.ensures is.1.ended.answers;
      };
      are = c.in_ok-wanted_at_end-in-Some.ensures
          ∙ ap (λ (a : List ArrayData).
          map (wanted_by (held_by a (slice_index c.in-Some.cells.now))) (words_of c.args.names.now))
          c.arrays.ensures;
    }

pub returns-in-None-clause-none : goal.returns-in-None-clause-none
returns-in-None-clause-none c = λ text is certain wanted are.
    c.in-None.ensures are.cells
    (same_answer text c.args.run.now is are.program are.job are.line_of are.cells are.ends)
