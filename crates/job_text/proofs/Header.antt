-- The header, printed and read.
use Rattle.std.proofs.Common.{◌≡◌, ℕ, ◌<◌, ◌≤◌, ◌^◌, true, [], ◌∷◌, Ok, refl, arith}
use Rattle.std.proofs.Common.{codes, bytes_eq}
use Rattle.std.proofs.lemmas.Slice.Eq.{bytes_eq-Decides}
use Rattle.pram_job.specs.declared.instr.Rule.{Rule}
use Rattle.pram_job.specs.declared.instr.Rule.TheVariants.{Common, Priority, Crew}
use Rattle.pram_job.specs.declared.limits.TheConstants.{MAX_CELLS, MAX_PROCS}
use Rattle.pram_job.specs.Job.{JobData, IsJob}
use Rattle.pram_text.specs.Judgement.{version_of, named_number, rule_of, most}
use Rattle.text_lines.specs.Lines.{Word}
use Rattle.pram_text.specs.Text.{SpellsHeader}
use Rattle.pram_text.proofs.Stages.{rule_named}
use Rattle.job_text.specs.Printed.{header_lines, number_line, rule_word}
use Rattle.job_text.proofs.Lines.{PlainLines}
use Rattle.job_text.proofs.Plain.{PlainWord, PlainLine}
use Rattle.job_text.proofs.Numbers.{decimal_plain, decimal_in}

pub bytes_same : (word : Word) → bytes_eq word word ≡ true
bytes_same word = (bytes_eq-Decides word word).1 refl

version_read : version_of (codes "pram" ∷ codes "3" ∷ []) ≡ Ok 3
unfolding version_of
version_read = refl

number_read : (name : Word) (low high n : ℕ) → n < 2 ^ 64 → low ≤ n → n ≤ high →
    named_number name low high (number_line name n) ≡ Ok n
unfolding named_number
number_read name low high n h l k = rw (bytes_same name) (decimal_in low high n h l k)

rule_read : (rule : Rule) → rule_of (codes "rule" ∷ rule_word rule ∷ []) ≡ Ok rule
unfolding rule_of
rule_read Common = refl
rule_read Priority = refl
rule_read Crew = refl

pub header_read : (job : JobData) → IsJob job →
    SpellsHeader 3 job.cells job.procs job.steps job.rule (header_lines job)
header_read job h = record {
  version_line = codes "pram" ∷ codes "3" ∷ [];
  cells_line = number_line (codes "cells") job.cells;
  procs_line = number_line (codes "procs") job.procs;
  steps_line = number_line (codes "steps") job.steps;
  rule_lines = (codes "rule" ∷ rule_word job.rule ∷ []) ∷ [];
  parts = refl;
  version_said = version_read;
  cells_said = number_read (codes "cells") 1 MAX_CELLS job.cells (omega (arith, h.cells.1))
      h.cells.0
      h.cells.1;
  procs_said = number_read (codes "procs") 1 MAX_PROCS job.procs (omega (arith, h.procs.1))
      h.procs.0
      h.procs.1;
  steps_said = number_read (codes "steps") 0 most job.steps (omega (arith, h.steps)) (omega arith)
      (omega (arith, h.steps));
  rule_said = rule_named 3 job.rule ((codes "rule" ∷ rule_word job.rule ∷ []) ∷ []) (omega arith)
      (codes "rule" ∷ rule_word job.rule ∷ [], refl, rule_read job.rule);
}

number_plain : (name : Word) (n : ℕ) → PlainWord name → n < 2 ^ 64 →
    PlainLine (number_line name n)
number_plain name n h k = record { filled = refl; plain = (h, (decimal_plain n k, tt)) }

rule_plain : (rule : Rule) → PlainWord (rule_word rule)
rule_plain Common = record { filled = refl; plain = refl }
rule_plain Priority = record { filled = refl; plain = refl }
rule_plain Crew = record { filled = refl; plain = refl }

pub header_plain : (job : JobData) → IsJob job → PlainLines (header_lines job)
header_plain job h = (
  record {
    filled = refl;
    plain = (record { filled = refl; plain = refl }, (record { filled = refl; plain = refl }, tt));
  },
  (
    number_plain (codes "cells") job.cells (record { filled = refl; plain = refl })
        (omega (arith, h.cells.1)),
    (
      number_plain (codes "procs") job.procs (record { filled = refl; plain = refl })
          (omega (arith, h.procs.1)),
      (
        number_plain (codes "steps") job.steps (record { filled = refl; plain = refl })
            (omega (arith, h.steps)),
        (
          record {
            filled = refl;
            plain = (record { filled = refl; plain = refl }, (rule_plain job.rule, tt));
          },
          tt,
        ),
      ),
    ),
  ),
)
