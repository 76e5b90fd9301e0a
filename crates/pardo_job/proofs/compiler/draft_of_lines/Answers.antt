use Rattle.std.proofs.Common.{◌∙◌, ap, arith}
use Rattle.pardo_program.specs.Program.{ProgramData}
use Rattle.pardo_job.specs.Lines.{code_of}
use Rattle.pardo_job.specs.Refusals.{line_numbers}
use Rattle.pardo_job.proofs.Placed.{level_all}
use Rattle.pardo_job.proofs.Starts.{parts_are, parts_fit}
use Rattle.pardo_job.proofs.compiler.draft_of_lines.Goals as goal

pub of_parts-job-requires : goal.of_parts-job-requires
of_parts-job-requires c =
    let code = c.in_ok-code.ensures.given ∙
    ap (λ (p : ProgramData). code_of p) c.in_ok-listing.ensures.program in
    let parts = parts_are c.args.program.now _ _ _ _ _ c.requires c.rule.ensures c.procs.ensures
    c.in_ok-init.init.ok.0 c.in_ok-init.ensures code in
    parts_fit c.args.program.now c.in_ok-listing.listing.places.items _ c.requires
    c.in_ok-listing.ensures.places parts

pub returns-clause-draft : goal.returns-clause-draft
returns-clause-draft c =
    let code = c.in_ok-code.ensures.given ∙
    ap (λ (p : ProgramData). code_of p) c.in_ok-listing.ensures.program in
    record {
      lawful = c.requires;
      made = c.of_parts-job.ensures ∙ parts_are c.args.program.now _ _ _ _ _ c.requires c.rule.ensures
          c.procs.ensures c.in_ok-init.init.ok.0 c.in_ok-init.ensures code;
      level = level_all c.args.program.now c.in_ok-listing.listing.places.items
          c.in_ok-listing.ensures.places;
      numbers_are = c.in_ok-numbers.ensures ∙
          ap (λ (p : ProgramData). line_numbers p) c.in_ok-listing.ensures.program;
    }

pub returns-clause-places : goal.returns-clause-places
returns-clause-places c = record {
  each = λ j lt. c.in_ok-listing.ensures.places.each j (omega arith);
  short = c.in_ok-listing.ensures.places.short;
}
