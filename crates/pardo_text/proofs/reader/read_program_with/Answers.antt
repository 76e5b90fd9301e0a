use Rattle.std.proofs.Common.{◌≢◌, ◌∙◌, ap, rules, sym}
use Rattle.pardo_text.specs.declared.fault.PardoKind.TheVariants.{Memory}
use Rattle.pardo_text.specs.Reading.{program_of}
use Rattle.pardo_text.specs.Settings.{laid, met}
use Rattle.pardo_text.proofs.Setting.{laid_err, met_err, met_ok, program_set-fault, program_set-read}
use Rattle.pardo_text.proofs.reader.read_program_with.Goals as goal

pub returns-in-Ok-read_program-clause-program : goal.returns-in-Ok-read_program-clause-program
returns-in-Ok-read_program-clause-program c =
    let settings = c.args.settings.now in
    let text = c.args.text.now in
    let program = c.in-Ok-read_program.program in
    met_ok settings text _ c.met.result
    (c.met.ensures ∙ ap (λ found. met found program) c.unmet.ensures)
    (program_set-read settings text _ program c.in-Ok.ensures
    (ap program_of (sym c.as_slice.ensures.value) ∙ c.in-Ok-read_program.ensures.program))

pub returns-in-Ok-read_program-clause-refused : goal.returns-in-Ok-read_program-clause-refused
returns-in-Ok-read_program-clause-refused c =
    let settings = c.args.settings.now in
    let text = c.args.text.now in
    let program = c.in-Ok-read_program.program in
    met_err settings text _ program c.met.result
    (c.met.ensures ∙ ap (λ found. met found program) c.unmet.ensures)
    (program_set-read settings text _ program c.in-Ok.ensures
    (ap program_of (sym c.as_slice.ensures.value) ∙ c.in-Ok-read_program.ensures.program))

pub returns-clause-refused : goal.returns-clause-refused
returns-clause-refused c =
    let settings = c.args.settings.now in
    let text = c.args.text.now in
    let fault = c.in-Err.fault in
    let other : fault.kind ≢ Memory = search rules in
    laid_err settings text _ fault c.laid.result other
    (c.laid.ensures ∙ ap (λ found. laid found fault) c.blamed.ensures)
    (program_set-fault settings text _ fault c.in-Ok.ensures
    (ap program_of (sym c.as_slice.ensures.value) ∙ c.in-Err.ensures.refused.0 other))
