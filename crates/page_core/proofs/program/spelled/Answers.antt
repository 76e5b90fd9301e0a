use Rattle.std.proofs.Common.{ℕ, List, ◌∙◌, ap, subst, sym}
use Rattle.std.specs.Prelude.{slice_index}
use Rattle.pram_text.specs.Text.{Spells}
use Rattle.job_text.specs.Laws.{JumpsLand}
use Rattle.job_text.specs.Printed.{array_word, text_of}
use Rattle.pardo_answers.proofs.Landing.{jumps_land}
use Rattle.page_core.proofs.program.spelled.Goals as goal

pub returns-clause-spells : goal.returns-clause-spells
returns-clause-spells c =
    let job = c.args.compiled.job in
    let lands : JumpsLand job = jumps_land c.args.program.now job
    (slice_index c.args.compiled.numbers) c.requires.lawful c.requires.made in
    let read : Spells (text_of array_word job) job =
    c.printed_is_read_back.ensures array_word job c.requires.made.job_is lands
    (c.array_words_are_lawful.ensures job c.requires.made.job_is) in
    subst (λ (t : List ℕ). Spells t job)
    (sym (c.in_ok-text.ensures ∙ ap (text_of array_word) c.into_parts-job.ensures.job)) read
