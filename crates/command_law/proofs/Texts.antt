-- What is printed of a job is a text of the machine, whose one job it is.
use Rattle.std.proofs.Common.{◌≡◌, ◌∙◌, ℕ, List, [], ◌∷◌, ◌++◌, Option, Some, None, Result, Ok}
use Rattle.std.proofs.Common.{false, ap, sym, subst, refl, codes, bytes_eq, map}
use Rattle.std.proofs.Common.{IfOk, ⊎_elim, filter}
use Rattle.std.specs.Prelude.{slice_index}
use Rattle.std.specs.List.{flat_map}
use Rattle.std.proofs.lemmas.Bool.{cases_Bool, false≢true}
use Rattle.std.proofs.lemmas.Slice.Eq.{bytes_eq-Decides}
use Rattle.pram_job.specs.Job.{JobData}
use Rattle.pram_text.specs.Judgement.{version_of}
use Rattle.text_lines.specs.Lines.{Line, Word, is_filled, lines_of, words_of, worded}
use Rattle.pram_text.specs.Text.{Spells, code_heading}
use Rattle.pram_text.proofs.LawOneJob.{spells_once}
use Rattle.pram_text.proofs.Lawful.{spells_lawful}
use Rattle.job_text.specs.Printed.{array_word, text_of}
use Rattle.job_text.proofs.Naming.{array_words_lawful}
use Rattle.pardo_program.specs.Variables.{AreDistinct, variable_names}
use Rattle.pardo_text.proofs.LawNames.{names_are_distinct}
use Rattle.naming.specs.ArrayNames.{array_words}
use Rattle.command_law.proofs.ArrayNames.{names_lawful}
use Rattle.job_text.proofs.Landing.{jumps_land as spelled_jumps_land}
use Rattle.job_text.proofs.ReadBack.{read_back}
use Rattle.pardo_text.specs.declared.fault.PardoFault.{PardoFault}
use Rattle.pardo_program.specs.Lawful.{IsProgram}
use Rattle.pardo_program.specs.Program.{ProgramData}
use Rattle.pardo_text.proofs.LawLawful.{programs_are_lawful}
use Rattle.pardo_answers.specs.Language.{begins_program, is_program}
use Rattle.pardo_answers.proofs.Landing.{jumps_land}
use Rattle.command_law.specs.Laws.{CompilePrintsTheSameJob, IsTextOf}
use Rattle.naming.specs.Names.{AreNames, NamingData}

-- ---- a text of the machine is no program

-- the first word of a line, or where it has none, of the lines after it
by_line : (said : Line) (lines : List (List ℕ)) (word : Word) (words : Line) (rest : List Line) →
    (worded lines ≡ (word ∷ words) ∷ rest →
    begins_program (flat_map words_of lines) ≡ bytes_eq word (codes "pardo")) →
    filter is_filled (said ∷ map words_of lines) ≡ (word ∷ words) ∷ rest →
    begins_program (said ++ flat_map words_of lines) ≡ bytes_eq word (codes "pardo")
by_line [] lines word words rest later e = later e
by_line (first ∷ others) lines word words rest later e =
    let same : first ≡ word = cc in ap (λ (w : Word). bytes_eq w (codes "pardo")) same

-- the first word of lines is that of their first line with words
by_words : (lines : List (List ℕ)) (word : Word) (words : Line) (rest : List Line) →
    worded lines ≡ (word ∷ words) ∷ rest →
    begins_program (flat_map words_of lines) ≡ bytes_eq word (codes "pardo")
by_words [] word words rest e = cc
by_words (line ∷ lines) word words rest e =
    by_line (words_of line) lines word words rest (by_words lines word words rest) e

-- the first word of a line that says a version
record IsMachineLine (line : Line) : Type 0 where
  first : Word
  others : Line
  is : line ≡ first ∷ others
  other : bytes_eq first (codes "pardo") ≡ false

version_line : (line : Line) (version : ℕ) → version_of line ≡ Ok version → IsMachineLine line
unfolding version_of
version_line [] version e = cc
version_line (first ∷ []) version e = cc
version_line (first ∷ number ∷ []) version e = record {
  first = first;
  others = number ∷ [];
  is = refl;
  other = ⊎_elim
      (λ pram. ap (λ (w : Word). bytes_eq w (codes "pardo"))
      ((bytes_eq-Decides first (codes "pram")).0 pram))
      (λ other. absurd (bad other))
      (cases_Bool (bytes_eq first (codes "pram")));
}
  where
    bad : bytes_eq first (codes "pram") ≡ false → ⊥
    bad other = let none = rw other at e in cc
version_line (first ∷ number ∷ more ∷ others) version e = cc

spelled_is_no_program : (text : List ℕ) (job : JobData) → Spells text job →
    is_program text ≡ false
spelled_is_no_program text job spells =
    let lines = spells.lines in
    let sizes = lines.sizes in
    let line = version_line sizes.version_line lines.version sizes.version_said in
    let after = lines.inits ++ code_heading ∷ lines.body in
    let others = sizes.cells_line ∷ sizes.procs_line ∷ sizes.steps_line ∷ (sizes.rule_lines ++ after) in
    by_words (lines_of text) line.first line.others others
    (lines.parts ∙ ap (λ (ls : List Line). ls ++ after) sizes.parts
    ∙ ap (λ (l : Line). l ∷ others) line.is)
    ∙ line.other

-- ---- what is printed of a job

machine_text : (text : List ℕ) (job : JobData) → Spells text job → IsTextOf text job
machine_text text job spells =
    let none = spelled_is_no_program text job spells in
    record {
      is = record { is_none = none; spells = spells };
      only = λ other means. only none other means.0 means.1;
    }
  where
    only : is_program text ≡ false → (other : JobData) (names : Option NamingData) →
        AreNames text other names → other ≡ job
    only none other None is = spells_once text other job is.spells spells
    only none other (Some naming) is = absurd (false≢true (sym none ∙ is.is_one))

-- a job that a text means has a text
has_text : (text : List ℕ) (job : JobData) (names : Option NamingData) →
    AreNames text job names → Spells (text_of (array_words names) job) job
has_text text job None is =
    let lawful = spells_lawful text job is.spells in
    read_back array_word job lawful (spelled_jumps_land text job is.spells)
    (array_words_lawful job.cells lawful.cells.1)
has_text text job (Some naming) is =
    let lawful : IsProgram naming.program =
    subst (λ (r : Result ProgramData PardoFault). IfOk r IsProgram) is.reads
    (programs_are_lawful text) in
    let distinct : AreDistinct (variable_names naming.program) =
    subst (λ (r : Result ProgramData PardoFault). IfOk r (λ program.
    AreDistinct (variable_names program))) is.reads (names_are_distinct text) in
    read_back (array_words (Some naming)) job is.makes.job_is
    (jumps_land naming.program job (slice_index naming.numbers) lawful is.makes)
    (names_lawful naming.program distinct job.cells is.makes.job_is.cells.1)

pub compile_prints : CompilePrintsTheSameJob
compile_prints text job bytes answer means comes =
    subst (λ (b : List ℕ). IsTextOf b job) (sym comes.prints)
    (machine_text (text_of (array_words comes.names) job) job
    (has_text text job comes.names comes.are_names))
