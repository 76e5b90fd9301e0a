use Rattle.std.proofs.Common.{◌≡◌, ◌≢◌, ◌⊎◌, List, [], ◌∷◌, Err, arith, inl, inr, refl, subst, sym}
use Rattle.std.proofs.lemmas.Result.{IfErr-weaker, IfOk-weaker}
use Rattle.std.specs.Borrow.{Bor}
use Rattle.clap.specs.Kinds.{HasKind}
use Rattle.clap.specs.Words.{IsAmong, Text, kind_of, subcommand_of}
use Rattle.clap.specs.declared.error.Error.{Error}
use Rattle.clap.specs.declared.error.kind.ErrorKind.{ErrorKind}
use Rattle.clap.specs.declared.error.kind.ErrorKind.TheVariants.{OutOfMemory}
use Rattle.command_line.specs.CommandLine.{FailsByWords, HasSettings, IsLineGiven, MeanNoLine, pramx}
use Rattle.command_line.specs.declared.line.Given.TheVariants as given
use Rattle.command_line.specs.declared.line.Given.{Given}
use Rattle.command_answers.proofs.Texts.{texts_of}
use Rattle.command_answers.proofs.Waited.{asked_most, judging_most}
use Rattle.command_answers.proofs.answer.answer_alone.Goals as goal

-- memory ran out, or it did not
memory_or_not : (kind : ErrorKind) → (kind ≡ OutOfMemory) ⊎ (kind ≢ OutOfMemory)
memory_or_not OutOfMemory = inl refl
memory_or_not _ = inr (λ same. cc)

-- a kind is among some
has_kinds : (kind : ErrorKind) (kinds : List ErrorKind) → IsAmong kind kinds → kinds ≢ []
has_kinds kind [] among = absurd among
has_kinds kind (first ∷ kinds) among = λ none. cc

-- an error that is not of memory is of a kind
finds_fault : (error : Error) (kinds : List ErrorKind) → kind_of error ≢ OutOfMemory →
    HasKind kinds error → kinds ≢ []
finds_fault error kinds other (inl memory) = absurd (other memory)
finds_fault error kinds other (inr among) = has_kinds (kind_of error) kinds among

-- so the words mean no line
means_none : (words : List Text) (error : Error) → kind_of error ≢ OutOfMemory →
    FailsByWords {T = Given} words (Err error) → MeanNoLine words
means_none words error other (inl fails) = inl (finds_fault error _ other fails)
means_none words error other (inr bad) = inr bad.0

pub returns-in-Err-clause-answers : goal.returns-in-Err-clause-answers
returns-in-Err-clause-answers g c = elim (memory_or_not (kind_of c.in-Err.error)) [
  | inl memory ↦ inr (inr (inr (c.refusal_status.ensures.memory memory)))
  | inr other ↦ inr (inr (inl (means_none (texts_of c.args.words.now) c.in-Err.error other
      c.in-Err.ensures.kinds)))
]

-- a line, and names that are set
pub returns-in-Ok-Line-clause-status : goal.returns-in-Ok-Line-clause-status
returns-in-Ok-Line-clause-status g c = IfOk-weaker c.answer_asked.result _ _
    (λ status serves. elim serves [
      | inl asked ↦ asked_most _ _ c.in-Ok-Line.asked _ _ status asked
      | inr starves ↦ (let five = starves.0 in omega (arith, five))
    ]) c.answer_asked.ensures.served

pub returns-in-Ok-Line-clause-words : goal.returns-in-Ok-Line-clause-words
returns-in-Ok-Line-clause-words g c = IfOk-weaker c.answer_asked.result _ _
    (λ status serves means. absurd (c.in-Ok-Line.ensures.taken means))
    c.answer_asked.ensures.served

pub returns-in-Ok-Line-clause-answers : goal.returns-in-Ok-Line-clause-answers
returns-in-Ok-Line-clause-answers g c = IfOk-weaker c.answer_asked.result _ _
    (λ status serves. elim serves [
      | inl asked ↦
          let is : c.in-Ok-Line.field-0 ≡ given.Line c.in-Ok-Line.asked c.in-Ok-Line.settings =
          c.in-Ok-Line.field-0-is in
          let met : IsLineGiven c.args.console.now.is_terminal (subcommand_of pramx
          (texts_of c.args.words.now)) (given.Line c.in-Ok-Line.asked c.in-Ok-Line.settings) =
          subst (IsLineGiven c.args.console.now.is_terminal (subcommand_of pramx
          (texts_of c.args.words.now))) is c.in-Ok-Line.ensures.given in
          inl (record {
            asked = c.in-Ok-Line.asked;
            met = met.0;
            given = texts_of c.as_slice.result.now;
            sets = subst (λ (all : List (Bor Text)). HasSettings (subcommand_of pramx
                (texts_of c.args.words.now)) (texts_of all)) (sym c.as_slice.ensures.value) met.1;
            serves = asked;
          })
      | inr starves ↦ inr (inr (inr starves))
    ]) c.answer_asked.ensures.served

pub returns-in-Ok-Line-clause-line : goal.returns-in-Ok-Line-clause-line
returns-in-Ok-Line-clause-line g c = IfErr-weaker c.answer_asked.result _ _
    (λ waiting waits.
    let is : c.in-Ok-Line.field-0 ≡ given.Line c.in-Ok-Line.asked c.in-Ok-Line.settings =
    c.in-Ok-Line.field-0-is in
    let met : IsLineGiven c.args.console.now.is_terminal (subcommand_of pramx
    (texts_of c.args.words.now)) (given.Line c.in-Ok-Line.asked c.in-Ok-Line.settings) =
    subst (IsLineGiven c.args.console.now.is_terminal (subcommand_of pramx
    (texts_of c.args.words.now))) is c.in-Ok-Line.ensures.given in
    record {
      asked = c.in-Ok-Line.asked;
      met = met.0;
      given = texts_of c.as_slice.result.now;
      sets = subst (λ (all : List (Bor Text)). HasSettings (subcommand_of pramx
          (texts_of c.args.words.now)) (texts_of all)) (sym c.as_slice.ensures.value) met.1;
      taken = c.in-Ok-Line.ensures.taken;
      waits = waits;
    }) c.answer_asked.ensures.waiting

-- submissions
pub returns-in-Ok-Judge-clause-status : goal.returns-in-Ok-Judge-clause-status
returns-in-Ok-Judge-clause-status g c = judging_most _ _ _ _ _ c.answer_judging.ensures

pub returns-in-Ok-Judge-clause-words : goal.returns-in-Ok-Judge-clause-words
returns-in-Ok-Judge-clause-words g c = λ means. absurd (c.in-Ok-Judge.ensures.taken means)

pub returns-in-Ok-Judge-clause-answers : goal.returns-in-Ok-Judge-clause-answers
returns-in-Ok-Judge-clause-answers g c =
    let is : c.in-Ok-Judge.field-0 ≡ given.Judge c.in-Ok-Judge.judging = c.in-Ok-Judge.field-0-is in
    inr (inl (record {
      judging = c.in-Ok-Judge.judging;
      met = subst (IsLineGiven c.args.console.now.is_terminal (subcommand_of pramx
          (texts_of c.args.words.now))) is c.in-Ok-Judge.ensures.given;
      judges = c.answer_judging.ensures;
    }))
