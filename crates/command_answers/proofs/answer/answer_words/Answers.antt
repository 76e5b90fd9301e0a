use Rattle.std.proofs.Common.{subst}
use Rattle.naming.specs.Writing.{writing}
use Rattle.pram_commands.specs.Files.{MayFail}
use Rattle.command_answers.specs.Answering.{AnswersWords}
use Rattle.command_answers.proofs.Texts.{texts_of}
use Rattle.command_answers.proofs.Waited.{waited_answers, waited_most}
use Rattle.command_answers.proofs.answer.answer_words.Goals as goal

pub returns-in-Err-clause-status : goal.returns-in-Err-clause-status
returns-in-Err-clause-status g c = waited_most _ _ _ _ _ _ c.serve_waiting.ensures

pub returns-in-Err-clause-answers : goal.returns-in-Err-clause-answers
returns-in-Err-clause-answers g c =
    let asks = c.in-Err.ensures.line in
    subst (λ out. AnswersWords (g.F.Folder.holds c.args.folder.now) (MayFail g.F.File.Source)
    (texts_of c.args.words.now) c.args.console.now.is_terminal
    (writing g.O.Sink out c.serve_waiting.new.console.out) c.serve_waiting.result)
    c.in-Err.ensures.still.0 (waited_answers _ _ _ _ _ _ asks.asked asks.given _ _ asks.met
    asks.sets asks.waits.is asks.waits.text
    asks.waits.asks asks.waits.threads
    c.serve_waiting.ensures)
