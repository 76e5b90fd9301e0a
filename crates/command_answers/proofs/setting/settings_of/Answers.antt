use Rattle.std.proofs.Common.{◌≡◌, List, Err, refl, rules, subst, sym}
use Rattle.std.proofs.lemmas.List.{drop_all}
use Rattle.std.specs.Borrow.{Bor}
use Rattle.clap.specs.Words.{Text}
use Rattle.command_answers.specs.Setting.{SetNames}
use Rattle.command_answers.proofs.Refused.{refused_here, refuse_next}
use Rattle.command_answers.proofs.Texts.{set_next, texts_of}
use Rattle.command_answers.proofs.setting.settings_of.Goals as goal

pub loop-word-preserved : goal.loop-word-preserved
loop-word-preserved g c = record {
  names = λ all rest. c.loop-word.invariant.names all
      (set_next (g.F.Folder.holds c.args.folder.now) c.args.words.now c.loop-word.word-index _
      c.loop-word.settings _ all c.loop-word-test.true c.in_ok-add.ensures.name rest);
  refused = λ kind rest. c.loop-word.invariant.refused kind
      (refuse_next (g.F.Folder.holds c.args.folder.now) c.args.words.now c.loop-word.word-index _
      c.loop-word.settings _ kind c.loop-word-test.true c.in_ok-add.ensures.name rest);
}

pub returns-clause-names : goal.returns-clause-names
returns-clause-names g c =
    let none = drop_all c.loop-word.word-index c.args.words.now c.loop-word-test.false in
    c.loop-word.invariant.names c.loop-word.settings
    (subst (λ (left : List (Bor Text)). SetNames (g.F.Folder.holds c.args.folder.now)
    c.loop-word.settings (texts_of left) c.loop-word.settings) (sym none) refl)

pub returns-in_err-add-clause-refused : goal.returns-in_err-add-clause-refused
returns-in_err-add-clause-refused g c =
    let failed = c.in_err-add.field-0.0 in
    let e : c.from_residual.result ≡ Err failed = search rules in
    rw e (refused_here (g.F.Folder.holds c.args.folder.now) c.args.words.now c.loop-word.word-index _
    c.loop-word.settings failed.refusal c.loop-word-test.true c.loop-word.invariant.refused
    c.in_err-add.ensures.refused)
