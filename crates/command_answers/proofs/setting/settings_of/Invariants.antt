use Rattle.std.proofs.Common.{List, [], drop}
use Rattle.pardo_text.specs.Settings.{SettingData}
use Rattle.pardo_text.specs.declared.settings.SetKind.{SetKind}
use Rattle.command_answers.specs.Setting.{RefuseNames, SetNames}
use Rattle.command_answers.proofs.Texts.{texts_of}
use Rattle.command_answers.proofs.setting.settings_of.Given as goal

-- what the words to come set after those so far, all words set; and so with what is refused
abbrev pub invariant-loop-word : goal.invariant-loop-word
invariant-loop-word g l = record {
  names : (all : List SettingData) →
      SetNames (g.F.Folder.holds l.folder) l.settings (texts_of (drop l.word-index l.words)) all →
      SetNames (g.F.Folder.holds l.folder) [] (texts_of l.words) all;
  refused : (kind : SetKind) → RefuseNames (g.F.Folder.holds l.folder) l.settings
      (texts_of (drop l.word-index l.words)) kind →
      RefuseNames (g.F.Folder.holds l.folder) [] (texts_of l.words) kind;
}
