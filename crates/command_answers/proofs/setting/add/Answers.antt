use Rattle.std.proofs.Common.{◌≡◌, ℕ, List, None, Option, Some, Err, arith, refl, rules, subst}
use Rattle.std.proofs.lemmas.Result.{IfErr-weaker, on_ok_weaker}
use Rattle.std.proofs.lemmas.Str.Pattern.{split_once_first, strip_prefix_char}
use Rattle.clap.proofs.LexerLemmas.{strip_byte-from}
use Rattle.command_answers.specs.Setting.{RefusesName, SpellsBy}
use Rattle.command_answers.proofs.Refused.{by_weaker, refuses_name, refuses_word, says_of_none}
use Rattle.command_answers.proofs.Texts.{sets_name}
use Rattle.command_answers.proofs.setting.add.Goals as goal

pub returns-in_ok-text-in-Some-strip_prefix-clause-name : goal.returns-in_ok-text-in-Some-strip_prefix-clause-name
returns-in_ok-text-in-Some-strip_prefix-clause-name g c =
    let holds = g.F.Folder.holds c.args.folder.now in
    let values = c.in-Some.values.now in
    let text = c.in_ok-text-in-Some-strip_prefix.text.items in
    let file = Some c.in-Some-strip_prefix.file in
    let parts = split_once_first 61 c.args.word.now (Some (c.in-Some.name, c.in-Some.values))
    c.in-Some.ensures.cases (omega arith) in
    let stripped = strip_byte-from 64 values file
    (strip_prefix_char 64 values file c.in-Some-strip_prefix.ensures.cases (omega arith)) in
    on_ok_weaker c.set_name.result (sets_name holds c.args.settings.now c.set_name.new.settings
    c.args.word.now c.in-Some.name.now values text
    c.as_slice.result.now c.as_slice.ensures.value parts.1 parts.2
    (subst (λ (named : Option (List ℕ)). SpellsBy holds named values text) stripped
    c.in_ok-text-in-Some-strip_prefix.ensures.gives)) c.set_name.ensures.set

pub returns-in-None-clause-name : goal.returns-in-None-clause-name
returns-in-None-clause-name g c =
    let holds = g.F.Folder.holds c.args.folder.now in
    let values = c.in-Some.values.now in
    let parts = split_once_first 61 c.args.word.now (Some (c.in-Some.name, c.in-Some.values))
    c.in-Some.ensures.cases (omega arith) in
    let stripped = strip_byte-from 64 values None
    (strip_prefix_char 64 values None c.in-None.ensures.cases (omega arith)) in
    on_ok_weaker c.set_name-in-None.result (sets_name holds c.args.settings.now
    c.set_name-in-None.new.settings c.args.word.now c.in-Some.name.now values values
    c.as_bytes.result.now c.as_bytes.ensures.value parts.1 parts.2 (subst (λ (named : Option (List ℕ)). SpellsBy holds named values values) stripped
    refl)) c.set_name-in-None.ensures.set

pub returns-in_err-text-in-Some-strip_prefix-clause-refused : goal.returns-in_err-text-in-Some-strip_prefix-clause-refused
returns-in_err-text-in-Some-strip_prefix-clause-refused g c =
    let failed = c.in_err-text-in-Some-strip_prefix.field-0.0 in
    let e : c.from_residual.result ≡ Err failed = search rules in
    rw e (says_of_none (RefusesName (g.F.Folder.holds c.args.folder.now) c.args.settings.now
    c.args.word.now) failed.refusal c.in_err-text-in-Some-strip_prefix.ensures.failed)

pub returns-in_default-clause-refused : goal.returns-in_default-clause-refused
returns-in_default-clause-refused g c =
    let none = split_once_first 61 c.args.word.now None c.in_default.ensures.cases (omega arith) in
    refuses_word (g.F.Folder.holds c.args.folder.now) c.args.settings.now c.args.word.now
    c.args.word c.unset.result.refusal c.unset.ensures none

pub returns-in_ok-text-in-Some-strip_prefix-clause-refused : goal.returns-in_ok-text-in-Some-strip_prefix-clause-refused
returns-in_ok-text-in-Some-strip_prefix-clause-refused g c =
    let holds = g.F.Folder.holds c.args.folder.now in
    let values = c.in-Some.values.now in
    let text = c.in_ok-text-in-Some-strip_prefix.text.items in
    let file = Some c.in-Some-strip_prefix.file in
    let parts = split_once_first 61 c.args.word.now (Some (c.in-Some.name, c.in-Some.values))
    c.in-Some.ensures.cases (omega arith) in
    let stripped = strip_byte-from 64 values file
    (strip_prefix_char 64 values file c.in-Some-strip_prefix.ensures.cases (omega arith)) in
    let spells = subst (λ (named : Option (List ℕ)). SpellsBy holds named values text) stripped
    c.in_ok-text-in-Some-strip_prefix.ensures.gives in
    IfErr-weaker c.set_name.result _ _ (λ unset says. by_weaker (λ kind is.
    refuses_name holds c.args.settings.now c.args.word.now c.in-Some.name.now values text
    c.as_slice.result.now kind c.as_slice.ensures.value parts.1 parts.2 spells is)
    unset.refusal says) c.set_name.ensures.refused

pub returns-in-None-clause-refused : goal.returns-in-None-clause-refused
returns-in-None-clause-refused g c =
    let holds = g.F.Folder.holds c.args.folder.now in
    let values = c.in-Some.values.now in
    let parts = split_once_first 61 c.args.word.now (Some (c.in-Some.name, c.in-Some.values))
    c.in-Some.ensures.cases (omega arith) in
    let stripped = strip_byte-from 64 values None
    (strip_prefix_char 64 values None c.in-None.ensures.cases (omega arith)) in
    let spells = subst (λ (named : Option (List ℕ)). SpellsBy holds named values values) stripped
    refl in
    IfErr-weaker c.set_name-in-None.result _ _ (λ unset says. by_weaker (λ kind is.
    refuses_name holds c.args.settings.now c.args.word.now c.in-Some.name.now values values
    c.as_bytes.result.now kind c.as_bytes.ensures.value parts.1 parts.2 spells is)
    unset.refusal says) c.set_name-in-None.ensures.refused
