use Rattle.std.proofs.Common.{◌≡◌, ◌∙◌, ◌++◌, List, [], ℕ, Err, ap, ap₂, codes, length, rules, sym}
use Rattle.std.proofs.lemmas.Bool.{eqb-true}
use Rattle.std.proofs.lemmas.List.{nil_from_length}
use Rattle.pardo_text.specs.declared.settings.SetKind.TheVariants.{BadNumber}
use Rattle.command_answers.specs.Sweeping.{IsRefusedSweep}
use Rattle.command_answers.proofs.Refused.{by_weaker}
use Rattle.command_answers.proofs.Sweeps.{by_so, none_refused, sweep_made, sweep_refused}
use Rattle.command_answers.proofs.Texts.{texts_of}
use Rattle.command_answers.proofs.sweep.sweep_of.Goals as goal

pub returns-in_err-sizes-clause-refused : goal.returns-in_err-sizes-clause-refused
returns-in_err-sizes-clause-refused g c =
    let holds = g.F.Folder.holds c.args.folder.now in
    let failed = c.in_err-sizes.field-0.0 in
    let e : c.from_residual-in_err-sizes.result ≡ Err failed = search rules in
    rw e (by_so {Q = IsRefusedSweep holds c.args.file.now (texts_of c.args.words.now)}
    (λ refuses. sweep_refused holds c.args.file.now (texts_of c.args.words.now)
    c.in_ok-text.text.items c.in-Some.name.now c.in-Some.values.now c.as_slice.result.now
    c.as_slice-2.result.now c.in_ok-text.ensures.gives c.as_slice.ensures.value
    (c.as_slice-2.ensures.value ∙ c.in_ok-values.ensures.items) c.in_ok-settings.settings
    c.in_ok-settings.ensures.names c.in-Some.ensures refuses) failed
    c.in_err-sizes.ensures.refused)

pub returns-then-is_empty-clause-refused : goal.returns-then-is_empty-clause-refused
returns-then-is_empty-clause-refused g c =
    let holds = g.F.Folder.holds c.args.folder.now in
    let given = texts_of c.args.words.now in
    let none : c.in-Some.values.now ≡ [] = nil_from_length c.in-Some.values.now
    (eqb-true (length c.in-Some.values.now) 0 (sym c.is_empty.ensures ∙ c.if-is_empty.true)) in
    by_weaker {P = λ kind. kind ≡ BadNumber} {Q = λ kind. IsRefusedSweep holds c.args.file.now given}
    (λ kind is. none_refused holds c.args.file.now given c.in_ok-text.text.items
    c.in-Some.name.now c.in-Some.values.now c.in_ok-text.ensures.gives c.in_ok-settings.settings
    c.in_ok-settings.ensures.names c.in-Some.ensures none) c.without_sizes.result.refusal
    c.without_sizes.ensures

pub returns-clause-sweep : goal.returns-clause-sweep
returns-clause-sweep g c =
    sweep_made (g.F.Folder.holds c.args.folder.now) c.args.file.now (texts_of c.args.words.now)
    c.in_ok-text.text.items c.in-Some.name.now c.in-Some.values.now c.as_slice.result.now
    c.as_slice-2.result.now c.in_ok-text.ensures.gives c.as_slice.ensures.value
    (c.as_slice-2.ensures.value ∙ c.in_ok-values.ensures.items) c.in_ok-settings.settings
    c.in_ok-settings.ensures.names c.in-Some.ensures c.in_ok-sizes.sizes.bytes.items _
    c.in_ok-sizes.sizes.status c.in_ok-sizes.ensures.sizes
    (c.in_ok-extend_from_slice-2.ensures.items
    ∙ ap₂ (λ (front records : List ℕ). front ++ records) (c.in_ok-extend_from_slice.ensures.items
    ∙ ap (λ (name : List ℕ). name ++ codes ",steps,time,operations,processors,needs,end\n")
    c.in_ok-bytes.ensures.items) c.as_slice-3.ensures.value)
