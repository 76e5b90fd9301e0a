use Rattle.std.proofs.Common.{◌≡◌, ◌+◌, ◌<◌, ◌^◌, ◌∙◌, Some, ap, arith, rules, sym}
use Rattle.std.specs.Str.{bytes_eq}
use Rattle.std.proofs.lemmas.Result.{IfOk-weaker}
use Rattle.pardo_program.specs.Program.{ArrayData}
use Rattle.pardo_job.specs.Printed.{cell_text}
use Rattle.exercise_text.specs.Values.{declared_array}
use Rattle.exercise_judge.proofs.Small.{found_by, place_found}
use Rattle.exercise_judge.proofs.check.place_of.Goals as goal

pub returns-in-Some : goal.returns-in-Some
returns-in-Some c =
    let arrays = c.args.arrays.now in
    let name = c.args.name.now in
    let array = c.in-Some.array.now in
    let found : declared_array arrays name ≡ Some array = search rules in
    let small : array.base < 2 ^ 63 = found_by (λ (a : ArrayData). a.base < 2 ^ 63)
    (λ (a : ArrayData). bytes_eq a.name name) arrays array found c.requires.few in
    let low : c.args.index < 2 ^ 63 = c.requires.index in
    let base : c.base.result ≡ array.base = c.base.ensures in
    let cut = c.saturating_add.ensures in
    let sum : c.saturating_add.result ≡ array.base + c.args.index =
    omega (arith, small, low, base, cut) in
    IfOk-weaker c.place_text.result _ _ (λ place is. is ∙ ap (cell_text arrays) sum
    ∙ sym (place_found arrays name c.args.index array found)) c.place_text.ensures
