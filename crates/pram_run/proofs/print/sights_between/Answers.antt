use Rattle.std.proofs.Common.{◌∙◌, ◌++◌, ◌<◌, sym, ap}
use Rattle.std.proofs.Common.{append_assoc, take, get_or, length, arith}
use Rattle.pram_run.specs.Printed.{sight_line, sight_lines}
use Rattle.pram_run.specs.declared.sight.Sight.{Sight}
use Rattle.pram_run.proofs.Lines.{sights-more}
use Rattle.pram_run.proofs.print.sights_between.Goals as goal

abbrev no_sight : Sight
no_sight = record { cell = 0; step = 0; value = 0 }

pub loop-index-preserved : goal.loop-index-preserved
loop-index-preserved g c =
    let words = g.C.CellNames.words c.args.names.now in
    let sights = c.args.sights.now in
    let index = c.loop-index.index in
    let front = sight_lines words (take c.args.start sights) in
    let line = sight_line words (get_or sights index no_sight) in
    let within : index < length sights = omega (arith, c.loop-index-test.true, c.requires.to) in
    ap (λ text. front ++ text) c.in_ok-push_sight.ensures
    ∙ sym (append_assoc front c.loop-index.lines.items line)
    ∙ ap (λ text. text ++ line) c.loop-index.invariant
    ∙ sym (sights-more words sights index no_sight within)
