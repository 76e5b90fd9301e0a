use Rattle.std.proofs.Common.{◌<◌, min, length, ap, take, subst, ◌∙◌, arith}
use Rattle.std.proofs.lemmas.List.{length-take, take_all}
use Rattle.pram_words.specs.Inner.Started.{HasStarted}
use Rattle.pram_words.specs.Words.{LayoutData, IsLayout, places_of}
use Rattle.pram_words.proofs.Starting.{place_started, places_started}
use Rattle.pram_words.proofs.layout.Layout.start_cells.Goals as goal

pub loop-p-preserved : goal.loop-p-preserved
loop-p-preserved c =
    let cells = ap (λ (y : LayoutData). y.cells) c.self.view_is in
    let procs = ap (λ (y : LayoutData). y.procs) c.self.view_is in
    let below : c.loop-p.p < places_of c.args.self.now =
    omega (arith, length-take c.min.result c.args.values.now, c.min.ensures) in
    place_started _ _ _ _ _ _ _ _ (subst IsLayout c.self.view_is c.self.invariant) below
    c.place_word-first.ensures.first c.place_word-first.ensures.second c.from-word.ensures
    c.loop-p.invariant

pub returns : goal.returns
returns c =
    let y = c.args.self.now in
    let values = c.args.values.now in
    let least = c.min.ensures
    ∙ ap (λ (z : LayoutData). min (length values) (places_of z)) c.self.view_is in
    let all = take_all c.loop-p.p (take c.min.result values) c.loop-p-test.false in
    places_started y y.workers c.min.result values c.loop-p.words least
    (subst (λ xs. HasStarted y y.workers xs c.loop-p.words) all c.loop-p.invariant)
