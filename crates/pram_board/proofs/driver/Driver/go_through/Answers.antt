use Rattle.std.proofs.Common.{◌≡◌, refl, ap, sym, ◌∙◌, arith}
use Rattle.walkx.specs.Turns.{beginning}
use Rattle.walkx.specs.Walk.{Walking, end_of}
use Rattle.pram_board.specs.Inner.Plays.{driving}
use Rattle.pram_board.proofs.Working.{goes_far, led_as, walks_of, works_on}
use Rattle.pram_board.proofs.driver.Driver.go_through.Goals as goal

pub turns-requires-clause-few : goal.turns-requires-clause-few
turns-requires-clause-few g c = c.begin.ensures.few

pub turns-requires-clause-walks : goal.turns-requires-clause-walks
turns-requires-clause-walks g c =
    let works = c.requires.works in
    walks_of _ (driving c.args.self.now) _ _ refl
    (c.requires.turn ∙ rw (c.number-number.ensures, c.lend-memory.ensures.value) refl)
    works.desk c.facts.ensures works.serves.fits works.knows

pub returns-clause-goes : goal.returns-clause-goes
returns-clause-goes g c =
    let same : c.number-number.result ≡ c.lend-memory.new.self.walking.number =
    c.number-number.ensures ∙ sym (ap (λ (w : Walking). w.number) c.lend-memory.ensures.rest) in
    let through = rw c.begin.ensures.looks at c.turns.ensures.led in
    let led = led_as _ _ (driving c.args.self.now, c.args.patience.now.looks)
    (driving c.turns.new.self, c.turns.new.patience.looks) _ _ _ _ refl
    (sym (c.requires.turn ∙ rw (c.number-number.ensures, c.lend-memory.ensures.value) refl))
    (sym (c.begin_at.ensures.value ∙ ap (λ k. beginning k 1 c.turns.new.memory) (sym same)))
    through in
    let leaves = c.facts.ensures.layout.leaves in
    let number = c.requires.works.serves.fits.number in
    let is = ap (λ (w : Walking). w.number) c.lend-memory.ensures.rest in
    let works = works_on _ _ _ _ led (c.begin_at.ensures.serves _ _ (omega (arith, number, is)) (omega arith) (omega arith)
    through.walks.fits.memory) in
    goes_far _ _ _ _ led works (ap (λ (w : Walking). end_of w.now) c.begin_at.ensures.value)
