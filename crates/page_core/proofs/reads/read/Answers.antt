use Rattle.std.proofs.Common.{rules, arith, ◌≡◌, ◌<◌, sym, ap, subst, ◌∙◌}
use Rattle.pram_words.specs.Words.{Admits, length_of}
use Rattle.lawful_walk.proofs.Admitted.{word_admitted}
use Rattle.walkx.specs.declared.operation.ReadOp.TheVariants as read
use Rattle.walkx.specs.Reads.{HeardAdmitted, Looking, LooksFit, look_of, looked, looks_for}
use Rattle.walkx.specs.Serving.{FollowsScript}
use Rattle.page_core.specs.Answers.{read_through}
use Rattle.page_core.proofs.Loads.{reads_on, same_cells}
use Rattle.page_core.proofs.reads.read.Goals as goal

pub loop-step-init : goal.loop-step-init
loop-step-init c =
    let job = c.args.world.now.job in
    let y = c.args.world.now.layout in
    let cells : y.cells ≡ job.cells = same_cells job y c.facts.ensures.lawful.layout in
    record {
      follows = c.new-reader.ensures.follows y (omega arith);
      fits = c.new-reader.ensures.fits job y;
      cell = ap (λ (x : Looking). x.cell) c.new-reader.ensures.value;
      reads = ap (λ (x : Looking). read_through c.args.world.now.words (look_of y x))
          c.new-reader.ensures.value;
    }

pub tell-requires-clause-admitted : goal.tell-requires-clause-admitted
tell-requires-clause-admitted c =
    let job = c.args.world.now.job in
    let y = c.args.world.now.layout in
    let x = c.loop-step.reader.looking in
    let found = c.load-found.result in
    let k = c.in-Load.word in
    let e : looks_for (look_of y x) ≡ read.Load k =
    subst (λ z. looks_for (look_of z x) ≡ read.Load k) c.layout.ensures
    (sym c.ask.ensures.asks ∙ c.in-Load.is) in
    let below : k < length_of y = search rules in
    let admitted : Admits y job k found = subst (λ v. Admits y job k v) (sym c.load-found.ensures)
    (word_admitted job y c.args.world.now.words k c.facts.ensures.lawful below) in
    subst (λ j. HeardAdmitted j c.layout-in-Load.result.now
    (looks_for (look_of c.layout-in-Load.result.now x)) found) (sym c.job.ensures)
    (subst (λ z. HeardAdmitted job z (looks_for (look_of z x)) found) (sym c.layout-in-Load.ensures)
    (subst (λ o. HeardAdmitted job y o found) (sym e) admitted))

pub loop-step-preserved : goal.loop-step-preserved
loop-step-preserved c =
    let job = c.args.world.now.job in
    let y = c.args.world.now.layout in
    let words = c.args.world.now.words in
    let x = c.loop-step.reader.looking in
    let found = c.load-found.result in
    let k = c.in-Load.word in
    let i = c.loop-step.invariant in
    let e : looks_for (look_of y x) ≡ read.Load k =
    subst (λ z. looks_for (look_of z x) ≡ read.Load k) c.layout.ensures
    (sym c.ask.ensures.asks ∙ c.in-Load.is) in
    let told : c.tell.new.self.looking ≡ looked x found (look_of y x) =
    subst (λ z. c.tell.new.self.looking ≡ looked x found (look_of z x))
    c.layout-in-Load.ensures c.tell.ensures.told in
    let on = reads_on y words x c.tell.new.self.looking k found e c.load-found.ensures told in
    record {
      follows =
          subst (λ z. FollowsScript z c.tell.new.self) c.layout-in-Load.ensures
          c.tell.ensures.follows;
      fits = subst (λ j. LooksFit j y c.tell.new.self.looking) c.job.ensures
          (subst (λ z. LooksFit c.job.result.now z c.tell.new.self.looking)
          c.layout-in-Load.ensures c.tell.ensures.fits);
      cell = on.0 ∙ i.cell;
      reads = on.1 ∙ i.reads;
    }
