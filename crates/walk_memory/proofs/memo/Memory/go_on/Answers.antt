use Rattle.std.proofs.Common.{◌≡◌, ◌-◌, sym, ◌∙◌, arith}
use Rattle.pram_words.specs.Words.{grain}
use Rattle.walk_memory.proofs.AsOne.{stays_all}
use Rattle.walk_memory.proofs.memo.Memory.go_on.Goals as goal

pub returns-in-Some-clause-gone : goal.returns-in-Some-clause-gone
returns-in-Some-clause-gone c =
    let at = c.args.post.now in
    let all : grain at.layout - 0 ≡ grain at.layout = omega arith in
    rw all at (sym (stays_all at c.go_as_one.new.self c.in-Some.ensures.stay)
    ∙ c.in-Some.ensures.far)

pub returns-in-None-clause-gone : goal.returns-in-None-clause-gone
returns-in-None-clause-gone c =
    let at = c.args.post.now in
    let all : grain at.layout - 0 ≡ grain at.layout = omega arith in
    rw all at (c.go_apart.ensures ∙ c.go_as_one.ensures.far)
