use Rattle.walkx.proofs.Passing.{passed}
use Rattle.pram_words.specs.declared.words.Word.TheVariants.{Stored}
use Rattle.pram_words.specs.Words.{number_of}
use Rattle.walkx.specs.declared.operation.Op.TheVariants.{Load}
use Rattle.walkx.specs.Scripts.{asks}
use Rattle.walkx.proofs.parts.hear_both.Goals as goal

pub load-requires : goal.load-requires
load-requires g c =
    let at = c.args.leaf.now in
    let r = c.requires.next in
    rw c.requires.word.first (
      at,
      record {
        from = r.from;
        after = r.after;
        next = λ a. asks (Load (number_of at.layout (Stored c.args.place 1))) (λ b. r.next (a, b));
        here = r.here;
      },
    )

pub load-requires-2 : goal.load-requires-2
load-requires-2 g c =
    let at = c.args.leaf.now in
    let r = c.requires.next in
    let first = rw c.requires.word.first at (c.in_ok-first.ensures.on at r.from
    (λ a. asks (Load (number_of at.layout (Stored c.args.place 1))) (λ b. r.next (a, b)))) in
    rw c.requires.word.second (
      at,
      record {
        from = r.from;
        after = r.after;
        next = λ b. r.next (c.in_ok-first.first, b);
        here = first r.here;
      },
    )

pub returns-in_err-second : goal.returns-in_err-second
returns-in_err-second g c =
    let at = c.args.leaf.now in
    rw (passed c.from_residual-in_err-second.result _ c.from_residual-in_err-second.ensures.1)
    (record {
      plays = record {
        on = λ from after next here.
            let first = rw c.requires.word.first at (c.in_ok-first.ensures.on at from
            (λ a. asks (Load (number_of at.layout (Stored c.args.place 1))) (λ b. next (a, b))))
            here in
            rw c.requires.word.second at
            (c.in_err-second.ensures.on at from (λ b. next (c.in_ok-first.first, b))) first;
      };
    })

pub returns : goal.returns
returns g c = let at = c.args.leaf.now in record {
  plays = record {
    on = λ from after next here.
        let first = rw c.requires.word.first at (c.in_ok-first.ensures.on at from
        (λ a. asks (Load (number_of at.layout (Stored c.args.place 1))) (λ b. next (a, b)))) here in
        rw c.requires.word.second at
        (c.in_ok-second.ensures.on at from (λ b. next (c.in_ok-first.first, b))) first;
  };
}
