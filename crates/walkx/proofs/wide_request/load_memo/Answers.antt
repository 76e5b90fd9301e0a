use Rattle.std.proofs.Common.{ℕ, List}
use Rattle.walkx.proofs.Passing.{passed}
use Rattle.walk_memory.specs.Inner.Posts.{processor_of, step_of}
use Rattle.walk_memory.specs.Learned.{loaded_memo}
use Rattle.walkx.proofs.wide_request.load_memo.Goals as goal

pub hear_own-requires : goal.hear_own-requires
hear_own-requires g c =
    let at = c.args.leaf.now in
    let r = c.requires.next in
    record {
      next = record {
        from = r.from;
        after = r.after;
        next = λ words. r.next (loaded_memo at.job (step_of at) (processor_of at) words);
        here = r.here;
      };
    }

pub returns-in_err-words : goal.returns-in_err-words
returns-in_err-words g c =
    let at = c.args.leaf.now in
    rw (passed c.from_residual.result _ c.from_residual.ensures.1) (record {
      plays = record {
        on = λ from after next here. c.in_err-words.ensures.plays.on from after
            (λ (words : List ℕ). next (loaded_memo at.job (step_of at) (processor_of at) words))
            here;
      };
    })

pub returns : goal.returns
returns g c =
    let at = c.args.leaf.now in
    rw c.memo_of_words.ensures (record {
      plays = record {
        on = λ from after next here. c.in_ok-words.ensures.plays.on from after
            (λ (words : List ℕ). next (loaded_memo at.job (step_of at) (processor_of at) words))
            here;
      };
    })
