use Rattle.std.proofs.Common.{◌≡◌, ◌<◌, ℕ, List, [], ◌∷◌, arith, length, refl}
use Rattle.std.specs.Borrow.{Bor}
use Rattle.command_answers.proofs.Texts.{texts_of}
use Rattle.command_answers.proofs.answer.answer_own.Goals as goal

-- no words have no texts
no_texts : (words : List (Bor (List ℕ))) → length words < 1 → texts_of words ≡ []
no_texts [] below = refl
no_texts (word ∷ rest) below = absurd (omega (arith, below))

pub returns-in-OnThreads-clause-waiting : goal.returns-in-OnThreads-clause-waiting
returns-in-OnThreads-clause-waiting g c =
    let below = c.in-empty.len_below in
    record {
      is = refl;
      text = no_texts c.args.settings.now (omega (arith, below));
      asks = c.in-OnThreads.field-0;
      threads = c.in-OnThreads.is;
    }
