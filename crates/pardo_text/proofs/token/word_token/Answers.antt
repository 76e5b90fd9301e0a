use Rattle.std.proofs.Common.{◌∙◌, sym, ◌++◌, []}
use Rattle.pardo_text.specs.Inner.Marks.{header_words, words_of_blocks, operation_words}
use Rattle.pardo_text.proofs.Marks.{word_found, word_missed}
use Rattle.pardo_text.proofs.token.word_token.Goals as goal

pub returns-in-Some : goal.returns-in-Some
returns-in-Some c = sym (word_found header_words (words_of_blocks ++ operation_words)
    c.args.word.now c.in-Some.symbol (sym c.in-Some.ensures))

pub returns-in-Some-block_word : goal.returns-in-Some-block_word
returns-in-Some-block_word c =
    let word = c.args.word.now in
    sym (word_missed header_words (words_of_blocks ++ operation_words) word (sym c.in_default.ensures)
    ∙ word_found words_of_blocks operation_words word c.in-Some-block_word.symbol
    (sym c.in-Some-block_word.ensures))

pub returns-in-Some-operation_word : goal.returns-in-Some-operation_word
returns-in-Some-operation_word c =
    let word = c.args.word.now in
    sym (word_missed header_words (words_of_blocks ++ operation_words) word (sym c.in_default.ensures)
    ∙ word_missed words_of_blocks operation_words word (sym c.in_default-block_word.ensures)
    ∙ word_found operation_words [] word c.in-Some-operation_word.symbol
    (sym c.in-Some-operation_word.ensures))
