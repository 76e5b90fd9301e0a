use Rattle.std.proofs.Common.{◌≡◌, [], rules, sym, ◌∙◌}
use Rattle.text_lines.specs.Lines.{words_of}
use Rattle.text_lines.proofs.WordsOf.{words_of-all_blank, words_of-no_first, words_of-first}
use Rattle.text_lines.proofs.words.next_word.Goals as goal

pub returns-in_err-start : goal.returns-in_err-start
returns-in_err-start c =
    let none : words_of c.args.line.now ≡ [] =
    words_of-all_blank c.args.line.now (sym c.word_start.ensures ∙ c.in_err-start.was) in
    search (rules, none)

pub returns-then-len-eq0 : goal.returns-then-len-eq0
returns-then-len-eq0 c =
    words_of-no_first c.args.line.now c.split_at.result.1.now c.unwrap_or-len.result
    (record {
      start = c.in_ok-start.start;
      end = c.word_end.result;
      first = sym c.in_ok-start.was ∙ c.word_start.ensures;
      rest = c.split_at.ensures.back;
      ends = c.word_end.ensures;
      len = c.unwrap_or-len.ensures;
    }) c.if-len-eq0.true

pub returns-else-len-eq0 : goal.returns-else-len-eq0
returns-else-len-eq0 c =
    rw (c.split_at-else-len-eq0.ensures.front, c.split_at-else-len-eq0.ensures.back)
    (words_of-first c.args.line.now c.split_at.result.1.now c.unwrap_or-len.result
    (record {
      start = c.in_ok-start.start;
      end = c.word_end.result;
      first = sym c.in_ok-start.was ∙ c.word_start.ensures;
      rest = c.split_at.ensures.back;
      ends = c.word_end.ensures;
      len = c.unwrap_or-len.ensures;
    }) c.if-len-eq0.false)
