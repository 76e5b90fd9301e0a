use Rattle.std.proofs.Common.{◌≡◌, ◌∙◌, sym, ap, subst, take, length, unwrap_or}
use Rattle.std.specs.Char.{is_ascii_digit}
use Rattle.std.specs.List.{AllPass}
use Rattle.pardo_text.specs.Tokens.{run_len}
use Rattle.pardo_text.proofs.Runs.{run_passes}
use Rattle.pardo_text.proofs.Tokens.{token_word, token_number}
use Rattle.pardo_text.proofs.token.next_token.Goals as goal

pub returns-then-may_begin_name-clause-token : goal.returns-then-may_begin_name-clause-token
returns-then-may_begin_name-clause-token c =
    let line = c.args.line.now in
    token_word line c.split_at.result.0.now c.split_at.result.1.now _ c.unwrap_or.result _
    c.in-len1-up.len_at_least (sym c.may_begin_name.ensures ∙ c.if-may_begin_name.true)
    (c.unwrap_or.ensures ∙ ap (λ o. unwrap_or o (length line)) c.name_end.ensures)
    c.split_at.ensures.front c.split_at.ensures.back c.word_token.ensures

pub returns-then-is_ascii_digit-clause-token : goal.returns-then-is_ascii_digit-clause-token
returns-then-is_ascii_digit-clause-token c =
    let line = c.args.line.now in
    let split = c.split_at-then-is_ascii_digit.ensures in
    token_number line c.split_at-then-is_ascii_digit.result.0.now
    c.split_at-then-is_ascii_digit.result.1.now _ c.unwrap_or-then-is_ascii_digit.result
    c.value_of.result c.in-len1-up.len_at_least
    (sym c.may_begin_name.ensures ∙ c.if-may_begin_name.false)
    (sym c.is_ascii_digit.ensures.value ∙ c.if-is_ascii_digit.true)
    (c.unwrap_or-then-is_ascii_digit.ensures
    ∙ ap (λ o. unwrap_or o (length line)) c.number_end.ensures)
    split.front split.back c.value_of.ensures

pub value_of-requires : goal.value_of-requires
value_of-requires c =
    let line = c.args.line.now in
    let front : c.split_at-then-is_ascii_digit.result.0.now ≡
    take (run_len is_ascii_digit line) line =
    c.split_at-then-is_ascii_digit.ensures.front
    ∙ ap (λ n. take n line) (c.unwrap_or-then-is_ascii_digit.ensures
    ∙ ap (λ o. unwrap_or o (length line)) c.number_end.ensures) in
    subst (AllPass is_ascii_digit) (sym front) (run_passes is_ascii_digit line)
