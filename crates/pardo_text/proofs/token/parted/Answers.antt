use Rattle.std.proofs.Common.{◌∙◌, ◌==◌, ap, take, drop, length, unwrap_or}
use Rattle.pardo_text.proofs.Runs.{unwrap_or-position}
use Rattle.pardo_text.proofs.token.parted.Goals as goal

pub returns-clause-said : goal.returns-clause-said
returns-clause-said c =
    let line = c.args.line.now in
    c.split_at.ensures.front ∙ ap (λ n. take n line) (c.unwrap_or.ensures
    ∙ ap (λ o. unwrap_or o (length line)) c.comment_start.ensures
    ∙ unwrap_or-position (λ byte. byte == 59) line)

pub returns-clause-comment : goal.returns-clause-comment
returns-clause-comment c =
    let line = c.args.line.now in
    c.split_at.ensures.back ∙ ap (λ n. drop n line) (c.unwrap_or.ensures
    ∙ ap (λ o. unwrap_or o (length line)) c.comment_start.ensures
    ∙ unwrap_or-position (λ byte. byte == 59) line)
