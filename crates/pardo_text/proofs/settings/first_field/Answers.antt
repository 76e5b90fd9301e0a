use Rattle.std.proofs.Common.{sym}
use Rattle.text_lines.proofs.Splitting.{after_feed}
use Rattle.pardo_text.proofs.Fields.{first_passes, is_comma, never_passes, parts_none, parts_some}
use Rattle.pardo_text.proofs.settings.first_field.Goals as goal

pub returns-in-None-clause-fields : goal.returns-in-None-clause-fields
returns-in-None-clause-fields c =
    parts_none c.args.line.now (never_passes is_comma c.args.line.now (sym c.in-None.ensures))

pub returns-in-Some-clause-fields : goal.returns-in-Some-clause-fields
returns-in-Some-clause-fields c =
    let found = first_passes is_comma c.args.line.now c.in-Some.end (sym c.in-Some.ensures) in
    rw (
      c.split_at.ensures.front,
      c.split_at.ensures.back,
      after_feed c.args.line.now c.in-Some.end found.1,
    )
    (parts_some c.args.line.now c.in-Some.end found.0 found.1)
