use Rattle.std.proofs.Common.{◌++◌, ◌∙◌, ap, map, string_bytes}
use Rattle.job_text.specs.Printed.{array_line, arrays_in, body_lines, init_lines}
use Rattle.job_text.specs.Printed.{lines_text, once}
use Rattle.job_text.proofs.Streaming.{whole}
use Rattle.job_text.proofs.print.spell.Goals as goal

pub returns : goal.returns
returns g c =
    let words = g.N.ArrayNames.words c.args.names.now in
    let header = string_bytes c.push_header.new.text in
    let named = string_bytes c.push_arrays.new.text in
    let given = string_bytes c.push_runs.new.text in
    let said = string_bytes c.push_str.new.self in
    whole words c.args.job.now c.in_ok-arrays.arrays.items (string_bytes c.new-text.result) header named
    given said (string_bytes c.push_code.new.text) c.new-text.ensures.bytes
    c.in_ok-push_header.ensures
    (c.in_ok-arrays.ensures ∙ ap (λ code. once (arrays_in code)) c.code.ensures.value)
    (c.in_ok-push_arrays.ensures
    ∙ ap (λ arrays. header ++ lines_text (map (array_line words) arrays)) c.as_slice.ensures.value)
    (c.in_ok-push_runs.ensures
    ∙ ap (λ init. named ++ lines_text (init_lines init)) c.init.ensures.value)
    c.in_ok-push_str.ensures.bytes
    (c.in_ok-push_code.ensures
    ∙ ap (λ code. said ++ lines_text (body_lines words code))
    c.code-3.ensures.value)
