use Rattle.std.proofs.Common.{◌≡◌, ◌++◌, ◌∙◌, [], append-nil, ap, decimal, drop, map, string_bytes}
use Rattle.std.proofs.Common.{sym}
use Rattle.std.proofs.lemmas.List.{drop_all}
use Rattle.job_text.specs.Inner.Printing.{spaced}
use Rattle.job_text.proofs.Streaming.{on_ok, run_text}
use Rattle.job_text.proofs.runs.push_run.Goals as goal

pub returns : goal.returns
returns c =
    let run = c.args.run.now in
    let none : drop c.loop-value.value-index run ≡ [] =
    drop_all c.loop-value.value-index run c.loop-value-test.false in
    let last = string_bytes c.loop-value.text in
    on_ok c.push_str.result _ _ _ _ c.push_str.ensures.bytes (λ ended.
    run_text (string_bytes c.args.text.now) (string_bytes c.write.new.self) last _ c.args.cell run
    (sym c.is_empty.ensures ∙ c.if-is_empty.false) c.in_ok-write.ensures.bytes
    (sym (append-nil last)
    ∙ sym (ap (λ rest. last ++ spaced (map (λ value. decimal value) rest)) none)
    ∙ c.loop-value.invariant) ended)
