use Rattle.std.proofs.Common.{◌∙◌, ◌++◌, ap, refl, arith}
use Rattle.pardo_job.specs.Ends.{gone_in}
use Rattle.pardo_answers.specs.Records.{gone_record}
use Rattle.pardo_answers.proofs.Ranges.{range_told}
use Rattle.pardo_answers.proofs.records.push_gone.Goals as goal

pub loop-processor-preserved : goal.loop-processor-preserved
loop-processor-preserved c =
    range_told (λ i. gone_record i (gone_in c.args.lines.now.gone.items i))
    c.loop-processor.text.items
    c.push_gone_record.new.text.items _ c.loop-processor.processor _ _ _ refl (omega arith)
    (c.in_ok-push_gone_record.ensures
    ∙ ap (λ line. c.loop-processor.text.items ++ gone_record c.loop-processor.processor line)
    c.gone_in.ensures)
    c.loop-processor.invariant
