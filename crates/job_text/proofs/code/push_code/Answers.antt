use Rattle.std.proofs.Common.{◌∙◌, ap, false, get_or, length, string_bytes, arith}
use Rattle.std.proofs.lemmas.List.FromFn.{length-map-range_with_len, get_or-map-range_with_len}
use Rattle.pram_job.specs.declared.instr.Instr.TheVariants.{Set}
use Rattle.job_text.specs.Printed.{is_aim}
use Rattle.job_text.proofs.Streaming.{code_step}
use Rattle.job_text.proofs.code.push_code.Goals as goal

pub bounds-aims-index : goal.bounds-aims-index
bounds-aims-index g c =
    let all = ap length c.requires in
    let len = length-map-range_with_len (is_aim c.args.code.now) 0 (length c.args.code.now) in
    omega (arith, all, len)

pub loop-index-preserved : goal.loop-index-preserved
loop-index-preserved g c =
    let code = c.args.code.now in
    let index = c.loop-index.index in
    code_step (g.N.ArrayNames.words c.args.names.now) (is_aim code) code index (Set 0 0) (get_or c.args.aims.now index false)
    (string_bytes c.loop-index.text) (string_bytes c.push_instruction.new.text) _
    c.loop-index-test.true (ap (λ aims. get_or aims index false) c.requires
    ∙ get_or-map-range_with_len (is_aim code) 0 (length code) index index false
    c.loop-index-test.true (omega arith)) c.in_ok-push_instruction.ensures c.loop-index.invariant
