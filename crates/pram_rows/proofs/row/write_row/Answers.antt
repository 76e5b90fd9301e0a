use Rattle.std.proofs.Common.{◌≡◌, ◌∙◌, ◌+◌, ℕ, List, Option, None, Some, Bor, ap, refl, subst}
use Rattle.std.proofs.lemmas.Result.{on_ok_weaker}
use Rattle.std.specs.Option.{is_some, option_copied, unwrap_or}
use Rattle.std.specs.Prelude.{IfSome}
use Rattle.pram_job.specs.Job.{JobData}
use Rattle.pram_machine.specs.declared.requests.Request.{Request}
use Rattle.pram_machine.specs.Machine.{counter}
use Rattle.pram_rows.specs.Rows.{instruction_at, line_number_text, target_text}
use Rattle.pram_rows.proofs.Plain.{row-is}
use Rattle.pram_rows.proofs.row.write_row.Goals as goal

-- the line, where lines are told
told : (lines : Option (Bor (List ℕ))) (given none : Bor (List ℕ)) (job : JobData) (counter : ℕ)
    (line : List ℕ) → given ≡ unwrap_or lines none → line ≡ line_number_text given.now job counter →
    IfSome (option_copied lines) (λ numbers. line ≡ line_number_text numbers job counter)
told None given none job counter line is text = tt
told (Some numbers) given none job counter line is text =
    text ∙ ap (λ (l : Bor (List ℕ)). line_number_text l.now job counter) is

copied : (lines : Option (Bor (List ℕ))) → is_some lines ≡ is_some (option_copied lines)
copied None = refl
copied (Some numbers) = refl

pub returns-clause-text : goal.returns-clause-text
returns-clause-text g c =
    let words = g.N.RowNames.words c.args.names.now in
    let job = c.args.moment.now.job.now in
    let lines_are : option_copied c.lines-lines.result ≡ words.lines = c.lines-lines.ensures in
    let same = row-is words job c.args.moment.now.state.now (c.args.moment.now.made + 1)
    c.args.processor c.number_text.result.now c.number_text-2.result.now c.number_text-3.result.now
    c.as_bytes.result.now c.as_slice.result.now c.value_in.result.now c.number_text-4.result.now
    c.line_in.result.now (record {
      step_is = cc;
      processor_is = cc;
      index_is = cc;
      instruction_is = c.as_bytes.ensures.value
          ∙ c.in_ok-instruction.ensures
          ∙ ap (λ n. instruction_at words job n) c.counter-index.ensures;
      target_is = c.as_slice.ensures.value ∙ c.in_ok-target.ensures ∙ ap
          (λ (request : Request). target_text words job c.args.processor request.put)
          c.request_after-request.ensures.request;
      value_is = cc;
      next_is = cc;
      line_is = subst (λ (o : Option (List ℕ)). IfSome o (λ numbers. c.line_in.result.now
          ≡ line_number_text numbers job
          (counter job c.args.moment.now.state.now c.args.processor))) lines_are
          (told c.lines-lines.result c.unwrap_or.result _ job _ c.line_in.result.now
          c.unwrap_or.ensures (c.line_in.ensures.text
          ∙ ap (λ n. line_number_text c.unwrap_or.result.now job n) c.counter-index.ensures));
      steps = c.number_text.ensures.plain;
      processors = c.number_text-2.ensures.plain;
      indices = c.number_text-3.ensures.plain;
      values = c.value_in.ensures.plain;
      nexts = c.number_text-4.ensures.plain;
      numbers = c.line_in.ensures.plain;
    })
    c.is_some.result (c.is_some.ensures ∙ copied c.lines-lines.result
    ∙ ap (λ (o : Option (List ℕ)). is_some o) lines_are) in
    on_ok_weaker c.write_record.result (λ written. rw same at written) c.write_record.ensures.text
