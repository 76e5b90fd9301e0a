use Rattle.csv.specs.Records.{fields_of}
use Rattle.stop_plan.proofs.Faults.{fault_later, header_refused, header_taken, row_taken}
use Rattle.stop_plan.proofs.Rest.{mapped}
use Rattle.std.proofs.Common.{◌≡◌, ◌++◌, ◌∷◌, [], inr, refl, ◌∙◌, sym}
use Rattle.stop_plan.proofs.read.take_record.Goals as goal

pub returns-then-is_header-clause-taken : goal.returns-then-is_header-clause-taken
returns-then-is_header-clause-taken c given index rows =
    header_taken _ _ given _ _ c.if-row-eq1.true index
    (sym c.is_header.ensures ∙ c.if-is_header.true) rows

pub returns-else-is_header-clause-fault : goal.returns-else-is_header-clause-fault
returns-else-is_header-clause-fault c =
    inr (
      refl,
      λ given index rows. header_refused _ _ given _ c.if-row-eq1.true index
          (sym c.is_header.ensures ∙ c.if-is_header.false),
    )

pub returns-in-Ok-clause-taken : goal.returns-in-Ok-clause-taken
returns-in-Ok-clause-taken c =
    mapped c.with_row.result _ (λ draft. draft ≡ c.args.draft ++ (c.in-Ok.next ∷ []))
    _ _ c.map_err.ensures.cases c.with_row.ensures (λ next is given index rows.
    let taken = row_taken c.args.workers c.args.row given (fields_of c.args.fields.now)
    c.args.draft c.in-Ok.next c.if-row-eq1.false index rows c.in-Ok.ensures.0 c.in-Ok.ensures.1 in
    (taken.0, is ∙ taken.1))

pub returns-in-Err-clause-fault : goal.returns-in-Err-clause-fault
returns-in-Err-clause-fault c =
    inr (
      refl,
      λ given index rows. fault_later c.args.workers c.args.row given (fields_of c.args.fields.now)
          c.args.draft c.if-row-eq1.false index rows ∙ c.in-Err.ensures,
    )
