use Rattle.std.proofs.Common.{◌∙◌, ◌++◌, ◌∷◌, [], Some, refl, sym, inl, inr, arith}
use Rattle.csv.specs.Records.{fields_of}
use Rattle.std.proofs.lemmas.Result.{err_from_is_err_and}
use Rattle.stop_plan.proofs.Faults.{first_fault, fresh_rows, judged_more, spells}
use Rattle.stop_plan.proofs.Rest.{fresh}
use Rattle.stop_plan.proofs.read.read_plan.Goals as goal

pub loop-draft-init : goal.loop-draft-init
loop-draft-init c =
    let fr = c.from_reader-reader.ensures in
    record {
      setup = record {
        config = rw (c.flexible.ensures, c.has_headers.ensures) at fr.config ∙ c.new.ensures.config;
        trim = rw (c.flexible.ensures, c.has_headers.ensures) at fr.trim ∙ c.new.ensures.trim;
        flexible = rw (c.flexible.ensures) at fr.flexible;
        ready = inr
            (inr (rw (c.flexible.ensures, c.has_headers.ensures) at fr.has_headers, fr.headers));
      };
      given = [];
      read = fresh (λ s. Some s.now) c.args.text.now c.from_reader-reader.result fr.source fr.state;
      judged = record {
        count = refl;
        rows = c.new-draft.ensures ∙ sym (fresh_rows c.args.workers);
        fine = λ index none. absurd (omega arith);
      };
    }

pub returns-in_err-draft-clause-fault : goal.returns-in_err-draft-clause-fault
returns-in_err-draft-clause-fault c =
    let inv = c.loop-draft.invariant in
    let after =
    rw c.if-branch.true at (c.in_ok-next_record.ensures.reads c.args.text.now inv.given inv.read) in
    let p = err_from_is_err_and c.from_residual-in_err-draft.result
    c.from_residual-in_err-draft.ensures.1 in
    rw (p.1, p.2) (elim c.in_err-draft.ensures.fault [
      | inl none ↦ inl none
      | inr bad ↦ inr (rw bad.0 (first_fault _ _ _ inv.given _ _ _ _ after.rest inv.judged
          (bad.1 inv.given (omega (arith, inv.judged.count)) inv.judged.rows)))
    ])

pub loop-draft-smaller : goal.loop-draft-smaller
loop-draft-smaller c =
    let inv = c.loop-draft.invariant in
    c.in_ok-next_record.ensures.shrinks c.if-branch.true c.args.text.now inv.given inv.read

pub loop-draft-preserved : goal.loop-draft-preserved
loop-draft-preserved c =
    let inv = c.loop-draft.invariant in
    let fields = fields_of c.next_record.new.fields in
    let after =
    rw c.if-branch.true at (c.in_ok-next_record.ensures.reads c.args.text.now inv.given inv.read) in
    record {
      setup = c.in_ok-next_record.ensures.stays;
      given = inv.given ++ (fields ∷ []);
      read = after;
      judged = judged_more _ _ _ inv.given _ fields _ _ after.rest inv.judged
          (c.in_ok-draft.ensures.taken inv.given (omega (arith, inv.judged.count)) inv.judged.rows);
    }

pub returns-clause-plan : goal.returns-clause-plan
returns-clause-plan c =
    let inv = c.loop-draft.invariant in
    let all = rw c.if-branch.false at
    (c.in_ok-next_record.ensures.reads c.args.text.now inv.given inv.read) in
    rw c.into_plan.ensures (spells _ _ _ inv.given _ all inv.judged)
