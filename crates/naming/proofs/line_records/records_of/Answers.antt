use Rattle.std.proofs.Common.{◌∙◌, ◌++◌, List, [], ℕ, Bor, get_or, ap, arith}
use Rattle.std.specs.Prelude.{codes}
use Rattle.std.specs.List.{flat_map}
use Rattle.std.proofs.lemmas.List.{take_all}
use Rattle.naming.specs.LineRecords.{numbered_line, line_record}
use Rattle.pardo_answers.specs.declared.line_costs.LineCost.{LineCost}
use Rattle.naming.proofs.LineFinding.{no_cost, record_more}
use Rattle.naming.proofs.line_records.records_of.Goals as goal

pub loop-cost-init : goal.loop-cost-init
loop-cost-init c = record {
  between = record {
    setup = c.from_writer-writer.ensures.cfg;
    fields = c.from_writer-writer.ensures.fields;
    clean = c.from_writer-writer.ensures.wrote;
  };
  text = rw (c.from_writer-writer.ensures.wtr, c.from_writer-writer.ensures.empty)
      (ap (λ (bytes : List ℕ). bytes ++ []) c.in_ok-header.ensures.items);
  same = ap (λ (bytes : Bor (List ℕ)). bytes.now) c.start-place.ensures.text;
}

pub loop-cost-preserved : goal.loop-cost-preserved
loop-cost-preserved c =
    let costs = c.args.costs.now in
    let i = c.loop-cost.cost-index in
    let was = c.loop-cost.invariant in
    record {
      between = c.in_ok-write_record.ensures.between;
      text = record_more (codes "line,times,time,operations,most,text\n") c.args.text.now costs i
          _ _ c.line_from.result.0.now c.loop-cost-test.true c.in_ok-write_record.ensures.text
          (c.line_from.ensures.line
          ∙ ap (λ (bytes : List ℕ). numbered_line bytes (get_or costs i no_cost).line) was.same)
          was.text;
      same = ap (λ (bytes : Bor (List ℕ)). bytes.now) c.line_from.ensures.text ∙ was.same;
    }

pub returns-in-Ok : goal.returns-in-Ok
returns-in-Ok c =
    let costs = c.args.costs.now in
    c.in-Ok.ensures.ok
    ∙ c.loop-cost.invariant.text
    ∙ ap (λ (all : List LineCost). codes "line,times,time,operations,most,text\n"
    ++ flat_map (λ cost. line_record cost (numbered_line c.args.text.now cost.line)) all)
    (take_all c.loop-cost.cost-index costs (omega arith))
