use Rattle.std.proofs.Common.{◌≡◌, ◌+◌, ℕ, arith, rules, subst, sym, ◌++◌, ◌∷◌, [], Ok, Err}
use Rattle.pram_job.specs.declared.instr.Operand.TheVariants.{Register}
use Rattle.pardo_program.specs.declared.expression.Node.{Node}
use Rattle.pardo_job.specs.Inner.Emitting.{PutsCode, IsCodeFault}
use Rattle.pardo_job.specs.Inner.Nodes.{Takes}
use Rattle.pardo_job.specs.Operations.{taken_by}
use Rattle.pardo_job.proofs.Holding.{joined_code, made, place_taken, apply_fails_as, apply_taken}
use Rattle.pardo_job.proofs.values.put_node.Goals as goal

pub returns-in-Place : goal.returns-in-Place
returns-in-Place c =
    subst (λ (n : Node). Takes c.args.stack.now c.args.code.now.items c.put_load.new.code.items
    c.put_load.new.stack c.put_load.result c.args.layout.now n) (sym c.in-Place.is)
    (λ before base trees h ready.
    place_taken c.args.stack.now c.pop-index.new.self c.put_load.new.stack _ _ c.put_load.result
    c.args.layout.now c.in-Place.array c.array.result c.pop-index.result
    before base trees (omega arith) c.array.ensures c.pop-index.ensures.values
    c.pop-index.ensures.taken
    c.put_load.ensures.put c.put_load.ensures.held c.put_load.ensures.taken h ready)

pub returns-in_err-put_operation-in-Apply : goal.returns-in_err-put_operation-in-Apply
returns-in_err-put_operation-in-Apply c =
    let q = c.pop-first.new.self in
    let op = c.in-Apply.op in
    let kind = c.in_err-put_operation-in-Apply.field-0.0 in
    let e : c.from_residual-in_err-put_operation-in-Apply.result ≡ Err kind = search rules in
    let fault : IsCodeFault (joined_code q.taken op c.pop-first.result c.pop-second.result) kind =
    subst (λ (n : ℕ). IsCodeFault (joined_code n op c.pop-first.result c.pop-second.result) kind)
    c.free-at.ensures.value c.in_err-put_operation-in-Apply.ensures.fault in
    subst (λ (n : Node). Takes c.args.stack.now c.args.code.now.items
    c.put_operation.new.code.items q c.from_residual-in_err-put_operation-in-Apply.result
    c.args.layout.now n) (sym c.in-Apply.is)
    (λ before base trees h ready.
    apply_fails_as c.args.stack.now q q _ _ _ _ c.args.layout.now op c.pop-first.result
    c.pop-second.result before base trees e
    (record {
      between = c.pop-second.new.self;
      few = omega arith;
      few_then = omega arith;
      values = c.pop-second.ensures.values;
      taken = c.pop-second.ensures.taken;
      values_then = c.pop-first.ensures.values;
      taken_then = c.pop-first.ensures.taken;
    }) fault h ready)

pub returns-in_ok-push-in-Apply : goal.returns-in_ok-push-in-Apply
returns-in_ok-push-in-Apply c =
    let q = c.pop-first.new.self in
    let op = c.in-Apply.op in
    let puts : PutsCode c.args.code.now.items c.put_operation.new.code.items
    (Ok c.in_ok-put_operation-in-Apply.field-0)
    (joined_code q.taken op c.pop-first.result c.pop-second.result) =
    subst (λ (n : ℕ). PutsCode c.args.code.now.items c.put_operation.new.code.items
    (Ok c.in_ok-put_operation-in-Apply.field-0)
    (joined_code n op c.pop-first.result c.pop-second.result))
    c.free-at.ensures.value c.in_ok-put_operation-in-Apply.ensures in
    let values : c.push-in-Apply.new.self.values.items ≡ q.values.items ++
    made q.taken op c.pop-first.result c.pop-second.result ∷ [] =
    search rules in
    let taken : c.push-in-Apply.new.self.taken ≡ q.taken + taken_by (Register q.taken) =
    search rules in
    subst (λ (n : Node). Takes c.args.stack.now c.args.code.now.items
    c.put_operation.new.code.items c.push-in-Apply.new.self (Ok (tt {0})) c.args.layout.now n)
    (sym c.in-Apply.is)
    (λ before base trees h ready.
    apply_taken c.args.stack.now q c.push-in-Apply.new.self _ _ _ _ c.args.layout.now op
    c.pop-first.result c.pop-second.result before base trees
    (record {
      between = c.pop-second.new.self;
      few = omega arith;
      few_then = omega arith;
      values = c.pop-second.ensures.values;
      taken = c.pop-second.ensures.taken;
      values_then = c.pop-first.ensures.values;
      taken_then = c.pop-first.ensures.taken;
    }) (omega arith) puts values taken h ready)
