use Rattle.std.proofs.Common.{◌≡◌, ◌+◌, ◌∙◌, ◌++◌, List, ap, arith, length}
use Rattle.std.specs.Prelude.{slice_index}
use Rattle.pram_job.specs.declared.instr.Instr.{Instr}
use Rattle.pardo_job.specs.Lines.{line_code}
use Rattle.pardo_job.proofs.Placed.{fault_at, long_at, place_after_is}
use Rattle.pardo_job.proofs.lines.Listing.next_place.Goals as goal

pub returns-in-Err-clause-refused : goal.returns-in-Err-clause-refused
returns-in-Err-clause-refused c =
    fault_at c.args.self.now.program.now c.args.line.now c.args.place
    (slice_index c.args.self.now.places.items) (length c.args.code.now.items)
    c.in-Err.kind c.fault_of.result c.fault_of.ensures.kind c.fault_of.ensures.line
    c.fault_of.ensures.memory c.in-Err.ensures.fault

pub returns-then-place-len-ge-MAX_CODE-clause-refused :
    goal.returns-then-place-len-ge-MAX_CODE-clause-refused
returns-then-place-len-ge-MAX_CODE-clause-refused c =
    let code : List Instr = line_code c.args.self.now.program.now
    (slice_index c.args.self.now.places.items) (length c.args.code.now.items)
    c.args.line.now.depth c.args.line.now.statement in
    let e : c.put_judged.new.code.items ≡ code = c.in-Ok.ensures.all ∙
    ap (λ (l : List Instr). l ++ code) c.requires.unknown.1 in
    long_at c.args.self.now.program.now c.args.line.now c.args.place
    (slice_index c.args.self.now.places.items) (length c.args.code.now.items)
    c.fault_of-then-place-len-ge-MAX_CODE.result c.fault_of-then-place-len-ge-MAX_CODE.ensures.kind
    c.fault_of-then-place-len-ge-MAX_CODE.ensures.line
    c.in-Ok.ensures.shallow
    (omega (
      arith,
      ap (λ (l : List Instr). length l) e,
      c.put_judged.new.code.ok,
      c.if-place-len-ge-MAX_CODE.true,
      c.len.ensures,
    ))

pub returns-clause-given : goal.returns-clause-given
returns-clause-given c =
    let code : List Instr = line_code c.args.self.now.program.now
    (slice_index c.args.self.now.places.items) (length c.args.code.now.items)
    c.args.line.now.depth c.args.line.now.statement in
    let e : c.put_judged.new.code.items ≡ code = c.in-Ok.ensures.all ∙
    ap (λ (l : List Instr). l ++ code) c.requires.unknown.1 in
    place_after_is c.args.self.now.program.now c.args.line.now c.args.place
    (c.args.place + c.len-2.result) (slice_index c.args.self.now.places.items)
    (length c.args.code.now.items) c.put_judged.new.code.items e c.in-Ok.ensures.shallow
    (omega (arith, c.put_judged.new.code.ok, c.len-2.ensures))
    (omega (arith, c.if-place-len-ge-MAX_CODE.false, c.len.ensures, c.len-2.ensures))
