use Rattle.std.proofs.Common.{◌≡◌, ◌∙◌, ◌∷◌, [], ◌++◌, List, ap, arith, length, subst, sym}
use Rattle.std.specs.Prelude.{slice_index}
use Rattle.pram_job.specs.declared.instr.Instr.{Instr}
use Rattle.pram_job.specs.declared.instr.Instr.TheVariants.{Pid}
use Rattle.pardo_flat.proofs.FlatLines.{line_there}
use Rattle.pardo_job.specs.declared.fault.JobKind.{JobKind}
use Rattle.pardo_job.specs.declared.fault.JobKind.TheVariants.{Memory}
use Rattle.pardo_job.specs.Refusals.{IsLinesFault}
use Rattle.pardo_program.specs.Lawful.{IsLine, bounds_of}
use Rattle.pardo_job.proofs.LineFits.{line_at}
use Rattle.pardo_job.proofs.Placed.{code_more, code_none, only_memory, place_below}
use Rattle.pardo_job.proofs.lines.Listing.code.Goals as goal

pub loop-line-init : goal.loop-line-init
loop-line-init c = code_none c.args.self.now.program.now c.push.new.self.items
    (c.in_ok-push.ensures.items ∙ ap (λ (l : List Instr). l ++ Pid 3 ∷ []) c.new-code.ensures.items)

pub put_line-requires-clause-room : goal.put_line-requires-clause-room
put_line-requires-clause-room c =
    omega (
      arith,
      c.loop-line.invariant.long,
      place_below c.args.self.now.program.now c.loop-line.line-index,
      c.requires.places.short,
      c.loop-line.code.ok,
    )

pub returns-in-Err-clause-refused : goal.returns-in-Err-clause-refused
returns-in-Err-clause-refused c =
    let there = line_there c.args.self.now.program.now.lines c.lines-line-items.result.now
    c.loop-line.line-index c.line-item.result
    c.lines-line-items.ensures c.loop-line-test.true c.line-item.is in
    let m : c.in-Err.kind ≡ Memory =
    only_memory c.args.self.now.program.now c.args.self.now.places.items
    (slice_index c.args.self.now.places.items)
    (length c.loop-line.code.items) c.loop-line.line-index c.line-item.result c.in-Err.kind
    c.requires.places there c.in-Err.ensures.fault in
    subst (λ (k : JobKind). IsLinesFault c.args.self.now.program.now c.fault_of.result.line k)
    (sym (c.fault_of.ensures.kind ∙ m)) (c.fault_of.ensures.memory m)

pub loop-line-preserved : goal.loop-line-preserved
loop-line-preserved c =
    let there = line_there c.args.self.now.program.now.lines c.lines-line-items.result.now
    c.loop-line.line-index c.line-item.result
    c.lines-line-items.ensures c.loop-line-test.true c.line-item.is in
    let is = line_at c.args.self.now.program.now.lines c.loop-line.line-index c.line-item.result
    (IsLine (bounds_of c.args.self.now.program.now))
    c.requires.program.lines there in
    code_more c.args.self.now.program.now c.args.self.now.places.items c.loop-line.line-index
    c.line-item.result c.loop-line.code.items
    c.put_line.new.code.items c.requires.places c.requires.program.lines is.0 there
    c.in-Ok.ensures.all c.loop-line.invariant
