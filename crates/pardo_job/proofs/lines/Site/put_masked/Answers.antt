use Rattle.std.proofs.Common.{List, length, sym, subst}
use Rattle.pram_job.specs.declared.instr.Instr.{Instr}
use Rattle.pardo_job.specs.Inner.Pieces.{PutsLine}
use Rattle.pardo_job.proofs.LineParts.{masked_none, masked_some, masked_too_long, puts_line}
use Rattle.pardo_job.proofs.lines.Site.put_masked.Goals as goal

pub returns-then-self-eq0 : goal.returns-then-self-eq0
returns-then-self-eq0 c =
    subst (λ (l : List Instr). PutsLine c.args.code.now.items c.put_all.new.code.items
    c.put_all.result l)
    (sym (masked_none c.args.self.now.layout.now (length c.args.code.now.items) c.args.self.now.depth c.args.body.now
    c.if-self-eq0.true))
    (puts_line _ _ _ _ c.put_all.ensures)

pub returns-then-body-gt-MAX_CODE : goal.returns-then-body-gt-MAX_CODE
returns-then-body-gt-MAX_CODE c =
    masked_too_long _ _ c.args.self.now.layout.now (length c.args.code.now.items) c.args.self.now.depth
    c.args.body.now
    c.requires.shallow c.if-body-gt-MAX_CODE.true

pub returns : goal.returns
returns c =
    subst (λ (l : List Instr). PutsLine c.args.code.now.items c.put_under.new.code.items
    c.put_under.result l)
    (sym (masked_some c.args.self.now.layout.now (length c.args.code.now.items) c.args.self.now.depth c.args.body.now
    c.if-self-eq0.false))
    (puts_line _ _ _ _ c.put_under.ensures)
