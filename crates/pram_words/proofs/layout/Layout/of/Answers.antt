use Rattle.std.proofs.Common.{ap, ◌∙◌}
use Rattle.std.specs.Int.{div_ceil}
use Rattle.pram_words.specs.Tree.{leaves_of}
use Rattle.pram_words.proofs.Blocks.{leaves_limits}
use Rattle.pram_words.proofs.layout.Layout.of.Goals as goal

pub invariant_of-result : goal.invariant_of-result
invariant_of-result c =
    let found =
    leaves_limits _ c.args.procs c.requires.grain c.requires.procs.0 c.requires.procs.1 in
    let blocks = c.div_ceil.ensures ∙ ap (div_ceil c.args.procs) c.grain.ensures in
    let e = c.leaves.ensures.value ∙ ap leaves_of blocks in
    record {
      leaves = rw e found.leaves;
      block = c.requires.grain;
      least = e;
      room = rw e found.room;
      cells = c.requires.cells;
      procs = c.requires.procs;
      workers = c.requires.workers;
    }

pub returns-clause-limits : goal.returns-clause-limits
returns-clause-limits c = invariant_of-result c
