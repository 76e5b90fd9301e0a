use Rattle.std.proofs.Common.{ℕ, ◌+◌, ◌≤◌, length, Some, slice_get, rules, sym, ap, subst, ◌∙◌, arith}
use Rattle.std.proofs.lemmas.Option.{slice_get_within}
use Rattle.pram_job.specs.declared.instr.Instr.{Instr}
use Rattle.pram_job.specs.Job.{IsInstr, IsJob}
use Rattle.pram_machine.proofs.Shapes.{instr_is}
use Rattle.walk_memory.specs.Lanes.{lane}
use Rattle.walk_memory.proofs.Plainly.{four_entries, load_reads}
use Rattle.walk_memory.proofs.plain.plain_loads.Goals as goal

pub overflow_add-stand : goal.overflow_add-stand
overflow_add-stand c =
    let job = c.args.leaf.now.job in
    let low = slice_get_within job.code c.args.stand.counter c.args.stand.instr.now c.requires.1 in
    let most : length job.code ≤ 4096 = rw c.job-job.ensures.value at c.limits_hold.ensures.code_len.1 in
    omega (arith, low, most)

pub cells_of-requires : goal.cells_of-requires
cells_of-requires c =
    let job = c.args.leaf.now.job in
    let is_job : IsJob job = rw c.job-job.ensures.value at c.limits_hold.ensures in
    let fits = subst (λ (x : Instr). IsInstr job.cells (length job.code) x) c.in-Ld.is
    (instr_is job c.args.stand.counter c.args.stand.instr.now is_job c.requires.1) in
    rw (c.in-Ld.place-is, c.job-job.ensures.value) fits.1

pub returns : goal.returns
returns c = λ k from to.
    let at = c.args.leaf.now in
    let block = c.args.block.now in
    let counter = c.args.stand.counter in
    let own = c.stand_before.ensures.there c.if-not-stand_before.false k from to in record {
      first = c.requires.0;
      before = c.stand_before.ensures.before c.if-not-stand_before.false k from to;
      place = c.in-Ld.place;
      code = ap (slice_get at.job.code) own ∙ c.requires.1 ∙ ap Some c.in-Ld.is;
      reads = load_reads at.job (lane block k).own c.in-Ld.register c.in-Ld.place
          ∙ rw c.job-job.ensures.value at (rw c.in-Ld.place-is at c.in_ok-cells.ensures.there k from to);
      below = rw c.job-job.ensures.value at c.in_ok-cells.ensures.below k from to;
      four = four_entries block.registers k (search rules);
      counter = c.all_equal.ensures c.if-not-all_equal.false k from to
          ∙ ap (λ (n : ℕ). n + 1) (sym own);
      told = c.all_told.ensures c.if-not-all_told.false k from to;
    }
