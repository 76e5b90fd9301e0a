use Rattle.std.proofs.Common.{◌≡◌, ◌∙◌, ℕ, Option, Some, ap, codes, subst, sym}
use Rattle.clap.specs.Words.{found_of, rows_of}
use Rattle.command_data.specs.Manner.{size_of}
use Rattle.command_line.specs.CommandLine.{IsNumberIfSet}
use Rattle.command_line.proofs.Values.{no_block}
use Rattle.command_line.proofs.bad_value.bad_block.Goals as goal

pub returns-in-Some-of : goal.returns-in-Some-of
returns-in-Some-of c =
    let rows = rows_of (found_of c.args.inner.now) in
    let block = c.in-Some-of.field-0 in
    let same : c.in_ok-size.field-0 ≡ Some (size_of block) =
    c.in-Some.is ∙ ap (λ (n : ℕ). Some n) (sym c.in-Some-of.ensures.some) in
    no_block rows (Some block)
    (subst (λ (n : Option ℕ). IsNumberIfSet (codes "block") rows n) same c.in_ok-size.ensures)
