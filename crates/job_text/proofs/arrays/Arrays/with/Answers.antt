use Rattle.std.proofs.Common.{◌∙◌, ap, sym}
use Rattle.std.specs.List.{list_any}
use Rattle.job_text.specs.Printed.{is_same}
use Rattle.job_text.proofs.Once.{known-push}
use Rattle.job_text.proofs.arrays.Arrays.with.Goals as goal

pub invariant_of-self : goal.invariant_of-self
invariant_of-self c = λ array.
    known-push c.self.inside.known c.insert.new.self c.self.inside.items.items c.args.array
    c.self.invariant c.in_ok-insert.ensures.updates array
    ∙ sym (ap (λ items. list_any (λ other. is_same other array) items) c.in_ok-push.ensures.items)
