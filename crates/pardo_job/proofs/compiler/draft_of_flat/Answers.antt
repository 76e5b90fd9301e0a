use Rattle.pardo_job.proofs.Drafting.{first_places_are}
use Rattle.pardo_job.proofs.compiler.draft_of_flat.Goals as goal

pub returns-clause-places : goal.returns-clause-places
returns-clause-places c =
    first_places_are c.args.flat.now.program _ _ _ _ _ c.in_ok-job.ensures.places
    c.deref.ensures.value c.deref-2.ensures.value c.in_ok-places.ensures
