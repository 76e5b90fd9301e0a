use Rattle.std.proofs.Common.{◌≡◌}
use Rattle.pardo_job.specs.Inner.Listings.{ArePlaces}
use Rattle.pardo_job.specs.Lines.{place_of}
use Rattle.pardo_job.proofs.lines.Listing.find_places.Given as goal

abbrev pub invariant-loop-line : goal.invariant-loop-line
invariant-loop-line l = record {
  places : ArePlaces l.self.program.now l.line-index l.places.items;
  place : l.place ≡ place_of l.self.program.now l.line-index;
}
