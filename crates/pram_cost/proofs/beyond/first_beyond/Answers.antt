use Rattle.pram_cost.proofs.Passing.{beyond_common, beyond_crew, beyond_erew, finds_priority}
use Rattle.pram_cost.proofs.beyond.first_beyond.Goals as goal

pub returns-in-Erew : goal.returns-in-Erew
returns-in-Erew c = rw c.in-Erew.is
    (λ job n first. beyond_erew job n c.args.meetings.now first c.sooner_of.result
    c.sooner_of.ensures)

pub returns-in-Crew : goal.returns-in-Crew
returns-in-Crew c = rw c.in-Crew.is
    (λ job n first. beyond_crew job n c.args.meetings.now first c.so.result c.so.ensures)

pub returns-in-CommonCrcw : goal.returns-in-CommonCrcw
returns-in-CommonCrcw c = rw c.in-CommonCrcw.is
    (λ job n first. beyond_common job n c.args.meetings.now first c.so-in-CommonCrcw.result
    c.so-in-CommonCrcw.ensures)

pub returns-in-PriorityCrcw : goal.returns-in-PriorityCrcw
returns-in-PriorityCrcw c = rw c.in-PriorityCrcw.is (λ job n first. finds_priority job n)
