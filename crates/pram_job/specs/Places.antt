-- The places of the machine of a job: M cells, then four registers of each of N processors, then
-- the counter of each.
use Rattle.std.specs.Prelude.{ℕ, ◌+◌, ◌*◌}

-- a register of processor i
abbrev pub register_at : ℕ → ℕ → ℕ → ℕ
register_at cells i register = cells + 4 * i + register

-- the first counter: cells and registers lie before it
abbrev pub counters_at : ℕ → ℕ → ℕ
counters_at cells procs = cells + 4 * procs

-- how many places there are
abbrev pub places_in : ℕ → ℕ → ℕ
places_in cells procs = cells + 5 * procs
