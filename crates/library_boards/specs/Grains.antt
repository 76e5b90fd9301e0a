-- How many processors a leaf is to stand for.
use Rattle.std.specs.Prelude.{◌≡◌, ◌⊎◌, ℕ, ◌==◌, if◌then◌else◌}
use Rattle.pram_words.specs.Words.{IsGrain, grain_for}

-- a leaf is to stand for so many processors; at 0 the board chooses
abbrev pub IsGrainAsked : ℕ → Type 0
IsGrainAsked grain = (grain ≡ 0) ⊎ IsGrain grain

abbrev pub grain_or_default : ℕ → ℕ → ℕ
grain_or_default grain procs = if grain == 0 then grain_for procs else grain
