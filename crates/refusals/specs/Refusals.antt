-- The statuses of refusals, and what is told of them.
use Rattle.std.specs.Prelude.{◌≡◌, ◌++◌, ℕ, List, Option, Some, None, codes, decimal}
use Rattle.std.specs.Io.KnownBytes.{Appends}
use Rattle.refusals.specs.declared.refusal.Refusal.{Refusal}
use Rattle.refusals.specs.declared.refusal.Refusal.TheVariants as refusal
use Rattle.refusals.specs.declared.refusal.TheConstants.{REFUSED, FAILED, MEMORY}

abbrev pub refusal_status : Refusal → ℕ
refusal_status (refusal.Text line kind) = REFUSED
refusal_status (refusal.Program found) = REFUSED
refusal_status (refusal.Plan row kind) = REFUSED
refusal_status (refusal.Cell cell) = REFUSED
refusal_status (refusal.Place place) = REFUSED
refusal_status (refusal.Step step) = REFUSED
refusal_status (refusal.Setting name kind) = REFUSED
refusal_status refusal.Memory = MEMORY
refusal_status _ = FAILED

-- what standard error tells of a refusal; the kinds of a bad text print as they are derived, of
-- which no clause speaks
abbrev pub refusal_text : Refusal → Option (List ℕ)
refusal_text (refusal.Text line kind) = None
refusal_text (refusal.Program found) = None
refusal_text (refusal.Plan row kind) = None
refusal_text (refusal.Setting name kind) = None
refusal_text (refusal.Cell cell) = Some (codes "watch cell=" ++ decimal cell ++ codes "\n")
refusal_text (refusal.Place place) = Some (codes "watch place=" ++ place.now ++ codes "\n")
refusal_text (refusal.Step step) = Some (codes "steps step=" ++ decimal step ++ codes "\n")
refusal_text (refusal.File name) = Some (codes "file " ++ name.now ++ codes "\n")
refusal_text refusal.Output = Some (codes "file -\n")
refusal_text (refusal.Size name) = Some (codes "size " ++ name.now ++ codes "\n")
refusal_text refusal.Memory = Some (codes "memory\n")
refusal_text refusal.Word = Some (codes "error: a word of the line is not UTF-8\n")

-- the sink took what is told of the refusal
abbrev pub TakesTold : Refusal → (sink sink' : Option (List ℕ)) → Type 0
TakesTold told sink sink' = (text : List ℕ) → refusal_text told ≡ Some text →
    Appends sink sink' text
