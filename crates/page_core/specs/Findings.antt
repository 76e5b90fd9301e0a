-- How what is found is told in numbers.
use Rattle.std.specs.Prelude.{◌≡◌, ℕ, ◌==◌, ◌||◌, if◌then◌else◌, List, drop}
use Rattle.page_core.specs.declared.codes.TheConstants.{DONE, NO_ROOM, CONFLICT, UNFINISHED}
use Rattle.page_core.specs.declared.codes.TheConstants.{NO_STEP, TOO_FAR, BAD_WORKERS, BAD_EVENT}
use Rattle.page_core.specs.declared.finding.Finding.{Finding}
use Rattle.page_core.specs.declared.finding.Finding.TheVariants.{Done, Conflict, Unfinished, NoRoom}
use Rattle.page_core.specs.declared.finding.Finding.TheVariants.{NoStep, TooFar, BadWorkers}
use Rattle.page_core.specs.declared.finding.Finding.TheVariants.{BadEvent, Refused}
use Rattle.page_core.specs.declared.finding.Told.{Told}
use Rattle.page_core.specs.Texts.{coded, refused_as}

-- a code and a count alone
abbrev pub counted : ℕ → ℕ → Told
counted code count = record {
  status = coded code;
  step = 0;
  cell = 0;
  first = 0;
  second = 0;
  count = count;
}

abbrev pub told_of : Finding → Told
told_of (Done step count) = record (counted DONE count) { step = step }
told_of (Conflict fault count) = record {
  status = coded CONFLICT;
  step = fault.step;
  cell = fault.cell;
  first = fault.first;
  second = fault.second;
  count = count;
}
told_of (Unfinished step) = record (counted UNFINISHED 0) { step = step }
told_of (NoRoom needed) = counted NO_ROOM needed
told_of NoStep = counted NO_STEP 0
told_of TooFar = counted TOO_FAR 0
told_of BadWorkers = counted BAD_WORKERS 0
told_of (BadEvent number) = counted BAD_EVENT number
told_of (Refused refusal) =
    record (counted DONE 0) { status = refused_as refusal }

-- a finding of which this holds is told
abbrev pub IsToldOf : (Finding → Type 0) → Told → Type 0
IsToldOf holds told = (finding : Finding) × holds finding × (told ≡ told_of finding)

-- ---- buffers

-- how many elements of the buffer are written
abbrev pub count_written : Finding → ℕ
count_written (Done step count) = count
count_written (Conflict fault count) = count
count_written _ = 0

abbrev pub told_written : Told → ℕ
told_written told =
    if told.status.code == DONE || told.status.code == CONFLICT then told.count else 0

-- what lies after the first so many elements is as it was
abbrev pub IsKeptBehind : {X : Type 0} → ℕ → List X → List X → Type 0
IsKeptBehind count old new = drop count new ≡ drop count old
