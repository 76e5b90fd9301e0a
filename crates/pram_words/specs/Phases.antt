-- Phases: step t has the phases 3(t - 1) + 1, 3(t - 1) + 2 and 3t.
use Rattle.std.specs.Prelude.{ℕ, Bool, true, not, ◌+◌, ◌-◌, ◌*◌, ◌/◌, ◌%◌, ◌==◌, if◌then◌else◌}
use Rattle.pram_words.specs.declared.layout.Form.{Form}
use Rattle.pram_words.specs.declared.phases.Kind.{Kind}
use Rattle.pram_words.specs.declared.phases.Kind.TheVariants.{Compute, Apply, Verify}
use Rattle.pram_words.specs.Forms.{by_form}

abbrev pub phase_of : ℕ → Kind → ℕ
phase_of step Compute = 3 * (step - 1) + 1
phase_of step Apply = 3 * (step - 1) + 2
phase_of step Verify = 3 * step

abbrev pub step_at : ℕ → ℕ
step_at phase = (phase + 2) / 3

abbrev pub kind_at : ℕ → Kind
kind_at phase = if phase % 3 == 0 then Verify else (if phase % 3 == 1 then Compute else Apply)

-- ---- by the form: the compact form has all three phases of a step, and the wide form, which has
-- two passes, the first and the last

abbrev pub has_phase : Form → ℕ → Bool
has_phase form phase = by_form form true (not (phase % 3 == 2))

-- the phase that comes where the root holds this one
abbrev pub next_phase : Form → ℕ → ℕ
next_phase form root = by_form form (root + 1) (if root % 3 == 1 then root + 2 else root + 1)

-- the one that the root holds where this one comes
abbrev pub phase_before : Form → ℕ → ℕ
phase_before form phase = by_form form (phase - 1) (if phase % 3 == 0 then phase - 2 else phase - 1)
