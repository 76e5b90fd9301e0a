-- Stamped words: a stamp in the upper 32 bits, a payload in the lower 32.
use Rattle.std.specs.Prelude.{ℕ, ◌+◌, ◌*◌, ◌/◌, ◌%◌, ◌^◌, Bool, nat_le, if◌then◌else◌}

abbrev pub stamped_word : ℕ → ℕ → ℕ
stamped_word stamp payload = stamp * 2 ^ 32 + payload

abbrev pub stamp_of : ℕ → ℕ
stamp_of word = word / 2 ^ 32

abbrev pub payload_of : ℕ → ℕ
payload_of word = word % 2 ^ 32

-- ---- the two words of a place

-- The older one has the lesser stamp; of equal stamps it is the first one.
abbrev pub first_is_older : ℕ → ℕ → Bool
first_is_older first second = nat_le (stamp_of first) (stamp_of second)

-- the older one's number and itself
abbrev pub older : ℕ → ℕ → ℕ
older first second = if first_is_older first second then 0 else 1

abbrev pub older_word : ℕ → ℕ → ℕ
older_word first second = if first_is_older first second then first else second

-- the newer one, and its payload
abbrev pub newer_word : ℕ → ℕ → ℕ
newer_word first second = if first_is_older first second then second else first

abbrev pub newer_payload : ℕ → ℕ → ℕ
newer_payload first second = payload_of (newer_word first second)
