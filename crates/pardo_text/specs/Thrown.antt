-- Values that are thrown from a seed.
use Rattle.std.specs.Prelude.{ℕ, zero, suc, ◌+◌, ◌-◌, ◌*◌, ◌/◌, ◌%◌, ◌^◌, nat_lt, ◌&&◌, ◌==◌, Bool}
use Rattle.std.specs.Prelude.{List, [], ◌∷◌, length, take, drop, codes, if◌then◌else◌, unwrap_or}
use Rattle.std.specs.Prelude.{true, false}
use Rattle.std.specs.Prelude.{Option, Some, None}
use Rattle.std.specs.Char.{is_ascii_digit}
use Rattle.std.specs.List.{list_all, position, range_with_len, swap}
use Rattle.std.specs.Option.{option_and_then, option_map}
use Rattle.std.specs.Str.{bytes_eq}
use Rattle.std.specs.Str.Parse.{digits_value}
use Rattle.text_lines.specs.Lines.{is_filled}
use Rattle.pardo_text.specs.declared.thrown.Thrown.{Thrown}
use Rattle.pardo_text.specs.declared.thrown.Thrown.TheVariants.{Any, Permuted, Sorted}

abbrev pub seed_after : ℕ → ℕ
seed_after seed = (1664525 * seed + 1013904223) % 2 ^ 32

-- the number below this one that a seed gives
abbrev pub thrown_below : ℕ → ℕ → ℕ
thrown_below below seed = seed * below / 2 ^ 32

-- what this gives for so many places, from place k on, and for one seed after the other
abbrev pub thrown_by : (ℕ → ℕ → ℕ) → ℕ → ℕ → ℕ → List ℕ
thrown_by value k zero seed = []
thrown_by value k (suc more) seed =
    value k (seed_after seed) ∷ thrown_by value (k + 1) more (seed_after seed)

-- each item up to place k is swapped with one that does not stand after it, the last one first
abbrev pub shuffled : ℕ → ℕ → List ℕ → List ℕ
shuffled zero seed items = items
shuffled (suc k) seed items =
    shuffled k (seed_after seed) (swap items (suc k) (thrown_below (k + 2) (seed_after seed)))

-- the value of place k of so many: of any numbers, or of such that do not fall, one from each of as
-- many parts of what is below the bound
abbrev pub spread_value : Bool → ℕ → ℕ → ℕ → ℕ → ℕ
spread_value false places below k seed = thrown_below below seed
spread_value true places below k seed = (k * below + thrown_below below seed) / places

-- The values of so many places: numbers below a bound, or the numbers of the places, shuffled.
abbrev pub thrown_values : Thrown → ℕ → List ℕ
thrown_values (Any seed below) places = thrown_by (spread_value false places below) 0 places seed
thrown_values (Sorted seed below) places =
    thrown_by (spread_value true places below) 0 places seed
thrown_values (Permuted seed) places = shuffled (places - 1) seed (range_with_len 0 places)

-- ---- how they are spelled

-- the number of 32 bits that a text is
abbrev pub number_of : List ℕ → Option ℕ
number_of text =
    if is_filled text && list_all is_ascii_digit text && nat_lt (digits_value 10 text) (2 ^ 32)
    then Some (digits_value 10 text) else None

abbrev pub both_numbers : Option ℕ → Option ℕ → Option (ℕ × ℕ)
both_numbers None other = None
both_numbers (Some seed) None = None
both_numbers (Some seed) (Some below) = Some (seed, below)

-- the seed and the bound of a text SEED:BELOW
abbrev pub seed_with_bound : List ℕ → Option (ℕ × ℕ)
seed_with_bound text =
    let colon = unwrap_or (position (λ byte. byte == 58) text) (length text) in
    both_numbers (number_of (take colon text)) (number_of (drop 1 (drop colon text)))

-- what follows a beginning
abbrev pub after_start : List ℕ → List ℕ → Option (List ℕ)
after_start start text =
    if bytes_eq (take (length start) text) start then Some (drop (length start) text) else None

-- the first of two that there is
abbrev pub or_other : Option Thrown → Option Thrown → Option Thrown
or_other None other = other
or_other (Some thrown) other = Some thrown

-- those of a text any:SEED:BELOW, sorted:SEED:BELOW or perm:SEED
abbrev pub thrown_in : List ℕ → Option Thrown
thrown_in text = or_other
    (option_map (λ both_numbers. Any both_numbers.0 both_numbers.1)
    (option_and_then seed_with_bound (after_start (codes "any:") text)))
    (or_other (option_map (λ both_numbers. Sorted both_numbers.0 both_numbers.1)
    (option_and_then seed_with_bound (after_start (codes "sorted:") text)))
    (option_map Permuted (option_and_then number_of (after_start (codes "perm:") text))))
