-- Lines as they are set stay in their places.
use Rattle.std.proofs.Common.{◌≡◌, ℕ, zero, suc, ◌+◌, ◌-◌, ◌/◌, ◌%◌, ◌<◌, ◌==◌, Bool, true, false}
use Rattle.std.proofs.Common.{List, [], ◌∷◌, ◌++◌, length, map, Option, Some, None, IfSome}
use Rattle.std.proofs.Common.{codes, decimal, refl, sym, ap, subst, ◌∙◌, arith, if◌then◌else◌}
use Rattle.std.specs.Fmt.{digit_glyph, digits, digits_onto}
use Rattle.std.specs.List.{All, join_with_byte, onto_first}
use Rattle.std.specs.Option.{option_and_then, option_map}
use Rattle.std.proofs.lemmas.Bool.Decides.{nat_tests}
use Rattle.std.proofs.Math.Nat.{mod-lt}
use Rattle.std.proofs.lemmas.List.Elements.{All-append, All-take}
use Rattle.std.proofs.lemmas.List.Splits.{slice_split-cons_yes, slice_split-cons_no}
use Rattle.std.proofs.lemmas.List.Splits.{slice_split_at, slice_split_none, length-slice_split}
use Rattle.text_lines.specs.Lines.{lines_of, said_in}
use Rattle.pardo_text.specs.Laws.{SetLinesStay}
use Rattle.pardo_text.specs.Settings.{SettingData, declared_at, line_as_set, parted, put_by, set_in}
use Rattle.pardo_text.specs.Settings.{settled, text_as_set, settable_value}
use Rattle.pardo_text.proofs.Fields.{by_test}

abbrev pub is_feed : ℕ → Bool
is_feed byte = byte == 10

-- no line feed stands in it
abbrev pub NoFeed : List ℕ → Type 0
NoFeed line = All (λ byte. is_feed byte ≡ false) line

abbrev pub Clean : List (List ℕ) → Type 0
Clean [] = Unit {0}
Clean (line ∷ lines) = NoFeed line × Clean lines

no_byte : NoFeed []
no_byte k d less = absurd (omega (arith, less))

one_more : (byte : ℕ) (line : List ℕ) → is_feed byte ≡ false → NoFeed line → NoFeed (byte ∷ line)
one_more byte line here rest zero d less = here
one_more byte line here rest (suc k) d less = rest k d (omega (arith, less))

-- ---- lines

onto_clean : (byte : ℕ) (lines : List (List ℕ)) → is_feed byte ≡ false → Clean lines →
    Clean (onto_first byte lines)
onto_clean byte [] here clean = (one_more byte [] here no_byte, tt)
onto_clean byte (line ∷ lines) here clean = (one_more byte line here clean.0, clean.1)

split_clean : (text : List ℕ) → Clean (lines_of text)
split_clean [] = (no_byte, tt)
split_clean (byte ∷ text) = by_test (is_feed byte)
    (λ holds. subst Clean (sym (slice_split-cons_yes is_feed byte text holds))
    (no_byte, split_clean text))
    (λ fails. subst Clean (sym (slice_split-cons_no is_feed byte text fails))
    (onto_clean byte (lines_of text) fails (split_clean text)))

join_split : (line : List ℕ) (lines : List (List ℕ)) → Clean (line ∷ lines) →
    lines_of (join_with_byte 10 (line ∷ lines)) ≡ line ∷ lines
join_split line [] clean = slice_split_none is_feed line clean.0
join_split line (next ∷ lines) clean =
    slice_split_at is_feed line 10 (join_with_byte 10 (next ∷ lines)) clean.0 refl
    ∙ ap (λ (ls : List (List ℕ)). line ∷ ls) (join_split next lines clean.1)

map_clean : (f : List ℕ → List ℕ) (lines : List (List ℕ)) → Clean lines →
    ((line : List ℕ) → NoFeed line → NoFeed (f line)) → Clean (map f lines)
map_clean f [] clean keeps = tt
map_clean f (line ∷ lines) clean keeps = (keeps line clean.0, map_clean f lines clean.1 keeps)

map_split : (f : List ℕ → List ℕ) (lines : List (List ℕ)) → 0 < length lines → Clean lines →
    ((line : List ℕ) → NoFeed line → NoFeed (f line)) →
    lines_of (join_with_byte 10 (map f lines)) ≡ map f lines
map_split f [] some clean keeps = absurd (omega (arith, some))
map_split f (line ∷ lines) some clean keeps =
    join_split (f line) (map f lines) (keeps line clean.0, map_clean f lines clean.1 keeps)

-- ---- what stands in a line that is set

by_choice : (b : Bool) (one other : List ℕ) → NoFeed one → NoFeed other →
    NoFeed (if b then one else other)
by_choice true one other first second = first
by_choice false one other first second = second

some_comes : {A B : Type 0} (P : B → Type 0) (f : A → Option B) (o : Option A) →
    ((a : A) → IfSome (f a) P) → IfSome (option_and_then f o) P
some_comes P f None all = tt
some_comes P f (Some a) all = all a

some_maps : {A B : Type 0} (P : B → Type 0) (g : A → B) (o : Option A) →
    ((a : A) → P (g a)) → IfSome (option_map g o) P
some_maps P g None all = tt
some_maps P g (Some a) all = all a

abbrev pub IsClean : List ℕ × List ℕ → Type 0
IsClean found = NoFeed found.0

set_clean : (settings : List SettingData) (line : List ℕ) → NoFeed line →
    IfSome (set_in false settings line) IsClean
set_clean settings line clean =
    some_comes IsClean _ (declared_at line) (λ declared.
    some_comes IsClean _ (settable_value declared.0 declared.2) (λ rest.
    some_maps IsClean _ (put_by false settings declared.0 declared.1) (λ values.
    All-take (λ byte. is_feed byte ≡ false) (length line - length rest) line clean)))

no_digit : (d : ℕ) → d < 10 → is_feed (48 + d) ≡ false
no_digit d h = grind arith

glyph_clean : (n : ℕ) → is_feed (digit_glyph false (n % 10)) ≡ false
glyph_clean n =
    let low : n % 10 < 10 = mod-lt n (omega arith) in
    let digit : digit_glyph false (n % 10) ≡ 48 + n % 10 = grind (arith, nat_tests) in
    rw digit (no_digit (n % 10) low)

digits_clean : (k n : ℕ) (after : List ℕ) → NoFeed after → NoFeed (digits_onto k 10 false n after)
digits_clean zero n after clean = clean
digits_clean (suc k) n after clean =
    let more = one_more (digit_glyph false (n % 10)) after (glyph_clean n) clean in
    by_choice (n / 10 == 0) (digit_glyph false (n % 10) ∷ after)
    (digits_onto k 10 false (n / 10) (digit_glyph false (n % 10) ∷ after)) more
    (digits_clean k (n / 10) (digit_glyph false (n % 10) ∷ after) more)

decimal_clean : (n : ℕ) → NoFeed (decimal n)
unfolding digits
decimal_clean n = digits_clean 64 n [] no_byte

parted_clean : (before values : List ℕ) → NoFeed before → NoFeed (parted before values)
parted_clean before [] clean = no_byte
parted_clean before (value ∷ values) clean =
    let comma : NoFeed (codes ", ") = one_more 44 (32 ∷ []) refl (one_more 32 [] refl no_byte)
    in
    All-append (λ byte. is_feed byte ≡ false) (before ++ decimal value) _
    (All-append (λ byte. is_feed byte ≡ false) before (decimal value) clean (decimal_clean value))
    (parted_clean (codes ", ") values comma)

elim_clean : (line : List ℕ) (found : Option (List ℕ × List ℕ)) → NoFeed line →
    IfSome found IsClean → NoFeed (elim found [
      | None ↦ line
      | Some set ↦ set.0 ++ parted (codes " = ") set.1
    ])
elim_clean line None clean has = clean
elim_clean line (Some found) clean has =
    let equals : NoFeed (codes " = ") =
    one_more 32 (61 ∷ 32 ∷ []) refl
    (one_more 61 (32 ∷ []) refl (one_more 32 [] refl no_byte)) in
    All-append (λ byte. is_feed byte ≡ false) found.0 _ has
    (parted_clean (codes " = ") found.1 equals)

line_clean : (settings : List SettingData) (line : List ℕ) → NoFeed line →
    NoFeed (line_as_set settings line)
line_clean settings line clean =
    elim_clean line (set_in false settings (said_in line)) clean
    (set_clean settings (said_in line) (All-take (λ byte. is_feed byte ≡ false) _ line clean))

pub set_lines_stay : SetLinesStay
unfolding text_as_set
set_lines_stay settings text =
    map_split (line_as_set (settled settings text)) (lines_of text)
    (let some = length-slice_split is_feed text in omega (arith, some))
    (split_clean text) (λ line clean. line_clean (settled settings text) line clean)
