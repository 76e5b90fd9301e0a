-- The text of a plan's rows is read as that plan.
use Rattle.std.proofs.Common.{◌≡◌, ◌∙◌, ◌++◌, ◌∷◌, [], ℕ, ◌+◌, ◌<◌, ◌≤◌, ◌^◌, List}
use Rattle.std.proofs.Common.{true, false, None, Some, length, take, refl, sym, ap, arith}
use Rattle.std.proofs.Common.{zero, suc, inl, inr, append_assoc, subst}
use Rattle.std.specs.Prelude.{codes, decimal, map, nat_lt, if◌then◌else◌}
use Rattle.std.specs.List.{slice_get}
use Rattle.std.specs.Str.{all_ascii_digits}
use Rattle.std.specs.Str.Parse.{AllDigits}
use Rattle.std.specs.Char.{digit_value}
use Rattle.std.proofs.lemmas.Bool.{cases_Bool, ne_eqb}
use Rattle.std.proofs.lemmas.Bool.Decides.{nat_tests}
use Rattle.std.proofs.lemmas.Fmt.{decimal_is_IsNumeral, decimal_nonempty, digits_decimal}
use Rattle.std.proofs.lemmas.List.{length-append}
use Rattle.std.proofs.lemmas.Str.Parse.{digit_at, numerals_by_value, tells_all_ascii_digits}
use Rattle.csv.proofs.RoundTrip.{read-write, rows_text}
use Rattle.csv.specs.Machine.{next_record}
use Rattle.csv.specs.Reading.{default_config, records_from, strip_bom}
use Rattle.csv.specs.Writing.{default_writer, field_text, fields_text, is_blank, needs_byte}
use Rattle.csv.specs.Writing.{needs_quotes, read_back, row_text}
use Rattle.csv.specs.declared.parser.State.TheVariants as st
use Rattle.stop_plan.proofs.LawFacts.{plan_or_fault}
use Rattle.stop_plan.proofs.RowFaults.{rows_as_texts}
use Rattle.stop_plan.specs.Records.{Field, PlanRecord, SpellsPlan, act_of, is_header}
use Rattle.stop_plan.specs.Records.{is_number_field, number_below, records_of, row_of_record}
use Rattle.stop_plan.specs.Records.{ticks_end}
use Rattle.stop_plan.specs.Rows.{fault_after, judged_row, row_fault_at}
use Rattle.stop_plan.specs.declared.plan.Act.{Act}
use Rattle.stop_plan.specs.declared.plan.Act.TheVariants.{Go, Sleep, Back, Stop}
use Rattle.stop_plan.specs.declared.plan.Row.{Row}
use Rattle.stop_plan.proofs.Living.{random_is_plan}
use Rattle.stop_plan.specs.RandomLaws.{RandomTextSpells, TextSpellsPlan}
use Rattle.stop_plan.specs.Random.{random_plan, random_rows}
use Rattle.stop_plan.specs.Texts.{act_word, plan_text, plan_line, plan_lines}

-- csv writes the field as it is
abbrev IsPlain : List ℕ → Type 0
IsPlain field = field_text default_writer field ≡ field

digit_unquoted : (byte : ℕ) → digit_value byte < 10 → needs_byte default_writer byte ≡ false
digit_unquoted byte digit =
    let within = digit_at (byte ∷ []) 0 (digit, tt) (omega arith) in
    rw (
      ne_eqb byte 44 (λ is. omega (arith, is, within)),
      ne_eqb byte 34 (λ is. omega (arith, is, within)),
      ne_eqb byte 13 (λ is. omega (arith, is, within)),
      ne_eqb byte 10 (λ is. omega (arith, is, within)),
    ) refl

digits_unquoted : (digits : List ℕ) → AllDigits 10 digits →
    needs_quotes default_writer digits ≡ false
digits_unquoted [] all = refl
digits_unquoted (digit ∷ digits) (first, all) =
    rw (digit_unquoted digit first) (digits_unquoted digits all)

decimal_plain : (n : ℕ) → n < 2 ^ 64 → IsPlain (decimal n)
decimal_plain n fits = rw (digits_unquoted (decimal n) (decimal_is_IsNumeral n fits).0.1) refl

act_plain : (act : Act) → IsPlain (act_word act)
act_plain Go = refl
act_plain Sleep = refl
act_plain Back = refl
act_plain Stop = refl

-- the numbers of a row are printed as they are read
record Fits (row : Row) : Type 0 where
  worker : row.worker < 2 ^ 64
  ticks : row.ticks < 2 ^ 64

abbrev fields_of_row : Row → PlanRecord
fields_of_row row = decimal row.worker ∷ act_word row.act ∷ decimal row.ticks ∷ []

row_is_text : (row : Row) → Fits row →
    row_text default_writer (fields_of_row row) ≡ plan_line row
unfolding fields_text is_blank
row_is_text row fits = rw (
  decimal_plain row.worker fits.worker,
  act_plain row.act,
  decimal_plain row.ticks fits.ticks,
) (simp append_assoc)

-- each row of these
abbrev AllFit : List Row → Type 0
AllFit rows = (index : ℕ) (row : Row) → slice_get rows index ≡ Some row → Fits row

fit_first : (row : Row) (rows : List Row) → AllFit (row ∷ rows) → Fits row
fit_first row rows fit = fit 0 row refl

fit_rest : (row : Row) (rows : List Row) → AllFit (row ∷ rows) → AllFit rows
fit_rest row rows fit index other is = fit (suc index) other is

lines_are_text : (rows : List Row) → AllFit rows →
    rows_text (map fields_of_row rows) ≡ plan_lines rows
unfolding rows_text
lines_are_text [] fit = refl
lines_are_text (row ∷ rows) fit = rw (
  row_is_text row (fit_first row rows fit),
  lines_are_text rows (fit_rest row rows fit),
) refl

abbrev header : PlanRecord
header = codes "worker" ∷ codes "act" ∷ codes "ticks" ∷ []

header_read : is_header header ≡ true
unfolding is_header
header_read = refl

whole_text : (rows : List Row) → AllFit rows →
    plan_text rows ≡ rows_text (header ∷ map fields_of_row rows)
unfolding rows_text fields_text is_blank
whole_text rows fit =
    ap (λ t. codes "worker,act,ticks\n" ++ t) (sym (lines_are_text rows fit))

no_mark : (rows : List Row) → strip_bom (plan_text rows) ≡ plan_text rows
unfolding strip_bom
no_mark rows = refl

all_records : (rows : List PlanRecord) (most : ℕ) → length rows ≤ most →
    records_from default_config most st.StartRecord (rows_text rows) ≡ map read_back rows
unfolding records_from rows_text next_record
all_records [] zero within = refl
all_records [] (suc most) within = refl
all_records (row ∷ rows) zero within = absurd (omega arith)
all_records (row ∷ rows) (suc most) within = rw (read-write row (rows_text rows))
    (ap (λ t. read_back row ∷ t) (all_records rows most (omega arith)))

line_long : (row : Row) → 1 ≤ length (plan_line row)
line_long row =
    let fields = decimal row.worker ++ codes "," ++ act_word row.act ++ codes ","
    ++ decimal row.ticks in
    let all : length (plan_line row) ≡ length fields + length (codes "\n") =
    length-append fields (codes "\n") in
    let end : length (codes "\n") ≡ 1 = refl in
    omega (arith, all, end)

lines_long : (rows : List Row) → length rows ≤ length (plan_lines rows)
lines_long [] = omega arith
lines_long (row ∷ rows) = omega (
  arith,
  length-append (plan_line row) (plan_lines rows),
  line_long row,
  lines_long rows,
)

back_same : (rows : List Row) →
    map read_back (map fields_of_row rows) ≡ map fields_of_row rows
back_same [] = refl
back_same (row ∷ rows) = ap (λ t. fields_of_row row ∷ t) (back_same rows)

length_fields : (rows : List Row) → length (map fields_of_row rows) ≡ length rows
length_fields [] = refl
length_fields (row ∷ rows) = ap suc (length_fields rows)

records_are : (rows : List Row) → AllFit rows →
    records_of (plan_text rows) ≡ header ∷ map fields_of_row rows
records_are rows fit =
    let long : length (header ∷ map fields_of_row rows) ≤ length (plan_text rows) + 1 =
    omega (
      arith,
      length_fields rows,
      lines_long rows,
      length-append (codes "worker,act,ticks\n") (plan_lines rows),
    ) in
    let read = all_records (header ∷ map fields_of_row rows) (length (plan_text rows) + 1) long in
    rw (no_mark rows) (
    ap (records_from default_config (length (plan_text rows) + 1) st.StartRecord)
    (whole_text rows fit)
    ∙ read ∙ ap (λ t. header ∷ t) (back_same rows)
    )

-- a printed number is read as that number
field_of_digits : (digits : Field) → 0 < length digits → all_ascii_digits digits ≡ true →
    is_number_field digits ≡ true
field_of_digits [] some all = absurd (omega arith)
field_of_digits (digit ∷ digits) some all = all

number_read : (bound n : ℕ) → n < 2 ^ 64 →
    number_below bound (decimal n) ≡ (if nat_lt n bound then Some n else None)
unfolding number_below
number_read bound n fits =
    let own = numerals_by_value (λ ds. all_ascii_digits ds ≡ true) tells_all_ascii_digits in
    let is_number = field_of_digits (decimal n) (decimal_nonempty n fits)
    (digits_decimal own n fits) in
    rw (is_number, (decimal_is_IsNumeral n fits).1) refl

act_read : (act : Act) → act_of (act_word act) ≡ Some act
unfolding act_of
act_read Go = refl
act_read Sleep = refl
act_read Back = refl
act_read Stop = refl

row_read : (workers : ℕ) (row : Row) → Fits row →
    row_of_record workers (fields_of_row row) ≡ judged_row workers row
unfolding row_of_record
row_read workers row fits =
    elim (cases_Bool (nat_lt row.worker workers)) [
      | inl named ↦ elim (cases_Bool (nat_lt row.ticks (ticks_end row.act))) [
        | inl short ↦ rw (
          number_read workers row.worker fits.worker,
          named,
          act_read row.act,
          number_read (ticks_end row.act) row.ticks fits.ticks,
          short,
        ) refl
        | inr long ↦ rw (
          number_read workers row.worker fits.worker,
          named,
          act_read row.act,
          number_read (ticks_end row.act) row.ticks fits.ticks,
          long,
        ) refl
      ]
      | inr other ↦ rw (number_read workers row.worker fits.worker, other) refl
    ]

rows_read : (workers : ℕ) (rows : List Row) → AllFit rows →
    map (row_of_record workers) (map fields_of_row rows) ≡ map (judged_row workers) rows
rows_read workers [] fit = refl
rows_read workers (row ∷ rows) fit = rw (
  row_read workers row (fit_first row rows fit),
  rows_read workers rows (fit_rest row rows fit),
) refl

-- the rows of a plan fit
ticks_small : (act : Act) (ticks : ℕ) → ticks < ticks_end act → ticks < 2 ^ 64
ticks_small Go ticks short = omega (arith, short)
ticks_small Sleep ticks short = omega (arith, short)
ticks_small Back ticks short = omega (arith, short)
ticks_small Stop ticks short = omega (arith, short)

row_fits : (workers : ℕ) (before : List Row) (row : Row) → workers ≤ 2 ^ 32 →
    fault_after workers before row ≡ None → Fits row
row_fits workers before row few fine = elim (cases_Bool (nat_lt row.worker workers)) [
  | inl named ↦ elim (cases_Bool (nat_lt row.ticks (ticks_end row.act))) [
    | inl short ↦
        let within : row.worker < workers = grind (arith, nat_tests) in
        let less : row.ticks < ticks_end row.act = grind (arith, nat_tests) in
        record {
          worker = omega (arith, within, few);
          ticks = ticks_small row.act row.ticks less;
        }
    | inr long ↦ cc (rw (named, long) at fine)
  ]
  | inr other ↦ cc (rw other at fine)
]

all_fit : (workers : ℕ) (rows : List Row) → workers ≤ 2 ^ 32 →
    ((index : ℕ) → row_fault_at workers rows index ≡ None) → AllFit rows
unfolding row_fault_at
all_fit workers rows few fine index row is =
    row_fits workers (take index rows) row few (rw is at (fine index))

pub text_spells_plan : TextSpellsPlan
text_spells_plan workers rows plan few h =
    let fit = all_fit workers rows few h.faultless in
    let said = rows_read workers rows fit in
    let below = map fields_of_row rows in
    let law = rows_as_texts workers header below rows header_read said in
    rw (records_are rows fit) (elim (plan_or_fault workers (header ∷ below)) [
      | inl (other, spells) ↦
          let same : other ≡ plan = (law.0 other spells).rows_kept ∙ sym h.rows_kept in
          subst (λ p. SpellsPlan workers (header ∷ below) p) same spells
      | inr (row, kind, fault) ↦
          let bad = law.1 row kind fault in cc (bad.fault, h.faultless bad.index)
    ])

pub random_text_spells : RandomTextSpells
random_text_spells workers seed some few =
    text_spells_plan workers (random_rows workers seed) (random_plan workers seed) few
    (random_is_plan workers seed some)
