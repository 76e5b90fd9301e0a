-- What is printed of a job is read back as that job.
use Rattle.std.proofs.Common.{◌≡◌, ℕ, ◌<◌, ◌≤◌, ◌^◌, ◌+◌, Bool, true, false}
use Rattle.std.proofs.Common.{List, [], ◌∷◌, ◌++◌, length, map, Ok, Option, Some}
use Rattle.std.proofs.Common.{refl, sym, ap, subst, ◌∙◌, arith, All, IsTrue, get_or}
use Rattle.std.proofs.Common.{append_assoc}
use Rattle.std.specs.List.{AllByRecursion, flat_map, list_any, list_all}
use Rattle.std.proofs.lemmas.Bool.{eq-eqb}
use Rattle.std.proofs.lemmas.List.Elements.{All-from_recursion, recursion_from_All}
use Rattle.std.proofs.lemmas.List.Folds.{list_any_at}
use Rattle.pram_job.specs.declared.instr.Array.{Array}
use Rattle.pram_job.specs.declared.instr.Instr.{Instr}
use Rattle.pram_job.specs.declared.instr.Operands.{Operands}
use Rattle.pram_job.specs.declared.instr.Operands.TheVariants as o
use Rattle.pram_job.specs.declared.instr.Place.{Place}
use Rattle.pram_job.specs.declared.instr.Place.TheVariants.{Cell, Named}
use Rattle.pram_job.specs.Instructions.{IsArray, IsPlace, AreOperands, row_of}
use Rattle.pram_job.specs.Job.{JobData, IsJob, IsInstr}
use Rattle.pram_text.specs.Judgement.{Entry, instr_of, unlabelled}
use Rattle.text_lines.specs.Lines.{Word, Line, is_allowed, worded}
use Rattle.pram_text.specs.Text.{array_in, code_heading, label_index, scope_of, SpellsCode}
use Rattle.pram_text.specs.Text.{SpellsLines}
use Rattle.job_text.specs.Laws.{JumpsLand, LandsWithin, PrintedIsReadBack}
use Rattle.job_text.specs.Printed.{ArrayWords, AreArrayWords, aims_at, array_line}
use Rattle.job_text.specs.Printed.{arrays_in, body_lines, header_lines}
use Rattle.job_text.specs.Printed.{init_lines, instruction_line, printed_instructions, is_aim}
use Rattle.job_text.specs.Printed.{is_same}
use Rattle.job_text.specs.Printed.{job_lines, label, once, operand_arrays, place_arrays, text_of}
use Rattle.job_text.proofs.Naming.{array_plain, arrays_plain, is_same-itself, once_keeps}
use Rattle.job_text.proofs.Naming.{once_stands}
use Rattle.job_text.proofs.Entries.{entries_for, entries_said, init_said, runs_fit, runs_of}
use Rattle.job_text.proofs.Header.{header_plain, header_read}
use Rattle.job_text.proofs.Inits.{RunsFit, run_entries, runs_plain}
use Rattle.job_text.proofs.Instructions.{AimFound, AreNamed, ArePlain, instr_read, label_plain, third}
use Rattle.job_text.proofs.Instructions.{words_for, words_plain}
use Rattle.job_text.proofs.Labels.{label_found, labelled, length-lines, unlabelled_read}
use Rattle.job_text.proofs.Lines.{PlainLines, PlainLines-append, lines_allowed, lines_are}
use Rattle.job_text.proofs.Lines.{words_are}
use Rattle.job_text.proofs.Plain.{PlainLine, PlainWord, PlainWords, word_before}

-- ---- what is true of all instructions, from what is true of a job

module _ {X Y : Type 0} (P : Y → Type 0) (f : X → List Y) where
  -- what holds of all that elements give, holds of what each gives
  each_of : (xs : List X) → AllByRecursion P (flat_map f xs) →
      AllByRecursion (λ x. AllByRecursion P (f x)) xs
  each_of [] h = tt
  each_of (x ∷ xs) h =
      let parts = apart (f x) (flat_map f xs) h in (parts.0, each_of xs parts.1)
    where
      apart : (ys zs : List Y) → AllByRecursion P (ys ++ zs) →
          AllByRecursion P ys × AllByRecursion P zs
      apart [] zs h = (tt, h)
      apart (y ∷ ys) zs h = let more = apart ys zs h.1 in ((h.0, more.0), more.1)

  all_of : (xs : List X) → AllByRecursion (λ x. AllByRecursion P (f x)) xs →
      AllByRecursion P (flat_map f xs)
  all_of [] h = tt
  all_of (x ∷ xs) h = joined (f x) (flat_map f xs) h.0 (all_of xs h.1)
    where
      joined : (ys zs : List Y) → AllByRecursion P ys → AllByRecursion P zs →
          AllByRecursion P (ys ++ zs)
      joined [] zs h k = k
      joined (y ∷ ys) zs h k = (h.0, joined ys zs h.1 k)

module _ {X : Type 0} where
  weaker : (P Q : X → Type 0) → ((x : X) → P x → Q x) → (xs : List X) → AllByRecursion P xs →
      AllByRecursion Q xs
  weaker P Q each [] h = tt
  weaker P Q each (x ∷ xs) h = (each x h.0, weaker P Q each xs h.1)

-- ---- arrays

place_arrays_fit : (cells : ℕ) (place : Place) → IsPlace cells place →
    AllByRecursion (IsArray cells) (place_arrays place)
place_arrays_fit cells (Cell index) h = tt
place_arrays_fit cells (Named array index) h = (h.0, tt)

arrays_fit : (cells len : ℕ) (operands : Operands) → AreOperands cells len operands →
    AllByRecursion (IsArray cells) (operand_arrays operands)
arrays_fit cells len o.Bare h = tt
arrays_fit cells len (o.Target r) h = tt
arrays_fit cells len (o.TargetNumber r n) h = tt
arrays_fit cells len (o.TargetPlace r place) h = place_arrays_fit cells place h.1
arrays_fit cells len (o.TargetTwo r a b) h = tt
arrays_fit cells len (o.PlaceValue place b) h = place_arrays_fit cells place h.0
arrays_fit cells len (o.RegisterIndex r index) h = tt
arrays_fit cells len (o.Index index) h = tt

-- each array has its name
all_stand : (words : ArrayWords) (cells : ℕ) (arrays : List Array) →
    AllByRecursion (IsArray cells) arrays → (entries : List Entry) →
    ((a : Array) → IsArray cells a → list_any (λ b. is_same b a) arrays ≡ true →
    array_in entries (words a) ≡ Some a) →
    AreNamed words (array_in entries) arrays
all_stand words cells arrays fit entries stands =
    recursion_from_All (λ array. array_in entries (words array) ≡ Some array) arrays
    (λ k d low. stands (get_or arrays k d)
    (All-from_recursion (IsArray cells) arrays fit k d low)
    (list_any_at (λ b. is_same b (get_or arrays k d)) arrays k d low
    (is_same-itself (get_or arrays k d))))

-- ---- jumps

aim_found : (code : List Instr) (find : Word → Option ℕ) (instr : Instr) →
    ((i : ℕ) → is_aim code i ≡ true → i < length code → find (label i) ≡ Some i) →
    ((i : ℕ) → aims_at i (row_of instr).1 ≡ true → is_aim code i ≡ true) →
    LandsWithin (length code) (row_of instr).1 → AimFound find (row_of instr).1
aim_found code find instr found aimed lands = go (row_of instr).1 aimed lands
  where
    go : (operands : Operands) → ((i : ℕ) → aims_at i operands ≡ true → is_aim code i ≡ true) →
        LandsWithin (length code) operands → AimFound find operands
    go o.Bare aimed lands = tt
    go (o.Target r) aimed lands = tt
    go (o.TargetNumber r n) aimed lands = tt
    go (o.TargetPlace r place) aimed lands = tt
    go (o.TargetTwo r a b) aimed lands = tt
    go (o.PlaceValue place b) aimed lands = tt
    go (o.RegisterIndex r i) aimed lands = found i (aimed i (eq-eqb i i refl)) lands
    go (o.Index i) aimed lands = found i (aimed i (eq-eqb i i refl)) lands

-- ---- instruction lines

module _ (words : ArrayWords) where
  line_plain : (b : Bool) (index : ℕ) (instr : Instr) → index < 2 ^ 64 →
      PlainWords (words_for words instr) → PlainLine (instruction_line words b index instr)
  line_plain true index instr h k = record {
    filled = refl;
    plain = (word_before (label index) (58 ∷ []) (label_plain index h) refl, k);
  }
  line_plain false index instr h k = record { filled = refl; plain = k }

  lines_plain : (aim : ℕ → Bool) (index : ℕ) (code : List Instr) →
      AllByRecursion (λ instr. PlainWords (words_for words instr)) code →
      index + length code < 2 ^ 64 → PlainLines (printed_instructions words aim index code)
  lines_plain aim index [] h few = tt
  lines_plain aim index (instr ∷ code) h few = (
    line_plain (aim index) index instr (omega (arith, few)) h.0,
    lines_plain aim (index + 1) code h.1 (omega (arith, few)),
  )

  lines_said : (arrays : Word → Option Array) (find : Word → Option ℕ) (aim : ℕ → Bool)
      (index : ℕ) (code : List Instr) →
      AllByRecursion (λ instr. instr_of (third arrays) find (words_for words instr) ≡ Ok instr)
      code →
      map (λ line. instr_of (third arrays) find (unlabelled line))
      (printed_instructions words aim index code)
      ≡ map (λ instr. Ok instr) code
  lines_said arrays find aim index [] h = refl
  lines_said arrays find aim index (instr ∷ code) h =
      let here = ap (instr_of (third arrays) find)
      (unlabelled_read words (aim index) index instr) ∙ h.0 in
      let more = lines_said arrays find aim (index + 1) code h.1 in
      λ i. here i ∷ more i

-- ---- a job

module _ (words : ArrayWords) (job : JobData) (h : IsJob job)
    (are : AreArrayWords job.cells words) where
  abbrev used : Instr → List Array
  used instr = operand_arrays (row_of instr).1

  abbrev arrays : List Array
  arrays = arrays_in job.code

  abbrev runs : List (List ℕ)
  runs = runs_of job.init

  abbrev entries : List Entry
  entries = entries_for words arrays runs

  abbrev body : List Line
  body = body_lines words job.code

  few_cells : job.cells ≤ 1048576
  few_cells = h.cells.1

  few_instrs : length job.code ≤ 4096
  few_instrs = h.code_len.1

  fit : AllByRecursion (IsArray job.cells) arrays
  fit = all_of (IsArray job.cells) used job.code
      (weaker (IsInstr job.cells (length job.code))
      (λ instr. AllByRecursion (IsArray job.cells) (used instr))
      (λ instr k. arrays_fit job.cells (length job.code) (row_of instr).1 k) job.code
      (recursion_from_All (IsInstr job.cells (length job.code)) job.code h.code_fits))

  named_plainly : ArePlain words arrays
  named_plainly = weaker (IsArray job.cells) (λ array. PlainWord (words array))
      (array_plain job.cells few_cells words are) arrays fit

  runs_are : RunsFit job.cells 0 runs
  runs_are = runs_fit job.cells 0 job.init
      (recursion_from_All (λ value. value < 2 ^ 32) job.init h.init_fits)
      (omega (arith, h.init_len))

  stand : AreNamed words (array_in entries) arrays
  stand = all_stand words job.cells arrays fit entries
      (λ a s among. once_stands job.cells few_cells words are (run_entries 0 runs) a s arrays fit
      among)

  module _ (jumps : JumpsLand job) where
    instrs_read : AllByRecursion (λ instr.
        instr_of (third (array_in entries)) (label_index body) (words_for words instr) ≡ Ok instr)
        job.code
    instrs_read = recursion_from_All (λ instr.
        instr_of (third (array_in entries)) (label_index body) (words_for words instr) ≡ Ok instr)
        job.code
        (λ k d low. instr_read words job.cells (array_in entries) (label_index body) (length job.code)
        (get_or job.code k d) (h.code_fits k d low)
        (All-from_recursion (λ instr. AreNamed words (array_in entries) (used instr)) job.code
        (each_of (λ array. array_in entries (words array) ≡ Some array) used job.code stand)
        k d low)
        (aim_found job.code (label_index body) (get_or job.code k d)
        (λ i aimed within. label_found words (is_aim job.code) i job.code aimed within few_instrs)
        (λ i aimed. list_any_at (λ instr. aims_at i (row_of instr).1) job.code k d low aimed)
        (jumps k d low)))

    code_read : SpellsCode (scope_of true entries) body job.code
    code_read = record {
      some = omega (arith, length-lines words (is_aim job.code) 0 job.code, h.code_len.0);
      labelled = labelled words (is_aim job.code) job.code few_instrs;
      said = lines_said words (array_in entries) (label_index body) (is_aim job.code) 0 job.code
          instrs_read;
    }

    lines_read : SpellsLines job (job_lines words job)
    lines_read = record {
      version = 3;
      header = header_lines job;
      inits = map (array_line words) (once arrays) ++ init_lines job.init;
      body = body;
      entries = entries;
      parts = ap (λ lines. header_lines job ++ lines)
          (sym (append_assoc (map (array_line words) (once arrays)) (init_lines job.init)
          (code_heading ∷ body)));
      sizes = header_read job h;
      said = entries_said job.cells few_cells words are arrays runs fit runs_are;
      init = init_said words job.cells arrays job.init h.init_len;
      code = code_read;
    }

  instrs_plain : AllByRecursion (λ instr. PlainWords (words_for words instr)) job.code
  instrs_plain = recursion_from_All (λ instr. PlainWords (words_for words instr)) job.code
      (λ k d low. words_plain words job.cells (length job.code) (get_or job.code k d) few_instrs
      (h.code_fits k d low)
      (All-from_recursion (λ instr. ArePlain words (used instr)) job.code
      (each_of (λ array. PlainWord (words array)) used job.code named_plainly) k d low))

  plain : PlainLines (job_lines words job)
  plain = PlainLines-append (header_lines job) _ (header_plain job h)
      (PlainLines-append (map (array_line words) (once arrays)) _
      (arrays_plain job.cells few_cells words are (once arrays)
      (once_keeps (IsArray job.cells) arrays fit))
      (PlainLines-append (init_lines job.init) _ (runs_plain job.cells 0 runs few_cells runs_are) (
        record { filled = refl; plain = (record { filled = refl; plain = refl }, tt) },
        lines_plain words (is_aim job.code) 0 job.code instrs_plain (omega (arith, few_instrs)),
      )))

pub read_back : PrintedIsReadBack
unfolding text_of
read_back words job h jumps are =
    let all : PlainLines (job_lines words job) = plain words job h are in
    let lines = lines_are (job_lines words job) all in
    record {
      allowed = subst (All (λ line. IsTrue (list_all is_allowed line))) (sym lines)
          (lines_allowed (job_lines words job) all);
      lines = subst (SpellsLines job)
          (sym (ap worded lines ∙ words_are (job_lines words job) all))
          (lines_read words job h are jumps);
    }
