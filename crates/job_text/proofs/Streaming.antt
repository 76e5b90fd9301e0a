-- Texts that are printed piece by piece.
use Rattle.std.proofs.Common.{◌≡◌, ℕ, ◌+◌, ◌<◌, ◌≤◌, Bool, true, false, ◌||◌, ◌==◌, List, []}
use Rattle.std.proofs.Common.{◌∷◌, ◌++◌, length, map, take, drop, get_or, set, refl, sym, ap, ap₂}
use Rattle.std.proofs.Common.{subst, ◌∙◌, ⊎_elim, append-nil, append_assoc, arith, codes}
use Rattle.std.proofs.Common.{decimal, Result, Ok, Err, if◌then◌else◌, is_ok, OnOk}
use Rattle.std.specs.List.{join_with_byte}
use Rattle.std.proofs.lemmas.Bool.{cases_eq, eq-eqb, ne_eqb, or_right}
use Rattle.std.proofs.lemmas.List.{get_or-set_same, get_or-set_other, length-set, ext_get_or}
use Rattle.std.proofs.lemmas.List.{drop_more, take_all}
use Rattle.std.proofs.lemmas.Grind.{flat_map-append}
use Rattle.std.proofs.lemmas.List.FromFn.{length-map-range_with_len, get_or-map-range_with_len}
use Rattle.std.proofs.lemmas.List.Folds.{list_any_more}
use Rattle.pram_job.specs.declared.instr.Instr.{Instr}
use Rattle.pram_job.specs.Instructions.{row_of}
use Rattle.text_lines.specs.Lines.{Word, Line}
use Rattle.job_text.specs.Inner.Printing.{aims_of, spaced}
use Rattle.job_text.specs.Printed.{ArrayWords, aims_at, body_lines, instruction_line, printed_instructions, is_aim}
use Rattle.job_text.specs.Printed.{line_if_any}
use Rattle.job_text.specs.Printed.{line_text, lines_text, run_lines, array_line, arrays_in, once}
use Rattle.job_text.specs.Printed.{header_lines, init_lines, text_of}
use Rattle.pram_job.specs.declared.instr.Array.{Array}
use Rattle.pram_job.specs.Job.{JobData}
use Rattle.pram_text.specs.Text.{code_heading}

-- ---- words after another one

pub joined : (word : Word) (words : Line) → join_with_byte 32 (word ∷ words) ≡ word ++ spaced words
joined word [] = sym (append-nil word)
joined word (next ∷ words) = ap (λ text. word ++ 32 ∷ text) (joined next words)

-- ---- jumps

-- an index more that is jumped to
pub marked : (aims : List Bool) (aim i : ℕ) → i < length aims →
    get_or (set aims aim true) i false ≡ (get_or aims i false || (aim == i))
marked aims aim i low = ⊎_elim
    (λ e. subst (λ k. get_or (set aims aim true) k false ≡ (get_or aims k false || (aim == k))) e
    (get_or-set_same aims aim true false (omega (arith, low, e))
    ∙ sym (or_right (get_or aims aim false) (aim == aim) (eq-eqb aim aim refl))))
    (λ other. get_or-set_other aims aim i true false (λ e. other (sym e))
    ∙ sym (ap (λ b. get_or aims i false || b) (ne_eqb aim i other)
    ∙ or_false (get_or aims i false)))
    (cases_eq aim i)
  where
    or_false : (b : Bool) → (b || false) ≡ b
    or_false true = refl
    or_false false = refl

-- what is noted of so many instructions
pub record Notes (code : List Instr) (count : ℕ) (aims : List Bool) : Type 0 where
  pub len : length aims ≡ length code
  pub notes : (i : ℕ) → i < length code → get_or aims i false ≡ is_aim (take count code) i

pub notes_all : (code : List Instr) (count : ℕ) (aims : List Bool) → length code ≤ count →
    Notes code count aims → aims ≡ aims_of code
notes_all code count aims all h =
    let len = length-map-range_with_len (is_aim code) 0 (length code) in
    ext_get_or false aims (aims_of code) (h.len ∙ sym len)
    (λ i low. h.notes i (omega (arith, low, h.len))
    ∙ ap (λ c. is_aim c i) (take_all count code all)
    ∙ sym (get_or-map-range_with_len (is_aim code) 0 (length code) i i false
    (omega (arith, low, h.len)) (omega arith)))

-- one instruction more
pub notes_step : (code : List Instr) (k aim : ℕ) (d : Instr) (aims : List Bool) → k < length code →
    ((i : ℕ) → aims_at i (row_of (get_or code k d)).1 ≡ (aim == i)) → Notes code k aims →
    Notes code (k + 1) (set aims aim true)
notes_step code k aim d aims low at h = record {
  len = length-set aims aim true ∙ h.len;
  notes = λ i within. marked aims aim i (omega (arith, within, h.len))
      ∙ ap₂ (λ b c. b || c) (h.notes i within) (sym (at i))
      ∙ sym (list_any_more (λ instr. aims_at i (row_of instr).1) code k d low);
}

pub notes_stay : (code : List Instr) (k : ℕ) (d : Instr) (aims : List Bool) → k < length code →
    ((i : ℕ) → aims_at i (row_of (get_or code k d)).1 ≡ false) → Notes code k aims →
    Notes code (k + 1) aims
notes_stay code k d aims low at h = record {
  len = h.len;
  notes = λ i within. h.notes i within
      ∙ sym (list_any_more (λ instr. aims_at i (row_of instr).1) code k d low
      ∙ ap (λ b. is_aim (take k code) i || b) (at i) ∙ or_none (is_aim (take k code) i));
}
  where
    or_none : (b : Bool) → (b || false) ≡ b
    or_none true = refl
    or_none false = refl

-- ---- lines

pub code_step : (words : ArrayWords) (aim : ℕ → Bool) (code : List Instr) (index : ℕ) (d : Instr) (b : Bool)
    (now new all : List ℕ) → index < length code → b ≡ aim index →
    new ≡ now ++ line_text (instruction_line words b index (get_or code index d)) →
    now ++ lines_text (printed_instructions words aim index (drop index code)) ≡ all →
    new ++ lines_text (printed_instructions words aim (index + 1) (drop (index + 1) code)) ≡ all
code_step words aim code index d b now new all low same added h =
    let instr = get_or code index d in
    let rest = lines_text (printed_instructions words aim (index + 1) (drop (index + 1) code)) in
    ap (λ text. text ++ rest)
    (added ∙ ap (λ c. now ++ line_text (instruction_line words c index instr)) same)
    ∙ append_assoc now (line_text (instruction_line words (aim index) index instr)) rest
    ∙ sym (ap (λ left. now ++ lines_text (printed_instructions words aim index left))
    (drop_more code index d low)) ∙ h

-- what holds where bytes were added, holds on `Ok`
pub on_ok : {T E : Type 0} (r : Result T E) (new more old : List ℕ) (P : Type 0) →
    new ≡ (if is_ok r then more else old) → (new ≡ more → P) → OnOk r P
on_ok (Ok x) new more old P e h = h e
on_ok (Err x) new more old P e h = tt

-- the line of a run, of its beginning and its values
pub run_text : (old first last new : List ℕ) (cell : ℕ) (run : List ℕ) → (length run == 0) ≡ false →
    first ≡ old ++ (codes "init " ++ decimal cell) →
    last ≡ first ++ spaced (map (λ value. decimal value) run) → new ≡ last ++ 10 ∷ [] →
    new ≡ old ++ lines_text (line_if_any cell run)
run_text old first last new cell [] some begun made ended = cc
run_text old first last new cell (v ∷ values) some begun made ended =
    let words = map (λ value. decimal value) (v ∷ values) in
    ended ∙ ap (λ text. text ++ 10 ∷ []) (made ∙ ap (λ text. text ++ spaced words) begun)
    ∙ (simp append_assoc)
    ∙ sym (ap (λ text. old ++ ((text ++ 10 ∷ []) ++ []))
    (joined (codes "init") (decimal cell ∷ words)))

-- a run, and those after it
pub runs_step : (cell : ℕ) (run : List ℕ) (runs : List (List ℕ)) (now new all : List ℕ) →
    new ≡ now ++ lines_text (line_if_any cell run) →
    now ++ lines_text (run_lines cell (run ∷ runs)) ≡ all →
    new ++ lines_text (run_lines (cell + length run + 1) runs) ≡ all
runs_step cell run runs now new all added h =
    let rest = run_lines (cell + length run + 1) runs in
    ap (λ text. text ++ lines_text rest) added
    ∙ append_assoc now (lines_text (line_if_any cell run)) (lines_text rest)
    ∙ ap (λ text. now ++ text) (sym (flat_map-append line_text (line_if_any cell run) rest)) ∙ h

-- the pieces of a text are the text
pub whole : (words : ArrayWords) (job : JobData) (arrays : List Array) (none header named given said all : List ℕ) →
    none ≡ [] → header ≡ none ++ lines_text (header_lines job) →
    arrays ≡ once (arrays_in job.code) → named ≡ header ++ lines_text (map (array_line words) arrays) →
    given ≡ named ++ lines_text (init_lines job.init) → said ≡ given ++ codes "code\n" →
    all ≡ said ++ lines_text (body_lines words job.code) → all ≡ text_of words job
unfolding text_of
whole words job arrays none header named given said all n h are a i c b =
    let code = codes "code\n" in
    let heads = header_lines job in
    let names = map (array_line words) (once (arrays_in job.code)) in
    let inits = init_lines job.init in
    let body = body_lines words job.code in
    let t = lines_text heads in
    let u = lines_text names in
    let v = lines_text inits in
    let w = lines_text body in
    b ∙ ap (λ text. text ++ w) (c ∙ ap (λ text. text ++ code) (i ∙ ap (λ text. text ++ v)
    (a ∙ ap₂ (λ text ls. text ++ lines_text (map (array_line words) ls)) (h ∙ ap (λ text. text ++ t) n)
    are)))
    ∙ append_assoc ((t ++ u) ++ v) code w ∙ append_assoc (t ++ u) v (code ++ w)
    ∙ append_assoc t u (v ++ (code ++ w))
    ∙ sym (flat_map-append line_text heads (names ++ (inits ++ code_heading ∷ body))
    ∙ ap (λ text. t ++ text) (flat_map-append line_text names (inits ++ code_heading ∷ body)
    ∙ ap (λ text. u ++ text) (flat_map-append line_text inits (code_heading ∷ body))))
