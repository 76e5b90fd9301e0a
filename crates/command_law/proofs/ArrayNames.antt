-- Words of arrays by a program's names are names, and differ.
use Rattle.std.proofs.Common.{◌≡◌, ◌≢◌, ◌∙◌, ℕ, zero, suc, ◌<◌, ◌≤◌, Bool, true, false, ◌==◌}
use Rattle.std.proofs.Common.{◌||◌, List, [], ◌∷◌, ◌++◌, length, map, get_or, refl, sym, ap}
use Rattle.std.proofs.Common.{subst, arith, Option, Some, None, is_err, inl, inr, ◌⊎◌, ⊎_elim}
use Rattle.std.proofs.Common.{if◌then◌else◌}
use Rattle.std.specs.Char.{is_ascii_alphabetic, is_ascii_alphanumeric}
use Rattle.std.specs.List.{AllByRecursion, list_all}
use Rattle.std.specs.Option.{option_or}
use Rattle.std.specs.Prelude.{slice_get}
use Rattle.std.proofs.lemmas.Bool.{and_parts, cases_Bool, both_ways}
use Rattle.std.proofs.lemmas.Option.{slice_get_within, get_or_from_slice_get}
use Rattle.text_lines.specs.Lines.{Word}
use Rattle.pram_job.specs.declared.instr.Array.{Array}
use Rattle.pram_job.specs.Instructions.{IsArray}
use Rattle.pram_text.specs.Judgement.{is_array_name, is_name, register_of}
use Rattle.job_text.specs.Printed.{AreArrayWords, array_word, is_same}
use Rattle.job_text.proofs.Naming.{array_words_lawful, is_same-true}
use Rattle.pardo_program.specs.Program.{ArrayData, PrivateData, ProgramData}
use Rattle.pardo_program.specs.Variables.{AreDistinct, variable_names}
use Rattle.pardo_flat.specs.Layouts.{cells_of_array, private_cells, program_layout}
use Rattle.naming.specs.ArrayNames.{may_name, name_of_private, private_name, array_row}
use Rattle.naming.specs.ArrayNames.{shared_name, variable_name, word_of_array}

-- ---- an array has the name of one variable

-- it is one of these
abbrev Among : List Word → Word → Type 0
Among words w = (u : Word) → AllByRecursion (λ other. u ≢ other) words → u ≢ w

back_all : (P : Word → Type 0) (xs ys : List Word) → AllByRecursion P (xs ++ ys) →
    AllByRecursion P ys
back_all P [] ys h = h
back_all P (x ∷ xs) ys h = back_all P xs ys h.1

front_all : (P : Word → Type 0) (xs ys : List Word) → AllByRecursion P (xs ++ ys) →
    AllByRecursion P xs
front_all P [] ys h = tt
front_all P (x ∷ xs) ys h = (h.0, front_all P xs ys h.1)

back_distinct : (xs ys : List Word) → AreDistinct (xs ++ ys) → AreDistinct ys
back_distinct [] ys h = h
back_distinct (x ∷ xs) ys h = back_distinct xs ys h.1

abbrev array_names : List ArrayData → List Word
array_names arrays = map (λ array. array.name) arrays

abbrev private_names : List PrivateData → List Word
private_names privates = map (λ variable. variable.name) privates

named_first : (held : ArrayData) (arrays : List ArrayData) (a : Array) (w : Word) →
    is_same (cells_of_array held) a ≡ true → shared_name (held ∷ arrays) a ≡ Some w →
    held.name ≡ w
named_first held arrays a w same is =
    let first : Some held.name ≡ Some w = rw same at is in cc

named_later : (held : ArrayData) (arrays : List ArrayData) (a : Array) (w : Word) →
    is_same (cells_of_array held) a ≡ false → shared_name (held ∷ arrays) a ≡ Some w →
    shared_name arrays a ≡ Some w
named_later held arrays a w other is = rw other at is

shared_among : (arrays : List ArrayData) (a : Array) (w : Word) → shared_name arrays a ≡ Some w →
    Among (array_names arrays) w
shared_among [] a w is u none = let never : None ≡ Some w = is in cc
shared_among (held ∷ arrays) a w is u none = ⊎_elim
    (λ same. λ e. none.0 (e ∙ sym (named_first held arrays a w same is)))
    (λ other. shared_among arrays a w (named_later held arrays a w other is) u none.1)
    (cases_Bool (is_same (cells_of_array held) a))

shared_once : (arrays : List ArrayData) (ys : List Word) (a b : Array) (w : Word) →
    AreDistinct (array_names arrays ++ ys) → shared_name arrays a ≡ Some w →
    shared_name arrays b ≡ Some w → a ≡ b
shared_once [] ys a b w are is so = let never : None ≡ Some w = is in cc
shared_once (held ∷ arrays) ys a b w are is so =
    let cells = cells_of_array held in
    let new = front_all (λ other. held.name ≢ other) (array_names arrays) ys are.0 in
    ⊎_elim
    (λ same. ⊎_elim
    (λ same_too. sym (is_same-true cells a same) ∙ is_same-true cells b same_too)
    (λ other. absurd (shared_among arrays b w (named_later held arrays b w other so) held.name new
    (named_first held arrays a w same is)))
    (cases_Bool (is_same cells b)))
    (λ other. ⊎_elim
    (λ same_too. absurd (shared_among arrays a w (named_later held arrays a w other is) held.name
    new (named_first held arrays b w same_too so)))
    (λ other_too. shared_once arrays ys a b w are.1 (named_later held arrays a w other is)
    (named_later held arrays b w other_too so))
    (cases_Bool (is_same cells b)))
    (cases_Bool (is_same cells a))

apart_from : (arrays : List ArrayData) (ys : List Word) (a : Array) (w : Word) →
    AreDistinct (array_names arrays ++ ys) → shared_name arrays a ≡ Some w → Among ys w → ⊥
apart_from [] ys a w are is among = let never : None ≡ Some w = is in cc
apart_from (held ∷ arrays) ys a w are is among = ⊎_elim
    (λ same. among held.name (back_all (λ other. held.name ≢ other) (array_names arrays) ys are.0)
    (named_first held arrays a w same is))
    (λ other. apart_from arrays ys a w are.1 (named_later held arrays a w other is) among)
    (cases_Bool (is_same (cells_of_array held) a))

-- ---- private variables

private_among : (privates : List PrivateData) (x : ℕ) (d : PrivateData) → x < length privates →
    Among (private_names privates) (get_or privates x d).name
private_among [] x d low u none = absurd (omega (arith, low))
private_among (first ∷ privates) zero d low u none = none.0
private_among (first ∷ privates) (suc x) d low u none =
    private_among privates x d (omega (arith, low)) u none.1

private_once : (privates : List PrivateData) (x y : ℕ) (d : PrivateData) → x < length privates →
    y < length privates → AreDistinct (private_names privates) →
    (get_or privates x d).name ≡ (get_or privates y d).name → x ≡ y
private_once [] x y d low low_too are e = absurd (omega (arith, low))
private_once (first ∷ privates) zero zero d low low_too are e = refl
private_once (first ∷ privates) zero (suc y) d low low_too are e =
    absurd (private_among privates y d (omega (arith, low_too)) first.name are.0 e)
private_once (first ∷ privates) (suc x) zero d low low_too are e =
    absurd (private_among privates x d (omega (arith, low)) first.name are.0 (sym e))
private_once (first ∷ privates) (suc x) (suc y) d low low_too are e =
    ap suc (private_once privates x y d (omega (arith, low)) (omega (arith, low_too)) are.1 e)

-- the private variable of this name has just these cells
record IsPrivatesRow (program : ProgramData) (array : Array) (w : Word) : Type 0 where
  variable : PrivateData
  there : slice_get program.privates (array_row program array) ≡ Some variable
  name : variable.name ≡ w
  cells : private_cells (program_layout program) (array_row program array) ≡ array

row_found : (program : ProgramData) (array : Array) (w : Word) →
    private_name program array ≡ Some w → IsPrivatesRow program array w
row_found program array w is = ⊎_elim
    (λ none. absurd (let never : None ≡ Some w = rw none at is in cc))
    (λ some. go (slice_get program.privates (array_row program array)) refl (rw some at is))
    (cases_Bool (array.len == 0))
  where
    go : (found : Option PrivateData) →
        slice_get program.privates (array_row program array) ≡ found →
        name_of_private found (private_cells (program_layout program) (array_row program array)) array
        ≡ Some w → IsPrivatesRow program array w
    go None at is = absurd (let never : None ≡ Some w = is in cc)
    go (Some variable) at is =
        let cells = private_cells (program_layout program) (array_row program array) in
        ⊎_elim
        (λ same. record {
          variable = variable;
          there = at;
          name = (let named : Some variable.name ≡ Some w = rw same at is in cc);
          cells = is_same-true cells array same;
        })
        (λ other. absurd (let never : None ≡ Some w = rw other at is in cc))
        (cases_Bool (is_same cells array))

row_once : (program : ProgramData) (a b : Array) (w : Word) →
    AreDistinct (private_names program.privates) → IsPrivatesRow program a w →
    IsPrivatesRow program b w → a ≡ b
row_once program a b w are is so =
    let xs = program.privates in
    let x = array_row program a in
    let y = array_row program b in
    let first : get_or xs x is.variable ≡ is.variable =
    get_or_from_slice_get xs x is.variable is.variable is.there in
    let second : get_or xs y is.variable ≡ so.variable =
    get_or_from_slice_get xs y so.variable is.variable so.there in
    let same : x ≡ y = private_once xs x y is.variable
    (slice_get_within xs x is.variable is.there) (slice_get_within xs y so.variable so.there) are
    (ap (λ (v : PrivateData). v.name) first ∙ is.name ∙ sym so.name
    ∙ sym (ap (λ (v : PrivateData). v.name) second)) in
    sym is.cells ∙ ap (private_cells (program_layout program)) same ∙ so.cells

row_among : (program : ProgramData) (a : Array) (w : Word) → IsPrivatesRow program a w →
    Among (private_names program.privates) w
row_among program a w is =
    let xs = program.privates in
    let x = array_row program a in
    let first : get_or xs x is.variable ≡ is.variable =
    get_or_from_slice_get xs x is.variable is.variable is.there in
    subst (Among (private_names xs)) (ap (λ (v : PrivateData). v.name) first ∙ is.name)
    (private_among xs x is.variable (slice_get_within xs x is.variable is.there))

-- ---- all variables

abbrev HasName : ProgramData → Array → Word → Type 0
HasName program array w =
    (shared_name program.arrays array ≡ Some w) ⊎ IsPrivatesRow program array w

by_one : (o p : Option Word) (w : Word) → option_or o p ≡ Some w → (o ≡ Some w) ⊎ (p ≡ Some w)
by_one None p w is = inr is
by_one (Some v) p w is = inl is

has_name : (program : ProgramData) (array : Array) (w : Word) →
    variable_name program array ≡ Some w → HasName program array w
has_name program array w is = ⊎_elim (λ shared. inl shared)
    (λ private. inr (row_found program array w private))
    (by_one (shared_name program.arrays array) (private_name program array) w is)

name_once : (program : ProgramData) (a b : Array) (w : Word) →
    AreDistinct (variable_names program) → HasName program a w → HasName program b w → a ≡ b
name_once program a b w are (inl is) (inl so) =
    shared_once program.arrays (private_names program.privates) a b w are is so
name_once program a b w are (inl is) (inr so) = absurd
    (apart_from program.arrays (private_names program.privates) a w are is
    (row_among program b w so))
name_once program a b w are (inr is) (inl so) = absurd
    (apart_from program.arrays (private_names program.privates) b w are so
    (row_among program a w is))
name_once program a b w are (inr is) (inr so) = row_once program a b w
    (back_distinct (array_names program.arrays) (private_names program.privates) are) is so

-- ---- words

may_is_array_name : (w : Word) → may_name w ≡ true → is_array_name w ≡ true
unfolding is_array_name is_name
may_is_array_name [] h = absurd (both_ways false refl h)
may_is_array_name (c ∷ cs) h =
    let named = and_parts (is_name (c ∷ cs)) (is_err (register_of (c ∷ cs))) h in
    let first = and_parts (is_ascii_alphabetic c || (c == 95))
    (list_all (λ byte. is_ascii_alphanumeric byte || (byte == 95)) cs) named.0 in
    rw (no_dot c first.0) h
  where
    no_dot : (c : ℕ) → (is_ascii_alphabetic c || (c == 95)) ≡ true → (c == 46) ≡ false
    no_dot c h = grind arith

dotted_is_no_name : (array : Array) → may_name (array_word array) ≡ false
unfolding is_name
dotted_is_no_name array = refl

-- the word is this name, or that of an array without one
record IsNameOf (o : Option Word) (word : Word) : Type 0 where
  is : o ≡ Some word
  may : may_name word ≡ true

abbrev IsWordOf : Option Word → Array → Word → Type 0
IsWordOf o array word = IsNameOf o word ⊎ (word ≡ array_word array)

word_is : (o : Option Word) (array : Array) → IsWordOf o array (word_of_array o array)
word_is None array = inr refl
word_is (Some w) array = go (may_name w) refl
  where
    go : (b : Bool) → may_name w ≡ b →
        IsWordOf (Some w) array (if b then w else array_word array)
    go true is = inl (record { is = refl; may = is })
    go false is = inr refl

name_of_word : (o : Option Word) (array : Array) (word : Word) → IsWordOf o array word →
    is_array_name (array_word array) ≡ true → is_array_name word ≡ true
name_of_word o array word (inl is) dotted = may_is_array_name word is.may
name_of_word o array word (inr is) dotted = subst (λ w. is_array_name w ≡ true) (sym is) dotted

module _ (program : ProgramData) (are : AreDistinct (variable_names program)) (cells : ℕ)
    (few : cells ≤ 1048576) where
  dotted : AreArrayWords cells array_word
  dotted = array_words_lawful cells few

  no_name : (o : Option Word) (word : Word) (b : Array) → IsNameOf o word →
      word ≡ array_word b → ⊥
  no_name o word b is e = both_ways (may_name word)
      (ap may_name e ∙ dotted_is_no_name b) is.may

  words_differ : (a b : Array) → IsArray cells a → IsArray cells b → (word : Word) →
      IsWordOf (variable_name program a) a word → IsWordOf (variable_name program b) b word →
      a ≡ b
  words_differ a b h k word (inl is) (inl so) = name_once program a b word are
      (has_name program a word is.is) (has_name program b word so.is)
  words_differ a b h k word (inl is) (inr so) = absurd
      (no_name (variable_name program a) word b is so)
  words_differ a b h k word (inr is) (inl so) = absurd
      (no_name (variable_name program b) word a so is)
  words_differ a b h k word (inr is) (inr so) = dotted.differ a b h k (sym is ∙ so)

  pub names_lawful : AreArrayWords cells (λ array. word_of_array (variable_name program array) array)
  names_lawful = record {
    names = λ a h. name_of_word (variable_name program a) a _
        (word_is (variable_name program a) a) (dotted.names a h);
    differ = λ a b h k e. words_differ a b h k (word_of_array (variable_name program a) a)
        (word_is (variable_name program a) a)
        (subst (IsWordOf (variable_name program b) b) (sym e)
        (word_is (variable_name program b) b));
  }
