-- The variables of programs have distinct names.
use Rattle.std.proofs.Common.{◌≡◌, ◌≢◌, ℕ, ◌+◌, Bool, Result, Ok, Err, true, false, ◌==◌, not, nat_le, List, [], ◌∷◌}
use Rattle.std.proofs.Common.{◌++◌, length, map, Option, Some, IfOk, refl, sym, ap, ap₂}
use Rattle.std.proofs.Common.{subst, ◌∙◌, is_some, bytes_eq, append_assoc}
use Rattle.std.proofs.Common.{append-nil, if◌then◌else◌}
use Rattle.std.specs.List.{AllByRecursion}
use Rattle.std.specs.Prelude.{codes}
use Rattle.std.proofs.lemmas.Bool.{both_ways}
use Rattle.std.proofs.lemmas.List.{map-append}
use Rattle.std.proofs.lemmas.Slice.Eq.{bytes_eq-Decides}
use Rattle.pardo_text.specs.declared.fault.PardoKind.{PardoKind}
use Rattle.pardo_program.specs.declared.block.Block.{Block}
use Rattle.pardo_program.specs.declared.block.Block.TheVariants as block
use Rattle.pardo_text.specs.declared.draft.Stage.{Stage}
use Rattle.pardo_text.specs.declared.draft.Stage.TheVariants as stage
use Rattle.pardo_program.specs.declared.limits.TheConstants.{MAX_CELLS, MAX_PROCS}
use Rattle.pardo_text.specs.declared.names.Named.{Named}
use Rattle.pardo_text.specs.declared.names.Named.TheVariants as thing
use Rattle.pardo_text.specs.declared.names.Scope.TheVariants.{Bound, Uniform, Any}
use Rattle.pardo_text.specs.declared.part.Mark.TheVariants as mark
use Rattle.pardo_program.specs.declared.statement.Line.{Line}
use Rattle.pardo_program.specs.declared.statement.Statement.TheVariants as statement
use Rattle.pardo_text.specs.declared.symbol.Symbol.TheVariants as the
use Rattle.pardo_text.specs.Code.{whole_at, assignment_at, if_line, while_line, way_at, for_line}
use Rattle.pardo_text.specs.Code.{else_of, elsif_line, elsifs_ended, end_block, quotient_at}
use Rattle.pardo_text.specs.Code.{asserted, assert_line, has_form, named_line}
use Rattle.pardo_text.specs.Code.{statement_line}
use Rattle.pardo_text.specs.Drafts.{Draft, empty, cells_needed, fitting, with_line, with_block}
use Rattle.pardo_text.specs.Drafts.{with_loop, without, with_name, with_array}
use Rattle.pardo_text.specs.Drafts.{with_private, thing_of}
use Rattle.pardo_text.specs.Expressions.{new_name, rest_after_mark, indexed, ended}
use Rattle.pardo_text.specs.Expressions.{expression_at, fixed_at}
use Rattle.pardo_text.specs.Header.{version_line, rule_named, rule_line, const_line, procs_line}
use Rattle.pardo_text.specs.Header.{shape_at, shared_line, private_start, private_line, code_line}
use Rattle.pardo_text.specs.Header.{header_line}
use Rattle.pardo_text.specs.Laws.{NamesAreDistinct}
use Rattle.pardo_text.specs.Names.{Names, named}
use Rattle.pardo_program.specs.declared.arrays.Shape.{Shape}
use Rattle.pardo_program.specs.Program.{ArrayData, PrivateData, ProgramData, places_of_shape}
use Rattle.pardo_text.specs.Reading.{is_readable, line_in_stage, with_tokens, with_text_line, finished_draft}
use Rattle.pardo_text.specs.Reading.{program_in, on_line, program_after, program_of}
use Rattle.pardo_text.specs.Tokens.{Token, name, number as literal, symbol, tokens_of}
use Rattle.pardo_program.specs.Operations.{greatest_value}
use Rattle.pardo_text.specs.Values.{values_for, start_at}
use Rattle.pardo_program.specs.Variables.{AreDistinct, names_among, variable_names}
use Rattle.pardo_text.proofs.Ifs.{ok_bind, ok_after, ok_if}
use Rattle.pardo_text.proofs.LawHeader.{ended_kept}
use Rattle.pardo_text.proofs.LawLawful.{on_line_kept, and_then_kept}
use Rattle.text_lines.specs.Lines.{Word, lines_of, said_in}

-- ---- one name more

module _ (P : Word → Type 0) (w : Word) where
  put_among : (xs ys : List Word) → P w → AllByRecursion P (xs ++ ys) →
      AllByRecursion P (xs ++ w ∷ ys)
  put_among [] ys is all = (is, all)
  put_among (x ∷ xs) ys is all = (all.0, put_among xs ys is all.1)

others : (w : Word) (words : List Word) → AllByRecursion (λ v. v ≢ w) words →
    AllByRecursion (λ v. w ≢ v) words
others w [] h = tt
others w (v ∷ words) h = (λ e. h.0 (sym e), others w words h.1)

distinct_more : (w : Word) (xs ys : List Word) → AllByRecursion (λ v. v ≢ w) (xs ++ ys) →
    AreDistinct (xs ++ ys) → AreDistinct (xs ++ w ∷ ys)
distinct_more w [] ys new are = (others w ys new, are)
distinct_more w (x ∷ xs) ys new are = (
  put_among (λ v. x ≢ v) w xs ys new.0 are.0,
  distinct_more w xs ys new.1 are.1,
)

-- ---- known names

-- each of these is known
abbrev AreKnown : Names → List Word → Type 0
AreKnown names words = AllByRecursion (λ word. is_some (names word) ≡ true) words

known_here : (test : Bool) (new : Named) (old : Option Named) → is_some old ≡ true →
    is_some (if test then Some new else old) ≡ true
known_here true new old h = refl
known_here false new old h = h

still_known : (w : Word) (new : Named) (names : Names) (words : List Word) →
    AreKnown names words → AreKnown (named w new names) words
still_known w new names [] h = tt
still_known w new names (v ∷ words) h =
    (known_here (bytes_eq w v) new (names v) h.0, still_known w new names words h.1)

is_known : (w : Word) (new : Named) (names : Names) → is_some (named w new names w) ≡ true
is_known w new names = rw ((bytes_eq-Decides w w).1 refl) refl

-- a new name is none of those that are known
new_among : (w : Word) (names : Names) (words : List Word) → is_some (names w) ≡ false →
    AreKnown names words → AllByRecursion (λ v. v ≢ w) words
new_among w names [] new known = tt
new_among w names (v ∷ words) new known = (
  λ e. both_ways (is_some (names w)) new (subst (λ u. is_some (names u) ≡ true) e known.0),
  new_among w names words new known.1,
)

abbrev IsNew : Names → Word × List Token → Type 0
IsNew names read = is_some (names read.0) ≡ false

new_is : (names : Names) (tokens : List Token) → IfOk (new_name names tokens) (IsNew names)
new_is names (name word ∷ rest) =
    ok_if (is_some (names word)) _ _ (IsNew names) (λ _. tt) (λ e. e)
new_is names _ = tt

-- ---- header lines

abbrev names_in : Draft → List Word
names_in d = names_among d.arrays d.privates

record HaveNames (d : Draft) : Type 0 where
  distinct : AreDistinct (names_in d)
  known : AreKnown d.names (names_in d)

fitting_names : (d : Draft) → HaveNames d → IfOk (fitting d) HaveNames
fitting_names d is =
    ok_if (nat_le (cells_needed d) MAX_CELLS) _ _ HaveNames (λ _. is) (λ _. tt)

name_names : (w : Word) (new : Named) (d : Draft) → HaveNames d → HaveNames (with_name w new d)
name_names w new d is = record {
  distinct = is.distinct;
  known = still_known w new d.names (names_in d) is.known;
}

array_names : (d : Draft) (w : Word) (form : Shape) (start : List ℕ) →
    is_some (d.names w) ≡ false → HaveNames d → HaveNames (with_array w form start d)
array_names d w form start new is =
    let next = with_array w form start d in
    let xs = map (λ (array : ArrayData). array.name) d.arrays in
    let ys = map (λ (variable : PrivateData). variable.name) d.privates in
    let all : names_in next ≡ xs ++ w ∷ ys =
    ap (λ (words : List Word). words ++ ys) (map-append (λ (array : ArrayData). array.name) d.arrays _)
    ∙ append_assoc xs (w ∷ []) ys in
    record {
      distinct = subst AreDistinct (sym all) (distinct_more w xs ys
          (new_among w d.names (xs ++ ys) new is.known) is.distinct);
      known = subst (AreKnown next.names) (sym all)
          (put_among (λ v. is_some (next.names v) ≡ true) w xs ys
          (is_known w (thing_of form (length d.arrays)) d.names)
          (still_known w (thing_of form (length d.arrays)) d.names (xs ++ ys) is.known));
    }

own_names : (d : Draft) (w : Word) (start : List ℕ) → is_some (d.names w) ≡ false →
    HaveNames d → HaveNames (with_private w start d)
own_names d w start new is =
    let next = with_private w start d in
    let xs = names_in d in
    let none : xs ++ [] ≡ xs = append-nil xs in
    let all : names_in next ≡ xs ++ w ∷ [] =
    ap (λ (words : List Word). map (λ (array : ArrayData). array.name) d.arrays ++ words)
    (map-append (λ (variable : PrivateData). variable.name) d.privates _)
    ∙ sym (append_assoc (map (λ (array : ArrayData). array.name) d.arrays)
    (map (λ (variable : PrivateData). variable.name) d.privates) (w ∷ [])) in
    record {
      distinct = subst AreDistinct (sym all) (distinct_more w xs []
          (subst (AllByRecursion (λ v. v ≢ w)) (sym none)
          (new_among w d.names xs new is.known))
          (subst AreDistinct (sym none) is.distinct));
      known = subst (AreKnown next.names) (sym all)
          (put_among (λ v. is_some (next.names v) ≡ true) w xs []
          (is_known w (thing.Private (length d.privates)) d.names)
          (subst (AreKnown next.names) (sym none)
          (still_known w (thing.Private (length d.privates)) d.names xs is.known)));
    }

version_names : (d : Draft) (tokens : List Token) → HaveNames d →
    IfOk (version_line d tokens) HaveNames
unfolding version_line
version_names d (symbol the.Pardo ∷ literal version ∷ []) is =
    ok_if (version == 1) _ _ HaveNames
    (λ _. record { distinct = is.distinct; known = is.known }) (λ _. tt)
version_names d _ is = tt

rule_names : (d : Draft) (tokens : List Token) → HaveNames d → IfOk (rule_line d tokens) HaveNames
unfolding rule_line
rule_names d (symbol the.Rule ∷ name word ∷ []) is =
    ok_after (rule_named word) _ HaveNames
    (λ rule. record { distinct = is.distinct; known = is.known })
rule_names d _ is = tt

const_names : (d : Draft) (tokens : List Token) → HaveNames d →
    IfOk (const_line d tokens) HaveNames
unfolding const_line
const_names d tokens is =
    ok_after (new_name d.names tokens) _ HaveNames (λ word.
    ok_after (rest_after_mark mark.Equals word.1) _ HaveNames (λ after.
    ok_after (fixed_at d.names 0 greatest_value after) _ HaveNames (λ value.
    ended_kept HaveNames (with_name word.0 (thing.Constant value.0) d) value.1
    (name_names word.0 (thing.Constant value.0) d is))))

procs_names : (d : Draft) (tokens : List Token) → HaveNames d →
    IfOk (procs_line d tokens) HaveNames
unfolding procs_line
procs_names d tokens is =
    ok_if (d.procs == 0) _ _ HaveNames (λ _.
    ok_after (new_name d.names tokens) _ HaveNames (λ word.
    ok_after (rest_after_mark mark.Less word.1) _ HaveNames (λ after.
    ok_after (fixed_at d.names 1 MAX_PROCS after) _ HaveNames (λ procs.
    let next : Draft = record d { procs = procs.0 } in
    ended_kept HaveNames (with_name word.0 thing.Own next) procs.1
    (name_names word.0 thing.Own next
    (record { distinct = is.distinct; known = is.known }))))))
    (λ _. tt)

shared_names : (d : Draft) (tokens : List Token) → HaveNames d →
    IfOk (shared_line d tokens) HaveNames
unfolding shared_line
shared_names d tokens is =
    ok_bind (new_name d.names tokens) _ (IsNew d.names) HaveNames (new_is d.names tokens)
    (λ word new.
    ok_after (shape_at d.names word.1 (indexed word.1)) _ HaveNames (λ form.
    ok_after (start_at d.names (places_of_shape form.0) form.1) _ HaveNames (λ start.
    fitting_names (with_array word.0 form.0 start d)
    (array_names d word.0 form.0 start new is))))

private_names : (d : Draft) (tokens : List Token) → HaveNames d →
    IfOk (private_line d tokens) HaveNames
unfolding private_line
private_names d tokens is =
    ok_if (d.procs == 0) _ _ HaveNames (λ _. tt) (λ _.
    ok_bind (new_name d.names tokens) _ (IsNew d.names) HaveNames (new_is d.names tokens)
    (λ word new.
    ok_after (private_start d.names word.1) _ HaveNames (λ tree.
    ok_after (values_for d.procs tree) _ HaveNames (λ start.
    fitting_names (with_private word.0 start d) (own_names d word.0 start new is)))))

begin_names : (d : Draft) (tokens : List Token) → HaveNames d → IfOk (code_line d tokens) HaveNames
unfolding code_line
begin_names d [] is =
    ok_if (d.procs == 0) _ _ HaveNames (λ _. tt)
    (λ _. record { distinct = is.distinct; known = is.known })
begin_names d (token ∷ tokens) is = tt

header_names : (d : Draft) (tokens : List Token) → HaveNames d →
    IfOk (header_line d tokens) HaveNames
unfolding header_line
header_names d (symbol the.Const ∷ tokens) is = const_names d tokens is
header_names d (symbol the.Procs ∷ tokens) is = procs_names d tokens is
header_names d (symbol the.Shared ∷ tokens) is = shared_names d tokens is
header_names d (symbol the.Private ∷ tokens) is = private_names d tokens is
header_names d (symbol the.Code ∷ tokens) is = begin_names d tokens is
header_names d _ is = tt

-- ---- lines of code leave variables as they are

module _ (arrays : List ArrayData) (privates : List PrivateData) where
  -- the draft has these variables, and its lines are those of code
  record Has (d : Draft) : Type 0 where
    arrays_are : d.arrays ≡ arrays
    privates_are : d.privates ≡ privates
    in_code : d.stage ≡ stage.Code

module _ (arrays : List ArrayData) (privates : List PrivateData) where
  abbrev Stays : Draft → Type 0
  Stays = Has arrays privates

  fits : (d : Draft) → Stays d → IfOk (fitting d) Stays
  fits d is = ok_if (nat_le (cells_needed d) MAX_CELLS) _ _ Stays (λ _. is) (λ _. tt)

  -- a draft that differs in other things alone
  so : (d next : Draft) → next.arrays ≡ d.arrays → next.privates ≡ d.privates →
      next.stage ≡ d.stage → Stays d → Stays next
  so d next a p s is = record {
    arrays_are = a ∙ is.arrays_are;
    privates_are = p ∙ is.privates_are;
    in_code = s ∙ is.in_code;
  }

  if_stays : (n : ℕ) (d : Draft) (tokens : List Token) → Stays d → IfOk (if_line n d tokens) Stays
  unfolding if_line
  if_stays n d tokens is =
      ok_after (whole_at d.names Any tokens) _ Stays (λ condition.
      fits (with_block block.If (with_line n (statement.If condition) d))
      (so d _ refl refl refl is))

  while_stays : (n : ℕ) (d : Draft) (tokens : List Token) → Stays d →
      IfOk (while_line n d tokens) Stays
  unfolding while_line
  while_stays n d tokens is =
      ok_after (whole_at d.names Uniform tokens) _ Stays
      (λ condition. so d _ refl refl refl is)

  for_stays : (n : ℕ) (d : Draft) (tokens : List Token) → Stays d →
      IfOk (for_line n d tokens) Stays
  unfolding for_line
  for_stays n d tokens is =
      ok_after (new_name d.names tokens) _ Stays (λ word.
      ok_after (rest_after_mark mark.Equals word.1) _ Stays (λ after.
      ok_after (expression_at d.names Bound after) _ Stays (λ first.
      ok_after (way_at first.1) _ Stays (λ way.
      ok_after (whole_at d.names Bound way.1) _ Stays (λ last.
      fits (with_loop word.0 (with_block (block.For (length d.lines))
      (with_line n (statement.For (length d.loops) first.0 last way.0 0) d)))
      (so d _ refl refl refl is))))))

  else_stays : (opened : Block) (n : ℕ) (d : Draft) (blocks : List Block) → Stays d →
      IfOk (else_of opened n d blocks) Stays
  else_stays opened n d [] is = tt
  else_stays opened n d (block.Else ∷ blocks) is = tt
  else_stays opened n d (block.Elsif ∷ blocks) is = tt
  else_stays opened n d (block.While begin ∷ blocks) is = tt
  else_stays opened n d (block.For begin ∷ blocks) is = tt
  else_stays opened n d (block.If ∷ blocks) is = so d _ refl refl refl is

  elsif_stays : (n : ℕ) (d : Draft) (tokens : List Token) → Stays d →
      IfOk (elsif_line n d tokens) Stays
  unfolding elsif_line
  elsif_stays n d tokens is =
      ok_bind (else_of block.Elsif n d d.blocks) _ Stays Stays
      (else_stays block.Elsif n d d.blocks is) (λ within p. if_stays n within tokens p)

  elsifs_stay : (n : ℕ) (blocks : List Block) (d : Draft) → Stays d →
      Stays (elsifs_ended n blocks d)
  elsifs_stay n [] d is = is
  elsifs_stay n (block.If ∷ blocks) d is = is
  elsifs_stay n (block.Else ∷ blocks) d is = is
  elsifs_stay n (block.While begin ∷ blocks) d is = is
  elsifs_stay n (block.For begin ∷ blocks) d is = is
  elsifs_stay n (block.Elsif ∷ blocks) d is =
      elsifs_stay n blocks (with_line n statement.EndIf (record d { blocks = blocks }))
      (so d _ refl refl refl is)

  without_stays : (loops : List Word) (d : Draft) → Stays d → Stays (without loops d)
  without_stays [] d is = is
  without_stays (word ∷ loops) d is = so d _ refl refl refl is

  end_stays : (n : ℕ) (d : Draft) (blocks : List Block) → Stays d →
      IfOk (end_block n d blocks) Stays
  end_stays n d [] is = tt
  end_stays n d (block.If ∷ blocks) is = elsifs_stay n blocks
      (with_line n statement.EndIf (record d { blocks = blocks })) (so d _ refl refl refl is)
  end_stays n d (block.Else ∷ blocks) is = elsifs_stay n blocks
      (with_line n statement.EndIf (record d { blocks = blocks })) (so d _ refl refl refl is)
  end_stays n d (block.Elsif ∷ blocks) is = elsifs_stay n blocks
      (with_line n statement.EndIf (record d { blocks = blocks })) (so d _ refl refl refl is)
  end_stays n d (block.While begin ∷ blocks) is = so d _ refl refl refl is
  end_stays n d (block.For begin ∷ blocks) is =
      let left = without d.loops (record d { blocks = blocks }) in
      so left _ refl refl refl
      (without_stays d.loops (record d { blocks = blocks }) (so d _ refl refl refl is))

  assert_stays : (n : ℕ) (d : Draft) (tokens : List Token) → Stays d →
      IfOk (assert_line n d tokens) Stays
  unfolding assert_line
  assert_stays n d tokens is =
      ok_after (quotient_at d.names tokens) _ Stays (λ quotient.
      ok_after (ended quotient.0 quotient.1) _ Stays (λ condition.
      fits (asserted n condition d) (so d _ refl refl refl is)))

  named_stays : (n : ℕ) (d : Draft) (word : Word) (tokens : List Token) → Stays d →
      IfOk (named_line n d word tokens) Stays
  named_stays n d word tokens is =
      ok_if (has_form (codes "elsif") word tokens) _ _ Stays (λ _. elsif_stays n d tokens is)
      (λ _. ok_if (has_form (codes "assert") word tokens) _ _ Stays
      (λ _. assert_stays n d tokens is)
      (λ _. ok_after (assignment_at d.names word tokens) _ Stays
      (λ said. so d _ refl refl refl is)))

  statement_stays : (n : ℕ) (d : Draft) (tokens : List Token) → Stays d →
      IfOk (statement_line n d tokens) Stays
  unfolding statement_line
  statement_stays n d (symbol the.If ∷ tokens) is = if_stays n d tokens is
  statement_stays n d (symbol the.While ∷ tokens) is = while_stays n d tokens is
  statement_stays n d (symbol the.For ∷ tokens) is = for_stays n d tokens is
  statement_stays n d (symbol the.Else ∷ []) is = else_stays block.Else n d d.blocks is
  statement_stays n d (symbol the.End ∷ []) is = end_stays n d d.blocks is
  statement_stays n d (name word ∷ tokens) is = named_stays n d word tokens is
  statement_stays n d _ is = tt

-- ---- any line, and all of them

-- before the line `code` all names are known
record AreTold (d : Draft) : Type 0 where
  distinct : AreDistinct (names_in d)
  known : (d.stage ≡ stage.Code → ⊥) → AreKnown d.names (names_in d)

told : (read : Result Draft PardoKind) → IfOk read HaveNames → IfOk read AreTold
told (Ok d) is = record { distinct = is.distinct; known = λ _. is.known }
told (Err kind) is = tt

stayed : (d : Draft) (read : Result Draft PardoKind) → AreTold d →
    IfOk read (Has d.arrays d.privates) → IfOk read AreTold
stayed d (Ok next) is has = record {
  distinct = subst AreDistinct (sym (ap₂ names_among has.arrays_are has.privates_are)) is.distinct;
  known = λ other. absurd (other has.in_code);
}
stayed d (Err kind) is has = tt

at_named : (next : Stage) (n : ℕ) (d : Draft) (tokens : List Token) → d.stage ≡ next →
    AreTold d → IfOk (line_in_stage next n d tokens) AreTold
at_named stage.Version n d tokens e is =
    told (version_line d tokens) (version_names d tokens (record {
      distinct = is.distinct;
      known = is.known (λ code. let other : stage.Version ≡ stage.Code = sym e ∙ code in cc);
    }))
at_named stage.Rule n d tokens e is =
    told (rule_line d tokens) (rule_names d tokens (record {
      distinct = is.distinct;
      known = is.known (λ code. let other : stage.Rule ≡ stage.Code = sym e ∙ code in cc);
    }))
at_named stage.Header n d tokens e is =
    told (header_line d tokens) (header_names d tokens (record {
      distinct = is.distinct;
      known = is.known (λ code. let other : stage.Header ≡ stage.Code = sym e ∙ code in cc);
    }))
at_named stage.Code n d tokens e is =
    stayed d (statement_line n d tokens) is (statement_stays d.arrays d.privates n d tokens
    (record { arrays_are = refl; privates_are = refl; in_code = e }))

tokens_named : (n : ℕ) (d : Draft) (tokens : List Token) → AreTold d →
    IfOk (with_tokens n d tokens) AreTold
tokens_named n d [] is = is
tokens_named n d (token ∷ tokens) is = at_named d.stage n d (token ∷ tokens) refl is

text_line_named : (n : ℕ) (d : Draft) (line : List ℕ) → AreTold d →
    IfOk (with_text_line n d line) AreTold
unfolding with_text_line
text_line_named n d line is =
    ok_if (not (is_readable line)) _ _ AreTold (λ _. tt)
    (λ _. ok_after (tokens_of (said_in line)) _ AreTold (λ tokens. tokens_named n d tokens is))

abbrev HasDistinct : ProgramData → Type 0
HasDistinct program = AreDistinct (variable_names program)

finished_named : (next : Stage) (blocks : List Block) (lines : List Line) (d : Draft) →
    AreTold d → IfOk (finished_draft next blocks lines d) HasDistinct
finished_named stage.Version blocks lines d is = tt
finished_named stage.Rule blocks lines d is = tt
finished_named stage.Header blocks lines d is = tt
finished_named stage.Code (block ∷ blocks) lines d is = tt
finished_named stage.Code [] [] d is = tt
finished_named stage.Code [] (first ∷ lines) d is = is.distinct

program_named : (d : Draft) → AreTold d → IfOk (program_in d) HasDistinct
unfolding program_in
program_named d is = finished_named d.stage d.blocks d.lines d is

after_named : (lines : List (List ℕ)) (n : ℕ) (d : Draft) → AreTold d →
    IfOk (program_after d n lines) HasDistinct
after_named [] n d is = on_line_kept HasDistinct n (program_in d) (program_named d is)
after_named (line ∷ lines) n d is =
    and_then_kept AreTold HasDistinct (on_line (n + 1) (with_text_line (n + 1) d line)) _
    (on_line_kept AreTold (n + 1) (with_text_line (n + 1) d line)
    (text_line_named (n + 1) d line is))
    (λ next is_next. after_named lines (n + 1) next is_next)

pub names_are_distinct : NamesAreDistinct
unfolding program_of
names_are_distinct text = after_named (lines_of text) 0 empty
    (record { distinct = tt; known = λ _. tt })
