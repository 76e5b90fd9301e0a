-- The jumps of a job that a text spells go to its instructions.
use Rattle.std.proofs.Common.{◌≡◌, ℕ, ◌<◌, Bool, true, false, if◌then◌else◌, nat_lt}
use Rattle.std.proofs.Common.{List, [], ◌∷◌, length, map, Option, Some, None, Result, Ok, Err}
use Rattle.std.proofs.Common.{refl, sym, subst, ap, ◌∙◌, ⊎_elim, IfOk}
use Rattle.std.specs.List.{AllByRecursion, position_or_len}
use Rattle.std.specs.Option.{ok_or}
use Rattle.std.proofs.lemmas.Bool.{cases_Bool, ltb-true}
use Rattle.std.proofs.lemmas.List.{length-map}
use Rattle.std.proofs.lemmas.List.Elements.{All-from_recursion}
use Rattle.pram_text.specs.declared.fault.TextKind.{TextKind}
use Rattle.pram_text.specs.declared.fault.TextKind.TheVariants.{UnknownInstruction, WrongOperands}
use Rattle.pram_text.specs.declared.fault.TextKind.TheVariants.{UnknownLabel}
use Rattle.pram_job.specs.declared.instr.Instr.{Instr}
use Rattle.pram_job.specs.declared.instr.Operand.{Operand}
use Rattle.pram_job.specs.declared.instr.Operands.{Operands}
use Rattle.pram_job.specs.declared.instr.Operands.TheVariants as o
use Rattle.pram_job.specs.declared.instr.Place.{Place}
use Rattle.pram_job.specs.declared.instr.Place.TheVariants.{Cell, Named}
use Rattle.pram_job.specs.Instructions.{Form, bare, only_target, target_number, target_place}
use Rattle.pram_job.specs.Instructions.{target_two, place_value, register_index, only_index}
use Rattle.pram_job.specs.Instructions.{row_of, table}
use Rattle.pram_text.specs.Judgement.{Scope, made_of, instr_by, instr_of, index_in}
use Rattle.text_lines.specs.Reads.{◌>>=◌}
use Rattle.pram_text.specs.Judgement.{no_operand, one_register, two_operands, register_and_place}
use Rattle.pram_text.specs.Judgement.{place_operand, register_number, one_label, register_label}
use Rattle.pram_text.specs.Judgement.{unlabelled, is_later, register_of, number_in, most}
use Rattle.pram_text.specs.Judgement.{operand_of, array_at}
use Rattle.text_lines.specs.Lines.{Word, Line}
use Rattle.pram_text.specs.Text.{defines, label_index, scope_of}
use Rattle.pram_text.proofs.Table.{IsRow, table_is}
use Rattle.job_text.specs.Laws.{LandsWithin, SpelledJumpsLand}

-- the index of a label is that of a line
index_within : (body : List Line) (name : Word) (index : ℕ) →
    label_index body name ≡ Some index → index < length body
index_within body name index e =
    let p = position_or_len (defines name) body in
    ⊎_elim
    (λ low. let here : Some p ≡ Some index = rw low at e in
    let same : p ≡ index = cc in subst (λ n. n < length body) same (ltb-true p (length body) low))
    (λ high. let none : None ≡ Some index = rw high at e in cc)
    (cases_Bool (nat_lt p (length body)))

module _ (len : ℕ) where
  -- the instruction, if there is one, jumps to one of so many
  record Lands (r : Result Instr TextKind) : Type 0 where
    holds : IfOk r (λ instr. LandsWithin len (row_of instr).1)

  bad : (kind : TextKind) → Lands (Err kind)
  bad kind = record { holds = tt }

  made : (name : Word) (instr : Instr) (operands : Operands) → row_of instr ≡ (name, operands) →
      LandsWithin len operands → Lands (Ok instr)
  made name instr operands is h = record {
    holds = subst (λ (row : Word × Operands). LandsWithin len row.1) (sym is) h;
  }

  either : (b : Bool) (x y : Result Instr TextKind) → Lands x → Lands y →
      Lands (if b then x else y)
  either true x y h k = h
  either false x y h k = k

  after : {A : Type 0} (r : Result A TextKind) (f : A → Result Instr TextKind) →
      ((x : A) → Lands (f x)) → Lands (r >>= f)
  after (Ok x) f h = h x
  after (Err kind) f h = bad kind

  module _ (scope : Scope) (find : Word → Option ℕ)
      (within : (name : Word) (index : ℕ) → find name ≡ Some index → index < len) where
    at_label : (name : Word) (f : ℕ → Result Instr TextKind) →
        ((index : ℕ) → index < len → Lands (f index)) → Lands (index_in find name >>= f)
    at_label name f h = go (find name) (λ index e. within name index e)
      where
        go : (found : Option ℕ) → ((index : ℕ) → found ≡ Some index → index < len) →
            Lands (ok_or found UnknownLabel >>= f)
        go None low = bad UnknownLabel
        go (Some index) low = h index (low index refl)

    module _ (name : Word) where
      none : (instr : Instr) → row_of instr ≡ (name, o.Bare) → (words : Line) →
          Lands (no_operand instr words)
      none instr is [] = made name instr o.Bare is tt
      none instr is (word ∷ words) = bad WrongOperands

      one : (make : ℕ → Instr) → ((r : ℕ) → row_of (make r) ≡ (name, o.Target r)) →
          (words : Line) → Lands (one_register make words)
      one make is (r ∷ []) = after (register_of r) _
          (λ x. made name (make x) (o.Target x) (is x) tt)
      one make is _ = bad WrongOperands

      number : (make : ℕ → ℕ → Instr) →
          ((r n : ℕ) → row_of (make r n) ≡ (name, o.TargetNumber r n)) →
          (words : Line) → Lands (register_number make words)
      number make is (r ∷ n ∷ []) = after (register_of r) _ (λ x. after (number_in 0 most n) _ (λ y.
          made name (make x y) (o.TargetNumber x y) (is x y) tt))
      number make is _ = bad WrongOperands

      two : (make : ℕ → ℕ → Operand → Instr) →
          ((r a : ℕ) (b : Operand) → row_of (make r a b) ≡ (name, o.TargetTwo r a b)) →
          (words : Line) → Lands (two_operands scope.later make words)
      two make is (r ∷ a ∷ b ∷ []) = after (register_of r) _ (λ x. after (register_of a) _ (λ y.
          after (operand_of scope.later b) _ (λ z.
          made name (make x y z) (o.TargetTwo x y z) (is x y z) tt)))
      two make is _ = bad WrongOperands

      load : (make : ℕ → Place → Instr) →
          ((r : ℕ) (place : Place) → row_of (make r place) ≡ (name, o.TargetPlace r place)) →
          (words : Line) → Lands (register_and_place scope make words)
      load make is (r ∷ a ∷ []) = after (register_of r) _ (λ x.
          after (operand_of scope.later a) _ (λ y.
          made name (make x (Cell y)) (o.TargetPlace x (Cell y)) (is x (Cell y)) tt))
      load make is (r ∷ array ∷ a ∷ []) = either scope.later _ _
          (after (register_of r) _ (λ x. after (array_at scope array) _ (λ y.
          after (operand_of scope.later a) _ (λ z.
          made name (make x (Named y z)) (o.TargetPlace x (Named y z)) (is x (Named y z)) tt))))
          (bad WrongOperands)
      load make is _ = bad WrongOperands

      store : (make : Place → Operand → Instr) →
          ((place : Place) (b : Operand) → row_of (make place b) ≡ (name, o.PlaceValue place b)) →
          (words : Line) → Lands (place_operand scope make words)
      store make is (a ∷ b ∷ []) = after (operand_of scope.later a) _ (λ y.
          after (operand_of scope.later b) _ (λ z.
          made name (make (Cell y) z) (o.PlaceValue (Cell y) z) (is (Cell y) z) tt))
      store make is (array ∷ a ∷ b ∷ []) = either scope.later _ _
          (after (array_at scope array) _ (λ x. after (operand_of scope.later a) _ (λ y.
          after (operand_of scope.later b) _ (λ z.
          made name (make (Named x y) z) (o.PlaceValue (Named x y) z) (is (Named x y) z) tt))))
          (bad WrongOperands)
      store make is _ = bad WrongOperands

      jump : (make : ℕ → Instr) → ((index : ℕ) → row_of (make index) ≡ (name, o.Index index)) →
          (words : Line) → Lands (one_label find make words)
      jump make is (aim ∷ []) =
          at_label aim _ (λ index low. made name (make index) (o.Index index) (is index) low)
      jump make is _ = bad WrongOperands

      branch : (make : ℕ → ℕ → Instr) →
          ((r index : ℕ) → row_of (make r index) ≡ (name, o.RegisterIndex r index)) →
          (words : Line) → Lands (register_label find make words)
      branch make is (r ∷ aim ∷ []) = after (register_of r) _ (λ x. at_label aim _ (λ index low.
          made name (make x index) (o.RegisterIndex x index) (is x index) low))
      branch make is _ = bad WrongOperands

      form_lands : (form : Form) → IsRow name form → (words : Line) →
          Lands (made_of scope find form words)
      form_lands (bare instr) is words = none instr is words
      form_lands (only_target make) is words = one make is words
      form_lands (target_number make) is words = number make is words
      form_lands (target_place make) is words = load make is words
      form_lands (target_two make) is words = two make is words
      form_lands (place_value make) is words = store make is words
      form_lands (register_index make) is words = branch make is words
      form_lands (only_index make) is words = jump make is words

    rows_land : (rows : List (Word × Form)) →
        AllByRecursion (λ (row : Word × Form). IsRow row.0 row.1) rows →
        (name : Word) (words : Line) → Lands (instr_by rows scope find name words)
    rows_land [] are name words = bad UnknownInstruction
    rows_land (row ∷ rows) are name words =
        either _ _ _ (form_lands row.0 row.1 are.0 words) (rows_land rows are.1 name words)

    line_lands : (line : Line) → Lands (instr_of scope find line)
    unfolding instr_of
    line_lands [] = bad UnknownInstruction
    line_lands (name ∷ words) =
        rows_land (table scope.later) (table_is scope.later) name words

  all_land : (f : Line → Result Instr TextKind) → ((line : Line) → Lands (f line)) →
      (body : List Line) (code : List Instr) → map f body ≡ map (λ instr. Ok instr) code →
      AllByRecursion (λ instr. LandsWithin len (row_of instr).1) code
  all_land f lands [] [] e = tt
  all_land f lands [] (instr ∷ code) e = cc
  all_land f lands (line ∷ body) [] e = cc
  all_land f lands (line ∷ body) (instr ∷ code) e =
      let first : f line ≡ Ok instr = cc in
      let rest : map f body ≡ map (λ instr. Ok instr) code = cc in
      let here : Lands (Ok instr) = subst Lands first (lands line) in
      (here.holds, all_land f lands body code rest)

pub jumps_land : SpelledJumpsLand
jumps_land text job spells =
    let s = spells.lines in
    let scope = scope_of (is_later s.version) s.entries in
    let says : Line → Result Instr TextKind =
    λ line. instr_of scope (label_index s.body) (unlabelled line) in
    let len : length s.body ≡ length job.code =
    sym (length-map s.body says) ∙ ap length s.code.said ∙ length-map job.code _ in
    All-from_recursion (λ instr. LandsWithin (length job.code) (row_of instr).1) job.code
    (subst (λ n. AllByRecursion (λ instr. LandsWithin n (row_of instr).1) job.code) len
    (all_land (length s.body) says
    (λ line. line_lands (length s.body) scope (label_index s.body) (index_within s.body)
    (unlabelled line)) s.body job.code s.code.said))
