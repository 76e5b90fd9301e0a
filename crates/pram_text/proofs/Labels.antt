-- Instructions and their labels, one line more.
use Rattle.std.proofs.Common.{◌≡◌, ◌≢◌, ℕ, ◌+◌, ◌<◌, ◌≤◌, List, [], ◌∷◌, ◌++◌, length, map}
use Rattle.std.proofs.Common.{Ok, Option, Some, None, refl, ap, ap₂, sym, ◌∙◌, Bool, true}
use Rattle.std.proofs.Common.{false, not, cond, is_some, get_or, if◌then◌else◌, arith}
use Rattle.std.proofs.Common.{nat_le, IfSome, IsTrue, position, bytes_eq, Bor, BTreeMap}
use Rattle.std.proofs.Common.{⊎_elim, le-leb, lt-ltb, eq-eqb, ne_eqb, le-ltb, bytes_eq}
use Rattle.std.specs.List.{list_any, position_or_len}
use Rattle.std.specs.Result.{result_err}
use Rattle.std.proofs.lemmas.Bool.{or_parts, cases_Bool, lt-leb, leb-true, leb-false, both_ways}
use Rattle.std.proofs.lemmas.List.{map-append, length_push, length-map}
use Rattle.std.proofs.lemmas.List.Elements.{All-push}
use Rattle.std.proofs.lemmas.List.Folds.{list_any_at, position_or_len_push}
use Rattle.std.proofs.lemmas.List.Quantifiers.{all_pairs_push}
use Rattle.std.proofs.lemmas.Slice.Eq.{bytes_eq-Decides}
use Rattle.pram_text.specs.declared.fault.TextKind.{TextKind}
use Rattle.pram_text.specs.declared.fault.TextKind.TheVariants.{TooLong, UnknownInstruction}
use Rattle.pram_text.specs.declared.fault.TextKind.TheVariants.{DuplicateLabel}
use Rattle.pram_text.specs.declared.program.Program.{Program}
use Rattle.pram_text.specs.declared.program.Written.{Written}
use Rattle.pram_text.specs.declared.statement.Statement.{Statement}
use Rattle.text_lines.specs.Lines.{Line, Word}
use Rattle.pram_text.specs.Judgement.{label_of, unlabelled, is_name, Scope, instr_of}
use Rattle.pram_text.specs.Judgement.{index_in}
use Rattle.text_lines.specs.Reads.{◌>>=◌}
use Rattle.pram_text.specs.Inner.Reading.{HoldsCode, HoldsIndices, label_at, define_fault}
use Rattle.pram_text.specs.Inner.Statement.{resolved, aimed, ReadsLine}
use Rattle.pram_job.specs.declared.limits.TheConstants.{MAX_CODE}
use Rattle.pram_text.specs.Text.{instr_fault, new_label_fault, label_fault}
use Rattle.pram_text.specs.Text.{is_named, defines, IsLabelled}

-- ---- the first index that passes

position_or_len-none : {X : Type 0} (p : X → Bool) (xs : List X) → list_any p xs ≡ false →
    position_or_len p xs ≡ length xs
position_or_len-none p [] e = refl
position_or_len-none p (x ∷ xs) e =
    let h = or_parts (p x) (list_any p xs) e in
    rw h.0 (omega (arith, position_or_len-none p xs h.1))

position_or_len-some : {X : Type 0} (p : X → Bool) (xs : List X) → list_any p xs ≡ true →
    position_or_len p xs < length xs
position_or_len-some p [] e = cc
position_or_len-some p (x ∷ xs) e =
    ⊎_elim (λ yes. rw yes (omega arith)) (λ no. let rest = rw no at e in
    rw no (omega (arith, position_or_len-some p xs rest))) (cases_Bool (p x))

position-at : {X : Type 0} (p : X → Bool) (xs : List X) (n : ℕ) → position_or_len p xs ≡ n →
    n < length xs → position p xs ≡ Some n
position-at p xs n e l = ap (λ b. cond b (Some (position_or_len p xs)) None)
    (lt-ltb (position_or_len p xs) (length xs) (omega arith)) ∙ ap Some e

position-past : {X : Type 0} (p : X → Bool) (xs : List X) →
    length xs ≤ position_or_len p xs → position p xs ≡ None
position-past p xs l = ap (λ b. cond b (Some (position_or_len p xs)) None)
    (le-ltb (position_or_len p xs) (length xs) l)

pub position-none : {X : Type 0} (p : X → Bool) (xs : List X) →
    list_any p xs ≡ false → position p xs ≡ None
position-none p xs e = position-past p xs (omega (arith, position_or_len-none p xs e))

pub is_some-position : {X : Type 0} (p : X → Bool) (xs : List X) →
    is_some (position p xs) ≡ list_any p xs
is_some-position p xs =
    ⊎_elim (λ yes. ap is_some (position-at p xs _ refl (position_or_len-some p xs yes)) ∙ sym yes)
    (λ no. ap is_some (position-none p xs no) ∙ sym no) (cases_Bool (list_any p xs))

pub position-push_first : {X : Type 0} (p : X → Bool) (xs : List X) (y : X) →
    list_any p xs ≡ false → position p (xs ++ y ∷ []) ≡ cond (p y) (Some (length xs)) None
position-push_first p xs y e =
    let at : position_or_len p (xs ++ y ∷ []) ≡ length xs + cond (p y) 0 1 = position_or_len_push p
    xs y ∙ ap (λ b. cond b (length xs + cond (p y) 0 1) (position_or_len p xs))
    (eq-eqb _ _ (position_or_len-none p xs e)) in
    let len : length (xs ++ y ∷ []) ≡ length xs + 1 = length_push xs y in ⊎_elim
    (λ yes. let here : position_or_len p (xs ++ y ∷ []) ≡ length xs + 0 =
    at ∙ ap (λ b. length xs + cond b 0 1) yes in
    position-at p (xs ++ y ∷ []) (length xs) (omega arith) (omega arith)
    ∙ sym (ap (λ b. cond b (Some (length xs)) None) yes))
    (λ no. let past : position_or_len p (xs ++ y ∷ []) ≡ length xs + 1 =
    at ∙ ap (λ b. length xs + cond b 0 1) no in
    position-past p (xs ++ y ∷ []) (omega arith)
    ∙ sym (ap (λ b. cond b (Some (length xs)) None) no))
    (cases_Bool (p y))

pub position-push_later : {X : Type 0} (p : X → Bool) (xs : List X) (y : X) → list_any p xs ≡ true →
    position p (xs ++ y ∷ []) ≡ position p xs
position-push_later p xs y e =
    let below : position_or_len p xs < length xs = position_or_len-some p xs e in
    let len : length (xs ++ y ∷ []) ≡ length xs + 1 = length_push xs y in
    let at : position_or_len p (xs ++ y ∷ []) ≡ position_or_len p xs = position_or_len_push p xs y
    ∙ ap (λ b. cond b (length xs + cond (p y) 0 1) (position_or_len p xs))
    (ne_eqb _ _ (λ same. omega arith)) in
    position-at p (xs ++ y ∷ []) (position_or_len p xs) at (omega arith)
    ∙ sym (position-at p xs _ refl below)

-- ---- labels

pub label_fault-held : (body : List Line) (indices : BTreeMap (Bor (List ℕ)) ℕ) (line : Line) →
    HoldsIndices body indices → label_fault body line ≡ define_fault indices (label_of line)
unfolding label_fault
label_fault-held body indices line h =
    ap (λ is_known. new_label_fault is_known (label_of line))
    (λ i name. (sym (is_some-position (defines name) body) ∙ ap is_some (sym (h name))) i)

-- a label without fault is a name that no line before defines
new_label : (body : List Line) (label : Word) →
    new_label_fault (λ label. list_any (defines label) body) (Some label) ≡ None →
    (is_name label ≡ true) × (list_any (defines label) body ≡ false)
new_label body label e = picked (is_name label) (list_any (defines label) body) e where
  picked : (a b : Bool) →
      (if not a then Some UnknownInstruction else (if b then Some DuplicateLabel else None))
      ≡ None → (a ≡ true) × (b ≡ false)
  picked false b e = cc
  picked true true e = cc
  picked true false e = (refl, refl)

label_is_new : (body : List Line) (line : Line) (label : Word) → label_fault body line ≡ None →
    label_of line ≡ Some label → (is_name label ≡ true) × (list_any (defines label) body ≡ false)
unfolding label_fault
label_is_new body line label e l = new_label body label (rw (l, label_fault) at e)

name_itself : (a : Word) → bytes_eq a a ≡ true
name_itself a = (bytes_eq-Decides a a).1 refl

named_label : (o : Option Word) (name : Word) → is_named o name ≡ true → o ≡ Some name
named_label None name e = cc
named_label (Some label) name e = ap Some ((bytes_eq-Decides label name).0 e)

pub HoldsIndices-push : (body : List Line) (old new : BTreeMap (Bor (List ℕ)) ℕ) (line : Line) →
    HoldsIndices body old → label_fault body line ≡ None → ((name : Word) → label_at new name
    ≡ (if is_named (label_of line) name then Some (length body) else label_at old name)) →
    HoldsIndices (body ++ line ∷ []) new
HoldsIndices-push body old new line h fine put name = ⊎_elim (λ yes.
    let named = (label_is_new body line name fine (named_label (label_of line) name yes)).1 in
    put name ∙ ap (λ b. if b then Some (length body) else label_at old name) yes
    ∙ sym (position-push_first (defines name) body line named
    ∙ ap (λ b. cond b (Some (length body)) None) yes))
    (λ no.
    put name ∙ ap (λ b. if b then Some (length body) else label_at old name) no ∙ h name ∙ ⊎_elim
    (λ known. sym (position-push_later (defines name) body line known))
    (λ new. position-none (defines name) body new ∙ sym (position-push_first (defines name)
    body line new ∙ ap (λ b. cond b (Some (length body)) None) no))
    (cases_Bool (list_any (defines name) body)))
    (cases_Bool (is_named (label_of line) name))

label_is_name : (body : List Line) (line : Line) → label_fault body line ≡ None →
    IfSome (label_of line) (λ label. IsTrue (is_name label))
label_is_name body line fine = by_label (label_of line) refl where
  by_label : (o : Option Word) → label_of line ≡ o → IfSome o (λ label. IsTrue (is_name label))
  by_label None e = tt
  by_label (Some label) e = (label_is_new body line label fine e).0

-- two lines do not define one label
abbrev AreApart : Line → Line → Type 0
AreApart a b = (label : Word) → label_of a ≡ Some label → label_of b ≢ Some label

label_is_apart : (body : List Line) (line : Line) → label_fault body line ≡ None →
    (k : ℕ) (d : Line) → k < length body → AreApart (get_or body k d) line
label_is_apart body line fine k d l label here again =
    let defined : defines label (get_or body k d) ≡ true =
    ap (λ o. is_named o label) here ∙ name_itself label in
    both_ways _ (label_is_new body line label fine again).1
    (list_any_at (defines label) body k d l defined)

-- ---- one line more

pub IsLabelled-none : IsLabelled []
IsLabelled-none = record {
  few = omega arith;
  names = λ k d l. absurd (omega arith);
  once = λ i j d l h. absurd (omega arith);
}

pub IsLabelled-push : (body : List Line) (line : Line) → IsLabelled body → length body < MAX_CODE →
    label_fault body line ≡ None → IsLabelled (body ++ line ∷ [])
IsLabelled-push body line h below fine = record {
  few = omega (arith, length_push body line);
  names = All-push (λ l. IfSome (label_of l) (λ label. IsTrue (is_name label))) body line h.names
      (label_is_name body line fine);
  once = all_pairs_push AreApart body line h.once (label_is_apart body line fine);
}

pub HoldsCode-push : (scope : Scope) (body : List Line) (old new : Program) (line : Line) (w : Written) →
    HoldsCode scope body old → length body < MAX_CODE → label_fault body line ≡ None →
    HoldsIndices (body ++ line ∷ []) new.indices → ReadsLine scope (unlabelled line) (Ok w.statement) →
    new.written.items ≡ old.written.items ++ w ∷ [] → HoldsCode scope (body ++ line ∷ []) new
HoldsCode-push scope body old new line w h below fine indices said items = record {
  labelled = IsLabelled-push body line h.labelled below fine;
  indices = indices;
  said = λ find. map-append (λ l. instr_of scope find (unlabelled l)) body (line ∷ []) ∙ ap₂ (λ xs r.
      xs ++ r ∷ []) (h.said find) (said find) ∙ sym (ap (map (λ w. resolved find w.statement)) items
      ∙ map-append (λ w. resolved find w.statement) old.written.items (w ∷ []));
}

-- ---- the fault of a line

pub instr_fault-long : (scope : Scope) (body : List Line) (line : Line) → MAX_CODE ≤ length body →
    instr_fault scope body line ≡ Some TooLong
unfolding instr_fault
instr_fault-long scope body line l = rw (le-leb MAX_CODE (length body) l) refl

pub instr_fault-label : (scope : Scope) (body : List Line) (line : Line) (kind : TextKind) →
    length body < MAX_CODE → label_fault body line ≡ Some kind → instr_fault scope body line ≡ Some kind
unfolding instr_fault
instr_fault-label scope body line kind l e = rw (lt-leb MAX_CODE (length body) l, e) refl

pub instr_fault-rest : (scope : Scope) (body : List Line) (line : Line) →
    length body < MAX_CODE → label_fault body line ≡ None →
    instr_fault scope body line ≡ result_err (instr_of scope (λ label. Some 0) (unlabelled line))
unfolding instr_fault
instr_fault-rest scope body line l e = rw (lt-leb MAX_CODE (length body) l, e) refl

pub resolved-known : (s : Statement) → result_err (resolved (λ label. Some 0) s) ≡ None
resolved-known s = elim s.target as (λ t. result_err (elim t [
  | None ↦ Ok s.instr
  | Some label ↦ index_in (λ label. Some 0) label.now >>= λ index. Ok (aimed s.instr index)
]) ≡ None) [ None ↦ refl | Some label ↦ refl ]

-- as many lines as statements
pub length-held : (scope : Scope) (body : List Line) (program : Program) → HoldsCode scope body program →
    length body ≡ length program.written.items
length-held scope body program h =
    sym (length-map body (λ line. instr_of scope (λ label. None) (unlabelled line)))
    ∙ ap length (h.said (λ label. None))
    ∙ length-map program.written.items (λ w. resolved (λ label. None) w.statement)

-- a line without a fault of its own
pub instr_fault-none : (scope : Scope) (body : List Line) (line : Line) → instr_fault scope body line ≡ None →
    (length body < MAX_CODE) × (label_fault body line ≡ None)
    × (result_err (instr_of scope (λ label. Some 0) (unlabelled line)) ≡ None)
unfolding instr_fault
instr_fault-none scope body line e = ⊎_elim (λ long.
    absurd (let some = instr_fault-long scope body line (leb-true MAX_CODE (length body) long) in cc))
    (λ few. let below = leb-false MAX_CODE (length body) few in
    by_label (label_fault body line) refl below) (cases_Bool (nat_le MAX_CODE (length body))) where
      by_label : (o : Option TextKind) → label_fault body line ≡ o → length body < MAX_CODE →
          (length body < MAX_CODE) × (label_fault body line ≡ None)
          × (result_err (instr_of scope (λ label. Some 0) (unlabelled line)) ≡ None)
      by_label None f below = (below, f, sym (instr_fault-rest scope body line below f) ∙ e)
      by_label (Some kind) f below =
          absurd (let some = instr_fault-label scope body line kind below f in cc)
