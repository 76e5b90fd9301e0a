-- The values of an expression for all processors, by columns.
use Rattle.std.proofs.Common.{◌≡◌, ℕ, zero, suc, ◌+◌, ◌<◌, ◌≤◌, Bool, true, false, ◌&&◌, ◌==◌}
use Rattle.std.proofs.Common.{if◌then◌else◌, List, [], ◌∷◌, ◌++◌, length, drop, get_or, replicate}
use Rattle.std.proofs.Common.{Result, Ok, Err, refl, sym, ap, ◌∙◌, arith, append_assoc, append-nil}
use Rattle.std.proofs.Common.{drop-cons, add-one, length-append, length-drop, take, set, min}
use Rattle.std.specs.Prelude.{IfOk, IfErr}
use Rattle.std.proofs.lemmas.List.{drop_all, drop-set-lt, replicate_more, take_more_set}
use Rattle.std.proofs.lemmas.List.{take-append-drop}
use Rattle.pardo_text.specs.declared.fault.PardoKind.{PardoKind}
use Rattle.pardo_text.specs.declared.fault.PardoKind.TheVariants.{OutOfLimits}
use Rattle.pardo_program.specs.declared.operation.Op.{Op}
use Rattle.pardo_program.specs.declared.expression.Node.{Node}
use Rattle.pardo_program.specs.declared.expression.Node.TheVariants.{Place, Apply}
use Rattle.pardo_program.specs.Expression.{Tree, number, own, loop, private, place, apply, postfix}
use Rattle.pardo_text.specs.Inner.Columns.{below, quotients, with_column, column_after, top_of}
use Rattle.pardo_program.specs.Operations.{is_division, operation_value}
use Rattle.text_lines.specs.Reads.{◌>>=◌}
use Rattle.pardo_text.specs.Values.{value_for, values_for, quotient_of}

-- ---- parts one after another

bind_assoc : {A B C : Type 0} → (read : Result A PardoKind) (f : A → Result B PardoKind)
    (g : B → Result C PardoKind) → ((read >>= f) >>= g) ≡ (read >>= λ x. f x >>= g)
bind_assoc (Ok x) f g = refl
bind_assoc (Err kind) f g = refl

bind_same : {A B : Type 0} → (read : Result A PardoKind) (f g : A → Result B PardoKind) →
    ((x : A) → f x ≡ g x) → (read >>= f) ≡ (read >>= g)
bind_same (Ok x) f g e = e x
bind_same (Err kind) f g e = refl

bind_ok : {A : Type 0} → (read : Result A PardoKind) → (read >>= λ x. Ok x) ≡ read
bind_ok (Ok x) = refl
bind_ok (Err kind) = refl

-- ---- no fault but a division by 0

abbrev IsOutside : {A : Type 0} → Result A PardoKind → Type 0
IsOutside read = IfErr read (λ kind. kind ≡ OutOfLimits)

bind_outside : {A B : Type 0} → (read : Result A PardoKind) (f : A → Result B PardoKind) →
    IsOutside read → ((x : A) → IsOutside (f x)) → IsOutside (read >>= f)
bind_outside (Ok x) f e g = g x
bind_outside (Err kind) f e g = e

test_outside : (test : Bool) (value : ℕ) →
    IsOutside (if test then Err OutOfLimits else Ok value)
test_outside true value = refl
test_outside false value = tt

quotient_outside : (op : Op) (a b : ℕ) → IsOutside (quotient_of op a b)
quotient_outside op a b = test_outside (is_division op && (b == 0)) (operation_value op a b)

quotients_outside : (op : Op) (values others : List ℕ) → IsOutside (quotients op values others)
quotients_outside op [] others = tt
quotients_outside op (value ∷ values) [] = tt
quotients_outside op (value ∷ values) (other ∷ others) =
    bind_outside (quotient_of op value other) _ (quotient_outside op value other) (λ first.
    bind_outside (quotients op values others) _ (quotients_outside op values others) (λ rest. tt))

value_outside : (i : ℕ) (tree : Tree) → IsOutside (value_for i tree)
value_outside i (number value) = tt
value_outside i own = tt
value_outside i (loop nest) = tt
value_outside i (private x) = tt
value_outside i (place array index) = value_outside i index
value_outside i (apply op first second) =
    bind_outside (value_for i first) _ (value_outside i first) (λ a.
    bind_outside (value_for i second) _ (value_outside i second) (λ b. quotient_outside op a b))

values_outside : (n : ℕ) (tree : Tree) → IsOutside (values_for n tree)
values_outside zero tree = tt
values_outside (suc n) tree =
    bind_outside (values_for n tree) _ (values_outside n tree) (λ before.
    bind_outside (value_for n tree) _ (value_outside n tree) (λ value. tt))

-- ---- a value for each processor

longer : (before : Result (List ℕ) PardoKind) (value : Result ℕ PardoKind) (n : ℕ) →
    IfOk before (λ values. length values ≡ n) →
    IfOk (before >>= λ values. value >>= λ v. Ok (values ++ v ∷ []))
    (λ values. length values ≡ suc n)
longer (Ok values) (Ok v) n e = omega (arith, length-append values (v ∷ []))
longer (Ok values) (Err kind) n e = tt
longer (Err kind) value n e = tt

values_length : (n : ℕ) (tree : Tree) → IfOk (values_for n tree) (λ values. length values ≡ n)
values_length zero tree = refl
values_length (suc n) tree = longer (values_for n tree) (value_for n tree) n (values_length n tree)

-- ---- one processor more

regrouped : (first : ℕ) (rest : Result (List ℕ) PardoKind) (value : Result ℕ PardoKind) →
    ((rest >>= λ before. value >>= λ v. Ok (before ++ v ∷ [])) >>= λ all. Ok (first ∷ all))
    ≡ ((rest >>= λ all. Ok (first ∷ all)) >>= λ before. value >>= λ v. Ok (before ++ v ∷ []))
regrouped first (Ok rest) (Ok v) = refl
regrouped first (Ok rest) (Err kind) = refl
regrouped first (Err kind) value = refl

quotients-snoc : (op : Op) (values others : List ℕ) (a b : ℕ) → length values ≡ length others →
    quotients op (values ++ a ∷ []) (others ++ b ∷ [])
    ≡ (quotients op values others >>= λ before. quotient_of op a b >>= λ v.
    Ok (before ++ v ∷ []))
quotients-snoc op [] [] a b same = refl
quotients-snoc op [] (other ∷ others) a b same = absurd (omega arith)
quotients-snoc op (value ∷ values) [] a b same = absurd (omega arith)
quotients-snoc op (value ∷ values) (other ∷ others) a b same =
    bind_same (quotient_of op value other) _ _ (λ first.
    ap (λ read. read >>= λ rest. Ok (first ∷ rest))
    (quotients-snoc op values others a b (omega arith))
    ∙ regrouped first (quotients op values others) (quotient_of op a b))
    ∙ sym (bind_assoc (quotient_of op value other) _ _)

abbrev fault : PardoKind → Result (List ℕ) PardoKind
fault kind = Err kind

stopped : (read : Result (List ℕ) PardoKind) (kind : PardoKind) → IsOutside read →
    kind ≡ OutOfLimits → (read >>= λ x. fault kind) ≡ fault kind
stopped (Ok x) kind e f = refl
stopped (Err other) kind e f = ap Err (e ∙ sym f)

one_more : (op : Op) (n : ℕ) (firsts seconds : Result (List ℕ) PardoKind)
    (first second : Result ℕ PardoKind) →
    IfOk firsts (λ values. length values ≡ n) → IfOk seconds (λ values. length values ≡ n) →
    IsOutside seconds → IsOutside first → IsOutside second →
    ((firsts >>= λ a. seconds >>= λ b. quotients op a b) >>= λ before.
    (first >>= λ a. second >>= λ b. quotient_of op a b) >>= λ v. Ok (before ++ v ∷ []))
    ≡ ((firsts >>= λ before. first >>= λ v. Ok (before ++ v ∷ [])) >>= λ a.
    (seconds >>= λ before. second >>= λ v. Ok (before ++ v ∷ [])) >>= λ b. quotients op a b)
one_more op n (Ok a) (Ok b) (Ok u) (Ok v) la lb s f g =
    sym (quotients-snoc op a b u v (la ∙ sym lb))
one_more op n (Ok a) (Ok b) (Ok u) (Err kind) la lb s f g =
    stopped (quotients op a b) kind (quotients_outside op a b) g
one_more op n (Ok a) (Ok b) (Err kind) second la lb s f g =
    stopped (quotients op a b) kind (quotients_outside op a b) f
one_more op n (Ok a) (Err kind) (Ok u) second la lb s f g = refl
one_more op n (Ok a) (Err kind) (Err other) second la lb s f g = ap Err (s ∙ sym f)
one_more op n (Err kind) seconds first second la lb s f g = refl

-- ---- the column of each kind of expression

column-number : (n value : ℕ) → values_for n (number value) ≡ Ok (replicate n value)
column-number zero value = refl
column-number (suc n) value =
    ap (λ read. read >>= λ before. Ok (before ++ value ∷ [])) (column-number n value)
    ∙ ap Ok (replicate_more n value
    ∙ ap (λ k. replicate k value) (let more : n + 1 ≡ suc n = omega arith in more))

column-loop : (n nest : ℕ) → values_for n (loop nest) ≡ Ok (replicate n 0)
column-loop zero nest = refl
column-loop (suc n) nest =
    ap (λ read. read >>= λ before. Ok (before ++ 0 ∷ [])) (column-loop n nest)
    ∙ ap Ok (replicate_more n 0
    ∙ ap (λ k. replicate k 0) (let more : n + 1 ≡ suc n = omega arith in more))

column-private : (n x : ℕ) → values_for n (private x) ≡ Ok (replicate n 0)
column-private zero x = refl
column-private (suc n) x =
    ap (λ read. read >>= λ before. Ok (before ++ 0 ∷ [])) (column-private n x)
    ∙ ap Ok (replicate_more n 0
    ∙ ap (λ k. replicate k 0) (let more : n + 1 ≡ suc n = omega arith in more))

column-own : (n : ℕ) → values_for n own ≡ Ok (below n)
column-own zero = refl
column-own (suc n) = ap (λ read. read >>= λ before. Ok (before ++ n ∷ [])) (column-own n)

column-place : (n array : ℕ) (index : Tree) →
    values_for n (place array index) ≡ values_for n index
column-place zero array index = refl
column-place (suc n) array index =
    ap (λ read. read >>= λ before. value_for n index >>= λ v. Ok (before ++ v ∷ []))
    (column-place n array index)

column-apply : (n : ℕ) (op : Op) (first second : Tree) → values_for n (apply op first second)
    ≡ (values_for n first >>= λ a. values_for n second >>= λ b. quotients op a b)
column-apply zero op first second = refl
column-apply (suc n) op first second =
    ap (λ read. read >>= λ before. value_for n (apply op first second) >>= λ v.
    Ok (before ++ v ∷ [])) (column-apply n op first second)
    ∙ one_more op n (values_for n first) (values_for n second) (value_for n first)
    (value_for n second) (values_length n first) (values_length n second)
    (values_outside n second) (value_outside n first) (value_outside n second)

-- ---- a tree and its nodes

column_after-postfix : (n : ℕ) (tree : Tree) (nodes : List Node) (columns : List (List ℕ)) →
    column_after n (postfix tree ++ nodes) columns
    ≡ (values_for n tree >>= λ values. column_after n nodes (values ∷ columns))
column_after-postfix n (number value) nodes columns =
    sym (ap (λ read. read >>= λ values. column_after n nodes (values ∷ columns))
    (column-number n value))
column_after-postfix n own nodes columns =
    sym (ap (λ read. read >>= λ values. column_after n nodes (values ∷ columns)) (column-own n))
column_after-postfix n (loop nest) nodes columns =
    sym (ap (λ read. read >>= λ values. column_after n nodes (values ∷ columns))
    (column-loop n nest))
column_after-postfix n (private x) nodes columns =
    sym (ap (λ read. read >>= λ values. column_after n nodes (values ∷ columns))
    (column-private n x))
column_after-postfix n (place array index) nodes columns =
    ap (λ all. column_after n all columns) (append_assoc (postfix index) (Place array ∷ []) nodes)
    ∙ column_after-postfix n index (Place array ∷ nodes) columns
    ∙ sym (ap (λ read. read >>= λ values. column_after n nodes (values ∷ columns))
    (column-place n array index))
column_after-postfix n (apply op first second) nodes columns =
    ap (λ all. column_after n all columns)
    (append_assoc (postfix first) (postfix second ++ Apply op ∷ []) nodes
    ∙ ap (λ rest. postfix first ++ rest) (append_assoc (postfix second) (Apply op ∷ []) nodes))
    ∙ column_after-postfix n first (postfix second ++ Apply op ∷ nodes) columns
    ∙ bind_same (values_for n first) _ _ (λ a.
    column_after-postfix n second (Apply op ∷ nodes) (a ∷ columns)
    ∙ bind_same (values_for n second) _ _ (λ b. bind_assoc (quotients op a b) _ _)
    ∙ sym (bind_assoc (values_for n second) _ _))
    ∙ sym (bind_assoc (values_for n first) _ _)
    ∙ sym (ap (λ read. read >>= λ values. column_after n nodes (values ∷ columns))
    (column-apply n op first second))

pub column_after-tree : (n : ℕ) (tree : Tree) (nodes : List Node) → nodes ≡ postfix tree →
    values_for n tree ≡ column_after n nodes []
column_after-tree n tree nodes e =
    sym (ap (λ all. column_after n all []) (e ∙ sym (append-nil (postfix tree)))
    ∙ column_after-postfix n tree [] [] ∙ bind_ok (values_for n tree))

-- ---- the nodes that are left

column_after-cons : (n : ℕ) (nodes : List Node) (at : ℕ) (d : Node) (columns : List (List ℕ)) →
    at < length nodes → column_after n (drop at nodes) columns
    ≡ (with_column n (get_or nodes at d) columns >>= λ next.
    column_after n (drop (at + 1) nodes) next)
column_after-cons n nodes at d columns lt =
    rw add-one (ap (λ left. column_after n left columns) (drop-cons nodes at d lt))

pub column_after-next : (n : ℕ) (nodes : List Node) (at : ℕ) (d : Node)
    (columns next : List (List ℕ)) → at < length nodes →
    with_column n (get_or nodes at d) columns ≡ Ok next →
    column_after n (drop at nodes) columns ≡ column_after n (drop (at + 1) nodes) next
column_after-next n nodes at d columns next lt e =
    column_after-cons n nodes at d columns lt
    ∙ ap (λ read. read >>= λ next. column_after n (drop (at + 1) nodes) next) e

pub column_after-fault : (n : ℕ) (nodes : List Node) (at : ℕ) (d : Node)
    (columns : List (List ℕ)) (kind : PardoKind) → at < length nodes →
    with_column n (get_or nodes at d) columns ≡ Err kind →
    column_after n (drop at nodes) columns ≡ Err kind
column_after-fault n nodes at d columns kind lt e =
    column_after-cons n nodes at d columns lt
    ∙ ap (λ read. read >>= λ next. column_after n (drop (at + 1) nodes) next) e

pub column_after-all : (n : ℕ) (nodes : List Node) (at : ℕ) (columns : List (List ℕ)) →
    length nodes ≤ at → column_after n (drop at nodes) columns ≡ Ok (top_of columns)
column_after-all n nodes at columns few =
    ap (λ left. column_after n left columns) (drop_all at nodes few)

-- ---- the places of a column, one after the other

pub each_begins : (op : Op) (values others : List ℕ) → quotients op values others
    ≡ (quotients op (drop 0 values) (drop 0 others) >>= λ rest. Ok (take 0 values ++ rest))
each_begins op values others = sym (bind_ok (quotients op values others))

each_left : (op : Op) (values others : List ℕ) (k : ℕ) (d e : ℕ) (read : Result ℕ PardoKind) →
    k < length values → k < length others →
    quotient_of op (get_or values k d) (get_or others k e) ≡ read →
    (quotients op (drop k values) (drop k others) >>= λ rest. Ok (take k values ++ rest))
    ≡ (read >>= λ value. quotients op (drop (k + 1) values) (drop (k + 1) others) >>= λ rest.
    Ok (take k values ++ value ∷ rest))
each_left op values others k d e read lv lo is =
    rw add-one (
    ap (λ xs. quotients op xs (drop k others) >>= λ rest. Ok (take k values ++ rest))
    (drop-cons values k d lv)
    ∙ ap (λ ys. quotients op (get_or values k d ∷ drop (suc k) values) ys >>= λ rest.
    Ok (take k values ++ rest)) (drop-cons others k e lo)
    ∙ ap (λ one. (one >>= λ first. quotients op (drop (suc k) values) (drop (suc k) others) >>=
    λ rest. Ok (first ∷ rest)) >>= λ rest. Ok (take k values ++ rest)) is
    ∙ bind_assoc read _ _
    ∙ bind_same read _ _ (λ first.
    bind_assoc (quotients op (drop (suc k) values) (drop (suc k) others)) _ _))

pub each_next : (op : Op) (values others new : List ℕ) (k d e value : ℕ) →
    k < length values → k < length others →
    quotient_of op (get_or values k d) (get_or others k e) ≡ Ok value → new ≡ set values k value →
    (quotients op (drop k values) (drop k others) >>= λ rest. Ok (take k values ++ rest))
    ≡ (quotients op (drop (k + 1) new) (drop (k + 1) others) >>= λ rest.
    Ok (take (k + 1) new ++ rest))
each_next op values others new k d e value lv lo is set_is =
    let front : take (k + 1) new ≡ take k values ++ value ∷ [] =
    ap (λ xs. take (k + 1) xs) set_is ∙ take_more_set values k value lv in
    let back : drop (k + 1) new ≡ drop (k + 1) values =
    ap (λ xs. drop (k + 1) xs) set_is ∙ drop-set-lt (k + 1) values k value (omega arith) in
    each_left op values others k d e (Ok value) lv lo is
    ∙ sym (ap (λ xs. quotients op xs (drop (k + 1) others) >>= λ rest.
    Ok (take (k + 1) new ++ rest)) back
    ∙ bind_same (quotients op (drop (k + 1) values) (drop (k + 1) others)) _ _ (λ rest.
    ap Ok (ap (λ xs. xs ++ rest) front ∙ append_assoc (take k values) (value ∷ []) rest)))

pub each_fault : (op : Op) (values others : List ℕ) (k d e : ℕ) (kind : PardoKind) →
    k < length values → k < length others →
    quotient_of op (get_or values k d) (get_or others k e) ≡ Err kind →
    (quotients op (drop k values) (drop k others) >>= λ rest. Ok (take k values ++ rest))
    ≡ Err kind
each_fault op values others k d e kind lv lo is =
    each_left op values others k d e (Err kind) lv lo is

quotients-short : (op : Op) (values others : List ℕ) → min (length values) (length others) ≡ 0 →
    quotients op values others ≡ Ok values
quotients-short op [] others short = refl
quotients-short op (value ∷ values) [] short = refl
quotients-short op (value ∷ values) (other ∷ others) short = absurd (omega arith)

pub each_done : (op : Op) (values others : List ℕ) (k : ℕ) →
    min (length values) (length others) ≤ k →
    (quotients op (drop k values) (drop k others) >>= λ rest. Ok (take k values ++ rest))
    ≡ Ok values
each_done op values others k few =
    let none : min (length (drop k values)) (length (drop k others)) ≡ 0 =
    omega (arith, length-drop k values, length-drop k others) in
    ap (λ read. read >>= λ rest. Ok (take k values ++ rest))
    (quotients-short op (drop k values) (drop k others) none)
    ∙ ap Ok (take-append-drop k values)

-- ---- own numbers

pub below-more : (n : ℕ) → below (n + 1) ≡ below n ++ n ∷ []
below-more n = ap below (let more : n + 1 ≡ suc n = omega arith in more)
