-- Tests of indices are left out, node by node.
use Rattle.std.proofs.Common.{◌≡◌, ℕ, ◌<◌, Bool, false, List, [], ◌∷◌, ◌++◌, length, drop, map}
use Rattle.std.proofs.Common.{refl, sym, ap, ◌∙◌, arith, append_assoc}
use Rattle.std.proofs.Common.{◌+◌, zero, suc, get_or, take, nat_le, slice_get}
use Rattle.std.proofs.Math.ListN.{set}
use Rattle.std.proofs.Common.{◌||◌, true, false, Option}
use Rattle.std.specs.List.{list_any}
use Rattle.std.proofs.lemmas.List.Folds.{list_any-append}
use Rattle.std.proofs.lemmas.List.{same_from_push}
use Rattle.pardo_program.specs.declared.expression.Node.{Node}
use Rattle.pardo_program.specs.declared.expression.Node.TheVariants.{Number, Own, Loop, Private}
use Rattle.pardo_program.specs.declared.expression.Node.TheVariants.{Place, Apply}
use Rattle.pardo_program.specs.declared.operation.Op.{Op}
use Rattle.pardo_program.specs.declared.operation.Op.TheVariants.{Within}
use Rattle.pardo_program.specs.Inner.Untested.{is_test}
use Rattle.pardo_program.specs.Expression.{Tree, number, own, loop, private, place, apply, postfix}
use Rattle.pardo_program.specs.Expression.{first_of, with_node}
use Rattle.pardo_program.specs.Folding.{constant_of}
use Rattle.pardo_program.specs.Inner.Postfixes.{postfixes, HasOperands}
use Rattle.pardo_program.specs.declared.statement.Line.{Line}
use Rattle.pardo_program.specs.declared.statement.Statement.{Statement}
use Rattle.pardo_program.specs.declared.statement.Statement.TheVariants as statement
use Rattle.pardo_program.specs.Tests.{Known, is_below, is_most_below, is_rest_below, untested}
use Rattle.pardo_program.specs.Tests.{without_tests}
use Rattle.pardo_program.specs.Tests.{known_after, lines_untested, statement_untested}

-- ---- the last node

abbrev last_node : Tree → Node
last_node (number k) = Number k
last_node own = Own
last_node (loop nest) = Loop nest
last_node (private x) = Private x
last_node (place array index) = Place array
last_node (apply op first second) = Apply op

-- the trees of the nodes before the last one
abbrev popped : Tree → List Tree → List Tree
popped (place array index) trees = index ∷ trees
popped (apply op first second) trees = second ∷ first ∷ trees
popped tree trees = trees

last_apart : (tree : Tree) (trees : List Tree) →
    postfixes (tree ∷ trees) ≡ postfixes (popped tree trees) ++ last_node tree ∷ []
last_apart (number k) trees = refl
last_apart own trees = refl
last_apart (loop nest) trees = refl
last_apart (private x) trees = refl
last_apart (place array index) trees =
    sym (append_assoc (postfixes trees) (postfix index) (Place array ∷ []))
last_apart (apply op first second) trees =
    sym (append_assoc (postfixes trees ++ postfix first) (postfix second) (Apply op ∷ [])
    ∙ append_assoc (postfixes trees) (postfix first) (postfix second ++ Apply op ∷ []))

last_is : (tree : Tree) (trees : List Tree) (nodes front : List Node) (last : Node) →
    nodes ≡ postfixes (tree ∷ trees) → nodes ≡ front ++ last ∷ [] →
    (front ≡ postfixes (popped tree trees)) × (last ≡ last_node tree)
last_is tree trees nodes front last e f =
    same_from_push front (postfixes (popped tree trees)) last (last_node tree)
    (sym f ∙ e ∙ last_apart tree trees)

-- ---- whether the last one is below a bound

-- what the last node alone tells
abbrev pub below_by : Known → ℕ → Tree → Node → Bool
below_by known n tree (Number k) = false
below_by known n tree Own = nat_le known.procs n
below_by known n tree (Loop nest) = is_most_below n (slice_get known.loops nest)
below_by known n tree (Private x) = is_most_below n (slice_get known.privates x)
below_by known n tree (Place array) = false
below_by known n tree (Apply op) = is_below known n tree

below_last : (known : Known) (n : ℕ) (tree : Tree) →
    below_by known n tree (last_node tree) ≡ is_below known n tree
unfolding is_below
below_last known n (number k) = refl
below_last known n own = refl
below_last known n (loop nest) = refl
below_last known n (private x) = refl
below_last known n (place array index) = refl
below_last known n (apply op first second) = refl

pub below_node : (known : Known) (n : ℕ) (trees : List Tree) (nodes front : List Node)
    (last : Node) → nodes ≡ postfixes trees → 0 < length trees → nodes ≡ front ++ last ∷ [] →
    below_by known n (first_of trees) last ≡ is_below known n (first_of trees)
below_node known n [] nodes front last e some f = absurd (omega arith)
below_node known n (tree ∷ trees) nodes front last e some f =
    ap (below_by known n tree) (last_is tree trees nodes front last e f).1
    ∙ below_last known n tree

-- an operation
pub below_applied : (known : Known) (n : ℕ) (trees : List Tree) (nodes front : List Node)
    (op : Op) (result : Bool) → nodes ≡ postfixes trees → 0 < length trees →
    nodes ≡ front ++ Apply op ∷ [] →
    ((by : Tree) (rest : List Tree) → front ≡ postfixes (by ∷ rest) →
    result ≡ is_rest_below n op (constant_of by)) →
    result ≡ is_below known n (first_of trees)
unfolding is_below
below_applied known n [] nodes front op result e some f shared = absurd (omega arith)
below_applied known n (tree ∷ trees) nodes front op result e some f shared =
    by_tree tree (last_is tree trees nodes front (Apply op) e f)
  where
    by_tree : (tree : Tree) →
        (front ≡ postfixes (popped tree trees)) × (Apply op ≡ last_node tree) →
        result ≡ is_below known n tree
    by_tree (number k) is = absurd (let no : Apply op ≡ Number k = is.1 in cc)
    by_tree own is = absurd (let no : Apply op ≡ Own = is.1 in cc)
    by_tree (loop nest) is = absurd (let no : Apply op ≡ Loop nest = is.1 in cc)
    by_tree (private x) is = absurd (let no : Apply op ≡ Private x = is.1 in cc)
    by_tree (place array index) is = absurd (let no : Apply op ≡ Place array = is.1 in cc)
    by_tree (apply other divided by) is =
        let node : Apply op ≡ Apply other = is.1 in
        let same : op ≡ other = cc in
        shared by (divided ∷ trees) is.0 ∙ ap (λ o. is_rest_below n o (constant_of by)) same

-- ---- an expression without a test

no_either : (a b : Bool) → (a || b) ≡ false → (a ≡ false) × (b ≡ false)
no_either false b e = (refl, e)
no_either true b e = absurd (let no : true ≡ false = e in cc)

other_stays : (known : Known) (op : Op) (first second : Tree) (n : Option ℕ) →
    is_test (Apply op) ≡ false → untested known op first second n ≡ apply op first second
other_stays known Within first second n e = absurd (let no : true ≡ false = e in cc)
other_stays known op first second n e = refl

pub none_left_out : (known : Known) (tree : Tree) → list_any is_test (postfix tree) ≡ false →
    without_tests known tree ≡ tree
none_left_out known (number k) e = refl
none_left_out known own e = refl
none_left_out known (loop nest) e = refl
none_left_out known (private x) e = refl
none_left_out known (place array index) e =
    let parts = no_either (list_any is_test (postfix index)) _
    (sym (list_any-append is_test (postfix index) (Place array ∷ [])) ∙ e) in
    ap (place array) (none_left_out known index parts.0)
none_left_out known (apply op first second) e =
    let parts = no_either (list_any is_test (postfix first)) _
    (sym (list_any-append is_test (postfix first) (postfix second ++ Apply op ∷ [])) ∙ e) in
    let more = no_either (list_any is_test (postfix second)) _
    (sym (list_any-append is_test (postfix second) (Apply op ∷ [])) ∙ parts.1) in
    let last = no_either (is_test (Apply op)) false more.1 in
    let bound : Tree = without_tests known second in
    other_stays known op (without_tests known first) bound (constant_of bound) last.0
    ∙ ap (λ t. apply op t bound) (none_left_out known first parts.0)
    ∙ ap (λ t. apply op first t) (none_left_out known second more.0)

-- ---- one node more

pub place_untested : (known : Known) (array : ℕ) (trees before after : List Tree) →
    before ≡ map (without_tests known) trees → HasOperands trees (Place array) →
    after ≡ place array (first_of before) ∷ drop 1 before →
    after ≡ map (without_tests known) (with_node trees (Place array))
place_untested known array [] before after are ready made = absurd ready
place_untested known array (index ∷ trees) before after are ready made =
    made ∙ ap (λ (all : List Tree). place array (first_of all) ∷ drop 1 all) are

pub apply_untested : (known : Known) (op : Op) (trees before after : List Tree) →
    before ≡ map (without_tests known) trees → HasOperands trees (Apply op) →
    after ≡ untested known op (first_of (drop 1 before)) (first_of before)
    (constant_of (first_of before)) ∷ drop 2 before →
    after ≡ map (without_tests known) (with_node trees (Apply op))
apply_untested known op [] before after are ready made = absurd ready
apply_untested known op (second ∷ []) before after are ready made = absurd ready
apply_untested known op (second ∷ first ∷ trees) before after are ready made =
    made ∙ ap (λ (all : List Tree). untested known op (first_of (drop 1 all)) (first_of all)
    (constant_of (first_of all)) ∷ drop 2 all) are

pub one_there : (known : Known) (array : ℕ) (trees before : List Tree) →
    before ≡ map (without_tests known) trees → HasOperands trees (Place array) → 0 < length before
one_there known array [] before are ready = absurd ready
one_there known array (index ∷ trees) before are ready =
    let e = ap (λ (all : List Tree). length all) are in omega (arith, e)

pub two_there : (known : Known) (op : Op) (trees before : List Tree) →
    before ≡ map (without_tests known) trees → HasOperands trees (Apply op) → 1 < length before
two_there known op [] before are ready = absurd ready
two_there known op (second ∷ []) before are ready = absurd ready
two_there known op (second ∷ first ∷ trees) before are ready =
    let e = ap (λ (all : List Tree). length all) are in omega (arith, e)

-- ---- lines

same_known : (known : Known) (said : Statement) →
    known_after known (statement_untested known said) ≡ known_after known said
same_known known (statement.Assign to value) = refl
same_known known (statement.If condition) = refl
same_known known statement.Else = refl
same_known known statement.EndIf = refl
same_known known (statement.While condition end) = refl
same_known known (statement.EndWhile begin) = refl
same_known known (statement.For nest first last up end) = refl
same_known known (statement.EndFor begin) = refl

abbrev line_untested : Known → Line → Line
line_untested known line = record line { statement = statement_untested known line.statement }

line_done : (known : Known) (lines : List Line) (i : ℕ) (d new : Line) → i < length lines →
    new ≡ line_untested known (get_or lines i d) →
    take (suc i) (set lines i new)
    ++ lines_untested (known_after known new.statement) (drop (suc i) (set lines i new))
    ≡ take i lines ++ lines_untested known (drop i lines)
line_done known [] i d new lt is = absurd (omega (arith, lt))
line_done known (line ∷ lines) zero d new lt is =
    ap (λ (n : Line). n ∷ lines_untested (known_after known n.statement) lines) is
    ∙ ap (λ (k : Known). line_untested known line ∷ lines_untested k lines)
    (same_known known line.statement)
line_done known (line ∷ lines) (suc i) d new lt is =
    ap (λ (rest : List Line). line ∷ rest)
    (line_done known lines i d new (omega (arith, lt)) is)

pub line_more : (known : Known) (lines all : List Line) (i : ℕ) (d new : Line) →
    i < length lines → new ≡ record (get_or lines i d)
    { statement = statement_untested known (get_or lines i d).statement } →
    take i lines ++ lines_untested known (drop i lines) ≡ all →
    take (i + 1) (set lines i new)
    ++ lines_untested (known_after known new.statement) (drop (i + 1) (set lines i new)) ≡ all
line_more known lines all i d new lt is so_far =
    ap (λ n. take n (set lines i new)
    ++ lines_untested (known_after known new.statement) (drop n (set lines i new)))
    (let a : i + 1 ≡ suc i = omega arith in a)
    ∙ line_done known lines i d new lt is ∙ so_far
