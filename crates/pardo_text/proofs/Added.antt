-- Expressions that were read onto others.
use Rattle.std.proofs.Common.{◌≡◌, List, ◌∷◌, drop, Result, sym, ap, ◌∙◌, subst}
use Rattle.pardo_text.specs.declared.fault.PardoKind.{PardoKind}
use Rattle.pardo_program.specs.declared.operation.Op.{Op}
use Rattle.pardo_program.specs.Expression.{Tree, first_of}
use Rattle.pardo_text.specs.Expressions.{Read, joined}
use Rattle.pardo_text.specs.Inner.Exprs.{Adds}
use Rattle.pardo_text.specs.Tokens.{Token}

pub adds_below : {X : Type 0} → (below old new : List Tree) (rest : List Token)
    (result : Result X PardoKind) (read : Read Tree) → below ≡ old →
    Adds below new rest result read → Adds old new rest result read
adds_below below old new rest result read e h =
    subst (λ (all : List Tree). Adds all new rest result read) e h

-- what is below the last one
pub below_is : (trees rest : List Tree) → trees ≡ first_of trees ∷ rest → drop 1 trees ≡ rest
below_is trees rest e = ap (λ all. drop 1 all) e

-- the last two, joined
pub joined_under : (op : Op) (one two : List Tree)
    (read : Result Tree PardoKind) → two ≡ first_of two ∷ one →
    joined op (first_of (drop 1 two)) (first_of two) ≡ read →
    joined op (first_of one) (first_of two) ≡ read
joined_under op one two read e f =
    ap (λ first. joined op first (first_of two))
    (sym (ap (λ all. first_of (drop 1 all)) e)) ∙ f

pub kept_below : (rest one two three : List Tree) → one ≡ first_of one ∷ rest →
    two ≡ first_of two ∷ one → three ≡ first_of three ∷ drop 2 two →
    three ≡ first_of three ∷ rest
kept_below rest one two three e f g =
    g ∙ ap (λ all. first_of three ∷ all)
    (ap (λ all. drop 2 all) f ∙ ap (λ all. drop 1 all) e)
