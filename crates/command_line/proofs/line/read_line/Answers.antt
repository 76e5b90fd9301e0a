use Rattle.std.proofs.Common.{◌≡◌, ◌&&◌, ◌⊎◌, Bool, true, false, Result}
use Rattle.std.proofs.Common.{Ok, Err, IsErrAnd, IfErr, List, [], inl, inr, refl, subst, sym}
use Rattle.std.proofs.Common.{MatchOption, Option, Some, None}
use Rattle.clap.proofs.OnLiterals.{clap_on_literals}
use Rattle.clap.specs.Words.{App, FailsBy, HasKind, HasMatchesOf, IsAmong, Kinds}
use Rattle.clap.specs.Words.{Text, fault_of, is_simple_and_free}
use Rattle.clap.specs.Words.{subcommand_of, subcommand_rows_of, takes}
use Rattle.clap.specs.declared.ArgMatches.{ArgMatches}
use Rattle.clap.specs.declared.error.Error.{Error}
use Rattle.clap.specs.declared.error.kind.ErrorKind.{ErrorKind}
use Rattle.clap.specs.declared.error.kind.ErrorKind.TheVariants.{OutOfMemory}
use Rattle.command_line.specs.CommandLine.{HasBadValue, IsLineGiven, pramx}
use Rattle.command_line.proofs.line.read_line.Goals as goal

err_from : {T E : Type 0} (r : Result T E) (P Q : E → Type 0) → IsErrAnd r P →
    ((e : E) → P e → Q e) → IfErr r Q
err_from (Ok v) P Q has from = absurd has
err_from (Err e) P Q has from = from e has

false_from : (b : Bool) → (b ≡ true → ⊥) → b ≡ false
false_from true never = absurd (never refl)
false_from false never = refl

-- where a taken line would bring K, and K is not so, the line is not taken
not_taken : (a b : App) (words : List Text) (K : Type 0) → a ≡ b → (takes a words ≡ true → K) →
    (K → ⊥) → takes b words ≡ false
not_taken a b words K same passes other =
    false_from (takes b words)
    (λ taken. other (passes (subst (λ (x : App). takes x words ≡ true) (sym same) taken)))

pub returns-in_err-matches-clause-refused : goal.returns-in_err-matches-clause-refused
returns-in_err-matches-clause-refused c =
    err_from c.from_residual-in_err-matches.result _ _ c.from_residual-in_err-matches.ensures.1
    (λ e same other. inl (not_taken _ pramx _ _ c.in_ok-command.ensures
    c.in_err-matches.ensures.passes (λ kind. other (rw same kind))))

is_simple_pramx : is_simple_and_free pramx ≡ true
unfolding clap_on_literals
is_simple_pramx = refl

-- what a simple command's matches show of its faults
no_fault : (a b : App) (words : List Text) → a ≡ b → is_simple_and_free b ≡ true →
    (is_simple_and_free a ≡ true → fault_of a words ≡ []) → fault_of b words ≡ []
no_fault a b words same simple none =
    subst (λ (x : App). fault_of x words ≡ []) same
    (none (subst (λ (x : App). is_simple_and_free x ≡ true) (sym same) simple))

first_true : (a b : Bool) → (a && b) ≡ true → a ≡ true
first_true true b both = refl
first_true false b both = both

-- the subcommand that a simple command met is the one of the words
same_subcommand : (a b : App) (words : List Text) (m : ArgMatches) → a ≡ b →
    is_simple_and_free b ≡ true → HasMatchesOf a words m →
    subcommand_rows_of m ≡ subcommand_of b words
same_subcommand a b words m same simple matches =
    (subst (λ (x : App). HasMatchesOf x words m) same matches (first_true _ _ simple)).1

bad_in_words : (a b : App) (words : List Text) (m : ArgMatches) → a ≡ b →
    is_simple_and_free b ≡ true → HasMatchesOf a words m → HasBadValue (subcommand_rows_of m) →
    HasBadValue (subcommand_of b words)
bad_in_words a b words m same simple matches bad =
    subst (λ met. HasBadValue met) (same_subcommand a b words m same simple matches) bad

-- the kind of a parse's error is one of the command's
kinds_at : (a b : App) (words : List Text) (k : ErrorKind) → a ≡ b → is_simple_and_free b ≡ true →
    (is_simple_and_free a ≡ true → (k ≡ OutOfMemory) ⊎ IsAmong k (fault_of a words)) →
    (k ≡ OutOfMemory) ⊎ IsAmong k (fault_of b words)
kinds_at a b words k same simple kinds =
    subst (λ (x : App). (k ≡ OutOfMemory) ⊎ IsAmong k (fault_of x words)) same
    (kinds (subst (λ (x : App). is_simple_and_free x ≡ true) (sym same) simple))

fails_by : {T : Type 0} (kinds : Kinds) (r : Result T Error) (P : Error → Type 0) → IsErrAnd r P →
    ((e : Error) → P e → HasKind kinds e) → FailsBy kinds r
fails_by kinds (Ok v) P has from = absurd has
fails_by kinds (Err e) P has from = from e has

pub returns-in_err-matches-clause-kinds : goal.returns-in_err-matches-clause-kinds
returns-in_err-matches-clause-kinds c =
    inl (fails_by _ c.from_residual-in_err-matches.result _ c.from_residual-in_err-matches.ensures.1
    (λ e same. rw same
    (kinds_at _ pramx _ _ c.in_ok-command.ensures is_simple_pramx c.in_err-matches.ensures.kinds)))

pub returns-in-Some-given_of-clause-given : goal.returns-in-Some-given_of-clause-given
returns-in-Some-given_of-clause-given c =
    subst (λ met. IsLineGiven c.args.on_terminal met c.in-Some-given_of.given)
    (same_subcommand _ pramx _ _ c.in_ok-command.ensures is_simple_pramx
    c.in_ok-matches.ensures.matches) c.in-Some-given_of.ensures

pub returns-in-Some-given_of-clause-kinds : goal.returns-in-Some-given_of-clause-kinds
returns-in-Some-given_of-clause-kinds c =
    inl (no_fault _ pramx _ c.in_ok-command.ensures is_simple_pramx c.in_ok-matches.ensures.kinds)

-- what was looked for among the values
found_bad : {T : Type 0} (found : Option T) (bad : T) (B : Type 0) →
    MatchOption found (B → ⊥) (λ _. B) → found ≡ Some bad → B
found_bad None bad B holds is = cc is
found_bad (Some it) bad B holds is = holds

found_none : {T : Type 0} (found : Option T) (B : Type 0) →
    MatchOption found (B → ⊥) (λ _. B) → found ≡ None → B → ⊥
found_none None B holds is = holds
found_none (Some it) B holds is = cc is

pub returns-in-Some-found-clause-refused : goal.returns-in-Some-found-clause-refused
returns-in-Some-found-clause-refused c = λ other.
    inr (bad_in_words _ pramx _ _ c.in_ok-command.ensures is_simple_pramx
    c.in_ok-matches.ensures.matches (found_bad _ _ _ c.in-Some.ensures c.in-Some-found.is))

pub returns-in-Some-found-clause-kinds : goal.returns-in-Some-found-clause-kinds
returns-in-Some-found-clause-kinds c =
    inr (
      bad_in_words _ pramx _ _ c.in_ok-command.ensures is_simple_pramx
          c.in_ok-matches.ensures.matches (found_bad _ _ _ c.in-Some.ensures c.in-Some-found.is),
      inr c.in_ok-value_error.ensures,
    )

-- a simple command's words have a bad value only where its matches do
bad_in_matches : (a b : App) (words : List Text) (m : ArgMatches) → a ≡ b →
    is_simple_and_free b ≡ true → HasMatchesOf a words m → HasBadValue (subcommand_of b words) →
    HasBadValue (subcommand_rows_of m)
bad_in_matches a b words m same simple matches bad =
    subst (λ met. HasBadValue met) (sym (same_subcommand a b words m same simple matches)) bad

pub returns-in-Some-given_of-clause-taken : goal.returns-in-Some-given_of-clause-taken
returns-in-Some-given_of-clause-taken c = λ none. elim none [
  | inl fault ↦ fault (no_fault _ pramx _ c.in_ok-command.ensures is_simple_pramx
      c.in_ok-matches.ensures.kinds)
  | inr bad ↦ found_none _ _ c.in-Some.ensures c.in_default-found.is
      (bad_in_matches _ pramx _ _ c.in_ok-command.ensures is_simple_pramx
      c.in_ok-matches.ensures.matches bad)
]
