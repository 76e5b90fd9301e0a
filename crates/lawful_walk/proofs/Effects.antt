-- What each kind of write does to words that stand.
use Rattle.std.proofs.Common.{◌≡◌, ℕ, suc, ◌*◌, ◌≤◌, arith, ◌+◌, sym, subst, ◌∙◌, inl, inr}
use Rattle.std.proofs.lemmas.Bool.{cases_eq}
use Rattle.pram_words.specs.declared.phases.Kind.TheVariants.{Compute, Verify, Apply}
use Rattle.pram_words.specs.declared.words.Word.TheVariants.{Position}
use Rattle.pram_words.specs.Phases.{step_at, kind_at}
use Rattle.pram_words.specs.declared.phases.Kind.{Kind}
use Rattle.lawful_walk.proofs.Frames.{only_set}
use Rattle.lawful_walk.specs.Board.{phase_in}
use Rattle.lawful_walk.proofs.Raising.{inner_marks, jump_does, kind_of, leaf_marks}
use Rattle.lawful_walk.proofs.Setting.{conflict_does, claim_does, stored_does, asked_does}
use Rattle.lawful_walk.proofs.Setting.{store_keeps}
use Rattle.lawful_walk.specs.WordLaws.{WritesKeepWordsLawful}

-- the phase of a kind in a step
data Phase (x q : ℕ) : Type 0 where
  phase_is : (kind : Kind) → phase_in x kind ≡ q → Phase x q

phase_of_step : (x q : ℕ) → 1 ≤ q → step_at q ≡ suc x → Phase x q
phase_of_step x q some e = elim (cases_eq q (3 * x + 1)) [
  | inl a ↦ phase_is Compute (sym a)
  | inr n ↦ elim (cases_eq q (3 * x + 2)) [
    | inl a ↦ phase_is Apply (sym a)
    | inr m ↦ phase_is Verify (omega arith)
  ]
]

same_kind : (x q : ℕ) (kind : Kind) → Phase x q → kind_at q ≡ kind → phase_in x kind ≡ q
same_kind x q kind (phase_is k e) h =
    subst (λ (k : Kind). phase_in x k ≡ q) (sym (kind_of x q k e) ∙ h) e

pub phase_at : (x q : ℕ) (kind : Kind) → 1 ≤ q → step_at q ≡ suc x →
    kind_at q ≡ kind → phase_in x kind ≡ q
phase_at x q kind some step e = same_kind x q kind (phase_of_step x q some step) e

pub writes_keep : WritesKeepWordsLawful
writes_keep job y words q x stands some most step floor = record {
  request = λ compact i j proc part kind. asked_does job y words q x stands some most step floor
      compact i j proc part (phase_at x q Compute some step kind);
  inner = inner_marks job y words q x stands some most step floor;
  leaf = leaf_marks job y words q x stands some most step floor;
  jump = jump_does job y words q x stands some most step floor;
  place = λ p i v a b proc phase lands wins as_heard. stored_does job y words q x stands some most
      step floor p i v proc phase lands wins a b as_heard;
  conflict = λ kind not. conflict_does job y words q x stands some most step floor kind not
      (phase_at x q Verify some step kind);
  claim = λ c i v is phase asks.
      claim_does job y words q x stands some most step floor c i v is phase asks;
  position = λ w n worker low high. record {
    keeps = store_keeps job y w n words stands worker low high;
    others = (only_set y (Position w) n words stands.sizes stands.admitted.len worker).rest;
  };
}
