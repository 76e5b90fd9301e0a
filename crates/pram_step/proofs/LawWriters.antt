-- The writers of a place, and the first of them.
use Rattle.std.proofs.Common.{◌≡◌, ℕ, zero, suc, ◌+◌, ◌<◌, ◌≤◌, ◌⊎◌, List, [], ◌∷◌, Option}
use Rattle.std.proofs.Common.{Some, None, refl, sym, subst, ◌∙◌, inl, inr, ⊎_elim, arith}
use Rattle.std.specs.Prelude.{slice_get}
use Rattle.std.specs.Option.{option_or}
use Rattle.std.proofs.lemmas.Bool.{cases_lt}
use Rattle.std.proofs.lemmas.Option.{none-some, same_Some}
use Rattle.std.proofs.Math.Nat.{add-zero, zero-add}
use Rattle.pram_job.specs.Job.{JobData}
use Rattle.pram_machine.specs.declared.requests.Request.{Request}
use Rattle.pram_step.specs.Steps.{Writes, written, first_written}

-- a processor gives a place one value
pub written_once : (job : JobData) (requests : List Request) (p i v w : ℕ) →
    Writes job requests p i v → Writes job requests p i w → v ≡ w
written_once job requests p i v w a b =
    let same : a.request ≡ b.request = same_Some _ _ (sym a.request_is ∙ b.request_is) in
    let one : written job p i a.request ≡ Some w =
    subst (λ (r : Request). written job p i r ≡ Some w) (sym same) b.writes in
    same_Some _ _ (sym a.writes ∙ one)

pub or_none : {A : Type 0} (a b : Option A) → option_or a b ≡ None → (a ≡ None) × (b ≡ None)
or_none None b e = (refl, e)
or_none (Some x) b e = absurd (none-some x (sym e))

pub or_some : {A : Type 0} (a b : Option A) (v : A) → option_or a b ≡ Some v →
    (a ≡ Some v) ⊎ ((a ≡ None) × (b ≡ Some v))
or_some None b v e = inr (refl, e)
or_some (Some x) b v e = inl e

-- ---- where these requests are those of the processors from i on

none_from : (job : JobData) (p i : ℕ) (rs : List Request) → first_written job p i rs ≡ None →
    (k : ℕ) (r : Request) → slice_get rs k ≡ Some r → written job p (i + k) r ≡ None
none_from job p i [] e k r request_is = absurd (none-some r request_is)
none_from job p i (x ∷ rs) e zero r request_is =
    let is : x ≡ r = same_Some _ _ request_is in
    rw (add-zero, ← is) (or_none _ _ e).0
none_from job p i (x ∷ rs) e (suc k) r request_is =
    let there : i + suc k ≡ (i + 1) + k = omega arith in
    rw there (none_from job p (i + 1) rs (or_none _ _ e).1 k r request_is)

record FirstFrom (job : JobData) (p i : ℕ) (rs : List Request) (v : ℕ) : Type 0 where
  pub at : ℕ
  pub request : Request
  pub request_is : slice_get rs at ≡ Some request
  pub writes : written job p (i + at) request ≡ Some v
  pub none_before : (k : ℕ) (r : Request) → slice_get rs k ≡ Some r → k < at →
      written job p (i + k) r ≡ None

first_here : (job : JobData) (p i : ℕ) (x : Request) (rs : List Request) (v : ℕ) →
    written job p i x ≡ Some v → FirstFrom job p i (x ∷ rs) v
first_here job p i x rs v e = record {
  at = 0;
  request = x;
  request_is = refl;
  writes = rw add-zero e;
  none_before = λ k r request_is lt. absurd (omega arith);
}

none_before_tail : (job : JobData) (p i at : ℕ) (x : Request) (rs : List Request) →
    written job p i x ≡ None →
    ((k : ℕ) (r : Request) → slice_get rs k ≡ Some r → k < at →
    written job p ((i + 1) + k) r ≡ None) → (k : ℕ) (r : Request) → slice_get (x ∷ rs) k ≡ Some r →
    k < suc at → written job p (i + k) r ≡ None
none_before_tail job p i at x rs e before zero r request_is lt =
    let is : x ≡ r = same_Some _ _ request_is in
    rw (add-zero, ← is) e
none_before_tail job p i at x rs e before (suc k) r request_is lt =
    let there : i + suc k ≡ (i + 1) + k = omega arith in
    rw there (before k r request_is (omega arith))

first_later : (job : JobData) (p i : ℕ) (x : Request) (rs : List Request) (v : ℕ) →
    written job p i x ≡ None → FirstFrom job p (i + 1) rs v → FirstFrom job p i (x ∷ rs) v
first_later job p i x rs v e f =
    let there : i + suc f.at ≡ (i + 1) + f.at = omega arith in
    record {
      at = suc f.at;
      request = f.request;
      request_is = f.request_is;
      writes = rw there f.writes;
      none_before = none_before_tail job p i f.at x rs e f.none_before;
    }

first_from : (job : JobData) (p i : ℕ) (rs : List Request) (v : ℕ) →
    first_written job p i rs ≡ Some v → FirstFrom job p i rs v
first_from job p i [] v e = absurd (none-some v e)
first_from job p i (x ∷ rs) v e =
    ⊎_elim
    (λ here. first_here job p i x rs v here)
    (λ later. first_later job p i x rs v later.0 (first_from job p (i + 1) rs v later.1))
    (or_some _ _ v e)

-- ---- of all requests

-- processor i is the first that writes to the place, and writes v
pub record IsFirstWriter (job : JobData) (requests : List Request) (p i v : ℕ) : Type 0 where
  pub writes : Writes job requests p i v
  pub least : (j w : ℕ) → Writes job requests p j w → i ≤ j

pub no_writer : (job : JobData) (requests : List Request) (p : ℕ) →
    first_written job p 0 requests ≡ None → (i v : ℕ) → Writes job requests p i v → ⊥
no_writer job requests p e i v w =
    let none : written job p (0 + i) w.request ≡ None =
    none_from job p 0 requests e i w.request w.request_is in
    let here : written job p i w.request ≡ None = rw zero-add at none in
    none-some v (sym here ∙ w.writes)

pub first_writer : (job : JobData) (requests : List Request) (p v : ℕ) →
    first_written job p 0 requests ≡ Some v → (i : ℕ) × IsFirstWriter job requests p i v
first_writer job requests p v e =
    let f : FirstFrom job p 0 requests v = first_from job p 0 requests v e in
    let there : written job p f.at f.request ≡ Some v = rw zero-add at f.writes in
    let first : IsFirstWriter job requests p f.at v = record {
      writes = record { request = f.request; request_is = f.request_is; writes = there };
      least = λ j w other. ⊎_elim (λ before.
          let none : written job p (0 + j) other.request ≡ None =
          f.none_before j other.request other.request_is before in
          let here : written job p j other.request ≡ None = rw zero-add at none in
          absurd (none-some w (sym here ∙ other.writes)))
          (λ after. after) (cases_lt j f.at);
    } in
    (f.at, first)

-- the place has a first writer, which gives the value that is found
pub record HasFirst (job : JobData) (requests : List Request) (p : ℕ) : Type 0 where
  pub value : ℕ
  pub found : first_written job p 0 requests ≡ Some value
  pub writer : ℕ
  pub first : IsFirstWriter job requests p writer value

-- the place has no writer
pub record HasNone (job : JobData) (requests : List Request) (p : ℕ) : Type 0 where
  pub found : first_written job p 0 requests ≡ None
  pub none : (i v : ℕ) → Writes job requests p i v → ⊥

has_first : (job : JobData) (requests : List Request) (p v : ℕ) →
    first_written job p 0 requests ≡ Some v → HasFirst job requests p
has_first job requests p v e =
    let f : (i : ℕ) × IsFirstWriter job requests p i v = first_writer job requests p v e in
    record { value = v; found = e; writer = f.0; first = f.1 }

pub option_cases : {A C : Type 0} (o : Option A) → (o ≡ None → C) → ((v : A) → o ≡ Some v → C) → C
option_cases None f g = f refl
option_cases (Some v) f g = g v refl

pub writer_cases : (job : JobData) (requests : List Request) (p : ℕ) →
    HasNone job requests p ⊎ HasFirst job requests p
writer_cases job requests p =
    option_cases (first_written job p 0 requests)
    (λ e. inl (record { found = e; none = no_writer job requests p e }))
    (λ v e. inr (has_first job requests p v e))
