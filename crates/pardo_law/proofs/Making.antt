-- What all processors make of some steps: quiet ones, and ones that end with a store.
use Rattle.std.proofs.Common.{◌≡◌, ℕ, zero, suc, ◌+◌, ◌<◌, List, [], ◌∷◌, ◌++◌, Option, Some, None}
use Rattle.std.proofs.Common.{refl, sym, ap, ◌∙◌, subst, length}
use Rattle.std.specs.Prelude.{slice_get, unwrap_or}
use Rattle.pram_job.specs.declared.instr.Instr.{Instr}
use Rattle.pram_job.specs.Job.{JobData, IsJob}
use Rattle.pardo_job.specs.Straight.{Registers, after_all}
use Rattle.pardo_law.specs.Locals.{Local, after_instr, next_local, local_store_by, local_store}
use Rattle.pardo_law.specs.Locals.{NamesByArray, IsNamedAt, AreStraight, HasCodeAt, StandsAfter}
use Rattle.pardo_law.specs.Locals.{StoresAgree}
use Rattle.pardo_law.specs.Locals.{after_stores}
use Rattle.pardo_law.proofs.Placing.{runs_one, next_at, runs_to, stands_front, stands_back}
use Rattle.pardo_job.specs.Meaning.{given_to}
use Rattle.pardo_law.proofs.Running.{Runs, runs_then, runs_out, quiet_run, store_step, then_memory}
use Rattle.pardo_law.proofs.Running.{memory_after}
use Rattle.pardo_law.proofs.Running.{firsts_same}

-- ---- one processor

-- by n quiet steps, and one in which it stores this if anything, it comes to where the fact holds
pub record Makes (job : JobData) (memory : ℕ → ℕ) (i n : ℕ) (l : Local) (store : Option (ℕ × ℕ))
    (P : Local → Type 0) : Type 0 where
  pub mid : Local
  pub runs : Runs job memory i n l mid
  pub named : IsNamedAt job mid
  pub stores : local_store job mid ≡ store
  pub goes : P (next_local job memory i mid)

-- by n quiet steps alone
pub record Goes (job : JobData) (memory : ℕ → ℕ) (i n : ℕ) (l : Local) (P : Local → Type 0) :
    Type 0 where
  pub now : Local
  pub runs : Runs job memory i n l now
  pub goes : P now

pub makes_out : (job : JobData) (memory : ℕ → ℕ) (i n : ℕ) (P : Local → Type 0) → P None →
    Makes job memory i n None None P
makes_out job memory i n P p = record {
  mid = None;
  runs = runs_out job memory i n;
  named = tt;
  stores = refl;
  goes = p;
}

pub goes_out : (job : JobData) (memory : ℕ → ℕ) (i n : ℕ) (P : Local → Type 0) → P None →
    Goes job memory i n None P
goes_out job memory i n P p = record { now = None; runs = runs_out job memory i n; goes = p }

pub makes_then : (job : JobData) (memory : ℕ → ℕ) (i n m : ℕ) (l x : Local) (store : Option (ℕ × ℕ))
    (P : Local → Type 0) →
    Runs job memory i n l x → Makes job memory i m x store P → Makes job memory i (n + m) l store P
makes_then job memory i n m l x store P runs c = record {
  mid = c.mid;
  runs = runs_then job memory i n m l x c.mid runs c.runs;
  named = c.named;
  stores = c.stores;
  goes = c.goes;
}

pub goes_then : (job : JobData) (memory : ℕ → ℕ) (i n m : ℕ) (l x : Local) (P : Local → Type 0) →
    Runs job memory i n l x → Goes job memory i m x P → Goes job memory i (n + m) l P
goes_then job memory i n m l x P runs c = record {
  now = c.now;
  runs = runs_then job memory i n m l x c.now runs c.runs;
  goes = c.goes;
}

-- one quiet instruction, and then others
pub makes_one : (job : JobData) (memory : ℕ → ℕ) (i n at : ℕ) (held : Registers) (one : Instr)
    (store : Option (ℕ × ℕ)) (P : Local → Type 0) →
    slice_get job.code at ≡ Some one → NamesByArray one → local_store_by held one ≡ None →
    Makes job memory i n (after_instr job memory i at held one) store P →
    Makes job memory i (suc n) (Some (at, held)) store P
makes_one job memory i n at held one store P stands named none c = record {
  mid = c.mid;
  runs = runs_one job memory i n at held one c.mid stands named none c.runs;
  named = c.named;
  stores = c.stores;
  goes = c.goes;
}

pub goes_one : (job : JobData) (memory : ℕ → ℕ) (i n at : ℕ) (held : Registers) (one : Instr)
    (P : Local → Type 0) →
    slice_get job.code at ≡ Some one → NamesByArray one → local_store_by held one ≡ None →
    Goes job memory i n (after_instr job memory i at held one) P →
    Goes job memory i (suc n) (Some (at, held)) P
goes_one job memory i n at held one P stands named none c = record {
  now = c.now;
  runs = runs_one job memory i n at held one c.now stands named none c.runs;
  goes = c.goes;
}

-- it is there
pub goes_here : (job : JobData) (memory : ℕ → ℕ) (i : ℕ) (l : Local) (P : Local → Type 0) → P l →
    Goes job memory i 0 l P
goes_here job memory i l P p = record { now = l; runs = refl; goes = p }

-- the last step
pub makes_last : (job : JobData) (memory : ℕ → ℕ) (i at : ℕ) (held : Registers) (one : Instr)
    (P : Local → Type 0) →
    slice_get job.code at ≡ Some one → NamesByArray one → P (after_instr job memory i at held one) →
    Makes job memory i 0 (Some (at, held)) (local_store_by held one) P
makes_last job memory i at held one P stands named p = record {
  mid = Some (at, held);
  runs = refl;
  named = λ instr is. subst NamesByArray (same one instr (sym stands ∙ is)) named;
  stores = ap (λ o. elim o [ None ↦ None | Some instr ↦ local_store_by held instr ]) stands;
  goes = subst P (sym (next_at job memory i at held one stands)) p;
}
  where
    same : (a b : Instr) → Some a ≡ Some b → a ≡ b
    same a b e = cc

-- what straight code and an instruction after it make, by what the code leaves
abbrev pub stored_by : Option Registers → Instr → Option (ℕ × ℕ)
stored_by None one = None
stored_by (Some held) one = local_store_by held one

abbrev pub ended_by : JobData → (ℕ → ℕ) → ℕ → ℕ → Option Registers → Instr → Local
ended_by job memory i at None one = None
ended_by job memory i at (Some held) one = after_instr job memory i at held one

pub makes_body : (job : JobData) (memory : ℕ → ℕ) (i at : ℕ) (held : Registers) (front : List Instr)
    (one : Instr)
    (P : Local → Type 0) (o : Option Registers) →
    AreStraight front → HasCodeAt job at (front ++ one ∷ []) → NamesByArray one →
    after_all memory i front held ≡ o → P (ended_by job memory i (at + length front) o one) →
    Makes job memory i (length front) (Some (at, held)) (stored_by o one) P
unfolding makes_last
makes_body job memory i at held front one P None straight stands named leaves p =
    let n : ℕ = length front in
    record {
      mid = None;
      runs = runs_to job memory i front at held None straight
          (stands_front job at front (one ∷ []) stands) leaves;
      named = tt;
      stores = refl;
      goes = p;
    }
makes_body job memory i at held front one P (Some now) straight stands named leaves p =
    let last : Makes job memory i 0 (Some (at + length front, now)) (local_store_by now one) P =
    makes_last job memory i (at + length front) now one P
    (stands_back job at front (one ∷ []) stands).0 named p in
    record {
      mid = last.mid;
      runs = runs_to job memory i front at held (Some now) straight
          (stands_front job at front (one ∷ []) stands) leaves;
      named = last.named;
      stores = last.stores;
      goes = last.goes;
    }

-- ---- all of them

-- where it is after so many steps by itself
abbrev pub moved : JobData → (ℕ → ℕ) → ℕ → ℕ → Local → Local
moved job memory i zero l = l
moved job memory i (suc n) l = moved job memory i n (next_local job memory i l)

pub runs_moved : (job : JobData) (memory : ℕ → ℕ) (i n : ℕ) (l now : Local) →
    Runs job memory i n l now →
    moved job memory i n l ≡ now
runs_moved job memory i zero l now runs = runs
runs_moved job memory i (suc n) l now runs =
    runs_moved job memory i n (next_local job memory i l) now runs.1

-- after t steps, memory is that after these stores, and the fact holds of where each processor is
pub record IsMade (job : JobData) (t : ℕ) (memory : ℕ → ℕ) (stores : ℕ → Option (ℕ × ℕ))
    (P : ℕ → Local → Type 0) : Type 0 where
  pub now : ℕ → ℕ
  pub locals : ℕ → Local
  pub standing : StandsAfter job t now locals
  pub cells : (cell : ℕ) → cell < job.cells → now cell ≡ after_stores job.procs stores memory cell
  pub each : (i : ℕ) → i < job.procs → P i (locals i)

-- the same, where nobody stored
pub record Went (job : JobData) (t : ℕ) (memory : ℕ → ℕ) (P : ℕ → Local → Type 0) : Type 0 where
  pub places : ℕ → Local
  pub standing : StandsAfter job t memory places
  pub each : (i : ℕ) → i < job.procs → P i (places i)

module _ (job : JobData) (is_job : IsJob job) (t n : ℕ) (memory : ℕ → ℕ) (locals : ℕ → Local)
    (standing : StandsAfter job t memory locals) where
  pub all_go : (P : ℕ → Local → Type 0) →
      ((i : ℕ) → i < job.procs → Goes job memory i n (locals i) (P i)) → Went job (t + n) memory P
  all_go P goes = record {
    places = λ i. moved job memory i n (locals i);
    standing = quiet_run job is_job n t memory locals (λ i. moved job memory i n (locals i))
        standing
        (λ i lt. let e = runs_moved job memory i n (locals i) (goes i lt).now (goes i lt).runs in
        subst (Runs job memory i n (locals i)) (sym e) (goes i lt).runs);
    each = λ i lt. let e = runs_moved job memory i n (locals i) (goes i lt).now (goes i lt).runs in
        subst (P i) (sym e) (goes i lt).goes;
  }

  module _ (stores : ℕ → Option (ℕ × ℕ)) (P : ℕ → Local → Type 0)
      (makes : (i : ℕ) → i < job.procs → Makes job memory i n (locals i) (stores i) (P i)) where
    abbrev pub mids : ℕ → Local
    mids i = moved job memory i n (locals i)

    pub mid_is : (i : ℕ) (lt : i < job.procs) → mids i ≡ (makes i lt).mid
    mid_is i lt = runs_moved job memory i n (locals i) (makes i lt).mid (makes i lt).runs

    pub before : StandsAfter job (t + n) memory mids
    before = quiet_run job is_job n t memory locals mids standing
        (λ i lt. subst (Runs job memory i n (locals i)) (sym (mid_is i lt)) (makes i lt).runs)

    pub mids_named : (i : ℕ) → i < job.procs → IsNamedAt job (mids i)
    mids_named i lt = subst (IsNamedAt job) (sym (mid_is i lt)) (makes i lt).named

    pub mids_store : (i : ℕ) → i < job.procs → local_store job (mids i) ≡ stores i
    mids_store i lt = ap (local_store job) (mid_is i lt) ∙ (makes i lt).stores

    pub mids_agree : StoresAgree job stores → StoresAgree job (λ i. local_store job (mids i))
    mids_agree agree cell i j v w lt less is too =
        agree cell i j v w lt less (sym (mids_store i lt) ∙ is) (sym (mids_store j less) ∙ too)

    pub all_make : StoresAgree job stores → IsMade job (suc (t + n)) memory stores P
    all_make agree = record {
      now = then_memory job is_job (t + n) memory mids before mids_named;
      locals = λ i. next_local job memory i (mids i);
      standing = store_step job is_job (t + n) memory mids before mids_named (mids_agree agree);
      cells = λ cell low. memory_after job is_job (t + n) memory mids before mids_named cell low
          ∙ ap (λ o. unwrap_or o (memory cell))
          (firsts_same job.procs _ _ (λ i lt. ap (given_to cell) (mids_store i lt)));
      each = λ i lt. subst (λ l. P i (next_local job memory i l)) (sym (mid_is i lt))
          (makes i lt).goes;
    }
