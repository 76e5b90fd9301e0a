-- What a step makes of the places of one processor.
use Rattle.std.proofs.Common.{◌≡◌, ◌≢◌, ℕ, ◌+◌, ◌<◌, ◌≤◌, ◌⊎◌, nat_lt, Some, None}
use Rattle.std.proofs.Common.{refl, sym, ap, ◌∙◌, subst, inl, inr, ⊎_elim, arith, length}
use Rattle.std.proofs.Common.{if◌then◌else◌}
use Rattle.std.proofs.lemmas.Bool.{cases_lt, cases_eq, lt-ltb, le-ltb}
use Rattle.std.proofs.lemmas.Option.{none-some, some_pair_parts}
use Rattle.pram_job.specs.Job.{JobData, IsJob}
use Rattle.pram_machine.specs.declared.requests.Request.{Request}
use Rattle.pram_machine.specs.Machine.{State, register_place, register, counter_place, counter}
use Rattle.pram_machine.specs.Machine.{place_count}
use Rattle.pram_machine.specs.Machine.{out_of_range, IsDataPlace}
use Rattle.pram_machine.specs.Instructions.{request_in, requests_in, gives, goes_to}
use Rattle.pram_step.specs.Steps.{Writes, written, next_state}
use Rattle.pram_step.proofs.LawWriters.{HasFirst, HasNone, writer_cases}
use Rattle.pram_step.proofs.LawPlaces.{one_writer_value, writer_is, writes_place}
use Rattle.pram_step.proofs.LawNext.{after_first, after_none}
use Rattle.pram_step.proofs.LawCounters.{next_counter}
use Rattle.pram_step.proofs.RequestList.{written_of_put, written_cases}
use Rattle.pram_machine.proofs.Shapes.{asks}
use Rattle.pardo_job.specs.Straight.{Registers, put}
use Rattle.pardo_law.specs.Locals.{registers_of, FollowsByItself}
use Rattle.pardo_job.proofs.Straight.{put_same, put_other}

module _ (job : JobData) (is_job : IsJob job) (s : State) (len : length s ≡ place_count job)
    (i : ℕ) (lt : i < job.procs) where
  -- a register that the processor gives a value
  pub next_given : (which v : ℕ) → which < 4 →
      (request_in job s i).put ≡ Some (register_place job i which, v) →
      register job (next_state job s) i which ≡ v
  next_given which v few puts =
      let p : ℕ = register_place job i which in
      let within : p < length s = omega arith in
      let no_cell : job.cells ≤ p = omega arith in
      let mine : Writes job (requests_in job s) p i v = record {
        request = request_in job s i;
        request_is = asks job s i lt;
        writes = written_of_put job p i v (request_in job s i) (λ same. omega arith) puts;
      } in ⊎_elim
      (λ (n : HasNone job (requests_in job s) p). absurd (n.none i v mine))
      (λ (f : HasFirst job (requests_in job s) p).
      after_first job (requests_in job s) s p f.value within f.found
      ∙ one_writer_value job s p f.writer i f.value v is_job no_cell f.first.writes mine)
      (writer_cases job (requests_in job s) p)

  register_owner : (which j : ℕ) → which < 4 → j < job.procs →
      (register_place job i which ≡ counter_place job j) ⊎
      IsDataPlace job j (register_place job i which) →
      j ≡ i
  register_owner which j few below (inl same) = omega arith
  register_owner which j few below (inr (inl cell)) = omega arith
  register_owner which j few below (inr (inr own)) = omega (arith, own.0, own.1)

  not_counter : (which j : ℕ) → which < 4 → register_place job i which ≢ counter_place job j
  not_counter which j few same = omega arith

  -- one that it does not
  pub next_kept : (which : ℕ) → which < 4 →
      ((v : ℕ) → (request_in job s i).put ≡ Some (register_place job i which, v) → ⊥) →
      register job (next_state job s) i which ≡ register job s i which
  next_kept which few none =
      let p : ℕ = register_place job i which in
      let within : p < length s = omega arith in ⊎_elim
      (λ (n : HasNone job (requests_in job s) p).
      after_none job (requests_in job s) s p within n.found)
      (λ (f : HasFirst job (requests_in job s) p).
      let w : (f.writer < job.procs) ×
      ((p ≡ counter_place job f.writer) ⊎ IsDataPlace job f.writer p) =
      writes_place job s p f.writer f.value is_job f.first.writes in
      let same : f.writer ≡ i = register_owner which f.writer few w.0 w.1 in
      let is : written job p f.writer (request_in job s f.writer) ≡ Some f.value =
      (writer_is job s p f.writer f.value f.first.writes).1 in
      let here : written job p i (request_in job s i) ≡ Some f.value =
      subst (λ j. written job p j (request_in job s j) ≡ Some f.value) same is in
      absurd (⊎_elim (λ (c : (p ≡ counter_place job i) × (f.value ≡ (request_in job s i).next)).
      not_counter which i few c.0)
      (λ puts. none f.value puts)
      (written_cases job p i f.value (request_in job s i) here)))
      (writer_cases job (requests_in job s) p)

  -- all registers, as far as there are some
  held_same : (now : State) → ((which : ℕ) → which < 4 → register job now i which ≡
      register job s i which) →
      registers_of job now i ≡ registers_of job s i
  held_same now each = λ k which. at_one which k
    where
      at_one : (which : ℕ) → registers_of job now i which ≡ registers_of job s i which
      at_one which = ⊎_elim
          (λ (few : which < 4). ap (λ v. if nat_lt which 4 then v else 0) (each which few))
          (λ (many : 4 ≤ which). ap (λ t. if t then register job now i which else 0)
          (le-ltb which 4 many)
          ∙ sym (ap (λ t. if t then register job s i which else 0) (le-ltb which 4 many)))
          (cases_lt which 4)

  held_put : (target v : ℕ) (now : State) → target < 4 → register job now i target ≡ v →
      ((which : ℕ) → which < 4 → which ≢ target → register job now i which ≡
      register job s i which) →
      registers_of job now i ≡ put target v (registers_of job s i)
  held_put target v now few is each = λ k which. at_one which k
    where
      at_target : (which : ℕ) → which < 4 → which ≡ target →
          registers_of job now i which ≡ put target v (registers_of job s i) which
      at_target which low same =
          ap (λ t. if t then register job now i which else 0) (lt-ltb which 4 low)
          ∙ ap (register job now i) same ∙ is
          ∙ sym (put_same target v (registers_of job s i))
          ∙ ap (put target v (registers_of job s i)) (sym same)

      at_other : (which : ℕ) → which < 4 → which ≢ target →
          registers_of job now i which ≡ put target v (registers_of job s i) which
      at_other which low ne =
          ap (λ x. if nat_lt which 4 then x else 0) (each which low ne)
          ∙ sym (put_other target v which (registers_of job s i) ne)

      at_far : (which : ℕ) → 4 ≤ which →
          registers_of job now i which ≡ put target v (registers_of job s i) which
      at_far which many =
          ap (λ t. if t then register job now i which else 0) (le-ltb which 4 many)
          ∙ sym (ap (λ t. if t then register job s i which else 0) (le-ltb which 4 many))
          ∙ sym (put_other target v which (registers_of job s i) (λ same. omega arith))

      at_one : (which : ℕ) → registers_of job now i which ≡
          put target v (registers_of job s i) which
      at_one which = ⊎_elim
          (λ (low : which < 4). ⊎_elim (λ same. at_target which low same)
          (λ ne. at_other which low ne) (cases_eq which target))
          (λ (many : 4 ≤ which). at_far which many)
          (cases_lt which 4)

  -- ---- by what it asks for

  counter_is : (r : Request) → request_in job s i ≡ r → counter job (next_state job s) i ≡ r.next
  counter_is r e = next_counter job s i is_job len lt ∙ ap (λ (q : Request). q.next) e

  no_put : (r : Request) → request_in job s i ≡ r → r.put ≡ None → (place v : ℕ) →
      (request_in job s i).put ≡ Some (place, v) → ⊥
  no_put r e none place v puts = none-some (place, v)
      (sym none ∙ sym (ap (λ (q : Request). q.put) e) ∙ puts)

  pub follows_out : request_in job s i ≡ goes_to (out_of_range job) →
      FollowsByItself job s i None None
  follows_out e = record {
    local_is = counter_is (goes_to (out_of_range job)) e;
    wrote = λ cell v low puts. absurd (no_put (goes_to (out_of_range job)) e refl cell v puts);
    stored = λ cell v low none. absurd (none-some (cell, v) none);
  }

  pub follows_goes : (n : ℕ) (held : Registers) → request_in job s i ≡ goes_to n →
      registers_of job s i ≡ held → FollowsByItself job s i (Some (n, held)) None
  follows_goes n held e is = record {
    local_is = (
      counter_is (goes_to n) e,
      held_same (next_state job s) (λ which few. next_kept which few
          (λ v puts. no_put (goes_to n) e refl _ v puts)) ∙ is,
    );
    wrote = λ cell v low puts. absurd (no_put (goes_to n) e refl cell v puts);
    stored = λ cell v low none. absurd (none-some (cell, v) none);
  }

  put_is : (at target v place w : ℕ) → request_in job s i ≡ gives job i at target v →
      (request_in job s i).put ≡ Some (place, w) → (register_place job i target ≡ place) × (v ≡ w)
  put_is at target v place w e puts =
      some_pair_parts _ _ _ _ (sym (ap (λ (q : Request). q.put) e) ∙ puts)

  pub follows_gives : (at target v : ℕ) (held : Registers) → target < 4 →
      request_in job s i ≡ gives job i at target v → registers_of job s i ≡ held →
      FollowsByItself job s i (Some (at + 1, put target v held)) None
  follows_gives at target v held few e is = record {
    local_is = (
      counter_is (gives job i at target v) e,
      held_put target v (next_state job s) few
          (next_given target v few (ap (λ (q : Request). q.put) e))
          (λ which low ne. next_kept which low (λ w puts.
          let c : register_place job i target ≡ register_place job i which =
          (put_is at target v _ w e puts).0 in
          let same : which ≡ target = omega arith in ne same))
          ∙ ap (put target v) is,
    );
    wrote = λ cell w low puts.
        let c : register_place job i target ≡ cell = (put_is at target v cell w e puts).0 in
        absurd (omega arith);
    stored = λ cell w low none. absurd (none-some (cell, w) none);
  }

  pub follows_stores : (next cell v : ℕ) (held : Registers) → cell < job.cells →
      request_in job s i ≡ record { put = Some (cell, v); next = next } →
      registers_of job s i ≡ held → FollowsByItself job s i (Some (next, held)) (Some (cell, v))
  follows_stores next cell v held low e is =
      let puts : (request_in job s i).put ≡ Some (cell, v) = ap (λ (q : Request). q.put) e in
      record {
        local_is = (
          counter_is (record { put = Some (cell, v); next = next }) e,
          held_same (next_state job s) (λ which few. next_kept which few (λ w there.
              let c : cell ≡ register_place job i which =
              (some_pair_parts _ _ _ _ (sym puts ∙ there)).0 in omega arith)) ∙ is,
        );
        wrote = λ other w below there. sym puts ∙ there;
        stored = λ other w below there. puts ∙ there;
      }
