-- What the settled words of a processor's own places tell: what it was when it last settled.
use Rattle.std.proofs.Common.{◌≡◌, ℕ, zero, suc, ◌<◌, ◌≤◌, map, slice_index}
use Rattle.std.proofs.Common.{ap, subst, ◌∙◌, inl, inr, refl, lit<, arith}
use Rattle.pram_job.specs.Job.{JobData, IsJob}
use Rattle.pram_machine.specs.Machine.{counter_place, register, register_place}
use Rattle.pram_step.specs.Runs.{state_after}
use Rattle.pram_words.specs.declared.layout.Form.TheVariants.{Wide}
use Rattle.pram_words.specs.Stamps.{payload_of, stamp_of}
use Rattle.walk_memory.specs.Memory.{own_at, settled_at}
use Rattle.walk_memory.specs.Learned.{newest_of, learned_own}
use Rattle.walkx.specs.Passes.{own_places}
use Rattle.lawful_walk.specs.Lands.{last_landing, settled}
use Rattle.lawful_walk.proofs.Landings.{settled_tells, stamp_step, told_own}
use Rattle.lawful_walk.proofs.Newest.{IsOwn, newest, own_is, own_last}

module _ (g : ℕ) (job : JobData) (is_job : IsJob job) (x i : ℕ) (proc : i < job.procs) where
  abbrev T : ℕ
  T = settled_at job x i

  abbrev W : ℕ → ℕ
  W p = settled (Wide g) job x p

  -- one of its places
  pub own_tells : (p : ℕ) → IsOwn job i p → payload_of (W p) ≡ slice_index (state_after job T) p
  own_tells p own =
      let k = own_is job i p proc own in
      let above = k.above in
      settled_tells (Wide g) job is_job x p k.below
      ∙ ap (λ (n : ℕ). slice_index (state_after job n) p)
      (told_own (Wide g) job x p (λ low. absurd (omega (arith, low, above)))
      ∙ ap (settled_at job x) k.owner)

  register_tells : (r : ℕ) → r < 4 →
      payload_of (W (register_place job i r)) ≡ register job (state_after job T) i r
  register_tells r low = own_tells (register_place job i r) (inl (r, low, refl))

  -- all of them
  pub told_settled : learned_own (map (settled (Wide g) job x) (own_places job i)) ≡ own_at job T i
  told_settled =
      let c = own_tells (counter_place job i) (inr refl) in
      let r0 = register_tells 0 (lit< tt) in
      let r1 = register_tells 1 (lit< tt) in
      let r2 = register_tells 2 (lit< tt) in
      let r3 = register_tells 3 (lit< tt) in
      rw (c, r0, r1, r2, r3) refl

  stamp_is : (p : ℕ) → stamp_of (W p) ≡ last_landing (Wide g) job x p
  stamp_is p = stamp_step (Wide g) job is_job (last_landing (Wide g) job x p) p

  stamp_most : (p : ℕ) → IsOwn job i p → stamp_of (W p) ≤ T
  stamp_most p own =
      let s = stamp_is p in
      let m = own_last g job is_job x i p proc own in omega (arith, s, m)

  -- and when
  pub newest_settled : newest_of (map (settled (Wide g) job x) (own_places job i)) ≡ T
  newest_settled =
      let n = newest g job is_job i proc x in
      let c = stamp_most (counter_place job i) (inr refl) in
      let r0 = stamp_most (register_place job i 0) (inl (0, lit< tt, refl)) in
      let r1 = stamp_most (register_place job i 1) (inl (1, lit< tt, refl)) in
      let r2 = stamp_most (register_place job i 2) (inl (2, lit< tt, refl)) in
      let r3 = stamp_most (register_place job i 3) (inl (3, lit< tt, refl)) in
      let at : stamp_of (W n.0) ≡ T = stamp_is n.0 ∙ n.2 in
      let more : T ≤ newest_of (map (settled (Wide g) job x) (own_places job i)) =
      subst (λ (t : ℕ). t ≤ newest_of (map (settled (Wide g) job x) (own_places job i))) at
      (among n.0 n.1) in
      omega (arith, c, r0, r1, r2, r3, more)
    where
      stamp_at_place : (p q : ℕ) → p ≡ q → stamp_of (W p) ≡ stamp_of (W q)
      stamp_at_place p q e = ap (λ (n : ℕ). stamp_of (W n)) e

      among : (p : ℕ) → IsOwn job i p →
          stamp_of (W p) ≤ newest_of (map (settled (Wide g) job x) (own_places job i))
      among p (inr e) = let s = stamp_at_place p (counter_place job i) e in omega (arith, s)
      among p (inl (r, low, e)) =
          let s = stamp_at_place p (register_place job i r) e in by r low s
        where
          by : (r : ℕ) → r < 4 → stamp_of (W p) ≡ stamp_of (W (register_place job i r)) →
              stamp_of (W p) ≤ newest_of (map (settled (Wide g) job x) (own_places job i))
          by zero low s = omega (arith, s)
          by (suc zero) low s = omega (arith, s)
          by (suc (suc zero)) low s = omega (arith, s)
          by (suc (suc (suc zero))) low s = omega (arith, s)
          by (suc (suc (suc (suc r)))) low s = absurd (omega (arith, low))
