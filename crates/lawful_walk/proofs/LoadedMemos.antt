-- What a worker loads of a processor's own places, their settled words, makes a true memo: they
-- tell what was so when it last settled, and it went on alone since.
use Rattle.std.proofs.Common.{◌≡◌, ℕ, suc, ◌+◌, ◌-◌, ◌<◌, ◌≤◌, List, map}
use Rattle.std.proofs.Common.{sym, ap, ◌∙◌, arith}
use Rattle.std.proofs.lemmas.Option.{none-some}
use Rattle.pram_job.specs.Job.{JobData, IsJob}
use Rattle.pram_words.specs.declared.layout.Form.TheVariants.{Wide}
use Rattle.walk_memory.specs.Memory.{IsTrueMemo, own_alone, own_at, settled_at}
use Rattle.walk_memory.specs.Learned.{loaded_memo, newest_of, learned_own}
use Rattle.walkx.specs.Passes.{own_places}
use Rattle.lawful_walk.proofs.Settles.{loads_none_since, settled_most}
use Rattle.lawful_walk.specs.Lands.{settled}
use Rattle.lawful_walk.proofs.Told.{newest_settled, told_settled}
use Rattle.lawful_walk.proofs.TrueMemos.{own_alone_is}

module _ (g : ℕ) (job : JobData) (x i : ℕ) (limits : IsJob job) (proc : i < job.procs) where
  abbrev S : ℕ
  S = settled_at job x i

  abbrev Words : List ℕ
  Words = map (settled (Wide g) job x) (own_places job i)

  alone_since : own_alone job i (x - S) (own_at job S i) ≡ own_at job x i
  alone_since =
      let most = settled_most job i x in
      let upto : S + (x - S) ≡ x = omega (arith, most) in
      own_alone_is job i limits proc (x - S) S
      (λ s low high. loads_none_since job i x s low (omega (arith, upto, high)))
      ∙ ap (λ (t : ℕ). own_at job t i) upto

  -- before the step after x steps
  pub loaded_true : x ≤ job.steps → IsTrueMemo job i (loaded_memo job (suc x) i Words)
  loaded_true time =
      let told_is = told_settled g job limits x i proc in
      let newest_is = newest_settled g job limits x i proc in
      let there : suc x - 1 ≡ x = omega arith in
      record {
        step = omega (arith, time);
        own = ap (λ (t : ℕ). own_alone job i (t - newest_of Words) (learned_own Words)) there
            ∙ ap (λ (s : ℕ). own_alone job i (x - s) (learned_own Words)) newest_is
            ∙ ap (own_alone job i (x - S)) told_is ∙ alone_since
            ∙ ap (λ (t : ℕ). own_at job t i) (sym there);
        settled = newest_is ∙ ap (λ (t : ℕ). settled_at job t i) (sym there);
        told = told_is ∙ ap (λ (t : ℕ). own_at job (settled_at job t i) i) (sym there);
        store = λ write e. absurd (none-some write e);
        idle = λ t kind after upto. absurd (omega (arith, after, upto));
      }
