-- The words that a board starts with are lawful.
use Rattle.std.proofs.Common.{◌≡◌, ℕ, ◌-◌, ◌*◌, ◌<◌, ◌≤◌, List, length, slice_index, refl, sym}
use Rattle.std.proofs.Common.{◌∙◌, inl, inr, lit<, arith}
use Rattle.std.proofs.Math.ListN.{get_or-append}
use Rattle.std.proofs.Math.Seq.{get_or-append_right}
use Rattle.std.proofs.lemmas.Bool.{cases_lt}
use Rattle.std.proofs.lemmas.List.{get_or-replicate, get_or_past}
use Rattle.std.specs.Prelude.{replicate}
use Rattle.pram_job.specs.Job.{JobData, IsJob}
use Rattle.pram_machine.specs.Machine.{place_count}
use Rattle.pram_step.specs.Runs.{state_after}
use Rattle.pram_words.proofs.Starts.{starts_admitted, layout_of_limits}
use Rattle.pram_words.specs.Start.{start_of, start_words, StartsAdmitted}
use Rattle.pram_words.specs.Words.{LayoutData, IsGrain, IsLayout, IsWord, grain_of, layout_of}
use Rattle.pram_words.specs.Words.{places_of}
use Rattle.pram_words.specs.declared.layout.Form.{Form}
use Rattle.pram_words.specs.declared.phases.Kind.{Kind}
use Rattle.pram_words.specs.declared.phases.Kind.TheVariants.{Compute, Apply, Verify}
use Rattle.pram_words.specs.declared.words.Word.{Word}
use Rattle.pram_words.specs.declared.words.Word.TheVariants.{Conflict, Node, Asked, Stored, Claim}
use Rattle.lawful_walk.proofs.Landings.{last_most}
use Rattle.lawful_walk.specs.Lands.{last_landing, settled}
use Rattle.lawful_walk.proofs.Leaves.{leaf_word}
use Rattle.lawful_walk.specs.Board.{leaf_of, held, root, leaf, phase_in, LawfulFor, newer_first}
use Rattle.lawful_walk.specs.Board.{claimed_before, Stands}
use Rattle.lawful_walk.proofs.Keeping.{settle}

-- what a place holds before all steps
start_value : (job : JobData) (p : ℕ) → IsJob job → p < place_count job →
    slice_index (state_after job 0) p ≡ slice_index job.init p
unfolding state_after
start_value job p limits below =
    let len = limits.init_len in elim (cases_lt p (length job.init)) [
      | inl c ↦ get_or-append job.init (replicate (5 * job.procs) 0) 0 p c
      | inr c ↦ get_or-append_right job.init (replicate (5 * job.procs) 0) p 0 c
          ∙ get_or-replicate (5 * job.procs) (p - length job.init) 0 0 (omega arith)
          ∙ sym (get_or_past job.init p 0 c)
    ]

module _ (job : JobData) (form : Form) (workers : ℕ) (limits : IsJob job)
    (block : IsGrain (grain_of form)) (some : 1 ≤ workers) (high : workers ≤ 64) where
  y : LayoutData
  y = layout_of job form workers

  words : List ℕ
  words = start_words (layout_of job form workers) job

  sizes : IsLayout y
  unfolding y
  sizes = layout_of_limits job form workers limits block some high

  starts : StartsAdmitted y job
  unfolding y
  starts = starts_admitted job form workers limits block some high

  value : (a : Word) → IsWord y a → held y words a ≡ start_of y job a
  unfolding y words
  value a is = starts.values a is

  node_zero : (n : ℕ) → IsWord y (Node n) → held y words (Node n) ≡ 0
  node_zero n is = value (Node n) is

  root_zero : root y words ≡ 0
  root_zero = node_zero 1 (lit< tt, let l = sizes.leaves in omega arith)

  stored_is : (p k : ℕ) → p < places_of y → k < 2 →
      held y words (Stored p k) ≡ settled form job 0 p
  unfolding y last_landing
  stored_is p k place two =
      let v = start_value job p limits place in
      value (Stored p k) (place, two) ∙ sym v ∙ omega arith

  leaf_zero : (i : ℕ) → i < y.procs → leaf y words i ≡ 0
  leaf_zero i proc = node_zero (leaf_of y i) (leaf_word y i sizes proc)

  none_done : (i : ℕ) (kind : Kind) → i < y.procs → phase_in 0 kind ≤ leaf y words i → ⊥
  none_done i Compute proc h = let z = leaf_zero i proc in omega arith
  none_done i Apply proc h = let z = leaf_zero i proc in omega arith
  none_done i Verify proc h = let z = leaf_zero i proc in omega arith

  lawful : LawfulFor job y 0 words
  unfolding y
  lawful = record {
    reached = λ s l. absurd (omega arith);
    tree = record {
      left = λ n low high. let a = node_zero n (low, omega arith) in omega arith;
      right = λ n low high. let a = node_zero n (low, omega arith) in omega arith;
      near = λ compact n is. let a = node_zero n is in omega arith;
      most = λ n is. let a = node_zero n is in omega arith;
    };
    asked = λ compact i j proc part. let e = value (Asked i j) (compact, proc, part) in
        record { low = omega arith; high = omega arith; part = λ s h. absurd (omega arith) };
    stored = λ p place. newer_first (stored_is p 0 place (lit< tt))
        (stored_is p 1 place (lit< tt) ∙ unfold last_landing in refl);
    claimed = λ c is. let e = value (Claim c) is in
        claimed_before (let m = last_most form job limits 0 c in omega arith)
        (λ s h. absurd (omega arith));
    done = λ i kind proc h. absurd (none_done i kind proc h);
    ahead = λ i t kind proc low h. absurd (let z = leaf_zero i proc in omega (arith, z, low, h));
    named = (let u = value Conflict tt in
        record { first = λ s e. absurd (omega arith); near = λ s e. absurd (omega arith) });
  }

  pub starts_stand : Stands job (layout_of job form workers)
      (start_words (layout_of job form workers) job)
  unfolding y words
  starts_stand = record {
    limits = limits;
    sizes = sizes;
    layout = refl;
    admitted = starts.admitted;
    lawful = settle job y words 0 limits sizes refl lawful
        (omega arith) (let z = root_zero in omega arith)
        (λ e none i kind proc. absurd (let z = root_zero in omega arith));
  }
