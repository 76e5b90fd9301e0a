-- Carry in the wide form: which cell a processor stores to, and that it has nothing to store.
use Rattle.std.proofs.Common.{◌≡◌, ℕ, suc, ◌+◌, ◌*◌, ◌<◌, ◌≤◌, true, List}
use Rattle.std.proofs.Common.{Option, Some, None, refl, sym, ap, subst, ◌∙◌, if◌then◌else◌}
use Rattle.std.specs.Prelude.{is_some}
use Rattle.std.proofs.lemmas.Bool.{and_parts, cond_both, eqb-true, leb-true, ltb-true}
use Rattle.std.proofs.lemmas.Option.{none-some}
use Rattle.pram_job.specs.Job.{JobData}
use Rattle.pram_machine.specs.declared.requests.Request.{Request}
use Rattle.pram_step.specs.History.{Asks}
use Rattle.pram_words.specs.declared.layout.Form.TheVariants.{Wide}
use Rattle.pram_words.specs.declared.phases.Kind.TheVariants.{Verify}
use Rattle.pram_words.specs.Phases.{phase_of, step_at}
use Rattle.pram_words.specs.Words.{LayoutData}
use Rattle.walk_memory.specs.declared.memo.Memo.{Memo}
use Rattle.walk_memory.specs.declared.memo.Own.{Own}
use Rattle.walkx.specs.declared.operation.Op.{Op}
use Rattle.walk_memory.specs.Memory.{IsTrueMemo, asked, has_store, is_past, loads_next, own_at}
use Rattle.walk_memory.specs.Memory.{reach, store_in}
use Rattle.walk_memory.specs.OwnWrites.{cell_write}
use Rattle.walkx.specs.Passes.{if_write, loads_store, stores}
use Rattle.walkx.specs.Scripts.{Script}
use Rattle.walkx.specs.Walk.{Then}
use Rattle.walk_memory.specs.Blocks.{IsBoard}
use Rattle.lawful_walk.specs.Board.{root}
use Rattle.lawful_walk.specs.Writes.{Floor}
use Rattle.lawful_walk.proofs.Known.{EndSafe, stale_end}
use Rattle.lawful_walk.proofs.LandedOwn.{own_here}
use Rattle.lawful_walk.proofs.Alone.{alone_is}
use Rattle.lawful_walk.proofs.OwnNext.{load_stores}
use Rattle.lawful_walk.proofs.OwnPlaces.{asks_cell, cell_asks, idle_stores}
use Rattle.lawful_walk.proofs.Owning.{in_job, loads_safe}
use Rattle.lawful_walk.proofs.Scripts.{Aim, Safe}
use Rattle.lawful_walk.proofs.Sees.{Sees, so}

-- there is one
abbrev HasSome : Option (ℕ × ℕ) → Type 0
HasSome None = ⊥
HasSome (Some write) = Unit {0}

some_has : (o : Option (ℕ × ℕ)) → is_some o ≡ true → HasSome o
some_has None e = absurd (cc)
some_has (Some write) e = tt

module _ (job : JobData) (y : LayoutData) (w q : ℕ) (aim : Aim) (g x i : ℕ) (some : 1 ≤ q)
    (most : q ≤ 3 * job.steps) (step : step_at q ≡ suc x) (board : IsBoard job y)
    (proc : i < y.procs) (wide : y.form ≡ Wide g) where
  -- the processor stores to no cell in the step
  abbrev pub NoStore : Type 0
  NoStore = (c v : ℕ) → c < job.cells → Asks job x c i v → ⊥

  here : i < job.procs
  here = in_job job y w q aim g x i some most step board proc wide

  no_store : store_in job i (suc x) ≡ None → NoStore
  no_store none c v cell asked = none-some (c, v) (sym none ∙ asks_cell job x i c v cell asked)

  module _ (begun : 3 * x + 1 ≤ q) (D : List ℕ → Type 0) (after : Script Then)
      (done : EndSafe job y w q aim x D after) (none_done : NoStore → (words : List ℕ) → D words)
    where
      none_end : store_in job i (suc x) ≡ None → (history : List (Op × ℕ)) →
          Sees job y history (Floor job y q x) → Safe job y w q aim after history
      none_end none history sees = done history (so job y history (Floor job y q x)
          (λ words. Floor job y q x words × (root y words < q → D words))
          (λ words stands f. (f, λ live. none_done (no_store none) words)) sees)

      by_write : (o : Option (ℕ × ℕ)) → store_in job i (suc x) ≡ o →
          (next : ℕ → ℕ → Script Then) (history : List (Op × ℕ)) →
          Sees job y history (Floor job y q x) →
          ((c v : ℕ) → c < job.cells → Asks job x c i v → Safe job y w q aim (next c v) history) →
          Safe job y w q aim (if_write o after next) history
      by_write None e next history sees on = none_end e history sees
      by_write (Some write) e next history sees on =
          let a = cell_asks job x i write.0 write.1 here e in on write.0 write.1 a.1 a.0

      -- it is worked out from its own places
      loaded_safe : (next : ℕ → ℕ → Script Then) (history : List (Op × ℕ)) →
          Sees job y history (Floor job y q x) →
          ((longer : List (Op × ℕ)) → Sees job y longer (Floor job y q x) →
          (c v : ℕ) → c < job.cells → Asks job x c i v → Safe job y w q aim (next c v) longer) →
          Safe job y w q aim (loads_store job y (suc x) i after next) history
      loaded_safe next history sees on =
          let told = λ (own : Own). if loads_next job own then after
          else if_write (cell_write job (asked job i own 0).put) after next in
          loads_safe job y w q aim g x i some most step board proc wide begun after
          (stale_end job y w q aim x D after done) (λ known. told known.own) history sees
          (λ known is_true at longer more.
          subst (λ (own : Own). Safe job y w q aim (told own) longer)
          (sym (own_here job i x board.limits here known is_true at))
          (cond_both (loads_next job (own_at job x i)) after
          (if_write (cell_write job (asked job i (own_at job x i) 0).put) after next)
          (λ (s : Script Then). Safe job y w q aim s longer)
          (λ loads. none_end (load_stores job i x loads) longer more)
          (λ none. by_write (cell_write job (asked job i (own_at job x i) 0).put)
          (ap (λ (r : Request). cell_write job r.put) (sym (alone_is job i x board.limits none)))
          next longer more (on longer more))))

      -- it is remembered
      kept_safe : (memo : Memo) → IsTrueMemo job i memo → memo.step ≡ suc x →
          (o : Option (ℕ × ℕ)) → memo.store ≡ o → HasSome o → (next : ℕ → ℕ → Script Then)
          (history : List (Op × ℕ)) → Sees job y history (Floor job y q x) →
          ((c v : ℕ) → c < job.cells → Asks job x c i v → Safe job y w q aim (next c v) history) →
          Safe job y w q aim (if_write o after next) history
      kept_safe memo is_true at None e has next history sees on = absurd has
      kept_safe memo is_true at (Some write) e has next history sees on =
          by_write (Some write)
          (subst (λ (t : ℕ). store_in job i t ≡ Some write) at (is_true.store write e)) next history
          sees on

      pub stores_safe : (memo : Memo) → IsTrueMemo job i memo → (next : ℕ → ℕ → Script Then)
          (history : List (Op × ℕ)) → Sees job y history (Floor job y q x) →
          ((longer : List (Op × ℕ)) → Sees job y longer (Floor job y q x) →
          (c v : ℕ) → c < job.cells → Asks job x c i v → Safe job y w q aim (next c v) longer) →
          Safe job y w q aim (stores job y (suc x) i memo after next) history
      stores_safe memo is_true next history sees on =
          let loads = loads_store job y (suc x) i after next in
          cond_both (is_past (phase_of (suc x) Verify) memo) after
          (if has_store (suc x) memo then if_write memo.store after next else loads)
          (λ (s : Script Then). Safe job y w q aim s history)
          (λ past. let both = and_parts _ _ past in
          none_end (idle_stores job.rule job x i (is_true.idle x Verify
          (ltb-true memo.acted (phase_of (suc x) Verify) both.0)
          (leb-true (phase_of (suc x) Verify) (reach memo) both.1))) history sees)
          (λ due. cond_both (has_store (suc x) memo) (if_write memo.store after next) loads
          (λ (s : Script Then). Safe job y w q aim s history)
          (λ has. let both = and_parts _ _ has in
          kept_safe memo is_true (eqb-true memo.step (suc x) both.0) memo.store refl
          (some_has memo.store both.1) next history sees (on history sees))
          (λ other. loaded_safe next history sees on))
