-- Loads of which little is to be done.
use Rattle.std.proofs.Common.{◌≡◌, ◌≢◌, ℕ, ◌-◌, ◌<◌, length, Some, slice_index, refl, sym, ap}
use Rattle.std.proofs.Common.{subst, ◌∙◌, arith, ◌⊎◌, inl, inr}
use Rattle.std.specs.Prelude.{slice_set}
use Rattle.std.proofs.lemmas.Bool.{eq-eqb, le-ltb, ne_eqb}
use Rattle.std.proofs.lemmas.List.{get_or-set_other, get_or-set_same}
use Rattle.pram_machine.specs.Instructions.{gives}
use Rattle.pram_machine.specs.Machine.{register_place}
use Rattle.walk_memory.specs.declared.memo.Memo.{Memo}
use Rattle.walk_memory.specs.Inner.Posts.{PostData, processor_of}
use Rattle.walk_memory.specs.Memory.{own_after}
use Rattle.walkx.specs.Parts.{writes}
use Rattle.walk_memory.specs.Plain.{LoadsPlainly, loaded}
use Rattle.walkx.specs.Scripts.{Script}
use Rattle.walkx.specs.Walk.{Then}
use Rattle.walkx.specs.WideParts.{counter_landed, own_landed, register_landed}
use Rattle.walk_memory.specs.Turned.{landed}
use Rattle.walk_memory.proofs.Plainly.{four_ways}

module _ (at : PostData) (memo : Memo) (r cell : ℕ) (is : LoadsPlainly at memo r cell) (value : ℕ)
  where
    -- what is then known, but for what its words tell
    abbrev pub taken : Memo
    taken = record memo { own = (loaded at memo r value).own }

    pub loaded_own : taken.own ≡ own_after at.job (processor_of at) memo.own
        (gives at.job (processor_of at) memo.own.counter r value)
    loaded_own =
        let e : register_place at.job (processor_of at) r
        - register_place at.job (processor_of at) 0 ≡ r = omega arith in
        rw (
          is.counter,
          le-ltb (register_place at.job (processor_of at) r) at.job.cells (omega arith),
          e,
        ) refl

    pub loaded_landed : loaded at memo r value ≡ landed at taken
    loaded_landed = rw (is.told value) refl

    -- its register is written, and nothing else
    same_there : (s : ℕ) → s ≢ r →
        slice_index (slice_set memo.own.registers r value) s ≡ slice_index memo.told.registers s
    same_there s other = rw (sym (is.told value))
        (get_or-set_other memo.told.registers r s value 0 other)

    skips : (late : Script Then) (next : Script Then) (s : ℕ) → s ≢ r →
        register_landed at taken (Some r) s late (λ done. next) ≡ next
    skips late next s other = rw (
      ne_eqb r s (λ e. other (sym e)),
      eq-eqb _ _ (same_there s other),
    ) refl

    skips_counter : (late : Script Then) (next : Script Then) →
        counter_landed at taken (Some r) late (λ done. next) ≡ next
    skips_counter late next = rw (eq-eqb memo.told.counter memo.told.counter refl) refl

    writes_it : (late : Script Then) (next : Script Then) → r < length memo.own.registers →
        register_landed at taken (Some r) r late (λ done. next)
        ≡ writes at (register_place at.job (processor_of at) r) value late (λ done. next)
    writes_it late next low = rw (
      eq-eqb r r refl,
      get_or-set_same memo.own.registers r value 0 low,
    ) refl

    -- the four registers, one after another
    abbrev lands : ℕ → Script Then → Script Then → Script Then
    lands s late next = register_landed at taken (Some r) s late (λ done. next)

    lands_all : (late next : Script Then) → r < 4 → r < length memo.own.registers →
        lands 0 late (lands 1 late (lands 2 late (lands 3 late next)))
        ≡ writes at (register_place at.job (processor_of at) r) value late (λ done. next)
    lands_all late next four low = by (four_ways r four)
      where
        W : Script Then → Script Then
        W s = writes at (register_place at.job (processor_of at) r) value late (λ done. s)

        hit : (s : ℕ) (then : Script Then) → r ≡ s → lands s late then ≡ W then
        hit s then e = subst (λ (x : ℕ). lands x late then ≡ W then) e (writes_it late then low)

        by : (r ≡ 0) ⊎ ((r ≡ 1) ⊎ ((r ≡ 2) ⊎ (r ≡ 3))) →
            lands 0 late (lands 1 late (lands 2 late (lands 3 late next))) ≡ W next
        by (inl e) = hit 0 _ e ∙ ap W (
            skips late _ 1 (λ f. absurd (omega (arith, e, f)))
            ∙ skips late _ 2 (λ f. absurd (omega (arith, e, f)))
            ∙ skips late _ 3 (λ f. absurd (omega (arith, e, f)))
            )
        by (inr (inl e)) = skips late _ 0 (λ f. absurd (omega (arith, e, f)))
            ∙ hit 1 _ e ∙ ap W (
            skips late _ 2 (λ f. absurd (omega (arith, e, f)))
            ∙ skips late _ 3 (λ f. absurd (omega (arith, e, f)))
            )
        by (inr (inr (inl e))) = skips late _ 0 (λ f. absurd (omega (arith, e, f)))
            ∙ skips late _ 1 (λ f. absurd (omega (arith, e, f)))
            ∙ hit 2 _ e ∙ ap W (skips late _ 3 (λ f. absurd (omega (arith, e, f))))
        by (inr (inr (inr e))) = skips late _ 0 (λ f. absurd (omega (arith, e, f)))
            ∙ skips late _ 1 (λ f. absurd (omega (arith, e, f)))
            ∙ skips late _ 2 (λ f. absurd (omega (arith, e, f)))
            ∙ hit 3 _ e

    pub plainly_lands : (late : Script Then) (next : Script Then) → r < 4 →
        own_landed at taken (Some r) late (λ done. next)
        ≡ writes at (register_place at.job (processor_of at) r) value late (λ done. next)
    plainly_lands late next four =
        let low : r < length memo.own.registers = rw is.four four in
        ap (λ (s : Script Then). lands 0 late (lands 1 late (lands 2 late (lands 3 late s))))
        (skips_counter late next) ∙ lands_all late next four low
