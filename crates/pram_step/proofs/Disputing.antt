-- Writes that are against the rule have one dispute.
use Rattle.std.proofs.Common.{◌≡◌, ℕ, sym, subst, arith}
use Rattle.pram_job.specs.declared.instr.Rule.{Rule}
use Rattle.pram_step.specs.declared.answer.Dispute.{Dispute}
use Rattle.pram_step.specs.Disputes.{Clash, IsLeastClash}

module _ (rule : Rule) (Writes : ℕ → ℕ → ℕ → Type 0) (d e : Dispute)
    (a : IsLeastClash rule Writes d) (b : IsLeastClash rule Writes e) where
  same_cell : d.cell ≡ e.cell
  same_cell = omega (
    arith,
    a.least_cell e.cell e.first e.second b.clash,
    b.least_cell d.cell d.first d.second a.clash,
  )

  same_first : d.first ≡ e.first
  same_first =
      let there : Writes d.cell e.first b.clash.value =
      subst (λ (c : ℕ). Writes c e.first b.clash.value) (sym same_cell) b.clash.writes in
      let back : Writes e.cell d.first a.clash.value =
      subst (λ (c : ℕ). Writes c d.first a.clash.value) same_cell a.clash.writes in
      omega (
        arith,
        a.least_first e.first b.clash.value there,
        b.least_first d.first a.clash.value back,
      )

  same_second : d.second ≡ e.second
  same_second =
      let there : Clash rule Writes d.cell d.first e.second =
      subst (λ (c : ℕ). Clash rule Writes c d.first e.second) (sym same_cell)
      (subst (λ (i : ℕ). Clash rule Writes e.cell i e.second) (sym same_first) b.clash) in
      let back : Clash rule Writes e.cell e.first d.second =
      subst (λ (c : ℕ). Clash rule Writes c e.first d.second) same_cell
      (subst (λ (i : ℕ). Clash rule Writes d.cell i d.second) same_first a.clash) in
      omega (arith, a.least_second e.second there, b.least_second d.second back)

  pub one_least_clash : d ≡ e
  one_least_clash =
      λ i. record { cell = same_cell i; first = same_first i; second = same_second i }
