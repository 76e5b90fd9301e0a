-- The claim words of cells.
use Rattle.std.proofs.Common.{◌≡◌, ◌≢◌, ◌+◌, ◌^◌, ◌<◌, ◌∙◌, true, IsTrue, ℕ, refl, sym, ap, subst, arith}
use Rattle.pram_job.specs.Job.{JobData}
use Rattle.pram_job.specs.declared.instr.Rule.{Rule}
use Rattle.pram_job.specs.declared.instr.Rule.TheVariants.{Common, Priority, Crew}
use Rattle.pram_words.specs.Forms.{by_form}
use Rattle.pram_words.specs.Words.{LayoutData, claims_at, has_claims, number_of}
use Rattle.pram_words.specs.Words.{wide_claims_at}
use Rattle.pram_words.specs.declared.layout.Form.{Form}
use Rattle.pram_words.specs.declared.layout.Form.TheVariants.{Compact, Wide}
use Rattle.pram_words.specs.declared.words.Word.TheVariants.{Claim}
use Rattle.walk_memory.specs.Blocks.{IsBoard}
use Rattle.walk_memory.specs.Inner.Posts.{ClaimsFrom, IsCell, IsCellOf, PostData}
use Rattle.walk_memory.proofs.Boards.{is_below, length_small, same_cells}

claimed_by : (r : Rule) → r ≢ Common → IsTrue (has_claims r)
claimed_by Common other = absurd (other refl)
claimed_by Priority other = refl
claimed_by Crew other = refl

pub cell_of : (at : PostData) (cell : ℕ) → IsBoard at.job at.layout → cell < at.job.cells →
    IsCellOf at cell
cell_of at cell board below =
    let same = same_cells at.job at.layout board in
    record {
      below = below;
      place = omega arith;
      claim = λ other. (
        subst IsTrue (sym (ap (λ (z : LayoutData). z.claims) board.is))
            (claimed_by at.job.rule other),
        omega arith,
      );
    }

shifted : (form : Form) (a b cell : ℕ) →
    by_form form (a + cell) (b + cell) ≡ by_form form (a + 0) (b + 0) + cell
shifted Compact a b cell = omega arith
shifted (Wide g) a b cell = omega arith

-- where the claim words begin, if there are any
module _ (job : JobData) (y : LayoutData) (board : IsBoard job y) (first : ℕ) where
  pub claims_first : first ≡ number_of y (Claim 0) → ClaimsFrom y first
  unfolding number_of
  claims_first is = λ cell has. shifted y.form (claims_at y) (wide_claims_at y) cell
      ∙ ap (λ n. n + cell) (sym is)

  pub claims_none : job.rule ≡ Common → ClaimsFrom y first
  claims_none rule = λ cell has.
      absurd (let no : has_claims Common ≡ true =
      sym (ap (λ (z : LayoutData). z.claims) board.is ∙ ap has_claims rule) ∙ has.0 in cc)

  pub claims_empty : job.cells ≡ 0 → ClaimsFrom y first
  claims_empty none = λ cell has.
      let below = has.1 in
      let same = same_cells job y board in
      absurd (omega (arith, below, same, none))

  pub claim_cell : job.rule ≢ Common → job.cells ≢ 0 → IsCell y 0
  claim_cell rule some = (
    subst IsTrue (sym (ap (λ (z : LayoutData). z.claims) board.is)) (claimed_by job.rule rule),
    let same = same_cells job y board in omega (arith, same, some),
  )

-- and one of them
pub claim_small : (job : JobData) (y : LayoutData) → IsBoard job y → (first : ℕ) →
    ClaimsFrom y first → (cell : ℕ) → IsCell y cell → first + cell < 2 ^ 32
claim_small job y board first from cell has =
    let is = from cell has in
    let below = is_below job y (Claim cell) board has in
    let small = length_small y board.layout in
    omega (arith, is, below, small)
