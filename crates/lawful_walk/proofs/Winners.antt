-- Of the writers of a place the one whose write counts, where a word lands.
use Rattle.std.proofs.Common.{◌≡◌, ℕ, suc, ◌<◌, ◌≤◌, ◌^◌, slice_index, sym, subst, ◌∙◌}
use Rattle.std.proofs.Common.{inl, inr, arith, refl, ◌≢◌, false, true≢false}
use Rattle.pram_job.specs.declared.instr.Rule.{Rule}
use Rattle.pram_job.specs.declared.instr.Rule.TheVariants.{Common, Priority, Crew}
use Rattle.pram_job.specs.Job.{JobData, IsJob}
use Rattle.pram_machine.specs.Machine.{place_count}
use Rattle.pram_step.specs.History.{Asks, Wins, IsWritten}
use Rattle.pram_step.specs.Runs.{AgreesAfter, requests_after, state_after}
use Rattle.pram_step.specs.Steps.{Counts}
use Rattle.pram_step.proofs.LawPlaces.{writer_is}
use Rattle.pram_step.proofs.LawWriters.{writer_cases}
use Rattle.pram_step.proofs.Past.{asks_fit, value_fits, written_value}
use Rattle.pram_words.specs.declared.layout.Form.{Form}
use Rattle.pram_words.specs.declared.layout.Form.TheVariants.{Compact, Wide}
use Rattle.walk_memory.specs.Memory.{settles}
use Rattle.lawful_walk.specs.Board.{OwnNone}
use Rattle.lawful_walk.specs.Lands.{IsLanded, IsShared, Lands, asked, own, owner}
use Rattle.lawful_walk.proofs.Landings.{above_form, own_settles}
use Rattle.lawful_walk.proofs.Newest.{below_owner, own_writer, owner_below}

-- ---- a write to a cell gets a word in both forms

pub cell_shared : (form : Form) (job : JobData) (p : ℕ) → p < job.cells → IsShared form job p
cell_shared Compact job p cell = tt
cell_shared (Wide g) job p cell = cell

pub cell_lands : (form : Form) (job : JobData) (s p i v : ℕ) → p < job.cells → Asks job s p i v →
    Lands form job s p i v
cell_lands form job s p i v cell asks = asked (cell_shared form job p cell) asks

pub lands_shared : (form : Form) (job : JobData) (s p i v : ℕ) → IsShared form job p →
    Lands form job s p i v → Asks job s p i v
lands_shared form job s p i v shared (asked is asks) = asks
lands_shared form job s p i v shared (own apart does who what) = absurd (apart shared)

-- and is one that is asked for
pub lands_cell : (form : Form) (job : JobData) (s p i v : ℕ) → p < job.cells →
    Lands form job s p i v → Asks job s p i v
lands_cell form job s p i v cell = lands_shared form job s p i v (cell_shared form job p cell)

-- a place of its own takes what it holds after the step
pub lands_value : (form : Form) (job : JobData) (s p i v : ℕ) → (IsShared form job p → ⊥) →
    Lands form job s p i v → v ≡ slice_index (state_after job (suc s)) p
lands_value form job s p i v other (asked shared asks) = absurd (other shared)
lands_value form job s p i v other (own apart does who what) = what

-- so it is each in the compact form
pub compact_lands : (form : Form) (job : JobData) (s p i v : ℕ) → form ≡ Compact →
    Asks job s p i v → Lands form job s p i v
compact_lands Compact job s p i v is asks = asked tt asks
compact_lands (Wide g) job s p i v is asks = absurd (cc)

pub lands_compact : (form : Form) (job : JobData) (s p i v : ℕ) → form ≡ Compact →
    Lands form job s p i v → Asks job s p i v
lands_compact Compact job s p i v is = lands_shared Compact job s p i v tt
lands_compact (Wide g) job s p i v is = absurd (cc)

pub written_of : (form : Form) (job : JobData) (s p : ℕ) → p < job.cells → IsLanded form job s p →
    IsWritten job s p
written_of form job s p cell w = record {
  writer = w.writer;
  value = w.value;
  asks = lands_cell form job s p w.writer w.value cell w.lands;
}

-- ---- who writes a word, and what

module _ (form : Form) (job : JobData) (s p i v : ℕ) (is_job : IsJob job) where
  -- a place of the machine is written by a processor of the machine
  pub lands_writer : p < place_count job → Lands form job s p i v → i < job.procs
  lands_writer below (asked shared asks) = (writer_is job (state_after job s) p i v asks).0
  lands_writer below (own apart does who what) =
      let k = owner_below job p (above_form form job p apart) below in omega (arith, k, who)

  -- and the other way
  pub lands_below : i < job.procs → Lands form job s p i v → p < place_count job
  lands_below proc (asked shared asks) = (asks_fit job s p i v is_job asks).0
  lands_below proc (own apart does who what) =
      below_owner job p (omega (arith, proc, who))

  pub lands_fits : Lands form job s p i v → v < 2 ^ 32
  lands_fits (asked shared asks) = (asks_fit job s p i v is_job asks).1
  lands_fits (own apart does who what) =
      let k = value_fits job (suc s) p is_job in
      subst (λ (n : ℕ). n < 2 ^ 32) (sym what) k

  -- a write that counts is what the place holds
  pub landed_value : p < place_count job → AgreesAfter job s → Lands form job s p i v →
      Wins job s p i → slice_index (state_after job (suc s)) p ≡ v
  landed_value below agrees (asked shared asks) wins =
      written_value job s p i v is_job below agrees asks wins
  landed_value below agrees (own apart does who what) wins = sym what

-- where a processor does not settle no place of its own gets a word
pub own_none_of_settles : (g : ℕ) (job : JobData) (t i : ℕ) → settles job t i ≡ false →
    OwnNone (Wide g) job t i
own_none_of_settles g job t i rests p v (asked low asks) high = absurd (omega (arith, low, high))
own_none_of_settles g job t i rests p v (own apart does who what) high =
    true≢false (sym (own_settles job t p does)
    ∙ subst (λ (j : ℕ). settles job t j ≡ false) who rests)

-- ---- whose write wins

pub counts_first : (job : JobData) (s p i : ℕ) (rule : Rule) →
    ((j w : ℕ) → Asks job s p j w → i ≤ j) → Counts rule job (requests_after job s) p i
counts_first job s p i Common least = tt
counts_first job s p i Priority least = least
counts_first job s p i Crew least = tt

-- that of a place of its own
pub wins_owner : (job : JobData) (s p i : ℕ) → IsJob job → job.cells ≤ p → i ≡ owner job p →
    Wins job s p i
wins_owner job s p i is_job high who = counts_first job s p i job.rule
    (λ j w other. let same = own_writer job s p j w is_job other high in omega (arith, same, who))

pub wins_lands : (form : Form) (job : JobData) (s p i v : ℕ) → IsJob job → job.cells ≤ p →
    Lands form job s p i v → Wins job s p i
wins_lands form job s p i v is_job high (asked shared asks) =
    wins_owner job s p i is_job high (sym (own_writer job s p i v is_job asks high))
wins_lands form job s p i v is_job high (own apart does who what) =
    wins_owner job s p i is_job high who

pub record Winner (form : Form) (job : JobData) (s p : ℕ) : Type 0 where
  pub writer : ℕ
  pub value : ℕ
  pub lands : Lands form job s p writer value
  pub wins : Wins job s p writer

pub winner : (form : Form) (job : JobData) (s p : ℕ) → IsJob job → IsLanded form job s p →
    Winner form job s p
winner form job s p is_job w = by w.lands
  where
    by : Lands form job s p w.writer w.value → Winner form job s p
    by (asked shared asks) = elim (writer_cases job (requests_after job s) p) [
      | inl n ↦ absurd (n.none w.writer w.value asks)
      | inr f ↦ record {
        writer = f.writer;
        value = f.value;
        lands = asked shared f.first.writes;
        wins = counts_first job s p f.writer job.rule f.first.least;
      }
    ]
    by (own apart does who what) = record {
      writer = w.writer;
      value = w.value;
      lands = own apart does who what;
      wins = wins_owner job s p w.writer is_job (above_form form job p apart) who;
    }

-- every write wins, where the rule is not priority
counts_all : (job : JobData) (s p i : ℕ) (rule : Rule) → rule ≢ Priority →
    Counts rule job (requests_after job s) p i
counts_all job s p i Common not = tt
counts_all job s p i Priority not = absurd (not refl)
counts_all job s p i Crew not = tt

pub wins_all : (job : JobData) (s p i : ℕ) → job.rule ≢ Priority → Wins job s p i
wins_all job s p i not = counts_all job s p i job.rule not

-- with rule priority the winner is the least writer
pub wins_least : (job : JobData) (s p i j v : ℕ) → job.rule ≡ Priority →
    Wins job s p i → Asks job s p j v → i ≤ j
wins_least job s p i j v rule wins asks =
    (subst (λ (r : Rule). Counts r job (requests_after job s) p i) rule wins) j v asks
