-- Claims of which little is to be done.
use Rattle.std.proofs.Common.{◌≡◌, ℕ, ◌+◌, false, Some, None, Result, Ok, Err, refl, sym, ap}
use Rattle.std.proofs.Common.{subst, ◌∙◌}
use Rattle.std.proofs.lemmas.Bool.{lt-ltb}
use Rattle.pram_job.specs.declared.instr.Instr.{Instr}
use Rattle.pram_job.specs.declared.instr.Instr.TheVariants.{St}
use Rattle.pram_job.specs.declared.instr.Operand.{Operand}
use Rattle.pram_job.specs.declared.instr.Rule.{Rule}
use Rattle.pram_job.specs.declared.instr.Rule.TheVariants.{Common, Priority, Crew}
use Rattle.pram_machine.specs.declared.requests.Request.{Request}
use Rattle.pram_words.specs.declared.phases.Kind.{Kind}
use Rattle.walk_memory.specs.declared.memo.Memo.{Memo}
use Rattle.walk_memory.specs.Inner.Posts.{PostData, processor_of, step_of}
use Rattle.walk_memory.specs.Memory.{cell_named, is_common, settles_in}
use Rattle.walkx.specs.declared.left.Stopped.{Stopped}
use Rattle.walkx.specs.declared.left.Left.TheVariants.{Held}
use Rattle.walkx.specs.Driving.{IsNextPart, Plays, Standing, goes, makes}
use Rattle.walkx.specs.Parts.{claim_raised, does_wide}
use Rattle.walkx.specs.Passing.{idle, idle_in}
use Rattle.walk_memory.specs.Plain.{ClaimsPlainly, claimed}
use Rattle.walk_memory.specs.Rows.{held_in}
use Rattle.walkx.specs.Scripts.{Script, asks}
use Rattle.walkx.specs.Walk.{Then}
use Rattle.walkx.specs.WideParts.{asked_with, claimed_cell, does_own_by, learned, own_written}
use Rattle.walkx.specs.WideParts.{store_claimed}
use Rattle.walkx.proofs.Claimed.{claims_some}
use Rattle.walkx.proofs.FirstPass.{decides_first, reads_none}
use Rattle.walkx.proofs.Silent.{claiming_asks}
use Rattle.walkx.proofs.TakingUp.{own_next, own_plays}
use Rattle.walkx.proofs.Turning.{moved}
use Rattle.walk_memory.proofs.GoingAlone.{settles_by}
use Rattle.walk_memory.proofs.InLanes.{asks_store}
use Rattle.walk_memory.proofs.Timing.{compute_is}

module _ (at : PostData) (memo : Memo) (cell : ℕ) (operand : Operand)
    (is : ClaimsPlainly at memo cell operand) where
  abbrev pub claiming : Instr
  claiming = St is.place operand

  -- what it asks for
  abbrev pub claim : Request
  claim = record {
    put = Some (cell, held_in operand memo.own.registers);
    next = memo.own.counter + 1;
  }

  pub claim_asks : claim ≡ asked_with at memo (Some claiming) 0
  claim_asks = sym (asks_store at.job (processor_of at) memo.own is.place operand cell is.reaches)

  pub claim_reads : cell_named at.job memo.own (Some claiming) ≡ None
  claim_reads = reads_none at.job memo.own claiming refl

  cell_by : (rule : Rule) → is_common rule ≡ false → claimed_cell rule at.job claim ≡ Some cell
  cell_by Common e = absurd (cc)
  cell_by Priority e = rw (lt-ltb cell at.job.cells is.below) refl
  cell_by Crew e = rw (lt-ltb cell at.job.cells is.below) refl

  pub claim_cell : claimed_cell at.job.rule at.job claim ≡ Some cell
  claim_cell = cell_by at.job.rule is.rule

  pub claim_lags : settles_in at.job (step_of at) memo.settled memo.own ≡ false
  claim_lags = settles_by at.job memo.own claiming is.code (step_of at) memo.settled ∙ is.lags

  pub claim_learned : claimed at memo cell operand ≡ learned at memo claim
  claim_learned = ap (λ (q : ℕ). record (claimed at memo cell operand) { acted = q })
      (compute_is at.phase is.first)
      ∙ rw (claim_lags, lt-ltb cell at.job.cells is.below) refl

  -- it is made, and nothing else
  pub claim_made : (late next : Script Then) → own_written at memo claim late
      (λ done. next) ≡ next
  claim_made late next = rw claim_lags refl

  pub claim_stores : (late : Script Then) (next : Unit {0} → Script Then) →
      store_claimed at.job.rule at claim late next
      ≡ asks (claim_raised at cell) (λ found. next tt)
  claim_stores late next = claims_some at claim late next at.job.rule cell is.below claim_cell

  pub claim_idle : idle at memo ≡ None
  claim_idle = ap (λ (k : Kind). idle_in k at memo) is.first
      ∙ claiming_asks at memo claiming is.before is.code is.lags claim claim_asks (Some cell)
      (sym claim_cell) refl

-- the operation that claims is made
module _ {D : Type 0} (stands : Standing D) (at : PostData) (memo : Memo) (cell : ℕ)
    (operand : Operand) (is : ClaimsPlainly at memo cell operand) (old : D) where
  abbrev instr : Instr
  instr = claiming at memo cell operand is

  abbrev request : Request
  request = claim at memo cell operand is

  -- what follows it
  abbrev written : (Memo → Script Then) → Script Then
  written next = own_written at memo request (next memo) (λ done. next (learned at memo request))

  here_then : (from : D × Script Then) (late : Script Then) (next : Memo → Script Then) →
      stands from old (Some (does_own_by at memo (Some instr) late next)) →
      stands from old (Some (asks (claim_raised at cell) (λ found. written next)))
  here_then from late next here = moved stands from _ _ _
      (claim_stores at memo cell operand is (next memo) (λ done. written next))
      (decides_first stands at memo instr from next old request (claim_asks at memo cell operand is)
      (claim_reads at memo cell operand is) late here)

  pub claim_next : IsNextPart stands old (does_wide at memo) →
      IsNextPart stands old (makes (claim_raised at cell))
  claim_next next_is =
      let n = own_next at memo instr is.first is.before is.code stands old next_is in
      record {
        from = n.from;
        after = n.next memo;
        next = λ found. written n.next;
        here = here_then n.from n.after n.next n.here;
      }

  -- it was, from there
  abbrev Made : D → Result ℕ Stopped → Type 0
  Made new result = (from : D × Script Then) (next : ℕ → Script Then) →
      stands from old (Some (asks (claim_raised at cell) next)) →
      stands from new (goes next result)

  pub claim_held : (new : D) (why : Stopped) → Made new (Err why) →
      Plays stands old (does_wide at memo) new (Err Held)
  claim_held new why made =
      own_plays at memo instr is.first is.before is.code stands old new _ (record {
        on = λ from late next here. made from (λ found. written next)
            (here_then from late next here);
      })

  pub claim_played : (new : D) (found : ℕ) → Made new (Ok found) →
      Plays stands old (does_wide at memo) new (Ok (claimed at memo cell operand))
  claim_played new found made =
      subst (λ (m : Memo). Plays stands old (does_wide at memo) new (Ok m))
      (sym (claim_learned at memo cell operand is))
      (own_plays at memo instr is.first is.before is.code stands old new _ (record {
        on = λ from late next here. moved stands from _ _ _
            (claim_made at memo cell operand is (next memo) (next (learned at memo request)))
            (made from (λ found. written next) (here_then from late next here));
      }))
