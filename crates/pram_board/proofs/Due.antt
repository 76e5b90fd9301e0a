-- A worker's next operation is one that its seat may make.
use Rattle.std.proofs.Common.{◌≡◌, ℕ, List, [], ◌∷◌, ◌++◌, Some, refl, sym, ap, subst, inl, ◌∙◌}
use Rattle.walkx.specs.declared.operation.Op.{Op}
use Rattle.walkx.specs.Records.{Record, Has, HasBlock, Knows}
use Rattle.walkx.specs.Scripts.{Script, asks, rest, first_op, heard_in}
use Rattle.walkx.specs.Walk.{Then, Walking, Fits, AllAdmitted, AsksAdmitted, ask_of}
use Rattle.walkx.specs.Walk.{node_of, phase_begun, rest_of, script_of}
use Rattle.walkx.proofs.Asking.{all_ask, going_steps}
use Rattle.walkx.proofs.Going.{matches_of, next_of}
use Rattle.walkx.proofs.Knowing.{block_more}
use Rattle.pram_job.specs.Job.{JobData}
use Rattle.pram_words.specs.Words.{LayoutData}
use Rattle.walkx.specs.Doing.{Doing}
use Rattle.lawful_walk.specs.Moments.{afters}
use Rattle.pram_board.specs.declared.task.Task.{Task}
use Rattle.pram_board.specs.Rules.{May}
use Rattle.pram_board.specs.Seats.{SeatData, hears_all}
use Rattle.pram_board.specs.Inner.Plays.{Drives, Driving}
use Rattle.pram_board.proofs.Next.{none_of}
use Rattle.pram_board.proofs.Playing.{admitted_more}
use Rattle.pram_board.proofs.Steps.{may_step}

-- the worker with these answers heard in the script that it began
abbrev pub hearing : Walking → List ℕ → Walking
hearing w answers = record w { heard = answers }

has_afters : (r : Record) (steps begun : List (Op × ℕ)) → Has r begun →
    Has (afters r steps) (steps ++ begun)
has_afters r [] begun has = has
has_afters r (e ∷ es) begun has = inl (refl, has_afters r es begun has)

block_afters : (job : JobData) (y : LayoutData) (r : Record) (n : ℕ) (d : Doing)
    (steps : List (Op × ℕ)) → HasBlock job y r n d → HasBlock job y (afters r steps) n d
block_afters job y r n d [] block = block
block_afters job y r n d (e ∷ es) block =
    block_more job y (afters r es) n d e.0 e.1 (block_afters job y r n d es block)

module _ (t : Task) (from : Driving × Script Then) (d : Driving) (op : Op)
    (next : ℕ → Script Then) (h : Drives t from d (asks op next)) where
  -- the worker that began the script, with the answers that were heard in it
  abbrev now : Walking
  now = hearing h.by h.plays.answers

  played : heard_in (script_of t.job t.layout h.by) h.plays.answers ≡ heard_in from.1
      h.plays.answers
  played = ap (λ (s : Script Then). heard_in s h.plays.answers) h.begun

  begun_admitted : AllAdmitted t.job t.layout (phase_begun t.layout h.by.now)
  begun_admitted = subst (λ (found : List ℕ). AllAdmitted t.job t.layout
      (heard_in (script_of t.job t.layout h.by) found ++ phase_begun t.layout h.by.now))
      h.fresh h.fits.admitted

  begun_known : Has from.0.seat.record_of (phase_begun t.layout h.by.now)
  begun_known = subst (λ (found : List ℕ). Has from.0.seat.record_of
      (heard_in (script_of t.job t.layout h.by) found ++ phase_begun t.layout h.by.now))
      h.fresh h.knows.script

  now_known : Knows t.job t.layout d.seat.record_of now
  now_known =
      let steps = heard_in (script_of t.job t.layout h.by) h.plays.answers in
      let grown : d.seat ≡ hears_all from.0.seat steps =
      h.plays.seat ∙ ap (hears_all from.0.seat) (sym played) in
      subst (λ (p : SeatData). Knows t.job t.layout p.record_of now) (sym grown) (record {
        script = has_afters from.0.seat.record_of steps (phase_begun t.layout h.by.now) begun_known;
        block = block_afters t.job t.layout from.0.seat.record_of (node_of t.layout h.by) h.by.now
            steps h.knows.block;
        memory = h.knows.memory;
      })

  first : first_op (rest_of t.job t.layout now) ≡ Some op
  first = ap (λ (s : Script Then). first_op (rest s h.plays.answers)) h.begun
      ∙ ap (λ (s : Script Then). first_op s) h.plays.comes

  now_fits : Fits t.job t.layout now
  now_fits = record {
    number = h.fits.number;
    node = h.fits.node;
    phase = h.fits.phase;
    block = h.fits.block;
    memory = h.fits.memory;
    admitted = admitted_more t.job t.layout _ (phase_begun t.layout h.by.now)
        (subst (AllAdmitted t.job t.layout) (sym played) h.plays.admitted) begun_admitted;
    matches = matches_of h.by.now _ h.going (record { op = op; first = first });
  }

  asks_op : ask_of t.job t.layout now ≡ op
  asks_op = next_of h.by.now (rest_of t.job t.layout now) op h.going first

  pub due_may : May t d.seat.record_of op
  due_may = subst (May t d.seat.record_of) asks_op (may_step t d.seat.record_of now now_fits
      now_known (going_steps t.job t.layout now h.here.board now_fits (none_of h.by.now h.going)))

  pub due_asks : AsksAdmitted t.job t.layout op
  due_asks = subst (AsksAdmitted t.job t.layout) asks_op
      (all_ask t.job t.layout now h.here.board now_fits)
