-- A worker that was told all answers of a script that was played.
use Rattle.std.proofs.Common.{◌≡◌, ℕ, ◌+◌, ◌%◌, ◌^◌, ◌<◌, List, [], ◌∷◌, ◌++◌}
use Rattle.std.proofs.Common.{length, Some, None, refl, sym, ap, ap₂, subst, ◌∙◌, arith}
use Rattle.pram_job.specs.Job.{JobData}
use Rattle.pram_words.specs.Words.{LayoutData}
use Rattle.walkx.specs.declared.operation.Op.{Op}
use Rattle.walkx.specs.Bound.{told_all}
use Rattle.walk_memory.specs.Inner.Posts.{PostData}
use Rattle.walkx.specs.Records.{Record, Knows}
use Rattle.walkx.specs.Rests.{leads, turn_of}
use Rattle.walkx.specs.Scripts.{Script, asks, ends, rest_after, rest, first_op, heard_in}
use Rattle.walk_memory.specs.declared.memo.Memo.{Memo}
use Rattle.walkx.specs.Turns.{beginning, turning}
use Rattle.walkx.specs.declared.turns.Turned.{Turned}
use Rattle.walkx.specs.declared.turns.Turned.TheVariants as turned
use Rattle.walkx.specs.Walk.{Then, begins, enters, turns, Walking, Fits, AllAdmitted, IsGoing}
use Rattle.walkx.specs.Walk.{ask_of, goes_on, script_of, told, turn_script}
use Rattle.walk_memory.specs.Blocks.{IsBoard}
use Rattle.walkx.proofs.Fitting.{fits_told}
use Rattle.walkx.proofs.Going.{next_of, op_with_first, told_going}
use Rattle.walkx.proofs.Knowing.{knows_next}
use Rattle.lawful_walk.specs.Board.{Stands}
use Rattle.lawful_walk.specs.Moments.{Backed, Sound, afters}
use Rattle.lawful_walk.proofs.Remembering.{told_true}
use Rattle.lawful_walk.proofs.Turns.{rank_safe}
use Rattle.lawful_walk.specs.Walks.{steps_heard}
use Rattle.pram_board.specs.declared.task.Task.{Task}
use Rattle.pram_board.specs.Seats.{SeatData, hears_all}
use Rattle.pram_board.specs.Inner.Plays.{Ran}
use Rattle.pram_board.specs.Inner.Plays.{AllAnswer, Drives, Driving, IsAt, Led, PlaysScript}
use Rattle.pram_board.specs.Inner.Plays.{IsWalking, Went}
use Rattle.pram_board.specs.Inner.Plays.{in_block, led_to, post_task, turning_at}
use Rattle.pram_board.proofs.Due.{hearing}
use Rattle.pram_board.proofs.Playing.{afters_more, length_more}

goes_on_asks : (job : JobData) (y : LayoutData) (w : Walking) (found : ℕ) (s : Script Then)
    (op : Op) → first_op s ≡ Some op →
    goes_on job y w found s ≡ record w { heard = found ∷ w.heard }
goes_on_asks job y w found (asks o next) op a = refl
goes_on_asks job y w found (ends r) op a = absurd (cc)

module _ (t : Task) (w : Walking) (fresh : w.heard ≡ []) (going : IsGoing w.now) where
  -- as long as the script asks, the worker keeps the answers
  tells_on : (answers : List ℕ) (op : Op) → AllAnswer (script_of t.job t.layout w) answers →
      first_op (rest (script_of t.job t.layout w) answers) ≡ Some op →
      told_all t.job t.layout w answers ≡ hearing w answers
  tells_on [] op all first = ap (λ (h : List ℕ). record w { heard = h }) fresh
  tells_on (found ∷ earlier) op all first =
      ap (λ (v : Walking). told t.job t.layout v found) (tells_on earlier all.0.0 all.1 all.0.1)
      ∙ told_going t.job t.layout w.now (hearing w earlier) found (rest_after (rest
      (script_of t.job t.layout w) earlier) found) going
      ∙ goes_on_asks t.job t.layout (hearing w earlier) found (rest_after (rest
      (script_of t.job t.layout w) earlier) found) op first

  -- its steps are the script's
  tells_steps : (answers : List ℕ) → AllAnswer (script_of t.job t.layout w) answers →
      steps_heard t.job t.layout w answers ≡ heard_in (script_of t.job t.layout w) answers
  tells_steps [] all = refl
  tells_steps (found ∷ earlier) all =
      ap₂ (λ (v : Walking) (es : List (Op × ℕ)). (ask_of t.job t.layout v, found) ∷ es)
      (tells_on earlier all.0.0 all.1 all.0.1) (tells_steps earlier all.1)
      ∙ ap (λ (op : Op). (op, found) ∷ heard_in (script_of t.job t.layout w) earlier)
      (next_of w.now (rest (script_of t.job t.layout w) earlier) all.0.0 going all.0.1)
      ∙ ap (λ (es : List (Op × ℕ)). es ++ heard_in (script_of t.job t.layout w) earlier) (sym
      (op_with_first (rest (script_of t.job t.layout w) earlier) all.0.0 found all.0.1))

  -- at the script's end it goes on as the script says
  tells_end : (found : ℕ) (earlier : List ℕ) (end : Then) →
      AllAnswer (script_of t.job t.layout w) (found ∷ earlier) →
      rest (script_of t.job t.layout w) (found ∷ earlier) ≡ ends end →
      told_all t.job t.layout w (found ∷ earlier)
      ≡ goes_on t.job t.layout (hearing w earlier) found (ends end)
  tells_end found earlier end all comes =
      ap (λ (v : Walking). told t.job t.layout v found) (tells_on earlier all.0.0 all.1 all.0.1)
      ∙ told_going t.job t.layout w.now (hearing w earlier) found (rest_after (rest
      (script_of t.job t.layout w) earlier) found) going
      ∙ ap (goes_on t.job t.layout (hearing w earlier) found) comes

-- a worker that fits and is known still does with these answers, which standing words bear out
told_fits : (t : Task) (w : Walking) (answers : List ℕ) → IsBoard t.job t.layout →
    Fits t.job t.layout w → AllAdmitted t.job t.layout (steps_heard t.job t.layout w answers) →
    Fits t.job t.layout (told_all t.job t.layout w answers)
told_fits t w [] board fits all = fits
told_fits t w (found ∷ earlier) board fits all = fits_told t.job t.layout
    (told_all t.job t.layout w earlier) found board (told_fits t w earlier board fits all.1) all.0

told_known : (t : Task) (r : Record) (w : Walking) (answers words : List ℕ) →
    IsBoard t.job t.layout → Fits t.job t.layout w →
    AllAdmitted t.job t.layout (steps_heard t.job t.layout w answers) →
    Knows t.job t.layout r w → Stands t.job t.layout words →
    Backed t.job t.layout (afters r (steps_heard t.job t.layout w answers)) words →
    Knows t.job t.layout (afters r (steps_heard t.job t.layout w answers))
    (told_all t.job t.layout w answers)
told_known t r w [] words board fits all knows stands backed = knows
told_known t r w (found ∷ earlier) words board fits all knows stands backed =
    let past = afters r (steps_heard t.job t.layout w earlier) in
    let now = told_all t.job t.layout w earlier in
    let fits_now = told_fits t w earlier board fits all.1 in
    let known =
    told_known t r w earlier backed.words board fits all.1 knows backed.stands backed.earlier in
    knows_next t.job t.layout past now found board fits_now known all.0
    (told_true t.job t.layout past now found words rank_safe board stands fits_now known backed)

module _ (t : Task) (w : Walking) (p q : Driving) (end : Then) (now : Walking)
    (fresh : w.heard ≡ []) (going : IsGoing w.now) (here : IsAt t q) (fits : Fits t.job t.layout w)
    (knows : Knows t.job t.layout p.seat.record_of w)
    (sound : Sound t.job t.layout q.seat.record_of) where
  led_by : (answers : List ℕ) → AllAnswer (script_of t.job t.layout w) answers →
      rest (script_of t.job t.layout w) answers ≡ ends end →
      AllAdmitted t.job t.layout (heard_in (script_of t.job t.layout w) answers) →
      q.desk ≡ p.desk → q.seat ≡ hears_all p.seat (heard_in (script_of t.job t.layout w) answers) →
      q.made % 2 ^ 64 ≡ (p.made + length answers) % 2 ^ 64 →
      (p.made < 2 ^ 64 → q.made < 2 ^ 64) → (script_of t.job t.layout w ≡ ends end → ⊥) →
      ((found : ℕ) (earlier : List ℕ) →
      goes_on t.job t.layout (hearing w earlier) found (ends end) ≡ now) →
      Led t p w q now
  led_by [] all comes ok desk seat count small some leads = absurd (some comes)
  led_by (found ∷ earlier) all comes ok desk seat count small some leads =
      let s = script_of t.job t.layout w in
      let heard = steps_heard t.job t.layout w (found ∷ earlier) in
      let steps : steps_heard t.job t.layout w (found ∷ earlier) ≡ heard_in s (found ∷ earlier) =
      tells_steps t w fresh going (found ∷ earlier) all in
      let is : now ≡ told_all t.job t.layout w (found ∷ earlier) =
      sym (leads found earlier) ∙ sym (tells_end t w fresh going found earlier end all comes) in
      let good : AllAdmitted t.job t.layout (steps_heard t.job t.layout w (found ∷ earlier)) =
      subst (AllAdmitted t.job t.layout) (sym steps) ok in
      let grown : q.seat ≡ hears_all p.seat (steps_heard t.job t.layout w (found ∷ earlier)) =
      seat ∙ ap (hears_all p.seat) (sym steps) in
      let was : Sound t.job t.layout (afters p.seat.record_of
      (steps_heard t.job t.layout w (found ∷ earlier))) =
      subst (λ (x : SeatData). Sound t.job t.layout x.record_of) grown sound in
      record {
        walks = record {
          here = here;
          fits = subst (Fits t.job t.layout) (sym is)
              (told_fits t w (found ∷ earlier) here.board fits good);
          knows = subst (λ (x : SeatData × Walking). Knows t.job t.layout x.0.record_of x.1)
              (λ i. (sym grown i, sym is i))
              (told_known t p.seat.record_of w (found ∷ earlier) was.words here.board fits good knows
              was.stands was.backed);
        };
        went = record {
          ticks = length (found ∷ earlier);
          ran = record { answers = found ∷ earlier; count = refl; seat = grown; worker = is };
          desk = desk;
          count = count;
          small = small;
        };
        some = omega arith;
      }

  pub led : (script_of t.job t.layout w ≡ ends end → ⊥) →
      ((found : ℕ) (earlier : List ℕ) →
      goes_on t.job t.layout (hearing w earlier) found (ends end) ≡ now) →
      PlaysScript t (script_of t.job t.layout w) p (ends end) q → Led t p w q now
  led some leads played =
      led_by played.answers played.each played.comes played.admitted played.desk played.seat
      played.count played.small some leads

-- a turn asks first
asks_some : (op : Op) (next : ℕ → Script Then) (end : Then) → asks op next ≡ ends end → ⊥
asks_some op next end e =
    let no : Some op ≡ None = ap (λ (s : Script Then). first_op s) e in absurd (cc)

-- a turn leads to another one, to a begin, or into a block
pub led_turn : (at : PostData) (memory : List Memo) (p z : Driving) (next : Turned) →
    IsWalking (post_task at) p (turning_at at memory) →
    Sound at.job at.layout z.seat.record_of →
    Drives (post_task at) (p, turn_of at) z (ends (leads at next)) →
    Led (post_task at) p (turning_at at memory) z (led_to at memory next)
unfolding turn_script
led_turn at memory p z next walks sound drives = by next drives.plays
  where
    goes : (end : Then) (now : Walking) →
        ((found : ℕ) (earlier : List ℕ) →
        goes_on at.job at.layout (hearing (turning_at at memory) earlier) found (ends end) ≡ now) →
        PlaysScript (post_task at) (turn_of at) p (ends end) z →
        Led (post_task at) p (turning_at at memory) z now
    goes end now leads_to plays = led (post_task at) (turning_at at memory) p z end now refl tt
        drives.here walks.fits walks.knows sound (λ e. asks_some _ _ end e) leads_to plays

    by : (to : Turned) → PlaysScript (post_task at) (turn_of at) p (ends (leads at to)) z →
        Led (post_task at) p (turning_at at memory) z (led_to at memory to)
    by turned.Finished plays =
        goes (begins 1) (beginning at.worker 1 memory) (λ found earlier. refl) plays
    by (turned.To m) plays =
        goes (turns m at.phase) (turning at.worker m at.phase memory) (λ found earlier. refl) plays
    by turned.Enters plays =
        goes (enters at.node at.phase) (in_block at 0 memory) (λ found earlier. refl) plays

-- ---- ticks after ticks

pub told_more : (t : Task) (w : Walking) (more before : List ℕ) →
    told_all t.job t.layout w (more ++ before) ≡ told_all t.job t.layout
    (told_all t.job t.layout w before) more
told_more t w [] before = refl
told_more t w (found ∷ more) before = ap (λ (v : Walking). told t.job t.layout v found)
    (told_more t w more before)

pub steps_more : (t : Task) (w : Walking) (more before : List ℕ) →
    steps_heard t.job t.layout w (more ++ before) ≡ steps_heard t.job t.layout
    (told_all t.job t.layout w before) more ++ steps_heard t.job t.layout w before
steps_more t w [] before = refl
steps_more t w (found ∷ more) before = ap₂ (λ (v : Walking) (es : List (Op × ℕ)).
    (ask_of t.job t.layout v, found) ∷ es) (told_more t w more before) (steps_more t w more before)

pub ran_more : (t : Task) (p : SeatData)
    (w : Walking) (n : ℕ) (q : SeatData) (mid : Walking) (m : ℕ)
    (z : SeatData) (now : Walking) → Ran t p w n q mid →
    Ran t q mid m z now → Ran t p w (n + m) z now
ran_more t p w n q mid m z now first second = record {
  answers = second.answers ++ first.answers;
  count = length_more second.answers first.answers ∙ (let a = first.count in let b =
      second.count in omega arith);
  seat =
      second.seat
      ∙ ap₂ (λ (x : SeatData) (v : Walking). hears_all x
      (steps_heard t.job t.layout v second.answers))
      first.seat first.worker
      ∙ ap (λ (r : Record). record {
        desk = p.desk;
        record_of =
            r;
      }) (sym (afters_more p.record_of (steps_heard t.job t.layout w first.answers)
      (steps_heard t.job t.layout (told_all t.job t.layout w first.answers) second.answers)))
      ∙ ap (hears_all p) (sym (steps_more t w second.answers first.answers));
  worker = second.worker ∙ ap (λ (v : Walking). told_all t.job t.layout v second.answers)
      first.worker ∙ sym (told_more t w second.answers first.answers);
}

pub count_more : (m n k a b : ℕ) → n % 2 ^ 64 ≡ (m + a) % 2 ^ 64 → k % 2 ^ 64 ≡ (n + b) % 2 ^ 64 →
    k % 2 ^ 64 ≡ (m + (a + b)) % 2 ^ 64
count_more m n k a b first second = omega arith

abbrev pub went_more : (t : Task) (p : Driving) (w : Walking) (q : Driving) (mid : Walking)
    (z : Driving)
    (now : Walking) → Went t p w q mid → Went t q mid z now → Went t p w z now
went_more t p w q mid z now first second = record {
  ticks = first.ticks + second.ticks;
  ran = ran_more t p.seat w first.ticks q.seat mid second.ticks z.seat now first.ran second.ran;
  desk = second.desk ∙ first.desk;
  count = count_more p.made q.made z.made first.ticks second.ticks first.count second.count;
  small = λ h. second.small (first.small h);
}
