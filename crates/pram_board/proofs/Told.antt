-- A worker that has been told the answer of its step, and one that is over.
use Rattle.std.proofs.Common.{◌≡◌, ℕ, ◌==◌, if◌then◌else◌, Option, Some, None, refl, sym, ap, subst}
use Rattle.std.proofs.Common.{◌∙◌}
use Rattle.pram_words.specs.declared.words.Word.TheVariants.{Conflict, Node}
use Rattle.pram_words.specs.Words.{number_of}
use Rattle.walkx.specs.declared.operation.Ended.{Ended}
use Rattle.walkx.specs.declared.operation.Ended.TheVariants as ended
use Rattle.walkx.specs.declared.operation.Op.TheVariants.{Load}
use Rattle.walkx.specs.Doing.{Doing}
use Rattle.walkx.specs.Doing as doing
use Rattle.walkx.specs.Reads.{step_seen}
use Rattle.walkx.specs.Records.{Record, after, Knows}
use Rattle.walkx.specs.Walk.{Walking, Fits, IsGoing, end_of, AsksAdmitted, ask_of}
use Rattle.walk_memory.specs.Blocks.{IsBoard}
use Rattle.walkx.proofs.Knowing.{knows_next}
use Rattle.lawful_walk.specs.Moments.{Sound}
use Rattle.lawful_walk.specs.Walks.{ProgressWell}
use Rattle.lawful_walk.proofs.Remembering.{told_true}
use Rattle.lawful_walk.proofs.Sounding.{sound_ends, was_progress}
use Rattle.lawful_walk.proofs.Turns.{rank_safe}
use Rattle.pram_board.specs.declared.look.Progress.{Progress}
use Rattle.pram_board.specs.declared.task.Task.{Task}
use Rattle.pram_board.specs.Seats.{SeatData, hears, Progressed}
use Rattle.pram_board.specs.Worked.{EndShows, Ticked}
use Rattle.pram_board.proofs.Steps.{admits}

pub going_of : (d : Doing) → end_of d ≡ None → IsGoing d
going_of doing.Back e = tt
going_of doing.Begin e = tt
going_of (doing.Turn q) e = tt
going_of (doing.Part q rank) e = tt
going_of (doing.Over x) e = absurd (cc)

-- it stays known
pub knows_told : (t : Task) (p : SeatData) (w : Walking) (q : SeatData) (now : Walking) →
    Ticked t p w q now → Sound t.job t.layout q.record_of →
    AsksAdmitted t.job t.layout (ask_of t.job t.layout w) → Fits t.job t.layout w →
    Knows t.job t.layout p.record_of w → Knows t.job t.layout q.record_of now
knows_told t p w q now made sound ok fits knows =
    let op = ask_of t.job t.layout w in
    let was : Sound t.job t.layout (after p.record_of op made.found) =
    subst (λ (x : SeatData). Sound t.job t.layout x.record_of) made.seat sound in
    let stands = was.stands in
    let board : IsBoard t.job t.layout =
    record { limits = stands.limits; layout = stands.sizes; is = stands.layout } in
    subst (λ (x : SeatData × Walking). Knows t.job t.layout x.0.record_of x.1)
    (λ i. (sym made.seat i, sym made.worker i))
    (knows_next t.job t.layout p.record_of w made.found board fits knows
    (admits t p.record_of op made.found was ok) (told_true t.job t.layout p.record_of w made.found
    was.words rank_safe board stands fits knows was.backed))

-- what a known worker that is over has heard
end_shown : (t : Task) (r : Record) (w : Walking) (d : Doing) → d ≡ w.now → Sound t.job t.layout r →
    Fits t.job t.layout w → Knows t.job t.layout r w → EndShows t r (end_of d)
end_shown t r w doing.Back is sound fits knows = tt
end_shown t r w doing.Begin is sound fits knows = tt
end_shown t r w (doing.Turn q) is sound fits knows = tt
end_shown t r w (doing.Part q rank) is sound fits knows = tt
end_shown t r w (doing.Over ended.Done) is sound fits knows =
    (sound_ends t.job t.layout r w sound fits knows).0 (sym is)
end_shown t r w (doing.Over (ended.Conflict u)) is sound fits knows =
    (sound_ends t.job t.layout r w sound fits knows).1 u (sym is)

pub shows_end : (t : Task) (r : Record) (w : Walking) (o : Option Ended) → o ≡ end_of w.now →
    Sound t.job t.layout r → Fits t.job t.layout w → Knows t.job t.layout r w → EndShows t r o
shows_end t r w o is sound fits knows =
    subst (EndShows t r) (sym is) (end_shown t r w w.now refl sound fits knows)

-- ---- progress

pub progressed : (t : Task) (p q : SeatData) (root u k j : ℕ) (progress : Progress) →
    k ≡ number_of t.layout (Node 1) →
    j ≡ number_of t.layout Conflict → q ≡ hears (hears p (Load k) root) (Load j) u →
    progress.step ≡ step_seen root u → progress.conflict ≡ (if u == 0 then None else Some u) →
    Sound t.job t.layout q.record_of → Progressed t p q progress
progressed t p q root u k j progress at_root at_conflict grows seen named sound =
    let is : q ≡ hears (hears p (Load (number_of t.layout (Node 1))) root)
    (Load (number_of t.layout Conflict)) u =
    grows ∙ ap (λ (x : ℕ × ℕ). hears (hears p (Load x.0) root) (Load x.1) u)
    (λ i. (at_root i, at_conflict i)) in
    let s : Sound t.job t.layout (after (after p.record_of
    (Load (number_of t.layout (Node 1))) root) (Load (number_of t.layout Conflict)) u) =
    subst (λ (x : SeatData). Sound t.job t.layout x.record_of) is sound in
    let w : ProgressWell t.job t.layout p.record_of (after (after p.record_of
    (Load (number_of t.layout (Node 1))) root) (Load (number_of t.layout Conflict)) u)
    (step_seen root u) u = was_progress t.job t.layout p.record_of root u s in
    record {
      root = root;
      named = u;
      is = is;
      step = seen;
      conflict = named;
      well =
          subst (λ (x : SeatData × ℕ). ProgressWell t.job t.layout p.record_of x.0.record_of x.1 u)
          (λ i. (sym is i, sym seen i)) w;
    }
