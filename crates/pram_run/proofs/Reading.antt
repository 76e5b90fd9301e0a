-- Reads that are printed while they are made.
use Rattle.std.proofs.Common.{◌≡◌, ◌∙◌, ◌+◌, ◌++◌, ℕ, List, [], Option, Ok, Err, OnOk}
use Rattle.std.proofs.Common.{refl, sym, ap, subst, map, append_assoc}
use Rattle.std.proofs.lemmas.List.{append-nil, map-append}
use Rattle.std.proofs.KnownBytes.{Appends-nil, Appends-trans}
use Rattle.std.specs.Io.KnownBytes.{Appends}
use Rattle.pram_streams.specs.Transfer.{AppendsBeginning}
use Rattle.pram_streams.proofs.Beginnings.{beginning-after, beginning-longer}
use Rattle.pram_board.specs.declared.task.Task.{Task}
use Rattle.pram_board.specs.Seats.{SeatData}
use Rattle.pram_run.specs.Inner.Reading.{HasPut, PassedSights, PutAfter, ReadsRound}
use Rattle.pram_run.specs.Printed.{CellWords, sight_lines, sights_text}
use Rattle.pram_run.specs.PutReads.{Printing, PutWatch}
use Rattle.pram_run.specs.Watching.{HasRead, cells_seen}
use Rattle.pram_run.specs.declared.sight.Sight.{Sight}
use Rattle.pram_run.proofs.Lines.{sights-append}
use Rattle.pram_run.proofs.Streaming.{begins_none}
use Rattle.pram_run.proofs.Watches.{is_watch, round_more}

module _ (words : CellWords) where
  -- nothing is put
  pub put_none : (printed : Printing) (a : Option (List ℕ)) → PutAfter words printed printed a a []
  put_none (Ok done) a = (Appends-nil a, begins_none a [])
  put_none (Err fault) a = (refl, refl)

  pub passed_none : (printed : Printing) (a : Option (List ℕ)) (sights : List Sight) →
      PassedSights words printed printed a a sights sights
  passed_none printed a sights =
      record { gone = []; parts = refl; put = put_none printed a }

  -- all of them are
  pub passed_all : (printed next : Printing) (a b : Option (List ℕ)) (sights now left : List Sight) →
      now ≡ sights → left ≡ [] → PutAfter words printed next a b now →
      PassedSights words printed next a b sights left
  passed_all printed next a b sights now left is none put = record {
    gone = now;
    parts = sym is ∙ sym (append-nil now) ∙ ap (λ (ss : List Sight). now ++ ss) (sym none);
    put = put;
  }

  text_more : (gone more : List Sight) →
      sights_text words (gone ++ more) ≡ sights_text words gone ++ sight_lines words more
  text_more gone more =
      ap (λ l. words.header ++ l) (sights-append words gone more)
      ∙ sym (append_assoc (words.header) (sight_lines words gone) (sight_lines words more))

  module _ (a b c : Option (List ℕ)) (gone more : List Sight) where
    put_ok : (printed next : Printing) → OnOk printed (Appends a b (sights_text words gone)) →
        PutAfter words printed next b c more → OnOk next (Appends a c (sights_text words (gone ++ more)))
    put_ok (Ok done) (Ok now) all put =
        subst (λ text. Appends a c text) (sym (text_more gone more))
        (Appends-trans a b c (sights_text words gone) (sight_lines words more) all put.0)
    put_ok (Ok done) (Err fault) all put = tt
    put_ok (Err fault) (Ok now) all put = absurd (let e = put.0 in cc)
    put_ok (Err fault) (Err next) all put = tt

    put_begins : (printed next : Printing) → OnOk printed (Appends a b (sights_text words gone)) →
        AppendsBeginning a b (sights_text words gone) → PutAfter words printed next b c more →
        AppendsBeginning a c (sights_text words (gone ++ more))
    put_begins (Ok done) next all begins put =
        subst (λ text. AppendsBeginning a c text) (sym (text_more gone more))
        (beginning-after a b c (sights_text words gone) (sight_lines words more) all put.1)
    put_begins (Err fault) next all begins put =
        subst (λ (s : Option (List ℕ)). AppendsBeginning a s (sights_text words (gone ++ more)))
        (sym put.1)
        (subst (λ text. AppendsBeginning a b text) (sym (text_more gone more))
        (beginning-longer a b (sights_text words gone) (sight_lines words more) begins))

  module _ (task : Task) (cells : List ℕ) (rounds : ℕ) (given : SeatData) where
    -- before the first round
    pub put_begun : (sights : List Sight) (a b : Option (List ℕ)) (printed : Printing) →
        sights ≡ [] → OnOk printed (Appends a b (sights_text words [])) →
        AppendsBeginning a b (sights_text words []) → HasPut words task cells 0 given given sights a b printed
    put_begun sights a b printed none all begins = record {
      gone = [];
      reads = subst (λ (ss : List Sight). HasRead task given ss given) (sym none) refl;
      listed = ap (map (λ (s : Sight). s.cell)) none;
      ok = all;
      beginning = begins;
    }

    -- some of the sights that wait go out
    pub put_more : (later : SeatData) (sights waiting : List Sight) (a b c : Option (List ℕ))
        (printed next : Printing) → HasPut words task cells rounds given later sights a b printed →
        PassedSights words printed next b c sights waiting →
        HasPut words task cells rounds given later waiting a c next
    put_more later sights waiting a b c printed next has passed =
        let split : has.gone ++ sights ≡ (has.gone ++ passed.gone) ++ waiting =
        ap (λ (ss : List Sight). has.gone ++ ss) passed.parts
        ∙ sym (append_assoc has.gone passed.gone waiting) in
        record {
          gone = has.gone ++ passed.gone;
          reads = subst (λ (ss : List Sight). HasRead task given ss later) split has.reads;
          listed = ap cells_seen (sym split) ∙ has.listed;
          ok = put_ok a b c has.gone passed.gone printed next has.ok passed.put;
          beginning = put_begins a b c has.gone passed.gone printed next has.ok has.beginning
              passed.put;
        }

    -- a round more is read
    pub put_round : (before later : SeatData) (old new : List Sight) (a b : Option (List ℕ))
        (printed : Printing) → HasPut words task cells rounds given before old a b printed →
        ReadsRound task cells old before new later →
        HasPut words task cells (rounds + 1) given later new a b printed
    put_round before later old new a b printed has round =
        let all : cells_seen (has.gone ++ new) ≡ cells_seen (has.gone ++ old) ++ cells =
        map-append (λ (s : Sight). s.cell) has.gone new
        ∙ ap (λ (l : List ℕ). cells_seen has.gone ++ l) round.cells
        ∙ sym (append_assoc (cells_seen has.gone) (cells_seen old) cells)
        ∙ ap (λ (l : List ℕ). l ++ cells) (sym (map-append (λ (s : Sight). s.cell) has.gone old)) in
        record {
          gone = has.gone;
          reads = round.reads has.gone given has.reads;
          listed = round_more rounds cells (cells_seen (has.gone ++ old))
              (cells_seen (has.gone ++ new)) all has.listed;
          ok = has.ok;
          beginning = has.beginning;
        }

    -- the watch of all that was read
    pub put_watch : (later : SeatData) (a b : Option (List ℕ)) (printed : Printing) →
        HasPut words task cells rounds given later [] a b printed →
        PutWatch words task cells rounds given later a b printed
    put_watch later a b printed has = record {
      sights = has.gone;
      watch = is_watch task cells rounds given has.gone later
          (ap cells_seen (sym (append-nil has.gone)) ∙ has.listed)
          (subst (λ (ss : List Sight). HasRead task given ss later) (append-nil has.gone) has.reads);
      ok = has.ok;
      beginning = has.beginning;
    }
