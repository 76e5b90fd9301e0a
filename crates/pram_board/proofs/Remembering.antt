-- What a later record has of an earlier one.
use Rattle.std.proofs.Common.{◌≡◌, ℕ, ◌==◌, Option, IfSome, List, []}
use Rattle.std.proofs.Common.{◌∷◌, refl, sym, ap, subst, inl, inr, ◌∙◌}
use Rattle.std.proofs.lemmas.Bool.{cases_Bool, eqb-false}
use Rattle.pram_words.specs.declared.words.Word.TheVariants.{Conflict, Node}
use Rattle.pram_words.specs.Words.{number_of}
use Rattle.walkx.specs.declared.operation.Op.{Op}
use Rattle.walkx.specs.declared.operation.Op.TheVariants.{Load}
use Rattle.walkx.specs.Reads.{Looking, reader_script}
use Rattle.walkx.specs.Doing.{Doing}
use Rattle.walkx.specs.Doing as doing
use Rattle.walkx.specs.Records.{Record, HasBlock, HasPart}
use Rattle.walkx.specs.Scripts.{heard_in}
use Rattle.walkx.specs.Walk.{Walking}
use Rattle.walkx.proofs.Knowing.{has_left, has_right}
use Rattle.lawful_walk.specs.Seen.{Heard}
use Rattle.pram_board.specs.declared.look.Progress.{Progress}
use Rattle.pram_board.specs.declared.task.Task.{Task}
use Rattle.pram_board.specs.Seats.{Desk, SeatData, hears_all, unites, HasLoaded}
use Rattle.pram_board.specs.Seats.{IsLater, KnowsConflict, Progressed, Remembers, StillKnows}
use Rattle.pram_board.proofs.Begins.{has_afters}
use Rattle.pram_board.proofs.Looking.{Looks}

part_still : (t : Task) (r s : Record) → Remembers r s → (n q rank : ℕ) →
    HasPart t.job t.layout r n q rank → HasPart t.job t.layout s n q rank
part_still t r s keeps n q rank part = record {
  memo = part.memo;
  is_true = part.is_true;
  answers = part.answers;
  learned = part.learned;
  whole = part.whole;
  has = keeps _ part.has;
}

block_still : (t : Task) (r s : Record) → Remembers r s → (n : ℕ) (d : Doing) →
    HasBlock t.job t.layout r n d → HasBlock t.job t.layout s n d
block_still t r s keeps n doing.Back block = tt
block_still t r s keeps n doing.Begin block = tt
block_still t r s keeps n (doing.Turn q) block = tt
block_still t r s keeps n (doing.Part q rank) block =
    λ earlier less. part_still t r s keeps n q earlier (block earlier less)
block_still t r s keeps n (doing.Over e) block = tt

-- what remembers all still knows each worker
pub still_knows : (t : Task) (r s : Record) → Remembers r s → StillKnows t r s
still_knows t r s keeps w knows = record {
  script = keeps _ knows.script;
  block = block_still t r s keeps _ w.now knows.block;
  memory = knows.memory;
}

pub remembers_more : (p q : SeatData) (made : List (Op × ℕ)) → q ≡ hears_all p made →
    Remembers p.record_of q.record_of
remembers_more p q made is =
    subst (λ (s : SeatData). Remembers p.record_of s.record_of)
    (sym is) (has_afters p.record_of made)

pub remembers_loads : (n : ℕ) (p q : SeatData) → HasLoaded n p q → Remembers p.record_of q.record_of
remembers_loads n p q loads = remembers_more p q loads.steps loads.is

pub later_loads : (d : Desk) (n : ℕ) (p q : SeatData) → p.desk ≡ d → HasLoaded n p q →
    IsLater d p q
later_loads d n p q desk loads = record {
  desk = ap (λ (z : SeatData). z.desk) loads.is ∙ desk;
  keeps = remembers_loads n p q loads;
}

pub remembers_first : (p q joined : SeatData) → joined ≡ unites p q →
    Remembers p.record_of joined.record_of
remembers_first p q joined is = subst (λ (s : SeatData). Remembers p.record_of s.record_of) (sym is)
    (has_left p.record_of q.record_of)

pub remembers_second : (p q joined : SeatData) → joined ≡ unites p q →
    Remembers q.record_of joined.record_of
remembers_second p q joined is =
    subst (λ (s : SeatData). Remembers q.record_of s.record_of) (sym is)
    (has_right p.record_of q.record_of)

-- ---- progress

pub remembers_progress : (t : Task) (p q : SeatData) (progress : Progress) →
    Progressed t p q progress → Remembers p.record_of q.record_of
remembers_progress t p q progress h =
    remembers_more p q ((Load (number_of t.layout Conflict), h.named)
    ∷ (Load (number_of t.layout (Node 1)), h.root) ∷ []) h.is

pub progress_conflict : (t : Task) (p q : SeatData) (progress : Progress) →
    Progressed t p q progress →
    IfSome progress.conflict (λ step. KnowsConflict t.layout q.record_of)
progress_conflict t p q progress h = elim (cases_Bool (h.named == 0)) [
  | inl same ↦ subst (λ (o : Option ℕ). IfSome o (λ step. KnowsConflict t.layout q.record_of))
      (sym (rw same at h.conflict)) tt
  | inr apart ↦ subst (λ (o : Option ℕ). IfSome o (λ step. KnowsConflict t.layout q.record_of))
      (sym (rw apart at h.conflict)) (record {
        step = h.named;
        some = eqb-false h.named 0 apart;
        heard =
            subst (λ (s : SeatData). Heard t.layout s.record_of Conflict h.named) (sym h.is)
            (record {
              op = Load (number_of t.layout Conflict);
              hears = refl;
              has = inl (refl, tt);
            });
      })
]

-- ---- reads

pub remembers_looks : (t : Task) (p q : SeatData) (c : ℕ) (x : Looking) → Looks t p q c x →
    Remembers p.record_of q.record_of
remembers_looks t p q c x looks =
    remembers_more p q (heard_in (reader_script t.layout c) x.heard) looks.is
