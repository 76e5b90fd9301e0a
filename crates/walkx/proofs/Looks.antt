-- A reader that hears an answer.
use Rattle.std.proofs.Common.{◌≡◌, ◌≢◌, ◌≤◌, arith, suc, length, ℕ, []}
use Rattle.std.proofs.Common.{◌∷◌, Some, None, refl, sym, ap, subst, ◌∙◌}
use Rattle.pram_job.specs.Job.{JobData}
use Rattle.pram_words.specs.Words.{LayoutData}
use Rattle.walkx.specs.declared.operation.Op.TheVariants.{Load}
use Rattle.walkx.specs.declared.operation.ReadOp.{ReadOp}
use Rattle.walkx.specs.declared.operation.ReadOp.TheVariants as read
use Rattle.walkx.specs.declared.operation.Reading.{Reading}
use Rattle.walkx.specs.declared.reader.Glance.{Glance}
use Rattle.walkx.specs.declared.reader.Glance.TheVariants as glance
use Rattle.walkx.specs.Inner.Glances.{ReaderData, IsGlance, IsLaterGlance}
use Rattle.walkx.specs.Inner.Glances.{most_looked, script_of_glance}
use Rattle.walkx.specs.Serving.{FollowsScript}
use Rattle.walkx.specs.Reads.{Looking, LooksFit, HeardAdmitted, look_of}
use Rattle.walkx.specs.Reads.{looked, looks_for, reader_script, read_script}
use Rattle.walkx.specs.Scripts.{Script, asks, ends, rest_after, first_op, op_with}

-- a script loads a word first
record Loads (s : Script Reading) : Type 0 where
  word : ℕ
  first : first_op s ≡ Some (Load word)

stage_loads : (y : LayoutData) (c : ℕ) (g : Glance) → ((r : Reading) → g ≢ glance.Over r) →
    Loads (script_of_glance y c g)
unfolding reader_script read_script
stage_loads y c glance.Begin going = record { word = _; first = refl }
stage_loads y c (glance.Look root) going = record { word = _; first = refl }
stage_loads y c (glance.First s) going = record { word = _; first = refl }
stage_loads y c (glance.Second s a) going = record { word = _; first = refl }
stage_loads y c (glance.Again s a b) going = record { word = _; first = refl }
stage_loads y c (glance.Over r) going = absurd (going r refl)

looked_on : (r : Looking) (found : ℕ) (s : Script Reading) → Loads s →
    looked r found s ≡ record r { heard = found ∷ r.heard }
looked_on r found (asks op next) l = refl
looked_on r found (ends reading) l = let no : None ≡ Some (Load l.word) = l.first in cc

looks_load : (s : Script Reading) (l : Loads s) → looks_for s ≡ read.Load l.word
looks_load (asks op next) l = let same : op ≡ Load l.word = (let e = l.first in cc) in rw same
looks_load (ends reading) l = let no : None ≡ Some (Load l.word) = l.first in cc

op_with_load : (s : Script Reading) (found : ℕ) (l : Loads s) →
    op_with s found ≡ (Load l.word, found) ∷ []
op_with_load (asks op next) found l =
    let same : op ≡ Load l.word = (let e = l.first in cc) in rw same
op_with_load (ends reading) found l = let no : None ≡ Some (Load l.word) = l.first in cc

later_few : (old new : Glance) (n : ℕ) → ((r : Reading) → old ≢ glance.Over r) →
    n ≤ most_looked old → IsLaterGlance old new → suc n ≤ most_looked new
later_few glance.Begin new n going few later = omega arith
later_few (glance.Look root) new n going few later = omega arith
later_few (glance.First s) new n going few later = omega arith
later_few (glance.Second s a) new n going few later = omega arith
later_few (glance.Again s a b) new n going few later = omega arith
later_few (glance.Over r) new n going few later = absurd (going r refl)

-- a reader with one answer more
pub record Heard (job : JobData) (y : LayoutData) (k : ReaderData) (found : ℕ)
    (new : ReaderData) : Type 0 where
  pub told : new.looking ≡ looked k.looking found (look_of y k.looking)
  pub follows : FollowsScript y new
  pub fits : LooksFit job y new.looking

heard_on : (job : JobData) (y : LayoutData) (k : ReaderData) (found : ℕ) (new : Glance) →
    FollowsScript y
    k → LooksFit job y k.looking → HeardAdmitted job y (looks_for (look_of y k.looking)) found →
    ((r : Reading) → k.stage ≢ glance.Over r) → script_of_glance y k.looking.cell new
    ≡ rest_after (script_of_glance y k.looking.cell k.stage) found →
    IsGlance new → IsLaterGlance k.stage new → Heard job y k found
    (record { looking = record k.looking { heard = found ∷ k.looking.heard }; stage = new })
heard_on job y k found new follows fits admitted going is stage later =
    let r = k.looking in
    let loads : Loads (look_of y r) =
    subst Loads (sym follows.stands.rest) (stage_loads y r.cell k.stage going) in
    record {
      told = sym (looked_on r found (look_of y r) loads);
      follows = record {
        cell = follows.cell;
        stands = record {
          rest = ap (λ (s : Script Reading). rest_after s found) follows.stands.rest ∙ sym is;
          stage = stage;
          few = later_few k.stage new (length r.heard) going follows.stands.few later;
        };
      };
      fits = record {
        admitted = rw (op_with_load (look_of y r) found loads) (
          subst (λ (op : ReadOp). HeardAdmitted job y op found)
              (looks_load (look_of y r) loads) admitted,
          fits.admitted,
        );
      };
    }

-- the same from what the code knows: v is the reader as its fields show it
pub heard_by : (job : JobData) (y : LayoutData) (v k : ReaderData) (found : ℕ) (new : Glance) →
    v ≡ k → FollowsScript y k → LooksFit job y k.looking →
    HeardAdmitted job y (looks_for (look_of y k.looking)) found →
    ((r : Reading) → v.stage ≢ glance.Over r) → script_of_glance y v.looking.cell new
    ≡ rest_after (script_of_glance y v.looking.cell v.stage) found →
    IsGlance new → IsLaterGlance v.stage new → Heard job y k found
    (record { looking = record v.looking { heard = found ∷ v.looking.heard }; stage = new })
heard_by job y v k found new e follows fits admitted =
    let P : ReaderData → Type 0 = λ u. ((r : Reading) → u.stage ≢ glance.Over r) → script_of_glance
    y u.looking.cell new ≡ rest_after (script_of_glance y u.looking.cell u.stage) found →
    IsGlance new → IsLaterGlance u.stage new → Heard job y k found (record {
      looking = record u.looking { heard = found ∷ u.looking.heard };
      stage = new;
    }) in
    subst P (sym e) (heard_on job y k found new follows fits admitted)

pub few : (g : Glance) → ((r : Reading) → g ≢ glance.Over r) → most_looked g ≤ 4
few glance.Begin going = omega arith
few (glance.Look root) going = omega arith
few (glance.First s) going = omega arith
few (glance.Second s a) going = omega arith
few (glance.Again s a b) going = omega arith
few (glance.Over r) going = absurd (going r refl)
