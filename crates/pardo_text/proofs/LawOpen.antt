-- Code so far, with the blocks that are open.
use Rattle.std.proofs.Common.{◌≡◌, ℕ, ◌<◌, ◌≤◌, ◌⊎◌, List, [], ◌∷◌, ◌++◌, length}
use Rattle.std.proofs.Common.{slice_get, slice_set, Option, Some, None}
use Rattle.std.proofs.Common.{refl, sym, ap, subst, ◌∙◌, arith}
use Rattle.std.proofs.lemmas.List.{length-set}
use Rattle.pardo_program.specs.declared.block.Block.{Block}
use Rattle.pardo_program.specs.declared.block.Block.TheVariants as block
use Rattle.pardo_program.specs.declared.statement.Line.{Line}
use Rattle.pardo_text.specs.Drafts.{ended_at}
use Rattle.pardo_program.specs.Nested.{LinesLead, loop_end_told}
use Rattle.pardo_program.specs.Nested.{EndsAreTied, loops_of}
use Rattle.pardo_text.proofs.LawTied.{begin_at, end_at, end_push, end_set_other, leads_set}
use Rattle.pardo_text.proofs.LawTied.{tied_set, end_set, line_there, told, begins_set}
use Rattle.pardo_text.proofs.LawTied.{Among, BeginsEnd, BeginsLeft}

-- the first lines of open loops stand one after another, and know no end yet
abbrev pub AreOpen : List Line → ℕ → List Block → Type 0
AreOpen lines bound [] = Unit {0}
AreOpen lines bound (block.While begin ∷ blocks) =
    (begin < bound) × (end_at lines begin ≡ Some 0) × AreOpen lines begin blocks
AreOpen lines bound (block.For begin ∷ blocks) =
    (begin < bound) × (end_at lines begin ≡ Some 0) × AreOpen lines begin blocks
AreOpen lines bound (block.If ∷ blocks) = AreOpen lines bound blocks
AreOpen lines bound (block.Else ∷ blocks) = AreOpen lines bound blocks
AreOpen lines bound (block.Elsif ∷ blocks) = AreOpen lines bound blocks

pub record IsCode (lines : List Line) (blocks : List Block) (nest : ℕ) : Type 0 where
  pub leads : LinesLead 0 [] lines blocks
  pub tied : EndsAreTied lines
  pub begun : BeginsEnd lines blocks
  pub opened : AreOpen lines (length lines) blocks
  pub loops : nest ≡ loops_of blocks

pub no_code : IsCode [] [] 0
no_code = record {
  leads = refl;
  tied = λ at begin e. absurd (let none : None ≡ Some begin = e in cc);
  begun = λ begin end e. absurd (let none : None ≡ Some end = e in cc);
  opened = tt;
  loops = refl;
}

-- one line more
pub open_push : (lines : List Line) (line : Line) (bound : ℕ) (blocks : List Block) →
    bound ≤ length lines → AreOpen lines bound blocks → AreOpen (lines ++ line ∷ []) bound blocks
open_push lines line bound [] few is = tt
open_push lines line bound (block.If ∷ blocks) few is = open_push lines line bound blocks few is
open_push lines line bound (block.Else ∷ blocks) few is = open_push lines line bound blocks few is
open_push lines line bound (block.Elsif ∷ blocks) few is = open_push lines line bound blocks few is
open_push lines line bound (block.While begin ∷ blocks) few is = (
  is.0,
  end_push lines line begin (omega (arith, is.0)) ∙ is.1,
  open_push lines line begin blocks (omega (arith, is.0)) is.2,
)
open_push lines line bound (block.For begin ∷ blocks) few is = (
  is.0,
  end_push lines line begin (omega (arith, is.0)) ∙ is.1,
  open_push lines line begin blocks (omega (arith, is.0)) is.2,
)

-- a greater bound
pub open_more : (lines : List Line) (bound more : ℕ) (blocks : List Block) → bound ≤ more →
    AreOpen lines bound blocks → AreOpen lines more blocks
open_more lines bound more [] few is = tt
open_more lines bound more (block.If ∷ blocks) few is = open_more lines bound more blocks few is
open_more lines bound more (block.Else ∷ blocks) few is = open_more lines bound more blocks few is
open_more lines bound more (block.Elsif ∷ blocks) few is = open_more lines bound more blocks few is
open_more lines bound more (block.While begin ∷ blocks) few is =
    (omega (arith, is.0), is.1, is.2)
open_more lines bound more (block.For begin ∷ blocks) few is =
    (omega (arith, is.0), is.1, is.2)

-- another line in the place of one that is not among them
open_set : (lines : List Line) (i : ℕ) (new : Line) (bound : ℕ) (blocks : List Block) → bound ≤ i →
    AreOpen lines bound blocks → AreOpen (slice_set lines i new) bound blocks
open_set lines i new bound [] few is = tt
open_set lines i new bound (block.If ∷ blocks) few is = open_set lines i new bound blocks few is
open_set lines i new bound (block.Else ∷ blocks) few is = open_set lines i new bound blocks few is
open_set lines i new bound (block.Elsif ∷ blocks) few is = open_set lines i new bound blocks few is
open_set lines i new bound (block.While begin ∷ blocks) few is = (
  is.0,
  end_set_other lines i new begin (λ e. omega (arith, is.0, e)) ∙ is.1,
  open_set lines i new begin blocks (omega (arith, is.0)) is.2,
)
open_set lines i new bound (block.For begin ∷ blocks) few is = (
  is.0,
  end_set_other lines i new begin (λ e. omega (arith, is.0, e)) ∙ is.1,
  open_set lines i new begin blocks (omega (arith, is.0)) is.2,
)

-- what is left when a block was closed, and before its `end` is a line
pub record IsLeft (lines : List Line) (begin : ℕ) (closed : Block) (blocks : List Block) (end : ℕ) :
    Type 0 where
  pub leads : LinesLead 0 [] lines (closed ∷ blocks)
  pub tied : EndsAreTied lines
  pub begun : BeginsLeft lines begin blocks end
  pub opened : AreOpen lines (length lines) blocks
  pub many : length lines ≡ end

-- a loop learns the place of its end
loop_told : (lines : List Line) (begin : ℕ) (closed : Block) (blocks : List Block) (found : Line) →
    slice_get lines begin ≡ Some found → loop_end_told found.statement ≡ Some 0 →
    begin < length lines → end_at lines begin ≡ Some 0 → AreOpen lines begin blocks →
    LinesLead 0 [] lines (closed ∷ blocks) → EndsAreTied lines →
    ((k was : ℕ) → end_at lines k ≡ Some was →
    ((k ≡ begin) ⊎ Among k blocks) ⊎ (begin_at lines was ≡ Some k)) →
    IsLeft (slice_set lines begin (told (length lines) found)) begin closed blocks (length lines)
    × (end_at (slice_set lines begin (told (length lines) found)) begin ≡ Some (length lines))
loop_told lines begin closed blocks found e says few opening others leads tied begun =
    let end = length lines in
    let new = slice_set lines begin (told end found) in
    let many : length new ≡ end = length-set lines begin (told end found) in (
      record {
        leads = leads_set 0 [] lines (closed ∷ blocks) begin end found e leads;
        tied = tied_set lines begin end found opening says tied;
        begun = begins_set lines begin end found blocks opening says begun;
        opened = open_more new begin (length new) blocks (omega (arith, many, few))
            (open_set lines begin (told end found) begin blocks (omega arith) others);
        many = many;
      },
      end_set lines begin end found opening says,
    )

pub loop_left : (lines : List Line) (begin : ℕ) (closed : Block) (blocks : List Block) →
    begin < length lines → end_at lines begin ≡ Some 0 → AreOpen lines begin blocks →
    LinesLead 0 [] lines (closed ∷ blocks) → EndsAreTied lines →
    ((k was : ℕ) → end_at lines k ≡ Some was →
    ((k ≡ begin) ⊎ Among k blocks) ⊎ (begin_at lines was ≡ Some k)) →
    IsLeft (ended_at begin lines) begin closed blocks (length lines)
    × (end_at (ended_at begin lines) begin ≡ Some (length lines))
loop_left lines begin closed blocks few opening others leads tied begun =
    let there = line_there (slice_get lines begin) 0 opening in
    let told_is : ended_at begin lines ≡ slice_set lines begin (told (length lines) there.0) =
    ended_found (slice_get lines begin) there.0 there.1 in
    subst (λ (new : List Line). IsLeft new begin closed blocks (length lines)
    × (end_at new begin ≡ Some (length lines))) (sym told_is)
    (loop_told lines begin closed blocks there.0 there.1 there.2 few opening others leads tied
    begun)
  where
    ended_found : (found : Option Line) (line : Line) → found ≡ Some line →
        (elim found [
          | None ↦ lines
          | Some first ↦ slice_set lines begin (told (length lines) first)
        ])
        ≡ slice_set lines begin (told (length lines) line)
    ended_found None line e = absurd (let none : None ≡ Some line = e in cc)
    ended_found (Some first) line e =
        let same : first ≡ line = cc in
        ap (λ (other : Line). slice_set lines begin (told (length lines) other)) same
