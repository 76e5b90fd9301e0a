-- The program of a draft, or what it lacks.
use Rattle.std.proofs.Common.{◌≡◌, ◌==◌, true, false, List, [], ◌∷◌, length, Ok, Err}
use Rattle.std.proofs.Common.{refl, arith}
use Rattle.std.proofs.lemmas.Bool.{eqb-true}
use Rattle.pardo_program.specs.declared.block.Block.{Block}
use Rattle.pardo_text.specs.declared.draft.Stage.{Stage}
use Rattle.pardo_text.specs.declared.draft.Stage.TheVariants as stage
use Rattle.pardo_text.specs.declared.fault.PardoKind.TheVariants.{BadHeader, OpenBlock, NoCode}
use Rattle.pardo_program.specs.declared.statement.Line.{Line}
use Rattle.pardo_text.specs.Drafts.{Draft}
use Rattle.pardo_text.specs.Reading.{finished_draft, said_so_far}
use Rattle.pardo_program.specs.Tests.{program_untested}

pub finished-early : (s : Stage) (blocks : List Block) (lines : List Line) (draft : Draft) →
    (s ≡ stage.Code → ⊥) → finished_draft s blocks lines draft ≡ Err BadHeader
finished-early stage.Version blocks lines draft other = refl
finished-early stage.Rule blocks lines draft other = refl
finished-early stage.Header blocks lines draft other = refl
finished-early stage.Code blocks lines draft other = absurd (other refl)

pub finished-open : (s : Stage) (blocks : List Block) (lines : List Line) (draft : Draft) →
    s ≡ stage.Code → (length blocks == 0) ≡ false →
    finished_draft s blocks lines draft ≡ Err OpenBlock
finished-open stage.Code (block ∷ blocks) lines draft is some = refl
finished-open stage.Code [] lines draft is some = absurd (let no : true ≡ false = some in cc)
finished-open stage.Version blocks lines draft is some = absurd (cc)
finished-open stage.Rule blocks lines draft is some = absurd (cc)
finished-open stage.Header blocks lines draft is some = absurd (cc)

pub finished-empty : (s : Stage) (blocks : List Block) (lines : List Line) (draft : Draft) →
    s ≡ stage.Code → (length blocks == 0) ≡ true → (length lines == 0) ≡ true →
    finished_draft s blocks lines draft ≡ Err NoCode
finished-empty stage.Code [] [] draft is closed none = refl
finished-empty stage.Code [] (line ∷ lines) draft is closed none =
    absurd (let no : length (line ∷ lines) ≡ 0 = eqb-true _ _ none in omega arith)
finished-empty stage.Code (block ∷ blocks) lines draft is closed none =
    absurd (let no : length (block ∷ blocks) ≡ 0 = eqb-true _ _ closed in omega arith)
finished-empty stage.Version blocks lines draft is closed none = absurd (cc)
finished-empty stage.Rule blocks lines draft is closed none = absurd (cc)
finished-empty stage.Header blocks lines draft is closed none = absurd (cc)

pub finished-whole : (s : Stage) (blocks : List Block) (lines : List Line) (draft : Draft) →
    s ≡ stage.Code → (length blocks == 0) ≡ true → (length lines == 0) ≡ false →
    finished_draft s blocks lines draft ≡ Ok (program_untested (said_so_far draft))
finished-whole stage.Code [] (line ∷ lines) draft is closed some = refl
finished-whole stage.Code [] [] draft is closed some = absurd (let no : true ≡ false = some in cc)
finished-whole stage.Code (block ∷ blocks) lines draft is closed some =
    absurd (let no : length (block ∷ blocks) ≡ 0 = eqb-true _ _ closed in omega arith)
finished-whole stage.Version blocks lines draft is closed some = absurd (cc)
finished-whole stage.Rule blocks lines draft is closed some = absurd (cc)
finished-whole stage.Header blocks lines draft is closed some = absurd (cc)
