-- Lines that are added, and ends that are told.
use Rattle.std.proofs.Common.{◌≡◌, ◌≢◌, ℕ, zero, suc, ◌+◌, ◌<◌, ◌⊎◌, inl, inr, List, [], ◌∷◌}
use Rattle.std.proofs.Common.{◌++◌, length, slice_get, slice_set, Option, Some, None}
use Rattle.std.proofs.Common.{refl, sym, ap, subst, ◌∙◌, arith}
use Rattle.pardo_program.specs.declared.block.Block.{Block}
use Rattle.pardo_program.specs.declared.block.Block.TheVariants as block
use Rattle.pardo_program.specs.declared.statement.Line.{Line}
use Rattle.pardo_program.specs.declared.statement.Statement.{Statement}
use Rattle.pardo_program.specs.declared.statement.Statement.TheVariants as statement
use Rattle.pardo_program.specs.Blocks.{loop_ending_at}
use Rattle.pardo_program.specs.Nested.{LinesLead, StandsInBlocks, opened_by, around, loop_end_told}
use Rattle.pardo_program.specs.Nested.{loop_begin}
use Rattle.pardo_program.specs.Nested.{said_by, EndsAreTied}

-- ---- what a line says

abbrev pub begin_at : List Line → ℕ → Option ℕ
begin_at lines k = said_by loop_begin (slice_get lines k)

abbrev pub end_at : List Line → ℕ → Option ℕ
end_at lines k = said_by loop_end_told (slice_get lines k)

-- one line more
pub begin_push : (lines : List Line) (line : Line) (k begin : ℕ) →
    begin_at (lines ++ line ∷ []) k ≡ Some begin →
    ((k < length lines) × (begin_at lines k ≡ Some begin))
    ⊎ ((k ≡ length lines) × (loop_begin line.statement ≡ Some begin))
begin_push [] line zero begin e = inr (refl, e)
begin_push [] line (suc k) begin e = absurd (let none : None ≡ Some begin = e in cc)
begin_push (first ∷ lines) line zero begin e = inl (omega arith, e)
begin_push (first ∷ lines) line (suc k) begin e = elim (begin_push lines line k begin e) [
  | inl before ↦ inl (omega (arith, before.0), before.1)
  | inr last ↦ inr (omega (arith, last.0), last.1)
]

pub end_push : (lines : List Line) (line : Line) (k : ℕ) → k < length lines →
    end_at (lines ++ line ∷ []) k ≡ end_at lines k
end_push [] line k few = absurd (omega arith)
end_push (first ∷ lines) line zero few = refl
end_push (first ∷ lines) line (suc k) few = end_push lines line k (omega arith)

-- another line in the place of one
pub begin_set : (lines : List Line) (i : ℕ) (new : Line) (k begin : ℕ) →
    loop_begin new.statement ≡ None → begin_at (slice_set lines i new) k ≡ Some begin →
    begin_at lines k ≡ Some begin
begin_set [] i new k begin none e = e
begin_set (first ∷ lines) zero new zero begin none e =
    absurd (let other : None ≡ Some begin = sym none ∙ e in cc)
begin_set (first ∷ lines) zero new (suc k) begin none e = e
begin_set (first ∷ lines) (suc i) new zero begin none e = e
begin_set (first ∷ lines) (suc i) new (suc k) begin none e = begin_set lines i new k begin none e

pub end_set_other : (lines : List Line) (i : ℕ) (new : Line) (k : ℕ) → k ≢ i →
    end_at (slice_set lines i new) k ≡ end_at lines k
end_set_other [] i new k other = refl
end_set_other (first ∷ lines) zero new zero other = absurd (other refl)
end_set_other (first ∷ lines) zero new (suc k) other = refl
end_set_other (first ∷ lines) (suc i) new zero other = refl
end_set_other (first ∷ lines) (suc i) new (suc k) other =
    end_set_other lines i new k (λ e. other (ap suc e))

pub end_set_same : (lines : List Line) (i end : ℕ) (new : Line) → end_at lines i ≡ Some end →
    end_at (slice_set lines i new) i ≡ loop_end_told new.statement
end_set_same [] i end new e = absurd (let none : None ≡ Some end = e in cc)
end_set_same (first ∷ lines) zero end new e = refl
end_set_same (first ∷ lines) (suc i) end new e = end_set_same lines i end new e

-- ---- blocks that lines lead to

pub leads_push : (at : ℕ) (blocks : List Block) (lines : List Line) (mid : List Block)
    (line : Line) →
    LinesLead at blocks lines mid → StandsInBlocks mid line →
    LinesLead at blocks (lines ++ line ∷ [])
    (opened_by (at + length lines) line.statement ++ around line.statement mid)
leads_push at blocks [] mid line is stands =
    let here : at + 0 ≡ at = omega arith in (
      subst (λ (opening : List Block). StandsInBlocks opening line) (sym is) stands,
      ap (λ (opening : List Block). opened_by at line.statement ++ around line.statement opening) is
          ∙ ap (λ (n : ℕ). opened_by n line.statement ++ around line.statement mid) (sym here),
    )
leads_push at blocks (first ∷ lines) mid line is stands =
    let there : at + 1 + length lines ≡ at + length (first ∷ lines) = omega arith in (
      is.0,
      subst (λ (n : ℕ). LinesLead (at + 1)
          (opened_by at first.statement ++ around first.statement blocks)
          (lines ++ line ∷ []) (opened_by n line.statement ++ around line.statement mid)) there
          (leads_push (at + 1) _ lines mid line is.1 stands),
    )

-- from the first line on
pub leads_last : (lines : List Line) (mid : List Block) (line : Line) → LinesLead 0 [] lines mid →
    StandsInBlocks mid line → LinesLead 0 [] (lines ++ line ∷ [])
    (opened_by (length lines) line.statement ++ around line.statement mid)
leads_last lines mid line is stands =
    let here : 0 + length lines ≡ length lines = omega arith in
    subst (λ (n : ℕ). LinesLead 0 [] (lines ++ line ∷ [])
    (opened_by n line.statement ++ around line.statement mid)) here
    (leads_push 0 [] lines mid line is stands)

-- the first line of a loop stands as before when its end is told
stands_ending : (blocks : List Block) (end : ℕ) (line : Line) (said : Statement) →
    line.statement ≡ said → StandsInBlocks blocks (record line { statement = said }) →
    StandsInBlocks blocks (record line { statement = loop_ending_at end said })
stands_ending blocks end line (statement.Assign to value) e is = is
stands_ending blocks end line (statement.If condition) e is = is
stands_ending blocks end line statement.Else e is = is
stands_ending blocks end line statement.EndIf e is = is
stands_ending blocks end line (statement.While condition old) e is = is
stands_ending blocks end line (statement.EndWhile begin) e is = is
stands_ending blocks end line (statement.For nest first last up old) e is = is
stands_ending blocks end line (statement.EndFor begin) e is = is

after_ending : (at : ℕ) (blocks : List Block) (end : ℕ) (said : Statement) →
    opened_by at said ++ around said blocks
    ≡ opened_by at (loop_ending_at end said) ++ around (loop_ending_at end said) blocks
after_ending at blocks end (statement.Assign to value) = refl
after_ending at blocks end (statement.If condition) = refl
after_ending at blocks end statement.Else = refl
after_ending at blocks end statement.EndIf = refl
after_ending at blocks end (statement.While condition old) = refl
after_ending at blocks end (statement.EndWhile begin) = refl
after_ending at blocks end (statement.For nest first last up old) = refl
after_ending at blocks end (statement.EndFor begin) = refl

abbrev pub told : ℕ → Line → Line
told end line = record line { statement = loop_ending_at end line.statement }

pub leads_set : (at : ℕ) (blocks : List Block) (lines : List Line) (last : List Block) (i end : ℕ)
    (line : Line) → slice_get lines i ≡ Some line → LinesLead at blocks lines last →
    LinesLead at blocks (slice_set lines i (told end line)) last
leads_set at blocks [] last i end line e is = is
leads_set at blocks (first ∷ lines) last zero end line e is =
    let same : first ≡ line = cc in
    subst (λ (other : Line). LinesLead at blocks (told end other ∷ lines) last) same (
      stands_ending blocks end first first.statement refl is.0,
      subst (λ (opening : List Block). LinesLead (at + 1) opening lines last)
          (after_ending at blocks end first.statement) is.1,
    )
leads_set at blocks (first ∷ lines) last (suc i) end line e is =
    (is.0, leads_set (at + 1) _ lines last i end line e is.1)

-- ---- loops that are tied

-- one line more, which ends no loop or one whose first line knows it
pub tied_push : (lines : List Line) (line : Line) → EndsAreTied lines →
    ((begin : ℕ) → loop_begin line.statement ≡ Some begin →
    (begin < length lines) × (end_at lines begin ≡ Some (length lines))) →
    EndsAreTied (lines ++ line ∷ [])
tied_push lines line is ends k begin e = elim (begin_push lines line k begin e) [
  | inl before ↦
      let old = is k begin before.1 in (
        old.0,
        end_push lines line begin (omega (arith, old.0, before.0)) ∙ old.1,
      )
  | inr last ↦
      let new = ends begin last.1 in (
        omega (arith, new.0, last.0),
        end_push lines line begin new.0 ∙ new.1 ∙ ap Some (sym last.0),
      )
]

ending_begins : (end old : ℕ) (said : Statement) → loop_end_told said ≡ Some old →
    loop_begin (loop_ending_at end said) ≡ None
ending_begins end old (statement.Assign to value) e = absurd (let none : None ≡ Some old = e in cc)
ending_begins end old (statement.If condition) e = absurd (let none : None ≡ Some old = e in cc)
ending_begins end old statement.Else e = absurd (let none : None ≡ Some old = e in cc)
ending_begins end old statement.EndIf e = absurd (let none : None ≡ Some old = e in cc)
ending_begins end old (statement.While condition was) e = refl
ending_begins end old (statement.EndWhile begin) e = absurd (let none : None ≡ Some old = e in cc)
ending_begins end old (statement.For nest first last up was) e = refl
ending_begins end old (statement.EndFor begin) e = absurd (let none : None ≡ Some old = e in cc)

ending_ends : (end old : ℕ) (said : Statement) → loop_end_told said ≡ Some old →
    loop_end_told (loop_ending_at end said) ≡ Some end
ending_ends end old (statement.Assign to value) e = absurd (let none : None ≡ Some old = e in cc)
ending_ends end old (statement.If condition) e = absurd (let none : None ≡ Some old = e in cc)
ending_ends end old statement.Else e = absurd (let none : None ≡ Some old = e in cc)
ending_ends end old statement.EndIf e = absurd (let none : None ≡ Some old = e in cc)
ending_ends end old (statement.While condition was) e = refl
ending_ends end old (statement.EndWhile begin) e = absurd (let none : None ≡ Some old = e in cc)
ending_ends end old (statement.For nest first last up was) e = refl
ending_ends end old (statement.EndFor begin) e = absurd (let none : None ≡ Some old = e in cc)

-- the line of a loop is there
pub line_there : (found : Option Line) (end : ℕ) → said_by loop_end_told found ≡ Some end →
    (line : Line) × (found ≡ Some line) × (loop_end_told line.statement ≡ Some end)
line_there None end e = absurd (let none : None ≡ Some end = e in cc)
line_there (Some line) end e = (line, refl, e)

pub tied_set : (lines : List Line) (i end : ℕ) (line : Line) → end_at lines i ≡ Some 0 →
    loop_end_told line.statement ≡ Some 0 → EndsAreTied lines →
    EndsAreTied (slice_set lines i (told end line))
tied_set lines i end line opening says is k begin e =
    let old = is k begin
    (begin_set lines i (told end line) k begin (ending_begins end 0 line.statement says) e) in
    let other : begin ≢ i = λ same.
    let none : Some 0 ≡ Some k = sym opening ∙ ap (end_at lines) (sym same) ∙ old.1 in
    let zero : 0 ≡ k = cc in omega (arith, old.0) in
    (old.0, end_set_other lines i (told end line) begin other ∙ old.1)

pub end_set : (lines : List Line) (i end : ℕ) (line : Line) → end_at lines i ≡ Some 0 →
    loop_end_told line.statement ≡ Some 0 →
    end_at (slice_set lines i (told end line)) i ≡ Some end
end_set lines i end line opening says =
    end_set_same lines i 0 (told end line) opening ∙ ending_ends end 0 line.statement says

-- ---- and the other way round

-- an end that was there is there
pub begin_kept : (lines : List Line) (line : Line) (k begin : ℕ) →
    begin_at lines k ≡ Some begin → begin_at (lines ++ line ∷ []) k ≡ Some begin
begin_kept [] line k begin e = absurd (let none : None ≡ Some begin = e in cc)
begin_kept (first ∷ lines) line zero begin e = e
begin_kept (first ∷ lines) line (suc k) begin e = begin_kept lines line k begin e

pub begin_last : (lines : List Line) (line : Line) →
    begin_at (lines ++ line ∷ []) (length lines) ≡ loop_begin line.statement
begin_last [] line = refl
begin_last (first ∷ lines) line = begin_last lines line

pub begin_set_other : (lines : List Line) (i : ℕ) (new : Line) (k : ℕ) → k ≢ i →
    begin_at (slice_set lines i new) k ≡ begin_at lines k
begin_set_other [] i new k other = refl
begin_set_other (first ∷ lines) zero new zero other = absurd (other refl)
begin_set_other (first ∷ lines) zero new (suc k) other = refl
begin_set_other (first ∷ lines) (suc i) new zero other = refl
begin_set_other (first ∷ lines) (suc i) new (suc k) other =
    begin_set_other lines i new k (λ e. other (ap suc e))

-- a line does not both begin a loop and end one
not_both : (said : Statement) (begin end : ℕ) → loop_end_told said ≡ Some end →
    loop_begin said ≡ Some begin → ⊥
not_both (statement.Assign to value) begin end e f = let none : None ≡ Some end = e in cc
not_both (statement.If condition) begin end e f = let none : None ≡ Some end = e in cc
not_both statement.Else begin end e f = let none : None ≡ Some end = e in cc
not_both statement.EndIf begin end e f = let none : None ≡ Some end = e in cc
not_both (statement.While condition was) begin end e f = let none : None ≡ Some begin = f in cc
not_both (statement.EndWhile first) begin end e f = let none : None ≡ Some end = e in cc
not_both (statement.For nest first last up was) begin end e f =
    let none : None ≡ Some begin = f in cc
not_both (statement.EndFor first) begin end e f = let none : None ≡ Some end = e in cc

pub not_both_at : (found : Option Line) (begin end : ℕ) → said_by loop_end_told found ≡ Some end →
    said_by loop_begin found ≡ Some begin → ⊥
not_both_at None begin end e f = let none : None ≡ Some end = e in cc
not_both_at (Some line) begin end e f = not_both line.statement begin end e f

pub end_cases : (lines : List Line) (line : Line) (k end : ℕ) →
    end_at (lines ++ line ∷ []) k ≡ Some end →
    (end_at lines k ≡ Some end) ⊎ ((k ≡ length lines) × (loop_end_told line.statement ≡ Some end))
end_cases [] line zero end e = inr (refl, e)
end_cases [] line (suc k) end e = absurd (let none : None ≡ Some end = e in cc)
end_cases (first ∷ lines) line zero end e = inl e
end_cases (first ∷ lines) line (suc k) end e = elim (end_cases lines line k end e) [
  | inl before ↦ inl before
  | inr last ↦ inr (omega (arith, last.0), last.1)
]

-- a loop is open, or its end is where it says
abbrev pub Among : ℕ → List Block → Type 0
Among begin [] = ⊥
Among begin (block.While first ∷ blocks) = (begin ≡ first) ⊎ Among begin blocks
Among begin (block.For first ∷ blocks) = (begin ≡ first) ⊎ Among begin blocks
Among begin (other ∷ blocks) = Among begin blocks

abbrev pub BeginsEnd : List Line → List Block → Type 0
BeginsEnd lines blocks = (begin end : ℕ) → end_at lines begin ≡ Some end →
    Among begin blocks ⊎ (begin_at lines end ≡ Some begin)

-- one line more, which begins no loop or one of the blocks
pub begins_push : (lines : List Line) (line : Line) (blocks new : List Block) →
    ((begin : ℕ) → Among begin blocks → Among begin new) →
    ((end : ℕ) → loop_end_told line.statement ≡ Some end → Among (length lines) new) →
    BeginsEnd lines blocks → BeginsEnd (lines ++ line ∷ []) new
begins_push lines line blocks new more begins is begin end e =
    elim (end_cases lines line begin end e) [
      | inl before ↦ elim (is begin end before) [
        | inl among ↦ inl (more begin among)
        | inr there ↦ inr (begin_kept lines line end begin there)
      ]
      | inr last ↦
          inl (subst (λ (n : ℕ). Among n new) (sym last.0) (begins end last.1))
    ]

pub end_set_cases : (lines : List Line) (i : ℕ) (new : Line) (k end : ℕ) →
    end_at (slice_set lines i new) k ≡ Some end →
    ((k ≢ i) × (end_at lines k ≡ Some end)) ⊎ ((k ≡ i) × (loop_end_told new.statement ≡ Some end))
end_set_cases [] i new k end e = absurd (let none : None ≡ Some end = e in cc)
end_set_cases (first ∷ lines) zero new zero end e = inr (refl, e)
end_set_cases (first ∷ lines) zero new (suc k) end e = inl (λ same. omega arith, e)
end_set_cases (first ∷ lines) (suc i) new zero end e = inl (λ same. omega arith, e)
end_set_cases (first ∷ lines) (suc i) new (suc k) end e = elim (end_set_cases lines i new k end e) [
  | inl before ↦ inl (λ same. before.0 (omega arith), before.1)
  | inr here ↦ inr (omega (arith, here.0), here.1)
]

-- so it is when the end of the loop whose first line is here is the next line
abbrev pub BeginsLeft : List Line → ℕ → List Block → ℕ → Type 0
BeginsLeft lines here blocks end = (begin was : ℕ) → end_at lines begin ≡ Some was →
    (Among begin blocks ⊎ (begin_at lines was ≡ Some begin)) ⊎ ((begin ≡ here) × (was ≡ end))

pub begins_set : (lines : List Line) (here end : ℕ) (found : Line) (blocks : List Block) →
    end_at lines here ≡ Some 0 → loop_end_told found.statement ≡ Some 0 →
    ((begin was : ℕ) → end_at lines begin ≡ Some was →
    ((begin ≡ here) ⊎ Among begin blocks) ⊎ (begin_at lines was ≡ Some begin)) →
    BeginsLeft (slice_set lines here (told end found)) here blocks end
begins_set lines here end found blocks first says is begin was e =
    elim (end_set_cases lines here (told end found) begin was e) [
      | inr new ↦
          let both : Some end ≡ Some was = sym (ending_ends end 0 found.statement says) ∙ new.1 in
          inr (new.0, let same : was ≡ end = cc in same)
      | inl old ↦ elim (is begin was old.1) [
        | inl among ↦ elim among [
          | inl same ↦ absurd (old.0 same)
          | inr others ↦ inl (inl others)
        ]
        | inr there ↦
            let other : was ≢ here = λ same.
            not_both_at (slice_get lines here) begin 0 first
            (ap (begin_at lines) (sym same) ∙ there) in
            inl (inr (begin_set_other lines here (told end found) was other ∙ there))
      ]
    ]

pub begins_last : (lines : List Line) (line : Line) (here end : ℕ) (blocks : List Block) →
    BeginsLeft lines here blocks end → length lines ≡ end → loop_begin line.statement ≡ Some here →
    loop_end_told line.statement ≡ None → BeginsEnd (lines ++ line ∷ []) blocks
begins_last lines line here end blocks is many ends plain begin was e =
    elim (end_cases lines line begin was e) [
      | inr last ↦ absurd (let none : None ≡ Some was = sym plain ∙ last.1 in cc)
      | inl before ↦ elim (is begin was before) [
        | inl old ↦ elim old [
          | inl among ↦ inl among
          | inr there ↦ inr (begin_kept lines line was begin there)
        ]
        | inr new ↦
            let place : was ≡ length lines = new.1 ∙ sym many in
            inr (ap (begin_at (lines ++ line ∷ [])) place ∙ begin_last lines line ∙ ends
            ∙ ap Some (sym new.0))
      ]
    ]
