-- What holds of drafts, and stays so.
use Rattle.std.proofs.Common.{◌≡◌, ℕ, ◌+◌, ◌*◌, ◌^◌, ◌<◌, ◌≤◌, Bool, true, false}
use Rattle.std.proofs.Common.{List, [], ◌∷◌, ◌++◌, length, nat_le, Option, Some, None}
use Rattle.std.proofs.Common.{IfOk, refl, sym, ap, subst, arith, if◌then◌else◌}
use Rattle.std.proofs.Common.{slice_set, slice_get}
use Rattle.std.specs.List.{All}
use Rattle.std.specs.Str.{bytes_eq}
use Rattle.std.proofs.lemmas.Bool.Decides.{nat_tests}
use Rattle.std.proofs.lemmas.List.{length-append, length-set}
use Rattle.std.proofs.lemmas.List.Elements.{All-push, All-set, All-tail, All-weaker, All-cons}
use Rattle.std.proofs.lemmas.List.Sums.{sum_by-append}
use Rattle.std.proofs.lemmas.Option.{slice_get_within, get_or_from_slice_get}
use Rattle.pardo_program.specs.declared.arrays.Shape.{Shape}
use Rattle.pardo_program.specs.declared.arrays.Shape.TheVariants as shape
use Rattle.pardo_program.specs.declared.block.Block.{Block}
use Rattle.pardo_program.specs.declared.block.Block.TheVariants as block
use Rattle.pardo_program.specs.declared.limits.TheConstants.{MAX_CELLS, MAX_PROCS}
use Rattle.pardo_text.specs.declared.names.Named.{Named}
use Rattle.pardo_text.specs.declared.names.Named.TheVariants as thing
use Rattle.pardo_text.specs.declared.draft.Stage.{Stage}
use Rattle.pardo_text.specs.declared.draft.Stage.TheVariants as stage
use Rattle.pardo_program.specs.declared.statement.Line.{Line}
use Rattle.pardo_program.specs.declared.statement.Statement.{Statement}
use Rattle.pardo_program.specs.declared.statement.Statement.TheVariants as statement
use Rattle.pardo_program.specs.Blocks.{choice_depth}
use Rattle.pardo_text.specs.Drafts.{Draft, cells_needed, fitting, with_name, with_array}
use Rattle.pardo_text.specs.Drafts.{with_private}
use Rattle.pardo_text.specs.Drafts.{with_line, with_block, with_loop, without}
use Rattle.pardo_program.specs.Blocks.{loop_ending_at}
use Rattle.pardo_text.specs.Drafts.{ended_at}
use Rattle.pardo_text.specs.Drafts.{with_end, thing_of}
use Rattle.pardo_program.specs.Lawful.{Bounds, IsStatement, IsLine, AreNumbers, AreArrays}
use Rattle.pardo_program.specs.Lawful.{IsPrivate}
use Rattle.pardo_program.specs.Lawful.{masks_of}
use Rattle.text_lines.specs.Lines.{Word}
use Rattle.pardo_text.specs.Names.{Names, named, unnamed}
use Rattle.pardo_program.specs.Program.{ArrayData, shared_cells, array_after}
use Rattle.pardo_text.proofs.Ifs.{ok_if}
use Rattle.pardo_text.proofs.LawBounds.{Grows, IsThing, AreThings, things_more, line_more}

-- what a draft says of itself
abbrev pub bounds_in : Draft → Bounds
bounds_in d = record {
  arrays = length d.arrays;
  privates = length d.privates;
  loops = d.most_loops;
  choices = d.most_choices;
  lines = length d.lines;
}

-- the first line of a loop is there
abbrev pub IsBlock : ℕ → Block → Type 0
IsBlock n (block.While begin) = begin < n
IsBlock n (block.For begin) = begin < n
IsBlock n _ = Unit {0}

pub record IsDraft (b : Bounds) (d : Draft) : Type 0 where
  pub names : AreThings b d.names
  pub procs : d.procs ≤ MAX_PROCS
  pub arrays : AreArrays d.arrays 0
  pub privates : All (IsPrivate d.procs) d.privates
  pub before : d.procs ≡ 0 → length d.privates + d.most_loops + d.most_choices ≡ 0
  pub code : d.stage ≡ stage.Code → 0 < d.procs
  pub lines : All (IsLine b) d.lines
  pub blocks : All (IsBlock (length d.lines)) d.blocks
  pub depth : choice_depth d.blocks ≤ d.most_choices
  pub loops : length d.loops ≤ d.most_loops

abbrev pub IsLawful : Draft → Type 0
IsLawful d = IsDraft (bounds_in d) d × (cells_needed d ≤ MAX_CELLS)

pub fitting_kept : (d : Draft) → IsDraft (bounds_in d) d → IfOk (fitting d) IsLawful
fitting_kept d is =
    ok_if (nat_le (cells_needed d) MAX_CELLS) _ _ IsLawful
    (λ e. (is, let few : cells_needed d ≤ MAX_CELLS = grind (arith, nat_tests) in few)) (λ _. tt)

pub more_kept : (b c : Bounds) (d : Draft) → Grows b c → IsDraft b d → IsDraft c d
more_kept b c d g is = record {
  names = things_more b c g d.names is.names;
  procs = is.procs;
  arrays = is.arrays;
  privates = is.privates;
  before = is.before;
  code = is.code;
  lines = All-weaker (IsLine b) (IsLine c) (line_more b c g) d.lines is.lines;
  blocks = is.blocks;
  depth = is.depth;
  loops = is.loops;
}

-- ---- names

found_thing : (b : Bounds) (test : Bool) (new found : Named) (old : Option Named) → IsThing b new →
    (old ≡ Some found → IsThing b found) → (if test then Some new else old) ≡ Some found →
    IsThing b found
found_thing b true new found old is else_is e = let same : new ≡ found = cc in
    subst (IsThing b) same is
found_thing b false new found old is else_is e = else_is e

left_thing : (b : Bounds) (test : Bool) (found : Named) (old : Option Named) →
    (old ≡ Some found → IsThing b found) → (if test then None else old) ≡ Some found →
    IsThing b found
left_thing b true found old is e = absurd (let none : None ≡ Some found = e in cc)
left_thing b false found old is e = is e

pub named_things : (b : Bounds) (word : Word) (new : Named) (names : Names) → IsThing b new →
    AreThings b names → AreThings b (named word new names)
named_things b word new names is are other found e =
    found_thing b (bytes_eq word other) new found (names other) is (are other found) e

pub unnamed_things : (b : Bounds) (word : Word) (names : Names) → AreThings b names →
    AreThings b (unnamed word names)
unnamed_things b word names are other found e =
    left_thing b (bytes_eq word other) found (names other) (are other found) e

pub name_kept : (b : Bounds) (word : Word) (new : Named) (d : Draft) → IsThing b new →
    IsDraft b d → IsDraft b (with_name word new d)
name_kept b word new d is_new is = record {
  names = named_things b word new d.names is_new is.names;
  procs = is.procs;
  arrays = is.arrays;
  privates = is.privates;
  before = is.before;
  code = is.code;
  lines = is.lines;
  blocks = is.blocks;
  depth = is.depth;
  loops = is.loops;
}

-- ---- stages

pub stage_kept : (b : Bounds) (next : Stage) (d : Draft) → (next ≡ stage.Code → 0 < d.procs) →
    IsDraft b d → IsDraft b (record d { stage = next })
stage_kept b next d code is = record {
  names = is.names;
  procs = is.procs;
  arrays = is.arrays;
  privates = is.privates;
  before = is.before;
  code = code;
  lines = is.lines;
  blocks = is.blocks;
  depth = is.depth;
  loops = is.loops;
}

-- ---- processors, arrays and private variables

pub procs_kept : (b : Bounds) (procs : ℕ) (d : Draft) → d.procs ≡ 0 → 0 < procs →
    procs ≤ MAX_PROCS → IsDraft b d → IsDraft b (record d { procs = procs })
procs_kept b procs d none some few is = record {
  names = is.names;
  procs = few;
  arrays = is.arrays;
  privates = λ k default lt.
      absurd (let empty = is.before none in let more : k < length d.privates = lt in omega arith);
  before = λ e. absurd (omega arith);
  code = λ _. some;
  lines = is.lines;
  blocks = is.blocks;
  depth = is.depth;
  loops = is.loops;
}

array_pushed : (arrays : List ArrayData) (base : ℕ) (array : ArrayData) →
    array.base ≡ base + shared_cells arrays → 0 < length array.start → AreNumbers array.start →
    AreArrays arrays base → AreArrays (arrays ++ array ∷ []) base
array_pushed [] base array e some are is = (omega (arith, e), some, are, tt)
array_pushed (first ∷ arrays) base array e some are is =
    let sum : shared_cells (first ∷ arrays) ≡ length first.start + shared_cells arrays =
    omega (arith, sum_by-append (λ (a : ArrayData). length a.start) (first ∷ []) arrays) in (
      is.0,
      is.1,
      is.2,
      array_pushed arrays (base + length first.start) array
          (omega (arith, e, sum)) some are is.3,
    )

-- what an array may be like
abbrev pub IsShape : Shape → Type 0
IsShape shape.Scalar = Unit {0}
IsShape (shape.Line places) = 0 < places
IsShape (shape.Table rows columns) =
    (0 < rows * columns) × (rows < 2 ^ 32) × (columns < 2 ^ 32)

array_thing : (b : Bounds) (form : Shape) (array : ℕ) → array < b.arrays → IsShape form →
    IsThing b (thing_of form array)
array_thing b shape.Scalar array few is = few
array_thing b (shape.Line places) array few is = few
array_thing b (shape.Table rows columns) array few is = (few, is.1, is.2)

pub array_kept : (b : Bounds) (word : Word) (form : Shape) (start : List ℕ) (d : Draft) →
    length d.arrays < b.arrays → IsShape form → 0 < length start → AreNumbers start →
    IsDraft b d → IsDraft b (with_array word form start d)
array_kept b word form start d few is_form some are is = record {
  names = named_things b word (thing_of form (length d.arrays)) d.names
      (array_thing b form (length d.arrays) few is_form) is.names;
  procs = is.procs;
  arrays = array_pushed d.arrays 0 (array_after d.arrays word form start) (omega arith) some
      are is.arrays;
  privates = is.privates;
  before = is.before;
  code = is.code;
  lines = is.lines;
  blocks = is.blocks;
  depth = is.depth;
  loops = is.loops;
}

pub private_kept : (b : Bounds) (word : Word) (start : List ℕ) (d : Draft) →
    length d.privates < b.privates → 0 < d.procs → length start ≡ d.procs → AreNumbers start →
    IsDraft b d → IsDraft b (with_private word start d)
private_kept b word start d few some many are is = record {
  names = named_things b word (thing.Private (length d.privates)) d.names few is.names;
  procs = is.procs;
  arrays = is.arrays;
  privates = All-push (IsPrivate d.procs) d.privates (record { name = word; start = start })
      is.privates (many, are);
  before = λ e. absurd (omega arith);
  code = is.code;
  lines = is.lines;
  blocks = is.blocks;
  depth = is.depth;
  loops = is.loops;
}

-- ---- lines, blocks and loops

block_more : (n m : ℕ) → n ≤ m → (block : Block) → IsBlock n block → IsBlock m block
block_more n m few block.If is = tt
block_more n m few block.Else is = tt
block_more n m few block.Elsif is = tt
block_more n m few (block.While begin) is = omega arith
block_more n m few (block.For begin) is = omega arith

pub line_kept : (b : Bounds) (n : ℕ) (said : Statement) (d : Draft) → IsStatement b said →
    choice_depth d.blocks + masks_of said ≤ b.choices → IsDraft b d → IsDraft b (with_line n said d)
line_kept b n said d is_said few is =
    let new : Line = record { statement = said; depth = choice_depth d.blocks; number = n } in
    record {
      names = is.names;
      procs = is.procs;
      arrays = is.arrays;
      privates = is.privates;
      before = is.before;
      code = is.code;
      lines = All-push (IsLine b) d.lines new is.lines (is_said, few);
      blocks = All-weaker (IsBlock (length d.lines)) (IsBlock (length (d.lines ++ new ∷ [])))
          (block_more (length d.lines) (length (d.lines ++ new ∷ []))
          (omega (arith, length-append d.lines (new ∷ [])))) d.blocks is.blocks;
      depth = is.depth;
      loops = is.loops;
    }

pub block_kept : (b : Bounds) (opened : Block) (d : Draft) → 0 < d.procs →
    IsBlock (length d.lines) opened → IsDraft b d → IsDraft b (with_block opened d)
block_kept b opened d some is_opened is = record {
  names = is.names;
  procs = is.procs;
  arrays = is.arrays;
  privates = is.privates;
  before = λ e. absurd (omega arith);
  code = is.code;
  lines = is.lines;
  blocks = All-cons (IsBlock (length d.lines)) opened d.blocks is_opened is.blocks;
  depth = omega arith;
  loops = is.loops;
}

pub loop_kept : (b : Bounds) (word : Word) (d : Draft) → 0 < d.procs →
    length d.loops < b.loops → IsDraft b d → IsDraft b (with_loop word d)
loop_kept b word d some few is = record {
  names = named_things b word (thing.Loop (length d.loops)) d.names few is.names;
  procs = is.procs;
  arrays = is.arrays;
  privates = is.privates;
  before = λ e. absurd (omega arith);
  code = is.code;
  lines = is.lines;
  blocks = is.blocks;
  depth = is.depth;
  loops = omega arith;
}

depth_less : (opened : Block) (blocks : List Block) →
    choice_depth blocks ≤ choice_depth (opened ∷ blocks)
depth_less block.If blocks = omega arith
depth_less block.Else blocks = omega arith
depth_less block.Elsif blocks = omega arith
depth_less (block.While begin) blocks = omega arith
depth_less (block.For begin) blocks = omega arith

pub popped_kept : (b : Bounds) (opened : Block) (blocks : List Block) (d : Draft) →
    d.blocks ≡ opened ∷ blocks → IsDraft b d → IsDraft b (record d { blocks = blocks })
popped_kept b opened blocks d e is = record {
  names = is.names;
  procs = is.procs;
  arrays = is.arrays;
  privates = is.privates;
  before = is.before;
  code = is.code;
  lines = is.lines;
  blocks = All-tail (IsBlock (length d.lines)) opened blocks
      (subst (All (IsBlock (length d.lines))) e is.blocks);
  depth = omega (arith, depth_less opened blocks, ap choice_depth e, is.depth);
  loops = is.loops;
}

pub without_kept : (b : Bounds) (loops : List Word) (d : Draft) → length loops ≤ length d.loops →
    IsDraft b d → IsDraft b (without loops d)
without_kept b [] d few is = is
without_kept b (word ∷ loops) d few is = record {
  names = unnamed_things b word d.names is.names;
  procs = is.procs;
  arrays = is.arrays;
  privates = is.privates;
  before = is.before;
  code = is.code;
  lines = is.lines;
  blocks = is.blocks;
  depth = is.depth;
  loops = omega (arith, is.loops);
}

-- ---- ends of loops

ending_statement : (b : Bounds) (end : ℕ) (said : Statement) → end < b.lines → IsStatement b said →
    IsStatement b (loop_ending_at end said)
ending_statement b end (statement.Assign to value) few is = is
ending_statement b end (statement.If condition) few is = is
ending_statement b end statement.Else few is = is
ending_statement b end statement.EndIf few is = is
ending_statement b end (statement.While condition old) few is = (is.0, few)
ending_statement b end (statement.EndWhile begin) few is = is
ending_statement b end (statement.For nest first last up old) few is = (is.0, is.1, is.2, few)
ending_statement b end (statement.EndFor begin) few is = is

ending_masks : (end : ℕ) (said : Statement) → masks_of (loop_ending_at end said) ≡ masks_of said
ending_masks end (statement.Assign to value) = refl
ending_masks end (statement.If condition) = refl
ending_masks end statement.Else = refl
ending_masks end statement.EndIf = refl
ending_masks end (statement.While condition old) = refl
ending_masks end (statement.EndWhile begin) = refl
ending_masks end (statement.For nest first last up old) = refl
ending_masks end (statement.EndFor begin) = refl

abbrev ended_with : List Line → ℕ → Option Line → List Line
ended_with lines begin found = elim found [
  | None ↦ lines
  | Some line ↦
      slice_set lines begin
      (record line { statement = loop_ending_at (length lines) line.statement })
]

ended_lines : (b : Bounds) (lines : List Line) (begin : ℕ) (found : Option Line) →
    slice_get lines begin ≡ found → length lines < b.lines → All (IsLine b) lines →
    All (IsLine b) (ended_with lines begin found)
ended_lines b lines begin None e few all = all
ended_lines b lines begin (Some line) e few all =
    let is : IsLine b line = subst (IsLine b) (get_or_from_slice_get lines begin line line e)
    (all begin line (slice_get_within lines begin line e)) in
    All-set (IsLine b) lines begin _ (
      ending_statement b (length lines) line.statement few is.0,
      omega (arith, is.1, ending_masks (length lines) line.statement),
    ) all

ended_length : (lines : List Line) (begin : ℕ) (found : Option Line) →
    length (ended_with lines begin found) ≡ length lines
ended_length lines begin None = refl
ended_length lines begin (Some line) = length-set lines begin _

pub ended_at_length : (begin : ℕ) (lines : List Line) → length (ended_at begin lines) ≡ length lines
ended_at_length begin lines = ended_length lines begin (slice_get lines begin)

pub end_kept : (b : Bounds) (begin : ℕ) (d : Draft) → length d.lines < b.lines → IsDraft b d →
    IsDraft b (with_end begin d)
end_kept b begin d few is = record {
  names = is.names;
  procs = is.procs;
  arrays = is.arrays;
  privates = is.privates;
  before = is.before;
  code = is.code;
  lines = ended_lines b d.lines begin (slice_get d.lines begin) refl few is.lines;
  blocks = subst (λ n. All (IsBlock n) d.blocks) (sym (ended_at_length begin d.lines)) is.blocks;
  depth = is.depth;
  loops = is.loops;
}
