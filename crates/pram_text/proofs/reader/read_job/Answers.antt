use Rattle.std.proofs.Common.{◌≡◌, ◌<◌, ◌∙◌, ℕ, suc, [], length}
use Rattle.std.proofs.Common.{drop, get_or, sym, ap, subst, arith}
use Rattle.text_lines.specs.Lines.{lines_of}
use Rattle.text_lines.specs.TextLines.{left_of, taken_of}
use Rattle.pram_text.specs.Text.{Bears}
use Rattle.pram_text.proofs.Judged.{HasRead, HasRead-none, HasRead-more, Bears-line}
use Rattle.pram_text.proofs.Judged.{IsRefusal-from, spells_from_finish, bears_from_finish}
use Rattle.text_lines.proofs.Splitting.{at_front, none_left}
use Rattle.pram_text.proofs.reader.read_job.Goals as goal
use Rattle.pram_text.proofs.reader.read_job.Goals.{In-Some, In_default}

pub loop-line-init : goal.loop-line-init
loop-line-init c =
    let none = c.new-lines.ensures.taken in
    record {
      within = omega arith;
      left = ap (λ (n : ℕ). drop n (lines_of c.args.text.now)) none ∙ sym c.new-lines.ensures.left;
      read = subst (λ (n : ℕ). HasRead (lines_of c.args.text.now) n c.new-reader.result) (sym none)
          (HasRead-none _ c.new-reader.result c.new-reader.ensures.held c.new-reader.ensures.numbers);
    }

-- the line that is taken is the text's next, and what is left is after it
next_line : (c : In-Some) → (taken_of c.loop-line.lines < length (lines_of c.args.text.now))
    × (c.in-Some.line.now ≡ get_or (lines_of c.args.text.now) (taken_of c.loop-line.lines) [])
    × (drop (suc (taken_of c.loop-line.lines)) (lines_of c.args.text.now)
    ≡ left_of c.take_line.new.self)
next_line c = at_front _ _ _ _ (c.loop-line.invariant.left ∙ c.in-Some.ensures.0)

pub take-requires : goal.take-requires
take-requires c = (_, c.loop-line.invariant.read.held)

pub returns-in-Err-clause-bears : goal.returns-in-Err-clause-bears
returns-in-Err-clause-bears c =
    let read = c.loop-line.invariant.read in
    let next = next_line (goal.at.returns-in-Err-clause-bears c).In-Some in
    rw c.refusal.ensures.kind (IsRefusal-from c.args.text.now _ c.in-Err.kind (λ other.
    subst (λ k. Bears c.args.text.now k c.in-Err.kind) (sym (c.refusal.ensures.line other))
    (Bears-line c.args.text.now _ _ _ c.loop-line.reader _ read next.0 next.1
    (c.number-in-Err.ensures ∙ c.in-Some.ensures.1)
    (c.in-Err.ensures _ read.held other))) c.refusal.ensures.memory)

pub loop-line-preserved : goal.loop-line-preserved
loop-line-preserved c =
    let lines = lines_of c.args.text.now in
    let read = c.loop-line.invariant.read in
    let next = next_line (goal.at.loop-line-preserved c).In-Some in
    let taken = c.in-Some.ensures.1 in
    let one : taken_of c.take_line.new.self ≡ suc (taken_of c.loop-line.lines) = omega arith in
    record {
      within = omega (arith, next.0);
      left = ap (λ (n : ℕ). drop n lines) one ∙ next.2;
      read = subst (λ (n : ℕ). HasRead lines n c.take.new.self) (sym taken)
          (HasRead-more lines _ _ _ c.loop-line.reader c.take.new.self read next.0 next.1
          (c.number.ensures ∙ taken) (c.in_default-take.ensures _ read.held));
    }

pub finish-requires : goal.finish-requires
finish-requires c = (_, c.loop-line.invariant.read.held)

-- no line is left
all_read : (c : In_default) → taken_of c.loop-line.lines ≡ length (lines_of c.args.text.now)
all_read c = none_left _ _ c.loop-line.invariant.within
    (c.loop-line.invariant.left ∙ c.in_default.ensures.0)

pub returns-clause-spells : goal.returns-clause-spells
returns-clause-spells c =
    spells_from_finish c.args.text.now _ c.loop-line.reader _ c.loop-line.invariant.read
    (all_read (goal.at.returns-clause-spells c).In_default)
    (rw (c.number-2.ensures, c.in_default.ensures.2) at c.finish.ensures.told)

pub returns-clause-bears : goal.returns-clause-bears
returns-clause-bears c =
    bears_from_finish c.args.text.now _ c.loop-line.reader _ c.loop-line.invariant.read
    (all_read (goal.at.returns-clause-bears c).In_default)
    (rw (c.number-2.ensures, c.in_default.ensures.2) at c.finish.ensures.told)
    c.finish.ensures.memory
