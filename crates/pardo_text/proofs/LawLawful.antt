-- Programs are lawful.
use Rattle.std.proofs.Common.{◌≡◌, ℕ, ◌+◌, not, List, [], ◌∷◌, Result, Ok, Err}
use Rattle.std.proofs.Common.{IfOk, Some, None, refl, sym, subst, ap, arith, length}
use Rattle.std.specs.List.{All}
use Rattle.std.proofs.lemmas.List.Elements.{All-nil}
use Rattle.pardo_program.specs.declared.block.Block.{Block}
use Rattle.pardo_text.specs.declared.draft.Stage.{Stage}
use Rattle.pardo_text.specs.declared.draft.Stage.TheVariants as stage
use Rattle.pardo_text.specs.declared.fault.PardoFault.{PardoFault}
use Rattle.pardo_text.specs.declared.fault.PardoKind.{PardoKind}
use Rattle.pardo_program.specs.declared.statement.Line.{Line}
use Rattle.pardo_text.specs.Drafts.{Draft, empty}
use Rattle.pardo_text.specs.Laws.{ProgramsAreLawful}
use Rattle.pardo_program.specs.Lawful.{IsProgram, IsPrivate, IsLine}
use Rattle.text_lines.specs.Lines.{lines_of, said_in}
use Rattle.pardo_text.specs.Reading.{is_readable, line_in_stage, with_tokens, with_text_line, finished_draft}
use Rattle.pardo_text.specs.Reading.{program_in, said_so_far}
use Rattle.pardo_text.specs.Reading.{on_line, and_then, program_after, program_of}
use Rattle.pardo_text.specs.Tokens.{Token, tokens_of}
use Rattle.pardo_text.proofs.Ifs.{ok_after, ok_if}
use Rattle.pardo_text.proofs.LawCode.{statement_kept}
use Rattle.pardo_text.proofs.LawDrafts.{IsLawful, IsBlock, bounds_in}
use Rattle.pardo_program.specs.Tests.{known_of, lines_untested}
use Rattle.pardo_program.proofs.LawTests.{lines_kept, same_length}
use Rattle.pardo_text.proofs.LawHeader.{version_kept, rule_kept, header_kept}

at_kept : (next : Stage) (n : ℕ) (d : Draft) (tokens : List Token) → d.stage ≡ next → IsLawful d →
    IfOk (line_in_stage next n d tokens) IsLawful
at_kept stage.Version n d tokens e is = version_kept d tokens is
at_kept stage.Rule n d tokens e is = rule_kept d tokens is
at_kept stage.Header n d tokens e is = header_kept d tokens is
at_kept stage.Code n d tokens e is = statement_kept n d tokens (is.0.code e) is

tokens_kept : (n : ℕ) (d : Draft) (tokens : List Token) → IsLawful d →
    IfOk (with_tokens n d tokens) IsLawful
tokens_kept n d [] is = is
tokens_kept n d (token ∷ tokens) is = at_kept d.stage n d (token ∷ tokens) refl is

text_line_kept : (n : ℕ) (d : Draft) (line : List ℕ) → IsLawful d →
    IfOk (with_text_line n d line) IsLawful
unfolding with_text_line
text_line_kept n d line is =
    ok_if (not (is_readable line)) _ _ IsLawful (λ _. tt)
    (λ _. ok_after (tokens_of (said_in line)) _ IsLawful (λ tokens. tokens_kept n d tokens is))

-- ---- the end

finished_kept : (next : Stage) (blocks : List Block) (lines : List Line) (d : Draft) →
    d.stage ≡ next → d.lines ≡ lines → IsLawful d →
    IfOk (finished_draft next blocks lines d) IsProgram
finished_kept stage.Version blocks lines d e f is = tt
finished_kept stage.Rule blocks lines d e f is = tt
finished_kept stage.Header blocks lines d e f is = tt
finished_kept stage.Code (block ∷ blocks) lines d e f is = tt
finished_kept stage.Code [] [] d e f is = tt
finished_kept stage.Code [] (first ∷ lines) d e f is =
    let known = known_of (said_so_far d) in
    let same : length (lines_untested known d.lines) ≡ length d.lines = same_length d.lines known in
    record {
      procs = (is.0.code e, is.0.procs);
      arrays = is.0.arrays;
      privates = is.0.privates;
      has_line = omega (arith, same, ap length f);
      lines = subst (λ n. All (IsLine (record (bounds_in d) { lines = n }))
          (lines_untested known d.lines)) (sym same) (lines_kept (bounds_in d) d.lines known is.0.lines);
      cells = is.1;
    }

program_kept : (d : Draft) → IsLawful d → IfOk (program_in d) IsProgram
unfolding program_in
program_kept d is = finished_kept d.stage d.blocks d.lines d refl refl is

-- ---- lines one after another

pub on_line_kept : {A : Type 0} → (P : A → Type 0) (n : ℕ) (read : Result A PardoKind) →
    IfOk read P →
    IfOk (on_line n read) P
on_line_kept P n (Ok x) is = is
on_line_kept P n (Err kind) is = tt

pub and_then_kept : {A B : Type 0} → (P : A → Type 0) (Q : B → Type 0) (read : Result A PardoFault)
    (next : A → Result B PardoFault) → IfOk read P → ((x : A) → P x → IfOk (next x) Q) →
    IfOk (and_then read next) Q
and_then_kept P Q (Ok x) next is more = more x is
and_then_kept P Q (Err fault) next is more = tt

after_kept : (lines : List (List ℕ)) (n : ℕ) (d : Draft) → IsLawful d →
    IfOk (program_after d n lines) IsProgram
after_kept [] n d is = on_line_kept IsProgram n (program_in d) (program_kept d is)
after_kept (line ∷ lines) n d is =
    and_then_kept IsLawful IsProgram (on_line (n + 1) (with_text_line (n + 1) d line)) _
    (on_line_kept IsLawful (n + 1) (with_text_line (n + 1) d line)
    (text_line_kept (n + 1) d line is))
    (λ next is_next. after_kept lines (n + 1) next is_next)

empty_is_lawful : IsLawful empty
empty_is_lawful = (
  record {
    names = λ word found e. absurd (let none : None ≡ Some found = e in cc);
    procs = omega arith;
    arrays = tt;
    privates = All-nil (IsPrivate 0);
    before = λ e. omega arith;
    code = λ e. absurd (let other : stage.Version ≡ stage.Code = e in cc);
    lines = All-nil (IsLine (bounds_in empty));
    blocks = All-nil (IsBlock 0);
    depth = omega arith;
    loops = omega arith;
  },
  omega arith,
)

pub programs_are_lawful : ProgramsAreLawful
unfolding program_of
programs_are_lawful text = after_kept (lines_of text) 0 empty empty_is_lawful
