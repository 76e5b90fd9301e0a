-- What says nothing in a line.
use Rattle.std.proofs.Common.{◌≡◌, ℕ, true, false, ◌&&◌, ◌==◌, List, [], ◌∷◌, ◌++◌}
use Rattle.std.proofs.Common.{refl, sym, ap, ◌∙◌, arith, one-add, ⊎_elim}
use Rattle.std.specs.List.{list_all}
use Rattle.std.proofs.lemmas.Bool.{cases_Bool, and_parts}
use Rattle.pardo_text.specs.Laws.{SayTheSame, ProgramCommentsSayNothing, IndentationSaysNothing}
use Rattle.pardo_text.specs.Laws.{EmptyLinesSayNothing}
use Rattle.text_lines.specs.Lines.{is_allowed, is_blank, said_in}
use Rattle.pardo_text.specs.Reading.{comment_of, is_comment, is_readable, with_text_line}
use Rattle.pardo_text.proofs.Comments.{comment_on}
use Rattle.pardo_text.specs.Tokens.{tokens_of}

-- a line with the same tokens, that is readable as the other is
says_the_same : (line other : List ℕ) → is_readable line ≡ is_readable other →
    tokens_of (said_in line) ≡ tokens_of (said_in other) → SayTheSame line other
unfolding with_text_line
says_the_same line other e f n draft = rw (e, f) refl

-- ---- comments

said-semicolon : (byte : ℕ) (bytes : List ℕ) → (byte == 59) ≡ true → said_in (byte ∷ bytes) ≡ []
said-semicolon byte bytes e = rw e refl

said-other : (byte : ℕ) (bytes : List ℕ) → (byte == 59) ≡ false →
    said_in (byte ∷ bytes) ≡ byte ∷ said_in bytes
said-other byte bytes e = rw e (rw one-add refl)

said-comment : (line comment : List ℕ) → said_in (line ++ 59 ∷ comment) ≡ said_in line
said-comment [] comment = refl
said-comment (byte ∷ line) comment = ⊎_elim
    (λ e. said-semicolon byte (line ++ 59 ∷ comment) e ∙ sym (said-semicolon byte line e))
    (λ e. said-other byte (line ++ 59 ∷ comment) e
    ∙ ap (λ said. byte ∷ said) (said-comment line comment) ∙ sym (said-other byte line e))
    (cases_Bool (byte == 59))

comment-semicolon : (byte : ℕ) (bytes : List ℕ) → (byte == 59) ≡ true →
    comment_of (byte ∷ bytes) ≡ byte ∷ bytes
comment-semicolon byte bytes e = rw e refl

comment-other : (byte : ℕ) (bytes : List ℕ) → (byte == 59) ≡ false →
    comment_of (byte ∷ bytes) ≡ comment_of bytes
comment-other byte bytes e = rw e (rw one-add refl)

comment-comment : (line comment : List ℕ) →
    comment_of (line ++ 59 ∷ comment) ≡ comment_of line ++ 59 ∷ comment
comment-comment [] comment = refl
comment-comment (byte ∷ line) comment = ⊎_elim
    (λ e. comment-semicolon byte (line ++ 59 ∷ comment) e
    ∙ sym (ap (λ front. front ++ 59 ∷ comment) (comment-semicolon byte line e)))
    (λ e. comment-other byte (line ++ 59 ∷ comment) e ∙ comment-comment line comment
    ∙ sym (ap (λ front. front ++ 59 ∷ comment) (comment-other byte line e)))
    (cases_Bool (byte == 59))

comment_is_readable : (line comment : List ℕ) → is_comment comment ≡ true →
    is_readable (line ++ 59 ∷ comment) ≡ is_readable line
unfolding is_readable
comment_is_readable line comment all =
    ap (λ said. list_all is_allowed said && is_comment (comment_of (line ++ 59 ∷ comment)))
    (said-comment line comment)
    ∙ ap (λ test. list_all is_allowed (said_in line) && test)
    (ap is_comment (comment-comment line comment) ∙ comment_on (comment_of line) comment all)

pub comments_say_nothing : ProgramCommentsSayNothing
comments_say_nothing line comment all = says_the_same (line ++ 59 ∷ comment) line
    (comment_is_readable line comment all) (ap tokens_of (said-comment line comment))

-- ---- blanks

blank_is_allowed : (byte : ℕ) → is_blank byte ≡ true → is_allowed byte ≡ true
unfolding is_allowed
blank_is_allowed byte e = grind arith

blank_is_no_semicolon : (byte : ℕ) → is_blank byte ≡ true → (byte == 59) ≡ false
blank_is_no_semicolon byte e = grind arith

tokens-blank : (byte : ℕ) (line : List ℕ) → is_blank byte ≡ true →
    tokens_of (byte ∷ line) ≡ tokens_of line
unfolding tokens_of
tokens-blank byte line e = rw e refl

blank_is_readable : (byte : ℕ) (line : List ℕ) → is_blank byte ≡ true →
    is_readable (byte ∷ line) ≡ is_readable line
unfolding is_readable
blank_is_readable byte line e =
    let no = blank_is_no_semicolon byte e in
    ap (λ said. list_all is_allowed said && is_comment (comment_of (byte ∷ line)))
    (said-other byte line no)
    ∙ ap (λ test. (test && list_all is_allowed (said_in line)) && is_comment (comment_of (byte ∷ line)))
    (blank_is_allowed byte e)
    ∙ ap (λ comment. list_all is_allowed (said_in line) && is_comment comment)
    (comment-other byte line no)

blank : (byte : ℕ) (line : List ℕ) → is_blank byte ≡ true → SayTheSame (byte ∷ line) line
blank byte line e = says_the_same (byte ∷ line) line (blank_is_readable byte line e)
    (ap tokens_of (said-other byte line (blank_is_no_semicolon byte e))
    ∙ tokens-blank byte (said_in line) e)

pub indentation_says_nothing : IndentationSaysNothing
indentation_says_nothing [] line all n draft = refl
indentation_says_nothing (byte ∷ blanks) line all n draft =
    let parts = and_parts (is_blank byte) (list_all is_blank blanks) all in
    blank byte (blanks ++ line) parts.0 n draft
    ∙ indentation_says_nothing blanks line parts.1 n draft

-- ---- lines without a token

pub empty_lines_say_nothing : EmptyLinesSayNothing
unfolding with_text_line
empty_lines_say_nothing n draft line all none = rw (all, none) refl
