-- Words and marks by kinds.
use Rattle.std.proofs.Common.{◌≡◌, ℕ, Bool, true, false, if◌then◌else◌, refl}
use Rattle.std.proofs.Common.{List, [], ◌∷◌, ◌++◌, Option, Some, None, length, take, drop}
use Rattle.std.specs.Str.{bytes_eq}
use Rattle.pardo_text.specs.declared.symbol.Symbol.{Symbol}
use Rattle.pardo_text.specs.Inner.Marks.{spelled_by}
use Rattle.pardo_text.specs.Tokens.{Token, symbol, word_by, mark_by}

-- ---- words

kept_word : (test : Bool) (s t : Symbol) (rest : Option Symbol) (other : Token) →
    (rest ≡ Some s → other ≡ symbol s) → (if test then Some t else rest) ≡ Some s →
    (if test then symbol t else other) ≡ symbol s
kept_word true s t rest other more e = cc
kept_word false s t rest other more e = more e

-- a word that some rows spell
pub word_found : (a b : List (List ℕ × Symbol)) (word : List ℕ) (s : Symbol) →
    spelled_by a word ≡ Some s → word_by (a ++ b) word ≡ symbol s
word_found [] b word s e = absurd (cc e)
word_found (row ∷ a) b word s e = kept_word (bytes_eq word row.0) s row.1 (spelled_by a word)
    (word_by (a ++ b) word) (word_found a b word s) e

passed_word : (test : Bool) (t : Symbol) (rest : Option Symbol) (other last : Token) →
    (rest ≡ None → other ≡ last) → (if test then Some t else rest) ≡ None →
    (if test then symbol t else other) ≡ last
passed_word true t rest other last more e = absurd (cc e)
passed_word false t rest other last more e = more e

-- a word that they do not spell
pub word_missed : (a b : List (List ℕ × Symbol)) (word : List ℕ) →
    spelled_by a word ≡ None → word_by (a ++ b) word ≡ word_by b word
word_missed [] b word e = refl
word_missed (row ∷ a) b word e = passed_word (bytes_eq word row.0) row.1 (spelled_by a word)
    (word_by (a ++ b) word) (word_by b word) (word_missed a b word) e

-- ---- marks

kept_mark : (test : Bool) (t x : Token × List ℕ) (rest other : Option (Token × List ℕ)) →
    (rest ≡ Some x → other ≡ Some x) → (if test then Some t else rest) ≡ Some x →
    (if test then Some t else other) ≡ Some x
kept_mark true t x rest other more e = e
kept_mark false t x rest other more e = more e

-- a mark of some rows
pub mark_found : (a b : List (List ℕ × Symbol)) (line : List ℕ) (x : Token × List ℕ) →
    mark_by a line ≡ Some x → mark_by (a ++ b) line ≡ Some x
mark_found [] b line x e = absurd (cc e)
mark_found (row ∷ a) b line x e = kept_mark (bytes_eq (take (length row.0) line) row.0)
    (symbol row.1, drop (length row.0) line) x (mark_by a line) (mark_by (a ++ b) line)
    (mark_found a b line x) e

passed_mark : (test : Bool) (t : Token × List ℕ) (rest other last : Option (Token × List ℕ)) →
    (rest ≡ None → other ≡ last) → (if test then Some t else rest) ≡ None →
    (if test then Some t else other) ≡ last
passed_mark true t rest other last more e = absurd (cc e)
passed_mark false t rest other last more e = more e

-- a mark that they are not
pub mark_missed : (a b : List (List ℕ × Symbol)) (line : List ℕ) →
    mark_by a line ≡ None → mark_by (a ++ b) line ≡ mark_by b line
mark_missed [] b line e = refl
mark_missed (row ∷ a) b line e = passed_mark (bytes_eq (take (length row.0) line) row.0)
    (symbol row.1, drop (length row.0) line) (mark_by a line) (mark_by (a ++ b) line)
    (mark_by b line) (mark_missed a b line) e
