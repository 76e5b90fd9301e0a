-- Texts whose lines have the same words say the same.
use Rattle.std.proofs.Common.{◌≡◌, ℕ, ◌+◌, ◌<◌, zero, suc, Bool, true, not, ◌==◌}
use Rattle.std.proofs.Common.{if◌then◌else◌, List, [], ◌∷◌, ◌++◌, length, map, take}
use Rattle.std.proofs.Common.{drop, slice_index, IsTrue, filter, Option, Some, None}
use Rattle.std.proofs.Common.{get_or, refl, sym, ap, subst, ◌∙◌, inl, inr}
use Rattle.std.specs.List.{AllByRecursion, list_all, after_first, enumerate_from}
use Rattle.std.specs.Option.{option_or}
use Rattle.std.proofs.lemmas.List.{length-map, take-map}
use Rattle.std.proofs.lemmas.List.Elements.{recursion_from_All, All-from_recursion}
use Rattle.pram_text.specs.declared.fault.TextKind.{TextKind}
use Rattle.pram_text.specs.declared.fault.TextKind.TheVariants.{NotAscii}
use Rattle.pram_job.specs.Job.{JobData}
use Rattle.text_lines.specs.Lines.{Line, lines_of, words_of, worded, is_allowed, is_filled}
use Rattle.pram_text.specs.Judgement.{is_code}
use Rattle.text_lines.specs.Lines.{HasOtherLine}
use Rattle.pram_text.specs.Laws.{SpellsSame, BearsSame}
use Rattle.pram_text.specs.Text.{Spells, words_fault, line_fault, numbered_body, end_fault}
use Rattle.pram_text.specs.Text.{fault_at, scope_in, label_fault_at, IsFirst, Bears, SpellsLines}

-- whether a line's bytes are allowed
abbrev pub allowed : List ℕ → Bool
allowed line = list_all is_allowed line

-- the same words in the same lines, and bytes that are not allowed in the same lines
pub record SameLines (a b : List (List ℕ)) : Type 0 where
  pub words : map words_of a ≡ map words_of b
  pub bytes : map allowed a ≡ map allowed b

same_back : (a b : List (List ℕ)) → SameLines a b → SameLines b a
same_back a b s = record { words = sym s.words; bytes = sym s.bytes }

-- the faults, from the words and from whether the bytes are allowed
abbrev fault_by : List Line → List Bool → ℕ → Option TextKind
fault_by words bytes k = option_or
    (if not (get_or bytes k true) then Some NotAscii else (if is_filled (get_or words k [])
    then words_fault (filter is_filled (take k words)) (get_or words k []) else None))
    (if (k + 1) == length words then end_fault (filter is_filled words) else None)

get_or_mapped : {X Y : Type 0} (f : X → Y) (xs : List X) (k : ℕ) (d : X) (e : Y) → f d ≡ e →
    f (get_or xs k d) ≡ get_or (map f xs) k e
get_or_mapped f [] k d e h = h
get_or_mapped f (x ∷ xs) zero d e h = refl
get_or_mapped f (x ∷ xs) (suc k) d e h = get_or_mapped f xs k d e h

pub no_words : words_of [] ≡ []
unfolding words_of
no_words = refl

fault_is : (lines : List (List ℕ)) (k : ℕ) →
    fault_at lines k ≡ fault_by (map words_of lines) (map allowed lines) k
unfolding fault_at line_fault
fault_is lines k = λ i. option_or
    (if not (bytes i) then Some NotAscii
    else (if is_filled (here i) then words_fault (filter is_filled (front i)) (here i) else None))
    (if (k + 1) == len i then end_fault (filter is_filled (map words_of lines)) else None)
  where
    bytes : allowed (get_or lines k []) ≡ get_or (map allowed lines) k true
    bytes = get_or_mapped allowed lines k [] true refl

    here : words_of (get_or lines k []) ≡ get_or (map words_of lines) k []
    here = get_or_mapped words_of lines k [] [] no_words

    front : map words_of (take k lines) ≡ take k (map words_of lines)
    front = sym (take-map words_of k lines)

    len : length lines ≡ length (map words_of lines)
    len = sym (length-map lines words_of)

bears_alike : (text other : List ℕ) → SameLines (lines_of text) (lines_of other) →
    (line : ℕ) (kind : TextKind) → Bears text line kind → Bears other line kind
unfolding Bears
bears_alike text other s line kind = go
  where
    len : length (lines_of text) ≡ length (lines_of other)
    len = sym (length-map (lines_of text) words_of) ∙ ap length s.words
        ∙ length-map (lines_of other) words_of

    same : (k : ℕ) → fault_at (lines_of text) k ≡ fault_at (lines_of other) k
    same k = fault_is (lines_of text) k ∙ (λ i. fault_by (s.words i) (s.bytes i) k)
        ∙ sym (fault_is (lines_of other) k)

    -- the instruction lines and their numbers come from the words
    body : numbered_body (lines_of text) ≡ numbered_body (lines_of other)
    body = ap (λ words. after_first (λ l. is_code l.1)
        (drop 4 (filter (λ l. is_filled l.1) (enumerate_from 1 words)))) s.words

    scope : scope_in (worded (lines_of text)) ≡ scope_in (worded (lines_of other))
    scope = ap (λ words. scope_in (filter is_filled words)) s.words

    go : Bears text line kind → Bears other line kind
    go (inl first) = inl (
      first.0,
      first.1,
      subst (λ n. IsFirst (fault_at (lines_of other)) n first.0 kind) len
          (subst (λ f. IsFirst f (length (lines_of text)) first.0 kind) (λ i k. same k i) first.2),
    )
    go (inr label) = inr (
      (λ j lt. sym (same j) ∙ label.0 j (subst (λ n. j < n) (sym len) lt)),
      label.1,
      label.2 ∙ ap (λ ls. slice_index (map (λ l. l.0) ls) label.1) body,
      subst (λ scope. IsFirst (label_fault_at scope (map (λ l. l.1) (numbered_body
          (lines_of other)))) (length (numbered_body (lines_of other))) label.1 kind) scope
          (subst (λ (ls : List (ℕ × Line)). IsFirst (label_fault_at
          (scope_in (worded (lines_of text))) (map (λ l. l.1) ls)) (length ls) label.1 kind)
          body label.3),
    )

allowed_alike : (a b : List (List ℕ)) →
    map allowed a ≡ map allowed b → AllByRecursion (λ line. IsTrue (allowed line)) a →
    AllByRecursion (λ line. IsTrue (allowed line)) b
allowed_alike a [] e h = tt
allowed_alike [] (y ∷ b) e h = cc
allowed_alike (x ∷ a) (y ∷ b) e h =
    let first : allowed x ≡ allowed y = cc in
    let rest : map allowed a ≡ map allowed b = cc in
    (sym first ∙ h.0, allowed_alike a b rest h.1)

spells_alike : (text other : List ℕ) → SameLines (lines_of text) (lines_of other) →
    (job : JobData) → Spells text job → Spells other job
spells_alike text other s job t =
    record {
      allowed = All-from_recursion (λ line. IsTrue (allowed line)) (lines_of other)
          (allowed_alike (lines_of text) (lines_of other) s.bytes
          (recursion_from_All (λ line. IsTrue (allowed line)) (lines_of text) t.allowed));
      lines = subst (λ words. SpellsLines job (filter is_filled words)) s.words t.lines;
    }

-- one line in the place of another
map_around : {X Y : Type 0} (f : X → Y) (before : List X) (x y : X) (after : List X) → f x ≡ f y →
    map f (before ++ x ∷ after) ≡ map f (before ++ y ∷ after)
map_around f [] x y after e = λ i. e i ∷ map f after
map_around f (b ∷ before) x y after e = λ i. f b ∷ map_around f before x y after e i

pub same_lines : (text other line other_line : List ℕ) → HasOtherLine text other line other_line →
    words_of line ≡ words_of other_line → allowed line ≡ allowed other_line →
    SameLines (lines_of text) (lines_of other)
same_lines text other line other_line h words bytes = record {
  words = ap (map words_of) h.lines ∙ map_around words_of h.before line other_line h.after words
      ∙ sym (ap (map words_of) h.other_lines);
  bytes = ap (map allowed) h.lines ∙ map_around allowed h.before line other_line h.after bytes
      ∙ sym (ap (map allowed) h.other_lines);
}

-- both texts say the same
pub say_same : (text other : List ℕ) → SameLines (lines_of text) (lines_of other) →
    SpellsSame text other × BearsSame text other
say_same text other s =
    let back = same_back (lines_of text) (lines_of other) s in (
      (λ job. (spells_alike text other s job, spells_alike other text back job)),
      λ line kind. (bears_alike text other s line kind, bears_alike other text back line kind),
    )
