-- The loops of the flat program.
use Rattle.std.proofs.Common.{◌≡◌, ℕ, suc, ◌-◌, ◌<◌, ◌≤◌, Bool}
use Rattle.std.proofs.Common.{true, false, List, [], ◌∷◌, Option, Some, None, refl, sym, ap}
use Rattle.std.proofs.Common.{◌∙◌, subst, ⊎_elim, arith, if◌then◌else◌, length}
use Rattle.std.specs.Prelude.{slice_get}
use Rattle.std.specs.List.{flat_map}
use Rattle.std.proofs.lemmas.Bool.{cases_lt}
use Rattle.std.proofs.lemmas.Option.{none-some, same_Some, slice_get_within}
use Rattle.pardo_program.specs.declared.statement.Line.{Line}
use Rattle.pardo_program.specs.declared.statement.Statement.{Statement}
use Rattle.pardo_program.specs.declared.statement.Statement.TheVariants.{Assign, If, Else, EndIf}
use Rattle.pardo_program.specs.declared.statement.Statement.TheVariants.{While, EndWhile, For}
use Rattle.pardo_program.specs.declared.statement.Statement.TheVariants.{EndFor}
use Rattle.pardo_program.specs.declared.statement.Target.TheVariants.{Private, Array as Shared}
use Rattle.pardo_program.specs.Expression.{Tree}
use Rattle.pardo_program.specs.Program.{ProgramData}
use Rattle.pardo_flat.specs.Statements.{statement_at}
use Rattle.pardo_flat.specs.Flat.{base_of, fits, flat, giving, is_for_all, last_line, last_of}
use Rattle.pardo_flat.specs.Flat.{lines_for, moved_statement, pieces_of, split_statement}
use Rattle.pardo_flat.specs.Flat.{statement_parts}
use Rattle.pardo_flat.proofs.FlatLines.{get_back, get_front, hidden_for, hidden_is, last_is}
use Rattle.pardo_flat.proofs.FlatLines.{last_stands, length-hidden}
use Rattle.pardo_law.proofs.Picturing.{IsFor, TurnsAreTied}

-- ---- loops

pub record Located (f : Line → List Line) (lines : List Line) (found : Line) : Type 0 where
  pub at : ℕ
  pub line : Line
  pub is : slice_get lines at ≡ Some line
  pub k : ℕ
  pub here : slice_get (f line) k ≡ Some found

pub located : (f : Line → List Line) (lines : List Line) (m : ℕ) (found : Line) →
    slice_get (flat_map f lines) m ≡ Some found → Located f lines found
located f [] m found e = absurd (none-some found e)
located f (line ∷ lines) m found e = ⊎_elim
    (λ (low : m < length (f line)). record {
      at = 0;
      line = line;
      is = refl;
      k = m;
      here = sym (get_front (f line) (flat_map f lines) m low) ∙ e;
    })
    (λ (high : length (f line) ≤ m).
    let rest : Located f lines found = located f lines (m - length (f line)) found
    (sym (get_back (f line) (flat_map f lines) m (m - length (f line)) (omega (arith, high))) ∙ e)
    in record {
      at = suc rest.at;
      line = rest.line;
      is = rest.is;
      k = rest.k;
      here = rest.here;
    })
    (cases_lt m (length (f line)))

-- the end of a `for` comes from one
record IsEnd (program : ProgramData) (statement : Statement) (begin : ℕ) : Type 0 where
  from : ℕ
  is : statement ≡ EndFor from
  same : begin ≡ last_of program from

module _ (program : ProgramData) where
  same_end : (from begin : ℕ) → EndFor (last_of program from) ≡ EndFor begin →
      IsEnd program (EndFor from) begin
  same_end from begin e = record { from = from; is = refl; same = cc }

  plain_end : (statement : Statement) (begin : ℕ) → moved_statement program statement ≡ EndFor begin →
      IsEnd program statement begin
  plain_end (EndFor from) begin e = same_end from begin e
  plain_end (Assign target tree) begin e = absurd (cc)
  plain_end (If tree) begin e = absurd (cc)
  plain_end Else begin e = absurd (cc)
  plain_end EndIf begin e = absurd (cc)
  plain_end (While tree end) begin e = absurd (cc)
  plain_end (EndWhile line) begin e = absurd (cc)
  plain_end (For nest first last up end) begin e = absurd (cc)

  level_end : (level : Bool) (statement : Statement) (begin : ℕ) →
      moved_statement program (if level then ([], statement)
      else split_statement program statement).1 ≡ EndFor begin →
      IsEnd program statement begin
  level_end true statement begin e = plain_end statement begin e
  level_end false (EndFor from) begin e = same_end from begin e
  level_end false (Assign (Private x) tree) begin e = absurd (cc)
  level_end false (Assign (Shared array index) tree) begin e = absurd (cc)
  level_end false (If tree) begin e = absurd (cc)
  level_end false Else begin e = absurd (cc)
  level_end false EndIf begin e = absurd (cc)
  level_end false (While tree end) begin e = absurd (cc)
  level_end false (EndWhile line) begin e = absurd (cc)
  level_end false (For nest first last up end) begin e = absurd (cc)

  end_of : (statement : Statement) (begin : ℕ) →
      moved_statement program (statement_parts program statement).1 ≡ EndFor begin →
      IsEnd program statement begin
  end_of (EndFor from) begin e = same_end from begin e
  end_of (Assign target tree) begin e =
      level_end (fits (Assign target tree)) (Assign target tree) begin e
  end_of (If tree) begin e = level_end (fits (If tree)) (If tree) begin e
  end_of Else begin e = absurd (cc)
  end_of EndIf begin e = absurd (cc)
  end_of (While tree end) begin e = level_end (fits (While tree end)) (While tree end) begin e
  end_of (EndWhile line) begin e = absurd (cc)
  end_of (For nest first last up end) begin e =
      level_end (fits (For nest first last up end)) (For nest first last up end) begin e

  level_for : (nest : ℕ) (first last : Tree) (up : Bool) (end : ℕ) (level : Bool) →
      IsFor (moved_statement program (if level then ([], For nest first last up end)
      else split_statement program (For nest first last up end)).1)
  level_for nest first last up end true = tt
  level_for nest first last up end false = tt

  for_of : (statement : Statement) → IsFor statement →
      IsFor (moved_statement program (statement_parts program statement).1)
  for_of (For nest first last up end) is =
      level_for nest first last up end (fits (For nest first last up end))
  for_of (EndFor from) is = absurd is
  for_of (Assign target tree) is = absurd is
  for_of (If tree) is = absurd is
  for_of Else is = absurd is
  for_of EndIf is = absurd is
  for_of (While tree end) is = absurd is
  for_of (EndWhile line) is = absurd is

  -- no hidden line is the end of a loop
  no_end : (common : Bool) (end x : ℕ) (tree : Tree) (begin : ℕ) →
      giving common end x tree ≡ EndFor begin → ⊥
  no_end true end x tree begin e = absurd (cc)
  no_end false end x tree begin e = absurd (cc)

  -- the end of a loop among the lines for a line is the last of them
  last_end : (line : Line) (k : ℕ) (found : Line) (begin : ℕ) →
      slice_get (lines_for program line) k ≡ Some found → found.statement ≡ EndFor begin →
      IsEnd program line.statement begin
  unfolding lines_for
  last_end line k found begin here e =
      let front = hidden_for program line in
      let rest = last_line program line ∷ [] in
      ⊎_elim
      (λ (low : k < length front).
      let end = last_of program 0 in
      let base = base_of program line.statement in
      let is = hidden_is end line base (pieces_of program line) k
      (let l = length-hidden end line base (pieces_of program line) in omega (arith, l, low)) in
      let same : record line { statement = giving (is_for_all line.statement) end is.0 is.1 }
      ≡ found = same_Some _ found (sym is.2 ∙ sym (get_front front rest k low) ∙ here) in
      absurd (no_end (is_for_all line.statement) end is.0 is.1 begin
      (ap (λ (l : Line). l.statement) same ∙ e)))
      (λ (high : length front ≤ k).
      let j : ℕ = k - length front in
      let there : slice_get rest j ≡ Some found =
      sym (get_back front rest k j (omega (arith, high))) ∙ here in
      let short = slice_get_within rest j found there in
      let none : j ≡ 0 = omega (arith, short) in
      let same : last_line program line ≡ found =
      same_Some (last_line program line) found (sym (ap (slice_get rest) none) ∙ there) in
      end_of line.statement begin (ap (λ (l : Line). l.statement) same ∙ e))
      (cases_lt k (length front))

  abbrev statement_in : Option Line → Statement
  statement_in o = elim o as (λ (x : Option Line). Statement)
      [ None ↦ EndIf | Some l ↦ l.statement ]

  for_line : (j : ℕ) (o : Option Line) → slice_get program.lines j ≡ o →
      IsFor (statement_in o) → IsFor (statement_at (flat program) (last_of program j))
  for_line j None e is = absurd is
  for_line j (Some line) e is =
      let here : slice_get (flat program).lines (last_of program j)
      ≡ Some (last_line program line) =
      ap (slice_get (flat program).lines) (last_is program j line e)
      ∙ last_stands program j line e in
      subst IsFor (sym (ap statement_in here)) (for_of line.statement is)

  pub flat_tied : TurnsAreTied program → TurnsAreTied (flat program)
  flat_tied tied j begin e = by_line (slice_get (flat program).lines j) refl
    where
      by_line : (o : Option Line) → slice_get (flat program).lines j ≡ o →
          IsFor (statement_at (flat program) begin)
      by_line None f =
          let no : EndIf ≡ EndFor begin = sym (ap statement_in f) ∙ e in absurd (cc)
      by_line (Some found) f =
          let at : Located (lines_for program) program.lines found =
          located (lines_for program) program.lines j found f in
          let end : IsEnd program at.line.statement begin =
          last_end at.line at.k found begin at.here (sym (ap statement_in f) ∙ e) in
          let was : statement_at program at.at ≡ EndFor end.from =
          ap statement_in at.is ∙ end.is in
          subst (λ k. IsFor (statement_at (flat program) k)) (sym end.same)
          (for_line end.from (slice_get program.lines end.from) refl
          (tied at.at end.from was))
