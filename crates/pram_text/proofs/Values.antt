-- Start values, read word by word.
use Rattle.std.proofs.Common.{◌≡◌, ℕ, ◌+◌, ◌-◌, ◌<◌, ◌≤◌, ◌==◌, List, [], ◌∷◌, ◌++◌, length}
use Rattle.std.proofs.Common.{Result, Ok, Err, refl, sym, ap, ap₂, ◌∙◌, arith, ne_eqb}
use Rattle.std.proofs.Common.{append_assoc, if◌then◌else◌}
use Rattle.std.proofs.lemmas.List.{length_push}
use Rattle.pram_text.specs.declared.fault.TextKind.{TextKind}
use Rattle.pram_text.specs.declared.fault.TextKind.TheVariants.{OutOfLimits}
use Rattle.text_lines.specs.Lines.{Line, Word}
use Rattle.pram_text.specs.Judgement.{number_in, most, values_of}
use Rattle.text_lines.specs.Reads.{◌>>=◌}

-- the values so far, and then the others
abbrev pub then_all : List ℕ → Result (List ℕ) TextKind → Result (List ℕ) TextKind
then_all vs r = r >>= λ more. Ok (vs ++ more)

put_first : (vs : List ℕ) (v : ℕ) (r : Result (List ℕ) TextKind) →
    then_all vs (r >>= λ more. Ok (v ∷ more)) ≡ then_all (vs ++ v ∷ []) r
put_first vs v (Ok more) = ap (λ vs. Ok vs) (sym (append_assoc vs (v ∷ []) more))
put_first vs v (Err kind) = refl

-- the values of a word that is a number, and of those after it, where there is room
one_word : (room : ℕ) (word : Word) (rest : Line) (v : ℕ) → number_in 0 most word ≡ Ok v →
    0 < room →
    values_of room (word ∷ rest) ≡ (values_of (room - 1) rest >>= λ more. Ok (v ∷ more))
one_word room word rest v e some =
    ap (λ r. r >>= λ value. if room == 0 then Err OutOfLimits
    else (values_of (room - 1) rest >>= λ values. Ok (value ∷ values))) e
    ∙ ap (λ b. if b then Err OutOfLimits
    else (values_of (room - 1) rest >>= λ values. Ok (v ∷ values)))
    (ne_eqb room 0 (λ none. omega arith))

pub values_more : (room : ℕ) (line rest : Line) (word : Word) (v : ℕ) (vs new : List ℕ)
    (all : Result (List ℕ) TextKind) → line ≡ word ∷ rest → number_in 0 most word ≡ Ok v →
    length vs < room → new ≡ vs ++ v ∷ [] →
    all ≡ then_all vs (values_of (room - length vs) line) →
    (length new ≤ room) × (all ≡ then_all new (values_of (room - length new) rest))
values_more room line rest word v vs new all lines e few items so_far =
    let len : length new ≡ length vs + 1 = ap length items ∙ length_push vs v in
    let left : room - length vs - 1 ≡ room - length new = omega arith in (
      omega arith,
      so_far ∙ ap (λ l. then_all vs (values_of (room - length vs) l)) lines
          ∙ ap (then_all vs) (one_word (room - length vs) word rest v e (omega arith))
          ∙ put_first vs v (values_of (room - length vs - 1) rest)
          ∙ ap₂ (λ new n. then_all new (values_of n rest)) (sym items) left,
    )
