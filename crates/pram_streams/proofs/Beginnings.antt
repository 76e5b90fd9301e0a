-- Beginnings of what is put into a sink, one put after the other.
use Rattle.std.proofs.Common.{◌≡◌, ◌≤◌, ◌∙◌, ◌++◌, ℕ, List, Option, min}
use Rattle.std.proofs.Common.{length, take, sym, ap, arith, length-append}
use Rattle.std.proofs.lemmas.List.{length-take, take-append-le}
use Rattle.std.proofs.Math.Seq.{take-append-add}
use Rattle.std.proofs.KnownBytes.{Appends-trans}
use Rattle.std.specs.Io.{StartsWith}
use Rattle.std.specs.Io.KnownBytes.{Appends}
use Rattle.pram_streams.specs.Transfer.{AppendsBeginning}

-- a beginning of a text is one of a longer text
pub StartsWith-longer : (bytes front more : List ℕ) → StartsWith bytes front →
    StartsWith (bytes ++ more) front
StartsWith-longer bytes front more starts =
    let size : min (length front) (length bytes) ≡ length front =
    sym (length-take (length front) bytes) ∙ ap (λ l. length l) starts in
    take-append-le (length front) bytes more (omega (arith, size)) ∙ starts

-- a text, and then a beginning of the next
pub StartsWith-after : (bytes next front : List ℕ) → StartsWith next front →
    StartsWith (bytes ++ next) (bytes ++ front)
StartsWith-after bytes next front starts =
    ap (λ n. take n (bytes ++ next)) (length-append bytes front)
    ∙ take-append-add bytes next (length front) ∙ ap (λ l. bytes ++ l) starts

pub beginning-longer : (a b : Option (List ℕ)) (bytes more : List ℕ) → AppendsBeginning a b bytes →
    AppendsBeginning a b (bytes ++ more)
beginning-longer a b bytes more (front, starts, put) =
    (front, StartsWith-longer bytes front more starts, put)

pub beginning-after : (a b c : Option (List ℕ)) (bytes next : List ℕ) → Appends a b bytes →
    AppendsBeginning b c next → AppendsBeginning a c (bytes ++ next)
beginning-after a b c bytes next put (front, starts, rest) = (
  bytes ++ front,
  StartsWith-after bytes next front starts,
  Appends-trans a b c bytes front put rest,
)
