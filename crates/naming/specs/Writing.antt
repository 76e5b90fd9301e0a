-- What a call wrote.
use Rattle.std.specs.Prelude.{◌≡◌, ℕ, Bool, List, Option}
use Rattle.pram_streams.specs.declared.device.Sink as a_sink

-- What a call did with its output, and that nothing was written.
pub record Writing : Type 1 where
  pub out : Option (List ℕ)
  pub out' : Option (List ℕ)
  pub failed : Bool
  pub Unwritten : Type 0

abbrev pub writing : {O : Type 0} → a_sink.Ghosts O → (before after : O) → Writing
writing of_out before after = record {
  out = of_out.taken before;
  out' = of_out.taken after;
  failed = of_out.has_failed after;
  Unwritten = after ≡ before;
}
