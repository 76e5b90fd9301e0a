-- The request that its three words stand for.
use Rattle.std.specs.Prelude.{◌≡◌, ℕ, ◌-◌, ◌^◌, ◌<◌, ◌==◌, if◌then◌else◌, Some, None}
use Rattle.pram_machine.specs.declared.requests.Request.{Request}
use Rattle.pram_machine.specs.Instructions.{place_part, value_part}
use Rattle.pram_words.specs.Stamps.{stamped_word, payload_of}

abbrev pub heard_request : ℕ → ℕ → ℕ → Request
heard_request place value next =
    record {
      put =
          if payload_of place == 0 then None else Some (payload_of place - 1, payload_of value);
      next =
          payload_of next;
    }

-- the words of a request of step t, whose parts fit
pub record AreWordsOf (t : ℕ) (request : Request) (place value next : ℕ) : Type 0 where
  pub fits : (place_part request < 2 ^ 32) × (value_part request < 2 ^ 32) × (request.next < 2 ^ 32)
  pub first : place ≡ stamped_word t (place_part request)
  pub second : value ≡ stamped_word t (value_part request)
  pub third : next ≡ stamped_word t request.next
