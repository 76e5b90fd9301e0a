-- What is learned of a processor: what is known of it after its turn, and by its own words.
use Rattle.std.specs.Prelude.{ℕ, if◌then◌else◌, List, [], ◌∷◌, None, ◌-◌, ◌*◌, max, map}
use Rattle.pram_job.specs.Job.{JobData}
use Rattle.pram_machine.specs.declared.requests.Request.{Request}
use Rattle.pram_words.specs.declared.phases.Kind.TheVariants.{Compute, Verify}
use Rattle.pram_words.specs.Phases.{phase_of}
use Rattle.pram_words.specs.Stamps.{stamp_of, payload_of}
use Rattle.walk_memory.specs.declared.memo.Memo.{Memo}
use Rattle.walk_memory.specs.declared.memo.Own.{Own}
use Rattle.walk_memory.specs.Memory.{has_store, own_after, own_alone, settles_in}
use Rattle.walk_memory.specs.OwnWrites.{cell_write}

-- in the first pass, after this request
abbrev pub memo_after : JobData → ℕ → ℕ → Memo → Request → Memo
memo_after job t i known request = record {
  acted = phase_of t Compute;
  step = t;
  own = own_after job i known.own request;
  settled = if settles_in job t known.settled known.own then t else known.settled;
  told = if settles_in job t known.settled known.own
      then own_after job i known.own request else known.told;
  store = cell_write job request.put;
}

-- in the second pass, after a store that was remembered
abbrev pub carried : ℕ → Memo → Memo
carried t memo =
    if has_store t memo then record memo { acted = phase_of t Verify; store = None } else memo

-- what its words tell, its counter's first, and the step after which it was so
abbrev pub learned_own : List ℕ → Own
learned_own [] = record { counter = 0; registers = [] }
learned_own (word ∷ words) = record { counter = payload_of word; registers = map payload_of words }

abbrev pub newest_of : List ℕ → ℕ
newest_of [] = 0
newest_of (word ∷ words) = max (stamp_of word) (newest_of words)

-- what is then known of it before step t: it went on alone since
abbrev pub loaded_memo : JobData → ℕ → ℕ → List ℕ → Memo
loaded_memo job t i words = record {
  acted = 3 * (t - 1);
  step = t - 1;
  own = own_alone job i (t - 1 - newest_of words) (learned_own words);
  settled = newest_of words;
  told = learned_own words;
  store = None;
}
