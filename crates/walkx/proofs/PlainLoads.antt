-- A plain load is played.
use Rattle.std.proofs.Common.{◌≡◌, ℕ, ◌<◌, Result, Ok, refl, sym, ap, ◌∙◌}
use Rattle.pram_job.specs.declared.instr.Instr.{Instr}
use Rattle.pram_job.specs.declared.instr.Instr.TheVariants.{Ld}
use Rattle.pram_machine.specs.Instructions.{gives}
use Rattle.pram_machine.specs.Machine.{register_place}
use Rattle.walk_memory.specs.declared.memo.Memo.{Memo}
use Rattle.walk_memory.specs.Inner.Posts.{PostData, processor_of}
use Rattle.walk_memory.specs.Memory.{at_start}
use Rattle.walk_memory.specs.Plain.{LoadsPlainly, loaded}
use Rattle.walk_memory.specs.Stands.{LoadsKnown}
use Rattle.walkx.specs.declared.left.Left.{Left}
use Rattle.walkx.specs.Driving.{IsNextPart, Plays, Standing, learns}
use Rattle.walkx.specs.Parts.{does_wide, reads, writes}
use Rattle.walkx.specs.WideParts.{learned}
use Rattle.walkx.proofs.FirstPass.{made_with, reads_first}
use Rattle.walkx.proofs.Landing.{load_lands, load_learned}
use Rattle.walkx.proofs.Plainly.{loaded_landed, loaded_own, plainly_lands, taken}
use Rattle.walkx.proofs.Settling.{learned_comes}
use Rattle.walkx.proofs.TakingUp.{own_next, own_plays}
use Rattle.walkx.proofs.Turning.{comes_to, moved}

-- it is a load of a processor whose step is known
pub plain_known : (at : PostData) (memo : Memo) (r cell : ℕ) → LoadsPlainly at memo r cell →
    LoadsKnown at memo r cell
plain_known at memo r cell p = record {
  place = p.place;
  stands = record { first = p.first; before = p.before; code = p.code };
  reads = p.reads;
  below = p.below;
}

module _ {D : Type 0} (stands : Standing D) (at : PostData) (memo : Memo) (r cell : ℕ)
    (p : LoadsPlainly at memo r cell) (old : D) where
  abbrev instr : Instr
  instr = Ld r p.place

  module _ (mid : D) where
    -- once its cell was read its register is written
    module _ (value : ℕ) (plays : Plays stands old (reads at cell) mid (Ok value)) (four : r < 4)
        (place : ℕ) (is : place ≡ register_place at.job (processor_of at) r) where
      abbrev known : Memo
      known = learned at memo (gives at.job (processor_of at) memo.own.counter r value)

      pub writes_register : IsNextPart stands old (does_wide at memo) →
          IsNextPart stands mid (writes at place value)
      writes_register next_is =
          let n = own_next at memo instr p.first p.before p.code stands old next_is in
          record {
            from = n.from;
            after = n.after;
            next = λ done. n.next known;
            here = moved stands n.from _ _ _
                (plainly_lands at memo r cell p value n.after (n.next known) four
                ∙ ap (λ (q : ℕ). writes at q value n.after (λ done. n.next known)) (sym is))
                (load_lands at memo (taken at memo r cell p value) r value
                (loaded_own at memo r cell p value) instr p.place cell refl p.code p.reads stands
                n.from mid n.after n.next refl
                (plays.on n.from (n.next at_start) (made_with stands at memo instr n.from n.next)
                (reads_first stands at memo instr n.from n.next old cell p.reads n.after n.here)));
          }

      pub load_played : (new : D) (done : Result (Unit {0}) Left) →
          Plays stands mid (writes at place value) new done →
          Plays stands old (does_wide at memo) new (learns done (loaded at memo r value))
      load_played new done writing =
          let own = loaded_own at memo r cell p value in
          let t = taken at memo r cell p value in
          rw (loaded_landed at memo r cell p value
          ∙ load_learned at memo t r value own instr p.place cell refl p.code p.reads p.first)
          (own_plays at memo instr p.first p.before p.code stands old new _ (record {
            on = λ from late next here. comes_to stands from _ _ _
                (learned_comes done known late next)
                (writing.on from (next known) (λ d. next known)
                (moved stands from _ _ _
                (plainly_lands at memo r cell p value (next known) (next known) four
                ∙ ap (λ (q : ℕ). writes at q value (next known) (λ d. next known)) (sym is))
                (load_lands at memo t r value own instr p.place cell refl p.code p.reads stands from
                mid (next known) next refl
                (plays.on from (next at_start) (made_with stands at memo instr from next)
                (reads_first stands at memo instr from next old cell p.reads late here)))));
          }))
