-- A load of a processor whose step is known is played, whatever its words tell.
use Rattle.std.proofs.Common.{◌≡◌, ℕ, ◌-◌, None, Some, Result, Ok, Err, refl, ap, arith}
use Rattle.std.proofs.Common.{◌∙◌}
use Rattle.std.proofs.lemmas.Bool.{eq-eqb, le-ltb}
use Rattle.pram_job.specs.declared.instr.Instr.{Instr}
use Rattle.pram_job.specs.declared.instr.Instr.TheVariants.{Ld}
use Rattle.pram_machine.specs.Instructions.{gives}
use Rattle.pram_machine.specs.Machine.{register_place}
use Rattle.pram_words.specs.declared.phases.Kind.{Kind}
use Rattle.walk_memory.specs.declared.memo.Memo.{Memo}
use Rattle.walk_memory.specs.Inner.Posts.{PostData, processor_of, step_of}
use Rattle.walk_memory.specs.Lagging.{load_landed, load_taken}
use Rattle.walk_memory.specs.Memory.{at_start, own_after}
use Rattle.walk_memory.specs.Stands.{LoadsKnown}
use Rattle.walkx.specs.declared.left.Left.{Left}
use Rattle.walkx.specs.Driving.{IsNextPart, Plays, Standing, learns}
use Rattle.walkx.specs.Parts.{does_wide, reads}
use Rattle.walkx.specs.Passing.{idle, idle_in}
use Rattle.walkx.specs.WideParts.{does_own_by, learned, own_landed}
use Rattle.walkx.proofs.FirstPass.{made_with, reads_first}
use Rattle.walkx.proofs.Landing.{load_lands, load_learned}
use Rattle.walkx.proofs.Resting.{not_past, reads_ask}
use Rattle.walkx.proofs.Settling.{learned_comes}
use Rattle.walkx.proofs.TakingUp.{own_next, own_plays}
use Rattle.walkx.proofs.Turning.{comes_to}

module _ {D : Type 0} (stands : Standing D) (at : PostData) (memo : Memo) (r cell : ℕ)
    (p : LoadsKnown at memo r cell) (old : D) where
  abbrev instr : Instr
  instr = Ld r p.place

  pub asks_cell : idle at memo ≡ None
  asks_cell = ap (λ (k : Kind). idle_in k at memo) p.stands.first
      ∙ reads_ask at memo instr cell (not_past memo (step_of at) p.stands.before)
      (eq-eqb _ _ p.stands.before) p.stands.code p.reads

  begins : IsNextPart stands old (does_wide at memo) →
      IsNextPart stands old (does_own_by at memo (Some instr))
  begins = own_next at memo instr p.stands.first p.stands.before p.stands.code stands old

  plays_wide : (new : D) (result : Result Memo Left) →
      Plays stands old (does_own_by at memo (Some instr)) new result →
      Plays stands old (does_wide at memo) new result
  plays_wide = own_plays at memo instr p.stands.first p.stands.before p.stands.code stands old

  -- its cell is read first
  pub reads_cell : IsNextPart stands old (does_wide at memo) → IsNextPart stands old (reads at cell)
  reads_cell is =
      let n = begins is in
      record {
        from = n.from;
        after = n.next at_start;
        next = made_with stands at memo instr n.from n.next;
        here = reads_first stands at memo instr n.from n.next old cell p.reads n.after n.here;
      }

  module _ (mid : D) where
    -- the worker was late, or is held
    pub load_left : (why : Left) → Plays stands old (reads at cell) mid (Err why) →
        Plays stands old (does_wide at memo) mid (learns (Err why) at_start)
    load_left why plays =
        plays_wide mid _ (record {
          on = λ from late next here. comes_to stands from _ _ _
              (learned_comes (Err why) at_start late next)
              (plays.on from (next at_start) (made_with stands at memo instr from next)
              (reads_first stands at memo instr from next old cell p.reads late here));
        })

    -- else those of its words are written that no longer tell what it is
    module _ (value : ℕ) (plays : Plays stands old (reads at cell) mid (Ok value)) where
      abbrev taken : Memo
      taken = load_taken memo r value

      abbrev known : Memo
      known = learned at memo (gives at.job (processor_of at) memo.own.counter r value)

      own : taken.own ≡ own_after at.job (processor_of at) memo.own
          (gives at.job (processor_of at) memo.own.counter r value)
      own =
          let e : register_place at.job (processor_of at) r
          - register_place at.job (processor_of at) 0 ≡ r = omega arith in
          rw (le-ltb (register_place at.job (processor_of at) r) at.job.cells (omega arith), e) refl

      pub writes_own : IsNextPart stands old (does_wide at memo) →
          IsNextPart stands mid (own_landed at (load_taken memo r value) (Some r))
      writes_own is =
          let n = begins is in
          record {
            from = n.from;
            after = n.after;
            next = λ done. n.next known;
            here = load_lands at memo taken r value own instr p.place cell refl p.stands.code
                p.reads stands n.from mid n.after n.next refl
                (plays.on n.from (n.next at_start) (made_with stands at memo instr n.from n.next)
                (reads_first stands at memo instr n.from n.next old cell p.reads n.after n.here));
          }

      pub load_played : (new : D) (done : Result (Unit {0}) Left) →
          Plays stands mid (own_landed at (load_taken memo r value) (Some r)) new done →
          Plays stands old (does_wide at memo) new (learns done (load_landed at memo r value))
      load_played new done writing =
          rw (load_learned at memo taken r value own instr p.place cell refl p.stands.code p.reads
          p.stands.first)
          (plays_wide new _ (record {
            on = λ from late next here. comes_to stands from _ _ _
                (learned_comes done known late next)
                (writing.on from (next known) (λ d. next known)
                (load_lands at memo taken r value own instr p.place cell refl p.stands.code p.reads
                stands from mid (next known) next refl
                (plays.on from (next at_start) (made_with stands at memo instr from next)
                (reads_first stands at memo instr from next old cell p.reads late here))));
          }))
