-- The first pass of a processor, where its lane lies.
use Rattle.std.proofs.Common.{◌≡◌, ◌≢◌, ℕ, zero, suc, ◌+◌, ◌-◌, ◌/◌, ◌%◌, ◌<◌, ◌≤◌, true, false}
use Rattle.std.proofs.Common.{◌∷◌, Err, List, length, slice_get, slice_index, Option, Some, None}
use Rattle.std.proofs.Common.{Result, Ok}
use Rattle.std.proofs.Common.{refl, sym, ap, subst, ◌∙◌, arith}
use Rattle.std.specs.Prelude.{OnOk, drop, slice_set}
use Rattle.std.proofs.Math.ListN.{length-set}
use Rattle.std.proofs.lemmas.Bool.{le-ltb}
use Rattle.std.proofs.lemmas.List.{get_or-set_other}
use Rattle.pram_machine.specs.declared.requests.Request.{Request}
use Rattle.pram_machine.specs.Instructions.{gives}
use Rattle.pram_machine.specs.Machine.{register_place}
use Rattle.pram_words.specs.Phases.{kind_at}
use Rattle.pram_words.specs.declared.phases.Kind.TheVariants.{Compute}
use Rattle.walk_memory.specs.declared.block.Block.{Block}
use Rattle.walkx.specs.declared.land_at.Landing.{Landing}
use Rattle.walkx.specs.declared.left.Left.{Left}
use Rattle.walkx.specs.declared.left.Left.TheVariants.{Late, Held}
use Rattle.walk_memory.specs.declared.memo.Memo.{Memo}
use Rattle.walkx.specs.Driving.{IsNextPart, Plays, Standing, comes, learns, settled_or_late}
use Rattle.walk_memory.specs.Inner.Posts.{PostData, processor_of, step_of}
use Rattle.walk_memory.specs.Lanes.{lane, lane_in, memos_of}
use Rattle.walk_memory.specs.Memory.{all_registers, is_past, memo_of, settles_in}
use Rattle.walkx.specs.Passing.{Passes, TakesUp, idle}
use Rattle.walkx.specs.Places.{DoneInLane, LandedTo, tells_all, tells_counter, tells_register}
use Rattle.walkx.specs.Places.{told_registers, told_to}
use Rattle.walk_memory.specs.Turned.{turned}
use Rattle.walkx.specs.Scripts.{Script}
use Rattle.walkx.specs.Walk.{Then}
use Rattle.walkx.specs.WideParts.{counter_landed, landed_from, learned, own_landed, own_written}
use Rattle.walkx.specs.WideParts.{register_landed}
use Rattle.walk_memory.proofs.Lanes.{four_set, memo_of_all, set_all}
use Rattle.walk_memory.proofs.Memories.{memo_again}
use Rattle.walkx.proofs.OwnKnown.{past_does}
use Rattle.walkx.proofs.Silent.{where_past}
use Rattle.walkx.proofs.TakingUp.{takes_up}
use Rattle.walk_memory.proofs.Timing.{compute_is}
use Rattle.walkx.proofs.Turning.{moved}
use Rattle.walkx.proofs.WidePasses.{own_is, same_wide_kind}

-- ---- what is known once a turn is taken

module _ (at : PostData) (memo : Memo) (request : Request)
    (first : kind_at at.phase ≡ Compute) where
  pub turned_quiet : settles_in at.job (step_of at) memo.settled memo.own ≡ false →
      turned at memo request ≡ learned at memo request
  turned_quiet lags = ap (λ (q : ℕ). record (turned at memo request) { acted = q })
      (compute_is at.phase first) ∙ rw lags refl

  pub turned_settled : settles_in at.job (step_of at) memo.settled memo.own ≡ true →
      tells_all (turned at memo request) ≡ learned at memo request
  turned_settled settles = ap (λ (q : ℕ). record (tells_all (turned at memo request)) { acted = q })
      (compute_is at.phase first) ∙ rw settles refl

-- a load
pub turned_load : (at : PostData) (memo : Memo) (r value : ℕ) →
    record {
      acted = at.phase;
      step = step_of at;
      own = record {
        counter = memo.own.counter + 1;
        registers = slice_set memo.own.registers r value;
      };
      settled = memo.settled;
      told = memo.told;
      store = None;
    } ≡ turned at memo (gives at.job (processor_of at) memo.own.counter r value)
turned_load at memo r value =
    let e : register_place at.job (processor_of at) r
    - register_place at.job (processor_of at) 0 ≡ r = omega arith in
    rw (le-ltb (register_place at.job (processor_of at) r) at.job.cells (omega arith), e) refl

-- ---- its words tell what it is, one register after another

told_later : (own told : List ℕ) (r s : ℕ) → r ≤ s →
    slice_index (told_registers own told r) s ≡ slice_index told s
told_later own told zero s later = refl
told_later own told (suc r) s later =
    get_or-set_other (told_registers own told r) r s (slice_index own r) 0
    (λ e. absurd (omega (arith, e, later)))
    ∙ told_later own told r s (omega (arith, later))

length_told : (own told : List ℕ) (r : ℕ) → length (told_registers own told r) ≡ length told
length_told own told zero = refl
length_told own told (suc r) = length-set (told_registers own told r) r (slice_index own r)
    ∙ length_told own told r

pub landed_same : (at : PostData) (memo : Memo) (tells : Option ℕ) (r : ℕ) (late : Script Then)
    (next : Unit {0} → Script Then) →
    register_landed at (told_to memo r) tells r late next ≡ register_landed at memo
    tells r late next
landed_same at memo tells r late next =
    rw (told_later memo.own.registers memo.told.registers r r (omega arith)) refl

-- ---- what is then known, late or not

pub on_ok : {P : Type 0} (r : Result (Unit {0}) Left) → P → OnOk r P
on_ok (Ok done) p = p
on_ok (Err why) p = tt

pub ok_learns : (r : Result (Unit {0}) Left) (now taken known : Memo) → OnOk r (now ≡ taken) →
    taken ≡ known → (late : Script Then) (next : Memo → Script Then) →
    comes (next now) (λ done. next known) r ≡ comes late next (learns r now)
ok_learns (Ok done) now taken known told is late next = ap (λ (m : Memo). Some (next m))
    (sym (told ∙ is))
ok_learns (Err Late) now taken known told is late next = refl
ok_learns (Err Held) now taken known told is late next = refl

-- ---- in a memory of blocks

module _ (items : List Block) (memory : List Memo) (at : PostData) (i : ℕ) (block : Block)
    (view : memos_of items ≡ memory) (here : i ≡ processor_of at)
    (there : slice_get items (i / 64) ≡ Some block) where
  pub lane_is : memo_of memory (processor_of at) ≡ lane block (i % 64)
  lane_is = ap (λ (j : ℕ). memo_of memory j) (sym here) ∙ ap (λ (m : List Memo). memo_of m i)
      (sym view)
      ∙ memo_of_all items i ∙ ap (λ (o : Option Block). lane_in o (i % 64)) there

  pub takes_in_lane : {D : Type 0} (stands : Standing D) (old new : D) (now : Block)
      (done : Result (Unit {0}) Left) → i / 64 < length items →
      Passes (idle at (lane block (i % 64))) old new (lane now (i % 64)) →
      DoneInLane stands at old block (i % 64) new now done →
      TakesUp stands at old memory new (memos_of (slice_set items (i / 64) now))
      (settled_or_late done)
  takes_in_lane stands old new now done low idle is =
      let known = lane now (i % 64) in
      let kept : memos_of (slice_set items (i / 64) now) ≡ slice_set memory
      (processor_of at) known =
      set_all items i (i / 64) (i % 64) block now known refl refl low there refl is.others
      ∙ ap (λ (m : List Memo). slice_set m i known) view
      ∙ ap (λ (j : ℕ). slice_set memory j known) here in
      takes_up stands at old new memory _ (lane block (i % 64)) known done (sym lane_is)
      kept idle is.plays

-- a processor that is past its first pass
pub first_past : {D : Type 0} (stands : Standing D) (at : PostData) (old : D) (memory : List Memo)
    (memo : Memo) → memo ≡ memo_of memory (processor_of at) → kind_at at.phase ≡ Compute →
    is_past at.phase memo ≡ true → TakesUp stands at old memory old memory (Ok tt)
first_past stands at old memory memo is first past = takes_up stands at old old memory
    memory memo memo
    (Ok tt) is (sym (memo_again memory (processor_of at)) ∙ ap (slice_set memory (processor_of at))
    (sym is)) (rw first (where_past at memo old old memo first past refl refl))
    (record {
      on = λ from late next here. subst (λ (s : Script Then). stands from old (Some s))
          (same_wide_kind at memo late next _ _ first ∙ own_is at memo late next first
          ∙ past_does at memo late next past) here;
    })

-- ---- what is to be written is, one register after another

left_registers : (r : ℕ) → r < 4 → drop r all_registers ≡ r ∷ drop (suc r) all_registers
left_registers zero low = refl
left_registers (suc zero) low = refl
left_registers (suc (suc zero)) low = refl
left_registers (suc (suc (suc zero))) low = refl
left_registers (suc (suc (suc (suc r)))) low = absurd (omega (arith, low))

module _ {D : Type 0} (stands : Standing D) (at : PostData) (old : D) (block : Block)
    (landing : Landing) (r : ℕ) (d : D) (now : Block)
    (is : LandedTo stands at old block landing r d now) where
  abbrev memo : Memo
  memo = lane block landing.lane

  abbrev known : Memo
  known = lane now landing.lane

  abbrev left : Script Then → (Unit {0} → Script Then) → Unit {0} → Script Then
  left late next done = landed_from at memo landing.tells (drop (suc r) all_registers) late next

  on_next : r < 4 → (from : D × Script Then) (late : Script Then) (next : Unit {0} → Script Then) →
      stands from old (Some (own_landed at memo landing.tells late next)) →
      stands from d (Some (register_landed at known landing.tells r late (left late next)))
  on_next low from late next here = moved stands from d _ _
      (ap (λ (rs : List ℕ). landed_from at memo landing.tells rs late next) (left_registers r low)
      ∙ sym (ap (λ (m : Memo). register_landed at m landing.tells r late (left late next)) is.told
      ∙ landed_same at memo landing.tells r late (left late next)))
      (is.on from late next here)

  pub register_next : r < 4 → IsNextPart stands old (own_landed at memo landing.tells) →
      IsNextPart stands d (register_landed at known landing.tells r)
  register_next low n = record {
    from = n.from;
    after = n.after;
    next = left n.after n.next;
    here = on_next low n.from n.after n.next n.here;
  }

  pub register_left : r < 4 → (e : D) (why : Left) →
      Plays stands d (register_landed at known landing.tells r) e (Err why) →
      Plays stands old (own_landed at memo landing.tells) e (Err why)
  register_left low e why plays = record {
    on = λ from late next here. plays.on from late (left late next)
        (on_next low from late next here);
  }

  pub register_done : r < 4 → (e : D) (then : Block) (done : Unit {0}) →
      ((j : ℕ) → j ≢ landing.lane → lane then j ≡ lane now j) →
      lane then landing.lane ≡ tells_register known r →
      length (lane then landing.lane).told.registers ≡ 4 →
      Plays stands d (register_landed at known landing.tells r) e (Ok done) →
      LandedTo stands at old block landing (suc r) e then
  register_done low e then done others told four plays = record {
    others = λ j other. others j other ∙ is.others j other;
    told = same;
    four = λ some. sym (length_told memo.own.registers memo.told.registers (suc r))
        ∙ sym (ap (λ (m : Memo). length m.told.registers) same) ∙ four;
    on = λ from late next here. plays.on from late (left late next)
        (on_next low from late next here);
  }
    where
      same : lane then landing.lane ≡ told_to memo (suc r)
      same = told ∙ ap (λ (m : Memo). tells_register m r) is.told

  on_last : r ≡ 4 → (from : D × Script Then) (late : Script Then) (next : Unit {0} → Script Then) →
      stands from old (Some (own_landed at memo landing.tells late next)) →
      stands from d (Some (counter_landed at known landing.tells late next))
  on_last four from late next here = moved stands from d _ _
      (ap (λ (n : ℕ). landed_from at memo landing.tells (drop n all_registers) late next) four
      ∙ sym (ap (λ (m : Memo). counter_landed at m landing.tells late next) is.told))
      (is.on from late next here)

  pub counter_next : r ≡ 4 → IsNextPart stands old (own_landed at memo landing.tells) →
      IsNextPart stands d (counter_landed at known landing.tells)
  counter_next four n = record {
    from = n.from;
    after = n.after;
    next = n.next;
    here = on_last four n.from n.after n.next n.here;
  }

  pub counter_plays : r ≡ 4 → (e : D) (result : Result (Unit {0}) Left) →
      Plays stands d (counter_landed at known landing.tells) e result →
      Plays stands old (own_landed at memo landing.tells) e result
  counter_plays four e result plays = record {
    on = λ from late next here. plays.on from late next (on_last four from late next here);
  }

  pub counter_tells : r ≡ 4 → (then : Memo) → length memo.own.registers ≡ 4 →
      then ≡ tells_counter known → then ≡ tells_all memo
  counter_tells four then lo told = told ∙ ap tells_counter (is.told ∙ ap (told_to memo) four)
      ∙ ap (λ (rs : List ℕ). record memo {
        settled = memo.step;
        told = record { counter = memo.own.counter; registers = rs };
      }) (four_set memo.told.registers memo.own.registers (is.four (omega (arith, four))) lo)

-- ---- where it does not settle, nothing is written

pub lags_written : (at : PostData) (memo : Memo) (request : Request) (after : Script Then)
    (next : Unit {0} → Script Then) → settles_in at.job (step_of at) memo.settled memo.own ≡ false →
    own_written at memo request after next ≡ next tt
lags_written at memo request after next lags = rw lags refl
