-- A worker whose script is played back.
use Rattle.std.proofs.Common.{◌≡◌, ℕ, suc, ◌*◌, ◌<◌, ◌≤◌, List, ◌∷◌, length, Option, Some, None}
use Rattle.std.proofs.Common.{Result, Ok, Err, refl, sym, ap, subst, ◌∙◌, arith}
use lib.ListN.{take}
use Rattle.pram_job.specs.Job.{JobData}
use Rattle.pram_words.specs.Words.{LayoutData, grain}
use Rattle.walkx.specs.declared.next.Next.{Next}
use Rattle.walkx.specs.declared.next.Next.TheVariants as next
use Rattle.walkx.specs.declared.operation.Activity.{Activity}
use Rattle.walkx.specs.declared.operation.Activity.TheVariants as activity
use Rattle.walkx.specs.declared.operation.Ended.{Ended}
use Rattle.walkx.specs.declared.operation.Op.{Op}
use Rattle.walk_memory.specs.declared.memo.Memo.{Memo}
use Rattle.walkx.specs.Doing.{Doing}
use Rattle.walkx.specs.Doing as doing
use Rattle.walk_memory.specs.Inner.Posts.{PostData, post_data}
use Rattle.walkx.specs.Inner.Heard.{newest}
use Rattle.walkx.specs.Inner.Workers.{WorkerData, doing_in, worker_data}
use Rattle.walkx.specs.Playing.{GoesOn, IsBlockPlace, IsPlayable, ScriptComesTo, op_after}
use Rattle.walkx.specs.Playing.{come_to, hearing, phase_of_doing, stand_of}
use Rattle.walkx.specs.Serving.{IsHeldAt, Serves}
use Rattle.walkx.specs.Activities.{activity_of}
use Rattle.walk_memory.specs.Memory.{FitsMemory, IsTrueMemory, blank}
use Rattle.walk_memory.proofs.Memories.{all_start}
use Rattle.walk_memory.proofs.OwnFits.{start_fits}
use Rattle.walkx.specs.Records.{Record, Knows}
use Rattle.walkx.specs.Turns.{beginning}
use Rattle.walkx.specs.Rests.{IsWithin, script_in, then_of}
use Rattle.walkx.specs.Scripts.{Script, asks, ends, rest_after, rest, first_op, heard_in}
use Rattle.walkx.specs.Walk.{Then, Walking, Fits, AllAdmitted, HearsAdmitted, IsGoing, IsPhase}
use Rattle.walkx.specs.Walk.{ask_of, end_of, begin_script, goes_on, heard_of, node_of, phase_begun}
use Rattle.walkx.specs.Walk.{remembering, rest_of, script_of, told, started, come_back}
use Rattle.walk_memory.specs.Blocks.{IsBoard}
use Rattle.walkx.proofs.Asking.{all_left}
use Rattle.walk_memory.proofs.Beginnings.{start_true}
use Rattle.walkx.proofs.Ends.{AllEnds, Brings, worker_ends}
use Rattle.walkx.proofs.Fitting.{Within, enters_fits, fits_told, heard_more, new_workers_fit}
use Rattle.walkx.proofs.Fitting.{worked_fits}
use Rattle.walkx.proofs.Nodes.{node_range}
use Rattle.walkx.proofs.Heard.{newest_all}
use Rattle.walkx.proofs.Going.{asks_of, next_of, told_going, told_over}
use Rattle.walkx.proofs.Short.{few_heard, script_short}

-- ---- the script by the fields of the code

pub script_is : (job : JobData) (y : LayoutData)
    (number : ℕ) (n : Option ℕ) (now : Activity) (held_op : Option Op) (heard : List ℕ)
    (memory : List Memo) →
    script_of job y (worker_data number n now held_op heard memory).walking
    ≡ script_in (stand_of job y (worker_data number n now held_op heard memory).walking) now memory
script_is job y number n activity.Back held_op heard memory = refl
script_is job y number n activity.Begin held_op heard memory = refl
script_is job y number n (activity.Turn q) held_op heard memory = refl
script_is job y number n (activity.Part q rank) held_op heard memory = refl
script_is job y number n (activity.Over e) held_op heard memory = refl

-- ---- a worker that fits

phase_small : (job : JobData) (y : LayoutData) (d : Doing) → IsPhase job y d →
    phase_of_doing d ≤ 3 * job.steps
phase_small job y doing.Back h = omega arith
phase_small job y doing.Begin h = omega arith
phase_small job y (doing.Turn q) h = h.1
phase_small job y (doing.Part q rank) h = h.1
phase_small job y (doing.Over e) h = omega arith

pub playable : (job : JobData) (y : LayoutData) (w : Walking) → IsBoard job y →
    Fits job y w → IsPlayable job y w
playable job y w board fits = record {
  number = fits.number;
  node = node_range job y w board.layout.leaves.0 fits;
  phase = phase_small job y w.now fits.phase;
  block = fits.block;
  memory = fits.memory;
  admitted = all_left job y _ (phase_begun y w.now) fits.admitted;
}

pub playable_more : (job : JobData) (y : LayoutData) (w : Walking) (found : ℕ) →
    IsBoard job y → Fits job y w → IsGoing w.now → HearsAdmitted job y (ask_of job y w) found →
    IsPlayable job y (hearing w found)
playable_more job y w found board fits going admitted =
    let all : AllAdmitted job y (heard_of job y (hearing w found)) = subst (AllAdmitted job y)
    (sym (heard_more job y w found going fits.matches)) (admitted, fits.admitted) in
    record {
      number = fits.number;
      node = node_range job y w board.layout.leaves.0 fits;
      phase = phase_small job y w.now fits.phase;
      block = fits.block;
      memory = fits.memory;
      admitted = all_left job y _ (phase_begun y w.now) all;
    }

pub room : (job : JobData) (y : LayoutData) (w : Walking) → Fits job y w →
    IsGoing w.now → length w.heard < 28
room job y w fits going =
    let a = asks_of w.now (rest_of job y w) going fits.matches in
    few_heard (script_of job y w) 28 w.heard a.op
    (script_short job y w.number (node_of y w) w.memory w.now) a.first

pub is_going : (d : Doing) → end_of d ≡ None → IsGoing d
is_going doing.Back none = tt
is_going doing.Begin none = tt
is_going (doing.Turn q) none = tt
is_going (doing.Part q rank) none = tt
is_going (doing.Over e) none = absurd (cc)

-- its post fits what it is doing
pub within_at : (job : JobData) (y : LayoutData) (number : ℕ) (n : Option ℕ) (now : Activity)
    (held_op : Option Op) (heard : List ℕ) (memory : List Memo) →
    IsPlayable job y (worker_data number n now held_op heard memory).walking →
    IsWithin (stand_of job y (worker_data number n now held_op heard memory).walking) now
within_at job y number n activity.Back held_op heard memory p = tt
within_at job y number n activity.Begin held_op heard memory p = tt
within_at job y number n (activity.Turn q) held_op heard memory p = (refl, p.phase)
within_at job y number n (activity.Part q rank) held_op heard memory p =
    record { leaf = p.block.0; rank = p.block.1; wide = p.block.2; phase = p.phase }
within_at job y number n (activity.Over e) held_op heard memory p = tt

-- ---- what comes of an answer

goes_on_asks : (job : JobData) (y : LayoutData) (w : Walking) (found : ℕ) (s : Script Then)
    (op : Op) → first_op s ≡ Some op → goes_on job y w found s ≡ hearing w found
goes_on_asks job y w found (asks o next) op is = refl
goes_on_asks job y w found (ends then) op is = absurd (cc)

goes_on_ends : (job : JobData) (y : LayoutData) (w : Walking) (found : ℕ) (n : Next) →
    goes_on job y w found (ends (then_of n)) ≡ come_to job y (hearing w found) n
goes_on_ends job y w found (next.Begins n) = refl
goes_on_ends job y w found (next.Turns n q) = refl
goes_on_ends job y w found (next.Enters n q) = refl
goes_on_ends job y w found (next.Worked n q rank memo) = refl
goes_on_ends job y w found (next.Stops e) = refl

pub told_ends : (job : JobData) (y : LayoutData) (w : Walking) (found : ℕ) (n : Next) →
    IsGoing w.now → rest_of job y (hearing w found) ≡ ends (then_of n) →
    told job y w found ≡ come_to job y (hearing w found) n
told_ends job y w found n going is =
    told_going job y w.now w found (rest_after (rest_of job y w) found) going
    ∙ ap (goes_on job y w found) is ∙ goes_on_ends job y w found n

pub told_asks : (job : JobData) (y : LayoutData) (w : Walking) (found : ℕ) (op : Op) →
    IsGoing w.now → first_op (rest_of job y (hearing w found)) ≡ Some op →
    told job y w found ≡ hearing w found
told_asks job y w found op going is = told_going job y w.now w found
    (rest_after (rest_of job y w) found)
    going ∙ goes_on_asks job y w found (rest_after (rest_of job y w) found) op is

some_over : (d : Doing) (e : Ended) → end_of d ≡ Some e → d ≡ doing.Over e
some_over doing.Back e is = absurd (cc)
some_over doing.Begin e is = absurd (cc)
some_over (doing.Turn q) e is = absurd (cc)
some_over (doing.Part q rank) e is = absurd (cc)
some_over (doing.Over f) e is = cc

pub told_ended : (job : JobData) (y : LayoutData) (w : Walking) (found : ℕ) (e : Ended) →
    end_of w.now ≡ Some e → told job y w found ≡ w
told_ended job y w found e is =
    told_over job y w found (rest_after (rest_of job y w) found) w.now e (some_over w.now e is)

pub held_at : (job : JobData) (y : LayoutData) (w : Walking) (op : Op) → IsGoing w.now →
    first_op (rest_of job y w) ≡ Some op → op ≡ ask_of job y w
held_at job y w op going is = sym (next_of w.now (rest_of job y w) op going is)

-- ---- by the fields of the code: k is the worker, at where it stands

module _ (job : JobData) (y : LayoutData) (number : ℕ)
    (node : Option ℕ) (now : Activity) (held_op : Option Op)
    (count : ℕ) (heard : List ℕ) (memory : List Memo) (d : List ℕ) (k : WorkerData)
    (at : PostData) (within : count ≤ length heard) (is : d ≡ take count heard)
    (view : worker_data number node now held_op (newest count heard) memory ≡ k)
    (stands : at ≡ stand_of job y k.walking) where
  same_heard : newest (length d) d ≡ k.walking.heard
  same_heard = subst (λ (xs : List ℕ). newest (length xs) xs ≡ newest count heard) (sym is)
      (newest_all count heard within) ∙ ap (λ (p : WorkerData). p.walking.heard) view

  same_script : script_in at now memory ≡ script_of job y k.walking
  same_script = ap (λ (a : PostData). script_in a now memory)
      (stands ∙ ap (λ (p : WorkerData). stand_of job y p.walking) (sym view))
      ∙ sym (script_is job y number node now held_op (newest count heard) memory)
      ∙ ap (λ (p : WorkerData). script_of job y p.walking) view

  pub admitted_here : IsPlayable job y k.walking →
      AllAdmitted at.job at.layout (heard_in (script_in at now memory) (newest (length d) d))
  admitted_here p =
      let one : AllAdmitted job y (heard_in (script_of job y k.walking) (newest (length d) d)) =
      subst (λ (xs : List ℕ). AllAdmitted job y (heard_in (script_of job y k.walking) xs))
      (sym same_heard) p.admitted in
      let two : AllAdmitted job y (heard_in (script_in at now memory) (newest (length d) d)) =
      subst (λ (s : Script Then). AllAdmitted job y (heard_in s (newest (length d) d)))
      (sym same_script) one in
      let h : List (Op × ℕ) = heard_in (script_in at now memory) (newest (length d) d) in
      let three : AllAdmitted at.job y h =
      subst (λ (j : JobData). AllAdmitted j y h) (sym (ap (λ (a : PostData). a.job) stands)) two in
      subst (λ (l : LayoutData). AllAdmitted at.job l h)
      (sym (ap (λ (a : PostData). a.layout) stands)) three

  pub comes_here : (r : Result Next Op) →
      ScriptComesTo (rest (script_in at now memory) (newest (length d) d)) r →
      ScriptComesTo (rest_of job y k.walking) r
  comes_here r c =
      subst (λ (xs : List ℕ). ScriptComesTo (rest (script_of job y k.walking) xs) r) same_heard
      (subst (λ (s : Script Then). ScriptComesTo (rest s (newest (length d) d)) r) same_script c)

  pub within_here : IsPlayable job y k.walking → IsWithin at now
  within_here p = subst (λ (a : PostData). IsWithin a now) (sym stands)
      (subst (λ (w : WorkerData). IsWithin (stand_of job y w.walking) now) view
      (within_at job y number node now held_op (newest count heard) memory
      (subst (λ (w : WorkerData). IsPlayable job y w.walking) (sym view) p)))

  pub memory_here : IsPlayable job y k.walking → FitsMemory at.job memory
  memory_here p =
      let fits : FitsMemory job memory =
      subst (λ (w : WorkerData). FitsMemory job w.walking.memory) (sym view) p.memory in
      subst (λ (j : JobData). FitsMemory j memory) (sym (ap (λ (a : PostData). a.job) stands)) fits

-- ---- a worker that was told

pub comes_ok : (s : Script Then) (r : Result Next Op) (n : Next) → r ≡ Ok n →
    ScriptComesTo s r → s ≡ ends (then_of n)
comes_ok s r n is c = subst (ScriptComesTo s) is c

pub comes_err : (s : Script Then) (r : Result Next Op) (op : Op) → r ≡ Err op →
    ScriptComesTo s r → first_op s ≡ Some op
comes_err s r op is c = subst (ScriptComesTo s) is c

pub record Heard (job : JobData) (y : LayoutData) (w : Walking) (found : ℕ)
    (new : WorkerData) : Type 0 where
  pub told : new.walking ≡ told job y w found
  pub serves : Serves job y new

held_after : (job : JobData) (y : LayoutData) (w : Walking) (n : Next) →
    IsHeldAt job y (come_to job y w n) (op_after n)
held_after job y w (next.Begins n) = (tt, refl)
held_after job y w (next.Turns n q) = (tt, refl)
held_after job y w (next.Enters n q) = (tt, refl)
held_after job y w (next.Worked n q rank memo) = (tt, refl)
held_after job y w (next.Stops e) = refl

-- where it goes on in a block
pub goes_there : (job : JobData) (y : LayoutData) (w : Walking) (found : ℕ) (n : Next) →
    IsBoard job y → Fits job y w → IsGoing w.now →
    HearsAdmitted job y (ask_of job y w) found →
    rest_of job y (hearing w found) ≡ ends (then_of n) → GoesOn job y w.number n
goes_there job y w found n board fits going admitted is =
    by n (subst (λ (s : Script Then). AllEnds (Brings job y w.number (node_of y w) w.now) s
    (heard_of job y (hearing w found))) is (worker_ends job y (hearing w found) fits.block))
  where
    all : AllAdmitted job y (heard_of job y (hearing w found))
    all = subst (AllAdmitted job y) (sym (heard_more job y w found going fits.matches))
        (admitted, fits.admitted)

    at : (1 ≤ node_of y w) × (node_of y w < 2 * y.leaves)
    at = node_range job y w board.layout.leaves.0 fits

    place : (m q rank : ℕ) → Within job y (node_of y w) m q → rank ≤ grain y →
        IsBlockPlace (post_data job y w.number m q rank)
    place m q rank b most = record {
      post = record { board = board; worker = fits.number; some = b.node.0; most = b.node.1 };
      block = record { leaf = b.leaf; rank = most; wide = b.wide; phase = b.phase.1 };
    }

    by : (next : Next) → Brings job y w.number (node_of y w) w.now (then_of next)
        (heard_of job y (hearing w found)) → GoesOn job y w.number next
    by (next.Begins m) each = tt
    by (next.Turns m q) each = tt
    by (next.Enters m q) each = place m q 0 (enters_fits job y w.number (node_of y w) m q w.now
        (heard_in (script_of job y w) (found ∷ w.heard)) going fits.phase at.0 at.1 each all)
        (omega arith)
    by (next.Worked m q rank memo) each =
        let b = worked_fits job y w.number (node_of y w) m q rank memo w.now
        (heard_in (script_of job y w) (found ∷ w.heard)) going fits.phase fits.block at.0 at.1 each
        all in (
          record {
            board = board;
            first = b.within.leaf;
            rank = b.rank;
            last = b.last;
            phase = b.within.phase.1;
          },
          place m q (suc rank) b.within (let r = b.rank in omega arith),
        )
    by (next.Stops e) each = tt

module _ (job : JobData) (y : LayoutData) (w : Walking) (found : ℕ) (v : Walking)
    (r : Result Next Op) (new : WorkerData) (board : IsBoard job y) (fits : Fits job y w)
    (none : end_of w.now ≡ None) (admitted : HearsAdmitted job y (ask_of job y w) found)
    (is : v ≡ hearing w found) (comes : ScriptComesTo (rest_of job y v) r) where
  going : IsGoing w.now
  going = is_going w.now none

  comes_heard : ScriptComesTo (rest_of job y (hearing w found)) r
  comes_heard = subst (λ (u : Walking). ScriptComesTo (rest_of job y u) r) is comes

  pub heard_ends : (n : Next) → r ≡ Ok n → new.walking ≡ come_to job y v n →
      new.held_op ≡ op_after n → Heard job y w found new
  heard_ends n ok came held_op =
      let t : new.walking ≡ told job y w found =
      came ∙ ap (λ (u : Walking). come_to job y u n) is ∙ sym (told_ends job y w found n going
      (comes_ok (rest_of job y (hearing w found)) r n ok comes_heard)) in
      record {
        told = t;
        serves = record {
          fits = subst (Fits job y) (sym t) (fits_told job y w found board fits admitted);
          held = subst (IsHeldAt job y new.walking) (sym held_op)
              (subst (λ (u : Walking). IsHeldAt job y u (op_after n))
              (sym came) (held_after job y v n));
        };
      }

  pub heard_asks : (op : Op) → r ≡ Err op → new.walking ≡ v →
      new.held_op ≡ Some op → Heard job y w found new
  heard_asks op err same held_op =
      let first : first_op (rest_of job y (hearing w found)) ≡ Some op =
      comes_err (rest_of job y (hearing w found)) r op err comes_heard in
      let now : new.walking ≡ (hearing w found) = same ∙ is in
      let t : new.walking ≡ told job y w found =
      now ∙ sym (told_asks job y w found op going first) in
      record {
        told = t;
        serves = record {
          fits = subst (Fits job y) (sym t) (fits_told job y w found board fits admitted);
          held = subst (IsHeldAt job y new.walking) (sym held_op)
              (subst (λ (u : Walking). op ≡ ask_of job y u) (sym now)
              (held_at job y (hearing w found) op going first));
        };
      }

-- ---- what a worker is held at

-- a worker that is held in the midst of a script
pub asks_held : (job : JobData) (y : LayoutData) (k : WorkerData) (op : Op) → Serves job y k →
    k.held_op ≡ Some op → op ≡ ask_of job y k.walking
asks_held job y k op serves is = subst (IsHeldAt job y k.walking) is serves.held

-- a worker at the start of one
pub asks_first : (job : JobData) (y : LayoutData) (k : WorkerData) (op : Op) → Serves job y k →
    k.held_op ≡ None → first_op (rest_of job y k.walking) ≡ Some op → op ≡ ask_of job y k.walking
asks_first job y k op serves none first =
    let held : IsHeldAt job y k.walking None = subst (IsHeldAt job y k.walking) none serves.held in
    held_at job y k.walking op held.0 first

-- its script has not ended
pub asks_some : (job : JobData) (y : LayoutData) (k : WorkerData) (n : Next) → Serves job y k →
    k.held_op ≡ None → rest_of job y k.walking ≡ ends (then_of n) → ⊥
asks_some job y k n serves none ended =
    let held : IsHeldAt job y k.walking None = subst (IsHeldAt job y k.walking) none serves.held in
    let a = asks_of k.walking.now (rest_of job y k.walking) held.0 serves.fits.matches in
    let first : first_op (ends (then_of n)) ≡ Some a.op =
    subst (λ (s : Script Then). first_op s ≡ Some a.op) ended a.first in
    cc

pub same_activity : (a : Activity) → a ≡ activity_of (doing_in a)
same_activity activity.Back = refl
same_activity activity.Begin = refl
same_activity (activity.Turn q) = refl
same_activity (activity.Part q rank) = refl
same_activity (activity.Over e) = refl

-- ---- a new worker

blank_fits : (job : JobData) (size : ℕ) → FitsMemory job (blank size)
blank_fits job size k = rw (all_start size k) (start_fits job)

pub blank_true : (job : JobData) (size : ℕ) → IsTrueMemory job (blank size)
blank_true job size limits i below = rw (all_start size i) (start_true job limits i below)

pub starts : (job : JobData) (y : LayoutData) (w size : ℕ) → w < y.workers →
    Serves job y (record { walking = remembering size (started w); held_op = None })
starts job y w size worker =
    let fits = (new_workers_fit job y w worker).0 in
    record {
      fits = record {
        number = fits.number;
        node = fits.node;
        phase = fits.phase;
        block = fits.block;
        memory = blank_fits job size;
        admitted = fits.admitted;
        matches = fits.matches;
      };
      held = (tt, refl);
    }

pub comes_anew : (job : JobData) (y : LayoutData) (w size : ℕ) → w < y.workers →
    Serves job y (record { walking = remembering size (come_back w); held_op = None })
comes_anew job y w size worker =
    let fits = (new_workers_fit job y w worker).1 in
    record {
      fits = record {
        number = fits.number;
        node = fits.node;
        phase = fits.phase;
        block = fits.block;
        memory = blank_fits job size;
        admitted = fits.admitted;
        matches = fits.matches;
      };
      held = (tt, refl);
    }

-- a worker that begins anew at a node, with a memory
fits_anew : (job : JobData) (y : LayoutData) (number start : ℕ) (memory : List Memo) →
    number < y.workers → 1 ≤ start → start < 2 * y.leaves → FitsMemory job memory →
    Fits job y (beginning number start memory)
unfolding begin_script
fits_anew job y number start memory worker low high fits =
    record {
      number = worker;
      node = (low, high);
      phase = tt;
      block = tt;
      memory = fits;
      admitted = tt;
      matches = (_, refl);
    }

pub begins_anew : (job : JobData) (y : LayoutData) (number start : ℕ) (memory : List Memo) →
    number < y.workers → 1 ≤ start → start < 2 * y.leaves → FitsMemory job memory →
    Serves job y (record { walking = beginning number start memory; held_op = None })
begins_anew job y number start memory worker low high fits = record {
  fits = fits_anew job y number start memory worker low high fits;
  held = (tt, refl);
}

pub known_anew : (job : JobData) (y : LayoutData) (past : Record) (number start : ℕ)
    (memory : List Memo) → IsTrueMemory job memory →
    Knows job y past (beginning number start memory)
known_anew job y past number start memory is_true =
    record { script = tt; block = tt; memory = is_true }

pub known_new : (job : JobData) (y : LayoutData) (past : Record) (number size : ℕ) →
    Knows job y past (remembering size (started number))
    × Knows job y past (remembering size (come_back number))
known_new job y past number size = (
  record { script = tt; block = tt; memory = blank_true job size },
  record { script = tt; block = tt; memory = blank_true job size },
)
