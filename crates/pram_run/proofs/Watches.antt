-- Reads one after the other.
use Rattle.std.proofs.Common.{◌≡◌, ℕ, zero, suc, ◌<◌, ◌≤◌, List, [], ◌∷◌, ◌++◌}
use Rattle.std.proofs.Common.{length, get_or, map, refl, sym, ap, subst, ◌∙◌}
use Rattle.std.proofs.Common.{arith, append_assoc, add-one, take, ◌+◌, ◌*◌, inl, inr}
use Rattle.std.specs.List.{All, repeat}
use Rattle.std.specs.Prelude.{Ok, Err, IfOk}
use Rattle.std.specs.List.Sorted.{IsNonDecreasingBy}
use Rattle.std.proofs.Math.Nat.{suc-mul}
use Rattle.std.proofs.Math.Seq.{take-suc}
use Rattle.std.proofs.lemmas.List.{append-nil, map-append}
use Rattle.std.proofs.lemmas.Nat.{mul-le}
use Rattle.std.proofs.lemmas.List.Elements.{All-cons, All-nil}
use Rattle.walkx.specs.declared.operation.Reading.TheVariants.{At}
use Rattle.walkx.specs.Reads.{reader_script}
use Rattle.walkx.specs.Scripts.{heard_in}
use Rattle.lawful_walk.specs.Seen.{KnowsStep}
use Rattle.pram_step.specs.declared.answer.RunAnswer.{RunAnswer}
use Rattle.pram_board.specs.declared.task.Task.{Task}
use Rattle.pram_board.specs.Seats.{SeatData, WasRead, unites}
use Rattle.pram_run.specs.declared.sight.Sight.{Sight}
use Rattle.pram_run.specs.declared.watcher.Watched.{Watched}
use Rattle.stop_plan.specs.Plan.{PlanData}
use Rattle.pram_run.specs.Obeyed.{AllObeyed, HasLooked, IsAnswered}
use Rattle.pram_run.specs.Heard.{Ended, HasRunBeside}
use Rattle.pram_run.specs.Watching.{HasRead, IsTrueSight, IsWatch, HasWatched, HasWatchedWith}
use Rattle.pram_run.specs.Watching.{ReadsAndHears, ReadsUnlessRefused}
use Rattle.pram_run.specs.Inner.Hearing.{RunHasEnded}
use Rattle.pram_run.specs.Inner.Obeying.{IsContinued, IsToWatch}
use Rattle.pram_run.specs.Inner.Reading.{IsWatchJoined}
use Rattle.pram_run.proofs.Records.{begins_all, knows_all}
use Rattle.pram_run.proofs.Endings.{goes_self, goes_trans, goes_all, looked_more}

abbrev Read : Task → SeatData → SeatData → Sight → Type 0
Read t p q s = WasRead t p q s.cell (At s.step s.value)

-- one read more, after the others
pub has_read_more : (t : Task) (p q next : SeatData) (ss : List Sight) (s : Sight) →
    HasRead t p ss q →
    Read t q next s → HasRead t p (ss ++ s ∷ []) next
has_read_more t p q next [] s h r = (next, subst (λ (x : SeatData). Read t x next s) h r, refl)
has_read_more t p q next (first ∷ ss) s h r = (h.0, h.1, has_read_more t h.0 q next ss s h.2 r)

read_goes : (t : Task) (p q : SeatData) (s : Sight) → Read t p q s → IsContinued p q
read_goes t p q s r = goes_all p q (heard_in (reader_script t.layout s.cell) r.answers) r.is

pub reads_go : (t : Task) (p q : SeatData) (ss : List Sight) → HasRead t p ss q → IsContinued p q
reads_go t p q [] h = subst (λ (x : SeatData). IsContinued p x) (sym h) (goes_self p)
reads_go t p q (s ∷ ss) h = goes_trans p h.0 q (read_goes t p h.0 s h.1) (reads_go t h.0 q ss h.2)

all_tell : (t : Task) (p q : SeatData) (ss : List Sight) →
    HasRead t p ss q → All (λ s. IsTrueSight t s) ss
all_tell t p q [] h = All-nil (λ s. IsTrueSight t s)
all_tell t p q (s ∷ ss) h =
    let lawful = h.1.lawful in
    All-cons (λ x. IsTrueSight t x) s ss
    (record { reached = lawful.reached; value = lawful.holds }) (all_tell t h.0 q ss h.2)

-- no step is below one that was known before
all_least : (t : Task) (p q : SeatData) (ss : List Sight) (known : ℕ) → HasRead t p ss q →
    KnowsStep t.layout p.record_of known → All (λ s. known ≤ s.step) ss
all_least t p q [] known h k = All-nil (λ s. known ≤ s.step)
all_least t p q (s ∷ ss) known h k =
    let next = h.0 in
    let goes : IsContinued p next = read_goes t p next s h.1 in
    All-cons (λ (x : Sight). known ≤ x.step) s ss (h.1.lawful.lasts known k)
    (all_least t next q ss known h.2 (knows_all t.layout p.record_of next.record_of known
    (begins_all p.record_of next.record_of goes.begins) k))

rises_more : (s : Sight) (ss : List Sight) → All (λ x. s.step ≤ x.step) ss →
    IsNonDecreasingBy (λ x. x.step) ss → IsNonDecreasingBy (λ x. x.step) (s ∷ ss)
rises_more s ss all rises zero zero d le lt = omega arith
rises_more s ss all rises zero (suc j) d le lt = all j d (omega arith)
rises_more s ss all rises (suc i) zero d le lt = absurd (omega arith)
rises_more s ss all rises (suc i) (suc j) d le lt = rises i j d (omega arith) (omega arith)

all_rise : (t : Task) (p q : SeatData) (ss : List Sight) → HasRead t p ss q →
    IsNonDecreasingBy (λ x. x.step) ss
all_rise t p q [] h = λ i j d le lt. absurd (omega arith)
all_rise t p q (s ∷ ss) h =
    let next = h.0 in
    let known = h.1.lawful.known in
    let least : All (λ (x : Sight). known.0 ≤ x.step) ss =
    all_least t next q ss known.0 h.2 known.1 in
    rises_more s ss (λ k d lt. let low : known.0 ≤ (get_or ss k d).step = least k d lt in
    let near : s.step ≤ known.0 = known.2 in omega arith) (all_rise t next q ss h.2)

pub is_watch : (t : Task) (cells : List ℕ)
    (rounds : ℕ) (p : SeatData) (ss : List Sight) (q : SeatData) →
    map (λ (s : Sight). s.cell) ss ≡ repeat rounds cells → HasRead t p ss q →
    IsWatch t cells rounds p ss q
is_watch t cells rounds p ss q listed reads = record {
  listed = listed;
  reads = reads;
  tells = all_tell t p q ss reads;
  least = λ k d lt known knows. all_least t p q ss known reads knows k d lt;
  rises = all_rise t p q ss reads;
}

-- the cell of one read more
pub listed_more : (first cells : List ℕ) (k : ℕ) (old new : List Sight) (s : Sight) →
    k < length cells → new ≡ old ++ s ∷ [] → s.cell ≡ get_or cells k 0 →
    map (λ (x : Sight). x.cell) old ≡ first ++ take k cells →
    map (λ (x : Sight). x.cell) new ≡ first ++ take (k + 1) cells
listed_more first cells k old new s lt is cell listed =
    let longer : take (k + 1) cells ≡ take k cells ++ (get_or cells k 0 ∷ []) =
    ap (λ (n : ℕ). take n cells) (add-one k) ∙ take-suc cells k 0 lt in
    ap (map (λ (x : Sight). x.cell)) is ∙ (map-append (λ (x : Sight). x.cell) old (s ∷ [])
    ∙ (ap (λ (l : List ℕ). l ++ s.cell ∷ []) listed
    ∙ (append_assoc first (take k cells) (s.cell ∷ [])
    ∙ ap (λ (l : List ℕ). first ++ l) (ap (λ (v : ℕ). take k cells ++ v ∷ []) cell ∙ sym longer))))

-- one round more, after the others
repeat_more : (n : ℕ) (cells : List ℕ) → repeat n cells ++ cells ≡ repeat (suc n) cells
repeat_more zero cells = sym (append-nil cells)
repeat_more (suc n) cells = append_assoc cells (repeat n cells) cells
    ∙ ap (λ (l : List ℕ). cells ++ l) (repeat_more n cells)

pub round_more : (n : ℕ) (cells old new : List ℕ) → new ≡ old ++ cells →
    old ≡ repeat n cells → new ≡ repeat (n + 1) cells
round_more n cells old new is listed =
    is ∙ (ap (λ (l : List ℕ). l ++ cells) listed
    ∙ (repeat_more n cells ∙ ap (λ (k : ℕ). repeat k cells) (sym (add-one n))))

pub count_more : (n l : ℕ) → (n + 1) * l ≡ n * l + l
count_more n l = ap (λ (k : ℕ). k * l) (add-one n) ∙ suc-mul n l

-- there is room for one round more
pub room_more : (n rounds l room : ℕ) → n < rounds → rounds * l ≤ room → n * l + l ≤ room
room_more n rounds l room lt all =
    let low : (n + 1) * l ≤ rounds * l = mul-le (n + 1) l rounds l (omega arith) (omega arith) in
    omega (arith, count_more n l)

-- what the reader's thread kept, of the seat that it was given
pub watch_of : (t : Task) (cells : List ℕ) (rounds : ℕ) (first : SeatData) (promise : Watched)
    (sights : List Sight) (p : SeatData) → IsToWatch cells rounds first promise →
    first.desk.task ≡ t → IsContinued promise.before.value p
    × IsWatch promise.before.value.desk.task promise.cells.now promise.rounds promise.before.value
    sights p → IsWatch t cells rounds first sights p
watch_of t cells rounds first promise sights p promised task h =
    let h1 = subst (λ (x : SeatData).
    IsWatch x.desk.task promise.cells.now promise.rounds x sights p) promised.seat h.1 in
    let h2 = subst (λ (x : List ℕ). IsWatch first.desk.task x promise.rounds first sights p)
    promised.cells h1 in
    let h3 = subst (λ (x : ℕ). IsWatch first.desk.task cells x first sights p) promised.rounds h2 in
    subst (λ (x : Task). IsWatch x cells rounds first sights p) task h3

-- the seat of the reader is joined last
pub watched_of : (t : Task) (plan : PlanData)
    (cells : List ℕ) (rounds : ℕ) (first p q later : SeatData) (sights : List Sight) →
    AllObeyed t plan.rows first plan.workers p → IsWatch t cells rounds first sights q →
    later ≡ unites p q → IsWatchJoined t plan cells rounds first sights later
watched_of t plan cells rounds first p q later sights obeyed watch is =
    record { seat = p; obeyed = obeyed; reader = q; watch = watch; is = is }

-- and looked at the board
pub watched_later : (t : Task) (plan : PlanData) (cells : List ℕ) (rounds : ℕ)
    (first p q : SeatData) (sights : List Sight) (a : RunAnswer) →
    IsWatchJoined t plan cells rounds first sights p → IsAnswered t plan p q a →
    HasWatched t plan cells rounds first sights q a
watched_later t plan cells rounds first p q sights a h answered = record {
  seat = h.seat;
  obeyed = h.obeyed;
  reader = h.reader;
  watch = h.watch;
  answered = subst (λ (s : SeatData). IsAnswered t plan s q a) h.is answered;
}

-- a run came to its end beside a reader, who read before that
pub watched_with : {P H : Type 0} (t : Task) (plan : PlanData) (given before reader later : SeatData)
    (n : ℕ) (Reads : SeatData → SeatData → P → Type 0) (Hears : P → Ended → H → Type 0)
    (ended : Ended) (heard : H) (after : P) → HasLooked given before →
    (n ≡ plan.workers → before ≡ given) → Reads before reader after → Hears after ended heard →
    RunHasEnded t plan given n reader later ended →
    HasWatchedWith t plan given later (ReadsAndHears Reads Hears ended heard) ended
watched_with t plan given before reader later n Reads Hears ended heard after
    waited at_once reads hears h = record {
      answer = h.answer;
      ran = record {
        started = h.ran.started;
        most = h.ran.most;
        all = h.ran.all;
        seat = h.ran.seat;
        obeyed = h.ran.obeyed;
        looker = h.ran.looker;
        beside = record {
          before = before;
          waited = waited;
          at_once = λ whole. at_once (sym h.ran.beside.0 ∙ whole);
          reader = reader;
          reads = record { after = after; reads = reads; hears = hears };
          looks = h.ran.beside.1;
        };
        answered = h.ran.answered;
      };
      given_if = h.given_if;
    }

-- ---- a run whose reader reads nothing

module _ {P H : Type 0} (t : Task) (plan : PlanData) (given later : SeatData) (first : P)
    (Hears : P → Ended → H → Type 0) (heard : H) where
  abbrev Nothing : SeatData → SeatData → P → Type 0
  Nothing before after reader = (after ≡ before) × (reader ≡ first)

  -- what became of it
  pub ran_unread : (ended : Ended) →
      ReadsUnlessRefused t plan given first Nothing Hears later ended heard →
      IfOk ended (HasRunBeside t plan given later)
  ran_unread (Err refused) h = tt
  ran_unread (Ok answer) (inl alone) = absurd alone.0
  ran_unread (Ok answer) (inr h) =
      let by = h.ran.beside in
      let still : by.reader ≡ by.before = by.reads.reads.0 in
      subst (λ (a : RunAnswer). HasRunBeside t plan given later a) (sym h.given_if) (record {
        started = h.ran.started;
        most = h.ran.most;
        all = h.ran.all;
        seat = h.ran.seat;
        obeyed = h.ran.obeyed;
        looker = h.ran.looker;
        beside = looked_more given by.before h.ran.looker by.waited
            (subst (λ (s : SeatData). HasLooked s h.ran.looker) still by.looks);
        answered = h.ran.answered;
      })

  -- what was heard
  pub heard_unread : (ended : Ended) →
      ReadsUnlessRefused t plan given first Nothing Hears later ended heard →
      Hears first ended heard
  heard_unread ended (inl alone) = alone.1
  heard_unread ended (inr h) =
      let reads = h.ran.beside.reads in
      subst (λ (p : P). Hears p ended heard) reads.reads.1 reads.hears
