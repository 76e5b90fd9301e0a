-- Joining the threads one after another.
use Rattle.std.proofs.Common.{◌≡◌, ℕ, suc, ◌<◌, ◌+◌, List, [], ◌∷◌, ◌++◌, length, get_or}
use Rattle.std.proofs.Common.{sym, ap, ◌∙◌, subst, arith, length-append, below_more}
use Rattle.std.proofs.Math.ListN.{get_or-append}
use Rattle.std.proofs.Math.Seq.{get_or-append_seam}
use Rattle.std.specs.declared.thread.PromisedHandle.{PromisedHandle}
use Rattle.stop_plan.specs.declared.plan.Row.{Row}
use Rattle.pram_board.specs.Seats.{SeatData, unites}
use Rattle.pram_run.specs.declared.runner.Obeyed.{Obeyed}
use Rattle.pram_board.specs.declared.task.Task.{Task}
use Rattle.pram_run.specs.Inner.Obeying.{EndsOrStops, HasObeyed, IsToObey}
use Rattle.pram_run.specs.Obeyed.{AllObeyed, ObeysAnew}
use Rattle.pram_run.proofs.Endings.{ends_front, ends_back}

abbrev pub Thread : Type 0
Thread = PromisedHandle SeatData Obeyed

-- the next thread promised to obey at its number, as all did
pub promised_next : (rows : List Row) (first : SeatData) (all done : List Thread)
    (t : Thread) (rest items : List Thread) → items ≡ (t ∷ rest) → done ++ items ≡ all →
    ((k : ℕ) (d : Thread) → k < length all → IsToObey rows k first (get_or all k d).promise) →
    IsToObey rows (length done) first t.promise
promised_next rows first all done t rest items is order promised =
    let there : done ++ (t ∷ rest) ≡ all = ap (λ (l : List Thread). done ++ l) (sym is) ∙ order in
    let here : get_or all (length done) t ≡ t = ap (λ (l : List Thread). get_or l (length done) t)
    (sym there) ∙ get_or-append_seam done t rest t in
    let lt : length done < length all =
    omega (arith, ap length there, length-append done (t ∷ rest)) in
    subst (λ (u : Thread). IsToObey rows (length done) first u.promise)
    here (promised (length done) t lt)

-- it kept what it promised
pub kept_as : (rows : List Row) (n : ℕ) (first given : SeatData) (promise : Obeyed) →
    IsToObey rows n first promise →
    HasObeyed promise.rows.now promise.worker promise.before.value given →
    HasObeyed rows n first given
kept_as rows n first given promise promised h =
    subst (λ (x : List Row). HasObeyed x n first given) promised.rows
    (subst (λ (x : ℕ). HasObeyed promise.rows.now x first given) promised.worker
    (subst (λ (x : SeatData). HasObeyed promise.rows.now promise.worker x given) promised.seat h))

-- one seat more is joined
pub ends_more : (rows : List Row) (p q later : SeatData) (n m : ℕ) → m ≡ n + 1 → q.desk ≡ p.desk →
    later ≡ unites p q → ((k : ℕ) → k < n → EndsOrStops rows k p) → EndsOrStops rows n q →
    (k : ℕ) → k < m → EndsOrStops rows k later
ends_more rows p q later n m count desk is h mine k lt =
    below_more (λ j. EndsOrStops rows j later) n (λ j low. ends_front rows j p q later is (h j low))
    (ends_back rows n p q later desk is mine) k (omega arith)

pub obeyed_more : (t : Task) (rows : List Row) (first p q later : SeatData) (n m : ℕ) → m ≡ n + 1 →
    first.desk.task ≡ t → later ≡ unites p q → AllObeyed t rows first n p →
    ObeysAnew first.desk.task n rows first q → AllObeyed t rows first m later
obeyed_more t rows first p q later n m count task is h mine =
    let next : AllObeyed t rows first (suc n) later =
    (p, q, h, subst (λ (x : Task). ObeysAnew x n rows first q) task mine, is) in
    subst (λ (k : ℕ). AllObeyed t rows first k later) (let e : suc n ≡ m = omega arith in e) next

-- one more, at its number
pub numbered_more : (P : ℕ → Thread → Type 0) (ts : List Thread) (t : Thread) (n : ℕ) →
    length ts ≡ n → ((k : ℕ) (d : Thread) → k < n → P k (get_or ts k d)) → P n t →
    (k : ℕ) (d : Thread) → k < n + 1 → P k (get_or (ts ++ t ∷ []) k d)
numbered_more P ts t n len h here k d lt =
    let seam : get_or (ts ++ t ∷ []) n d ≡ t =
    ap (λ (i : ℕ). get_or (ts ++ t ∷ []) i d) (sym len) ∙ get_or-append_seam ts t [] d in
    below_more (λ i. P i (get_or (ts ++ t ∷ []) i d)) n
    (λ i low. let le : i < length ts = omega arith in
    let Q : Thread → Type 0 = λ u. P i u in
    subst Q (sym (get_or-append ts (t ∷ []) d i le)) (h i d low))
    (let Q : Thread → Type 0 = λ u. P n u in subst Q (sym seam) here) k lt
