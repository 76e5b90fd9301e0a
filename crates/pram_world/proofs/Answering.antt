-- What the words of a board tell of its job.
use Rattle.std.proofs.Common.{◌≡◌, ◌≢◌, ℕ, zero, suc, ◌+◌, ◌-◌, ◌*◌, ◌/◌, ◌<◌, ◌≤◌, ◌==◌}
use Rattle.std.proofs.Common.{if◌then◌else◌, List, [], ◌∷◌, ◌++◌, map, take, slice_index, Option}
use Rattle.std.proofs.Common.{Some, None, refl, sym, ap, ap₂, subst, ◌∙◌, lit<, arith}
use Rattle.std.proofs.lemmas.Bool.{cond_both, eqb-true}
use Rattle.std.proofs.lemmas.List.{take_more}
use Rattle.std.proofs.lemmas.List.FromFn.{map-range_with_len_more}
use Rattle.std.specs.List.{range_with_len}
use Rattle.pram_job.specs.Job.{JobData}
use Rattle.pram_machine.specs.declared.requests.Request.{Request}
use Rattle.pram_machine.specs.Instructions.{place_part, value_part, request_in, requests_in}
use Rattle.pram_step.proofs.LawFixed.{length-state_after}
use Rattle.pram_step.specs.History.{part_after}
use Rattle.pram_step.specs.Runs.{AreConflicting, IsReached, requests_after, state_after}
use Rattle.pram_words.specs.declared.words.Word.TheVariants.{Conflict, Asked, Stored}
use Rattle.pram_words.specs.Stamps.{stamp_of, payload_of, newer_payload, newer_word}
use Rattle.pram_words.specs.Words.{LayoutData, places_of}
use Rattle.pram_words.specs.declared.layout.Form.TheVariants.{Compact}
use Rattle.walkx.specs.Requests.{heard_request}
use Rattle.lawful_walk.specs.Board.{Stands, held, root, conflict, finished}
use Rattle.lawful_walk.proofs.Facts.{facts}
use Rattle.lawful_walk.proofs.Places.{cell_value}
use Rattle.lawful_walk.specs.Walks.{IsConflict}
use Rattle.lawful_walk.proofs.Ending.{is_first}
use Rattle.pram_world.specs.declared.outcome.Progress.{Progress}
use Rattle.pram_world.specs.declared.outcome.Progress.TheVariants.{Disputed, Finished, Going}
use Rattle.pram_world.specs.Inner.Telling.{Says}

-- ---- the board's sizes

pub same_cells : (job : JobData) (y : LayoutData) (words : List ℕ) →
    Stands job y words → y.cells ≡ job.cells
same_cells job y words stands = ap (λ (z : LayoutData). z.cells) stands.layout

pub same_procs : (job : JobData) (y : LayoutData) (words : List ℕ) →
    Stands job y words → y.procs ≡ job.procs
same_procs job y words stands = ap (λ (z : LayoutData). z.procs) stands.layout

pub root_most : (job : JobData) (y : LayoutData) (words : List ℕ) →
    Stands job y words → root y words ≤ 3 * job.steps
root_most job y words stands =
    let l = stands.sizes.leaves in stands.lawful.tree.most 1 (lit< tt, omega arith)

pub conflict_most : (job : JobData) (y : LayoutData) (words : List ℕ) →
    Stands job y words → conflict y words ≤ job.steps
conflict_most job y words stands = stands.admitted.in_range Conflict tt

-- ---- the end

pub final_value : (job : JobData) (y : LayoutData) (words : List ℕ) (p : ℕ) →
    Stands job y words → conflict y words ≡ 0 → root y words ≡ 3 * job.steps → p < job.cells →
    newer_payload (held y words (Stored p 0)) (held y words (Stored p 1))
    ≡ slice_index (state_after job job.steps) p
final_value job y words p stands clear done cell =
    let cells = same_cells job y words stands in
    (facts job y words stands).final_held p (omega arith) done clear
    ∙ cell_value y.form job job.steps p cell

-- one cell more
pub final_more : (job : JobData) (y : LayoutData) (words values now : List ℕ) (cell value : ℕ) →
    Stands job y words → conflict y words ≡ 0 → root y words ≡ 3 * job.steps → cell < job.cells →
    values ≡ take cell (state_after job job.steps) →
    value ≡ newer_payload (held y words (Stored cell 0)) (held y words (Stored cell 1)) →
    now ≡ values ++ value ∷ [] →
    now ≡ take (cell + 1) (state_after job job.steps)
final_more job y words values now cell value stands clear done below so_far is pushed =
    let len = length-state_after job job.steps stands.limits in
    pushed
    ∙ ap₂ (λ xs v. xs ++ v ∷ []) so_far (is ∙ final_value job y words cell stands clear done below)
    ∙ sym (take_more (state_after job job.steps) cell 0 (omega arith))

-- ---- the steps that are finished

-- without a conflict the root shows them
pub finished_clear : (job : JobData) (y : LayoutData) (words : List ℕ) → Stands job y words →
    conflict y words ≡ 0 → IsReached job (root y words / 3)
finished_clear job y words stands clear =
    let b = facts job y words stands in
    let low = b.root_low in
    let high = b.root_high in
    let full = b.full_root in
    let less : root y words ≢ 3 * finished y words + 3 = λ e. absurd (let c = full e in
    let d : suc (finished y words) ≡ 0 = sym c ∙ clear in omega arith) in
    let is : finished y words ≡ root y words / 3 = omega arith in
    subst (IsReached job) is stands.lawful.reached

pub finished_last : (job : JobData) (y : LayoutData) (words : List ℕ) → Stands job y words →
    conflict y words ≡ 0 → root y words ≡ 3 * job.steps → IsReached job job.steps
finished_last job y words stands clear done =
    let e : root y words / 3 ≡ job.steps = omega arith in
    subst (IsReached job) e (finished_clear job y words stands clear)

-- ---- the conflict

-- a request from its parts
abbrev the_request : Option (ℕ × ℕ) → ℕ → Request
the_request put next = record { put = put; next = next }

abbrev parted : ℕ → ℕ → ℕ → Request
parted a b c = the_request (if a == 0 then None else Some (a - 1, b)) c

parted_put : (put : Option (ℕ × ℕ)) (next : ℕ) →
    parted (place_part (the_request put next)) (value_part (the_request put next)) next
    ≡ the_request put next
parted_put None next = refl
parted_put (Some w) next = cond_both ((w.0 + 1) == 0) None (Some (w.0 + 1 - 1, w.1))
    (λ (put : Option (ℕ × ℕ)). the_request put next ≡ the_request (Some w) next)
    (λ e. absurd (let f = eqb-true (w.0 + 1) 0 e in omega arith))
    (λ e. let f : w.0 + 1 - 1 ≡ w.0 = omega arith in ap (λ v. the_request (Some (v, w.1)) next) f)

ap_three : (f : ℕ → ℕ → ℕ → Request) (a a' b b' c c' : ℕ) → a ≡ a' →
    b ≡ b' → c ≡ c' → f a b c ≡ f a' b' c'
ap_three f a a' b b' c c' e g h = ap₂ (λ x y. f x y c) e g ∙ ap (λ z. f a' b' z) h

-- what the request words of the compact form hold while word 0 names step s + 1
heard_asked : (job : JobData) (y : LayoutData) (words : List ℕ) (s i : ℕ) → Stands job y words →
    y.form ≡ Compact → conflict y words ≡ suc s → i < job.procs →
    heard_request (held y words (Asked i 0)) (held y words (Asked i 1)) (held y words (Asked i 2))
    ≡ request_in job (state_after job s) i
heard_asked job y words s i stands compact named below =
    let procs = same_procs job y words stands in
    let r = request_in job (state_after job s) i in
    ap_three parted _ _ _ _ _ _ (part 0 (lit< tt) (omega arith)) (part 1 (lit< tt) (omega arith))
    (part 2 (lit< tt) (omega arith)) ∙ parted_put r.put r.next
  where
    part : (j : ℕ) → j < 3 → i < y.procs →
        payload_of (held y words (Asked i j)) ≡ part_after job s i j
    part j few proc =
        let e : stamp_of (held y words (Asked i j)) ≡ suc s =
        (facts job y words stands).conflict_asked compact i j proc few
        (λ z. absurd (let g : suc s ≡ 0 = sym named ∙ z in omega arith)) ∙ named in
        ((stands.lawful.asked compact i j proc few).part s e).1

-- one request more
pub requests_more : (job : JobData) (y : LayoutData) (words : List ℕ) (sofar now : List Request)
    (i : ℕ) (place value next : ℕ) (r : Request) → Stands job y words → y.form ≡ Compact →
    i < job.procs →
    ((s : ℕ) → conflict y words ≡ suc s →
    sofar ≡ map (request_in job (state_after job s)) (range_with_len 0 i)) →
    place ≡ held y words (Asked i 0) → value ≡ held y words (Asked i 1) →
    next ≡ held y words (Asked i 2) → r ≡ heard_request place value next → now ≡ sofar ++ r ∷ [] →
    (s : ℕ) → conflict y words ≡ suc s →
    now ≡ map (request_in job (state_after job s)) (range_with_len 0 (i + 1))
requests_more job y words sofar now i place value next r stands compact below are p v n is pushed
    s named =
    pushed ∙ ap₂ (λ xs x. xs ++ x ∷ []) (are s named)
    (is ∙ ap_three heard_request _ _ _ _ _ _ p v n ∙ heard_asked job y words s i stands
    compact named below)
    ∙ sym (map-range_with_len_more (request_in job (state_after job s)) 0 i i (omega arith))

pub requests_all : (job : JobData) (s n : ℕ) → n ≡ job.procs →
    map (request_in job (state_after job s)) (range_with_len 0 n) ≡ requests_after job s
unfolding requests_in
requests_all job s n is = ap (λ m. map (request_in job (state_after job s)) (range_with_len 0 m)) is

-- the step before the one that word 0 names
before : (u : ℕ) → u ≢ 0 → (s : ℕ) × (u ≡ suc s)
before zero some = absurd (some refl)
before (suc s) some = (s, refl)

-- the requests of the step that word 0 names dispute
pub conflicting : (job : JobData) (y : LayoutData) (words : List ℕ) (requests : List Request)
    (step : ℕ) → Stands job y words → conflict y words ≢ 0 →
    ((s : ℕ) → conflict y words ≡ suc s → requests ≡ requests_after job s) →
    step ≡ conflict y words → AreConflicting job step requests
conflicting job y words requests step stands some are is =
    let b = before (conflict y words) some in
    let most = conflict_most job y words stands in
    let first = stands.lawful.named.first b.0 b.1 in
    record {
      before = b.0;
      step = (let e = b.1 in omega arith);
      within = omega arith;
      reached = first.0;
      against = first.1;
      are = are b.0 b.1;
    }

-- and it is the first conflict
pub is_conflict : (job : JobData) (y : LayoutData) (words : List ℕ) (step : ℕ) →
    Stands job y words → conflict y words ≢ 0 → step ≡ conflict y words → IsConflict job step
is_conflict job y words step stands some is =
    let b = before (conflict y words) some in
    let most = conflict_most job y words stands in
    let first = stands.lawful.named.first b.0 b.1 in
    subst (IsConflict job) (sym (is ∙ b.1))
    (is_first job b.0 first.0 first.1 (let e = b.1 in omega arith))

-- ---- what word 0 and the root say

pub disputed : (job : JobData) (named r : ℕ) (s : Progress) → s ≡ Disputed →
    Says job named r s → named ≢ 0
disputed job named r s is says = subst (Says job named r) is says

pub finished_so : (job : JobData) (named r : ℕ) (s : Progress) → s ≡ Finished → Says job named r s →
    (named ≡ 0) × (r ≡ 3 * job.steps)
finished_so job named r s is says = subst (Says job named r) is says

pub still : (job : JobData) (named r : ℕ) (s : Progress) → s ≡ Going → Says job named r s →
    (named ≡ 0) × (r ≢ 3 * job.steps)
still job named r s is says = subst (Says job named r) is says
