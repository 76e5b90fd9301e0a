-- One request more: which stores are kept then.
use Rattle.std.proofs.Common.{◌≡◌, ◌≢◌, ℕ, ◌+◌, ◌<◌, ◌≤◌, ◌⊎◌, List, length, take, get_or, set}
use Rattle.std.proofs.Common.{Option, Some, None, sym, ap, ◌∙◌, inl, inr, subst, arith}
use Rattle.std.proofs.Common.{refl, length-set, length-take-le, get_or-set_same, get_or-set_other}
use Rattle.std.proofs.Common.{◌++◌, below_more}
use Rattle.std.proofs.lemmas.Bool.{cases_eq, cases_lt}
use Rattle.std.specs.Prelude.{slice_index_or, MatchOption}
use Rattle.std.specs.Prelude.{All}
use Rattle.std.proofs.lemmas.List.{get_or_default, get_or_past, get_or-take, take-append-le}
use Rattle.std.proofs.lemmas.List.{take_all}
use Rattle.std.proofs.lemmas.List.Elements.{All-from_get_or}
use Rattle.std.proofs.lemmas.Option.{none-some, some_pair_parts, slice_get-get_or}
use Rattle.pram_job.specs.declared.instr.Rule.TheVariants.{Priority}
use Rattle.pram_job.specs.Job.{JobData}
use Rattle.pram_step.specs.declared.answer.Dispute.{Dispute}
use Rattle.pram_machine.specs.declared.requests.Request.{Request}
use Rattle.pram_step.specs.declared.stores.Store.{Store}
use Rattle.pram_step.specs.Inner.Marks.{PutsValue, PutsFirst, PutsNone, PutsStore, MarksFirst, AreMarked}
use Rattle.pram_step.specs.Inner.Marks.{AreJudged, AreStoredFrom, store_at}
use Rattle.pram_machine.specs.Machine.{State}
use Rattle.pram_step.specs.Inner.Marks.{JudgesStore}
use Rattle.pram_step.specs.Steps.{IsVerdict}
use Rattle.pram_step.specs.Disputes.{Forbids}
use Rattle.pram_step.specs.Inner.Marks.{AreAsked}
use Rattle.pram_step.proofs.Passing.{skip_first, skip_next}
use Rattle.pram_step.proofs.Judging.{IsVerdict_no_cell, IsVerdict_first, IsVerdict_allowed}
use Rattle.pram_step.proofs.Judging.{IsVerdict_later, IsVerdict_new}
use Rattle.pram_step.proofs.RequestList.{request_at, slice_get_below, slice_get_last}
use Rattle.pram_step.proofs.RequestList.{slice_get_earlier, slice_get_more}
use Rattle.pram_step.proofs.RequestList.{Puts_inside, Puts_at}

-- what stands where no store was made
abbrev no_store : Store
no_store = record { processor = 0; cell = 0; value = 0 }

module _ (requests : List Request) (m : ℕ) (inside : m < length requests) where
  Puts_more : (place i v : ℕ) → PutsValue (take m requests) place i v →
      PutsValue (take (m + 1) requests) place i v
  Puts_more place i v p = record {
    request = p.request;
    request_is = slice_get_more requests m inside i p.request p.request_is;
    puts = p.puts;
  }

  Puts_last : (place v : ℕ) → (request_at requests m).put ≡ Some (place, v) →
      PutsValue (take (m + 1) requests) place m v
  Puts_last place v h =
      record
      { request = request_at requests m; request_is = slice_get_last requests m inside; puts = h }

  Puts_split : (place i v : ℕ) → PutsValue (take (m + 1) requests) place i v →
      (PutsValue (take m requests) place i v)
      ⊎ ((i ≡ m) × ((request_at requests m).put ≡ Some (place, v)))
  Puts_split place i v p =
      elim (slice_get_earlier requests m inside i p.request p.request_is) [
        | inl old ↦ inl (record { request = p.request; request_is = old; puts = p.puts })
        | inr new ↦ inr (new.0, subst (λ (q : Request). q.put ≡ Some (place, v)) (sym new.1) p.puts)
      ]

  -- the least writer stays the least
  PutsFirst_more : (place i v : ℕ) → PutsFirst (take m requests) place i v →
      PutsFirst (take (m + 1) requests) place i v
  PutsFirst_more place i v p = record {
    puts = Puts_more place i v p.puts;
    least = λ j other q. elim (Puts_split place j other q) [
      | inl old ↦ p.least j other old
      | inr new ↦
          let below =
          slice_get_below requests m inside i p.puts.request p.puts.request_is in
          omega (arith, new.0)
    ];
  }

  -- what was marked stays so
  module _ (asked : List Store) (k : ℕ) where
    IsMark_more : (cell mark : ℕ) → MarksFirst (take m requests) asked k cell mark →
        MarksFirst (take (m + 1) requests) asked k cell mark
    IsMark_more cell mark is = record {
      below = is.below;
      is_cell = is.is_cell;
      first = PutsFirst_more cell (store_at asked mark).processor (store_at asked mark).value
          is.first;
    }

    PutsStore_more : (j : ℕ) → PutsStore (take m requests) asked j →
        PutsStore (take (m + 1) requests) asked j
    PutsStore_more j =
        Puts_more (store_at asked j).cell (store_at asked j).processor (store_at asked j).value

  -- the last request has no data for a cell
  pub AreJudged_no_cell : (job : JobData) (asked : List Store) (marks : List ℕ) (k : ℕ)
      (found : Option Dispute) →
      ((cell v : ℕ) → cell < job.cells → (request_at requests m).put ≡ Some (cell, v) → ⊥) →
      AreJudged job (take m requests) asked marks k found →
      AreJudged job (take (m + 1) requests) asked marks k found
  AreJudged_no_cell job asked marks k found none are = record {
    marked = record {
      puts = λ j low. PutsStore_more asked k j (are.marked.puts j low);
      marked = λ cell i v low p. elim (Puts_split cell i v p) [
        | inl old ↦
            IsMark_more asked k cell (get_or marks cell 0) (are.marked.marked cell i v low old)
        | inr new ↦ absurd (none cell v low new.1)
      ];
    };
    verdict = IsVerdict_no_cell requests m inside job found none are.verdict;
  }

-- ---- store k, as the code judges it

module _ (job : JobData) (requests : List Request) (asked : List Store) (k : ℕ)
    (low : (store_at asked k).cell < job.cells) (puts : PutsStore requests asked k)
    (marks : List ℕ) (found : Option Dispute)
    (are : AreJudged job (take (store_at asked k).processor requests) asked marks k found) where
  next_inside : (store_at asked k).processor < length requests
  next_inside = Puts_inside requests (store_at asked k).cell (store_at asked k).processor
      (store_at asked k).value puts

  next_puts : (request_at requests (store_at asked k).processor).put
      ≡ Some ((store_at asked k).cell, (store_at asked k).value)
  next_puts = Puts_at requests (store_at asked k).cell (store_at asked k).processor
      (store_at asked k).value puts

  -- a write of the last request goes to its cell
  last_is_here : (cell v : ℕ) →
      (request_at requests (store_at asked k).processor).put ≡ Some (cell, v) →
      (store_at asked k).cell ≡ cell
  last_is_here cell v h = (some_pair_parts (store_at asked k).cell cell (store_at asked k).value v
      (sym next_puts ∙ h)).0

  next_stored : PutsValue (take ((store_at asked k).processor + 1) requests) (store_at asked k).cell
      (store_at asked k).processor (store_at asked k).value
  next_stored = Puts_last requests (store_at asked k).processor next_inside
      (store_at asked k).cell (store_at asked k).value next_puts

  all_stored : (j : ℕ) → j < k + 1 →
      PutsStore (take ((store_at asked k).processor + 1) requests) asked j
  all_stored = below_more
      (PutsStore (take ((store_at asked k).processor + 1) requests) asked) k
      (λ j below. PutsStore_more requests (store_at asked k).processor next_inside asked k j
      (are.marked.puts j below)) next_stored

  -- a mark of an earlier store is one still
  old_mark : (cell mark : ℕ) →
      MarksFirst (take (store_at asked k).processor requests) asked k cell mark →
      MarksFirst (take ((store_at asked k).processor + 1) requests) asked (k + 1) cell mark
  old_mark cell mark is =
      let below = is.below in record {
        below = omega arith;
        is_cell = is.is_cell;
        first = PutsFirst_more requests (store_at asked k).processor next_inside cell
            (store_at asked mark).processor (store_at asked mark).value is.first;
      }

  -- it is a later one
  pub judged_later : (first : Store) →
      PutsFirst (take (store_at asked k).processor requests) (store_at asked k).cell
      first.processor first.value →
      (found' : Option Dispute) → JudgesStore job found first (store_at asked k) found' →
      AreJudged job (take ((store_at asked k).processor + 1) requests) asked marks (k + 1) found'
  judged_later first earlier found' judges = record {
    marked = record {
      puts = all_stored;
      marked = λ cell i v is_cell p. old_mark cell (get_or marks cell 0)
          (elim (Puts_split requests (store_at asked k).processor next_inside cell i v p) [
            | inl old ↦ are.marked.marked cell i v is_cell old
            | inr new ↦ are.marked.marked cell first.processor first.value is_cell
                (subst (λ c. PutsValue (take (store_at asked k).processor requests) c first.processor
                first.value) (last_is_here cell v new.1) earlier.puts)
          ]);
    };
    verdict = judges requests puts earlier are.verdict;
  }

  -- it is the first to its cell
  module _ (none : PutsNone (take (store_at asked k).processor requests) (store_at asked k).cell)
    where
      new_mark : MarksFirst (take ((store_at asked k).processor + 1) requests) asked (k + 1)
          (store_at asked k).cell k
      new_mark = record {
        below = omega arith;
        is_cell = refl;
        first = record {
          puts = next_stored;
          least = λ j other q.
              elim (Puts_split requests (store_at asked k).processor next_inside
              (store_at asked k).cell j other q) [
                | inl old ↦ absurd (none j other old)
                | inr new ↦ omega (arith, new.0)
              ];
        };
      }

      marked_at : (store_at asked k).cell < length marks → (cell i v : ℕ) → cell < job.cells →
          PutsValue (take ((store_at asked k).processor + 1) requests) cell i v →
          MarksFirst (take ((store_at asked k).processor + 1) requests) asked (k + 1) cell
          (get_or (set marks (store_at asked k).cell k) cell 0)
      marked_at fits cell i v is_cell p =
          elim (Puts_split requests (store_at asked k).processor next_inside cell i v p) [
            | inl old ↦
                let apart : cell ≢ (store_at asked k).cell = λ e. none i v
                (subst (λ c. PutsValue (take (store_at asked k).processor requests) c i v) e old) in
                let mark : get_or (set marks (store_at asked k).cell k) cell 0
                ≡ get_or marks cell 0 =
                get_or-set_other marks (store_at asked k).cell cell k 0 apart in
                subst (MarksFirst (take ((store_at asked k).processor + 1) requests) asked (k + 1) cell)
                (sym mark)
                (old_mark cell (get_or marks cell 0) (are.marked.marked cell i v is_cell old))
            | inr new ↦
                let e : (store_at asked k).cell ≡ cell = last_is_here cell v new.1 in
                let mark : get_or (set marks (store_at asked k).cell k) cell 0 ≡ k =
                subst (λ c. get_or (set marks (store_at asked k).cell k) c 0 ≡ k) e
                (get_or-set_same marks (store_at asked k).cell k 0 fits) in
                subst (MarksFirst (take ((store_at asked k).processor + 1) requests) asked (k + 1) cell)
                (sym mark)
                (subst (λ c. MarksFirst (take ((store_at asked k).processor + 1) requests) asked (k + 1)
                c k) e new_mark)
          ]

      pub judged_first : (store_at asked k).cell < length marks →
          AreJudged job (take ((store_at asked k).processor + 1) requests) asked
          (set marks (store_at asked k).cell k) (k + 1) found
      judged_first fits = record {
        marked = record { puts = all_stored; marked = marked_at fits };
        verdict = IsVerdict_first requests (store_at asked k).processor next_inside job found
            (store_at asked k).cell (store_at asked k).value next_puts none are.verdict;
      }

-- a store beside the first to its cell
module _ (job : JobData) (requests : List Request) (store first : Store)
    (low : store.cell < job.cells) (puts : PutsValue requests store.cell store.processor store.value)
    (earlier : PutsFirst (take store.processor requests) store.cell first.processor first.value)
  where
    store_inside : store.processor < length requests
    store_inside = Puts_inside requests store.cell store.processor store.value puts

    store_at_turn : (request_at requests store.processor).put ≡ Some (store.cell, store.value)
    store_at_turn = Puts_at requests store.cell store.processor store.value puts

    pub store_allowed : (found : Option Dispute) →
        ((k n : ℕ) → k ≢ n → Forbids job.rule k first.value n store.value → ⊥) →
        IsVerdict job (take store.processor requests) found →
        IsVerdict job (take (store.processor + 1) requests) found
    store_allowed = IsVerdict_allowed requests store.processor store_inside job store.cell
        store.value first.processor first.value low store_at_turn earlier

    pub store_later : (dispute : Dispute) → dispute.cell ≤ store.cell →
        IsVerdict job (take store.processor requests) (Some dispute) →
        IsVerdict job (take (store.processor + 1) requests) (Some dispute)
    store_later = IsVerdict_later requests store.processor store_inside job store.cell
        store.value first.processor first.value low store_at_turn earlier

    pub store_new : (found : Option Dispute) →
        ((k n : ℕ) → k ≢ n → Forbids job.rule k first.value n store.value) →
        MatchOption found (Unit {0}) (λ d. store.cell < d.cell) →
        IsVerdict job (take store.processor requests) found →
        IsVerdict job (take (store.processor + 1) requests) (Some (record {
          cell = store.cell;
          first = first.processor;
          second = store.processor;
        }))
    store_new = IsVerdict_new requests store.processor store_inside job store.cell
        store.value first.processor first.value low store_at_turn earlier

-- ---- the first store to a cell

module _ (cells : ℕ) (requests : List Request) (asked : List Store) (marks : List ℕ)
    (k cell : ℕ) (low : cell < cells) (are : AreMarked cells requests asked marks k) where
  pub PutsNone_by_mark : k ≤ get_or marks cell 0 → PutsNone requests cell
  PutsNone_by_mark late i v p = let less = (are.marked cell i v low p).below in omega arith

  pub PutsNone_by_store : (store_at asked (get_or marks cell 0)).cell ≢ cell →
      PutsNone requests cell
  PutsNone_by_store other i v p = other (are.marked cell i v low p).is_cell

  pub PutsFirst_by_store :
      get_or marks cell 0 < k → (store_at asked (get_or marks cell 0)).cell ≡ cell →
      PutsFirst requests cell (store_at asked (get_or marks cell 0)).processor
      (store_at asked (get_or marks cell 0)).value
  PutsFirst_by_store below same =
      (are.marked cell (store_at asked (get_or marks cell 0)).processor
      (store_at asked (get_or marks cell 0)).value low
      (subst (λ c. PutsValue requests c (store_at asked (get_or marks cell 0)).processor
      (store_at asked (get_or marks cell 0)).value) same
      (are.puts (get_or marks cell 0) below))).first

-- ---- the stores are made, the last one first

pub AreStored_none : (asked : List Store) (old : State) →
    AreStoredFrom asked (length asked) old old
AreStored_none asked old = record {
  len = refl;
  stored = λ k low high none. absurd (omega arith);
  kept = λ place none. refl;
}

-- store n is made
pub AreStored_more : (asked : List Store) (old now : State) → (n : ℕ) → n < length asked →
    (store_at asked n).cell < length old → AreStoredFrom asked (n + 1) old now →
    AreStoredFrom asked n old (set now (store_at asked n).cell (store_at asked n).value)
AreStored_more asked old now n inside within are =
    let at = (store_at asked n).cell in
    let value = (store_at asked n).value in
    let len = are.len in
    let fits : at < length now = omega arith in record {
      len = length-set now at value ∙ len;
      stored = λ k low high none. elim (cases_eq k n) [
        | inl same ↦
            subst (λ m. get_or (set now at value) (store_at asked m).cell 0
            ≡ (store_at asked m).value) (sym same) (get_or-set_same now at value 0 fits)
        | inr apart ↦
            let after : n < k = omega arith in
            get_or-set_other now at (store_at asked k).cell value 0
            (λ e. none n (omega arith) after (sym e))
            ∙ are.stored k (omega arith) high (λ j from below. none j (omega arith) below)
      ];
      kept = λ place none.
          get_or-set_other now at place value 0 (λ e. none n (omega arith) inside (sym e))
          ∙ are.kept place (λ k low high. none k (omega arith) high);
    }

-- ---- the stores are taken up, one after another

pub AreAsked_none : (cells : ℕ) (requests : List Request) (asked : List Store) →
    AreAsked cells requests 0 asked 0
AreAsked_none cells requests asked = record {
  within = λ k low. absurd (omega arith);
  is_cell = λ k low. absurd (omega arith);
  puts = λ k low. absurd (omega arith);
  rises = λ j k less low. absurd (omega arith);
  all = λ cell i v is_cell low p. absurd (omega arith);
}

module _ (cells : ℕ) (requests : List Request) (n : ℕ) (asked : List Store) (count : ℕ)
    (are : AreAsked cells requests n asked count) where
  -- the next one stores to no cell
  pub AreAsked_quiet : ((cell v : ℕ) → cell < cells → PutsValue requests cell n v → ⊥) →
      AreAsked cells requests (n + 1) asked count
  AreAsked_quiet none = record {
    within = λ k low. let below = are.within k low in omega arith;
    is_cell = are.is_cell;
    puts = are.puts;
    rises = are.rises;
    all = λ cell i v is_cell low p. elim (cases_lt i n) [
      | inl below ↦ are.all cell i v is_cell below p
      | inr above ↦
          let same : i ≡ n = omega arith in
          absurd (none cell v is_cell (subst (λ m. PutsValue requests cell m v) same p))
    ];
  }

  -- its store is taken up
  module _ (here u : ℕ) (low : here < cells) (mine : PutsValue requests here n u)
      (room : count < length asked) where
    pub taken : Store
    taken = record { processor = n; cell = here; value = u }

    last_at : store_at (set asked count taken) count ≡ taken
    last_at = get_or-set_same asked count taken no_store room

    old_at : (k : ℕ) → k < count → store_at asked k ≡ store_at (set asked count taken) k
    old_at k below =
        let apart : k ≢ count = λ e. omega arith in
        sym (get_or-set_other asked count k taken no_store apart)

    -- what holds of the old ones and of this one
    each : (P : Store → Type 0) → ((k : ℕ) → k < count → P (store_at asked k)) → P taken →
        (k : ℕ) → k < count + 1 → P (store_at (set asked count taken) k)
    each P olds new k below = elim (cases_eq k count) [
      | inl same ↦
          subst (λ m. P (store_at (set asked count taken) m)) (sym same) (subst P (sym last_at) new)
      | inr apart ↦
          let before : k < count = omega arith in
          subst P (old_at k before) (olds k before)
    ]

    pub AreAsked_more : AreAsked cells requests (n + 1)
        (set asked count (record { processor = n; cell = here; value = u })) (count + 1)
    unfolding taken
    AreAsked_more = record {
      within = each (λ s. s.processor < n + 1)
          (λ k below. let under = are.within k below in omega arith) (omega arith);
      is_cell = each (λ s. s.cell < cells) are.is_cell low;
      puts = each (λ s. PutsValue requests s.cell s.processor s.value) are.puts mine;
      rises = λ j k less below. elim (cases_eq k count) [
        | inl same ↦
            let before : j < count = omega arith in
            let at : (store_at (set asked count taken) k).processor ≡ n =
            ap (λ m. (store_at (set asked count taken) m).processor) same
            ∙ ap (λ (s : Store). s.processor) last_at in
            let old : (store_at asked j).processor
            ≡ (store_at (set asked count taken) j).processor =
            ap (λ (s : Store). s.processor) (old_at j before) in
            let under = are.within j before in omega arith
        | inr apart ↦
            let before : k < count = omega arith in
            let before' : j < count = omega arith in
            let at : (store_at asked k).processor
            ≡ (store_at (set asked count taken) k).processor =
            ap (λ (s : Store). s.processor) (old_at k before) in
            let old : (store_at asked j).processor
            ≡ (store_at (set asked count taken) j).processor =
            ap (λ (s : Store). s.processor) (old_at j before') in
            let under = are.rises j k less before in omega arith
      ];
      all = λ cell i v is_cell below p. elim (cases_lt i n) [
        | inl under ↦
            let there = are.all cell i v is_cell under p in
            let inside = there.1 in (
              there.0,
              omega arith,
              ap (λ (s : Store). s.processor) (sym (old_at there.0 inside)) ∙ there.2,
            )
        | inr above ↦
            let same : n ≡ i = omega arith in
            (count, omega arith, ap (λ (s : Store). s.processor) last_at ∙ same)
      ];
    }

-- what a list's elements are once all of them were written
pub refilled : {X : Type 0} (n : ℕ) (xs rest : List X) → length xs ≡ n →
    take n (xs ++ rest) ≡ xs
refilled n xs rest e =
    take-append-le n xs rest (omega arith) ∙ take_all n xs (omega arith)

-- of a front, so many are asked for as it has
pub AreAsked_take : (cells : ℕ) (requests : List Request) (n : ℕ) (asked : List Store)
    (count : ℕ) → count ≤ length asked → AreAsked cells requests n asked count →
    AreAsked cells requests n (take count asked) (length (take count asked))
AreAsked_take cells requests n asked count inside are =
    subst (AreAsked cells requests n (take count asked)) (sym (length-take-le count asked inside))
    (record {
      within = λ k low.
          subst (λ (s : Store). s.processor < n) (sym (at k low)) (are.within k low);
      is_cell = λ k low. subst (λ (s : Store). s.cell < cells) (sym (at k low)) (are.is_cell k low);
      puts = λ k low. subst (λ (s : Store). PutsValue requests s.cell s.processor s.value)
          (sym (at k low)) (are.puts k low);
      rises = λ j k less low.
          let one : (store_at (take count asked) j).processor ≡ (store_at asked j).processor =
          ap (λ (s : Store). s.processor) (at j (omega arith)) in
          let other : (store_at (take count asked) k).processor ≡ (store_at asked k).processor =
          ap (λ (s : Store). s.processor) (at k low) in
          let up = are.rises j k less low in omega arith;
      all = λ cell i v is_cell below p.
          let there = are.all cell i v is_cell below p in (
            there.0,
            there.1,
            ap (λ (s : Store). s.processor) (at there.0 there.1) ∙ there.2,
          );
    })
  where
    at : (k : ℕ) → k < count → store_at (take count asked) k ≡ store_at asked k
    at k low = get_or-take count asked k no_store low

-- all of a front go to cells
pub cells_of_asked : (cells : ℕ) (requests : List Request) (n : ℕ) (asked : List Store)
    (count : ℕ) → count ≤ length asked → AreAsked cells requests n asked count →
    All (λ (store : Store). store.cell < cells) (take count asked)
cells_of_asked cells requests n asked count inside are =
    All-from_get_or (λ (store : Store). store.cell < cells) (take count asked) no_store
    (AreAsked_take cells requests n asked count inside are).is_cell

-- ---- all of them are judged

-- the processor of store k, or else the number of all
abbrev pub turn_of : List Store → ℕ → ℕ → ℕ
turn_of asked k total =
    (slice_index_or asked k (record { processor = total; cell = 0; value = 0 })).processor

module _ (job : JobData) (requests : List Request) (asked : List Store)
    (are : AreAsked job.cells requests (length requests) asked (length asked)) where
  -- processor i stores to no cell
  abbrev StoresNone : ℕ → Type 0
  StoresNone i = (cell v : ℕ) → cell < job.cells →
      (request_at requests i).put ≡ Some (cell, v) → ⊥

  turn_inside : (k : ℕ) → k < length asked →
      turn_of asked k (length requests) ≡ (store_at asked k).processor
  turn_inside k inside = ap (λ (s : Store). s.processor) (get_or_default asked k
      (record { processor = length requests; cell = 0; value = 0 }) no_store inside)

  pub turn_past : (k : ℕ) → length asked ≤ k → turn_of asked k (length requests) ≡ length requests
  turn_past k past = ap (λ (s : Store). s.processor) (get_or_past asked k
      (record { processor = length requests; cell = 0; value = 0 }) past)

  by_put : (i : ℕ) → i < length requests → (o : Option (ℕ × ℕ)) →
      (request_at requests i).put ≡ o →
      StoresNone i ⊎ ((k : ℕ) × (k < length asked) × ((store_at asked k).processor ≡ i))
  by_put i low None e = inl (λ cell v is_cell h. none-some (cell, v) (sym e ∙ h))
  by_put i low (Some (place, value)) e = elim (cases_lt place job.cells) [
    | inl cell ↦ inr (are.all place i value cell low (record {
      request = request_at requests i;
      request_is = slice_get-get_or requests i (record { put = None; next = 0 }) low;
      puts = e;
    }))
    | inr past ↦ inl (λ cell v is_cell h.
        let same = (some_pair_parts place cell value v (sym e ∙ h)).0 in omega arith)
  ]

  module _ (P : ℕ → Type 0)
      (step : (i : ℕ) → i < length requests → StoresNone i → P i → P (i + 1)) where
    pub asked_first : P 0 → P (turn_of asked 0 (length requests))
    asked_first = skip_first (length requests) (length asked)
        (λ k. (store_at asked k).processor) (λ k. turn_of asked k (length requests)) StoresNone
        turn_inside turn_past are.within are.rises
        (λ i low. by_put i low (request_at requests i).put refl) P step

    pub asked_next : (k : ℕ) → k < length asked → P ((store_at asked k).processor + 1) →
        P (turn_of asked (k + 1) (length requests))
    asked_next = skip_next (length requests) (length asked)
        (λ k. (store_at asked k).processor) (λ k. turn_of asked k (length requests)) StoresNone
        turn_inside turn_past are.within are.rises
        (λ i low. by_put i low (request_at requests i).put refl) P step

  judged_quiet : (marks : List ℕ) (k : ℕ) (found : Option Dispute) (i : ℕ) →
      i < length requests → StoresNone i → AreJudged job (take i requests) asked marks k found →
      AreJudged job (take (i + 1) requests) asked marks k found
  judged_quiet marks k found i low none =
      AreJudged_no_cell requests i low job asked marks k found none

  -- before the first store
  pub judged_none : (marks : List ℕ) →
      AreJudged job (take (turn_of asked 0 (length requests)) requests) asked marks 0 None
  judged_none marks = asked_first
      (λ n. AreJudged job (take n requests) asked marks 0 None) (judged_quiet marks 0 None)
      (record {
        marked = record {
          puts = λ j low. absurd (omega arith);
          marked = λ cell i v low p. absurd (none-some p.request p.request_is);
        };
        verdict = λ cell i j clash. none-some clash.writes.1.request clash.writes.1.request_is;
      })

  -- before store k
  pub judged_at : (k : ℕ) → k < length asked → (marks : List ℕ) (found : Option Dispute) →
      AreJudged job (take (turn_of asked k (length requests)) requests) asked marks k found →
      AreJudged job (take (store_at asked k).processor requests) asked marks k found
  judged_at k inside marks found =
      subst (λ n. AreJudged job (take n requests) asked marks k found) (turn_inside k inside)

  -- and after it
  pub judged_next : (k : ℕ) → k < length asked → (marks : List ℕ) (found : Option Dispute) →
      AreJudged job (take ((store_at asked k).processor + 1) requests) asked marks (k + 1) found →
      AreJudged job (take (turn_of asked (k + 1) (length requests)) requests) asked marks (k + 1)
      found
  judged_next k inside marks found = asked_next
      (λ n. AreJudged job (take n requests) asked marks (k + 1) found)
      (judged_quiet marks (k + 1) found) k inside

  -- and at the end
  pub judged_all : (k : ℕ) → length asked ≤ k → (marks : List ℕ) (found : Option Dispute) →
      AreJudged job (take (turn_of asked k (length requests)) requests) asked marks k found →
      IsVerdict job requests found
  judged_all k past marks found are' =
      subst (λ rs. IsVerdict job rs found) (take_all (length requests) requests (omega arith))
      (subst (λ n. AreJudged job (take n requests) asked marks k found) (turn_past k past)
      are').verdict

-- rule priority forbids nothing
pub IsVerdict_priority : (job : JobData) (requests : List Request) → job.rule ≡ Priority →
    IsVerdict job requests None
IsVerdict_priority job requests is = λ cell i j clash.
    subst (λ rule. Forbids rule i clash.value j clash.other) is clash.forbidden
