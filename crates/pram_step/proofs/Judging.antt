-- One request more: what stays of the marks and of the dispute, and what is new.
use Rattle.std.proofs.Common.{◌≡◌, ◌≢◌, ℕ, ◌+◌, ◌<◌, ◌≤◌, ◌⊎◌, List, length, take, Option}
use Rattle.std.proofs.Common.{Some, None, MatchOption, refl, sym, ◌∙◌, inl, inr, subst, arith}
use Rattle.std.proofs.lemmas.Option.{same_Some, some_pair_parts}
use Rattle.pram_job.specs.Job.{JobData}
use Rattle.pram_job.specs.declared.instr.Rule.{Rule}
use Rattle.pram_job.specs.declared.instr.Rule.TheVariants.{Common, Priority, Crew}
use Rattle.pram_step.specs.declared.answer.Dispute.{Dispute}
use Rattle.pram_machine.specs.declared.requests.Request.{Request}
use Rattle.pram_step.specs.Steps.{written, Writes, WritesCell, Clashes, IsDispute, IsVerdict}
use Rattle.pram_step.specs.Disputes.{Forbids}
use Rattle.pram_step.specs.Inner.Marks.{PutsValue, PutsFirst, PutsNone}
use Rattle.pram_step.proofs.RequestList.{request_at, slice_get_below, slice_get_last}
use Rattle.pram_step.proofs.RequestList.{slice_get_earlier, slice_get_more, Puts-from_Writes}
use Rattle.pram_step.proofs.RequestList.{Writes-from_Puts, put_of_written, written_of_put}

-- ---- what the rules forbid

Forbids_both_ways : (rule : Rule) (i v j w : ℕ) → Forbids rule i v j w → Forbids rule j w i v
Forbids_both_ways Common i v j w h = λ e. h (sym e)
Forbids_both_ways Priority i v j w h = h
Forbids_both_ways Crew i v j w h = λ e. h (sym e)

Forbids_self : (rule : Rule) (i v w : ℕ) → v ≡ w → Forbids rule i v i w → ⊥
Forbids_self Common i v w e h = h e
Forbids_self Priority i v w e h = h
Forbids_self Crew i v w e h = h refl

-- where processor m may write beside n, whoever may not write beside n may not write beside m
-- either
Forbids_through : (rule : Rule) (m w n v k u : ℕ) → m ≢ n → (Forbids rule m w n v → ⊥) →
    Forbids rule n v k u → Forbids rule m w k u
Forbids_through Common m w n v k u apart may h = λ same. may (λ e. h (sym e ∙ same))
Forbids_through Priority m w n v k u apart may h = h
Forbids_through Crew m w n v k u apart may h = absurd (may apart)

-- the last request clashes at the cell with an earlier one
pub record ClashesNow (job : JobData) (requests : List Request) (m cell : ℕ) : Type 0 where
  pub value : ℕ
  pub beside : ℕ
  pub other : ℕ
  pub now : written job cell m (request_at requests m) ≡ Some value
  pub writes : Writes job (take m requests) cell beside other
  pub forbidden : Forbids job.rule m value beside other

module _ (requests : List Request) (m : ℕ) (inside : m < length requests) (job : JobData) where
  -- an old write is there still
  Writes_more : (p i v : ℕ) → Writes job (take m requests) p i v →
      Writes job (take (m + 1) requests) p i v
  Writes_more p i v w = record {
    request = w.request;
    request_is = slice_get_more requests m inside i w.request w.request_is;
    writes = w.writes;
  }

  Writes_last : (p v : ℕ) → written job p m (request_at requests m) ≡ Some v →
      Writes job (take (m + 1) requests) p m v
  Writes_last p v h = record {
    request = request_at requests m;
    request_is = slice_get_last requests m inside;
    writes = h;
  }

  -- a write is an old one, or that of the last processor
  Writes_split : (p i v : ℕ) → Writes job (take (m + 1) requests) p i v →
      (Writes job (take m requests) p i v)
      ⊎ ((i ≡ m) × (written job p m (request_at requests m) ≡ Some v))
  Writes_split p i v w =
      elim (slice_get_earlier requests m inside i w.request w.request_is) [
        | inl old ↦ inl (record { request = w.request; request_is = old; writes = w.writes })
        | inr new ↦ inr (
          new.0,
          subst (λ k. written job p k (request_at requests m) ≡ Some v) new.0
              (subst (λ q. written job p i q ≡ Some v) (sym new.1) w.writes),
        )
      ]

  Writes_below : (p i v : ℕ) → Writes job (take m requests) p i v → i < m
  Writes_below p i v w = slice_get_below requests m inside i w.request w.request_is

  Clashes_more : (cell i j : ℕ) → Clashes job (take m requests) cell i j →
      Clashes job (take (m + 1) requests) cell i j
  Clashes_more cell i j c = record {
    value = c.value;
    other = c.other;
    writes = (c.writes.0, Writes_more cell i c.value c.writes.1);
    writes_too = (c.writes.0, Writes_more cell j c.other c.writes_too.1);
    forbidden = c.forbidden;
  }

  Clashes_split : (cell i j : ℕ) → Clashes job (take (m + 1) requests) cell i j →
      (Clashes job (take m requests) cell i j) ⊎ ClashesNow job requests m cell
  Clashes_split cell i j c =
      elim (Writes_split cell i c.value c.writes.1) [
        | inl old ↦
            elim (Writes_split cell j c.other c.writes_too.1) [
              | inl old' ↦ inl (record {
                value = c.value;
                other = c.other;
                writes = (c.writes.0, old);
                writes_too = (c.writes.0, old');
                forbidden = c.forbidden;
              })
              | inr new ↦
                  inr (record {
                    value = c.other;
                    beside = i;
                    other = c.value;
                    now = new.1;
                    writes = old;
                    forbidden = subst (λ k. Forbids job.rule k c.other i c.value) new.0
                        (Forbids_both_ways job.rule i c.value j c.other c.forbidden);
                  })
            ]
        | inr new ↦ elim (Writes_split cell j c.other c.writes_too.1) [
          | inl old ↦
              inr (record {
                value = c.value;
                beside = j;
                other = c.other;
                now = new.1;
                writes = old;
                forbidden = subst (λ k. Forbids job.rule k c.value j c.other) new.0 c.forbidden;
              })
          | inr new' ↦
              absurd (Forbids_self job.rule i c.value c.other
              (same_Some c.value c.other (sym new.1 ∙ new'.1))
              (subst (λ k. Forbids job.rule i c.value k c.other) (new'.0 ∙ sym new.0) c.forbidden))
        ]
      ]

  -- two earlier processors clashed (take m requests)
  Clashes_old : (cell i j : ℕ) → Clashes job (take (m + 1) requests) cell i j → i < m → j < m →
      Clashes job (take m requests) cell i j
  Clashes_old cell i j c low low' = record {
    value = c.value;
    other = c.other;
    writes = (
      c.writes.0,
      elim (Writes_split cell i c.value c.writes.1) [
        | inl old ↦ old
        | inr new ↦ absurd (omega (arith, new.0))
      ],
    );
    writes_too = (
      c.writes.0,
      elim (Writes_split cell j c.other c.writes_too.1) [
        | inl old ↦ old
        | inr new ↦ absurd (omega (arith, new.0))
      ],
    );
    forbidden = c.forbidden;
  }

  -- the verdict stands if whatever the last request clashes at is no lesser cell than the dispute's
  pub IsVerdict_stays : (found : Option Dispute) → IsVerdict job (take m requests) found →
      ((cell : ℕ) → cell < job.cells → ClashesNow job requests m cell →
      MatchOption found ⊥ (λ d. d.cell ≤ cell)) → IsVerdict job (take (m + 1) requests) found
  IsVerdict_stays None agrees later = λ cell i j c. elim (Clashes_split cell i j c) [
    | inl old ↦ agrees cell i j old
    | inr now ↦ later cell c.writes.0 now
  ]
  IsVerdict_stays (Some d) dispute later = record {
    clash = Clashes_more d.cell d.first d.second dispute.clash;
    least_cell = λ cell i j c. elim (Clashes_split cell i j c) [
      | inl old ↦ dispute.least_cell cell i j old
      | inr now ↦ later cell c.writes.0 now
    ];
    least_first = λ i v w. elim (Writes_split d.cell i v w.1) [
      | inl old ↦ dispute.least_first i v (w.0, old)
      | inr new ↦
          let below = Writes_below d.cell d.first dispute.clash.value dispute.clash.writes.1 in
          omega arith
    ];
    least_second = λ j c. elim (Writes_split d.cell j c.other c.writes_too.1) [
      | inl old ↦ dispute.least_second j (Clashes_old d.cell d.first j c (Writes_below d.cell
          d.first dispute.clash.value dispute.clash.writes.1) (Writes_below d.cell j c.other old))
      | inr new ↦
          let below = Writes_below d.cell d.second dispute.clash.other dispute.clash.writes_too.1 in
          omega arith
    ];
  }

  -- ---- the ways that the last request can go

  -- it has no data for a cell
  pub IsVerdict_no_cell : (found : Option Dispute) →
      ((cell v : ℕ) → cell < job.cells → (request_at requests m).put ≡ Some (cell, v) → ⊥) →
      IsVerdict job (take m requests) found → IsVerdict job (take (m + 1) requests) found
  IsVerdict_no_cell found none verdict =
      IsVerdict_stays found verdict (λ cell low now. absurd (none cell now.value low
      (put_of_written job cell m now.value (request_at requests m) low now.now)))

  -- it is the first to write to its cell
  pub IsVerdict_first :
      (found : Option Dispute) (cell v : ℕ)
      → (request_at requests m).put ≡ Some (cell, v)
      → PutsNone (take m requests) cell
      → IsVerdict job (take m requests) found
      → IsVerdict job (take (m + 1) requests) found
  IsVerdict_first found cell v puts first verdict = IsVerdict_stays found verdict (λ cell' low now.
      let same = (some_pair_parts cell cell' v now.value
      (sym puts ∙ put_of_written job cell' m now.value (request_at requests m) low now.now)).0 in
      absurd (first now.beside now.other
      (subst (λ c. PutsValue (take m requests) c now.beside now.other) (sym same)
      (Puts-from_Writes job (take m requests) cell' now.beside now.other low now.writes))))

  module _ (cell v first w : ℕ) (is_cell : cell < job.cells)
      (puts : (request_at requests m).put ≡ Some (cell, v))
      (earlier : PutsFirst (take m requests) cell first w) where
    -- a clash of the last processor is at this cell, with this value
    is_here : (cell' : ℕ) → cell' < job.cells → (now : ClashesNow job requests m cell') →
        (cell ≡ cell') × (v ≡ now.value)
    is_here cell' low now = some_pair_parts cell cell' v now.value
        (sym puts ∙ put_of_written job cell' m now.value (request_at requests m) low now.now)

    first_below : first < m
    first_below =
        slice_get_below requests m inside first earlier.puts.request earlier.puts.request_is

    first_apart : first ≢ m
    first_apart e = omega (arith, first_below)

    first_writes : Writes job (take m requests) cell first w
    first_writes = Writes-from_Puts job (take m requests) cell first w is_cell earlier.puts

    -- where the rule allows it beside the least writer, a clash with another is one of that writer
    -- with the other
    clashed_before : ((k n : ℕ) → k ≢ n → Forbids job.rule k w n v → ⊥) →
        (cell' : ℕ) → cell' < job.cells → (now : ClashesNow job requests m cell') →
        Clashes job (take m requests) cell' first now.beside
    clashed_before may cell' low now =
        let here = is_here cell' low now in
        let forbidden =
        subst (λ u. Forbids job.rule m u now.beside now.other) (sym here.1) now.forbidden in
        record {
          value = w;
          other = now.other;
          writes = (low, subst (λ c. Writes job (take m requests) c first w) here.0 first_writes);
          writes_too = (low, now.writes);
          forbidden = Forbids_through job.rule first w m v now.beside now.other first_apart
              (may first m first_apart) forbidden;
        }

    -- the rule allows it beside the cell's least writer
    pub IsVerdict_allowed :
        (found : Option Dispute) → ((k n : ℕ) → k ≢ n → Forbids job.rule k w n v → ⊥) →
        IsVerdict job (take m requests) found → IsVerdict job (take (m + 1) requests) found
    IsVerdict_allowed None may agrees =
        IsVerdict_stays None agrees
        (λ cell' low now. agrees cell' first now.beside (clashed_before may cell' low now))
    IsVerdict_allowed (Some d) may dispute =
        IsVerdict_stays (Some d) dispute (λ cell' low now.
        dispute.least_cell cell' first now.beside (clashed_before may cell' low now))

    -- a dispute was found at this cell or a lesser one
    pub IsVerdict_later : (d : Dispute) → d.cell ≤ cell → IsVerdict job (take m requests) (Some d) →
        IsVerdict job (take (m + 1) requests) (Some d)
    IsVerdict_later d lesser dispute = IsVerdict_stays (Some d) dispute (λ cell' low now.
        let here = is_here cell' low now in omega (arith, here.0))

    -- it is a dispute, and none was at this cell or a lesser one before
    new_dispute :
        ((k n : ℕ) → k ≢ n → Forbids job.rule k w n v)
        → ((cell' i j : ℕ) → Clashes job (take m requests) cell' i j → cell < cell')
        → IsDispute job (take (m + 1) requests) (record { cell = cell; first = first; second = m })
    new_dispute forbidden above = record {
      clash = record {
        value = w;
        other = v;
        writes = (is_cell, Writes_more cell first w first_writes);
        writes_too = (
          is_cell,
          Writes_last cell v
              (written_of_put job cell m v (request_at requests m) (λ same. omega arith) puts),
        );
        forbidden = forbidden first m first_apart;
      };
      least_cell = λ cell' i j c.
          elim (Clashes_split cell' i j c) [
            | inl old ↦ let far = above cell' i j old in omega arith
            | inr now ↦ let here = is_here cell' c.writes.0 now in omega (arith, here.0)
          ];
      least_first = λ i u c. elim (Writes_split cell i u c.1) [
        | inl old ↦ earlier.least i u (Puts-from_Writes job (take m requests) cell i u is_cell old)
        | inr new ↦ omega (arith, new.0, first_below)
      ];
      least_second = λ j c. elim (Writes_split cell j c.other c.writes_too.1) [
        | inl old ↦
            let far = above cell first j
            (Clashes_old cell first j c first_below (Writes_below cell j c.other old)) in
            absurd (omega arith)
        | inr new ↦ omega (arith, new.0)
      ];
    }

    pub IsVerdict_new :
        (found : Option Dispute) → ((k n : ℕ) → k ≢ n → Forbids job.rule k w n v) →
        MatchOption found (Unit {0}) (λ d. cell < d.cell) → IsVerdict job (take m requests) found →
        IsVerdict job (take (m + 1) requests)
        (Some (record { cell = cell; first = first; second = m }))
    IsVerdict_new None forbidden lesser agrees =
        new_dispute forbidden (λ cell' i j c. absurd (agrees cell' i j c))
    IsVerdict_new (Some d) forbidden lesser dispute =
        new_dispute forbidden (λ cell' i j c.
        let least_of_all = dispute.least_cell cell' i j c in omega arith)
