-- What a read of a record leaves of a text.
use Rattle.std.proofs.Common.{◌≡◌, ◌∙◌, ℕ, ◌+◌, ◌<◌, ◌≤◌, Bool, true, false, List}
use Rattle.std.proofs.Common.{[], ◌∷◌, ◌++◌, Option, Some, None, length, refl, sym}
use Rattle.std.proofs.Common.{ap, arith, zero, suc, inl, inr, append_assoc, cond}
use Rattle.std.proofs.Common.{subst, add-one, Result, Ok, Err, IfOk, MatchResult}
use Rattle.std.specs.Result.{IsErrAnd}
use Rattle.std.proofs.lemmas.List.{append-nil, length_push}
use Rattle.std.specs.Prelude.{◌==◌, ◌||◌}
use Rattle.std.proofs.lemmas.Bool.{cases_Bool}
use Rattle.csv.specs.Machine.{Read, ends_at_end, fields_after, in_field, is_end, next_record, step}
use Rattle.csv.specs.Reading.{NextIs, ReadRecord, ReadsNext, default_config, is_bom}
use Rattle.csv.specs.Reading.{pending_of, records_from, records_next, source_of, strip_bom}
use Rattle.csv.specs.declared.parser.Action.{Action}
use Rattle.csv.specs.declared.parser.State.{State}
use Rattle.csv.specs.declared.parser.State.TheVariants as st
use Rattle.csv.specs.declared.reader.Reader.{Reader}
use Rattle.stop_plan.specs.Inner.Reading.{AfterRead, HasReadRecords, bytes_left}
use Rattle.stop_plan.specs.Records.{PlanRecord}

-- a step that ends a record leaves the reader between records
abbrev Settles : State × Action → Type 0
Settles p = is_end p.1 ≡ true → ends_at_end p.0 ≡ false

settles_by : (b : Bool) (p q : State × Action) → Settles p → Settles q → Settles (cond b p q)
settles_by true p q h k = h
settles_by false p q h k = k

never : {P : Type 0} → false ≡ true → P
never e = cc e

after_end_settled : (b : Bool) → ends_at_end (cond b st.AfterCr st.StartRecord) ≡ false
after_end_settled true = refl
after_end_settled false = refl

in_field_settles : (c : ℕ) → Settles (in_field default_config c)
in_field_settles c = settles_by (c == 44) _ _ never
    (settles_by ((c == 13) || (c == 10)) _ _ (λ _. after_end_settled (c == 13)) never)

start_record_settles : (c : ℕ) → Settles (step default_config st.StartRecord c)
start_record_settles c = settles_by ((c == 13) || (c == 10)) _ _ never
    (settles_by (c == 34) _ _ never (in_field_settles c))

step_settles : (s : State) (c : ℕ) → Settles (step default_config s c)
step_settles st.StartRecord c = start_record_settles c
step_settles st.StartField c = settles_by (c == 34) _ _ never (in_field_settles c)
step_settles st.InField c = in_field_settles c
step_settles st.InQuoted c = settles_by (c == 34) _ _ never never
step_settles st.InEscape c = never
step_settles st.AfterQuote c = settles_by (c == 34) _ _ never (in_field_settles c)
step_settles st.InComment c = settles_by (c == 10) _ _ never never
step_settles st.AfterCr c = settles_by (c == 10) _ _ never (start_record_settles c)

-- a record ends between records, and takes a byte where the reader was between records
pub record Shrinks (s : State) (xs : List ℕ) (p : Read) : Type 0 where
  pub settled : ends_at_end p.1 ≡ false
  pub shorter : length p.2 ≤ length xs
  pub strictly : ends_at_end s ≡ false → length p.2 < length xs

shrinks_at_end : (s : State) (b : Bool) (fields : PlanRecord) (p : Read) → ends_at_end s ≡ b →
    cond b (Some (fields, st.StartRecord, [])) None ≡ Some p → Shrinks s [] p
shrinks_at_end s true fields p is e =
    let same : (fields, st.StartRecord, []) ≡ p = cc e in
    subst (λ (q : Read). Shrinks s [] q) same
    (record { settled = refl; shorter = omega arith; strictly = λ settled. cc (sym is ∙ settled) })
shrinks_at_end s false fields p is e = cc e

shrinks_in : (s : State) (c : ℕ) (rest : List ℕ) (fields : PlanRecord) (p : Read) →
    is_end (step default_config s c).1 ≡ true →
    Some (fields, (step default_config s c).0, rest) ≡ Some p → Shrinks s (c ∷ rest) p
shrinks_in s c rest fields p over e =
    let same : (fields, (step default_config s c).0, rest) ≡ p = cc e in
    subst (λ (q : Read). Shrinks s (c ∷ rest) q) same
    (record { settled = step_settles s c over; shorter = omega arith; strictly = λ _. omega arith })

pub shrinks : (s : State) (fields : PlanRecord) (field xs : List ℕ) (p : Read) →
    next_record default_config s fields field xs ≡ Some p → Shrinks s xs p
unfolding next_record
shrinks s fields field [] p e = shrinks_at_end s (ends_at_end s) (fields ++ (field ∷ [])) p refl e
shrinks s fields field (c ∷ rest) p e = elim (cases_Bool (is_end (step default_config s c).1)) [
  | inl over ↦ shrinks_in s c rest
      (fields_after (step default_config s c).1 fields field) p over (rw over at e)
  | inr more ↦
      let tail = shrinks (step default_config s c).0 _ _ rest p (rw more at e) in
      record {
        settled = tail.settled;
        shorter = omega (arith, tail.shorter);
        strictly = λ _. omega (arith, tail.shorter);
      }
]

-- more turns than bytes change nothing
same_next : (m n : ℕ) (s : State) (y : List ℕ) (o : Option Read) →
    next_record default_config s [] [] y ≡ o →
    ((p : Read) → o ≡ Some p →
    records_from default_config m p.1 p.2 ≡ records_from default_config n p.1 p.2) →
    records_next (records_from default_config m) o ≡ records_next (records_from default_config n) o
same_next m n s y None e h = refl
same_next m n s y (Some p) e h = ap (λ (t : List PlanRecord). p.0 ∷ t) (h p refl)

pub records_from-same : (m n : ℕ) (s : State) (y : List ℕ) → ends_at_end s ≡ false → length y < m →
    length y < n → records_from default_config m s y ≡ records_from default_config n s y
unfolding records_from
records_from-same zero n s y settled a b = absurd (omega arith)
records_from-same (suc m) zero s y settled a b = absurd (omega arith)
records_from-same (suc m) (suc n) s y settled a b =
    same_next m n s y _ refl (λ p e.
    let less = shrinks s [] [] y p e in
    let fewer = less.strictly settled in
    records_from-same m n p.1 p.2 less.settled (omega arith) (omega arith))

-- what a known read says of the text before it
found_next : (o : Option Read) (fields : PlanRecord) (s : State) (z : List ℕ) →
    NextIs o true fields s z → o ≡ Some (fields, s, z)
found_next None fields s z h = cc h
found_next (Some p) fields s z h = rw (h.1, h.2, h.3) refl

next_is : (s s2 : State) (y : List ℕ) (k : Option (List ℕ)) (fields : PlanRecord) →
    ReadsNext default_config s (Some y) k true fields s2 →
    (z : List ℕ) × (k ≡ Some z) × (next_record default_config s [] [] y ≡ Some (fields, s2, z))
next_is s s2 y None fields h = absurd h
next_is s s2 y (Some z) fields h = (z, refl, found_next _ fields s2 z h)

none_next : (o : Option Read) (fields : PlanRecord) (s : State) (z : List ℕ) →
    NextIs o false fields s z → o ≡ None
none_next None fields s z h = refl
none_next (Some p) fields s z h = cc h.0

end_is : (s s2 : State) (y : List ℕ) (k : Option (List ℕ)) (fields : PlanRecord) →
    ReadsNext default_config s (Some y) k false fields s2 →
    next_record default_config s [] [] y ≡ None
end_is s s2 y None fields h = absurd h
end_is s s2 y (Some z) fields h = none_next _ fields s2 z h

-- the rest of the records, by the next one
rest_more : (s : State) (y : List ℕ) (p : Read) → ends_at_end s ≡ false →
    next_record default_config s [] [] y ≡ Some p → records_from default_config (length y + 1) s y
    ≡ p.0 ∷ records_from default_config (length p.2 + 1) p.1 p.2
unfolding records_from
rest_more s y p settled e =
    let less = shrinks s [] [] y p e in
    let fewer = less.strictly settled in
    rw (add-one (length y), e)
    (ap (λ (t : List PlanRecord). p.0 ∷ t)
    (records_from-same (length y) (length p.2 + 1) p.1 p.2 less.settled fewer (omega arith)))

rest_end : (s : State) (y : List ℕ) → next_record default_config s [] [] y ≡ None →
    records_from default_config (length y + 1) s y ≡ []
unfolding records_from
rest_end s y e = rw (add-one, e) refl

has_read_more : {R : Type 0} (rem : R → Option (List ℕ)) (text : List ℕ)
    (given : List PlanRecord) (old new : Reader R) (fields : PlanRecord) →
    old.config ≡ default_config →
    (h : HasReadRecords rem text given old) → ReadRecord rem old new true fields →
    HasReadRecords rem text (given ++ (fields ∷ [])) new × (bytes_left rem new < length h.bytes)
has_read_more rem text given old new fields config h r =
    let (z, known, next) = next_is old.state new.state h.bytes
    (pending_of (rem new.rdr) new) fields (rw (config, h.unread) at r.0) in
    let less = shrinks old.state [] [] h.bytes _ next in
    let fewer : length z < length h.bytes = less.strictly h.settled in
    let unread : source_of rem new ≡ Some z = rw r.1 known in (
      record {
        bytes = z;
        unread = unread;
        settled = less.settled;
        rest = h.rest
            ∙ ap (λ (t : List PlanRecord). given ++ t)
            (rest_more old.state h.bytes _ h.settled next)
            ∙ sym (append_assoc given (fields ∷ []) _);
        shorter = rw (length_push given fields) (omega (arith, h.shorter));
      },
      rw unread fewer,
    )

pub after_read : {R : Type 0} (rem : R → Option (List ℕ))
    (text : List ℕ) (given : List PlanRecord) (old new : Reader R) (found : Bool)
    (fields : PlanRecord) →
    old.config ≡ default_config → HasReadRecords rem text given old →
    ReadRecord rem old new found fields →
    AfterRead rem text given new found fields
after_read rem text given old new true fields config h r =
    (has_read_more rem text given old new fields config h r).0
after_read rem text given old new false fields config h r =
    let next = end_is old.state new.state h.bytes
    (pending_of (rem new.rdr) new) fields (rw (config, h.unread) at r.0) in
    h.rest ∙ ap (λ (t : List PlanRecord). given ++ t) (rest_end old.state h.bytes next)
    ∙ append-nil given

pub fewer_left : {R : Type 0} (rem : R → Option (List ℕ)) (text : List ℕ) (given : List PlanRecord)
    (old new : Reader R) (found : Bool) (fields : PlanRecord) → old.config ≡ default_config →
    HasReadRecords rem text given old → ReadRecord rem old new found fields → found ≡ true →
    bytes_left rem new < bytes_left rem old
fewer_left rem text given old new true fields config h r found =
    rw h.unread (has_read_more rem text given old new fields config h r).1
fewer_left rem text given old new false fields config h r found = cc found

strip_bom-le : (text : List ℕ) → length (strip_bom text) ≤ length text
unfolding strip_bom
strip_bom-le [] = omega arith
strip_bom-le (a ∷ []) = omega arith
strip_bom-le (a ∷ b ∷ []) = omega arith
strip_bom-le (a ∷ b ∷ c ∷ rest) =
    elim (is_bom a b c) as (λ v. length (cond v rest (a ∷ b ∷ c ∷ rest))
    ≤ length (a ∷ b ∷ c ∷ rest)) [ true ↦ omega arith | false ↦ omega arith ]

-- a new reader has the whole text before it
pub fresh : {R : Type 0} (rem : R → Option (List ℕ)) (text : List ℕ) (reader : Reader R) →
    source_of rem reader ≡ Some (strip_bom text) →
    reader.state ≡ st.StartRecord → HasReadRecords rem text [] reader
fresh rem text reader source start = record {
  bytes = strip_bom text;
  unread = source;
  settled = rw start refl;
  rest = rw start refl;
  shorter = omega (arith, strip_bom-le text);
}

-- `map_err` keeps what is known of a success
pub mapped : {X E F : Type 0} (r : Result X E) (by : Result X F) (P P' : X → Type 0)
    (Q : E → F → Type 0) → MatchResult r (λ x. by ≡ Ok x) (λ e. IsErrAnd by (Q e)) → IfOk r P →
    ((x : X) → P x → P' x) → IfOk by P'
mapped (Ok x) by P P' Q h p f = rw h (f x p)
mapped (Err e) (Ok y) P P' Q h p f = absurd h
mapped (Err e) (Err d) P P' Q h p f = tt
