-- The records of judged submissions, one after the other.
use Rattle.std.proofs.Common.{◌≡◌, ◌∙◌, ◌+◌, ◌<◌, ◌≤◌, ℕ, List, [], ◌∷◌, ◌++◌}
use Rattle.std.proofs.Common.{ap, append_assoc, arith, get_or, length, max, refl, subst}
use Rattle.std.proofs.Common.{codes, sym, take}
use Rattle.std.proofs.lemmas.List.{append-nil, map-append, take_all, take_more}
use Rattle.std.specs.Borrow.{Bor}
use Rattle.clap.specs.Words.{Text}
use Rattle.exercise_judge.specs.Trials.{TrialData}
use Rattle.exercise_words.specs.Records.{AreRecords, IsSaidOf, header_and_records, file_record}
use Rattle.exercise_words.specs.Records.{passed_status}
use Rattle.exercise_words.specs.declared.said.Said.{Said}
use Rattle.command_answers.proofs.Texts.{texts_of}

module _ (Gives : List ℕ → List ℕ → Type 0) (trials : List TrialData) where
  -- one record more after others
  records_next : (files : List Text) (file : Text) (said : Said) (bytes : List ℕ) (status : ℕ) →
      AreRecords Gives trials files bytes status → IsSaidOf Gives trials file said →
      AreRecords Gives trials (files ++ file ∷ []) (bytes ++ file_record file said)
      (max status (passed_status said.passed))
  records_next [] file said bytes status so_far is = (
    said,
    [],
    0,
    is,
    (refl, refl),
    (let e : bytes ++ file_record file said ≡ file_record file said ++ [] =
        rw so_far.0 (sym (append-nil (file_record file said))) in e),
    (let e : max status (passed_status said.passed) ≡ max (passed_status said.passed) 0 =
        rw so_far.1 (omega arith) in e),
  )
  records_next (first ∷ files) file said bytes status
      (head, rest, later, one, others, same, most) is =
      let more = records_next files file said rest later others is in (
        head,
        rest ++ file_record file said,
        max later (passed_status said.passed),
        one,
        more,
        ap (λ b. b ++ file_record file said) same
            ∙ append_assoc (file_record first head) rest (file_record file said),
        (let e : max status (passed_status said.passed)
            ≡ max (passed_status head.passed) (max later (passed_status said.passed)) =
            rw most (omega arith) in e),
      )

  -- the records so far
  pub records_more : (files : List (Bor Text)) (at : ℕ) (d : Bor Text) (said : Said)
      (bytes : List ℕ) (status : ℕ) → at < length files →
      AreRecords Gives trials (texts_of (take at files)) bytes status →
      IsSaidOf Gives trials (get_or files at d).now said →
      AreRecords Gives trials (texts_of (take (at + 1) files))
      (bytes ++ file_record (get_or files at d).now said) (max status (passed_status said.passed))
  records_more files at d said bytes status within so_far is =
      let file = (get_or files at d).now in
      let texts : texts_of (take (at + 1) files) ≡ texts_of (take at files) ++ file ∷ [] =
      ap texts_of (take_more files at d within)
      ∙ map-append (λ (word : Bor Text). word.now) (take at files) (get_or files at d ∷ []) in
      subst (λ (all : List Text). AreRecords Gives trials all (bytes ++ file_record file said)
      (max status (passed_status said.passed))) (sym texts)
      (records_next (texts_of (take at files)) file said bytes status so_far is)

  -- and written after a header
  pub records_made : (files : List (Bor Text)) (at : ℕ) (d : Bor Text) (said : Said) (status : ℕ)
      (old new : List ℕ) → at < length files →
      ((records : List ℕ) × AreRecords Gives trials (texts_of (take at files)) records status
      × (old ≡ header_and_records records)) → IsSaidOf Gives trials (get_or files at d).now said →
      new ≡ old ++ file_record (get_or files at d).now said →
      (records : List ℕ) × AreRecords Gives trials (texts_of (take (at + 1) files)) records
      (max status (passed_status said.passed)) × (new ≡ header_and_records records)
  records_made files at d said status old new within (records, so_far, text) is written =
      let one = file_record (get_or files at d).now said in (
        records ++ one,
        records_more files at d said records status within so_far is,
        written ∙ ap (λ (bytes : List ℕ). bytes ++ one) text
            ∙ append_assoc (codes "file,passed,input,what\n") records one,
      )

  pub records_all : (files : List (Bor Text)) (at : ℕ) (bytes : List ℕ) (status : ℕ) →
      length files ≤ at → AreRecords Gives trials (texts_of (take at files)) bytes status →
      AreRecords Gives trials (texts_of files) bytes status
  records_all files at bytes status over all =
      subst (λ (l : List (Bor Text)). AreRecords Gives trials (texts_of l) bytes status)
      (take_all at files over) all
