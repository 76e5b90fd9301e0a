-- What an answer tells, and what stands at the front of a buffer.
use Rattle.std.specs.Prelude.{◌≡◌, ◌++◌, ℕ, List, length, take, drop, slice_index}
use Rattle.library_core.specs.declared.answer.Answer.{Answer}

-- The items stand at the front of the buffer, as many as there is room for; the rest is as it was.
abbrev pub front_of : {A : Type 0} → (items buffer : List A) → List A
front_of items buffer = take (length buffer) items ++ drop (length items) buffer

-- The answer tells this, and its texts end with a 0. It has the size that it had.
pub record IsFilled (subject size line : ℕ) (answer answer' : Answer) : Type 0 where
  pub sized : answer'.size ≡ answer.size
  pub subject_is : answer'.subject ≡ subject
  pub length_is : answer'.length ≡ size
  pub line_is : answer'.line ≡ line
  pub reserved : answer'.reserved ≡ 0
  pub kind_ends : slice_index answer'.kind 31 ≡ 0
  pub sentence_ends : slice_index answer'.sentence 159 ≡ 0
