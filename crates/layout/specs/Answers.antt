-- What each answer tells, in the papers' terms: the number of 01's table, 0 for done, and the values beside it.
-- 01, When a call says no: "A refusal returns its number, with count, size, index, report and number zero and any part
-- empty .. 'None' and 'absent' are said beside answer 0, with the same zeros and empty part".
-- proofs/Answers shows that nothing is lost: from what is told the answer is had back.
use Rattle.std.specs.Prelude.{ℕ, Bool, true, false, ℤ, pos, Option, Some, None, Result, Ok, Err}
use Rattle.layout.specs.declared.answer.Refusal.{Refusal}
use Rattle.layout.specs.declared.answer.Checked.{Checked}
use Rattle.layout.specs.declared.answer.Told.{Told}
use Rattle.layout.specs.declared.answer.Edited.{Edited}

-- the number of a refusal, in 01's table
abbrev pub number_of : Refusal → ℕ
number_of Refusal.BadSize = 1
number_of Refusal.Torn = 2
number_of Refusal.BadPrevious = 3
number_of Refusal.NotPlain = 4
number_of Refusal.UnknownEncoding = 5
number_of Refusal.BadTail = 6
number_of Refusal.BadCount = 7
number_of Refusal.NoSuchPosition = 8
number_of Refusal.OverLimit = 9
number_of Refusal.OverBuffer = 10
number_of Refusal.ShortOutput = 11

abbrev pub Answer : Type 0 → Type 0
Answer A = Result A Refusal

-- what an answer tells: 0 beside what was found, or the refusal's number beside zeros
abbrev pub telling : {A R T : Type 0} → (R → ℕ) → (A → T) → (ℕ → T) → Result A R → T
telling number done refused (Ok a) = done a
telling number done refused (Err r) = refused (number r)

-- ---- a check

pub record Check : Type 0 where
  pub number : ℕ
  pub count : ℕ
  pub size : ℕ

abbrev pub check_good : ℕ → ℕ → Check
check_good n z = record { number = 0; count = n; size = z }

abbrev pub check_refused : ℕ → Check
check_refused k = record { number = k; count = 0; size = 0 }

abbrev pub check_checked : Checked → Check
check_checked c = check_good c.count c.size

abbrev pub check_of : Answer Checked → Check
check_of = telling number_of check_checked check_refused

-- ---- a count

pub record Count : Type 0 where
  pub number : ℕ
  pub count : ℕ

abbrev pub count_good : ℕ → Count
count_good n = record { number = 0; count = n }

abbrev pub count_refused : ℕ → Count
count_refused k = record { number = k; count = 0 }

abbrev pub count_of : Answer ℕ → Count
count_of = telling number_of count_good count_refused

-- ---- a step or a search: whether "none" or "absent" is said, and the position

pub record Place : Type 0 where
  pub number : ℕ
  pub none : Bool
  pub index : ℕ

abbrev pub place_at : ℕ → Place
place_at i = record { number = 0; none = false; index = i }

abbrev pub place_none : Place
place_none = record { number = 0; none = true; index = 0 }

abbrev pub place_refused : ℕ → Place
place_refused k = record { number = k; none = false; index = 0 }

abbrev pub place_found : Option ℕ → Place
place_found (Some i) = place_at i
place_found None = place_none

abbrev pub place_of : Answer (Option ℕ) → Place
place_of = telling number_of place_found place_refused

-- ---- reading an entry: its position, whether it is text, the number, and the text's length

pub record Content : Type 0 where
  pub number : ℕ
  pub index : ℕ
  pub text : Bool
  pub value : ℤ
  pub length : ℕ

abbrev pub content_number : ℕ → ℤ → Content
content_number i z = record { number = 0; index = i; text = false; value = z; length = 0 }

abbrev pub content_text : ℕ → ℕ → Content
content_text i n = record { number = 0; index = i; text = true; value = pos 0; length = n }

abbrev pub content_refused : ℕ → Content
content_refused k = record { number = k; index = 0; text = false; value = pos 0; length = 0 }

abbrev pub content_told : Told → Content
content_told (Told.Number i z) = content_number i z
content_told (Told.Text i n) = content_text i n

abbrev pub content_of : Answer Told → Content
content_of = telling number_of content_told content_refused

-- ---- an edit

pub record Change : Type 0 where
  pub number : ℕ
  pub size : ℕ
  pub report : ℕ

abbrev pub change_done : ℕ → ℕ → Change
change_done z n = record { number = 0; size = z; report = n }

abbrev pub change_refused : ℕ → Change
change_refused k = record { number = k; size = 0; report = 0 }

abbrev pub change_edited : Edited → Change
change_edited e = change_done e.size e.report

abbrev pub change_of : Answer Edited → Change
change_of = telling number_of change_edited change_refused
