-- What an answer tells loses nothing: the answer is had back from what it tells.
use Rattle.std.proofs.Common.{◌≡◌, ◌≢◌, refl, ℕ, suc, ◌-◌, List, [], ◌∷◌, get_or, eqb, Option, Some, None, Result, Ok, Err, arith, ne_eqb}
use Rattle.layout.specs.Bytes.{pick}
use Rattle.layout.specs.Answers.{number_of, Answer, telling, Check, check_checked, check_refused, check_of, Count, count_good, count_refused, count_of}
use Rattle.layout.specs.Answers.{Place, place_found, place_refused, place_of, Content, content_told, content_refused, content_of}
use Rattle.layout.specs.Answers.{Change, change_edited, change_refused, change_of}
use Rattle.layout.specs.declared.answer.Refusal.{Refusal}
use Rattle.layout.specs.declared.answer.Checked.{Checked}
use Rattle.layout.specs.declared.answer.Told.{Told}
use Rattle.layout.specs.declared.answer.Edited.{Edited}

-- ---- refusals that are told by a number

-- none has the number 0, and each is had back from its own
pub record Numbered (R : Type 0) : Type 0 where
  pub number : R → ℕ
  pub refusal : ℕ → R
  pub some : (r : R) → number r ≢ 0
  pub back : (r : R) → refusal (number r) ≡ r

-- the refusals of this crate, in the order of their numbers
refusals : List Refusal
refusals =
    Refusal.BadSize ∷ Refusal.Torn ∷ Refusal.BadPrevious ∷ Refusal.NotPlain ∷ Refusal.UnknownEncoding ∷ Refusal.BadTail ∷ Refusal.BadCount
    ∷ Refusal.NoSuchPosition ∷ Refusal.OverLimit ∷ Refusal.OverBuffer ∷ Refusal.ShortOutput ∷ []

some_is : (r : Refusal) → number_of r ≢ 0
some_is r = grind arith

back_is : (r : Refusal) → get_or refusals (number_of r - 1) Refusal.ShortOutput ≡ r
unfolding refusals
back_is r = grind arith

pub numbered : Numbered Refusal
numbered = record { number = number_of; refusal = λ n. get_or refusals (n - 1) Refusal.ShortOutput; some = some_is; back = back_is }

-- and any number above 0, each told by itself
pub positive : Numbered ℕ
positive = record { number = λ n. suc n; refusal = λ n. n - 1; some = λ n e. cc; back = λ n. omega arith }

-- ---- each kind of answer: the one that tells t, and that it is had back, whatever refusals there are

module _ {R : Type 0} (N : Numbered R) where
  -- what was done where the number is 0, and else the refusal with it
  answered : {A : Type 0} → ℕ → A → Result A R
  answered n done = pick (eqb n 0) (Ok done) (Err (N.refusal n))

  refused_back : {A : Type 0} (done : A) (r : R) → answered (N.number r) done ≡ Err r
  unfolding answered
  refused_back done r = rw (ne_eqb (N.number r) 0 (N.some r), N.back r)

  pub checked_of : Check → Result Checked R
  checked_of t = answered t.number (record { count = t.count; size = t.size })

  pub checked_again : (a : Result Checked R) → checked_of (telling N.number check_checked check_refused a) ≡ a
  unfolding checked_of answered
  checked_again (Ok c) = refl
  checked_again (Err r) = refused_back _ r

  pub counted_of : Count → Result ℕ R
  counted_of t = answered t.number t.count

  pub counted_again : (a : Result ℕ R) → counted_of (telling N.number count_good count_refused a) ≡ a
  unfolding counted_of answered
  counted_again (Ok n) = refl
  counted_again (Err r) = refused_back _ r

  pub found_of : Place → Result (Option ℕ) R
  found_of t = answered t.number (pick t.none None (Some t.index))

  pub found_again : (a : Result (Option ℕ) R) → found_of (telling N.number place_found place_refused a) ≡ a
  unfolding found_of answered
  found_again (Ok (Some i)) = refl
  found_again (Ok None) = refl
  found_again (Err r) = refused_back _ r

  pub told_of : Content → Result Told R
  told_of t = answered t.number (pick t.text (Told.Text t.index t.length) (Told.Number t.index t.value))

  pub told_again : (a : Result Told R) → told_of (telling N.number content_told content_refused a) ≡ a
  unfolding told_of answered
  told_again (Ok (Told.Number i z)) = refl
  told_again (Ok (Told.Text i n)) = refl
  told_again (Err r) = refused_back _ r

  pub edited_of : Change → Result Edited R
  edited_of t = answered t.number (record { size = t.size; report = t.report })

  pub edited_again : (a : Result Edited R) → edited_of (telling N.number change_edited change_refused a) ≡ a
  unfolding edited_of answered
  edited_again (Ok e) = refl
  edited_again (Err r) = refused_back _ r

-- ---- the same of the answers of this crate

pub checked_back : (a : Answer Checked) → checked_of numbered (check_of a) ≡ a
unfolding numbered
checked_back a = checked_again numbered a

pub counted_back : (a : Answer ℕ) → counted_of numbered (count_of a) ≡ a
unfolding numbered
counted_back a = counted_again numbered a

pub found_back : (a : Answer (Option ℕ)) → found_of numbered (place_of a) ≡ a
unfolding numbered
found_back a = found_again numbered a

pub told_back : (a : Answer Told) → told_of numbered (content_of a) ≡ a
unfolding numbered
told_back a = told_again numbered a

pub edited_back : (a : Answer Edited) → edited_of numbered (change_of a) ≡ a
unfolding numbered
edited_back a = edited_again numbered a

-- ---- two answers that tell the same are one

pub told_apart : {A T : Type 0} (tell : A → T) (back : T → A) (a b : A)
    → back (tell a) ≡ a → back (tell b) ≡ b → tell a ≡ tell b → a ≡ b
told_apart tell back a b p q e = cc
