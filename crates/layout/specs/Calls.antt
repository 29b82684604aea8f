-- What the reading calls answer, by what the bytes are read as, whatever the layout.
-- 01, What the calls answer: "Positions count from 0. Get takes -n to n - 1 for n entries; -1 is the last", to "Absent is said
-- only of a good list"; "Any position, start or count outside these bounds, find's start included, is 8".
use Rattle.std.specs.Prelude.{ℕ, zero, suc, ◌+◌, ◌-◌, ◌||◌, List, [], ◌∷◌, ◌++◌, length, drop, get_or, ltb, leb, ℤ, pos, negsuc, None, Some}
use Rattle.layout.specs.Bytes.{Bytes, same, pick}
use Rattle.layout.specs.Number.{number}
use Rattle.layout.specs.Entry.{Value}
use Rattle.layout.specs.Ziplist.{Reading, refused, values}
use Rattle.layout.specs.Answers.{Check, check_good, check_refused, Count, count_good, count_refused}
use Rattle.layout.specs.Answers.{Place, place_at, place_none, place_refused}
use Rattle.layout.specs.Answers.{Content, content_number, content_text, content_refused}

-- a refused list answers its number; a good one what f makes of its values
abbrev pub answer : {X : Type 0} → (ℕ → X) → (List Value → X) → Reading → X
answer deny f (refused k at) = deny k
answer deny f (values vs) = f vs

-- the same, where position i must be below the number of values: else 8
abbrev pub answer_at : {X : Type 0} → (ℕ → X) → ℕ → (List Value → X) → Reading → X
answer_at deny i f = answer deny λ vs. pick (ltb i (length vs)) (f vs) (deny 8)

-- ---- the whole list

-- of a list of so many bytes
abbrev pub check : ℕ → Reading → Check
check size = answer check_refused λ vs. check_good (length vs) size

abbrev pub count : Reading → Count
count = answer count_refused λ vs. count_good (length vs)

-- ---- steps

-- the position before the end, or none at the front
abbrev pub before : ℕ → Place
before zero = place_none
before (suc i) = place_at i

-- position i, or none at the end of n
abbrev pub within : ℕ → ℕ → Place
within n i = pick (ltb i n) (place_at i) place_none

abbrev pub first : Reading → Place
first = answer place_refused λ vs. within (length vs) 0

abbrev pub last : Reading → Place
last = answer place_refused λ vs. before (length vs)

abbrev pub next : ℕ → Reading → Place
next i = answer_at place_refused i λ vs. within (length vs) (i + 1)

abbrev pub previous : ℕ → Reading → Place
previous i = answer_at place_refused i λ vs. before i

-- the positions that a walk visits, f of them at most: from a place on, each by a step from the one before, until there is none
unfoldable pub visits : (ℕ → Place) → ℕ → Place → List ℕ
visits step zero p = []
visits step (suc f) p = let rest = visits step f (step p.index) in pick (p.none || ltb 0 p.number) [] (p.index ∷ rest)

-- ---- values

-- what reading the value v at position i tells
abbrev pub content : ℕ → Value → Content
content i v = elim (number v) [ Some z ↦ content_number i z | None ↦ content_text i (length v) ]

abbrev pub read : ℕ → Reading → Content
read i = answer_at content_refused i λ vs. content i (get_or vs i [])

-- the position that a signed index names among n; n, which is none, if it names none
abbrev pub position : ℕ → ℤ → ℕ
position n (pos i) = i
position n (negsuc i) = pick (ltb i n) (n - suc i) n

abbrev pub get : ℤ → Reading → Content
get z r = answer content_refused (λ vs. read (position (length vs) z) r) r

-- the part of the list that is a text's data: empty for a number and for a refusal
abbrev pub text_of : Value → Bytes
text_of v = elim (number v) [ Some z ↦ [] | None ↦ v ]

abbrev pub part : ℕ → Reading → Bytes
part i = answer_at (λ k. []) i λ vs. text_of (get_or vs i [])

-- a value's bytes put into an output buffer: how many, and every byte of the buffer
pub record Written : Type 0 where
  pub told : Count
  pub bytes : Bytes

abbrev pub write : Bytes → Value → Written
write out v =
    pick (ltb (length out) (length v)) (record { told = count_refused 11; bytes = out })
    (record { told = count_good (length v); bytes = v ++ drop (length v) out })

abbrev pub value : ℕ → Bytes → Reading → Written
value i out = answer_at (λ k. record { told = count_refused k; bytes = out }) i λ vs. write out (get_or vs i [])

-- ---- search

-- from position `at` on, where the next value to look at comes after `wait` others, and each one after it after `skip`
unfoldable pub search : ℕ → ℕ → ℕ → Value → List Value → Place
search skip wait at v [] = place_none
search skip zero at v (w ∷ ws) = let r = search skip skip (at + 1) v ws in pick (same v w) (place_at at) r
search skip (suc wait) at v (w ∷ ws) = search skip wait (at + 1) v ws

abbrev pub find : ℕ → ℕ → Value → Reading → Place
find start skip v = answer place_refused λ vs. pick (leb start (length vs)) (search skip start 0 v vs) (place_refused 8)
