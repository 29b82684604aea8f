-- A search's answer is the first equal value among those it looks at; where it says absent, none of them is equal.
use Rattle.std.proofs.Common.{◌≡◌, refl, sym, ap, ◌≢◌, ℕ, zero, suc, ◌+◌, ◌*◌, ◌<◌, arith, false, List, [], ◌∷◌, length, get_or}
use Rattle.layout.specs.Bytes.{same}
use Rattle.layout.specs.Entry.{Value}
use Rattle.layout.specs.Answers.{place_at, place_none}
use Rattle.layout.specs.Calls.{search}
use Rattle.layout.proofs.Picks.{by_test}
use Rattle.layout.proofs.Bytes.{same_is}

-- the positions looked at: start, start + skip + 1, and so on
unfoldable pub looked : ℕ → ℕ → ℕ → ℕ
looked skip start j = start + j * (skip + 1)

-- from one position on
looked_suc : (skip start j : ℕ) → looked skip (suc start) j ≡ suc (looked skip start j)
unfolding looked
looked_suc skip start j = omega arith

looked_next : (skip j : ℕ) → looked skip 0 (suc j) ≡ suc (looked skip skip j)
unfolding looked
looked_next skip j = omega arith

-- i is the turn's position, the value there is v, and no value looked at before is
pub record First (skip start : ℕ) (v : Value) (vs : List Value) (i : ℕ) : Type 0 where
  pub turn : ℕ
  pub place : i ≡ looked skip start turn
  pub inside : i < length vs
  pub equal : get_or vs i [] ≡ v
  pub none_before : (j : ℕ) → j < turn → get_or vs (looked skip start j) [] ≢ v

-- no value looked at is v
abbrev pub Absent : ℕ → ℕ → Value → List Value → Type 0
Absent skip start v vs = (j : ℕ) → looked skip start j < length vs → get_or vs (looked skip start j) [] ≢ v

module _ (skip : ℕ) (v : Value) where
  -- another value at the front: none looked at is v where none is behind it
  not_first : (w : Value) (ws : List Value) → same v w ≡ false → (j : ℕ)
      → ((k : ℕ) → j ≡ suc k → get_or ws (looked skip skip k) [] ≢ v) → get_or (w ∷ ws) (looked skip 0 j) [] ≢ v
  unfolding looked
  not_first w ws b zero h = let z : looked skip 0 0 ≡ 0 = omega arith in rw z λ e. cc ((same_is v v).1 refl)
  not_first w ws b (suc j) h = rw (looked_next skip j) (h j refl)

  -- the same where the values looked at start one further
  found_from : (wait at : ℕ) (ws : List Value) (i : ℕ) → search skip wait at v ws ≡ place_at i
      → (x : ℕ) × (i ≡ at + x) × First skip wait v ws x
  unfolding search looked
  found_from wait at [] i e = grind arith
  found_from zero at (w ∷ ws) i e =
      by_test (same v w)
      (λ b. (
        0,
        grind arith,
        record {
          turn = 0;
          place = omega arith;
          inside = omega arith;
          equal = sym ((same_is v w).0 b);
          none_before = λ j l. absurd (omega arith);
        },
      ))
      λ b. let (x, y, F) = found_from skip (at + 1) ws i (rw b at e) in (
        suc x,
        omega arith,
        record {
          turn = suc F.turn;
          place = omega arith;
          inside = omega (arith, F.inside);
          equal = F.equal;
          none_before = λ j l. not_first w ws b j λ k m. F.none_before k (omega arith);
        },
      )
  found_from (suc wait) at (w ∷ ws) i e =
      let (x, y, F) = found_from wait (at + 1) ws i e in (
        suc x,
        omega arith,
        record {
          turn = F.turn;
          place = omega arith;
          inside = omega (arith, F.inside);
          equal = F.equal;
          none_before = λ j l. rw (looked_suc skip wait j) (F.none_before j l);
        },
      )

  absent_from : (wait at : ℕ) (ws : List Value) → search skip wait at v ws ≡ place_none → Absent skip wait v ws
  unfolding search looked
  absent_from wait at [] e = λ j l. absurd (omega arith)
  absent_from zero at (w ∷ ws) e =
      by_test (same v w) (λ b. grind arith)
      λ b j l. not_first w ws b j λ k m.
      absent_from skip (at + 1) ws (rw b at e) k (omega (arith, looked_next skip k, ap (looked skip 0) m))
  absent_from (suc wait) at (w ∷ ws) e = λ j l.
      rw (looked_suc skip wait j) (absent_from wait (at + 1) ws e j (omega (arith, looked_suc skip wait j)))

  module _ (start : ℕ) (vs : List Value) where
    -- what is found is the first
    pub found_first : (i : ℕ) → search skip start 0 v vs ≡ place_at i → First skip start v vs i
    found_first i e = let (x, y, F) = found_from start 0 vs i e in let z : x ≡ i = omega arith in rw z at F

    -- what is absent is not there
    pub absent_none : search skip start 0 v vs ≡ place_none → Absent skip start v vs
    absent_none = absent_from start 0 vs
