-- The walks by calls: forward they visit the values in order, backward in reverse; an index from either end names one entry.
use Rattle.std.proofs.Common.{◌≡◌, refl, ℕ, zero, suc, ◌+◌, ◌-◌, ◌≤◌, ◌<◌, le_refl, arith, List, [], map, reverse, length, take, drop, get_or, take-suc, take_all, pos, negsuc}
use Rattle.std.proofs.lemmas.List.{reverse-append}
use Rattle.std.proofs.lemmas.List.{drop_more, drop_all}
use Rattle.layout.specs.Entry.{Value}
use Rattle.layout.specs.Ziplist.{values}
use Rattle.layout.specs.Calls.{within, before, first, last, next, previous, visits, get}

module _ (vs : List Value) where
  -- the value at a position
  abbrev pub at : ℕ → Value
  at i = get_or vs i []

  -- forward from position i
  forward_from : (f i : ℕ) → length vs - i ≤ f → map at (visits (λ j. next j (values vs)) f (within (length vs) i)) ≡ drop i vs
  unfolding visits
  forward_from zero i h = grind (arith, drop_all i vs)
  forward_from (suc f) i h = grind (arith, forward_from f (i + 1), drop_more vs i [], drop_all i vs)

  -- from first by next
  pub forward : (f : ℕ) → length vs ≤ f → map at (visits (λ j. next j (values vs)) f (first (values vs))) ≡ vs
  forward f h = forward_from f 0 (omega arith)

  -- backward from before position i
  backward_from : (f i : ℕ) → i ≤ length vs → i ≤ f → map at (visits (λ j. previous j (values vs)) f (before i)) ≡ reverse (take i vs)
  unfolding visits
  backward_from zero zero h k = refl
  backward_from zero (suc i) h k = absurd (omega arith)
  backward_from (suc f) zero h k = refl
  backward_from (suc f) (suc i) h k = grind (arith, take-suc vs i [], reverse-append, backward_from f i)

  -- from last by previous
  pub backward : (f : ℕ) → length vs ≤ f → map at (visits (λ j. previous j (values vs)) f (last (values vs))) ≡ reverse vs
  backward f h = rw (take_all (length vs) vs (le_refl _)) at (backward_from f (length vs) (omega arith) h)

  -- i and i - n
  pub both_ends : (i : ℕ) → i < length vs → get (negsuc (length vs - suc i)) (values vs) ≡ get (pos i) (values vs)
  both_ends i h = grind arith
