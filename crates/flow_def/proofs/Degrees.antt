-- Degrees by labels: the sets of joined places are counted by the places that bear their own label.
use mathlib.Core.Path.{◌≡◌, refl}
use mathlib.Core.Bool.{true, false≢true}
use mathlib.Core.List.{List, [], ◌∷◌}
use Prim.Native.Nat.{ℕ, zero, suc, ◌+◌, ◌-◌, ◌≤◌, ◌<◌}
use native.Mathlib.Omega.{arith}
use native.Mathlib.Numerals.{add-one}
use borrow.Author.Tests.{eqb-true, eq-eqb, ne_eqb, leb-true, le-leb}
use lib.Dec.{eqb, leb}
use lib.ListN.{get_or}
use Rattle.num_bytes.proofs.Tests.{and_left, and_right, and_both, or_right, or_cases, same_test}
use Rattle.plant_def.specs.Limits.{max_units, places}
use Rattle.plant_def.specs.Plants.{Plant}
use Rattle.flow_def.specs.Classes.{has, joined_to, lowest, leaders_to, degrees}
use Rattle.flow_def.specs.Chains.{Counting, every_stream, unmetered_only}
use Rattle.flow_def.specs.Labels.{labels_of, own_labels}
use Rattle.flow_def.proofs.Reach.{Inside, bit_most, bit_mono, has_first, chain_map, joined→chain, chain→joined}
use Rattle.flow_def.proofs.Labels.{label_member, label_low, label_lowest}

-- The lowest of a list.
lowest_le : (u : ℕ) (xs : List ℕ) → lowest u xs ≡ true → (v : ℕ) → has v xs ≡ true → u ≤ v
lowest_le u [] e v h = absurd (false≢true h)
lowest_le u (x ∷ xs) e v h =
    or_cases (eqb v x) (has v xs) h (λ q. omega (arith, eqb-true v x q, leb-true u x (and_left (leb u x) (lowest u xs) e)))
    (lowest_le u xs (and_right (leb u x) (lowest u xs) e) v)

le_lowest : (u : ℕ) (xs : List ℕ) → ((v : ℕ) → has v xs ≡ true → u ≤ v) → lowest u xs ≡ true
le_lowest u [] f = refl
le_lowest u (x ∷ xs) f = and_both (leb u x) (lowest u xs) (le-leb u x (f x (has_first x xs))) (le_lowest u xs (λ v h. f v (or_right (eqb v x) (has v xs) h)))

module _ (counts : Counting) (p : Plant) (small : p.units ≤ max_units) (w : Inside p.units p.streams) where
  abbrev label : ℕ → ℕ
  label u = get_or (labels_of counts p) u 0

  -- A place is the lowest of its set exactly when it bears its own label.
  lowest_own : (u : ℕ) → u < places → lowest u (joined_to counts p u) ≡ eqb (label u) u
  lowest_own u h =
      let low : label u ≤ u = label_low counts p small w u h in
      same_test (lowest u (joined_to counts p u)) (eqb (label u) u)
      (λ e. eq-eqb (label u) u (omega (arith, low, lowest_le u (joined_to counts p u) e (label u) (label_member counts p small w u h))))
      (λ e. le_lowest u (joined_to counts p u) (λ v q. omega (arith, eqb-true (label u) u e, label_lowest counts p small w u v h q)))

  leaders_own : (n : ℕ) → n < places → leaders_to counts p n ≡ own_labels (labels_of counts p) n
  leaders_own zero h = refl
  leaders_own (suc n) h = rw (lowest_own (suc n) h, leaders_own n (omega arith))

-- A place that bears its own label adds one to the count of own labels.
pub own_more : (ls : List ℕ) (u : ℕ) → get_or ls (u + 1) 0 ≡ u + 1 → own_labels ls u + 1 ≡ own_labels ls (u + 1)
own_more ls u e = rw (add-one u) (rw (eq-eqb (get_or ls (suc u) 0) (suc u) (rw (add-one u) at e)) (omega arith))

-- A place that bears another label adds nothing to the count of own labels.
pub own_stay : (ls : List ℕ) (u : ℕ) → (get_or ls (u + 1) 0 ≡ u + 1 → ⊥) → own_labels ls u ≡ own_labels ls (u + 1)
own_stay ls u e = rw (add-one u) (rw (ne_eqb (get_or ls (suc u) 0) (suc u) (rw (add-one u) at e)) (omega arith))

-- At most n + 1 of the places 0 to n bear their own label.
pub own_most : (ls : List ℕ) (n : ℕ) → own_labels ls n ≤ n + 1
own_most ls zero = omega arith
own_most ls (suc n) = omega (arith, own_most ls n, bit_most (eqb (get_or ls (suc n) 0) (suc n)))

own_least : (ls : List ℕ) (n : ℕ) → 1 ≤ own_labels ls n
own_least ls zero = omega arith
own_least ls (suc n) = omega (arith, own_least ls n)

module _ (p : Plant) (small : p.units ≤ max_units) (w : Inside p.units p.streams) where
  -- Every stream joins more places than the unmetered ones, so there are no more pieces than groups.
  own_every : (u : ℕ) → u < places → get_or (labels_of every_stream p) u 0 ≡ u → get_or (labels_of unmetered_only p) u 0 ≡ u
  own_every u h e =
      let group = get_or (labels_of unmetered_only p) u 0 in
      let joined : has group (joined_to every_stream p u) ≡ true =
      chain→joined every_stream p w (chain_map (λ j l c. refl) (joined→chain unmetered_only p u group (label_member unmetered_only p small w u h))) in
      omega (arith, label_low unmetered_only p small w u h, label_lowest every_stream p small w u group h joined)

  pieces_few : (n : ℕ) → n < places → own_labels (labels_of every_stream p) n ≤ own_labels (labels_of unmetered_only p) n
  pieces_few zero h = omega arith
  pieces_few (suc n) h =
      let piece = get_or (labels_of every_stream p) (suc n) 0 in
      let group = get_or (labels_of unmetered_only p) (suc n) 0 in
      let own : eqb piece (suc n) ≡ true → eqb group (suc n) ≡ true = λ e. eq-eqb group (suc n) (own_every (suc n) h (eqb-true piece (suc n) e)) in
      omega (arith, bit_mono (eqb piece (suc n)) (eqb group (suc n)) own, pieces_few n (omega arith))

  -- Pieces are not more than groups,
  pub pieces_le : own_labels (labels_of every_stream p) p.units ≤ own_labels (labels_of unmetered_only p) p.units
  pieces_le = pieces_few p.units (omega arith)

  -- degrees are the groups less the pieces, both counted by own labels,
  pub degrees_own : degrees p ≡ own_labels (labels_of unmetered_only p) p.units - own_labels (labels_of every_stream p) p.units
  degrees_own = rw (leaders_own unmetered_only p small w p.units (omega arith), leaders_own every_stream p small w p.units (omega arith))

  -- and at most as many as units may be.
  pub degrees_most : degrees p ≤ max_units
  degrees_most = omega (arith, degrees_own, own_most (labels_of unmetered_only p) p.units, own_least (labels_of every_stream p) p.units)
