-- One place of each set that chains join: there is such a list, all of them are of one length, and degrees are counted by them.
use mathlib.Core.Path.{◌≡◌, refl, sym, ◌∙◌, ap, subst}
use mathlib.Core.Bool.{Bool, true, false}
use mathlib.Core.List.{List, [], ◌∷◌}
use Prim.Native.Nat.{ℕ, zero, suc, ◌+◌, ◌≤◌, ◌<◌}
use native.Mathlib.Nat.{le_antisymm}
use native.Mathlib.Omega.{arith}
use native.Mathlib.Decide.{ℕ_discrete}
use borrow.Author.Tests.{eqb-true, eqb-false, ltb-true, ltb-false}
use lib.Dec.{eqb, ltb}
use lib.ListN.{length, get_or}
use Rattle.num_bytes.specs.Choice.{pick}
use Rattle.num_bytes.proofs.Tests.{by_cases, picked}
use Rattle.plant_def.specs.Limits.{max_units}
use Rattle.plant_def.specs.Plants.{Plant}
use Rattle.plant_def.specs.Within.{Within}
use Rattle.flow_def.specs.Chains.{Counting, every_stream, unmetered_only, Chain, OneEach}
use Rattle.flow_def.specs.Classes.{degrees}
use Rattle.flow_def.specs.Labels.{renamed, labels_of, own_labels}
use Rattle.flow_def.proofs.Reach.{Inside, chain_trans, chain_sym, joined→chain, chain→joined}
use Rattle.flow_def.proofs.Labels.{label_joined, label_member, label_low}
use Rattle.flow_def.proofs.Degrees.{pieces_le, degrees_own}
use Rattle.flow_def.proofs.Nets.{inside}

-- So many different numbers below n are at most n.
pigeons : (m n : ℕ) (f : ℕ → ℕ) → ((k : ℕ) → k < m → f k < n) → ((j k : ℕ) → j < m → k < m → f j ≡ f k → j ≡ k) → m ≤ n
pigeons zero n f below one = omega arith
pigeons (suc m) zero f below one = absurd (omega (arith, below 0 (omega arith)))
pigeons (suc m) (suc n) f below one = let h = pigeons m n (λ k. renamed (f m) n (f k)) less same in omega arith
  where
    not_last : (k : ℕ) → k < m → f k ≡ f m → ⊥
    not_last k l e = omega (arith, one k m (omega arith) (omega arith) e)

    less : (k : ℕ) → k < m → renamed (f m) n (f k) < n
    less k l =
        picked (λ (x : ℕ). x < n) (eqb (f k) n) (f m) (f k)
        (λ t. let q : f m ≡ n → ⊥ = λ z. not_last k l (eqb-true (f k) n t ∙ sym z) in omega (arith, below m (omega arith), q))
        (λ t. let q : f k ≡ n → ⊥ = eqb-false (f k) n t in omega (arith, below k (omega arith), q))

    same : (j k : ℕ) → j < m → k < m → renamed (f m) n (f j) ≡ renamed (f m) n (f k) → j ≡ k
    same j k l h = go (eqb (f j) n) (eqb (f k) n) refl refl
      where
        go : (a b : Bool) → eqb (f j) n ≡ a → eqb (f k) n ≡ b → pick a (f m) (f j) ≡ pick b (f m) (f k) → j ≡ k
        go true true s t e = one j k (omega arith) (omega arith) (eqb-true (f j) n s ∙ sym (eqb-true (f k) n t))
        go true false s t e = absurd (not_last k h (sym e))
        go false true s t e = absurd (not_last j l e)
        go false false s t e = one j k (omega arith) (omega arith) e

-- Two lists with one place of each set are of one length.
module _ (counts : Counting) (p : Plant) where
  module _ (us vs : List ℕ) (a : OneEach counts p us) (b : OneEach counts p vs) where
    to : (k : ℕ) → (v : ℕ) × (k < length us → (v < length vs) × Chain counts p.streams (get_or us k 0) (get_or vs v 0))
    to k =
        by_cases (ltb k (length us))
        (λ t. let j = b.joined (get_or us k 0) (a.place k (ltb-true k (length us) t)) in (j.0, λ l. (j.1, j.2)))
        (λ t. (0, λ l. absurd (omega (arith, ltb-false k (length us) t))))

    no_longer : length us ≤ length vs
    no_longer =
        pigeons (length us) (length vs) (λ k. (to k).0) (λ k l. ((to k).1 l).0)
        (λ j k l h e. a.distinct j k l h
        (chain_trans (subst (λ (v : ℕ). Chain counts p.streams (get_or us j 0) (get_or vs v 0)) e ((to j).1 l).1) (chain_sym ((to k).1 h).1)))

  -- Each has a place for every place of the other, so neither is longer.
  pub one_length : (us vs : List ℕ) → OneEach counts p us → OneEach counts p vs → length us ≡ length vs
  one_length us vs a b = le_antisymm (no_longer us vs a b) (no_longer vs us b a)

-- The places 0 to n that bear their own label.
abbrev owners : List ℕ → ℕ → List ℕ
owners ls zero = 0 ∷ []
owners ls (suc u) = pick (eqb (get_or ls (suc u) 0) (suc u)) (suc u ∷ owners ls u) (owners ls u)

owners_long : (ls : List ℕ) (n : ℕ) → length (owners ls n) ≡ own_labels ls n
owners_long ls zero = refl
owners_long ls (suc n) =
    by_cases (eqb (get_or ls (suc n) 0) (suc n)) (λ t. rw t (omega (arith, owners_long ls n))) (λ t. rw t (omega (arith, owners_long ls n)))

record Owning (ls : List ℕ) (n : ℕ) (us : List ℕ) : Type 0 where
  low : (k : ℕ) → k < length us → get_or us k 0 ≤ n
  own : (k : ℕ) → k < length us → get_or ls (get_or us k 0) 0 ≡ get_or us k 0
  all : (u : ℕ) → u ≤ n → get_or ls u 0 ≡ u → (k : ℕ) × (k < length us) × (get_or us k 0 ≡ u)
  once : (j k : ℕ) → j < length us → k < length us → get_or us j 0 ≡ get_or us k 0 → j ≡ k

owning_none : (ls : List ℕ) → get_or ls 0 0 ≡ 0 → Owning ls 0 (0 ∷ [])
owning_none ls z = record {
  low = λ k l. at (λ (u : ℕ). u ≤ 0) k l (omega arith);
  own = λ k l. at (λ (u : ℕ). get_or ls u 0 ≡ u) k l z;
  all = λ u h e. (0, omega arith, omega arith);
  once = λ j k l h e. omega arith;
}
  where
    at : (A : ℕ → Type 0) (k : ℕ) → k < 1 → A 0 → A (get_or (0 ∷ []) k 0)
    at A zero l x = x
    at A (suc k) l x = absurd (omega arith)

-- One place more, which bears its own label or does not.
module _ (ls : List ℕ) (n : ℕ) (us : List ℕ) (o : Owning ls n us) where
  module _ (e : get_or ls (suc n) 0 ≡ suc n) where
    more_low : (k : ℕ) → k < length (suc n ∷ us) → get_or (suc n ∷ us) k 0 ≤ suc n
    more_low zero l = omega arith
    more_low (suc k) l = omega (arith, o.low k (omega arith))

    more_own : (k : ℕ) → k < length (suc n ∷ us) → get_or ls (get_or (suc n ∷ us) k 0) 0 ≡ get_or (suc n ∷ us) k 0
    more_own zero l = e
    more_own (suc k) l = o.own k (omega arith)

    more_all : (u : ℕ) → u ≤ suc n → get_or ls u 0 ≡ u → (k : ℕ) × (k < length (suc n ∷ us)) × (get_or (suc n ∷ us) k 0 ≡ u)
    more_all u h q = elim (ℕ_discrete u (suc n)) [
      | yes s ↦ (0, omega arith, sym s)
      | no s ↦ let a = o.all u (omega arith) q in (suc a.0, omega (arith, a.1), a.2)
    ]

    more_once : (j k : ℕ) → j < length (suc n ∷ us) → k < length (suc n ∷ us) → get_or (suc n ∷ us) j 0 ≡ get_or (suc n ∷ us) k 0 → j ≡ k
    more_once zero zero l h q = refl
    more_once zero (suc k) l h q = absurd (omega (arith, o.low k (omega arith)))
    more_once (suc j) zero l h q = absurd (omega (arith, o.low j (omega arith)))
    more_once (suc j) (suc k) l h q = ap suc (o.once j k (omega arith) (omega arith) q)

    owning_more : Owning ls (suc n) (suc n ∷ us)
    owning_more = record { low = more_low; own = more_own; all = more_all; once = more_once }

  owning_same : (get_or ls (suc n) 0 ≡ suc n → ⊥) → Owning ls (suc n) us
  owning_same e = record {
    low = λ k l. omega (arith, o.low k l);
    own = o.own;
    all = λ u h q. elim (ℕ_discrete u (suc n)) [
      | yes s ↦ absurd (e (rw s at q))
      | no s ↦ o.all u (omega arith) q
    ];
    once = o.once;
  }

owning : (ls : List ℕ) → get_or ls 0 0 ≡ 0 → (n : ℕ) → Owning ls n (owners ls n)
owning ls z zero = owning_none ls z
owning ls z (suc n) =
    picked (Owning ls (suc n)) (eqb (get_or ls (suc n) 0) (suc n)) (suc n ∷ owners ls n) (owners ls n)
    (λ t. owning_more ls n (owners ls n) (owning ls z n) (eqb-true _ _ t)) (λ t. owning_same ls n (owners ls n) (owning ls z n) (eqb-false _ _ t))

-- The places that bear their own label are one of each set.
module _ (counts : Counting) (p : Plant) (small : p.units ≤ max_units) (w : Inside p.units p.streams) where
  abbrev label : ℕ → ℕ
  label u = get_or (labels_of counts p) u 0

  reach : (u : ℕ) → u ≤ p.units → Chain counts p.streams u (label u)
  reach u h = joined→chain counts p u (label u) (label_member counts p small w u (omega arith))

  one_label : {u v : ℕ} → u ≤ p.units → v ≤ p.units → Chain counts p.streams u v → label u ≡ label v
  one_label {u} {v} h l c = eqb-true (label u) (label v) (sym (label_joined counts p small w u v (omega arith) (omega arith)) ∙ chain→joined counts p w c)

  owned : Owning (labels_of counts p) p.units (owners (labels_of counts p) p.units)
  owned = owning (labels_of counts p) (omega (arith, label_low counts p small w 0 (omega arith))) p.units

  -- Each set has one such place, and different ones have different sets.
  pub one_each : OneEach counts p (owners (labels_of counts p) p.units)
  one_each = record {
    place = owned.low;
    joined = λ u h.
        let low : label u ≤ u = label_low counts p small w u (omega arith) in
        let a = owned.all (label u) (omega arith) (sym (one_label h (omega arith) (reach u h))) in
        (a.0, a.1, subst (Chain counts p.streams u) (sym a.2) (reach u h));
    distinct = λ j k l h c. owned.once j k l h (sym (owned.own j l) ∙ one_label (owned.low j l) (owned.low k h) c ∙ owned.own k h);
  }

  -- Any list with one place of each set is as long as the count of own labels.
  pub each_long : (us : List ℕ) → OneEach counts p us → length us ≡ own_labels (labels_of counts p) p.units
  each_long us a = one_length counts p us (owners (labels_of counts p) p.units) a one_each ∙ owners_long (labels_of counts p) p.units

-- Of every plant within its limits: one place of each set, and degrees as groups less pieces.
module _ (p : Plant) (w : Within p) where
  -- There is such a list, for any streams that count.
  pub some_each : (counts : Counting) → (us : List ℕ) × OneEach counts p us
  some_each counts = (owners (labels_of counts p) p.units, one_each counts p w.few_units (inside p w))

  -- Degrees, pieces added, are the groups.
  pub degrees_counted : (gs cs : List ℕ) → OneEach unmetered_only p gs → OneEach every_stream p cs → degrees p + length cs ≡ length gs
  degrees_counted gs cs a b =
      let g = each_long unmetered_only p w.few_units (inside p w) gs a in
      let c = each_long every_stream p w.few_units (inside p w) cs b in
      omega (arith, degrees_own p w.few_units (inside p w), pieces_le p w.few_units (inside p w))
