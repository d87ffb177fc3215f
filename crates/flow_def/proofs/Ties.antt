-- Ties: a certified flow whose metered amounts cannot fall at no cost, each while the earlier ones stay, is the cheapest flow.
use mathlib.Core.Path.{◌≡◌, refl, sym, subst}
use mathlib.Core.Bool.{Bool, true, false, ◌&&◌}
use mathlib.Core.List.{List}
use lib.IntN.{ℤ, pos, neg_ℤ, ◌+ℤ◌, ◌-ℤ◌, ◌*ℤ◌, zero-*ℤ}
use Prim.Native.Nat.{ℕ, ◌≤◌, ◌<◌}
use native.Mathlib.Omega.{arith}
use native.Mathlib.Decide.{ℕ_discrete}
use borrow.Author.Tests.{leb-true}
use lib.Dec.{leb}
use lib.ListN.{length}
use Rattle.num_bytes.specs.Choice.{pick}
use Rattle.num_bytes.proofs.Tests.{by_cases, clash, and_left, and_right}
use Rattle.plant_def.specs.declared.Stream.{Stream}
use Rattle.plant_def.specs.Plants.{Plant}
use Rattle.plant_def.specs.Within.{Within}
use Rattle.flow_def.specs.Flows.{stream_at, amount_at, allowed, cost, Cheapest}
use Rattle.flow_def.specs.Certificate.{weight_of, climb, lower, upper, least_climb, most_climb, rises, falls}
use Rattle.num_bytes.proofs.Integers.{Le, Lt, Le-unless, val, plus_val, minus_val, up_neg, dn_neg}
use Rattle.num_bytes.proofs.Sums.{sum_tight}
use Rattle.flow_def.proofs.Nets.{count_of, stream_of, crossing, no_crossing, balanced_size}
use Rattle.flow_def.proofs.Steps.{Step, Tied, level, above, below, free}
use Rattle.flow_def.proofs.Ranges.{balanced_of, unmetered_moves}
use Rattle.flow_def.proofs.Potentials.{Certificate, least, ties}
use Rattle.flow_def.proofs.Order.{AgreeTo, LeadsTo, in_order}

-- A stream that cannot carry less at no cost: less would cost, or leave its range.
abbrev pub NoLess : (ℕ → ℤ) → Stream → ℤ → Type 0
NoLess π s x = falls s x ≡ true → Lt (least_climb s x) (climb π s)

-- The stream's amount cannot rise at no cost, against the potentials.
abbrev pub NoMore : (ℕ → ℤ) → Stream → ℤ → Type 0
NoMore π s x = rises s x ≡ true → Lt (climb π s) (most_climb s x)

-- Stream k brings nothing more out of a set of places at no cost.
pub record Shut (c : ℕ → Bool) (π : ℕ → ℤ) (s : Stream) (x : ℤ) : Type 0 where
  pub out : c s.from ≡ true → c s.to ≡ false → NoMore π s x
  pub back : c s.from ≡ false → c s.to ≡ true → NoLess π s x

-- A metered stream whose number is i or less.
abbrev pub metered_to : ℕ → ℕ → Stream → Bool
metered_to i k s = s.metered && leb k i

-- Why the amount of metered stream i cannot fall at no cost while the earlier ones stay: its lower bound is not tight, or there
-- is a cut, a set of places with its first end and without its second, that nothing leaves at no cost by the other streams.
pub data Stays (ss : List Stream) (π x : ℕ → ℤ) (i : ℕ) : Type 0 where
  strict : NoLess π (stream_at ss i) (x i) → Stays ss π x i
  cut : (c : ℕ → Bool) → c (stream_at ss i).from ≡ true → c (stream_at ss i).to ≡ false
      → ((k : ℕ) → k < length ss → metered_to i k (stream_at ss k) ≡ false → Shut c π (stream_at ss k) (x k)) → Stays ss π x i

-- A tied deviation is no less where the stream cannot carry less, and no more where it cannot carry more.
no_less : (w : ℕ) (d e c : ℤ) (a b : Bool) → Tied w d e c a b → (a ≡ true → Lt (lower 1 w d) c) → Le d e
no_less w d e c a b (level q) h = omega (arith, val e d q)
no_less w d e c a b (above q m t) h = omega (arith, val e (d +ℤ pos 1) q, plus_val d (pos 1))
no_less w d e c a b (below q m t) h = absurd (omega (arith, h m))

no_more : (w : ℕ) (d e c : ℤ) (a b : Bool) → Tied w d e c a b → (b ≡ true → Lt c (upper 1 w d)) → Le e d
no_more w d e c a b (level q) h = omega (arith, val e d q)
no_more w d e c a b (above q m t) h = absurd (omega (arith, h m))
no_more w d e c a b (below q m t) h = omega (arith, val e (d -ℤ pos 1) q, minus_val d (pos 1))

-- A stream of no weight carries more and less at no cost.
free_bounds : (w : ℕ) (d c : ℤ) (a b : Bool) → w ≡ 0 → (a ≡ true) × (b ≡ true) → Step 1 w d c a b → (lower 1 w d ≡ c) × (upper 1 w d ≡ c)
free_bounds w d c a b z m s =
    let none = sym (free 1 w d c a b z m s) in
    (rw (z, zero-*ℤ (pos 2 *ℤ d -ℤ pos 1)) none, rw (z, zero-*ℤ (pos 2 *ℤ d +ℤ pos 1)) none)

shift : (x y r : ℤ) → Le (x -ℤ r) (y -ℤ r) → Le x y
shift x y r h = omega (arith, minus_val x r, minus_val y r)

-- More comes into a set of places, less what goes out, where no stream that comes in carries less and none that leaves more.
crossing_le : (c : ℕ → Bool) (s : Stream) (x y : ℤ)
    → (c s.from ≡ false → c s.to ≡ true → Le x y) → (c s.from ≡ true → c s.to ≡ false → Le y x) → Le (crossing c s x) (crossing c s y)
crossing_le c s x y enters leaves = go (c s.to) (c s.from) refl refl
  where
    go : (t f : Bool) → c s.to ≡ t → c s.from ≡ f
        → Le (pick t (pick f (pos 0) x) (pick f (neg_ℤ x) (pos 0))) (pick t (pick f (pos 0) y) (pick f (neg_ℤ y) (pos 0)))
    go true true u v = omega arith
    go true false u v = enters v u
    go false true u v = omega (arith, leaves v u, up_neg x, dn_neg x, up_neg y, dn_neg y)
    go false false u v = omega arith

module _ (p : Plant) (w : Within p) (π : ℕ → ℤ) (xs : List ℤ) (c : Certificate p xs π) (ys : List ℤ) (b : allowed p ys ≡ true)
    (h : cost p.streams ys ≤ cost p.streams xs) where
  abbrev x : ℕ → ℤ
  x k = amount_at xs k

  abbrev y : ℕ → ℤ
  y k = amount_at ys k

  abbrev s : ℕ → Stream
  s k = stream_of p k

  -- On any stream a flow of equal cost has no less, or no more, where that costs.
  tied_at : (k : ℕ) → k < count_of p → (s k).metered ≡ true
      → Tied (weight_of (s k)) (x k -ℤ (s k).reading) (y k -ℤ (s k).reading) (climb π (s k)) (falls (s k) (x k)) (rises (s k) (x k))
  tied_at k l m = ties p w π xs c ys b h k l (rw m ((w.each k l).weighed m))

  free_at : (k : ℕ) → k < count_of p → (s k).metered ≡ false → (least_climb (s k) (x k) ≡ climb π (s k)) × (most_climb (s k) (x k) ≡ climb π (s k))
  free_at k l m = free_bounds (weight_of (s k)) (x k -ℤ (s k).reading) (climb π (s k)) _ _ (rw m) (unmetered_moves (s k) (x k) m) (c.steps k l)

  no_less_at : (k : ℕ) → k < count_of p → NoLess π (s k) (x k) → Le (x k) (y k)
  no_less_at k l e = by_cases (s k).metered (λ m. shift (x k) (y k) (s k).reading (no_less _ _ _ _ _ _ (tied_at k l m) e))
      (λ m. absurd (omega (arith, val _ _ (free_at k l m).0, e (unmetered_moves (s k) (x k) m).0)))

  no_more_at : (k : ℕ) → k < count_of p → NoMore π (s k) (x k) → Le (y k) (x k)
  no_more_at k l e = by_cases (s k).metered (λ m. shift (y k) (x k) (s k).reading (no_more _ _ _ _ _ _ (tied_at k l m) e))
      (λ m. absurd (omega (arith, val _ _ (free_at k l m).1, e (unmetered_moves (s k) (x k) m).1)))

  module _ (i : ℕ) (l : i < count_of p) (a : AgreeTo i p.streams (amount_at xs) (amount_at ys)) where
    early : (k : ℕ) → (k ≡ i → ⊥) → metered_to i k (s k) ≡ true → x k ≡ y k
    early k d e =
        let before : k ≤ i = leb-true k i (and_right (s k).metered (leb k i) e) in
        a k (omega arith) (and_left (s k).metered (leb k i) e)

    -- Were there less on stream i, more would come into the set of a cut, less what goes out: both flows bring nothing in.
    cut_keeps : (side : ℕ → Bool) → side (s i).from ≡ true → side (s i).to ≡ false
        → ((k : ℕ) → k < count_of p → metered_to i k (s k) ≡ false → Shut side π (s k) (x k)) → Lt (y i) (x i) → ⊥
    cut_keeps side f t shut less = differ (rw (f, t) at at_i)
      where
        enters : (k : ℕ) → k < count_of p → side (s k).from ≡ false → side (s k).to ≡ true → Le (x k) (y k)
        enters k m u v = by_cases (metered_to i k (s k))
            (λ e. omega (arith, val _ _ (early k (λ z. clash (side (s i).from) f (subst (λ (j : ℕ). side (s j).from ≡ false) z u)) e)))
            (λ e. no_less_at k m ((shut k m e).back u v))

        leaves : (k : ℕ) → k < count_of p → side (s k).from ≡ true → side (s k).to ≡ false → Le (y k) (x k)
        leaves k m u v = by_cases (metered_to i k (s k))
            (λ e. elim (ℕ_discrete k i) [ yes z ↦ rw z (omega arith) | no z ↦ omega (arith, val _ _ (early k z e)) ])
            (λ e. no_more_at k m ((shut k m e).out u v))

        at_i : crossing side (s i) (x i) ≡ crossing side (s i) (y i)
        at_i =
            sum_tight (count_of p) (λ k. crossing side (s k) (x k)) (λ k. crossing side (s k) (y k))
            (λ k m. crossing_le side (s k) (x k) (y k) (enters k m) (leaves k m))
            (rw (no_crossing p w xs (balanced_of 1 p xs c.balance) side, no_crossing p w ys (balanced_of 1 p ys b) side) (omega arith)) i l

        differ : neg_ℤ (x i) ≡ neg_ℤ (y i) → ⊥
        differ e = omega (arith, val _ _ e, up_neg (x i), dn_neg (x i), up_neg (y i), dn_neg (y i))

    -- No flow of equal cost and the same earlier metered amounts has less on stream i.
    pub stays_least : Stays p.streams π (amount_at xs) i → Le (amount_at xs i) (amount_at ys i)
    stays_least (strict e) = no_less_at i l e
    stays_least (cut side f t shut) = Le-unless (x i) (y i) (cut_keeps side f t shut)

-- A certified flow that is least on each metered stream among flows of equal cost is the cheapest flow.
pub first_cheapest : (p : Plant) → Within p → (π : ℕ → ℤ) (xs : List ℤ) → Certificate p xs π
    → ((ys : List ℤ) → allowed p ys ≡ true → cost p.streams ys ≡ cost p.streams xs → LeadsTo (count_of p) p.streams (amount_at xs) (amount_at ys))
    → Cheapest p xs
first_cheapest p w π xs c h = record {
  balance = c.balance;
  least = least p w π xs c;
  tie = λ ys b e. in_order p.streams xs ys (size xs c.balance) (size ys b) (h ys b e);
}
  where
    size : (zs : List ℤ) → allowed p zs ≡ true → length zs ≡ count_of p
    size zs b = balanced_size p zs (balanced_of 1 p zs b)

-- So is one whose metered amounts each stay.
pub stays_cheapest : (p : Plant) → Within p → (π : ℕ → ℤ) (xs : List ℤ) → Certificate p xs π
    → ((i : ℕ) → i < count_of p → (stream_of p i).metered ≡ true → Stays p.streams π (amount_at xs) i) → Cheapest p xs
stays_cheapest p w π xs c h = first_cheapest p w π xs c (λ ys b e i l m a. stays_least p w π xs c ys b (omega arith) i l a (h i l m))
