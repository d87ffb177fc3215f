-- Nets and potentials: summation by parts (Tellegen's theorem), cuts, and the balance of the outside.
use mathlib.Core.Path.{◌≡◌, refl, sym, ◌∙◌, ap, ap₂}
use mathlib.Core.Bool.{Bool, true, false, ◌&&◌}
use mathlib.Core.List.{List, [], ◌∷◌}
use lib.IntN.{ℤ, pos, neg_ℤ, nat_abs, ◌+ℤ◌, ◌-ℤ◌, ◌*ℤ◌, +ℤ_assoc, +ℤ_idl, +ℤ_idr, +ℤ_invl, +ℤ_invr, zero-*ℤ, *ℤ-zero}
use Prim.Native.Nat.{ℕ, zero, suc, ◌≤◌, ◌<◌}
use native.Mathlib.Omega.{arith}
use native.Mathlib.Decide.{ℕ_discrete}
use borrow.Author.Tests.{eqb-true, eq-eqb, ne_eqb}
use lib.Dec.{eqb}
use lib.ListN.{length}
use Rattle.num_bytes.specs.Choice.{pick}
use Rattle.num_bytes.proofs.Tests.{and_left, and_right, and_both}
use Rattle.plant_def.specs.declared.Stream.{Stream}
use Rattle.plant_def.specs.Plants.{Plant}
use Rattle.plant_def.specs.declared.Plant as Arrays
use Rattle.plant_def.specs.Within.{Within, Accepted}
use Rattle.plant_def.specs.Says.{plant_of}
use Rattle.plant_def.proofs.Arrayed.{within_of}
use Rattle.flow_def.specs.Flows.{stream_at, amount_at, net_at, balanced_to, balanced}
use Rattle.num_bytes.specs.Inner.{values}
use Rattle.flow_def.specs.Classes.{has, side_out}
pub use Rattle.flow_def.specs.Nets.{brought, net_of}
use Rattle.flow_def.specs.Certificate.{climb}
use Rattle.num_bytes.proofs.Lists.{values_long, values_at}
use Rattle.num_bytes.proofs.Integers.{canon, Z_diff, times_plus, one_times, neg_times, size_none}
use Rattle.flow_def.proofs.Reach.{Inside}
use Rattle.num_bytes.proofs.Sums.{sum, sum_same, sum_none, sum_plus, sum_times, sum_swap, sum_only, sum_front}

-- The number of a plant's streams.
abbrev pub count_of : Plant → ℕ
count_of p = length p.streams

-- Stream k of a plant.
abbrev pub stream_of : Plant → ℕ → Stream
stream_of p k = stream_at p.streams k

-- A sum by recursion over streams and amounts is a sum over the streams' numbers.
pub sum_listed : (f : Stream → ℤ → ℤ) (F : List Stream → List ℤ → ℤ) → ((xs : List ℤ) → F [] xs ≡ pos 0)
    → ((s : Stream) (ss : List Stream) (x : ℤ) (xs : List ℤ) → F (s ∷ ss) (x ∷ xs) ≡ f s x +ℤ F ss xs)
    → (ss : List Stream) (xs : List ℤ) → length xs ≡ length ss → F ss xs ≡ sum (length ss) (λ k. f (stream_at ss k) (amount_at xs k))
sum_listed f F none more [] xs e = none xs
sum_listed f F none more (s ∷ ss) [] e = absurd (omega arith)
sum_listed f F none more (s ∷ ss) (x ∷ xs) e =
    more s ss x xs
    ∙ ap (λ (z : ℤ). f s x +ℤ z) (sum_listed f F none more ss xs (omega arith))
    ∙ sym (sum_front (length ss) (λ k. f (stream_at (s ∷ ss) k) (amount_at (x ∷ xs) k)))

-- What a list of amounts brings a place is the sum over the streams.
pub net_is : (u : ℕ) (ss : List Stream) (xs : List ℤ) → length xs ≡ length ss → net_at u ss xs ≡ net_of ss (amount_at xs) u
net_is u = sum_listed (brought u) (net_at u) (λ xs. refl)
    (λ s ss x xs. sym (+ℤ_assoc (pick (eqb s.to u) x (pos 0)) (pick (eqb s.from u) (neg_ℤ x) (pos 0)) (net_at u ss xs)))

-- The ends of the streams of a plant within limits are its units or the outside.
pub inside : (p : Plant) → Within p → Inside p.units p.streams
inside p w k l = ((w.each k l).from_in, (w.each k l).to_in)

-- The same of a plant in an array.
pub inside_of : (p : Arrays.Plant) → Accepted p → Inside p.units (plant_of p).streams
inside_of p a = inside (plant_of p) (within_of p a)

two_ends : (a b x : ℤ) → a *ℤ x +ℤ b *ℤ neg_ℤ x ≡ (a -ℤ b) *ℤ x
two_ends a b x = rw (← canon a, ← canon b, ← canon x) (simp Z_diff (omega arith))

-- One stream: potentials times what it brings to each place.
stream_parts : (n : ℕ) (π : ℕ → ℤ) (s : Stream) (x : ℤ) → s.from ≤ n → s.to ≤ n → sum (suc n) (λ u. π u *ℤ brought u s x) ≡ climb π s *ℤ x
stream_parts n π s x f t =
    sum_same (suc n) _ (λ u. π u *ℤ end s.to x u +ℤ π u *ℤ end s.from (neg_ℤ x) u)
    (λ u l. times_plus (π u) (end s.to x u) (end s.from (neg_ℤ x) u))
    ∙ sum_plus (suc n) (λ u. π u *ℤ end s.to x u) (λ u. π u *ℤ end s.from (neg_ℤ x) u)
    ∙ ap₂ ◌+ℤ◌ (at_end s.to x t) (at_end s.from (neg_ℤ x) f)
    ∙ two_ends (π s.to) (π s.from) x
  where
    end : ℕ → ℤ → ℕ → ℤ
    end v z u = pick (eqb v u) z (pos 0)

    at_end : (v : ℕ) (z : ℤ) → v ≤ n → sum (suc n) (λ u. π u *ℤ pick (eqb v u) z (pos 0)) ≡ π v *ℤ z
    at_end v z l =
        sum_only (suc n) v (λ u. π u *ℤ pick (eqb v u) z (pos 0)) (omega arith) (λ u m q. rw (ne_eqb v u (λ e. q (sym e))) (*ℤ-zero (π u)))
        ∙ rw (eq-eqb v v refl)

-- Summation by parts: potentials times nets, over the places, are potential differences times amounts, over the streams.
pub by_parts : (n : ℕ) (π : ℕ → ℤ) (ss : List Stream) (x : ℕ → ℤ) → Inside n ss
    → sum (suc n) (λ u. π u *ℤ net_of ss x u) ≡ sum (length ss) (λ k. climb π (stream_at ss k) *ℤ x k)
by_parts n π ss x w =
    sum_same (suc n) _ (λ u. sum m (λ k. π u *ℤ brought u (s k) (x k))) (λ u l. sum_times m (π u) (λ k. brought u (s k) (x k)))
    ∙ sum_swap (suc n) m (λ u k. π u *ℤ brought u (s k) (x k))
    ∙ sum_same m _ (λ k. climb π (s k) *ℤ x k) (λ k l. stream_parts n π (s k) (x k) (w k l).0 (w k l).1)
  where
    m : ℕ
    m = length ss

    s : ℕ → Stream
    s = stream_at ss

-- The nets of all places have the sum 0.
pub nets_sum : (n : ℕ) (ss : List Stream) (x : ℕ → ℤ) → Inside n ss → sum (suc n) (net_of ss x) ≡ pos 0
nets_sum n ss x w =
    sum_same (suc n) (net_of ss x) (λ u. pos 1 *ℤ net_of ss x u) (λ u l. sym (one_times (net_of ss x u)))
    ∙ by_parts n (λ u. pos 1) ss x w
    ∙ sum_none (length ss) (λ k. (pos 1 -ℤ pos 1) *ℤ x k) (λ k l. zero-*ℤ (x k))

-- A set of places as potentials: 1 on the set, 0 elsewhere.
abbrev pub indicator : (ℕ → Bool) → ℕ → ℤ
indicator c u = pick (c u) (pos 1) (pos 0)

-- What stream s, carrying x, brings into a set of places less what it takes out.
abbrev pub crossing : (ℕ → Bool) → Stream → ℤ → ℤ
crossing c s x = pick (c s.to) (pick (c s.from) (pos 0) x) (pick (c s.from) (neg_ℤ x) (pos 0))

-- With potentials of 1 in a set and 0 beyond, climb times amount is what a stream brings into the set less what it takes out.
pub crossing_is : (c : ℕ → Bool) (s : Stream) (x : ℤ) → climb (indicator c) s *ℤ x ≡ crossing c s x
crossing_is c s x = go (c s.to) (c s.from)
  where
    go : (a b : Bool) → (pick a (pos 1) (pos 0) -ℤ pick b (pos 1) (pos 0)) *ℤ x ≡ pick a (pick b (pos 0) x) (pick b (neg_ℤ x) (pos 0))
    go true true = zero-*ℤ x
    go true false = one_times x
    go false true = neg_times (pos 1) x ∙ ap neg_ℤ (one_times x)
    go false false = zero-*ℤ x

-- A stream with both ends on one side crosses nothing.
pub crossing_level : (c : ℕ → Bool) (s : Stream) (x : ℤ) → c s.from ≡ c s.to → crossing c s x ≡ pos 0
crossing_level c s x e = rw e (go (c s.to))
  where
    go : (b : Bool) → pick b (pick b (pos 0) x) (pick b (neg_ℤ x) (pos 0)) ≡ pos 0
    go true = refl
    go false = refl

-- The cut law: the nets of a set of places are what crosses its border.
pub cut : (n : ℕ) (c : ℕ → Bool) (ss : List Stream) (x : ℕ → ℤ) → Inside n ss
    → sum (suc n) (λ u. pick (c u) (net_of ss x u) (pos 0)) ≡ sum (length ss) (λ k. crossing c (stream_at ss k) (x k))
cut n c ss x w =
    sum_same (suc n) (λ u. pick (c u) (net_of ss x u) (pos 0)) (λ u. indicator c u *ℤ net_of ss x u) (λ u l. one (c u) (net_of ss x u))
    ∙ by_parts n (indicator c) ss x w
    ∙ sum_same (length ss) _ (λ k. crossing c (stream_at ss k) (x k)) (λ k l. crossing_is c (stream_at ss k) (x k))
  where
    one : (b : Bool) (z : ℤ) → pick b z (pos 0) ≡ pick b (pos 1) (pos 0) *ℤ z
    one true z = sym (one_times z)
    one false z = sym (zero-*ℤ z)

-- Balanced flows: each stream has its amount, and each unit's net is 0; the outside balances by itself.
pub balanced_size : (p : Plant) (xs : List ℤ) → balanced p xs ≡ true → length xs ≡ count_of p
balanced_size p xs b = eqb-true _ _ (and_left (eqb (length xs) (count_of p)) (balanced_to p.units p.streams xs) b)

units_level : (n : ℕ) (ss : List Stream) (xs : List ℤ) → balanced_to n ss xs ≡ true → (u : ℕ) → u < n → net_at (suc u) ss xs ≡ pos 0
units_level zero ss xs b u l = absurd (omega arith)
units_level (suc n) ss xs b u l = elim (ℕ_discrete u n) [
  | yes q ↦ rw q (size_none (net_at (suc n) ss xs) (eqb-true _ 0 (and_left (eqb (nat_abs (net_at (suc n) ss xs)) 0) (balanced_to n ss xs) b)))
  | no q ↦ units_level n ss xs (and_right (eqb (nat_abs (net_at (suc n) ss xs)) 0) (balanced_to n ss xs) b) u (omega arith)
]

module _ (p : Plant) (w : Within p) (xs : List ℤ) (b : balanced p xs ≡ true) where
  abbrev net : ℕ → ℤ
  net u = net_of p.streams (amount_at xs) u

  inner : (u : ℕ) → u < p.units → net (suc u) ≡ pos 0
  inner u l =
      sym (net_is (suc u) p.streams xs (balanced_size p xs b))
      ∙ units_level p.units p.streams xs (and_right (eqb (length xs) (count_of p)) (balanced_to p.units p.streams xs) b) u l

  others : (u : ℕ) → u < suc p.units → (u ≡ 0 → ⊥) → net u ≡ pos 0
  others zero l q = absurd (q refl)
  others (suc u) l q = inner u (omega arith)

  -- A balanced flow leaves nothing over at any unit, nor at the outside.
  pub balanced_nets : (u : ℕ) → u ≤ p.units → net_of p.streams (amount_at xs) u ≡ pos 0
  balanced_nets zero l = sym (sum_only (suc p.units) 0 net (omega arith) others) ∙ nets_sum p.units p.streams (amount_at xs) (inside p w)
  balanced_nets (suc u) l = inner u l

-- Nothing left over at any place: the flow balances.
pub level_balanced : (p : Plant) (xs : List ℤ) → length xs ≡ count_of p
    → ((u : ℕ) → u ≤ p.units → net_of p.streams (amount_at xs) u ≡ pos 0) → balanced p xs ≡ true
level_balanced p xs e h = and_both _ _ (eq-eqb _ _ e) (to p.units (λ u l. net_is u p.streams xs e ∙ h u l))
  where
    to : (n : ℕ) → ((u : ℕ) → u ≤ n → net_at u p.streams xs ≡ pos 0) → balanced_to n p.streams xs ≡ true
    to zero h = refl
    to (suc n) h = and_both _ _ (eq-eqb _ 0 (ap nat_abs (h (suc n) (omega arith)))) (to n (λ u l. h u (omega arith)))

-- A flow given as a function, as a list.
abbrev pub listed : Plant → (ℕ → ℤ) → List ℤ
listed p x = values (count_of p) x

-- A flow written as a list has an amount for each stream,
pub listed_size : (p : Plant) (x : ℕ → ℤ) → length (listed p x) ≡ count_of p
listed_size p x = values_long x (count_of p)

-- the amount that it was written from,
pub listed_at : (p : Plant) (x : ℕ → ℤ) (k : ℕ) → k < count_of p → amount_at (listed p x) k ≡ x k
listed_at p x = values_at x (pos 0) (count_of p)

-- and balances where nothing is left over at any place.
pub listed_balanced : (p : Plant) (x : ℕ → ℤ) → ((u : ℕ) → u ≤ p.units → net_of p.streams x u ≡ pos 0) → balanced p (listed p x) ≡ true
listed_balanced p x h =
    level_balanced p (listed p x) (listed_size p x)
    (λ u l. sum_same (count_of p) _ (λ k. brought u (stream_of p k) (x k)) (λ k m. ap (brought u (stream_of p k)) (listed_at p x k m)) ∙ h u l)

-- A balanced flow gains nothing from any potentials.
pub no_gain : (p : Plant) → Within p → (xs : List ℤ) → balanced p xs ≡ true → (π : ℕ → ℤ)
    → sum (count_of p) (λ k. climb π (stream_of p k) *ℤ amount_at xs k) ≡ pos 0
no_gain p w xs b π =
    sym (by_parts p.units π p.streams (amount_at xs) (inside p w))
    ∙ sum_none (suc p.units) _ (λ u l. ap (λ (z : ℤ). π u *ℤ z) (balanced_nets p w xs b u (omega arith)) ∙ *ℤ-zero (π u))

-- Nor does it cross the border of any set of places, on the whole.
pub no_crossing : (p : Plant) → Within p → (xs : List ℤ) → balanced p xs ≡ true → (c : ℕ → Bool)
    → sum (count_of p) (λ k. crossing c (stream_of p k) (amount_at xs k)) ≡ pos 0
no_crossing p w xs b c =
    sum_same (count_of p) _ (λ k. climb (indicator c) (stream_of p k) *ℤ amount_at xs k) (λ k l. sym (crossing_is c (stream_of p k) (amount_at xs k)))
    ∙ no_gain p w xs b (indicator c)

-- What a metered stream takes out of a set of places less what it brings in.
abbrev taken : List ℕ → Stream → ℤ → ℤ
taken side s x = pick (s.metered && has s.from side) x (pos 0) +ℤ pick (s.metered && has s.to side) (neg_ℤ x) (pos 0)

taken_metered : (a b : Bool) (x : ℤ) → pick a (pick b (pos 0) x) (pick b (neg_ℤ x) (pos 0)) +ℤ (pick b x (pos 0) +ℤ pick a (neg_ℤ x) (pos 0)) ≡ pos 0
taken_metered true true x = +ℤ_idl (x +ℤ neg_ℤ x) ∙ +ℤ_invr x
taken_metered true false x = ap (λ (z : ℤ). x +ℤ z) (+ℤ_idl (neg_ℤ x)) ∙ +ℤ_invr x
taken_metered false true x = ap (λ (z : ℤ). neg_ℤ x +ℤ z) (+ℤ_idr x) ∙ +ℤ_invl x
taken_metered false false x = refl

-- Where one unmetered stream e and no other crosses into a set of places, it carries what the metered streams take out.
pub side_number : (p : Plant) → Within p → (xs : List ℤ) → balanced p xs ≡ true → (side : List ℕ) (e : ℕ) → e < count_of p
    → (stream_of p e).metered ≡ false → has (stream_of p e).to side ≡ true → has (stream_of p e).from side ≡ false
    → ((k : ℕ) → k < count_of p → (k ≡ e → ⊥) → (stream_of p k).metered ≡ false → has (stream_of p k).from side ≡ has (stream_of p k).to side)
    → side_out side p.streams xs ≡ amount_at xs e
side_number p w xs b side e l m t f even =
    sum_listed (taken side) (side_out side) (λ xs. refl)
    (λ s ss x xs. sym (+ℤ_assoc (pick (s.metered && has s.from side) x (pos 0)) _ (side_out side ss xs))) p.streams xs (balanced_size p xs b)
    ∙ sym (+ℤ_idl _)
    ∙ ap (λ (z : ℤ). z +ℤ sum n (λ k. taken side (s k) (x k))) (sym (no_crossing p w xs b (λ u. has u side)))
    ∙ sym (sum_plus n (λ k. crossing (λ u. has u side) (s k) (x k)) (λ k. taken side (s k) (x k)))
    ∙ sum_only n e (λ k. crossing (λ u. has u side) (s k) (x k) +ℤ taken side (s k) (x k)) l (λ k h q. other k (s k).metered refl h q)
    ∙ rw (m, t, f) (+ℤ_idr (x e))
  where
    n : ℕ
    n = count_of p

    s : ℕ → Stream
    s = stream_of p

    x : ℕ → ℤ
    x = amount_at xs

    other : (k : ℕ) (b : Bool) → (s k).metered ≡ b → k < n → (k ≡ e → ⊥) → crossing (λ u. has u side) (s k) (x k) +ℤ taken side (s k) (x k) ≡ pos 0
    other k true t h q = rw t (taken_metered (has (s k).to side) (has (s k).from side) (x k))
    other k false t h q = rw t (+ℤ_idr _ ∙ crossing_level (λ u. has u side) (s k) (x k) (even k h q t))
