-- Flows in range stay so: so many times a flow over as many times its denominator, and a mixture of two.
use mathlib.Core.Path.{◌≡◌, sym, ◌∙◌, ap, ap₂, subst}
use mathlib.Core.Bool.{true}
use mathlib.Core.List.{List}
use lib.IntN.{ℤ, pos, ◌+ℤ◌, ◌*ℤ◌}
use Prim.Native.Nat.{ℕ, suc, ◌*◌, ◌<◌}
use native.Mathlib.Nat.{mul-le-mul_left}
use native.Mathlib.Omega.{arith}
use Rattle.plant_def.specs.declared.Stream.{Stream}
use Rattle.plant_def.specs.Plants.{Plant}
use Rattle.plant_def.specs.Within.{Within}
use Rattle.flow_def.specs.Flows.{amount_at, balanced, in_range, allowed_over}
use Rattle.num_bytes.proofs.Integers.{up, dn, Le, plus_val, product}
use Rattle.flow_def.proofs.Nets.{count_of, stream_of, listed, listed_at, listed_balanced, balanced_nets}
use Rattle.flow_def.proofs.Routes.{net_plus}
use Rattle.flow_def.proofs.Chained.{times_balanced}
use Rattle.flow_def.proofs.Ranges.{range_says, range_holds, balanced_of, range_of, allowed_of}

-- An order, so many times, and mixed with another.
pub times_le : (c : ℕ) (a x : ℤ) → Le a x → Le (pos c *ℤ a) (pos c *ℤ x)
times_le c a x h = omega (arith, product c a, product c x, mul-le-mul_left c h)

mixed_le : (n : ℕ) (a x b y : ℤ) → Le a x → Le b y → Le (pos n *ℤ a +ℤ b) (pos n *ℤ x +ℤ y)
mixed_le n a x b y h k = omega (arith, times_le n a x h, plus_val (pos n *ℤ a) b, plus_val (pos n *ℤ x) y)

-- An end of a range over a multiple of d.
times_end : (c d : ℕ) (l : ℤ) → (up (pos (c * d) *ℤ l) ≡ c * up (pos d *ℤ l)) × (dn (pos (c * d) *ℤ l) ≡ c * dn (pos d *ℤ l))
times_end c d l = (
  omega (arith, product (c * d) l, ap (λ k. c * k) (product d l).0),
  omega (arith, product (c * d) l, ap (λ k. c * k) (product d l).1),
)

-- So many times an amount in range, and a mixture of two.
module _ (s : Stream) (d : ℕ) (x : ℤ) (e : in_range d s x ≡ true) where
  -- c times an amount in range, over c times its denominator, is in range.
  pub times_range : (c : ℕ) → in_range (c * d) s (pos c *ℤ x) ≡ true
  times_range c = range_holds (c * d) s (pos c *ℤ x) (λ q.
      let t = range_says d s x e q in (
        omega (arith, times_le c (pos d *ℤ s.low) x t.0, times_end c d s.low, product c (pos d *ℤ s.low)),
        omega (arith, times_le c x (pos d *ℤ s.high) t.1, times_end c d s.high, product c (pos d *ℤ s.high)),
      ))

  mixed_range : (n : ℕ) (y : ℤ) → in_range d s y ≡ true → in_range (suc n * d) s (pos n *ℤ x +ℤ y) ≡ true
  mixed_range n y f = range_holds (suc n * d) s (pos n *ℤ x +ℤ y) (λ q.
      let t = range_says d s x e q in
      let u = range_says d s y f q in
      let a = pos d *ℤ s.low in
      let b = pos d *ℤ s.high in (
        omega (arith, mixed_le n a x a y t.0 u.0, times_end (suc n) d s.low, product n a, plus_val (pos n *ℤ a) a),
        omega (arith, mixed_le n x b y b t.1 u.1, times_end (suc n) d s.high, product n b, plus_val (pos n *ℤ b) b),
      ))

-- Two balanced flows added.
added_balanced : (p : Plant) → Within p → (xs ys : List ℤ) → balanced p xs ≡ true → balanced p ys ≡ true
    → balanced p (listed p (λ k. amount_at xs k +ℤ amount_at ys k)) ≡ true
added_balanced p w xs ys a b =
    listed_balanced p (λ k. amount_at xs k +ℤ amount_at ys k)
    (λ u l. net_plus p.streams (amount_at xs) (amount_at ys) u ∙ ap₂ ◌+ℤ◌ (balanced_nets p w xs a u l) (balanced_nets p w ys b u l))

-- c times a flow.
abbrev pub times : Plant → ℕ → List ℤ → List ℤ
times p c xs = listed p (λ k. pos c *ℤ amount_at xs k)

-- So many times a flow, stream by stream.
pub times_at : (p : Plant) (c : ℕ) (xs : List ℤ) (k : ℕ) → k < count_of p → amount_at (times p c xs) k ≡ pos c *ℤ amount_at xs k
times_at p c xs k l = listed_at p (λ k. pos c *ℤ amount_at xs k) k l

-- n times one flow and once another.
abbrev pub mixture : Plant → ℕ → List ℤ → List ℤ → List ℤ
mixture p n xs ys = listed p (λ k. amount_at (times p n xs) k +ℤ amount_at ys k)

-- A mixture, stream by stream.
pub mixture_at : (p : Plant) (n : ℕ) (xs ys : List ℤ) (k : ℕ) → k < count_of p → amount_at (mixture p n xs ys) k ≡ pos n *ℤ amount_at xs k +ℤ amount_at ys k
mixture_at p n xs ys k l =
    listed_at p (λ k. amount_at (times p n xs) k +ℤ amount_at ys k) k l ∙ ap (λ (z : ℤ). z +ℤ amount_at ys k) (times_at p n xs k l)

module _ (p : Plant) (w : Within p) (d : ℕ) (xs : List ℤ) (a : allowed_over d p xs ≡ true) where
  -- c times a flow in range is one over c times the denominator,
  pub times_allowed : (c : ℕ) → allowed_over (c * d) p (times p c xs) ≡ true
  times_allowed c =
      allowed_of (c * d) p (times p c xs) (times_balanced p w xs (balanced_of d p xs a) (pos c))
      (λ k l. subst (λ (z : ℤ). in_range (c * d) (stream_of p k) z ≡ true) (sym (times_at p c xs k l))
      (times_range (stream_of p k) d (amount_at xs k) (range_of d p xs a k l) c))

  -- and a mixture of n parts of one flow in range and one part of another is one over n + 1 times the denominator.
  pub mixture_allowed : (n : ℕ) (ys : List ℤ) → allowed_over d p ys ≡ true → allowed_over (suc n * d) p (mixture p n xs ys) ≡ true
  mixture_allowed n ys b =
      allowed_of (suc n * d) p (mixture p n xs ys)
      (added_balanced p w (times p n xs) ys (times_balanced p w xs (balanced_of d p xs a) (pos n)) (balanced_of d p ys b))
      (λ k l. subst (λ (z : ℤ). in_range (suc n * d) (stream_of p k) z ≡ true) (sym (mixture_at p n xs ys k l))
      (mixed_range (stream_of p k) d (amount_at xs k) (range_of d p xs a k l) n (amount_at ys k) (range_of d p ys b k l)))
