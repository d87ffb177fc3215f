-- One place or one stream more: the greatest, the sum of products, potentials moved, and nets.
use Rattle.std.proofs.Common.{◌≡◌, ℕ, zero, suc, ◌+◌, ◌*◌, ◌≤◌, min, List, length, get_or, set, take, replicate, refl, ap, ◌∙◌, add-one, arith, length-set}
use lib.ListN.{length-replicate}
use lib.Ieee.{Float, nan, binary64, neg, add, sub, mul}
use Rattle.std.proofs.lemmas.List.{length-take, get_or-take}
use Rattle.plant_def.specs.Limits.{places}
use Rattle.newton_laplacian.specs.Amounts.{amount_by, brought_in}
use Rattle.newton_descend.specs.Nets.{none, larger, highest_to, greatest_to, product_to, moved_to, brought_to, brought, nets_to}

-- Before the first place the greatest is 0;
pub highest_none : (xs : List Float) → none ≡ highest_to xs 0
unfolding highest_to
highest_none xs = refl

-- with one place more, the larger of that and its number.
pub highest_more : (xs : List Float) (n : ℕ) (a b : Float) → a ≡ highest_to xs n → b ≡ larger a (get_or xs n nan) → b ≡ highest_to xs (n + 1)
unfolding highest_to
highest_more xs n a b e f = rw (add-one n) (f ∙ ap (λ (x : Float). larger x (get_or xs n nan)) e)

-- The places after the first n have no part in it.
pub highest_front : (xs : List Float) (n k : ℕ) → k ≤ n → highest_to (take n xs) k ≡ highest_to xs k
unfolding highest_to
highest_front xs n zero h = refl
highest_front xs n (suc k) h = rw (highest_front xs n k (omega arith), get_or-take n xs k nan (omega arith))

-- Before the first place the greatest size is 0.
pub greatest_none : (zs : List Float) → none ≡ greatest_to zs 0
unfolding greatest_to
greatest_none zs = refl

-- With one place more, the largest of that, its number and its number negated.
pub greatest_more : (zs : List Float) (n : ℕ) (a b c : Float) → a ≡ greatest_to zs n → b ≡ larger a (get_or zs n nan) → c ≡ larger b (neg (get_or zs n nan))
    → c ≡ greatest_to zs (n + 1)
unfolding greatest_to
greatest_more zs n a b c e f g = rw (add-one n) (g ∙ ap (λ (x : Float). larger x (neg (get_or zs n nan))) (f ∙ ap (λ (x : Float). larger x (get_or zs n nan)) e))

-- Before the first place the sum of products is 0;
pub product_none : (xs ys : List Float) → none ≡ product_to xs ys 0
unfolding product_to
product_none xs ys = refl

-- with one place more, its product is added.
pub product_more : (xs ys : List Float) (n : ℕ) (a : Float) → a ≡ product_to xs ys n
    → add binary64 a (mul binary64 (get_or xs n nan) (get_or ys n nan)) ≡ product_to xs ys (n + 1)
unfolding product_to
product_more xs ys n a e = rw (add-one n) (ap (λ (x : Float). add binary64 x (mul binary64 (get_or xs n nan) (get_or ys n nan))) e)

-- The places after the first n have no part in it:
pub product_front : (xs ys : List Float) (n k : ℕ) → k ≤ n → product_to (take n xs) (take n ys) k ≡ product_to xs ys k
unfolding product_to
product_front xs ys n zero h = refl
product_front xs ys n (suc k) h = rw (product_front xs ys n k (omega arith), get_or-take n xs k nan (omega arith), get_or-take n ys k nan (omega arith))

-- the first n alone have that sum.
pub product_fronts : (xs ys : List Float) (n : ℕ) → n ≤ length xs → n ≤ length ys
    → product_to (take n xs) (take n ys) (min (length (take n xs)) (length (take n ys))) ≡ product_to xs ys n
product_fronts xs ys n h g =
    let e : min (length (take n xs)) (length (take n ys)) ≡ n = omega (arith, length-take n xs, length-take n ys) in
    rw e (product_front xs ys n n (omega arith))

module _ (ps ws : List Float) (t : Float) where
  -- Before the first place no potential is moved,
  pub moved_none : (rs : List Float) → rs ≡ moved_to ps ws t rs 0
  unfolding moved_to
  moved_none rs = refl

  -- and one place more has its own moved.
  pub moved_more : (rs : List Float) (n : ℕ) (r : List Float) → r ≡ moved_to ps ws t rs n
      → set r n (add binary64 (get_or ps n nan) (mul binary64 t (get_or ws n nan))) ≡ moved_to ps ws t rs (n + 1)
  unfolding moved_to
  moved_more rs n r e = rw (add-one n) (ap (λ (x : List Float). set x n (add binary64 (get_or ps n nan) (mul binary64 t (get_or ws n nan)))) e)

module _ (es : List ℕ) (ms ps : List Float) where
  -- Before the first stream every net is 0;
  pub nets_none : replicate places none ≡ nets_to es ms ps 0
  unfolding nets_to
  nets_none = refl

  -- one stream more takes its amount from the group of its start and brings it to that of its end;
  pub nets_more : (k : ℕ) (zs : List Float) → zs ≡ nets_to es ms ps k
      → brought es ms ps k zs ≡ nets_to es ms ps (k + 1)
  unfolding nets_to
  nets_more k zs e = rw (add-one k) (ap (brought es ms ps k) e)

  -- and every place has a net.
  pub nets_long : (k : ℕ) → length (nets_to es ms ps k) ≡ places
  unfolding nets_to
  nets_long zero = length-replicate places none
  nets_long (suc k) = simp length-set (nets_long k)

-- What a stream carries is brought from group to group.
pub brought_is : (es : List ℕ) (ms ps zs : List Float) (k g h : ℕ) (x y : Float) → g ≡ get_or es (2 * k) 0 → h ≡ get_or es (2 * k + 1) 0
    → y ≡ amount_by ms k (sub binary64 (get_or ps h nan) (get_or ps g nan)) → x ≡ brought_in ms k y
    → brought_to zs g h x ≡ brought es ms ps k zs
brought_is es ms ps zs k g h x y a b c d = rw (d, c, a, b)
