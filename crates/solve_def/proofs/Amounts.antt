-- Held amounts as integers, and the nets of places: what a store does to them, and how large they get.
use mathlib.Core.Path.{◌≡◌, sym, ◌∙◌, ap}
use mathlib.Core.Bool.{Bool, true, false}
use mathlib.Core.List.{List}
use lib.IntN.{ℤ, pos, neg_ℤ, ◌+ℤ◌}
use Prim.Native.Nat.{ℕ, zero, suc, ◌+◌, ◌≤◌, ◌<◌}
use native.Mathlib.Omega.{arith}
use native.Mathlib.Decide.{ℕ_discrete}
use borrow.Author.Tests.{eqb-true, eqb-false}
use lib.Dec.{eqb}
use lib.ListN.{length, get_or, set, take, length-map}
use lib.Seq.{get_or-set_same, get_or-set_other, get_or-take, length-take-le}
use Rattle.num_bytes.specs.Choice.{pick}
use Rattle.num_bytes.proofs.Tests.{by_cases}
use Rattle.plant_def.specs.declared.Stream.{Stream}
use Rattle.flow_def.specs.Flows.{stream_at, amount_at}
use Rattle.num_bytes.proofs.Integers.{up, dn, same, diff, diff_val, plus_val, minus_val, up_neg, dn_neg}
use Rattle.num_bytes.proofs.Sums.{sum, sum_same}
use Rattle.flow_def.proofs.Nets.{brought, net_of}
use Rattle.num_bytes.proofs.Lists.{map_at}
use Rattle.solve_def.specs.Sizes.{flow_shift}
use Rattle.solve_def.specs.Held.{unshifted, opened}

-- A held amount as an integer.
pub unshifted_val : (x : ℕ) → up (unshifted x) + flow_shift ≡ x + dn (unshifted x)
unfolding unshifted
unshifted_val x = omega (arith, minus_val (pos x) (pos flow_shift))

-- A held amount as a difference of naturals.
pub unshifted_is : (x : ℕ) → unshifted x ≡ diff x flow_shift
unshifted_is x = same (unshifted x) (diff x flow_shift) (omega (arith, unshifted_val x, diff_val x flow_shift))

-- A list of held amounts as a flow.
pub opened_size : (n : ℕ) (xs : List ℕ) → n ≤ length xs → length (opened n xs) ≡ n
opened_size n xs l = length-map (take n xs) unshifted ∙ length-take-le n xs l

-- An amount of the flow that held amounts stand for.
pub opened_at : (n : ℕ) (xs : List ℕ) (k : ℕ) → n ≤ length xs → k < n → amount_at (opened n xs) k ≡ unshifted (get_or xs k 0)
opened_at n xs k l h = map_at unshifted (take n xs) k (pos 0) 0 (rw (length-take-le n xs l) h) ∙ ap unshifted (get_or-take n xs k 0 h)

-- The net of a place.
abbrev pub net : List Stream → List ℕ → ℕ → ℤ
net ss xs u = net_of ss (λ k. unshifted (get_or xs k 0)) u

-- And its nets.
pub net_opened : (u : ℕ) (ss : List Stream) (xs : List ℕ) → length ss ≤ length xs → net_of ss (amount_at (opened (length ss) xs)) u ≡ net ss xs u
net_opened u ss xs l =
    sum_same (length ss) _ (λ k. brought u (stream_at ss k) (unshifted (get_or xs k 0)))
    (λ k h. ap (λ (z : ℤ). brought u (stream_at ss k) z) (opened_at (length ss) xs k l h))

-- A store.
pub get_set : {A : Type 0} (xs : List A) (i k : ℕ) (y d : A) → i < length xs → get_or (set xs i y) k d ≡ pick (eqb i k) y (get_or xs k d)
get_set xs i k y d h = by_cases (eqb i k)
    (λ e. let q : i ≡ k = eqb-true i k e in rw (e, ← q) (get_or-set_same xs i y d h))
    (λ e. rw e (get_or-set_other xs i k y d (λ q. eqb-false i k e (sym q))))

-- Two sums that differ in one part differ by that part.
sum_change : (n i : ℕ) (f g : ℕ → ℤ) → i < n → ((k : ℕ) → k < n → (k ≡ i → ⊥) → g k ≡ f k)
    → up (sum n g) + dn (sum n f) + (up (f i) + dn (g i)) ≡ up (sum n f) + dn (sum n g) + (up (g i) + dn (f i))
sum_change zero i f g l h = absurd (omega arith)
sum_change (suc n) i f g l h = elim (ℕ_discrete i n) [
  | yes q ↦ rw (q, sum_same n g f (λ k m. h k (omega arith) (λ o. omega arith))) (omega (arith, plus_val (f n) (sum n f), plus_val (g n) (sum n f)))
  | no q ↦ rw (h n (omega arith) (λ o. q (sym o)))
      (omega (arith, sum_change n i f g (omega arith) (λ k m. h k (omega arith)), plus_val (f n) (sum n f), plus_val (f n) (sum n g)))
]

-- What a stream with the held amount x brings to a place and takes from it: a, its end is there; b, its start is.
pub brought_val : (B : ℕ) (a b : Bool) (x : ℕ) (z : ℤ) → up z + B ≡ x + dn z
    → up (pick a z (pos 0) +ℤ pick b (neg_ℤ z) (pos 0)) + (pick a B 0 + pick b x 0) ≡ dn (pick a z (pos 0) +ℤ pick b (neg_ℤ z) (pos 0)) + (pick a x 0 + pick b B 0)
brought_val B true true x z h = omega (arith, plus_val z (neg_ℤ z), up_neg z, dn_neg z)
brought_val B true false x z h = omega (arith, plus_val z (pos 0))
brought_val B false true x z h = omega (arith, plus_val (pos 0) (neg_ℤ z), up_neg z, dn_neg z)
brought_val B false false x z h = omega arith

-- What a store of one amount does to the net of a place.
pub net_set : (u : ℕ) (ss : List Stream) (xs : List ℕ) (i y : ℕ) → i < length ss → i < length xs
    → up (net ss (set xs i y) u) + dn (net ss xs u) + (pick (eqb (stream_at ss i).to u) (get_or xs i 0) 0 + pick (eqb (stream_at ss i).from u) y 0)
    ≡ up (net ss xs u) + dn (net ss (set xs i y) u) + (pick (eqb (stream_at ss i).to u) y 0 + pick (eqb (stream_at ss i).from u) (get_or xs i 0) 0)
net_set u ss xs i y l m =
    omega (
      arith,
      sum_change (length ss) i (λ k. brought u (stream_at ss k) (unshifted (get_or xs k 0))) (λ k. brought u (stream_at ss k) (unshifted (get_or (set xs i y) k 0))) l
          (λ k h q. ap (λ (x : ℕ). brought u (stream_at ss k) (unshifted x)) (get_or-set_other xs i k y 0 q)),
      brought_val flow_shift (eqb (stream_at ss i).to u) (eqb (stream_at ss i).from u) (get_or xs i 0) (unshifted (get_or xs i 0)) (unshifted_val (get_or xs i 0)),
      brought_val flow_shift (eqb (stream_at ss i).to u) (eqb (stream_at ss i).from u) (get_or (set xs i y) i 0) (unshifted (get_or (set xs i y) i 0))
          (unshifted_val (get_or (set xs i y) i 0)),
      here (eqb (stream_at ss i).to u),
      here (eqb (stream_at ss i).from u),
    )
  where
    here : (b : Bool) → pick b (get_or (set xs i y) i 0) 0 ≡ pick b y 0
    here b = ap (λ (x : ℕ). pick b x 0) (get_or-set_same xs i y 0 m)
