-- Lists by index, and loops that write an array's elements one after the other.
use mathlib.Core.Path.{◌≡◌, refl, ap, sym, ◌∙◌}
use mathlib.Core.List.{List, [], ◌∷◌, map}
use Prim.Native.Nat.{ℕ, zero, suc, ◌+◌, ◌<◌}
use native.Mathlib.Omega.{arith}
use native.Mathlib.Decide.{ℕ_discrete}
use borrow.Author.Count.{below_none, below_more}
use lib.ListN.{length, get_or, set, length-set}
use lib.Seq.{ext_get_or, get_or-set_same, get_or-set_other}
use Rattle.num_bytes.specs.Inner.{values}
pub use Rattle.num_bytes.specs.Written.{Written}

-- Element i of a mapped list is the function's value of element i.
pub map_at : {A B : Type 0} (f : A → B) (xs : List A) (i : ℕ) (d : B) (e : A) → i < length xs → get_or (map f xs) i d ≡ f (get_or xs i e)
map_at f [] i d e h = absurd (omega arith)
map_at f (x ∷ xs) zero d e h = refl
map_at f (x ∷ xs) (suc i) d e h = map_at f xs i d e (omega arith)

-- There are n values of the numbers 0 to n − 1,
pub values_long : {A : Type 0} (f : ℕ → A) (n : ℕ) → length (values n f) ≡ n
values_long f zero = refl
values_long f (suc n) = ap suc (values_long (λ k. f (suc k)) n)

-- value k is the function's of k,
pub values_at : {A : Type 0} (f : ℕ → A) (d : A) (n k : ℕ) → k < n → get_or (values n f) k d ≡ f k
values_at f d zero k l = absurd (omega arith)
values_at f d (suc n) zero l = refl
values_at f d (suc n) (suc k) l = values_at (λ k. f (suc k)) d n k (omega arith)

-- and functions that agree below n have the same values.
pub values_same : {A : Type 0} (n : ℕ) (f g : ℕ → A) → ((k : ℕ) → k < n → f k ≡ g k) → values n f ≡ values n g
values_same zero f g h = refl
values_same (suc n) f g h =
    let e = h 0 (omega arith) in
    let t = values_same n (λ k. f (suc k)) (λ k. g (suc k)) (λ k l. h (suc k) (omega arith)) in
    λ i. e i ∷ t i

-- A property of each element survives a store. (d is read past the end.)
pub set_each : {A : Type 0} (P : A → Type 0) (d : A) (xs : List A) (i : ℕ) (v : A) (n : ℕ) → i < length xs → P v
    → ((k : ℕ) → k < n → P (get_or xs k d)) → (k : ℕ) → k < n → P (get_or (set xs i v) k d)
set_each P d xs i v n l p all k m = elim (ℕ_discrete k i) [
  | yes e ↦ rw (e, get_or-set_same xs i v d l) p
  | no e ↦ rw (get_or-set_other xs i k v d e) (all k m)
]

module _ {A : Type 0} {d : A} {n : ℕ} {f : ℕ → A → A} where
  -- Before the first step nothing is written.
  pub written_none : {xs : List A} → length xs ≡ n → Written d n f xs xs 0
  written_none h = record { long = h; done = below_none _; rest = λ k h. refl }

  -- Element u is written.
  pub written_put : {before now : List A} {u : ℕ} → Written d n f before now u → u < n → (v : A) → v ≡ f u (get_or before u d)
      → Written d n f before (set now u v) (u + 1)
  written_put {before} {now} {u} w h v e = record {
    long = length-set now u v ∙ w.long;
    done =
        below_more _ u (λ k lt. get_or-set_other now u k v d (λ q. omega arith) ∙ w.done k lt)
        (get_or-set_same now u v d (rw w.long h) ∙ e);
    rest = λ k le. get_or-set_other now u k v d (λ q. omega arith) ∙ w.rest k (omega arith);
  }

  -- Element u is right as it is.
  pub written_keep : {before now : List A} {u : ℕ} → Written d n f before now u → f u (get_or before u d) ≡ get_or before u d
      → Written d n f before now (u + 1)
  written_keep {before} {now} {u} w e = record {
    long = w.long;
    done = below_more _ u w.done (w.rest u (omega arith) ∙ sym e);
    rest = λ k le. w.rest k (omega arith);
  }

  -- All elements are written: the list whose elements are f's values.
  pub written_all : {before now : List A} → Written d n f before now n → (xs : List A) → length xs ≡ n
      → ((k : ℕ) → k < n → get_or xs k d ≡ f k (get_or before k d)) → now ≡ xs
  written_all {now = now} w xs h e = ext_get_or d now xs (w.long ∙ sym h) (λ k l. let m : k < n = rw w.long at l in w.done k m ∙ sym (e k m))
