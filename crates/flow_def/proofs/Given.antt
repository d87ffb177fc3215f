-- Given streams: an unmetered stream on no loop carries, in each balanced flow, what the metered streams take out of the
-- places beyond it.
use mathlib.Core.Path.{◌≡◌, refl, sym, ◌∙◌}
use mathlib.Core.Bool.{Bool, true, false, ◌&&◌}
use mathlib.Core.List.{List, [], ◌∷◌, ◌++◌}
use lib.IntN.{ℤ, pos, neg_ℤ, ◌+ℤ◌}
use Prim.Native.Nat.{ℕ, ◌<◌}
use native.Mathlib.Omega.{arith}
use borrow.Author.Tests.{ne_eqb}
use lib.ListN.{length}
use Rattle.num_bytes.specs.Choice.{pick}
use Rattle.num_bytes.proofs.Tests.{by_cases, clash}
use Rattle.plant_def.specs.declared.Stream.{Stream}
use Rattle.plant_def.specs.Plants.{Plant}
use Rattle.plant_def.specs.Within.{Within}
use Rattle.flow_def.specs.declared.Class.{Class}
use Rattle.flow_def.specs.declared.Class.TheVariants.{Adjusted, AsRead, Given, Withheld}
use Rattle.flow_def.specs.Flows.{stream_at, amount_at, balanced, metered_of, Agree}
use Rattle.flow_def.specs.Classes.{has, joined_to, unmetered_but, one_group, on_loop, class_of, side_out, given_of, number_of}
use Rattle.flow_def.proofs.Reach.{joined_self, joined_closed, joined_sym}
use Rattle.flow_def.proofs.Nets.{inside, balanced_size, side_number}

-- What a class says of a stream. m: it is metered, g: its ends are in one group, o: it lies on a loop.
abbrev pub Means : Class → Bool → Bool → Bool → Type 0
Means Adjusted m g o = (m ≡ true) × (g ≡ false)
Means AsRead m g o = (m ≡ true) × (g ≡ true)
Means Given m g o = (m ≡ false) × (o ≡ false)
Means Withheld m g o = (m ≡ false) × (o ≡ true)

-- Each class means what its definition says: metered or not, its ends in one group or not, on a loop or not.
pub class_means : (p : Plant) (i : ℕ) (c : Class) → class_of p i ≡ c
    → let s = stream_at p.streams i in Means c s.metered (one_group p s.from s.to) (on_loop p i)
class_means p i c e = let s = stream_at p.streams i in rw e at (go s.metered (one_group p s.from s.to) (on_loop p i))
  where
    go : (m g o : Bool) → Means (pick m (pick g AsRead Adjusted) (pick o Withheld Given)) m g o
    go true true o = (refl, refl)
    go true false o = (refl, refl)
    go false g true = (refl, refl)
    go false g false = (refl, refl)

module _ (p : Plant) (w : Within p) (xs : List ℤ) (b : balanced p xs ≡ true) (i : ℕ) (l : i < length p.streams) where
  -- On no loop: the places joined to its end without it do not hold its start, and no other unmetered stream leaves them.
  off_loop : (stream_at p.streams i).metered ≡ false → on_loop p i ≡ false → given_of p i xs ≡ amount_at xs i
  off_loop m o = side_number p w xs b beyond i l m (joined_self (unmetered_but i) p s.to) apart level
    where
      s : Stream
      s = stream_at p.streams i

      beyond : List ℕ
      beyond = joined_to (unmetered_but i) p (stream_at p.streams i).to

      apart : has s.from beyond ≡ false
      apart = by_cases (has s.from beyond) (λ t. clash (on_loop p i) (joined_sym (unmetered_but i) p (inside p w) s.to s.from t) o) (λ t. t)

      level : (k : ℕ) → k < length p.streams → (k ≡ i → ⊥) → (stream_at p.streams k).metered ≡ false
          → has (stream_at p.streams k).from beyond ≡ has (stream_at p.streams k).to beyond
      level k h n t = joined_closed (unmetered_but i) p (inside p w) s.to k h (rw (t, ne_eqb k i n))

  -- The number of a given stream is its amount in the balanced flow.
  pub its_number_of : class_of p i ≡ Given → given_of p i xs ≡ amount_at xs i
  its_number_of e = let c = class_means p i Given e in off_loop c.0 c.1

  -- So is the number of every stream that is not withheld.
  pub number_is : (class_of p i ≡ Withheld → ⊥) → number_of p xs i ≡ amount_at xs i
  number_is n =
      by_cases (stream_at p.streams i).metered (λ t. rw t)
      (λ t. rw t (off_loop t (by_cases (on_loop p i) (λ o. absurd (n (rw (t, o)))) (λ o. o))))

-- What metered streams take out of a set of places depends on their amounts alone.
side_same : (side : List ℕ) (ss : List Stream) (ys zs : List ℤ) → length ys ≡ length ss → length zs ≡ length ss
    → metered_of ss ys ≡ metered_of ss zs → side_out side ss ys ≡ side_out side ss zs
side_same side [] ys zs m n e = refl
side_same side (s ∷ ss) [] zs m n e = absurd (omega arith)
side_same side (s ∷ ss) (y ∷ ys) [] m n e = absurd (omega arith)
side_same side (s ∷ ss) (y ∷ ys) (z ∷ zs) m n e = go s.metered e (side_same side ss ys zs (omega arith) (omega arith))
  where
    go : (b : Bool) → pick b (y ∷ []) [] ++ metered_of ss ys ≡ pick b (z ∷ []) [] ++ metered_of ss zs
        → (metered_of ss ys ≡ metered_of ss zs → side_out side ss ys ≡ side_out side ss zs)
        → pick (b && has s.from side) y (pos 0) +ℤ (pick (b && has s.to side) (neg_ℤ y) (pos 0) +ℤ side_out side ss ys)
        ≡ pick (b && has s.from side) z (pos 0) +ℤ (pick (b && has s.to side) (neg_ℤ z) (pos 0) +ℤ side_out side ss zs)
    go true q f =
        let head : y ≡ z = cc in
        let rest : metered_of ss ys ≡ metered_of ss zs = cc in
        rw (head, f rest)
    go false q f = rw (f q)

-- Two flows that agree on all metered streams agree on a given one.
pub given_agree : (p : Plant) → Within p → (i : ℕ) → i < length p.streams → class_of p i ≡ Given → (ys zs : List ℤ) → Agree p ys zs
    → amount_at ys i ≡ amount_at zs i
given_agree p w i l e ys zs a =
    sym (its_number_of p w ys a.first i l e)
    ∙ side_same (joined_to (unmetered_but i) p (stream_at p.streams i).to) p.streams ys zs
    (balanced_size p ys a.first) (balanced_size p zs a.second) a.metered
    ∙ its_number_of p w zs a.second i l e
