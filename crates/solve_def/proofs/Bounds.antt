-- What a stream's range leaves: streams that can move, their reduced costs, and the step condition of one stream.
use mathlib.Core.Path.{◌≡◌, ◌∙◌, ap}
use mathlib.Core.Bool.{Bool, true, false, false≢true}
use lib.IntN.{ℤ, pos, negsuc, nat_abs}
use lib.Signed.{le_z}
use Prim.Native.Nat.{ℕ, ◌+◌, ◌*◌, ◌≤◌, ◌<◌}
use native.Mathlib.Nat.{mul-le-mul_left}
use native.Mathlib.Omega.{arith}
use borrow.Author.Tests.{le-leb, leb-true, leb-false}
use lib.Dec.{leb}
use Rattle.num_bytes.proofs.Tests.{by_cases}
use Rattle.plant_def.specs.declared.Stream.{Stream}
use Rattle.plant_def.specs.Plants.{limited}
use Rattle.plant_def.specs.Within.{WithinStream}
use Rattle.flow_def.specs.Certificate.{weight_of}
use Rattle.solve_def.specs.Sizes.{flow_shift, most_flow, farthest, most_reading, most_range}
use Rattle.solve_def.specs.Held.{shifted, reading_of, low_of, high_of, StepMet}
use Rattle.solve_def.specs.ReducedCosts.{reduced_cost_in, reduced_cost_by}
use Rattle.solve_def.specs.SearchNeeds.{SizeWithin}

-- A stream that carries x can move by d: it has room, forwards or backwards.
abbrev pub HasRoom : Stream → Bool → ℕ → ℕ → Type 0
HasRoom s true x d = x + d ≤ high_of s
HasRoom s false x d = low_of s + d ≤ x

-- Room or none.
pub room_or : {A : Type 0} (f : Bool) (s : Stream) (x d : ℕ) → (HasRoom s f x d → A) → ((HasRoom s f x d → ⊥) → A) → A
room_or true s x d free shut = by_cases (leb (x + d) (high_of s)) (λ e. free (leb-true (x + d) (high_of s) e)) (λ e. shut (λ o. omega (arith, leb-false (x + d) (high_of s) e)))
room_or false s x d free shut = by_cases (leb (low_of s + d) x) (λ e. free (leb-true (low_of s + d) x e)) (λ e. shut (λ o. omega (arith, leb-false (low_of s + d) x e)))

-- The reduced cost of a stream with room, and of one that is not; a reduced cost below farthest is that of a stream with room.
pub reduced_with_room : (f : Bool) (s : Stream) (x pu pv d : ℕ) → HasRoom s f x d → reduced_cost_by s f x pu pv d ≡ reduced_cost_in (weight_of s) (2 * (weight_of s * reading_of s)) f x pu pv d
reduced_with_room true s x pu pv d o = rw (le-leb (x + d) (high_of s) o)
reduced_with_room false s x pu pv d o = rw (le-leb (low_of s + d) x o)

-- A stream that cannot move has the greatest reduced cost.
pub reduced_shut : (f : Bool) (s : Stream) (x pu pv d : ℕ) → (HasRoom s f x d → ⊥) → reduced_cost_by s f x pu pv d ≡ farthest
reduced_shut true s x pu pv d o = by_cases (leb (x + d) (high_of s)) (λ e. absurd (o (leb-true (x + d) (high_of s) e))) (λ e. rw e)
reduced_shut false s x pu pv d o = by_cases (leb (low_of s + d) x) (λ e. absurd (o (leb-true (low_of s + d) x e))) (λ e. rw e)

-- One with less can move.
pub room_of : (f : Bool) (s : Stream) (x pu pv d : ℕ) → reduced_cost_by s f x pu pv d < farthest → HasRoom s f x d
room_of f s x pu pv d l = room_or f s x d (λ o. o) (λ o. absurd (omega (arith, reduced_shut f s x pu pv d o)))

-- No reduced cost is above the greatest, if that of a stream that can move is not.
pub reduced_most : (f : Bool) (s : Stream) (x pu pv d : ℕ) → (HasRoom s f x d → reduced_cost_by s f x pu pv d ≤ farthest) → reduced_cost_by s f x pu pv d ≤ farthest
reduced_most f s x pu pv d h = room_or f s x d h (λ o. omega (arith, reduced_shut f s x pu pv d o))

-- An integer as it is held, of size b at most; and two in their order.
shifted_within : (b : ℕ) (z : ℤ) → b ≤ flow_shift → nat_abs z ≤ b → SizeWithin b (shifted z)
shifted_within b (pos a) l h = (omega arith, omega arith)
shifted_within b (negsuc a) l h = (omega arith, omega arith)

shifted_order : (y z : ℤ) → nat_abs y ≤ flow_shift → le_z y z ≡ true → shifted y ≤ shifted z
shifted_order (pos a) (pos b) h e = omega (arith, leb-true a b e)
shifted_order (pos a) (negsuc b) h e = absurd (false≢true e)
shifted_order (negsuc a) (pos b) h e = omega arith
shifted_order (negsuc a) (negsuc b) h e = omega (arith, leb-true b a e)

-- A reading as it is held.
pub reading_within : (z : ℤ) → nat_abs z ≤ most_reading → SizeWithin most_reading (shifted z)
reading_within z h = shifted_within most_reading z (omega arith) h

-- The range of a stream, with one and without.
pub unlimited : (s : Stream) → s.metered ≡ false → limited s ≡ false
unlimited s e = rw e

-- The low of a stream with a range, as it is held.
pub low_is : (s : Stream) → limited s ≡ true → low_of s ≡ shifted s.low
unfolding low_of
low_is s e = rw e

-- And its high.
pub high_is : (s : Stream) → limited s ≡ true → high_of s ≡ shifted s.high
unfolding high_of
high_is s e = rw e

-- The low of a stream without a range.
pub low_free : (s : Stream) → limited s ≡ false → low_of s ≡ 0
unfolding low_of
low_free s e = rw e

-- And its high.
pub high_free : (s : Stream) → limited s ≡ false → high_of s ≡ most_flow
unfolding high_of
high_free s e = rw e

-- Its ends are of size most_range at most; it is not empty, and not above most_flow.
module _ {n : ℕ} (s : Stream) (w : WithinStream n s) where
  -- A low is of size most_range at most.
  pub low_within : limited s ≡ true → SizeWithin most_range (low_of s)
  low_within e = rw (low_is s e) (shifted_within most_range s.low (omega arith) (omega (arith, w.low_in e)))

  -- So is a high.
  pub high_within : limited s ≡ true → SizeWithin most_range (high_of s)
  high_within e = rw (high_is s e) (shifted_within most_range s.high (omega arith) (omega (arith, w.high_in e)))

  -- The low is not above the high.
  pub low_high : low_of s ≤ high_of s
  low_high = by_cases (limited s)
      (λ e. rw (low_is s e, high_is s e) (shifted_order s.low s.high (omega (arith, w.low_in e)) (w.ordered e)))
      (λ e. rw (low_free s e) (omega arith))

  -- A high can be held.
  pub high_most : high_of s ≤ most_flow
  high_most = by_cases (limited s) (λ e. omega (arith, (high_within e).0)) (λ e. rw (high_free s e) (omega arith))

-- A stream without a range whose amount is not too large has room.
pub room_free : (f : Bool) (s : Stream) (x d b : ℕ) → limited s ≡ false → SizeWithin b x → b + d ≤ flow_shift → HasRoom s f x d
room_free true s x d b m c l = rw (high_free s m) (omega (arith, c.0))
room_free false s x d b m c l = rw (low_free s m) (omega (arith, c.1))

-- A stream's weight, where it is metered and where it is not.
pub weight_none : (s : Stream) → s.metered ≡ false → weight_of s ≡ 0
weight_none s e = rw e

-- The weight of a metered stream.
pub weight_some : (s : Stream) → s.metered ≡ true → weight_of s ≡ s.weight
weight_some s e = rw e

-- The step condition at a greater step; and at weight 0: the potentials of that of a stream with room ends agree.
pub met_more : (m w X R u v L H : ℕ) → 1 ≤ m → StepMet 1 w X R u v L H → StepMet m w X R u v L H
met_more m w X R u v L H l h =
    let k : w * 1 ≤ w * m = mul-le-mul_left w l in
    record { low = λ o. omega (arith, h.low (omega arith)); high = λ o. omega (arith, h.high (omega arith)) }

module _ (m w X R u v L H : ℕ) (e : w ≡ 0) where
  none : (x : ℕ) → w * x ≡ 0
  none x = ap (λ k. k * x) e ∙ omega arith

  -- A stream of weight 0 with room both ways has equal potentials at its ends.
  pub met_agree : L + m ≤ X → X + m ≤ H → StepMet m w X R u v L H → u ≡ v
  met_agree a b h = omega (arith, none X, none R, none m, h.low a, h.high b)

  -- With equal potentials it meets the step condition.
  pub agree_met : u ≡ v → StepMet m w X R u v L H
  agree_met q = record { low = λ o. omega (arith, none X, none R, none m); high = λ o. omega (arith, none X, none R, none m) }
