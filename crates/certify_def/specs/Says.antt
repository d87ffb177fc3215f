-- What the check of a flow found elsewhere ensures, with one number for each place, over a plant of wide numbers.
use Rattle.std.specs.Prelude.{◌≡◌, ◌⊎◌, true, List, ℤ, nat_abs, ℕ, zero, suc, ◌+◌, ◌*◌, ◌≤◌, ◌<◌, length, take}
use Rattle.std.specs.Int.Signed.{le_z}
use Rattle.num_bytes.specs.Choice.{pick}
use Rattle.num_bytes.specs.Lent.{Lent}
use Rattle.plant_def.specs.declared.Stream.{Stream}
use Rattle.plant_def.specs.Plants.{Plant}
use Rattle.plant_parts.specs.Parts.{Slices}
use Rattle.flow_def.specs.Flows.{stream_at, amount_at, allowed, allowed_over, cost, cost_over, OfLeastCost}
use Rattle.sheet_def.specs.Sentences.{MeteredAt, UnmeteredAt}
use Rattle.foreign_def.specs.Passing.{place_number, difference, bottom, top, AtLow, AtHigh}
use Rattle.certify_def.specs.Number.{max_wide_flow, max_wide_number, wide_plant, flow_fault}

-- The slices that are lent to the call, as they are at its entry.
abbrev pub lent_slices : (from to metered weight : Lent (List ℕ)) (reading : Lent (List ℤ)) (ranged : Lent (List ℕ)) (low high : Lent (List ℤ)) → Slices
lent_slices from to metered weight reading ranged low high = record {
  from = from.entry.now;
  to = to.entry.now;
  metered = metered.entry.now;
  weight = weight.entry.now;
  reading = reading.entry.now;
  ranged = ranged.entry.now;
  low = low.entry.now;
  high = high.entry.now;
}

-- The summed weights of the metered streams among the first k.
abbrev pub weights_to : List Stream → ℕ → ℕ
weights_to ss zero = 0
weights_to ss (suc k) = pick (stream_at ss k).metered (stream_at ss k).weight 0 + weights_to ss k

-- A flow of least cost, balanced and in range, that no flow in fractions undercuts by more than a quarter of the summed weights.
pub record Vouched (p : Plant) (xs : List ℤ) : Type 0 where
  pub least_cost : OfLeastCost p xs
  pub near : (ys : List ℤ) (d : ℕ) → allowed_over d p ys ≡ true
      → 4 * (d * d) * cost p.streams xs ≤ 4 * cost_over d p.streams ys + d * d * weights_to p.streams (length p.streams)

-- The rules for a flow and numbers of the places.
pub record Certifies (p : Plant) (xs numbers : List ℤ) : Type 0 where
  -- Flows and numbers are within their limits; the flow balances and lies in range.
  pub small_flows : (k : ℕ) → k < length p.streams → nat_abs (amount_at xs k) ≤ max_wide_flow
  pub small_numbers : (u : ℕ) → u ≤ p.units → nat_abs (place_number numbers u) ≤ max_wide_number
  pub balance : allowed p xs ≡ true
  -- The rules of a sheet drawn up elsewhere: the difference of the numbers at a metered stream's ends lies from bottom to top, excused at
  -- low and at high; an unmetered stream has equal numbers.
  pub from_bottom : (k : ℕ) → MeteredAt p k → let s = stream_at p.streams k in
      AtLow s (amount_at xs k) ⊎ (le_z (bottom s (amount_at xs k)) (difference numbers s) ≡ true)
  pub to_top : (k : ℕ) → MeteredAt p k → let s = stream_at p.streams k in
      AtHigh s (amount_at xs k) ⊎ (le_z (difference numbers s) (top s (amount_at xs k)) ≡ true)
  pub equal : (k : ℕ) → UnmeteredAt p k → let s = stream_at p.streams k in place_number numbers s.from ≡ place_number numbers s.to

-- What the check ensures: the call's fault; without one, 0 where the rules hold, 26 where one is broken; and what a 0 vouches for.
pub record FlowSays (n c : ℕ) (parts : Slices) (flow numbers : List ℤ) (r : ℕ) : Type 0 where
  pub fault : (flow_fault n c parts (length flow) (length numbers) ≡ 0 → ⊥) → r ≡ flow_fault n c parts (length flow) (length numbers)
  pub passed : flow_fault n c parts (length flow) (length numbers) ≡ 0 → Certifies (wide_plant n c parts) (take c flow) numbers → r ≡ 0
  pub broken : flow_fault n c parts (length flow) (length numbers) ≡ 0 → (Certifies (wide_plant n c parts) (take c flow) numbers → ⊥) → r ≡ 26
  pub sound : r ≡ 0 → Vouched (wide_plant n c parts) (take c flow)
