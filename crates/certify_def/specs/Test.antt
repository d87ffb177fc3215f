-- The check as the code makes it, over streams by their numbers. For proofs and for what inner calls promise: no public promise cites it.
use Rattle.std.specs.Prelude.{◌≡◌, Bool, true, false, not, ◌&&◌, ◌||◌, List, ℤ, pos, nat_abs, ℕ, suc, ◌≤◌, ◌<◌, eqb, ltb, leb, length, get_or, take}
use Rattle.num_bytes.specs.Choice.{refuse_if, first_of}
use Rattle.num_bytes.specs.Sums.{sum}
use Rattle.plant_def.specs.declared.Stream.{Stream}
use Rattle.plant_def.specs.Limits.{max_units, max_streams}
use Rattle.plant_def.specs.Plants.{Plant, units_fault}
use Rattle.plant_parts.specs.Parts.{Slices, parts_at, least}
use Rattle.flow_def.specs.Flows.{stream_at, amount_at, allowed}
use Rattle.flow_def.specs.Nets.{brought}
use Rattle.flow_def.specs.Certificate.{climb, in_kilter, every, listed_potential}
use Rattle.foreign_def.specs.Test.{flow_fits}
use Rattle.certify_def.specs.declared.WideStream.{WideStream}
use Rattle.certify_def.specs.Number.{max_wide_weight, max_wide_reading, max_wide_flow, max_wide_number, wide_plant, shortest, wide_faults}

-- A stream of wide numbers as a stream.
abbrev pub plainly : WideStream → Stream
plainly s = record {
  from = s.from;
  to = s.to;
  metered = s.metered;
  weight = s.weight;
  reading = s.reading;
  ranged = s.ranged;
  low = s.low;
  high = s.high;
}

-- The empty record.
abbrev pub no_wide : WideStream
no_wide = record { from = 0; to = 0; metered = false; ranged = false; weight = 0; reading = pos 0; low = pos 0; high = pos 0 }

-- Stream k of an array.
abbrev pub wide_at : List WideStream → ℕ → Stream
wide_at ss k = plainly (get_or ss k no_wide)

-- A stream within the limits of a plant with n units, as far as the code needs it.
pub record WideWithin (n : ℕ) (s : Stream) : Type 0 where
  pub from_in : s.from ≤ n
  pub to_in : s.to ≤ n
  pub weighty : s.metered ≡ true → 1 ≤ s.weight
  pub light : s.metered ≡ true → s.weight ≤ max_wide_weight
  pub within_range : s.metered ≡ true → nat_abs s.reading ≤ max_wide_reading

-- Every one of the first c is.
abbrev pub AllWithin : ℕ → (ℕ → Stream) → ℕ → Type 0
AllWithin n s c = (k : ℕ) → k < c → WideWithin n (s k)

-- The slices of a plant's parts.
abbrev pub slices_of : (from to metered weight : List ℕ) (reading : List ℤ) (ranged : List ℕ) (low high : List ℤ) → Slices
slices_of from to metered weight reading ranged low high =
    record { from = from; to = to; metered = metered; weight = weight; reading = reading; ranged = ranged; low = low; high = high }

-- The first c streams of an array are these.
abbrev pub Gathered : List WideStream → (ℕ → Stream) → ℕ → Type 0
Gathered streams s c = (k : ℕ) → k < c → wide_at streams k ≡ s k

-- The streams of an array are those that slices hand over.
abbrev pub Handed : List WideStream → Slices → ℕ → Type 0
Handed streams parts c = Gathered streams (parts_at parts) c

-- The answer before the streams are looked at: slices that reach so far, and so many numbers.
abbrev pub call_number : ℕ → ℕ → ℕ → ℕ → ℕ
call_number n c reach numbers = first_of (refuse_if (ltb reach c || ltb numbers (suc n)) 1) (first_of (units_fault n) (refuse_if (ltb max_streams c) 5))

-- The first m of a list are within a limit.
abbrev pub all_small : ℕ → List ℤ → ℕ → Bool
all_small m zs limit = every m (λ k. leb (nat_abs (amount_at zs k)) limit)

-- Flows and numbers of the places, within their limits: as many as there are streams and places.
pub record Ready (n c : ℕ) (s : ℕ → Stream) (flow numbers : List ℤ) : Type 0 where
  pub few_units : n ≤ max_units
  pub few_streams : c ≤ max_streams
  pub flow_long : c ≤ length flow
  pub numbers_long : n < length numbers
  pub each : AllWithin n s c
  pub flow_small : all_small c flow max_wide_flow ≡ true
  pub numbers_small : all_small (suc n) numbers max_wide_number ≡ true

-- Flows are in range, and the differences of the numbers at the streams' ends within bounds: so it is with the first c streams.
unfoldable pub flows_fit : (ℕ → Stream) → (ℕ → ℤ) → List ℤ → ℕ → Bool
flows_fit s x numbers c = every c (λ k. flow_fits (s k) (x k) (climb (listed_potential numbers) (s k)))

-- The net of place u by the first c streams.
abbrev pub net_to : (ℕ → Stream) → (ℕ → ℤ) → ℕ → ℕ → ℤ
net_to s x u c = sum c (λ k. brought u (s k) (x k))

-- The nets of units 1 to n are 0.
unfoldable pub nets_fit : (ℕ → Stream) → (ℕ → ℤ) → ℕ → ℕ → Bool
nets_fit s x c n = every n (λ u. eqb (nat_abs (net_to s x (suc u) c)) 0)

-- The rules, as they are tested.
abbrev pub rules_hold : ℕ → ℕ → (ℕ → Stream) → List ℤ → List ℤ → Bool
rules_hold n c s flow numbers =
    (all_small c flow max_wide_flow && all_small (suc n) numbers max_wide_number) && (nets_fit s (amount_at flow) c n && flows_fit s (amount_at flow) numbers c)

-- The rules as one test: flows and numbers within their limits, the flow balanced and in range, each stream's numbers within its bounds.
abbrev pub certifies : Plant → List ℤ → List ℤ → Bool
certifies p xs numbers =
    (every (length xs) (λ k. leb (nat_abs (amount_at xs k)) max_wide_flow)
    && every (suc p.units) (λ u. leb (nat_abs (listed_potential numbers u)) max_wide_number))
    && (allowed p xs && every (length p.streams) (λ k. in_kilter (listed_potential numbers) (stream_at p.streams k) (amount_at xs k)))

-- The answer: a slice too short 1, then the faults of the parts, then 26 where a rule is broken; else 0.
abbrev pub flow_number : ℕ → ℕ → Slices → List ℤ → List ℤ → ℕ
flow_number n c parts flow numbers =
    first_of (refuse_if (ltb (least (shortest parts) (length flow)) c || ltb (length numbers) (suc n)) 1)
    (first_of (units_fault n)
    (first_of (refuse_if (ltb max_streams c) 5)
    (first_of (wide_faults n (parts_at parts) c) (refuse_if (not (certifies (wide_plant n c parts) (take c flow) numbers)) 26))))
