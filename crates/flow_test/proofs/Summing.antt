-- The weights of the adjusted streams, summed up stream by stream.
use mathlib.Core.Path.{◌≡◌, refl, sym, ap, ◌∙◌}
use mathlib.Core.List.{List}
use Prim.Native.Nat.{ℕ, ◌+◌, ◌*◌, ◌≤◌, ◌<◌}
use native.Mathlib.Omega.{arith}
use native.Mathlib.Numerals.{add-one}
use lib.ListN.{length, get_or}
use Rattle.plant_def.specs.declared.Plant as Arrays
use Rattle.plant_def.specs.declared.Stream.{Stream}
use Rattle.plant_def.specs.Limits.{max_streams}
use Rattle.plant_def.specs.Plants.{no_stream}
use Rattle.plant_def.specs.Within.{Accepted}
use Rattle.plant_def.specs.Says.{plant_of}
use Rattle.plant_def.proofs.Arrayed.{all_listed, listed_at}
use Rattle.flow_def.specs.declared.Class.{Class}
use Rattle.flow_def.specs.declared.Class.TheVariants.{Adjusted}
use Rattle.flow_def.specs.Classes.{class_of}
use Rattle.flow_def.specs.Calls.{classes_of}
use Rattle.flow_def.specs.Shown.{adjusted_weight, adjusted_to, adjusted}
use Rattle.num_bytes.proofs.Lists.{values_at}

-- A plant and the classes of its streams.
pub record Classed (p : Arrays.Plant) (cs : List Class) : Type 0 where
  pub accepted : Accepted p
  pub classes : cs ≡ classes_of (plant_of p)

-- After i streams. (A weight is of two bytes.)
pub record Weighed (p : Arrays.Plant) (sum i : ℕ) : Type 0 where
  pub within : i ≤ p.count
  pub is : sum ≡ adjusted_to (plant_of p) i
  pub most : sum ≤ 65535 * i

-- No stream yet.
pub weighed_none : (p : Arrays.Plant) → Weighed p 0 0
weighed_none p = record { within = omega arith; is = refl; most = omega arith }

-- The class that the array has of stream i is the stream's.
pub class_is : {p : Arrays.Plant} {cs : List Class} → Classed p cs → (i : ℕ) → i < p.count → get_or cs i Adjusted ≡ class_of (plant_of p) i
class_is {p} d i h =
    ap (λ (l : List Class). get_or l i Adjusted) d.classes
    ∙ values_at (class_of (plant_of p)) Adjusted max_streams i (omega (arith, d.accepted.within.few_streams))

module _ {p : Arrays.Plant} {sum i : ℕ} (a : Accepted p) (w : Weighed p sum i) where
  -- One stream more.
  pub weighed_more : i < p.count → (k : ℕ) → k ≡ adjusted_weight (class_of (plant_of p) i) (get_or p.streams i no_stream) → k ≤ 65535 → Weighed p (sum + k) (i + 1)
  weighed_more h k f l = record {
    within = omega arith;
    is = rw add-one (sum_is ∙ ap (λ (s : Stream). adjusted_weight (class_of (plant_of p) i) s + adjusted_to (plant_of p) i) (sym (listed_at p a i h)));
    most = omega (arith, w.most);
  }
    where
      sum_is : sum + k ≡ adjusted_weight (class_of (plant_of p) i) (get_or p.streams i no_stream) + adjusted_to (plant_of p) i
      sum_is = omega (arith, f, w.is)

  -- All streams.
  pub weighed_all : p.count ≤ i → sum ≡ adjusted (plant_of p)
  weighed_all h = let e : i ≡ length (plant_of p).streams = omega (arith, all_listed p a, w.within) in w.is ∙ ap (adjusted_to (plant_of p)) e
