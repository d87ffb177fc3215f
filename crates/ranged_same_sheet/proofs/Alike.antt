-- What a change of ranges alone leaves as it is: nets, costs, groups, classes, numbers, degrees, the A streams' weights; so the
-- balance of a flow.
use mathlib.Core.Path.{◌≡◌, refl, sym, ap, ap₂, ◌∙◌}
use mathlib.Core.Bool.{Bool, not, ◌&&◌, ◌||◌}
use mathlib.Core.List.{List, [], ◌∷◌, ◌++◌, map}
use lib.IntN.{ℤ, pos, neg_ℤ, nat_abs, ◌+ℤ◌, ◌-ℤ◌, ◌*ℤ◌}
use Prim.Native.Nat.{ℕ, zero, suc, ◌+◌, ◌-◌, ◌*◌}
use lib.Dec.{eqb}
use lib.ListN.{length, get_or, length-map, get_or-map}
use Rattle.num_bytes.specs.Choice.{pick}
use Rattle.num_bytes.proofs.Tests.{picked, and_left}
use Rattle.plant_def.specs.declared.Stream.{Stream}
use Rattle.plant_def.specs.Limits.{max_streams}
use Rattle.plant_def.specs.Plants.{Plant, no_stream}
use Rattle.flow_def.specs.declared.Class.{Class}
use Rattle.flow_def.specs.declared.Class.TheVariants.{Adjusted, AsRead, Given, Withheld}
use Rattle.flow_def.specs.Flows.{stream_at, amount_at, net_at, balanced_to, balanced, square, cost_over, metered_of}
use Rattle.flow_def.specs.Chains.{Counting, every_stream, unmetered_only}
use Rattle.flow_def.specs.Classes.{has, including, spread, rounds, joined_to, unmetered_but, one_group, on_loop, class_of, side_out, given_of, number_of, lowest, leaders_to, degrees}
use Rattle.flow_def.specs.Test.{verdict_at}
use Rattle.flow_def.specs.Shown.{adjusted_weight, adjusted_to, adjusted}
use Rattle.num_bytes.proofs.Lists.{values_same}
use Rattle.sheet_def.specs.Totals.{capped}
use Rattle.sheet_def.specs.Balances.{entry_of, balance_of}
use Rattle.sheet_def.specs.Drawings.{sheet_bytes, sheet_of}
use Rattle.ranged_def.specs.Moves.{widened, moved}

-- A move that keeps all of a stream but its range.
pub record Keeps (f : Stream → Stream) : Type 0 where
  pub from : (s : Stream) → (f s).from ≡ s.from
  pub to : (s : Stream) → (f s).to ≡ s.to
  pub metered : (s : Stream) → (f s).metered ≡ s.metered
  pub weight : (s : Stream) → (f s).weight ≡ s.weight
  pub reading : (s : Stream) → (f s).reading ≡ s.reading
  pub empty : f no_stream ≡ no_stream

-- Widening changes ranges alone.
pub widened_keeps : Keeps widened
widened_keeps = record {
  from = λ s. picked (λ (t : Stream). t.from ≡ s.from) (s.metered && not s.ranged) _ s (λ q. refl) (λ q. refl);
  to = λ s. picked (λ (t : Stream). t.to ≡ s.to) (s.metered && not s.ranged) _ s (λ q. refl) (λ q. refl);
  metered = λ s. picked (λ (t : Stream). t.metered ≡ s.metered) (s.metered && not s.ranged) _ s (λ q. sym (and_left s.metered (not s.ranged) q)) (λ q. refl);
  weight = λ s. picked (λ (t : Stream). t.weight ≡ s.weight) (s.metered && not s.ranged) _ s (λ q. refl) (λ q. refl);
  reading = λ s. picked (λ (t : Stream). t.reading ≡ s.reading) (s.metered && not s.ranged) _ s (λ q. refl) (λ q. refl);
  empty = refl;
}

-- Of a stream only its weight is summed.
weight_alone : (c : Class) (s t : Stream) → s.weight ≡ t.weight → adjusted_weight c s ≡ adjusted_weight c t
weight_alone Adjusted s t e = e
weight_alone AsRead s t e = refl
weight_alone Given s t e = refl
weight_alone Withheld s t e = refl

module _ (f : Stream → Stream) (keep : Keeps f) where
  -- Stream k of the streams moved is stream k, moved.
  pub moved_at : (ss : List Stream) (k : ℕ) → stream_at (map f ss) k ≡ f (stream_at ss k)
  moved_at ss k = ap (λ (d : Stream). stream_from d) (sym keep.empty) ∙ get_or-map f ss k no_stream
    where
      stream_from : Stream → Stream
      stream_from d = get_or (map f ss) k d

  -- Flows: nets, cost, metered amounts.
  net_same : (u : ℕ) (ss : List Stream) (xs : List ℤ) → net_at u (map f ss) xs ≡ net_at u ss xs
  net_same u [] xs = refl
  net_same u (s ∷ ss) [] = refl
  net_same u (s ∷ ss) (x ∷ xs) =
      λ i. pick (eqb (keep.to s i) u) x (pos 0) +ℤ (pick (eqb (keep.from s i) u) (neg_ℤ x) (pos 0) +ℤ net_same u ss xs i)

  level_same : (n : ℕ) (ss : List Stream) (xs : List ℤ) → balanced_to n (map f ss) xs ≡ balanced_to n ss xs
  level_same zero ss xs = refl
  level_same (suc u) ss xs = λ i. eqb (nat_abs (net_same (suc u) ss xs i)) 0 && level_same u ss xs i

  -- A flow balances before exactly where it does after,
  pub balanced_same : (p : Plant) (xs : List ℤ) → balanced (moved f p) xs ≡ balanced p xs
  balanced_same p xs = λ i. eqb (length xs) (length-map p.streams f i) && level_same p.units p.streams xs i

  -- costs the same,
  pub cost_same : (d : ℕ) (ss : List Stream) (xs : List ℤ) → cost_over d (map f ss) xs ≡ cost_over d ss xs
  cost_same d [] xs = refl
  cost_same d (s ∷ ss) [] = refl
  cost_same d (s ∷ ss) (x ∷ xs) =
      λ i. pick (keep.metered s i) (keep.weight s i * square (x -ℤ pos d *ℤ keep.reading s i)) 0 + cost_same d ss xs i

  -- and shows the same on the metered streams.
  pub metered_same : (ss : List Stream) (xs : List ℤ) → metered_of (map f ss) xs ≡ metered_of ss xs
  metered_same [] xs = refl
  metered_same (s ∷ ss) [] = refl
  metered_same (s ∷ ss) (x ∷ xs) = λ i. pick (keep.metered s i) (x ∷ []) [] ++ metered_same ss xs i

  -- Groups, where a stream counts as before.
  module _ (counts : Counting) (even : (i : ℕ) (s : Stream) → counts i (f s) ≡ counts i s) where
    spread_same : (i : ℕ) (ss : List Stream) (seen : List ℕ) → spread counts i (map f ss) seen ≡ spread counts i ss seen
    spread_same i [] seen = refl
    spread_same i (s ∷ ss) seen =
        (λ j. spread counts (suc i) (map f ss)
        (pick (even i s j && (has (keep.from s j) seen || has (keep.to s j) seen)) (including (keep.from s j) (including (keep.to s j) seen)) seen))
        ∙ spread_same (suc i) ss _

    rounds_same : (l : ℕ) (ss : List Stream) (seen : List ℕ) → rounds l counts (map f ss) seen ≡ rounds l counts ss seen
    rounds_same zero ss seen = refl
    rounds_same (suc l) ss seen = ap (rounds l counts (map f ss)) (spread_same 0 ss seen) ∙ rounds_same l ss (spread counts 0 ss seen)

    joined_same : (p : Plant) (u : ℕ) → joined_to counts (moved f p) u ≡ joined_to counts p u
    joined_same p u = rounds_same (suc p.units) p.streams (u ∷ [])

    leaders_same : (p : Plant) (n : ℕ) → leaders_to counts (moved f p) n ≡ leaders_to counts p n
    leaders_same p zero = refl
    leaders_same p (suc u) = λ i. pick (lowest (suc u) (joined_same p (suc u) i)) 1 0 + leaders_same p u i

  unmetered_even : (i : ℕ) (s : Stream) → unmetered_only i (f s) ≡ unmetered_only i s
  unmetered_even i s = ap not (keep.metered s)

  but_even : (e i : ℕ) (s : Stream) → unmetered_but e i (f s) ≡ unmetered_but e i s
  but_even e i s = ap (λ (b : Bool). not b && not (eqb i e)) (keep.metered s)

  degrees_same : (p : Plant) → degrees (moved f p) ≡ degrees p
  degrees_same p = ap₂ ◌-◌ (leaders_same unmetered_only unmetered_even p p.units) (leaders_same every_stream (λ i s. refl) p p.units)

  -- Classes and numbers.
  module _ (p : Plant) (k : ℕ) where
    abbrev s : Stream
    s = stream_at p.streams k

    from_at : (stream_at (map f p.streams) k).from ≡ s.from
    from_at = ap (λ (t : Stream). t.from) (moved_at p.streams k) ∙ keep.from s

    to_at : (stream_at (map f p.streams) k).to ≡ s.to
    to_at = ap (λ (t : Stream). t.to) (moved_at p.streams k) ∙ keep.to s

    metered_at : (stream_at (map f p.streams) k).metered ≡ s.metered
    metered_at = ap (λ (t : Stream). t.metered) (moved_at p.streams k) ∙ keep.metered s

    group_same : one_group (moved f p) (stream_at (map f p.streams) k).from (stream_at (map f p.streams) k).to ≡ one_group p s.from s.to
    group_same = ap₂ (one_group (moved f p)) from_at to_at ∙ ap (has s.to) (joined_same unmetered_only unmetered_even p s.from)

    loop_same : on_loop (moved f p) k ≡ on_loop p k
    loop_same =
        ap₂ (λ (u v : ℕ). has v (joined_to (unmetered_but k) (moved f p) u)) from_at to_at
        ∙ ap (has s.to) (joined_same (unmetered_but k) (but_even k) p s.from)

    -- A stream has the same class,
    pub class_same : class_of (moved f p) k ≡ class_of p k
    class_same = λ i. pick {A = Class} (metered_at i) (pick (group_same i) AsRead Adjusted) (pick (loop_same i) Withheld Given)

    weight_same : adjusted_weight (class_of (moved f p) k) (stream_at (map f p.streams) k) ≡ adjusted_weight (class_of p k) s
    weight_same =
        ap (λ (c : Class). adjusted_weight c (stream_at (map f p.streams) k)) class_same
        ∙ weight_alone (class_of p k) _ s (ap (λ (t : Stream). t.weight) (moved_at p.streams k) ∙ keep.weight s)

    side_same : (side : List ℕ) (ss : List Stream) (xs : List ℤ) → side_out side (map f ss) xs ≡ side_out side ss xs
    side_same side [] xs = refl
    side_same side (t ∷ ss) [] = refl
    side_same side (t ∷ ss) (x ∷ xs) =
        λ i. pick (keep.metered t i && has (keep.from t i) side) x (pos 0)
        +ℤ (pick (keep.metered t i && has (keep.to t i) side) (neg_ℤ x) (pos 0) +ℤ side_same side ss xs i)

    given_same : (xs : List ℤ) → given_of (moved f p) k xs ≡ given_of p k xs
    given_same xs =
        side_same (joined_to (unmetered_but k) (moved f p) (stream_at (map f p.streams) k).to) p.streams xs
        ∙ ap (λ (side : List ℕ). side_out side p.streams xs)
        (ap (joined_to (unmetered_but k) (moved f p)) to_at ∙ joined_same (unmetered_but k) (but_even k) p s.to)

    -- and the same number.
    pub number_same : (xs : List ℤ) → number_of (moved f p) xs k ≡ number_of p xs k
    number_same xs = λ i. pick {A = ℤ} (metered_at i) (amount_at xs k) (given_same xs i)

  -- The weights of the adjusted streams.
  weights_to : (p : Plant) (k : ℕ) → adjusted_to (moved f p) k ≡ adjusted_to p k
  weights_to p zero = refl
  weights_to p (suc k) = ap₂ ◌+◌ (weight_same p k) (weights_to p k)

  weights_same : (p : Plant) → adjusted (moved f p) ≡ adjusted p
  weights_same p = weights_to p (length (map f p.streams)) ∙ ap (adjusted_to p) (length-map p.streams f)

  -- The balance of a flow, and its sheet.
  module _ (p : Plant) (xs : List ℤ) where
    balance_same : balance_of (moved f p) xs ≡ balance_of p xs
    unfolding balance_of
    balance_same =
        let e = values_same max_streams (λ k. entry_of (class_of (moved f p) k) (number_of (moved f p) xs k)) (λ k. entry_of (class_of p k) (number_of p xs k))
        (λ k l. ap₂ entry_of (class_same p k) (number_same p k xs)) in
        let c = cost_same 1 p.streams xs in
        let d = degrees_same p in
        let w = weights_same p in
        λ i. record { streams = e i; cost = capped (c i); degrees = d i; verdict = verdict_at (d i) (c i) (w i) }

    -- So a flow's sheet is the same.
    pub sheet_same : (office n : ℕ) → sheet_of office (moved f p) xs n ≡ sheet_of office p xs n
    sheet_same office n = λ i. sheet_bytes office (length-map p.streams f i) n (balance_same i)
