-- With the streams of a set metered, nothing is withheld exactly where the streams left have no loop.
use mathlib.Core.Path.{◌≡◌, refl, sym, ◌∙◌, ap, subst}
use mathlib.Core.Bool.{Bool, true, false, not, ◌&&◌}
use mathlib.Core.List.{List, [], ◌∷◌}
use Prim.Native.Nat.{ℕ, zero, suc, ◌<◌}
use native.Mathlib.Omega.{arith}
use lib.Dec.{eqb}
use lib.ListN.{length}
use Rattle.num_bytes.specs.Choice.{pick}
use Rattle.num_bytes.proofs.Tests.{and_none}
use Rattle.plant_def.specs.declared.Stream.{Stream}
use Rattle.plant_def.specs.Plants.{Plant}
use Rattle.plant_def.specs.Within.{WithinStream, Within}
use Rattle.flow_def.specs.Flows.{stream_at}
use Rattle.flow_def.specs.Chains.{Counting, Chain, unmetered_only}
use Rattle.flow_def.specs.Withheld.{NoneWithheld}
use Rattle.flow_def.specs.Metering.{chosen, meter, meter_all, metering}
use Rattle.flow_def.specs.Loops.{but, left}
use Rattle.flow_def.proofs.Chains.{Alike, chain_alike}
use Rattle.flow_def.proofs.Ranks.{Free}
use Rattle.flow_def.proofs.Blanks.{none→free, free→none}

-- Two lists of streams with the same ends, of which the same count.
pub record Same (f g : Counting) (ss ts : List Stream) : Type 0 where
  pub long : length ss ≡ length ts
  pub counts : (k : ℕ) → k < length ss → f k (stream_at ss k) ≡ g k (stream_at ts k)
  pub from_same : (k : ℕ) → k < length ss → (stream_at ss k).from ≡ (stream_at ts k).from
  pub to_same : (k : ℕ) → k < length ss → (stream_at ss k).to ≡ (stream_at ts k).to

-- Two lists of streams that are the same one way are the same the other way.
pub same_sym : {f g : Counting} {ss ts : List Stream} → Same f g ss ts → Same g f ts ss
same_sym e = record {
  long = sym e.long;
  counts = λ k l. sym (e.counts k (rw e.long l));
  from_same = λ k l. sym (e.from_same k (rw e.long l));
  to_same = λ k l. sym (e.to_same k (rw e.long l));
}

-- Where one list of streams has no loop, a list that is the same has none.
pub free_same : {f g : Counting} {ss ts : List Stream} → Same f g ss ts → Free f ss → Free g ts
free_same {f} {g} {ss} {ts} e free i l t c =
    let b : i < length ss = rw e.long l in
    free i b (e.counts i b ∙ t)
    (subst (λ (x : ℕ). Chain (but i f) ss x (stream_at ss i).to) (sym (e.from_same i b))
    (subst (Chain (but i f) ss (stream_at ts i).from) (sym (e.to_same i b)) (chain_alike alike c)))
  where
    alike : (k : ℕ) → k < length ts → but i g k (stream_at ts k) ≡ true → Alike (but i f) ts ss k
    alike k m h =
        let b : k < length ss = rw e.long m in
        record {
          listed = b;
          counts = ap (λ (x : Bool). x && not (eqb k i)) (e.counts k b) ∙ h;
          from_same = e.from_same k b;
          to_same = e.to_same k b;
        }

-- A stream of the plant with the set metered.
pub meter_at : (set : List Bool) (ss : List Stream) (k : ℕ) → k < length ss
    → stream_at (meter_all set ss) k ≡ pick (chosen set k) (meter (stream_at ss k)) (stream_at ss k)
meter_at [] ss k l = refl
meter_at (b ∷ set) [] k l = absurd (omega arith)
meter_at (b ∷ set) (s ∷ ss) zero l = refl
meter_at (b ∷ set) (s ∷ ss) (suc k) l = meter_at set ss k (omega arith)

-- Metering the streams of a set leaves as many streams.
pub meter_long : (set : List Bool) (ss : List Stream) → length (meter_all set ss) ≡ length ss
meter_long [] ss = refl
meter_long (b ∷ set) [] = refl
meter_long (b ∷ set) (s ∷ ss) = ap suc (meter_long set ss)

meter_counts : (b : Bool) (s : Stream) → not s.metered && not b ≡ not (pick b (meter s) s).metered
meter_counts true s = and_none (not s.metered)
meter_counts false s = and_all (not s.metered)
  where
    and_all : (a : Bool) → a && true ≡ a
    and_all true = refl
    and_all false = refl

meter_from : (b : Bool) (s : Stream) → s.from ≡ (pick b (meter s) s).from
meter_from true s = refl
meter_from false s = refl

meter_to : (b : Bool) (s : Stream) → s.to ≡ (pick b (meter s) s).to
meter_to true s = refl
meter_to false s = refl

meter_within : (n : ℕ) (b : Bool) (s : Stream) → WithinStream n s → WithinStream n (pick b (meter s) s)
meter_within n true s w = record {
  from_in = w.from_in;
  to_in = w.to_in;
  distinct = w.distinct;
  weighed = λ e. omega arith;
  light = λ e. omega arith;
  within_range = λ e. omega arith;
  ordered = λ e. refl;
  low_in = λ e. omega arith;
  high_in = λ e. omega arith;
}
meter_within n false s w = w

module _ (set : List Bool) (p : Plant) where
  -- The streams left are the unmetered ones of the plant with the set metered.
  pub metering_same : Same (left set) unmetered_only p.streams (metering set p).streams
  metering_same = record {
    long = sym (meter_long set p.streams);
    counts = λ k l. rw (meter_at set p.streams k l) (meter_counts (chosen set k) (stream_at p.streams k));
    from_same = λ k l. rw (meter_at set p.streams k l) (meter_from (chosen set k) (stream_at p.streams k));
    to_same = λ k l. rw (meter_at set p.streams k l) (meter_to (chosen set k) (stream_at p.streams k));
  }

  module _ (w : Within p) where
    -- That plant is within its limits.
    pub metering_within : Within (metering set p)
    metering_within = record {
      some_units = w.some_units;
      few_units = w.few_units;
      few_streams = rw (meter_long set p.streams) w.few_streams;
      each = λ k l.
          let b : k < length p.streams = rw (meter_long set p.streams) at l in
          rw (meter_at set p.streams k b) (meter_within p.units (chosen set k) (stream_at p.streams k) (w.each k b));
    }

    -- Nothing withheld in it: the streams left have no loop,
    pub none→left : NoneWithheld (metering set p) → Free (left set) p.streams
    none→left n = free_same (same_sym metering_same) (none→free (metering set p) metering_within n)

    -- and the other way.
    pub left→none : Free (left set) p.streams → NoneWithheld (metering set p)
    left→none f = free→none (metering set p) metering_within (free_same metering_same f)
