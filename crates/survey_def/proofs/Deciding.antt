-- One pass over the streams left without a meter decides whether a layout leaves none withheld.
use mathlib.Core.Path.{◌≡◌, refl, sym}
use mathlib.Core.Logic.{◌↔◌}
use mathlib.Core.Bool.{Bool, true, false, not, ◌||◌}
use mathlib.Core.List.{List}
use Prim.Native.Nat.{ℕ, ◌<◌}
use borrow.Author.Tests.{not-true}
use lib.ListN.{length, length-map}
use Rattle.num_bytes.proofs.Tests.{clash}
use Rattle.plant_def.specs.declared.Stream.{Stream}
use Rattle.plant_def.specs.Limits.{max_units}
use Rattle.plant_def.specs.Plants.{Plant, no_stream, unmetered}
use Rattle.plant_def.specs.Within.{WithinStream, Within}
use Rattle.flow_def.specs.Flows.{stream_at}
use Rattle.flow_def.specs.Chains.{Counting}
use Rattle.flow_def.specs.Labels.{labels_after, one_label}
use Rattle.flow_def.specs.Certificate.{every}
use Rattle.flow_def.proofs.Certified.{every_at, every_all}
use Rattle.num_bytes.proofs.Lists.{map_at}
use Rattle.flow_def.proofs.Nets.{inside}
use Rattle.flow_def.specs.Withheld.{NoneWithheld}
use Rattle.flow_def.specs.Metering.{chosen}
use Rattle.flow_def.specs.Loops.{left, AllJoin}
use Rattle.flow_def.proofs.Ranks.{free_joins, joins_free}
use Rattle.flow_def.proofs.Left.{Same, same_sym, free_same, none→left, left→none}
use Rattle.survey_def.specs.Layouts.{bare, laid_out}

-- The streams that are not in a set count; each joins two groups when it is met.
abbrev pub left_out : List Bool → Counting
left_out set k s = not (chosen set k)

-- A stream that has no meter joins two groups of those before it.
abbrev pub joins_at : List Bool → List Stream → ℕ → Bool
joins_at set ss k = chosen set k || not (one_label (labels_after (left_out set) ss k) (stream_at ss k).from (stream_at ss k).to)

-- Each of them does.
abbrev pub each_joins : List Bool → List Stream → Bool
each_joins set ss = every (length ss) (joins_at set ss)

plain_within : (n : ℕ) (s : Stream) → WithinStream n s → WithinStream n (unmetered s.from s.to)
plain_within n s w = record {
  from_in = w.from_in;
  to_in = w.to_in;
  distinct = w.distinct;
  weighed = λ e. clash false e refl;
  light = λ e. clash false e refl;
  within_range = λ e. clash false e refl;
  ordered = λ e. clash false e refl;
  low_in = λ e. clash false e refl;
  high_in = λ e. clash false e refl;
}

module _ (p : Plant) where
  bare_at : (k : ℕ) → k < length p.streams → stream_at (bare p).streams k ≡ unmetered (stream_at p.streams k).from (stream_at p.streams k).to
  bare_at k l = map_at (λ (s : Stream). unmetered s.from s.to) p.streams k no_stream no_stream l

  bare_long : length (bare p).streams ≡ length p.streams
  bare_long = length-map p.streams (λ (s : Stream). unmetered s.from s.to)

  bare_same : (set : List Bool) → Same (left_out set) (left set) p.streams (bare p).streams
  bare_same set = record {
    long = sym bare_long;
    counts = λ k l. rw (bare_at k l);
    from_same = λ k l. rw (bare_at k l);
    to_same = λ k l. rw (bare_at k l);
  }

  module _ (w : Within p) where
    bare_within : Within (bare p)
    bare_within = record {
      some_units = w.some_units;
      few_units = w.few_units;
      few_streams = rw bare_long w.few_streams;
      each = λ k l. let b : k < length p.streams = rw bare_long at l in rw (bare_at k b) (plain_within p.units (stream_at p.streams k) (w.each k b));
    }

    none→joins : (set : List Bool) → NoneWithheld (laid_out set p) → AllJoin (left_out set) p.streams
    none→joins set n =
        free_joins p w.few_units (inside p w) max_units refl (left_out set) (free_same (same_sym (bare_same set)) (none→left set (bare p) bare_within n))

    joins→none : (set : List Bool) → AllJoin (left_out set) p.streams → NoneWithheld (laid_out set p)
    joins→none set a =
        left→none set (bare p) bare_within (free_same (bare_same set) (joins_free p w.few_units (inside p w) max_units refl (left_out set) a))

    abbrev met : List Bool → ℕ → Bool
    met set k = one_label (labels_after (left_out set) p.streams k) (stream_at p.streams k).from (stream_at p.streams k).to

    -- A layout leaves none withheld exactly where each stream left out joins two groups when it is met.
    pub decides : (set : List Bool) → (each_joins set p.streams ≡ true) ↔ NoneWithheld (laid_out set p)
    decides set = (
      λ e. joins→none set (λ k l c. back (chosen set k) (met set k) (every_at (length p.streams) (joins_at set p.streams) e k l) c),
      λ n. every_all (length p.streams) (joins_at set p.streams) (λ k l. there (chosen set k) (met set k) (none→joins set n k l)),
    )
      where
        there : (c o : Bool) → (not c ≡ true → o ≡ false) → c || not o ≡ true
        there true o f = refl
        there false o f = rw (f refl)

        back : (c o : Bool) → c || not o ≡ true → not c ≡ true → o ≡ false
        back true o e t = clash false t refl
        back false o e t = not-true o e
