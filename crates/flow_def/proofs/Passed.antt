-- The pass over the streams that finds the labels they take away and the loops.
use mathlib.Core.Path.{◌≡◌, refl, ◌∙◌, ap}
use mathlib.Core.Bool.{not}
use mathlib.Core.List.{List}
use Prim.Native.Nat.{ℕ, ◌+◌, ◌*◌, ◌%◌, ◌≤◌, ◌<◌, ◌^◌}
use native.Mathlib.Omega.{arith}
use native.Mathlib.Numerals.{add-one}
use lib.Bits.{bit_or, bit_xor}
use lib.ListN.{length, get_or, set, replicate, length-replicate}
use lib.Pow.{shl_exact}
use Rattle.plant_def.specs.declared.Stream.{Stream}
use Rattle.plant_def.specs.declared.Plant as Arrays
use Rattle.plant_def.specs.Limits.{places, max_streams}
use Rattle.plant_def.specs.Plants.{no_stream}
use Rattle.plant_def.specs.Within.{Accepted}
use Rattle.plant_def.specs.Says.{plant_of}
use Rattle.plant_def.proofs.Arrayed.{all_listed, listed_at}
use Rattle.flow_def.specs.Flows.{stream_at}
use Rattle.flow_def.specs.Chains.{unmetered_only}
use Rattle.flow_def.specs.Labels.{own_numbers, labels_after}
use Rattle.flow_def.specs.Groups.{StepSays}
use Rattle.flow_def.specs.Sides.{way_between, taken_by, looped_by, turned, parted, taken_at, sides_after, looped_after}
use Rattle.flow_def.specs.Calls.{Bridging}
use Rattle.num_bytes.proofs.Lists.{Written, written_none, written_put}
use Rattle.flow_def.proofs.Labels.{step_none, labels_long}
use Rattle.flow_def.proofs.Grouping.{groups_after, step_said, ends_in_lem}
use Rattle.flow_def.proofs.Nets.{inside_of}
use Rattle.flow_def.proofs.BySides.{parted_some, taken_low, sides_long}

-- A bit by a shift.
pub shifted : (h : ℕ) → h < places → 1 * 2 ^ h % 2 ^ 64 ≡ 2 ^ h
shifted h l = shl_exact 1 h 64 (omega arith) (omega arith) ∙ one (2 ^ h)
  where
    one : (x : ℕ) → 1 * x ≡ x
    one x = omega arith

-- A stream that takes label h away, by the streams between its ends and its own bit.
pub part_by : (ls sides : List ℕ) (s : Stream) (h way own : ℕ) → (h ≡ 0 → ⊥) → way ≡ way_between sides s → own ≡ 2 ^ h
    → turned h (bit_xor way own) ls sides ≡ parted h ls s sides
part_by ls sides s h way own e w o = rw (w, o) (parted_some ls sides s h e)

-- One step more.
sides_more : (ss : List Stream) (i : ℕ) (s : Stream) (ls sides next : List ℕ) (h : ℕ) → ls ≡ labels_after unmetered_only ss i → sides ≡ sides_after ss i
    → stream_at ss i ≡ s → h ≡ taken_by ls s → next ≡ parted h ls s sides → next ≡ sides_after ss (i + 1)
unfolding sides_after
sides_more ss i s ls sides next h e f at q n = rw (add-one i, at, ← e, ← f) (n ∙ ap (λ (h : ℕ). parted h ls s sides) q)

looped_more : (ss : List Stream) (i : ℕ) (s : Stream) (ls sides : List ℕ) (met add : ℕ) → ls ≡ labels_after unmetered_only ss i → sides ≡ sides_after ss i
    → met ≡ looped_after ss i → stream_at ss i ≡ s → add ≡ looped_by ls sides s → bit_or met add ≡ looped_after ss (i + 1)
unfolding looped_after
looped_more ss i s ls sides met add e f g at n = rw (add-one i, at, ← e, ← f, ← g) (ap (bit_or met) n)

sides_none : (ss : List Stream) → replicate places 0 ≡ sides_after ss 0
unfolding sides_after
sides_none ss = refl

looped_none : (ss : List Stream) → 1 ≡ looped_after ss 0
unfolding looped_after
looped_none ss = refl

-- What holds after i steps.
pub record Passed (p : Arrays.Plant) (i : ℕ) (none labels sides taken : List ℕ) (looped : ℕ) : Type 0 where
  pub few : i ≤ p.count
  pub labelled : labels ≡ labels_after unmetered_only (plant_of p).streams i
  pub sided : sides ≡ sides_after (plant_of p).streams i
  pub met : looped ≡ looped_after (plant_of p).streams i
  pub written : Written 0 max_streams (λ k x. taken_at (plant_of p).streams k) none taken i

-- Before the first stream: every place bears its own number, and no loop is met.
pub passed_none : (p : Arrays.Plant) (labels : List ℕ) → labels ≡ own_numbers
    → Passed p 0 (replicate max_streams 0) labels (replicate places 0) (replicate max_streams 0) 1
passed_none p labels e = record {
  few = omega arith;
  labelled = step_none _ _ _ e;
  sided = sides_none _;
  met = looped_none _;
  written = written_none (length-replicate {A = ℕ} max_streams 0);
}

module _ {p : Arrays.Plant} (w : Accepted p) {i : ℕ} {none labels sides taken : List ℕ} {looped : ℕ} (a : Passed p i none labels sides taken looped) where
  -- Every place has a label,
  pub labels_all : length labels ≡ places
  labels_all = ap length a.labelled ∙ labels_long _ _ _

  -- and its sides.
  pub sides_all : length sides ≡ places
  sides_all = ap length a.sided ∙ sides_long _ _

  module _ (l : i < p.count) where
    at : stream_at (plant_of p).streams i ≡ get_or p.streams i no_stream
    at = listed_at p w i l

    is_taken : (h : ℕ) → h ≡ taken_by labels (get_or p.streams i no_stream) → h ≡ taken_at (plant_of p).streams i
    is_taken h q = rw (at, ← a.labelled) q

    -- The label taken away is a place's number.
    pub taken_in : (h : ℕ) → h ≡ taken_by labels (get_or p.streams i no_stream) → h < places
    taken_in h q =
        rw (is_taken h q) (taken_low (plant_of p) w.within.few_units (inside_of p w) i (omega (arith, all_listed p w)))

    -- One stream more: the label that it takes away is written, and labels, sides and loops are those after i + 1.
    pub passed_more : (h add : ℕ) (sides_next labels_next : List ℕ) → h ≡ taken_by labels (get_or p.streams i no_stream)
        → add ≡ looped_by labels sides (get_or p.streams i no_stream) → sides_next ≡ parted h labels (get_or p.streams i no_stream) sides
        → StepSays (not (get_or p.streams i no_stream).metered) (get_or p.streams i no_stream) labels labels_next
        → Passed p (i + 1) none labels_next sides_next (set taken i h) (bit_or looped add)
    passed_more h add sides_next labels_next q m s n = record {
      few = omega arith;
      labelled = step_said unmetered_only _ (ends_in_lem p w) i _ labels labels_next _ (omega (arith, all_listed p w)) a.labelled at refl n;
      sided = sides_more _ i _ labels sides sides_next h a.labelled a.sided at q s;
      met = looped_more _ i _ labels sides looped add a.labelled a.sided a.met at m;
      written = written_put a.written (omega (arith, w.within.few_streams)) h (is_taken h q);
    }

  -- After the last stream the bridges are those of the plant.
  pub passed_all : i ≡ p.count → Bridging p (record { labels = labels; taken = taken; looped = looped })
  passed_all e = record {
    grouped = rw (a.labelled, e) (groups_after unmetered_only (plant_of p).streams (ends_in_lem p w) p.count (omega (arith, all_listed p w)));
    long = a.written.long;
    each = each;
    low = λ k l. rw (each k l) (taken_low (plant_of p) w.within.few_units (inside_of p w) k (omega (arith, all_listed p w)));
    met = a.met ∙ ap (looped_after (plant_of p).streams) e;
  }
    where
      each : (k : ℕ) → k < p.count → get_or taken k 0 ≡ taken_at (plant_of p).streams k
      each k l = a.written.done k (omega arith)
