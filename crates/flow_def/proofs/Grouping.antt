-- Groups in one pass: a step leads from the labels of groups to the labels of groups, and these are one list alone.
use mathlib.Core.Path.{◌≡◌, refl, sym, ◌∙◌, ap}
use mathlib.Core.Bool.{Bool}
use mathlib.Core.List.{List}
use Prim.Native.Nat.{ℕ, zero, suc, ◌+◌, ◌≤◌, ◌<◌}
use native.Mathlib.Nat.{le_antisymm}
use native.Mathlib.Numerals.{add-one}
use native.Mathlib.Omega.{arith}
use lib.ListN.{length, get_or}
use lib.Seq.{ext_get_or}
use Rattle.plant_def.specs.declared.Stream.{Stream}
use Rattle.plant_def.specs.declared.Plant as Arrays
use Rattle.plant_def.specs.Limits.{places}
use Rattle.plant_def.specs.Plants.{Plant, no_stream}
use Rattle.plant_def.specs.Files.{got, read_plant}
use Rattle.plant_def.specs.Within.{Within, Accepted}
use Rattle.plant_def.specs.Says.{plant_of}
use Rattle.plant_def.proofs.Limited.{within}
use Rattle.plant_def.proofs.Accepted.{accepted}
use Rattle.plant_def.proofs.Arrayed.{within_of, all_listed, listed_at}
use Rattle.flow_def.specs.Flows.{stream_at}
use Rattle.flow_def.specs.Chains.{Counting, Chain}
use Rattle.flow_def.specs.Groups.{Groups, AmongPlaces, StepSays, Pass, OnePass}
use Rattle.flow_def.specs.Labels.{own_numbers, stepped, labels_after, labels_of}
use Rattle.flow_def.proofs.Labels.{Labelling, start, step_on, after, chain→one, one→chain, first→all, all→first, among, stepped_none, step_none, labels_long}
use Rattle.flow_def.proofs.Nets.{inside}

module _ {counts : Counting} {ss : List Stream} {k : ℕ} {ls : List ℕ} where
  groups_of : Labelling counts ss k ls → Groups counts ss k ls
  groups_of g = record {
    long = g.long;
    one = λ u v hu hv. (one→chain g u v hu hv, chain→one g);
    member = g.chain;
    lowest = λ u v hu hv c. omega (arith, chain→one g c, g.low v hv);
  }

  labelling_of : AmongPlaces ss → Groups counts ss k ls → Labelling counts ss k ls
  labelling_of w g = record {
    long = g.long;
    level = λ j l e. (g.one (stream_at ss j).from (stream_at ss j).to (w j l).0 (w j l).1).1 (Chain.along j l e Chain.stop);
    chain = g.member;
    low = λ u h. g.lowest u u h h Chain.stop;
  }

-- There is one list alone.
pub one_list : (counts : Counting) (ss : List Stream) (k : ℕ) (a b : List ℕ) → Groups counts ss k a → Groups counts ss k b → a ≡ b
one_list counts ss k a b f g = ext_get_or 0 a b (f.long ∙ sym g.long) each
  where
    below : (x y : List ℕ) → Groups counts ss k x → Groups counts ss k y → (u : ℕ) → u < places → get_or x u 0 ≤ get_or y u 0
    below x y f g u h = f.lowest u (get_or y u 0) h (omega (arith, g.lowest u u h h Chain.stop)) (g.member u h)

    each : (u : ℕ) → u < length a → get_or a u 0 ≡ get_or b u 0
    each u l = let h : u < places = rw f.long at l in le_antisymm (below a b f g u h) (below b a g f u h)

-- A step.
pub step_says : (c : Bool) (s : Stream) (ls next : List ℕ) → next ≡ stepped c s ls → StepSays c s ls next
step_says c s ls next n = record {
  next = λ counts ss k w l e q g. rw (n, ← q, ← e) (groups_of (step_on counts ss w k ls l (labelling_of w g)));
  idle = λ t. n ∙ sym (stepped_none c s ls t);
}

-- Before the first step.
pub groups_none : (counts : Counting) (ss : List Stream) (ls : List ℕ) → ls ≡ own_numbers → Groups counts ss 0 ls
groups_none counts ss ls e = rw e (groups_of (start counts ss))

-- The labels after k steps.
module _ (counts : Counting) (ss : List Stream) (w : AmongPlaces ss) where
  -- They are the labels of the groups of the first k streams.
  pub groups_after : (k : ℕ) → k ≤ length ss → Groups counts ss k (labels_after counts ss k)
  groups_after k h = groups_of (after counts ss w k h)

  -- What a step promises of the labels after i streams allows one list alone: the labels after i + 1.
  pub step_said : (i : ℕ) (s : Stream) (ls next : List ℕ) (c : Bool) → i < length ss → ls ≡ labels_after counts ss i → stream_at ss i ≡ s → c ≡ counts i s
      → StepSays c s ls next → next ≡ labels_after counts ss (i + 1)
  step_said i s ls next c l e at q says =
      let g : Groups counts ss i ls = rw e (groups_after i (omega arith)) in
      rw (add-one i) (one_list counts ss (suc i) next _ (says.next counts ss i w l at (sym q) g) (groups_after (suc i) (omega arith)))

  steps : Pass counts ss (labels_after counts ss)
  unfolding labels_after
  steps = record {
    begins = groups_none counts ss own_numbers refl;
    steps = λ k l. step_says (counts k (stream_at ss k)) (stream_at ss k) (labels_after counts ss k) (labels_after counts ss (suc k)) refl;
  }

  passed : (labels : ℕ → List ℕ) → Pass counts ss labels → (k : ℕ) → k ≤ length ss → Groups counts ss k (labels k)
  passed labels g zero h = g.begins
  passed labels g (suc k) h = (g.steps k (omega arith)).next counts ss k w (omega arith) refl refl (passed labels g k (omega arith))

-- The ends of the streams of a plant within its limits are places.
pub ends_of : (p : Plant) → Within p → AmongPlaces p.streams
ends_of p w = among p.units p.streams w.few_units (inside p w)

-- The ends of an accepted plant's streams are places.
pub ends_in_lem : (p : Arrays.Plant) → Accepted p → AmongPlaces (plant_of p).streams
ends_in_lem p a = ends_of (plant_of p) (within_of p a)

-- The labels after j steps over the streams of a plant in an array.
pub record Labelled (counts : Counting) (p : Arrays.Plant) (ls : List ℕ) (j : ℕ) : Type 0 where
  pub within : j ≤ p.count
  pub are : ls ≡ labels_after counts (plant_of p).streams j

-- Before the first step.
pub labelled_none : (counts : Counting) (p : Arrays.Plant) (ls : List ℕ) → ls ≡ own_numbers → Labelled counts p ls 0
labelled_none counts p ls e = record { within = omega arith; are = step_none counts (plant_of p).streams ls e }

module _ {counts : Counting} {p : Arrays.Plant} {ls : List ℕ} {j : ℕ} (g : Labelled counts p ls j) where
  -- There are as many labels as places.
  pub labelled_long : length ls ≡ places
  labelled_long = ap length g.are ∙ labels_long counts (plant_of p).streams j

  module _ (a : Accepted p) where
    -- One step more.
    pub labelled_more : {c : Bool} {next : List ℕ} → j < p.count → c ≡ counts j (get_or p.streams j no_stream)
        → StepSays c (get_or p.streams j no_stream) ls next → Labelled counts p next (j + 1)
    labelled_more {c} {next} l q says = record {
      within = omega arith;
      are = step_said counts (plant_of p).streams (ends_in_lem p a) j (get_or p.streams j no_stream) ls next c (rw (all_listed p a) l) g.are (listed_at p a j l) q says;
    }

    -- After the last step.
    pub labelled_all : p.count ≤ j → ls ≡ labels_after counts (plant_of p).streams (length (plant_of p).streams)
    labelled_all h =
        let w = g.within in
        let e : j ≡ p.count = omega arith in
        g.are ∙ ap (labels_after counts (plant_of p).streams) (e ∙ sym (all_listed p a))

-- The labels after all steps, from those of the groups.
pub labels_are : (p : Arrays.Plant) → Accepted p → (counts : Counting) (ls : List ℕ) → Groups counts (plant_of p).streams p.count ls → ls ≡ labels_of counts (plant_of p)
labels_are p a counts ls g =
    let ss = (plant_of p).streams in
    one_list counts ss (length ss) ls (labels_of counts (plant_of p)) (rw (all_listed p a) g) (groups_after counts ss (ends_in_lem p a) (length ss) (omega arith))

-- Of every plant that is read.
pub one_pass : (counts : Counting) → OnePass counts
one_pass counts = record {
  some = λ file p e. (labels_after counts p.streams, steps counts p.streams (ends file p e));
  after = λ file p e. passed counts p.streams (ends file p e);
  only = one_list counts;
  whole = λ ss labels g u v hu hv. (λ e. first→all ((g.one u v hu hv).0 e), λ c. (g.one u v hu hv).1 (all→first c));
}
  where
    ends : (file : List ℕ) (p : Plant) → read_plant file ≡ got p → AmongPlaces p.streams
    ends file p e = ends_of p (within p (accepted file p e).0)
