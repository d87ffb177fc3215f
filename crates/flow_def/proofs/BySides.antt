-- The class of an unmetered stream by sides.
use mathlib.Core.Path.{◌≡◌, refl, sym, ◌∙◌, ap, subst}
use mathlib.Core.Bool.{Bool, true, false, not, true≢false, false≢true}
use mathlib.Core.List.{List}
use mathlib.Core.Logic.{inl, inr}
use Prim.Native.Nat.{ℕ, zero, suc, ◌≤◌, ◌<◌, ◌^◌, min, max}
use native.Mathlib.Nat.{le_trans, min-le_left, le-max_left, le-max_right}
use native.Mathlib.Omega.{arith}
use borrow.Author.Tests.{eqb-true, eqb-false, ne_eqb, lt-ltb, not-true}
use lib.Bits.{bit_or, bit_xor, or_zero_r}
use lib.Dec.{eqb, ltb}
use lib.ListN.{length, get_or, replicate, get_or-replicate, length-replicate}
use Rattle.num_bytes.specs.Choice.{pick}
use Rattle.num_bytes.proofs.Tests.{by_cases, and_left, and_right, and_both, or_left}
use Rattle.plant_def.specs.declared.Stream.{Stream}
use Rattle.plant_def.specs.Limits.{max_units, places}
use Rattle.plant_def.specs.declared.Plant as Arrays
use Rattle.plant_def.specs.Plants.{Plant, no_stream}
use Rattle.plant_def.specs.Within.{Accepted}
use Rattle.plant_def.specs.Says.{plant_of}
use Rattle.plant_def.proofs.Arrayed.{all_listed, listed_at}
use Rattle.flow_def.specs.declared.Class.TheVariants.{Adjusted, AsRead, Given, Withheld}
use Rattle.flow_def.specs.Flows.{stream_at}
use Rattle.flow_def.specs.Classes.{has, joined_to, unmetered_but, class_of}
use Rattle.flow_def.specs.Chains.{unmetered_only, Chain}
use Rattle.flow_def.specs.Labels.{relabelled, stepped, labels_after, one_label}
use Rattle.num_bytes.specs.Sums.{bit}
use Rattle.flow_def.specs.Sides.{way_between, taken_by, looped_by, turned, parted, taken_at, sides_after, looped_after}
use Rattle.flow_def.specs.declared.Bridges.{Bridges}
use Rattle.flow_def.specs.Calls.{Bridging, class_in}
use Rattle.flow_def.proofs.Reach.{Inside, joined→chain, chain→joined}
use Rattle.flow_def.proofs.Labels.{min_max, stepped_none, stepped_one, labelling, label→chain}
use Rattle.flow_def.proofs.Grouping.{labels_are}
use Rattle.num_bytes.proofs.Lists.{values_long, values_at, Written, written_all}
use Rattle.flow_def.proofs.Nets.{inside_of}
use Rattle.flow_def.proofs.ByLabels.{class_metered, class_joined, same_before}
use Rattle.num_bytes.proofs.Binary.{bit_zero, bit_one, bit_or_lem}
use Rattle.flow_def.proofs.Parted.{chain_level, Loose, label, side, Bridge, Parted, part_metered, part_joined}
use Rattle.flow_def.proofs.Parting.{part_joining}

-- What a stream does, by whether it is metered and whether its ends have one label.
module _ (ls : List ℕ) (s : Stream) where
  -- A metered stream takes no label away,
  pub taken_metered : s.metered ≡ true → 0 ≡ taken_by ls s
  taken_metered m = rw m refl

  -- nor does one whose ends have one label;
  pub taken_one : s.metered ≡ false → one_label ls s.from s.to ≡ true → 0 ≡ taken_by ls s
  taken_one m o = rw (m, o) refl

  -- one that joins two groups takes the higher label away.
  pub taken_joins : s.metered ≡ false → one_label ls s.from s.to ≡ false → max (label ls s.from) (label ls s.to) ≡ taken_by ls s
  taken_joins m o = rw (m, o) refl

  -- A stream that joins two groups takes a label above 0 away.
  pub taken_some : s.metered ≡ false → one_label ls s.from s.to ≡ false → taken_by ls s ≡ 0 → ⊥
  taken_some m o e =
      let z : max (label ls s.from) (label ls s.to) ≡ 0 = taken_joins m o ∙ e in
      eqb-false (label ls s.from) (label ls s.to) o
      (omega (arith, le-max_left (label ls s.from) (label ls s.to), le-max_right (label ls s.from) (label ls s.to)))

module _ (ls sides : List ℕ) (s : Stream) where
  -- A metered stream meets no loop;
  pub looped_metered : s.metered ≡ true → 0 ≡ looped_by ls sides s
  looped_metered m = rw m refl

  -- one whose ends have one label meets the loop of the streams that its ends lie apart by;
  pub looped_one : s.metered ≡ false → one_label ls s.from s.to ≡ true → way_between sides s ≡ looped_by ls sides s
  looped_one m o = rw (m, o) refl

  -- one that joins two groups meets none.
  pub looped_joins : s.metered ≡ false → one_label ls s.from s.to ≡ false → 0 ≡ looped_by ls sides s
  looped_joins m o = rw (m, o) refl

  -- Where no label is taken away the sides stay;
  pub parted_none : (h : ℕ) → h ≡ 0 → sides ≡ parted h ls s sides
  parted_none h e = rw e refl

  -- where one is, the places of that label are turned.
  pub parted_some : (h : ℕ) → (h ≡ 0 → ⊥) → turned h (bit_xor (way_between sides s) (2 ^ h)) ls sides ≡ parted h ls s sides
  parted_some h e = rw (ne_eqb h 0 e) refl

-- The class of a metered stream, by whether its ends have one label.
pub in_metered : (ls : List ℕ) (s : Stream) (h looped : ℕ) → s.metered ≡ true → (b : Bool) → b ≡ one_label ls s.from s.to
    → pick b AsRead Adjusted ≡ class_in ls s h looped
in_metered ls s h looped m b e = rw (m, e) refl

-- The class of an unmetered stream, by whether its bit is among those of the loops.
pub in_unmetered : (ls : List ℕ) (s : Stream) (h looped : ℕ) → s.metered ≡ false → (b : Bool) → bit h looped ≡ b
    → pick b Withheld Given ≡ class_in ls s h looped
in_unmetered ls s h looped m b e = rw (m, e) refl

-- Labels, sides and loops that are the same.
moved : {ss : List Stream} {k : ℕ} {ls ls' sides sides' : List ℕ} {met met' : ℕ} → ls ≡ ls' → sides ≡ sides' → met ≡ met'
    → Parted ss k ls sides met → Parted ss k ls' sides' met'
moved {ss} {k} {ls} {ls'} {sides} {sides'} {met} {met'} e f g a =
    subst (λ (x : List ℕ). Parted ss k x sides' met') e (subst (λ (x : List ℕ). Parted ss k ls x met') f (subst (λ (x : ℕ). Parted ss k ls sides x) g a))

module _ (p : Plant) (small : p.units ≤ max_units) (w : Inside p.units p.streams) where
  abbrev ss : List Stream
  ss = p.streams

  abbrev labels : ℕ → List ℕ
  labels k = labels_after unmetered_only p.streams k

  from_in : (k : ℕ) → k < length ss → (stream_at ss k).from < places
  from_in k l = omega (arith, w k l)

  to_in : (k : ℕ) → k < length ss → (stream_at ss k).to < places
  to_in k l = omega (arith, w k l)

  start : Parted ss 0 (labels 0) (replicate places 0) 1
  start = record {
    fresh = λ h u v p l e m. ap (bit h) (get_or-replicate places v 0 0 m) ∙ bit_zero h;
    idle = λ h u p l e. bit_one h p;
    bridge = λ i l t. absurd (omega arith);
  }

  -- One step more.
  module _ (k : ℕ) (l : k < length ss) (sides : List ℕ) (met : ℕ) (a : Parted ss k (labels k) sides met) where
    abbrev s : Stream
    s = stream_at p.streams k

    abbrev Next : Type 0
    Next = Parted p.streams (suc k) (stepped (not s.metered) s (labels k)) (parted (taken_at p.streams k) (labels k) s sides) (bit_or met (looped_by (labels k) sides s))

    met_none : 0 ≡ looped_by (labels k) sides s → met ≡ bit_or met (looped_by (labels k) sides s)
    met_none e = sym (or_zero_r met) ∙ ap (bit_or met) e

    next_metered : s.metered ≡ true → Next
    next_metered m =
        let none = sym (taken_metered (labels k) s m) in
        moved (stepped_none (not s.metered) s (labels k) (rw m refl)) (parted_none (labels k) sides s _ none) (met_none (looped_metered (labels k) sides s m))
        (part_metered ss k (labels k) sides met a none m)

    next_one : s.metered ≡ false → one_label (labels k) s.from s.to ≡ true → Next
    next_one m o =
        let none = sym (taken_one (labels k) s m o) in
        let e = eqb-true (label (labels k) s.from) (label (labels k) s.to) o in
        moved (stepped_one (not s.metered) s (labels k) (rw m refl) e) (parted_none (labels k) sides s _ none)
        (ap (bit_or met) (looped_one (labels k) sides s m o))
        (part_joined ss k (labels k) sides met a none m l (from_in k l) (to_in k l)
        (label→chain unmetered_only p small w k s.from s.to (omega arith) (from_in k l) (to_in k l) e))

    -- A stream that joins two groups, lo and hi being the labels of its ends.
    abbrev x : ℕ
    x = label (labels_after unmetered_only p.streams k) (stream_at p.streams k).from

    abbrev y : ℕ
    y = label (labels_after unmetered_only p.streams k) (stream_at p.streams k).to

    abbrev Joined : ℕ → ℕ → Type 0
    Joined lo hi =
        lo ≤ hi → taken_at p.streams k ≡ hi
        → Parted p.streams (suc k) (relabelled lo hi (labels k)) (turned hi (bit_xor (way_between sides s) (2 ^ hi)) (labels k) sides) met

    level : (j : ℕ) → j < k → Loose ss j
        → ((stream_at ss j).from < places) × ((stream_at ss j).to < places) × (label (labels k) (stream_at ss j).from ≡ label (labels k) (stream_at ss j).to)
    level j b loose =
        let m : j < length ss = omega arith in
        (from_in j m, to_in j m, (labelling unmetered_only p small w k (omega arith)).level j m (and_both (ltb j k) _ (lt-ltb j k b) (rw loose refl)))

    joined : (x ≡ y → ⊥) → Joined (min x y) (max x y)
    joined differ =
        min_max Joined x y
        (λ le q. part_joining ss k (labels k) sides met x y a q (omega (arith, le)) long (from_in k l) (to_in k l) (inl (refl, refl)) level)
        (λ le q. part_joining ss k (labels k) sides met y x a q (below le) long (from_in k l) (to_in k l) (inr (refl, refl)) level)
      where
        long : length (labels k) ≡ places
        long = (labelling unmetered_only p small w k (omega arith)).long

        below : y ≤ x → y < x
        below le = let z : y ≡ x → ⊥ = λ e. differ (sym e) in omega arith

    next_joins : s.metered ≡ false → one_label (labels k) s.from s.to ≡ false → Next
    next_joins m o =
        let taken : max x y ≡ taken_at p.streams k = taken_joins (labels k) s m o in
        let part = joined (eqb-false x y o) (le_trans (min-le_left x y) (le-max_left x y)) (sym taken) in
        let some = parted_some (labels k) sides s (taken_at p.streams k) (taken_some (labels k) s m o) in
        let sides_next = ap (λ (h : ℕ). turned h (bit_xor (way_between sides s) (2 ^ h)) (labels k) sides) taken ∙ some in
        moved (rw m refl) sides_next (met_none (looped_joins (labels k) sides s m o)) part

    next : Next
    next = by_cases s.metered next_metered (λ m. by_cases (one_label (labels k) s.from s.to) (next_one m) (next_joins m))

  after : (k : ℕ) → k ≤ length ss → Parted ss k (labels k) (sides_after ss k) (looped_after ss k)
  unfolding labels_after sides_after looped_after
  after zero h = start
  after (suc k) h = next k (omega arith) (sides_after ss k) (looped_after ss k) (after k (omega arith))

  -- The bit of no stream is among those of the loops.
  none_met : (k : ℕ) → bit 0 (looped_after ss k) ≡ true
  unfolding looped_after
  none_met zero = refl
  none_met (suc k) = bit_or_lem 0 (looped_after ss k) _ ∙ or_left _ _ (none_met k)

  module _ (i : ℕ) (l : i < length ss) (loose : (stream_at ss i).metered ≡ false) where
    on_loop_lem : Chain (unmetered_but i) ss (stream_at ss i).from (stream_at ss i).to → Withheld ≡ class_of p i
    on_loop_lem c = rw (loose, chain→joined (unmetered_but i) p w c) refl

    off_loop : (h : ℕ) → Bridge ss (length ss) (labels (length ss)) (sides_after ss (length ss)) (looped_after ss (length ss)) i h
        → bit h (looped_after ss (length ss)) ≡ false → Given ≡ class_of p i
    off_loop h c q =
        by_cases (has (stream_at ss i).to (joined_to (unmetered_but i) p (stream_at ss i).from))
        (λ e. absurd (not_itself _ (sym (one_side (joined→chain (unmetered_but i) p _ _ e)) ∙ c.split))) (λ e. rw (loose, e) refl)
      where
        not_itself : (b : Bool) → b ≡ not b → ⊥
        not_itself true e = true≢false e
        not_itself false e = false≢true e

        one_side : {u v : ℕ} → Chain (unmetered_but i) ss u v → side (sides_after ss (length ss)) h u ≡ side (sides_after ss (length ss)) h v
        one_side =
            chain_level (side (sides_after ss (length ss)) h)
            (λ j m e. c.level q j m (not-true _ (and_left (not (stream_at ss j).metered) _ e))
            (eqb-false j i (not-true _ (and_right (not (stream_at ss j).metered) _ e))))

    -- An unmetered stream is withheld or given by the bit of the label that it took away.
    pub class_sides : pick (bit (taken_at ss i) (looped_after ss (length ss))) Withheld Given ≡ class_of p i
    class_sides =
        by_cases (one_label (labels i) (stream_at ss i).from (stream_at ss i).to)
        (λ o. rw (sym (taken_one (labels i) (stream_at ss i) loose o), none_met (length ss))
        (sym (class_joined p small w i l i (omega arith) loose (rw (← same_before ss i) o))))
        (λ o. let c = (after (length ss) (omega arith)).bridge i l (taken_some (labels i) (stream_at ss i) loose o) in
        by_cases (bit (taken_at ss i) (looped_after ss (length ss))) (λ b. rw b (on_loop_lem (c.loop b))) (λ b. rw b (off_loop (taken_at ss i) c b)))

  -- A stream takes a place's number away.
  pub taken_low : (k : ℕ) → k < length ss → taken_at ss k < places
  taken_low k l =
      by_cases (stream_at ss k).metered (λ m. rw m (omega arith))
      (λ m. by_cases (one_label (labels k) (stream_at ss k).from (stream_at ss k).to) (λ o. rw (m, o) (omega arith))
      (λ o. rw (m, o) (min_max (λ lo hi. hi < places) _ _ (at (to_in k l)) (at (from_in k l)))))
    where
      at : {u : ℕ} → u < places → label (labels k) u < places
      at {u} h = omega (arith, (labelling unmetered_only p small w k (omega arith)).low u h)

parted_long : (h : ℕ) (ls : List ℕ) (s : Stream) (sides : List ℕ) → length sides ≡ places → length (parted h ls s sides) ≡ places
parted_long h ls s sides l =
    by_cases (eqb h 0) (λ e. rw e l)
    (λ e. rw e (values_long {A = ℕ} (λ u. pick (eqb (get_or ls u 0) h) (bit_xor (get_or sides u 0) (bit_xor (way_between sides s) (2 ^ h))) (get_or sides u 0)) places))

-- The list of sides has one entry for each place.
pub sides_long : (ss : List Stream) (k : ℕ) → length (sides_after ss k) ≡ places
unfolding sides_after
sides_long ss zero = length-replicate {A = ℕ} places 0
sides_long ss (suc k) = parted_long (taken_at ss k) (labels_after unmetered_only ss k) (stream_at ss k) (sides_after ss k) (sides_long ss k)

-- The same of the streams of an array.
module _ {p : Arrays.Plant} {bridges : Bridges} (a : Accepted p) (c : Bridging p bridges) where
  -- The class found by labels and sides is the class of the definition.
  pub class_in_lem : (i : ℕ) → i < p.count
      → class_in bridges.labels (get_or p.streams i no_stream) (get_or bridges.taken i 0) bridges.looped ≡ class_of (plant_of p) i
  class_in_lem i l =
      by_cases (get_or p.streams i no_stream).metered
      (λ t. sym (in_metered bridges.labels (get_or p.streams i no_stream) (get_or bridges.taken i 0) bridges.looped t _ refl)
      ∙ rw (← at, labels_are p a unmetered_only _ c.grouped) (class_metered (plant_of p) a.within.few_units (inside_of p a) i listed (rw at t)))
      (λ t. sym (in_unmetered bridges.labels (get_or p.streams i no_stream) (get_or bridges.taken i 0) bridges.looped t _ refl)
      ∙ rw (c.each i l, all) (class_sides (plant_of p) a.within.few_units (inside_of p a) i listed (rw at t)))
    where
      at : stream_at (plant_of p).streams i ≡ get_or p.streams i no_stream
      at = listed_at p a i l

      listed : i < length (plant_of p).streams
      listed = omega (arith, all_listed p a)

      all : bridges.looped ≡ looped_after (plant_of p).streams (length (plant_of p).streams)
      all = c.met ∙ ap (looped_after (plant_of p).streams) (sym (all_listed p a))

-- All places are turned.
pub turned_all : (h by : ℕ) (ls before now : List ℕ) → Written 0 places (λ k x. pick (eqb (get_or ls k 0) h) (bit_xor x by) x) before now places
    → now ≡ turned h by ls before
turned_all h by ls before now w = written_all w (turned h by ls before) (values_long each places) (values_at each 0 places)
  where
    each : ℕ → ℕ
    each u = pick (eqb (get_or ls u 0) h) (bit_xor (get_or before u 0) by) (get_or before u 0)
