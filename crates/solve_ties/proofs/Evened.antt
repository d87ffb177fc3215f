-- The tie pass over arcs: the test of a stream, the search round it, and the streams that a way goes over.
use mathlib.Core.Path.{◌≡◌, refl, sym, ◌∙◌, ap, subst}
use mathlib.Core.Bool.{Bool, true, false, ◌&&◌}
use mathlib.Core.List.{List}
use Prim.Native.Nat.{ℕ, zero, suc, ◌+◌, ◌*◌, ◌≤◌, ◌<◌}
use native.Mathlib.Omega.{arith}
use borrow.Author.Tests.{lt-ltb, le-ltb, eqb-true, eqb-false}
use lib.Dec.{eqb, ltb}
use lib.ListN.{length, get_or, take}
use lib.Seq.{get_or-take}
use Rattle.num_bytes.specs.Choice.{pick}
use Rattle.num_bytes.proofs.Tests.{clash, and_none}
use Rattle.plant_def.specs.declared.Stream.{Stream}
use Rattle.plant_def.specs.Limits.{max_units}
use Rattle.plant_def.specs.Plants.{no_stream}
use Rattle.flow_def.specs.Flows.{stream_at}
use Rattle.solve_def.specs.Search.{Grown}
use Rattle.solve_def.specs.SearchNeeds.{Network, Trail, Walkable}
use Rattle.solve_def.specs.Model.{tied_at}
use Rattle.solve_def.specs.SolverNeeds.{Even, Falls}
use Rattle.solve_def.proofs.Streams.{stream_is, in_use, solvable_of}
use Rattle.solve_def.proofs.Weights.{weight_least}
use Rattle.solve_def.proofs.TightPath.{Path, way, shut}
use Rattle.solve_def.proofs.Detours.{round_path}
use Rattle.solve_def.proofs.TieTurns.{lack, searched, tied_free, tied_reduced}
use Rattle.solve_arcs.specs.Cells.{to_cell, arc_of, count_of}
use Rattle.solve_arcs.specs.Margins as Mg
use Rattle.solve_arcs.specs.Margins.{spared, reduced_cost, reduced_costs}
use Rattle.solve_arcs.proofs.Along.{starts_at, ends_at, reduced_is}
use Rattle.solve_arcs.specs.ArcNeeds.{Rowed, Laid, Margined, Free, Laying, Searching}
use Rattle.solve_arcs.proofs.Finding.{reduced}
use Rattle.solve_ties.specs.Evens.{Tieable}

-- The arc of a stream backwards.
pub small_back : (ls ms : List ℕ) (i : ℕ) → ((k : ℕ) (f : Bool) → k < count_of ls → get_or ms (arc_of k f) 0 ≤ Mg.shut) → i < count_of ls → get_or ms (2 * i) 0 ≤ Mg.shut
small_back ls ms i h l = let e : 2 * i + 0 ≡ 2 * i = omega arith in rw e at (h i false l)

-- The reduced cost of the arc backwards.
pub reduced_back : (ls ms ps : List ℕ) (i : ℕ) → i < count_of ls
    → get_or (reduced_costs ls ms ps false) i 0 ≡ reduced_cost (get_or ms (2 * i) 0) (get_or ps (get_or ls (to_cell + (2 * i + 1)) 0) 0) (get_or ps (get_or ls (to_cell + 2 * i) 0) 0)
reduced_back ls ms ps i l =
    let e : 2 * i + 0 ≡ 2 * i = omega arith in
    rw (← starts_at ls i l, ← ends_at ls i l) (rw e at (reduced_is ls ms ps false i l))

-- The search round a stream can go over the arcs.
abbrev pub tie_searching : (ls rs ms ps : List ℕ) (i skip : ℕ) (xs : List ℕ) (w : Tieable ls rs ps i xs) → i ≤ w.n → Margined (count_of ls) rs xs 1 skip ms → Searching ls ms ps 1 skip
tie_searching ls rs ms ps i skip xs w l m = record {
  streams = w.streams;
  n = w.n;
  rows = rs;
  amounts = xs;
  walkable = record {
    searchable = record {
      network = w.network;
      step = omega arith;
      amounts = λ k b. omega (arith, (w.even.sized k (omega (arith, w.network.within.few_streams))).0, w.network.within.few_streams, l);
      potentials = w.potentials;
    };
    met = w.even.met;
    moderate = λ k b e. let o = w.even.moderate k b e in (omega (arith, o.0, w.network.within.few_streams, l), omega (arith, o.1, w.network.within.few_streams, l));
    floored = w.even.floor;
  };
  laid = w.laid;
  margined = subst (λ (k : ℕ). Margined k rs xs 1 skip ms) w.laid.along.counted m;
}

-- The arcs and rows are of these streams.
abbrev pub tie_laying : (ls rs ps : List ℕ) (i : ℕ) (xs : List ℕ) → Tieable ls rs ps i xs → Laying ls rs
tie_laying ls rs ps i xs w = record { streams = w.streams; n = w.n; network = w.network; laid = w.laid }

-- What the search remembers are arcs' streams.
pub tie_trail : (ls rs ps : List ℕ) (i : ℕ) (xs : List ℕ) (w : Tieable ls rs ps i xs) (via : List ℕ) (len : ℕ) → Trail via w.n len → Trail via (count_of ls) len
tie_trail ls rs ps i xs w via len t = subst (λ (m : ℕ). Trail via m len) (sym w.laid.along.counted) t

module _ (streams : List Stream) (n : ℕ) (w : Network streams n) (rs : List ℕ) (r : Rowed streams n rs) where
  -- A metered stream is one that weighs something.
  weighs : (k : ℕ) → k < n → ltb 0 (get_or rs (4 * k) 0) ≡ (get_or streams k no_stream).metered
  weighs k l = rw (r.weights k l) (go (get_or streams k no_stream).metered (w.within.each k l).weighed)
    where
      go : (b : Bool) → (b ≡ true → 1 ≤ (get_or streams k no_stream).weight) → ltb 0 (pick b (get_or streams k no_stream).weight 0) ≡ b
      go true h = lt-ltb 0 (get_or streams k no_stream).weight (omega (arith, h refl))
      go false h = le-ltb 0 0 (omega arith)

  -- A metered stream's row has a weight.
  pub weighs_some : (k : ℕ) → k < n → (get_or streams k no_stream).metered ≡ true → 0 < get_or rs (4 * k) 0
  weighs_some k l m = rw (r.weights k l) (omega (arith, weight_least (get_or streams k no_stream) (w.within.each k l) m))

  spared_is : (skip k : ℕ) → k < n → spared rs skip k ≡ ((stream_at (take n streams) k).metered && ltb k skip)
  spared_is skip k l = ap (λ (b : Bool). b && ltb k skip) (weighs k l ∙ sym (ap (λ (s : Stream). s.metered) (get_or-take n streams k no_stream l)))

  module _ (ps : List ℕ) (i : ℕ) (l : i < n) (xs : List ℕ) where
    -- The way round goes over no stream that is left alone.
    pub way_free : Even (take n streams) ps i xs → (g : Grown) → g ≡ searched streams n w ps i l xs → g.found ≡ true → Free rs (i + 1) g.tree.via g.tree.len
    way_free h g q f = go (subst (λ (o : Grown). Path max_units (take n streams) xs ps (get_or streams i no_stream).from (get_or streams i no_stream).to (suc i) o) (sym q) path)
      where
        li : i < length (take n streams)
        li = rw (in_use streams n w) l

        path : Path max_units (take n streams) xs ps (get_or streams i no_stream).from (get_or streams i no_stream).to (suc i) (searched streams n w ps i l xs)
        path = rw (stream_is streams n i l, in_use streams n w) at (round_path (take n streams) (solvable_of streams n w) ps i li xs h)

        next : suc i ≡ i + 1
        next = omega arith

        go : Path max_units (take n streams) xs ps (get_or streams i no_stream).from (get_or streams i no_stream).to (suc i) g → Free rs (i + 1) g.tree.via g.tree.len
        go (shut o ls a b d) = clash _ f o
        go (way o a e u) = λ j b. spared_is (i + 1) (get_or g.tree.via j 0) (rw (in_use streams n w) at (a.links j b).inside) ∙ (rw next at (u j b))

    -- The test of stream i.
    module _ (ls ms : List ℕ) (laid : Laid streams n ls rs) (mg : Margined n rs xs 1 i ms) (wk : Walkable streams n xs ps 1) where
      abbrev test : Bool
      test = ltb 0 (get_or rs (4 * i) 0) && eqb (get_or (reduced_costs ls ms ps false) i 0) 0

      free : (stream_at (take n streams) i).metered && ltb i i ≡ false
      free = rw (le-ltb i i (omega arith)) (and_none (stream_at (take n streams) i).metered)

      margin_reduced : get_or (reduced_costs ls ms ps false) i 0 ≡ lack streams n w ps i l xs
      margin_reduced = (reduced streams n xs ps 1 i ls rs ms laid mg wk).back i l ∙ rw (free, stream_is streams n i l)

      test_is : test ≡ ((get_or streams i no_stream).metered && eqb (lack streams n w ps i l xs) 0)
      test_is = rw (margin_reduced, weighs i l)

      -- Where the test holds, the stream can fall at no cost.
      pub falls : test ≡ true → Falls streams ps i xs
      falls e = go (get_or streams i no_stream).metered refl (sym test_is ∙ e)
        where
          go : (b : Bool) → (get_or streams i no_stream).metered ≡ b → (b && eqb (lack streams n w ps i l xs) 0) ≡ true → Falls streams ps i xs
          go true m h = record { metered = m; tight = omega (arith, eqb-true (lack streams n w ps i l xs) 0 h) }
          go false m h = clash false h refl

      -- Where it does not, the stream stays as it is.
      pub stays : test ≡ false → tied_at (take n streams) ps i xs ≡ xs
      stays e = go (get_or streams i no_stream).metered refl (sym test_is ∙ e)
        where
          go : (b : Bool) → (get_or streams i no_stream).metered ≡ b → (b && eqb (lack streams n w ps i l xs) 0) ≡ false → tied_at (take n streams) ps i xs ≡ xs
          go true m h = tied_reduced streams n w ps i l xs m (go_lack (lack streams n w ps i l xs) (eqb-false (lack streams n w ps i l xs) 0 h))
            where
              go_lack : (a : ℕ) → (a ≡ 0 → ⊥) → 0 < a
              go_lack zero q = absurd (q refl)
              go_lack (suc a) q = omega arith
          go false m h = tied_free streams n w ps i l xs m
