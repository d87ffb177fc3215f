-- The augmentation along arcs: with j streams to go it comes to what it comes to from the start, and the margins are those of the amounts.
use mathlib.Core.Path.{◌≡◌, sym, ◌∙◌}
use mathlib.Core.Bool.{Bool, true, false}
use mathlib.Core.List.{List}
use Prim.Native.Nat.{ℕ, ◌+◌, ◌-◌, ◌*◌, ◌≤◌, ◌<◌}
use native.Mathlib.Omega.{arith}
use lib.Dec.{eqb}
use lib.ListN.{length, get_or, set, take}
use Rattle.num_bytes.specs.Choice.{pick}
use Rattle.num_bytes.proofs.Tests.{picked}
use Rattle.plant_def.specs.Limits.{places, max_streams}
use Rattle.solve_def.specs.Sizes.{most_flow, most_step}
use Rattle.solve_def.specs.Augment.{augmented}
use Rattle.solve_def.specs.SearchNeeds.{Trail, Roomy}
use Rattle.solve_def.proofs.Rounds.{augment_hit, augment_miss}
use Rattle.solve_def.proofs.Elements.{roomy_less, roomy_set}
use Rattle.solve_arcs.specs.Cells.{to_cell, count_of, margin_cells}
use Rattle.solve_arcs.specs.Margins.{margins_put}
use Rattle.solve_arcs.specs.ArcNeeds.{Laying, Margined, Free}
use Rattle.solve_def.specs.declared.Route.{Route}
use Rattle.solve_augment.specs.Augmented.{MarginsMoved, FlowsMoved}
use Rattle.solve_arcs.proofs.Along.{starts_at, ends_at}
use Rattle.solve_arcs.proofs.Stores.{put_long, margined_moved}

-- What holds with j remembered streams to go.
pub record Augmenting (ls rs via ends : List ℕ) (len target d : ℕ) (xs₀ ms₀ xs ms : List ℕ) (at j : ℕ) : Type 0 where
  pub short : j ≤ len
  pub byte : at < 256
  pub roomy : Roomy xs j
  pub long : length ms ≡ margin_cells
  pub margined : (skip : ℕ) → Margined (count_of ls) rs xs₀ d skip ms₀ → Free rs skip via len → Margined (count_of ls) rs xs d skip ms
  pub same : (w : Laying ls rs) → augmented (take w.n w.streams) via ends d j at xs ≡ augmented (take w.n w.streams) via ends d len target xs₀

-- None is left.
pub augmented_all : (ls rs via ends : List ℕ) (len target d : ℕ) (xs₀ ms₀ xs ms : List ℕ) (at : ℕ) → Augmenting ls rs via ends len target d xs₀ ms₀ xs ms at 0
    → let way : Route = record { len = len; target = target; delta = d } in
    MarginsMoved ls rs via way ms₀ xs₀ ms xs × FlowsMoved ls rs via ends way xs₀ xs
unfolding augmented
augmented_all ls rs via ends len target d xs₀ ms₀ xs ms at p = (p.margined, λ w. p.same w)

module _ (ls rs via ends : List ℕ) (len target d : ℕ) (xs₀ ms₀ xs ms : List ℕ) (at j : ℕ) (p : Augmenting ls rs via ends len target d xs₀ ms₀ xs ms at j) (some : 0 < j) where
  abbrev i : ℕ
  i = get_or via (j - 1) 0

  abbrev u : ℕ
  u = get_or ls (to_cell + 2 * i) 0

  abbrev v : ℕ
  v = get_or ls (to_cell + (2 * i + 1)) 0

  abbrev f : Bool
  f = eqb v at

  abbrev x : ℕ
  x = pick f (get_or xs i 0 + d) (get_or xs i 0 - d)

  -- The stream is in use.
  pub augment_index : Trail via (count_of ls) len → i < count_of ls
  augment_index t = t.within (j - 1) (omega (arith, p.short))

  module _ (hd : d ≤ most_step) (low : i < max_streams) where
    near : (b : Bool) → (most_step * (j - 1) ≤ pick b (get_or xs i 0 + d) (get_or xs i 0 - d)) × (pick b (get_or xs i 0 + d) (get_or xs i 0 - d) + most_step * (j - 1) ≤ most_flow)
    near true = (omega (arith, p.roomy.low i low, p.roomy.high i low), omega (arith, p.roomy.low i low, p.roomy.high i low))
    near false = (omega (arith, p.roomy.low i low, p.roomy.high i low), omega (arith, p.roomy.low i low, p.roomy.high i low))

    -- Its amount can be held after the move.
    pub augment_most : (b : Bool) → pick b (get_or xs i 0 + d) (get_or xs i 0 - d) ≤ most_flow
    augment_most b = omega (arith, (near b).1)

  module _ (hd : d ≤ most_step) (t : Trail via (count_of ls) len) (w : Laying ls rs) where
    in_use : i < count_of ls
    in_use = augment_index t

    low_in : i < max_streams
    low_in = omega (arith, in_use, w.laid.along.linked.few)

    starts : u < places
    starts = rw (← starts_at ls i in_use) (w.laid.along.linked.from_in i in_use)

    ends_there : v < places
    ends_there = rw (← ends_at ls i in_use) (w.laid.along.linked.to_in i in_use)

    -- The next place is a place.
    pub augment_place : (b : Bool) → pick b u v < places
    augment_place b = picked (λ (q : ℕ). q < places) b u v (λ o. starts) (λ o. ends_there)

    -- The stream leads to the place, and is moved along.
    pub augment_hits : get_or ends (j - 1) 0 ≡ at
        → Augmenting ls rs via ends len target d xs₀ ms₀ (set xs i x) (margins_put rs i x d ms) (pick f u v) (j - 1)
    augment_hits h = record {
      short = omega (arith, p.short);
      byte = omega (arith, augment_place f);
      roomy = roomy_set p.roomy i x low_in (near hd low_in f);
      long = put_long i _ _ ms low_in p.long;
      margined = λ skip m o. margined_moved rs d i ms low_in (count_of ls) skip xs x (omega (arith, p.roomy.long, low_in)) (o (j - 1) (omega (arith, p.short))) (p.margined skip m o);
      same = λ z. step z ∙ p.same z;
    }
      where
        step : (z : Laying ls rs) → augmented (take z.n z.streams) via ends d (j - 1) (pick f u v) (set xs i x) ≡ augmented (take z.n z.streams) via ends d j at xs
        step z =
            let l : i < z.n = rw z.laid.along.counted at in_use in
            rw (sym (starts_at ls i in_use) ∙ z.laid.along.starts i l, sym (ends_at ls i in_use) ∙ z.laid.along.ends i l)
            (sym (augment_hit z.streams z.n via ends d j at xs some l h))

    -- It leads elsewhere.
    pub augment_misses : (get_or ends (j - 1) 0 ≡ at → ⊥) → Augmenting ls rs via ends len target d xs₀ ms₀ xs ms at (j - 1)
    augment_misses h = record {
      short = omega (arith, p.short);
      byte = p.byte;
      roomy = roomy_less p.roomy;
      long = p.long;
      margined = p.margined;
      same = λ z. sym (augment_miss z.streams z.n via ends d j at xs some h) ∙ p.same z;
    }
