-- The tie pass over the array: one stream by its parts, and what the augmentation round it needs.
use mathlib.Core.Path.{◌≡◌, refl, sym, ◌∙◌, ap, subst}
use mathlib.Core.Bool.{Bool, true, false}
use mathlib.Core.List.{List}
use Prim.Native.Nat.{ℕ, suc, ◌+◌, ◌-◌, ◌≤◌, ◌<◌}
use native.Mathlib.Numerals.{add-one}
use native.Mathlib.Omega.{arith}
use borrow.Author.Tests.{lt-ltb, le-ltb}
use lib.Dec.{ltb}
use lib.ListN.{length, get_or, set, take}
use Rattle.num_bytes.specs.Choice.{pick}
use Rattle.num_bytes.proofs.Tests.{clash}
use Rattle.plant_def.specs.declared.Stream.{Stream}
use Rattle.plant_def.specs.Limits.{max_units}
use Rattle.plant_def.specs.Plants.{no_stream}
use Rattle.flow_def.specs.Flows.{stream_at}
use Rattle.solve_def.specs.declared.Tree.{Tree}
use Rattle.solve_def.specs.Sizes.{search_rounds}
use Rattle.solve_def.specs.ReducedCosts.{reduced_cost_by}
use Rattle.solve_def.specs.Search.{root_at, Grown, tight_path}
use Rattle.solve_def.specs.Augment.{augmented}
use Rattle.solve_def.specs.SearchNeeds.{Network, Trail, Roomy}
use Rattle.solve_def.proofs.Counting.{count_most}
use Rattle.solve_def.proofs.TightPath.{Path, way, shut}
use Rattle.solve_def.specs.Model.{tied_by, tied_at, ties_to}
use Rattle.solve_def.specs.SolverNeeds.{Even}
use Rattle.solve_def.proofs.Streams.{stream_is, in_use, solvable_of}
use Rattle.solve_def.proofs.Detours.{round_path, left_some, ties_even}

module _ (streams : List Stream) (n : ℕ) (w : Network streams n) (ps : List ℕ) (i : ℕ) (l : i < n) (xs : List ℕ) where
  abbrev ss : List Stream
  ss = take n streams

  abbrev s : Stream
  s = get_or streams i no_stream

  -- The reduced cost against less, and the search for a way round.
  abbrev pub lack : ℕ
  lack = reduced_cost_by (get_or streams i no_stream) false (get_or xs i 0) (get_or ps (get_or streams i no_stream).from 0) (get_or ps (get_or streams i no_stream).to 0) 1

  -- The search round stream i.
  abbrev pub searched : Grown
  searched = tight_path (take n streams) n xs ps (get_or streams i no_stream).to (suc i) search_rounds (root_at (get_or streams i no_stream).from)

  parts : tied_at ss ps i xs ≡ pick s.metered (pick (ltb 0 lack) xs (tied_by ss xs s.to i searched)) xs
  unfolding tied_at
  parts = rw (stream_is streams n i l, in_use streams n w)

  -- An unmetered stream stays.
  pub tied_free : s.metered ≡ false → tied_at ss ps i xs ≡ xs
  tied_free e = parts ∙ ap (λ (b : Bool). pick b (pick (ltb 0 lack) xs (tied_by ss xs s.to i searched)) xs) e

  metered_parts : s.metered ≡ true → tied_at ss ps i xs ≡ pick (ltb 0 lack) xs (tied_by ss xs s.to i searched)
  metered_parts e = parts ∙ ap (λ (b : Bool). pick b (pick (ltb 0 lack) xs (tied_by ss xs s.to i searched)) xs) e

  -- So does one that cannot fall at no cost.
  pub tied_reduced : s.metered ≡ true → 0 < lack → tied_at ss ps i xs ≡ xs
  tied_reduced e h = metered_parts e ∙ ap (λ (b : Bool). pick b xs (tied_by ss xs s.to i searched)) (lt-ltb 0 lack h)

  tied_search : s.metered ≡ true → lack ≤ 0 → tied_at ss ps i xs ≡ tied_by ss xs s.to i searched
  tied_search e h = metered_parts e ∙ ap (λ (b : Bool). pick b xs (tied_by ss xs s.to i searched)) (le-ltb 0 lack h)

  -- And one round which no way leads.
  pub tied_cut : (g : Grown) → s.metered ≡ true → lack ≤ 0 → g ≡ searched → g.found ≡ false → tied_at ss ps i xs ≡ xs
  tied_cut g e h q f = tied_search e h ∙ rw (← q, f)

  -- Another has 1 less, and the way round it has 1 more.
  pub tied_round : (g : Grown) → s.metered ≡ true → lack ≤ 0 → g ≡ searched → g.found ≡ true
      → tied_at ss ps i xs
      ≡ set (augmented ss g.tree.via g.tree.ends 1 g.tree.len s.to xs) i (get_or (augmented ss g.tree.via g.tree.ends 1 g.tree.len s.to xs) i 0 - 1)
  tied_round g e h q f = tied_search e h ∙ rw (← q, f)

  -- What the augmentation needs, and what it leaves of stream i.
  pub record RoundAugmentable (t : Tree) : Type 0 where
    pub trail : Trail t.via n t.len
    pub roomy : Roomy xs t.len
    pub some : 1 ≤ get_or (augmented ss t.via t.ends 1 t.len s.to xs) i 0

  -- What the augmentation round it needs.
  pub round_augmentable : Even ss ps i xs → (g : Grown) → s.metered ≡ true → lack ≤ 0 → g ≡ searched → g.found ≡ true → RoundAugmentable g.tree
  round_augmentable h g e z q f = go (subst (λ (o : Grown). Path max_units ss xs ps s.from s.to (suc i) o) (sym q) path)
    where
      li : i < length (take n streams)
      li = rw (in_use streams n w) l

      at : stream_at (take n streams) i ≡ get_or streams i no_stream
      at = stream_is streams n i l

      path : Path max_units ss xs ps s.from s.to (suc i) searched
      path = rw (at, in_use streams n w) at (round_path ss (solvable_of streams n w) ps i li xs h)

      go : Path max_units ss xs ps s.from s.to (suc i) g → RoundAugmentable g.tree
      go (shut o ls a b d) = clash _ f o
      go (way o a r u) =
          let m = count_most max_units (λ v. get_or g.tree.visited v false) in
          record {
            trail = record { short = omega (arith, a.counted, m); within = λ k j. rw (in_use streams n w) at (a.links k j).inside };
            roomy = record {
              long = h.long;
              low = λ k j. omega (arith, (h.sized k j).1, a.counted, m, l, w.within.few_streams);
              high = λ k j. omega (arith, (h.sized k j).0, a.counted, m, l, w.within.few_streams);
            };
            some = rw at at (left_some ss (solvable_of streams n w) ps i li xs h (rw at e) (rw at (omega arith)) g.tree (rw at a) (rw at r) u);
          }

-- The pass.
pub tying_even : (streams : List Stream) (n : ℕ) (w : Network streams n) (ps xs : List ℕ) → Even (take n streams) ps 0 xs → (i : ℕ) → i ≤ n
    → Even (take n streams) ps i (ties_to (take n streams) ps i xs)
tying_even streams n w ps xs h i l = ties_even (take n streams) (solvable_of streams n w) ps xs h i (rw (in_use streams n w) l)

-- One stream more.
pub ties_next : (ss : List Stream) (ps xs : List ℕ) (i : ℕ) → ties_to ss ps (i + 1) xs ≡ tied_at ss ps i (ties_to ss ps i xs)
unfolding ties_to
ties_next ss ps xs i = rw add-one

-- No stream yet.
pub ties_none : (ss : List Stream) (ps xs : List ℕ) → ties_to ss ps 0 xs ≡ xs
unfolding ties_to
ties_none ss ps xs = refl
