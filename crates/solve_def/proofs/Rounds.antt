-- One round of each recursion, over the array of streams of which the first n are in use: for the code's loops.
use mathlib.Core.Path.{◌≡◌, refl}
use mathlib.Core.Bool.{true, false}
use mathlib.Core.List.{List}
use Prim.Native.Nat.{ℕ, zero, suc, ◌-◌, ◌≤◌, ◌<◌}
use native.Mathlib.Omega.{arith}
use borrow.Author.Tests.{lt-ltb, le-ltb, le-leb, lt-leb, eq-eqb, ne_eqb}
use lib.ListN.{get_or, set, take}
use lib.Seq.{get_or-take}
use Rattle.plant_def.specs.declared.Stream.{Stream}
use Rattle.plant_def.specs.Plants.{no_stream}
use Rattle.solve_def.specs.declared.Tree.{Tree}
use Rattle.solve_def.specs.Sizes.{net_shift, farthest}
use Rattle.solve_def.specs.ReducedCosts.{At, Nothing, least_to}
use Rattle.solve_def.specs.Search.{lowered_by, far_end, added_to, grown_by, grow, tight_path}
use Rattle.solve_def.specs.Augment.{moved_of, other_end, augmented}

module _ (streams : List Stream) (n : ℕ) (xs es : List ℕ) (d : ℕ) (ps : List ℕ) (t : Tree) where
  -- The search: no stream leaves the visited places; none with room; the new place has a negative net; or it has not.
  pub grow_none : (l : ℕ) → 0 < l → least_to (take n streams) xs ps t.visited d 0 n ≡ Nothing → grow (take n streams) n xs es d l ps t ≡ grown_by false t ps
  unfolding grow
  grow_none zero p e = absurd (omega arith)
  grow_none (suc l) p e = simp e

  -- No stream with room leaves the visited places.
  pub grow_stop : (l i g : ℕ) → 0 < l → least_to (take n streams) xs ps t.visited d 0 n ≡ At i g → farthest ≤ g
      → grow (take n streams) n xs es d l ps t ≡ grown_by false t ps
  unfolding grow
  grow_stop zero i g p e h = absurd (omega arith)
  grow_stop (suc l) i g p e h = simp (e, le-leb farthest g h)

  -- The place over the stream of least reduced cost has a negative net.
  pub grow_hit : (l i g : ℕ) → 0 < l → i < n → least_to (take n streams) xs ps t.visited d 0 n ≡ At i g → g < farthest
      → get_or es (far_end t.visited (get_or streams i no_stream)) 0 < net_shift
      → grow (take n streams) n xs es d l ps t ≡ grown_by true (added_to t i (far_end t.visited (get_or streams i no_stream))) (lowered_by t.visited g ps)
  unfolding grow
  grow_hit zero i g p k e m h = absurd (omega arith)
  grow_hit (suc l) i g p k e m h = simp (e, lt-leb farthest g m, get_or-take n streams i no_stream k, lt-ltb _ _ h)

  -- It has none, and the search goes on.
  pub grow_more : (l i g : ℕ) → 0 < l → i < n → least_to (take n streams) xs ps t.visited d 0 n ≡ At i g → g < farthest
      → net_shift ≤ get_or es (far_end t.visited (get_or streams i no_stream)) 0
      → grow (take n streams) n xs es d l ps t
      ≡ grow (take n streams) n xs es d (l - 1) (lowered_by t.visited g ps) (added_to t i (far_end t.visited (get_or streams i no_stream)))
  unfolding grow
  grow_more zero i g p k e m h = absurd (omega arith)
  grow_more (suc l) i g p k e m h = let z : suc l - 1 ≡ l = omega arith in rw z (simp (e, lt-leb farthest g m, get_or-take n streams i no_stream k, le-ltb _ _ h))

  -- No rounds are left.
  pub grow_end : grow (take n streams) n xs es d 0 ps t ≡ grown_by false t ps
  unfolding grow
  grow_end = refl

-- The search over streams without reduced cost: none leaves; the least has reduced cost; the new place is v; or it is not.
module _ (streams : List Stream) (n : ℕ) (xs ps : List ℕ) (v skip : ℕ) (t : Tree) where
  -- The same of the search over streams without reduced cost: no stream leaves.
  pub path_none : (l : ℕ) → 0 < l → least_to (take n streams) xs ps t.visited 1 skip n ≡ Nothing → tight_path (take n streams) n xs ps v skip l t ≡ grown_by false t ps
  unfolding tight_path
  path_none zero p e = absurd (omega arith)
  path_none (suc l) p e = simp e

  -- The stream of least reduced cost has some.
  pub path_stop : (l i g : ℕ) → 0 < l → least_to (take n streams) xs ps t.visited 1 skip n ≡ At i g → 0 < g
      → tight_path (take n streams) n xs ps v skip l t ≡ grown_by false t ps
  unfolding tight_path
  path_stop zero i g p e h = absurd (omega arith)
  path_stop (suc l) i g p e h = simp (e, lt-ltb 0 g h)

  -- The place over it is the goal.
  pub path_hit : (l i g : ℕ) → 0 < l → i < n → least_to (take n streams) xs ps t.visited 1 skip n ≡ At i g → g ≤ 0
      → far_end t.visited (get_or streams i no_stream) ≡ v
      → tight_path (take n streams) n xs ps v skip l t ≡ grown_by true (added_to t i (far_end t.visited (get_or streams i no_stream))) ps
  unfolding tight_path
  path_hit zero i g p k e h q = absurd (omega arith)
  path_hit (suc l) i g p k e h q =
      simp (e, le-ltb 0 g h, get_or-take n streams i no_stream k, eq-eqb (far_end t.visited (get_or streams i no_stream)) v q)

  -- It is not, and the search goes on.
  pub path_more : (l i g : ℕ) → 0 < l → i < n → least_to (take n streams) xs ps t.visited 1 skip n ≡ At i g → g ≤ 0
      → (far_end t.visited (get_or streams i no_stream) ≡ v → ⊥)
      → tight_path (take n streams) n xs ps v skip l t
      ≡ tight_path (take n streams) n xs ps v skip (l - 1) (added_to t i (far_end t.visited (get_or streams i no_stream)))
  unfolding tight_path
  path_more zero i g p k e h q = absurd (omega arith)
  path_more (suc l) i g p k e h q =
      let z : suc l - 1 ≡ l = omega arith in
      rw z (simp (e, le-ltb 0 g h, get_or-take n streams i no_stream k, ne_eqb (far_end t.visited (get_or streams i no_stream)) v q))

  -- No rounds are left.
  pub path_end : tight_path (take n streams) n xs ps v skip 0 t ≡ grown_by false t ps
  unfolding tight_path
  path_end = refl

-- The augmentation: the remembered stream led to the place, or it did not.
module _ (streams : List Stream) (n : ℕ) (via ends : List ℕ) (d : ℕ) where
  -- The last remembered stream leads to the place.
  pub augment_hit : (j c : ℕ) (xs : List ℕ) → 0 < j → get_or via (j - 1) 0 < n → get_or ends (j - 1) 0 ≡ c
      → augmented (take n streams) via ends d j c xs
      ≡ augmented (take n streams) via ends d (j - 1) (other_end (get_or streams (get_or via (j - 1) 0) no_stream) c)
      (set xs (get_or via (j - 1) 0) (moved_of (get_or streams (get_or via (j - 1) 0) no_stream) (get_or xs (get_or via (j - 1) 0) 0) c d))
  unfolding augmented
  augment_hit zero c xs p k h = absurd (omega arith)
  augment_hit (suc j) c xs p k h =
      let e : suc j - 1 ≡ j = omega arith in
      rw e (simp (eq-eqb (get_or ends j 0) c (rw e at h), get_or-take n streams (get_or via j 0) no_stream (rw e at k)))

  -- It does not.
  pub augment_miss : (j c : ℕ) (xs : List ℕ) → 0 < j → (get_or ends (j - 1) 0 ≡ c → ⊥)
      → augmented (take n streams) via ends d j c xs ≡ augmented (take n streams) via ends d (j - 1) c xs
  unfolding augmented
  augment_miss zero c xs p h = absurd (omega arith)
  augment_miss (suc j) c xs p h = let e : suc j - 1 ≡ j = omega arith in rw e (simp (ne_eqb (get_or ends j 0) c (rw e at h)))
