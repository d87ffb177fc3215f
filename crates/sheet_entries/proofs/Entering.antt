-- Entries by classes and flows, and the weights of the adjusted streams by their rows.
use mathlib.Core.Path.{◌≡◌, refl, sym, ap, ◌∙◌}
use mathlib.Core.Bool.{Bool, true, false}
use mathlib.Core.List.{List, map}
use lib.IntN.{pos}
use Prim.Native.Nat.{ℕ, ◌≤◌, ◌<◌}
use native.Mathlib.Omega.{arith}
use borrow.Author.Tests.{ltb-true, ltb-false}
use lib.Dec.{ltb}
use lib.ListN.{length, get_or, replicate, get_or-replicate}
use lib.Seq.{ext_get_or}
use Rattle.num_bytes.specs.Choice.{pick}
use Rattle.num_bytes.proofs.Tests.{by_cases}
use Rattle.plant_def.specs.declared.Stream.{Stream}
use Rattle.plant_def.specs.Limits.{max_streams}
use Rattle.plant_def.specs.Plants.{Plant, no_stream}
use Rattle.flow_def.specs.declared.Class.{Class}
use Rattle.flow_def.specs.declared.Class.TheVariants.{Adjusted, AsRead, Given, Withheld}
use Rattle.flow_def.specs.Calls.{classes_of, class_in}
use Rattle.flow_def.specs.Certificate.{weight_of}
use Rattle.flow_def.specs.Classes.{class_of}
use Rattle.flow_def.specs.Flows.{amount_at}
use Rattle.flow_def.specs.Shown.{adjusted_weight}
use Rattle.num_bytes.specs.Sums.{bit}
use Rattle.flow_def.proofs.ByLabels.{class_past}
use Rattle.flow_def.proofs.BySides.{in_unmetered}
use Rattle.num_bytes.proofs.Lists.{map_at, values_long, values_at, Written}
use Rattle.solve_def.specs.Held.{unshifted}
use Rattle.sheet_def.specs.declared.Entry.{Entry}
use Rattle.sheet_def.specs.Balances.{entry_of}
use Rattle.sheet_def.specs.Calls.{entries_of, no_entry}

-- What is written after the first n streams of a plant, n being how many there are, are all its entries.
module _ (p : Plant) (n : ℕ) (xs : List ℕ) (now : List Entry) (l : length p.streams ≡ n) (few : n ≤ max_streams) (long : length xs ≡ max_streams)
    (w : Written no_entry max_streams (λ k e. entry_of (class_of p k) (unshifted (get_or xs k 0))) (replicate max_streams (entry_of Withheld (pos 0))) now n) where
  entry_at : (k : ℕ) → k < max_streams → get_or now k no_entry ≡ entry_of (class_of p k) (amount_at (map unshifted xs) k)
  entry_at k h = by_cases (ltb k n)
      (λ t. w.done k (ltb-true k n t) ∙ ap (entry_of (class_of p k)) (sym (map_at unshifted xs k (pos 0) 0 (omega arith))))
      (λ t. w.rest k (ltb-false k n t) ∙ get_or-replicate max_streams k (entry_of Withheld (pos 0)) no_entry h
      ∙ ap (λ (c : Class). entry_of c (amount_at (map unshifted xs) k)) (sym (class_past p k (omega (arith, ltb-false k n t)))))

  -- The array so written holds the entries by the plant's classes and the amounts.
  pub entries_all : now ≡ entries_of (classes_of p) (map unshifted xs)
  unfolding entries_of
  entries_all =
      ext_get_or no_entry now (entries_of (classes_of p) (map unshifted xs)) (w.long ∙ sym (values_long f max_streams))
      (λ k h. let m : k < max_streams = rw w.long at h in
      entry_at k m
      ∙ ap (λ (c : Class). entry_of c (amount_at (map unshifted xs) k)) (sym (values_at (class_of p) Adjusted max_streams k m))
      ∙ sym (values_at f no_entry max_streams k m))
    where
      f : ℕ → Entry
      f k = entry_of (get_or (classes_of p) k Adjusted) (amount_at (map unshifted xs) k)

-- A stream of weight 0 adds nothing, whatever its class.
nothing : (c : Class) → adjusted_weight c no_stream ≡ 0
nothing Adjusted = refl
nothing AsRead = refl
nothing Given = refl
nothing Withheld = refl

-- The weight of an adjusted stream by its row, where an unmetered one has the weight 0.
module _ (ls : List ℕ) (s : Stream) (h looped : ℕ) where
  unmetered_none : s.metered ≡ false → adjusted_weight (class_in ls s h looped) s ≡ 0
  unmetered_none m = ap (λ (c : Class). adjusted_weight c s) (sym (in_unmetered ls s h looped m (bit h looped) refl)) ∙ go (bit h looped)
    where
      go : (b : Bool) → adjusted_weight (pick b Withheld Given) s ≡ 0
      go true = refl
      go false = refl

  -- What a class and a row's weight give of any stream with that weight, they give of the stream itself.
  pub weight_by : (c : Class) (w k : ℕ) → c ≡ class_in ls s h looped → w ≡ weight_of s → ((t : Stream) → t.weight ≡ w → k ≡ adjusted_weight c t) → k ≡ adjusted_weight c s
  weight_by c w k e q f = by_cases s.metered
      (λ m. f s (rw (q, m) refl))
      (λ m. f no_stream (rw (q, m) refl) ∙ nothing c ∙ sym (ap (λ (c : Class). adjusted_weight c s) e ∙ unmetered_none m))
