-- A count that a byte does not hold is refused as the least one over the limit is.
use mathlib.Core.Path.{◌≡◌, subst}
use mathlib.Core.List.{List}
use Prim.Native.Nat.{ℕ, suc, ◌<◌}
use native.Mathlib.Omega.{arith}
use lib.Dec.{ltb}
use lib.ListN.{length, take}
use borrow.Author.Tests.{lt-ltb, ltb-true, ltb-false, ne_eqb}
use Rattle.num_bytes.specs.Choice.{refuse_if, first_of}
use Rattle.num_bytes.proofs.Tests.{by_cases, first_none_right}
use Rattle.plant_def.specs.declared.Stream.{Stream}
use Rattle.plant_def.specs.Results.{Done}
use Rattle.plant_def.specs.Limits.{max_streams, longest_file}
use Rattle.plant_def.specs.Plants.{units_fault, parts_fault}
use Rattle.plant_def.specs.Says.{padded, PartsWritten, WriteSays}
use Rattle.num_bytes.specs.Inner.{values}
use Rattle.plant_parts.specs.Parts.{Slices, parts_at, handed, HandedWritten, reach, listed_to}
use Rattle.plant_parts.specs.Inner.{held_count}
use Rattle.plant_parts.proofs.Gather.{handed_all}

module _ (n : ℕ) (o o' : List ℕ) (r : Done) where
  -- The refusal of a count over its limit, whatever the streams are.
  abbrev over_fault : ℕ
  over_fault = first_of (refuse_if (ltb (length o) longest_file) 1) (first_of (units_fault n) 5)

  over_refused : over_fault ≡ 0 → ⊥
  over_refused e =
      let five : ◌≡◌ {A = ℕ} 5 0 = first_none_right (units_fault n) 5 (first_none_right (refuse_if (ltb (length o) longest_file) 1) (first_of (units_fault n) 5) e) in
      omega arith

  fault_over : (c : ℕ) (ss : List Stream) → max_streams < c → first_of (refuse_if (ltb (length o) longest_file) 1) (parts_fault n c ss) ≡ over_fault
  fault_over c ss h = simp (lt-ltb max_streams c h)

  over_says : (c : ℕ) (ss : List Stream) → max_streams < c → PartsWritten n c ss o o' r → (r ≡ record { number = over_fault; written = 0 }) × (o' ≡ o)
  over_says c ss h w = simp (fault_over c ss h, ne_eqb over_fault 0 over_refused) at w

  says_over : (c : ℕ) (ss : List Stream) → max_streams < c → (r ≡ record { number = over_fault; written = 0 }) × (o' ≡ o) → PartsWritten n c ss o o' r
  says_over c ss h w = simp (fault_over c ss h, ne_eqb over_fault 0 over_refused) w

  -- The streams of the array, up to the count that a byte holds, are as good as those handed over, up to the count announced.
  pub any_count : (p : Slices) (c : ℕ) → WriteSays (record { units = n; count = held_count c; streams = padded max_streams (listed_to (parts_at p) (reach p)) }) o o' r
      → HandedWritten n c p o o' r
  any_count p c =
      let ss = padded max_streams (listed_to (parts_at p) (reach p)) in
      by_cases (ltb c (suc max_streams))
      (λ t w. let e : held_count c ≡ c = rw t in
      let l = ltb-true c (suc max_streams) t in
      subst (λ (xs : List Stream). PartsWritten n c xs o o' r) (handed_all p c (omega arith)) (subst (λ (k : ℕ). PartsWritten n k (take k ss) o o' r) e w))
      (λ f w. let e : held_count c ≡ suc max_streams = rw f in
      says_over c (values c (handed p)) (ltb-false c (suc max_streams) f)
      (over_says (suc max_streams) (take (suc max_streams) ss) (omega arith) (subst (λ (k : ℕ). PartsWritten n k (take k ss) o o' r) e w)))
