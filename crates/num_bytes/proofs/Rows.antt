-- Records laid down one after the other, each in the part that starts at the next free byte.
use mathlib.Core.Path.{◌≡◌, sym, ap, ◌∙◌}
use mathlib.Core.List.{List, [], ◌++◌}
use Prim.Native.Nat.{ℕ, ◌+◌, ◌*◌, ◌<◌, ◌≤◌}
use native.Mathlib.Omega.{arith}
use native.Mathlib.Nat.{mul-le-mul_left}
use lib.ListN.{length}
use Rattle.num_bytes.specs.Bytes.{over}
use Rattle.num_bytes.specs.Inner.{Put}
use Rattle.num_bytes.proofs.Parts.{Laid, lay, room, may_lend, same_length, part_from, returned}

-- f i: the bytes of the first i records. Of k records, none longer than `most`, i are laid over the front of o, which is o₁ now;
-- the next free byte is `at`.
pub record Rows (f : ℕ → List ℕ) (most k : ℕ) (o o₁ : List ℕ) (at i : ℕ) : Type 0 where
  pub within : i ≤ k
  pub wide : most * k ≤ length o
  pub so_far : Laid (f i) o o₁ at
  pub bound : at ≤ most * i

-- Before the first record.
pub no_rows : (f : ℕ → List ℕ) (most k : ℕ) (o : List ℕ) → f 0 ≡ [] → most * k ≤ length o → Rows f most k o o 0 0
no_rows f most k o e h =
    record {
      within = omega arith;
      wide = h;
      so_far = record { bytes = ap (λ (l : List ℕ). over l o) (sym e); size = ap length e; fits = omega arith };
      bound = omega arith;
    }

module _ {f : ℕ → List ℕ} {most k : ℕ} {o o₁ : List ℕ} {at i : ℕ} (w : Rows f most k o o₁ at i) where
  -- The slice is as long as it was.
  pub rows_long : length o₁ ≡ length o
  rows_long = same_length w.so_far

  -- The part at the next free byte may be lent.
  pub rows_lend : at ≤ length o₁
  rows_lend = may_lend w.so_far

  enough : i < k → at + most ≤ length o
  enough h = let b = w.bound in let q = w.wide in omega (arith, mul-le-mul_left most h)

  -- There is room in it for one more record.
  pub rows_room : i < k → most ≤ length (part_from at o₁)
  rows_room h = room w.so_far most (enough h)

  -- One record more.
  pub one_row : (b : List ℕ) {last : List ℕ} {m : ℕ} → i < k → f (i + 1) ≡ f i ++ b → length b ≤ most → Put b (part_from at o₁) last m
      → Rows f most k o (returned at o₁ last) (at + m) (i + 1)
  one_row b {last} {m} h e small p =
      let q = enough h in
      let s = p.size in
      let t = w.bound in
      let l : Laid (f i ++ b) o (returned at o₁ last) (at + length b) = lay w.so_far b (omega arith) p.bytes in
      record {
        within = omega arith;
        wide = w.wide;
        so_far = record {
          bytes = l.bytes ∙ ap (λ (x : List ℕ). over x o) (sym e);
          size = ap length e ∙ l.size ∙ ap (λ (j : ℕ). at + j) (sym s);
          fits = omega arith;
        };
        bound = omega arith;
      }

  -- Behind the last record.
  pub all_rows : k ≤ i → Put (f k) o o₁ at
  all_rows h =
      let a = w.within in
      let e : i ≡ k = omega arith in
      record {
        bytes = w.so_far.bytes ∙ ap (λ (j : ℕ). over (f j) o) e;
        size = sym w.so_far.size ∙ ap (λ (j : ℕ). length (f j)) e;
      }
