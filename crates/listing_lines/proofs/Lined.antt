-- Lines put one behind the other.
use mathlib.Core.Path.{refl}
use mathlib.Core.List.{List}
use Prim.Native.Nat.{ℕ, ◌+◌, ◌<◌, ◌≤◌}
use native.Mathlib.Omega.{arith}
use lib.ListN.{length, get_or, take}
use mir.Syntax.{w64}
use mir.Val.{SFits}
use Rattle.plant_def.specs.Limits.{max_streams}
use Rattle.sheet_def.specs.declared.Entry.{Entry}
use Rattle.num_text.specs.Adding.{Added}
use Rattle.num_text.proofs.Lines as Ls
use Rattle.listing_lines.specs.Listing.{line_of, lines_from}
use Rattle.listing_lines.specs.Room.{line_size}
use Rattle.listing_lines.proofs.Sizes.{line_most}

-- The lines of the first so many streams.
abbrev pub first_lines : List Entry → ℕ → List ℕ
first_lines es j = lines_from 1 (take j es)

module _ {es : List Entry} {o o₁ : List ℕ} {at i : ℕ} (few : length es ≤ max_streams) (w : Ls.Lines (first_lines es) line_size (length es) o o₁ at i)
    (h : i < length es) (d : Entry) (f : SFits w64 (get_or es i d).flow) where
  small : length (line_of (i + 1) (get_or es i d)) ≤ line_size
  small = line_most (i + 1) (get_or es i d).class (get_or es i d).flow (omega arith) f

  -- There is room for one more line.
  pub line_room : at + length (line_of (i + 1) (get_or es i d)) ≤ length o₁
  line_room = Ls.line_room w (line_of (i + 1) (get_or es i d)) h small

  -- One more line.
  pub one_line : {o₂ : List ℕ} {a : ℕ} → Added (line_of (i + 1) (get_or es i d)) at o₁ o₂ a → Ls.Lines (first_lines es) line_size (length es) o o₂ a (i + 1)
  one_line p = Ls.one_line w (line_of (i + 1) (get_or es i d)) h small (Ls.lines_more line_of lines_from (λ n. refl) (λ n x xs. refl) 1 es i d h) p
