-- Lines put one behind the other.
use mathlib.Core.Path.{◌≡◌, refl, ap, ◌∙◌}
use mathlib.Core.List.{List, ◌++◌}
use Prim.Native.Nat.{ℕ, ◌+◌, ◌^◌, ◌<◌, ◌≤◌}
use native.Mathlib.Omega.{arith}
use lib.ListN.{length, get_or, take}
use Rattle.num_text.specs.Numerals.{pair_line}
use Rattle.num_text.specs.Adding.{Added}
use Rattle.num_text.proofs.Decimals.{decimal_most, field_size}
use Rattle.num_text.proofs.Lines as Ls
use Rattle.survey_def.specs.Says.{survey_size}
use Rattle.survey_answers.specs.Text.{lines_from}
use Rattle.survey_answers.specs.Says.{line_size}

-- A line of a size of 2 digits and a count of 5.
line_most : (k c : ℕ) → k < 10 ^ 2 → c < 10 ^ 5 → length (pair_line k c) ≤ line_size
line_most k c h l = omega (arith, Ls.pair_size k c, field_size k, decimal_most 1 k h, decimal_most 4 c l)

-- One line more.
next_line : (cs : List ℕ) (k : ℕ) → k < length cs → lines_from 0 (take (k + 1) cs) ≡ lines_from 0 (take k cs) ++ pair_line k (get_or cs k 0)
next_line cs k h =
    let z : k + 0 ≡ k = omega arith in
    Ls.lines_more pair_line lines_from (λ n. refl) (λ n x xs. refl) 0 cs k 0 h ∙ ap (λ (j : ℕ). lines_from 0 (take k cs) ++ pair_line j (get_or cs k 0)) z

-- The lines of the first so many counts.
abbrev pub first_lines : List ℕ → ℕ → List ℕ
first_lines cs j = lines_from 0 (take j cs)

module _ {cs o o₁ : List ℕ} {at i : ℕ} (few : length cs ≤ survey_size) (w : Ls.Lines (first_lines cs) line_size (length cs) o o₁ at i)
    (h : i < length cs) (s : get_or cs i 0 < 2 ^ 16) where
  small : length (pair_line i (get_or cs i 0)) ≤ line_size
  small = line_most i (get_or cs i 0) (omega arith) (omega arith)

  -- There is room for the next line.
  pub line_room : at + length (pair_line i (get_or cs i 0)) ≤ length o₁
  line_room = Ls.line_room w (pair_line i (get_or cs i 0)) h small

  -- One line more.
  pub one_line : {o₂ : List ℕ} {a : ℕ} → Added (pair_line i (get_or cs i 0)) at o₁ o₂ a → Ls.Lines (first_lines cs) line_size (length cs) o o₂ a (i + 1)
  one_line p = Ls.one_line w (pair_line i (get_or cs i 0)) h small (next_line cs i h) p
