-- Lines put one behind the other.
use mathlib.Core.Path.{◌≡◌, sym, ap, ◌∙◌}
use mathlib.Core.List.{List, [], ◌∷◌, ◌++◌, append-nil, append_assoc}
use Prim.Native.Nat.{ℕ, zero, suc, ◌+◌, ◌^◌, ◌<◌, ◌≤◌}
use native.Mathlib.Omega.{arith}
use native.Mathlib.Numerals.{add-one}
use lib.ListN.{length, get_or, take}
use Rattle.num_text.specs.Numerals.{pair_line}
use Rattle.num_text.specs.Adding.{Added}
use Rattle.num_text.proofs.Decimals.{decimal_most, field_size}
use Rattle.num_text.proofs.Lines as Ls
use Rattle.visit_text.specs.Text.{lines_for}
use Rattle.visit_text.specs.Says.{line_size}

line_most : (n c : ℕ) → n < 10 ^ 3 → c < 10 ^ 20 → length (pair_line n c) ≤ line_size
line_most n c h l = omega (arith, Ls.pair_size n c, field_size n, decimal_most 2 n h, decimal_most 19 c l)

-- One line more.
lines_more : (ns cs : List ℕ) (i : ℕ) → i < length ns → i < length cs
    → lines_for (take (suc i) ns) (take (suc i) cs) ≡ lines_for (take i ns) (take i cs) ++ pair_line (get_or ns i 0) (get_or cs i 0)
lines_more [] cs i h l = absurd (omega arith)
lines_more (n ∷ ns) [] i h l = absurd (omega arith)
lines_more (n ∷ ns) (c ∷ cs) zero h l = append-nil (pair_line n c)
lines_more (n ∷ ns) (c ∷ cs) (suc i) h l =
    ap (λ (x : List ℕ). pair_line n c ++ x) (lines_more ns cs i (omega arith) (omega arith))
    ∙ sym (append_assoc (pair_line n c) (lines_for (take i ns) (take i cs)) (pair_line (get_or ns i 0) (get_or cs i 0)))

-- The lines of the first so many streams.
abbrev pub first_lines : List ℕ → List ℕ → ℕ → List ℕ
first_lines ns cs j = lines_for (take j ns) (take j cs)

module _ {ns cs o o₁ : List ℕ} {at i : ℕ} (same : length cs ≡ length ns) (w : Ls.Lines (first_lines ns cs) line_size (length ns) o o₁ at i)
    (h : i < length ns) (s : get_or ns i 0 < 2 ^ 8) (t : get_or cs i 0 < 2 ^ 64) where
  small : length (pair_line (get_or ns i 0) (get_or cs i 0)) ≤ line_size
  small = line_most (get_or ns i 0) (get_or cs i 0) (omega arith) (omega arith)

  -- There is room for the next line.
  pub line_room : at + length (pair_line (get_or ns i 0) (get_or cs i 0)) ≤ length o₁
  line_room = Ls.line_room w (pair_line (get_or ns i 0) (get_or cs i 0)) h small

  -- One line more.
  pub one_line : {o₂ : List ℕ} {a : ℕ} → Added (pair_line (get_or ns i 0) (get_or cs i 0)) at o₁ o₂ a → Ls.Lines (first_lines ns cs) line_size (length ns) o o₂ a (i + 1)
  one_line p =
      let e = ap (first_lines ns cs) (add-one i) ∙ lines_more ns cs i h (omega arith) in
      Ls.one_line w (pair_line (get_or ns i 0) (get_or cs i 0)) h small e p
