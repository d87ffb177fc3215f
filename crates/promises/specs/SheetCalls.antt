-- The exported sheet call, by what it leaves behind. `SheetLent file office ls o ls' o' written bits number` is what it ensures.
use Rattle.std.specs.Prelude.{◌≡◌, List, ℕ, ◌≤◌, ◌<◌, length, take, drop}
use Rattle.num_lent.specs.Marks.{marks_in}
use Rattle.sheet_def.specs.Counters.{offices, top_sheet, counter_of}
use Rattle.sheet_def.specs.Sentences.{Answers}
use Rattle.wengeludo.specs.Calls.{SheetLent}

-- What is promised of it.
pub record SheetCalls : Type 0 where
  -- Fewer than eight last numbers: 1, nothing written, no bit set, the numbers and the slice as they were.
  pub few : (file : List ℕ) (office : ℕ) (ls o ls' o' : List ℕ) (written bits number : ℕ) → length ls < offices
      → SheetLent file office ls o ls' o' written bits number → (number ≡ 1) × (written ≡ 0) × (bits ≡ 0) × (ls' ≡ ls) × (o' ≡ o)
  -- Else, the calling office's number being of 32 bits: the first eight are the offices', of which all sentences hold; the others are as
  -- they were.
  pub eight : (file : List ℕ) (office : ℕ) (ls o ls' o' : List ℕ) (written bits number : ℕ) → offices ≤ length ls
      → counter_of office (take offices ls) ≤ top_sheet → SheetLent file office ls o ls' o' written bits number
      → Answers file office (take offices ls) o o' (record { number = number; written = written; lasts = take offices ls'; marked = marks_in bits })
      × (drop offices ls' ≡ drop offices ls)
  -- No choice is left but that of the set that a 19 marks.
  pub no_choice : (file : List ℕ) (office : ℕ) (ls o ls₁ ls₂ o₁ o₂ : List ℕ) (written₁ written₂ bits₁ bits₂ number₁ number₂ : ℕ)
      → SheetLent file office ls o ls₁ o₁ written₁ bits₁ number₁ → SheetLent file office ls o ls₂ o₂ written₂ bits₂ number₂
      → (number₁ ≡ number₂) × (written₁ ≡ written₂) × (ls₁ ≡ ls₂) × (o₁ ≡ o₂) × ((number₁ ≡ 19 → ⊥) → bits₁ ≡ bits₂)
