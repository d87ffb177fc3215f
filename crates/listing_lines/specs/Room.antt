-- How much room a listing and the text of a refusal may take.
use Rattle.std.specs.Prelude.{◌≡◌, List, ℕ, ◌+◌, ◌*◌, ◌≤◌, length, take}
use Rattle.plant_def.specs.Limits.{max_streams}

-- The longest line of a stream: a number of 2 digits, a flow of 20 characters.
abbrev pub line_size : ℕ
line_size = 26

-- The longest line of the total: 10, 20 and 3 digits, 5 letters.
abbrev pub total_size : ℕ
total_size = 48

-- The least slice that is taken: as many lines as there may be, 26 characters each, and the total's, 48. 2,544 characters.
abbrev pub least_text : ℕ
least_text = max_streams * 26 + 48

-- The longest text of a refusal, whose number has up to 3 digits.
abbrev pub refusal_size : ℕ
refusal_size = 12

-- A slice has so many characters at its front, for a caller to take.
abbrev pub Counts : ℕ → List ℕ → Type 0
Counts r o = (r ≤ length o) × (r ≡ length (take r o))

-- What a call that puts text in a slice leaves no choice of: text and length follow from the file and the slice.
abbrev pub OneText : (List ℕ → List ℕ → List ℕ → ℕ → Type 0) → Type 0
OneText Says = (file o o₁ o₂ : List ℕ) (r₁ r₂ : ℕ) → Says file o o₁ r₁ → Says file o o₂ r₂ → (r₁ ≡ r₂) × (o₁ ≡ o₂)
