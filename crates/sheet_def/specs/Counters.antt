-- The counters: each office's last sheet number.
use Rattle.std.specs.Prelude.{List, ◌∷◌, ℕ, suc, get_or, set, replicate}

-- The offices, 0 to 7.
abbrev pub offices : ℕ
offices = 8

-- The last sheet number that there is.
abbrev pub top_sheet : ℕ
top_sheet = 4294967295

-- An office's last sheet number.
abbrev pub counter_of : ℕ → List ℕ → ℕ
counter_of office lasts = get_or lasts office 0

-- The number of its next sheet.
abbrev pub next_of : ℕ → List ℕ → ℕ
next_of office lasts = suc (counter_of office lasts)

-- The counters when that sheet is drawn.
abbrev pub raised : ℕ → List ℕ → List ℕ
raised office lasts = set lasts office (next_of office lasts)

-- The one counter of the time before there were offices passes to office 0; the others begin at 0.
abbrev pub offices_from : ℕ → List ℕ
offices_from last = last ∷ replicate 7 0
