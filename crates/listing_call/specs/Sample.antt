-- The plant of the definition's listing, and its listing, character for character.
use Rattle.std.specs.Prelude.{◌≡◌, List, ◌++◌, ℤ, ℕ, length}
use Rattle.plant_def.specs.Plants.{Plant}
use Rattle.plant_def.specs.Files.{got, read_plant}
use Rattle.flow_def.specs.Flows.{Cheapest}
use Rattle.sheet_def.specs.Balances.{balance_of}
use Rattle.sheet_def.specs.Table.{site, meter, pipe, end}
use Rattle.num_text.specs.Numerals.{text}
use Rattle.listing_lines.specs.Listing.{listing_of}

-- 2 units; 0 to 1 at weight 10, reading 100; 1 to 2, twice; 2 to 0 at weight 10, reading 98.
abbrev pub sample_file : List ℕ
sample_file = site 2 ++ meter 0 1 10 100 ++ pipe 1 2 ++ pipe 1 2 ++ meter 2 0 10 98 ++ end 4

-- It reads as a plant that has a cheapest flow, and its listing is that of the definition.
abbrev pub Sample : Type 0
Sample =
    (p : Plant)
    × (xs : List ℤ)
    × (read_plant sample_file ≡ got p)
    × Cheapest p xs
    × (listing_of (length p.streams) 1 (balance_of p xs) ≡ text "1 A 99\n2 W -\n3 W -\n4 A 99\ntotal 1 20 1 pass\n")
