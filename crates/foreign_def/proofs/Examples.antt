-- Sheets of three plants, checked: the listing's, both sheets of a tie, and a flow at the end of its range.
use mathlib.Core.Path.{◌≡◌, refl}
use mathlib.Core.List.{List, [], ◌∷◌, ◌++◌}
use lib.IntN.{ℤ, pos, negsuc}
use Prim.Native.Nat.{ℕ}
use Rattle.plant_def.specs.Files.{read_plant}
use Rattle.flow_def.specs.Labels.{labels_after}
use Rattle.sheet_def.specs.Kept.{read_sheet}
use Rattle.sheet_def.specs.Table.{site, meter, within, pipe, end, shown, total}
use Rattle.foreign_def.specs.Test.{nets_fit, passes, check_with}

abbrev check : List ℕ → List ℕ → List ℤ → ℕ
check file sheet numbers = check_with (read_plant file) (read_sheet sheet) numbers

-- The listing's plant: 99, two blanks, 99, cost 20.
abbrev listing : List ℕ
listing = site 2 ++ meter 0 1 10 100 ++ pipe 1 2 ++ pipe 1 2 ++ meter 2 0 10 98 ++ end 4

abbrev listed : List ℕ
listed = shown 17 99 ++ (20 ∷ 20 ∷ []) ++ shown 17 99 ++ total 0 20 1 0

listed_passes : check listing listed (pos 0 ∷ negsuc 29 ∷ negsuc 29 ∷ []) ≡ 0
unfolding passes nets_fit labels_after
listed_passes = refl

-- Sheet number, office and the kind of the total are free: drawn by office 7 under number 9, and before there were offices.
other_office : check listing (shown 17 99 ++ (20 ∷ 20 ∷ []) ++ shown 17 99 ++ (30 ∷ 7 ∷ 0 ∷ 0 ∷ 0 ∷ 9 ∷ 0 ∷ 0 ∷ 0 ∷ 0 ∷ 0 ∷ 0 ∷ 0 ∷ 20 ∷ 1 ∷ 0 ∷ [])) (pos 0 ∷ negsuc 29 ∷ negsuc 29 ∷ []) ≡ 0
unfolding passes nets_fit labels_after
other_office = refl

no_office : check listing (shown 17 99 ++ (20 ∷ 20 ∷ []) ++ shown 17 99 ++ (31 ∷ 0 ∷ 0 ∷ 0 ∷ 1 ∷ 0 ∷ 0 ∷ 0 ∷ 0 ∷ 0 ∷ 0 ∷ 0 ∷ 20 ∷ 1 ∷ 0 ∷ [])) (pos 0 ∷ negsuc 29 ∷ negsuc 29 ∷ []) ≡ 0
unfolding passes nets_fit labels_after
no_office = refl

-- Not with a number more or less, nor with numbers that differ along a blank, nor with 100 out.
one_more : check listing listed (pos 0 ∷ negsuc 29 ∷ negsuc 29 ∷ pos 0 ∷ []) ≡ 26
unfolding passes nets_fit labels_after
one_more = refl

one_less : check listing listed (pos 0 ∷ negsuc 29 ∷ []) ≡ 26
unfolding passes nets_fit labels_after
one_less = refl

unequal : check listing listed (pos 0 ∷ negsuc 29 ∷ negsuc 28 ∷ []) ≡ 26
unfolding passes nets_fit labels_after
unequal = refl

unbalanced : check listing (shown 17 99 ++ (20 ∷ 20 ∷ []) ++ shown 17 98 ++ total 0 10 1 0) (pos 0 ∷ negsuc 19 ∷ negsuc 19 ∷ []) ≡ 26
unfolding passes nets_fit labels_after
unbalanced = refl

-- The plant reader's refusal, then the sheet reader's, come first.
no_plant : check (site 2) [] [] ≡ 3
no_plant = refl

no_sheet_lem : check listing [] [] ≡ 13
no_sheet_lem = refl

-- In 100, out 103: 101 and 102 cost the same, and pass with the same numbers. 100 costs more.
abbrev tie : List ℕ
tie = site 1 ++ meter 0 1 10 100 ++ meter 1 0 10 103 ++ end 2

ours_passes : check tie (shown 17 101 ++ shown 17 101 ++ total 0 50 1 0) (pos 0 ∷ pos 30 ∷ []) ≡ 0
unfolding passes nets_fit labels_after
ours_passes = refl

other_passes : check tie (shown 17 102 ++ shown 17 102 ++ total 0 50 1 0) (pos 0 ∷ pos 30 ∷ []) ≡ 0
unfolding passes nets_fit labels_after
other_passes = refl

dearer_fails : check tie (shown 17 100 ++ shown 17 100 ++ total 0 90 1 0) (pos 0 ∷ pos 10 ∷ []) ≡ 26
unfolding passes nets_fit labels_after
dearer_fails = refl

-- In 103 within 0 to 100, out 60 and 40: at high, the difference may exceed the top, −50. Without the range it may not.
high_passes : check (site 1 ++ within 0 1 10 103 0 100 ++ meter 1 0 10 60 ++ meter 1 0 10 40 ++ end 3) (shown 17 100 ++ shown 17 60 ++ shown 17 40 ++ total 0 90 1 0) (pos 0 ∷ pos 0 ∷ []) ≡ 0
unfolding passes nets_fit labels_after
high_passes = refl

unranged_fails : check (site 1 ++ meter 0 1 10 103 ++ meter 1 0 10 60 ++ meter 1 0 10 40 ++ end 3) (shown 17 100 ++ shown 17 60 ++ shown 17 40 ++ total 0 90 1 0) (pos 0 ∷ pos 0 ∷ []) ≡ 26
unfolding passes nets_fit labels_after
unranged_fails = refl

-- The same pipe turned round, low and high exchanged: at low it may fall short of the bottom, and not exceed the top.
low_passes : check (site 1 ++ within 0 1 10 97 100 200 ++ meter 1 0 10 60 ++ meter 1 0 10 40 ++ end 3) (shown 17 100 ++ shown 17 60 ++ shown 17 40 ++ total 0 90 1 0) (pos 0 ∷ pos 0 ∷ []) ≡ 0
unfolding passes nets_fit labels_after
low_passes = refl

low_fails : check (site 1 ++ within 0 1 10 103 100 200 ++ meter 1 0 10 60 ++ meter 1 0 10 40 ++ end 3) (shown 17 100 ++ shown 17 60 ++ shown 17 40 ++ total 0 90 1 0) (pos 0 ∷ pos 0 ∷ []) ≡ 26
unfolding passes nets_fit labels_after
low_fails = refl

-- Two flows of −2^63, which sum to 0 where sums wrap at 2^64, as weight × (2d ± 1) would be ±16.
wrapped_fails : check (site 1 ++ meter 0 1 16 0 ++ meter 0 1 16 0 ++ end 2) (17 ∷ 128 ∷ 0 ∷ 0 ∷ 0 ∷ 0 ∷ 0 ∷ 0 ∷ 0 ∷ 17 ∷ 128 ∷ 0 ∷ 0 ∷ 0 ∷ 0 ∷ 0 ∷ 0 ∷ 0 ∷ total 0 0 1 0) (pos 0 ∷ pos 0 ∷ []) ≡ 26
unfolding passes nets_fit labels_after
wrapped_fails = refl
