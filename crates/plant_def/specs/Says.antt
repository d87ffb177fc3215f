-- What the plant reader and the plant writer promise. Each result is one definition's value.
use Rattle.std.specs.Prelude.{◌≡◌, Bool, true, ◌&&◌, ◌||◌, List, [], ℕ, ◌≤◌, eqb, ltb, leb, length, take}
use Rattle.num_bytes.specs.Choice.{pick, refuse_if, first_of}
use Rattle.num_bytes.specs.Bytes.{over}
use Rattle.num_bytes.specs.Arrays.{filled}
use Rattle.plant_def.specs.declared.Stream.{Stream}
use Rattle.plant_def.specs.declared.Plant as Arrays
use Rattle.plant_def.specs.Results.{Read, Done}
use Rattle.plant_def.specs.Limits.{max_streams, longest_file}
use Rattle.plant_def.specs.Plants.{Plant, no_stream, parts_fault}
use Rattle.plant_def.specs.Files.{Got, bad, got, read_plant, plant_bytes}

-- The first n of a list, with empty records where it is shorter: always n long.
abbrev pub padded : ℕ → List Stream → List Stream
padded = filled no_stream

-- A plant as the code holds it: its streams in an array, empty records after them.
abbrev pub arrayed : Plant → Arrays.Plant
arrayed p = record { units = p.units; count = length p.streams; streams = padded max_streams p.streams }

-- So many units, and the first c records of an array.
abbrev pub listing : ℕ → ℕ → List Stream → Plant
listing n c ss = record { units = n; streams = take c ss }

-- The plant that the code holds.
abbrev pub plant_of : Arrays.Plant → Plant
plant_of p = listing p.units p.count p.streams

-- The plant reader hands over a refusal's number with n 0 and no streams, or 0 and the plant.
abbrev pub read_of : Got → Read
read_of (bad f) = record { number = f; plant = arrayed (record { units = 0; streams = [] }) }
read_of (got p) = record { number = 0; plant = arrayed p }

-- What the plant reader ensures.
abbrev pub ReadSays : List ℕ → Read → Type 0
ReadSays file r = r ≡ read_of (read_plant file)

-- The plant writer: a slice too short for the longest file 1, then the parts' faults. (A count over its limit is refused
-- before the array is read that far.)
abbrev pub write_fault : Arrays.Plant → List ℕ → ℕ
write_fault p o = first_of (refuse_if (ltb (length o) longest_file) 1) (parts_fault p.units p.count (plant_of p).streams)

-- A refusal f: nothing is written and the slice o is as it was. None: the bytes b, and those past them as they were.
abbrev pub Written : ℕ → List ℕ → List ℕ → List ℕ → Done → Type 0
Written f b o o' r = (r ≡ record { number = f; written = pick (eqb f 0) (length b) 0 }) × (o' ≡ pick (eqb f 0) (over b o) o)

-- The plant writer, of a plant's parts, c being the number of streams announced: a slice too short for the longest file 1, then the
-- parts' faults.
abbrev pub PartsWritten : ℕ → ℕ → List Stream → List ℕ → List ℕ → Done → Type 0
PartsWritten n c ss o =
    Written (first_of (refuse_if (ltb (length o) longest_file) 1) (parts_fault n c ss)) (plant_bytes (record { units = n; streams = ss })) o

-- What the plant writer ensures.
abbrev pub WriteSays : Arrays.Plant → List ℕ → List ℕ → Done → Type 0
WriteSays p o = Written (write_fault p o) (plant_bytes (plant_of p)) o

-- A file that is read is no longer than the longest: whoever reads one byte more than that misses nothing.
abbrev pub LongestFile : Type 0
LongestFile = (file : List ℕ) (p : Plant) → read_plant file ≡ got p → length file ≤ longest_file

-- The numbers with which a file is refused: 3 to 12, and 18.
abbrev pub file_number : ℕ → Bool
file_number f = (leb 3 f && leb f 12) || eqb f 18

-- No file is refused with any other number.
abbrev pub FileRefusals : Type 0
FileRefusals = (file : List ℕ) (f : ℕ) → read_plant file ≡ bad f → file_number f ≡ true
