-- What the results of the sheet reader say: a result of Rust's library, seen as what the definitions speak of.
use Rattle.std.specs.Prelude.{Result, Ok, Err}
use Rattle.plant_def.specs.declared.refusal.Refusal.{Refusal}
use Rattle.plant_def.specs.Refused.{refusal_number}
use Rattle.sheet_def.specs.declared.SheetRead as Arrays
use Rattle.sheet_def.specs.declared.SheetRecord as Records
use Rattle.sheet_def.specs.declared.SheetRecord.TheVariants as Found
use Rattle.sheet_def.specs.Kept.{SheetRecord, Listed, Ended, Refused, SheetRead, no_sheet, read_of}

-- What stands where a record is due: a stream's entry with its record's size, the total, or a refusal.
abbrev pub sheet_record_as : Result Records.SheetRecord Refusal → SheetRecord
sheet_record_as (Ok (Found.Listed e m)) = Listed e m
sheet_record_as (Ok (Found.Ended t)) = Ended t
sheet_record_as (Err e) = Refused (refusal_number e)

-- What the sheet reader hands over: a sheet, or a refusal's number with no streams and zeros.
abbrev pub sheet_as : Result Arrays.SheetRead Refusal → SheetRead
sheet_as (Ok r) = record { number = 0; count = r.count; streams = r.streams; total = r.total }
sheet_as (Err e) = read_of (no_sheet (refusal_number e))
