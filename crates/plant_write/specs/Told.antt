-- What is handed over by a number that need be no refusal's, as the definitions speak of it.
use Rattle.plant_def.specs.Results.{Read, Done}
use Rattle.plant_write.specs.declared.numbered.Read as Numbered
use Rattle.plant_write.specs.declared.numbered.Done as Written

-- A number and a plant.
abbrev pub read_told : Numbered.Read → Read
read_told r = record { number = r.number; plant = r.plant }

-- A number and a count of bytes.
abbrev pub done_told : Written.Done → Done
done_told d = record { number = d.number; written = d.written }
