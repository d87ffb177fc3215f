-- Each store keeps the bound.
use Rattle.std.proofs.Common.{◌≡◌, length}
use Rattle.plant_def.specs.Limits.{places}
use Rattle.solve_def.specs.SearchNeeds.{Potentials}
use Rattle.case_calls.proofs.compressed.potentials_of.Given as goal

abbrev pub invariant-loop-u : goal.invariant-loop-u
invariant-loop-u l = (length l.potentials ≡ places) × Potentials l.potentials
