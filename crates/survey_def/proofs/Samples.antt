-- The survey of the definition's sample_plant and of one without streams, by computing.
use mathlib.Core.Path.{◌≡◌, refl, sym, ◌∙◌, ap}
use mathlib.Core.List.{List, []}
use Prim.Native.Nat.{ℕ, ◌^◌, ◌≤◌, ◌<◌}
use native.Mathlib.Omega.{arith}
use lib.ListN.{length, get_or}
use Rattle.num_bytes.specs.Inner.{values}
use Rattle.plant_def.specs.Plants.{Plant}
use Rattle.plant_def.specs.Files.{got, read_plant}
use Rattle.plant_def.proofs.Limited.{within}
use Rattle.plant_def.proofs.Accepted.{accepted}
use Rattle.plant_def.proofs.Sample.{sample_plant}
use Rattle.flow_def.specs.Labels.{labels_after}
use Rattle.num_bytes.proofs.Lists.{values_at}
use Rattle.survey_def.specs.Results.{Layouts}
use Rattle.survey_def.specs.Says.{max_surveyed, survey_size, SurveySays}
use Rattle.survey_def.specs.Inner.{count_below}
use Rattle.survey_def.specs.Sample.{sample_file, empty_file, Samples}
use Rattle.survey_def.proofs.Promise.{surveyed_by, one_plant}

-- A survey with the counts that are computed.
abbrev computed : Plant → ℕ → ℕ
computed p k = count_below p.streams k (2 ^ length p.streams)

surveys_so : (file : List ℕ) (p : Plant) → read_plant file ≡ got p → length p.streams ≤ max_surveyed → (s : Layouts) → s.number ≡ 0
    → s.count ≡ length p.streams → length s.counts ≡ survey_size → values survey_size (λ k. get_or s.counts k 0) ≡ values survey_size (computed p)
    → (r : Layouts) → SurveySays file r → r ≡ s
surveys_so file p e few s n c l h r says =
    one_plant p r s (says.surveyed p e few) (surveyed_by p (within p (accepted file p e).0) s n c l each few)
  where
    each : (k : ℕ) → k < survey_size → get_or s.counts k 0 ≡ computed p k
    each k b =
        sym (values_at (λ k. get_or s.counts k 0) 0 survey_size k b)
        ∙ ap (λ (v : List ℕ). get_or v k 0) h
        ∙ values_at (computed p) 0 survey_size k b

nothing : Plant
nothing = record { units = 1; streams = [] }

-- The worked examples.
pub samples : Samples
unfolding nothing labels_after
samples = record {
  listed = surveys_so sample_file sample_plant refl (omega arith) _ refl refl refl refl;
  empty = surveys_so empty_file nothing refl (omega arith) _ refl refl refl refl;
}
