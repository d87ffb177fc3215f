-- By what was found.
use native.Mathlib.Omega.{arith}
use mathlib.Core.Path.{◌≡◌, refl}
use borrow.Author.Tests.{not-true, not-false}
use Rattle.std.specs.Prelude.{Ok, Err}
use Rattle.plant_def.specs.Files.{read_plant}
use Rattle.plant_def.specs.Says.{plant_of, read_of}
use Rattle.plant_def.specs.Views.{read_as}
use Rattle.plant_def.proofs.Found.{plant_accepted}
use Rattle.plant_def.proofs.Numbers.{some_number}
use Rattle.sheet_def.proofs.Promise.{outcome_balance, outcome_overfull}
use Rattle.listing_lines.proofs.Sizes.{put_counts}
use Rattle.listing_call.proofs.Promise.{too_short, file_refused, plant_listed, plant_overfilled}
use Rattle.listing_call.proofs.list_plant.Goals as goal
use Rattle.listing_call.proofs.list_plant.Goals.{In-Ok, In-Err}

-- What was read.
listed : (c : In-Ok) → read_as (Ok c.in-Ok.plant) ≡ read_of (read_plant c.args.file.now)
listed c = c.in-Ok.ensures

amiss : (c : In-Err) → read_as (Err c.in-Err.e) ≡ read_of (read_plant c.args.file.now)
amiss c = c.in-Err.ensures

pub returns-then-text-lt-LEAST_TEXT : goal.returns-then-text-lt-LEAST_TEXT
returns-then-text-lt-LEAST_TEXT c =
    record { list_says = too_short c.args.file.now c.args.text.now c.if-text-lt-LEAST_TEXT.true; counts = (omega arith, refl) }

pub returns-in-Err : goal.returns-in-Err
returns-in-Err c =
    let a = c.args in
    record { list_says = file_refused a.file.now a.text.now c.if-text-lt-LEAST_TEXT.false _ _ _ (amiss (goal.at.returns-in-Err c).In-Err) (some_number c.in-Err.e) (rw c.number.ensures at c.put_refusal.ensures); counts = put_counts c.put_refusal.ensures }

pub balance_of-outcome-requires : goal.balance_of-outcome-requires
balance_of-outcome-requires c =
    plant_accepted c.args.file.now _ (listed (goal.at.balance_of-outcome-requires c).In-Ok) refl

pub returns-then-not-outcome : goal.returns-then-not-outcome
returns-then-not-outcome c =
    let a = c.args in
    let none = outcome_overfull (plant_of c.in-Ok.plant) c.balance_of-outcome.result c.balance_of-outcome.ensures (not-true c.balance_of-outcome.result.found c.if-not-outcome.true) in
    record { list_says = plant_overfilled a.file.now a.text.now c.if-text-lt-LEAST_TEXT.false _ _ _ c.balance_of-outcome.result.marked (listed (goal.at.returns-then-not-outcome c).In-Ok) refl none c.put_refusal-then-not-outcome.ensures; counts = put_counts c.put_refusal-then-not-outcome.ensures }

pub put_listing-requires : goal.put_listing-requires
put_listing-requires c =
    ((plant_accepted c.args.file.now _ (listed (goal.at.put_listing-requires c).In-Ok) refl).within.few_streams, c.if-text-lt-LEAST_TEXT.false)

pub returns : goal.returns
returns c =
    let a = c.args in
    let some = outcome_balance (plant_of c.in-Ok.plant) c.balance_of-outcome.result c.balance_of-outcome.ensures (not-false c.balance_of-outcome.result.found c.if-not-outcome.false) in
    record { list_says = plant_listed a.file.now a.text.now c.if-text-lt-LEAST_TEXT.false _ _ _ c.balance_of-outcome.result.balance (listed (goal.at.returns c).In-Ok) refl some c.put_listing.ensures; counts = put_counts c.put_listing.ensures }
