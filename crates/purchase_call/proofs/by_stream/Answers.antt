-- After i turns the first i streams have their prices, and k unmetered ones are passed.
use mathlib.Core.Path.{◌≡◌, refl, ap, ◌∙◌, subst}
use Prim.Native.Nat.{ℕ}
use native.Mathlib.Omega.{arith}
use lib.ListN.{get_or, replicate, length-replicate}
use Rattle.plant_def.specs.Limits.{max_streams}
use Rattle.plant_def.specs.Says.{plant_of}
use Rattle.num_bytes.proofs.Lists.{Written, written_none, written_put}
use Rattle.purchase_def.specs.Purchases.{price_in}
use Rattle.purchase_call.proofs.Prices.{unmetered_few, unmetered_next}
use Rattle.purchase_call.proofs.by_stream.Goals as goal

pub loop-i-init : goal.loop-i-init
loop-i-init c = (refl, written_none (length-replicate {A = ℕ} 96 0))

pub more-k-requires : goal.more-k-requires
more-k-requires c =
    let at = c.loop-i in
    omega (arith, at.invariant.0, unmetered_few (plant_of c.args.p).streams at.i, c.loop-i-test.true, c.requires.within.few_streams)

pub loop-i-preserved : goal.loop-i-preserved
loop-i-preserved c =
    let at = c.loop-i in
    let taken = c.loop-i-test.true in
    let v = at.invariant in (
      unmetered_next c.args.p c.requires at.i at.k _ taken v.0 c.more-k.ensures,
      written_put v.1 (omega (arith, c.requires.within.few_streams)) _
          (c.price_at.ensures ∙ ap (λ (j : ℕ). get_or c.args.prices.now j 0) v.0),
    )

pub returns : goal.returns
returns c =
    let at = c.loop-i in
    let e : at.i ≡ c.args.p.count = omega arith in
    subst (λ (m : ℕ). Written 0 max_streams (λ k x. price_in (plant_of c.args.p).streams c.args.prices.now k) (replicate max_streams 0) at.each m) e at.invariant.1
