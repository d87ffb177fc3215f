-- The lines, then the total's.
use native.Mathlib.Omega.{arith}
use Rattle.num_text.proofs.Behind.{behind, put_front}
use Rattle.listing_lines.proofs.Sizes.{total_most}
use Rattle.listing_lines.proofs.put_listing.Goals as goal

pub put_total-requires : goal.put_total-requires
put_total-requires c =
    let a = c.args in
    let l = c.put_lines-at.ensures.1 in
    omega (arith, total_most a.number a.b.cost a.b.degrees a.b.verdict (omega arith) (omega arith) (omega arith))

pub returns : goal.returns
returns c = put_front (behind c.put_lines-at.ensures.0 c.put_total.ensures)
