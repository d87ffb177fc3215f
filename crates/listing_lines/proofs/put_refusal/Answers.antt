-- The word, the number, the line's end.
use native.Mathlib.Omega.{arith}
use Rattle.num_text.proofs.Behind.{behind, put_front}
use Rattle.listing_lines.proofs.Sizes.{refusal_size_lem, refusal_most}
use Rattle.listing_lines.proofs.put_refusal.Goals as goal

pub put_decimal-b-requires : goal.put_decimal-b-requires
put_decimal-b-requires c =
    let n = c.args.number in
    let p = c.put_text-a.ensures.place in
    omega (arith, refusal_size_lem n, refusal_most n (omega arith))

pub put_byte-requires : goal.put_byte-requires
put_byte-requires c =
    let n = c.args.number in
    let p = c.put_text-a.ensures.place in
    let q = c.put_decimal-b.ensures.place in
    omega (arith, refusal_size_lem n, refusal_most n (omega arith))

pub returns : goal.returns
returns c =
    put_front (behind (behind c.put_text-a.ensures c.put_decimal-b.ensures) c.put_byte.ensures)
