-- A number below ten is its digit; another is the text of its tenth, then its last digit.
use native.Mathlib.Omega.{arith}
use Rattle.num_text.proofs.Behind.{behind, kept_length}
use Rattle.num_text.proofs.Decimals.{decimal_one, decimal_more, more_size}
use Rattle.num_text.proofs.+put_decimal.Goals as goal

pub put_byte-requires : goal.put_byte-requires
put_byte-requires t c = rw (decimal_one c.args.n c.if-n-lt10.true) at c.requires

pub returns-then-n-lt10 : goal.returns-then-n-lt10
returns-then-n-lt10 t c = rw (decimal_one c.args.n c.if-n-lt10.true) c.put_byte.ensures

pub put_decimal-last-requires : goal.put_decimal-last-requires
put_decimal-last-requires t c = (omega arith, omega (arith, more_size c.args.n c.if-n-lt10.false))

pub put_byte-requires-2 : goal.put_byte-requires-2
put_byte-requires-2 t c =
    let e = c.put_decimal-last.ensures in
    let p = e.place in
    omega (arith, kept_length e, more_size c.args.n c.if-n-lt10.false)

pub returns : goal.returns
returns t c = rw (decimal_more c.args.n c.if-n-lt10.false) (behind c.put_decimal-last.ensures c.put_byte-2.ensures)
