-- Below zero: the minus, then the size.
use Rattle.num_text.proofs.Behind.{behind}
use Rattle.num_text.proofs.Signs.{signed_under}
use Rattle.num_text.proofs.put_signed.Goals as goal

pub returns : goal.returns
returns c =
    rw (signed_under c.args.z c.size_of-size.result c.ranges.z c.size_of-size.ensures c.if-z-ge0.false)
    (behind c.put_byte-next.ensures c.put_decimal-2.ensures)
