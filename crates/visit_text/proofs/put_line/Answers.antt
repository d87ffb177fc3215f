-- The number, the cost, the line's end.
use Rattle.num_text.proofs.Behind.{behind}
use Rattle.visit_text.proofs.put_line.Goals as goal

pub returns : goal.returns
returns c =
    behind (behind c.put_field-a.ensures c.put_decimal-b.ensures) c.put_byte.ensures
