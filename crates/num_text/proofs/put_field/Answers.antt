-- The number, then the blank.
use Rattle.num_text.proofs.Behind.{behind}
use Rattle.num_text.proofs.put_field.Goals as goal

pub returns : goal.returns
returns c = behind c.put_decimal-next.ensures c.put_byte.ensures
