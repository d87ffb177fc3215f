-- The word, then field by field.
use Rattle.num_text.proofs.Behind.{behind}
use Rattle.listing_lines.proofs.put_total.Goals as goal

pub returns : goal.returns
returns c =
    let number = behind c.put_text-a.ensures c.put_field-b.ensures in
    let cost = behind number c.put_field-c.ensures in
    let degrees = behind cost c.put_field-d.ensures in
    let verdict = behind degrees c.put_word-e.ensures in
    behind verdict c.put_byte.ensures
