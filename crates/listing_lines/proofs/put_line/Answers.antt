-- The number, the entry, the line's end.
use mir.Facts.{to_z-of_z}
use Rattle.num_text.proofs.Behind.{behind}
use Rattle.listing_lines.proofs.put_line.Goals as goal

pub returns : goal.returns
returns c =
    behind (behind c.put_field-a.ensures (rw (to_z-of_z c.ranges.flow) at c.put_entry-b.ensures)) c.put_byte.ensures
