-- The letter, the blank, the flow.
use mir.Facts.{to_z-of_z}
use Rattle.num_text.proofs.Behind.{behind}
use Rattle.listing_lines.proofs.put_flow.Goals as goal

pub returns : goal.returns
returns c =
    behind (behind c.put_byte-a.ensures c.put_byte-b.ensures) (rw (to_z-of_z c.ranges.flow) at c.put_signed.ensures)
