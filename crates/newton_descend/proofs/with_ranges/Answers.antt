-- `newton_descend::with_ranges` meets its contract: at first each group is the outside, and those put in are among the places.
use Rattle.newton_laplacian.proofs.Ends.{ends_start}
use Rattle.newton_descend.proofs.with_ranges.Goals as goal

pub descend-requires : goal.descend-requires
descend-requires c =
    let o = c.gather-count.ensures in
    let p = c.requires.1 in
    (record { few = p.few; ends = o.still_ends _ p (ends_start _ c.requires.0); long = o.meters_len.0; short = o.meters_len.1 }, c.requires.2)
