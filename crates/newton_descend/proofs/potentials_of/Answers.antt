-- `newton_descend::potentials_of` meets its contract: whatever the real potentials are, those by label are within their bounds.
use Rattle.newton_descend.proofs.Levels.{level_labels}
use Rattle.newton_descend.proofs.potentials_of.Goals as goal

pub returns : goal.returns
returns c =
    rw c.by_label.ensures (level_labels c.lowered.ensures c.requires.0)
