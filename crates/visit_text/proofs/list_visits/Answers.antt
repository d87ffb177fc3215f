-- The streams listed are no more than there may be.
use Rattle.visit_def.specs.Views.{listed_as}
use Rattle.visit_def.proofs.Promise.{visits_fit}
use Rattle.visit_text.proofs.list_visits.Goals as goal

pub shared_ref_as_front-put_lines : goal.shared_ref_as_front-put_lines
shared_ref_as_front-put_lines c = visits_fit c.args.file.now (listed_as c.in-Ok.visits) c.in-Ok.ensures
