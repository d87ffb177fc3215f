-- `survey` meets its contract: the counts are those of the plant's first streams, which are all.
use Rattle.survey_def.proofs.Promise.{few_of, plant_surveyed}
use Rattle.survey_count.proofs.survey.Goals as goal

pub count_all-requires : goal.count_all-requires
count_all-requires c = rw c.first_streams.ensures (few_of c.args.plant c.requires.0 c.requires.1)

pub returns : goal.returns
returns c = plant_surveyed c.args.plant c.requires.0 c.requires.1 _ c.first_streams.ensures _ c.count_all.ensures
