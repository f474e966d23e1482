use Rattle.naga_opt.proofs.MeansOnceLemmas.{Means-once}
use Rattle.naga_opt.proofs.laws.arguments_mean_one_thing.Goals as goal

pub returns : goal.returns
returns c before arguments meant other means also = Means-once means also
