use Rattle.vms_calls.proofs.RatingCovers.{RatingCovers-holds}
use Rattle.vms_calls.proofs.ratings.ratings_cover.Goals as goal

pub returns : goal.returns
returns c = RatingCovers-holds
