use Rattle.vms_core.proofs.Exchanges.{put-follows, miss-follows, zeros-win, MayExchange-goes_on}
use Rattle.vms_core.proofs.laws.knowledge.exchanges_win_or_miss.Goals as goal

pub returns : goal.returns
returns c = record { wins = put-follows; misses = miss-follows; zeros = zeros-win; stays = MayExchange-goes_on }
