-- Each table begins again with what its history leaves.
use Rattle.vms_spending_laws.proofs.LeftWorlds.{CoverSpending-spent, IsWorldOf-left_with}
use Rattle.vms_spending_laws.proofs.worlds.histories_keep_worlds.Goals as goal

pub returns-clause-world : goal.returns-clause-world
returns-clause-world c header w hs v of complete cover nothing =
    IsWorldOf-left_with header w of hs complete v cover nothing

pub returns-clause-least : goal.returns-clause-least
returns-clause-least c header w hs of within = CoverSpending-spent header w of hs within
