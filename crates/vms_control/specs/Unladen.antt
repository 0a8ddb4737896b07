-- What a control call leaves of what its pass carries.
use Rattle.vms_calls.specs.Common.{Facts, Step, CarriesNothing, own}
use Rattle.vms_seats.specs.Common.{Pass}

-- a pass that carried nothing before carries nothing after
abbrev pub StaysUnladen : Facts → Pass Facts Step → Pass Facts Step → Type 0
StaysUnladen facts new old =
    CarriesNothing facts.layout (own old.seen old.number) → CarriesNothing facts.layout (own new.seen new.number)
