-- What the steps of a change tell of where they end.
use Rattle.std.specs.Prelude.{◌≡◌, zero, suc, ℤ, pos, negsuc, List, [], ◌∷◌, ◌++◌}
use Rattle.vms_history.specs.Common.{CounterId, CpuId, Mode, Shape}
use Rattle.vms_core.specs.declared.steps.Step.{Step}
use Rattle.vms_core.specs.declared.steps.Step.TheVariants.{LoadT, LoadD, Put, Miss, AddG, AddS}
use Rattle.vms_core.specs.Common.{entry, carried_by}
use Rattle.vms_calls.specs.Changes.{IsChange}

-- the additions of an amount, which are there where it isn't 0
abbrev pub read_two : List Step → Unit {0} × List Step
read_two (AddG k a ∷ AddS i b ∷ rest) = (tt, rest)
read_two _ = (tt, [])

abbrev pub read_additions : ℤ → List Step → Unit {0} × List Step
read_additions (pos zero) steps = (tt, steps)
read_additions (pos (suc n)) steps = read_two steps
read_additions (negsuc n) steps = read_two steps

-- a put tells what it carries
abbrev pub read_put : List Step → Unit {0} × List Step
read_put (Put k w t delta how ∷ rest) = read_additions (carried_by how t (entry w.values k.number) delta) rest
read_put _ = (tt, [])

-- an exchange that lost may stand before the put
abbrev pub read_exchange : List Step → Unit {0} × List Step
read_exchange (Miss j w ∷ rest) = read_put rest
read_exchange steps = read_put steps

-- a change: the loads of the threshold and of the group, the exchange and the additions
abbrev pub read_change : List Step → Unit {0} × List Step
read_change (LoadT g t a ∷ LoadD c j w ∷ rest) = read_exchange rest
read_change _ = (tt, [])

-- the steps of a change tell where they end, whatever follows them
abbrev pub TellsChange : Type 0
TellsChange = (shape : Shape) (cpu : CpuId) (k : CounterId) (delta : ℤ) (how : Mode) (steps : List Step)
    → IsChange shape cpu k delta how steps → (rest : List Step) → read_change (steps ++ rest) ≡ (tt, rest)
