-- The steps of a change tell where they end.
use Rattle.std.proofs.Common.{◌≡◌, ℕ, suc, zero, ℤ, pos, negsuc, List, ◌++◌, refl, ap, ◌∙◌, append_assoc}
use Rattle.vms_history.specs.Common.{Diffs, CounterId, Mode, Shape}
use Rattle.vms_core.specs.declared.steps.Step.{Step}
use Rattle.vms_core.specs.Common.{entry, carried_by}
use Rattle.vms_calls.specs.Common.{Carries, Exchanges, nothing, amount, won, missed, TellsChange, read_additions}
use Rattle.vms_calls.specs.Common.{read_exchange, read_change}

additions-told : (shape : Shape) (k : CounterId) (z : ℤ) (steps rest : List Step) → Carries shape k z steps
    → read_additions z (steps ++ rest) ≡ (tt, rest)
additions-told shape k z steps rest nothing = refl
additions-told shape k z steps rest (amount (pos zero) some) = absurd (some refl)
additions-told shape k z steps rest (amount (pos (suc n)) some) = refl
additions-told shape k z steps rest (amount (negsuc n) some) = refl

exchange-told : (shape : Shape) (k : CounterId) (w : Diffs) (t : ℕ) (delta : ℤ) (how : Mode) (last : Diffs)
    (exchange additions rest : List Step) → Exchanges k w t delta how last exchange
    → Carries shape k (carried_by how t (entry last.values k.number) delta) additions
    → read_exchange (exchange ++ (additions ++ rest)) ≡ (tt, rest)
exchange-told shape k w t delta how last exchange additions rest won carries =
    additions-told shape k (carried_by how t (entry w.values k.number) delta) additions rest carries
exchange-told shape k w t delta how last exchange additions rest (missed zeros are) carries =
    additions-told shape k (carried_by how t (entry zeros.values k.number) delta) additions rest carries

pub change-told : TellsChange
change-told shape cpu k delta how steps change rest =
    ap (λ ks. read_change (ks ++ rest)) change.in_order
    ∙ ap read_exchange (append_assoc change.exchange change.additions rest)
    ∙ exchange-told shape k change.first change.t delta how change.last change.exchange change.additions rest
    change.exchanges change.carries
