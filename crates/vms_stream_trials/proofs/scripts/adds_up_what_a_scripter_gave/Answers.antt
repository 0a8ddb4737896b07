use Rattle.std.proofs.Common.{[], ◌∷◌, refl, sym, subst, ◌∙◌}
use Rattle.vms_world.specs.Common.{Header, Scripter, Gave, HoldsScript, first_script}
use Rattle.vms_stream_trials.proofs.scripts.adds_up_what_a_scripter_gave.Goals as goal

-- a scripter before the first line gave no phase
Gave-none : (header : Header) (scripter : Scripter) → HoldsScript (first_script header) scripter
    → Gave header [] scripter
Gave-none header scripter holds =
    record { script = first_script header; of = refl; taken = refl; is_open = refl; holds = holds }

pub phase_of-requires-2-clause-scripter : goal.phase_of-requires-2-clause-scripter
phase_of-requires-2-clause-scripter g c =
    let none = Gave-none c.in_ok-header.header c.in_ok-scripter.scripter c.in_ok-scripter.ensures in
    (_, c.in_ok-first.ensures.gave [] none)

pub totals_of-requires-clause-gave : goal.totals_of-requires-clause-gave
totals_of-requires-clause-gave g c =
    subst (λ phases. Gave c.in_ok-header.header phases c.phase_of-2.new.scripter)
    (sym (c.as_slice.ensures.value ∙ c.in_ok-phases.ensures.items))
    (c.in_ok-second.ensures.gave (c.in_ok-first.first ∷ []) (c.in_ok-first.ensures.gave []
    (Gave-none c.in_ok-header.header c.in_ok-scripter.scripter c.in_ok-scripter.ensures)))
