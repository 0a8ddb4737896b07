-- A world stays one of its header.
use Rattle.std.proofs.Common.{◌≡◌, ℕ, ◌<◌, ◌≤◌, List, length, sym, subst, ◌∙◌, arith, ⊎_elim}
use Rattle.std.proofs.lemmas.Bool.{cases_lt}
use Rattle.std.proofs.lemmas.List.{get_or_past}
use Rattle.vms_world.specs.Common.{CpuState, Absent, state_at, IsWorldOf}
use Rattle.vms_base.specs.declared.kinds.CpuState.TheVariants.{Online}
use Rattle.vms_world.proofs.Common.{IsWorldOf-taken_down}
use Rattle.vms_hotplug.proofs.cpus.take_down.Goals as goal

-- who is online stands in the list
within : (states : List CpuState) (d : ℕ) → state_at states d ≡ Online → d < length states
within states d runs = ⊎_elim
    (λ (inside : d < length states). inside)
    (λ (past : length states ≤ d).
    let both : Absent ≡ Online = sym (get_or_past states d Absent past) ∙ runs in absurd cc)
    (cases_lt d (length states))

pub returns-clause-stays : goal.returns-clause-stays
returns-clause-stays c header of =
    let w = c.args.world.now in
    let other = c.requires.other in
    let cpus = of.page_base.opening.shaped.cpu in
    subst (λ (states : List CpuState). IsWorldOf header (record w { pages = record w.pages { cpu = states } }))
    (sym c.set.ensures)
    (IsWorldOf-taken_down header w c.args.cpu.number of (omega (arith, cpus, c.requires.cpu)) c.requires.online other.0
    other.1 (omega (arith, cpus, within w.pages.cpu other.0 other.2)) other.2)
