-- A group of a CPU that isn't online stays emptied.
use Rattle.std.proofs.Common.{◌≡◌, ◌≢◌, ℕ, ◌<◌, ◌&&◌, Bool, true, false, [], ◌∷◌, Option, Some, None, pos, get_or, refl}
use Rattle.std.proofs.Common.{sym, ap, ◌∙◌, if◌then◌else◌, nat_eq, eqb-true}
use Rattle.std.proofs.lemmas.List.{get_or-replicate}
use Rattle.std.proofs.lemmas.Bool.{and_parts}
use Rattle.vms_history.specs.Common.{Diffs, CpuId, GroupId, Online, group_of, own, owner_in}
use Rattle.vms_history.proofs.Common.{if-either}
use Rattle.vms_core.specs.declared.states.State.{State}
use Rattle.vms_core.specs.declared.steps.Facts.{Facts}
use Rattle.vms_core.specs.declared.steps.Step.{Step}
use Rattle.vms_core.specs.declared.steps.Step.TheVariants.{Put, Miss, Take}
use Rattle.vms_core.specs.Common.{HasShape, cpu_at, Meets, History, IsLegal, state_after, role, emptied_after}
use Rattle.vms_core.specs.Common.{is_emptied, has_taken_after, has_taken, KeepsOfflineTaken}
use Rattle.vms_core.proofs.DeadCpus.{online-in_base}
use Rattle.vms_core.proofs.Effects.{owned}
use Rattle.vms_core.proofs.Emptied.{emptied-kept}
use Rattle.vms_core.proofs.Shapes.{HasShape-state_after}

emptied_after-offline : (facts : Facts) (h : History) (s : State) (p : ℕ) (shaped : HasShape facts.layout s) (c j : ℕ)
    (who : Option CpuId) (step : Step) → owner_in role h p ≡ who → Meets facts h s p step → (cpu_at s c ≡ Online → ⊥)
    → emptied_after who c j step true ≡ true
emptied_after-offline facts h s p shaped c j (Some d) (Put k w t delta how) is meets offline =
    by (nat_eq d.number c && nat_eq (group_of k.number) j) refl
  where
    by : (b : Bool) → (nat_eq d.number c && nat_eq (group_of k.number) j) ≡ b → (if b then false else true) ≡ true
    by true here =
        let same : meets.cpu ≡ d = owned facts h s p shaped d meets.cpu is meets.owns in
        let cpu : meets.cpu.number ≡ c =
        ap (λ (o : CpuId). o.number) same
        ∙ eqb-true d.number c (and_parts (nat_eq d.number c) (nat_eq (group_of k.number) j) here).0 in
        absurd (offline (rw cpu at meets.online))
    by false other = refl
emptied_after-offline facts h s p shaped c j (Some d) (Miss i w) is meets offline =
    if-either (nat_eq d.number c && nat_eq i.number j) true
emptied_after-offline facts h s p shaped c j (Some o) (Take d i w) is meets offline =
    if-either (nat_eq d.number c && nat_eq i.number j) true
emptied_after-offline facts h s p shaped c j None (Take d i w) is meets offline =
    if-either (nat_eq d.number c && nat_eq i.number j) true
emptied_after-offline facts h s p shaped c j (Some o) _ is meets offline = refl
emptied_after-offline facts h s p shaped c j None _ is meets offline = refl

-- a take among a caller's own events is one of the history
has_taken-own : (h : History) (p c j : ℕ) → has_taken c j (own h p) ≡ true → has_taken c j h ≡ true
has_taken-own [] p c j took = took
has_taken-own (e ∷ h) p c j took = by (nat_eq e.caller p) (has_taken-own h p c j) took
  where
    more : (step : Step) (mine all : Bool) → (mine ≡ true → all ≡ true) → has_taken_after c j step mine ≡ true
        → has_taken_after c j step all ≡ true
    more (Take d i w) mine all rest now = at (nat_eq d.number c && nat_eq i.number j) now
      where
        at : (b : Bool) → (if b then true else mine) ≡ true → (if b then true else all) ≡ true
        at true is = refl
        at false is = rest is
    more _ mine all rest now = rest now

    keeps : (step : Step) (all : Bool) → all ≡ true → has_taken_after c j step all ≡ true
    keeps (Take d i w) all is = rw is (if-either (nat_eq d.number c && nat_eq i.number j) true)
    keeps _ all is = is

    by : (b : Bool) → (has_taken c j (own h p) ≡ true → has_taken c j h ≡ true)
        → has_taken c j (if b then e ∷ own h p else own h p) ≡ true → has_taken c j (e ∷ h) ≡ true
    by true rest now = more e.step (has_taken c j (own h p)) (has_taken c j h) rest now
    by false rest now = keeps e.step (has_taken c j h) (rest now)

-- after a take of an offline CPU's group it is emptied
is_emptied-taken : (facts : Facts) (h : History) (c j : ℕ) → IsLegal facts h → cpu_at facts.base c ≢ Online
    → has_taken c j h ≡ true → is_emptied h c j ≡ true
is_emptied-taken facts [] c j legal offline took = took
is_emptied-taken facts (e ∷ h) c j legal offline took =
    let s = state_after facts h in
    step (owner_in role h e.caller) e.step (has_taken c j h) (is_emptied h c j)
    (is_emptied-taken facts h c j legal.0 offline)
    (emptied_after-offline facts h s e.caller (HasShape-state_after facts h legal.0) c j
    (owner_in role h e.caller) e.step
    refl legal.2 (λ online. offline (online-in_base facts h c legal.0 online))) took
  where
    if-true : (b before after : Bool) → (before ≡ true → after ≡ true) → (if b then true else before) ≡ true
        → (if b then true else after) ≡ true
    if-true true before after rest now = refl
    if-true false before after rest now = rest now

    step : (who : Option CpuId) (k : Step) (before emptied : Bool) → (before ≡ true → emptied ≡ true)
        → emptied_after who c j k true ≡ true → has_taken_after c j k before ≡ true
        → emptied_after who c j k emptied ≡ true
    step (Some o) (Take d i w) before emptied rest stays now =
        if-true (nat_eq d.number c && nat_eq i.number j) before emptied rest now
    step None (Take d i w) before emptied rest stays now =
        if-true (nat_eq d.number c && nat_eq i.number j) before emptied rest now
    step who k before emptied rest stays now = rw (rest now) stays

pub offline-stay_taken : (facts : Facts) (h : History) → IsLegal facts h → KeepsOfflineTaken facts h
offline-stay_taken facts h legal p c j c_in j_in offline took =
    emptied-kept facts h legal c j c_in j_in (is_emptied-taken facts h c j legal offline (has_taken-own h p c j took))

-- a take of a group that was taken before finds eight zeros
pub offline-found_once : (facts : Facts) (h : History) (q : ℕ) (c : CpuId) (j : GroupId) (w : Diffs)
    → IsLegal facts (record { caller = q; step = Take c j w } ∷ h) → cpu_at facts.base c.number ≢ Online
    → has_taken c.number j.number h ≡ true → (n : ℕ) → n < 8 → get_or w.values n (pos 0) ≡ pos 0
offline-found_once facts h q c j w legal offline took n less =
    let emptied = is_emptied-taken facts h c.number j.number legal.0 offline took in
    let zeros = emptied-kept facts h legal.0 c.number j.number legal.2.cpu legal.2.group emptied in
    legal.2.values.each n less ∙ sym (zeros.each n less) ∙ get_or-replicate 8 n (pos 0) (pos 0) less
