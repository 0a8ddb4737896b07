-- What a CPU that isn't online hides stays 0 once it is 0.
use Rattle.std.proofs.Common.{◌≡◌, ◌≢◌, ℕ, ◌&&◌, Bool, true, false, [], ◌∷◌, ◌++◌, Option, Some, None, pos, refl, sym}
use Rattle.std.proofs.Common.{ap, ◌∙◌, subst, nat_eq, if◌then◌else◌, eqb-true}
use Rattle.std.proofs.lemmas.Bool.{and_parts}
use Rattle.vms_calls.specs.Common.{CpuId, CpuState, Online, Absent, IsCounter, group_of, Extends, owner_in, Facts, Step}
use Rattle.vms_calls.specs.Common.{Put, Take, SetO, diff_at, entry, cpu_at, differential_after, History, state_after}
use Rattle.vms_calls.specs.Common.{cpu_after, role}
use Rattle.vms_history.proofs.Common.{if-never, if-either}
use Rattle.vms_core.specs.Pages.{IsLegal}
use Rattle.vms_core.proofs.Common.{diff_after, diff_at-effect, laws-kept, cpu_at-newest}

-- no step makes a CPU online
offline-step : (c : ℕ) (step : Step) (x : CpuState) → cpu_after c step x ≡ Online → x ≡ Online
offline-step c (SetO d) x online = by (nat_eq d.number c) online
  where
    by : (b : Bool) → (if b then Absent else x) ≡ Online → x ≡ Online
    by true is = absurd cc
    by false is = is
offline-step c _ x online = online

-- a step of another than the owner of a CPU leaves a zero of that CPU
zero-step : (who : Option CpuId) (c k : ℕ) (step : Step) → ((d : CpuId) → who ≡ Some d → d.number ≢ c)
    → diff_after who c k step (pos 0) ≡ pos 0
zero-step (Some d) c k (Put l w t delta how) other =
    if-never (nat_eq d.number c && nat_eq l.number k) (differential_after how t (entry w.values l.number) delta) (pos 0)
    (λ here. other d refl (eqb-true d.number c (and_parts (nat_eq d.number c) (nat_eq l.number k) here).0))
zero-step (Some o) c k (Take d j w) other = if-either (nat_eq d.number c && nat_eq j.number (group_of k)) (pos 0)
zero-step None c k (Take d j w) other = if-either (nat_eq d.number c && nat_eq j.number (group_of k)) (pos 0)
zero-step (Some o) c k _ other = refl
zero-step None c k _ other = refl

module _ (facts : Facts) (h : History) (c : ℕ) (offline : cpu_at (state_after facts h) c ≢ Online) where
  offline-later : (more : History) → IsLegal facts (more ++ h) → cpu_at (state_after facts (more ++ h)) c ≢ Online
  offline-later [] legal online = offline online
  offline-later (e ∷ more) legal online =
      offline-later more legal.0
      (offline-step c e.step (cpu_at (state_after facts (more ++ h)) c)
      (sym (cpu_at-newest facts e (more ++ h) legal c) ∙ online))

  zeros-later : (k : ℕ) → IsCounter facts.layout k → diff_at (state_after facts h) c k ≡ pos 0
      → (more : History) → IsLegal facts (more ++ h) → diff_at (state_after facts (more ++ h)) c k ≡ pos 0
  zeros-later k k_in zero [] legal = zero
  zeros-later k k_in zero (e ∷ more) legal =
      let before = more ++ h in
      let laws = laws-kept facts before legal.0 in
      diff_at-effect facts before (state_after facts before) e.caller laws.shape (owner_in role before e.caller) e.step
      c k refl legal.2 k_in
      ∙ ap (diff_after (owner_in role before e.caller) c k e.step) (zeros-later k k_in zero more legal.0)
      ∙ zero-step (owner_in role before e.caller) c k e.step
      (λ d owns same. offline-later more legal.0
      (subst (λ n. cpu_at (state_after facts before) n ≡ Online) same (laws.owners e.caller d owns).1))

  pub zeros-stand : (later : History) → IsLegal facts later → Extends later h
      → ((k : ℕ) → IsCounter facts.layout k → diff_at (state_after facts h) c k ≡ pos 0)
      → (k : ℕ) → IsCounter facts.layout k → diff_at (state_after facts later) c k ≡ pos 0
  zeros-stand later legal extends zeros k k_in =
      subst (λ (g : History). diff_at (state_after facts g) c k ≡ pos 0) (sym extends.1)
      (zeros-later k k_in (zeros k k_in) extends.0 (subst (IsLegal facts) extends.1 legal))
