-- For other crates too: steps that are made under free locks, one after another.
use Rattle.std.proofs.Common.{◌≡◌, ℕ, true, false, Bool, List, [], ◌∷◌, ◌++◌, get_or, replicate, Option, refl, sym, ap}
use Rattle.std.proofs.Common.{◌∙◌, arith, ⊎_elim}
use Rattle.std.proofs.Math.ListN.{set}
use Rattle.std.proofs.lemmas.Bool.{cases_lt}
use Rattle.std.proofs.lemmas.List.{get_or-replicate, get_or_past, length-replicate, set-get_or, set-set}
use Rattle.std.proofs.lemmas.List.Elements.{All-append, All-cons, All-nil}
use Rattle.vms_history.specs.Common.{CpuId, PcpuId}
use Rattle.vms_history.proofs.Common.{LeadsOn-append}
use Rattle.vms_pcpu_core.specs.declared.states.PcpuState.{PcpuState}
use Rattle.vms_pcpu_core.specs.declared.steps.PcpuStep.{PcpuStep}
use Rattle.vms_pcpu_core.specs.declared.steps.PcpuStep.TheVariants.{Won, Unlock}
use Rattle.vms_pcpu_core.specs.Common.{LockedState, counters_of, with_held}
use Rattle.vms_plain_pcpu.specs.Common.{LeadsAlone, MissesNone, under_free_locks, TellsNumber, effect_by}
use Rattle.vms_plain_pcpu.specs.Common.{percpu_by_state}

lock-free : (n j : ℕ) → get_or (replicate n false) j false ≡ false
lock-free n j = ⊎_elim (λ inside. get_or-replicate n j false false inside)
    (λ past. get_or_past (replicate n false) j false (omega (arith, length-replicate n false))) (cases_lt j n)

-- a lock that was won and given back is free
given_back : (n j : ℕ) → set (set (replicate n false) j true) j false ≡ replicate n false
given_back n j =
    set-set (replicate n false) j true false
    ∙ ap (set (replicate n false) j) (sym (lock-free n j))
    ∙ set-get_or (replicate n false) j false

-- the numbers under free locks but for one
abbrev pub under_lock : PcpuState → ℕ → LockedState
under_lock s j = with_held (under_free_locks s) j true

module _ (who : Option CpuId) where
  pub LeadsAlone-none : (s : LockedState) → LeadsAlone who [] s s
  LeadsAlone-none s = record { leads = refl; unmissed = All-nil MissesNone }

  -- one step, and then further ones
  pub LeadsAlone-cons : (step : PcpuStep) (steps : List PcpuStep) (s next : LockedState) → TellsNumber who s step
      → MissesNone step → LeadsAlone who steps (effect_by who step s) next → LeadsAlone who (step ∷ steps) s next
  LeadsAlone-cons step steps s next told missed rest = record {
    leads = (told, rest.leads);
    unmissed = All-cons MissesNone step steps missed rest.unmissed;
  }

  pub LeadsAlone-append : (first second : List PcpuStep) (s t u : LockedState) → LeadsAlone who first s t
      → LeadsAlone who second t u → LeadsAlone who (first ++ second) s u
  LeadsAlone-append first second s t u before after = record {
    leads = LeadsOn-append percpu_by_state who first second s t u before.leads after.leads;
    unmissed = All-append MissesNone first second before.unmissed after.unmissed;
  }

  module _ (s : PcpuState) (j : PcpuId) where
    -- the lock is won, and then come further steps
    pub LeadsAlone-won : (steps : List PcpuStep) (next : LockedState)
        → LeadsAlone who steps (under_lock s j.number) next → LeadsAlone who (Won j ∷ steps) (under_free_locks s) next
    LeadsAlone-won steps next rest =
        LeadsAlone-cons (Won j) steps (under_free_locks s) next (lock-free (counters_of s) j.number) tt rest

    pub LeadsAlone-unlock : LeadsAlone who (Unlock j ∷ []) (under_lock s j.number) (under_free_locks s)
    LeadsAlone-unlock = record {
      leads = (
        tt,
        ap (λ (held : List Bool). record { numbers = s; held = held }) (given_back (counters_of s) j.number),
      );
      unmissed = All-cons MissesNone (Unlock j) [] tt (All-nil MissesNone);
    }
