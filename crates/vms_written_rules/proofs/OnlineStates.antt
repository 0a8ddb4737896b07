-- In a legal history a call that loads the states of all CPUs finds one online.
use Rattle.std.proofs.Common.{◌≡◌, ℕ, suc, ◌+◌, ◌<◌, ◌≤◌, ⊎_elim, Bool, true, false, true≢false, if◌then◌else◌, List}
use Rattle.std.proofs.Common.{[], ◌∷◌, ◌++◌, length, nat_eq, sym, ap, ◌∙◌, subst, arith, append_assoc}
use Rattle.std.proofs.lemmas.Bool.{cases_eq}
use Rattle.vms_base.specs.declared.kinds.CpuState.TheVariants.{Online}
use Rattle.vms_calls.specs.RatingReadings.{SomeOnline}
use Rattle.vms_core.proofs.Common.{online-stays}
use Rattle.vms_core.specs.Pages.{History, IsLegal}
use Rattle.vms_history.proofs.Common.{after-append, after-steps, base_can_begin}
use Rattle.vms_world.specs.Common.{CpuState, Event, Facts, LoadO, Step, after, cpu_at, in_turn, is_online, online_from}
use Rattle.vms_world.specs.Common.{own, pages, state_steps}

module _ (facts : Facts) (p : ℕ) where
  -- an own event, and the history before it
  own-before : (later earlier rest : History) (k : Step) → IsLegal facts later
      → own later p ≡ rest ++ (record { caller = p; step = k } ∷ earlier)
      → (before : History) × IsLegal facts (record { caller = p; step = k } ∷ before)
  own-before [] earlier [] k legal is = absurd cc
  own-before [] earlier (x ∷ rest) k legal is = absurd cc
  own-before (e ∷ later) earlier rest k legal is =
      by (nat_eq e.caller p) (λ (ms : History). own-before later earlier ms k legal.0) rest is
    where
      by : (b : Bool)
          → ((ms : History) → own later p ≡ ms ++ (record { caller = p; step = k } ∷ earlier)
          → (before : History) × IsLegal facts (record { caller = p; step = k } ∷ before))
          → (ms : History)
          → (if b then e ∷ own later p else own later p) ≡ ms ++ (record { caller = p; step = k } ∷ earlier)
          → (before : History) × IsLegal facts (record { caller = p; step = k } ∷ before)
      by true sooner [] same =
          let first : e ≡ record { caller = p; step = k } = cc in
          (later, subst (λ (x : Event Step). IsLegal facts (x ∷ later)) first legal)
      by true sooner (m ∷ ms) same =
          let tails : own later p ≡ ms ++ (record { caller = p; step = k } ∷ earlier) = cc in
          sooner ms tails
      by false sooner ms same = sooner ms same

  module _ (later earlier : History) (legal : IsLegal facts later) where
    -- since the earlier history the pass has made these steps, whatever others did
    abbrev pub HasMade : List Step → Type 0
    HasMade steps = own later p ≡ after p steps (own earlier p)

    made-before : (xs ys : List Step) (k : Step) → HasMade (xs ++ k ∷ ys)
        → (before : History) × IsLegal facts (record { caller = p; step = k } ∷ before)
    made-before xs ys k has =
        own-before later (after p xs (own earlier p)) (after p ys []) k legal
        (has ∙ after-steps p xs (k ∷ ys) (own earlier p)
        ∙ after-append p ys [] (record { caller = p; step = k } ∷ after p xs (own earlier p)))

    found-online : (d : ℕ) → cpu_at facts.base d ≡ Online → (c : ℕ) (states : List CpuState) (xs ys : List Step)
        → HasMade (xs ++ (in_turn state_steps c states ++ ys)) → c ≤ d → d < c + length states
        → 1 ≤ length (online_from c states)
    found-online d online c [] xs ys has from to = absurd (omega arith)
    found-online d online c (x ∷ states) xs ys has from to = ⊎_elim
        (λ (here : c ≡ d). at (is_online x) (ap is_online (sym (told here))))
        (λ (other : c ≡ d → ⊥).
        more (is_online x) (found-online d online (suc c) states (xs ++ (load ∷ [])) ys
        (subst HasMade (sym (append_assoc xs (load ∷ []) rest)) has) (omega arith) (omega arith)))
        (cases_eq c d)
      where
        load : Step
        load = LoadO (record { number = c }) x

        rest : List Step
        rest = in_turn state_steps (suc c) states ++ ys

        told : c ≡ d → x ≡ Online
        told here =
            let at = made-before xs rest load has in
            sym at.1.2.1 ∙ online-stays facts at.0 c at.1.0 (ap (cpu_at facts.base) here ∙ online)

        at : (b : Bool) → true ≡ b
            → 1 ≤ length (if b then record { number = c } ∷ online_from (suc c) states else online_from (suc c) states)
        at true is = omega arith
        at false is = absurd (true≢false is)

        more : (b : Bool) → 1 ≤ length (online_from (suc c) states)
            → 1 ≤ length (if b then record { number = c } ∷ online_from (suc c) states else online_from (suc c) states)
        more true found = omega arith
        more false found = found

    pub states-online : (states : List CpuState) (xs ys : List Step) → length states ≡ facts.layout.cpus
        → HasMade (xs ++ (in_turn state_steps 0 states ++ ys)) → SomeOnline states
    states-online states xs ys one_each has =
        let up = (base_can_begin pages facts later legal).opening.some_online in
        found-online up.0 up.2 0 states xs ys has (omega arith) (let within = up.1 in omega arith)
