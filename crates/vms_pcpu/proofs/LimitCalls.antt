-- The steps of a limited addition may be made one after another.
use Rattle.std.proofs.Common.{◌≡◌, ◌≢◌, ℕ, ◌≤◌, ◌<◌, ◌^◌, ◌+ℤ◌, ◌≤ℤ◌, ◌<ℤ◌, ℤ, pos, negsuc, unsigned_abs, Bool, true}
use Rattle.std.proofs.Common.{List, [], ◌∷◌, ◌++◌, w64, to_z, of_z, refl, sym, ap, subst, ◌∙◌, append_assoc, arith}
use Rattle.vms_history.specs.Common.{CpuId, PcpuId, most_volume}
use Rattle.vms_history.proofs.Common.{made-none}
use Rattle.vms_pcpu_core.specs.declared.steps.PcpuFacts.{PcpuFacts}
use Rattle.vms_pcpu_core.specs.declared.steps.PcpuStep.{PcpuStep}
use Rattle.vms_pcpu_core.specs.declared.steps.PcpuStep.TheVariants.{AddL, LoadL, LoadC}
use Rattle.vms_pcpu_core.specs.Common.{Locks, Probes, Judges, EndsLimitedAdd, IsLimitedAdd, present_cpus, room, unknown}
use Rattle.vms_pcpu_core.specs.Common.{large, narrow, nothing, unlocked, locked, percpu, MayMake, MayChangePcpu}
use Rattle.vms_pcpu_core.specs.Common.{batch_at}
use Rattle.vms_pcpu_core.proofs.Common.{MakesLimitedAdd-holds}
use Rattle.vms_pcpu.proofs.CallSteps.{may-rest}
use Rattle.vms_pcpu.proofs.SmallNumbers.{same_word}
use Rattle.vms_seats.specs.Common.{Pass, Made, MadeOne}
use Rattle.vms_seats.proofs.Common.{calls-both, calls-next}

-- the room of numbers that were passed on
pub room-words : (limit amount x value : ℤ) → unsigned_abs limit ≤ 2 ^ 60 → unsigned_abs amount ≤ most_volume
    → x ≡ value → room (to_z w64 (of_z w64 limit)) (to_z w64 (of_z w64 amount)) x ≡ room limit amount value
room-words limit amount x value first second is =
    ap (λ (z : ℤ). room z (to_z w64 (of_z w64 amount)) x) (same_word limit (omega (arith, first)))
    ∙ ap (λ (z : ℤ). room limit z x) (same_word amount (omega (arith, second)))
    ∙ ap (room limit amount) is

-- the word 0 is that of 0 alone
pub zero_word : (x : ℤ) → unsigned_abs x ≤ most_volume → of_z w64 x ≡ 0 → x ≡ pos 0
zero_word (pos n) small is = ap pos is
zero_word (negsuc n) small is = absurd (omega (arith, small, is))

pub other_word : (x : ℤ) → (of_z w64 x ≡ 0 → ⊥) → x ≢ pos 0
other_word x differs same = differs (ap (of_z w64) same)

-- what was found and judged, by the numbers as they were before they were passed on
pub probes-as : (batch hidden : ℕ) (limit other_limit : ℤ) (cpu : CpuId) (j : PcpuId) (amount other_amount : ℤ)
    (steps : List PcpuStep) → limit ≡ other_limit → amount ≡ other_amount
    → Probes batch hidden limit cpu j amount steps → Probes batch hidden other_limit cpu j other_amount steps
probes-as batch hidden limit other_limit cpu j amount other_amount steps first second is =
    subst (λ (a : ℤ). Probes batch hidden other_limit cpu j a steps) second
    (subst (λ (l : ℤ). Probes batch hidden l cpu j amount steps) first is)

pub judges-as : (hidden : ℕ) (limit other_limit : ℤ) (cpus : List CpuId) (j : PcpuId)
    (amount other_amount value other_value : ℤ) (steps : List PcpuStep) (answer : Bool) → limit ≡ other_limit
    → amount ≡ other_amount → value ≡ other_value → Judges hidden limit cpus j amount value steps answer
    → Judges hidden other_limit cpus j other_amount other_value steps answer
judges-as hidden limit other_limit cpus j amount other_amount value other_value steps answer first second third is =
    subst (λ (x : ℤ). Judges hidden other_limit cpus j other_amount x steps answer) third
    (subst (λ (a : ℤ). Judges hidden other_limit cpus j a value steps answer) second
    (subst (λ (l : ℤ). Judges hidden l cpus j amount value steps answer) first is))

module _ (old : Pass PcpuFacts PcpuStep) (cpu : CpuId) (j : PcpuId) (limit amount : ℤ)
    (may : MayChangePcpu old.facts old.seen old.number cpu j amount) (facts : PcpuFacts)
    (same : old.facts ≡ facts) where
  abbrev batch : ℕ
  batch = batch_at facts.base j.number

  abbrev hidden : ℕ
  hidden = unknown facts j.number

  abbrev Is : List PcpuStep → Bool → Type 0
  Is steps answer = IsLimitedAdd batch hidden (present_cpus facts) cpu j limit amount steps answer

  -- nothing to add
  pub limited_nothing : amount ≡ pos 0 → (steps : List PcpuStep) × Is steps true × Made percpu old old steps
  limited_nothing none = (
    [],
    nothing none,
    record {
      table = refl;
      facts = refl;
      number = refl;
      cpu = refl;
      made = made-none percpu old.facts old.seen old.number may.calls.legal may.calls.lives;
    },
  )

  allowed : (steps : List PcpuStep) (answer : Bool) → Is steps answer → MayMake old.facts old.number old.seen steps
  allowed steps answer is = MakesLimitedAdd-holds old.facts old.seen old.number cpu j limit amount steps answer may
      (subst (λ (f : PcpuFacts). IsLimitedAdd (batch_at f.base j.number) (unknown f j.number) (present_cpus f) cpu j
      limit amount steps answer) (sym same) is)

  module _ (some : amount ≢ pos 0) where
    -- without the lock
    module _ (loaded : Pass PcpuFacts PcpuStep) (l : ℤ) (load : MadeOne percpu loaded old (LoadL j cpu l)) where
      pub probed_large : batch < unsigned_abs (l +ℤ amount)
          → (steps : List PcpuStep) × Probes batch hidden limit cpu j amount steps × Made percpu loaded old steps
      probed_large above = (LoadL j cpu l ∷ [], large l above, load.all)

      module _ (fits : unsigned_abs (l +ℤ amount) ≤ batch) (counted : Pass PcpuFacts PcpuStep) (v : ℤ)
          (count : MadeOne percpu counted loaded (LoadC j v)) where
        pub both : Made percpu counted old (LoadL j cpu l ∷ LoadC j v ∷ [])
        both = calls-next percpu counted loaded old (LoadL j cpu l ∷ []) (LoadC j v) count load.all

        pub probed_narrow : room limit amount v <ℤ pos hidden
            → (steps : List PcpuStep) × Probes batch hidden limit cpu j amount steps × Made percpu counted old steps
        probed_narrow small = (LoadL j cpu l ∷ LoadC j v ∷ [], narrow l v fits small, both)

        module _ (wide : pos hidden ≤ℤ room limit amount v) where
          pub unlocked-may : MayMake counted.facts counted.number counted.seen (AddL j amount ∷ [])
          unlocked-may = may-rest counted old (LoadL j cpu l ∷ LoadC j v ∷ []) (AddL j amount ∷ []) both
              (allowed (LoadL j cpu l ∷ LoadC j v ∷ AddL j amount ∷ []) true (unlocked l v some fits wide))

          pub unlocked-made : (new : Pass PcpuFacts PcpuStep) → MadeOne percpu new counted (AddL j amount)
              → (steps : List PcpuStep) × Is steps true × Made percpu new old steps
          unlocked-made new add = (
            LoadL j cpu l ∷ LoadC j v ∷ AddL j amount ∷ [],
            unlocked l v some fits wide,
            calls-next percpu new counted old (LoadL j cpu l ∷ LoadC j v ∷ []) (AddL j amount) add both,
          )

    -- under the lock
    module _ (probed : Pass PcpuFacts PcpuStep) (probing : List PcpuStep)
        (probes : Probes batch hidden limit cpu j amount probing) (probe : Made percpu probed old probing)
        (held : Pass PcpuFacts PcpuStep) (locking : List PcpuStep) (locks : Locks j locking)
        (lock : Made percpu held probed locking) (loaded : Pass PcpuFacts PcpuStep) (v : ℤ)
        (load : MadeOne percpu loaded held (LoadC j v)) (judged : Pass PcpuFacts PcpuStep) (loads : List PcpuStep)
        (all : Made percpu judged loaded loads) where
      front : Made percpu judged old ((probing ++ locking) ++ LoadC j v ∷ loads)
      front = calls-both percpu judged held old (probing ++ locking) (LoadC j v ∷ loads)
          (calls-both percpu judged loaded held (LoadC j v ∷ []) loads all load.all)
          (calls-both percpu held probed old probing locking lock probe)

      module _ (answer : Bool) (ending : List PcpuStep)
          (judges : Judges hidden limit (present_cpus facts) j amount (v +ℤ amount) loads answer)
          (settles : EndsLimitedAdd cpu j amount answer ending) where
        whole : Is ((probing ++ locking) ++ LoadC j v ∷ (loads ++ ending)) answer
        whole = locked v answer probing locking loads ending some probes locks judges settles

        pub ending-may : MayMake judged.facts judged.number judged.seen ending
        ending-may = may-rest judged old ((probing ++ locking) ++ LoadC j v ∷ loads) ending front
            (subst (MayMake old.facts old.number old.seen)
            (sym (append_assoc (probing ++ locking) (LoadC j v ∷ loads) ending))
            (allowed ((probing ++ locking) ++ LoadC j v ∷ (loads ++ ending)) answer whole))

        pub ending-made : (new : Pass PcpuFacts PcpuStep) → Made percpu new judged ending
            → (steps : List PcpuStep) × Is steps answer × Made percpu new old steps
        ending-made new made = (
          (probing ++ locking) ++ LoadC j v ∷ (loads ++ ending),
          whole,
          subst (Made percpu new old) (append_assoc (probing ++ locking) (LoadC j v ∷ loads) ending)
              (calls-both percpu new judged old ((probing ++ locking) ++ LoadC j v ∷ loads) ending made front),
        )
