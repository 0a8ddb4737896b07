-- What words tell of a state, and which step a call makes that finds a number.
use Rattle.std.specs.Prelude.{◌≡◌, ℕ, suc, zero, ◌/◌, ◌%◌, ◌^◌, ◌==◌, if◌then◌else◌, Option, Some, None, refl}
use Rattle.vms_calls.specs.Common.{CpuId, CpuState, Online, Dead, Absent, signed_of_word, group_of, Begins, Ends, Step}
use Rattle.vms_calls.specs.Common.{LoadT, LoadD, Put, Miss, Take, LoadG, LoadS, LoadM, LoadO, LoadA, Split, Join, role}
use Rattle.vms_base.specs.Groups.{word_of_bytes}
use Rattle.vms_words.specs.Lists.{list_told}

-- the state of a CPU
abbrev pub cpu_told : ℕ → CpuState
cpu_told zero = Online
cpu_told (suc zero) = Dead
cpu_told (suc (suc n)) = Absent

-- the number that was acknowledged
abbrev pub acknowledgement_told : ℕ → Option ℕ
acknowledgement_told zero = None
acknowledgement_told (suc n) = Some n

-- a load tells the numbers in the word that it finds, and so does a take. A put is a miss where it finds another list
abbrev pub told : Step → ℕ → Step
told (LoadT g t a) found = LoadT g (found % 2 ^ 32) (found / 2 ^ 32)
told (LoadD c j w) found = LoadD c j (list_told found)
told (Put k w t delta how) found =
    if found == word_of_bytes w.values
    then Put k w t delta how
    else Miss (record { number = group_of k.number }) w
told (Take c j w) found = Take c j (list_told found)
told (LoadG k v) found = LoadG k (signed_of_word found)
told (LoadS i v) found = LoadS i (signed_of_word found)
told (LoadM g m a) found = LoadM g (found % 2 ^ 43) (found / 2 ^ 43)
told (LoadO c x) found = LoadO c (cpu_told found)
told (LoadA c g x) found = LoadA c g (acknowledgement_told found)
told step found = step

pub begins_it : (q : ℕ) (who : Option CpuId) → role (Split q who) ≡ Begins q who
begins_it q who = refl

pub ends_it : (q : ℕ) → role (Join q) ≡ Ends q
ends_it q = refl
