-- Each step that a pass may make changes one word as its effect says.
use Rattle.std.proofs.Common.{◌≡◌, ℕ, ◌+◌, ◌%◌, ◌≤◌, ◌^◌, ◌==◌, Bool, true, false, [], ◌∷◌, Some, if◌then◌else◌, ℤ, pos}
use Rattle.std.proofs.Common.{negsuc, ◌+ℤ◌, unsigned_abs, set, refl, sym, ap, ◌∙◌, subst, arith}
use Rattle.std.proofs.lemmas.Int.{ints, to_z-of_z}
use Rattle.std.proofs.lemmas.List.{set-get_or}
use Rattle.std.specs.Int.{w64}
use mir.Val.{SFits}
use Rattle.vms_history.specs.Common.{CpuId, PcpuId, word_of, signed_of_word, IsCpu, Acts, GoesOnWithout, owner_in}
use Rattle.vms_history.specs.Common.{Works}
use Rattle.vms_history.proofs.Common.{made-owner, live_is_given}
use Rattle.vms_pcpu_core.specs.declared.steps.PcpuFacts.{PcpuFacts}
use Rattle.vms_pcpu_core.specs.declared.steps.PcpuStep.{PcpuStep}
use Rattle.vms_pcpu_core.specs.declared.steps.PcpuStep.TheVariants.{AddL, LoadL, LoadC, Won, Missed, TakeL, AddC}
use Rattle.vms_pcpu_core.specs.declared.steps.PcpuStep.TheVariants.{Unlock}
use Rattle.vms_pcpu_core.specs.Common.{percpu, History, IsLegal, state_after, KeepsLaws, most_number, event, MayMake}
use Rattle.vms_pcpu_core.specs.Common.{LockedState, IsPcpu, counters_of, count_at, local_at, held_at, role, effect}
use Rattle.vms_pcpu_core.proofs.Common.{laws-kept, step_number-small}
use Rattle.vms_pcpu.specs.SharedWords.{shown}
use Rattle.vms_pcpu.specs.Common.{told, count_place, lock_word, lock_place, local_place}
use Rattle.vms_pcpu.proofs.CallSteps.{may-now}
use Rattle.vms_pcpu.proofs.ShownNumbers.{shown-count, shown-lock, shown-local, shown-with_count, shown-with_held}
use Rattle.vms_pcpu.proofs.ShownNumbers.{shown-with_local}
use Rattle.vms_seats.specs.Common.{Pass, MayStep, NextStep}

pub fits-64 : (z : ℤ) → unsigned_abs z ≤ most_number → SFits w64 z
fits-64 (pos n) small = record { sfits = omega (arith, ints) }
fits-64 (negsuc n) small = record { sfits = omega (arith, ints) }

-- a small number is told by its word
pub number-told : (z : ℤ) → unsigned_abs z ≤ most_number → signed_of_word (word_of z) ≡ z
number-told z small = to_z-of_z w64 z (fits-64 z small)

-- the word of a sum is the sum of the words
word-sum : (x y : ℤ) → unsigned_abs x ≤ most_number → unsigned_abs y ≤ most_number
    → (word_of x + word_of y) % 2 ^ 64 ≡ word_of (x +ℤ y)
word-sum (pos n) (pos m) low high = omega (arith, ints)
word-sum (pos n) (negsuc m) low high = omega (arith, ints)
word-sum (negsuc n) (pos m) low high = omega (arith, ints)
word-sum (negsuc n) (negsuc m) low high = omega (arith, ints)

module _ (pass : Pass PcpuFacts PcpuStep) where
  abbrev facts : PcpuFacts
  facts = pass.facts

  abbrev p : ℕ
  p = pass.number

  abbrev width : ℕ
  width = counters_of facts.base

  abbrev goes_on : History → Type 0
  goes_on h = GoesOnWithout percpu facts h pass.seen p

  acts : (h : History) → goes_on h → (step : PcpuStep) → role step ≡ Works → Acts percpu facts h p (role step)
  acts h goes step works = subst (Acts percpu facts h p) (sym works) (
    (λ main. let given = live_is_given percpu facts h p goes.legal goes.lives in absurd (omega (arith, main, given.0))),
    goes.lives,
  )

  laws : (h : History) → goes_on h → KeepsLaws facts h
  laws h goes = laws-kept facts [] h goes.legal

  pub owner-same : (h : History) → goes_on h → owner_in role h p ≡ owner_in role pass.seen p
  owner-same h goes = made-owner percpu facts h pass.seen p [] (record {
    legal = goes.legal;
    extends = goes.extends;
    lived = goes.lived;
    lives = goes.lives;
    made = goes.own_same;
  })

  module _ (j : PcpuId) (j_in : IsPcpu facts j.number) where
    pub count-load : MayStep percpu shown pass (count_place j.number) (λ n. n) (told (LoadC j (pos 0)))
    count-load h found goes fits stands =
        let s : LockedState = state_after facts h in
        let kept : KeepsLaws facts h = laws h goes in
        let is : found ≡ word_of (count_at s.numbers j.number) =
        sym stands ∙ shown-count facts s kept.shape j.number j_in in
        record {
          legal = (
            goes.legal,
            acts h goes (LoadC j (signed_of_word found)) refl,
            record {
              counter = j_in;
              value = sym (number-told (count_at s.numbers j.number) (kept.numbers j.number j_in).count)
                  ∙ ap signed_of_word (sym is);
            },
          );
          shows = sym (ap (set (shown facts s) (count_place j.number)) (sym stands) ∙ set-get_or (shown facts s) (count_place j.number) 0);
        }

    pub local-load : (c : CpuId) → IsCpu facts.layout c.number
        → MayStep percpu shown pass (local_place width c.number j.number) (λ n. n) (told (LoadL j c (pos 0)))
    local-load c c_in h found goes fits stands =
        let s : LockedState = state_after facts h in
        let kept : KeepsLaws facts h = laws h goes in
        let place : ℕ = local_place width c.number j.number in
        let is : found ≡ word_of (local_at s.numbers c.number j.number) =
        sym stands ∙ shown-local facts s kept.shape c.number j.number c_in j_in in
        record {
          legal = (
            goes.legal,
            acts h goes (LoadL j c (signed_of_word found)) refl,
            record {
              counter = j_in;
              cpu = c_in;
              value = sym (number-told (local_at s.numbers c.number j.number)
                  ((kept.numbers j.number j_in).local c.number c_in))
                  ∙ ap signed_of_word (sym is);
            },
          );
          shows = sym (ap (set (shown facts s) place) (sym stands) ∙ set-get_or (shown facts s) place 0);
        }

    pub lock-try : MayStep percpu shown pass (lock_place j.number) (λ n. if n == 0 then 1 else n)
        (told (Won j))
    lock-try h found goes fits stands = by (held_at s j.number) refl
      where
        s : LockedState
        s = state_after facts h

        place : ℕ
        place = lock_place j.number

        is : found ≡ lock_word (held_at s j.number)
        is = sym stands ∙ shown-lock facts s (laws h goes).shape j.number j_in

        by : (b : Bool) → held_at s j.number ≡ b
            → NextStep percpu shown facts h p place (if found == 0 then 1 else found) (told (Won j) found)
        by false free = subst
            (λ n. NextStep percpu shown facts h p place (if n == 0 then 1 else n) (told (Won j) n))
            (sym (is ∙ ap lock_word free)) (record {
              legal = (goes.legal, acts h goes (Won j) refl, record { counter = j_in; free = free });
              shows = shown-with_held facts s (laws h goes).shape j.number j_in true;
            })
        by true taken = subst
            (λ n. NextStep percpu shown facts h p place (if n == 0 then 1 else n) (told (Won j) n))
            (sym (is ∙ ap lock_word taken)) (record {
              legal = (goes.legal, acts h goes (Missed j) refl, record { counter = j_in; taken = taken });
              shows = sym (ap (set (shown facts s) place) (sym (stands ∙ is ∙ ap lock_word taken))
                  ∙ set-get_or (shown facts s) place 0);
            })

    pub lock-release : MayMake facts p pass.seen (Unlock j ∷ [])
        → MayStep percpu shown pass (lock_place j.number) (λ n. 0) (told (Unlock j))
    lock-release may h found goes fits stands = record {
      legal = may-now facts p pass.seen h (Unlock j) may goes tt;
      shows = shown-with_held facts (state_after facts h) (laws h goes).shape j.number j_in false;
    }

    pub local-take : (c : CpuId) → IsCpu facts.layout c.number
        → ((v : ℤ) → MayMake facts p pass.seen (TakeL j c v ∷ []))
        → MayStep percpu shown pass (local_place width c.number j.number) (λ n. 0) (told (TakeL j c (pos 0)))
    local-take c c_in may h found goes fits stands =
        let s : LockedState = state_after facts h in
        let kept : KeepsLaws facts h = laws h goes in
        let is : found ≡ word_of (local_at s.numbers c.number j.number) =
        sym stands ∙ shown-local facts s kept.shape c.number j.number c_in j_in in
        let tells : local_at s.numbers c.number j.number ≡ signed_of_word found =
        sym (number-told (local_at s.numbers c.number j.number) ((kept.numbers j.number j_in).local c.number c_in))
        ∙ ap signed_of_word (sym is) in
        record {
          legal = may-now facts p pass.seen h (TakeL j c (signed_of_word found))
              (may (signed_of_word found)) goes tells;
          shows = shown-with_local facts s kept.shape c.number j.number c_in j_in (pos 0);
        }

    pub count-add : (amount : ℤ) → MayMake facts p pass.seen (AddC j amount ∷ [])
        → MayStep percpu shown pass (count_place j.number) (λ n. (n + word_of amount) % 2 ^ 64) (told (AddC j amount))
    count-add amount may h found goes fits stands =
        let s : LockedState = state_after facts h in
        let kept : KeepsLaws facts h = laws h goes in
        let legal : IsLegal facts (event p (AddC j amount) ∷ h) =
        may-now facts p pass.seen h (AddC j amount) may goes tt in
        let is : found ≡ word_of (count_at s.numbers j.number) =
        sym stands ∙ shown-count facts s kept.shape j.number j_in in
        record {
          legal = legal;
          shows = shown-with_count facts s kept.shape j.number j_in (count_at s.numbers j.number +ℤ amount)
              ∙ ap (set (shown facts s) (count_place j.number))
              (sym (word-sum (count_at s.numbers j.number) amount (kept.numbers j.number j_in).count
              (step_number-small facts (event p (AddC j amount)) h legal))
              ∙ ap (λ n. (n + word_of amount) % 2 ^ 64) (sym is));
        }

    pub local-add : (c : CpuId) → IsCpu facts.layout c.number → owner_in role pass.seen p ≡ Some c → (amount : ℤ)
        → MayMake facts p pass.seen (AddL j amount ∷ [])
        → MayStep percpu shown pass (local_place width c.number j.number) (λ n. (n + word_of amount) % 2 ^ 64)
        (told (AddL j amount))
    local-add c c_in owns amount may h found goes fits stands =
        let s : LockedState = state_after facts h in
        let kept : KeepsLaws facts h = laws h goes in
        let legal : IsLegal facts (event p (AddL j amount) ∷ h) =
        may-now facts p pass.seen h (AddL j amount) may goes tt in
        let is : found ≡ word_of (local_at s.numbers c.number j.number) =
        sym stands ∙ shown-local facts s kept.shape c.number j.number c_in j_in in
        record {
          legal = legal;
          shows = ap (λ who. shown facts (effect facts who (AddL j amount) s)) (owner-same h goes ∙ owns)
              ∙ shown-with_local facts s kept.shape c.number j.number c_in j_in
              (local_at s.numbers c.number j.number +ℤ amount)
              ∙ ap (set (shown facts s) (local_place width c.number j.number))
              (sym (word-sum (local_at s.numbers c.number j.number) amount
              ((kept.numbers j.number j_in).local c.number c_in)
              (step_number-small facts (event p (AddL j amount)) h legal))
              ∙ ap (λ n. (n + word_of amount) % 2 ^ 64) (sym is));
        }
