-- Thresholds are set on CPUs that were found online, one after another.
use Rattle.std.proofs.Common.{◌≡◌, ℕ, suc, ◌+◌, ◌<◌, ◌≤◌, ◌&&◌, nat_eq, Bool, true, false, if◌then◌else◌, List, [], ◌∷◌}
use Rattle.std.proofs.Common.{◌++◌, length, get_or, take, refl, sym, ap, ◌∙◌, subst, arith, append_assoc, eqb-true}
use Rattle.std.specs.Prelude.{drop}
use Rattle.std.proofs.lemmas.Bool.{ne_eqb}
use Rattle.std.proofs.lemmas.List.{map-append, take_more, take-append-drop}
use Rattle.vms_calls.specs.Common.{CpuId, IsPlace, MayMake, threshold_steps, Facts, Step, SetT, threshold_sets_at}
use Rattle.vms_calls.specs.Common.{IsControl, SetsThreshold, pages, History, state_after}
use Rattle.vms_control.specs.Common.{FoundOnline, no_cpu, cpu_number_in, SetsAtMost, never, once}
use Rattle.vms_control.proofs.PassCalls.{has-made}
use Rattle.vms_control.proofs.StepCounts.{mark_sets-next, once-at, sets-next}
use Rattle.vms_seats.specs.Common.{Pass, Shared, IsFrom, Made, MadeOne, MakesStep}
use Rattle.vms_seats.proofs.Common.{calls-next}

module _ (g t : ℕ) (online : List CpuId) (i : ℕ) (i_in : i < length online) where
  -- the step for the next CPU
  abbrev pub next_set : Step
  next_set = SetT (get_or online i no_cpu) (record { number = g }) t

  pub sets-more : threshold_steps g t (take (i + 1) online) ≡ threshold_steps g t (take i online) ++ (next_set ∷ [])
  sets-more = ap (threshold_steps g t) (take_more online i no_cpu i_in)
      ∙ map-append (λ (c : CpuId). SetT c (record { number = g }) t) (take i online) (get_or online i no_cpu ∷ [])

  pub sets-parts : threshold_steps g t online
      ≡ threshold_steps g t (take i online) ++ (next_set ∷ threshold_steps g t (drop (i + 1) online))
  sets-parts = ap (threshold_steps g t) (sym (take-append-drop (i + 1) online))
      ∙ map-append (λ (c : CpuId). SetT c (record { number = g }) t) (take (i + 1) online) (drop (i + 1) online)
      ∙ ap (λ (ks : List Step). ks ++ threshold_steps g t (drop (i + 1) online)) sets-more
      ∙ append_assoc (threshold_steps g t (take i online)) (next_set ∷ [])
      (threshold_steps g t (drop (i + 1) online))

  module _ (words : Shared Facts) (now old : Pass Facts Step) (of : IsFrom old words)
      (made : Made pages now old (threshold_steps g t (take i online))) where
    -- it may be made
    pub may-set : MayMake words.facts old.number old.seen (threshold_steps g t online)
        → SetsThreshold words.facts now.seen (state_after words.facts now.seen) now.number
        (get_or online i no_cpu) (record { number = g }) t
    may-set may = subst (λ (p : ℕ). SetsThreshold words.facts now.seen (state_after words.facts now.seen) p
        (get_or online i no_cpu) (record { number = g }) t) (sym made.number)
        (may now.seen (threshold_steps g t (take i online)) next_set (threshold_steps g t (drop (i + 1) online))
        sets-parts (has-made words now old (threshold_steps g t (take i online)) of made) tt).2

    pub set-made : (new : Pass Facts Step) → MadeOne pages new now next_set
        → Made pages new old (threshold_steps g t (take (i + 1) online))
    set-made new one = subst (Made pages new old) (sym sets-more)
        (calls-next pages new now old (threshold_steps g t (take i online)) next_set one made)

  -- how often each was set by then
  module _ (facts : Facts) (found : FoundOnline facts online) (g_in : IsPlace facts.layout g)
      (later now earlier : History) (p : ℕ) (at : MakesStep pages facts later now p next_set)
      (control : IsControl now p) (sets : SetsAtMost facts (once g (suc g)) never now earlier)
      (unset : (j : ℕ) → i ≤ j → j < length online →
      threshold_sets_at (state_after facts now) (cpu_number_in online j) g
      ≡ threshold_sets_at (state_after facts earlier) (cpu_number_in online j) g) where
    abbrev c : ℕ
    c = cpu_number_in online i

    pub set-counts : SetsAtMost facts (once g (suc g)) never later earlier
    set-counts = record {
      thresholds = λ d f d_in f_in.
          by d f (nat_eq c d) (nat_eq g f) refl refl (sets-next facts later now p next_set at control d f f_in)
          (sets.thresholds d f d_in f_in);
      marks = λ f f_in. omega (arith, mark_sets-next facts later now p next_set at control f, sets.marks f f_in);
    }
      where
        by : (d f : ℕ) (a b : Bool) → nat_eq c d ≡ a → nat_eq g f ≡ b
            → threshold_sets_at (state_after facts later) d f
            ≡ (if a && b then suc (threshold_sets_at (state_after facts now) d f)
            else threshold_sets_at (state_after facts now) d f)
            → threshold_sets_at (state_after facts now) d f
            ≤ once g (suc g) f + threshold_sets_at (state_after facts earlier) d f
            → threshold_sets_at (state_after facts later) d f
            ≤ once g (suc g) f + threshold_sets_at (state_after facts earlier) d f
        by d f true true of_cpu of_place set before =
            let first : threshold_sets_at (state_after facts now) d f
            ≡ threshold_sets_at (state_after facts earlier) d f =
            subst (λ (e : ℕ). threshold_sets_at (state_after facts now) d e
            ≡ threshold_sets_at (state_after facts earlier) d e) (eqb-true g f of_place)
            (subst (λ (e : ℕ). threshold_sets_at (state_after facts now) e g
            ≡ threshold_sets_at (state_after facts earlier) e g) (eqb-true c d of_cpu)
            (unset i (omega arith) i_in)) in
            omega (arith, set, first, once-at g f of_place)
        by d f true false of_cpu of_place set before = omega (arith, set, before)
        by d f false b of_cpu of_place set before = omega (arith, set, before)

    pub set-unset : (j : ℕ) → i + 1 ≤ j → j < length online →
        threshold_sets_at (state_after facts later) (cpu_number_in online j) g
        ≡ threshold_sets_at (state_after facts earlier) (cpu_number_in online j) g
    set-unset j past j_in =
        let rises = found.ascending i j (omega arith) j_in in
        sets-next facts later now p next_set at control (cpu_number_in online j) g g_in
        ∙ ap (λ (b : Bool). if b && nat_eq g g
        then suc (threshold_sets_at (state_after facts now) (cpu_number_in online j) g)
        else threshold_sets_at (state_after facts now) (cpu_number_in online j) g)
        (ne_eqb c (cpu_number_in online j) (λ same. omega arith))
        ∙ unset j (omega arith) j_in
