-- What CPUs acknowledged is loaded, one after another. The first load tells that the pass is the control pass.
use Rattle.std.proofs.Common.{◌≡◌, ℕ, ◌+◌, ◌<◌, List, [], ◌∷◌, ◌++◌, length, get_or, take, refl, sym, ap, ◌∙◌, subst}
use Rattle.std.proofs.Common.{arith, length-append, Option}
use Rattle.std.proofs.lemmas.List.{length-take-le, take_more}
use Rattle.vms_calls.specs.Common.{CpuId, acknowledged_steps, Facts, Step, LoadA, IsControl, pages}
use Rattle.vms_core.specs.Pages.{IsLegal}
use Rattle.vms_core.proofs.Common.{owner_in-goes_on}
use Rattle.vms_control.specs.Common.{no_cpu}
use Rattle.vms_control.proofs.PassCalls.{step-at}
use Rattle.vms_seats.specs.Common.{Pass, Shared, IsFrom, Made, MadeOne}
use Rattle.vms_seats.proofs.Common.{calls-next}

-- one load more
acknowledged-more : (g : ℕ) (cs : List CpuId) (numbers : List (Option ℕ)) (c : CpuId) (x : Option ℕ)
    → length cs ≡ length numbers → acknowledged_steps g (cs ++ (c ∷ [])) (numbers ++ (x ∷ []))
    ≡ acknowledged_steps g cs numbers ++ (LoadA c (record { number = g }) x ∷ [])
acknowledged-more g [] [] c x same = refl
acknowledged-more g [] (y ∷ ys) c x same = absurd (omega arith)
acknowledged-more g (d ∷ ds) [] c x same = absurd (omega arith)
acknowledged-more g (d ∷ ds) (y ∷ ys) c x same =
    ap (λ (ks : List Step). LoadA d (record { number = g }) y ∷ ks) (acknowledged-more g ds ys c x (omega arith))

module _ (g i : ℕ) (online : List CpuId) (i_in : i < length online) (new now old : Pass Facts Step) (x : Option ℕ)
    (one : MadeOne pages new now (LoadA (get_or online i no_cpu) (record { number = g }) x)) where
  pub loads-more : (numbers : List (Option ℕ)) × (length numbers ≡ i)
      × Made pages now old (acknowledged_steps g (take i online) numbers)
      → (numbers : List (Option ℕ)) × (length numbers ≡ i + 1)
      × Made pages new old (acknowledged_steps g (take (i + 1) online) numbers)
  loads-more so_far =
      let numbers = so_far.0 in
      let short : length (take i online) ≡ i = length-take-le i online (omega arith) in (
        numbers ++ (x ∷ []),
        length-append numbers (x ∷ []) ∙ ap (λ (n : ℕ). n + 1) so_far.1,
        subst (Made pages new old)
            (sym (ap (λ (cs : List CpuId). acknowledged_steps g cs (numbers ++ (x ∷ [])))
            (take_more online i no_cpu i_in)
            ∙ acknowledged-more g (take i online) numbers (get_or online i no_cpu) x (short ∙ sym so_far.1)))
            (calls-next pages new now old (acknowledged_steps g (take i online) numbers)
            (LoadA (get_or online i no_cpu) (record { number = g }) x) one so_far.2),
      )

  pub load-controls : (words : Shared Facts) → IsFrom now words → IsControl now.seen now.number
  load-controls words of =
      let at = step-at words new now (LoadA (get_or online i no_cpu) (record { number = g }) x) of one in
      let legal = subst (IsLegal words.facts) at.newest at.legal in
      sym (owner_in-goes_on words.facts at.before now.seen now.number at.others) ∙ legal.2.control
