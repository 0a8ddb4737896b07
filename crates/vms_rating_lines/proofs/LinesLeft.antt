-- The lines that a loop over the CPUs has not come to yet.
use Rattle.std.proofs.Common.{◌≡◌, ℕ, suc, ◌+◌, ◌<◌, Bool, true, false, if◌then◌else◌, List, [], ◌∷◌, ◌++◌, length, map}
use Rattle.std.proofs.Common.{drop, refl, sym, ap, ◌∙◌, add-one, append-nil}
use Rattle.std.proofs.lemmas.List.{drop_more}
use Rattle.vms_calls.specs.Common.{Absent, CpuId, CpuState, Step, in_turn, is_online, online_from, state_at}
use Rattle.vms_written_lines.specs.Spelling.{event_line}
use Rattle.vms_written_lines.specs.WideSteps.{widened}
use Rattle.vms_rating_lines.specs.Lines.{step_lines}
use Rattle.vms_rating_lines.proofs.StepLines.{lines-then}

-- a step for a CPU if it is online
abbrev pub if_online : (CpuId → Step) → ℕ → CpuState → List Step
if_online step n x = if is_online x then step (record { number = n }) ∷ [] else []

pub online-turns : (step : CpuId → Step) (n : ℕ) (xs : List CpuState)
    → in_turn (if_online step) n xs ≡ map step (online_from n xs)
online-turns step n [] = refl
online-turns step n (x ∷ xs) = by (is_online x) (online-turns step (suc n) xs)
  where
    by : (b : Bool) → in_turn (if_online step) (suc n) xs ≡ map step (online_from (suc n) xs)
        → (if b then step (record { number = n }) ∷ [] else []) ++ in_turn (if_online step) (suc n) xs
        ≡ map step (if b then record { number = n } ∷ online_from (suc n) xs else online_from (suc n) xs)
    by true rest = ap (λ ks. step (record { number = n }) ∷ ks) rest
    by false rest = rest

module _ (p : ℕ) where
  pub lines-one : (x : Step) (out out' : List ℕ) → out' ≡ out ++ event_line p (widened x)
      → out' ≡ out ++ step_lines p (x ∷ [])
  lines-one x out out' written = written ∙ ap (λ ys. out ++ ys) (sym (append-nil (event_line p (widened x))))

  module _ (xs : List CpuState) (n : ℕ) (within : n < length xs) (whole out out' : List ℕ) where
    -- the steps for a CPU more
    pub turns-next : (told : ℕ → CpuState → List Step) → out' ≡ out ++ step_lines p (told n (state_at xs n))
        → out ++ step_lines p (in_turn told n (drop n xs)) ≡ whole
        → out' ++ step_lines p (in_turn told (n + 1) (drop (n + 1) xs)) ≡ whole
    turns-next told written come =
        let rest = drop (n + 1) xs in
        let here = told n (state_at xs n) in
        lines-then p here out out' (in_turn told (n + 1) rest) written
        ∙ ap (λ (m : ℕ). out ++ step_lines p (here ++ in_turn told m rest)) (add-one n)
        ∙ ap (λ ys. out ++ step_lines p (in_turn told n ys)) (sym (drop_more xs n Absent within)) ∙ come

    module _ (step : CpuId → Step) (come : out ++ step_lines p (in_turn (if_online step) n (drop n xs)) ≡ whole) where
      pub online-next : is_online (state_at xs n) ≡ true
          → out' ≡ out ++ event_line p (widened (step (record { number = n })))
          → out' ++ step_lines p (in_turn (if_online step) (n + 1) (drop (n + 1) xs)) ≡ whole
      online-next on written = turns-next (if_online step)
          (lines-one (step (record { number = n })) out out' written
          ∙ ap (λ b. out ++ step_lines p (if b then step (record { number = n }) ∷ [] else [])) (sym on)) come

      pub other-next : is_online (state_at xs n) ≡ false → out' ≡ out
          → out' ++ step_lines p (in_turn (if_online step) (n + 1) (drop (n + 1) xs)) ≡ whole
      other-next off same = turns-next (if_online step)
          (same ∙ sym (append-nil out)
          ∙ ap (λ b. out ++ step_lines p (if b then step (record { number = n }) ∷ [] else [])) (sym off)) come
