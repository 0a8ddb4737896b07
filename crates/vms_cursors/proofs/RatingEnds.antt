-- A call that gives thresholds can be completed where the rules answer, from each position that may find a CPU online.
use Rattle.std.proofs.Common.{◌≡◌, ℕ, suc, zero, ◌+◌, ◌-◌, ◌<◌, ◌≤◌, Bool, List, [], ◌∷◌, ◌++◌, length, refl, sym, ap}
use Rattle.std.proofs.Common.{subst, ◌∙◌, ⊎_elim, append-nil, append_assoc, length-append, arith}
use Rattle.vms_calls.specs.Common.{CpuId, CpuState, Facts, Header, History, IsLayout, LoadO, Online, State, Step}
use Rattle.vms_calls.specs.Common.{ZoneSize, after, facts_of, online_from, size_at}
use Rattle.vms_plans.specs.Common.{Plan, Runs, SomeStepFits, asks, ends, refuses, states_plan, waits}
use Rattle.vms_plans.proofs.PlanLaws.{runs-and_after}
use Rattle.vms_cursors.specs.Completions.{CanEnd, FoundOnline, MayFindOnline, RulesAnswerFor, RulesAnswerOnline}
use Rattle.vms_cursors.specs.OnlineCpus.{flagged, is_flagged}
use Rattle.vms_cursors.specs.RatingCalls.{choice_in, visited_from}
use Rattle.vms_cursors.specs.Ratings.{IsPositionWithin, online_in, online_plan, rating_at}
use Rattle.vms_cursors.specs.declared.rated.Rated.{Rated}
use Rattle.vms_cursors.specs.declared.rating_calls.RatingCall.{RatingCall}
use Rattle.vms_cursors.specs.declared.rating_calls.RatingCall.TheVariants as call
use Rattle.vms_cursors.specs.declared.rating_positions.RatingPosition.{RatingPosition}
use Rattle.vms_cursors.specs.declared.rating_positions.RatingPosition.TheVariants.{Asks, Mark, Nodes, Numbers, States}
use Rattle.vms_cursors.specs.declared.rating_positions.RatingPosition.TheVariants.{Thresholds, Zones}
use Rattle.vms_cursors.proofs.FlaggedCpus.{count-next, one_more-most}
use Rattle.vms_cursors.proofs.OpenPositions.{IsGood, IsSure, rating-open, zones-open}

-- some answer of the rule is allowed
abbrev pub Something : (ℕ → ℕ → Type 0) → Type 0
Something Allows = (t : ℕ) × (usual : ℕ) × Allows t usual

pub good-ends : {A : Type 0} → SomeStepFits → (plan : Plan A) → IsGood Something plan → CanEnd plan
good-ends fits (ends a) good = ([], a, refl)
good-ends fits refuses good = absurd good
good-ends fits (waits due next) good =
    let first = fits due in
    let more = good-ends fits (next first.0) (good first.0 first.1) in
    (first.0 ∷ more.0, more.1, (first.1, more.2))
good-ends fits (asks Allows next) good =
    let t = good.0.0 in
    let usual = good.0.1 in
    let more = good-ends fits (next t usual) (good.1 t usual good.0.2) in
    (more.0, more.1, (t, usual, good.0.2, more.2))

pub some-choice : (header : Header) (pressure normal : ZoneSize → ℕ → ℕ → Type 0) (c : RatingCall) (g n : ℕ)
    → RulesAnswerFor header pressure normal g n → Something (choice_in c pressure normal (size_at header.sizes g) n)
some-choice header pressure normal (call.Pressure node) g n found = (found.0.0, found.1.0, (found.0.1, found.1.1))
some-choice header pressure normal (call.Normal node) g n found = (found.1.0, found.1.0, (found.1.1, refl))
some-choice header pressure normal call.Refresh g n found = (found.1.0, found.1.0, (found.1.1, refl))

-- n CPUs from CPU c on that are all online
abbrev onlines : ℕ → List CpuState
onlines zero = []
onlines (suc n) = Online ∷ onlines n

abbrev loads : ℕ → ℕ → List Step
loads c zero = []
loads c (suc n) = LoadO (record { number = c }) Online ∷ loads (suc c) n

states-run : (c n : ℕ) (before : List CpuState) → Runs (states_plan c n before) (loads c n) (before ++ onlines n)
states-run c zero before = sym (append-nil before)
states-run c (suc n) before = (
  refl,
  subst (Runs (states_plan (suc c) n (before ++ (Online ∷ []))) (loads (suc c) n))
      (append_assoc before (Online ∷ []) (onlines n)) (states-run (suc c) n (before ++ (Online ∷ []))),
)

online-count : (c n : ℕ) → length (online_from c (onlines n)) ≡ n
online-count c zero = refl
online-count c (suc n) = ap suc (online-count (suc c) n)

flagged-most : (flags : List Bool) (n : ℕ) → length (flagged flags 0 n) ≤ n
flagged-most flags zero = omega arith
flagged-most flags (suc n) =
    let next : n + 1 ≡ suc n = omega arith in
    let most = one_more-most (is_flagged flags n) (length (flagged flags 0 n)) n (flagged-most flags n) in
    let count = count-next flags n in
    subst (λ k. length (flagged flags 0 k) ≤ k) next (omega (arith, most, count))

module _ (header : Header) (valid : IsLayout header.layout) (base : State) (p : ℕ)
    (pressure normal : ZoneSize → ℕ → ℕ → Type 0) (fits : SomeStepFits)
    (rules : RulesAnswerOnline header pressure normal) (call : RatingCall) where
  abbrev facts : Facts
  facts = facts_of header base

  sure-of : (online : List CpuId) → 1 ≤ length online → length online ≤ 128
      → IsSure Something facts p pressure normal call online
  sure-of online least most g =
      some-choice header pressure normal call g (length online) (rules g (length online) least most)

  sure-in : (seen : Rated) → FoundOnline header.layout seen
      → IsSure Something facts p pressure normal call (online_in facts p pressure normal call seen)
  sure-in seen found =
      let few = flagged-most seen.online.flags header.layout.cpus in
      sure-of (online_in facts p pressure normal call seen) found (omega (arith, few, valid.cpus_most))

  pub rating-ends : (h : History) (at : RatingPosition) → IsPositionWithin header.layout at
      → MayFindOnline header.layout at → CanEnd (rating_at facts p pressure normal call h at)
  rating-ends h (States online c) within may =
      let n : ℕ = header.layout.cpus - c in
      let more = λ (found : List CpuState × History).
      online_plan facts p pressure normal call (flagged online.flags 0 c ++ online_from c found.0) found.1 in
      let list : List CpuId = flagged online.flags 0 c ++ online_from c (onlines n) in
      let count : length list ≡ length (flagged online.flags 0 c) + n =
      length-append (flagged online.flags 0 c) (online_from c (onlines n))
      ∙ ap (λ k. length (flagged online.flags 0 c) + k) (online-count c n) in
      let few = flagged-most online.flags c in
      let most : length list ≤ 128 = omega (arith, count, few, within, valid.cpus_most) in
      let least : 1 ≤ length list = ⊎_elim (λ (less : c < header.layout.cpus). omega (arith, count, less))
      (λ (some : 1 ≤ length (flagged online.flags 0 c)). omega (arith, count, some)) may in
      let h' : History = after p (loads c n) h in
      let rest = good-ends fits (online_plan facts p pressure normal call list h')
      (zones-open Something facts p pressure normal call list (sure-of list least most) []
      (visited_from header.layout call 0 (length header.layout.zones)) [] h') in (
        loads c n ++ rest.0,
        rest.1,
        runs-and_after p (states_plan c n []) h more (loads c n) rest.0 (onlines n) rest.1 (states-run c n []) rest.2,
      )
  rating-ends h (Zones seen g) within may = good-ends fits (rating_at facts p pressure normal call h (Zones seen g))
      (rating-open Something facts p pressure normal call h (Zones seen g) (sure-in seen may))
  rating-ends h (Numbers seen g c) within may =
      good-ends fits (rating_at facts p pressure normal call h (Numbers seen g c))
      (rating-open Something facts p pressure normal call h (Numbers seen g c) (sure-in seen may))
  rating-ends h (Asks seen g m) within may =
      good-ends fits (rating_at facts p pressure normal call h (Asks seen g m))
      (rating-open Something facts p pressure normal call h (Asks seen g m) (sure-in seen may))
  rating-ends h (Mark seen g t m) within may =
      good-ends fits (rating_at facts p pressure normal call h (Mark seen g t m))
      (rating-open Something facts p pressure normal call h (Mark seen g t m) (sure-in seen may))
  rating-ends h (Thresholds seen g t c) within may =
      good-ends fits (rating_at facts p pressure normal call h (Thresholds seen g t c))
      (rating-open Something facts p pressure normal call h (Thresholds seen g t c) (sure-in seen may))
  rating-ends h (Nodes seen i c) within may =
      good-ends fits (rating_at facts p pressure normal call h (Nodes seen i c))
      (rating-open Something facts p pressure normal call h (Nodes seen i c) (tt {0}))
