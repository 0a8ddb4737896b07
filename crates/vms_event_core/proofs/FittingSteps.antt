-- The steps of each call may be made while others act.
use Rattle.std.proofs.Common.{◌≡◌, ◌≢◌, ℕ, zero, suc, ◌+◌, ◌<◌, ◌≤◌, Bool, true, false, List, [], ◌∷◌, ◌++◌, length}
use Rattle.std.proofs.Common.{Some, None, All, inl, inr, pos, refl, sym, ap, ◌∙◌, subst, arith, if◌then◌else◌, nat_eq}
use Rattle.std.proofs.Common.{eq-eqb}
use Rattle.std.proofs.lemmas.Int.{ints}
use Rattle.std.proofs.lemmas.Bool.{cases_lt}
use Rattle.std.proofs.lemmas.List.{get_or_past}
use Rattle.std.proofs.lemmas.List.Elements.{All-nil, All-cons, All-head, All-tail, All-weaker}
use Rattle.vms_history.specs.Common.{CpuId, EventId, CpuState, Dead, Absent, online_from, is_online, state_at, IsCpu}
use Rattle.vms_history.specs.Common.{most_volume, own, after, total, owner_in}
use Rattle.vms_history.proofs.Common.{base_can_begin, made-given, made-owner}
use Rattle.vms_event_core.specs.declared.call_values.EventAnswer.{EventAnswer}
use Rattle.vms_event_core.specs.declared.call_values.EventAnswer.TheVariants.{Done, Total}
use Rattle.vms_event_core.specs.declared.call_values.EventCall.{EventCall}
use Rattle.vms_event_core.specs.declared.call_values.EventCall.TheVariants.{Count, Sum, FoldDead}
use Rattle.vms_event_core.specs.declared.steps.EventFacts.{EventFacts}
use Rattle.vms_event_core.specs.declared.steps.EventStep.{EventStep}
use Rattle.vms_event_core.specs.declared.steps.EventStep.TheVariants.{AddE, LoadE, TakeE, AddF, Split, Join}
use Rattle.vms_event_core.specs.Common.{cpu_at, IsBase, IsLowestOnline, IsEventCall, folds, loads, online_cpus, events}
use Rattle.vms_event_core.specs.Common.{History, IsLegal, HasMade, MayCall, MayMake, Tells, carried, CarriesNothing}
use Rattle.vms_event_core.specs.Common.{role, counted, spent, IsEvent, event_count}
use Rattle.vms_event_core.proofs.CallCarrying.{empty_take-moves, take_and_add-move}
use Rattle.vms_event_core.proofs.CallSpending.{spent-made}

module _ (facts : EventFacts) (p : ℕ) (earlier : History) where
  -- a pass that has counted nothing since may count
  record MayCount (g : History) (k : EventId) (n : ℕ) : Type 0 where
    cpu : CpuId
    owns : owner_in role earlier p ≡ Some cpu
    event : IsEvent k.number
    affordable : spent earlier cpu.number k.number + n ≤ most_volume
    none_since : total (counted k.number) g ≡ total (counted k.number) (own earlier p)

  -- the control pass may take a word
  record MayTake (c : CpuId) (k : EventId) : Type 0 where
    control : owner_in role earlier p ≡ None
    dead : cpu_at facts c.number ≡ Dead
    cpu : IsCpu facts.layout c.number
    event : IsEvent k.number

  -- it may add what it carries
  record MayAdd (g : History) (c : CpuId) (k : EventId) (v : ℕ) : Type 0 where
    cpu : IsCpu facts.layout c.number
    lowest : IsLowestOnline facts c.number
    event : IsEvent k.number
    carries : carried k.number g ≡ pos v
    some : v ≢ 0

  -- the condition of a step by the caller's own events, but for what the step tells
  abbrev Fits : History → EventStep → Type 0
  Fits g (AddE k n) = MayCount g k n
  Fits g (LoadE c k v) = IsCpu facts.layout c.number × IsEvent k.number
  Fits g (TakeE c k v) = MayTake c k
  Fits g (AddF c k v) = MayAdd g c k v
  Fits g _ = ⊥

  -- each of these steps fits once the ones before it are made
  abbrev Runs : List EventStep → History → Type 0
  Runs [] g = Unit {0}
  Runs (step ∷ steps) g = Fits g step × Runs steps (record { caller = p; step = step } ∷ g)

  runs-at : (done rest : List EventStep) (step : EventStep) (g : History) → Runs (done ++ (step ∷ rest)) g
      → Fits (after p done g) step
  runs-at [] rest step g runs = runs.0
  runs-at (first ∷ done) rest step g runs = runs-at done rest step (record { caller = p; step = first } ∷ g) runs.1

  module _ (later : History) (done : List EventStep) (made : HasMade facts later earlier p done) where
    given : p ≢ 0
    given main = let first = (made-given events facts later earlier p done made).0 in omega arith

    owner : owner_in role later p ≡ owner_in role earlier p
    owner = made-owner events facts later earlier p done made

    fits-may : (step : EventStep) → Fits (own later p) step → Tells facts later p step
        → IsLegal facts (record { caller = p; step = step } ∷ later)
    fits-may (AddE k n) fits tells =
        let along = spent-made facts later earlier p done made fits.cpu k.number fits.owns in
        let since : total (counted k.number) (after p done (own earlier p))
        ≡ total (counted k.number) (own earlier p) =
        ap (total (counted k.number)) (sym made.made) ∙ fits.none_since in
        let same : spent later fits.cpu.number k.number ≡ spent earlier fits.cpu.number k.number =
        omega (arith, ints, along, since) in (
          made.legal,
          (given, made.lives),
          record {
            cpu = fits.cpu;
            owns = owner ∙ fits.owns;
            event = fits.event;
            affordable = omega (arith, same, fits.affordable);
          },
        )
    fits-may (LoadE c k v) fits tells =
        (made.legal, (given, made.lives), record { cpu = fits.0; event = fits.1; value = tells })
    fits-may (TakeE c k v) fits tells = (
      made.legal,
      (given, made.lives),
      record {
        control = owner ∙ fits.control;
        dead = fits.dead;
        finds = record { cpu = fits.cpu; event = fits.event; value = tells };
      },
    )
    fits-may (AddF c k v) fits tells = (
      made.legal,
      (given, made.lives),
      record {
        cpu = fits.cpu;
        lowest = fits.lowest;
        event = fits.event;
        carries = fits.carries;
        some = fits.some;
      },
    )
    fits-may (Split q who) fits tells = absurd fits
    fits-may (Join q) fits tells = absurd fits

  -- steps that fit one after another may be made while others act
  runs-may : (steps : List EventStep) → (IsBase facts → Runs steps (own earlier p)) → MayMake facts p earlier steps
  runs-may steps runs later done step rest parts made tells =
      let base = base_can_begin events facts later made.legal in
      let fits = runs-at done rest step (own earlier p)
      (subst (λ ks. Runs ks (own earlier p)) parts (runs base)) in
      fits-may later done made step (subst (λ es. Fits es step) (sym made.made) fits) tells

  loads-run : (k : EventId) (cpus : List CpuId) (found : List ℕ) (g : History) → IsEvent k.number
      → All (λ c. IsCpu facts.layout c.number) cpus → Runs (loads k cpus found) g
  loads-run k [] found g k_in known = tt
  loads-run k (c ∷ cpus) [] g k_in known = tt
  loads-run k (c ∷ cpus) (v ∷ found) g k_in known = (
    (All-head (λ d. IsCpu facts.layout d.number) c cpus known, k_in),
    loads-run k cpus found _ k_in (All-tail (λ d. IsCpu facts.layout d.number) c cpus known),
  )

  module _ (from into : CpuId) (control : owner_in role earlier p ≡ None) (from_in : IsCpu facts.layout from.number)
      (dead : cpu_at facts from.number ≡ Dead) (into_in : IsCpu facts.layout into.number)
      (lowest : IsLowestOnline facts into.number) where
    may_take : (k : ℕ) → IsEvent k → MayTake from (record { number = k })
    may_take k k_in = record { control = control; dead = dead; cpu = from_in; event = k_in }

    folds-run : (k : ℕ) (found : List ℕ) (g : History) → CarriesNothing g → k + length found ≤ event_count
        → Runs (folds from into k found) g
    folds-run k [] g nothing few = tt
    folds-run k (zero ∷ found) g nothing few = (
      may_take k (omega arith),
      folds-run (suc k) found _ (λ l l_in. empty_take-moves (nat_eq k l) (carried l g) ∙ nothing l l_in) (omega arith),
    )
    folds-run k (suc v ∷ found) g nothing few =
        let same : nat_eq k k ≡ true = eq-eqb k k refl in
        let taken : (if nat_eq k k then pos (suc v) else pos 0) ≡ pos (suc v) = rw same refl in
        let none = nothing k (omega arith) in
        let adds : MayAdd (record { caller = p; step = TakeE from (record { number = k }) (suc v) } ∷ g) into
        (record { number = k }) (suc v) = record {
          cpu = into_in;
          lowest = lowest;
          event = omega arith;
          carries = omega (arith, ints, taken, none);
          some = λ e. omega arith;
        } in (
          may_take k (omega arith),
          (
            adds,
            folds-run (suc k) found _
                (λ l l_in. take_and_add-move (nat_eq k l) (suc v) (carried l g) ∙ nothing l l_in) (omega arith),
          ),
        )

-- a CPU that is not absent is one of those that have a state
present-known : (states : List CpuState) (c : ℕ) → state_at states c ≢ Absent → c < length states
present-known states c present = elim (cases_lt c (length states)) [
  | inl below ↦ below
  | inr past ↦ absurd (present (get_or_past states c Absent past))
]

-- so are those that are listed as online
online_from-known : (c : ℕ) (states : List CpuState) → All (λ d. d.number < c + length states) (online_from c states)
online_from-known c [] = All-nil (λ d. d.number < c + 0)
online_from-known c (x ∷ states) =
    by (is_online x) (All-weaker (λ d. d.number < suc c + length states) (λ d. d.number < c + suc (length states))
    (λ d below. omega arith) (online_from (suc c) states) (online_from-known (suc c) states))
  where
    by : (b : Bool) → All (λ d. d.number < c + suc (length states)) (online_from (suc c) states)
        → All (λ d. d.number < c + suc (length states))
        (if b then record { number = c } ∷ online_from (suc c) states else online_from (suc c) states)
    by true rest =
        All-cons (λ d. d.number < c + suc (length states)) (record { number = c }) (online_from (suc c) states)
        (omega arith) rest
    by false rest = rest

online_cpus-known : (facts : EventFacts) → IsBase facts → All (λ c. IsCpu facts.layout c.number) (online_cpus facts)
online_cpus-known facts base =
    All-weaker (λ d. d.number < 0 + length facts.cpus) (λ d. IsCpu facts.layout d.number)
    (λ d below. let each = base.one_state_each in omega arith) (online_cpus facts) (online_from-known 0 facts.cpus)

pub call-may : (facts : EventFacts) (h : History) (p : ℕ) (call : EventCall) (steps : List EventStep)
    (answer : EventAnswer) → MayCall facts h p call → IsEventCall facts call steps answer → MayMake facts p h steps
call-may facts h p (Count k n) steps Done may is =
    runs-may facts p h steps (λ base. subst (λ ks. Runs facts p h ks (own h p)) (sym is.in_order) (
      record { cpu = may.cpu; owns = may.owns; event = may.event; affordable = may.affordable; none_since = refl },
      tt,
    ))
call-may facts h p (Sum k) steps (Total answer) k_in (found, is) =
    runs-may facts p h steps (λ base. subst (λ ks. Runs facts p h ks (own h p)) (sym is.in_order)
    (loads-run facts p h k (online_cpus facts) found (own h p) k_in (online_cpus-known facts base)))
call-may facts h p (FoldDead from) steps Done may (into, found, lowest, is) =
    runs-may facts p h steps (λ base.
    let online = lowest.online in
    let dead = may.dead in
    let from_known = present-known facts.cpus from.number (λ absent. absurd cc) in
    let into_known = present-known facts.cpus into.number (λ absent. absurd cc) in
    let from_in : IsCpu facts.layout from.number = (let each = base.one_state_each in omega arith) in
    let into_in : IsCpu facts.layout into.number = (let each = base.one_state_each in omega arith) in
    subst (λ ks. Runs facts p h ks (own h p)) (sym is.in_order)
    (folds-run facts p h from into may.control from_in dead into_in lowest 0 found (own h p) may.nothing
    (let eight = is.one_each in omega arith)))
call-may facts h p _ steps _ may is = absurd is
