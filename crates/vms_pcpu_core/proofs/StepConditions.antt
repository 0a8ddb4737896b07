-- For other crates too: what the CPU of a pass spends, the condition of each step by what a pass has done and known
-- since an earlier history, and that steps which meet these conditions may be made while others act.
use Rattle.std.proofs.Common.{◌≡◌, ◌≢◌, ℕ, ◌+◌, ◌<◌, ◌≤◌, ◌&&◌, Bool, true, false, true≢false, List, [], ◌∷◌, ◌++◌}
use Rattle.std.proofs.Common.{Option, Some, None, ℤ, pos, ◌+ℤ◌, ◌-ℤ◌, ◌≤ℤ◌, unsigned_abs, refl, sym, ap, subst, ◌∙◌}
use Rattle.std.proofs.Common.{if◌then◌else◌, nat_eq, eqb-true, eq-eqb, arith}
use Rattle.std.proofs.lemmas.Int.{ints}
use Rattle.std.proofs.lemmas.Bool.{and_parts}
use Rattle.vms_history.specs.Common.{CpuId, PcpuId, IsCpu, most_volume, own, after, Acts, HasMade, begun_in, lives_in}
use Rattle.vms_history.specs.Common.{owner_in}
use Rattle.vms_history.specs.declared.events.Event.{Event}
use Rattle.vms_history.proofs.Common.{own-append, own-on_top, begun_in-append, lives_in-before, live_is_given}
use Rattle.vms_history.proofs.Common.{owner_in-append, prefix_is_legal}
use Rattle.vms_pcpu_core.specs.declared.steps.PcpuFacts.{PcpuFacts}
use Rattle.vms_pcpu_core.specs.declared.steps.PcpuStep.{PcpuStep}
use Rattle.vms_pcpu_core.specs.declared.steps.PcpuStep.TheVariants.{AddL, LoadL, LoadC, Won, Missed, TakeL, AddC}
use Rattle.vms_pcpu_core.specs.declared.steps.PcpuStep.TheVariants.{Unlock, Split, Join}
use Rattle.vms_pcpu_core.specs.Common.{Meets, MayTake, MayAdd, local_after, percpu, History, IsLegal, state_after}
use Rattle.vms_pcpu_core.specs.Common.{numbers_after, event, Tells, MayMake, MayCall, holds_lock, holds_lock_after}
use Rattle.vms_pcpu_core.specs.Common.{carried, carried_after, size_of, added_through, own_added, IsIdle, AddsAmount}
use Rattle.vms_pcpu_core.specs.Common.{IsPcpu, batch_at, local_at, role, amount_of, spent, spent_by}
use Rattle.vms_pcpu_core.proofs.FoldedCpus.{local-after_event}
use Rattle.vms_pcpu_core.proofs.OwnSteps.{goes_by_own_steps}
use Rattle.vms_pcpu_core.proofs.Shapes.{batch_at-state_after}
use Rattle.vms_pcpu_core.proofs.KnowledgeKept.{local_after-kept, spent_by-none}

-- own events on top of earlier ones after which nothing is held or carried
holds-on : (j : ℕ) (o base : History) → holds_lock j base ≡ false → holds_lock j (o ++ base) ≡ holds_lock j o
holds-on j [] base none = none
holds-on j (e ∷ o) base none = ap (holds_lock_after j e.step) (holds-on j o base none)

carried-on : (j : ℕ) (o base : History) → carried j base ≡ pos 0 → carried j (o ++ base) ≡ carried j o
carried-on j [] base none = none
carried-on j (e ∷ o) base none = ap (carried_after j e.step) (carried-on j o base none)

own_added-on : (part : ℤ → ℤ) (j : ℕ) (o base : History) → carried j base ≡ pos 0
    → own_added part j (o ++ base) ≡ own_added part j o +ℤ own_added part j base
own_added-on part j [] base none = omega (arith, ints)
own_added-on part j (e ∷ o) base none =
    let same : part (amount_of j (carried j (o ++ base)) e.step) ≡ part (amount_of j (carried j o) e.step) =
    ap (λ (x : ℤ). part (amount_of j x e.step)) (carried-on j o base none) in
    omega (arith, ints, same, own_added-on part j o base none)

-- the number that a pass found in its own local part and that stands since: it neither changed nor took it
abbrev pub found_after : CpuId → PcpuId → PcpuStep → Option ℤ → Option ℤ
found_after c j (LoadL i d v) before =
    if nat_eq d.number c.number && nat_eq i.number j.number then Some v else before
found_after c j (AddL i a) before = None
found_after c j (TakeL i d v) before = None
found_after c j _ before = before

abbrev pub found_own : CpuId → PcpuId → History → Option ℤ
found_own c j [] = None
found_own c j (e ∷ o) = found_after c j e.step (found_own c j o)

-- a pass that lives and lived in an earlier history
module _ (facts : PcpuFacts) (earlier : History) (p : ℕ) (given : p ≤ begun_in role earlier) where
  -- the newest event: it lived before too, and owns what it owned
  lived-before : (e : Event PcpuStep) (m : History) → IsLegal facts (e ∷ (m ++ earlier))
      → lives_in role (e ∷ (m ++ earlier)) p ≡ true → lives_in role (m ++ earlier) p ≡ true
  lived-before e m legal lives =
      let grows = begun_in-append role m earlier in
      lives_in-before percpu facts (e ∷ []) (m ++ earlier) p legal (omega arith) lives

  owns-still : (m : History) → IsLegal facts (m ++ earlier)
      → owner_in role (m ++ earlier) p ≡ owner_in role earlier p
  owns-still m legal = owner_in-append percpu facts m earlier p legal given

  module _ (c : CpuId) (owner : owner_in role earlier p ≡ Some c) where
    -- what an own event leaves of it
    found-own_step : (e : Event PcpuStep) (h : History) (j : PcpuId) (o : History) (l : ℤ) (who : Option CpuId)
        (step : PcpuStep) → Meets facts h (state_after facts h) e.caller step
        → found_after c j step (found_own c j o) ≡ Some l
        → (found_own c j o ≡ Some l → local_at (numbers_after facts h) c.number j.number ≡ l)
        → local_after who c.number j.number step (local_at (numbers_after facts h) c.number j.number) ≡ l
    found-own_step e h j o l who (LoadL i d v) meets is before =
        at (nat_eq d.number c.number && nat_eq i.number j.number) refl is
      where
        at : (b : Bool) → (nat_eq d.number c.number && nat_eq i.number j.number) ≡ b
            → (if b then Some v else found_own c j o) ≡ Some l
            → local_at (numbers_after facts h) c.number j.number ≡ l
        at true here told =
            let parts = and_parts (nat_eq d.number c.number) (nat_eq i.number j.number) here in
            let same : v ≡ l = cc in
            ap (λ n. local_at (numbers_after facts h) n j.number) (sym (eqb-true d.number c.number parts.0))
            ∙ ap (local_at (numbers_after facts h) d.number) (sym (eqb-true i.number j.number parts.1))
            ∙ meets.value ∙ same
        at false other told = before told
    found-own_step e h j o l who (AddL i a) meets is before = absurd cc
    found-own_step e h j o l who (TakeL i d v) meets is before = absurd cc
    found-own_step e h j o l who _ meets is before = before is

    -- what it found in its own local part stands
    pub found-stands : (m : History) (j : PcpuId) (l : ℤ) → IsLegal facts (m ++ earlier)
        → lives_in role (m ++ earlier) p ≡ true → IsPcpu facts j.number
        → found_own c j (own m p) ≡ Some l → local_at (numbers_after facts (m ++ earlier)) c.number j.number ≡ l
    found-stands [] j l legal lives j_in is = absurd cc
    found-stands (e ∷ m) j l legal lives j_in is =
        let g : History = m ++ earlier in
        let lived = lived-before e m legal lives in
        local-after_event facts e g c.number j.number legal j_in
        ∙ by (nat_eq e.caller p) refl is lived (owns-still m legal.0 ∙ owner)
        (λ before. found-stands m j l legal.0 lived j_in before)
      where
        h : History
        h = m ++ earlier

        who : Option CpuId
        who = owner_in role h e.caller

        by : (b : Bool) → nat_eq e.caller p ≡ b
            → found_own c j (if b then e ∷ own m p else own m p) ≡ Some l
            → lives_in role h p ≡ true → owner_in role h p ≡ Some c
            → (found_own c j (own m p) ≡ Some l → local_at (numbers_after facts h) c.number j.number ≡ l)
            → local_after who c.number j.number e.step (local_at (numbers_after facts h) c.number j.number) ≡ l
        by true mine told lived owns before =
            found-own_step e h j (own m p) l who e.step legal.2 told before
        by false other told lived owns before =
            local_after-kept facts e h p c j.number legal lived owns (λ mine. absurd (true≢false (sym mine ∙ other)))
            (local_at (numbers_after facts h) c.number j.number) ∙ before told

    -- its CPU spends what it adds
    pub spends-own : (m : History) (j : ℕ) → IsLegal facts (m ++ earlier) → lives_in role (m ++ earlier) p ≡ true
        → pos (spent (m ++ earlier) c.number j) +ℤ own_added size_of j (own earlier p)
        ≡ pos (spent earlier c.number j) +ℤ own_added size_of j (own (m ++ earlier) p)
    spends-own [] j legal lives = refl
    spends-own (e ∷ m) j legal lives =
        let lived = lived-before e m legal lives in
        by (nat_eq e.caller p) refl lived (owns-still m legal.0 ∙ owner) (spends-own m j legal.0 lived)
      where
        h : History
        h = m ++ earlier

        by : (b : Bool) → nat_eq e.caller p ≡ b → lives_in role h p ≡ true → owner_in role h p ≡ Some c
            → pos (spent h c.number j) +ℤ own_added size_of j (own earlier p)
            ≡ pos (spent earlier c.number j) +ℤ own_added size_of j (own h p)
            → pos (spent_by (owner_in role h e.caller) c.number j (carried j (own h e.caller)) e.step
            + spent h c.number j)
            +ℤ own_added size_of j (own earlier p)
            ≡ pos (spent earlier c.number j) +ℤ own_added size_of j (if b then e ∷ own h p else own h p)
        by true mine lived owns before =
            let same : e.caller ≡ p = eqb-true e.caller p mine in
            let here : nat_eq c.number c.number ≡ true = eq-eqb c.number c.number refl in
            rw (same, owns, here) (omega (arith, ints, before))
        by false other lived owns before =
            let nothing =
            spent_by-none facts e h p c j legal lived owns (λ mine. absurd (true≢false (sym mine ∙ other))) in
            omega (arith, ints, nothing, before)

-- the amount of an addition to the shared part, after own events since the earlier history
abbrev pub FitsAmount : History → Option CpuId → History → ℕ → ℤ → Type 0
FitsAmount earlier (Some c) o j amount =
    ((pos (spent earlier c.number j) +ℤ own_added size_of j o) +ℤ size_of amount) ≤ℤ pos most_volume
FitsAmount earlier None o j amount = amount ≡ pos 0

-- what a pass that owns `who` may do after own events since the earlier history
module _ (facts : PcpuFacts) (earlier : History) (who : Option CpuId) where
  -- an addition to the local part that it found
  pub record FitsLocal (o : History) (j : PcpuId) (a : ℤ) : Type 0 where
    pub counter : IsPcpu facts j.number
    pub cpu : CpuId
    pub owner : who ≡ Some cpu
    pub number : ℤ
    pub as_found : found_own cpu j o ≡ Some number
    pub within : unsigned_abs (number +ℤ a) ≤ batch_at facts.base j.number
    pub affordable : ((pos (spent earlier cpu.number j.number) +ℤ own_added size_of j.number o) +ℤ size_of a)
        ≤ℤ pos most_volume

  -- the condition of a step, but for what it tells
  abbrev pub Fits : History → PcpuStep → Type 0
  Fits o (AddL j a) = FitsLocal o j a
  Fits o (LoadL j c v) = IsPcpu facts j.number × IsCpu facts.layout c.number
  Fits o (LoadC j v) = IsPcpu facts j.number
  Fits o (Won j) = IsPcpu facts j.number
  Fits o (Missed j) = IsPcpu facts j.number
  Fits o (TakeL j c v) =
      IsPcpu facts j.number × IsCpu facts.layout c.number × (holds_lock j.number o ≡ true) × MayTake facts who c
  Fits o (AddC j a) =
      IsPcpu facts j.number × (holds_lock j.number o ≡ true)
      × FitsAmount earlier who o j.number (a -ℤ carried j.number o)
  Fits o (Unlock j) = IsPcpu facts j.number × (holds_lock j.number o ≡ true) × (carried j.number o ≡ pos 0)
  Fits o (Split q w) = ⊥
  Fits o (Join q) = ⊥

  -- each of these steps in a row
  abbrev pub AllFit : ℕ → History → List PcpuStep → Type 0
  AllFit p o [] = Unit {0}
  AllFit p o (k ∷ ks) = Fits o k × AllFit p (event p k ∷ o) ks

  pub all-fit-append : (p : ℕ) (ks js : List PcpuStep) (o : History) → AllFit p o ks → AllFit p (after p ks o) js
      → AllFit p o (ks ++ js)
  all-fit-append p [] js o first second = second
  all-fit-append p (k ∷ ks) js o first second =
      (first.0, all-fit-append p ks js (event p k ∷ o) first.1 second)

  all-fit-next : (p : ℕ) (done rest : List PcpuStep) (k : PcpuStep) (o : History) → AllFit p o (done ++ (k ∷ rest))
      → Fits (after p done o) k
  all-fit-next p [] rest k o fit = fit.0
  all-fit-next p (d ∷ done) rest k o fit = all-fit-next p done rest k (event p d ∷ o) fit.1

module _ (facts : PcpuFacts) (earlier : History) (p : ℕ) (calls : MayCall facts earlier p) where
  abbrev pub who_of : Option CpuId
  who_of = owner_in role earlier p

  given_before : (0 < p) × (p ≤ begun_in role earlier)
  given_before = live_is_given percpu facts earlier p calls.legal calls.lives

  module _ (m : History) (legal : IsLegal facts (m ++ earlier)) (lives : lives_in role (m ++ earlier) p ≡ true) where
    abbrev now : History
    now = m ++ earlier

    owns_now : owner_in role now p ≡ who_of
    owns_now = owns-still facts earlier p given_before.1 m legal

    holding-now : (j : ℕ) → holds_lock j (own now p) ≡ holds_lock j (own m p)
    holding-now j =
        ap (holds_lock j) (own-append m earlier p) ∙ holds-on j (own m p) (own earlier p) (calls.idle.no_lock j)

    carrying-now : (j : ℕ) → carried j (own now p) ≡ carried j (own m p)
    carrying-now j =
        ap (carried j) (own-append m earlier p) ∙ carried-on j (own m p) (own earlier p) (calls.idle.nothing_carried j)

    affords : (c : CpuId) (j : ℕ) (amount : ℤ) → who_of ≡ Some c
        → ((pos (spent earlier c.number j) +ℤ own_added size_of j (own m p)) +ℤ size_of amount) ≤ℤ pos most_volume
        → spent now c.number j + unsigned_abs amount ≤ most_volume
    affords c j amount owner fits =
        let spends = spends-own facts earlier p given_before.1 c owner m j legal lives in
        let sum : own_added size_of j (own now p)
        ≡ own_added size_of j (own m p) +ℤ own_added size_of j (own earlier p) =
        ap (own_added size_of j) (own-append m earlier p)
        ∙ own_added-on size_of j (own m p) (own earlier p) (calls.idle.nothing_carried j) in
        omega (arith, ints, spends, sum, fits)

    MayAdd-holds : (who : Option CpuId) (j : ℕ) (amount : ℤ) → who_of ≡ who
        → FitsAmount earlier who (own m p) j amount → MayAdd now who j amount
    MayAdd-holds (Some c) j amount owner fits = affords c j amount owner fits
    MayAdd-holds None j amount owner fits = fits

    meets-now : (k : PcpuStep) → Fits facts earlier who_of (own m p) k → Tells facts now p k
        → Meets facts now (state_after facts now) p k
    meets-now (AddL j a) fits tells =
        let stands =
        found-stands facts earlier p given_before.1 fits.cpu fits.owner m j fits.number legal lives fits.counter
        fits.as_found in
        let batch = batch_at-state_after facts now j.number legal in
        record {
          counter = fits.counter;
          cpu = fits.cpu;
          owner = owns_now ∙ fits.owner;
          within = rw (stands, batch) fits.within;
          affordable = affords fits.cpu j.number a fits.owner fits.affordable;
        }
    meets-now (LoadL j c v) fits tells = record { counter = fits.0; cpu = fits.1; value = tells }
    meets-now (LoadC j v) fits tells = record { counter = fits; value = tells }
    meets-now (Won j) fits tells = record { counter = fits; free = tells }
    meets-now (Missed j) fits tells = record { counter = fits; taken = tells }
    meets-now (TakeL j c v) fits tells =
        record {
          counter = fits.0;
          cpu = fits.1;
          holding = holding-now j.number ∙ fits.2;
          whose = subst (λ w. MayTake facts w c) (sym owns_now) fits.3;
          value = tells;
        }
    meets-now (AddC j a) fits tells =
        record {
          counter = fits.0;
          holding = holding-now j.number ∙ fits.1;
          amount =
              subst (λ w. MayAdd now w j.number (a -ℤ carried j.number (own now p))) (sym owns_now)
              (subst (λ (x : ℤ). MayAdd now who_of j.number (a -ℤ x)) (sym (carrying-now j.number))
              (MayAdd-holds who_of j.number (a -ℤ carried j.number (own m p)) refl fits.2));
        }
    meets-now (Unlock j) fits tells =
        record {
          counter = fits.0;
          holding = holding-now j.number ∙ fits.1;
          nothing_carried = carrying-now j.number ∙ fits.2;
        }
    meets-now (Split q w) fits tells = absurd fits
    meets-now (Join q) fits tells = absurd fits

    MayMake-holds : (k : PcpuStep) → Fits facts earlier who_of (own m p) k → Tells facts now p k
        → IsLegal facts (event p k ∷ now)
    MayMake-holds k fits tells = (legal, works k fits, meets-now k fits tells)
      where
        not_main : p ≢ 0
        not_main main = let least = given_before.0 in omega arith

        works : (step : PcpuStep) → Fits facts earlier who_of (own m p) step → Acts percpu facts now p (role step)
        works (Split q w) fits = absurd fits
        works (Join q) fits = absurd fits
        works _ fits = (not_main, lives)

  -- steps that fit in a row may be made while others act
  pub fit-may : (steps : List PcpuStep) → AllFit facts earlier who_of p [] steps → MayMake facts p earlier steps
  fit-may steps fit later done k rest parts has tells =
      let m : History = has.extends.0 in
      let is : later ≡ m ++ earlier = has.extends.1 in
      let made : own m p ≡ after p done [] =
      own-on_top m earlier p done (ap (λ es. own es p) (sym is) ∙ has.made) in
      let fits : Fits facts earlier who_of (after p done []) k =
      all-fit-next facts earlier who_of p done rest k [] (subst (AllFit facts earlier who_of p []) parts fit) in
      subst (λ (es : History). IsLegal facts (event p k ∷ es)) (sym is)
      (MayMake-holds m (subst (IsLegal facts) is has.legal) (subst (λ es. lives_in role es p ≡ true) is has.lives) k
      (subst (λ o. Fits facts earlier who_of o k) (sym made) fits)
      (subst (λ es. Tells facts es p k) is tells))

-- what the CPU of a pass spends goes by the steps that it has made
pub spends-steps : (facts : PcpuFacts) (earlier later : History) (p : ℕ) (cpu : CpuId) (steps : List PcpuStep)
    → HasMade percpu facts later earlier p steps → owner_in role earlier p ≡ Some cpu → (j : ℕ)
    → pos (spent later cpu.number j)
    ≡ pos (spent earlier cpu.number j) +ℤ added_through size_of j steps (carried j (own earlier p))
spends-steps facts earlier later p cpu steps has owner j =
    let m : History = has.extends.0 in
    let is : later ≡ m ++ earlier = has.extends.1 in
    let legal : IsLegal facts (m ++ earlier) = subst (IsLegal facts) is has.legal in
    let lives : lives_in role (m ++ earlier) p ≡ true = subst (λ es. lives_in role es p ≡ true) is has.lives in
    let given = live_is_given percpu facts earlier p (prefix_is_legal percpu facts m earlier legal) has.lived in
    let spends = spends-own facts earlier p given.1 cpu owner m j legal lives in
    let goes = (goes_by_own_steps p steps (own earlier p)).added size_of j in
    let made : own_added size_of j (own (m ++ earlier) p) ≡ own_added size_of j (after p steps (own earlier p)) =
    ap (own_added size_of j) (ap (λ es. own es p) (sym is) ∙ has.made) in
    let whole : spent later cpu.number j ≡ spent (m ++ earlier) cpu.number j = ap (λ es. spent es cpu.number j) is in
    omega (arith, ints, spends, goes, made, whole)

-- what it spends by steps that add one amount
pub spends-amount : (facts : PcpuFacts) (earlier later : History) (p : ℕ) (cpu : CpuId) (j : PcpuId) (amount : ℤ)
    (steps : List PcpuStep) → HasMade percpu facts later earlier p steps → AddsAmount j amount steps
    → IsIdle (own earlier p) → owner_in role earlier p ≡ Some cpu → (i : ℕ)
    → spent later cpu.number i ≡ spent earlier cpu.number i + (if nat_eq j.number i then unsigned_abs amount else 0)
spends-amount facts earlier later p cpu j amount steps has adds idle owner i =
    let spends = spends-steps facts earlier later p cpu steps has owner i in
    let sizes : added_through size_of i steps (carried i (own earlier p))
    ≡ pos (if nat_eq j.number i then unsigned_abs amount else 0) =
    ap (added_through size_of i steps) (idle.nothing_carried i) ∙ adds.sizes i ∙ at (nat_eq j.number i) in
    omega (arith, ints, spends, sizes)
  where
    at : (b : Bool) → (if b then size_of amount else pos 0) ≡ pos (if b then unsigned_abs amount else 0)
    at true = refl
    at false = refl
