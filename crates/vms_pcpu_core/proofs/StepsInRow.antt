-- The steps that one caller made in a row, with what others did between them.
use Rattle.std.proofs.Common.{◌≡◌, ℕ, Bool, true, false, List, [], ◌∷◌, ◌++◌, refl, sym, ap, ◌∙◌, append_assoc}
use Rattle.std.proofs.Common.{if◌then◌else◌, nat_eq, eqb-true}
use Rattle.vms_history.specs.declared.events.Event.{Event}
use Rattle.vms_history.specs.Common.{Extends, own, after}
use Rattle.vms_history.proofs.Common.{Extends-both, own-append, own-mine, after-append}
use Rattle.vms_pcpu_core.specs.declared.steps.PcpuStep.{PcpuStep}
use Rattle.vms_pcpu_core.specs.Common.{History, event}

-- from h on p made these steps, the oldest first, and g stood right after the last of them
abbrev pub RunsBetween : ℕ → List PcpuStep → History → History → Type 0
RunsBetween p [] h g = g ≡ h
RunsBetween p (k ∷ ks) h g = (others : History) × (own others p ≡ []) × RunsBetween p ks (event p k ∷ (others ++ h)) g

-- a list in which p has an own event parts there
pub record OwnEventAt (m : History) (p : ℕ) (e : Event PcpuStep) (newer older : History) : Type 0 where
  pub since : History
  pub before : History
  pub parts : m ≡ since ++ (e ∷ before)
  pub own_since : own since p ≡ newer
  pub own_before : own before p ≡ older

own-parts : (m : History) (p : ℕ) (e : Event PcpuStep) (newer older : History) → own m p ≡ newer ++ (e ∷ older)
    → OwnEventAt m p e newer older
own-parts [] p e [] older is = absurd cc
own-parts [] p e (x ∷ newer) older is = absurd cc
own-parts (d ∷ m) p e newer older is = by (nat_eq d.caller p) refl newer is (λ (xs : History). own-parts m p e xs older)
  where
    by : (b : Bool) → nat_eq d.caller p ≡ b → (newer : History)
        → (if b then d ∷ own m p else own m p) ≡ newer ++ (e ∷ older)
        → ((xs : History) → own m p ≡ xs ++ (e ∷ older) → OwnEventAt m p e xs older)
        → OwnEventAt (d ∷ m) p e newer older
    by true mine [] is rest =
        let same : d ≡ e = cc in
        record { since = []; before = m; parts = ap (λ x. x ∷ m) same; own_since = refl; own_before = cc }
    by true mine (x ∷ newer) is rest =
        let same : d ≡ x = cc in
        let earlier = rest newer (cc) in
        record {
          since = d ∷ earlier.since;
          before = earlier.before;
          parts = ap (λ es. d ∷ es) earlier.parts;
          own_since = own-mine d earlier.since p (eqb-true d.caller p mine) ∙ ap (λ es. d ∷ es) earlier.own_since
              ∙ ap (λ x. x ∷ newer) same;
          own_before = earlier.own_before;
        }
    by false other newer is rest =
        let earlier = rest newer is in
        record {
          since = d ∷ earlier.since;
          before = earlier.before;
          parts = ap (λ es. d ∷ es) earlier.parts;
          own_since = ap (λ b. if b then d ∷ own earlier.since p else own earlier.since p) other ∙ earlier.own_since;
          own_before = earlier.own_before;
        }

-- own steps on top of a history are a run, and others follow
pub run-made : (p : ℕ) (ks : List PcpuStep) (m h : History) → own m p ≡ after p ks []
    → (g : History) × RunsBetween p ks h g × ((others : History) × (m ++ h ≡ others ++ g) × (own others p ≡ []))
run-made p [] m h made = (h, refl, (m, refl, made))
run-made p (k ∷ ks) m h made =
    let e : Event PcpuStep = event p k in
    let split = own-parts m p e (after p ks []) [] (made ∙ after-append p ks [] (e ∷ [])) in
    let rest = run-made p ks split.since (e ∷ (split.before ++ h)) split.own_since in (
      rest.0,
      (split.before, split.own_before, rest.1),
      (rest.2.0, ap (λ es. es ++ h) split.parts ∙ append_assoc split.since (e ∷ split.before) h ∙ rest.2.1, rest.2.2),
    )

pub run-append : (p : ℕ) (ks js : List PcpuStep) (h g : History) → RunsBetween p (ks ++ js) h g
    → (mid : History) × RunsBetween p ks h mid × RunsBetween p js mid g
run-append p [] js h g run = (h, refl, run)
run-append p (k ∷ ks) js h g run =
    let rest = run-append p ks js (event p k ∷ (run.0 ++ h)) g run.2 in
    (rest.0, (run.0, run.1, rest.1), rest.2)

pub own-others_on : (others h : History) (p : ℕ) → own others p ≡ [] → own (others ++ h) p ≡ own h p
own-others_on others h p none = own-append others h p ∙ ap (λ es. es ++ own h p) none

pub run-own : (p : ℕ) (ks : List PcpuStep) (h g : History) → RunsBetween p ks h g → own g p ≡ after p ks (own h p)
run-own p [] h g run = ap (λ es. own es p) run
run-own p (k ∷ ks) h g run =
    let e : Event PcpuStep = event p k in
    run-own p ks (e ∷ (run.0 ++ h)) g run.2
    ∙ ap (after p ks) (own-mine e (run.0 ++ h) p refl ∙ ap (λ es. e ∷ es) (own-others_on run.0 h p run.1))

pub run-extends : (p : ℕ) (ks : List PcpuStep) (h g : History) → RunsBetween p ks h g → Extends g h
run-extends p [] h g run = ([], run)
run-extends p (k ∷ ks) h g run =
    Extends-both g (event p k ∷ (run.0 ++ h)) h
    (run-extends p ks (event p k ∷ (run.0 ++ h)) g run.2)
    (event p k ∷ run.0, refl)

-- a run of at least one step ends with its last one
pub run-last : (p : ℕ) (k : PcpuStep) (ks : List PcpuStep) (h g : History) → RunsBetween p (k ∷ ks) h g
    → (last : PcpuStep) × (before : History) × (g ≡ event p last ∷ before) × Extends before h
run-last p k [] h g run = (k, run.0 ++ h, run.2, (run.0, refl))
run-last p k (j ∷ ks) h g run =
    let rest = run-last p j ks (event p k ∷ (run.0 ++ h)) g run.2 in (
      rest.0,
      rest.1,
      rest.2,
      Extends-both rest.1 (event p k ∷ (run.0 ++ h)) h rest.3 (event p k ∷ run.0, refl),
    )

-- what is kept of an event and what stood before it is kept below the newest event too
pub Extends-below : (d e : Event PcpuStep) (h g : History) → Extends (d ∷ h) (e ∷ g) → Extends h g
Extends-below d e h g more = by more.0 more.1
  where
    by : (m : History) → d ∷ h ≡ m ++ (e ∷ g) → Extends h g
    by [] is = ([], cc)
    by (x ∷ m) is =
        let below : h ≡ m ++ (e ∷ g) = cc in
        (m ++ (e ∷ []), below ∙ sym (append_assoc m (e ∷ []) g))
