-- What stood before the look at a CPU.
use Rattle.std.proofs.Common.{◌≡◌, ℕ, suc, ◌<◌, ◌&&◌, nat_eq, Bool, true, false, List, [], ◌∷◌, ◌++◌, All, refl, ap}
use Rattle.std.proofs.Common.{arith, if◌then◌else◌, eq-eqb, ne_eqb}
use Rattle.std.proofs.lemmas.List.Elements.{All-cons, All-head, All-nil, All-tail}
use Rattle.vms_calls.specs.Common.{Diffs, Event, GroupId, History, LoadD, LoadO, Look, Online, Step, after, in_turn}
use Rattle.vms_calls.specs.Common.{look_steps, online, other, own}
use Rattle.vms_near.specs.Snapshots.{before_look, is_look, loads_diffs}
use Rattle.vms_near.proofs.Moments.{event}

-- a step that loads no differentials of CPU c
abbrev pub Passes : ℕ → Step → Type 0
Passes c step = loads_diffs c step ≡ false

-- the looks at the CPUs from c on load no differentials of a CPU below c
pub looks-past : (j d : ℕ) (looks : List Look) (c : ℕ) → d < c → All (Passes d) (in_turn (look_steps j) c looks)
looks-past j d [] c below = All-nil (Passes d)
looks-past j d (online w ∷ looks) c below =
    let load : Step = LoadD (record { number = c }) (record { number = j }) w in
    let rest = in_turn (look_steps j) (suc c) looks in
    All-cons (Passes d) (LoadO (record { number = c }) Online) (load ∷ rest) refl
    (All-cons (Passes d) load rest (ne_eqb c d (λ same. omega (arith, same, below)))
    (looks-past j d looks (suc c) (omega arith)))
looks-past j d (other x differs ∷ looks) c below =
    All-cons (Passes d) (LoadO (record { number = c }) x) (in_turn (look_steps j) (suc c) looks) refl
    (looks-past j d looks (suc c) (omega arith))

module _ (p c : ℕ) where
  abbrev pub passes : Event Step → Type 0
  passes e = loads_diffs c e.step ≡ false

  -- a caller's own events are its steps
  pub after-past : (steps : List Step) (h : History) → All passes h → All (Passes c) steps
      → All passes (after p steps h)
  after-past [] h before all = before
  after-past (step ∷ steps) h before all =
      after-past steps (event p step ∷ h)
      (All-cons passes (event p step) h (All-head (Passes c) step steps all) before)
      (All-tail (Passes c) step steps all)

  -- of events none of which is a look at the CPU, all are past those before the look
  pub before_look-past : (since h : History) → All passes (own since p)
      → before_look p c (since ++ h) ≡ before_look p c h
  before_look-past [] h all = refl
  before_look-past (e ∷ since) h all = by (nat_eq e.caller p) refl all (before_look-past since h)
    where
      by : (b : Bool) → nat_eq e.caller p ≡ b → All passes (if b then e ∷ own since p else own since p)
          → (All passes (own since p) → before_look p c (since ++ h) ≡ before_look p c h)
          → (if (b && loads_diffs c e.step) then since ++ h else before_look p c (since ++ h)) ≡ before_look p c h
      by true mine all rest =
          rw (All-head passes e (own since p) all) (rest (All-tail passes e (own since p) all))
      by false others all rest = rest all

  pub before_look-here : (j : GroupId) (w : Diffs) (h : History)
      → before_look p c (event p (LoadD (record { number = c }) j w) ∷ h) ≡ h
  before_look-here j w h = rw (eq-eqb p p refl, eq-eqb c c refl) refl

  -- they are the first ones
  pub before_look-first : (since : History)
      → (more : History) × (since ≡ more ++ before_look p c since)
  before_look-first [] = ([], refl)
  before_look-first (e ∷ since) = by (is_look p c e) (before_look-first since)
    where
      by : (b : Bool) → (more : History) × (since ≡ more ++ before_look p c since)
          → (more : History) × (e ∷ since ≡ more ++ (if b then since else before_look p c since))
      by true rest = (e ∷ [], refl)
      by false rest = (e ∷ rest.0, ap (λ (h : History). e ∷ h) rest.1)
