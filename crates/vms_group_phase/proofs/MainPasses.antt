-- The passes that the main pass begins for the lanes, and ends: how many there are, who owns what, and which live.
use Rattle.std.proofs.Common.{◌≡◌, ℕ, zero, suc, ◌+◌, ◌<◌, ◌≤◌, nat_eq, Bool, true, false, List, [], ◌∷◌, ◌++◌, length}
use Rattle.std.proofs.Common.{Some, refl, sym, ap, ◌∙◌, subst, arith, if◌then◌else◌, length-append, eqb-true, All}
use Rattle.std.proofs.Common.{eq-eqb, inl, inr}
use Rattle.std.proofs.lemmas.List.Elements.{All-nil, All-pop, All-push, All-weaker}
use Rattle.std.proofs.lemmas.Bool.{cases_lt, eqb-false, ne_eqb}
use Rattle.vms_history.specs.Common.{CpuId, IsFree, after, begun, begun_in, lives, lives_in, own, owner, owner_in}
use Rattle.vms_history.specs.declared.events.Event.{Event}
use Rattle.vms_history.proofs.Common.{after-steps, own-mine, owner_in-append, owner_is_given}
use Rattle.vms_group_core.specs.declared.steps.GroupFacts.{GroupFacts}
use Rattle.vms_group_core.specs.declared.steps.GroupStep.{GroupStep}
use Rattle.vms_group_core.specs.declared.steps.GroupStep.TheVariants.{Split, Join}
use Rattle.vms_group_core.specs.Common.{History, IsLegal, groups, role, spent}
use Rattle.vms_group_core.proofs.Common.{spent_by-others}
use Rattle.vms_seats.specs.Common.{MainMakes}
use Rattle.vms_group_phase.specs.declared.items.GroupItem.{GroupItem}
use Rattle.vms_group_phase.specs.Common.{has_some, joins_of, lane_lines, lanes_below, pass_of, splits_of}

-- the CPU of a number
abbrev pub cpu : ℕ → CpuId
cpu c = record { number = c }

-- the main pass's own events after a step of it
pub own-made : (facts : GroupFacts) (later earlier : History) (step : GroupStep)
    → MainMakes groups facts later earlier step → own later 0 ≡ record { caller = 0; step = step } ∷ own earlier 0
own-made facts later earlier step made =
    ap (λ h. own h 0) made.newest
    ∙ own-mine (record { caller = 0; step = step }) made.before 0 refl
    ∙ ap (λ es. record { caller = 0; step = step } ∷ es) made.own_same

-- a CPU that no pass owns has spent nothing
pub spent-unowned : (facts : GroupFacts) (c : CpuId) (g : ℕ) (h : History) → IsLegal facts h
    → ((q : ℕ) → owner_in role h q ≡ Some c → ⊥) → spent h c.number g ≡ 0
spent-unowned facts c g [] legal nobody = refl
spent-unowned facts c g (e ∷ h) legal nobody =
    let before : (q : ℕ) → owner_in role h q ≡ Some c → ⊥ = λ q owns.
    let given = owner_is_given groups facts h q c legal.0 owns in
    nobody q (owner_in-append groups facts (e ∷ []) h q legal given.1 ∙ owns) in
    let none = spent_by-others (owner_in role h e.caller) c g e.step (before e.caller) in
    omega (arith, none, spent-unowned facts c g h legal.0 before)

-- a lane with lines is one more
pub lanes-more : (items : List GroupItem) (n : ℕ) → has_some (lane_lines n items) ≡ true
    → lanes_below items (suc n) ≡ lanes_below items n ++ n ∷ []
lanes-more items n some = ap (λ b. if b then lanes_below items n ++ n ∷ [] else lanes_below items n) some

pub lanes-same : (items : List GroupItem) (n : ℕ) → has_some (lane_lines n items) ≡ false
    → lanes_below items (suc n) ≡ lanes_below items n
lanes-same items n none = ap (λ b. if b then lanes_below items n ++ n ∷ [] else lanes_below items n) none

module _ (items : List GroupItem) where
  -- what holds of all lanes with lines holds by the lanes one after another
  pub by_lanes : (P : ℕ → List ℕ → Type 0) → P 0 []
      → ((c : ℕ) (lanes : List ℕ) → has_some (lane_lines c items) ≡ true → lanes ≡ lanes_below items c → P c lanes
      → P (suc c) (lanes ++ c ∷ []))
      → ((c : ℕ) (lanes : List ℕ) → has_some (lane_lines c items) ≡ false → P c lanes → P (suc c) lanes)
      → (n : ℕ) → P n (lanes_below items n)
  by_lanes P none more same zero = none
  by_lanes P none more same (suc n) = by (has_some (lane_lines n items)) refl (by_lanes P none more same n)
    where
      by : (b : Bool) → has_some (lane_lines n items) ≡ b → P n (lanes_below items n)
          → P (suc n) (if b then lanes_below items n ++ n ∷ [] else lanes_below items n)
      by true some before = more n (lanes_below items n) some refl before
      by false nothing before = same n (lanes_below items n) nothing before

  abbrev pub split_of : ℕ → Event GroupStep
  split_of c = record { caller = 0; step = Split (pass_of items c) (Some (cpu c)) }

  abbrev pub join_of : ℕ → Event GroupStep
  join_of c = record { caller = 0; step = Join (pass_of items c) }

  -- one lane more begins or ends
  pub splits-more : (lanes : List ℕ) (c : ℕ) (h : History)
      → after 0 (splits_of items (lanes ++ c ∷ [])) h ≡ split_of c ∷ after 0 (splits_of items lanes) h
  splits-more [] c h = refl
  splits-more (d ∷ lanes) c h = splits-more lanes c (split_of d ∷ h)

  pub joins-more : (lanes : List ℕ) (c : ℕ) (h : History)
      → after 0 (joins_of items (lanes ++ c ∷ [])) h ≡ join_of c ∷ after 0 (joins_of items lanes) h
  joins-more [] c h = refl
  joins-more (d ∷ lanes) c h = joins-more lanes c (join_of d ∷ h)

  -- what stands where the lanes below CPU n have begun
  abbrev pub opened : ℕ → History
  opened n = after 0 (splits_of items (lanes_below items n)) []

  begun-splits : (lanes : List ℕ) (h : History)
      → begun role (after 0 (splits_of items lanes) h) ≡ length lanes + begun role h
  begun-splits [] h = omega arith
  begun-splits (c ∷ lanes) h = begun-splits lanes (split_of c ∷ h) ∙ omega arith

  begun-joins : (lanes : List ℕ) (h : History) → begun role (after 0 (joins_of items lanes) h) ≡ begun role h
  begun-joins [] h = refl
  begun-joins (c ∷ lanes) h = begun-joins lanes (join_of c ∷ h)

  pub begun-opened : (n : ℕ) (h : History) → own h 0 ≡ opened n → begun_in role h ≡ length (lanes_below items n)
  begun-opened n h is = ap (begun role) is ∙ begun-splits (lanes_below items n) [] ∙ omega arith

  -- the pass of a lane is the one that owns its CPU, and passes own CPUs of lanes with lines alone
  pub record OwnsLane (n q : ℕ) (c : CpuId) : Type 0 where
    pub below : c.number < n
    pub some : has_some (lane_lines c.number items) ≡ true
    pub number : q ≡ pass_of items c.number

  owner-opened : (q : ℕ) (c : CpuId) (n : ℕ) → owner role (opened n) q ≡ Some c → OwnsLane n q c
  owner-opened q c =
      by_lanes (λ n lanes. owner role (after 0 (splits_of items lanes) []) q ≡ Some c → OwnsLane n q c)
      (λ owns. absurd cc)
      (λ n lanes some is before owns.
      by n lanes some is before (nat_eq (pass_of items n) q) refl (sym (ap (λ es. owner role es q)
      (splits-more lanes n [])) ∙ owns))
      (λ n lanes none before owns. let rest = before owns in
      record { below = omega (arith, rest.below); some = rest.some; number = rest.number })
    where
      by : (n : ℕ) (lanes : List ℕ) → has_some (lane_lines n items) ≡ true → lanes ≡ lanes_below items n
          → (owner role (after 0 (splits_of items lanes) []) q ≡ Some c → OwnsLane n q c)
          → (b : Bool) → nat_eq (pass_of items n) q ≡ b
          → (if b then Some (cpu n) else owner role (after 0 (splits_of items lanes) []) q) ≡ Some c
          → OwnsLane (suc n) q c
      by n lanes some is before true same owns =
          let here : cpu n ≡ c = cc in
          let at : n ≡ c.number = ap (λ (d : CpuId). d.number) here in
          record {
            below = omega (arith, at);
            some = ap (λ k. has_some (lane_lines k items)) (sym at) ∙ some;
            number = sym (eqb-true (pass_of items n) q same) ∙ ap (pass_of items) at;
          }
      by n lanes some is before false other owns =
          let rest = before owns in
          record { below = omega (arith, rest.below); some = rest.some; number = rest.number }

  -- what a pass that lives has
  lives-opened : (q n : ℕ) → lives role (opened n) q ≡ true → (0 < q) × (q ≤ length (lanes_below items n))
  lives-opened q =
      by_lanes (λ n lanes. lives role (after 0 (splits_of items lanes) []) q ≡ true → (0 < q) × (q ≤ length lanes))
      (λ there. absurd cc)
      (λ n lanes some is before there.
      by n lanes is before (nat_eq (pass_of items n) q) refl (sym (ap (λ es. lives role es q) (splits-more lanes n []))
      ∙ there))
      (λ n lanes none before there. before there)
    where
      by : (n : ℕ) (lanes : List ℕ) → lanes ≡ lanes_below items n
          → (lives role (after 0 (splits_of items lanes) []) q ≡ true → (0 < q) × (q ≤ length lanes))
          → (b : Bool) → nat_eq (pass_of items n) q ≡ b
          → (if b then true else lives role (after 0 (splits_of items lanes) []) q) ≡ true
          → (0 < q) × (q ≤ length (lanes ++ n ∷ []))
      by n lanes is before true same there =
          let at = eqb-true (pass_of items n) q same in
          let long = ap length is in
          let more = length-append lanes (n ∷ []) in (omega (arith, at), omega (arith, at, long, more))
      by n lanes is before false other there =
          let rest = before there in
          let more = length-append lanes (n ∷ []) in (rest.0, omega (arith, rest.1, more))

  -- what lives after passes have ended lived before
  lives-joins : (lanes : List ℕ) (h : History) (q : ℕ) → lives role (after 0 (joins_of items lanes) h) q ≡ true
      → lives role h q ≡ true
  lives-joins [] h q there = there
  lives-joins (c ∷ lanes) h q there =
      by (nat_eq (pass_of items c) q) (lives-joins lanes (join_of c ∷ h) q there)
    where
      by : (b : Bool) → (if b then false else lives role h q) ≡ true → lives role h q ≡ true
      by true there = absurd cc
      by false there = there

  -- once the lanes below CPU n have ended, a pass that lives is of a later lane
  lives-closed : (q : ℕ) (h : History) (n : ℕ) → 0 < q
      → lives role (after 0 (joins_of items (lanes_below items n)) h) q ≡ true → length (lanes_below items n) < q
  lives-closed q h n least =
      by_lanes (λ m lanes. lives role (after 0 (joins_of items lanes) h) q ≡ true → length lanes < q)
      (λ there. least)
      (λ m lanes some is before there.
      by m lanes is before (nat_eq (pass_of items m) q) refl (sym (ap (λ es. lives role es q) (joins-more lanes m h))
      ∙ there))
      (λ m lanes none before there. before there) n
    where
      by : (m : ℕ) (lanes : List ℕ) → lanes ≡ lanes_below items m
          → (lives role (after 0 (joins_of items lanes) h) q ≡ true → length lanes < q)
          → (b : Bool) → nat_eq (pass_of items m) q ≡ b
          → (if b then false else lives role (after 0 (joins_of items lanes) h) q) ≡ true
          → length (lanes ++ m ∷ []) < q
      by m lanes is before true same there = absurd cc
      by m lanes is before false other there =
          let apart = eqb-false (pass_of items m) q other in
          omega (arith, before there, apart, ap length is, length-append lanes (m ∷ []))

  -- a CPU whose lane has not begun is free
  pub free-next : (c : CpuId) (h : History) → own h 0 ≡ opened c.number → IsFree role h (Some c)
  free-next c h is q there owns =
      let mine = owner-opened q c c.number (sym (ap (λ es. owner role es q) is) ∙ owns) in
      absurd (omega (arith, mine.below))

  -- and has spent nothing
  pub spent-next : (facts : GroupFacts) (c : CpuId) (g : ℕ) (h : History) → IsLegal facts h → own h 0 ≡ opened c.number
      → spent h c.number g ≡ 0
  spent-next facts c g h legal is = spent-unowned facts c g h legal (λ q owns.
      let mine = owner-opened q c c.number (sym (ap (λ es. owner role es q) is) ∙ owns) in
      absurd (omega (arith, mine.below)))

  -- what stands where all lanes below CPU n have begun and ended
  abbrev pub closed : ℕ → History
  closed n = after 0 (splits_of items (lanes_below items n) ++ joins_of items (lanes_below items n)) []

  pub closed-parts : (n : ℕ) → closed n ≡ after 0 (joins_of items (lanes_below items n)) (opened n)
  closed-parts n = after-steps 0 (splits_of items (lanes_below items n)) (joins_of items (lanes_below items n)) []

  -- no pass lives then
  pub ended-closed : (n : ℕ) (h : History) → own h 0 ≡ closed n → (q : ℕ) → lives_in role h q ≡ false
  ended-closed n h is q = by (lives_in role h q) refl
    where
      none : lives_in role h q ≡ true → ⊥
      none there =
          let here : lives role (after 0 (joins_of items (lanes_below items n)) (opened n)) q ≡ true =
          sym (ap (λ es. lives role es q) (is ∙ closed-parts n)) ∙ there in
          let given = lives-opened q n (lives-joins (lanes_below items n) (opened n) q here) in
          absurd (omega (arith, given.1, lives-closed q (opened n) n given.0 here))

      by : (b : Bool) → lives_in role h q ≡ b → lives_in role h q ≡ false
      by true there = absurd (none there)
      by false there = there

  -- and as many have begun as there are lanes
  pub begun-closed : (n : ℕ) (h : History) → own h 0 ≡ closed n → begun_in role h ≡ length (lanes_below items n)
  begun-closed n h is =
      ap (begun role) (is ∙ closed-parts n) ∙ begun-joins (lanes_below items n) (opened n)
      ∙ begun-splits (lanes_below items n) [] ∙ omega arith

  owner-joins : (lanes : List ℕ) (h : History) (q : ℕ)
      → owner role (after 0 (joins_of items lanes) h) q ≡ owner role h q
  owner-joins [] h q = refl
  owner-joins (c ∷ lanes) h q = owner-joins lanes (join_of c ∷ h) q

  pub owner-closed : (n : ℕ) (h : History) (q : ℕ) (c : CpuId) → own h 0 ≡ closed n → owner_in role h q ≡ Some c
      → OwnsLane n q c
  owner-closed n h q c is owns =
      owner-opened q c n (sym (ap (λ es. owner role es q) (is ∙ closed-parts n)
      ∙ owner-joins (lanes_below items n) (opened n) q) ∙ owns)

  -- the passes of lanes are numbered in the order of their CPUs
  passes-apart : (c m : ℕ) → c < m → has_some (lane_lines c items) ≡ true → pass_of items c < pass_of items m
  passes-apart c zero below some = absurd (omega arith)
  passes-apart c (suc m) below some =
      by (nat_eq c m) refl (has_some (lane_lines m items)) refl (λ less. passes-apart c m less some)
    where
      by : (e : Bool) → nat_eq c m ≡ e → (b : Bool) → has_some (lane_lines m items) ≡ b
          → (c < m → pass_of items c < pass_of items m) → pass_of items c < pass_of items (suc m)
      by true same b is before =
          let here : c ≡ m = eqb-true c m same in
          let more = ap length (lanes-more items c some) in
          let at = ap (λ k. length (lanes_below items (suc k))) here in
          omega (arith, more, at, length-append (lanes_below items c) (c ∷ []))
      by false other true is before =
          let less : c < m = let apart = eqb-false c m other in omega (arith, apart, below) in
          let more = ap length (lanes-more items m is) in
          omega (arith, before less, more, length-append (lanes_below items m) (m ∷ []))
      by false other false is before =
          let less : c < m = let apart = eqb-false c m other in omega (arith, apart, below) in
          let same = ap length (lanes-same items m is) in
          omega (arith, before less, same)

  -- the pass of a lane owns its CPU
  pub owner-lane : (n c : ℕ) (h : History) → own h 0 ≡ closed n → c < n → has_some (lane_lines c items) ≡ true
      → owner_in role h (pass_of items c) ≡ Some (cpu c)
  owner-lane n c h is c_in some =
      ap (λ es. owner role es (pass_of items c)) (is ∙ closed-parts n)
      ∙ owner-joins (lanes_below items n) (opened n) (pass_of items c)
      ∙ at n c_in
    where
      by : (m : ℕ) → c < suc m → (b : Bool) → has_some (lane_lines m items) ≡ b → (e : Bool) → nat_eq c m ≡ e
          → (c < m → owner role (opened m) (pass_of items c) ≡ Some (cpu c))
          → owner role (after 0 (splits_of items (if b then lanes_below items m ++ m ∷ [] else lanes_below items m))
          []) (pass_of items c) ≡ Some (cpu c)
      by m below true has true same before =
          let here : c ≡ m = eqb-true c m same in
          let yes : nat_eq (pass_of items m) (pass_of items c) ≡ true =
          eq-eqb (pass_of items m) (pass_of items c) (ap (pass_of items) (sym here)) in
          ap (λ es. owner role es (pass_of items c)) (splits-more (lanes_below items m) m [])
          ∙ ap (λ b. if b then Some (cpu m) else owner role (opened m) (pass_of items c)) yes
          ∙ ap (λ k. Some (cpu k)) (sym here)
      by m below true has false other before =
          let less : c < m = let apart = eqb-false c m other in omega (arith, apart, below) in
          let shorter = passes-apart c m less some in
          let no : nat_eq (pass_of items m) (pass_of items c) ≡ false =
          ne_eqb (pass_of items m) (pass_of items c) (λ same. absurd (omega (arith, same, shorter))) in
          ap (λ es. owner role es (pass_of items c)) (splits-more (lanes_below items m) m [])
          ∙ ap (λ b. if b then Some (cpu m) else owner role (opened m) (pass_of items c)) no
          ∙ before less
      by m below false none true same before =
          let here : c ≡ m = eqb-true c m same in
          let both : true ≡ false = sym some ∙ ap (λ k. has_some (lane_lines k items)) here ∙ none in
          absurd cc
      by m below false none false other before =
          let apart = eqb-false c m other in
          before (omega (arith, apart, below))

      at : (m : ℕ) → c < m → owner role (opened m) (pass_of items c) ≡ Some (cpu c)
      at zero below = absurd (omega arith)
      at (suc m) below = by m below (has_some (lane_lines m items)) refl (nat_eq c m) refl (at m)

  -- what holds of all lanes with lines holds of each
  pub lane-holds : (P : ℕ → Type 0) (n : ℕ) → All P (lanes_below items n) → (c : ℕ) → c < n
      → has_some (lane_lines c items) ≡ true → P c
  lane-holds P =
      by_lanes (λ n lanes. All P lanes → (c : ℕ) → c < n → has_some (lane_lines c items) ≡ true → P c)
      (λ all c below some. absurd (omega arith))
      (λ n lanes has is before all c below some.
      let parts = All-pop P (lanes ++ n ∷ []) lanes (Some n) refl all in
      elim (cases_lt c n) [
        | inl less ↦ before parts.0 c less some
        | inr last ↦ let at : n ≡ c = omega (arith, below, last) in subst P at parts.1
      ])
      (λ n lanes none before all c below some. elim (cases_lt c n) [
        | inl less ↦ before all c less some
        | inr last ↦
            let at : c ≡ n = omega (arith, below, last) in
            let both : true ≡ false = sym some ∙ ap (λ k. has_some (lane_lines k items)) at ∙ none in
            absurd cc
      ])

-- the lanes are of CPUs below
pub lanes-known : (items : List GroupItem) (n : ℕ) → All (λ c. c < n) (lanes_below items n)
lanes-known items =
    by_lanes items (λ n lanes. All (λ c. c < n) lanes) (All-nil (λ (c : ℕ). c < 0))
    (λ n lanes some is before.
    All-push (λ c. c < suc n) lanes n (later n lanes before) (omega arith))
    (λ n lanes none before. later n lanes before)
  where
    later : (n : ℕ) (lanes : List ℕ) → All (λ c. c < n) lanes → All (λ c. c < suc n) lanes
    later n lanes all = All-weaker (λ c. c < n) (λ c. c < suc n) (λ c below. omega (arith, below)) lanes all
