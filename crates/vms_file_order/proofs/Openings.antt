-- For other crates too: the passes of some lanes begin, one after another.
use Rattle.std.proofs.Common.{◌≡◌, ◌≢◌, ℕ, suc, ◌+◌, ◌<◌, ◌≤◌, nat_eq, ◌||◌, ◌⊎◌, inl, inr, Bool, true, false, List, []}
use Rattle.std.proofs.Common.{◌∷◌, length, Option, refl, sym, ap, subst, ◌∙◌, arith, if◌then◌else◌}
use Rattle.std.proofs.lemmas.Bool.Decides.{nat_tests}
use Rattle.std.proofs.lemmas.List.Elements.{All-head, All-tail}
use Rattle.vms_world.specs.Common.{CpuId, Event, own, after, Machine, IsQuiet, Acts, Role, begun, begun_after, lives}
use Rattle.vms_world.specs.Common.{lives_after, owner, owner_after, owner_in, Works, is_lane, Lane, is_among, owner_of}
use Rattle.vms_history.specs.Legal.{IsLegal, state_after}
use Rattle.vms_history.specs.Passes.Role.{Begins}
use Rattle.vms_history.proofs.Common.{own-after, own-after_others}
use Rattle.vms_file_order.specs.Common.{MayOwnEach, PassSteps, StandOnce, begins_from, opening_of, pass_of, HasPass}
use Rattle.vms_file_order.specs.Common.{StandsOpen}
use Rattle.vms_file_order.proofs.LaneLists.{is_among-first, is_among-later, is_lane-same, owner_of-injective}
use Rattle.vms_file_order.proofs.LaneLists.{pass_of-least, pass_of-most}

module _ {K : Type 0} {role : K → Role} (passes : PassSteps K role) where
  -- the event that begins a pass
  abbrev begun_by : ℕ → Option CpuId → Event K
  begun_by q who = record { caller = 0; step = passes.begin q who }

  -- what it makes of the passes
  owner-begin : (m : ℕ) (who : Option CpuId) (g : List (Event K)) (q : ℕ)
      → owner role (begun_by m who ∷ g) q ≡ (if nat_eq m q then who else owner role g q)
  owner-begin m who g q = ap (λ r. owner_after r q (owner role g q)) (passes.begins m who)

  lives-begin : (m : ℕ) (who : Option CpuId) (g : List (Event K)) (q : ℕ)
      → lives role (begun_by m who ∷ g) q ≡ (if nat_eq m q then true else lives role g q)
  lives-begin m who g q = ap (λ r. lives_after r q (lives role g q)) (passes.begins m who)

  begun-begin : (m : ℕ) (who : Option CpuId) (g : List (Event K)) → begun role (begun_by m who ∷ g) ≡ suc (begun role g)
  begun-begin m who g = ap (λ r. begun_after r (begun role g)) (passes.begins m who)

  -- passes of smaller numbers stay as they are
  owner-before : (m : ℕ) (ls : List Lane) (g : List (Event K)) (q : ℕ) → q < m
      → owner role (after 0 (begins_from passes m ls) g) q ≡ owner role g q
  owner-before m [] g q below = refl
  owner-before m (l ∷ ls) g q below =
      let other : nat_eq m q ≡ false = grind (arith, nat_tests) in
      owner-before (suc m) ls (begun_by m (owner_of l) ∷ g) q (omega arith)
      ∙ owner-begin m (owner_of l) g q ∙ ap (λ b. if b then owner_of l else owner role g q) other

  lives-before : (m : ℕ) (ls : List Lane) (g : List (Event K)) (q : ℕ) → q < m
      → lives role (after 0 (begins_from passes m ls) g) q ≡ lives role g q
  lives-before m [] g q below = refl
  lives-before m (l ∷ ls) g q below =
      let other : nat_eq m q ≡ false = grind (arith, nat_tests) in
      lives-before (suc m) ls (begun_by m (owner_of l) ∷ g) q (omega arith)
      ∙ lives-begin m (owner_of l) g q ∙ ap (λ b. if b then true else lives role g q) other

  -- as many passes have begun as there are lanes
  pub begun-begins : (m : ℕ) (ls : List Lane) (g : List (Event K))
      → begun role (after 0 (begins_from passes m ls) g) ≡ begun role g + length ls
  begun-begins m [] g = omega arith
  begun-begins m (l ∷ ls) g = omega (
    arith,
    begun-begins (suc m) ls (begun_by m (owner_of l) ∷ g),
    begun-begin m (owner_of l) g,
  )

  -- the pass of a lane owns what the lane's passes own
  pub owner-lane : (m : ℕ) (ls : List Lane) (g : List (Event K)) (lane : Lane) → is_among lane ls ≡ true
      → owner role (after 0 (begins_from passes (suc m) ls) g) (m + pass_of ls lane) ≡ owner_of lane
  owner-lane m [] g lane among = absurd cc
  owner-lane m (l ∷ ls) g lane among = by (is_lane l lane) refl among (owner-lane (suc m) ls e lane)
    where
      e : List (Event K)
      e = begun_by (suc m) (owner_of l) ∷ g

      by : (b : Bool) → is_lane l lane ≡ b → (b || is_among lane ls) ≡ true
          → (is_among lane ls ≡ true
          → owner role (after 0 (begins_from passes (suc (suc m)) ls) e) (suc m + pass_of ls lane) ≡ owner_of lane)
          → owner role (after 0 (begins_from passes (suc (suc m)) ls) e) (m + (if b then 1 else suc (pass_of ls lane)))
          ≡ owner_of lane
      by true same either rest =
          let mine : nat_eq (suc m) (m + 1) ≡ true = grind (arith, nat_tests) in
          owner-before (suc (suc m)) ls e (m + 1) (omega arith)
          ∙ owner-begin (suc m) (owner_of l) g (m + 1)
          ∙ ap (λ b. if b then owner_of l else owner role g (m + 1)) mine
          ∙ ap owner_of (is_lane-same l lane same)
      by false same either rest =
          let at : suc m + pass_of ls lane ≡ m + suc (pass_of ls lane) = omega arith in
          ap (owner role (after 0 (begins_from passes (suc (suc m)) ls) e)) (sym at) ∙ rest either

  -- each of the passes lives
  pub lives-lane : (m : ℕ) (ls : List Lane) (g : List (Event K)) (q : ℕ) → m ≤ q → q < m + length ls
      → lives role (after 0 (begins_from passes m ls) g) q ≡ true
  lives-lane m [] g q least below = absurd (omega arith)
  lives-lane m (l ∷ ls) g q least below = by (nat_eq m q) refl (λ later. lives-lane (suc m) ls e q later (omega arith))
    where
      e : List (Event K)
      e = begun_by m (owner_of l) ∷ g

      by : (b : Bool) → nat_eq m q ≡ b → (suc m ≤ q → lives role (after 0 (begins_from passes (suc m) ls) e) q ≡ true)
          → lives role (after 0 (begins_from passes (suc m) ls) e) q ≡ true
      by true is rest = lives-before (suc m) ls e q (grind (arith, nat_tests))
          ∙ lives-begin m (owner_of l) g q ∙ ap (λ b. if b then true else lives role g q) is
      by false is rest = rest (grind (arith, nat_tests))

  -- a pass lives where it did, or is one of those that begin
  pub lives-only : (m : ℕ) (ls : List Lane) (g : List (Event K)) (q : ℕ)
      → lives role (after 0 (begins_from passes m ls) g) q ≡ true
      → (lives role g q ≡ true) ⊎ ((m ≤ q) × (q < m + length ls))
  lives-only m [] g q lives_there = inl lives_there
  lives-only m (l ∷ ls) g q lives_there =
      by (nat_eq m q) refl (lives-begin m (owner_of l) g q)
      (lives-only (suc m) ls (begun_by m (owner_of l) ∷ g) q lives_there)
    where
      by : (b : Bool) → nat_eq m q ≡ b
          → lives role (begun_by m (owner_of l) ∷ g) q ≡ (if b then true else lives role g q)
          → (lives role (begun_by m (owner_of l) ∷ g) q ≡ true) ⊎ ((suc m ≤ q) × (q < suc m + length ls))
          → (lives role g q ≡ true) ⊎ ((m ≤ q) × (q < m + suc (length ls)))
      by true is made either = let here : m ≡ q = grind (arith, nat_tests) in inr (omega arith, omega arith)
      by false is made (inl before) = inl (sym made ∙ before)
      by false is made (inr (least, below)) = inr (omega arith, omega arith)

  -- the opening is the main pass's own, and others have no event
  pub own-opening : (lanes : List Lane) → own (opening_of passes lanes) 0 ≡ opening_of passes lanes
  own-opening lanes = own-after 0 (begins_from passes 1 lanes) []

  pub own-opening_others : (lanes : List Lane) (q : ℕ) → q ≢ 0 → own (opening_of passes lanes) q ≡ []
  own-opening_others lanes q other = own-after_others 0 (begins_from passes 1 lanes) [] q other

  -- where the main pass's own events are the opening, each lane has its pass
  pub HasPass-opening : (lanes : List Lane) (h : List (Event K)) (lane : Lane) → own h 0 ≡ opening_of passes lanes
      → is_among lane lanes ≡ true → HasPass role lanes h lane
  HasPass-opening lanes h lane main among =
      let p = pass_of lanes lane in
      let least = pass_of-least lanes lane among in
      record {
        other_than_main = λ same. absurd (omega arith);
        lives = ap (λ es. lives role es p) main
            ∙ lives-lane 1 lanes [] p least (omega (arith, pass_of-most lanes lane among));
        owner = ap (λ es. owner role es p) main
            ∙ (let at : 0 + p ≡ p = omega arith in
            subst (λ (q : ℕ). owner role (opening_of passes lanes) q ≡ owner_of lane) at
            (owner-lane 0 lanes [] lane among));
      }

module _ {F K S : Type 0} (machine : Machine F K S) (quiet : IsQuiet machine) (passes : PassSteps K machine.role)
    (facts : F) where
  begin-quiet : (q : ℕ) (who : Option CpuId) → machine.role (passes.begin q who) ≢ Works
  begin-quiet q who works = let both : Begins q who ≡ Works = sym (passes.begins q who) ∙ works in absurd cc

  state_after-begins : (m : ℕ) (ls : List Lane) (g : List (Event K))
      → state_after machine facts (after 0 (begins_from passes m ls) g) ≡ state_after machine facts g
  state_after-begins m [] g = refl
  state_after-begins m (l ∷ ls) g =
      state_after-begins (suc m) ls (begun_by passes m (owner_of l) ∷ g)
      ∙ quiet.leaves facts (owner_in machine.role g 0) (passes.begin m (owner_of l)) (state_after machine facts g)
      (begin-quiet m (owner_of l))

  -- lanes whose passes may begin, none of which stands in the passes that live, begin one after another
  IsLegal-begins : (m : ℕ) (ls : List Lane) (g : List (Event K)) → MayOwnEach machine facts ls → StandOnce ls
      → IsLegal machine facts g → own g 0 ≡ g → begun machine.role g ≡ m
      → ((l : Lane) → is_among l ls ≡ true → (q : ℕ) → lives machine.role g q ≡ true
      → owner machine.role g q ≡ owner_of l → ⊥)
      → IsLegal machine facts (after 0 (begins_from passes (suc m) ls) g)
  IsLegal-begins m [] g may once legal mine count free = legal
  IsLegal-begins m (l ∷ ls) g may once legal mine count free =
      IsLegal-begins (suc m) ls (begun_by passes (suc m) (owner_of l) ∷ g)
      (All-tail (λ lane. machine.MayOwn facts (owner_of lane)) l ls may) once.1 (
        legal,
        subst (Acts machine facts g 0) (sym (passes.begins (suc m) (owner_of l))) (
          refl,
          ap suc (sym (ap (begun machine.role) mine ∙ count)),
          All-head (λ lane. machine.MayOwn facts (owner_of lane)) l ls may,
          free_here,
        ),
        quiet.asks_nothing facts g (state_after machine facts g) 0 (passes.begin (suc m) (owner_of l))
            (begin-quiet (suc m) (owner_of l)),
      )
      (ap (λ es. begun_by passes (suc m) (owner_of l) ∷ es) mine)
      (begun-begin passes (suc m) (owner_of l) g ∙ ap suc count) free_there
    where
      free_here : (q : ℕ) → lives machine.role (own g 0) q ≡ true → owner machine.role (own g 0) q ≡ owner_of l → ⊥
      free_here = subst (λ (es : List (Event K)). (q : ℕ) → lives machine.role es q ≡ true
          → owner machine.role es q ≡ owner_of l → ⊥) (sym mine) (free l (is_among-first l ls))

      free_there : (a : Lane) → is_among a ls ≡ true → (q : ℕ)
          → lives machine.role (begun_by passes (suc m) (owner_of l) ∷ g) q ≡ true
          → owner machine.role (begun_by passes (suc m) (owner_of l) ∷ g) q ≡ owner_of a → ⊥
      free_there a among q lives_there owns = by (nat_eq (suc m) q)
          (sym (lives-begin passes (suc m) (owner_of l) g q) ∙ lives_there)
          (sym (owner-begin passes (suc m) (owner_of l) g q) ∙ owns)
        where
          by : (b : Bool) → (if b then true else lives machine.role g q) ≡ true
              → (if b then owner_of l else owner machine.role g q) ≡ owner_of a → ⊥
          by true is_new owned =
              let one : is_among l ls ≡ true =
              subst (λ (x : Lane). is_among x ls ≡ true) (sym (owner_of-injective l a owned)) among in
              let both : true ≡ false = sym one ∙ once.0 in
              absurd cc
          by false was owned = free a (is_among-later l a ls among) q was owned

  -- a phase opens: where the passes of these lanes may begin, their opening is legal and leaves the base
  pub StandsOpen-opening : (lanes : List Lane) → machine.CanBegin facts → machine.MayEnd facts []
      → MayOwnEach machine facts lanes → StandOnce lanes
      → StandsOpen machine passes facts lanes (opening_of passes lanes) (machine.base facts)
  StandsOpen-opening lanes can_begin fresh may once = record {
    legal = IsLegal-begins 0 lanes [] may once can_begin refl refl (λ l among q lives_there owns. cc);
    main = own-opening passes lanes;
    may_end = λ q other. subst (machine.MayEnd facts) (sym (own-opening_others passes lanes q other)) fresh;
    state = state_after-begins 1 lanes [];
  }
