-- For other crates too: a phase stands with one line more; a history in file order has its lanes and makes its lines.
use Rattle.std.proofs.Common.{◌≡◌, ◌≢◌, ℕ, suc, ◌<◌, Bool, true, false, List, [], ◌∷◌, ◌++◌, length, map, refl, sym, ap}
use Rattle.std.proofs.Common.{◌+◌, subst, ◌∙◌, arith, if◌then◌else◌, ⊎_elim, append_assoc, append-nil, Option}
use Rattle.std.specs.Prelude.{All, filter}
use Rattle.std.proofs.lemmas.Bool.{cases_eq}
use Rattle.std.proofs.lemmas.List.{map-append}
use Rattle.std.proofs.lemmas.List.Elements.{All-cons, All-head, All-nil, All-tail, filter-append}
use Rattle.vms_world.specs.Common.{CpuId, Shape, Event, own, after, Machine, Role, begun, owner, is_lane, Act, Item}
use Rattle.vms_world.specs.Common.{Lane, HasLanes, MakesActs, MakesLines, acts_of, is_among, lane_at, lanes_of}
use Rattle.vms_world.specs.Common.{owner_of, act as one_act}
use Rattle.vms_history.proofs.Common.{after-append, own-after, own-after_others, own-append}
use Rattle.vms_world.specs.Lanes.MakesActs.{none as no_act}
use Rattle.vms_file_order.specs.Common.{PassSteps, StandOnce, begins_from, closing_of, ends_from, opening_of, pass_of}
use Rattle.vms_file_order.specs.Common.{Follow, GoesOnWithLine, IsFileOrder, StandsOpen, none, line}
use Rattle.vms_file_order.proofs.LaneLists.{StandOnce-lanes, is_lane-same, is_lane-self, lane_at-pass_of}
use Rattle.vms_file_order.proofs.LaneLists.{pass_of-lane_at, pass_of-least}
use Rattle.vms_file_order.proofs.Openings.{begun-begins, owner-lane, own-opening, own-opening_others}
use Rattle.vms_file_order.proofs.Closings.{begun-ends, owner-ends}

-- a line's steps go on, and its caller may end after them: the phase stands with the line
module _ {F K S : Type 0} (machine : Machine F K S) (passes : PassSteps K machine.role)
    (makes : Lane → ℕ → Act → List (Event K) → List K → Type 0) (IsAlone : K → Type 0) (facts : F)
    (lanes : List Lane) (item : Item) (h : List (Event K)) (next : S) (among : is_among item.lane lanes ≡ true)
    (goes : GoesOnWithLine machine makes IsAlone facts lanes item h next) where
  pub StandsOpen-line : (now : S) → StandsOpen machine passes facts lanes h now
      → StandsOpen machine passes facts lanes (after (pass_of lanes item.lane) goes.steps h) next
  StandsOpen-line now stands =
      let p = pass_of lanes item.lane in
      let least = pass_of-least lanes item.lane among in
      record {
        legal = goes.goes_on.legal;
        main = own-after_others p goes.steps h 0 (λ same. absurd (omega arith)) ∙ stands.main;
        may_end = λ q other. ⊎_elim
            (λ (mine : q ≡ p). subst (λ (r : ℕ). machine.MayEnd facts (own (after p goes.steps h) r)) (sym mine)
            goes.may_end)
            (λ (others : q ≢ p). subst (machine.MayEnd facts) (sym (own-after_others p goes.steps h q others))
            (stands.may_end q other))
            (cases_eq q p);
        state = goes.goes_on.state;
      }

  pub Follow-line : (items : List Item) → Follow passes makes IsAlone lanes items h
      → Follow passes makes IsAlone lanes (items ++ item ∷ []) (after (pass_of lanes item.lane) goes.steps h)
  Follow-line items follow = line items item h goes.steps follow among goes.making goes.alone

-- the acts of a lane with one line more
acts_of-line : (lane : Lane) (items : List Item) (next : Item)
    → acts_of lane (items ++ next ∷ []) ≡ acts_of lane items ++ (if is_lane next.lane lane then next.act ∷ [] else [])
acts_of-line lane items next =
    let test : Item → Bool = λ item. is_lane item.lane lane in
    let act : Item → Act = λ item. item.act in
    ap (map act) (filter-append test items (next ∷ []))
    ∙ map-append act (filter test items) (filter test (next ∷ []))
    ∙ ap (λ acts. map act (filter test items) ++ acts) (by act (is_lane next.lane lane))
  where
    by : (act : Item → Act) (b : Bool)
        → map act (if b then next ∷ [] else []) ≡ (if b then act next ∷ [] else [])
    by act true = refl
    by act false = refl

module _ {K : Type 0} (makes : Act → List (Event K) → List K → Type 0) (p : ℕ) where
  -- what others do afterwards leaves what a caller has made
  MakesActs-others : (acts : List Act) (h m : List (Event K)) → MakesActs makes p acts h → own m p ≡ []
      → MakesActs makes p acts (m ++ h)
  MakesActs-others acts h m (no_act h' nothing) others =
      no_act (m ++ h) (own-append m h p ∙ ap (λ es. es ++ own h p) others ∙ nothing)
  MakesActs-others acts h m (one_act before next h' more steps made making own_is) others =
      subst (MakesActs makes p (before ++ next ∷ [])) (append_assoc m more h')
      (one_act before next h' (m ++ more) steps made making
      (ap (λ es. own es p) (append_assoc m more h') ∙ own-append m (more ++ h') p
      ∙ ap (λ es. es ++ own (more ++ h') p) others ∙ own_is))

  -- steps of another caller do
  MakesActs-after : (acts : List Act) (h : List (Event K)) (q : ℕ) (steps : List K) → MakesActs makes p acts h → p ≢ q
      → MakesActs makes p acts (after q steps h)
  MakesActs-after acts h q steps made other =
      subst (MakesActs makes p acts) (sym (after-append q steps [] h))
      (MakesActs-others acts h (after q steps []) made (own-after_others q steps [] p other))

  -- the caller's own steps are an act more
  MakesActs-act : (acts : List Act) (h : List (Event K)) (next : Act) (steps : List K) → MakesActs makes p acts h
      → makes next h steps → MakesActs makes p (acts ++ next ∷ []) (after p steps h)
  MakesActs-act acts h next steps made making =
      subst (MakesActs makes p (acts ++ next ∷ [])) (sym (after-append p steps [] h))
      (one_act acts next h (after p steps []) steps made making
      (ap (λ es. own es p) (sym (after-append p steps [] h)) ∙ own-after p steps h))

-- a line that makes no step goes on to the state that stands
pub GoesOnWithLine-none : {F K S : Type 0} (machine : Machine F K S) (passes : PassSteps K machine.role)
    (makes : Lane → ℕ → Act → List (Event K) → List K → Type 0) (IsAlone : K → Type 0) (facts : F) (lanes : List Lane)
    (item : Item) (h : List (Event K)) (now : S) → is_among item.lane lanes ≡ true
    → StandsOpen machine passes facts lanes h now → makes item.lane (pass_of lanes item.lane) item.act h []
    → GoesOnWithLine machine makes IsAlone facts lanes item h now
GoesOnWithLine-none machine passes makes IsAlone facts lanes item h now among stands making =
    let least = pass_of-least lanes item.lane among in
    record {
      steps = [];
      making = making;
      alone = All-nil IsAlone;
      goes_on = record { legal = stands.legal; state = stands.state };
      may_end = stands.may_end (pass_of lanes item.lane) (λ same. absurd (omega arith));
    }

-- what holds of steps holds of them in a history
All-after : {K : Type 0} (P : K → Type 0) (p : ℕ) (steps : List K) (h : List (Event K)) → All P steps
    → All (λ e. P e.step) h → All (λ e. P e.step) (after p steps h)
All-after P p [] h each all = all
All-after P p (step ∷ steps) h each all = All-after P p steps (record { caller = p; step = step } ∷ h)
    (All-tail P step steps each)
    (All-cons (λ e. P e.step) (record { caller = p; step = step }) h (All-head P step steps each) all)

module _ {K : Type 0} {role : K → Role} (passes : PassSteps K role)
    (makes : Lane → ℕ → Act → List (Event K) → List K → Type 0) (IsAlone : K → Type 0) (lanes : List Lane) where
  -- the main pass has made the opening
  pub own-followed : (items : List Item) (h : List (Event K)) → Follow passes makes IsAlone lanes items h
      → own h 0 ≡ opening_of passes lanes
  own-followed items h none = own-opening passes lanes
  own-followed items h (line before next h' steps follow among making alone) =
      let least = pass_of-least lanes next.lane among in
      own-after_others (pass_of lanes next.lane) steps h' 0 (λ same. absurd (omega arith))
      ∙ own-followed before h' follow

  -- a lane that isn't among them has no line
  pub acts_of-followed : (items : List Item) (h : List (Event K)) → Follow passes makes IsAlone lanes items h
      → (lane : Lane) → is_among lane lanes ≡ false → acts_of lane items ≡ []
  acts_of-followed items h none lane apart = refl
  acts_of-followed items h (line before next h' steps follow among making alone) lane apart =
      acts_of-line lane before next ∙ by (is_lane next.lane lane) refl (acts_of-followed before h' follow lane apart)
    where
      by : (b : Bool) → is_lane next.lane lane ≡ b → acts_of lane before ≡ []
          → acts_of lane before ++ (if b then next.act ∷ [] else []) ≡ []
      by true same earlier =
          let both : true ≡ false =
          sym among ∙ ap (λ l. is_among l lanes) (is_lane-same next.lane lane same) ∙ apart in
          absurd cc
      by false other earlier = ap (λ acts. acts ++ []) earlier

  module _ (begins : (q : ℕ) (who : Option CpuId) → IsAlone (passes.begin q who)) where
    All-begins : (m : ℕ) (ls : List Lane) → All IsAlone (begins_from passes m ls)
    All-begins m [] = All-nil IsAlone
    All-begins m (l ∷ ls) = All-cons IsAlone (passes.begin m (owner_of l)) (begins_from passes (suc m) ls)
        (begins m (owner_of l)) (All-begins (suc m) ls)

    -- no step met another caller
    All-followed : (items : List Item) (h : List (Event K)) → Follow passes makes IsAlone lanes items h
        → All (λ e. IsAlone e.step) h
    All-followed items h none =
        All-after IsAlone 0 (begins_from passes 1 lanes) [] (All-begins 1 lanes) (All-nil (λ e. IsAlone e.step))
    All-followed items h (line before next h' steps follow among making alone) =
        All-after IsAlone (pass_of lanes next.lane) steps h' alone (All-followed before h' follow)

    module _ (ends : (q : ℕ) → IsAlone (passes.end q)) where
      All-ends : (m : ℕ) (ls : List Lane) → All IsAlone (ends_from passes m ls)
      All-ends m [] = All-nil IsAlone
      All-ends m (l ∷ ls) =
          All-cons IsAlone (passes.end m) (ends_from passes (suc m) ls) (ends m) (All-ends (suc m) ls)

      All-closing : (items : List Item) (h : List (Event K)) → Follow passes makes IsAlone lanes items h
          → All (λ e. IsAlone e.step) (closing_of passes lanes h)
      All-closing items h follow =
          All-after IsAlone 0 (ends_from passes 1 lanes) h (All-ends 1 lanes) (All-followed items h follow)

  module _ (once : StandOnce lanes) (items : List Item) (h : List (Event K))
      (follow : Follow passes makes IsAlone lanes items h) where
    -- a pass has begun for each lane and no other
    pub HasLanes-followed : HasLanes role lanes h
    HasLanes-followed = record {
      one_each = ap (begun role) (own-followed items h follow)
          ∙ (begun-begins passes 1 lanes [] ∙ omega arith);
      owners = λ n below.
          let place = pass_of-lane_at lanes n once below in
          let at : 0 + pass_of lanes (lane_at lanes n) ≡ suc n = omega (arith, place.number) in
          ap (λ es. owner role es (suc n)) (own-followed items h follow)
          ∙ ap (owner role (opening_of passes lanes)) (sym at)
          ∙ owner-lane passes 0 lanes [] (lane_at lanes n) place.among;
    }

    pub HasLanes-closing : HasLanes role lanes (closing_of passes lanes h)
    HasLanes-closing = record {
      one_each = begun-ends passes 1 lanes h ∙ HasLanes-followed.one_each;
      owners = λ n below. owner-ends passes 1 lanes h (suc n) ∙ HasLanes-followed.owners n below;
    }

  -- each lane's pass has made the acts of its lines
  pub MakesActs-followed : StandOnce lanes → (items : List Item) (h : List (Event K))
      → Follow passes makes IsAlone lanes items h → (n : ℕ) → n < length lanes
      → MakesActs (makes (lane_at lanes n) (suc n)) (suc n) (acts_of (lane_at lanes n) items) h
  MakesActs-followed once items h none n below =
      no_act (opening_of passes lanes) (own-opening_others passes lanes (suc n) (omega arith))
  MakesActs-followed once items h (line before next h' steps follow among making alone) n below =
      by (is_lane next.lane lane) refl (acts_of-line lane before next)
      (MakesActs-followed once before h' follow n below)
    where
      lane : Lane
      lane = lane_at lanes n

      p : ℕ
      p = pass_of lanes next.lane

      by : (b : Bool) → is_lane next.lane lane ≡ b
          → acts_of lane (before ++ next ∷ []) ≡ acts_of lane before ++ (if b then next.act ∷ [] else [])
          → MakesActs (makes lane (suc n)) (suc n) (acts_of lane before) h'
          → MakesActs (makes lane (suc n)) (suc n) (acts_of lane (before ++ next ∷ [])) (after p steps h')
      by true same acts made =
          let is : next.lane ≡ lane = is_lane-same next.lane lane same in
          let number : p ≡ suc n = ap (pass_of lanes) is ∙ (pass_of-lane_at lanes n once below).number in
          let mine : makes lane (suc n) next.act h' steps =
          subst (λ (l : Lane). makes l (suc n) next.act h' steps) is
          (subst (λ (q : ℕ). makes next.lane q next.act h' steps) number making) in
          subst (λ (q : ℕ). MakesActs (makes lane (suc n)) (suc n) (acts_of lane (before ++ next ∷ []))
          (after q steps h')) (sym number)
          (subst (λ (all : List Act). MakesActs (makes lane (suc n)) (suc n) all (after (suc n) steps h')) (sym acts)
          (MakesActs-act (makes lane (suc n)) (suc n) (acts_of lane before) h' next.act steps made mine))
      by false apart acts made =
          let other : suc n ≢ p = λ same.
          let is : lane ≡ next.lane = lane_at-pass_of lanes next.lane n among (sym same) in
          let both : true ≡ false =
          sym (is_lane-self next.lane) ∙ subst (λ (l : Lane). is_lane next.lane l ≡ false) is apart in
          absurd cc in
          subst (λ (all : List Act). MakesActs (makes lane (suc n)) (suc n) all (after p steps h'))
          (sym (acts ∙ append-nil (acts_of lane before)))
          (MakesActs-after (makes lane (suc n)) (suc n) (acts_of lane before) h' p steps made other)

  pub MakesLines-closing : StandOnce lanes → (items : List Item) (h : List (Event K))
      → Follow passes makes IsAlone lanes items h → MakesLines makes lanes items (closing_of passes lanes h)
  MakesLines-closing once items h follow = λ n below.
      MakesActs-after (makes (lane_at lanes n) (suc n)) (suc n) (acts_of (lane_at lanes n) items) h 0
      (ends_from passes 1 lanes) (MakesActs-followed once items h follow n below) (omega arith)

module _ {K : Type 0} {role : K → Role} (passes : PassSteps K role)
    (makes : Lane → ℕ → Act → List (Event K) → List K → Type 0) (IsAlone : K → Type 0) (shape : Shape)
    (items : List Item) (h : List (Event K)) (in_order : IsFileOrder passes makes IsAlone shape items h) where
  abbrev lanes : List Lane
  lanes = lanes_of shape items

  -- a history in file order has the lanes of its lines, makes the lines, and meets no other caller in any step
  pub HasLanes-in_order : HasLanes role lanes h
  HasLanes-in_order = subst (HasLanes role lanes) (sym in_order.ends)
      (HasLanes-closing passes makes IsAlone lanes (StandOnce-lanes shape items) items in_order.lines in_order.follow)

  pub MakesLines-in_order : MakesLines makes lanes items h
  MakesLines-in_order = subst (MakesLines makes lanes items) (sym in_order.ends)
      (MakesLines-closing passes makes IsAlone lanes (StandOnce-lanes shape items) items in_order.lines in_order.follow)

  pub All-in_order : ((q : ℕ) (who : Option CpuId) → IsAlone (passes.begin q who))
      → ((q : ℕ) → IsAlone (passes.end q)) → All (λ e. IsAlone e.step) h
  All-in_order begins ends = subst (All (λ e. IsAlone e.step)) (sym in_order.ends)
      (All-closing passes makes IsAlone lanes begins ends items in_order.lines in_order.follow)
