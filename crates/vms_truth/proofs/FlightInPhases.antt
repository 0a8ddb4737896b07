-- What all callers have in flight at each moment of a phase.
use Rattle.std.proofs.Common.{◌≡◌, ◌≢◌, ℕ, zero, suc, ◌+◌, ◌<◌, ◌≤◌, ◌||◌, ◌⊎◌, inl, inr, Bool, true, false, ℤ, pos}
use Rattle.std.proofs.Common.{List, [], ◌∷◌, ◌++◌, length, map, Option, Some, None, refl, sym, ap, subst, ◌∙◌, arith}
use Rattle.std.proofs.Common.{nat_eq, if◌then◌else◌, eq-eqb, eqb-true, append_assoc}
use Rattle.std.specs.Prelude.{filter}
use Rattle.std.specs.List.{Contains}
use Rattle.std.proofs.Math.Bool.{or-true}
use Rattle.std.proofs.lemmas.Bool.{cases_lt, eqb-false, or_parts}
use Rattle.vms_calls.specs.PageCalls.{IsPageCall, owns_cpu}
use Rattle.vms_calls.specs.declared.page_calls.PageCall.{PageCall}
use Rattle.vms_calls.specs.declared.page_calls.PageCall.TheVariants.{Bury, Change, Fold, SetNormal, SetPressure}
use Rattle.vms_calls.specs.declared.page_calls.PageCall.TheVariants.{Snapshot, System, Test, Turn, Value}
use Rattle.vms_calls.proofs.Common.{Each}
use Rattle.vms_core.specs.Own.{CarriesNothing}
use Rattle.vms_core.specs.Pages.{History, IsLegal}
use Rattle.vms_world.specs.Common.{cpu_in, Act, Acts, CallSteps, Control, Cpu, CpuId, Extends, Facts, Header, IsCounter}
use Rattle.vms_world.specs.Common.{Item, Lane, MakesActs, PageSteps, State, Step, TableHistories, Take, ZoneSize}
use Rattle.vms_world.specs.Common.{act as one_act, acts_of, after, begun_in, cpu_at, facts_of, is_lane, lane_at}
use Rattle.vms_world.specs.Common.{lanes_of, own, owner_in, owner_of, page_call, pages}
use Rattle.vms_core.specs.Steps.{role}
use Rattle.vms_drift.specs.Transit.{CallsCarryNothingOn}
use Rattle.vms_file_order.specs.Common.{MakeInAnyOrder, pass_of}
use Rattle.vms_file_order.proofs.AbsentCpus.{GoesAbsent, absent-by_line, cpu_in-either}
use Rattle.vms_file_order.proofs.Common.{StandOnce-lanes, is_lane-same, pass_of-lane_at}
use Rattle.vms_history.proofs.Common.{begun_in-append, own-mine, own-not_given, owner_in-append}
use Rattle.vms_near.specs.CallFlight.{CallsFlyLittle, is_dead_at, most_in_flight, most_overstep, others_take}
use Rattle.vms_near.specs.CallFlight.{takes_from}
use Rattle.vms_near.specs.InFlight.{in_flight_of, is_dead}
use Rattle.vms_near.proofs.CallFlight.{flies-none}
use Rattle.vms_near.proofs.CallTakes.{LeavesCpu, call-leaves}
use Rattle.vms_near.proofs.Moments.{earlier-legal}
use Rattle.vms_text.specs.declared.acts.Act.TheVariants.{Dead}
use Rattle.vms_truth.specs.PhaseFlight.{PhasesFlyLittle, buried_among, buries, folded_beside, folds, is_taken_beside}
use Rattle.vms_truth.specs.PhaseFlight.{most_of_lane, stays_dead}
use Rattle.vms_truth.specs.PhaseTransit.{most_of_acts}
use Rattle.vms_truth.proofs.CarriedInPhases.{InsideCall, IsInside, carries-along, main-nothing, sum-bounded}
use Rattle.vms_world.specs.Lanes.MakesActs.{none as no_act}
use Rattle.vms_world.specs.declared.worlds.World.{World}

-- where no line of another lane folds CPU c, no act of another lane does
abbrev NoneFolds : CpuId → Lane → List Act → Type 0
NoneFolds c lane [] = Unit {0}
NoneFolds c lane (a ∷ acts) = (folds c (page_call lane a) ≡ false) × NoneFolds c lane acts

none-folds : (c : CpuId) (lane : Lane) (items : List Item) → is_lane lane (Cpu c) ≡ false
    → folded_beside (Cpu c) c items ≡ false → NoneFolds c lane (acts_of lane items)
none-folds c lane [] other off = tt
none-folds c lane (item ∷ items) other off =
    by (filter (λ i. is_lane i.lane lane) items) (is_lane item.lane lane) refl
    (λ rest. none-folds c lane items other rest)
  where
    rest-off : (b : Bool) → (if b then folded_beside (Cpu c) c items
        else (folds c (page_call item.lane item.act) || folded_beside (Cpu c) c items)) ≡ false
        → folded_beside (Cpu c) c items ≡ false
    rest-off true off = off
    rest-off false off = (or_parts (folds c (page_call item.lane item.act)) (folded_beside (Cpu c) c items) off).1

    first-off : is_lane item.lane lane ≡ true → folds c (page_call lane item.act) ≡ false
    first-off same =
        let one = is_lane-same item.lane lane same in
        let apart : is_lane item.lane (Cpu c) ≡ false = ap (λ (l : Lane). is_lane l (Cpu c)) one ∙ other in
        let both = rw apart at off in
        ap (λ (l : Lane). folds c (page_call l item.act)) (sym one)
        ∙ (or_parts (folds c (page_call item.lane item.act)) (folded_beside (Cpu c) c items) both).0

    by : (rest : List Item) (b : Bool) → is_lane item.lane lane ≡ b
        → (folded_beside (Cpu c) c items ≡ false → NoneFolds c lane (map (λ i. i.act) rest))
        → NoneFolds c lane (map (λ i. i.act) (if b then item ∷ rest else rest))
    by rest true same later = (first-off same, later (rest-off (is_lane item.lane (Cpu c)) off))
    by rest false different later = later (rest-off (is_lane item.lane (Cpu c)) off)

none-last : (c : CpuId) (lane : Lane) (acts : List Act) (a : Act) → NoneFolds c lane (acts ++ a ∷ [])
    → NoneFolds c lane acts × (folds c (page_call lane a) ≡ false)
none-last c lane [] a none = (tt, none.0)
none-last c lane (first ∷ acts) a none = let last = none-last c lane acts a none.1 in ((none.0, last.0), last.1)

-- so no step of another caller takes differentials of the CPU
abbrev EachEvent : (Step → Type 0) → History → Type 0
EachEvent Kind [] = Unit {0}
EachEvent Kind (e ∷ h) = Kind e.step × EachEvent Kind h

each-after : (Kind : Step → Type 0) (p : ℕ) (steps : List Step) (h : History) → Each Kind steps → EachEvent Kind h
    → EachEvent Kind (after p steps h)
each-after Kind p [] h all was = was
each-after Kind p (step ∷ steps) h all was =
    each-after Kind p steps (record { caller = p; step = step } ∷ h) all.1 (all.0, was)

acts-leave : (header : Header) (base : State) (pressure normal : ZoneSize → ℕ → ℕ → Type 0) (c : CpuId) (lane : Lane)
    (p : ℕ) (acts : List Act) (h : History) → NoneFolds c lane acts
    → MakesActs (PageSteps header base pressure normal lane p) p acts h → EachEvent (LeavesCpu c) (own h p)
acts-leave header base pressure normal c lane p acts h none (no_act h' nothing) =
    subst (EachEvent (LeavesCpu c)) (sym nothing) tt
acts-leave header base pressure normal c lane p acts h none (one_act before next h' more steps made making own_is) =
    let last = none-last c lane before next none in
    subst (EachEvent (LeavesCpu c)) (sym own_is)
    (each-after (LeavesCpu c) p steps (own h' p) (by (page_call lane next) last.1 making)
    (acts-leave header base pressure normal c lane p before h' last.0 made))
  where
    by : (asked : Option PageCall) → folds c asked ≡ false
        → CallSteps (λ call ks told. IsPageCall header base pressure normal call (owner_of lane) p h' ks told) asked
        steps
        → Each (LeavesCpu c) steps
    by None off none_made = subst (Each (LeavesCpu c)) (sym none_made) tt
    by (Some call) off (told, is) =
        call-leaves c header base pressure normal p h' steps call (owner_of lane) told is off

main-leaves : (facts : Facts) (h : History) (c : CpuId) (step : Step) → Acts pages facts h 0 (role step)
    → LeavesCpu c step
main-leaves facts h c (Take d j w) acts = absurd (acts.0 refl)
main-leaves facts h c _ acts = refl

main-each : (facts : Facts) (c : CpuId) (h : History) → IsLegal facts h → EachEvent (LeavesCpu c) (own h 0)
main-each facts c [] legal = tt
main-each facts c (e ∷ h) legal = by (nat_eq e.caller 0) refl (main-each facts c h legal.0)
  where
    by : (b : Bool) → nat_eq e.caller 0 ≡ b → EachEvent (LeavesCpu c) (own h 0)
        → EachEvent (LeavesCpu c) (if b then e ∷ own h 0 else own h 0)
    by true main rest = (
      main-leaves facts h c e.step
          (subst (λ q. Acts pages facts h q (role e.step)) (eqb-true e.caller 0 main) legal.1),
      rest,
    )
    by false other rest = rest

-- where no other caller's own events take from the CPU, others take nothing
others-quiet : (c : CpuId) (p : ℕ) (h : History) → ((q : ℕ) → q ≢ p → EachEvent (LeavesCpu c) (own h q))
    → others_take (Some c) p h ≡ false
others-quiet c p [] each = refl
others-quiet c p (e ∷ h) each =
    by (nat_eq e.caller p) refl (others-quiet c p h (λ q other. rest q (nat_eq e.caller q) (each q other)))
  where
    rest : (q : ℕ) (b : Bool) → EachEvent (LeavesCpu c) (if b then e ∷ own h q else own h q)
        → EachEvent (LeavesCpu c) (own h q)
    rest q true all = all.1
    rest q false all = all

    by : (b : Bool) → nat_eq e.caller p ≡ b → others_take (Some c) p h ≡ false
        → (if b then others_take (Some c) p h else (takes_from (Some c) e.step || others_take (Some c) p h)) ≡ false
    by true mine quiet = quiet
    by false other quiet =
        let first : EachEvent (LeavesCpu c) (e ∷ own h e.caller) =
        subst (EachEvent (LeavesCpu c)) (own-mine e h e.caller refl) (each e.caller (eqb-false e.caller p other)) in
        ap (λ b. b || others_take (Some c) p h) first.0 ∙ quiet

others-none : (p : ℕ) (h : History) → others_take None p h ≡ false
others-none p [] = refl
others-none p (e ∷ h) = by (nat_eq e.caller p) e.step (others-none p h)
  where
    by : (b : Bool) (step : Step) → others_take None p h ≡ false
        → (if b then others_take None p h else (takes_from None step || others_take None p h)) ≡ false
    by true step quiet = quiet
    by false (Take d j w) quiet = quiet
    by false _ quiet = quiet

-- nor in a part of the history
others-part : (who : Option CpuId) (p : ℕ) (xs ys : History) → others_take who p (xs ++ ys) ≡ false
    → (others_take who p xs ≡ false) × (others_take who p ys ≡ false)
others-part who p [] ys quiet = (refl, quiet)
others-part who p (e ∷ xs) ys quiet = by (nat_eq e.caller p) (takes_from who e.step) quiet (others-part who p xs ys)
  where
    by : (b takes : Bool)
        → (if b then others_take who p (xs ++ ys) else (takes || others_take who p (xs ++ ys))) ≡ false
        → (others_take who p (xs ++ ys) ≡ false → (others_take who p xs ≡ false) × (others_take who p ys ≡ false))
        → ((if b then others_take who p xs else (takes || others_take who p xs)) ≡ false)
        × (others_take who p ys ≡ false)
    by true takes quiet rest = rest quiet
    by false true quiet rest = absurd cc
    by false false quiet rest = rest quiet

-- the bound for less, where less is taken and more is dead
most-more : (part : ℤ → ℕ) (owner : Option CpuId) (taken may_take : Bool) (dead stays : CpuId → Bool) (call : PageCall)
    (k : ℕ) → (may_take ≡ false → taken ≡ false) → ((c : CpuId) → stays c ≡ true → dead c ≡ true)
    → most_in_flight part owner taken dead call k ≤ most_in_flight part owner may_take stays call k
most-more part owner taken may_take dead stays (Change l delta how) k less more =
    by (nat_eq l.number k) taken may_take less
  where
    by : (b t m : Bool) → (m ≡ false → t ≡ false)
        → (if b then part delta + (if t then most_overstep how else 0) else 0)
        ≤ (if b then part delta + (if m then most_overstep how else 0) else 0)
    by true true true less = omega arith
    by true false m less = omega arith
    by true true false less = let both : true ≡ false = less refl in absurd cc
    by false t m less = omega arith
most-more part owner taken may_take dead stays (Fold c) k less more = by (owns_cpu owner c) (dead c) (stays c) (more c)
  where
    by : (o d s : Bool) → (s ≡ true → d ≡ true) → (if o || d then 0 else 125) ≤ (if o || s then 0 else 125)
    by true d s more = omega arith
    by false true s more = omega arith
    by false false false more = omega arith
    by false false true more = let both : false ≡ true = more refl in absurd cc
most-more part owner taken may_take dead stays (Bury c) k less more = by (dead c) (stays c) (more c)
  where
    by : (d s : Bool) → (s ≡ true → d ≡ true) → (if d then 0 else 125) ≤ (if s then 0 else 125)
    by true s more = omega arith
    by false false more = omega arith
    by false true more = let both : false ≡ true = more refl in absurd cc
most-more part owner taken may_take dead stays (Test z mark most) k less more = omega arith
most-more part owner taken may_take dead stays (Value l) k less more = omega arith
most-more part owner taken may_take dead stays (Snapshot l) k less more = omega arith
most-more part owner taken may_take dead stays (System i) k less more = omega arith
most-more part owner taken may_take dead stays (SetPressure n) k less more = omega arith
most-more part owner taken may_take dead stays (SetNormal n) k less more = omega arith
most-more part owner taken may_take dead stays (Turn n order most) k less more = omega arith

-- a line that buries a CPU counts as one
buried : (c : CpuId) (acts : List Act) → Contains acts (Dead c) → buried_among c acts ≡ true
buried c [] has = let within = has.1 in absurd (omega (arith, within))
buried c (a ∷ acts) (zero, within, is) =
    subst (λ (x : Act). buried_among c (x ∷ acts) ≡ true) (sym is)
    (ap (λ b. b || buried_among c acts) (eq-eqb c.number c.number refl))
buried c (a ∷ acts) (suc n, within, is) =
    ap (λ b. buries c (page_call Control a) || b) (buried c acts (n, omega (arith, within), is))
    ∙ or-true (buries c (page_call Control a))

module _ (pressure normal : ZoneSize → ℕ → ℕ → Type 0) (between : CallsCarryNothingOn pressure normal)
    (inside : CallsFlyLittle pressure normal) (header : Header) (w : World) (lines : List Item) (hs : TableHistories)
    (makes : MakeInAnyOrder header pressure normal w lines hs) where
  abbrev facts : Facts
  facts = facts_of header w.pages

  abbrev lanes : List Lane
  lanes = lanes_of header.layout lines

  whole : IsLegal facts hs.pages
  whole = makes.complete.pages.legal

  -- a CPU that is dead when the phase begins, and that no line buries, is dead at each moment
  dead-still : (h : History) → Extends hs.pages h → (c : CpuId) → stays_dead w lines c ≡ true
      → is_dead_at facts h c ≡ true
  dead-still h within c stays = by (buried_among c (acts_of Control lines)) refl stays
      (cpu_in-either facts c.number h)
    where
      by : (b : Bool) → buried_among c (acts_of Control lines) ≡ b
          → (if b then false else is_dead (cpu_at w.pages c.number)) ≡ true
          → (cpu_in facts c.number h ≡ cpu_at w.pages c.number) ⊎ GoesAbsent c.number h → is_dead_at facts h c ≡ true
      by true buries stays either = absurd cc
      by false off stays (inl same) = ap is_dead same ∙ stays
      by false off stays (inr goes) =
          let later : GoesAbsent c.number hs.pages = record {
            cpu = goes.cpu;
            same = goes.same;
            caller = goes.caller;
            stands = record {
              since = within.0 ++ goes.stands.since;
              before = goes.stands.before;
              parts = within.1 ∙ ap (λ (es : History). within.0 ++ es) goes.stands.parts
                  ∙ sym (append_assoc within.0 goes.stands.since _);
            };
          } in
          let line = absent-by_line pressure normal header w lanes lines hs.pages whole makes.page_lanes
          makes.page_lines c later in
          let both : true ≡ false = sym (buried c (acts_of Control lines) line) ∙ off in
          absurd cc

  module _ (n : ℕ) (below : n < length lanes) where
    abbrev lane : Lane
    lane = lane_at lanes n

    -- a pass of another lane takes nothing of the lane's CPU where no line of another lane folds it
    other-each : (c : CpuId) → lane ≡ Cpu c → folded_beside (Cpu c) c lines ≡ false → (q : ℕ) → q ≢ suc n
        → EachEvent (LeavesCpu c) (own hs.pages q)
    other-each c is off zero other = main-each facts c hs.pages whole
    other-each c is off (suc m) other = elim (cases_lt m (length lanes)) [
      | inl given ↦
          acts-leave header w.pages pressure normal c (lane_at lanes m) (suc m) (acts_of (lane_at lanes m) lines)
          hs.pages (none-folds c (lane_at lanes m) lines (apart given) off) (makes.page_lines m given)
      | inr past ↦
          let more : begun_in role hs.pages < suc m = omega (arith, makes.page_lanes.one_each, past) in
          let nothing = own-not_given pages facts hs.pages (suc m) whole more in
          subst (EachEvent (LeavesCpu c)) (sym nothing) tt
    ]
      where
        apart : m < length lanes → is_lane (lane_at lanes m) (Cpu c) ≡ false
        apart given = by (is_lane (lane_at lanes m) (Cpu c)) refl
          where
            by : (b : Bool) → is_lane (lane_at lanes m) (Cpu c) ≡ b → b ≡ false
            by false different = refl
            by true same =
                let one : lane_at lanes m ≡ lane = is_lane-same (lane_at lanes m) (Cpu c) same ∙ sym is in
                let once = StandOnce-lanes header.layout lines in
                let numbers : suc m ≡ suc n = sym (pass_of-lane_at lanes m once given).number
                ∙ ap (pass_of lanes) one ∙ (pass_of-lane_at lanes n once below).number in
                absurd (other numbers)

    nothing-taken : is_taken_beside lane lines ≡ false → others_take (owner_of lane) (suc n) hs.pages ≡ false
    nothing-taken = by lane refl
      where
        by : (l : Lane) → lane ≡ l → is_taken_beside l lines ≡ false
            → others_take (owner_of l) (suc n) hs.pages ≡ false
        by (Cpu c) is off = others-quiet c (suc n) hs.pages (other-each c is off)
        by Control is off = others-none (suc n) hs.pages

    module _ (part : ℤ → ℕ) (none : part (pos 0) ≡ 0) (k : ℕ) (k_in : IsCounter header.layout k) (h : History)
        (within : Extends hs.pages h) where
      legal : IsLegal facts h
      legal = earlier-legal facts hs.pages h within whole

      abbrev most : ℕ
      most = most_of_acts (most_of_lane part w lines k lane) lane (acts_of lane lines)

      abbrev flies : ℕ
      flies = in_flight_of part facts h (suc n) k

      quiet : CarriesNothing header.layout (own h (suc n)) → flies ≤ most
      quiet idle =
          let off = flies-none part facts h legal (suc n) k (idle.counters k) in
          omega (arith, off)

      in-call : owner_in role h (suc n) ≡ owner_of lane
          → InsideCall header w.pages pressure normal between lane (suc n) (acts_of lane lines) h → flies ≤ most
      in-call owns call =
          let little = inside header w.pages call.call (owner_of lane) (suc n) h call.earlier call.made call.rest
          call.told call.called call.since call.idle owns part none k k_in in
          let more = most-more part (owner_of lane) (others_take (owner_of lane) (suc n) call.since.extends.0)
          (is_taken_beside lane lines) (is_dead_at facts h) (stays_dead w lines) call.call k taken
          (dead-still h within) in
          omega (arith, little, more, call.most (most_of_lane part w lines k lane))
        where
          parts : hs.pages ≡ within.0 ++ (call.since.extends.0 ++ call.earlier)
          parts = within.1 ∙ ap (λ (es : History). within.0 ++ es) call.since.extends.1

          taken : is_taken_beside lane lines ≡ false
              → others_take (owner_of lane) (suc n) call.since.extends.0 ≡ false
          taken off =
              let all = subst (λ (es : History). others_take (owner_of lane) (suc n) es ≡ false) parts
              (nothing-taken off) in
              let later = others-part (owner_of lane) (suc n) within.0 (call.since.extends.0 ++ call.earlier) all in
              (others-part (owner_of lane) (suc n) call.since.extends.0 call.earlier later.1).0

      lane-flies : flies ≤ most
      lane-flies = elim (cases_lt (begun_in role h) (suc n)) [
        | inl later ↦
            let nothing = own-not_given pages facts h (suc n) legal later in
            quiet (subst (CarriesNothing header.layout) (sym nothing)
            (record { counters = λ k. refl; items = λ i. refl }))
        | inr given ↦ by given
            ((carries-along header w.pages pressure normal between lane (suc n) (acts_of lane lines) hs.pages whole
            (makes.page_lines n below)).within h within)
      ]
        where
          by : suc n ≤ begun_in role h
              → IsInside header w.pages pressure normal between lane (suc n) (acts_of lane lines) h → flies ≤ most
          by given (inl idle) = quiet idle
          by given (inr call) =
              let same : owner_in role hs.pages (suc n) ≡ owner_in role h (suc n) =
              ap (λ (es : History). owner_in role es (suc n)) within.1
              ∙ owner_in-append pages facts within.0 h (suc n) (subst (IsLegal facts) within.1 whole) given in
              in-call (sym same ∙ makes.page_lanes.owners n below) call

pub phases-fly_little : (pressure normal : ZoneSize → ℕ → ℕ → Type 0) → CallsFlyLittle pressure normal
    → CallsCarryNothingOn pressure normal → PhasesFlyLittle pressure normal
phases-fly_little pressure normal inside between header w lines hs makes h within part none k k_in =
    let facts = facts_of header w.pages in
    let lanes = lanes_of header.layout lines in
    let legal = earlier-legal facts hs.pages h within makes.complete.pages.legal in
    let main = main-nothing facts header.layout h legal in
    let few : begun_in role h ≤ length lanes =
    subst (λ (n : ℕ). begun_in role h ≤ n) makes.page_lanes.one_each
    (subst (λ (g : History). begun_in role h ≤ begun_in role g) (sym within.1) (begun_in-append role within.0 h)) in
    sum-bounded (λ p. in_flight_of part facts h p k)
    (λ n. most_of_acts (most_of_lane part w lines k (lane_at lanes n)) (lane_at lanes n)
    (acts_of (lane_at lanes n) lines)) (length lanes)
    (λ n below. lane-flies pressure normal between inside header w lines hs makes n below part none k k_in h within)
    (begun_in role h) few (flies-none part facts h legal 0 k (main.counters k))
