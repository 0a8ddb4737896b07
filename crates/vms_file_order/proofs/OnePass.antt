-- What a CPU spends in a history with the lanes of lines is what the pass of its lane makes.
use Rattle.std.proofs.Common.{◌≡◌, ◌≢◌, ℕ, zero, suc, ◌<◌, ◌≤◌, Bool, true, false, ℤ, pos, ◌+ℤ◌, List, [], ◌∷◌, ◌++◌}
use Rattle.std.proofs.Common.{◌||◌, ◌⊎◌, inl, inr, length, map, Option, Some, None, refl, sym, ap, subst, ◌∙◌, arith}
use Rattle.std.proofs.Common.{if◌then◌else◌, append_assoc, eqb-true}
use Rattle.std.specs.Prelude.{filter}
use Rattle.std.proofs.lemmas.Bool.{cases_eq}
use Rattle.std.proofs.lemmas.Bool.Decides.{nat_tests}
use Rattle.std.proofs.lemmas.Int.{ints}
use Rattle.vms_world.specs.Common.{Header, CpuId, IsCpu, Event, own, Machine, begun_in, owner_in, is_owner, is_lane}
use Rattle.vms_world.specs.Common.{Act, Item, Lane, Cpu, HasLanes, MakesActs, MakesLines, acts_of, has_line, is_among}
use Rattle.vms_world.specs.Common.{lane_at, lanes_of, owner_of}
use Rattle.vms_history.specs.Legal.{IsLegal}
use Rattle.vms_history.proofs.Common.{own-mine, own-others, owner_is_given, begun_in-append, caller_is_given}
use Rattle.vms_history.proofs.Common.{owner_in-append, own-not_given, prefix_is_legal}
use Rattle.vms_world.specs.Lanes.MakesActs.{none as no_act}
use Rattle.vms_file_order.specs.Common.{StandOnce, pass_of}
use Rattle.vms_file_order.proofs.LaneLists.{HasPlace-among, among-lanes, owner_of-injective, pass_of-lane_at}
use Rattle.vms_file_order.proofs.MadeActs.{MakesActs-lane}

is_owner-some : (who : Option CpuId) (c : CpuId) → is_owner who c.number ≡ true → who ≡ Some c
is_owner-some (Some d) c is = let numbers : d.number ≡ c.number = eqb-true d.number c.number is in
    ap (λ n. let who : Option CpuId = Some (record { number = n }) in who) numbers
is_owner-some None c is = absurd cc

is_owner-self : (c : CpuId) → is_owner (Some c) c.number ≡ true
is_owner-self c = grind (arith, nat_tests)

-- a lane without a line has no act
pub acts_of-none : (lane : Lane) (items : List Item) → has_line lane items ≡ false → acts_of lane items ≡ []
acts_of-none lane [] none = refl
acts_of-none lane (item ∷ items) none =
    by (λ i. i.act) (filter (λ i. is_lane i.lane lane) items) (is_lane item.lane lane) none (acts_of-none lane items)
  where
    by : (act : Item → Act) (rest : List Item) (b : Bool) → (b || has_line lane items) ≡ false
        → (has_line lane items ≡ false → map act rest ≡ []) → map act (if b then item ∷ rest else rest) ≡ []
    by act rest true is later = absurd cc
    by act rest false is later = later is

-- nor has a CPU that isn't among the lanes with lines
pub acts_of-apart : (header : Header) (items : List Item) (c : CpuId) → IsCpu header.layout c.number
    → is_among (Cpu c) (lanes_of header.layout items) ≡ false → acts_of (Cpu c) items ≡ []
acts_of-apart header items c known apart = acts_of-none (Cpu c) items (by (has_line (Cpu c) items) refl)
  where
    by : (b : Bool) → has_line (Cpu c) items ≡ b → has_line (Cpu c) items ≡ false
    by true has =
        let both : true ≡ false = sym (among-lanes header items (Cpu c) known has) ∙ apart in
        absurd cc
    by false is = is

-- `spent` is what CPU c spent in a history, `own_total` what own events come to; each event of a pass that owns the CPU
-- adds its value, which goes by the caller's own events before it
module _ {F K S : Type 0} (machine : Machine F K S) (facts : F) (c : CpuId) (spent own_total : List (Event K) → ℤ)
    (value : Event K → List (Event K) → ℤ) (nothing_spent : spent [] ≡ pos 0) (nothing_own : own_total [] ≡ pos 0)
    (spent-event : (e : Event K) (h : List (Event K)) → spent (e ∷ h)
    ≡ (if is_owner (owner_in machine.role h e.caller) c.number then value e (own h e.caller) else pos 0) +ℤ spent h)
    (own_total-event : (e : Event K) (g : List (Event K)) → own_total (e ∷ g) ≡ value e g +ℤ own_total g)
    (all : List (Event K)) (legal : IsLegal machine facts all) where
  -- where one pass at most owns the CPU, what the CPU spent is what that pass's own events come to
  module _ (q : ℕ) (only : (p : ℕ) → is_owner (owner_in machine.role all p) c.number ≡ true → p ≡ q)
      (owns : q ≤ begun_in machine.role all → is_owner (owner_in machine.role all q) c.number ≡ true) where
    spent-event_more : (m' : List (Event K)) (e : Event K) (h m : List (Event K)) → m' ++ h ≡ all → m ++ (e ∷ h) ≡ all
        → spent h ≡ own_total (own h q) → spent (e ∷ h) ≡ own_total (own (e ∷ h) q)
    spent-event_more m' e h m whole parts before =
        by (is_owner (owner_in machine.role h e.caller) c.number) refl (cases_eq e.caller q)
      where
        legal_there : IsLegal machine facts (m' ++ h)
        legal_there = subst (IsLegal machine facts) (sym whole) legal

        here : IsLegal machine facts (e ∷ h)
        here = prefix_is_legal machine facts m (e ∷ h) (subst (IsLegal machine facts) (sym parts) legal)

        given : e.caller ≤ begun_in machine.role h
        given = caller_is_given machine facts h e.caller (machine.role e.step) here.0 here.1

        owner : owner_in machine.role all e.caller ≡ owner_in machine.role h e.caller
        owner = ap (λ g. owner_in machine.role g e.caller) (sym whole)
            ∙ owner_in-append machine facts m' h e.caller legal_there given

        grows : begun_in machine.role h ≤ begun_in machine.role all
        grows = subst (λ g. begun_in machine.role h ≤ begun_in machine.role g) whole (begun_in-append machine.role m' h)

        spends : (b : Bool) → is_owner (owner_in machine.role h e.caller) c.number ≡ b
            → spent (e ∷ h) ≡ (if b then value e (own h e.caller) else pos 0) +ℤ spent h
        spends b is = spent-event e h
            ∙ ap (λ x. (if x then value e (own h e.caller) else pos 0) +ℤ spent h) is

        by : (b : Bool) → is_owner (owner_in machine.role h e.caller) c.number ≡ b → (e.caller ≡ q) ⊎ (e.caller ≢ q)
            → spent (e ∷ h) ≡ own_total (own (e ∷ h) q)
        by true is (inl mine) =
            spends true is ∙ ap (λ z. value e (own h e.caller) +ℤ z) before
            ∙ ap (λ p. value e (own h p) +ℤ own_total (own h q)) mine
            ∙ sym (own_total-event e (own h q)) ∙ ap own_total (sym (own-mine e h q mine))
        by true is (inr other) = absurd (other (only e.caller (ap (λ who. is_owner who c.number) owner ∙ is)))
        by false is (inl mine) =
            let least : q ≤ begun_in machine.role all = omega (arith, mine, given, grows) in
            let owned : true ≡ false = sym (owns least) ∙ ap (λ p. is_owner (owner_in machine.role all p) c.number)
            (sym mine) ∙ ap (λ who. is_owner who c.number) owner ∙ is in
            absurd cc
        by false is (inr other) =
            let still : spent (e ∷ h) ≡ spent h = omega (arith, ints, spends false is) in
            still ∙ before ∙ ap own_total (sym (own-others e h q other))

    spent-by_pass : (m h : List (Event K)) → m ++ h ≡ all → spent h ≡ own_total (own h q)
    spent-by_pass m [] parts = nothing_spent ∙ sym nothing_own
    spent-by_pass m (e ∷ h) parts =
        let whole = append_assoc m (e ∷ []) h ∙ parts in
        spent-event_more (m ++ e ∷ []) e h m whole parts (spent-by_pass (m ++ e ∷ []) h whole)

  -- the pass of the CPU's lane, where it has one: what the CPU spent is what that pass has made of the lane's lines
  module _ (ls : List Lane) (once : StandOnce ls) (items : List Item)
      (no_other : is_among (Cpu c) ls ≡ false → acts_of (Cpu c) items ≡ []) (lanes : HasLanes machine.role ls all)
      (makes : Lane → ℕ → Act → List (Event K) → List K → Type 0) (lines : MakesLines makes ls items all) where
    pub record SpendsItsLines : Type 0 where
      pub pass : ℕ
      pub spends : spent all ≡ own_total (own all pass)
      pub made : MakesActs (makes (Cpu c) pass) pass (acts_of (Cpu c) items) all

    -- a pass that owns the CPU is the one of its lane
    owner-is_lane : (p : ℕ) → is_owner (owner_in machine.role all p) c.number ≡ true
        → (is_among (Cpu c) ls ≡ true) × (p ≡ pass_of ls (Cpu c))
    owner-is_lane p is =
        let owns = is_owner-some (owner_in machine.role all p) c is in
        let given = owner_is_given machine facts all p c legal owns in
        at p owns given.0 (omega (arith, given.1, lanes.one_each))
      where
        at : (p : ℕ) → owner_in machine.role all p ≡ Some c → 0 < p → p ≤ length ls
            → (is_among (Cpu c) ls ≡ true) × (p ≡ pass_of ls (Cpu c))
        at zero owns some most = absurd (omega arith)
        at (suc n) owns some most =
            let place = pass_of-lane_at ls n once (omega arith) in
            let is_lane : lane_at ls n ≡ Cpu c =
            owner_of-injective (lane_at ls n) (Cpu c) (sym (lanes.owners n (omega arith)) ∙ owns) in
            (ap (λ l. is_among l ls) (sym is_lane) ∙ place.among, sym place.number ∙ ap (pass_of ls) is_lane)

    pub spends-lines : SpendsItsLines
    spends-lines = by (is_among (Cpu c) ls) refl
      where
        by : (b : Bool) → is_among (Cpu c) ls ≡ b → SpendsItsLines
        by true among =
            let at = HasPlace-among ls (Cpu c) among in
            let p = pass_of ls (Cpu c) in
            record {
              pass = p;
              spends = spent-by_pass p (λ q owned. (owner-is_lane q owned).1)
                  (λ given. ap (λ q. is_owner (owner_in machine.role all q) c.number) at.number
                  ∙ ap (λ who. is_owner who c.number) (lanes.owners at.place at.below ∙ ap owner_of at.there)
                  ∙ is_owner-self c) [] all refl;
              made = MakesActs-lane makes ls items all (Cpu c) lines among;
            }
        by false apart =
            let none_own : own all (suc (length ls)) ≡ [] =
            own-not_given machine facts all (suc (length ls)) legal (omega (arith, lanes.one_each)) in
            record {
              pass = suc (length ls);
              spends = spent-by_pass (suc (length ls))
                  (λ p owned. let both : true ≡ false = sym (owner-is_lane p owned).0 ∙ apart in absurd cc)
                  (λ given. absurd (omega (arith, given, lanes.one_each))) [] all refl;
              made = subst (λ (acts : List Act). MakesActs (makes (Cpu c) (suc (length ls))) (suc (length ls)) acts all)
                  (sym (no_other apart)) (no_act all none_own);
            }
