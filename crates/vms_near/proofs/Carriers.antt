-- A pass that carries something lives, and so one pass at most of each CPU does.
use Rattle.std.proofs.Common.{◌≡◌, ◌≢◌, ℕ, Bool, true, false, [], ◌∷◌, ℤ, pos, refl, sym, ap, ◌∙◌, arith, subst, nat_eq}
use Rattle.std.proofs.Common.{eqb-true, if◌then◌else◌, unsigned_abs, Option, Some, None, nat_lt}
use Rattle.std.proofs.lemmas.Bool.{eqb-false, lt-ltb, ltb-true, ltb-false}
use Rattle.std.proofs.lemmas.Int.{ints}
use Rattle.vms_calls.specs.Common.{Acts, Begins, CpuId, Ends, Role, Shape, Works, lives_in, own, owner_in, Event, Facts}
use Rattle.vms_calls.specs.Common.{Step, Join, Split, CarriesNothing, History, carried, carried_of_item, moved}
use Rattle.vms_calls.specs.Common.{moved_of_item, pages, role}
use Rattle.vms_history.specs.Passes.{lives_after}
use Rattle.vms_history.specs.Events.{total}
use Rattle.vms_history.proofs.Common.{live_is_given, lives_in-role, one_live_owner, own-mine, own-others, same_cpu}
use Rattle.vms_core.specs.Pages.{IsLegal}
use Rattle.vms_core.specs.Spending.{is_owner}
use Rattle.vms_near.specs.InFlight.{carried_from, carries, carries_from}

-- an amount isn't 0 where its size is above 0, and else it is 0
pub is-some : (z : ℤ) → nat_lt 0 (unsigned_abs z) ≡ true → z ≢ pos 0
is-some z is none = let some = ltb-true 0 (unsigned_abs z) is in omega (arith, ints, none, some)

pub is-none : (z : ℤ) → nat_lt 0 (unsigned_abs z) ≡ false → z ≡ pos 0
is-none z is = let none = ltb-false 0 (unsigned_abs z) is in omega (arith, ints, none)

pub carries-some : (k : ℕ) (mine : History) → carries k mine ≡ true → carried k mine ≢ pos 0
carries-some k mine is = is-some (carried k mine) is

pub carries-true : (k : ℕ) (mine : History) → carried k mine ≢ pos 0 → carries k mine ≡ true
carries-true k mine some = lt-ltb 0 (unsigned_abs (carried k mine)) (omega (arith, ints, some))

pub carries-none : (k : ℕ) (mine : History) → carried k mine ≡ pos 0 → carries k mine ≡ false
carries-none k mine none = rw none refl

pub carries-false : (k : ℕ) (mine : History) → carries k mine ≡ false → carried k mine ≡ pos 0
carries-false k mine is = is-none (carried k mine) is

-- who carries nothing has nothing from a CPU, and no change under way
pub carried_from-none : (who : Option CpuId) (c k : ℕ) (mine : History) → carries k mine ≡ false
    → carried_from who c k mine ≡ pos 0
carried_from-none who c k [] none = refl
carried_from-none who c k (e ∷ mine) none = rw none refl

pub carries_from-false : (who : Option CpuId) (c k : ℕ) (mine : History) → carries_from who c k mine ≡ false
    → carried_from who c k mine ≡ pos 0
carries_from-false who c k mine is =
    let none = ltb-false 0 (unsigned_abs (carried_from who c k mine)) is in omega (arith, ints, none)

-- a step that begins or ends a pass moves nothing
moved-works : (k : ℕ) (step : Step) → role step ≢ Works → moved k step ≡ pos 0
moved-works k (Split q c) other = refl
moved-works k (Join q) other = refl
moved-works k _ other = absurd (other refl)

moved_of_item-works : (shape : Shape) (i : ℕ) (step : Step) → role step ≢ Works → moved_of_item shape i step ≡ pos 0
moved_of_item-works shape i (Split q c) other = refl
moved_of_item-works shape i (Join q) other = refl
moved_of_item-works shape i _ other = absurd (other refl)

-- a pass lives of whose steps a measure isn't 0, if steps that begin or end a pass don't count, and who carries nothing
-- has a measure of 0
module _ (facts : Facts) (measure : Step → ℤ) (works : (step : Step) → role step ≢ Works → measure step ≡ pos 0)
    (ends : (mine : History) → CarriesNothing facts.layout mine → total measure mine ≡ pos 0) where
  module _ (p : ℕ) (e : Event Step) (h : History) (legal : IsLegal facts (e ∷ h))
      (before : total measure (own h p) ≢ pos 0 → lives_in role h p ≡ true) where
    mine : e.caller ≡ p → total measure (e ∷ own h p) ≢ pos 0 → lives_in role (e ∷ h) p ≡ true
    mine same some = lives_in-role pages facts e h p legal.1 ∙ by (role e.step) legal.1 refl
      where
        main-none : e.caller ≡ 0 → role e.step ≢ Works → ⊥
        main-none main other =
            let nothing : measure e.step ≡ pos 0 = works e.step other in
            let was : total measure (own h p) ≢ pos 0 = λ none. some (omega (arith, ints, nothing, none)) in
            let given = live_is_given pages facts h p legal.0 (before was) in
            omega (arith, given.0, main, same)

        by : (t : Role) → Acts pages facts h e.caller t → role e.step ≡ t
            → lives_after t p (lives_in role h p) ≡ true
        by Works acts kind = subst (λ q. lives_in role h q ≡ true) same acts.1
        by (Begins q who) acts kind = absurd (main-none acts.0 (λ is. let both = sym kind ∙ is in cc))
        by (Ends q) acts kind = absurd (main-none acts.0 (λ is. let both = sym kind ∙ is in cc))

    others : e.caller ≢ p → total measure (own h p) ≢ pos 0 → lives_in role (e ∷ h) p ≡ true
    others other some = lives_in-role pages facts e h p legal.1 ∙ by (role e.step) legal.1
      where
        by : (t : Role) → Acts pages facts h e.caller t → lives_after t p (lives_in role h p) ≡ true
        by Works acts = before some
        by (Begins q who) acts = at (nat_eq q p)
          where
            at : (b : Bool) → (if b then true else lives_in role h p) ≡ true
            at true = refl
            at false = before some
        by (Ends q) acts = at (nat_eq q p) refl
          where
            at : (b : Bool) → nat_eq q p ≡ b → (if b then false else lives_in role h p) ≡ true
            at true here = absurd (some (subst (λ r. total measure (own h r) ≡ pos 0) (eqb-true q p here)
                (ends (own h q) acts.2)))
            at false off = before some

  pub measured-lives : (h : History) → IsLegal facts h → (p : ℕ) → total measure (own h p) ≢ pos 0
      → lives_in role h p ≡ true
  measured-lives [] legal p some = absurd (some refl)
  measured-lives (e ∷ h) legal p some = by (nat_eq e.caller p) refl (measured-lives h legal.0 p)
    where
      by : (b : Bool) → nat_eq e.caller p ≡ b → (total measure (own h p) ≢ pos 0 → lives_in role h p ≡ true)
          → lives_in role (e ∷ h) p ≡ true
      by true same before = mine p e h legal before (eqb-true e.caller p same)
          (subst (λ m. total measure m ≢ pos 0) (own-mine e h p (eqb-true e.caller p same)) some)
      by false other before = others p e h legal before (eqb-false e.caller p other)
          (subst (λ m. total measure m ≢ pos 0) (own-others e h p (eqb-false e.caller p other)) some)

pub carrier-lives : (facts : Facts) (h : History) → IsLegal facts h → (k p : ℕ) → carries k (own h p) ≡ true
    → lives_in role h p ≡ true
carrier-lives facts h legal k p is =
    measured-lives facts (moved k) (moved-works k) (λ mine none. none.counters k) h legal p
    (is-some (carried k (own h p)) is)

pub item-carrier-lives : (facts : Facts) (h : History) → IsLegal facts h → (i p : ℕ)
    → carried_of_item facts.layout i (own h p) ≢ pos 0 → lives_in role h p ≡ true
item-carrier-lives facts h legal i p some =
    measured-lives facts (moved_of_item facts.layout i) (moved_of_item-works facts.layout i)
    (λ mine none. none.items i) h legal p some

-- of amounts that passes that live alone have, those of the passes of one CPU
module _ (facts : Facts) (h : History) (legal : IsLegal facts h) (amount : ℕ → ℤ)
    (lives : (p : ℕ) → amount p ≢ pos 0 → lives_in role h p ≡ true) (c : ℕ) where
  abbrev pub of_cpu : ℕ → ℤ
  of_cpu p = if is_owner (owner_in role h p) c then amount p else pos 0

  -- such a pass owns the CPU
  pub record Owner (p : ℕ) : Type 0 where
    pub cpu : CpuId
    pub owns : owner_in role h p ≡ Some cpu
    pub here : cpu.number ≡ c
    pub some : amount p ≢ pos 0

  pub owner-of : (p : ℕ) → of_cpu p ≢ pos 0 → Owner p
  owner-of p some = from (owner_in role h p) refl some
    where
      from : (x : Option CpuId) → owner_in role h p ≡ x → (if is_owner x c then amount p else pos 0) ≢ pos 0 → Owner p
      from None owns some = absurd (some refl)
      from (Some cpu) owns some = at (nat_eq cpu.number c) refl some
        where
          at : (b : Bool) → nat_eq cpu.number c ≡ b → (if b then amount p else pos 0) ≢ pos 0 → Owner p
          at true here some = record { cpu = cpu; owns = owns; here = eqb-true cpu.number c here; some = some }
          at false other some = absurd (some refl)

  -- and one pass alone does
  pub one-owner : (p q : ℕ) → of_cpu p ≢ pos 0 → of_cpu q ≢ pos 0 → p ≡ q
  one-owner p q some also =
      let first = owner-of p some in
      let second = owner-of q also in
      let same : first.cpu ≡ second.cpu = same_cpu first.cpu second.cpu (first.here ∙ sym second.here) in
      one_live_owner pages facts h p q legal (lives p first.some) (lives q second.some)
      (first.owns ∙ ap (λ (d : CpuId). Some d) same ∙ sym second.owns)
