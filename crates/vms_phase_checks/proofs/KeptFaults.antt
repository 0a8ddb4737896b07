-- What an event is if the events keep to the lines of a phase with it.
use Rattle.std.proofs.Common.{◌≡◌, ◌≢◌, ℕ, suc, ◌≤◌, nat_eq, Bool, true, false, List, ◌∷◌, Option, sym, ap, subst, ◌∙◌}
use Rattle.std.proofs.Common.{refl, arith, if◌then◌else◌, eq-eqb, ne_eqb}
use Rattle.vms_world.specs.Common.{Header, CpuId, ZoneSize, State, Step, Event, Item, Acts, begun_after, begun_in}
use Rattle.vms_world.specs.Common.{facts_of, is_among, lanes_of, lives_after, lives_in, owner_after, owner_in, pages}
use Rattle.vms_world.specs.Common.{Role, Ends}
use Rattle.vms_history.specs.Passes.Role.{Begins}
use Rattle.vms_history.proofs.Common.{caller_is_given, lives_in-main, owner_in-main, owner_in-others}
use Rattle.vms_history.proofs.PassLaws.{begun_in-main, begun_in-others}
use Rattle.vms_core.specs.Pages.{History, IsLegal}
use Rattle.vms_core.specs.Steps.{role}
use Rattle.vms_phase_checks.specs.Common.{GoesAlongLane, HasMadeLane, KeepsToLines, lane_for}

module _ (header : Header) (pressure normal : ZoneSize → ℕ → ℕ → Type 0) (s : State) (items : List Item) (h : History)
    (e : Event Step) (keeps : KeepsToLines header pressure normal s items (e ∷ h)) where
  abbrev Along : Option CpuId → ℕ → History → Type 0
  Along = GoesAlongLane header pressure normal s items

  abbrev Made : Option CpuId → ℕ → History → Type 0
  Made = HasMadeLane header pressure normal s items

  -- a step of a pass is one of its lane's
  pub along-kept : (others : e.caller ≢ 0) → Along (owner_in role h e.caller) e.caller (e ∷ h)
  along-kept others =
      let given : e.caller ≤ begun_in role h =
      caller_is_given pages (facts_of header s) h e.caller (role e.step) keeps.legal.0 keeps.legal.1 in
      subst (λ (who : Option CpuId). Along who e.caller (e ∷ h)) (owner_in-others role e h e.caller others)
      (keeps.along e.caller (omega (arith, others)) (omega (arith, given, begun_in-others role e h others)))

  module _ (main : e.caller ≡ 0) where
    -- a pass that ends has made all acts of its lane
    pub made-kept : (q : ℕ) → role e.step ≡ Ends q → 1 ≤ q → q ≤ begun_in role h
        → Made (owner_in role h q) q (e ∷ h)
    made-kept q ends least most =
        subst (λ (who : Option CpuId). Made who q (e ∷ h))
        (owner_in-main role e h q main ∙ ap (λ (t : Role). owner_after t q (owner_in role h q)) ends)
        (keeps.ended q least (omega (arith, most, begun-same)) gone)
      where
        begun-same : begun_in role (e ∷ h) ≡ begun_in role h
        begun-same = begun_in-main role e h main ∙ ap (λ (t : Role). begun_after t (begun_in role h)) ends

        gone : lives_in role (e ∷ h) q ≡ false
        gone = lives_in-main role e h q main ∙ ap (λ (t : Role). lives_after t q (lives_in role h q)) ends
            ∙ ap (λ (b : Bool). if b then false else lives_in role h q) (eq-eqb q q refl)

    -- a pass that begins is of a lane with lines, and the first of it
    module _ (q : ℕ) (who : Option CpuId) (begins : role e.step ≡ Begins q who) where
      acts : Acts pages (facts_of header s) h e.caller (Begins q who)
      acts = subst (Acts pages (facts_of header s) h e.caller) begins keeps.legal.1

      begun-is : begun_in role (e ∷ h) ≡ suc (begun_in role h)
      begun-is = begun_in-main role e h main ∙ ap (λ (t : Role). begun_after t (begun_in role h)) begins

      owner-is : (r : ℕ) → owner_in role (e ∷ h) r ≡ (if nat_eq q r then who else owner_in role h r)
      owner-is r = owner_in-main role e h r main ∙ ap (λ (t : Role). owner_after t r (owner_in role h r)) begins

      owner-new : owner_in role (e ∷ h) q ≡ who
      owner-new = owner-is q ∙ ap (λ (b : Bool). if b then who else owner_in role h q) (eq-eqb q q refl)

      pub among-kept : is_among (lane_for who) (lanes_of header.layout items) ≡ true
      among-kept = ap (λ x. is_among (lane_for x) (lanes_of header.layout items)) (sym owner-new)
          ∙ keeps.among q (omega (arith, acts.1)) (omega (arith, acts.1, begun-is))

      pub first-kept : (r : ℕ) → 1 ≤ r → r ≤ begun_in role h → owner_in role h r ≢ who
      first-kept r least most same =
          let other : q ≢ r = λ e. absurd (omega (arith, e, acts.1)) in
          let one : r ≡ q = keeps.apart r q least (omega (arith, begun-is)) (omega (arith, acts.1))
          (omega (arith, acts.1, begun-is))
          (owner-is r ∙ ap (λ (b : Bool). if b then who else owner_in role h r) (ne_eqb q r other) ∙ same
          ∙ sym owner-new) in
          other (sym one)
