-- For other crates too: three passes begin, work while the others act, and end. What the main pass knows at each of its
-- steps.
use Rattle.std.proofs.Common.{◌≡◌, ℕ, nat_eq, if◌then◌else◌, Bool, true, false, true≢false, List, [], ◌∷◌, Option, Some}
use Rattle.std.proofs.Common.{None, refl, ap, sym, ◌∙◌}
use Rattle.vms_history.specs.Common.{CpuId, own, Machine, lives, lives_after, lives_in, owner, owner_after, IsFree}
use Rattle.vms_history.specs.Common.{Begins, Ends}
use Rattle.vms_history.specs.declared.events.Event.{Event}
use Rattle.vms_seats.specs.Common.{HasBegun, HasEnded, Pass}
use Rattle.vms_seats.proofs.TwoPasses.{own-begun, own-ended}

module _ {F K S : Type 0} (machine : Machine F K S) (begins : ℕ → Option CpuId → K)
    (begins_it : (q : ℕ) (who : Option CpuId) → machine.role (begins q who) ≡ Begins q who)
    (ends : ℕ → K) (ends_it : (q : ℕ) → machine.role (ends q) ≡ Ends q) where
  -- while two passes that own CPUs have begun, no control pass lives
  pub free-control : (seen : List (Event K)) (p q : ℕ) (a b : CpuId)
      → own seen 0 ≡ record { caller = 0; step = begins q (Some b) }
      ∷ record { caller = 0; step = begins p (Some a) } ∷ []
      → IsFree machine.role seen None
  free-control seen p q a b is r lives_then owns =
      by (nat_eq q r) (nat_eq p r)
      (sym (λ i. lives_after (begins_it q (Some b) i) r (lives_after (begins_it p (Some a) i) r false))
      ∙ sym (ap (λ h. lives machine.role h r) is) ∙ lives_then)
      (sym (λ i. owner_after (begins_it q (Some b) i) r (owner_after (begins_it p (Some a) i) r None))
      ∙ sym (ap (λ h. owner machine.role h r) is) ∙ owns)
    where
      by : (s t : Bool) → (if s then true else if t then true else false) ≡ true
          → (if s then Some b else if t then Some a else None) ≡ None → ⊥
      by true t lives_then owns = cc
      by false true lives_then owns = cc
      by false false lives_then owns = true≢false (sym lives_then)

  -- what the main pass has done once three passes have begun
  pub three-begun : (m0 m1 m2 m3 a b c : Pass F K) (x y z : Option CpuId) → m0.seen ≡ []
      → HasBegun machine begins m1 m0 a x → HasBegun machine begins m2 m1 b y → HasBegun machine begins m3 m2 c z
      → own m3.seen 0 ≡ record { caller = 0; step = begins c.number z }
      ∷ record { caller = 0; step = begins b.number y }
      ∷ record { caller = 0; step = begins a.number x } ∷ []
  three-begun m0 m1 m2 m3 a b c x y z none a_begun b_begun c_begun =
      own-begun machine begins begins_it ends ends_it m3 m2 c z c_begun
      ∙ ap (λ h. record { caller = 0; step = begins c.number z } ∷ h)
      (own-begun machine begins begins_it ends ends_it m2 m1 b y b_begun
      ∙ ap (λ h. record { caller = 0; step = begins b.number y } ∷ h)
      (own-begun machine begins begins_it ends ends_it m1 m0 a x a_begun
      ∙ ap (λ h. record { caller = 0; step = begins a.number x } ∷ own h 0) none))

  -- once they have ended, none lives
  pub three-ended : (m0 m1 m2 m3 a b c : Pass F K) (x y z : Option CpuId)
      → own m0.seen 0 ≡ record { caller = 0; step = begins c.number z }
      ∷ record { caller = 0; step = begins b.number y }
      ∷ record { caller = 0; step = begins a.number x } ∷ []
      → HasEnded machine ends m1 m0 a → HasEnded machine ends m2 m1 b → HasEnded machine ends m3 m2 c
      → (q : ℕ) → lives_in machine.role m3.seen q ≡ false
  three-ended m0 m1 m2 m3 a b c x y z begun a_ended b_ended c_ended q =
      ap (λ h. lives machine.role h q) all
      ∙ (λ i. lives_after (ends_it c.number i) q (lives_after (ends_it b.number i) q
      (lives_after (ends_it a.number i) q (lives_after (begins_it c.number z i) q
      (lives_after (begins_it b.number y i) q (lives_after (begins_it a.number x i) q false))))))
      ∙ by (nat_eq c.number q) (nat_eq b.number q) (nat_eq a.number q)
    where
      ended : ℕ → List (Event K) → List (Event K)
      ended p h = record { caller = 0; step = ends p } ∷ h

      begun_list : List (Event K)
      begun_list = record { caller = 0; step = begins c.number z } ∷ record { caller = 0; step = begins b.number y }
          ∷ record { caller = 0; step = begins a.number x } ∷ []

      all : own m3.seen 0 ≡ ended c.number (ended b.number (ended a.number begun_list))
      all = own-ended machine begins begins_it ends ends_it m3 m2 c c_ended
          ∙ ap (ended c.number) (own-ended machine begins begins_it ends ends_it m2 m1 b b_ended
          ∙ ap (ended b.number) (own-ended machine begins begins_it ends ends_it m1 m0 a a_ended
          ∙ ap (ended a.number) begun))

      by : (s t u : Bool) → (if s then false else if t then false else if u then false else if s then true
          else if t then true else if u then true else false) ≡ false
      by true t u = refl
      by false true u = refl
      by false false true = refl
      by false false false = refl
