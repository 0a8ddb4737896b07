-- For other crates too: two passes begin, work while the other acts, and end. What the main pass knows at each of its
-- steps.
use Rattle.std.proofs.Common.{◌≡◌, ◌≢◌, ℕ, nat_eq, if◌then◌else◌, Bool, true, false, true≢false, List, [], ◌∷◌, ◌++◌}
use Rattle.std.proofs.Common.{Option, None, refl, ap, sym, ◌∙◌, subst, append-nil}
use Rattle.vms_history.specs.Common.{CpuId, own, Machine, IsLegal, begun, lives, lives_after, lives_in, owner_after}
use Rattle.vms_history.specs.Common.{IsFree, Begins, Ends}
use Rattle.vms_history.specs.declared.events.Event.{Event}
use Rattle.vms_history.proofs.Common.{Extends-same, Extends-both, nothing_follows}
use Rattle.vms_seats.specs.Common.{HasBegun, HasEnded, SeesMore, next_number, Pass, Shared, IsFrom, Made}

module _ {F K : Type 0} where
  pub sees_more-same : (pass : Pass F K) → SeesMore pass pass
  sees_more-same pass =
      record { table = refl; facts = refl; number = refl; cpu = refl; extends = Extends-same pass.seen }

  pub sees_more-both : (last later earlier : Pass F K) → SeesMore last later → SeesMore later earlier
      → SeesMore last earlier
  sees_more-both last later earlier second first = record {
    table = second.table ∙ first.table;
    facts = second.facts ∙ first.facts;
    number = second.number ∙ first.number;
    cpu = second.cpu ∙ first.cpu;
    extends = Extends-both last.seen later.seen earlier.seen second.extends first.extends;
  }

  -- a pass is of the words that it was of
  pub is_of-later : (words : Shared F) (new old : Pass F K) → SeesMore new old → IsFrom old words → IsFrom new words
  is_of-later words new old sees of = record { table = sees.table ∙ of.table; facts = sees.facts ∙ of.facts }

module _ {F K S : Type 0} (machine : Machine F K S) where
  pub sees_more-made : (new old : Pass F K) (steps : List K) → Made machine new old steps → SeesMore new old
  sees_more-made new old steps made = record {
    table = made.table;
    facts = made.facts;
    number = made.number;
    cpu = made.cpu;
    extends = made.made.extends;
  }

  -- before any pass has begun every CPU is free
  pub free-first : (seen : List (Event K)) (who : Option CpuId) → seen ≡ [] → IsFree machine.role seen who
  free-first seen who none =
      subst (λ h. IsFree machine.role h who) (sym none) (λ q lives owns. true≢false (sym lives))

  module _ (begins : ℕ → Option CpuId → K)
      (begins_it : (q : ℕ) (who : Option CpuId) → machine.role (begins q who) ≡ Begins q who) where
    -- a pass that has begun is of the words of the main pass
    pub is_of-begun : (words : Shared F) (new old pass : Pass F K) (who : Option CpuId)
        → HasBegun machine begins new old pass who → IsFrom old words → IsFrom pass words
    is_of-begun words new old pass who begun of =
        record { table = begun.table ∙ of.table; facts = begun.facts ∙ of.facts }

    -- the main pass has seen the step by which the first pass began, and nothing else
    pub first-seen : (new old pass : Pass F K) (who : Option CpuId) → old.seen ≡ []
        → HasBegun machine begins new old pass who
        → new.seen ≡ record { caller = 0; step = begins 1 who } ∷ []
    first-seen new old pass who none begun =
        let before = begun.made.before in
        let own_none : own before 0 ≡ [] = begun.made.own_same ∙ ap (λ h. own h 0) none in
        let whole : before ++ [] ≡ before = append-nil before in
        let legal : IsLegal machine old.facts before =
        (subst (IsLegal machine old.facts) begun.made.newest begun.made.legal).0 in
        let ended : (q : ℕ) → lives_in machine.role (before ++ []) q ≡ false =
        λ q. ap (λ h. lives_in machine.role h q) whole ∙ ap (λ h. lives machine.role h q) own_none in
        let nothing : before ≡ [] =
        nothing_follows machine old.facts before [] (subst (IsLegal machine old.facts) (sym whole) legal) ended
        own_none in
        begun.made.newest
        ∙ ap (λ h. record { caller = 0; step = begins (next_number machine h) who } ∷ before) none
        ∙ ap (λ h. record { caller = 0; step = begins 1 who } ∷ h) nothing

    -- so CPUs that the first pass doesn't own are free
    pub free-second : (seen : List (Event K)) (a b : Option CpuId)
        → seen ≡ record { caller = 0; step = begins 1 a } ∷ [] → a ≢ b → IsFree machine.role seen b
    free-second seen a b is other =
        subst (λ h. IsFree machine.role h b) (sym is)
        (λ q lives owns. by q (nat_eq 1 q) (sym (ap (λ r. lives_after r q false) (begins_it 1 a)) ∙ lives)
        (sym (ap (λ r. owner_after r q None) (begins_it 1 a)) ∙ owns))
      where
        by : (q : ℕ) (t : Bool) → (if t then true else false) ≡ true → (if t then a else None) ≡ b → ⊥
        by q true lives owns = other owns
        by q false lives owns = true≢false (sym lives)

    module _ (ends : ℕ → K) (ends_it : (q : ℕ) → machine.role (ends q) ≡ Ends q) where
      pub own-begun : (new old pass : Pass F K) (who : Option CpuId) → HasBegun machine begins new old pass who
          → own new.seen 0 ≡ record { caller = 0; step = begins pass.number who } ∷ own old.seen 0
      own-begun new old pass who begun =
          ap (λ h. own h 0) begun.made.newest
          ∙ ap (λ h. record { caller = 0; step = begins (next_number machine old.seen) who } ∷ h) begun.made.own_same
          ∙ ap (λ q. record { caller = 0; step = begins q who } ∷ own old.seen 0) (sym begun.number)

      pub own-ended : (new old pass : Pass F K) → HasEnded machine ends new old pass
          → own new.seen 0 ≡ record { caller = 0; step = ends pass.number } ∷ own old.seen 0
      own-ended new old pass ended =
          ap (λ h. own h 0) ended.made.newest
          ∙ ap (λ h. record { caller = 0; step = ends pass.number } ∷ h) ended.made.own_same

      -- two passes have begun, and both have ended
      pub two-ended : (m0 m1 m2 m3 m4 a b a_last b_last : Pass F K) (x y : Option CpuId) → m0.seen ≡ []
          → HasBegun machine begins m1 m0 a x → HasBegun machine begins m2 m1 b y
          → HasEnded machine ends m3 m2 a_last → a_last.number ≡ a.number
          → HasEnded machine ends m4 m3 b_last → b_last.number ≡ b.number
          → (q : ℕ) → lives_in machine.role m4.seen q ≡ false
      two-ended m0 m1 m2 m3 m4 a b a_last b_last x y none a_begun b_begun a_ended same_a b_ended same_b q =
          ap (λ h. lives machine.role h q) all
          ∙ (λ i. lives_after (ends_it b.number i) q (lives_after (ends_it a.number i) q
          (lives_after (begins_it b.number y i) q (lives_after (begins_it a.number x i) q false))))
          ∙ by (nat_eq b.number q) (nat_eq a.number q)
        where
          all : own m4.seen 0 ≡ record { caller = 0; step = ends b.number }
              ∷ record { caller = 0; step = ends a.number }
              ∷ record { caller = 0; step = begins b.number y } ∷ record { caller = 0; step = begins a.number x } ∷ []
          all = own-ended m4 m3 b_last b_ended
              ∙ (λ i. record { caller = 0; step = ends (same_b i) } ∷ own-ended m3 m2 a_last a_ended i)
              ∙ (λ i. record { caller = 0; step = ends b.number } ∷ record { caller = 0; step = ends (same_a i) }
              ∷ own-begun m2 m1 b y b_begun i)
              ∙ (λ i. record { caller = 0; step = ends b.number } ∷ record { caller = 0; step = ends a.number }
              ∷ record { caller = 0; step = begins b.number y } ∷ own-begun m1 m0 a x a_begun i)
              ∙ (λ i. record { caller = 0; step = ends b.number } ∷ record { caller = 0; step = ends a.number }
              ∷ record { caller = 0; step = begins b.number y } ∷ record { caller = 0; step = begins a.number x }
              ∷ own (none i) 0)

          by : (s t : Bool) → (if s then false else if t then false else if s then true else if t then true else false)
              ≡ false
          by true t = refl
          by false true = refl
          by false false = refl
