-- For other crates too: what legal histories say of passes: which are given, live and own a CPU, and who makes events.
use Rattle.std.proofs.Common.{◌≡◌, ◌≢◌, ℕ, suc, ◌<◌, ◌≤◌, ◌==◌, cond, Bool, true, false, true≢false, List, [], ◌∷◌}
use Rattle.std.proofs.Common.{◌++◌, None, ◌⊎◌, inl, inr, ⊎_elim, refl, ap, sym, subst, ◌∙◌, arith, ne_eqb, eqb-true}
use Rattle.vms_history.specs.declared.events.Event.{Event}
use Rattle.vms_history.specs.Common.{own, Role, begun, begun_after, begun_in, lives, lives_after, lives_in, owner}
use Rattle.vms_history.specs.Common.{owner_after, owner_in, Works, Begins, Ends, Machine, IsLegal, Acts}
use Rattle.vms_history.proofs.Own.{own-mine, own-others, own-append}
use Rattle.vms_history.proofs.Prefixes.{legal_before, acts_of}

-- an event of the main pass changes the passes as the role of its step says, and no other event does
module _ {K : Type 0} (role : K → Role) (e : Event K) (h : List (Event K)) where
  pub begun_in-others : e.caller ≢ 0 → begun_in role (e ∷ h) ≡ begun_in role h
  begun_in-others others = ap (begun role) (own-others e h 0 others)

  pub lives_in-others : (q : ℕ) → e.caller ≢ 0 → lives_in role (e ∷ h) q ≡ lives_in role h q
  lives_in-others q others = ap (λ es. lives role es q) (own-others e h 0 others)

  pub owner_in-others : (q : ℕ) → e.caller ≢ 0 → owner_in role (e ∷ h) q ≡ owner_in role h q
  owner_in-others q others = ap (λ es. owner role es q) (own-others e h 0 others)

  pub begun_in-main : e.caller ≡ 0 → begun_in role (e ∷ h) ≡ begun_after (role e.step) (begun_in role h)
  begun_in-main main = ap (begun role) (own-mine e h 0 main)

  pub lives_in-main : (q : ℕ) → e.caller ≡ 0 → lives_in role (e ∷ h) q ≡ lives_after (role e.step) q (lives_in role h q)
  lives_in-main q main = ap (λ es. lives role es q) (own-mine e h 0 main)

  pub owner_in-main : (q : ℕ) → e.caller ≡ 0 → owner_in role (e ∷ h) q ≡ owner_after (role e.step) q (owner_in role h q)
  owner_in-main q main = ap (λ es. owner role es q) (own-mine e h 0 main)

-- passes that have begun stay begun
begun-append : {K : Type 0} (role : K → Role) (m h : List (Event K)) → begun role h ≤ begun role (m ++ h)
begun-append role [] h = omega arith
begun-append role (e ∷ m) h = by (role e.step) (begun-append role m h)
  where
    by : (t : Role) → begun role h ≤ begun role (m ++ h) → begun role h ≤ begun_after t (begun role (m ++ h))
    by Works rest = rest
    by (Begins q c) rest = omega arith
    by (Ends q) rest = rest

pub begun_in-append : {K : Type 0} (role : K → Role) (m h : List (Event K)) → begun_in role h ≤ begun_in role (m ++ h)
begun_in-append role m h =
    subst (λ es. begun_in role h ≤ begun role es) (sym (own-append m h 0)) (begun-append role (own m 0) (own h 0))

module _ {F K S : Type 0} (machine : Machine F K S) (facts : F) where
  -- a caller that may act is the main pass, or works
  main_or_works : (h : List (Event K)) (p : ℕ) (t : Role) → Acts machine facts h p t → (p ≡ 0) ⊎ ((p ≢ 0) × (t ≡ Works))
  main_or_works h p Works acts = inr (acts.0, refl)
  main_or_works h p (Begins q c) acts = inl acts.0
  main_or_works h p (Ends q) acts = inl acts.0

  -- an event that may be made changes the passes as the role of its step says, whoever made it
  module _ (e : Event K) (h : List (Event K)) where
    pub begun_in-role : Acts machine facts h e.caller (machine.role e.step)
        → begun_in machine.role (e ∷ h) ≡ begun_after (machine.role e.step) (begun_in machine.role h)
    begun_in-role acts =
        ⊎_elim (begun_in-main machine.role e h)
        (λ other. begun_in-others machine.role e h other.0
        ∙ ap (λ t. begun_after t (begun_in machine.role h)) (sym other.1))
        (main_or_works h e.caller (machine.role e.step) acts)

    pub lives_in-role : (q : ℕ) → Acts machine facts h e.caller (machine.role e.step)
        → lives_in machine.role (e ∷ h) q ≡ lives_after (machine.role e.step) q (lives_in machine.role h q)
    lives_in-role q acts =
        ⊎_elim (lives_in-main machine.role e h q)
        (λ other. lives_in-others machine.role e h q other.0
        ∙ ap (λ t. lives_after t q (lives_in machine.role h q)) (sym other.1))
        (main_or_works h e.caller (machine.role e.step) acts)

    pub owner_in-role : (q : ℕ) → Acts machine facts h e.caller (machine.role e.step)
        → owner_in machine.role (e ∷ h) q ≡ owner_after (machine.role e.step) q (owner_in machine.role h q)
    owner_in-role q acts =
        ⊎_elim (owner_in-main machine.role e h q)
        (λ other. owner_in-others machine.role e h q other.0
        ∙ ap (λ t. owner_after t q (owner_in machine.role h q)) (sym other.1))
        (main_or_works h e.caller (machine.role e.step) acts)

  -- who may act is told by the main pass's own events, and where a pass ends by that pass's too
  pub Acts-same : (h g : List (Event K)) (p : ℕ) (t : Role) → own g 0 ≡ own h 0
      → ((q : ℕ) → t ≡ Ends q → own g q ≡ own h q)
      → Acts machine facts h p t → Acts machine facts g p t
  Acts-same h g p Works main ending acts = (acts.0, ap (λ es. lives machine.role es p) main ∙ acts.1)
  Acts-same h g p (Begins q who) main ending acts = (
    acts.0,
    acts.1 ∙ ap (λ es. suc (begun machine.role es)) (sym main),
    acts.2,
    λ r r_lives owns.
        acts.3 r (ap (λ es. lives machine.role es r) (sym main) ∙ r_lives)
        (ap (λ es. owner machine.role es r) (sym main) ∙ owns),
  )
  Acts-same h g p (Ends q) main ending acts = (
    acts.0,
    ap (λ es. lives machine.role es q) main ∙ acts.1,
    subst (machine.MayEnd facts) (sym (ending q refl)) acts.2,
  )

  -- a pass that lives has been given its number, and none is given 0
  pub live_is_given : (h : List (Event K)) (q : ℕ) → IsLegal machine facts h → lives_in machine.role h q ≡ true
      → (0 < q) × (q ≤ begun_in machine.role h)
  live_is_given [] q legal lives = absurd (true≢false (sym lives))
  live_is_given (e ∷ h) q legal lives =
      let acts = acts_of machine facts e h legal in
      by (machine.role e.step) acts (live_is_given h q (legal_before machine facts e h legal)) (begun_in-role e h acts)
      (sym (lives_in-role e h q acts) ∙ lives)
    where
      by : (t : Role) → Acts machine facts h e.caller t
          → (lives_in machine.role h q ≡ true → (0 < q) × (q ≤ begun_in machine.role h))
          → begun_in machine.role (e ∷ h) ≡ begun_after t (begun_in machine.role h)
          → lives_after t q (lives_in machine.role h q) ≡ true
          → (0 < q) × (q ≤ begun_in machine.role (e ∷ h))
      by Works may before begun is = let given = before is in (given.0, omega arith)
      by (Begins r c) may before begun is = at (r == q) refl is
        where
          at : (b : Bool) → (r == q) ≡ b → cond b true (lives_in machine.role h q) ≡ true
              → (0 < q) × (q ≤ begun_in machine.role (e ∷ h))
          at true same is =
              let r_is_q : r ≡ q = eqb-true r q same in
              let next : r ≡ suc (begun_in machine.role h) = may.1 in
              (omega arith, omega arith)
          at false other is = let given = before is in (given.0, omega arith)
      by (Ends r) may before begun is = at (r == q) is
        where
          at : (b : Bool) → cond b false (lives_in machine.role h q) ≡ true
              → (0 < q) × (q ≤ begun_in machine.role (e ∷ h))
          at true is = absurd (true≢false (sym is))
          at false is = let given = before is in (given.0, omega arith)

  -- a caller other than the main pass lives when it acts, and begins and ends no pass
  pub caller_lives : (h : List (Event K)) (p : ℕ) (t : Role) → Acts machine facts h p t → p ≢ 0
      → lives_in machine.role h p ≡ true
  caller_lives h p Works acts others = acts.1
  caller_lives h p (Begins q c) acts others = absurd (others acts.0)
  caller_lives h p (Ends q) acts others = absurd (others acts.0)

  pub caller_works : (h : List (Event K)) (p : ℕ) (t : Role) → Acts machine facts h p t → p ≢ 0 → t ≡ Works
  caller_works h p t acts others = ⊎_elim (λ main. absurd (others main)) (λ other. other.1) (main_or_works h p t acts)

  -- who may act has been given its number
  pub caller_is_given : (h : List (Event K)) (p : ℕ) (t : Role) → IsLegal machine facts h → Acts machine facts h p t
      → p ≤ begun_in machine.role h
  caller_is_given h p Works legal acts = (live_is_given h p legal acts.1).1
  caller_is_given h p (Begins q c) legal acts = let main : p ≡ 0 = acts.0 in omega arith
  caller_is_given h p (Ends q) legal acts = let main : p ≡ 0 = acts.0 in omega arith

  -- so who makes an event has a number below those not begun yet, before it and after it
  pub caller_is_below : (e : Event K) (h : List (Event K)) (n : ℕ) → IsLegal machine facts (e ∷ h)
      → begun_in machine.role (e ∷ h) < n → (e.caller < n) × (begun_in machine.role h < n)
  caller_is_below e h n legal above =
      let grows : begun_in machine.role h ≤ begun_in machine.role (e ∷ h) = begun_in-append machine.role (e ∷ []) h in
      let given : e.caller ≤ begun_in machine.role h =
      caller_is_given h e.caller (machine.role e.step) (legal_before machine facts e h legal)
      (acts_of machine facts e h legal) in
      (omega arith, omega arith)

  -- a number that is not yet given has no event
  pub own-not_given : (h : List (Event K)) (q : ℕ) → IsLegal machine facts h → begun_in machine.role h < q
      → own h q ≡ []
  own-not_given [] q legal later = refl
  own-not_given (e ∷ h) q legal later =
      let before = legal_before machine facts e h legal in
      let grows : begun_in machine.role h ≤ begun_in machine.role (e ∷ h) = begun_in-append machine.role (e ∷ []) h in
      let given : e.caller ≤ begun_in machine.role h =
      caller_is_given h e.caller (machine.role e.step) before (acts_of machine facts e h legal) in
      let other : e.caller ≢ q = omega arith in
      own-others e h q other ∙ own-not_given h q before (omega arith)

  -- nor does it own a CPU; nor does the main pass
  pub owner_in-not_given : (h : List (Event K)) (q : ℕ) → IsLegal machine facts h
      → ((0 < q) × (q ≤ begun_in machine.role h) → ⊥) → owner_in machine.role h q ≡ None
  owner_in-not_given [] q legal not_given = refl
  owner_in-not_given (e ∷ h) q legal not_given =
      let acts = acts_of machine facts e h legal in
      let grows : begun_in machine.role h ≤ begun_in machine.role (e ∷ h) = begun_in-append machine.role (e ∷ []) h in
      owner_in-role e h q acts
      ∙ by (machine.role e.step) acts (begun_in-role e h acts)
      (owner_in-not_given h q (legal_before machine facts e h legal)
      (λ given. not_given (given.0, omega (arith, given.1))))
    where
      by : (t : Role) → Acts machine facts h e.caller t
          → begun_in machine.role (e ∷ h) ≡ begun_after t (begun_in machine.role h)
          → owner_in machine.role h q ≡ None → owner_after t q (owner_in machine.role h q) ≡ None
      by Works may begun none_yet = none_yet
      by (Begins r c) may begun none_yet =
          let next : r ≡ suc (begun_in machine.role h) = may.1 in
          ap (λ b. cond b c (owner_in machine.role h q))
          (ne_eqb r q (λ same. not_given (omega (arith, same), omega (arith, same))))
          ∙ none_yet
      by (Ends r) may begun none_yet = none_yet

  -- an owner stays
  pub owner_in-append : (m h : List (Event K)) (q : ℕ) → IsLegal machine facts (m ++ h) → q ≤ begun_in machine.role h
      → owner_in machine.role (m ++ h) q ≡ owner_in machine.role h q
  owner_in-append [] h q legal given = refl
  owner_in-append (e ∷ m) h q legal given =
      let acts = acts_of machine facts e (m ++ h) legal in
      owner_in-role e (m ++ h) q acts
      ∙ by (machine.role e.step) acts
      ∙ owner_in-append m h q (legal_before machine facts e (m ++ h) legal) given
    where
      by : (t : Role) → Acts machine facts (m ++ h) e.caller t
          → owner_after t q (owner_in machine.role (m ++ h) q) ≡ owner_in machine.role (m ++ h) q
      by Works may = refl
      by (Begins r c) may =
          let next : r ≡ suc (begun_in machine.role (m ++ h)) = may.1 in
          let grows = begun_in-append machine.role m h in
          ap (λ b. cond b c (owner_in machine.role (m ++ h) q)) (ne_eqb r q (λ same. omega arith))
      by (Ends r) may = refl

  -- an ended pass doesn't live again
  pub lives_in-ended : (m h : List (Event K)) (q : ℕ) → IsLegal machine facts (m ++ h) → q ≤ begun_in machine.role h
      → lives_in machine.role h q ≡ false → lives_in machine.role (m ++ h) q ≡ false
  lives_in-ended [] h q legal given ended = ended
  lives_in-ended (e ∷ m) h q legal given ended =
      let acts = acts_of machine facts e (m ++ h) legal in
      lives_in-role e (m ++ h) q acts
      ∙ by (machine.role e.step) acts
      (lives_in-ended m h q (legal_before machine facts e (m ++ h) legal) given ended)
    where
      by : (t : Role) → Acts machine facts (m ++ h) e.caller t → lives_in machine.role (m ++ h) q ≡ false
          → lives_after t q (lives_in machine.role (m ++ h) q) ≡ false
      by Works may still = still
      by (Begins r c) may still =
          let next : r ≡ suc (begun_in machine.role (m ++ h)) = may.1 in
          let grows = begun_in-append machine.role m h in
          ap (λ b. cond b true (lives_in machine.role (m ++ h) q)) (ne_eqb r q (λ same. omega arith)) ∙ still
      by (Ends r) may still = at (r == q)
        where
          at : (b : Bool) → cond b false (lives_in machine.role (m ++ h) q) ≡ false
          at true = refl
          at false = still

  -- so one that lives has lived since it began
  pub lives_in-before : (m h : List (Event K)) (q : ℕ) → IsLegal machine facts (m ++ h) → q ≤ begun_in machine.role h
      → lives_in machine.role (m ++ h) q ≡ true → lives_in machine.role h q ≡ true
  lives_in-before m h q legal given lives = by (lives_in machine.role h q) (lives_in-ended m h q legal given)
    where
      by : (b : Bool) → (b ≡ false → lives_in machine.role (m ++ h) q ≡ false) → b ≡ true
      by true over = refl
      by false over = absurd (true≢false (sym lives ∙ over refl))

  -- and makes no further event
  pub own-ended : (m h : List (Event K)) (q : ℕ) → IsLegal machine facts (m ++ h) → 0 < q → q ≤ begun_in machine.role h
      → lives_in machine.role h q ≡ false → own (m ++ h) q ≡ own h q
  own-ended [] h q legal some given ended = refl
  own-ended (e ∷ m) h q legal some given ended =
      let before = legal_before machine facts e (m ++ h) legal in
      let still = lives_in-ended m h q before given ended in
      own-others e (m ++ h) q (λ mine. by (machine.role e.step) (acts_of machine facts e (m ++ h) legal) mine still)
      ∙ own-ended m h q before some given ended
    where
      by : (t : Role) → Acts machine facts (m ++ h) e.caller t → e.caller ≡ q
          → lives_in machine.role (m ++ h) q ≡ false → ⊥
      by Works may mine still =
          true≢false (sym may.1 ∙ ap (lives_in machine.role (m ++ h)) mine ∙ still)
      by (Begins r c) may mine still = let main : e.caller ≡ 0 = may.0 in omega arith
      by (Ends r) may mine still = let main : e.caller ≡ 0 = may.0 in omega arith

  -- two passes that live own no CPU both, and at most one of them owns none
  pub one_live_owner : (h : List (Event K)) (q r : ℕ) → IsLegal machine facts h
      → lives_in machine.role h q ≡ true → lives_in machine.role h r ≡ true
      → owner_in machine.role h q ≡ owner_in machine.role h r → q ≡ r
  one_live_owner [] q r legal q_lives r_lives same = absurd (true≢false (sym q_lives))
  one_live_owner (e ∷ h) q r legal q_lives r_lives same =
      let acts = acts_of machine facts e h legal in
      by (machine.role e.step) acts (one_live_owner h q r (legal_before machine facts e h legal))
      (sym (lives_in-role e h q acts) ∙ q_lives) (sym (lives_in-role e h r acts) ∙ r_lives)
      (sym (owner_in-role e h q acts) ∙ same ∙ owner_in-role e h r acts)
    where
      by : (t : Role) → Acts machine facts h e.caller t
          → (lives_in machine.role h q ≡ true → lives_in machine.role h r ≡ true
          → owner_in machine.role h q ≡ owner_in machine.role h r → q ≡ r)
          → lives_after t q (lives_in machine.role h q) ≡ true → lives_after t r (lives_in machine.role h r) ≡ true
          → owner_after t q (owner_in machine.role h q) ≡ owner_after t r (owner_in machine.role h r) → q ≡ r
      by Works may before q_is r_is owners = before q_is r_is owners
      by (Begins s c) may before q_is r_is owners = at (s == q) (s == r) refl refl q_is r_is owners
        where
          at : (b d : Bool) → (s == q) ≡ b → (s == r) ≡ d → cond b true (lives_in machine.role h q) ≡ true
              → cond d true (lives_in machine.role h r) ≡ true
              → cond b c (owner_in machine.role h q) ≡ cond d c (owner_in machine.role h r) → q ≡ r
          at true true q_new r_new q_at r_at at_both = sym (eqb-true s q q_new) ∙ eqb-true s r r_new
          at true false q_new r_old q_at r_at at_both = absurd (may.3 r r_at (sym at_both))
          at false true q_old r_new q_at r_at at_both = absurd (may.3 q q_at at_both)
          at false false q_old r_old q_at r_at at_both = before q_at r_at at_both
      by (Ends s) may before q_is r_is owners =
          before (at (s == q) (lives_in machine.role h q) q_is) (at (s == r) (lives_in machine.role h r) r_is) owners
        where
          at : (b was : Bool) → cond b false was ≡ true → was ≡ true
          at true was is = absurd (true≢false (sym is))
          at false was is = is

  -- while a pass lives, no other pass acts for the CPU that it owns
  pub owner_acts_alone : (e : Event K) (h : List (Event K)) (p : ℕ) → IsLegal machine facts (e ∷ h) → e.caller ≢ 0
      → lives_in machine.role h p ≡ true → owner_in machine.role h e.caller ≡ owner_in machine.role h p → e.caller ≡ p
  owner_acts_alone e h p legal others p_lives same =
      one_live_owner h e.caller p (legal_before machine facts e h legal)
      (caller_lives h e.caller (machine.role e.step) (acts_of machine facts e h legal) others) p_lives same

  -- once every pass has ended, nothing follows what the main pass has seen
  pub nothing_follows : (m h : List (Event K)) → IsLegal machine facts (m ++ h)
      → ((q : ℕ) → lives_in machine.role (m ++ h) q ≡ false) → own m 0 ≡ [] → m ≡ []
  nothing_follows [] h legal ended seen = refl
  nothing_follows (e ∷ m) h legal ended seen =
      let acts = acts_of machine facts e (m ++ h) legal in
      absurd (by (machine.role e.step) acts (lives_in-role e (m ++ h) e.caller acts))
    where
      not_main : e.caller ≡ 0 → ⊥
      not_main main = nonempty (sym (own-mine e m 0 main) ∙ seen)
        where
          nonempty : {es : List (Event K)} → e ∷ es ≡ [] → ⊥
          nonempty is = cc

      by : (t : Role) → Acts machine facts (m ++ h) e.caller t
          → lives_in machine.role (e ∷ (m ++ h)) e.caller
          ≡ lives_after t e.caller (lives_in machine.role (m ++ h) e.caller) → ⊥
      by Works may is = true≢false (sym may.1 ∙ sym is ∙ ended e.caller)
      by (Begins r c) may is = not_main may.0
      by (Ends r) may is = not_main may.0
