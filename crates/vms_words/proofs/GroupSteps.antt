-- The differentials of a group may be loaded and taken.
use Rattle.std.proofs.Common.{◌≡◌, ℕ, ◌+◌, ◌*◌, ◌<◌, ◌&&◌, true, Option, Some, None, pos, refl, sym, ap, ◌∙◌, subst}
use Rattle.std.proofs.Common.{arith, if◌then◌else◌, nat_eq, eqb-true, eq-eqb}
use Rattle.std.proofs.lemmas.List.{get_or-replicate, length-replicate}
use Rattle.vms_calls.specs.Common.{Diffs, CpuId, GroupId, AreBytes, IsCpu, IsCounter, IsGroup, group_of, GoesOnWithout}
use Rattle.vms_calls.specs.Common.{owner_in, State, Facts, Step, LoadD, Take, TellsGroup, diff_at, eight_zeros}
use Rattle.vms_calls.specs.Common.{with_group_zeroed, FindsGroup, pages, History, state_after, role, effect}
use Rattle.vms_base.specs.Groups.{bytes_of_word, word_of_bytes}
use Rattle.vms_seats.specs.Common.{Pass, MayStep}
use Rattle.vms_core.specs.Pages.{IsLegal}
use Rattle.vms_core.proofs.Common.{diff_at-effect, laws-kept}
use Rattle.vms_words.specs.declared.spots.Spot.TheVariants.{Group}
use Rattle.vms_words.specs.Common.{list_told, spot_word, group_at, place_in, told}
use Rattle.vms_words.specs.Shown.{shown}
use Rattle.vms_words.specs.Spots.{blocks_of}
use Rattle.vms_words.proofs.GroupBytes.{bytes-of_word, word-of_zeros}
use Rattle.vms_words.proofs.GroupChanges.{known-member, diffs-others}
use Rattle.vms_words.proofs.GroupWords.{length-group_at, group-is, group-tells}
use Rattle.vms_words.proofs.LoadSteps.{acts, load-may}
use Rattle.vms_words.proofs.ShownWords.{shown-at, shown-set}

-- the word of a group tells the list that stands there
module _ (facts : Facts) (h : History) (legal : IsLegal facts h) (c : CpuId) (j : GroupId)
    (c_in : IsCpu facts.layout c.number) (j_in : IsGroup facts.layout j.number) where
  abbrev s : State
  s = state_after facts h

  group-bytes : AreBytes (group_at s c.number j.number)
  group-bytes =
      let list = (laws-kept facts h legal).groups c.number j.number c_in j_in in
      subst AreBytes (group-is s c.number j.number list.0.values list.1) list.0.bytes

  pub group-read : (found : ℕ) → spot_word s (Group c j) ≡ found → bytes_of_word found ≡ group_at s c.number j.number
  group-read found stands =
      ap bytes_of_word (sym stands)
      ∙ bytes-of_word (group_at s c.number j.number) (length-group_at s c.number j.number) group-bytes

  pub group-found : (found : ℕ) → spot_word s (Group c j) ≡ found → FindsGroup facts s c j (list_told found)
  group-found found stands = record {
    cpu = c_in;
    group = j_in;
    values = subst (TellsGroup s c.number j.number) (sym (group-read found stands)) (group-tells s c.number j.number);
  }

module _ (pass : Pass Facts Step) (c : CpuId) (j : GroupId) (w : Diffs) (c_in : IsCpu pass.facts.layout c.number)
    (j_in : IsGroup pass.facts.layout j.number) where
  pub group-load : MayStep pages shown pass (place_in (blocks_of pass.facts.layout) (Group c j)) (λ n. n)
      (told (LoadD c j w))
  group-load =
      load-may pass (Group c j) (c_in, j_in) (told (LoadD c j w)) (λ n. refl) leaves
      (λ h found goes fits stands. group-found pass.facts h goes.legal c j c_in j_in found stands)
    where
      leaves : (n : ℕ) (who : Option CpuId) (s : State) → effect pass.facts who (told (LoadD c j w) n) s ≡ s
      leaves n None s = refl
      leaves n (Some d) s = refl

-- a take leaves eight zeros, and the other words
module _ (pass : Pass Facts Step) (c : CpuId) (j : GroupId) (w : Diffs) (c_in : IsCpu pass.facts.layout c.number)
    (j_in : IsGroup pass.facts.layout j.number) where
  abbrev zeroed : State → State
  zeroed s = with_group_zeroed s c.number j.number

  taken : (v : Diffs) (who : Option CpuId) (s : State) → effect pass.facts who (Take c j v) s ≡ zeroed s
  taken v None s = refl
  taken v (Some d) s = refl

  module _ (h : History) (goes : GoesOnWithout pages pass.facts h pass.seen pass.number) (found : ℕ)
      (stands : spot_word (state_after pass.facts h) (Group c j) ≡ found) where
    finds : FindsGroup pass.facts (state_after pass.facts h) c j (list_told found)
    finds = group-found pass.facts h goes.legal c j c_in j_in found stands

    diff_at-taken : (who : Option CpuId) → owner_in role h pass.number ≡ who → (d k : ℕ)
        → IsCounter pass.facts.layout k → diff_at (zeroed (state_after pass.facts h)) d k
        ≡ (if nat_eq c.number d && nat_eq j.number (group_of k) then pos 0 else diff_at (state_after pass.facts h) d k)
    diff_at-taken None is d k k_in =
        diff_at-effect pass.facts h (state_after pass.facts h) pass.number (laws-kept pass.facts h goes.legal).shape
        None (Take c j (list_told found)) d k is finds k_in
    diff_at-taken (Some o) is d k k_in =
        diff_at-effect pass.facts h (state_after pass.facts h) pass.number (laws-kept pass.facts h goes.legal).shape
        (Some o) (Take c j (list_told found)) d k is finds k_in

    own-taken : (n : ℕ) → n < 8
        → diff_at (zeroed (state_after pass.facts h)) c.number (8 * j.number + n) ≡ pos 0
    own-taken n less =
        let mine : nat_eq c.number c.number ≡ true = eq-eqb c.number c.number refl in
        let it : nat_eq j.number (group_of (8 * j.number + n)) ≡ true =
        eq-eqb j.number (group_of (8 * j.number + n)) (omega arith) in
        diff_at-taken (owner_in role h pass.number) refl c.number (8 * j.number + n)
        (known-member pass.facts.layout j.number n j_in less)
        ∙ rw (mine, it) refl

    zeros-left : spot_word (zeroed (state_after pass.facts h)) (Group c j) ≡ 0
    zeros-left =
        ap word_of_bytes (sym (group-is (zeroed (state_after pass.facts h)) c.number j.number eight_zeros (record {
          eight = length-replicate 8 (pos 0);
          each = λ n less. get_or-replicate 8 n (pos 0) (pos 0) less ∙ sym (own-taken n less);
        })))
        ∙ word-of_zeros

  pub group-take : MayStep pages shown pass (place_in (blocks_of pass.facts.layout) (Group c j)) (λ n. 0)
      (told (Take c j w))
  group-take h found goes fits stands =
      let facts = pass.facts in
      let s = state_after facts h in
      let is : spot_word s (Group c j) ≡ found = sym (shown-at facts s (Group c j) (c_in, j_in)) ∙ stands in
      record {
        legal = (
          goes.legal,
          acts facts h pass.seen pass.number goes (Take c j (list_told found)) refl,
          finds h goes found is,
        );
        shows = ap (shown facts) (taken (list_told found) (owner_in role h pass.number) s)
            ∙ shown-set facts s (zeroed s) (Group c j) (c_in, j_in) 0 (zeros-left h goes found is)
            (diffs-others facts.layout s (zeroed s).diff c j (λ k. nat_eq j.number (group_of k)) (pos 0)
            (λ k at. sym (eqb-true j.number (group_of k) at))
            (diff_at-taken h goes found is (owner_in role h pass.number) refl));
      }
