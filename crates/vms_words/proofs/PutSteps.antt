-- An exchange of the list that was found puts the new one, or misses.
use Rattle.std.proofs.Common.{◌≡◌, ◌≢◌, ℕ, ◌+◌, ◌*◌, ◌%◌, ◌<◌, ◌&&◌, ◌==◌, Bool, true, false, List, length, get_or}
use Rattle.std.proofs.Common.{Some, ℤ, pos, refl, sym, ap, ◌∙◌, subst, arith, length-set, if◌then◌else◌, nat_eq}
use Rattle.std.proofs.Common.{eqb-true, eq-eqb}
use Rattle.std.proofs.Math.ListN.{set}
use Rattle.std.proofs.lemmas.Bool.{eqb-false, ne_eqb}
use Rattle.std.proofs.lemmas.List.{set-get_or}
use Rattle.vms_calls.specs.Common.{Diffs, CounterId, CpuId, GroupId, Mode, IsCpu, IsCounter, IsGroup, group_of}
use Rattle.vms_calls.specs.Common.{GoesOnWithout, State, Facts, Step, Put, Miss, TellsGroup, diff_at, entry, with_diff}
use Rattle.vms_calls.specs.Common.{differential_after, MayExchange, pages, History, state_after, effect}
use Rattle.vms_base.specs.Groups.{bytes_of_word, word_of_bytes}
use Rattle.vms_base.proofs.Common.{group_of-lt}
use Rattle.vms_history.proofs.Common.{get_or-set, base_can_begin}
use Rattle.vms_seats.specs.Common.{Pass, MayStep, NextStep}
use Rattle.vms_core.proofs.Common.{diff_at-effect, put-follows, miss-follows, MayExchange-goes_on, laws-kept}
use Rattle.vms_words.specs.declared.spots.Spot.TheVariants.{Group}
use Rattle.vms_words.specs.Shown.{shown}
use Rattle.vms_words.specs.Common.{spot_word, group_at, place_in, told}
use Rattle.vms_words.specs.Spots.{blocks_of}
use Rattle.vms_words.proofs.GroupBytes.{bytes-of_word}
use Rattle.vms_words.proofs.GroupChanges.{known-member, diffs-others}
use Rattle.vms_words.proofs.GroupSteps.{group-read}
use Rattle.vms_words.proofs.GroupWords.{group-is, group-tells}
use Rattle.vms_words.proofs.ShownWords.{shown-at, shown-set}

module _ (pass : Pass Facts Step) (c : CpuId) (k : CounterId) (w : Diffs) (t : ℕ) (delta : ℤ) (how : Mode)
    (eight : length w.values ≡ 8) (may : MayExchange pass.facts pass.seen pass.number c k w t delta) where
  abbrev j : GroupId
  j = record { number = group_of k.number }

  abbrev differential : ℤ
  differential = differential_after how t (entry w.values k.number) delta

  abbrev next_list : List ℤ
  next_list = set w.values (k.number % 8) differential

  abbrev changed : State → State
  changed s = with_diff s c.number k.number differential

  abbrev place : ℕ
  place = place_in (blocks_of pass.facts.layout) (Group c j)

  c_in : IsCpu pass.facts.layout c.number
  c_in = ((laws-kept pass.facts pass.seen may.legal).owners pass.number c may.owner.owner).0

  j_in : IsGroup pass.facts.layout (group_of k.number)
  j_in = group_of-lt pass.facts.layout (base_can_begin pages pass.facts pass.seen may.legal).layout k.number may.counter

  module _ (h : History) (goes : GoesOnWithout pages pass.facts h pass.seen pass.number) (found : ℕ)
      (stands : spot_word (state_after pass.facts h) (Group c j) ≡ found) where
    still : MayExchange pass.facts h pass.number c k w t delta
    still = MayExchange-goes_on pass.facts h pass.seen pass.number c k w t delta goes may

    abbrev ListStands : Type 0
    ListStands = TellsGroup (state_after pass.facts h) c.number (group_of k.number) w.values

    list-stands : found ≡ word_of_bytes w.values → ListStands
    list-stands same =
        let s = state_after pass.facts h in
        let is : group_at s c.number (group_of k.number) ≡ w.values =
        sym (group-read pass.facts h goes.legal c j c_in j_in found stands) ∙ ap bytes_of_word same
        ∙ bytes-of_word w.values eight w.bytes in
        subst (TellsGroup s c.number (group_of k.number)) is (group-tells s c.number (group_of k.number))

    list-lost : found ≢ word_of_bytes w.values → ListStands → ⊥
    list-lost differs tells =
        differs (sym stands ∙ ap word_of_bytes
        (sym (group-is (state_after pass.facts h) c.number (group_of k.number) w.values tells)))

    module _ (tells : ListStands) where
      diff_at-put : (d l : ℕ) → IsCounter pass.facts.layout l → diff_at (changed (state_after pass.facts h)) d l
          ≡ (if nat_eq c.number d && nat_eq k.number l then differential else diff_at (state_after pass.facts h) d l)
      diff_at-put d l l_in =
          diff_at-effect pass.facts h (state_after pass.facts h) pass.number (laws-kept pass.facts h goes.legal).shape
          (Some c) (Put k w t delta how) d l still.owner.owner
          (put-follows pass.facts h pass.number c k w t delta still how tells).2 l_in

      next-tells : TellsGroup (changed (state_after pass.facts h)) c.number (group_of k.number) next_list
      next-tells = record {
        eight = length-set w.values (k.number % 8) differential ∙ eight;
        each = λ n less.
            get_or-set w.values (k.number % 8) n differential (pos 0) (omega (arith, eight))
            ∙ by n less (nat_eq (k.number % 8) n) refl
            ∙ sym (diff_at-put c.number (8 * group_of k.number + n)
            (known-member pass.facts.layout (group_of k.number) n j_in less));
      }
        where
          by : (n : ℕ) → n < 8 → (b : Bool) → nat_eq (k.number % 8) n ≡ b
              → (if b then differential else get_or w.values n (pos 0))
              ≡ (if nat_eq c.number c.number && nat_eq k.number (8 * group_of k.number + n)
              then differential else diff_at (state_after pass.facts h) c.number (8 * group_of k.number + n))
          by n less true here =
              let at : k.number % 8 ≡ n = eqb-true (k.number % 8) n here in
              let it : nat_eq k.number (8 * group_of k.number + n) ≡ true =
              eq-eqb k.number (8 * group_of k.number + n) (omega arith) in
              let mine : nat_eq c.number c.number ≡ true = eq-eqb c.number c.number refl in
              rw (mine, it) refl
          by n less false other =
              let off : k.number % 8 ≢ n = eqb-false (k.number % 8) n other in
              let it : nat_eq k.number (8 * group_of k.number + n) ≡ false =
              ne_eqb k.number (8 * group_of k.number + n) (λ e. off (omega arith)) in
              let mine : nat_eq c.number c.number ≡ true = eq-eqb c.number c.number refl in
              rw (mine, it) (tells.each n less)

      put-next : NextStep pages shown pass.facts h pass.number place (word_of_bytes next_list) (Put k w t delta how)
      put-next =
          let s = state_after pass.facts h in
          record {
            legal = put-follows pass.facts h pass.number c k w t delta still how tells;
            shows = ap (λ who. shown pass.facts (effect pass.facts who (Put k w t delta how) s)) still.owner.owner
                ∙ shown-set pass.facts s (changed s) (Group c j) (c_in, j_in) (word_of_bytes next_list)
                (ap word_of_bytes (sym (group-is (changed s) c.number (group_of k.number) next_list next-tells)))
                (diffs-others pass.facts.layout s (changed s).diff c j (nat_eq k.number) differential
                (λ l at. sym (ap group_of (eqb-true k.number l at))) diff_at-put);
          }

    miss-next : found ≢ word_of_bytes w.values → NextStep pages shown pass.facts h pass.number place found (Miss j w)
    miss-next differs =
        let s = state_after pass.facts h in
        record {
          legal = miss-follows pass.facts h pass.number c k w t delta still j refl (list-lost differs);
          shows = ap (λ who. shown pass.facts (effect pass.facts who (Miss j w) s)) still.owner.owner
              ∙ sym (ap (set (shown pass.facts s) place)
              (sym (shown-at pass.facts s (Group c j) (c_in, j_in) ∙ stands))
              ∙ set-get_or (shown pass.facts s) place 0);
        }

  pub group-put : MayStep pages shown pass place
      (λ n. if n == word_of_bytes w.values then word_of_bytes next_list else n) (told (Put k w t delta how))
  group-put h found goes fits stands = by (found == word_of_bytes w.values) refl
    where
      is : spot_word (state_after pass.facts h) (Group c j) ≡ found
      is = sym (shown-at pass.facts (state_after pass.facts h) (Group c j) (c_in, j_in)) ∙ stands

      by : (b : Bool) → (found == word_of_bytes w.values) ≡ b
          → NextStep pages shown pass.facts h pass.number place (if b then word_of_bytes next_list else found)
          (if b then Put k w t delta how else Miss j w)
      by true same =
          put-next h goes found is (list-stands h goes found is (eqb-true found (word_of_bytes w.values) same))
      by false differs = miss-next h goes found is (eqb-false found (word_of_bytes w.values) differs)
