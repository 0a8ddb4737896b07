-- The steps of a change that no exchange loses, and of a fold, are determined.
use Rattle.std.proofs.Common.{◌≡◌, ℕ, suc, Bool, true, false, ℤ, List, [], ◌∷◌, ◌++◌, length, refl, sym, ap, subst, ◌∙◌}
use Rattle.std.proofs.Common.{arith}
use Rattle.std.specs.Prelude.{All}
use Rattle.std.proofs.lemmas.List.Elements.{All-head, All-tail}
use Rattle.vms_world.specs.Common.{CounterId, CpuId, Diffs, Event, Facts, LoadD, LoadT, Miss, Mode, PlaceId, Put, SetA}
use Rattle.vms_world.specs.Common.{AddG, AddS, Carries, Exchanges, FoundPlace, HasWon, IsChange, IsFold, Shape, Step}
use Rattle.vms_world.specs.Common.{acknowledges, after, amount, carried_by, counter_at, entry, first_of_group, group_of}
use Rattle.vms_world.specs.Common.{group_steps, in_turn, item_count, lists_of, missed, nothing, pages, place_of}
use Rattle.vms_world.specs.Common.{place_steps, system_steps, to_place, won, item_of}
use Rattle.vms_calls.specs.Folds.{HasGroups}
use Rattle.vms_core.specs.declared.states.Threshold.{Threshold}
use Rattle.vms_file_order_laws.proofs.LegalSteps.{legal_as, legal_first, legal_later, with_step}
use Rattle.vms_file_order_laws.proofs.PageLoads.{Legal, diffs-same, next-same, take-same, threshold-same}

-- the additions that carry an amount
carries-once : (shape : Shape) (k : CounterId) (z z' : ℤ) (a b : List Step) → z ≡ z' → Carries shape k z a
    → Carries shape k z' b → a ≡ b
carries-once shape k z z' a b same nothing nothing = refl
carries-once shape k z z' a b same nothing (amount y' some') = absurd (some' (sym same))
carries-once shape k z z' a b same (amount y some) nothing = absurd (some same)
carries-once shape k z z' a b same (amount y some) (amount y' some') =
    ap (λ x. AddG k x ∷ AddS (record { number = item_of shape k.number }) x ∷ []) same

-- an exchange that doesn't lose is one put of what was found first
exchange-won : (k : CounterId) (w : Diffs) (t : ℕ) (delta : ℤ) (how : Mode) (last : Diffs) (steps rest : List Step)
    → Exchanges k w t delta how last steps → All HasWon (steps ++ rest)
    → (steps ≡ Put k w t delta how ∷ []) × (last ≡ w)
exchange-won k w t delta how last steps rest won alone = (refl, refl)
exchange-won k w t delta how last steps rest (missed zeros are) alone =
    absurd (All-head HasWon (Miss (record { number = group_of k.number }) w)
    (Put k zeros t delta how ∷ rest) alone)

-- what was found of places
threshold_of : FoundPlace → Threshold
threshold_of found = found.threshold

module _ (facts : Facts) (p : ℕ) where
  abbrev Steps : Type 0
  Steps = List Step

  abbrev History : Type 0
  History = List (Event Step)

  pub change-once : (shape : Shape) (cpu : CpuId) (k : CounterId) (delta : ℤ) (how : Mode) (a b : Steps) (h : History)
      → IsChange shape cpu k delta how a → IsChange shape cpu k delta how b → All HasWon a → All HasWon b
      → Legal facts p (a ++ []) h → Legal facts p (b ++ []) h → a ≡ b
  change-once shape cpu k delta how a b h is is' alone alone' legal legal' =
      let g : PlaceId = record { number = place_of shape k.number } in
      let loadT : ℕ → ℕ → Step = λ t n. LoadT g t n in
      let loadD : Diffs → Step = λ w. LoadD cpu (record { number = group_of k.number }) w in
      let all = subst (All HasWon) is.in_order alone in
      let all' = subst (All HasWon) is'.in_order alone' in
      let tail = All-tail HasWon (loadD is.first) (is.exchange ++ is.additions)
      (All-tail HasWon (loadT is.t is.number) (loadD is.first ∷ (is.exchange ++ is.additions)) all) in
      let tail' = All-tail HasWon (loadD is'.first) (is'.exchange ++ is'.additions)
      (All-tail HasWon (loadT is'.t is'.number) (loadD is'.first ∷ (is'.exchange ++ is'.additions)) all') in
      let won_first = exchange-won k is.first is.t delta how is.last is.exchange is.additions is.exchanges tail in
      let won_first' = exchange-won k is'.first is'.t delta how is'.last is'.exchange is'.additions is'.exchanges
      tail' in
      let at = legal_as pages facts p a ((loadT is.t is.number ∷ loadD is.first ∷ is.exchange) ++ is.additions) [] h
      is.in_order legal in
      let at' = legal_as pages facts p b ((loadT is'.t is'.number ∷ loadD is'.first ∷ is'.exchange) ++ is'.additions)
      [] h
      is'.in_order legal' in
      let found = threshold-same facts p (loadD is.first ∷ ((is.exchange ++ is.additions) ++ []))
      (loadD is'.first ∷ ((is'.exchange ++ is'.additions) ++ [])) h h refl g is.t is.number is'.t is'.number at at' in
      let step : loadT is.t is.number ≡ loadT is'.t is'.number =
      ap (λ t. loadT t is.number) found.0 ∙ ap (loadT is'.t) found.1 in
      let first : is.first ≡ is'.first = diffs-same facts p ((is.exchange ++ is.additions) ++ [])
      ((is'.exchange ++ is'.additions) ++ []) (with_step p (loadT is.t is.number) h)
      (with_step p (loadT is'.t is'.number) h) (ap (λ s. with_step p s h) step) cpu
      (record { number = group_of k.number }) is.first is'.first at at' in
      let put : ℕ → Diffs → Steps = λ t w. Put k w t delta how ∷ [] in
      let exchanged : is.exchange ≡ is'.exchange =
      won_first.0 ∙ ap (λ t. put t is.first) found.0 ∙ ap (put is'.t) first ∙ sym won_first'.0 in
      let last : is.last ≡ is'.last = won_first.1 ∙ first ∙ sym won_first'.1 in
      let added = carries-once shape k (carried_by how is.t (entry is.last.values k.number) delta)
      (carried_by how is'.t (entry is'.last.values k.number) delta) is.additions is'.additions
      (ap (λ t. carried_by how t (entry is.last.values k.number) delta) found.0
      ∙ ap (λ (w : Diffs). carried_by how is'.t (entry w.values k.number) delta) last) is.carries is'.carries in
      is.in_order
      ∙ ap (λ s. (s ∷ loadD is.first ∷ is.exchange) ++ is.additions) step
      ∙ ap (λ w. (loadT is'.t is'.number ∷ loadD w ∷ is.exchange) ++ is.additions) first
      ∙ ap (λ ks. (loadT is'.t is'.number ∷ loadD is'.first ∷ ks) ++ is.additions) exchanged
      ∙ ap (λ ks. (loadT is'.t is'.number ∷ loadD is'.first ∷ is'.exchange) ++ ks) added
      ∙ sym is'.in_order

  -- the groups of a place are taken as they stand
  groups-once : (c : CpuId) (j : ℕ) (ws ws' : List Diffs) (more more' : Steps) (h h' : History) → h ≡ h'
      → length ws ≡ length ws' → Legal facts p (in_turn (group_steps c) j ws ++ more) h
      → Legal facts p (in_turn (group_steps c) j ws' ++ more') h' → ws ≡ ws'
  groups-once c j [] [] more more' h h' from one legal legal' = refl
  groups-once c j [] (w ∷ ws') more more' h h' from one legal legal' = absurd (omega (arith, one))
  groups-once c j (w ∷ ws) [] more more' h h' from one legal legal' = absurd (omega (arith, one))
  groups-once c j (w ∷ ws) (w' ∷ ws') more more' h h' from one legal legal' =
      let first : Diffs → Steps = λ x. group_steps c j x in
      let rest = in_turn (group_steps c) (suc j) ws in
      let rest' = in_turn (group_steps c) (suc j) ws' in
      let added : Diffs → Steps = λ x. in_turn to_place (first_of_group j) x.values in
      let same : w ≡ w' = take-same facts p ((added w ++ rest) ++ more) ((added w' ++ rest') ++ more') h h' from c
      (record { number = j }) w w' legal legal' in
      let later = groups-once c (suc j) ws ws' more more' (after p (first w) h) (after p (first w') h')
      (ap (λ x. after p (first x) h) same ∙ ap (after p (first w')) from) (omega (arith, one))
      (legal_later pages facts p (first w) rest more h legal)
      (legal_later pages facts p (first w') rest' more' h' legal') in
      ap (λ x. x ∷ ws) same ∙ ap (λ xs. w' ∷ xs) later

  place-once : (shape : Shape) (acknowledged : Bool) (c : CpuId) (g : ℕ) (found found' : FoundPlace) (more more' :
      Steps)
      (h h' : History) → h ≡ h' → length found.groups ≡ length found'.groups
      → Legal facts p (place_steps shape acknowledged c g found ++ more) h
      → Legal facts p (place_steps shape acknowledged c g found' ++ more') h'
      → (place_steps shape acknowledged c g found ≡ place_steps shape acknowledged c g found')
      × (found.groups ≡ found'.groups)
  place-once shape false c g found found' more more' h h' from one legal legal' =
      let j = group_of (counter_at shape g 0) in
      let same = groups-once c j found.groups found'.groups more more' h h' from one legal legal' in
      (ap (in_turn (group_steps c) j) same, same)
  place-once shape true c g found found' more more' h h' from one legal legal' =
      let n : PlaceId = record { number = g } in
      let j = group_of (counter_at shape g 0) in
      let t : FoundPlace → ℕ = λ f. f.threshold.t in
      let a : FoundPlace → ℕ = λ f. f.threshold.number in
      let taken : List Diffs → Steps = λ ws. in_turn (group_steps c) j ws in
      let last : ℕ → Steps = λ x. SetA n x ∷ [] in
      let found_t = threshold-same facts p ((taken found.groups ++ last (a found)) ++ more)
      ((taken found'.groups ++ last (a found')) ++ more') h h' from n (t found) (a found) (t found') (a found') legal
      legal' in
      let step : LoadT n (t found) (a found) ≡ LoadT n (t found') (a found') =
      ap (λ x. LoadT n x (a found)) found_t.0 ∙ ap (LoadT n (t found')) found_t.1 in
      let k : History = with_step p (LoadT n (t found) (a found)) h in
      let k' : History = with_step p (LoadT n (t found') (a found')) h' in
      let same = groups-once c j found.groups found'.groups (last (a found) ++ more) (last (a found') ++ more') k k'
      (next-same facts p (LoadT n (t found) (a found)) (LoadT n (t found') (a found')) h h' step from) one
      (legal_first pages facts p (taken found.groups) (last (a found)) more k legal)
      (legal_first pages facts p (taken found'.groups) (last (a found')) more' k' legal') in (
        ap (λ s. s ∷ (taken found.groups ++ last (a found))) step
            ∙ ap (λ ws. LoadT n (t found') (a found') ∷ (taken ws ++ last (a found))) same
            ∙ ap (λ x. LoadT n (t found') (a found') ∷ (taken found'.groups ++ last x)) found_t.1,
        same,
      )

  places-once : (shape : Shape) (is_own : Bool) (c : CpuId) (g : ℕ) (places places' : List FoundPlace)
      (more more' : Steps) (h h' : History) → h ≡ h' → length places ≡ length places' → All (HasGroups shape) places
      → All (HasGroups shape) places'
      → Legal facts p (in_turn (λ n found. place_steps shape (acknowledges shape is_own n) c n found) g places ++
      more) h
      → Legal facts p (in_turn (λ n found. place_steps shape (acknowledges shape is_own n) c n found) g places' ++
      more')
      h' → (in_turn (λ n found. place_steps shape (acknowledges shape is_own n) c n found) g places
      ≡ in_turn (λ n found. place_steps shape (acknowledges shape is_own n) c n found) g places')
      × (lists_of places ≡ lists_of places')
  places-once shape is_own c g [] [] more more' h h' from one groups groups' legal legal' = (refl, refl)
  places-once shape is_own c g [] (f ∷ fs') more more' h h' from one groups groups' legal legal' =
      absurd (omega (arith, one))
  places-once shape is_own c g (f ∷ fs) [] more more' h h' from one groups groups' legal legal' =
      absurd (omega (arith, one))
  places-once shape is_own c g (f ∷ fs) (f' ∷ fs') more more' h h' from one groups groups' legal legal' =
      let first : FoundPlace → Steps = λ x. place_steps shape (acknowledges shape is_own g) c g x in
      let rest : List FoundPlace → Steps =
      λ xs. in_turn (λ n found. place_steps shape (acknowledges shape is_own n) c n found) (suc g) xs in
      let as_many = (All-head (HasGroups shape) f fs groups).one_each
      ∙ sym (All-head (HasGroups shape) f' fs' groups').one_each in
      let here = place-once shape (acknowledges shape is_own g) c g f f' (rest fs ++ more) (rest fs' ++ more') h h' from
      as_many (legal_first pages facts p (first f) (rest fs) more h legal)
      (legal_first pages facts p (first f') (rest fs') more' h' legal') in
      let later = places-once shape is_own c (suc g) fs fs' more more' (after p (first f) h) (after p (first f') h')
      (ap (λ ks. after p ks h) here.0 ∙ ap (after p (first f')) from) (omega (arith, one))
      (All-tail (HasGroups shape) f fs groups) (All-tail (HasGroups shape) f' fs' groups')
      (legal_later pages facts p (first f) (rest fs) more h legal)
      (legal_later pages facts p (first f') (rest fs') more' h' legal') in (
        ap (λ ks. ks ++ rest fs) here.0 ∙ ap (λ ks. first f' ++ ks) later.0,
        ap (λ ws. ws ++ lists_of fs) here.1 ∙ ap (λ ws. f'.groups ++ ws) later.1,
      )

  pub fold-once : (shape : Shape) (is_own : Bool) (c : CpuId) (a b more more' : Steps) (h h' : History) → h ≡ h'
      → IsFold shape is_own c a → IsFold shape is_own c b → Legal facts p (a ++ more) h → Legal facts p (b ++ more') h'
      → a ≡ b
  fold-once shape is_own c a b more more' h h' from is is' legal legal' =
      let placed : List FoundPlace → Steps =
      λ xs. in_turn (λ g found. place_steps shape (acknowledges shape is_own g) c g found) 0 xs in
      let summed : List Diffs → Steps = λ ws. system_steps shape ws 0 (item_count shape) in
      let at = legal_as pages facts p a (placed is.places ++ summed (lists_of is.places)) more h is.in_order legal in
      let at' = legal_as pages facts p b (placed is'.places ++ summed (lists_of is'.places)) more' h' is'.in_order
      legal' in
      let same = places-once shape is_own c 0 is.places is'.places (summed (lists_of is.places) ++ more)
      (summed (lists_of is'.places) ++ more') h h' from (is.one_each ∙ sym is'.one_each) is.groups is'.groups
      (legal_first pages facts p (placed is.places) (summed (lists_of is.places)) more h at)
      (legal_first pages facts p (placed is'.places) (summed (lists_of is'.places)) more' h' at') in
      is.in_order ∙ ap (λ ks. ks ++ summed (lists_of is.places)) same.0
      ∙ ap (λ ws. placed is'.places ++ summed ws) same.1 ∙ sym is'.in_order
