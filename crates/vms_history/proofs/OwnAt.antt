-- For other crates too: a caller's own events, each with the history that stood before it.
use Rattle.std.proofs.Common.{◌≡◌, ℕ, ◌==◌, cond, Bool, true, false, List, [], ◌∷◌, ◌++◌, map, All, refl, ap, sym}
use Rattle.std.proofs.Common.{subst, ◌∙◌, append_assoc, eq-eqb, eqb-true}
use Rattle.std.proofs.lemmas.List.Elements.{All-nil, All-cons, All-weaker}
use Rattle.vms_history.specs.declared.events.Event.{Event}
use Rattle.vms_history.specs.Common.{Extends, own, own_at, after, NewestOwn, Machine, IsLegal, MadeAt}
use Rattle.vms_history.proofs.Own.{Extends-same, Extends-both, own-append, own-on_top, after-append, after-steps}
use Rattle.vms_history.proofs.Prefixes.{legal_before, prefix_is_legal}

module _ {K : Type 0} where
  pub own_at-events : (h : List (Event K)) (p : ℕ)
      → map (λ (at : Event K × List (Event K)). at.0) (own_at h p) ≡ own h p
  own_at-events [] p = refl
  own_at-events (e ∷ h) p = by (e.caller == p) (own_at-events h p)
    where
      by : (b : Bool) → map (λ (at : Event K × List (Event K)). at.0) (own_at h p) ≡ own h p
          → map (λ (at : Event K × List (Event K)). at.0) (cond b ((e, h) ∷ own_at h p) (own_at h p))
          ≡ cond b (e ∷ own h p) (own h p)
      by true rest = ap (λ es. e ∷ es) rest
      by false rest = rest

  pub own_at-append : (m h : List (Event K)) (p : ℕ)
      → own_at (m ++ h) p ≡ map (λ (at : Event K × List (Event K)). (at.0, at.1 ++ h)) (own_at m p) ++ own_at h p
  own_at-append [] h p = refl
  own_at-append (e ∷ m) h p = by (e.caller == p) (own_at-append m h p)
    where
      by : (b : Bool) → own_at (m ++ h) p
          ≡ map (λ (at : Event K × List (Event K)). (at.0, at.1 ++ h)) (own_at m p) ++ own_at h p
          → cond b ((e, m ++ h) ∷ own_at (m ++ h) p) (own_at (m ++ h) p)
          ≡ map (λ (at : Event K × List (Event K)). (at.0, at.1 ++ h))
          (cond b ((e, m) ∷ own_at m p) (own_at m p)) ++ own_at h p
      by true rest = ap (λ ats. (e, m ++ h) ∷ ats) rest
      by false rest = rest

  pub newest_own : (h : List (Event K)) (p : ℕ) (e : Event K) (earlier : List (Event K)) → own h p ≡ e ∷ earlier
      → NewestOwn h p e earlier
  newest_own [] p e earlier is = absurd (cc)
  newest_own (d ∷ h) p e earlier is = by (d.caller == p) refl is (newest_own h p e earlier)
    where
      by : (b : Bool) → (d.caller == p) ≡ b → cond b (d ∷ own h p) (own h p) ≡ e ∷ earlier
          → (own h p ≡ e ∷ earlier → NewestOwn h p e earlier) → NewestOwn (d ∷ h) p e earlier
      by true mine own_is rest =
          let same : d ≡ e = cc in
          let before_is : own h p ≡ earlier = cc in
          subst (λ x. NewestOwn (d ∷ h) p x earlier) same
          (record {
            since = [];
            before = h;
            parts = refl;
            none_since = refl;
            own_before = before_is;
            mine = eqb-true d.caller p mine;
          })
      by false others own_is rest =
          let newest = rest own_is in
          record {
            since = d ∷ newest.since;
            before = newest.before;
            parts = ap (λ es. d ∷ es) newest.parts;
            none_since = ap (λ b. cond b (d ∷ own newest.since p) (own newest.since p)) others ∙ newest.none_since;
            own_before = newest.own_before;
            mine = newest.mine;
          }

  -- no own event stands in a history without any
  own_at-none : (h : List (Event K)) (p : ℕ) → own h p ≡ [] → own_at h p ≡ []
  own_at-none h p none = by (own_at h p) (own_at-events h p ∙ none)
    where
      by : (ats : List (Event K × List (Event K))) → map (λ (at : Event K × List (Event K)). at.0) ats ≡ [] → ats ≡ []
      by [] is = refl
      by (at ∷ ats) is = absurd cc

  pub own_at-newest : (h : List (Event K)) (p : ℕ) (e : Event K) (earlier : List (Event K))
      (newest : NewestOwn h p e earlier)
      → own_at h p ≡ (e, newest.before) ∷ own_at newest.before p
  own_at-newest h p e earlier newest =
      ap (λ es. own_at es p) newest.parts
      ∙ own_at-append newest.since (e ∷ newest.before) p
      ∙ ap (λ ats. map (λ (at : Event K × List (Event K)). (at.0, at.1 ++ (e ∷ newest.before))) ats
      ++ own_at (e ∷ newest.before) p)
      (own_at-none newest.since p newest.none_since)
      ∙ ap (λ b. cond b ((e, newest.before) ∷ own_at newest.before p) (own_at newest.before p))
      (eq-eqb e.caller p newest.mine)

  -- the last of the steps that p made in a row on top of an earlier history; what stood before it goes on from there
  pub last_in_row : (later earlier : List (Event K)) (p : ℕ) (ks : List K) (k : K) → Extends later earlier
      → own later p ≡ after p (ks ++ k ∷ []) (own earlier p)
      → (newest : NewestOwn later p (record { caller = p; step = k }) (after p ks (own earlier p)))
      × Extends newest.before earlier
  last_in_row later earlier p ks k more made =
      let e : Event K = record { caller = p; step = k } in
      let on_top : own more.0 p ≡ e ∷ after p ks [] =
      own-on_top more.0 earlier p (ks ++ k ∷ []) (sym (ap (λ es. own es p) more.1) ∙ made)
      ∙ after-steps p ks (k ∷ []) [] in
      let newest = newest_own more.0 p e (after p ks []) on_top in (
        record {
          since = newest.since;
          before = newest.before ++ earlier;
          parts = more.1 ∙ ap (λ es. es ++ earlier) newest.parts
              ∙ append_assoc newest.since (e ∷ newest.before) earlier;
          none_since = newest.none_since;
          own_before =
              own-append newest.before earlier p ∙ ap (λ es. es ++ own earlier p) newest.own_before
              ∙ sym (after-append p ks [] (own earlier p));
          mine = refl;
        },
        (newest.before, refl),
      )

-- each own event of a legal history was made when what stood before it was the whole history
module _ {F K S : Type 0} (machine : Machine F K S) (facts : F) where
  made-later : (e : Event K) (h : List (Event K)) (p : ℕ) (at : Event K × List (Event K))
      → MadeAt machine facts h p at.0 at.1 → MadeAt machine facts (e ∷ h) p at.0 at.1
  made-later e h p at made =
      record {
        mine = made.mine;
        later = Extends-both (e ∷ h) h (at.0 ∷ at.1) (e ∷ [], refl) made.later;
        legal = made.legal;
      }

  pub own_at-made : (h : List (Event K)) (p : ℕ) → IsLegal machine facts h
      → All (λ (at : Event K × List (Event K)). MadeAt machine facts h p at.0 at.1) (own_at h p)
  own_at-made [] p legal = All-nil (λ (at : Event K × List (Event K)). MadeAt machine facts [] p at.0 at.1)
  own_at-made (e ∷ h) p legal =
      by (e.caller == p) refl
      (All-weaker (λ (at : Event K × List (Event K)). MadeAt machine facts h p at.0 at.1)
      (λ (at : Event K × List (Event K)). MadeAt machine facts (e ∷ h) p at.0 at.1)
      (made-later e h p) (own_at h p) (own_at-made h p (legal_before machine facts e h legal)))
    where
      by : (b : Bool) → (e.caller == p) ≡ b
          → All (λ (at : Event K × List (Event K)). MadeAt machine facts (e ∷ h) p at.0 at.1) (own_at h p)
          → All (λ (at : Event K × List (Event K)). MadeAt machine facts (e ∷ h) p at.0 at.1)
          (cond b ((e, h) ∷ own_at h p) (own_at h p))
      by true mine rest =
          All-cons (λ (at : Event K × List (Event K)). MadeAt machine facts (e ∷ h) p at.0 at.1) (e, h) (own_at h p)
          (record { mine = eqb-true e.caller p mine; later = Extends-same (e ∷ h); legal = legal }) rest
      by false others rest = rest

  pub newest_own-made : (h : List (Event K)) (p : ℕ) (e : Event K) (earlier : List (Event K)) → IsLegal machine facts h
      → (newest : NewestOwn h p e earlier) → MadeAt machine facts h p e newest.before
  newest_own-made h p e earlier legal newest =
      record {
        mine = newest.mine;
        later = (newest.since, newest.parts);
        legal = prefix_is_legal machine facts newest.since (e ∷ newest.before)
            (subst (IsLegal machine facts) newest.parts legal);
      }
