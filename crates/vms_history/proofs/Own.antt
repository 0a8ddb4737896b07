-- For other crates too: a caller's own events, and what they are after more steps.
use Rattle.std.proofs.Common.{◌≡◌, ◌≢◌, ℕ, ◌==◌, cond, Bool, true, false, List, [], ◌∷◌, ◌++◌, refl, ap, sym, ◌∙◌}
use Rattle.std.proofs.Common.{append_assoc, eq-eqb, ne_eqb, eqb-true, if◌then◌else◌, nat_eq}
use Rattle.std.proofs.lemmas.Bool.{eqb-false}
use Rattle.std.proofs.lemmas.List.{append_cancel_right}
use Rattle.vms_history.specs.declared.events.Event.{Event}
use Rattle.vms_history.specs.Common.{Extends, own, after}
use Rattle.vms_history.proofs.Choices.{if-map}

module _ {K : Type 0} where
  pub own-mine : (e : Event K) (h : List (Event K)) (p : ℕ) → e.caller ≡ p → own (e ∷ h) p ≡ e ∷ own h p
  own-mine e h p mine = ap (λ b. cond b (e ∷ own h p) (own h p)) (eq-eqb e.caller p mine)

  pub own-others : (e : Event K) (h : List (Event K)) (p : ℕ) → e.caller ≢ p → own (e ∷ h) p ≡ own h p
  own-others e h p others = ap (λ b. cond b (e ∷ own h p) (own h p)) (ne_eqb e.caller p others)

  -- a fact on own events goes by the newest event where it is an own one
  pub own-fact : {X : Type 0} (f : List (Event K) → X) (e : Event K) (h : List (Event K)) (p : ℕ)
      → f (own (e ∷ h) p) ≡ (if nat_eq e.caller p then f (e ∷ own h p) else f (own h p))
  own-fact f e h p = if-map f (nat_eq e.caller p) (e ∷ own h p) (own h p)

  -- where a caller has no own event the newest is another's, and it had none before
  pub own-none : (e : Event K) (h : List (Event K)) (p : ℕ) → own (e ∷ h) p ≡ [] → (e.caller ≢ p) × (own h p ≡ [])
  own-none e h p none = by (nat_eq e.caller p) refl none
    where
      by : (b : Bool) → nat_eq e.caller p ≡ b → (if b then e ∷ own h p else own h p) ≡ []
          → (e.caller ≢ p) × (own h p ≡ [])
      by true mine is = absurd cc
      by false others is = (eqb-false e.caller p others, is)

  pub own-append : (m h : List (Event K)) (p : ℕ) → own (m ++ h) p ≡ own m p ++ own h p
  own-append [] h p = refl
  own-append (e ∷ m) h p = by (e.caller == p) (own-append m h p)
    where
      by : (b : Bool) → own (m ++ h) p ≡ own m p ++ own h p
          → cond b (e ∷ own (m ++ h) p) (own (m ++ h) p) ≡ cond b (e ∷ own m p) (own m p) ++ own h p
      by true rest = ap (λ es. e ∷ es) rest
      by false rest = rest

  -- a caller's events are all its own
  pub own-own : (h : List (Event K)) (p : ℕ) → own (own h p) p ≡ own h p
  own-own [] p = refl
  own-own (e ∷ h) p = by (e.caller == p) refl (own-own h p)
    where
      by : (b : Bool) → (e.caller == p) ≡ b → own (own h p) p ≡ own h p
          → own (cond b (e ∷ own h p) (own h p)) p ≡ cond b (e ∷ own h p) (own h p)
      by true mine rest = own-mine e (own h p) p (eqb-true e.caller p mine) ∙ ap (λ es. e ∷ es) rest
      by false others rest = rest

  pub after-append : (p : ℕ) (ks : List K) (h g : List (Event K)) → after p ks (h ++ g) ≡ after p ks h ++ g
  after-append p [] h g = refl
  after-append p (k ∷ ks) h g = after-append p ks (record { caller = p; step = k } ∷ h) g

  pub after-steps : (p : ℕ) (ks js : List K) (h : List (Event K)) → after p (ks ++ js) h ≡ after p js (after p ks h)
  after-steps p [] js h = refl
  after-steps p (k ∷ ks) js h = after-steps p ks js (record { caller = p; step = k } ∷ h)

  pub own-after : (p : ℕ) (ks : List K) (h : List (Event K)) → own (after p ks h) p ≡ after p ks (own h p)
  own-after p [] h = refl
  own-after p (k ∷ ks) h =
      own-after p ks (record { caller = p; step = k } ∷ h)
      ∙ ap (after p ks) (own-mine (record { caller = p; step = k }) h p refl)

  pub own-after_others : (p : ℕ) (ks : List K) (h : List (Event K)) (q : ℕ) → q ≢ p → own (after p ks h) q ≡ own h q
  own-after_others p [] h q others = refl
  own-after_others p (k ∷ ks) h q others =
      own-after_others p ks (record { caller = p; step = k } ∷ h) q others
      ∙ own-others (record { caller = p; step = k }) h q (λ same. others (sym same))

  -- the own events of the part that stands on top of an earlier history
  pub own-on_top : (m h : List (Event K)) (p : ℕ) (ks : List K) → own (m ++ h) p ≡ after p ks (own h p)
      → own m p ≡ after p ks []
  own-on_top m h p ks made =
      append_cancel_right (own m p) (after p ks []) (own h p)
      (sym (own-append m h p) ∙ made ∙ after-append p ks [] (own h p))

  pub Extends-same : (h : List (Event K)) → Extends h h
  Extends-same h = ([], refl)

  pub Extends-both : (last later earlier : List (Event K)) → Extends last later → Extends later earlier
      → Extends last earlier
  Extends-both last later earlier more less =
      (more.0 ++ less.0, more.1 ∙ ap (λ es. more.0 ++ es) less.1 ∙ sym (append_assoc more.0 less.0 earlier))

  pub Extends-after : (p : ℕ) (ks : List K) (h : List (Event K)) → Extends (after p ks h) h
  Extends-after p ks h = (after p ks [], after-append p ks [] h)

  pub Extends-own : (later earlier : List (Event K)) (p : ℕ) → Extends later earlier
      → Extends (own later p) (own earlier p)
  Extends-own later earlier p more =
      (own more.0 p, ap (λ es. own es p) more.1 ∙ own-append more.0 earlier p)
