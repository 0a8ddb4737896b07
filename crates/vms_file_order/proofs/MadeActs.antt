-- Each act of a lane that has made its lines was made at some moment, and so was each of its steps.
use Rattle.std.proofs.Common.{◌≡◌, ◌≢◌, ℕ, suc, ◌<◌, nat_eq, Bool, true, false, List, [], ◌∷◌, ◌++◌, length, inl, inr}
use Rattle.std.proofs.Common.{◌⊎◌, refl, sym, ap, subst, ◌∙◌, arith, if◌then◌else◌, append_assoc, length-append}
use Rattle.std.specs.List.{Contains}
use Rattle.std.proofs.lemmas.Bool.{cases_eq}
use Rattle.std.proofs.lemmas.List.{get_or_append_left, get_or_push}
use Rattle.vms_world.specs.Common.{Event, after, own, Act, Item, Lane, MakesActs, MakesLines, acts_of, is_among}
use Rattle.vms_world.specs.Common.{act as one_act}
use Rattle.vms_history.proofs.Common.{after-append, after-steps}
use Rattle.vms_world.specs.Lanes.MakesActs.{none as no_act}
use Rattle.vms_file_order.specs.Common.{pass_of}
use Rattle.vms_file_order.proofs.LaneLists.{HasPlace-among}

-- the pass of a lane with lines has made the acts of its lines
pub MakesActs-lane : {K : Type 0} (makes : Lane → ℕ → Act → List (Event K) → List K → Type 0) (lanes : List Lane)
    (items : List Item) (h : List (Event K)) (lane : Lane) → MakesLines makes lanes items h
    → is_among lane lanes ≡ true
    → MakesActs (makes lane (pass_of lanes lane)) (pass_of lanes lane) (acts_of lane items) h
MakesActs-lane makes lanes items h lane lines among =
    let at = HasPlace-among lanes lane among in
    subst (λ (q : ℕ). MakesActs (makes lane q) q (acts_of lane items) h) (sym at.number)
    (subst (λ (l : Lane). MakesActs (makes l (suc at.place)) (suc at.place) (acts_of l items) h) at.there
    (lines at.place at.below))

-- an event stands in a history
pub record StandsIn {K : Type 0} (e : Event K) (h : List (Event K)) : Type 0 where
  pub since : List (Event K)
  pub before : List (Event K)
  pub parts : h ≡ since ++ (e ∷ before)

StandsIn-later : {K : Type 0} (e : Event K) (h m : List (Event K)) → StandsIn e h → StandsIn e (m ++ h)
StandsIn-later e h m stands = record {
  since = m ++ stands.since;
  before = stands.before;
  parts = ap (λ es. m ++ es) stands.parts ∙ sym (append_assoc m stands.since (e ∷ stands.before));
}

-- what is among a caller's own events stands in the history
StandsIn-own : {K : Type 0} (h : List (Event K)) (p : ℕ) (e : Event K) → StandsIn e (own h p) → StandsIn e h
StandsIn-own [] p e stands = absurd (no_event stands.since stands.parts)
  where
    no_event : (since : List (Event _)) → [] ≡ since ++ (e ∷ stands.before) → ⊥
    no_event [] is = cc
    no_event (d ∷ since) is = cc
StandsIn-own (d ∷ h) p e stands = by (nat_eq d.caller p) stands (StandsIn-own h p e)
  where
    newest : (since before : List (Event _)) → d ∷ own h p ≡ since ++ (e ∷ before)
        → (StandsIn e (own h p) → StandsIn e h) → StandsIn e (d ∷ h)
    newest [] before is rest = let same : d ≡ e = cc in
        record { since = []; before = h; parts = ap (λ x. x ∷ h) same }
    newest (x ∷ since) before is rest =
        let later : own h p ≡ since ++ (e ∷ before) = cc in
        StandsIn-later e h (d ∷ []) (rest (record { since = since; before = before; parts = later }))

    by : (b : Bool) → StandsIn e (if b then d ∷ own h p else own h p) → (StandsIn e (own h p) → StandsIn e h)
        → StandsIn e (d ∷ h)
    by true is rest = newest is.since is.before is.parts rest
    by false is rest = StandsIn-later e h (d ∷ []) (rest is)

module _ {K : Type 0} (makes : Act → List (Event K) → List K → Type 0) (p : ℕ) where
  -- caller p made this act, and others did what they did before and since
  pub record MadeAct (a : Act) (h : List (Event K)) : Type 0 where
    pub since : List (Event K)
    pub more : List (Event K)
    pub before : List (Event K)
    pub steps : List K
    pub parts : h ≡ since ++ (more ++ before)
    pub making : makes a before steps
    pub made : own (more ++ before) p ≡ after p steps (own before p)

  pub each-made : (acts : List Act) (h : List (Event K)) → MakesActs makes p acts h → (a : Act) → Contains acts a
      → MadeAct a h
  each-made acts h (no_act h' nothing) a (k, within, is) = absurd (omega arith)
  each-made acts h (one_act earlier next h' more steps made making own_is) a (k, within, is) =
      by (cases_eq k (length earlier)) (λ inside. each-made earlier h' made a (
        k,
        inside,
        sym (get_or_append_left earlier (next ∷ []) a k inside) ∙ is,
      ))
    where
      by : (k ≡ length earlier) ⊎ (k ≢ length earlier) → (k < length earlier → MadeAct a h') → MadeAct a (more ++ h')
      by (inl end) rest =
          let same : next ≡ a = sym (get_or_push earlier next a k (sym end)) ∙ is in
          record {
            since = [];
            more = more;
            before = h';
            steps = steps;
            parts = refl;
            making = subst (λ (b : Act). makes b h' steps) same making;
            made = own_is;
          }
      by (inr other) rest =
          let there = rest (omega (arith, within, length-append earlier (next ∷ []))) in
          record {
            since = more ++ there.since;
            more = there.more;
            before = there.before;
            steps = there.steps;
            parts = ap (λ es. more ++ es) there.parts
                ∙ sym (append_assoc more there.since (there.more ++ there.before));
            making = there.making;
            made = there.made;
          }

  -- so each of its steps stands in the history
  pub step-made : (a : Act) (h : List (Event K)) (act : MadeAct a h) (first : List K) (step : K) (last : List K)
      → act.steps ≡ first ++ (step ∷ last) → StandsIn (record { caller = p; step = step }) h
  step-made a h act first step last steps_are =
      let e : Event K = record { caller = p; step = step } in
      let own_parts : own (act.more ++ act.before) p ≡ after p last [] ++ (e ∷ after p first (own act.before p)) =
      act.made ∙ ap (λ ks. after p ks (own act.before p)) steps_are
      ∙ after-steps p first (step ∷ last) (own act.before p)
      ∙ after-append p last [] (e ∷ after p first (own act.before p)) in
      subst (StandsIn e) (sym act.parts)
      (StandsIn-later e (act.more ++ act.before) act.since
      (StandsIn-own (act.more ++ act.before) p e (record {
        since = after p last [];
        before = after p first (own act.before p);
        parts = own_parts;
      })))
