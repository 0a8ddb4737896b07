-- For other crates too: the first events of a written phase begin one.
use Rattle.std.proofs.Common.{◌≡◌, ℕ, ◌≤◌, List, [], ◌∷◌, ◌++◌, refl, sym, ap, subst, ◌∙◌, append_assoc, arith}
use Rattle.vms_world.specs.Common.{Header, ZoneSize, Event, begun_in, own, State, Act, Item, MakesActs, PageSteps}
use Rattle.vms_world.specs.Common.{acts_of, facts_of, owner_in, pages, act as one_act}
use Rattle.vms_world.specs.Lanes.MakesActs.{none as no_act}
use Rattle.vms_core.specs.Pages.{History}
use Rattle.vms_core.specs.Steps.{role}
use Rattle.vms_history.proofs.Common.{after-append, begun_in-append, own-append, own-on_top, owner_in-append}
use Rattle.vms_history.proofs.Common.{prefix_is_legal}
use Rattle.vms_written.specs.Common.{BeginsWrittenPhase, GoesAlong, IsWrittenPhase}
use Rattle.vms_written.specs.OpenPhases.GoesAlong.{between, within}
use Rattle.vms_written.proofs.SplitSteps.{Compares, compares, splits}
use Rattle.vms_written.proofs.SplitSteps.Compares.{longer, shorter}

no-end : {A : Type 0} (xs ys : List A) → xs ++ ys ≡ [] → ys ≡ []
no-end [] ys none = none
no-end (x ∷ xs) ys none = absurd cc

module _ {K : Type 0} (makes : Act → List (Event K) → List K → Type 0) (p : ℕ) where
  -- one act more is left
  goes-with_more : (acts : List Act) (next : Act) (h : List (Event K)) → GoesAlong makes p acts h
      → GoesAlong makes p (acts ++ next ∷ []) h
  goes-with_more acts next h (between made left is makes_made) =
      between made (left ++ next ∷ []) (ap (λ (xs : List Act). xs ++ next ∷ []) is ∙ append_assoc made left (next ∷ []))
      makes_made
  goes-with_more acts next h (within made left now before more begun due is parts makes_made making own_is) =
      within made (left ++ next ∷ []) now before more begun due
      (ap (λ (xs : List Act). xs ++ next ∷ []) is ∙ append_assoc made (now ∷ left) (next ∷ [])) parts makes_made making
      own_is

  -- who has made acts went along them at each earlier moment
  pub GoesAlong-made : (acts : List Act) (whole : List (Event K)) → MakesActs makes p acts whole
      → (m h : List (Event K)) → whole ≡ m ++ h → GoesAlong makes p acts h
  GoesAlong-made acts whole (no_act same nothing) m h parts =
      between [] [] refl (no_act h (no-end (own m p) (own h p)
      (sym (own-append m h p) ∙ ap (λ (es : List (Event K)). own es p) (sym parts) ∙ nothing)))
  GoesAlong-made acts whole (one_act before next h' more steps made making own_is) m h parts =
      by (λ (k : List (Event K)) (is : h' ≡ k ++ h). GoesAlong-made before h' made k h is)
      (compares m h more h' (sym parts))
    where
      by : ((k : List (Event K)) → h' ≡ k ++ h → GoesAlong makes p before h) → Compares m h more h'
          → GoesAlong makes p (before ++ next ∷ []) h
      by earlier (shorter k is) = goes-with_more before next h (earlier k is)
      by earlier (longer k is more_is) =
          let on_top = own-on_top more h' p steps own_is in
          let split = splits p steps (own m p) (own k p)
          (sym (own-append m k p) ∙ ap (λ (es : List (Event K)). own es p) (sym more_is) ∙ on_top) in
          within before [] next h' k split.begun split.due refl is made
          (subst (λ (ks : List K). makes next h' ks) split.parts making)
          (ap (λ (es : List (Event K)). own es p) is ∙ own-append k h' p
          ∙ ap (λ (es : List (Event K)). es ++ own h' p) split.made
          ∙ sym (after-append p split.begun [] (own h' p)))

module _ (header : Header) (pressure normal : ZoneSize → ℕ → ℕ → Type 0) (s : State) (items : List Item)
    (more h : History) (is : IsWrittenPhase header pressure normal s items (more ++ h)) where
  -- the passes that have begun
  later : (q : ℕ) → q ≤ begun_in role h → q ≤ begun_in role (more ++ h)
  later q most = let grows = begun_in-append role more h in omega (arith, grows, most)

  pub BeginsWrittenPhase-first : BeginsWrittenPhase header pressure normal s items h
  BeginsWrittenPhase-first = record {
    legal = prefix_is_legal pages (facts_of header s) more h is.complete.legal;
    lane = is.passes.lane;
    among = λ q least most. is.passes.among q least (later q most);
    owners = λ q least most.
        sym (owner_in-append pages (facts_of header s) more h q is.complete.legal most)
        ∙ ap (owner_in role (more ++ h)) (sym (is.passes.numbered q least (later q most)))
        ∙ is.passes.owners (is.passes.lane q) (is.passes.among q least (later q most));
    apart = λ q r q_least q_most r_least r_most same.
        sym (is.passes.numbered q q_least (later q q_most)) ∙ ap is.pass same
        ∙ is.passes.numbered r r_least (later r r_most);
    lines = λ q least most.
        GoesAlong-made (PageSteps header s pressure normal (is.passes.lane q) q) q
        (acts_of (is.passes.lane q) items) (more ++ h)
        (subst (λ (n : ℕ). MakesActs (PageSteps header s pressure normal (is.passes.lane q) n) n
        (acts_of (is.passes.lane q) items) (more ++ h)) (is.passes.numbered q least (later q most))
        (is.lines (is.passes.lane q) (is.passes.among q least (later q most)))) more h refl;
  }
