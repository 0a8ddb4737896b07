-- What the acts of one lane told in one table is what is read of the steps of the lane's pass there.
use Rattle.std.proofs.Common.{◌≡◌, ℕ, List, [], ◌∷◌, ◌++◌, map, reverse, Option, refl, sym, ap, subst, ◌∙◌}
use Rattle.std.proofs.Common.{append_assoc, append-nil}
use Rattle.std.proofs.lemmas.List.{map-append, reverse-append}
use Rattle.vms_answers.specs.declared.answers.Answer.{Answer}
use Rattle.vms_history.proofs.Common.{Extends-both, Extends-same}
use Rattle.vms_truth.specs.Common.{Moments}
use Rattle.vms_world.specs.Common.{Act, Event, Extends, MakesActs, after, own, act as one_act}
use Rattle.vms_world.specs.Lanes.MakesActs.{none as no_act}

module _ {K : Type 0} where
  -- the steps of events, the oldest first
  abbrev pub steps_in : List (Event K) → List K
  steps_in mine = map (λ e. e.step) (reverse mine)

  steps_in-after : (p : ℕ) (ks : List K) (mine : List (Event K)) → steps_in (after p ks mine) ≡ steps_in mine ++ ks
  steps_in-after p [] mine = sym (append-nil (steps_in mine))
  steps_in-after p (k ∷ ks) mine =
      let e : Event K = record { caller = p; step = k } in
      steps_in-after p ks (e ∷ mine)
      ∙ ap (λ (es : List (Event K)). map (λ x. x.step) es ++ ks) (reverse-append (e ∷ []) mine)
      ∙ ap (λ (front : List K). front ++ ks) (map-append (λ (x : Event K). x.step) (reverse mine) (e ∷ []))
      ∙ append_assoc (steps_in mine) (k ∷ []) ks

-- `read_of` reads the answer of an act off steps, and `IsTrue` says what is true of an act that was read so, where the
-- lane's pass had made other acts before it, and at its two moments
module _ {K : Type 0} (read_of : Act → List K → Option Answer × List K)
    (IsTrue : List Act → Act → Moments K → Option Answer → Type 0) where
  -- an act after others, which was read so: it is true, and began when these were made or later
  pub record NextIsTrue (done : List Act) (a : Act) (from : List (Event K)) (read : Option Answer) : Type 0 where
    pub when : Moments K
    pub begins : Extends when.earlier from
    pub since : Extends when.later when.earlier
    pub truly : IsTrue done a when read

  -- each of these acts is true, read one after another, and they were made one after another: after the acts that are
  -- done, from one history on up to another
  abbrev pub AreTrue : (upto from : List (Event K)) → (done acts : List Act) → List K → Type 0
  AreTrue upto from done [] ks = Extends upto from
  AreTrue upto from done (a ∷ acts) ks = (next : NextIsTrue done a from (read_of a ks).0)
      × AreTrue upto next.when.later (done ++ a ∷ []) acts (read_of a ks).1

  abbrev left_after : List Act → List K → List K
  left_after [] ks = ks
  left_after (a ∷ acts) ks = left_after acts (read_of a ks).1

  left-last : (acts : List Act) (a : Act) (ks : List K)
      → left_after (acts ++ a ∷ []) ks ≡ (read_of a (left_after acts ks)).1
  left-last [] a ks = refl
  left-last (first ∷ acts) a ks = left-last acts a (read_of first ks).1

  true-last : (later upto from : List (Event K)) (done acts : List Act) (a : Act) (ks : List K) → Extends later upto
      → AreTrue upto from done acts ks
      → IsTrue (done ++ acts) a (record { earlier = upto; later = later }) (read_of a (left_after acts ks)).0
      → AreTrue later from done (acts ++ a ∷ []) ks
  true-last later upto from done [] a ks since before last = (
    record {
      when = record { earlier = upto; later = later };
      begins = before;
      since = since;
      truly = subst (λ (acts : List Act). IsTrue acts a (record { earlier = upto; later = later }) (read_of a ks).0)
          (append-nil done) last;
    },
    Extends-same later,
  )
  true-last later upto from done (first ∷ acts) a ks since before last = (
    before.0,
    true-last later upto before.0.when.later (done ++ first ∷ []) acts a (read_of first ks).1 since before.1
        (subst (λ (made : List Act). IsTrue made a (record { earlier = upto; later = later })
        (read_of a (left_after acts (read_of first ks).1)).0) (sym (append_assoc done (first ∷ []) acts)) last),
  )

  -- steps of an act are read off whole, and what they tell is true
  pub record ActTold (done : List Act) (a : Act) (when : Moments K) (steps : List K) : Type 0 where
    pub answer : Option Answer
    pub reads : (rest : List K) → read_of a (steps ++ rest) ≡ (answer, rest)
    pub truly : IsTrue done a when answer

  -- `Holds` is a fact of what the caller made so far, which every act keeps
  module _ (makes : Act → List (Event K) → List K → Type 0) (p : ℕ) (whole : List (Event K))
      (Holds : List (Event K) → Type 0) (begins : Holds [])
      (stays : (a : Act) (h : List (Event K)) (steps : List K) → makes a h steps → (mine : List (Event K))
      → Holds mine → Holds (after p steps mine))
      (one-told : (done : List Act) (a : Act) (later earlier : List (Event K)) (steps : List K)
      → Extends whole later → Extends later earlier → MakesActs makes p done earlier → makes a earlier steps
      → own later p ≡ after p steps (own earlier p) → Holds (own earlier p)
      → ActTold done a (record { earlier = earlier; later = later }) steps) where
    -- what the caller has made of the lane's acts
    pub record TellsActs (acts : List Act) (h mine : List (Event K)) : Type 0 where
      pub holds : Holds mine
      pub left : (ks rest : List K) → ks ≡ steps_in mine ++ rest → left_after acts ks ≡ rest
      pub truly : (ks rest : List K) → ks ≡ steps_in mine ++ rest → AreTrue h [] [] acts ks

    pub acts-told : (acts : List Act) (h : List (Event K)) → Extends whole h → MakesActs makes p acts h
        → TellsActs acts h (own h p)
    acts-told acts h within (no_act h' nothing) = subst (TellsActs [] h') (sym nothing) (record {
      holds = begins;
      left = λ ks rest is. is;
      truly = λ ks rest is. (h', sym (append-nil h'));
    })
    acts-told acts h within (one_act before next h' more steps made making own_is) =
        let earlier : Extends (more ++ h') h' = (more, refl) in
        let was = acts-told before h' (Extends-both whole (more ++ h') h' within earlier) made in
        let tells = one-told before next (more ++ h') h' steps within earlier made making own_is was.holds in
        subst (TellsActs (before ++ next ∷ []) (more ++ h')) (sym own_is) (record {
          holds = stays next h' steps making (own h' p) was.holds;
          left = λ ks rest is.
              left-last before next ks
              ∙ ap (λ (js : List K). (read_of next js).1) (was.left ks (steps ++ rest) (in_parts h' steps ks rest is))
              ∙ ap (λ x. x.1) (tells.reads rest);
          truly = λ ks rest is.
              true-last (more ++ h') h' [] [] before next ks earlier
              (was.truly ks (steps ++ rest) (in_parts h' steps ks rest is))
              (subst (IsTrue before next (record { earlier = h'; later = more ++ h' }))
              (sym (ap (λ (js : List K). (read_of next js).0)
              (was.left ks (steps ++ rest) (in_parts h' steps ks rest is)) ∙ ap (λ x. x.0) (tells.reads rest)))
              tells.truly);
        })
      where
        in_parts : (h' : List (Event K)) (steps ks rest : List K) → ks ≡ steps_in (after p steps (own h' p)) ++ rest
            → ks ≡ steps_in (own h' p) ++ (steps ++ rest)
        in_parts h' steps ks rest is = is ∙ ap (λ (js : List K). js ++ rest) (steps_in-after p steps (own h' p))
            ∙ append_assoc (steps_in (own h' p)) steps rest
