-- Lines that were appended piece by piece.
use Rattle.std.proofs.Common.{◌≡◌, ℕ, List, [], ◌∷◌, ◌++◌, refl, sym, ap, ◌∙◌, codes, append_assoc, append-nil}
use Rattle.std.proofs.Common.{flat_map}
use Rattle.std.specs.Prelude.{Option, Some, decimal, option_to_list, slice_get}
use Rattle.std.proofs.lemmas.Grind.{flat_map-append}
use Rattle.vms_world.specs.Common.{ZoneName, kind_names, zone_index, sentence, spaced}
use Rattle.vms_text.proofs.Common.{sentence-cons}
use Rattle.vms_report.specs.Common.{indented, zone_heading}

-- a line of which the first word and the words after it, in three pieces, were appended in turn
pub line-of_pieces : (first : List ℕ) (some more last : List (List ℕ)) (before one two after : List ℕ)
    → one ≡ (before ++ first) ++ spaced some → two ≡ one ++ spaced more → after ≡ (two ++ spaced last) ++ (10 ∷ [])
    → after ≡ before ++ sentence (first ∷ (some ++ (more ++ last)))
line-of_pieces first some more last before one two after at_first then_more then_last =
    let words : spaced (some ++ (more ++ last)) ≡ spaced some ++ (spaced more ++ spaced last) =
    flat_map-append (λ (word : List ℕ). 32 ∷ word) some (more ++ last)
    ∙ ap (λ (rest : List ℕ). spaced some ++ rest) (flat_map-append (λ (word : List ℕ). 32 ∷ word) more last) in
    let whole : sentence (first ∷ (some ++ (more ++ last)))
    ≡ (first ++ (spaced some ++ (spaced more ++ spaced last))) ++ (10 ∷ []) =
    sentence-cons first (some ++ (more ++ last)) ∙ ap (λ (text : List ℕ). (first ++ text) ++ (10 ∷ [])) words in
    let parts : after ≡ ((((before ++ first) ++ spaced some) ++ spaced more) ++ spaced last) ++ (10 ∷ []) =
    then_last ∙ ap (λ (front : List ℕ). (front ++ spaced last) ++ (10 ∷ [])) (then_more
    ∙ ap (λ (front : List ℕ). front ++ spaced more) at_first) in
    let same : ((((before ++ first) ++ spaced some) ++ spaced more) ++ spaced last) ++ (10 ∷ [])
    ≡ before ++ ((first ++ (spaced some ++ (spaced more ++ spaced last))) ++ (10 ∷ [])) = simp append_assoc refl in
    parts ∙ same ∙ ap (λ (text : List ℕ). before ++ text) (sym whole)

regroup_six : (o i c n d t f e : List ℕ)
    → (((((o ++ (i ++ c)) ++ n) ++ d) ++ t) ++ f) ++ e ≡ o ++ (i ++ ((c ++ (n ++ (d ++ (t ++ f)))) ++ e))
regroup_six o i c n d t f e = simp append_assoc refl

-- the line of a CPU, of which the pieces were appended in turn
pub cpu-of_pieces : (number : List ℕ) (dead : List (List ℕ)) (threshold : List ℕ) (diffs : List (List ℕ))
    → (before one two after : List ℕ)
    → one ≡ ((((before ++ codes "  cpu ") ++ number) ++ spaced dead) ++ codes " threshold ") ++ threshold
    ++ codes " differentials"
    → two ≡ one ++ spaced diffs → after ≡ two ++ (10 ∷ [])
    → after ≡ before ++ indented
    (codes "cpu" ∷ number ∷ (dead ++ (codes "threshold" ∷ threshold ∷ codes "differentials" ∷ diffs)))
cpu-of_pieces number dead threshold diffs before one two after at_first then_more then_last =
    let told : List (List ℕ) = codes "threshold" ∷ threshold ∷ codes "differentials" ∷ [] in
    let words : spaced (number ∷ (dead ++ (told ++ diffs)))
    ≡ (32 ∷ number) ++ (spaced dead ++ (spaced told ++ spaced diffs)) =
    ap (λ (rest : List ℕ). (32 ∷ number) ++ rest)
    (flat_map-append (λ (word : List ℕ). 32 ∷ word) dead (told ++ diffs)
    ∙ ap (λ (rest : List ℕ). spaced dead ++ rest) (flat_map-append (λ (word : List ℕ). 32 ∷ word) told diffs)) in
    let whole : sentence (codes "cpu" ∷ number ∷ (dead ++ (told ++ diffs)))
    ≡ (codes "cpu" ++ ((32 ∷ number) ++ (spaced dead ++ (spaced told ++ spaced diffs)))) ++ (10 ∷ []) =
    sentence-cons (codes "cpu") (number ∷ (dead ++ (told ++ diffs)))
    ∙ ap (λ (text : List ℕ). (codes "cpu" ++ text) ++ (10 ∷ [])) words in
    let name : (before ++ codes "  cpu ") ++ number ≡ (before ++ (codes "  " ++ codes "cpu")) ++ (32 ∷ number) =
    append_assoc before (codes "  cpu ") number
    ∙ sym (append_assoc before (codes "  " ++ codes "cpu") (32 ∷ number)) in
    let first : one ≡ (((before ++ (codes "  " ++ codes "cpu")) ++ (32 ∷ number)) ++ spaced dead) ++ spaced told =
    at_first
    ∙ append_assoc ((((before ++ codes "  cpu ") ++ number) ++ spaced dead) ++ codes " threshold ") threshold
    (codes " differentials")
    ∙ append_assoc (((before ++ codes "  cpu ") ++ number) ++ spaced dead) (codes " threshold ")
    (threshold ++ codes " differentials")
    ∙ ap (λ (front : List ℕ). (front ++ spaced dead) ++ spaced told) name in
    let parts : after
    ≡ (((((before ++ (codes "  " ++ codes "cpu")) ++ (32 ∷ number)) ++ spaced dead) ++ spaced told) ++ spaced diffs)
    ++ (10 ∷ []) =
    then_last ∙ ap (λ (front : List ℕ). front ++ (10 ∷ [])) (then_more
    ∙ ap (λ (front : List ℕ). front ++ spaced diffs) first) in
    parts
    ∙ regroup_six before (codes "  ") (codes "cpu") (32 ∷ number) (spaced dead) (spaced told) (spaced diffs) (10 ∷ [])
    ∙ ap (λ (text : List ℕ). before ++ (codes "  " ++ text)) (sym whole)

regroup_four : (o a m d p : List ℕ) → (((o ++ a) ++ m) ++ d) ++ p ≡ o ++ (a ++ (m ++ (d ++ (p ++ []))))
regroup_four o a m d p = simp (append_assoc, append-nil) refl

-- lines under a heading, appended in turn
pub lines-in_turn : (first : List (List ℕ)) (some : List (List (List ℕ))) (next last : List (List ℕ)) (before : List ℕ)
    → (((before ++ indented first) ++ flat_map indented some) ++ indented next) ++ indented last
    ≡ before ++ flat_map indented (first ∷ (some ++ (next ∷ last ∷ [])))
lines-in_turn first some next last before =
    regroup_four before (indented first) (flat_map indented some) (indented next) (indented last)
    ∙ ap (λ (more : List ℕ). before ++ (indented first ++ more))
    (sym (flat_map-append indented some (next ∷ last ∷ [])))

regroup_heading : (o a d b z n e : List ℕ)
    → (((((o ++ a) ++ d) ++ b) ++ z) ++ n) ++ e ≡ o ++ ((a ++ ((d ++ b) ++ (z ++ n))) ++ e)
regroup_heading o a d b z n e = simp append_assoc refl

-- the first line of a zone, of which the pieces were appended in turn
pub heading-of_pieces : (zone : ZoneName) (name before : List ℕ)
    → slice_get kind_names (zone_index zone.kind) ≡ Some name
    → (((((before ++ codes "Node ") ++ decimal zone.node) ++ codes ",") ++ codes " zone ") ++ name) ++ (10 ∷ [])
    ≡ before ++ sentence (zone_heading zone)
heading-of_pieces zone name before is =
    regroup_heading before (codes "Node ") (decimal zone.node) (codes ",") (codes " zone ") name (10 ∷ [])
    ∙ ap (λ (found : Option (List ℕ)). before ++ sentence (codes "Node" ∷ (decimal zone.node ++ codes ",")
    ∷ codes "zone" ∷ option_to_list found)) (sym is)

-- a heading, and lines under it in two pieces
pub text-in_turn : (heading : List ℕ) (some items cpus : List (List (List ℕ))) (before one two after : List ℕ)
    → one ≡ before ++ heading → two ≡ one ++ flat_map indented some
    → after ≡ two ++ flat_map indented (items ++ cpus)
    → after ≡ before ++ (heading ++ flat_map indented ((some ++ items) ++ cpus))
text-in_turn heading some items cpus before one two after at_first then_more then_last =
    let lines : flat_map indented ((some ++ items) ++ cpus)
    ≡ flat_map indented some ++ flat_map indented (items ++ cpus) =
    ap (flat_map indented) (append_assoc some items cpus) ∙ flat_map-append indented some (items ++ cpus) in
    then_last ∙ ap (λ (front : List ℕ). front ++ flat_map indented (items ++ cpus)) (then_more
    ∙ ap (λ (front : List ℕ). front ++ flat_map indented some) at_first)
    ∙ regroup_lines before heading (flat_map indented some) (flat_map indented (items ++ cpus))
    ∙ ap (λ (more : List ℕ). before ++ (heading ++ more)) (sym lines)
  where
    regroup_lines : (o h a b : List ℕ) → ((o ++ h) ++ a) ++ b ≡ o ++ (h ++ (a ++ b))
    regroup_lines o h a b = simp append_assoc refl
