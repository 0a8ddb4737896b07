-- For other crates too: what is printed where texts wait, against the order of the lines.
use Rattle.std.proofs.Common.{◌≡◌, ℕ, Bool, true, false, List, [], ◌∷◌, ◌++◌, Option, Some, None, refl, sym, ap, ◌∙◌}
use Rattle.std.proofs.Common.{append_assoc, append-nil, flat_map}
use Rattle.std.proofs.lemmas.Grind.{flat_map-append}
use Rattle.vms_stream.specs.declared.statuses.Status.{Status}
use Rattle.vms_stream.specs.declared.statuses.Status.TheVariants.{Header, NotCertified}
use Rattle.vms_stream.specs.Common.{output, printed, printed_from, PhasedBehavior, OutcomeSupply, Way, halt_at}
use Rattle.vms_stream.specs.Common.{last_of_way, printed_at, printed_last, supply, way_after, with_outcomes, Gives}
use Rattle.vms_stream.specs.Common.{Lacks, On, Short, AllUsed, OutcomesLead, OutcomesLeadThrough, OutcomesLeadToEnd}
use Rattle.vms_stream.specs.Common.{UsedAtEnd, leads_on, none_after, LineTexts, Text, Waiting, ends_at, printed_now}
use Rattle.vms_stream.specs.Common.{printed_with, spelled, unless_stopped, waiting, waits_after, waits_with, Plain}
use Rattle.vms_stream.specs.Common.{Asks, input_in_order, last_in_order, lines_in_order, text_then, texts_in_order}
use Rattle.vms_stream.proofs.MoreOutcomes.{printed_to, printed_to-printed, printed_to-short, printed_to-words}

module _ {O : Type 0} where
  -- texts that wait stand before what comes later, and print nothing where no outcome is left
  abbrev pub after_waits : List (Text O) → List O → List ℕ → List ℕ
  after_waits [] left later = later
  after_waits (first ∷ waits) [] later = []
  after_waits (first ∷ waits) (outcome ∷ left) later = flat_map (spelled outcome) (first ∷ waits) ++ later

  after_waits-none : (waits : List (Text O)) → after_waits waits [] [] ≡ []
  after_waits-none [] = refl
  after_waits-none (first ∷ waits) = refl

  pub after_waits-some : (waits : List (Text O)) (outcome : O) (left : List O) (later : List ℕ)
      → after_waits waits (outcome ∷ left) later ≡ flat_map (spelled outcome) waits ++ later
  after_waits-some [] outcome left later = refl
  after_waits-some (first ∷ waits) outcome left later = refl

  pub text_then-spelled : (text : Text O) (outcome : O) (others : List O) (given : Option O) (left : List O)
      (later : Option O → List O → List ℕ)
      → text_then text (outcome ∷ others) (Gives given left) None later ≡ spelled outcome text ++ later given left
  text_then-spelled (Plain bytes) outcome others given left later = refl
  text_then-spelled (Asks text) outcome others given left later = refl

  -- what a line prints, and what comes after it, by what it gets
  abbrev pub line_then : Option Status → List (Text O) → Text O → (Option O → List O → List ℕ) → List ℕ →
      OutcomeSupply O → List ℕ
  line_then halt waits text later short (Gives given left) =
      printed_from halt (printed_with waits text given) (later given left)
  line_then halt waits text later short Lacks = printed_from None [] short

  -- the text at the end of the input
  abbrev pub last_with : List (Text O) → Text O → OutcomeSupply O → List ℕ
  last_with waits text (Gives given left) = printed_with waits text given
  last_with waits text Lacks = []

  -- a line that stops the command
  stopped-in_order : (halt : Status) (waits : List (Text O)) (text : Text O) (later order : Option O → List O → List ℕ)
      → printed_from (Some halt) (printed_now waits text) (later None [])
      ≡ after_waits waits [] (text_then text [] (Gives None []) (Some halt) order)
  stopped-in_order Header [] (Plain bytes) later order = refl
  stopped-in_order Header [] (Asks text) later order = refl
  stopped-in_order Header (first ∷ waits) text later order = refl
  stopped-in_order NotCertified [] (Plain bytes) later order = refl
  stopped-in_order NotCertified [] (Asks text) later order = refl
  stopped-in_order NotCertified (first ∷ waits) text later order = refl
  stopped-in_order _ [] (Plain bytes) later order = refl
  stopped-in_order _ [] (Asks text) later order = refl
  stopped-in_order _ (first ∷ waits) text later order = refl

  -- a line at which no phase ends
  pub inside-in_order : (waits : List (Text O)) (text : Text O) (left : List O)
      (later order : Option O → List O → List ℕ)
      → later None left ≡ after_waits (waits_with waits text) left (order None left)
      → printed_now waits text ++ later None left
      ≡ after_waits waits left (text_then text left (Gives None left) None order)
  inside-in_order [] (Plain bytes) left later order is = ap (λ (rest : List ℕ). bytes ++ rest) is
  inside-in_order [] (Asks text) [] later order is = is
  inside-in_order [] (Asks text) (outcome ∷ left) later order is =
      is ∙ ap (λ (front : List ℕ). front ++ order None (outcome ∷ left)) (append-nil (text outcome))
  inside-in_order (first ∷ waits) text [] later order is = is
  inside-in_order (first ∷ waits) text (outcome ∷ left) later order is =
      let all = order None (outcome ∷ left) in
      let front = flat_map (spelled outcome) (first ∷ waits) in
      is ∙ ap (λ (bytes : List ℕ). bytes ++ all)
      (flat_map-append (spelled outcome) (first ∷ waits) (text ∷ [])
      ∙ ap (λ (bytes : List ℕ). front ++ bytes) (append-nil (spelled outcome text)))
      ∙ append_assoc front (spelled outcome text) all
      ∙ ap (λ (bytes : List ℕ). front ++ bytes)
      (sym (text_then-spelled text outcome left None (outcome ∷ left) order))

  -- any line
  line-in_order : (halt : Option Status) (ends : Bool) (waits : List (Text O)) (text : Text O) (left : List O)
      (later order : Option O → List O → List ℕ) (short : List ℕ) (allows : O → Type 0)
      (leads : Option O → List O → Type 0) → short ≡ []
      → ((given : Option O) (rest : List O) → leads given rest
      → later given rest ≡ after_waits (waits_after waits text given) rest (order given rest))
      → leads_on (unless_stopped halt ends) left allows (λ given rest. none_after halt rest (leads given rest))
      → line_then halt waits text later short (supply (unless_stopped halt ends) left)
      ≡ after_waits waits left (text_then text left (supply (unless_stopped halt ends) left) halt order)
  line-in_order (Some halt) ends waits text [] later order short allows leads none same led =
      stopped-in_order halt waits text later order
  line-in_order (Some halt) ends waits text (outcome ∷ left) later order short allows leads none same led = absurd cc
  line-in_order None false waits text left later order short allows leads none same led =
      inside-in_order waits text left later order (same None left led)
  line-in_order None true waits text [] later order short allows leads none same led =
      none ∙ sym (after_waits-none waits)
  line-in_order None true waits text (outcome ∷ left) later order short allows leads none same led =
      let front = flat_map (spelled outcome) waits in
      append_assoc front (spelled outcome text) (later (Some outcome) left)
      ∙ ap (λ (bytes : List ℕ). front ++ bytes)
      (ap (λ (bytes : List ℕ). spelled outcome text ++ bytes) (same (Some outcome) left led.1)
      ∙ sym (text_then-spelled text outcome left (Some outcome) left order))
      ∙ sym (after_waits-some waits outcome left
      (text_then text (outcome ∷ left) (Gives (Some outcome) left) None order))

module _ {S O : Type 0} (texts : LineTexts S O) where
  abbrev phased : PhasedBehavior (Waiting S O) O
  phased = waiting texts

  -- what is printed at a line, and after it
  pub by_supply : (outcomes : List O) (after : Way (Waiting S O) O → List ℕ) (now : Waiting S O) (line : List ℕ)
      (lines : List (List ℕ)) (got : OutcomeSupply O)
      → printed_from (halt_at phased now line got) (printed_at phased now line got)
      (printed_to (with_outcomes phased outcomes) after (way_after phased now line got) lines)
      ≡ line_then (texts.halts now.state line) now.waits (texts.text now.state line)
      (λ given left. printed_to (with_outcomes phased outcomes) after (On (phased.next now line given) left) lines)
      (printed_to (with_outcomes phased outcomes) after Short lines) got
  by_supply outcomes after now line lines (Gives given left) = refl
  by_supply outcomes after now line lines Lacks = refl

  pub printed_to-in_order : (outcomes : List O) (asked : Waiting S O → List O → Type 0)
      (after : Way (Waiting S O) O → List ℕ) (order : S → List O → List ℕ) → after Short ≡ []
      → ((now : Waiting S O) (left : List O) → asked now left
      → after (On now left) ≡ after_waits now.waits left (order now.state left))
      → (now : Waiting S O) (left : List O) (lines : List (List ℕ)) → OutcomesLeadThrough phased asked now left lines
      → printed_to (with_outcomes phased outcomes) after (On now left) lines
      ≡ after_waits now.waits left (texts_in_order texts order now.state left lines)
  printed_to-in_order outcomes asked after order none same now left [] led = same now left led
  printed_to-in_order outcomes asked after order none same now left (line ∷ lines) led =
      by_supply outcomes after now line lines (supply (ends_at texts now.state line) left)
      ∙ line-in_order (texts.halts now.state line) (texts.ends_phase now.state line) now.waits
      (texts.text now.state line) left
      (λ given rest. printed_to (with_outcomes phased outcomes) after (On (phased.next now line given) rest) lines)
      (λ given rest. texts_in_order texts order (texts.next now.state line given) rest lines)
      (printed_to (with_outcomes phased outcomes) after Short lines) (texts.Allows now.state line)
      (λ given rest. OutcomesLeadThrough phased asked (phased.next now line given) rest lines)
      (printed_to-short phased outcomes after lines none)
      (λ given rest led. printed_to-in_order outcomes asked after order none same (phased.next now line given) rest
      lines led) led

  used : (now : Waiting S O) (left : List O) → left ≡ [] → [] ≡ after_waits now.waits left []
  used now [] none = sym (after_waits-none now.waits)
  used now (outcome ∷ left) none = absurd cc

  pub last_of : (now : Waiting S O) (got : OutcomeSupply O)
      → printed_last phased now got ≡ last_with now.waits (texts.last now.state) got
  last_of now (Gives given left) = refl
  last_of now Lacks = refl

  last-in_order : (ends : Bool) (waits : List (Text O)) (text : Text O) (left : List O) (allows : O → Type 0)
      → leads_on ends left allows (λ given rest. rest ≡ [])
      → last_with waits text (supply ends left)
      ≡ after_waits waits left (text_then text left (supply ends left) None (λ given rest. []))
  last-in_order false [] (Plain bytes) [] allows led = sym (append-nil bytes)
  last-in_order false [] (Asks text) [] allows led = refl
  last-in_order false (first ∷ waits) text [] allows led = refl
  last-in_order false waits text (outcome ∷ left) allows led = absurd cc
  last-in_order true waits text [] allows led = sym (after_waits-none waits)
  last-in_order true waits text (outcome ∷ left) allows led =
      let front = flat_map (spelled outcome) waits in
      ap (λ (bytes : List ℕ). front ++ bytes) (sym (append-nil (spelled outcome text))
      ∙ sym (text_then-spelled text outcome left (Some outcome) left (λ given rest. [])))
      ∙ sym (after_waits-some waits outcome left
      (text_then text (outcome ∷ left) (Gives (Some outcome) left) None (λ given rest. [])))

  last_used : (now : Waiting S O) (left : List O) → UsedAtEnd phased now left
      → last_of_way phased (On now left) ≡ after_waits now.waits left (last_in_order texts now.state left)
  last_used now left led =
      last_of now (supply (texts.ends_last now.state) left)
      ∙ last-in_order (texts.ends_last now.state) now.waits (texts.last now.state) left (texts.AllowsLast now.state) led

  pub printed-in_order : (outcomes : List O) (lines : List (List ℕ)) → OutcomesLead phased phased.start outcomes lines
      → printed (with_outcomes phased outcomes) (On phased.start outcomes) lines ≡ lines_in_order texts outcomes lines
  printed-in_order outcomes lines led =
      printed_to-printed (with_outcomes phased outcomes) (On phased.start outcomes) lines
      ∙ printed_to-in_order outcomes AllUsed (λ way. []) (λ s left. []) refl used phased.start outcomes lines led

  pub output-in_order : (outcomes : List O) (lines : List (List ℕ)) →
      OutcomesLeadToEnd phased phased.start outcomes lines
      → output (with_outcomes phased outcomes) lines ≡ input_in_order texts outcomes lines
  output-in_order outcomes lines led =
      printed_to-words (with_outcomes phased outcomes) (On phased.start outcomes) lines
      ∙ printed_to-in_order outcomes (UsedAtEnd phased) (last_of_way phased) (last_in_order texts) refl last_used
      phased.start outcomes lines led
