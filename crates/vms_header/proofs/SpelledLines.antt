-- The lines of a header as they are spelled, kind by kind.
use Rattle.std.proofs.Common.{ℕ, ◌≡◌, ◌+◌, ◌<◌, ◌≤◌, List, [], ◌∷◌, ◌++◌, sym, ◌∙◌, ap, arith, append_assoc, append-nil}
use Rattle.std.proofs.Common.{flat_map, length, get_or, map, take}
use Rattle.std.proofs.lemmas.Grind.{flat_map-append}
use Rattle.std.proofs.lemmas.List.{take_all}
use Rattle.std.proofs.lemmas.Slice.Zip.{get_or-zip, length-zip}
use Rattle.std.specs.Prelude.{codes, zip}
use Rattle.vms_base.specs.declared.headers.Header.{Header}
use Rattle.vms_base.specs.declared.kinds.ZoneName.{ZoneName}
use Rattle.vms_base.specs.declared.kinds.ZoneSize.{ZoneSize}
use Rattle.vms_header.specs.Common.{base_lines_from, counter_line_words, cpus_words, item_words, spelled_header}
use Rattle.vms_header.specs.Common.{version_words, zone_line_words}
use Rattle.vms_text.specs.Common.{sentence}
use Rattle.vms_text.proofs.Common.{lines-take_more}

-- the line of one zone more
pub zone_lines-take_more : (zones : List ZoneName) (sizes : List ZoneSize) (i : ℕ) (zone : ZoneName) (size : ZoneSize)
    → i < length zones → length sizes ≡ length zones
    → flat_map sentence (map zone_line_words (take i (zip zones sizes)))
    ++ sentence (zone_line_words (get_or zones i zone, get_or sizes i size))
    ≡ flat_map sentence (map zone_line_words (take (i + 1) (zip zones sizes)))
zone_lines-take_more zones sizes i zone size within same =
    let pair = get_or-zip zones sizes i (zone, size) within (omega arith) in
    ap (λ last. flat_map sentence (map zone_line_words (take i (zip zones sizes))) ++ sentence (zone_line_words last))
    (sym pair)
    ∙ sym (lines-take_more zone_line_words (zip zones sizes) i (zone, size) (omega (arith, length-zip zones sizes)))

-- and all of them
pub zone_lines-all : (zones : List ZoneName) (sizes : List ZoneSize) (i : ℕ) → length zones ≤ i
    → flat_map sentence (map zone_line_words (take i (zip zones sizes))) ≡ flat_map sentence (map zone_line_words
    (zip zones sizes))
zone_lines-all zones sizes i past =
    ap (λ pairs. flat_map sentence (map zone_line_words pairs))
    (take_all i (zip zones sizes) (omega (arith, length-zip zones sizes)))

-- seven pieces in a row
seven : (out a b c d e f : List ℕ) → out ++ a ++ b ++ c ++ d ++ e ++ f ≡ out ++ (a ++ b ++ c ++ d ++ e ++ f)
seven out a b c d e f =
    ap (λ front. front ++ c ++ d ++ e ++ f) (append_assoc out a b)
    ∙ ap (λ front. front ++ d ++ e ++ f) (append_assoc out (a ++ b) c)
    ∙ ap (λ front. front ++ e ++ f) (append_assoc out (a ++ b ++ c) d)
    ∙ ap (λ front. front ++ f) (append_assoc out (a ++ b ++ c ++ d) e)
    ∙ append_assoc out (a ++ b ++ c ++ d ++ e) f

-- the lines of six kinds are the lines of each
six_parts : (version cpus : List (List ℕ)) (items zones bases counters : List (List (List ℕ))) (last : List (List ℕ))
    → (sentence version ++ sentence cpus) ++ flat_map sentence items ++ flat_map sentence zones
    ++ flat_map sentence bases ++ flat_map sentence counters ++ sentence last
    ≡ flat_map sentence (version ∷ cpus ∷ items ++ zones ++ bases ++ counters ++ last ∷ [])
six_parts version cpus items zones bases counters last =
    let one = flat_map-append sentence (version ∷ cpus ∷ items) zones in
    let two = flat_map-append sentence (version ∷ cpus ∷ items ++ zones) bases in
    let three = flat_map-append sentence (version ∷ cpus ∷ items ++ zones ++ bases) counters in
    let four = flat_map-append sentence (version ∷ cpus ∷ items ++ zones ++ bases ++ counters) (last ∷ []) in
    let first = append_assoc (sentence version) (sentence cpus) (flat_map sentence items) in
    sym (four ∙ ap (λ end. flat_map sentence (version ∷ cpus ∷ items ++ zones ++ bases ++ counters) ++ end)
    (append-nil (sentence last))
    ∙ ap (λ front. front ++ sentence last) (three ∙ ap (λ front. front ++ flat_map sentence counters) (two
    ∙ ap (λ front. front ++ flat_map sentence bases) (one
    ∙ ap (λ front. front ++ flat_map sentence zones) (sym first)))))

-- a header is written kind by kind
pub spelled_header-parts : (header : Header) (out : List ℕ)
    → out ++ (sentence (version_words header) ++ sentence (cpus_words header))
    ++ flat_map sentence (map item_words header.items)
    ++ flat_map sentence (map zone_line_words (zip header.layout.zones header.sizes)) ++ flat_map sentence
    (base_lines_from header 0 header.bases)
    ++ flat_map sentence (map counter_line_words header.counters) ++ sentence (codes "go" ∷ [])
    ≡ out ++ spelled_header header
spelled_header-parts header out =
    seven out (sentence (version_words header) ++ sentence (cpus_words header))
    (flat_map sentence (map item_words header.items))
    (flat_map sentence (map zone_line_words (zip header.layout.zones header.sizes)))
    (flat_map sentence (base_lines_from header 0 header.bases))
    (flat_map sentence (map counter_line_words header.counters)) (sentence (codes "go" ∷ []))
    ∙ ap (λ more. out ++ more) (six_parts (version_words header) (cpus_words header) (map item_words header.items)
    (map zone_line_words (zip header.layout.zones header.sizes))
    (base_lines_from header 0 header.bases) (map counter_line_words header.counters) (codes "go" ∷ []))

-- six appends in a row
pub appended_six : (out one two three four five six a b c d e f : List ℕ) → one ≡ out ++ a → two ≡ one ++ b
    → three ≡ two ++ c → four ≡ three ++ d → five ≡ four ++ e → six ≡ five ++ f
    → six ≡ out ++ a ++ b ++ c ++ d ++ e ++ f
appended_six out one two three four five six a b c d e f is_one is_two is_three is_four is_five is_six =
    let second = is_two ∙ ap (λ front. front ++ b) is_one in
    let third = is_three ∙ ap (λ front. front ++ c) second in
    let fourth = is_four ∙ ap (λ front. front ++ d) third in
    let fifth = is_five ∙ ap (λ front. front ++ e) fourth in
    is_six ∙ ap (λ front. front ++ f) fifth
