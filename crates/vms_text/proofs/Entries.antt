-- For other crates too: a list's entry as a list of one.
use Rattle.std.proofs.Common.{ℕ, ◌≡◌, ◌<◌, List, [], ◌∷◌, ap, length, get_or}
use Rattle.std.proofs.lemmas.Option.{slice_get-get_or}
use Rattle.std.specs.Prelude.{option_to_list}
use Rattle.vms_text.specs.Common.{entry_if_any}

pub entry_if_any-within : {A : Type 0} (names : List A) (n : ℕ) (d : A) → n < length names
    → entry_if_any names n ≡ get_or names n d ∷ []
entry_if_any-within names n d within = ap option_to_list (slice_get-get_or names n d within)
