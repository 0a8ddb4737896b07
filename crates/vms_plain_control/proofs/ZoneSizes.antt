-- Each zone of a header has a valid size.
use Rattle.std.proofs.Common.{ℕ, arith}
use Rattle.std.proofs.lemmas.List.Elements.{All-get_or}
use Rattle.vms_calls.specs.Common.{Header, ZoneSize, IsHeader, IsZone, IsValidSize, size_at}

abbrev pub no_size : ZoneSize
no_size = record { managed = 0; min = 0; low = 0; high = 0 }

pub valid_size : (header : Header) → IsHeader header → (g : ℕ) → IsZone header.layout g
    → IsValidSize (size_at header.sizes g)
valid_size header valid g zone =
    All-get_or IsValidSize header.sizes g no_size (omega (arith, zone, valid.sizes_length)) valid.sizes_valid
