-- The fixed names of items and events, as bytes, and the form of a declared name.
use Rattle.std.specs.Prelude.{ℕ, nat_le, ◌&&◌, ◌||◌, ◌==◌, Bool, false, List, [], ◌∷◌, length, codes}
use Rattle.std.specs.List.{list_all}

-- the items of a zone, by position
abbrev pub zone_items : List (List ℕ)
zone_items =
    codes "nr_free_pages" ∷ codes "nr_zone_inactive_anon" ∷ codes "nr_zone_active_anon" ∷ codes "nr_zone_inactive_file"
    ∷ codes "nr_zone_active_file" ∷ codes "nr_zone_unevictable" ∷ codes "nr_zone_write_pending" ∷ codes "nr_mlock" ∷ []

-- the items of a node, by position
abbrev pub node_items : List (List ℕ)
node_items =
    codes "nr_inactive_anon" ∷ codes "nr_active_anon" ∷ codes "nr_inactive_file" ∷ codes "nr_active_file"
    ∷ codes "nr_unevictable" ∷ codes "nr_anon_pages" ∷ codes "nr_file_pages" ∷ codes "nr_dirty" ∷ []

-- the events, by number
abbrev pub event_names : List (List ℕ)
event_names =
    codes "pgpgin" ∷ codes "pgpgout" ∷ codes "pswpin" ∷ codes "pswpout"
    ∷ codes "pgfree" ∷ codes "pgactivate" ∷ codes "pgdeactivate" ∷ codes "pgfault" ∷ []

-- the kinds of zones, by zone index
abbrev pub kind_names : List (List ℕ)
kind_names = codes "DMA" ∷ codes "DMA32" ∷ codes "Normal" ∷ codes "Movable" ∷ []

-- `a` to `z`
abbrev pub is_letter : ℕ → Bool
is_letter byte = nat_le 97 byte && nat_le byte 122

-- a letter, a digit or `_`
abbrev pub is_name_byte : ℕ → Bool
is_name_byte byte = is_letter byte || (nat_le 48 byte && nat_le byte 57) || (byte == 95)

-- 1 to 16 bytes of a name, the first a letter
abbrev pub is_name : List ℕ → Bool
is_name [] = false
is_name (byte ∷ bytes) = is_letter byte && list_all is_name_byte bytes && nat_le (length bytes) 15
