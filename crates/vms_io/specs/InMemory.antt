-- What a source or a sink in memory holds, and how a call changes it.
use Rattle.std.specs.Prelude.{ℕ, ◌-◌, ◌≤◌, min, List, ◌++◌, length, drop}
use Rattle.vms_io.specs.Faults.{FaultTally, after_call, after_fault}

-- the bytes that are left, and how many a call gives at most
pub record Supply : Type 0 where
  pub left : List ℕ
  pub piece : ℕ
  pub calls : FaultTally

-- how many bytes a read into this much room gets
abbrev pub read_size : Supply → ℕ → ℕ
read_size supply room = min room (min supply.piece (length supply.left))

-- the first n bytes were read
abbrev pub after_read : ℕ → Supply → Supply
after_read n supply = record supply { left = drop n supply.left; calls = after_call supply.calls }

-- a read failed
abbrev pub after_read_fault : Supply → Supply
after_read_fault supply = record supply { calls = after_fault supply.calls }

-- the bytes that were written, the room for all bytes, and how many a call takes at most
pub record Store : Type 0 where
  pub written : List ℕ
  pub room : ℕ
  pub piece : ℕ
  pub calls : FaultTally

-- no room is left
abbrev pub IsFull : Store → Type 0
IsFull store = store.room ≤ length store.written

-- how many of this many bytes a write takes
abbrev pub write_size : Store → ℕ → ℕ
write_size store offered = min offered (min store.piece (store.room - length store.written))

-- these bytes were written
abbrev pub after_write : List ℕ → Store → Store
after_write bytes store = record store { written = store.written ++ bytes; calls = after_call store.calls }

-- a write failed
abbrev pub after_write_fault : Store → Store
after_write_fault store = record store { calls = after_fault store.calls }

-- what is given or taken lies within the bytes, and a call moves one byte at least
pub record Placed (place size piece : ℕ) : Type 0 where
  pub within : place ≤ size
  pub some : 1 ≤ piece
