-- What the pointer owns may go to another thread.
use Rattle.std.proofs.Common.{Option, Some, None}
use mir.Raw.{raw}
use base.Shift.{Keyless}
use denote.Memory.{lone}
use denote.Builtin.{RawPtr}
use denote.Exit.{Exit, unchanged, leaves, hidden, under}
use denote.Param.Send.{IsSend, Quiet, part_keyless, owning_send, struct_send, sendable}
use base.Fraction.{full_share}
use denote.RattleType.{RattleType}
use denote.RawPtr.{Ptr, block_ptr, null_ptr, lies_at}
use denote.Struct.Owning.{shape, fields, to}
use denote.Struct.Struct.{exits_of}
use Rattle.std.proofs.Crossing as heap
use Rattle.vms_counters.specs.contracts.handles.Handle.{the_row as Own}
use Rattle.vms_counters.proofs.handles.Handle.TheSendSync.{the_send}
use Rattle.vozhkell_c.specs.Owning.{held_owns}
use Rattle.vozhkell_c.proofs.HandleWords.{R}
use Rattle.vozhkell_c.specs.contracts.held_handle.HeldHandle.{the_row, the_type}

quiet : {D X : Type 0} (to : D → X) (e : Exit X) → Quiet e → Quiet (hidden (under to e))
quiet to unchanged q = λ x w. tt
quiet to (leaves L l S s r₀) q = λ d. q (to d)

lies : (R : RattleType) → IsSend R → (p : Ptr) (x : R.Denot) → Keyless (lies_at R full_share p x)
lies R s (block_ptr b o) x = part_keyless R s full_share x b o
lies R s null_ptr x = tt

room : IsSend R
room = search (sendable, the_send) depth 20

keyless : (at : Ptr) (value : Option Own.Denot) → Keyless (held_owns Own at value)
keyless at None = tt
keyless at (Some x) = λ a. (lies R room at (Some x), heap.frees.frees a (raw (lone R.mir)) at)

pub send : IsSend the_row
send =
    let pointer : IsSend RawPtr = search sendable in
    owning_send the_type (pointer, tt) (λ d. keyless d.at d.value)
    (λ k. quiet (to the_type) (exits_of k (fields the_type)) ((struct_send (shape the_type) (pointer, tt)).leaving k))
