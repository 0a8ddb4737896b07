-- What a step tells where it is of one kind and acts on one place: none where it is another.
use Rattle.std.specs.Prelude.{ℕ, nat_eq, ◌&&◌, ℤ, Option, Some, None, if◌then◌else◌}
use Rattle.vms_calls.specs.Common.{AddG, AddS, CpuState, Diffs, LoadA, LoadD, LoadG, LoadM, LoadO, LoadS, LoadT}
use Rattle.vms_calls.specs.Common.{MarkRead, SetA, SetM, SetT, Miss, Step, Take}

-- a load of the own threshold of place g, and of the list of a CPU in group j
abbrev pub threshold_in : ℕ → Step → Option ℕ
threshold_in g (LoadT f t a) = if nat_eq f.number g then Some t else None
threshold_in g _ = None

abbrev pub group_in : (c j : ℕ) → Step → Option Diffs
group_in c j (LoadD d i w) = if nat_eq d.number c && nat_eq i.number j then Some w else None
group_in c j _ = None

-- a miss of group j
abbrev pub missed_in : ℕ → Step → Option Diffs
missed_in j (Miss i w) = if nat_eq i.number j then Some w else None
missed_in j _ = None

-- an addition to the global value of counter k, and to item i
abbrev pub added_in : ℕ → Step → Option ℤ
added_in k (AddG l a) = if nat_eq l.number k then Some a else None
added_in k _ = None

abbrev pub added_to_item_in : ℕ → Step → Option ℤ
added_to_item_in i (AddS l a) = if nat_eq l.number i then Some a else None
added_to_item_in i _ = None

-- a load of the global value of counter k, and of the state of a CPU
abbrev pub value_in : ℕ → Step → Option ℤ
value_in k (LoadG l v) = if nat_eq l.number k then Some v else None
value_in k _ = None

abbrev pub state_in : ℕ → Step → Option CpuState
state_in c (LoadO d x) = if nat_eq d.number c then Some x else None
state_in c _ = None

-- a load of the drift mark of zone g
abbrev pub mark_in : ℕ → Step → Option MarkRead
mark_in g (LoadM f m a) = if nat_eq f.number g then Some (record { mark = m; number = a }) else None
mark_in g _ = None

-- a load of the system-wide value of item i
abbrev pub system_in : ℕ → Step → Option ℤ
system_in i (LoadS l v) = if nat_eq l.number i then Some v else None
system_in i _ = None

-- the number of the own threshold of place g that is loaded, and that is acknowledged
abbrev pub number_in : ℕ → Step → Option ℕ
number_in g (LoadT f t a) = if nat_eq f.number g then Some a else None
number_in g _ = None

abbrev pub acknowledged_in : ℕ → Step → Option ℕ
acknowledged_in g (SetA f a) = if nat_eq f.number g then Some a else None
acknowledged_in g _ = None

-- the list of a CPU that is taken from group j
abbrev pub taken_in : (c j : ℕ) → Step → Option Diffs
taken_in c j (Take d i w) = if nat_eq d.number c && nat_eq i.number j then Some w else None
taken_in c j _ = None

-- what is loaded that a CPU acknowledged last of zone g
abbrev pub number_told_in : (c g : ℕ) → Step → Option (Option ℕ)
number_told_in c g (LoadA d f x) = if nat_eq d.number c && nat_eq f.number g then Some x else None
number_told_in c g _ = None

-- the mark that is set in zone g, and the threshold that is set on a CPU in place g
abbrev pub set_mark_in : ℕ → Step → Option ℕ
set_mark_in g (SetM f m) = if nat_eq f.number g then Some m else None
set_mark_in g _ = None

abbrev pub set_threshold_in : (c g : ℕ) → Step → Option ℕ
set_threshold_in c g (SetT d f t) = if nat_eq d.number c && nat_eq f.number g then Some t else None
set_threshold_in c g _ = None
