-- What a judge decides of a line that was read.
use Rattle.std.proofs.Common.{◌≡◌, ℕ, ◌+◌, ◌<◌, List, ◌∷◌, get_or, set, true, false, nat_eq, if◌then◌else◌, refl, sym}
use Rattle.std.proofs.Common.{ap, subst, ◌∙◌, arith, Ok, Err, eq-eqb}
use Rattle.std.proofs.lemmas.Bool.Decides.{nat_tests}
use Rattle.vms_base.specs.declared.headers.Header.{Header}
use Rattle.vms_base.specs.declared.ids.CpuId.{CpuId}
use Rattle.vms_base.specs.declared.kinds.CpuState.{CpuState}
use Rattle.vms_base.specs.declared.kinds.CpuState.TheVariants.{Online as IsOnline, Dead as IsDead, Absent}
use Rattle.vms_text.specs.declared.acts.Act.{Act}
use Rattle.vms_text.specs.declared.acts.Act.TheVariants.{Dead}
use Rattle.vms_text.specs.declared.acts.Boundary.{Boundary as BoundaryOf}
use Rattle.vms_text.specs.declared.acts.Boundary.TheVariants.{Offline, Online}
use Rattle.vms_text.specs.declared.acts.Lane.TheVariants.{Control}
use Rattle.vms_text.specs.declared.acts.Line.{Line}
use Rattle.vms_text.specs.declared.acts.Line.TheVariants.{Blank, Lane, Boundary}
use Rattle.vms_line.specs.declared.causes.LineCause.{LineCause}
use Rattle.vms_line.specs.declared.causes.LineCause.TheVariants.{NotOnline, NotDead, NotFolded, LastCpu}
use Rattle.vms_line.specs.Common.{IsLineOf}
use Rattle.vms_script.specs.declared.cpus.CpuStates.{CpuStates}
use Rattle.vms_script.specs.declared.effects.Effect.{Effect}
use Rattle.vms_script.specs.declared.effects.Effect.TheVariants.{Nothing, State}
use Rattle.vms_script.specs.declared.judges.LineJudge.{LineJudge}
use Rattle.vms_script.specs.Common.{cpu_state, state_past, online_below, online_count, allowed, with_counted, Decides}
use Rattle.vms_script.specs.Common.{CanApply, FindsEffect, HasEffect, JudgeStands}
use Rattle.vms_base.specs.Common.{is_online}
use Rattle.vms_script.proofs.CpuCounts.{TellsCpuStates-set}
use Rattle.vms_script.proofs.JudgeStateLaws.{KeepsSums, JudgeStands-moved, JudgeStands-still}

-- a blank line is no line that counts
pub Decides-blank : (judge : LineJudge) → Decides Blank judge judge (Ok tt)
Decides-blank judge = record { by = λ header lines is line stands. (refl, stands) }

-- a line that is refused leaves the judge
pub Decides-refused : (line : Line) (judge : LineJudge) (cause : LineCause)
    → ((header : Header) (lines : List Line) → IsLineOf header line → JudgeStands header lines judge
    → allowed header lines line ≡ Err cause)
    → Decides line judge judge (Err cause)
Decides-refused line judge cause why =
    record { by = λ header lines is is_line stands. (sym (why header lines is_line stands), stands) }

-- a line that counts
pub Decides-kept : (line : Line) (judge judge' : LineJudge) → ((lines : List Line)
    → with_counted (Ok line) lines ≡ line ∷ lines)
    → ((header : Header) (lines : List Line) → IsLineOf header line → JudgeStands header lines judge
    → (allowed header lines line ≡ Ok line) × JudgeStands header (line ∷ lines) judge')
    → Decides line judge judge' (Ok tt)
Decides-kept line judge judge' counts why = record {
  by = λ header lines is is_line stands.
      let found = why header lines is_line stands in
      (sym found.0, subst (λ (above : List Line). JudgeStands header above judge') (sym (counts lines)) found.1);
}

-- an effect is found that finds its place, and with which the line is decided
pub FindsEffect-kept : (line : Line) (judge : LineJudge) (effect : Effect) → CanApply effect judge
    → ((judge' : LineJudge) → HasEffect effect judge judge' → Decides line judge judge' (Ok tt))
    → FindsEffect line judge (Ok effect)
FindsEffect-kept line judge effect can decides = record { ok = (can, decides); err = tt }

pub FindsEffect-nothing : (line : Line) (judge : LineJudge) → Decides line judge judge (Ok tt)
    → FindsEffect line judge (Ok Nothing)
FindsEffect-nothing line judge decides =
    FindsEffect-kept line judge Nothing tt
    (λ judge' is. subst (λ (j : LineJudge). Decides line judge j (Ok tt)) (sym is) decides)

pub FindsEffect-refused : (line : Line) (judge : LineJudge) (cause : LineCause) → Decides line judge judge (Err cause)
    → FindsEffect line judge (Err cause)
FindsEffect-refused line judge cause decides = record { ok = tt; err = decides }

-- two numbers that differ, by their test
ne-eqb : (a b : ℕ) → (a ≡ b → ⊥) → nat_eq a b ≡ false
ne-eqb a b other = grind (arith, nat_tests)

-- the state that a line gives to one CPU, and leaves to another
if_state_same : (c : ℕ) (before after : CpuState) → (if nat_eq c c then after else before) ≡ after
if_state_same c before after = let same = eq-eqb c c refl in rw same refl

if_state_other : (c k : ℕ) (before after : CpuState) → (k ≡ c → ⊥) → (if nat_eq c k then after else before) ≡ before
if_state_other c k before after other = let apart = ne-eqb c k (λ e. other (sym e)) in rw apart refl

-- the lines that change the state of a CPU
adds_nothing-boundary : (boundary : BoundaryOf) → KeepsSums (Boundary boundary)
adds_nothing-boundary boundary = record { counters = λ c k. refl; events = λ c e. refl; pcpu = λ c j. refl }

adds_nothing-control : (act : Act) → KeepsSums (Lane Control act)
adds_nothing-control act = record { counters = λ c k. refl; events = λ c e. refl; pcpu = λ c j. refl }

module _ (cpu : CpuId) (judge : LineJudge) where
  -- what the judge has of the CPU is its state
  state_is : (header : Header) (lines : List Line) (s : CpuState) → JudgeStands header lines judge
      → cpu.number < header.layout.cpus
      → get_or judge.cpus.states cpu.number IsOnline ≡ s → cpu_state cpu.number lines ≡ s
  state_is header lines s stands below read = sym (stands.cpus.state cpu.number below) ∙ read

  pub Decides-burial_refused : (s : CpuState) → get_or judge.cpus.states cpu.number IsOnline ≡ s → (s ≡ IsDead → ⊥)
      → Decides (Lane Control (Dead cpu)) judge judge (Err NotDead)
  Decides-burial_refused IsDead read alive = absurd (alive refl)
  Decides-burial_refused IsOnline read alive = Decides-refused (Lane Control (Dead cpu)) judge NotDead
      (λ header lines is_line stands. let e = state_is header lines IsOnline stands is_line.1.1 read in rw e refl)
  Decides-burial_refused Absent read alive = Decides-refused (Lane Control (Dead cpu)) judge NotDead
      (λ header lines is_line stands. let e = state_is header lines Absent stands is_line.1.1 read in rw e refl)

  pub Decides-down_refused : is_online (get_or judge.cpus.states cpu.number IsOnline) ≡ false
      → Decides (Boundary (Offline cpu)) judge judge (Err NotOnline)
  Decides-down_refused off = Decides-refused (Boundary (Offline cpu)) judge NotOnline
      (λ header lines is_line stands.
      let e : is_online (cpu_state cpu.number lines) ≡ false = ap is_online (sym
      (stands.cpus.state cpu.number is_line)) ∙ off in rw e refl)

  pub Decides-last_refused : is_online (get_or judge.cpus.states cpu.number IsOnline) ≡ true → judge.cpus.online ≡ 1
      → Decides (Boundary (Offline cpu)) judge judge (Err LastCpu)
  Decides-last_refused on one = Decides-refused (Boundary (Offline cpu)) judge LastCpu
      (λ header lines is_line stands.
      let e : is_online (cpu_state cpu.number lines) ≡ true = ap is_online (sym
      (stands.cpus.state cpu.number is_line)) ∙ on in
      let last = eq-eqb (online_below header.layout.cpus lines) 1 (sym stands.cpus.online ∙ one) in rw (e, last) refl)

  pub Decides-up_refused : get_or judge.cpus.states cpu.number IsOnline ≡ IsOnline
      → Decides (Boundary (Online cpu)) judge judge (Err NotDead)
  Decides-up_refused read = Decides-refused (Boundary (Online cpu)) judge NotDead
      (λ header lines is_line stands. let e = state_is header lines IsOnline stands is_line read in rw e refl)

  pub Decides-up_unfolded : get_or judge.cpus.states cpu.number IsOnline ≡ IsDead
      → Decides (Boundary (Online cpu)) judge judge (Err NotFolded)
  Decides-up_unfolded read = Decides-refused (Boundary (Online cpu)) judge NotFolded
      (λ header lines is_line stands. let e = state_is header lines IsDead stands is_line read in rw e refl)

  -- a line that gives the CPU another state
  module _ (states : CpuStates) where
    moves : (header : Header) (lines : List Line) (line : Line) (state : CpuState)
        → ((k : ℕ) (s : CpuState) → (k ≡ cpu.number → ⊥) → state_past k line s ≡ s)
        → state_past cpu.number line (cpu_state cpu.number lines) ≡ state → KeepsSums line
        → cpu.number < header.layout.cpus → states.states ≡ set judge.cpus.states cpu.number state
        → states.online + online_count (get_or judge.cpus.states cpu.number IsOnline) ≡ judge.cpus.online +
        online_count state
        → JudgeStands header lines judge → JudgeStands header (line ∷ lines) (record judge { cpus = states })
    moves header lines line state others becomes adds below same online stands =
        JudgeStands-moved header lines line judge states adds
        (TellsCpuStates-set lines line header.layout.cpus cpu.number state judge.cpus states others becomes below same
        online stands.cpus) stands

    pub Decides-buried : get_or judge.cpus.states cpu.number IsOnline ≡ IsDead
        → states.states ≡ set judge.cpus.states cpu.number Absent
        → states.online + online_count (get_or judge.cpus.states cpu.number IsOnline) ≡ judge.cpus.online +
        online_count Absent
        → Decides (Lane Control (Dead cpu)) judge (record judge { cpus = states }) (Ok tt)
    Decides-buried read same online = Decides-kept (Lane Control (Dead cpu)) judge
        (record judge { cpus = states }) (λ lines. refl)
        (λ header lines is_line stands. let e = state_is header lines IsDead stands is_line.1.1 read in (
          rw e refl,
          moves header lines (Lane Control (Dead cpu)) Absent (λ k s other. if_state_other cpu.number k s Absent other)
              (if_state_same cpu.number (cpu_state cpu.number lines) Absent) (adds_nothing-control
              (Dead cpu)) is_line.1.1 same online stands,
        ))

    pub Decides-down : is_online (get_or judge.cpus.states cpu.number IsOnline) ≡ true → (judge.cpus.online ≡ 1 → ⊥)
        → states.states ≡ set judge.cpus.states cpu.number IsDead
        → states.online + online_count (get_or judge.cpus.states cpu.number IsOnline) ≡ judge.cpus.online +
        online_count IsDead
        → Decides (Boundary (Offline cpu)) judge (record judge { cpus = states }) (Ok tt)
    Decides-down on more same online = Decides-kept (Boundary (Offline cpu)) judge
        (record judge { cpus = states }) (λ lines. refl)
        (λ header lines is_line stands.
        let e : is_online (cpu_state cpu.number lines) ≡ true = ap is_online (sym
        (stands.cpus.state cpu.number is_line)) ∙ on in
        let several = ne-eqb (online_below header.layout.cpus lines) 1 (λ one. more (stands.cpus.online ∙ one)) in (
          rw (e, several) refl,
          moves header lines (Boundary (Offline cpu)) IsDead (λ k s other. if_state_other cpu.number k s IsDead other)
              (if_state_same cpu.number (cpu_state cpu.number lines) IsDead) (adds_nothing-boundary
              (Offline cpu)) is_line same online stands,
        ))

    pub Decides-up : get_or judge.cpus.states cpu.number IsOnline ≡ Absent
        → states.states ≡ set judge.cpus.states cpu.number IsOnline
        → states.online + online_count (get_or judge.cpus.states cpu.number IsOnline) ≡ judge.cpus.online +
        online_count IsOnline
        → Decides (Boundary (Online cpu)) judge (record judge { cpus = states }) (Ok tt)
    Decides-up read same online = Decides-kept (Boundary (Online cpu)) judge (record judge { cpus = states })
        (λ lines. refl)
        (λ header lines is_line stands. let e = state_is header lines Absent stands is_line read in (
          rw e refl,
          moves header lines (Boundary (Online cpu)) IsOnline
              (λ k s other. if_state_other cpu.number k s IsOnline other)
              (if_state_same cpu.number (cpu_state cpu.number lines) IsOnline) (adds_nothing-boundary
              (Online cpu)) is_line same online stands,
        ))

-- an effect on the state of a CPU, where the line is decided with any states that have it
pub FindsEffect-state : (line : Line) (judge : LineJudge) (cpu : CpuId) (state : CpuState)
    → CanApply (State cpu state) judge
    → ((states : CpuStates) → states.states ≡ set judge.cpus.states cpu.number state
    → states.online + online_count (get_or judge.cpus.states cpu.number IsOnline) ≡ judge.cpus.online +
    online_count state
    → Decides line judge (record judge { cpus = states }) (Ok tt))
    → FindsEffect line judge (Ok (State cpu state))
FindsEffect-state line judge cpu state can decides =
    FindsEffect-kept line judge (State cpu state) can
    (λ judge' has. subst (λ (j : LineJudge). Decides line judge j (Ok tt)) (sym has.3)
    (decides has.0 has.1 has.2))

-- another act of the control lane counts, and changes nothing here
pub Decides-control : (act : Act) (judge : LineJudge) → ((cpu : CpuId) → act ≡ Dead cpu → ⊥)
    → Decides (Lane Control act) judge judge (Ok tt)
Decides-control (Dead cpu) judge no_burial = absurd (no_burial cpu refl)
Decides-control act judge no_burial = Decides-kept (Lane Control act) judge judge (λ lines. refl)
    (λ header lines is_line stands. (
      refl,
      JudgeStands-still header lines (Lane Control act) judge (λ c s. refl) (adds_nothing-control act) stands,
    ))

-- another boundary line counts, and changes nothing here
pub Decides-boundary : (boundary : BoundaryOf) (judge : LineJudge) → ((cpu : CpuId) → boundary ≡ Offline cpu → ⊥)
    → ((cpu : CpuId) → boundary ≡ Online cpu → ⊥)
    → Decides (Boundary boundary) judge judge (Ok tt)
Decides-boundary (Offline cpu) judge no_offline no_online = absurd (no_offline cpu refl)
Decides-boundary (Online cpu) judge no_offline no_online = absurd (no_online cpu refl)
Decides-boundary boundary judge no_offline no_online = Decides-kept (Boundary boundary) judge judge (λ lines. refl)
    (λ header lines is_line stands. (
      refl,
      JudgeStands-still header lines (Boundary boundary) judge (λ c s. refl) (adds_nothing-boundary boundary) stands,
    ))
