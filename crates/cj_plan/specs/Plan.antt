-- The plan: which passes a function's profile asks for at a level.
use Rattle.std.specs.Prelude.{ℕ, suc, ◌+◌, Bool, not, ◌&&◌, ◌==◌, nat_le, if◌then◌else◌, List, [], ◌∷◌, ◌++◌, length, map, take, Option, Some, None, slice_get}
use Rattle.cj_ir.specs.Program.{function_at, label_count}
use Rattle.cj_ir.specs.declared.language.FunId.{FunId}
use Rattle.cj_ir.specs.declared.language.Label.{Label}
use Rattle.cj_ir.specs.declared.language.Line.{Line}
use Rattle.cj_ir.specs.declared.language.Program.{Program}
use Rattle.cj_ir.specs.declared.language.Instr.{Instr}
use Rattle.cj_ir.specs.declared.language.Instr.TheVariants.{Nop, Op, Cond, Call, Return, Print, Load, Store, Fail}
use Rattle.cj_ir.specs.declared.language.Guard.{Guard}
use Rattle.cj_ir.specs.declared.language.Guard.TheVariants.{Is, Never}
use Rattle.cj_draft.specs.BaseBody.{lines_of}
use Rattle.cj_draft.specs.declared.passes.Pass.{Pass}
use Rattle.cj_draft.specs.declared.passes.Pass.TheVariants.{Anchors, Assume, Delay, Const, Inline}
use Rattle.cj_profile.specs.declared.snapshot.ParamNote.{ParamNote}
use Rattle.cj_profile.specs.declared.snapshot.EdgeNote.{EdgeNote}
use Rattle.cj_profile.specs.declared.snapshot.Snapshot.{Snapshot}
use Rattle.cj_plan.specs.declared.limits.TheConstants.{COLDS, HOT, AGREEMENTS, INLINES, SHORT}
use Rattle.cj_plan.specs.declared.colds.Cold.{Cold}
use Rattle.cj_plan.specs.declared.colds.Targets.{Targets}

-- what each item gives, with its number, which counts from n
abbrev pub each_from : {A B : Type 0} → (ℕ → A → List B) → ℕ → List A → List B
each_from give n [] = []
each_from give n (x ∷ xs) = give n x ++ each_from give (suc n) xs

abbrev pub label : ℕ → Label
label n = record { 0 = n }

-- a function's code
abbrev pub code_of : Program → FunId → List Line
code_of p f = lines_of (function_at p f)

-- a parameter with enough agreements is guarded
abbrev pub guard_of : ℕ → ParamNote → List Guard
guard_of param note = if nat_le AGREEMENTS note.agreed then Is (record { 0 = param }) note.last ∷ [] else []

abbrev pub guards_in : List ParamNote → List Guard
guards_in notes = each_from guard_of 0 notes

-- the function that an instruction calls
abbrev pub callee_of : Instr → Option FunId
callee_of (Nop next) = None
callee_of (Op dest expr next) = None
callee_of (Cond test then_to else_to) = None
callee_of (Call dest g args next) = Some g
callee_of (Return value) = None
callee_of (Print value next) = None
callee_of (Load dest address next) = None
callee_of (Store address value next) = None
callee_of (Fail text) = None

-- a call of another function is inlined that is short
abbrev pub is_inlined : Program → FunId → FunId → Bool
is_inlined p f g = not (g.0 == f.0) && nat_le (label_count p g) SHORT

abbrev pub inline_by : Program → FunId → ℕ → Option FunId → List Label
inline_by p f n None = []
inline_by p f n (Some g) = if is_inlined p f g then label n ∷ [] else []

abbrev pub inline_of : Program → FunId → ℕ → Line → List Label
inline_of p f n line = inline_by p f n (callee_of line.instr)

abbrev pub inlined_in : Program → FunId → List Line → List Label
inlined_in p f code = take INLINES (each_from (inline_of p f) 0 code)

-- where the edges of a cond go
abbrev pub targets_of : Instr → Option Targets
targets_of (Nop next) = None
targets_of (Op dest expr next) = None
targets_of (Cond test then_to else_to) = Some record { then_to = then_to; else_to = else_to }
targets_of (Call dest g args next) = None
targets_of (Return value) = None
targets_of (Print value next) = None
targets_of (Load dest address next) = None
targets_of (Store address value next) = None
targets_of (Fail text) = None

-- an edge is cold that was counted 0 where the other one was counted often
abbrev pub is_cold : ℕ → ℕ → Bool
is_cold count other = (count == 0) && nat_le HOT other

abbrev pub cold_edge : ℕ → Label → ℕ → ℕ → List Cold
cold_edge n target count other = if is_cold count other then record { label = label n; target = target } ∷ [] else []

abbrev pub cold_by : ℕ → Option EdgeNote → Option Targets → List Cold
cold_by n None targets = []
cold_by n (Some note) None = []
cold_by n (Some note) (Some t) =
    cold_edge n t.then_to note.then_count note.else_count ++ cold_edge n t.else_to note.else_count note.then_count

abbrev pub cold_of : List EdgeNote → ℕ → Line → List Cold
cold_of notes n line = cold_by n (slice_get notes n) (targets_of line.instr)

abbrev pub colds_in : List EdgeNote → List Line → List Cold
colds_in notes code = take COLDS (each_from (cold_of notes) 0 code)

-- The draft has n labels at first. An Anchor at the entry is label n, and an Assume after it the next one. Then come the
-- Anchors of the cold labels, of which b is the first.

abbrev pub assumes : ℕ → List Guard → List Pass
assumes n [] = []
assumes n (g ∷ gs) = Assume (label n) (g ∷ gs) ∷ []

abbrev pub first_cold : ℕ → List Guard → ℕ
first_cold n [] = n + 1
first_cold n (g ∷ gs) = n + 2

-- where an edge to a label leads by then: to its Anchor, if it has one
abbrev pub led_from : ℕ → List Cold → Label → Label
led_from b [] to = to
led_from b (c ∷ cs) to = if c.label.0 == to.0 then label b else led_from (suc b) cs to

abbrev pub led : ℕ → ℕ → List Cold → Label → Label
led n b colds to = if to.0 == 0 then label n else led_from b colds to

-- an Assume that always fails stands on the cold edge of the j-th cold label
abbrev pub delay_of : ℕ → ℕ → List Cold → ℕ → Cold → List Pass
delay_of n b colds j c = Delay (label (b + j) ∷ c.label ∷ led n b colds c.target ∷ []) (Never ∷ []) ∷ []

abbrev pub delays : ℕ → ℕ → List Cold → List Pass
delays n b [] = []
delays n b (c ∷ cs) = Anchors (map (λ x. x.label) (c ∷ cs)) ∷ each_from (delay_of n b (c ∷ cs)) 0 (c ∷ cs)

-- the passes of a level
abbrev pub entry_passes : ℕ → List Guard → List Pass
entry_passes n guards = Anchors (label 0 ∷ []) ∷ (assumes n guards ++ Const ∷ [])

abbrev pub inline_passes : Program → FunId → List Line → List Pass
inline_passes p f code = map (λ call. Inline call) (inlined_in p f code) ++ Const ∷ []

abbrev pub delay_passes : ℕ → List Guard → List Cold → List Pass
delay_passes n guards colds = delays n (first_cold n guards) colds

-- the plan of the function's code
abbrev pub first_plan : List Line → Snapshot → List Pass
first_plan code s = entry_passes (length code) (guards_in s.params)

abbrev pub second_plan : Program → FunId → List Line → Snapshot → List Pass
second_plan p f code s =
    first_plan code s ++ (delay_passes (length code) (guards_in s.params) (colds_in s.edges code) ++ inline_passes p f code)

abbrev pub plan_of : Program → FunId → List Line → ℕ → Snapshot → List Pass
plan_of p f code level s =
    if level == 1 then first_plan code s else (if level == 2 then second_plan p f code s else inline_passes p f code)

-- the plan of a function at a level from 1 to 3
abbrev pub planned : Program → FunId → ℕ → Snapshot → List Pass
planned p f level s = plan_of p f (code_of p f) level s
