-- The line that the program prints for a status.
use Rattle.std.specs.Prelude.{ℕ, List, [], ◌++◌, ◌==◌, Option, None, Some, codes, decimal, if◌then◌else◌}
use Rattle.cj_tokens.specs.declared.refusal.Refused.{Refused}
use Rattle.cj_tokens.specs.declared.refusal.Kind.{Kind}
use Rattle.cj_tokens.specs.declared.refusal.Kind.TheVariants as kind

unfoldable pub kind_text : Kind → List ℕ
kind_text kind.Character = codes "Character"
kind_text kind.Number = codes "Number"
kind_text kind.Syntax = codes "Syntax"
kind_text kind.TooMany = codes "TooMany"
kind_text kind.NameTwice = codes "NameTwice"
kind_text kind.LabelTwice = codes "LabelTwice"
kind_text kind.NoEntry = codes "NoEntry"
kind_text kind.NoRegister = codes "NoRegister"
kind_text kind.NoLabel = codes "NoLabel"
kind_text kind.NoFunction = codes "NoFunction"
kind_text kind.Arguments = codes "Arguments"
kind_text kind.NotCond = codes "NotCond"
kind_text kind.Range = codes "Range"

unfoldable pub refused_text : Option Refused → List ℕ
refused_text None = []
refused_text (Some r) = codes "line " ++ decimal r.line ++ codes ": " ++ kind_text r.kind ++ codes "\n"

-- by status; with the statuses 0 and 5 there is no line
unfoldable pub status_text : ℕ → Option Refused → List ℕ
status_text status refused =
    if status == 2
    then codes "usage: corejit alone [stats] | replay [stats] | format | bench N [CALLERS WORKERS] | run CALLERS WORKERS\n"
    else (if status == 3 then refused_text refused
    else (if status == 4 then codes "read fault\n"
    else (if status == 6 then codes "no memory\n"
    else (if status == 7 then codes "too long\n"
    else []))))
