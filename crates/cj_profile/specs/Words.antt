-- The words of a profile. Word 0 counts the callers that have finished, and each function has as many words from 1 on: its
-- calls, failures, asked and taken level, then the last argument of each parameter and how many agreed with it, then how
-- often each label took its two edges. There is room for as many parameters and labels as a function may have.
use Rattle.std.specs.Prelude.{ℕ, ◌+◌, ◌*◌, ◌<◌, ⊤, length}
use Rattle.cj_ir.specs.Program.{param_count, label_count}
use Rattle.cj_ir.specs.declared.language.FunId.{FunId}
use Rattle.cj_ir.specs.declared.language.Program.{Program}
use Rattle.cj_ir.specs.declared.language.Edge.{Edge}
use Rattle.cj_ir.specs.declared.language.Edge.TheVariants.{Then, Else}
use Rattle.cj_profile.specs.declared.layout.TheConstants.{FUNCTION_WORDS, PARAMS_AT, LABELS_AT}
use Rattle.cj_profile.specs.declared.layout.Word.{Word}
use Rattle.cj_profile.specs.declared.layout.Word.TheVariants.{Finished, Calls, Failures, Asked, Taken, Last, Agreed, Way}

-- the first word of a function
abbrev pub first_word : FunId → ℕ
first_word f = FUNCTION_WORDS * f.0 + 1

-- the number of a word
abbrev pub number : Word → ℕ
number Finished = 0
number (Calls f) = first_word f
number (Failures f) = first_word f + 1
number (Asked f) = first_word f + 2
number (Taken f) = first_word f + 3
number (Last f param) = first_word f + PARAMS_AT + 2 * param
number (Agreed f param) = first_word f + PARAMS_AT + 2 * param + 1
number (Way f label Then) = first_word f + LABELS_AT + 2 * label.0
number (Way f label Else) = first_word f + LABELS_AT + 2 * label.0 + 1

-- how many words a program's profile has
abbrev pub word_count : Program → ℕ
word_count p = FUNCTION_WORDS * length p.functions + 1

-- the program has the function, parameter and label
abbrev pub IsWordOf : Program → Word → Type 0
IsWordOf p Finished = ⊤
IsWordOf p (Calls f) = f.0 < length p.functions
IsWordOf p (Failures f) = f.0 < length p.functions
IsWordOf p (Asked f) = f.0 < length p.functions
IsWordOf p (Taken f) = f.0 < length p.functions
IsWordOf p (Last f param) = param < param_count p f
IsWordOf p (Agreed f param) = param < param_count p f
IsWordOf p (Way f label edge) = label.0 < label_count p f

abbrev pub other_edge : Edge → Edge
other_edge Then = Else
other_edge Else = Then
