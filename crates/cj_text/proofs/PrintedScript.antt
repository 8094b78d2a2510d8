-- The pieces of a script are read as the tokens of its tree.
use Rattle.std.proofs.Common.{◌≡◌, refl, ℕ, ℤ, pos, ◌<◌, ◌≤◌, ◌^◌, List, [], ◌∷◌, ◌++◌, map, flat_map, append_assoc, arith}
use Rattle.std.specs.Prelude.{codes, decimal, slice_get}
use lib.Signed.{mag}
use Rattle.cj_ir.specs.declared.language.Edge.{Edge}
use Rattle.cj_ir.specs.declared.language.Edge.TheVariants as edges
use Rattle.cj_ir.specs.declared.language.Function.{Function}
use Rattle.cj_ir.specs.declared.script.Script.{Script}
use Rattle.cj_ir.specs.declared.script.ScriptCall.{ScriptCall}
use Rattle.cj_ir.specs.declared.script.Setup.{Setup}
use Rattle.cj_ir.specs.declared.script.Setup.TheVariants as setups
use Rattle.cj_tokens.specs.Scan.{next_line}
use Rattle.cj_tokens.specs.declared.terminal.Terminal.TheVariants as terminal
use Rattle.cj_grammar.specs.Grammar.{leaves}
use Rattle.cj_grammar.specs.Rules as rule
use Rattle.cj_printer.specs.Pieces.{blank, feed}
use Rattle.cj_printer.specs.Canonical.{function_text, edge_text, reg_in, label_in, value_piece, setup_pieces, call_pieces, script_pieces}
use Rattle.cj_text.specs.Written.{IsValue}
use Rattle.cj_text.proofs.Chunks.{Chunk, ◌▸◌, nothing, name_blank, number_blank, key_blank, key_feed}
use Rattle.cj_text.proofs.Lists.{Every}
use Rattle.cj_text.proofs.KnownScript.{SetupKnown, CallKnown}
use Rattle.cj_text.proofs.PrintedProgram.{pieces_are, number_of_label, lines_chunk}
use Rattle.cj_text.proofs.Trees.{number_leaf, last_line, label_in_number, edge_tree, setup_tree, begun_tree, call_tree, script_tree, script_end}

edge_chunk : (l : ℕ) (e : Edge) → Chunk l l (blank (edge_text e) ∷ []) (leaves rule.edge (edge_tree l e))
unfolding rule.edge edge_tree
edge_chunk l edges.Then = key_blank l terminal.Then refl
edge_chunk l edges.Else = key_blank l terminal.Else refl

level_value : (n : ℕ) → n ≤ 3 → mag (pos n) < 2 ^ 63
level_value n h = omega arith

cells_value : (n : ℕ) → n ≤ 65536 → mag (pos n) < 2 ^ 63
cells_value n h = omega arith

limit_value : (n : ℕ) → n ≤ 1000000 → mag (pos n) < 2 ^ 63
limit_value n h = omega arith

setup_chunk : (fs : List Function) (x : Setup) → SetupKnown fs x → (l : ℕ) →
    Chunk l (next_line l) (setup_pieces fs x) (leaves rule.setup (setup_tree fs (next_line l) x))
unfolding rule.setup rule.guess_setup rule.cold_setup rule.warm_setup setup_tree setup_pieces
setup_chunk fs (setups.Guess id param value) k l =
    let n : ℕ = next_line l in
    key_feed l terminal.Guess refl ▸ name_blank n (function_text fs id) k.1.name ▸ name_blank n (reg_in (slice_get fs id.0) param) k.2.name ▸ number_blank n
    value k.3
setup_chunk fs (setups.Cold id label edge) k l =
    let n : ℕ = next_line l in
    key_feed l terminal.Cold refl ▸ name_blank n (function_text fs id) k.2.name ▸ number_of_label n (label_in (slice_get fs id.0) label)
    (label_in_number (slice_get fs id.0) label) k.3.text k.3.small ▸ edge_chunk n edge
setup_chunk fs (setups.Warm id level) k l =
    let n : ℕ = next_line l in
    key_feed l terminal.Warm refl ▸ name_blank n (function_text fs id) k.1.name ▸ number_blank n (pos level) (level_value level k.3)

values_chunk : (l : ℕ) (values : List ℤ) → Every IsValue values →
    Chunk l l (map value_piece values) (flat_map (leaves (rule.one terminal.Number)) (map (number_leaf l) values))
values_chunk l [] h = nothing l
values_chunk l (z ∷ values) h = number_blank l z h.0 ▸ values_chunk l values h.1

call_is : (fs : List Function) (call : ScriptCall) → feed (codes "call") ∷ blank (function_text fs call.function)
    ∷ (map value_piece call.args ++ (blank (codes "memory") ∷ blank (decimal call.cells) ∷ blank (codes "limit") ∷ blank (decimal call.limit) ∷ []))
    ≡ call_pieces fs call
unfolding call_pieces
call_is fs call = simp append_assoc

call_chunk : (fs : List Function) (call : ScriptCall) → CallKnown fs call → (l : ℕ) →
    Chunk l (next_line l) (call_pieces fs call) (leaves rule.script_call (call_tree fs (next_line l) call))
unfolding rule.script_call rule.begun rule.numbers call_tree begun_tree
call_chunk fs call k l =
    let n : ℕ = next_line l in
    pieces_are (call_is fs call)
    (key_feed l terminal.Call refl ▸ name_blank n (function_text fs call.function) k.known.name ▸ values_chunk n call.args k.values ▸ key_blank n
    terminal.Memory refl ▸ number_blank n (pos call.cells) (cells_value call.cells k.few_cells) ▸ key_blank n terminal.Limit refl ▸ number_blank n
    (pos call.limit) (limit_value call.limit k.few_turns))

every_setup : (fs : List Function) (xs : List Setup) → Every (SetupKnown fs) xs →
    Every (λ x. (l : ℕ) → Chunk l (next_line l) (setup_pieces fs x) (leaves rule.setup (setup_tree fs (next_line l) x))) xs
every_setup fs [] h = tt
every_setup fs (x ∷ xs) h = (setup_chunk fs x h.0, every_setup fs xs h.1)

every_call : (fs : List Function) (xs : List ScriptCall) → Every (CallKnown fs) xs →
    Every (λ x. (l : ℕ) → Chunk l (next_line l) (call_pieces fs x) (leaves rule.script_call (call_tree fs (next_line l) x))) xs
every_call fs [] h = tt
every_call fs (x ∷ xs) h = (call_chunk fs x h.0, every_call fs xs h.1)

pub script_chunk : (fs : List Function) (s : Script) → Every (SetupKnown fs) s.setups → Every (CallKnown fs) s.calls → (l : ℕ) →
    Chunk l (script_end l s) (script_pieces fs s) (leaves rule.script (script_tree fs l s))
unfolding rule.script rule.setups rule.script_calls script_tree script_pieces
script_chunk fs s k ks l =
    key_feed l terminal.Calls refl ▸ lines_chunk (setup_pieces fs) (setup_tree fs) (leaves rule.setup) s.setups (every_setup fs s.setups k)
    (next_line l) ▸ lines_chunk (call_pieces fs) (call_tree fs) (leaves rule.script_call) s.calls (every_call fs s.calls ks)
    (last_line (next_line l) s.setups)
