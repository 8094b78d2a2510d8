-- Events whose tokens have no offence fit their program.
use Rattle.std.proofs.Common.{◌≡◌, ℕ, Bool, ◌+◌, ◌<◌, ◌≤◌, pos, true, false, List, [], ◌∷◌, ◌++◌, length, All, refl, ◌∙◌, inl, inr, append_assoc, length-append}
use Rattle.std.proofs.Common.{arith}
use Rattle.std.specs.Prelude.{Ok, Some, None, map, nat_le}
use Rattle.std.proofs.lemmas.Bool.Decides.{nat_tests}
use Rattle.std.proofs.lemmas.List.{append-nil}
use Rattle.std.proofs.lemmas.List.Elements.{All-nil, All-push}
use Rattle.std.proofs.lemmas.Option.{slice_get_within}
use Rattle.cj_ir.specs.declared.language.Function.{Function}
use Rattle.cj_ir.specs.declared.language.Guard.{Guard}
use Rattle.cj_ir.specs.declared.language.Label.{Label}
use Rattle.cj_ir.specs.declared.language.Program.{Program}
use Rattle.cj_draft.specs.declared.passes.Pass.{Pass}
use Rattle.cj_tokens.specs.Lexemes.{Lexeme, Is}
use Rattle.cj_tokens.specs.declared.refusal.Kind.TheVariants.{TooMany}
use Rattle.cj_tokens.specs.declared.refusal.Refused.{Refused}
use Rattle.cj_tokens.specs.declared.terminal.Terminal.TheVariants as terminal
use Rattle.cj_grammar.specs.Grammar.{Tree, Leaf, leaves}
use Rattle.cj_grammar.specs.Reading.{offends_if, each_offends}
use Rattle.cj_grammar.specs.Rules.{one, ◌▸◌, begun, numbers}
use Rattle.cj_script.specs.Fitting.{FitsCall}
use Rattle.cj_script.specs.Meaning.{out_of_range, function_offences, id_named, callee_offences, limit_offences, begun_offences, begun_of, limit_of}
use Rattle.cj_script.proofs.BegunReads.{begun_reads}
use Rattle.cj_script.proofs.Offences.{none_of, none_highest, in_range, limit_fine, function_fine}
use Rattle.cj_script.proofs.ScriptFits.{begun_fits}
use Rattle.cj_events.specs.declared.events.Event.{Event}
use Rattle.cj_events.specs.Fitting.{FitsLabel, FitsLabels, FitsGuard, FitsGuards, FitsPass, FitsEvent, EachFits, FitsEvents}
use Rattle.cj_events.specs.Meaning.{label_of, label_offences, listed_offences, labels_offences, labels_of, ninth_offences, guard_offences, guard_of}
use Rattle.cj_events.specs.Meaning.{guards_offences, guards_of, pass_word_offences, anchors_offences, anchors_of, assume_offences, assume_of, delay_offences}
use Rattle.cj_events.specs.Meaning.{delay_of, const_offences, const_of, inline_offences, inline_of, pass_offences, pass_of, passes_offences, passes_of}
use Rattle.cj_events.specs.Meaning.{event_word_offences, run_offences, count_offences, begin_offences, begin_of, step_offences, step_of, compile_offences}
use Rattle.cj_events.specs.Meaning.{compile_of, event_offences, event_of, events_offences, events_of, history_offences, history_of}
use Rattle.cj_events.specs.Rules.{labels, equation, guard, more_guards, guards, anchors_pass, assume_pass, delay_pass, const_pass, inline_pass, any_pass}
use Rattle.cj_events.specs.Rules.{passes, begin_event, step_event, compile_event, event, events, history}
use Rattle.cj_events.specs.Tallies.{runs, limits, counts, compiles, tally_of, IsWithin}
use Rattle.cj_events.specs.OneEvent.{counted}
use Rattle.cj_events.proofs.Tallied.{tally_more}

-- ---- lists

-- What each item without an offence keeps holds behind all of them.
each_keeps : {T X : Type 0} (P : List X → Type 0) (offends : List X → T → List Refused) (means : T → X) →
    ((earlier : List X) (t : T) → P earlier → offends earlier t ≡ [] → P (earlier ++ means t ∷ [])) → (earlier : List X) (items : List T) → P earlier →
    each_offends offends means earlier items ≡ [] → P (earlier ++ map means items)
each_keeps P offends means keeps earlier [] p h = rw append-nil p
each_keeps P offends means keeps earlier (t ∷ items) p h =
    let both : (offends earlier t ≡ []) × (each_offends offends means (earlier ++ means t ∷ []) items ≡ []) = none_of (offends earlier t)
    (each_offends offends means (earlier ++ means t ∷ []) items) h in
    let all : (earlier ++ means t ∷ []) ++ map means items ≡ earlier ++ (means t ∷ map means items) = append_assoc earlier (means t ∷ []) (map means items) in
    rw (← all) (each_keeps P offends means keeps (earlier ++ means t ∷ []) items (keeps earlier t p both.0) both.1)

-- at most so many, each of which fits
record Few {X : Type 0} (Fits : X → Type 0) (most : ℕ) (xs : List X) : Type 0 where
  few : length xs ≤ most
  fit : All Fits xs

one_more : {X : Type 0} (Fits : X → Type 0) (most : ℕ) (xs : List X) (x : X) → Few Fits most xs → length xs < most → Fits x → Few Fits most (xs ++ x ∷ [])
one_more Fits most xs x h l f =
    record { few = omega (arith, length-append xs (x ∷ [])); fit = All-push Fits xs x h.fit f }

none : {X : Type 0} (Fits : X → Type 0) (most : ℕ) → Few Fits most []
none Fits most = record { few = omega arith; fit = All-nil Fits }

-- where a first token is not one too many
room : (most earlier : ℕ) (t : Lexeme) → offends_if (nat_le most earlier) t TooMany ≡ [] → earlier < most
room most earlier t h = let e : nat_le most earlier ≡ false = no_offence (nat_le most earlier) t h in grind (arith, nat_tests)
  where
    no_offence : (b : Bool) (t : Lexeme) → offends_if b t TooMany ≡ [] → b ≡ false
    no_offence true t h = cc
    no_offence false t h = refl

-- ---- labels

label_fits : (t : Lexeme) → label_offences t ≡ [] → FitsLabel (label_of t)
label_fits t h = (in_range 0 511 t h).2

labels_keep : (earlier : List Label) (t : Leaf (Is terminal.Number)) → Few FitsLabel 64 earlier → listed_offences (length earlier) t.token ≡ [] →
    Few FitsLabel 64 (earlier ++ label_of t.token ∷ [])
labels_keep earlier t p h =
    let both : (offends_if (nat_le 64 (length earlier)) t.token TooMany ≡ [])
    × (label_offences t.token ≡ []) = none_of (offends_if (nat_le 64 (length earlier)) t.token TooMany) (label_offences t.token)
    (none_highest (offends_if (nat_le 64 (length earlier)) t.token TooMany ++ label_offences t.token) h) in
    one_more FitsLabel 64 earlier (label_of t.token) p (room 64 (length earlier) t.token both.0) (label_fits t.token both.1)

labels_fit : (t : Tree labels) → labels_offences t ≡ [] → FitsLabels (labels_of t)
unfolding labels numbers labels_offences labels_of
labels_fit (first, more) h =
    let all : Few FitsLabel 64 (map (λ t. label_of t.token) (first ∷ more)) =
    each_keeps (Few FitsLabel 64) (λ earlier t. listed_offences (length earlier) t.token) (λ t. label_of t.token) labels_keep [] (first ∷ more)
    (none FitsLabel 64) h in
    (omega arith, all.few, all.fit)

-- ---- guards

guard_fits : (earlier : ℕ) (t : Tree guard) → guard_offences earlier t ≡ [] → (earlier < 8) × FitsGuard (guard_of t)
unfolding guard equation guard_offences guard_of
guard_fits earlier (inl (register, (sign, value))) h =
    let both : (ninth_offences earlier register.token ≡ [])
    × (out_of_range (pos 0) (pos 127) register.token ≡ []) = none_of (ninth_offences earlier register.token)
    (out_of_range (pos 0) (pos 127) register.token)
    (none_highest (ninth_offences earlier register.token ++ out_of_range (pos 0) (pos 127) register.token) h) in
    (room 8 earlier register.token both.0, (in_range 0 127 register.token both.1).2)
guard_fits earlier (inr never) h = (room 8 earlier never.token h, tt)

guards_keep : (earlier : List Guard) (t : Tree (one terminal.Comma ▸ guard)) → Few FitsGuard 8 earlier → guard_offences (length earlier) t.1 ≡ [] →
    Few FitsGuard 8 (earlier ++ guard_of t.1 ∷ [])
guards_keep earlier t p h =
    let g : (length earlier < 8) × FitsGuard (guard_of t.1) = guard_fits (length earlier) t.1 h in
    one_more FitsGuard 8 earlier (guard_of t.1) p g.0 g.1

guards_fit : (t : Tree guards) → guards_offences t ≡ [] → FitsGuards (guards_of t)
unfolding guards more_guards guards_offences guards_of
guards_fit (when, (first, more)) h =
    let later : List Refused = each_offends (λ earlier next. guard_offences (length earlier) next.1) (λ next. guard_of next.1) (guard_of first ∷ []) more in
    let both : (guard_offences 0 first ≡ []) × (later ≡ []) = none_of (guard_offences 0 first) later h in
    let g : (0 < 8) × FitsGuard (guard_of first) = guard_fits 0 first both.0 in
    let all : Few FitsGuard 8 ((guard_of first ∷ []) ++ map (λ next. guard_of next.1) more) =
    each_keeps (Few FitsGuard 8) (λ earlier next. guard_offences (length earlier) next.1) (λ next. guard_of next.1) guards_keep (guard_of first ∷ []) more
    (one_more FitsGuard 8 [] (guard_of first) (none FitsGuard 8) g.0 g.1) both.1 in
    (omega arith, all.few, all.fit)

-- ---- passes

anchors_fit : (earlier : ℕ) (t : Tree anchors_pass) → anchors_offences earlier t ≡ [] → (earlier < 256) × FitsPass (anchors_of t)
unfolding anchors_pass anchors_offences anchors_of
anchors_fit earlier (word, places) h =
    let both : (pass_word_offences earlier word.token ≡ [])
    × (labels_offences places ≡ []) = none_of (pass_word_offences earlier word.token) (labels_offences places) h in
    (room 256 earlier word.token both.0, labels_fit places both.1)

assume_fits : (earlier : ℕ) (t : Tree assume_pass) → assume_offences earlier t ≡ [] → (earlier < 256) × FitsPass (assume_of t)
unfolding assume_pass assume_offences assume_of
assume_fits earlier (word, (anchor, tests)) h =
    let both : (pass_word_offences earlier word.token ≡ [])
    × (label_offences anchor.token ++ guards_offences tests ≡ []) = none_of (pass_word_offences earlier word.token) (label_offences anchor.token
    ++ guards_offences tests) h in
    let inner : (label_offences anchor.token ≡ []) × (guards_offences tests ≡ []) = none_of (label_offences anchor.token) (guards_offences tests) both.1 in
    (room 256 earlier word.token both.0, (label_fits anchor.token inner.0, guards_fit tests inner.1))

delay_fits : (earlier : ℕ) (t : Tree delay_pass) → delay_offences earlier t ≡ [] → (earlier < 256) × FitsPass (delay_of t)
unfolding delay_pass delay_offences delay_of
delay_fits earlier (word, (path, tests)) h =
    let both : (pass_word_offences earlier word.token ≡ [])
    × (labels_offences path ++ guards_offences tests ≡ []) = none_of (pass_word_offences earlier word.token)
    (labels_offences path ++ guards_offences tests) h in
    let inner : (labels_offences path ≡ []) × (guards_offences tests ≡ []) = none_of (labels_offences path) (guards_offences tests) both.1 in
    (room 256 earlier word.token both.0, (labels_fit path inner.0, guards_fit tests inner.1))

const_fits : (earlier : ℕ) (t : Tree const_pass) → const_offences earlier t ≡ [] → (earlier < 256) × FitsPass (const_of t)
unfolding const_pass const_offences const_of
const_fits earlier word h = (room 256 earlier word.token h, tt)

inline_fits : (earlier : ℕ) (t : Tree inline_pass) → inline_offences earlier t ≡ [] → (earlier < 256) × FitsPass (inline_of t)
unfolding inline_pass inline_offences inline_of
inline_fits earlier (word, call) h =
    let both : (pass_word_offences earlier word.token ≡ [])
    × (label_offences call.token ≡ []) = none_of (pass_word_offences earlier word.token) (label_offences call.token) h in
    (room 256 earlier word.token both.0, label_fits call.token both.1)

pass_fits : (earlier : ℕ) (t : Tree any_pass) → pass_offences earlier t ≡ [] → (earlier < 256) × FitsPass (pass_of t)
unfolding any_pass pass_offences pass_of
pass_fits earlier (inl t) h = anchors_fit earlier t h
pass_fits earlier (inr (inl t)) h = assume_fits earlier t h
pass_fits earlier (inr (inr (inl t))) h = delay_fits earlier t h
pass_fits earlier (inr (inr (inr (inl t)))) h = const_fits earlier t h
pass_fits earlier (inr (inr (inr (inr t)))) h = inline_fits earlier t h

passes_keep : (earlier : List Pass) (t : Tree any_pass) → Few FitsPass 256 earlier → pass_offences (length earlier) t ≡ [] →
    Few FitsPass 256 (earlier ++ pass_of t ∷ [])
passes_keep earlier t p h =
    let g : (length earlier < 256) × FitsPass (pass_of t) = pass_fits (length earlier) t h in
    one_more FitsPass 256 earlier (pass_of t) p g.0 g.1

passes_fit : (t : Tree passes) → passes_offences t ≡ [] → Few FitsPass 256 (passes_of t)
unfolding passes passes_offences passes_of
passes_fit items h =
    each_keeps (Few FitsPass 256) (λ earlier item. pass_offences (length earlier) item) pass_of passes_keep [] items (none FitsPass 256) h

-- ---- runs

begun_fine : (functions : List Function) (spent : ℕ) (t : Tree begun) → begun_offences functions (pos spent) t ≡ [] → FitsCall functions (begun_of functions t)
begun_fine functions spent t h =
    begun_fits functions spent (leaves begun t ++ []) [] (Ok (begun_of functions t)) (begun_reads functions spent t [] ∙ rw h refl)

limit_within : (functions : List Function) (spent : ℕ) (t : Tree begun) → begun_offences functions (pos spent) t ≡ [] →
    spent + (begun_of functions t).limit ≤ 4000000
unfolding begun begun_offences begun_of limit_of
limit_within functions spent (name, (args, (None, (word, limit)))) h =
    (limit_fine spent limit.token (none_of (callee_offences functions (length args) name.token) (limit_offences (pos spent) limit.token) h).1).2
limit_within functions spent (name, (args, (Some (memory, cells), (word, limit)))) h =
    (limit_fine spent limit.token
    (none_of (out_of_range (pos 0) (pos 65536) cells.token) (limit_offences (pos spent) limit.token)
    (none_of (callee_offences functions (length args) name.token) (out_of_range (pos 0) (pos 65536) cells.token ++ limit_offences (pos spent) limit.token)
    h).1).1).2

-- ---- events

-- an event fits, and with it the limits hold
record FitsBehind (functions : List Function) (earlier : List Event) (event : Event) : Type 0 where
  fits : FitsEvent functions (runs earlier) event
  within : IsWithin (tally_of earlier) → IsWithin (counted (tally_of earlier) event)

begin_fits : (functions : List Function) (earlier : List Event) (t : Tree begin_event) → begin_offences functions earlier t ≡ [] →
    FitsBehind functions earlier (begin_of functions t)
unfolding begin_event begin_offences begin_of counted tally_of
begin_fits functions earlier (word, call) h =
    let both : (event_word_offences (runs earlier) word.token ≡ [])
    × (begun_offences functions (pos (limits earlier)) call ≡ []) = none_of (event_word_offences (runs earlier) word.token)
    (begun_offences functions (pos (limits earlier)) call) h in
    let few : runs earlier < 256 = room 256 (runs earlier) word.token both.0 in
    record {
      fits = begun_fine functions (limits earlier) call both.1;
      within = λ w. record {
        few_runs = omega arith;
        few_turns = limit_within functions (limits earlier) call both.1;
        few_steps = w.few_steps;
        few_compiles =
            w.few_compiles;
      };
    }

step_fits : (functions : List Function) (earlier : List Event) (t : Tree step_event) → step_offences earlier t ≡ [] → FitsBehind functions earlier (step_of t)
unfolding step_event step_offences step_of counted tally_of
step_fits functions earlier (word, (run, count)) h =
    let both : (run_offences (runs earlier) run.token ≡ [])
    × (count_offences (counts earlier) count.token ≡ []) = none_of (run_offences (runs earlier) run.token)
    (count_offences (counts earlier) count.token) h in
    let r = in_range 1 (runs earlier) run.token both.0 in
    let c = limit_fine (counts earlier) count.token both.1 in
    record {
      fits = (r.1, r.2, c.0, c.1);
      within = λ w. record { few_runs = w.few_runs; few_turns = w.few_turns; few_steps = c.2; few_compiles = w.few_compiles };
    }

compile_fits : (functions : List Function) (earlier : List Event) (t : Tree compile_event) → compile_offences functions earlier t ≡ [] →
    FitsBehind functions earlier (compile_of functions t)
unfolding compile_event compile_offences compile_of counted tally_of
compile_fits functions earlier (word, (name, (open_brace, (items, close_brace)))) h =
    let both : (event_word_offences (compiles earlier) word.token ≡ [])
    × (function_offences functions name.token ++ passes_offences items ≡ []) = none_of (event_word_offences (compiles earlier) word.token)
    (function_offences functions name.token ++ passes_offences items) h in
    let inner : (function_offences functions name.token ≡ [])
    × (passes_offences items ≡ []) = none_of (function_offences functions name.token) (passes_offences items) both.1 in
    let found = function_fine functions name.token inner.0 in
    let few : compiles earlier < 256 = room 256 (compiles earlier) word.token both.0 in
    let all : Few FitsPass 256 (passes_of items) = passes_fit items inner.1 in
    record {
      fits = (slice_get_within functions (id_named functions name.token).0 found.0 found.2, all.few, all.fit);
      within = λ w. record { few_runs = w.few_runs; few_turns = w.few_turns; few_steps = w.few_steps; few_compiles = omega arith };
    }

event_fits : (functions : List Function) (earlier : List Event) (t : Tree event) → event_offences functions earlier t ≡ [] →
    FitsBehind functions earlier (event_of functions t)
unfolding event event_offences event_of
event_fits functions earlier (inl t) h = begin_fits functions earlier t h
event_fits functions earlier (inr (inl t)) h = step_fits functions earlier t h
event_fits functions earlier (inr (inr t)) h = compile_fits functions earlier t h

each_fits : (functions : List Function) (earlier : List Event) (items : List (Tree event)) →
    each_offends (event_offences functions) (event_of functions) earlier items ≡ [] → EachFits functions earlier (map (event_of functions) items)
each_fits functions earlier [] h = tt
each_fits functions earlier (t ∷ items) h =
    let later : List Refused = each_offends (event_offences functions) (event_of functions) (earlier ++ event_of functions t ∷ []) items in
    let both : (event_offences functions earlier t ≡ []) × (later ≡ []) = none_of (event_offences functions earlier t) later h in
    ((event_fits functions earlier t both.0).fits, each_fits functions (earlier ++ event_of functions t ∷ []) items both.1)

events_keep : (functions : List Function) (earlier : List Event) (t : Tree event) → IsWithin (tally_of earlier) → event_offences functions earlier t ≡ [] →
    IsWithin (tally_of (earlier ++ event_of functions t ∷ []))
events_keep functions earlier t w h =
    rw (tally_more earlier (event_of functions t)) ((event_fits functions earlier t h).within w)

nothing_within : IsWithin (tally_of [])
unfolding tally_of
nothing_within = record { few_runs = omega arith; few_turns = omega arith; few_steps = omega arith; few_compiles = omega arith }

events_fit : (p : Program) (t : Tree events) → events_offences p.functions t ≡ [] → FitsEvents p (events_of p.functions t)
unfolding events events_offences events_of tally_of
events_fit p items h =
    let all : IsWithin (tally_of (map (event_of p.functions) items)) =
    each_keeps (λ es. IsWithin (tally_of es)) (event_offences p.functions) (event_of p.functions) (events_keep p.functions) [] items nothing_within h in
    record {
      each = each_fits p.functions [] items h;
      few_runs = all.few_runs;
      few_turns = all.few_turns;
      few_steps = all.few_steps;
      few_compiles = all.few_compiles;
    }

pub history_fits : (p : Program) (t : Tree history) → history_offences p t ≡ [] → FitsEvents p (history_of p t)
unfolding history history_offences history_of
history_fits p (word, items) h = events_fit p items h
