-- How the windows over a list of values change with it.
use Rattle.std.proofs.Common.{◌≡◌, ◌∙◌, sym, ap, refl, subst, ℕ, ◌+◌, ◌-◌, ◌<◌, ◌≤◌, List, [], ◌∷◌, ◌++◌, length, take, drop, reverse, map, Some, None, arith}
use Rattle.std.proofs.Common.{ℤ}
use Rattle.std.specs.Prelude.{slice_get, slice_set}
use Rattle.std.proofs.lemmas.List.{reverse-append, take-append-drop, take_rest, take_at, drop_at, take-set-le, drop-set-add, length-set, length-drop}
use Rattle.std.proofs.lemmas.List.{length-take-le, length-append}
use Rattle.cj_ir.specs.declared.language.Label.{Label}
use Rattle.cj_ir.specs.declared.language.Reg.{Reg}
use Rattle.cj_base.proofs.Lists.{none_last, reverse_last}
use Rattle.cj_base.specs.declared.machine.Frame.{Frame}
use Rattle.cj_base.specs.declared.machine.Waiting.{Waiting}
use Rattle.cj_base.specs.Machine.{waits}
use Rattle.cj_activations.specs.declared.windows.Position.{Position}
use Rattle.cj_activations.specs.declared.windows.Position.TheVariants.{Base, Version}
use Rattle.cj_activations.specs.declared.windows.Window.{Window}
use Rattle.cj_activations.specs.declared.windows.Body.{Body}
use Rattle.cj_activations.specs.declared.windows.Body.TheVariants as body
use Rattle.cj_activations.specs.Activations.{Active, InBase, InVersion, BaseWaits, Stacked}
use Rattle.cj_activations.specs.Windows.{active_at, paused_by, paused_in, position_at, position_in, stacked_in, AreTiled, waiting_window, Extends, Pushes}
use Rattle.cj_activations.specs.Windows.{Writes}
use Rattle.cj_activations.specs.Changes.{active_regs, called, entered, paused_regs, position_of, waits_of, innermost, HasDest, waiting_registers, all_registers}
use Rattle.cj_activations.specs.Changes.{with_label, with_regs, paused, resumed, returned, returned_to, rebuilt}

-- Activations at a position.

pub position_is : (p : Position) (regs : List ℤ) → position_of (active_at p regs) ≡ p
unfolding position_of active_at
position_is (Base f label) regs = refl
position_is (Version f offset label) regs = refl

pub regs_are : (p : Position) (regs : List ℤ) → active_regs (active_at p regs) ≡ regs
unfolding active_regs active_at
regs_are (Base f label) regs = refl
regs_are (Version f offset label) regs = refl

pub moved_is : (b : Body) (label next : Label) (regs : List ℤ) → active_at (position_at b next) regs ≡ with_label (active_at (position_at b label) regs) next
unfolding active_at position_at with_label
moved_is (body.Base f) label next regs = refl
moved_is (body.Version f offset) label next regs = refl

pub with_regs_is : (p : Position) (regs other : List ℤ) → active_at p other ≡ with_regs (active_at p regs) other
unfolding active_at with_regs
with_regs_is (Base f label) regs other = refl
with_regs_is (Version f offset label) regs other = refl

paused_regs_are : (w : Window) (p : Position) (regs : List ℤ) → paused_regs (paused_by w p regs) ≡ regs
unfolding paused_regs paused_by
paused_regs_are w (Base f label) regs = refl
paused_regs_are w (Version f offset label) regs = refl

waiting_regs_are : (active : Active) (dest : Reg) (next : Label) → paused_regs (paused active dest next) ≡ active_regs active
unfolding paused_regs paused active_regs waits
waiting_regs_are (InBase frame) dest next = refl
waiting_regs_are (InVersion frame) dest next = refl

resumed_is : (w : Window) (b : Body) (label : Label) (regs : List ℤ) (dest : Reg) (next : Label) (v : ℤ)
    → active_at (position_at b next) (slice_set regs dest.0 v) ≡ resumed (paused_by w (position_at b label) regs) dest next v
unfolding active_at position_at paused_by resumed
resumed_is w (body.Base f) label regs dest next v = refl
resumed_is w (body.Version f offset) label regs dest next v = refl

paused_at : (w : Window) (b : Body) (label : Label) (regs : List ℤ) (dest : Reg) (next : Label) → w.body ≡ b → w.label ≡ label
    → paused_by (waiting_window w (position_at b label) dest next) (position_in (waiting_window w (position_at b label) dest next)) regs
    ≡ paused (active_at (position_at b label) regs) dest next
unfolding position_at paused_by waiting_window paused active_at waits
paused_at w (body.Base f) label regs dest next e g = rw e refl
paused_at w (body.Version f offset) label regs dest next e g = rw (e, g) refl

paused_is : (w : Window) (regs : List ℤ) (dest : Reg) (next : Label)
    → paused_by (waiting_window w (position_in w) dest next) (position_in (waiting_window w (position_in w) dest next)) regs
    ≡ paused (active_at (position_in w) regs) dest next
paused_is w regs dest next = paused_at w w.body w.label regs dest next refl refl

start_stays : (w : Window) (p : Position) (dest : Reg) (next : Label) → (waiting_window w p dest next).start ≡ w.start
unfolding waiting_window
start_stays w (Base f label) dest next = refl
start_stays w (Version f offset label) dest next = refl

-- The registers of all activations are the list that the windows cut.

waiting_are : (values : List ℤ) (ws : List Window) → AreTiled values ws → waiting_registers (paused_in values ws) ≡ values
unfolding waiting_registers paused_in
waiting_are values [] t = sym t
waiting_are values (w ∷ ws) t =
    rw (waiting_are (take w.start values) ws t.1, paused_regs_are w (position_in w) (drop w.start values)) (take-append-drop w.start values)

pub all_are : (values : List ℤ) (top : Window) (ws : List Window) → AreTiled values (top ∷ ws) → all_registers (stacked_in values top ws) ≡ values
unfolding all_registers stacked_in
all_are values top ws t =
    rw (waiting_are (take top.start values) ws t.1, regs_are (position_in top) (drop top.start values)) (take-append-drop top.start values)

-- The same of a value that the windows give.

pub position_seen : (values : List ℤ) (top : Window) (ws : List Window) (s : Stacked) → stacked_in values top ws ≡ s
    → (position_in top) ≡ position_of s.top
unfolding stacked_in
position_seen values top ws s is =
    sym (position_is (position_in top) (drop top.start values)) ∙ ap (λ (x : Stacked). position_of x.top) is

pub regs_seen : (values : List ℤ) (top : Window) (ws : List Window) (s : Stacked) → stacked_in values top ws ≡ s
    → drop top.start values ≡ active_regs s.top
unfolding stacked_in
regs_seen values top ws s is =
    sym (regs_are (position_in top) (drop top.start values)) ∙ ap (λ (x : Stacked). active_regs x.top) is

pub regs_cut : (all values : List ℤ) (top : Window) (ws : List Window) (s : Stacked) → all ≡ values → stacked_in values top ws ≡ s
    → take (length all - top.start) (drop top.start all) ≡ active_regs s.top
regs_cut all values top ws s e is = rw (e, take_rest values top.start) (regs_seen values top ws s is)

pub set_within : (values : List ℤ) (top : Window) (ws : List Window) (s : Stacked) (d : ℕ) → stacked_in values top ws ≡ s
    → d < length (active_regs s.top) → top.start + d < length values
set_within values top ws s d is below =
    let e = ap length (regs_seen values top ws s is) in
    omega (arith, length-drop top.start values)

pub all_seen : (values : List ℤ) (top : Window) (ws : List Window) (s : Stacked) → stacked_in values top ws ≡ s
    → AreTiled values (top ∷ ws) → values ≡ all_registers s
all_seen values top ws s is t = sym (all_are values top ws t) ∙ ap all_registers is

pub none_waits : (values : List ℤ) (top : Window) (waiting : List Window) (s : Stacked) → slice_get waiting (length waiting - 1) ≡ None
    → stacked_in values top (reverse waiting) ≡ s → innermost s.waiting ≡ None
unfolding stacked_in paused_in innermost
none_waits values top waiting s none is =
    let empty = rw (none_last waiting none) at is in
    sym (ap (λ (x : Stacked). innermost x.waiting) empty)

pub some_waits : (values : List ℤ) (top w : Window) (waiting : List Window) (s : Stacked) → slice_get waiting (length waiting - 1) ≡ Some w
    → stacked_in values top (reverse waiting) ≡ s
    → (regs : List ℤ) × (innermost s.waiting ≡ Some (waits_of (paused_by w (position_in w) regs)))
unfolding stacked_in paused_in innermost
some_waits values top w waiting s some is =
    let cut = rw (reverse_last waiting w some) at is in
    (drop w.start (take top.start values), sym (ap (λ (x : Stacked). innermost x.waiting) cut))

pub moved_seen : (values : List ℤ) (top : Window) (ws : List Window) (s : Stacked) (next : Label) → stacked_in values top ws ≡ s
    → stacked_in values (record top { label = next }) ws ≡ record s { top = with_label s.top next }
unfolding stacked_in
moved_seen values top ws s next is =
    rw (moved_is top.body top.label next (drop top.start values)) (ap (λ (x : Stacked). record x { top = with_label x.top next }) is)

-- A register of the top is set.

pub set_tiled : (values : List ℤ) (top : Window) (ws : List Window) (d : ℕ) (v : ℤ) → AreTiled values (top ∷ ws)
    → AreTiled (slice_set values (top.start + d) v) (top ∷ ws)
set_tiled values top ws d v t =
    let same = take-set-le top.start values (top.start + d) v (omega arith) in
    (rw (length-set values (top.start + d) v) t.0, rw same t.1)

pub set_seen : (values : List ℤ) (top : Window) (ws : List Window) (s : Stacked) (d : ℕ) (v : ℤ) → stacked_in values top ws ≡ s
    → stacked_in (slice_set values (top.start + d) v) top ws ≡ record s { top = with_regs s.top (slice_set (active_regs s.top) d v) }
unfolding stacked_in
set_seen values top ws s d v is =
    let same = take-set-le top.start values (top.start + d) v (omega arith) in
    let set = drop-set-add top.start values d v in
    let regs = sym (regs_are (position_in top) (drop top.start values)) in
    rw (same, set, with_regs_is (position_in top) (drop top.start values) (slice_set (drop top.start values) d v))
    (ap (λ (x : Stacked). record x { top = with_regs x.top (slice_set (drop top.start values) d v) }) is
    ∙ ap (λ regs. record s { top = with_regs s.top (slice_set regs d v) }) (regs_seen values top ws s is))

-- A call.

reverse_push : {A : Type 0} (xs : List A) (x : A) → reverse (xs ++ x ∷ []) ≡ x ∷ reverse xs
reverse_push xs x = reverse-append xs (x ∷ [])

window_start : (top : Window) (dest : Reg) (next : Label) → (waiting_window top (position_in top) dest next).start ≡ top.start
window_start top dest next = start_stays top (position_in top) dest next

pub called_tiled : (values values' entry : List ℤ) (top new w : Window) (waiting waiting' : List Window) (dest : Reg) (next : Label)
    → values' ≡ values ++ entry → waiting' ≡ waiting ++ w ∷ [] → w ≡ waiting_window top (position_in top) dest next
    → new.start ≡ length values → AreTiled values (top ∷ reverse waiting) → AreTiled values' (new ∷ reverse waiting')
called_tiled values values' entry top new w waiting waiting' dest next e f g start t =
    let cut = take_at values entry new.start (sym start) in
    let same = ap (λ (x : Window). x.start) g ∙ window_start top dest next in
    let within : new.start ≤ length (values ++ entry) = omega (arith, length-append values entry) in
    rw (e, f) (within, rw (reverse_push waiting w, cut, same) t)

pub called_seen : (values values' entry : List ℤ) (top new w : Window) (p : Position) (waiting waiting' : List Window) (s : Stacked) (dest : Reg) (next : Label)
    → position_in new ≡ p → values' ≡ values ++ entry → waiting' ≡ waiting ++ w ∷ [] → w ≡ waiting_window top (position_in top) dest next
    → new.start ≡ length values → stacked_in values top (reverse waiting) ≡ s
    → stacked_in values' new (reverse waiting') ≡ record { top = active_at p entry; waiting = paused s.top dest next ∷ s.waiting }
unfolding stacked_in paused_in
called_seen values values' entry top new w p waiting waiting' s dest next at e f g start is =
    let same = window_start top dest next in
    let v = waiting_window top (position_in top) dest next in
    rw (
      at,
      e,
      f,
      g,
      reverse_push waiting v,
      take_at values entry new.start (sym start),
      drop_at values entry new.start (sym start),
      paused_is top
          (drop v.start values) dest next,
      same,
    )
    (ap (λ (x : Stacked). record { top = active_at p entry; waiting = paused x.top dest next ∷ x.waiting }) is)

-- A return.

pub returned_tiled : (values values' : List ℤ) (top w new : Window) (waiting left : List Window) (d : ℕ) (v : ℤ) → waiting ≡ left ++ w ∷ []
    → new.start ≡ w.start → values' ≡ slice_set (take top.start values) (w.start + d) v
    → AreTiled values (top ∷ reverse waiting) → AreTiled values' (new ∷ reverse left)
returned_tiled values values' top w new waiting left d v e start f t =
    let cut = rw (e, reverse_push left w) at t.1 in
    rw (f, start) (set_tiled (take top.start values) w (reverse left) d v cut)

pub returned_within : (values : List ℤ) (top w : Window) (waiting left : List Window) (s : Stacked) (dest : Reg) → waiting ≡ left ++ w ∷ []
    → stacked_in values top (reverse waiting) ≡ s → HasDest dest s.waiting → w.start + dest.0 < length (take top.start values)
unfolding stacked_in paused_in
returned_within values top w waiting left s dest e is has =
    let cut = rw (e, reverse_push left w) at is in
    let has' = subst (λ (x : Stacked). HasDest dest x.waiting) (sym cut) has in
    let below : dest.0 < length (drop w.start (take top.start values)) =
    rw (paused_regs_are w (position_in w) (drop w.start (take top.start values))) at has' in
    omega (arith, length-drop w.start (take top.start values))

pub returned_seen : (values values' : List ℤ) (top w new : Window) (waiting left : List Window) (s : Stacked) (dest : Reg) (next : Label) (v : ℤ)
    → waiting ≡ left ++ w ∷ [] → new.body ≡ w.body → new.label ≡ next → new.start ≡ w.start
    → values' ≡ slice_set (take top.start values) (w.start + dest.0) v
    → stacked_in values top (reverse waiting) ≡ s → stacked_in values' new (reverse left) ≡ returned s dest next v
unfolding stacked_in paused_in returned returned_to
returned_seen values values' top w new waiting left s dest next v e same label start f is =
    let cut = rw (e, reverse_push left w) at is in
    let below = take top.start values in
    rw (
      f,
      same,
      label,
      start,
      take-set-le w.start below (w.start + dest.0) v (omega arith),
      drop-set-add w.start below dest.0 v,
      resumed_is w w.body w.label
          (drop w.start below) dest next v,
    )
    (ap (λ (x : Stacked). returned x dest next v) cut)

pub none_to_take : (values : List ℤ) (top : Window) (s : Stacked) (dest : Reg) → stacked_in values top (reverse []) ≡ s → HasDest dest s.waiting → ⊥
unfolding stacked_in paused_in
none_to_take values top s dest is has = subst (λ (x : Stacked). HasDest dest x.waiting) (sym is) has

-- Base frames.

pub pushes_one : (frame : Waiting) (windows windows' : List Window) (values values' : List ℤ) (start : ℕ)
    → values' ≡ values ++ frame.regs
    → windows' ≡ windows ++ record { body = body.Base frame.function; label = frame.label; dest = frame.dest; start = start } ∷ []
    → start ≡ length values → Pushes (frame ∷ []) windows windows' values values'
unfolding paused_in paused_by position_at
pushes_one frame windows windows' values values' start e f g =
    let cut = take_at values frame.regs start (sym g) in
    let kept = drop_at values frame.regs start (sym g) in
    let within : start ≤ length (values ++ frame.regs) = omega (arith, length-append values frame.regs) in
    rw (e, f) (record {
      waits = rw (reverse_push windows _, cut, kept) refl;
      tiled = λ t. rw (reverse_push windows _, cut) (within, t);
    })

pub writes_all : (top : Frame) (waiting : List Waiting) (w : Window) (windows windows' : List Window) (values values' values'' : List ℤ)
    → Pushes waiting windows windows' values values' → values'' ≡ values' ++ top.regs
    → (position_in w) ≡ Base top.function top.label → w.start ≡ length values' → Writes top waiting w windows windows' values values''
unfolding stacked_in active_at
writes_all top waiting w windows windows' values values' values'' p e position start =
    let cut = take_at values' top.regs w.start (sym start) in
    let kept = drop_at values' top.regs w.start (sym start) in
    let within : w.start ≤ length (values' ++ top.regs) = omega (arith, length-append values' top.regs) in
    rw e (record {
      stacked = rw (position, cut, kept) (ap (λ ws. record { top = InBase top; waiting = ws }) p.waits);
      tiled = λ t. (within, rw cut (p.tiled t));
    })

-- A rebuild.

pub rebuilt_seen : (values new_values : List ℤ) (top w : Window) (waiting new_waiting : List Window) (s : Stacked) (frame : Frame) (frames : List Waiting)
    → stacked_in values top (reverse waiting) ≡ s → Writes frame frames w waiting new_waiting (take top.start values) new_values
    → stacked_in new_values w (reverse new_waiting) ≡ rebuilt s frame frames
unfolding stacked_in rebuilt
rebuilt_seen values new_values top w waiting new_waiting s frame frames is p =
    p.stacked ∙ ap (λ (x : Stacked). record { top = InBase frame; waiting = map BaseWaits frames ++ x.waiting }) is

pub cut_back : {A : Type 0} (old new : List A) (n : ℕ) → Extends old new → length old ≡ n → take n new ≡ old
cut_back old new n p e = rw p.is (take_at old p.rest n e)

-- what was written behind a list is cut off, and what had stood there is put back
pub put_back : (values written : List ℤ) (start : ℕ) → start ≤ length values → Extends (take start values) written →
    take start written ++ drop start values ≡ values
put_back values written start within p =
    ap (λ (xs : List ℤ). xs ++ drop start values) (cut_back (take start values) written start p (length-take-le start values within))
    ∙ take-append-drop start values

-- The first activation.

pub entered_seen : (values entry : List ℤ) (top : Window) (p : Position) → values ≡ entry → position_in top ≡ p → top.start ≡ 0
    → stacked_in values top (reverse []) ≡ record { top = active_at p entry; waiting = [] }
unfolding stacked_in paused_in
entered_seen values entry top p e at start = rw (e, at, start) refl

pub called_has_dest : (s new : Stacked) (dest d : Reg) (next : Label) (position : Position) (count : ℕ) (args : List ℤ)
    → new ≡ called s dest next position count args → d.0 < length (active_regs s.top) → HasDest d new.waiting
unfolding called entered
called_has_dest s new dest d next position count args e within =
    rw e (rw (waiting_regs_are s.top dest next) within)
