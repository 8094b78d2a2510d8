-- Events that keep the limits of a text can be played.
use Rattle.std.proofs.Common.{subst, ℕ, List, [], ◌∷◌, ◌++◌}
use Rattle.std.proofs.lemmas.List.Sums.{sum_by_push}
use Rattle.cj_ir.specs.declared.language.Function.{Function}
use Rattle.cj_ir.specs.declared.language.Program.{Program}
use Rattle.cj_events.specs.declared.events.Event.{Event}
use Rattle.cj_events.specs.declared.events.Event.TheVariants.{Begin, Step, Compile}
use Rattle.cj_events.specs.Fitting.{FitsEvent, EachFits, FitsEvents}
use Rattle.cj_events.specs.Playable.{CanHappen, EachCanHappen, CanPlay}
use Rattle.cj_events.specs.Tallies.{begun_by, runs}

can_happen : (functions : List Function) (begun : ℕ) (event : Event) → FitsEvent functions begun event → CanHappen functions begun event
can_happen functions begun (Begin call) fits =
    record { takes = fits.takes; some_turn = fits.some_turn; few_turns = fits.few_turns }
can_happen functions begun (Step run count) fits = (fits.0, fits.1)
can_happen functions begun (Compile function passes) fits = fits.0

each_can : (functions : List Function) (earlier events : List Event) → EachFits functions earlier events → EachCanHappen functions (runs earlier) events
each_can functions earlier [] fits = tt
each_can functions earlier (event ∷ events) fits =
    let later = each_can functions (earlier ++ event ∷ []) events fits.1 in
    (can_happen functions (runs earlier) event fits.0, subst (λ (n : ℕ). EachCanHappen functions n events) (sum_by_push begun_by earlier event) later)

pub fits_play : (p : Program) (events : List Event) → FitsEvents p events → CanPlay p events
fits_play p events fits = each_can p.functions [] events fits.each
