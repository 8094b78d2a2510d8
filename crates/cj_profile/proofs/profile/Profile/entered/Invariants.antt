use Rattle.std.proofs.Common.{List, ◌∷◌, take}
use Rattle.cj_profile.specs.declared.layout.Word.TheVariants.{Calls}
use Rattle.cj_profile.specs.declared.view.Read.{Read}
use Rattle.cj_profile.specs.Reads.{add_one, ParamsPart}
use Rattle.cj_profile.specs.Seats.{Belongs, IsSame, Adds}
use Rattle.cj_profile.proofs.profile.Profile.entered.Given as goal

abbrev pub invariant-loop-param : goal.invariant-loop-param
invariant-loop-param l = record {
  own : Belongs l.self l.seat;
  same : IsSame l.fn.seat l.seat;
  reads : (params : List Read) × ParamsPart l.f 0 (take l.param l.args) params × Adds (add_one (Calls l.f) l.found ∷ params) l.fn.seat l.seat;
}
