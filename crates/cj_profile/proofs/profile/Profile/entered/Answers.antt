use Rattle.std.proofs.Common.{rules, w64, SFits, ◌≡◌, ◌+◌, ◌<◌, ℕ, ℤ, pos, [], ◌∷◌, ◌++◌, length, take, get_or, sym, subst, arith}
use Rattle.std.proofs.lemmas.List.{take_more, length-take-le}
use Rattle.std.proofs.lemmas.Int.{to_z-of_z}
use Rattle.cj_profile.specs.declared.layout.Word.TheVariants.{Calls}
use Rattle.cj_profile.specs.Reads.{add_one, ParamPart, ParamsPart}
use Rattle.cj_profile.proofs.Adding.{adds_on, same_on}
use Rattle.cj_profile.proofs.Parts.{params_push}
use Rattle.cj_profile.proofs.profile.Profile.entered.Goals as goal

pub loop-param-preserved : goal.loop-param-preserved
loop-param-preserved c =
    let i = c.loop-param.invariant in
    let n : ℕ = c.loop-param.param in
    let f = c.args.f in
    let args = c.args.args.now in
    let arg : ℤ = get_or args n (pos 0) in
    let part = c.agree.ensures.reads in
    let fits : SFits w64 arg = search rules in
    let one : ParamPart f n arg part.0 = subst (λ z. ParamPart f n z part.0) (to_z-of_z w64 arg fits) part.1 in
    let inside : n < length args = c.loop-param-test.true in
    let taken = length-take-le n args (omega arith) in
    let long : 0 + length (take n args) ≡ n = omega arith in
    let more = params_push f 0 (take n args) arg i.reads.0 part.0 i.reads.1 (subst (λ k. ParamPart f k arg part.0) (sym long) one) in
    let next : take (n + 1) args ≡ take n args ++ arg ∷ [] = take_more args n (pos 0) inside in
    let entry = add_one (Calls f) c.add_one-found.result in
    record {
      own = c.agree.ensures.own;
      same = same_on c.args.seat.now c.loop-param.seat c.agree.new.seat i.same c.agree.ensures.same;
      reads = (
        i.reads.0 ++ part.0,
        subst (λ xs. ParamsPart f 0 xs (i.reads.0 ++ part.0)) (sym next) more,
        adds_on c.args.seat.now c.loop-param.seat c.agree.new.seat (entry ∷ i.reads.0) part.0 i.reads.2 part.2,
      );
    }
