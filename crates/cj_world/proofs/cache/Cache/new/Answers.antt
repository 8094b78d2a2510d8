use Rattle.std.proofs.Common.{◌≡◌, ◌∙◌, ap, arith, ℕ, replicate, length, map}
use Rattle.cj_world.specs.Caches.{made_in, made_of}
use Rattle.cj_world.proofs.Finding.{first_versions}
use Rattle.cj_world.proofs.cache.Cache.new.Goals as goal

pub returns-clause-made : goal.returns-clause-made
unfolding made_in
returns-clause-made c = ap (λ entries. map made_of entries) c.new.ensures.empty

pub returns-clause-current : goal.returns-clause-current
returns-clause-current c =
    let all : c.loop.index
    ≡ length c.args.checked.now.functions = omega (arith, ap length c.items-items.ensures, ap (λ p. length p.functions) c.program.ensures.same) in
    c.loop.invariant ∙ ap (λ (n : ℕ). replicate {A = ℕ} n 0) all

pub returns-clause-ready : goal.returns-clause-ready
returns-clause-ready c =
    let all : c.loop.index
    ≡ length c.args.checked.now.functions = omega (arith, ap length c.items-items.ensures, ap (λ p. length p.functions) c.program.ensures.same) in
    first_versions c.args.checked.now c.new.result.entries c.loop.current c.new.ensures.empty (c.loop.invariant ∙ ap (λ (n : ℕ). replicate {A = ℕ} n 0) all)
