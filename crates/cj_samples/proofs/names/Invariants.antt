use Rattle.std.proofs.Common.{◌≡◌, map, take}
use Rattle.cj_samples.proofs.names.Given as goal

abbrev pub invariant-loop-word : goal.invariant-loop-word
invariant-loop-word l = l.names ≡ map (λ word. word.now) (take l.word-index l.words)
