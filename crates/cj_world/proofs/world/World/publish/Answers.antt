use Rattle.std.proofs.Common.{◌≡◌, ◌∙◌, ◌+◌, ◌<◌, ◌≤◌, refl, ap, subst, arith}
use Rattle.cj_world.specs.declared.played.Compiled.TheVariants.{TooLarge, Full}
use Rattle.cj_world.specs.declared.world.WordCount.{WordCount}
use Rattle.cj_world.specs.Worlds.{words_in, published}
use Rattle.cj_world.specs.Running.{HasWords}
use Rattle.cj_world.proofs.Changing.{claimed_large, claimed_full, claimed_room, published_world, published_orderly}
use Rattle.cj_world.proofs.world.World.publish.Goals as goal

pub returns-in-TooLarge-clause-answer : goal.returns-in-TooLarge-clause-answer
returns-in-TooLarge-clause-answer c =
    let w = c.args.self.now in
    let count = subst (λ (n : WordCount). HasWords (words_in c.args.version.code) n) c.in-TooLarge.is c.word_count.ensures in
    ap (λ len. TooLarge len) count.1 ∙ claimed_large w.words w.next (words_in c.args.version.code) count.0

pub returns-in-TooLarge-clause-made : goal.returns-in-TooLarge-clause-made
unfolding published
returns-in-TooLarge-clause-made c = refl

pub returns-then-next-need-clause-answer : goal.returns-then-next-need-clause-answer
returns-then-next-need-clause-answer c =
    let w = c.args.self.now in
    let len = words_in c.args.version.code in
    let count = subst (λ (n : WordCount). HasWords len n) c.in-Few.is c.word_count.ensures in
    let same : c.in-Few.need ≡ len = count.1 in
    let more : w.words < w.next + len = omega arith in
    ap (λ need. Full w.next need) same ∙ claimed_full w.words w.next len count.0 more

pub returns-then-next-need-clause-made : goal.returns-then-next-need-clause-made
unfolding published
returns-then-next-need-clause-made c = refl

pub returns-clause-answer : goal.returns-clause-answer
returns-clause-answer c =
    let w = c.args.self.now in
    let len = words_in c.args.version.code in
    let count = subst (λ (n : WordCount). HasWords len n) c.in-Few.is c.word_count.ensures in
    let same : c.in-Few.need ≡ len = count.1 in
    let room : w.next + len ≤ w.words = omega arith in
    claimed_room w.words w.next len count.0 room

pub returns-clause-made : goal.returns-clause-made
returns-clause-made c =
    let w = c.args.self.now in
    let e = c.in_ok-publish.ensures in
    let len = words_in c.args.version.code in
    let count = subst (λ (n : WordCount). HasWords len n) c.in-Few.is c.word_count.ensures in
    published_world c.args.version.code w _ (ap (λ need. w.next + need) count.1) e.current e.made refl e.trail refl refl

pub returns-clause-orderly : goal.returns-clause-orderly
returns-clause-orderly c =
    let w = c.args.self.now in
    let e = c.in_ok-publish.ensures in
    let len = words_in c.args.version.code in
    let count = subst (λ (n : WordCount). HasWords len n) c.in-Few.is c.word_count.ensures in
    published_orderly c.later_codes_keep_a_run.ensures c.later_codes_keep_a_report.ensures c.args.version.code w _ e.ready e.checked
    (ap (λ need. w.next + need) count.1) e.made refl c.requires.orderly
