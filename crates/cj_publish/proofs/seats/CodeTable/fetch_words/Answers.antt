use Rattle.std.proofs.Common.{◌≡◌, ℕ, ◌+◌, List, [], ◌∷◌, ◌++◌, rules, refl, sym, ap, ◌∙◌, subst, arith}
use Rattle.cj_publish.specs.declared.view.Key.{Key}
use Rattle.cj_publish.specs.declared.view.View.{View}
use Rattle.cj_publish.proofs.Looks.{fetches}
use Rattle.cj_publish.proofs.Several.{HasRead, grows_same, after_fetch, grows_fetch, reads_fetch, first_word, read_whole}
use Rattle.cj_publish.proofs.Learning.{grows_learns}
use Rattle.cj_publish.proofs.seats.CodeTable.fetch_words.Goals as goal

pub load-len-requires : goal.load-len-requires
load-len-requires c =
    let s = c.args.seat.now in
    let x = c.requires.seen in
    let within = s.within.within x.0 x.1 in
    let at = x.3 in
    let size : s.seat.me.0.key.size ≡ c.args.self.now.size = ap (λ (k : Key). k.size) c.requires.own.key ∙ c.args.self.now.about.1 in
    let sized = c.args.self.now.sized.0 in
    (search rules, omega arith, fetches _ _ _ _ _ c.requires.own.live)

pub invariant_of-seat : goal.invariant_of-seat
invariant_of-seat c = let s = c.args.seat.now in let h =
    after_fetch 0 c.args.offset c.load-len.result s.seat.me c.load-len.new.seat.me s.held c.load-len.ensures.2 s.bare s.tied s.within in
    record { bare = h.0; tied = h.1; within = h.2; counted = record { count = h.3 ∙ s.counted.count; later = s.counted.later } }

pub returns-in_err-words-clause-grows : goal.returns-in_err-words-clause-grows
returns-in_err-words-clause-grows c = let v : View = c.args.seat.now.seat.me.0 in
    grows_fetch 0 c.args.offset c.load-len.result c.args.seat.now.seat.me c.load-len.new.seat.me v c.load-len.ensures.2 (grows_same v)

pub loop-i-init : goal.loop-i-init
loop-i-init c =
    let s = c.args.seat.now in
    let v : View = s.seat.me.0 in
    let m = s.seat.me in
    let m' = c.load-len.new.seat.me in
    let f = first_word 0 c.load-len.result m m' c.args.cell c.args.offset c.load-len.ensures.2 c.requires.seen in
    let two = f.0 in
    let room = f.1 in
    let size : v.key.size ≡ c.args.self.now.size = ap (λ (k : Key). k.size) c.requires.own.key ∙ c.args.self.now.about.1 in record {
      table = search rules;
      first = refl;
      splits = refl;
      grows = grows_fetch 0 c.args.offset c.load-len.result m m' v c.load-len.ensures.2 (grows_same v);
      read = subst (HasRead m'.0 c.args.cell c.args.offset c.load-len.result 1)
          (sym (c.push_reserved.ensures.items ∙ ap (λ (l : List ℕ). l ++ c.load-len.result ∷ []) c.in_ok-words.ensures.items))
          (reads_fetch 0 c.args.offset c.load-len.result m m' c.args.cell c.args.offset c.load-len.result 0 [] c.load-len.ensures.2 (omega arith)
          (omega arith) f.2);
      inside = omega arith;
      some = two;
      reliable = c.load-len.ensures.2.3;
    }

pub load-word-requires : goal.load-word-requires
load-word-requires c =
    let i = c.loop-i.invariant in
    let inside = i.inside in
    let sized = c.args.self.now.sized.0 in
    (search rules, omega arith, fetches _ _ _ _ _ (i.grows.live ∙ c.requires.own.live))

pub invariant_of-seat-in-loop-i : goal.invariant_of-seat-in-loop-i
invariant_of-seat-in-loop-i c = let s = c.loop-i.seat in let h =
    after_fetch 0 (c.args.offset + c.loop-i.i) c.load-word.result s.seat.me c.load-word.new.seat.me s.held c.load-word.ensures.2 s.bare s.tied s.within in
    record { bare = h.0; tied = h.1; within = h.2; counted = record { count = h.3 ∙ s.counted.count; later = s.counted.later } }

pub loop-i-preserved : goal.loop-i-preserved
loop-i-preserved c =
    let i = c.loop-i.invariant in
    let v : View = c.args.seat.now.seat.me.0 in
    let m = c.loop-i.seat.seat.me in
    let m' = c.load-word.new.seat.me in record {
      table = search rules;
      first = i.first;
      splits = i.splits;
      grows = grows_fetch 0 (c.args.offset + c.loop-i.i) c.load-word.result m m' v c.load-word.ensures.2 i.grows;
      read = subst (HasRead m'.0 c.args.cell c.args.offset c.load-len.result (c.loop-i.i + 1)) (sym c.push_reserved-in-loop-i.ensures.items)
          (reads_fetch 0 (c.args.offset + c.loop-i.i) c.load-word.result m m' c.args.cell c.args.offset c.load-len.result c.loop-i.i c.loop-i.words.items c.load-word.ensures.2 refl (omega arith) i.read);
      inside = i.inside;
      some = i.some;
      reliable = c.load-word.ensures.2.3;
    }

pub returns-clause-words : goal.returns-clause-words
returns-clause-words c =
    let i = c.loop-i.invariant in
    let some' = i.some in
    let e : c.loop-i.i ≡ c.load-len.result = omega arith in
    let m = c.loop-i.seat.seat.me in
    read_whole m.0 _ c.args.cell c.args.offset c.load-len.result c.loop-i.words.items
    (subst (λ (k : ℕ). HasRead m.0 c.args.cell c.args.offset c.load-len.result k c.loop-i.words.items) e i.read) i.reliable.spelled
    (i.grows.key ∙ c.requires.own.key)

pub returns-in_err-words-clause-learns : goal.returns-in_err-words-clause-learns
returns-in_err-words-clause-learns c =
    let v : View = c.args.seat.now.seat.me.0 in
    grows_learns v _ (grows_fetch 0 c.args.offset c.load-len.result c.args.seat.now.seat.me c.load-len.new.seat.me v c.load-len.ensures.2
    (grows_same v)) c.load-len.ensures.2.3

pub returns-clause-learns : goal.returns-clause-learns
returns-clause-learns c = grows_learns _ _ c.loop-i.invariant.grows c.loop-i.invariant.reliable
