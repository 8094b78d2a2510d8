use Rattle.std.proofs.Common.{◌≡◌, ◌+◌, ◌<◌, ℕ, suc, List, [], ◌∷◌, ◌++◌, take, length, get_or, Some, sym, ap, ◌∙◌, arith}
use Rattle.std.proofs.Math.Seq.{take-suc}
use Rattle.cj_publish.specs.declared.view.View.{View}
use Rattle.cj_publish.specs.Views.{with_claim}
use Rattle.cj_publish.specs.Views.{filled}
use Rattle.cj_publish.proofs.seats.CodeTable.write_all.Goals as goal

one_more : (i : ℕ) (ws : List ℕ) → i < length ws → take i ws ++ get_or ws i 0 ∷ [] ≡ take (i + 1) ws
one_more i ws lt = sym (ap (λ (n : ℕ). take n ws) (let z : i + 1 ≡ suc i = omega arith in z) ∙ take-suc ws i 0 lt)

pub loop-i-preserved : goal.loop-i-preserved
loop-i-preserved c =
    let i = c.loop-i.i in
    let ws = c.args.words.now in
    let inv = c.loop-i.invariant in
    let w = c.write.ensures in
    let test = c.loop-i-test.true in record {
      own = w.own;
      same = record {
        table = w.same.table ∙ inv.same.table;
        first = w.same.first ∙ inv.same.first;
        splits = w.same.splits ∙ inv.same.splits;
        sole =
            w.same.sole ∙ inv.same.sole;
      };
      fills = λ d e.
          let h = inv.fills d e in
          w.writes (filled d (take i ws)) (ap (λ (v : View). v.claim) h) ∙ (λ j. with_claim (h j) (Some (filled d (one_more i ws (omega arith) j))));
    }
