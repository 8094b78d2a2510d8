use Rattle.std.proofs.Common.{◌≡◌, ◌∙◌, ◌-◌, ◌≤◌, length, take, drop, ap, sym, arith}
use Rattle.std.proofs.lemmas.List.{length-take}
use Rattle.cj_io.proofs.Known.{piece-read}
use Rattle.cj_io.proofs.memory.MemSourceSource.read.Goals as goal

pub returns-clause-bytes : goal.returns-clause-bytes
returns-clause-bytes c =
    let n = c.min-count.result in
    let at = c.self.inside.at in
    let xs = c.self.inside.bytes.items in
    let deref : c.deref.result.now ≡ xs = c.deref.ensures.value in
    let mid : c.copy_from_slice.new.self ≡ take n (take (length xs - at) (drop at xs)) =
    rw deref at c.copy_from_slice.ensures.after in
    let within : n ≤ length (drop at xs) =
    let left : c.min.result ≤ length (take (length xs - at) (drop at xs)) = rw (← deref) (omega (arith, c.min.ensures)) in
    omega (arith, c.min-count.ensures, length-take (length xs - at) (drop at xs)) in
    let is : c.args.self.now.bytes ≡ drop at xs = ap (λ m. m.bytes) (sym c.self.view_is) in
    is ∙ piece-read xs c.copy_from_slice.new.self c.args.buf.now at n within mid
