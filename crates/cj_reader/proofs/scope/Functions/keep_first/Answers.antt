use Rattle.std.proofs.Common.{◌≡◌, ℕ, List, false, ◌∙◌, Bor, is_some}
use Rattle.std.specs.Str.{bytes_eq}
use Rattle.cj_reader.specs.declared.scope.Callee.{Callee}
use Rattle.cj_reader.specs.Known.{function_in}
use Rattle.cj_reader.proofs.Listings.{added, absent_named}
use Rattle.cj_reader.proofs.scope.Functions.keep_first.Goals as goal

pub returns-clause-kept : goal.returns-clause-kept
returns-clause-kept c = λ n.
    let key : Bor (List ℕ) = record { ref_ptr = (0, 0); now = n } in
    let new : Callee = record { function = record { 0 = c.args.self.now.count }; params = c.args.params } in
    let none : is_some c.callee.result ≡ false = rw c.is_some.ensures at c.if-is_some.false in
    c.in_ok-insert.ensures.updates.0 key
    ∙ added (function_in c.args.self.now n) (bytes_eq c.args.name.now n) new
    (λ same. absent_named c.args.self.now c.args.name.now n c.callee.result c.callee.ensures none same)
