use Rattle.std.proofs.Common.{subst}
use Rattle.cj_ir.specs.declared.language.Program.{Program}
use Rattle.cj_profile.specs.Snapshots.{FitsFunction}
use Rattle.cj_profile.specs.Seats.{reads_of}
use Rattle.cj_notes.proofs.Looking.{looks_at}
use Rattle.cj_worker.proofs.making.look.Goals as goal

pub returns-clause-reads : goal.returns-clause-reads
returns-clause-reads c =
    let h = c.in_ok-snapshot.ensures in
    let s = c.in_ok-snapshot.snapshot in
    let fits = subst (λ (P : Program). FitsFunction P c.args.f s) c.requires.program h.fits in
    looks_at c.args.checked.now c.args.f c.args.level s (reads_of c.args.seat.now) (reads_of c.snapshot.new.seat) h.loads.0 fits h.reads h.loads.2 h.loads.1
