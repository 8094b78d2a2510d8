use Rattle.cj_publish.specs.Seats.{view_of}
use Rattle.cj_notes.proofs.Working.{no_room, at_last, too_late}
use Rattle.cj_worker.proofs.Doing.{noted}
use Rattle.cj_worker.proofs.putting.put.Goals as goal

pub returns-in-Full-clause-worked : goal.returns-in-Full-clause-worked
returns-in-Full-clause-worked c = λ P code made spells.
    let t = c.args.task in
    noted P _ c.full.result code _ _ c.full.ensures
    (no_room P t.f t.level t.snapshot code c.args.skipped made c.args.words.now spells (view_of c.args.seat.now) (view_of c.claim.new.seat)
    c.in-Full.next c.in-Full.need c.claim.ensures.learns c.requires.free (c.in-Full.ensures).claims)

pub returns-in-Published-clause-worked : goal.returns-in-Published-clause-worked
returns-in-Published-clause-worked c = λ P code made spells.
    let t = c.args.task in
    noted P _ c.published.result code _ _ c.published.ensures
    (at_last P t.f t.level t.snapshot code c.args.skipped made c.args.words.now spells (view_of c.args.seat.now) (view_of c.claim.new.seat)
    (view_of c.write_all.new.seat) (view_of c.publish.new.seat)
    c.in-Claimed.offset c.claim.ensures.learns c.publish.ensures.learns (c.in-Claimed.ensures).claims c.write_all.ensures.fills c.in-Published.offset
    (c.in-Published.ensures).publishes)

pub returns-in-Older-clause-worked : goal.returns-in-Older-clause-worked
returns-in-Older-clause-worked c = λ P code made spells.
    let t = c.args.task in
    noted P _ c.older.result code _ _ c.older.ensures
    (too_late P t.f t.level t.snapshot code c.args.skipped made c.args.words.now spells (view_of c.args.seat.now) (view_of c.claim.new.seat)
    (view_of c.write_all.new.seat) (view_of c.publish.new.seat)
    c.in-Claimed.offset c.claim.ensures.learns c.publish.ensures.learns (c.in-Claimed.ensures).claims c.write_all.ensures.fills c.in-Older.mine
    c.in-Older.found (c.in-Older.ensures).publishes)
