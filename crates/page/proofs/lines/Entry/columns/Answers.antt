-- An add and a cross have their own columns after the opening ones; any other type has none (`no_columns`).
use Rattle.std.proofs.Common.{sym, subst}
use Rattle.wire.specs.declared.Message.{Message}
use Rattle.columns.specs.Columns.{joined}
use Rattle.page.specs.Columns.{add_columns, cross_columns, columns_of}
use Rattle.columns.specs.Held.{HoldsText}
use Rattle.columns.proofs.Holding.{holds_nothing}
use Rattle.page.proofs.Columns.{opening_then, no_columns}
use Rattle.page.proofs.lines.Entry.columns.Goals as goal

pub returns-in-Add : goal.returns-in-Add
returns-in-Add c = let e = c.args.self in
    let f = c.in-Add in
    let own = add_columns e.listing.scale f.order f.price f.volume f.side e.decoded.plain in
    subst (λ (m : Message). HoldsText (joined (columns_of e.listing m e.decoded.plain e.sequence e.second)) c.add_columns.new.l) (sym c.in-Add.is)
    (opening_then 100 e.listing f.head e.sequence e.second own c.opened-l.ensures c.add_columns.ensures)

pub returns-in-Cross : goal.returns-in-Cross
returns-in-Cross c = let e = c.args.self in
    let f = c.in-Cross in
    let own = cross_columns e.listing.scale f.cross f.price f.volume f.class in
    subst (λ (m : Message). HoldsText (joined (columns_of e.listing m e.decoded.plain e.sequence e.second)) c.cross_columns.new.l) (sym c.in-Cross.is)
    (opening_then 111 e.listing f.head e.sequence e.second own c.opened-l-in-Cross.ensures c.cross_columns.ensures)

pub returns-in_default : goal.returns-in_default
returns-in_default c = let e = c.args.self in
    rw (no_columns e.listing e.decoded.message e.decoded.plain e.sequence e.second c.in_default.not-Add c.in_default.not-Cross) (holds_nothing c.blank.ensures)
