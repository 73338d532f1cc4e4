-- Each deal changes the trades alone or the crosses alone, as the rules say.
use native.Mathlib.Omega.{arith}
use mathlib.Core.Path.{refl}
use Rattle.record.specs.State.{trade_number, trade_live, cross_number, cross_live, no_trade, kept_at}
use Rattle.record.specs.Rules.{deal_to, trade_of, cross_of}
use Rattle.record.specs.Deciding.{more, other}
use Rattle.record.proofs.Storing.{nothing_dealt, trades_dealt, crosses_dealt}
use Rattle.record.proofs.Ruling.{records, cancels, adds, corrects}
use Rattle.record.proofs.Record.deal.Goals as goal

pub returns-in-Nothing : goal.returns-in-Nothing
returns-in-Nothing c = rw c.in-Nothing.is (nothing_dealt _ _ c.if-k-ge-SYMBOLS.false)

pub returns-in-Records : goal.returns-in-Records
unfolding deal_to kept_at
returns-in-Records c = let x = trade_of c.in-Records.number c.in-Records.price c.in-Records.volume in
    rw c.in-Records.is (trades_dealt c.args.self.now c.args.k _ c.if-k-ge-SYMBOLS.false x (more trade_number trade_live x) _ _ _ refl (records _ _ _ _) _ (omega arith) c.keep.ensures)

pub returns-in-Cancels : goal.returns-in-Cancels
unfolding deal_to kept_at
returns-in-Cancels c = rw (c.in-Cancels.is) (trades_dealt c.args.self.now c.args.k _ c.if-k-ge-SYMBOLS.false no_trade (other trade_number trade_live no_trade c.in-Cancels.number) _ _ _ refl (λ e. cancels _ _) _ (omega arith) (rw c.empty-gone.ensures at c.replace.ensures))

pub returns-in-Crosses : goal.returns-in-Crosses
unfolding deal_to kept_at
returns-in-Crosses c = let x = cross_of c.in-Crosses.number c.in-Crosses.volume in
    rw c.in-Crosses.is (crosses_dealt c.args.self.now c.args.k _ c.if-k-ge-SYMBOLS.false x (more cross_number cross_live x) _ _ _ refl (adds _ _ _) _ (omega arith) (rw c.cross_of-c.ensures at c.keep-in-Crosses.ensures))

pub returns-in-Corrects : goal.returns-in-Corrects
unfolding deal_to kept_at
returns-in-Corrects c = let x = cross_of c.in-Corrects.number c.in-Corrects.volume in
    rw c.in-Corrects.is (crosses_dealt c.args.self.now c.args.k _ c.if-k-ge-SYMBOLS.false x (other cross_number cross_live x c.in-Corrects.number) _ _ _ refl (λ e. corrects _ _ _) _ (omega arith) (rw c.cross_of-c-in-Corrects.ensures at c.replace-in-Corrects.ensures))
