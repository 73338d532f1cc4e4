-- By the checks, in their order: each refusal is one law of printing, and what passes them all is laid.
use Rattle.std.specs.Prelude.{Option, Some, None, is_some}
use Rattle.std.proofs.Common.{◌≡◌, List, ℕ, sym, ap, ◌∙◌}
use Rattle.wire.proofs.OneOutcome.{one_fault}
use Rattle.symbols.specs.declared.registering.Listing.{Listing}
use Rattle.book.specs.State.{view}
use Rattle.columns.specs.Columns.{rendered}
use Rattle.page.specs.Columns.{listing_of, columns_of}
use Rattle.page.specs.Printing.{laid, told}
use Rattle.page.proofs.Cases.{line_no_type, line_bad_field, line_no_symbol, line_bad_second, line_good}
use Rattle.page.proofs.printing.line.Goals as goal

pub returns-then-has_no_line : goal.returns-then-has_no_line
returns-then-has_no_line c = let a = c.args in
    sym (line_no_type (view a.book).market (told a.book a.m) a.m a.plain a.sequence a.second a.out.now (cc))

pub returns-in-Some : goal.returns-in-Some
returns-in-Some c = let a = c.args in
    let fault = one_fault _ _ c.bad_field.ensures in
    sym (line_bad_field (view a.book).market (told a.book a.m) a.m a.plain a.sequence a.second a.out.now (cc) c.in-Some.offset (cc))

pub returns-in_default-symbol : goal.returns-in_default-symbol
returns-in_default-symbol c = let a = c.args in
    let fault = one_fault _ _ c.bad_field.ensures in
    let met : told a.book a.m ≡ None = cc in
    sym (line_no_symbol (view a.book).market (told a.book a.m) a.m a.plain a.sequence a.second a.out.now (cc) (cc) (ap is_some met))

pub returns-then-second-gt-LAST_SECOND : goal.returns-then-second-gt-LAST_SECOND
returns-then-second-gt-LAST_SECOND c = let a = c.args in
    let fault = one_fault _ _ c.bad_field.ensures in
    let met : told a.book a.m ≡ Some c.in-Some-symbol.listing = cc in
    sym (line_bad_second (view a.book).market (told a.book a.m) a.m a.plain a.sequence a.second a.out.now (cc) (cc) (ap is_some met) c.if-second-gt-LAST_SECOND.true)

pub returns : goal.returns
returns c = let a = c.args in
    let fault = one_fault _ _ c.bad_field.ensures in
    let met : told a.book a.m ≡ Some c.in-Some-symbol.listing = cc in
    c.emit.ensures
    ∙ ap (λ (x : List ℕ). laid x a.out.now) (c.bytes.ensures.whole ∙ c.line-text.ensures ∙ ap (λ (l : Option Listing). rendered (columns_of (listing_of l) a.m a.plain a.sequence a.second)) (sym met))
    ∙ sym (line_good (view a.book).market (told a.book a.m) a.m a.plain a.sequence a.second a.out.now (cc) (cc) (ap is_some met) c.if-second-gt-LAST_SECOND.false)
